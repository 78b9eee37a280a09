-- What the collector knows of mutators that are over stays so, whoever makes an event.
use Rattle.std.proofs.Common.{◌≡◌, ◌<◌, ℕ, Bool, true, false, List, length}
use Rattle.std.proofs.Common.{Option, Some, None, refl, sym, ◌∙◌, ap, subst, inl, inr, arith}
use Rattle.std.proofs.Common.{slice_index_or}
use Rattle.std.proofs.lemmas.Bool.{cases_eq, cases_lt}
use Rattle.std.proofs.lemmas.List.{length-set, get_or-set_other, get_or_past}
use Rattle.std.specs.List.{list_all}
use Rattle.cell_words.specs.Presence.{is_valid_presence}
use Rattle.cell_words.specs.declared.presences.Presence.{Presence}
use Rattle.core_machine.specs.declared.events.Event.{Event}
use Rattle.core_machine.specs.declared.events.Event.TheVariants as event
use Rattle.core_machine.specs.declared.events.Found.{Found}
use Rattle.core_machine.specs.declared.events.Found.TheVariants as finds
use Rattle.core_machine.specs.InRange.{HasWords}
use Rattle.core_machine.specs.Next.{after, can, found_by, maker}
use Rattle.core_machine.specs.State.{State, no_presence, presence_of}
use Rattle.dlg_core.specs.Collects.{AreOver, IsOver}
use Rattle.dlg_core.proofs.Collects.Quiet.{over_after, over_idle}
use Rattle.dlg_core.proofs.Starts.{one_of_list}
use Rattle.heap_rule.specs.Rule.{IsAlone, alone_after, alone_met, alone_on}
use Rattle.heap_rule.specs.Rule.{over_by, over_found, over_met}

-- Who is found over.

found_over : (p : Presence) → is_valid_presence p ≡ true → p.over ≡ true → p.inside ≡ false
found_over p valid over = by_inside p.inside refl
  where
    by_inside : (b : Bool) → p.inside ≡ b → p.inside ≡ false
    by_inside false is = is
    by_inside true is = let no = rw (is, over) at valid in absurd cc

-- whoever is over is out, in a state that has words
pub presence_over : (s : State) → HasWords s → (i : ℕ) → (presence_of s i).over ≡ true → IsOver s i
presence_over s words i over = (found_over (presence_of s i) (words.never_both i) over, over)

over_met_so : (over : List Bool) (i : ℕ) (b : Bool) (s : State) → (b ≡ true → IsOver s i)
    → ((j : ℕ) → slice_index_or over j false ≡ true → IsOver s j)
    → (j : ℕ) → slice_index_or (over_met over i b) j false ≡ true → IsOver s j
over_met_so over i false s new old j h = old j h
over_met_so over i true s new old j h = elim (cases_eq j i) [
  | inl here ↦ subst (IsOver s) (sym here) (new refl)
  | inr other ↦ old j (sym (get_or-set_other over i j true false other) ∙ h)
]

-- who the collector's event finds over is over after it
pub over_found_so : (s : State) (e : Event) (over : List Bool) → HasWords s → maker e ≡ None
    → ((j : ℕ) → slice_index_or over j false ≡ true → IsOver s j)
    → (j : ℕ) → slice_index_or (over_found over e (found_by s e)) j false ≡ true
    → IsOver (after s e) j
over_found_so s e over words made old j h =
    over_after s e j (λ is. let no = sym made ∙ is in absurd cc) (before e h)
  where
    before : (e : Event) → slice_index_or (over_found over e (found_by s e)) j false ≡ true
        → IsOver s j
    before (event.Poll i) is = over_met_so over i (presence_of s i).over s
        (presence_over s words i) old j is
    before (event.AnswerOut i flag) is = over_met_so over i (presence_of s i).over s
        (presence_over s words i) old j is
    before _ is = old j is

over_met_long : (over : List Bool) (i : ℕ) (b : Bool) → length (over_met over i b) ≡ length over
over_met_long over i true = length-set over i true
over_met_long over i false = refl

over_by_long : (over : List Bool) (i : ℕ) (found : Found)
    → length (over_by over i found) ≡ length over
over_by_long over i (finds.Presence p) = over_met_long over i p.over
over_by_long over i _ = refl

pub over_found_long : (over : List Bool) (e : Event) (found : Found)
    → length (over_found over e found) ≡ length over
over_found_long over (event.Poll i) found = over_by_long over i found
over_found_long over (event.AnswerOut i flag) found = over_by_long over i found
over_found_long over _ found = refl

-- Where all were found over.

all_there : (over : List Bool) → list_all (λ found. found) over ≡ true → (i : ℕ) → i < length over
    → slice_index_or over i false ≡ true
all_there over all i lt = one_of_list (λ found. found) over i false all lt

pub all_over : (s : State) (over : List Bool) → length over ≡ s.mutators
    → ((j : ℕ) → slice_index_or over j false ≡ true → IsOver s j)
    → length s.presences ≡ s.mutators
    → list_all (λ found. found) over ≡ true → AreOver s
all_over s over fit so many all i = elim (cases_lt i (length over)) [
  | inl lt ↦ so i (all_there over all i lt)
  | inr past ↦
      let none : presence_of s i ≡ no_presence = get_or_past s.presences i no_presence
      (omega (arith, past, fit, many)) in
      (ap (λ (p : Presence). p.inside) none, ap (λ (p : Presence). p.over) none)
]

alone_same : (s t : State) (e : Event) → maker e ≡ None → (s ≡ t) × AreOver t
    → (after s e ≡ after t e) × AreOver (after t e)
alone_same s t e made is = (
  ap (λ (x : State). after x e) is.0,
  λ i. over_after t e i (λ by. let no = sym made ∙ by in absurd cc) (is.1 i),
)

alone_on_so : (alone : Option State) (s : State) (e : Event) → maker e ≡ None → IsAlone alone s
    → IsAlone (alone_on alone e) (after s e)
alone_on_so None s e made is = tt
alone_on_so (Some t) s e made is = alone_same t s e made is

alone_met_so : (alone : Option State) (all : Bool) (s : State) (e : Event) → maker e ≡ None
    → (all ≡ true → AreOver (after s e)) → IsAlone alone s
    → IsAlone (alone_met alone all e (after s e)) (after s e)
alone_met_so None false s e made new is = tt
alone_met_so None true s e made new is = (refl, new refl)
alone_met_so (Some t) all s e made new is = alone_same t s e made is

-- an event of the collector
pub alone_after_so : (alone : Option State) (over : List Bool) (s : State) (e : Event)
    → maker e ≡ None
    → (list_all (λ found. found) over ≡ true → AreOver (after s e)) → IsAlone alone s
    → IsAlone (alone_after alone over e (after s e)) (after s e)
alone_after_so alone over s (event.Poll i) made new is = alone_met_so alone _ s _ made new is
alone_after_so alone over s (event.AnswerOut i flag) made new is =
    alone_met_so alone _ s _ made new is
alone_after_so alone over s e made new is = alone_on_so alone s e made is

-- an event of a mutator: there is none where all are over
pub alone_else : (alone : Option State) (s : State) (e : Event) (i : ℕ) → maker e ≡ Some i
    → can s e ≡ true → IsAlone alone s → IsAlone alone (after s e)
alone_else None s e i made happens is = tt
alone_else (Some t) s e i made happens is = absurd (over_idle s e i (is.1 i) happens made)

pub over_else : (s : State) (e : Event) (over : List Bool) → can s e ≡ true
    → ((j : ℕ) → slice_index_or over j false ≡ true → IsOver s j)
    → (j : ℕ) → slice_index_or over j false ≡ true → IsOver (after s e) j
over_else s e over happens so j is = over_after s e j (over_idle s e j (so j is) happens) (so j is)

-- What an event finds where the state is known.
pub alone_found : (alone : Option State) (s t : State) (e : Event) → IsAlone alone s
    → alone ≡ Some t → found_by s e ≡ found_by t e
alone_found None s t e is known = absurd cc
alone_found (Some u) s t e is known =
    let same : u ≡ t = cc in ap (λ (x : State). found_by x e) (sym is.0 ∙ same)
