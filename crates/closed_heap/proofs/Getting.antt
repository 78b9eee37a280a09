-- Events that get a cell: one gets one cell at most, and each is counted as a claim of its mutator.
use Rattle.std.proofs.Common.{◌≡◌, ◌<◌, ◌≤◌, ◌+◌, ◌*◌, ◌==◌, ◌∙◌}
use Rattle.std.proofs.Common.{ℕ, Bool, true, false, List, [], ◌∷◌, length, length-set}
use Rattle.std.proofs.Common.{replicate, set, inl, inr, refl, sym, ap, arith}
use Rattle.std.specs.List.{count_by, list_any}
use Rattle.std.proofs.lemmas.Bool.{cases_lt, eq-eqb}
use Rattle.std.proofs.lemmas.List.{get_or_past, length-replicate}
use Rattle.std.proofs.lemmas.List.Folds.{sum_by-replicate}
use Rattle.std.proofs.lemmas.List.Sums.{sum_by-cons}
use Rattle.cell_words.specs.declared.colours.Colour.{Colour}
use Rattle.cell_words.specs.declared.colours.Colour.TheVariants as colour
use Rattle.cell_words.specs.declared.presences.Presence.{Presence}
use Rattle.closed_heap.proofs.Counting.{below, below_either, below_none, below_one, one_if}
use Rattle.core_machine.specs.declared.events.Event.{Event}
use Rattle.core_machine.specs.declared.events.Event.TheVariants as event
use Rattle.core_machine.specs.declared.events.Found.{Found}
use Rattle.core_machine.specs.declared.events.Found.TheVariants as finds
use Rattle.core_machine.specs.declared.events.Taken.{Taken}
use Rattle.core_machine.specs.Next.{after, can, found_by}
use Rattle.core_machine.specs.Own.{Own, having_claimed, no_own}
use Rattle.core_machine.specs.Run.{Runs, last}
use Rattle.core_machine.specs.State.{State, colour_of, field_of, no_presence, opening_presence}
use Rattle.core_machine.specs.State.{own_of, presence_in, target_of}
use Rattle.core_machine.proofs.Conditions.{claim_needs}
use Rattle.dlg_core.specs.Sums.{GetsCell, claims_in, claims_of}
use Rattle.dlg_core.proofs.Sums.{claims_same, claims_set, read_claims}
use Rattle.heap_rule.specs.Shape.{Shape, start}

-- Events that get a cell.

abbrev pub gets_by : Found → Bool
gets_by (finds.Colour colour.Blue) = true
gets_by _ = false

abbrev pub gets_in : Event → Found → Bool
gets_in (event.Claim i c) found = gets_by found
gets_in _ found = false

-- the event claimed a cell that was free
abbrev pub gets : Taken → Bool
gets t = gets_in t.event t.found

abbrev pub gets_this_by : ℕ → ℕ → Found → Bool
gets_this_by c d (finds.Colour colour.Blue) = d == c
gets_this_by c d _ = false

abbrev pub gets_this_in : ℕ → Event → Found → Bool
gets_this_in c (event.Claim i d) found = gets_this_by c d found
gets_this_in c _ found = false

-- and it was this cell
abbrev pub gets_this : ℕ → Taken → Bool
gets_this c t = gets_this_in c t.event t.found

pub gets_cell : (c : ℕ) (t : Taken) → GetsCell c t → gets_this c t ≡ true
gets_cell c t is =
    ap (λ (e : Event). gets_this_in c e t.found) is.claims
    ∙ ap (λ (found : Found). gets_this_in c (event.Claim is.claimer c) found) is.found
    ∙ eq-eqb c c refl

-- one event gets one cell at most
gets_one : (n : ℕ) (e : Event) (found : Found)
    → below (λ c. gets_this_in c e found) n ≤ one_if (gets_in e found)
gets_one n (event.Claim i d) (finds.Colour colour.Blue) = below_one d n
gets_one n e found = none n
  where
    none : (n : ℕ) → below (λ c. false) n ≤ one_if (gets_in e found)
    none n = let zero_is = below_none (λ c. false) n (λ c lt. refl) in omega (arith, zero_is)

-- so as many cells at most were got as events got one
pub got_few : (n : ℕ) (ts : List Taken)
    → below (λ c. list_any (gets_this c) ts) n ≤ count_by gets ts
got_few n [] = let none = below_none (λ c. false) n (λ c lt. refl) in omega (arith, none)
got_few n (t ∷ ts) =
    let here = gets_one n t.event t.found in
    let rest = got_few n ts in
    let both = below_either (λ c. list_any (gets_this c) (t ∷ ts)) (λ c. gets_this c t)
    (λ c. list_any (gets_this c) ts) n (λ c. refl) in
    let counted = sum_by-cons (λ (u : Taken). one_if (gets u)) t ts in
    omega (arith, here, rest, both, counted)

-- The claims that are counted.

-- there is an own part for each presence
abbrev pub IsPaired : State → Type 0
IsPaired s = length s.presences ≡ length s.owns

-- who is in is one of the mutators
inside_listed : (presences : List Presence) (i : ℕ) → (presence_in presences i).inside ≡ true
    → i < length presences
inside_listed presences i inside = elim (cases_lt i (length presences)) [
  | inl lt ↦ lt
  | inr past ↦ absurd (
      let out : (presence_in presences i).inside ≡ false =
      ap (λ (p : Presence). p.inside) (get_or_past presences i no_presence past) in
      let clash : false ≡ true = sym out ∙ inside in cc)
]

own_paired : (s : State) (i : ℕ) (own : Own) → IsPaired s
    → length s.presences ≡ length (set s.owns i own)
own_paired s i own is = is ∙ sym (length-set s.owns i own)

presence_paired : (s : State) (i : ℕ) (p : Presence) → IsPaired s
    → length (set s.presences i p) ≡ length s.owns
presence_paired s i p is = length-set s.presences i p ∙ is

both_paired : (s : State) (i : ℕ) (own : Own) (p : Presence) → IsPaired s
    → length (set s.presences i p) ≡ length (set s.owns i own)
both_paired s i own p is = length-set s.presences i p ∙ own_paired s i own is

paired_after : (s : State) (e : Event) → IsPaired s → IsPaired (after s e)
paired_after s (event.Begin i) is = both_paired s i _ _ is
paired_after s (event.Look i) is = own_paired s i _ is
paired_after s (event.Read i place f) is = own_paired s i _ is
paired_after s (event.Fetch i place f) is = own_paired s i _ is
paired_after s (event.Mark i place) is = own_paired s i _ is
paired_after s (event.Write i place f old new) is = own_paired s i _ is
paired_after s (event.Store i new) is = own_paired s i _ is
paired_after s (event.Claim i c) is = own_paired s i _ is
paired_after s (event.Answer i) is = both_paired s i _ _ is
paired_after s (event.Keep i count from copies) is = own_paired s i _ is
paired_after s (event.End i) is = both_paired s i _ _ is
paired_after s (event.Over i) is = presence_paired s i _ is
paired_after s (event.AnswerOut i over) is = presence_paired s i _ is
paired_after s e is = is

-- an own part changes, and not its claims
same_claims : (s : State) (i : ℕ) (own : Own) → own.claims ≡ (own_of s i).claims
    → claims_in (set s.owns i own) ≡ claims_of s + 0
same_claims s i own is = let same = claims_same s.owns i own is in omega (arith, same)

claims_told : (s : State) (i c : ℕ) (found : Colour) → i < length s.owns
    → colour_of s c ≡ found
    → claims_of (after s (event.Claim i c))
    ≡ claims_of s + one_if (gets_by (finds.Colour found))
claims_told s i c colour.Blue lt is =
    let same : claims_of (after s (event.Claim i c))
    ≡ claims_in (set s.owns i (having_claimed (own_of s i) c colour.Blue)) =
    ap (λ (x : Colour). claims_in (set s.owns i (having_claimed (own_of s i) c x))) is in
    let more = claims_set s.owns i (having_claimed (own_of s i) c colour.Blue) lt in
    omega (arith, same, more)
claims_told s i c colour.White lt is =
    ap (λ (x : Colour). claims_in (set s.owns i (having_claimed (own_of s i) c x))) is
    ∙ same_claims s i (own_of s i) refl
claims_told s i c colour.Gray lt is =
    ap (λ (x : Colour). claims_in (set s.owns i (having_claimed (own_of s i) c x))) is
    ∙ same_claims s i (own_of s i) refl
claims_told s i c colour.Black lt is =
    ap (λ (x : Colour). claims_in (set s.owns i (having_claimed (own_of s i) c x))) is
    ∙ same_claims s i (own_of s i) refl

claims_after : (s : State) (e : Event) → IsPaired s → can s e ≡ true
    → claims_of (after s e) ≡ claims_of s + one_if (gets_in e (found_by s e))
claims_after s (event.Begin i) paired h = same_claims s i _ refl
claims_after s (event.Look i) paired h = same_claims s i _ refl
claims_after s (event.Read i place f) paired h =
    same_claims s i _ (read_claims (own_of s i) (field_of s (target_of s i place) f))
claims_after s (event.Fetch i place f) paired h =
    same_claims s i _ (read_claims (own_of s i) (field_of s (target_of s i place) f))
claims_after s (event.Mark i place) paired h = same_claims s i _ refl
claims_after s (event.Write i place f old new) paired h = same_claims s i _ refl
claims_after s (event.Store i new) paired h = same_claims s i _ refl
claims_after s (event.Claim i c) paired h =
    claims_told s i c (colour_of s c)
    (let there = inside_listed s.presences i (claim_needs s i c h).inside in
    omega (arith, there, paired)) refl
claims_after s (event.Answer i) paired h = same_claims s i _ refl
claims_after s (event.Keep i count from copies) paired h = same_claims s i _ refl
claims_after s (event.End i) paired h = same_claims s i _ refl
claims_after s e paired h = omega arith

pub claims_along : (s : State) (ts : List Taken) → IsPaired s → Runs s ts
    → claims_of (last s ts) ≡ claims_of s + count_by gets ts
claims_along s [] paired runs = omega arith
claims_along s (t ∷ ts) paired runs =
    let here = claims_after s t.event paired runs.0 in
    let rest = claims_along (after s t.event) ts (paired_after s t.event paired) runs.2 in
    let counted = sum_by-cons (λ (u : Taken). one_if (gets u)) t ts in
    let found : one_if (gets_in t.event t.found) ≡ one_if (gets_in t.event (found_by s t.event)) =
    ap (λ (x : Found). one_if (gets_in t.event x)) runs.1 in
    omega (arith, here, rest, counted, found)

-- At the start nothing is claimed.

pub start_paired : (h : Shape) (rooms : List ℕ) → IsPaired (start h rooms)
start_paired h rooms =
    length-replicate (length rooms) opening_presence
    ∙ sym (length-replicate (length rooms) no_own)

pub start_claims : (h : Shape) (rooms : List ℕ) → claims_of (start h rooms) ≡ 0
start_claims h rooms =
    let none : claims_in (replicate (length rooms) no_own) ≡ length rooms * 0 =
    sum_by-replicate (λ (o : Own). o.claims) (length rooms) no_own in
    omega (arith, none)
