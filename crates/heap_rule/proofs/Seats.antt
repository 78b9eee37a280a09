-- What a seat knows of a state at its step, for any client.
use Rattle.std.proofs.Common.{◌≡◌, ◌≢◌, ◌<◌, ℕ, Bool, List, length, Option, sym, ap, subst}
use Rattle.std.proofs.lemmas.List.{length-map}
use Rattle.cell_words.specs.Term.{Term}
use Rattle.core_machine.specs.declared.places.Held.{Held}
use Rattle.core_machine.specs.Own.{Own}
use Rattle.core_machine.specs.Places.{cell_at}
use Rattle.core_machine.specs.State.{State, field_of, target_of}
use Rattle.dlg_core.specs.Reachable.{Reachable}
use Rattle.heap_rule.specs.Asks.{known_of, target}
use Rattle.heap_rule.specs.Facts.{AllKnown, IsKnown}
use Rattle.heap_rule.specs.Knowledge.{FixedAreTold}
use Rattle.heap_rule.specs.Lore.{Lore, cells_in, cells_of}
use Rattle.heap_rule.specs.Steps.{Mine}
use Rattle.heap_rule.specs.declared.known.Known.{Known}
use Rattle.heap_rule.specs.declared.known.Known.TheVariants as knows
use Rattle.heap_rule.specs.declared.view.View.{View}
use Rattle.heap_rule.proofs.Lists.{all_at, reached_held}
use Rattle.heap_rule.proofs.Maps.{In}
use Rattle.heap_rule.proofs.Reading.{cell_there, has_place}

-- a box of the map besides the anchor, whose fixed fields are as they were told
pub record SeenBox (fixed : ℕ → Bool) (s : State) (l : Lore) (x : ℕ) (told : List (Option Term))
    : Type 0 where
  pub other : x ≢ 0
  pub in_is : In s l x
  pub told_is : FixedAreTold fixed told l.terms (field_of s x)

module _ {P : Type 0} {fixed : ℕ → Bool} (v : View P) (s : State) (l : Lore)
    (mine : Mine fixed v s l)
  where
    pub target_now : (place : ℕ) → target_of s v.number place ≡ target v place
    target_now place = ap (λ (o : Own). cell_at o.held place) mine.own

    -- what it knows of all places is so
    pub all_mine : AllKnown (IsKnown fixed s l v.number) (cells_in v.own.held) v.known
    all_mine =
        subst (λ (o : Own). AllKnown (IsKnown fixed s l v.number) (cells_in o.held) v.known)
        mine.own
        (subst (λ (ws : List Known). AllKnown (IsKnown fixed s l v.number) (cells_of s v.number)
        ws) mine.known (mine.shown.facts.known_all v.number))

    pub knows_place : (place : ℕ) → place < length v.own.held
        → IsKnown fixed s l v.number (target v place) (known_of v place)
    knows_place place lt =
        subst (λ (c : ℕ). IsKnown fixed s l v.number c (known_of v place))
        (cell_there v.own.held place)
        (all_at (IsKnown fixed s l v.number) (cells_in v.own.held) v.known place
        (subst (λ (n : ℕ). place < n) (sym (length-map v.own.held (λ (p : Held). p.cell))) lt) all_mine)

    pub reached_place : (place : ℕ) → place < length v.own.held → Reachable s (target v place)
    reached_place place lt =
        subst (λ (c : ℕ). Reachable s c) (target_now place)
        (reached_held s v.number (target_of s v.number place) mine.shown.consistent
        (has_place s v.number place
        (subst (λ (o : Own). place < length o.held) (sym mine.own) lt)))

    -- a box that it knows
    pub box_seen : (place : ℕ) (told : List (Option Term)) → place < length v.own.held
        → known_of v place ≡ knows.Boxed told → SeenBox fixed s l (target v place) told
    box_seen place told lt is =
        let known : IsKnown fixed s l v.number (target v place) (knows.Boxed told) =
        subst (λ (k : Known). IsKnown fixed s l v.number (target v place) k) is
        (knows_place place lt) in
        record {
          other = known.0;
          in_is = record { reached = reached_place place lt; box = known.1; old = known.2 };
          told_is = known.3;
        }
