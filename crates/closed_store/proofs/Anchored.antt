-- What the anchor leads to is reachable; and where nobody is in, a reachable box is one of the map.
use Rattle.std.proofs.Common.{◌≡◌, ◌∙◌, ℕ, Bool, true, false, List, [], Option, Some}
use Rattle.std.proofs.Common.{None, refl, sym, ap, arith}
use Rattle.std.proofs.lemmas.List.{get_or_past}
use Rattle.cell_words.specs.declared.fields.Field.TheVariants as field
use Rattle.cell_words.specs.declared.presences.Presence.{Presence}
use Rattle.core_machine.specs.State.{State, field_of, held_of, no_presence, presence_in}
use Rattle.core_machine.specs.Words.{is_box_kind}
use Rattle.core_machine.specs.declared.places.Held.{Held}
use Rattle.dlg_core.specs.Collects.{AreOut, IsFromAnchor}
use Rattle.dlg_core.specs.Consistent.{IsConsistent}
use Rattle.dlg_core.specs.Reachable.{Reachable, anchor, held, named}
use Rattle.heap_rule.specs.Facts.{Facts}
use Rattle.heap_rule.specs.Lore.{Lore, cells_in, has}
use Rattle.heap_rule.proofs.Maps.{In}

-- no mutator is in where there is none
nobody : (i : ℕ) → (presence_in [] i).inside ≡ true → ⊥
nobody i inside =
    let out : (presence_in [] i).inside ≡ false =
    ap (λ (p : Presence). p.inside) (get_or_past [] i no_presence (omega arith)) in
    cc

pub from_anchor : (s : State) (c : ℕ) → IsFromAnchor s c → Reachable s c
from_anchor s c (anchor is) = anchor is
from_anchor s c (held i inside there) = absurd (nobody i inside)
from_anchor s d (named {c} f from e) = named f (from_anchor s c from) e

module _ (fixed : ℕ → Bool) (s : State) (l : Lore) (consistent : IsConsistent s)
    (facts : Facts fixed s l) (out : AreOut s) where
  -- nothing is fresh, since nobody holds a cell
  old_is : (x : ℕ) (fresh : Option ℕ) → l.fresh x ≡ fresh → fresh ≡ None
  old_is x None is = refl
  old_is x (Some i) is =
      let none : held_of s i ≡ [] = (consistent.mutators.out i (out i)).0 in
      let no : false ≡ true =
      sym (ap (λ (places : List Held). has (cells_in places) x) none)
      ∙ facts.freshed.held x i is in
      absurd cc

  pub box_in : (x : ℕ) → Reachable s x → field_of s x 5 ≡ field.Num 2 → In s l x
  box_in x reached kind = record {
    reached = reached;
    box = ap is_box_kind kind;
    old = old_is x (l.fresh x) refl;
  }
