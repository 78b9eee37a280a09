-- Which boxes a map has, and when one map is smaller than another.
use Rattle.std.proofs.Common.{◌≡◌, ◌&&◌, ℕ, Bool, true, false, Option, Some, None, is_none}
use Rattle.std.proofs.Common.{refl, sym, ◌∙◌, ap}
use Rattle.std.proofs.lemmas.Bool.{and_parts, and_from}
use Rattle.cell_words.specs.declared.fields.Field.{Field}
use Rattle.cell_words.specs.declared.fields.Field.TheVariants as field
use Rattle.core_machine.specs.State.{State, field_of}
use Rattle.core_machine.specs.Words.{is_box_kind}
use Rattle.dlg_core.specs.Consistent.{IsConsistent}
use Rattle.dlg_core.specs.Reachable.{Reachable, anchor, named, reach}
use Rattle.dlg_core.proofs.Computes.{reach-complete, reach-sound}
use Rattle.heap_rule.specs.Boxes.{Map, Payload, Smaller, boxes_of, is_shown, payload_of}
use Rattle.heap_rule.specs.Boxes.{where_shown}
use Rattle.heap_rule.specs.Facts.{Facts}
use Rattle.heap_rule.specs.Lore.{Entry, Named, Lore, Terms, entry_of, named_or}
use Rattle.heap_rule.proofs.Carried.{SameAt}

-- the map has the cell
pub record In (s : State) (l : Lore) (x : ℕ) : Type 0 where
  pub reached : Reachable s x
  pub box : is_box_kind (field_of s x 5) ≡ true
  pub old : l.fresh x ≡ None

none_is : {A : Type 0} (o : Option A) → is_none o ≡ true → o ≡ None
none_is None h = refl
none_is (Some a) h = absurd cc

pub in_map : (s : State) (l : Lore) (x : ℕ) → In s l x → boxes_of s l x ≡ Some (payload_of s l x)
in_map s l x is =
    let shown : is_shown s l x ≡ true =
    and_from (reach s x) (is_box_kind (field_of s x 5) && is_none (l.fresh x))
    (reach-complete s.rows s.presences s.owns x is.reached)
    (and_from (is_box_kind (field_of s x 5)) (is_none (l.fresh x)) is.box (ap is_none is.old)) in
    ap (λ (b : Bool). where_shown b (payload_of s l x)) shown

shown_some : (b : Bool) (p q : Payload) → where_shown b p ≡ Some q → b ≡ true
shown_some true p q h = refl
shown_some false p q h = absurd cc

pub of_map : (s : State) (l : Lore) (x : ℕ) (q : Payload) → boxes_of s l x ≡ Some q → In s l x
of_map s l x q h =
    let shown = and_parts (reach s x) (is_box_kind (field_of s x 5) && is_none (l.fresh x))
    (shown_some (is_shown s l x) (payload_of s l x) q h) in
    let rest = and_parts (is_box_kind (field_of s x 5)) (is_none (l.fresh x)) shown.1 in
    record {
      reached = reach-sound s.rows s.presences s.owns x shown.0;
      box = rest.0;
      old = none_is (l.fresh x) rest.1;
    }

-- a field that stands for a cell names it
pub entry_names : (terms : Terms) (value : Field) (y : ℕ) → entry_of terms value ≡ Named y
    → value ≡ field.Cell y
entry_names terms field.Null y h = absurd cc
entry_names terms (field.Num n) y h = absurd cc
entry_names terms (field.Cell c) y h = ap field.Cell (named_is c (terms c) y h)
  where
    named_is : (c : ℕ) (term : Option _) (y : ℕ) → named_or c term ≡ Named y → c ≡ y
    named_is c None y h = cc
    named_is c (Some t) y h = absurd cc

-- an entry of a payload that there is
abbrev entry_in : Option Payload → ℕ → Entry
entry_in None f = Named 0
entry_in (Some p) f = p f

-- A map is smaller than an older one where each of its boxes is one of those, unchanged, and each
-- older box that is still reachable is one of its own.
pub smaller : (old : Map) (t : State) (m : Lore) → In t m 0
    → ((x : ℕ) → In t m x → old x ≡ Some (payload_of t m x))
    → ((y : ℕ) (q : Payload) → Reachable t y → old y ≡ Some q → In t m y)
    → Smaller old (boxes_of t m)
smaller old t m root within still =
    let is : (x : ℕ) (p : Payload) → boxes_of t m x ≡ Some p → old x ≡ Some p
    = (λ x p h. let there = of_map t m x p h in within x there ∙ sym (in_map t m x there) ∙ h) in
    record {
      anchor = in_map t m 0 root ∙ sym (within 0 root);
      within = is;
      closed = λ x y f p q h lt names there.
          let here = of_map t m x p h in
          let same : Some p ≡ Some (payload_of t m x) = sym h ∙ in_map t m x here in
          let entry : payload_of t m x f
          ≡ Named y = ap (λ (o : Option Payload). entry_in o f) (sym same) ∙ names in
          let reached : Reachable t y = named f here.reached
          (entry_names m.terms (field_of t x f) y entry) in
          let new = still y q reached there in
          in_map t m y new ∙ sym (within y new) ∙ there;
    }

-- and that is so where nothing changes of any cell that is still reachable
pub anchor_in : (fixed : ℕ → Bool) (t : State) (m : Lore) → IsConsistent t → Facts fixed t m
    → In t m 0
anchor_in fixed t m k
    facts = record { reached = anchor refl; box = k.cells.anchor_box; old = facts.freshed.anchor }

pub same_payload : (s t : State) (l m : Lore) (x : ℕ) → SameAt s t l m x
    → payload_of t m x ≡ payload_of s l x
same_payload s t l m x same = λ j f. (ap (entry_of m.terms) (same.rows f) ∙ same.entries f) j

pub same_in : (s t : State) (l m : Lore) (x : ℕ) → SameAt s t l m x → In t m x → In s l x
same_in s t l m x same is = record {
  reached = same.reached;
  box = ap is_box_kind (sym (same.rows 5)) ∙ is.box;
  old = sym same.fresh ∙ is.old;
}

pub in_same : (s t : State) (l m : Lore) (x : ℕ) → SameAt s t l m x → Reachable t x → In s l x
    → In t m x
in_same s t l m x same r is = record {
  reached = r;
  box = ap is_box_kind (same.rows 5) ∙ is.box;
  old = same.fresh ∙ is.old;
}

-- a map of which all but a cell stays, that is in neither
pub same_but_smaller : (s t : State) (l m : Lore) (but : ℕ → Bool) → In t m 0
    → ((x : ℕ) → Reachable t x → but x ≡ false → SameAt s t l m x)
    → ((x : ℕ) → but x ≡ true → In t m x → ⊥) → ((x : ℕ) → but x ≡ true → In s l x → ⊥)
    → Smaller (boxes_of s l) (boxes_of t m)
same_but_smaller s t l m but root same not_new not_old = smaller (boxes_of s l) t m root
    (λ x is. by_but x is (but x) refl)
    (λ y q r h. of_but y r (of_map s l y q h) (but y) refl)
  where
    by_but : (x : ℕ) → In t m x → (b : Bool) → but x ≡ b → boxes_of s l x ≡ Some (payload_of t m x)
    by_but x is true b = absurd (not_new x b is)
    by_but x is false b =
        let there = same x is.reached b in
        in_map s l x (same_in s t l m x there is) ∙ ap Some (sym (same_payload s t l m x there))

    of_but : (y : ℕ) → Reachable t y → In s l y → (b : Bool) → but y ≡ b → In t m y
    of_but y r is true b = absurd (not_old y b is)
    of_but y r is false b = in_same s t l m y (same y r b) r is
