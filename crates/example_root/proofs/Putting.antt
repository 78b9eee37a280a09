-- The writes of the box: the rule holds with the pass that is picked, and what they leave.
use Rattle.std.proofs.Common.{◌≡◌, ◌<◌, ℕ, Bool, true}
use Rattle.std.proofs.Common.{false, List, Option, Some, None, length, slice_set, inl, inr}
use Rattle.std.proofs.Common.{refl, sym, ◌∙◌, ap, subst, arith}
use mathlib.Core.Option.{some}
use lib.ListN.{get_elem?}
use Rattle.atomic_table.proofs.Lists.{at_set, set_again}
use Rattle.cell_words.specs.declared.fields.Field.{Field}
use Rattle.cell_words.specs.declared.fields.Field.TheVariants as field
use Rattle.core_machine.specs.State.{State, field_of, target_of}
use Rattle.core_machine.specs.Words.{same_field}
use Rattle.core_machine.specs.declared.events.Event.TheVariants as event
use Rattle.core_machine.specs.declared.events.Found.TheVariants as finds
use Rattle.heap_rule.specs.Asks.{IsBox, is_sealed, known_of, target}
use Rattle.heap_rule.specs.Boxes.{Map, boxes_of, revealing, written_if, written_map}
use Rattle.heap_rule.specs.Facts.{IsKnown}
use Rattle.heap_rule.specs.Lore.{Entry, Lore, Plain, entry_of, known_at, named_or, put}
use Rattle.heap_rule.specs.NoRule.{no_field_is_fixed}
use Rattle.heap_rule.specs.Steps.{Mine, Picks}
use Rattle.heap_rule.specs.declared.known.Known.{Known}
use Rattle.heap_rule.specs.declared.known.Known.TheVariants as knows
use Rattle.heap_rule.specs.declared.view.View.{View}
use Rattle.heap_rule.proofs.Entries.{written_else, written_here}
use Rattle.heap_rule.proofs.Seats.{knows_place, target_now}
use Rattle.mutator_events.specs.declared.values.Value.{Value}
use Rattle.mutator_events.specs.declared.values.Value.TheVariants as values
use Rattle.mutator_events.specs.Values.{field_at}
use Rattle.mutator_seat.specs.Bound.{Bound}
use Rattle.mutator_seat.specs.Stretches.{Kept as KeptAll, SamePlaces}
use Rattle.mutator_seat.specs.Writes.{MayUpdate, PicksUpdate, Updated, write_of}
use Rattle.mutator_seat.proofs.Writes.{cell_same, field_same, many_same}
use Rattle.promotion.proofs.Filling.{reveals_nothing}
use Rattle.cell_making.proofs.Naming.{sealed_value}
use Rattle.example_root.specs.Holding.{Has, HoldsRecord}
use Rattle.example_root.specs.Rule.{HasKept, keeping_if, kept_term, number_of, number_record}
use Rattle.example_root.specs.Rule.{putting}
use Rattle.example_root.specs.declared.kept.Kept.{Kept}
use Rattle.example_root.proofs.Finding.{record_there}
use Rattle.example_root.proofs.Words.{none_word}

-- the first of the passes becomes this one
first_set : (passes : List Kept) (i : ℕ) (q pass : Kept) → i ≡ 0
    → get_elem? (slice_set passes i q) 0 ≡ some pass → q ≡ pass
first_set passes i q pass is at = elim (at_set passes i 0 q pass at) [
  | inl here ↦ here.1
  | inr else_where ↦ absurd (else_where.0 (sym is))
]

-- The rule, where the box gets another entry.
put_in : (map : Map) (passes : List Kept) → HasKept map passes → (i : ℕ) (number : Option ℕ)
    (e : Entry) → i ≡ 0 → e ≡ Plain (kept_term number)
    → HasKept (written_map map 1 0 e) (slice_set passes i record { number = number })
put_in map passes h i number e is entry = record {
  anchor = h.anchor;
  anchor_is = written_else map 1 0 e h.box h.box_is 0 (λ same. absurd cc) ∙ h.anchor_is;
  names = h.names;
  box = put h.box 0 e;
  box_is = written_here map 1 0 e h.box h.box_is;
  kept = λ pass at. entry
      ∙ ap (λ (p : Kept). Plain (kept_term p.number))
      (first_set passes i record { number = number } pass is at);
}

module _ (v : View Kept) (s : State) (l : Lore) (passes : List Kept)
    (h : HasKept (boxes_of s l) passes) (at : get_elem? passes v.number ≡ some v.pass)
    (first : v.number ≡ 0) (number : Option ℕ) (old new : Field)
    (entry : entry_of l.terms new ≡ Plain (kept_term number))
    (reveals : boxes_of s (revealing l new) ≡ boxes_of s l) where
  abbrev Goal : Bool → ℕ → Type 0
  Goal made x = HasKept (written_if made s l x 0 new)
      (slice_set passes v.number (keeping_if made number v.pass))

  by_made : (made : Bool) → Goal made 1
  by_made true =
      subst (λ (m : Map). HasKept (written_map m 1 0 (entry_of l.terms new))
      (slice_set passes v.number record { number = number })) (sym reveals)
      (put_in (boxes_of s l) passes h v.number number (entry_of l.terms new) first entry)
  by_made false = subst (λ (ps : List Kept). HasKept (boxes_of s l) ps)
      (sym (set_again passes v.number v.pass at)) h

  made_or_not : (x : ℕ) → x ≡ 1 → Goal (same_field (field_of s x 0) old) x
  made_or_not x is =
      subst (λ (y : ℕ). Goal (same_field (field_of s y 0) old) y) (sym is)
      (by_made (same_field (field_of s 1 0) old))

-- The value that is put in stands for this number, and reveals no box.
Stands : View Kept → Option ℕ → Field → Type 0
Stands v number new = (s : State) (l : Lore) → Mine no_field_is_fixed v s l
    → (entry_of l.terms new ≡ Plain (kept_term number))
    × (boxes_of s (revealing l new) ≡ boxes_of s l)

put_picks : (v : View Kept) (number : Option ℕ) (old new : Field) → v.number ≡ 0
    → target v 1 ≡ 1 → Stands v number new
    → Picks HasKept no_field_is_fixed (putting old number) v (event.Write v.number 1 0 old new)
unfolding Stands
put_picks v number old new first box stands s l passes mine happens proper at h =
    let so = stands s l mine in
    made_or_not v s l passes h at first number old new so.0 so.1 (target_of s v.number 1)
    (target_now v s l mine 1 ∙ box)

null_stands : (v : View Kept) → Stands v None field.Null
unfolding Stands
null_stands v s l mine = (refl, refl)

record_stands : (v : View Kept) (n : ℕ) → 2 < length v.own.held
    → known_of v 2 ≡ knows.Record (number_record n)
    → Stands v (Some n) (field_at v.own.held (values.Held 2))
unfolding Stands
record_stands v n there known s l mine =
    let d = target v 2 in
    let is : IsKnown no_field_is_fixed s l v.number d (knows.Record (number_record n)) =
    subst (λ (k : Known). IsKnown no_field_is_fixed s l v.number d k) known
    (knows_place v s l mine 2 there) in
    (ap (named_or d) is.1, reveals_nothing s l d is.0)

-- What the write needs.

module _ (n : ℕ) (a : Bound Kept) (at : HoldsRecord n a) where
  is_box : IsBox (target a.seat.me 1) (known_of a.seat.me 1)
  is_box = subst (λ (k : Known). IsBox (target a.seat.me 1) k) (sym at.box.known) tt

  pub may_keep : MayUpdate no_field_is_fixed a.seat.me 1 0 values.Null (values.Held 2)
  may_keep = record {
    inside = at.loose.is_in.inside;
    there = at.box.there;
    payload = omega arith;
    box = is_box;
    old_named = tt;
    new_named = record_there n a at;
    sealed = sealed_value a 2 (record_there n a at) (ap is_sealed at.known);
    spares = λ fixed. absurd cc;
  }

  pub may_forget : MayUpdate no_field_is_fixed a.seat.me 1 0 (values.Held 2) values.Null
  may_forget = record {
    inside = at.loose.is_in.inside;
    there = at.box.there;
    payload = omega arith;
    box = is_box;
    old_named = record_there n a at;
    new_named = tt;
    sealed = tt;
    spares = λ fixed. absurd cc;
  }

  -- it holds at the write too
  module _ (m : Bound Kept) (kept : KeptAll a m) (first : a.seat.me.number ≡ 0) where
    box_at : target m.seat.me 1 ≡ 1
    box_at = cell_same m.seat.me.own.held a.seat.me.own.held kept.held 1 ∙ at.box.cell

    there_at : 2 < length m.seat.me.own.held
    there_at = subst (λ (k : ℕ). 2 < k)
        (sym (many_same m.seat.me.own.held a.seat.me.own.held kept.held)) (record_there n a at)

    known_at_write : known_of m.seat.me 2 ≡ knows.Record (number_record n)
    known_at_write = ap (λ (ks : List Known). known_at ks 2) kept.known ∙ at.known

    picks_at : (number : Option ℕ) (x : Field) (old new : Value)
        → field_at m.seat.me.own.held old ≡ x
        → Stands m.seat.me number (field_at m.seat.me.own.held new)
        → Picks HasKept no_field_is_fixed (putting x number) m.seat.me
        (write_of m 1 0 old new)
    picks_at number x old new is stands =
        subst (λ (y : Field). Picks HasKept no_field_is_fixed (putting y number) m.seat.me
        (write_of m 1 0 old new)) is
        (put_picks m.seat.me number (field_at m.seat.me.own.held old)
        (field_at m.seat.me.own.held new) (kept.number ∙ first) box_at stands)

  number_is : number_of a.seat.me (values.Held 2) ≡ Some n
  number_is = ap (λ (k : Known). Some (Rattle.example_root.specs.Rule.number_told k)) at.known

  pub picks_keep : a.seat.me.number ≡ 0 → PicksUpdate HasKept no_field_is_fixed
      (putting field.Null (number_of a.seat.me (values.Held 2))) a 1 0 values.Null (values.Held 2)
  picks_keep first m kept presence =
      subst (λ (k : Option ℕ). Picks HasKept no_field_is_fixed (putting field.Null k) m.seat.me
      (write_of m 1 0 values.Null (values.Held 2))) (sym number_is)
      (picks_at m kept first (Some n) field.Null values.Null (values.Held 2) refl
      (record_stands m.seat.me n (there_at m kept first) (known_at_write m kept first)))

  pub picks_forget : a.seat.me.number ≡ 0 → PicksUpdate HasKept no_field_is_fixed
      (putting (field_at a.seat.me.own.held (values.Held 2)) None) a 1 0 (values.Held 2)
      values.Null
  picks_forget first m kept presence =
      picks_at m kept first None (field_at a.seat.me.own.held (values.Held 2)) (values.Held 2)
      values.Null
      (field_same m.seat.me.own.held a.seat.me.own.held kept.held (values.Held 2))
      (null_stands m.seat.me)

  -- What it leaves.

  -- the pass after a write that was made, or was not
  module _ (b : Bound Kept) (old new : Value) (number : Option ℕ) (found : Field)
      (same : SamePlaces a b)
      (wrote : Updated HasKept no_field_is_fixed
      (putting (field_at a.seat.me.own.held old) number) a 1 0 old new found b) where
    pub has_if : (how : Bool) → same_field found (field_at a.seat.me.own.held old) ≡ how
        → Has ((keeping_if how number a.seat.me.pass).number) a b
    has_if how is = record {
      heap = same.heap;
      number_is = same.number;
      kept = ap (λ (p : Kept). p.number) wrote.pass
          ∙ ap (λ (h : Bool). (keeping_if h number a.seat.me.pass).number) is;
    }

  pub has_kept : (b : Bound Kept) → SamePlaces a b
      → Updated HasKept no_field_is_fixed
      (putting field.Null (number_of a.seat.me (values.Held 2))) a 1 0 values.Null
      (values.Held 2) field.Null b → Has (Some n) a b
  has_kept b same wrote = record {
    heap = same.heap;
    number_is = same.number;
    kept = ap (λ (p : Kept). p.number) wrote.pass ∙ number_is;
  }

  -- where nothing is kept, null is found
  pub null_found : a.seat.me.number ≡ 0 → a.seat.me.pass.number ≡ None → (b : Bound Kept)
      (found : Field) (number : Option ℕ)
      → Updated HasKept no_field_is_fixed (putting field.Null number) a 1 0 values.Null
      (values.Held 2) found b → same_field found field.Null ≡ false → ⊥
  null_found first empty b found number wrote other =
      let m = wrote.at in
      let e = wrote.event in
      let kept = wrote.calm.kept in
      let own : get_elem? e.passes 0 ≡ some m.seat.me.pass =
      subst (λ (i : ℕ). get_elem? e.passes i ≡ some m.seat.me.pass) (kept.number ∙ first) e.pass in
      let none : m.seat.me.pass.number ≡ None = ap (λ (p : Kept). p.number) kept.pass ∙ empty in
      let word : field_of e.core 1 0 ≡ field.Null =
      none_word e.core e.lore e.mine.shown.facts e.passes e.kept
      (e.kept.kept m.seat.me.pass own
      ∙ ap (λ (k : Option ℕ). Plain (kept_term k)) none) in
      let is : found ≡ field.Null =
      Rattle.held_places.proofs.Steps.same_value found field.Null
      (sym e.found_is
      ∙ ap (λ (x : ℕ). finds.Field (field_of e.core x 0))
      (target_now m.seat.me e.core e.lore e.mine 1 ∙ box_at m kept first)
      ∙ ap finds.Field word) in
      let both : true ≡ false = sym (ap (λ (w : Field). same_field w field.Null) is) ∙ other in
      absurd cc
