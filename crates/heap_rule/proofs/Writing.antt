-- The facts on lore after Fill, Write and Store.
use Rattle.std.proofs.Common.{◌≡◌, ℕ, Bool, true, false, List, []}
use Rattle.std.proofs.Common.{Option, Some, None, is_some}
use Rattle.std.proofs.Common.{refl, sym, ◌∙◌, ap, subst, arith, if◌then◌else◌}
use Rattle.std.proofs.Math.ListN.{set}
use Rattle.std.proofs.lemmas.Bool.{eqb-true}
use Rattle.std.proofs.lemmas.List.{set-get_or}
use Rattle.cell_words.specs.declared.fields.Field.{Field}
use Rattle.cell_words.specs.declared.fields.Field.TheVariants as field
use Rattle.core_machine.specs.declared.events.Event.TheVariants as event
use Rattle.core_machine.specs.InRange.{IsShaped}
use Rattle.core_machine.specs.Mutation.{names_own}
use Rattle.core_machine.specs.Next.{can, after}
use Rattle.core_machine.specs.Own.{pending_or_none, spent}
use Rattle.core_machine.specs.State.{State, begun_of, field_of, held_of, is_raw_value, own_of}
use Rattle.core_machine.specs.State.{presence_of, row_in, set_field, target_of}
use Rattle.core_machine.specs.Words.{is_box_kind, is_raw_kind, same_field}
use Rattle.core_machine.specs.declared.pending.Pending.{Pending}
use Rattle.core_machine.proofs.Conditions.{fill_needs, store_needs, write_needs}
use Rattle.dlg_core.specs.Consistent.{IsConsistent}
use Rattle.dlg_core.specs.Doubt.{IsPending}
use Rattle.core_machine.proofs.OneOperation.{inside_there}
use Rattle.dlg_core.proofs.Step.{consistent_after}
use Rattle.heap_rule.specs.Facts.{Facts, Proper, is_record_kind}
use Rattle.heap_rule.specs.Lore.{Lore, cells_of, has, known_in, known_stored_if, lore_after}
use Rattle.heap_rule.specs.Lore.{revealed_if}
use Rattle.heap_rule.proofs.Lists.{has_holds}
use Rattle.heap_rule.proofs.Quiet.{cells_own, cells_unmarked, quiet_facts}
use Rattle.heap_rule.proofs.Reading.{cell_there, has_place}
use Rattle.heap_rule.proofs.Storing.{Stores, stored_facts}

-- a value that the maker names rightly is a cell that it holds
pub named_held : (s : State) (i : ℕ) (value : Field) → names_own s i value ≡ true → (c : ℕ)
    → value ≡ field.Cell c
    → has (cells_of s i) c ≡ true
named_held s i value names c is =
    has_holds (held_of s i) c ∙ subst (λ (v : Field). names_own s i v ≡ true) is names

pub box_no_record : (x : Field) → is_box_kind x ≡ true → is_record_kind x ≡ false
box_no_record field.Null h = refl
box_no_record (field.Num n) h = let two : n
    ≡ 2 = eqb-true n 2 h in subst (λ (m : ℕ). is_record_kind (field.Num m) ≡ false) (sym two) refl
box_no_record (field.Cell c) h = refl

raw_no_record : (x : Field) → is_raw_kind x ≡ true → is_record_kind x ≡ false
raw_no_record field.Null h = refl
raw_no_record (field.Num n) h = absurd cc
raw_no_record (field.Cell c) h = refl

-- a write that is pending is the one that was begun
pending_begun : (pending : Option Pending) → is_some pending ≡ true
    → pending ≡ Some (pending_or_none pending)
pending_begun None h = absurd cc
pending_begun (Some write) h = refl

pub raw_no_box : (x : Field) → is_raw_kind x ≡ true → is_box_kind x ≡ false
raw_no_box field.Null h = refl
raw_no_box (field.Num n) h = absurd cc
raw_no_box (field.Cell c) h = refl

module _ (fixed : ℕ
    → Bool) (s : State) (l : Lore) (i place f : ℕ) (shape : IsShaped s) (k : IsConsistent s)
    (facts : Facts fixed s l) where
  pub fill_stores : (value : Field) → can s (event.Fill i place f value) ≡ true
      → Stores fixed s (after s (event.Fill i place f value)) l i (target_of s i place) f value
  fill_stores value h =
      let needs = fill_needs s i place f value h in
      let x = target_of s i place in
      record {
        rows = refl;
        cells = λ j. refl;
        mutators = refl;
        payload = let lt = needs.payload in omega (arith, lt);
        maker = inside_there s shape i needs.inside;
        there = shape.names_fit.held_fit i place;
        holds_it = has_place s i place needs.there;
        no_record = raw_no_record (field_of s x 5) needs.raw;
        proper = λ box is. absurd (let no = raw_no_box (field_of s x 5) needs.raw in cc);
        held = named_held s i value needs.names;
        sealed = λ c is. subst (λ (v : Field). is_raw_value s v ≡ false) is needs.sealed;
      }

  pub facts_fill : (value : Field) → can s (event.Fill i place f value) ≡ true
      → Facts fixed (after s (event.Fill i place f value))
      (lore_after s l (event.Fill i place f value))
  facts_fill value h =
      stored_facts fixed s (after s (event.Fill i place f value)) l i
      (target_of s i place) f value shape k facts
      (consistent_after s (event.Fill i place f value) shape k h) (fill_stores value h) place
      (cell_there (held_of s i) place)

  pub write_stores : (old new : Field) (t : State) → can s (event.Write i place f old new) ≡ true
      → Proper fixed s l (event.Write i place f old new)
      → t.rows ≡ set_field s.rows (target_of s i place) f new
      → ((j : ℕ) → cells_of t j ≡ cells_of s j) → t.mutators ≡ s.mutators
      → Stores fixed s t l i (target_of s i place) f new
  write_stores old new t h proper rows cells mutators =
      let needs = write_needs s i place f old new h in
      let x = target_of s i place in
      record {
        rows = rows;
        cells = cells;
        mutators = mutators;
        payload = let lt = needs.payload in omega (arith, lt);
        maker = inside_there s shape i needs.inside;
        there = shape.names_fit.held_fit i place;
        holds_it = has_place s i place needs.there;
        no_record = box_no_record (field_of s x 5) needs.box;
        proper = λ box is. proper is;
        held = named_held s i new needs.names_new;
        sealed = λ c is. subst (λ (v : Field). is_raw_value s v ≡ false) is needs.sealed;
      }

  -- a Write, by whether it was made
  wrote : (old new : Field) (t : State) (made : Bool) → can s (event.Write i place f old new) ≡ true
      → Proper fixed s l (event.Write i place f old new)
      → t.rows ≡ set_field s.rows (target_of s i place) f
      (if made then new else field_of s (target_of s i place) f)
      → ((j : ℕ) → cells_of t j ≡ cells_of s j) → t.mutators ≡ s.mutators → IsConsistent t
      → Facts fixed t record {
        terms = l.terms;
        fresh = revealed_if made l.fresh new;
        known = set l.known i
            (known_stored_if made (cells_of s i) (known_in l.known i) place f new);
      }
  wrote old new t true h proper rows cells mutators later =
      stored_facts fixed s t l i (target_of s i place) f new shape k facts later
      (write_stores old new t h proper rows cells mutators) place (cell_there (held_of s i) place)
  wrote old new t false h proper rows cells mutators later =
      let x = target_of s i place in
      let still : t.rows ≡ s.rows =
      rows ∙ ap (λ (r : List Field). set s.rows x r) (set-get_or (row_in s.rows x) f field.Null)
      ∙ set-get_or s.rows x [] in
      subst (λ (known : List (List _)). Facts fixed t (record l { known = known }))
      (sym (set-get_or l.known i []))
      (quiet_facts s t k still cells fixed l later mutators facts)

  pub facts_write : (old new : Field) → can s (event.Write i place f old new) ≡ true
      → Proper fixed s l (event.Write i place f old new)
      → Facts fixed (after s (event.Write i place f old new))
      (lore_after s l (event.Write i place f old new))
  facts_write old new h proper =
      wrote old new (after s (event.Write i place f old new))
      (same_field (field_of s (target_of s i place) f) old) h proper refl
      (cells_own s i (spent (own_of s i)) (cells_unmarked (held_of s i))) refl
      (consistent_after s (event.Write i place f old new) shape k h)

-- A Store, of the pending write.
module _ (fixed : ℕ
    → Bool) (s : State) (l : Lore) (i : ℕ) (shape : IsShaped s) (k : IsConsistent s)
    (facts : Facts fixed s l) where
  pub store_stores : (new : Field) (t : State) → can s (event.Store i new) ≡ true
      → Proper fixed s l (event.Store i new)
      → t.rows ≡ set_field s.rows (target_of s i (begun_of s i).place) (begun_of s i).f new
      → ((j : ℕ) → cells_of t j ≡ cells_of s j) → t.mutators ≡ s.mutators
      → Stores fixed s t l i (target_of s i (begun_of s i).place) (begun_of s i).f new
  store_stores new t h proper rows cells mutators =
      let needs = store_needs s i new h in
      let write = begun_of s i in
      let x = target_of s i write.place in
      let pending : IsPending (presence_of s i).status (own_of s i) s.rows write =
      k.cells.pendings i write (pending_begun (own_of s i).pending needs.begun) in
      record {
        rows = rows;
        cells = cells;
        mutators = mutators;
        payload = pending.payload;
        maker = inside_there s shape i needs.inside;
        there = shape.names_fit.held_fit i write.place;
        holds_it = has_place s i write.place pending.there;
        no_record = box_no_record (field_of s x 5) pending.box;
        proper = λ box is. proper is;
        held = named_held s i new needs.names;
        sealed = λ c is. subst (λ (v : Field). is_raw_value s v ≡ false) is needs.sealed;
      }

  pub facts_store : (new : Field) → can s (event.Store i new) ≡ true
      → Proper fixed s l (event.Store i new)
      → Facts fixed (after s (event.Store i new)) (lore_after s l (event.Store i new))
  facts_store new h proper =
      let e = event.Store i new in
      let write = begun_of s i in
      stored_facts fixed s (after s e) l i (target_of s i write.place) write.f new shape k facts
      (consistent_after s e shape k h)
      (store_stores new (after s e) h proper refl
      (cells_own s i (spent (own_of s i)) (cells_unmarked (held_of s i))) refl)
      write.place (cell_there (held_of s i) write.place)
