-- The writes: the rule stands, whether they are made or not.
use Rattle.std.proofs.Common.{◌≡◌, ◌≢◌, ◌<◌, ℕ, Bool, true, false, List, Option}
use Rattle.std.proofs.Common.{length, slice_index_or, slice_set, sym, ◌∙◌, ap, subst, arith}
use mathlib.Core.Option.{some}
use lib.ListN.{get_elem?}
use Rattle.atomic_table.proofs.Lists.{set_again}
use Rattle.cell_words.specs.declared.fields.Field.{Field}
use Rattle.cell_words.specs.declared.fields.Field.TheVariants as field
use Rattle.cell_words.specs.Term.{Term}
use Rattle.core_machine.specs.Own.{Own, pending_or_none}
use Rattle.core_machine.specs.State.{State, field_of, target_of}
use Rattle.core_machine.specs.State.{begun_of as begun_there}
use Rattle.core_machine.specs.Words.{same_field}
use Rattle.core_machine.specs.declared.events.Event.TheVariants as event
use Rattle.core_machine.specs.declared.pending.Pending.{Pending}
use Rattle.dlg_core.specs.Reachable.{Reachable}
use Rattle.heap_rule.specs.Asks.{begun_of, target}
use Rattle.heap_rule.specs.Boxes.{Map, boxes_of, payload_of, revealing, written_if, written_map}
use Rattle.heap_rule.specs.Facts.{IsKnown}
use Rattle.heap_rule.specs.Lore.{Lore, entry_of, named_or}
use Rattle.heap_rule.specs.NoRule.{no_field_is_fixed}
use Rattle.heap_rule.specs.Steps.{Mine, Picks, same_pass}
use Rattle.heap_rule.specs.declared.known.Known.{Known}
use Rattle.heap_rule.specs.declared.known.Known.TheVariants as knows
use Rattle.heap_rule.specs.declared.view.View.{View}
use Rattle.heap_rule.proofs.EntryWords.{no_term, not_some}
use Rattle.heap_rule.proofs.Filling.{fills_nothing}
use Rattle.heap_rule.proofs.Revealed.{shown_is}
use Rattle.heap_rule.proofs.Seats.{knows_place, reached_place, target_now}
use Rattle.sorted_rule.specs.Open.{IsOpen, MayShow, MayStand, sort_at}
use Rattle.sorted_rule.specs.Sorted.{AreSorted, HoldsSorted, IsSorted}
use Rattle.sorted_rule.specs.Sorts.{Boxes, IsOfSort, Sort, sort_of}
use Rattle.sorted_rule.specs.declared.sorting.Sorting.{Sorting}
use Rattle.sorted_rule.proofs.Standing.{open_box, sort_else, stand_entry, stand_settled}
use Rattle.sorted_rule.proofs.Written.{shown_sorted, written_sorted}

module _ (v : View Sorting) (s : State) (l : Lore) (passes : List Sorting)
    (mine : Mine no_field_is_fixed v s l) (h : HoldsSorted (boxes_of s l) passes)
    (at : get_elem? passes v.number ≡ some v.pass) where
  own_boxes : v.pass.boxes ≡ h.boxes
  own_boxes = h.agreed v.number v.pass at

  -- the passes stay
  stands : (map : Map) → AreSorted h.boxes map
      → HoldsSorted map (slice_set passes v.number v.pass)
  stands map sorted = subst (λ (ps : List Sorting). HoldsSorted map ps)
      (sym (set_again passes v.number v.pass at))
      record { boxes = h.boxes; agreed = h.agreed; sorted = sorted }

  -- The value that is written: what naming it shows is sorted, and so is its entry in the field.
  record Comes (place f : ℕ) (new : Field) : Type 0 where
    shown : AreSorted h.boxes (boxes_of s (revealing l new))
    entry : IsOfSort (sort_of h.boxes place f) (entry_of l.terms new)

  -- one that may stand there
  settled_comes : (place f : ℕ) (new : Field) → MayStand v (sort_at v place f) new
      → Comes place f new
  settled_comes place f new may = record {
    shown = subst (λ (map : Map). AreSorted h.boxes map)
        (sym (fills_nothing v s l mine new (stand_settled v (sort_at v place f) new may)))
        h.sorted;
    entry = subst (λ (boxes : ℕ). IsOfSort (sort_of boxes place f) (entry_of l.terms new))
        own_boxes (stand_entry v s l mine (sort_at v place f) new may);
  }

  -- a fresh box
  module _ (fresh : ℕ) (may : MayShow v fresh) where
    abbrev z : ℕ
    z = target v fresh

    fresh_known : IsKnown no_field_is_fixed s l v.number z (knows.Fresh may.fields)
    fresh_known =
        subst (λ (k : Known). IsKnown no_field_is_fixed s l v.number z k) may.known
        (knows_place v s l mine fresh may.there)

    reached : Reachable s z
    reached = reached_place v s l mine fresh may.there

    not_anchor : z ≢ 0
    not_anchor is = not_some v.number (l.fresh 0) mine.shown.facts.freshed.anchor
        (ap l.fresh (sym is) ∙ fresh_known.1)

    box_sorted : IsSorted h.boxes z (payload_of s l z)
    box_sorted f lt =
        subst (λ (boxes : ℕ). IsOfSort (sort_of boxes z f) (payload_of s l z f)) own_boxes
        (subst (λ (sort : Sort). IsOfSort sort (payload_of s l z f))
        (sort_else v.pass.boxes 1 z f (λ e. omega (arith, e)) not_anchor)
        (subst (λ (value : Field). IsOfSort (sort_of v.pass.boxes 1 f) (entry_of l.terms value))
        (sym (fresh_known.2.each f lt))
        (stand_entry v s l mine (sort_of v.pass.boxes 1 f)
        (slice_index_or may.fields f field.Null) (may.fits f lt))))

    fresh_comes : (place f : ℕ) → sort_at v place f ≡ Boxes → Comes place f (field.Cell z)
    fresh_comes place f boxes_there = record {
      shown = subst (λ (map : Map). AreSorted h.boxes map)
          (sym (shown_is s l z v.number fresh_known.1 reached fresh_known.0))
          (shown_sorted h.boxes (boxes_of s l) h.sorted z (payload_of s l z) box_sorted);
      entry =
          subst (λ (sort : Sort). IsOfSort sort (named_or z (l.terms z)))
          (sym boxes_there ∙ ap (λ (boxes : ℕ). sort_of boxes place f) own_boxes)
          (subst (λ (o : Option Term). IsOfSort Boxes (named_or z o))
          (sym (no_term no_field_is_fixed s l mine.shown.facts z reached fresh_known.0))
          not_anchor);
    }

    -- and the map, where the box is named in a field of its own
    named_itself : (f : ℕ) → sort_at v 1 f ≡ Boxes → (x : ℕ) → x ≡ z
        → AreSorted h.boxes
        (written_map (boxes_of s (revealing l (field.Cell z))) x f (entry_of l.terms (field.Cell z)))
    named_itself f boxes_there x is =
        let comes = fresh_comes 1 f boxes_there in
        written_sorted h.boxes (boxes_of s (revealing l (field.Cell z))) comes.shown x f
        (entry_of l.terms (field.Cell z))
        (subst (λ (sort : Sort). IsOfSort sort (entry_of l.terms (field.Cell z)))
        (sort_else h.boxes 1 z f (λ e. omega (arith, e)) not_anchor
        ∙ ap (λ (y : ℕ). sort_of h.boxes y f) (sym is)) comes.entry)

    named_or_not : (f : ℕ) → sort_at v 1 f ≡ Boxes → (made : Bool) (x : ℕ) → x ≡ z
        → AreSorted h.boxes (written_if made s l x f (field.Cell z))
    named_or_not f boxes_there true x is = named_itself f boxes_there x is
    named_or_not f boxes_there false x is = h.sorted

    names_stand : (f : ℕ) → sort_at v 1 f ≡ Boxes → (old : Field)
        → HoldsSorted
        (written_if (same_field (field_of s (target_of s v.number fresh) f) old) s l
        (target_of s v.number fresh) f (field.Cell z))
        (slice_set passes v.number v.pass)
    names_stand f boxes_there old =
        let x = target_of s v.number fresh in
        stands (written_if (same_field (field_of s x f) old) s l x f (field.Cell z))
        (named_or_not f boxes_there (same_field (field_of s x f) old) x
        (target_now v s l mine fresh))

  -- The write, at the cell of an open place.

  module _ (place f : ℕ) (new : Field) (there : place < length v.own.held)
      (open_is : IsOpen v place) (comes : Comes place f new) where
    written : (x : ℕ) → x ≡ target v place
        → AreSorted h.boxes
        (written_map (boxes_of s (revealing l new)) x f (entry_of l.terms new))
    written x is =
        let box = open_box v s l mine place there open_is in
        written_sorted h.boxes (boxes_of s (revealing l new)) comes.shown x f
        (entry_of l.terms new)
        (subst (λ (sort : Sort). IsOfSort sort (entry_of l.terms new))
        (box.sort_is h.boxes f ∙ ap (λ (y : ℕ). sort_of h.boxes y f) (sym is)) comes.entry)

    written_or_not : (made : Bool) (x : ℕ) → x ≡ target v place
        → AreSorted h.boxes (written_if made s l x f new)
    written_or_not true x is = written x is
    written_or_not false x is = h.sorted

    write_stands : (old : Field)
        → HoldsSorted
        (written_if (same_field (field_of s (target_of s v.number place) f) old) s l
        (target_of s v.number place) f new)
        (slice_set passes v.number v.pass)
    write_stands old =
        let x = target_of s v.number place in
        stands (written_if (same_field (field_of s x f) old) s l x f new)
        (written_or_not (same_field (field_of s x f) old) x (target_now v s l mine place))

    store_stands : (write : Pending) → write.place ≡ place → write.f ≡ f
        → HoldsSorted
        (written_map (boxes_of s (revealing l new)) (target_of s v.number write.place) write.f
        (entry_of l.terms new))
        (slice_set passes v.number v.pass)
    store_stands write place_is f_is =
        let x = target_of s v.number write.place in
        stands
        (written_map (boxes_of s (revealing l new)) x write.f (entry_of l.terms new))
        (subst (λ (n : ℕ). AreSorted h.boxes
        (written_map (boxes_of s (revealing l new)) x n (entry_of l.terms new))) (sym f_is)
        (written x
        (ap (λ (n : ℕ). target_of s v.number n) place_is ∙ target_now v s l mine place)))

  begun_now : begun_there s v.number ≡ begun_of v
  begun_now = ap (λ (own : Own). pending_or_none own.pending) mine.own

-- In the shape that a call of a seat asks for.

pub itself_picks : (v : View Sorting) (fresh f : ℕ) → MayShow v fresh → sort_at v 1 f ≡ Boxes
    → (old : Field)
    → Picks HoldsSorted no_field_is_fixed same_pass v
    (event.Write v.number fresh f old (field.Cell (target v fresh)))
itself_picks v fresh f may boxes_there old s l passes mine happens proper at h =
    names_stand v s l passes mine h at fresh may f boxes_there old

module _ (v : View Sorting) (place f : ℕ) (there : place < length v.own.held)
    (open_is : IsOpen v place) where
  pub write_picks : (old new : Field) → MayStand v (sort_at v place f) new
      → Picks HoldsSorted no_field_is_fixed same_pass v (event.Write v.number place f old new)
  write_picks old new may s l passes mine happens proper at h =
      write_stands v s l passes mine h at place f new there open_is
      (settled_comes v s l passes mine h at place f new may) old

  module _ (place_is : (begun_of v).place ≡ place) (f_is : (begun_of v).f ≡ f) where
    pub store_picks : (new : Field) → MayStand v (sort_at v place f) new
        → Picks HoldsSorted no_field_is_fixed same_pass v (event.Store v.number new)
    store_picks new may s l passes mine happens proper at h =
        let begun = begun_now v s l passes mine h at in
        store_stands v s l passes mine h at place f new there open_is
        (settled_comes v s l passes mine h at place f new may) (begun_there s v.number)
        (ap (λ (w : Pending). w.place) begun ∙ place_is)
        (ap (λ (w : Pending). w.f) begun ∙ f_is)
