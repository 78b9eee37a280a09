-- The exchange of an append: the rule holds with the pass that is picked, whether the exchange was
-- made or not; and what a mutator's knowledge of an entry says of the map.
use Rattle.std.proofs.Common.{◌≡◌, ℕ, Bool, true, false, List, Some, slice_set, refl}
use Rattle.std.proofs.Common.{sym, ◌∙◌, ap, subst, arith}
use mathlib.Core.Option.{some}
use lib.ListN.{get_elem?}
use Rattle.atomic_table.proofs.Lists.{set_again}
use Rattle.cell_words.specs.Term.{num}
use Rattle.cell_words.specs.declared.fields.Field.TheVariants as field
use Rattle.core_machine.specs.State.{State, field_of, target_of}
use Rattle.core_machine.specs.Words.{same_field}
use Rattle.core_machine.specs.declared.events.Event.TheVariants as event
use Rattle.dlg_core.specs.Reachable.{Reachable}
use Rattle.dlg_core.proofs.Events.Write.{same_field_is}
use Rattle.heap_rule.specs.Asks.{target}
use Rattle.heap_rule.specs.Boxes.{Map, boxes_of, payload_of, revealing, written_if, written_map}
use Rattle.heap_rule.specs.Facts.{IsKnown}
use Rattle.heap_rule.specs.Lore.{Entry, Lore, Named, Plain, entry_of, named_or, put}
use Rattle.heap_rule.specs.Steps.{Mine, Picks}
use Rattle.heap_rule.specs.declared.known.Known.{Known}
use Rattle.heap_rule.specs.declared.known.Known.TheVariants as knows
use Rattle.heap_rule.specs.declared.view.View.{View}
use Rattle.heap_rule.proofs.Entries.{same_entry}
use Rattle.heap_rule.proofs.EntryWords.{no_term}
use Rattle.heap_rule.proofs.Maps.{In, in_map, of_map}
use Rattle.heap_rule.proofs.Revealed.{fresh_absent, shown_is}
use Rattle.heap_rule.proofs.Seats.{knows_place, reached_place, target_now}
use Rattle.example_log.specs.Logging.{KeepsLog, KnowsEntry, MayAppend, appending}
use Rattle.example_log.specs.Logging.{entry_fields, is_fixed, one_more}
use Rattle.example_log.specs.declared.log.Appended.{Appended}
use Rattle.example_log.proofs.Growing.{grown}

-- the box of an entry that is known is in the map, with the number that is known
pub record Seen (s : State) (l : Lore) (x number : ℕ) : Type 0 where
  pub in_is : In s l x
  pub number_is : payload_of s l x 0 ≡ Plain (num number)

pub entry_seen : (v : View Appended) (s : State) (l : Lore) → Mine is_fixed v s l
    → (place number : ℕ) → KnowsEntry v place number → Seen s l (target v place) number
entry_seen v s l mine place number has =
    let is : IsKnown is_fixed s l v.number (target v place) (knows.Boxed has.told) =
    subst (λ (k : Known). IsKnown is_fixed s l v.number (target v place) k) has.known
    (knows_place v s l mine place has.there) in
    record {
      in_is = record {
        reached = reached_place v s l mine place has.there;
        box = is.1;
        old = is.2;
      };
      number_is = is.3 0 (num number) (omega arith) refl has.number_is;
    }

-- the anchor of the rule is the one of the words
pub anchor_entry : (s : State) (l : Lore) (passes : List Appended)
    (h : KeepsLog (boxes_of s l) passes) → entry_of l.terms (field_of s 0 0) ≡ h.anchor 0
anchor_entry s l passes h =
    same_entry (boxes_of s l) 0 0 (payload_of s l 0) h.anchor
    (in_map s l 0 (of_map s l 0 h.anchor h.anchor_is)) h.anchor_is

module _ (v : View Appended) (s : State) (l : Lore) (passes : List Appended)
    (mine : Mine is_fixed v s l) (h : KeepsLog (boxes_of s l) passes)
    (at : get_elem? passes v.number ≡ some v.pass) (place box number : ℕ)
    (may : MayAppend v place box number) where
  abbrev c : ℕ
  c = target v place

  abbrev z : ℕ
  z = target v box

  fresh_known : IsKnown is_fixed s l v.number z (knows.Fresh
      (entry_fields c number v.number v.pass.count))
  fresh_known = subst (λ (k : Known). IsKnown is_fixed s l v.number z k) may.box_is
      (knows_place v s l mine box may.box_there)

  reached : Reachable s z
  reached = reached_place v s l mine box may.box_there

  seen : Seen s l c number
  seen = entry_seen v s l mine place number may.held

  -- a cell that is no record is named as itself
  names_old : entry_of l.terms (field.Cell c) ≡ Named c
  names_old = ap (named_or c)
      (no_term is_fixed s l mine.shown.facts c seen.in_is.reached seen.in_is.box)

  names_new : entry_of l.terms (field.Cell z) ≡ Named z
  names_new = ap (named_or z) (no_term is_fixed s l mine.shown.facts z reached fresh_known.0)

  -- the entry before it was still the newest
  made_stands : field_of s 0 0 ≡ field.Cell c
      → KeepsLog
      (written_map (boxes_of s (revealing l (field.Cell z))) 0 0 (entry_of l.terms (field.Cell z)))
      (slice_set passes v.number (one_more true v.pass))
  made_stands there =
      let row = fresh_known.2 in
      let after = slice_set passes v.number (one_more true v.pass) in
      subst (λ (m : Map). KeepsLog (written_map m 0 0 (entry_of l.terms (field.Cell z))) after)
      (sym (shown_is s l z v.number fresh_known.1 reached fresh_known.0))
      (subst (λ (e : Entry). KeepsLog
      (written_map (put (boxes_of s l) z (Some (payload_of s l z))) 0 0 e) after)
      (sym names_new)
      (grown (boxes_of s l) passes h z c number (payload_of s l z)
      (fresh_absent s l z v.number fresh_known.1)
      (sym (anchor_entry s l passes h) ∙ ap (entry_of l.terms) there ∙ names_old)
      record {
        box = payload_of s l c;
        there = in_map s l c seen.in_is;
        number_is = seen.number_is;
      }
      v.number v.pass at
      (ap (entry_of l.terms) (row.each 0 (omega arith)))
      (ap (entry_of l.terms) (row.each 1 (omega arith)) ∙ names_old)
      (ap (entry_of l.terms) (row.each 2 (omega arith)))
      (ap (entry_of l.terms) (row.each 3 (omega arith)))))

  abbrev Goal : Bool → ℕ → Type 0
  Goal made x = KeepsLog (written_if made s l x 0 (field.Cell z))
      (slice_set passes v.number (one_more made v.pass))

  by_made : (made : Bool) → same_field (field_of s 0 0) (field.Cell c) ≡ made → Goal made 0
  by_made true is = made_stands (same_field_is (field_of s 0 0) (field.Cell c) is)
  by_made false is = subst (λ (ps : List Appended). KeepsLog (boxes_of s l) ps)
      (sym (set_again passes v.number v.pass at)) h

  pub made_or_not : (x : ℕ) → x ≡ 0 → Goal (same_field (field_of s x 0) (field.Cell c)) x
  made_or_not x is =
      subst (λ (y : ℕ). Goal (same_field (field_of s y 0) (field.Cell c)) y) (sym is)
      (by_made (same_field (field_of s 0 0) (field.Cell c)) refl)

-- in the shape that a call of a seat asks for
pub append_picks : (v : View Appended) (place box number : ℕ) → target v 0 ≡ 0
    → MayAppend v place box number
    → Picks KeepsLog is_fixed (appending (field.Cell (target v place))) v
    (event.Write v.number 0 0 (field.Cell (target v place)) (field.Cell (target v box)))
append_picks v place box number anchor may s l passes mine happens proper at h =
    made_or_not v s l passes mine h at place box number may (target_of s v.number 0)
    (target_now v s l mine 0 ∙ anchor)
