-- The two writes: the rule stands with the pass that is picked, whether the write was made or not.
use Rattle.std.proofs.Common.{◌≡◌, ℕ, ◌+◌, Bool, true, false, List, length, Some, slice_set, refl}
use Rattle.std.proofs.Common.{sym, ◌∙◌, ap, subst, arith}
use mathlib.Core.Option.{some}
use lib.ListN.{get_elem?}
use Rattle.atomic_table.proofs.Lists.{set_again}
use Rattle.cell_words.specs.declared.fields.Field.TheVariants as field
use Rattle.core_machine.specs.State.{State, field_of, target_of}
use Rattle.core_machine.specs.Words.{same_field}
use Rattle.core_machine.specs.declared.events.Event.TheVariants as event
use Rattle.dlg_core.specs.Reachable.{Reachable}
use Rattle.dlg_core.proofs.Events.Write.{same_field_is}
use Rattle.heap_rule.specs.Asks.{target}
use Rattle.heap_rule.specs.Boxes.{Map, boxes_of, payload_of, revealing, written_if, written_map}
use Rattle.heap_rule.specs.Facts.{IsKnown}
use Rattle.heap_rule.specs.Lore.{Entry, Lore, Named, entry_of, named_or, put}
use Rattle.heap_rule.specs.Numbered.{HasNumber}
use Rattle.heap_rule.specs.Settled.{IsSettled}
use Rattle.heap_rule.specs.Steps.{Mine, Picks}
use Rattle.heap_rule.specs.declared.known.Known.{Known}
use Rattle.heap_rule.specs.declared.known.Known.TheVariants as knows
use Rattle.heap_rule.specs.declared.view.View.{View}
use Rattle.heap_rule.proofs.Filling.{fills_nothing}
use Rattle.heap_rule.proofs.Numbered.{anchor_names}
use Rattle.heap_rule.proofs.Seats.{knows_place, reached_place, target_now}
use Rattle.heap_rule.proofs.EntryWords.{no_term}
use Rattle.heap_rule.proofs.Revealed.{fresh_absent, shown_is}
use Rattle.mail_rule.specs.Items.{Letter, item_at}
use Rattle.mail_rule.specs.Knowing.{MaySend, MayTake, item_fields, next_sent, next_taken}
use Rattle.mail_rule.specs.Mail.{HoldsMail, is_fixed}
use Rattle.mail_rule.specs.Passes.{having_sent, having_taken, sent_if, taken_if}
use Rattle.mail_rule.specs.declared.items.Item.{Item}
use Rattle.mail_rule.specs.declared.items.Sent.{Sent}
use Rattle.mail_rule.specs.declared.mail_pass.MailPass.{MailPass}
use Rattle.mail_rule.proofs.AfterSend.{IsNew, sends}
use Rattle.mail_rule.proofs.AfterTake.{takes}
use Rattle.mail_rule.proofs.Seen.{Seen, item_is, item_seen, position_seen}

module _ (v : View MailPass) (s : State) (l : Lore) (passes : List MailPass)
    (mine : Mine is_fixed v s l) (h : HoldsMail (boxes_of s l) passes)
    (at : get_elem? passes v.number ≡ some v.pass) where
  -- the write was not made
  same_stands : HoldsMail (boxes_of s l) (slice_set passes v.number v.pass)
  same_stands = subst (λ (ps : List MailPass). HoldsMail (boxes_of s l) ps)
      (sym (set_again passes v.number v.pass at)) h

  -- A send.

  module _ (place box : ℕ) (sent : Sent) (may : MaySend v place box sent) where
    abbrev z : ℕ
    z = target v box

    abbrev c : ℕ
    c = target v place

    abbrev letter : Letter
    letter = record { sender = v.number + 1; value = sent.value }

    fresh_known : IsKnown is_fixed s l v.number z (knows.Fresh (item_fields record {
      position = sent.position;
      sender = v.number + 1;
      value = sent.value;
    }))
    fresh_known = subst (λ (k : Known). IsKnown is_fixed s l v.number z k) may.box_is
        (knows_place v s l mine box may.box_there)

    new_reached : Reachable s z
    new_reached = reached_place v s l mine box may.box_there

    last_seen : Seen s l c may.last
    last_seen = item_seen v s l mine place may.last may.held

    new_box : IsNew (may.last.position + 1) letter (payload_of s l z)
    new_box =
        let row = fresh_known.2 in
        record {
          position_is = ap (entry_of l.terms)
              (row.each 0 (omega arith) ∙ ap field.Num may.follows);
          sender_is = ap (entry_of l.terms) (row.each 1 (omega arith));
          value_is = ap (entry_of l.terms) (row.each 2 (omega arith));
          next_is = ap (entry_of l.terms) (row.each 3 (omega arith));
          fifth = ap (entry_of l.terms) (row.each 4 (omega arith));
        }

    -- null was there, so the item was the last one
    sent_stands : field_of s c 3 ≡ field.Null
        → HoldsMail
        (written_map (boxes_of s (revealing l (field.Cell z))) c 3
        (entry_of l.terms (field.Cell z)))
        (slice_set passes v.number (having_sent sent v.pass))
    sent_stands null_there =
        let entry : entry_of l.terms (field.Cell z) ≡ Named z =
        ap (named_or z) (no_term is_fixed s l mine.shown.facts z new_reached fresh_known.0) in
        let one : sent ≡ record { position = may.last.position + 1; value = sent.value } =
        (λ t. record { position = may.follows t; value = sent.value }) in
        subst (λ (m : Map). HoldsMail
        (written_map m c 3 (entry_of l.terms (field.Cell z)))
        (slice_set passes v.number (having_sent sent v.pass)))
        (sym (shown_is s l z v.number fresh_known.1 new_reached fresh_known.0))
        (subst (λ (e : Entry). HoldsMail
        (written_map (put (boxes_of s l) z (Some (payload_of s l z))) c 3 e)
        (slice_set passes v.number (having_sent sent v.pass)))
        (sym entry)
        (subst (λ (x : Sent). HoldsMail
        (written_map (put (boxes_of s l) z (Some (payload_of s l z))) c 3 (Named z))
        (slice_set passes v.number (having_sent x v.pass)))
        (sym one)
        (sends (boxes_of s l) passes h z c may.last.position letter (payload_of s l z)
        (fresh_absent s l z v.number fresh_known.1) new_box
        (position_seen s l c may.last last_seen) (ap (entry_of l.terms) null_there) v.number
        v.pass at may.few refl)))

    abbrev sent_goal : Bool → ℕ → Type 0
    sent_goal made x = HoldsMail (written_if made s l x 3 (field.Cell z))
        (slice_set passes v.number (sent_if made sent v.pass))

    sent_by : (made : Bool) → same_field (field_of s c 3) field.Null ≡ made → sent_goal made c
    sent_by true is = sent_stands (same_field_is (field_of s c 3) field.Null is)
    sent_by false is = same_stands

    pub sent_or_not : (x : ℕ) → x ≡ c
        → sent_goal (same_field (field_of s x 3) field.Null) x
    sent_or_not x is =
        subst (λ (y : ℕ). sent_goal (same_field (field_of s y 3) field.Null) y) (sym is)
        (sent_by (same_field (field_of s c 3) field.Null) refl)

  -- A take.

  module _ (place latest next : ℕ) (item : Item) (may : MayTake v place latest next item) where
    abbrev b : ℕ
    b = target v latest

    abbrev d : ℕ
    d = target v next

    before_seen : Seen s l b may.last
    before_seen = item_seen v s l mine latest may.last may.held

    next_seen : Seen s l d item
    next_seen = item_seen v s l mine next item may.next_held

    next_has : HasNumber (boxes_of s l) d (may.last.position + 1)
    next_has = subst (λ (p : ℕ). HasNumber (boxes_of s l) d p) may.follows
        (position_seen s l d item next_seen)

    boxes_same : boxes_of s (revealing l (field.Cell d)) ≡ boxes_of s l
    boxes_same = fills_nothing v s l mine (field.Cell d) (
      next,
      (
        may.next_held.there,
        (refl, subst (λ (k : Known). IsSettled k) (sym may.next_held.known.is) tt),
      ),
    )

    -- the box of the item before it was there
    taken_stands : field_of s 0 0 ≡ field.Cell b
        → HoldsMail
        (written_map (boxes_of s (revealing l (field.Cell d))) 0 0
        (entry_of l.terms (field.Cell d)))
        (slice_set passes v.number (having_taken item v.pass))
    taken_stands there =
        let entry : entry_of l.terms (field.Cell d) ≡ Named d =
        ap (named_or d) (no_term is_fixed s l mine.shown.facts d next_seen.in_is.reached
        next_seen.in_is.box) in
        let names : h.latest.anchor 0 ≡ Named b =
        anchor_names s l (length h.takers) h.latest is_fixed mine.shown.facts b
        before_seen.in_is.reached before_seen.in_is.box there in
        subst (λ (m : Map). HoldsMail (written_map m 0 0 (entry_of l.terms (field.Cell d)))
        (slice_set passes v.number (having_taken item v.pass)))
        (sym boxes_same)
        (subst (λ (e : Entry). HoldsMail (written_map (boxes_of s l) 0 0 e)
        (slice_set passes v.number (having_taken item v.pass)))
        (sym entry)
        (takes (boxes_of s l) passes h b d may.last.position names
        (position_seen s l b may.last before_seen) next_has v.number v.pass at item
        (item_is v s l passes mine h d item next_seen
        ∙ ap (item_at h.letters) may.follows)))

    abbrev taken_goal : Bool → ℕ → Type 0
    taken_goal made x = HoldsMail (written_if made s l x 0 (field.Cell d))
        (slice_set passes v.number (taken_if made item v.pass))

    taken_by : (made : Bool) → same_field (field_of s 0 0) (field.Cell b) ≡ made
        → taken_goal made 0
    taken_by true is = taken_stands (same_field_is (field_of s 0 0) (field.Cell b) is)
    taken_by false is = same_stands

    pub taken_or_not : (x : ℕ) → x ≡ 0
        → taken_goal (same_field (field_of s x 0) (field.Cell b)) x
    taken_or_not x is =
        subst (λ (y : ℕ). taken_goal (same_field (field_of s y 0) (field.Cell b)) y) (sym is)
        (taken_by (same_field (field_of s 0 0) (field.Cell b)) refl)

-- In the shape that a call of a seat asks for.

pub send_picks : (v : View MailPass) (place box : ℕ) (sent : Sent) → MaySend v place box sent
    → Picks HoldsMail is_fixed (next_sent sent) v
    (event.Write v.number place 3 field.Null (field.Cell (target v box)))
send_picks v place box sent may s l passes mine happens proper at h =
    sent_or_not v s l passes mine h at place box sent may (target_of s v.number place)
    (target_now v s l mine place)

pub take_picks : (v : View MailPass) (place latest next : ℕ) (item : Item)
    → MayTake v place latest next item
    → Picks HoldsMail is_fixed (next_taken (field.Cell (target v latest)) item) v
    (event.Write v.number place 0 (field.Cell (target v latest)) (field.Cell (target v next)))
take_picks v place latest next item may s l passes mine happens proper at h =
    taken_or_not v s l passes mine h at place latest next item may
    (target_of s v.number place) (target_now v s l mine place ∙ may.anchor)
