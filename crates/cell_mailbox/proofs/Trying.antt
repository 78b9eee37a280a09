-- One try of a take: its reads, and the exchange of the anchor's field.
use Rattle.std.proofs.Common.{◌≡◌, ◌≢◌, ◌<◌, ◌+◌, ℕ, Bool, true, false, List, [], ◌∷◌, ◌++◌}
use Rattle.std.proofs.Common.{length, refl, sym, ◌∙◌, ap, subst, arith}
use Rattle.std.proofs.lemmas.List.{append-nil, append_assoc}
use Rattle.cell_words.specs.declared.fields.Field.{Field}
use Rattle.cell_words.specs.declared.fields.Field.TheVariants as field
use Rattle.core_machine.specs.declared.events.Event.TheVariants as event
use Rattle.core_machine.specs.declared.events.Found.TheVariants as finds
use Rattle.core_machine.specs.declared.events.Taken.{Taken}
use Rattle.core_machine.specs.Words.{same_field}
use Rattle.heap_rule.specs.Asks.{is_sealed, known_of, target}
use Rattle.heap_rule.specs.Steps.{Picks}
use Rattle.heap_rule.proofs.SameFields.{same_value}
use Rattle.mail_rule.specs.Knowing.{KnowsItem, next_taken}
use Rattle.mail_rule.specs.Mail.{HoldsMail, is_fixed}
use Rattle.mail_rule.specs.Passes.{taken_if}
use Rattle.mail_rule.specs.declared.items.Item.{Item}
use Rattle.mail_rule.specs.declared.mail_pass.MailPass.{MailPass}
use Rattle.mail_rule.proofs.Picking.{take_picks}
use Rattle.mutator_events.specs.declared.values.Value.TheVariants as values
use Rattle.mutator_events.specs.Events.{AtEvent}
use Rattle.mutator_events.specs.Values.{field_at}
use Rattle.mutator_seat.specs.Bound.{Bound, held_cells}
use Rattle.mutator_seat.specs.Stretches.{Kept}
use Rattle.mutator_seat.specs.Writes.{LookAndMarks, MayUpdate, PicksUpdate, Updated, write_of}
use Rattle.mutator_seat.proofs.Writes.{cell_same}
use Rattle.trails.specs.Asks.{gave_at, wrote_at}
use Rattle.held_places.specs.Calls.{Goes, IsIn, known_fresh}
use Rattle.cell_making.proofs.Naming.{is_box_of, sealed_value}
use Rattle.cell_mailbox.specs.Ends.{AllKnown, EmptyTry, LostTry, TookTry}
use Rattle.cell_mailbox.specs.Finds.{FindsItem, FindsLast, FindsNext, FindsWhole, Reads}
use Rattle.cell_mailbox.proofs.Calling.{fresh_apart, fresh_still, reads_in, reads_still}
use Rattle.cell_mailbox.proofs.Calling.{reads_then, reads_unasked}
use Rattle.cell_mailbox.proofs.Finding.{item_still}
use Rattle.held_places.proofs.Going.{calm_trail, goes_then, kept_known, many_held}
use Rattle.held_places.proofs.Going.{still_on, target_still}
use Rattle.held_places.proofs.ReadValues.{last_held}
use Rattle.held_places.proofs.Writing.{wrote_goes, wrote_known, wrote_shown}

-- a stretch that kept all keeps what is known of items
pub item_kept : (a b : Bound MailPass) → Kept a b → (place : ℕ) (item : Item)
    → KnowsItem a.seat.me place item → KnowsItem b.seat.me place item
item_kept a b kept place item knows =
    item_still a b [] (kept.held ∙ sym (append-nil (held_cells a)))
    (kept_known is_fixed (length a.seat.me.own.held) a b kept) place item knows

-- A look at the item after the last that was taken, which does nothing.

looked : (a c : Bound MailPass) (cells : List ℕ) → Reads [] cells a c → LostTry a c
looked a c cells reads = record {
  leaves = record {
    goes = reads.goes;
    cells = cells;
    held = reads.holds.held;
    known = reads.holds.known;
  };
  pass = reads.pass;
}

pub looked_next : (a b c : Bound MailPass) (latest next : ℕ) → FindsItem a b 0 0 latest
    → FindsNext b c latest next → LostTry a c
looked_next a b c latest next first second =
    let cells = first.cell ∷ second.finds.cell ∷ [] in
    looked a c cells
    (reads_unasked _ cells a c
    (reads_then _ _ (first.cell ∷ []) (second.finds.cell ∷ []) a b c first.reads
    second.finds.reads))

pub looked_last : (a b c : Bound MailPass) (latest : ℕ) → FindsItem a b 0 0 latest
    → FindsLast b c latest → LostTry a c
looked_last a b c latest first none =
    looked a c (first.cell ∷ [])
    (reads_unasked _ (first.cell ∷ []) a c
    (reads_then _ _ (first.cell ∷ []) [] a b c first.reads none.reads))

-- The anchor names an item that no item follows.

pub empty_try : (a b c : Bound MailPass) (latest : ℕ) → IsIn a → FindsItem a b 0 0 latest
    → FindsLast b c latest → EmptyTry a c
empty_try a b c latest is first none =
    let box : target b.seat.me latest ≡ first.cell =
    ap (λ (p : ℕ). target b.seat.me p) first.found_is
    ∙ last_held a b first.cell first.reads.holds.held in
    let both = reads_then _ _ (first.cell ∷ []) [] a b c first.reads none.reads in
    record {
      cell = first.cell;
      leaves = record {
        goes = subst (λ (x : ℕ). Goes (gave_at 0 0 (field.Cell first.cell) ∷
            gave_at x 3 field.Null ∷ []) a c) box
            (subst (λ (x : ℕ). Goes (gave_at x 0 (field.Cell first.cell) ∷
            gave_at (target b.seat.me latest) 3 field.Null ∷ []) a c) is.anchor both.goes);
        cells = first.cell ∷ [];
        held = both.holds.held;
        known = both.holds.known;
      };
      pass = both.pass;
    }

module _ (a b c d : Bound MailPass) (latest next : ℕ) (item : Item) (is : IsIn a)
    (first : FindsItem a b 0 0 latest) (second : FindsNext b c latest next)
    (third : FindsWhole c d next item) where
  in_b : IsIn b
  in_b = reads_in _ (first.cell ∷ []) a b is first.reads

  in_c : IsIn c
  in_c = reads_in _ (second.finds.cell ∷ []) b c in_b second.finds.reads

  in_d : IsIn d
  in_d = reads_in [] [] c d in_c third.reads

  latest_knows : KnowsItem d.seat.me latest first.item
  latest_knows = reads_still [] [] c d third.reads latest first.item
      (reads_still _ (second.finds.cell ∷ []) b c second.finds.reads latest first.item first.knows)

  item_is : item ≡ second.finds.item
  item_is = third.is second.finds.item second.finds.knows

  next_knows : KnowsItem d.seat.me next item
  next_knows = subst (λ (i : Item). KnowsItem d.seat.me next i) (sym item_is)
      (reads_still [] [] c d third.reads next second.finds.item second.finds.knows)

  follows : item.position ≡ first.item.position + 1
  follows = ap (λ (i : Item). i.position) item_is ∙ second.follows first.item first.knows

  abbrev cells : List ℕ
  cells = first.cell ∷ second.finds.cell ∷ []

  all_reads : Reads [] cells a d
  all_reads = reads_unasked _ cells a d
      (reads_then _ [] cells [] a c d
      (reads_then _ _ (first.cell ∷ []) (second.finds.cell ∷ []) a b c first.reads
      second.finds.reads) third.reads)

  -- A cell that was fresh before is neither the anchor nor the next item.

  to_c : Reads [] cells a c
  to_c = reads_unasked _ cells a c
      (reads_then _ _ (first.cell ∷ []) (second.finds.cell ∷ []) a b c first.reads
      second.finds.reads)

  same_target : (place : ℕ) → place < length a.seat.me.own.held
      → target d.seat.me place ≡ target a.seat.me place
  same_target place lt = target_still a d cells all_reads.holds.held place lt

  not_anchor : (place : ℕ) → place < length a.seat.me.own.held
      → known_fresh (known_of a.seat.me place) ≡ true
      → target d.seat.me place ≢ target d.seat.me 0
  not_anchor place lt fresh same =
      let none : false ≡ true =
      sym (first.reads.coherent.anchor place lt (sym (same_target place lt) ∙ same ∙ in_d.anchor))
      ∙ fresh in absurd cc

  not_next : (place : ℕ) → place < length a.seat.me.own.held
      → known_fresh (known_of a.seat.me place) ≡ true
      → target d.seat.me place ≢ target d.seat.me next
  not_next place lt fresh same =
      fresh_apart c.seat.me third.reads.coherent place next second.finds.item
      (let many = many_held a c cells to_c.holds.held in omega (arith, many, lt))
      second.finds.knows
      (fresh_still (known_of a.seat.me place) (known_of c.seat.me place)
      (to_c.holds.known place lt) fresh)
      (target_still a c cells to_c.holds.held place lt ∙ sym (same_target place lt) ∙ same
      ∙ target_still c d [] third.reads.holds.held next second.finds.knows.there)

  pub may_go_on : MayUpdate is_fixed d.seat.me 0 0 (values.Held latest) (values.Held next)
  may_go_on = record {
    inside = in_d.inside;
    there = in_d.some;
    payload = omega arith;
    box = is_box_of (target d.seat.me 0) (known_of d.seat.me 0) in_d.anchor;
    old_named = latest_knows.there;
    new_named = next_knows.there;
    sealed = sealed_value d next next_knows.there
        (ap is_sealed next_knows.known.is);
    spares = λ fixed. in_d.anchor;
  }

  abbrev old : Field
  old = field.Cell (target d.seat.me latest)

  pub picks_go_on : PicksUpdate HoldsMail is_fixed (next_taken old item) d 0 0
      (values.Held latest) (values.Held next)
  picks_go_on m kept presence =
      subst (λ (x : ℕ). Picks HoldsMail is_fixed (next_taken (field.Cell x) item) m.seat.me
      (write_of m 0 0 (values.Held latest) (values.Held next)))
      (cell_same m.seat.me.own.held d.seat.me.own.held kept.held latest)
      (take_picks m.seat.me 0 latest next item record {
        anchor = cell_same m.seat.me.own.held d.seat.me.own.held kept.held 0 ∙ in_d.anchor;
        last = first.item;
        held = item_kept d m kept latest first.item latest_knows;
        follows = follows;
        next_held = item_kept d m kept next item next_knows;
      })

  module _ (e : Bound MailPass) (found : Field)
      (wrote : Updated HoldsMail is_fixed (next_taken old item) d 0 0 (values.Held latest)
      (values.Held next) found e) where
    goes : Goes [] a e
    goes = goes_then all_reads.goes
        (wrote_goes is_fixed HoldsMail (next_taken old item) d e 0 0 (values.Held latest)
        (values.Held next) found wrote)

    held : held_cells e ≡ held_cells a ++ cells
    held = wrote.held ∙ all_reads.holds.held

    known : AllKnown a e
    known place lt =
        still_on is_fixed (known_of a.seat.me place) (known_of d.seat.me place)
        (known_of e.seat.me place) (all_reads.holds.known place lt)
        (λ alike. wrote_known is_fixed HoldsMail (next_taken old item) d e 0 0
        (values.Held latest) (values.Held next) found wrote all_reads.many place
        (let many = many_held a d cells all_reads.holds.held in omega (arith, many, lt))
        (λ fresh. not_anchor place lt (sym alike ∙ fresh))
        (λ fresh other names same. not_next place lt (sym alike ∙ fresh)
        (let is : target d.seat.me next ≡ other = cc in same ∙ sym is)))

    pass_is : (made : Bool) → same_field found old ≡ made
        → e.seat.me.pass ≡ taken_if made item a.seat.me.pass
    pass_is made is_made =
        wrote.pass ∙ ap (λ (b : Bool). taken_if b item d.seat.me.pass) is_made
        ∙ ap (taken_if made item) all_reads.pass

    pub lost_try : same_field found old ≡ false → LostTry a e
    lost_try other = record {
      leaves = record { goes = goes; cells = cells; held = held; known = known };
      pass = pass_is false other;
    }

  pub took_try : (e : Bound MailPass)
      → Updated HoldsMail is_fixed (next_taken old item) d 0 0 (values.Held latest)
      (values.Held next) old e
      → TookTry a e item
  took_try e wrote =
      let at = wrote.at in
      let calm = wrote.calm in
      let from = target d.seat.me latest in
      let box = target d.seat.me next in
      record {
        leaves = record {
          goes = subst (λ (x : ℕ). Goes (wrote_at x 0 old (field.Cell box) old ∷ []) a e)
              in_d.anchor
              (goes_then all_reads.goes
              (wrote_shown is_fixed HoldsMail (next_taken old item) d e 0 0
              (values.Held latest) (values.Held next) old wrote));
          cells = cells;
          held = held e old wrote;
          known = known e old wrote;
        };
        took = record {
          from = from;
          box = box;
          write = record {
            at = at.seat.me;
            before = all_reads.goes.added ++ calm.added;
            trail_before =
                calm_trail (LookAndMarks d.seat.me.number d.seat.me.presence.status
                (values.Held latest) (values.Held next)) d at calm
                ∙ ap (λ (ts : List Taken). ts ++ calm.added) all_reads.goes.trail
                ∙ append_assoc a.seat.me.trail all_reads.goes.added calm.added;
            number_before = calm.kept.number ∙ all_reads.goes.number;
            pass_before = calm.kept.pass ∙ all_reads.pass;
            behind = e.seat.me;
            step = subst (λ (x : ℕ). AtEvent HoldsMail is_fixed at.seat.me
                (event.Write at.seat.me.number 0 0 (field.Cell x) (field.Cell box))
                (next_taken old item) (finds.Field old) e.seat.me)
                (cell_same at.seat.me.own.held d.seat.me.own.held calm.kept.held latest)
                (subst (λ (x : ℕ). AtEvent HoldsMail is_fixed at.seat.me
                (event.Write at.seat.me.number 0 0
                (field_at at.seat.me.own.held (values.Held latest)) (field.Cell x))
                (next_taken old item) (finds.Field old) e.seat.me)
                (cell_same at.seat.me.own.held d.seat.me.own.held calm.kept.held next)
                wrote.event);
            after = [];
            trail_after = sym (append-nil e.seat.me.trail);
          };
          pass = pass_is e old wrote true (same_value old old refl);
        };
      }
