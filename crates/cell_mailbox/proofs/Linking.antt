-- One try of a send: the claimed box is put after the last item.
use Rattle.std.proofs.Common.{◌≡◌, ◌≢◌, ◌<◌, ◌+◌, ℕ, Bool, true, false, List, [], ◌∷◌, ◌++◌}
use Rattle.std.proofs.Common.{length, refl, sym, ◌∙◌, ap, subst, arith}
use Rattle.std.proofs.lemmas.List.{append_assoc, append-nil}
use Rattle.cell_words.specs.declared.fields.Field.{Field}
use Rattle.cell_words.specs.declared.fields.Field.TheVariants as field
use Rattle.run_limits.specs.declared.TheConstants.{MOST_COMMANDS}
use Rattle.core_machine.specs.declared.events.Event.TheVariants as event
use Rattle.core_machine.specs.declared.events.Found.TheVariants as finds
use Rattle.core_machine.specs.declared.events.Taken.{Taken}
use Rattle.core_machine.specs.Words.{same_field}
use Rattle.heap_rule.specs.declared.known.Known.{Known}
use Rattle.heap_rule.specs.declared.known.Known.TheVariants as knows
use Rattle.heap_rule.specs.Asks.{IsBox, is_sealed, known_of, target}
use Rattle.heap_rule.specs.Lore.{known_at}
use Rattle.mail_rule.specs.Knowing.{KnowsItem, MaySend, item_fields, next_sent}
use Rattle.mail_rule.specs.Mail.{HoldsMail, is_fixed}
use Rattle.mail_rule.specs.Passes.{sent_if}
use Rattle.mail_rule.specs.declared.items.Item.{Item}
use Rattle.mail_rule.specs.declared.items.Sent.{Sent}
use Rattle.mail_rule.specs.declared.mail_pass.MailPass.{MailPass}
use Rattle.mail_rule.proofs.Picking.{send_picks}
use Rattle.mutator_events.specs.declared.values.Value.TheVariants as values
use Rattle.mutator_events.specs.Events.{AtEvent}
use Rattle.mutator_seat.specs.Bound.{Bound, held_cells}
use Rattle.mutator_seat.specs.Stretches.{Calm, Kept}
use Rattle.mutator_seat.specs.Writes.{LookAndMarks, MayUpdate, PicksUpdate, Updated}
use Rattle.mutator_seat.specs.declared.full.HeapFull.{HeapFull}
use Rattle.mutator_seat.proofs.Writes.{cell_same, many_same}
use Rattle.trails.specs.Claims.{FindsFull}
use Rattle.held_places.specs.Calls.{Goes, IsIn, StaysKnown, StillKnown, known_fresh}
use Rattle.held_places.proofs.Going.{calm_goes, calm_trail, goes_none, goes_then, kept_known}
use Rattle.held_places.proofs.Going.{known_then, many_held, still_on, still_same, still_then}
use Rattle.held_places.proofs.Going.{target_still}
use Rattle.held_places.proofs.ReadValues.{last_held}
use Rattle.held_places.proofs.Writing.{wrote_goes, wrote_known, wrote_shown}
use Rattle.cell_mailbox.specs.Ends.{AllKnown, FullTry, LostTry, SentTry}
use Rattle.cell_making.specs.Makes.{MakesBox}
use Rattle.cell_making.proofs.Naming.{sealed_value}
use Rattle.cell_mailbox.specs.Makes.{item_values}
use Rattle.cell_mailbox.specs.Pacing.{Prompt}
use Rattle.cell_mailbox.specs.Walks.{EndsAt, Walked}
use Rattle.cell_mailbox.proofs.Finding.{item_still}
use Rattle.cell_mailbox.proofs.Making.{names_none}
use Rattle.cell_mailbox.proofs.Trying.{item_kept}

-- a claim that found the heap full
pub full_try : (a b c : Bound MailPass) (held position : ℕ) → EndsAt a b held position
    → (full : HeapFull) → Calm (FindsFull b.seat.me.number b.seat.me.shape.cells full.off_duty
    full.began full.ended) b c
    → FullTry a c full
full_try a b c held position ends full calm = record {
  leaves = record {
    goes = goes_then ends.stands.goes (calm_goes _ b c calm);
    cells = ends.stands.cell ∷ [];
    held = calm.kept.held ∙ ends.stands.cells;
    known = known_then is_fixed (length a.seat.me.own.held) a b c ends.stands.known
        (kept_known is_fixed (length a.seat.me.own.held) b c calm.kept);
  };
  pass = calm.kept.pass ∙ ends.stands.pass;
  from = b;
  to = c;
  before = ends.stands.goes;
  number_is = ends.stands.goes.number;
  shape_is = ends.stands.goes.shape;
  stretch = calm;
  after = goes_none c;
}

pub walked_full : (a b c : Bound MailPass) (held position : ℕ) → EndsAt a b held position
    → Prompt a b → (full : HeapFull)
    → Calm (FindsFull b.seat.me.number b.seat.me.shape.cells full.off_duty full.began full.ended)
    b c
    → Walked a c
walked_full a b c held position ends prompt full calm = record {
  from = a;
  to = b;
  held = held;
  position = position;
  before = goes_none a;
  ends = ends;
  prompt = prompt;
  after = calm_goes _ b c calm;
}

module _ (a b d : Bound MailPass) (held position fresh : ℕ) (inside : IsIn a)
    (is : held ≡ length a.seat.me.own.held) (ends : EndsAt a b held position) (item : Item)
    (made : MakesBox b fresh (item_values item) d) (position_is : item.position ≡ position + 1)
    (sender_is : item.sender ≡ a.seat.me.number + 1)
    (few : length a.seat.me.pass.sends < MOST_COMMANDS) where
  abbrev sent : Sent
  sent = record { position = item.position; value = item.value }

  last_there : held < length b.seat.me.own.held
  last_there =
      let one = many_held a b (ends.stands.cell ∷ []) ends.stands.cells in omega (arith, is, one)

  -- an earlier place is one of those before the box
  before : (place : ℕ) → place < length a.seat.me.own.held → place < length b.seat.me.own.held
  before place lt =
      let many = many_held a b (ends.stands.cell ∷ []) ends.stands.cells in omega (arith, many, lt)

  -- the box names no cell, so all is known as it was
  made_known : StaysKnown is_fixed (length b.seat.me.own.held) b d
  made_known place lt =
      subst (λ (k : Known). StillKnown is_fixed (known_of b.seat.me place) k)
      (sym (made.known place lt
      (λ is_fresh i other below names same. names_none item i other names)))
      (still_same is_fixed (known_of b.seat.me place))

  last_knows : KnowsItem d.seat.me held ends.stands.item
  last_knows = item_still b d (made.cell ∷ []) made.held made_known held ends.stands.item
      ends.stands.knows

  fresh_there : fresh < length d.seat.me.own.held
  fresh_there =
      let one = many_held b d (made.cell ∷ []) made.held in
      let placed = made.place_is in omega (arith, one, placed)

  box_cell : target d.seat.me fresh ≡ made.cell
  box_cell = ap (λ (n : ℕ). target d.seat.me n) made.place_is
      ∙ last_held b d made.cell made.held

  goes_d : Goes [] a d
  goes_d = goes_then ends.stands.goes made.goes

  pass_d : d.seat.me.pass ≡ a.seat.me.pass
  pass_d = made.pass ∙ ends.stands.pass

  abbrev cells : List ℕ
  cells = (ends.stands.cell ∷ []) ++ made.cell ∷ []

  held_d : held_cells d ≡ held_cells a ++ cells
  held_d = made.held
      ∙ ap (λ (cs : List ℕ). cs ++ made.cell ∷ []) ends.stands.cells
      ∙ append_assoc (held_cells a) (ends.stands.cell ∷ []) (made.cell ∷ [])

  known_d : AllKnown a d
  known_d place lt =
      still_then is_fixed (known_of a.seat.me place) (known_of b.seat.me place)
      (known_of d.seat.me place) (ends.stands.known place lt) (made_known place (before place lt))

  -- A cell that was fresh before is neither the last item nor the new box.

  not_last : (place : ℕ) → place < length a.seat.me.own.held
      → known_fresh (known_of a.seat.me place) ≡ true
      → target d.seat.me place ≢ target d.seat.me held
  not_last place lt is_fresh same =
      ends.apart place lt is_fresh
      (sym (target_still a d cells held_d place lt) ∙ same
      ∙ target_still b d (made.cell ∷ []) made.held held last_there)

  not_box : (place : ℕ) → place < length a.seat.me.own.held
      → target d.seat.me place ≢ target d.seat.me fresh
  not_box place lt same =
      made.is_new place (before place lt)
      (sym (target_still b d (made.cell ∷ []) made.held place (before place lt)) ∙ same ∙ box_cell)

  pub may_link : MayUpdate is_fixed d.seat.me held 3 values.Null (values.Held fresh)
  may_link = record {
    inside = goes_d.inside ∙ inside.inside;
    there = last_knows.there;
    payload = omega arith;
    box = subst (λ (k : Known). IsBox (target d.seat.me held) k) (sym last_knows.known.is) tt;
    old_named = tt;
    new_named = fresh_there;
    sealed = sealed_value d fresh fresh_there (ap is_sealed made.box);
    spares = λ fixed. absurd cc;
  }

  may_send : (m : Bound MailPass) → Kept d m → MaySend m.seat.me held fresh sent
  may_send m kept = record {
    last = ends.stands.item;
    held = item_kept d m kept held ends.stands.item last_knows;
    follows = position_is ∙ ap (λ (n : ℕ). n + 1) ends.position_is;
    box_there = subst (λ (n : ℕ). fresh < n)
        (sym (many_same m.seat.me.own.held d.seat.me.own.held kept.held)) fresh_there;
    box_is = ap (λ (ks : List Known). known_at ks fresh) kept.known ∙ made.box
        ∙ ap (λ (n : ℕ). knows.Fresh (item_fields record {
          position = item.position;
          sender = n;
          value = item.value;
        }))
        (sender_is
        ∙ ap (λ (n : ℕ). n + 1) (sym goes_d.number ∙ sym kept.number));
    few = subst (λ (p : MailPass). length p.sends < MOST_COMMANDS)
        (sym (kept.pass ∙ pass_d)) few;
  }

  pub picks_link : PicksUpdate HoldsMail is_fixed (next_sent sent) d held 3 values.Null
      (values.Held fresh)
  picks_link m kept presence = send_picks m.seat.me held fresh sent (may_send m kept)

  module _ (e : Bound MailPass) (found : Field)
      (wrote : Updated HoldsMail is_fixed (next_sent sent) d held 3 values.Null
      (values.Held fresh) found e) where
    goes : Goes [] a e
    goes = goes_then goes_d
        (wrote_goes is_fixed HoldsMail (next_sent sent) d e held 3 values.Null
        (values.Held fresh) found wrote)

    known_is : AllKnown a e
    known_is place lt =
        still_on is_fixed (known_of a.seat.me place) (known_of d.seat.me place)
        (known_of e.seat.me place) (known_d place lt)
        (λ alike. wrote_known is_fixed HoldsMail (next_sent sent) d e held 3 values.Null
        (values.Held fresh) found wrote made.many place
        (let many = many_held a d cells held_d in omega (arith, many, lt))
        (λ is_fresh. not_last place lt (sym alike ∙ is_fresh))
        (λ is_fresh other names same. not_box place lt
        (let box : target d.seat.me fresh ≡ other = cc in same ∙ sym box)))

    pass_is : (made_it : Bool) → same_field found field.Null ≡ made_it
        → e.seat.me.pass ≡ sent_if made_it sent a.seat.me.pass
    pass_is made_it how =
        wrote.pass ∙ ap (λ (x : Bool). sent_if x sent d.seat.me.pass) how
        ∙ ap (sent_if made_it sent) pass_d

    pub walked_linked : Prompt a b → Walked a e
    walked_linked prompt = record {
      from = a;
      to = b;
      held = held;
      position = position;
      before = goes_none a;
      ends = ends;
      prompt = prompt;
      after = goes_then made.goes
          (wrote_goes is_fixed HoldsMail (next_sent sent) d e held 3 values.Null
          (values.Held fresh) found wrote);
    }

    pub lost_post : same_field found field.Null ≡ false → LostTry a e
    lost_post other = record {
      leaves = record {
        goes = goes;
        cells = cells;
        held = wrote.held ∙ held_d;
        known = known_is;
      };
      pass = pass_is false other;
    }

  pub sent_post : (e : Bound MailPass)
      → Updated HoldsMail is_fixed (next_sent sent) d held 3 values.Null (values.Held fresh)
      field.Null e
      → SentTry a e sent
  sent_post e wrote =
      let at = wrote.at in
      let calm = wrote.calm in
      record {
        last = target d.seat.me held;
        leaves = record {
          goes = goes_then goes_d
              (wrote_shown is_fixed HoldsMail (next_sent sent) d e held 3 values.Null
              (values.Held fresh) field.Null wrote);
          cells = cells;
          held = wrote.held ∙ held_d;
          known = known_is e field.Null wrote;
        };
        sent_once = record {
          place = held;
          box = target d.seat.me fresh;
          write = record {
            at = at.seat.me;
            before = goes_d.added ++ calm.added;
            trail_before =
                calm_trail (LookAndMarks d.seat.me.number d.seat.me.presence.status
                values.Null (values.Held fresh)) d at calm
                ∙ ap (λ (ts : List Taken). ts ++ calm.added) goes_d.trail
                ∙ append_assoc a.seat.me.trail goes_d.added calm.added;
            number_before = calm.kept.number ∙ goes_d.number;
            pass_before = calm.kept.pass ∙ pass_d;
            behind = e.seat.me;
            step = subst (λ (x : ℕ). AtEvent HoldsMail is_fixed at.seat.me
                (event.Write at.seat.me.number held 3 field.Null (field.Cell x))
                (next_sent sent) (finds.Field field.Null) e.seat.me)
                (cell_same at.seat.me.own.held d.seat.me.own.held calm.kept.held fresh)
                wrote.event;
            after = [];
            trail_after = sym (append-nil e.seat.me.trail);
          };
          pass = pass_is e field.Null wrote true refl;
        };
      }
