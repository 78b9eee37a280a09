-- A new mailbox, a mutator that comes in, and what a call leaves of it.
use Rattle.std.proofs.Common.{◌≡◌, ◌≤◌, ◌+◌, ℕ, true, List, [], ◌∷◌, length, refl, sym, ◌∙◌}
use Rattle.std.proofs.Common.{Option, Some, None, Result, Ok, Err, IfOk, IfErr, IfSome, IfNone}
use Rattle.std.proofs.Common.{ap, subst, arith}
use Rattle.std.proofs.lemmas.List.{length_push}
use Rattle.cell_words.specs.declared.fields.Field.{Field}
use Rattle.run_limits.specs.declared.TheConstants.{MOST_CLIENTS}
use Rattle.core_machine.specs.declared.events.Event.TheVariants as event
use Rattle.core_machine.specs.declared.events.Found.{Found}
use Rattle.heap_table.specs.Opening.{Opens}
use Rattle.heap_table.specs.Seats.{HeapId, SeatView}
use Rattle.mail_rule.specs.Mail.{HoldsMail}
use Rattle.mail_rule.specs.Opening.{first_rows, first_terms}
use Rattle.mail_rule.specs.Passes.{opening_pass}
use Rattle.mail_rule.specs.declared.items.Item.{Item}
use Rattle.mail_rule.specs.declared.items.Sent.{Sent}
use Rattle.mail_rule.specs.declared.mail_pass.MailPass.{MailPass}
use Rattle.mail_rule.proofs.Openings.{firsts, opened}
use Rattle.mutator_seat.specs.Bound.{Bound, held_cells, takes}
use Rattle.mutator_seat.specs.declared.full.HeapFull.{HeapFull}
use Rattle.trails.specs.Asks.{Ask}
use Rattle.cell_mailbox.specs.Ends.{FindsEmpty, FindsFullHeap, Rests, Returns, Sends, Takes}
use Rattle.mailbox_tests.specs.Ready.{IsNew, IsReady}

pub opens : (cells mutators setting : ℕ) (rows : List (List Field)) → rows ≡ first_rows
    → mutators ≤ MOST_CLIENTS
    → Opens opening_pass HoldsMail
    record { cells = cells; mutators = mutators; setting = setting; first = rows }
opens cells mutators setting rows is some =
    subst (λ (first : List (List Field)). Opens opening_pass HoldsMail
    record { cells = cells; mutators = mutators; setting = setting; first = first }) (sym is) (
      first_terms,
      firsts,
      opened record { cells = cells; mutators = mutators; setting = setting; first = first_rows }
          record { first = refl; few = some },
    )

pub ready_first : (heap : HeapId) (seat : SeatView MailPass) (number : ℕ) (a b : Bound MailPass)
    (found : Found) → IsNew heap number seat → a ≡ record { heap = heap; seat = seat }
    → b ≡ takes a (event.Begin a.seat.me.number) found
    → b.seat.me.presence.inside ≡ true → held_cells b ≡ 0 ∷ [] → IsReady number 0 b
ready_first heap seat number a b found new is told inside held = record {
  inside = inside;
  held = held;
  room = ap (λ (m : Bound MailPass). m.seat.me.room) told
      ∙ ap (λ (m : Bound MailPass). m.seat.me.room) is ∙ new.room;
  number_is = ap (λ (m : Bound MailPass). m.seat.me.number) told
      ∙ ap (λ (m : Bound MailPass). m.seat.me.number) is ∙ new.number_is;
  few =
      let none = ap (λ (m : Bound MailPass). length m.seat.me.pass.sends) told
      ∙ ap (λ (m : Bound MailPass). length m.seat.me.pass.sends) is
      ∙ ap (λ (ss : List Sent). length ss) new.nothing_sent in omega (arith, none);
}

still_ready : (number sends more : ℕ) (asks : List Ask) (a b : Bound MailPass)
    → IsReady number sends a → Returns asks a b → length b.seat.me.pass.sends ≤ more
    → IsReady number more b
still_ready number sends more asks a b ready returns few = record {
  inside = returns.goes.inside ∙ ready.inside;
  held = returns.held ∙ ready.held;
  room = returns.goes.room ∙ ready.room;
  number_is = returns.goes.number ∙ ready.number_is;
  few = few;
}

pub sent_ready : (number sends value : ℕ) (a b : Bound MailPass) → IsReady number sends a
    → (r : Result ℕ HeapFull)
    → IfOk r (λ position. Sends a b (record { position = position; value = value }))
    → IfErr r (λ full. FindsFullHeap a b full) → IsReady number (sends + 1) b
sent_ready number sends value a b ready (Ok position) sent full =
    still_ready number sends (sends + 1) [] a b ready sent.returns
    (let more = ap (λ (p : MailPass). length p.sends) sent.sent_once.pass
    ∙ length_push a.seat.me.pass.sends (record { position = position; value = value }) in
    let few = ready.few in omega (arith, more, few))
sent_ready number sends value a b ready (Err cause) sent full =
    still_ready number sends (sends + 1) [] a b ready full.returns
    (let same = ap (λ (p : MailPass). length p.sends) full.pass in
    let few = ready.few in omega (arith, same, few))

pub taken_ready : (number sends : ℕ) (a b : Bound MailPass) → IsReady number sends a
    → (r : Option Item) → IfSome r (λ item. Takes a b item) → IfNone r (FindsEmpty a b)
    → IsReady number sends b
taken_ready number sends a b ready (Some item) took none =
    still_ready number sends sends _ a b ready took.returns
    (let same = ap (λ (p : MailPass). length p.sends) took.took.pass in
    let few = ready.few in omega (arith, same, few))
taken_ready number sends a b ready None took none =
    still_ready number sends sends _ a b ready none.returns
    (let same = ap (λ (p : MailPass). length p.sends) none.pass in
    let few = ready.few in omega (arith, same, few))

pub waited_ready : (number sends : ℕ) (a b : Bound MailPass) → IsReady number sends a
    → Rests a b → IsReady number sends b
waited_ready number sends a b ready rests =
    still_ready number sends sends [] a b ready rests.returns
    (let same = ap (λ (p : MailPass). length p.sends) rests.pass in
    let few = ready.few in omega (arith, same, few))
