use Rattle.std.proofs.Common.{◌≡◌, ◌<◌, ℕ, refl, subst, sym, ◌∙◌, ap}
use Rattle.cell_heap.proofs.Answering.{answers_out, exchanges_out}
use Rattle.cell_heap.proofs.Changes.{answers}
use Rattle.cell_heap.proofs.Joined.{joined_over}
use Rattle.cell_heap.proofs.Kept.{kept}
use Rattle.cell_heap.proofs.Made.{at_event, finds_known, finds_valid, made}
use Rattle.cell_heap.proofs.Owed.{below, owes}
use Rattle.cell_words.specs.Modes.{requested_of}
use Rattle.cell_words.specs.declared.controls.Control.{Control}
use Rattle.cell_words.specs.declared.presences.Status.{Status}
use Rattle.core_machine.specs.State.{presence_of}
use Rattle.core_machine.proofs.Conditions.{answer_out_needs}
use Rattle.core_machine.specs.WordOperations.{Exchange}
use Rattle.core_machine.specs.Words.{may_answer_out}
use Rattle.core_machine.specs.declared.events.Event.TheVariants as event
use Rattle.core_machine.specs.declared.events.Found.TheVariants as finds
use Rattle.heap_table.specs.Seats.{SeatView}
use Rattle.cell_heap.proofs.seat.ColSeat.answer_out.Goals as goal

pub collector_exchange-found-requires-clause-word : goal.collector_exchange-found-requires-clause-word
collector_exchange-found-requires-clause-word g c =
    below c.args.heap.now (event.AnswerOut c.args.mutator c.args.over) c.self.view_is
    c.requires.seat c.self.invariant refl c.requires.can
    (sym (c.status_word-word.ensures.index 0))

pub collector_exchange-found-requires-clause-kind : goal.collector_exchange-found-requires-clause-kind
collector_exchange-found-requires-clause-kind g c =
    owes g.P.Keeping.fixed
    (event.AnswerOut c.args.mutator c.args.over) c.status_word-word.result
    (Exchange c.pack_presence-old.result c.pack_presence-new.result) c.self.view_is refl
    c.requires.can (sym (c.status_word-word.ensures.index 0))
    (exchanges_out c.self.inside.seat.me.control c.self.inside.control c.requested-wanted.result
    c.status_before-before.result c.args.over c.pack_presence-old.result c.pack_presence-new.result
    c.self.invariant.control_is c.requested-wanted.ensures.status
    c.status_before-before.ensures.status c.pack_presence-old.ensures.word
    c.pack_presence-new.ensures.word)

pub invariant_of-self : goal.invariant_of-self
invariant_of-self g c =
    let step = c.collector_exchange-found.ensures.step in
    let me = c.self.inside.seat.me in
    kept (made c.self.view_is c.collector_exchange-found.ensures.same step)
    c.self.invariant refl _ refl _
    (answers me.part c.args.mutator
    (may_answer_out (requested_of me.control.stage) c.args.over
    (presence_of step.core c.args.mutator))
    ∙ c.self.invariant.progress_is)

pub returns-clause-told : goal.returns-clause-told
returns-clause-told g c =
    let step = c.collector_exchange-found.ensures.step in
    let me = c.self.inside.seat.me in
    let found = presence_of step.core c.args.mutator in
    let wanted : c.requested-wanted.result ≡ requested_of c.args.self.now.me.control.stage =
    c.requested-wanted.ensures.status
    ∙ ap (λ (x : Control). requested_of x.stage) (sym c.self.invariant.control_is)
    ∙ ap (λ (s : SeatView _). requested_of s.me.control.stage) c.self.view_is in
    record {
      found = found;
      valid = finds_valid (made c.self.view_is c.collector_exchange-found.ensures.same step);
      known = finds_known (made c.self.view_is c.collector_exchange-found.ensures.same step)
          (finds.Presence found) refl
          (joined_over me c.args.mutator _ _ found
          (subst (λ (n : ℕ). c.args.mutator < n) step.ours.mutators
          (answer_out_needs step.core c.args.mutator step.happens).mutator)
          c.collector_exchange-found.ensures.joined
          (c.status_word-word.ensures.index me.shape.mutators) step.says);
      told = at_event (made c.self.view_is c.collector_exchange-found.ensures.same step)
          (finds.Presence found) refl;
      answered = answers_out found c.requested-wanted.result c.status_before-before.result
          c.args.over c.collector_exchange-found.result c.pack_presence-old.result
          step.says c.status_before-before.ensures.status c.pack_presence-old.ensures.word
          ∙ ap (λ (s : Status). may_answer_out s c.args.over found) wanted;
    }
