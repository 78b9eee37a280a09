use Rattle.std.proofs.Common.{sym, ◌∙◌, ap}
use Rattle.cell_words.specs.Modes.{requested_of}
use Rattle.cell_words.specs.declared.controls.Control.{Control}
use Rattle.cell_words.specs.declared.presences.Status.{Status}
use Rattle.core_machine.specs.Words.{same_status}
use Rattle.heap_rule.specs.declared.view.View.{View}
use Rattle.collector.specs.Bound.{control_of}
use Rattle.collector.proofs.Hearing.{answered_already, hears_one, hears_two, is_inside}
use Rattle.collector.proofs.collecting.Collector.try_answer.Goals as goal

pub returns-then-same_status-clause-hears : goal.returns-then-same_status-clause-hears
returns-then-same_status-clause-hears g c =
    let wanted = c.requested.ensures.status
    ∙ ap (λ (x : Control). requested_of x.stage) (c.control.ensures.control
    ∙ ap (λ (v : View _). v.control) c.poll_once-presence.ensures.told.new) in
    hears_one g.P.Keeping.fixed c.args.self.now c.poll_once-presence.new.self
    c.args.mutator c.poll_once-presence.result
    c.poll_once-presence.ensures.heap c.poll_once-presence.ensures.table
    c.poll_once-presence.ensures.stack c.poll_once-presence.ensures.told
    c.poll_once-presence.ensures.known
    (answered_already (requested_of (control_of c.args.self.now).stage)
    c.poll_once-presence.result
    (ap (λ (s : Status). same_status c.poll_once-presence.result.status s) (sym wanted)
    ∙ sym c.same_status.ensures.same ∙ c.if-same_status.true))

pub returns-then-presence-clause-hears : goal.returns-then-presence-clause-hears
returns-then-presence-clause-hears g c =
    hears_one g.P.Keeping.fixed c.args.self.now c.poll_once-presence.new.self
    c.args.mutator c.poll_once-presence.result
    c.poll_once-presence.ensures.heap c.poll_once-presence.ensures.table
    c.poll_once-presence.ensures.stack c.poll_once-presence.ensures.told
    c.poll_once-presence.ensures.known
    (is_inside (requested_of (control_of c.args.self.now).stage) c.poll_once-presence.result
    c.if-presence.true)

pub returns-clause-hears : goal.returns-clause-hears
returns-clause-hears g c =
    hears_two g.P.Keeping.fixed c.args.self.now c.poll_once-presence.new.self
    c.answer_out_once-answered.new.self c.args.mutator c.poll_once-presence.result
    c.answer_out_once-answered.ensures.told.found
    c.poll_once-presence.ensures.heap c.poll_once-presence.ensures.table
    c.poll_once-presence.ensures.stack c.poll_once-presence.ensures.told
    c.poll_once-presence.ensures.known
    c.answer_out_once-answered.ensures.heap c.answer_out_once-answered.ensures.table
    c.answer_out_once-answered.ensures.stack c.answer_out_once-answered.ensures.told.told
    c.answer_out_once-answered.ensures.told.known
