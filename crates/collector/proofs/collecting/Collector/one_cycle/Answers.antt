use Rattle.std.proofs.Common.{false, ℕ, replicate, refl, sym, ◌∙◌, ap, subst}
use Rattle.cell_words.specs.declared.controls.Stage.TheVariants as stage
use Rattle.core_machine.specs.declared.events.Event.TheVariants as event
use Rattle.core_machine.specs.declared.events.Found.TheVariants as finds
use Rattle.collector.specs.Bound.{Bound, mutators_of}
use Rattle.collector.specs.Counting.{nothing}
use Rattle.collector.specs.Replay.{work_of}
use Rattle.collector.specs.Stack.{emptied}
use Rattle.collector.specs.Stretches.{Stretch}
use Rattle.free_cells.specs.Hints.{counts_of}
use Rattle.collector.proofs.Cycling.{MadeBy, heard_of}
use Rattle.collector.proofs.Joining.{does_still, stretch_then}
use Rattle.collector.proofs.Offered.{offers_after, offers_and}
use Rattle.collector.proofs.collecting.Collector.one_cycle.Goals as goal

pub work-made-requires-clause-nobody : goal.work-made-requires-clause-nobody
work-made-requires-clause-nobody g c =
    c.begin.ensures.nobody
    ∙ ap (λ (n : ℕ). replicate n false)
    (sym (ap (λ (x : Bound _). mutators_of x) c.begin.ensures.told))

pub returns-clause-heard : goal.returns-clause-heard
returns-clause-heard g c =
    let many = ap (λ (x : Bound _). mutators_of x) c.begin.ensures.told in
    heard_of c.work-made.result.over (mutators_of c.args.self.now) c.work-made.result.report
    c.args.self.now c.begin.new.self c.work-made.new.self c.post_once.new.self
    c.begin.ensures.told c.begin.ensures.known
    (subst (λ (n : ℕ). Stretch (MadeBy (work_of c.begin.new.self) (work_of c.work-made.new.self)
    c.work-made.result.report c.work-made.result.over n) c.begin.new.self c.work-made.new.self)
    many c.work-made.ensures.made)
    c.post_once.ensures.told c.post_once.ensures.known

pub returns-clause-offered : goal.returns-clause-offered
returns-clause-offered g c =
    let from = record c.args.self.now { stack = emptied c.args.self.now.stack } in
    let begins = does_still from c.begin.new.self (event.Post stage.Sync1) finds.Stored refl refl
    c.begin.ensures.told c.begin.ensures.known in
    offers_and (λ events. Unit {0}) from c.work-made.new.self c.post_once.new.self
    (counts_of c.args.hints.now) (counts_of c.work-made.new.hints) (event.Post stage.Idle)
    finds.Stored refl refl c.post_once.ensures.told c.post_once.ensures.known
    (stretch_then _ _ (λ events. Unit {0}) from c.begin.new.self c.work-made.new.self
    (λ xs ys first second. tt) begins c.work-made.ensures.made)
    (offers_after nothing _ from c.begin.new.self c.work-made.new.self
    (counts_of c.args.hints.now) (counts_of c.work-made.new.hints) refl begins
    c.work-made.ensures.made c.work-made.ensures.offered)
