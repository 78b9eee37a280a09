use Rattle.std.proofs.Common.{◌∙◌, ap, subst}
use Rattle.cell_heap.specs.Telling.{FindsKnown}
use Rattle.cell_words.specs.declared.controls.Stage.TheVariants as stage
use Rattle.core_machine.specs.Collector.{nobody_answered}
use Rattle.core_machine.specs.declared.events.Event.TheVariants as event
use Rattle.core_machine.specs.declared.events.Found.TheVariants as finds
use Rattle.collector.specs.Bound.{Bound, mutators_of, part_of}
use Rattle.collector.proofs.Answered.{nobody_now}
use Rattle.collector.proofs.collecting.Collector.begin.Goals as goal

pub returns-clause-nobody : goal.returns-clause-nobody
returns-clause-nobody g c =
    ap (λ (x : Bound _). (part_of x).answered) c.post_once.ensures.told
    ∙ ap (λ (x : Bound _). nobody_answered (part_of x).answered) c.empty_stack.ensures.none
    ∙ nobody_now (part_of c.args.self.now).answered (mutators_of c.args.self.now)
    (c.mutators-mutators.ensures.answers ∙ c.mutators-mutators.ensures.mutators)

pub returns-clause-known : goal.returns-clause-known
returns-clause-known g c =
    subst (λ (x : Bound _). FindsKnown x.seat.me (event.Post stage.Sync1) finds.Stored)
    c.empty_stack.ensures.none c.post_once.ensures.known
