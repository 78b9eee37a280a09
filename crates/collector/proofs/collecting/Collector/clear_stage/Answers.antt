use Rattle.std.proofs.Common.{refl, ◌∙◌, ap}
use Rattle.core_machine.specs.Collector.{Collector, nobody_answered}
use Rattle.core_machine.specs.declared.events.Event.TheVariants as event
use Rattle.core_machine.specs.declared.events.Found.TheVariants as finds
use Rattle.cell_words.specs.declared.controls.Stage.TheVariants as stage
use Rattle.collector.specs.Bound.{Bound, part_of}
use Rattle.collector.specs.Counting.{nothing}
use Rattle.collector.proofs.Joining.{does_and, does_still}
use Rattle.collector.proofs.collecting.Collector.clear_stage.Goals as goal

pub returns-clause-does : goal.returns-clause-does
returns-clause-does g c =
    does_and nothing c.args.self.now c.clear_all.new.self c.post_once.new.self
    c.clear_all.ensures.does
    (does_still c.clear_all.new.self c.post_once.new.self (event.Post stage.Sync2)
    finds.Stored refl refl c.post_once.ensures.told c.post_once.ensures.known)

pub returns-clause-nobody : goal.returns-clause-nobody
returns-clause-nobody g c =
    ap (λ (x : Bound _). (part_of x).answered) c.post_once.ensures.told
    ∙ ap (λ (p : Collector). nobody_answered p.answered) c.clear_all.ensures.part
