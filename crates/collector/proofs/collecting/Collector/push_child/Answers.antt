use Rattle.std.proofs.Common.{Bool, ℕ, Option, sym, ◌∙◌, ap}
use Rattle.collector.specs.Counting.{plus, shades_one}
use Rattle.collector.specs.Pushes.{with_child}
use Rattle.collector.proofs.collecting.Collector.push_child.Goals as goal

pub returns-in-Some-clause-report : goal.returns-in-Some-clause-report
returns-in-Some-clause-report g c =
    c.shaded.ensures.report
    ∙ ap (λ (b : Bool). plus c.args.so_far (shades_one b)) c.push-pushed.ensures.room
    ∙ ap (λ (child : Option ℕ). with_child c.args.so_far child c.args.self.now.stack)
    (sym c.in-Some.is)
