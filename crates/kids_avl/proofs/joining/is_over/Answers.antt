use Rattle.std.proofs.Common.{◌-◌, arith}
use Rattle.std.proofs.lemmas.Bool.{lt-ltb, ltb-true}
use Rattle.kids_avl.proofs.joining.is_over.Goals as goal

pub returns-then-low-high : goal.returns-then-low-high
returns-then-low-high c =
    let over = c.args.high - c.args.low in
    (λ is. omega (arith, ltb-true 1 over is), λ above. lt-ltb 1 over (omega arith))
