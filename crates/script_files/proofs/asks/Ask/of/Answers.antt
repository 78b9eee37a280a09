use Rattle.std.proofs.Common.{refl, arith, ◌≡◌, ◌%◌}
use Rattle.script_files.proofs.asks.Ask.of.Goals as goal

pub returns-then-rest-eq4 : goal.returns-then-rest-eq4
returns-then-rest-eq4 c =
    let is : c.args.first % 8 ≡ 4 = omega (arith, c.if-rest-eq4.true) in
    rw is refl
