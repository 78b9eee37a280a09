use Rattle.std.proofs.Common.{arith}
use Rattle.mutator_threads.proofs.closing.finish_service.Goals as goal

pub returns-in-Some-clause-freed : goal.returns-in-Some-clause-freed
returns-in-Some-clause-freed g c =
    let none = c.requires.none c.in-Some.standby c.in-Some.is in
    let late = c.serve_late.ensures.freed in
    omega (arith, none, late)
