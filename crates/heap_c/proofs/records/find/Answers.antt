use Rattle.std.proofs.Common.{arith}
use Rattle.heap_c.proofs.Naming.{names_found}
use Rattle.heap_c.proofs.records.find.Goals as goal

pub returns-then-tag-eq-REC-clause-names : goal.returns-then-tag-eq-REC-clause-names
returns-then-tag-eq-REC-clause-names c =
    names_found c.args.local.now c.args.tag c.args.n c.find.result
    (omega (arith, c.if-tag-eq-REC.true))
    (omega (arith, c.len-len.type_inv, c.len-len.ensures.count)) c.find.ensures.found
    c.find.ensures.current c.find.ensures.stands c.find.ensures.none
