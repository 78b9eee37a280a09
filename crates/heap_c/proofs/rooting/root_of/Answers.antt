use Rattle.std.proofs.Common.{arith}
use Rattle.heap_c.proofs.Naming.{no_root, no_root_value}
use Rattle.heap_c.proofs.rooting.root_of.Goals as goal

pub returns-in-None-clause-means : goal.returns-in-None-clause-means
returns-in-None-clause-means c =
    no_root c.args.turns c.args.held c.args.sorts.now c.args.local.now c.args.val.tag c.args.val.n
    c.in-None.ensures.names (omega (arith, c.if-val-eq-REC.true))

pub returns-in-None-value_of-clause-means : goal.returns-in-None-value_of-clause-means
returns-in-None-value_of-clause-means c =
    no_root_value c.args.turns c.args.held c.args.sorts.now c.args.local.now c.args.val
    (λ is. let other = c.if-val-eq-REC.false in omega (arith, is, other))
    c.in-None-value_of.ensures.means
