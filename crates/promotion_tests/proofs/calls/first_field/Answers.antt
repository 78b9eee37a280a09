use Rattle.heap_rule.proofs.Picking.{read_picks}
use Rattle.heap_rule.specs.NoRule.{anything_holds, no_field_is_fixed}
use Rattle.promotion_tests.proofs.calls.first_field.Goals as goal

pub read-requires-clause-rule : goal.read-requires-clause-rule
read-requires-clause-rule c =
    read_picks anything_holds no_field_is_fixed c.args.m.now.seat.me c.args.m.now.seat.me.number
    c.args.place 0
