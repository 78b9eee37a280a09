use Rattle.std.proofs.Common.{Ok}
use Rattle.dump_text.specs.declared.line.Held.TheVariants as held
use Rattle.dump_text.proofs.Nexts.{faulty_turn, turned}
use Rattle.dump_text.proofs.grow.read_turn.Goals as goal

pub returns-in-Ok-End : goal.returns-in-Ok-End
returns-in-Ok-End c =
    turned c.args.tree.now c.count.result c.args.has_feed c.args.line.now (Ok held.End)
    (c.count.ensures.exact c.requires.lawful)
    (rw c.in-Ok-End.field-0-is at c.in-Ok-End.ensures)

pub returns-in-Err : goal.returns-in-Err
returns-in-Err c =
    faulty_turn c.in-Err.error c.args.tree.now c.count.result c.args.has_feed c.args.line.now
    (c.count.ensures.exact c.requires.lawful) c.in-Err.ensures
