use Rattle.example_root.proofs.Reading.{down}
use Rattle.example_root.proofs.working.read_back.Goals as goal

pub returns-clause-reads : goal.returns-clause-reads
returns-clause-reads c =
    down c.read_number.result c.args.m.now c.hold_box.new.m c.hold_kept.new.m c.read_number.new.m
    c.hold_box.ensures.reads c.hold_kept.ensures.reads c.read_number.ensures.reads
