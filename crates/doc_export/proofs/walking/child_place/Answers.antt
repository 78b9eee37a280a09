use Rattle.std.proofs.Common.{refl}
use Rattle.doc_export.proofs.Keeping.{keeps_left}
use Rattle.doc_export.proofs.Turns.{no_minor}
use Rattle.doc_export.proofs.walking.child_place.Goals as goal

pub unreachable-requires : goal.unreachable-requires
unreachable-requires c =
    no_minor c.in-Some-Minor.field-0 c.in-Some-Minor.field-0-0
    (c.child.ensures.shared refl c.in-Some-Minor.field-0 c.in-Some-Minor.is)
    c.in-Some-Minor.field-0-is

pub returns-in-Some-Shared-clause-keeps : goal.returns-in-Some-Shared-clause-keeps
returns-in-Some-Shared-clause-keeps c =
    keeps_left c.args.m.now c.child.new.m c.args.minor.now c.child.new.minor
    c.child.ensures.leaves

pub returns-in-None-clause-keeps : goal.returns-in-None-clause-keeps
returns-in-None-clause-keeps c =
    keeps_left c.args.m.now c.child.new.m c.args.minor.now c.child.new.minor
    c.child.ensures.leaves
