use Rattle.std.proofs.Common.{length}
use Rattle.promotion.proofs.Growing.{few_held, ok_both, ok_two}
use Rattle.promotion.proofs.Hinting.{hinted_by}
use Rattle.promotion.proofs.Reaching.{claims_for, fit_held, marks_closed, marks_share}
use Rattle.promotion.proofs.Reaching.{none_held, roots_copied}
use Rattle.promotion.proofs.copying.copy_reached.Goals as goal

pub copy_all-copied-requires-clause-closed : goal.copy_all-copied-requires-clause-closed
copy_all-copied-requires-clause-closed g c =
    marks_closed c.args.minor.now.records c.args.from.now c.mark_span-span.new.marks
    c.mark_span-span.ensures.marks

pub copy_all-copied-requires-clause-shares : goal.copy_all-copied-requires-clause-shares
copy_all-copied-requires-clause-shares g c =
    marks_share c.args.minor.now.records c.args.from.now c.mark_span-span.new.marks
    c.mark_span-span.ensures.marks c.args.m.now.seat.me.known c.requires.shares

pub returns-clause-claims : goal.returns-clause-claims
returns-clause-claims g c =
    ok_both c.copy_all-copied.result c.copy_all-copied.ensures.grown (λ so.
    claims_for c.args.minor.now.records c.args.from.now c.mark_span-span.new.marks
    c.mark_span-span.ensures.marks c.args.m.now c.copy_all-copied.new.m so
    c.mark_span-span.ensures.reached)

pub returns-clause-none : goal.returns-clause-none
returns-clause-none g c =
    ok_both c.copy_all-copied.result c.copy_all-copied.ensures.grown (λ so.
    none_held c.args.minor.now.records c.args.from.now c.mark_span-span.new.marks
    c.mark_span-span.ensures.marks c.args.m.now c.copy_all-copied.new.m so)

pub returns-clause-fit : goal.returns-clause-fit
returns-clause-fit g c =
    ok_both c.copy_all-copied.result c.copy_all-copied.ensures.grown (λ so.
    fit_held c.args.minor.now.records c.args.from.now c.mark_span-span.new.marks
    c.mark_span-span.ensures.marks c.args.m.now c.copy_all-copied.new.m so)

pub returns-clause-copied : goal.returns-clause-copied
returns-clause-copied g c =
    ok_two c.copy_all-copied.result c.copy_all-copied.ensures.grown c.copy_all-copied.ensures.copied
    (λ so copied.
    roots_copied c.args.minor.now.records c.args.from.now c.mark_span-span.new.marks
    c.mark_span-span.ensures.marks c.args.m.now c.copy_all-copied.new.m so
    c.copy_all-copied.new.places c.mark_span-span.result c.mark_span-span.ensures.within copied)

pub returns-clause-few : goal.returns-clause-few
returns-clause-few g c =
    ok_both c.copy_all-copied.result c.copy_all-copied.ensures.grown (λ so.
    few_held c.mark_span-span.new.marks c.mark_span-span.result c.args.m.now
    c.copy_all-copied.new.m (length c.args.minor.now.records) c.mark_span-span.ensures.within
    c.mark_span-span.ensures.stands so)

pub returns-clause-hinted : goal.returns-clause-hinted
returns-clause-hinted g c =
    ok_both c.copy_all-copied.result c.copy_all-copied.ensures.tries (λ tries.
    hinted_by c.args.minor.now.records c.args.from.now c.mark_span-span.new.marks
    c.take_hints.new.taken c.args.hints.now c.take_hints.new.hints c.copy_all-copied.new.hints
    c.args.m.now c.copy_all-copied.new.m c.mark_span-span.ensures.reached
    c.take_hints.ensures.given c.take_hints.ensures.takes c.copy_all-copied.ensures.takes tries)
