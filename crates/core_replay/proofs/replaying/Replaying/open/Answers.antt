use Rattle.std.proofs.Common.{ap, arith, refl, subst, sym}
use Rattle.core_machine.specs.State.{State}
use Rattle.core_replay.specs.Standing.{IsReplayed}
use Rattle.core_replay.proofs.Opened.{allowed_sizes, opened_kept}
use Rattle.core_replay.proofs.replaying.Replaying.open.Goals as goal

pub open-requires-clause-some_cells : goal.open-requires-clause-some_cells
open-requires-clause-some_cells c =
    let some = (allowed_sizes c.args.sizes c.requires).some_cells in omega arith

pub open-requires-clause-few_cells : goal.open-requires-clause-few_cells
open-requires-clause-few_cells c =
    let few = (allowed_sizes c.args.sizes c.requires).few_cells in omega arith

pub open-requires-clause-some_mutators : goal.open-requires-clause-some_mutators
open-requires-clause-some_mutators c =
    let some = (allowed_sizes c.args.sizes c.requires).some_mutators in omega arith

pub open-requires-clause-few_mutators : goal.open-requires-clause-few_mutators
open-requires-clause-few_mutators c = (allowed_sizes c.args.sizes c.requires).few_mutators

pub open-requires-clause-room : goal.open-requires-clause-room
open-requires-clause-room c =
    let some = (allowed_sizes c.args.sizes c.requires).some_room in omega arith

pub open-requires-clause-few_rows : goal.open-requires-clause-few_rows
open-requires-clause-few_rows c =
    (allowed_sizes c.args.sizes c.requires).some_cells

pub open-requires-clause-rows : goal.open-requires-clause-rows
open-requires-clause-rows c = refl

pub invariant_of-result : goal.invariant_of-result
invariant_of-result c =
    subst IsReplayed (sym c.in_ok-core.ensures.opening) (opened_kept c.args.sizes c.requires)

pub returns : goal.returns
returns c =
    ap (λ (s : State). record { core = s; taken = 0 }) c.in_ok-core.ensures.opening
