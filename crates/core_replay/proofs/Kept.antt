-- What is kept of a replay's core.
use Rattle.std.proofs.Common.{◌≤◌, Result, subst, sym}
use Rattle.core_machine.specs.Takes.{Takes}
use Rattle.core_machine.specs.Next.{next}
use Rattle.core_machine.specs.State.{State}
use Rattle.core_machine.specs.declared.events.Event.{Event}
use Rattle.core_machine.proofs.Ranges.Events.{takes_in_range, takes_sizes}
use Rattle.core_replay.specs.Standing.{IsReplayed}
use Rattle.dlg_core.proofs.Throughout.{takes_consistent}

-- whatever a call of one event answers
pub takes_replayed : {U E : Type 0} (result : Result U E) (old new : State) (e : Event)
    → IsReplayed old
    → Takes result old (next old e) new → IsReplayed new
takes_replayed result old new e r is =
    let sizes = takes_sizes result old new e is in
    record {
      kept = record {
        range = takes_in_range result old new e r.kept.range is;
        consistent = takes_consistent result old new e r.kept.range r.kept.consistent is;
      };
      few_cells = subst (λ n. n ≤ 256) (sym sizes.0) r.few_cells;
      few_mutators = subst (λ n. n ≤ 64) (sym sizes.1) r.few_mutators;
    }
