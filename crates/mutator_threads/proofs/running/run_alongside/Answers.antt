use Rattle.std.proofs.Common.{◌∙◌, ◌++◌, List, ap, length}
use Rattle.beside_collector.specs.Duty.{duty_on}
use Rattle.beside_collector.proofs.Freed.{freed_in_all}
use Rattle.core_machine.specs.declared.events.Taken.{Taken}
use Rattle.heap_rule.specs.declared.view.Place.{Place}
use Rattle.mutator_threads.proofs.running.run_alongside.Goals as goal

pub returns-clause-off : goal.returns-clause-off
returns-clause-off g c =
    let keeper = c.requires.keeper in
    let duty = c.begin_duty.ensures.duty in
    let settled = c.run_counting-done.ensures.settled in
    record {
      sound = keeper.sound;
      on_duty = c.begin_duty.new.seat;
      seat_is = (duty.table ∙ keeper.seat_is.0, duty.shape ∙ keeper.seat_is.1);
      trail = duty.trail
          ∙ ap (λ (events : List Taken). events ++ duty_on c.args.cycles) keeper.no_events;
      no_cycles = duty.ended ∙ keeper.no_cycles;
      stands = c.run_counting-done.ensures.stands;
      all = ap (λ (ps : List (Place _)). length ps) (settled.places ∙ duty.places) ∙ keeper.all;
      off_duty = settled.off_duty;
      freed_are = freed_in_all c.args.cycles _ c.args.keeper.seat c.begin_duty.new.seat _
          keeper.no_events duty settled;
    }
