use Rattle.std.proofs.Common.{◌≡◌, false, List, [], ◌∷◌, ◌++◌, ◌∙◌, refl, ap}
use Rattle.core_machine.specs.declared.events.Event.TheVariants as event
use Rattle.core_machine.specs.declared.events.Found.TheVariants as finds
use Rattle.core_machine.specs.declared.events.Taken.{Taken}
use Rattle.heap_rule.specs.Asks.{collector_state}
use Rattle.heap_rule.specs.Rule.{took}
use Rattle.collector.specs.Bound.{Bound, control_of, mutators_of}
use Rattle.collector.specs.Cycles.{MadeCycles, Served}
use Rattle.free_cells.specs.Hints.{counts_of}
use Rattle.collector.proofs.Joining.{stretch_one, stretch_then}
use Rattle.collector.proofs.Offered.{offers_and}
use Rattle.collector.proofs.collecting.Collector.serve_by.Goals as goal

pub returns-clause-served : goal.returns-clause-served
returns-clause-served g c =
    let n = mutators_of c.args.self.now in
    let freed = c.cycles_of-freed.result in
    let last = took (event.Duty false) finds.Stored in
    let told = c.cycles_of-freed.ensures.made in (
      told.0,
      ap (λ (x : Bound _). (control_of x).cycles) c.duty.ensures.told ∙ told.1,
      stretch_then (MadeCycles n c.args.cycles told.0 freed)
          (λ (events : List Taken). events ≡ last ∷ [])
          (Served n c.args.cycles told.0 freed) c.args.self.now c.cycles_of-freed.new.self
          c.duty.new.self
          (λ xs ys made is. record {
            made = xs;
            split = ap (λ (zs : List Taken). xs ++ zs) is;
            cycles = made;
          })
          told.2
          (stretch_one (λ (events : List Taken). events ≡ last ∷ []) c.cycles_of-freed.new.self
          c.duty.new.self (event.Duty false) finds.Stored
          (collector_state c.cycles_of-freed.new.self.seat.me)
          (ap (λ (x : Bound _). x.heap) c.duty.ensures.told)
          (ap (λ (x : Bound _). x.seat) c.duty.ensures.told)
          (ap (λ (x : Bound _). x.stack) c.duty.ensures.told) c.duty.ensures.known
          refl),
    )

pub returns-clause-offered : goal.returns-clause-offered
returns-clause-offered g c =
    let told = c.cycles_of-freed.ensures.made in
    offers_and _ c.args.self.now c.cycles_of-freed.new.self c.duty.new.self
    (counts_of c.args.hints.now) (counts_of c.cycles_of-freed.new.hints) (event.Duty false)
    finds.Stored refl refl c.duty.ensures.told c.duty.ensures.known told.2
    c.cycles_of-freed.ensures.offered
