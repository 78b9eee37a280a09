use Rattle.std.proofs.Common.{ℕ, Some, refl, sym, ap}
use Rattle.core_machine.specs.declared.events.Event.TheVariants as event
use Rattle.core_machine.specs.declared.events.Found.TheVariants as finds
use Rattle.core_machine.specs.Table.{TheControl}
use Rattle.core_machine.specs.WordOperations.{Load}
use Rattle.heap_rule.specs.Asks.{MayLook}
use Rattle.heap_rule.proofs.Owing.{owes_look}
use Rattle.mutator_events.proofs.Begun.{begun_in, none_begun}
use Rattle.mutator_events.proofs.Calls.{after_look}
use Rattle.mutator_events.proofs.Calls.{seat_told}
use Rattle.mutator_events.proofs.Calls.{within}
use Rattle.mutator_events.proofs.Founds.{look_word}
use Rattle.mutator_events.proofs.Owed.{owed_as, still_as}
use Rattle.mutator_events.proofs.seat.MutSeat.look.Goals as goal

pub mutator_load-found-requires-clause-made : goal.mutator_load-found-requires-clause-made
mutator_load-found-requires-clause-made g c =
    ap (λ (n : ℕ). Some n) (sym c.self.invariant.0.number_is)

pub mutator_load-found-requires-clause-kind : goal.mutator_load-found-requires-clause-kind
mutator_load-found-requires-clause-kind g c =
    let may = within (λ v. MayLook v) c.self.view_is c.requires.may in
    owed_as g.P.Keeping.fixed c.self.invariant.0 (λ n. event.Look n) TheControl Load Load refl refl
    (λ s l mine. owes_look g.P.Keeping.fixed c.self.inside.seat.me s l mine may)

pub mutator_load-found-requires-clause-rule : goal.mutator_load-found-requires-clause-rule
mutator_load-found-requires-clause-rule g c =
    still_as g.P.Keeping.fixed c.self.invariant.0 g.P.Keeping.holds g.P.Keeping.shrinks
    (event.Look c.self.inside.number) (λ s l. refl)

pub control_of-requires : goal.control_of-requires
control_of-requires g c =
    look_word c.mutator_load-found.ensures.step

pub invariant_of-self : goal.invariant_of-self
invariant_of-self g c =
    let may = within (λ v. MayLook v) c.self.view_is c.requires.may in
    let after = after_look c.self.invariant.0 c.control_of.result
    c.control_of.ensures.control c.mutator_load-found.ensures.step in (
      after.keeps,
      c.self.invariant.1,
      begun_in after.view (none_begun may.settled),
    )

pub returns : goal.returns
returns g c =
    record {
      told = seat_told c.mutator_load-found.new.seat (λ v. event.Look v.number)
          (λ v. finds.Control c.control_of.result) c.self.view_is
          c.mutator_load-found.ensures.same
          (after_look c.self.invariant.0 c.control_of.result
          c.control_of.ensures.control c.mutator_load-found.ensures.step).view;
      valid = c.control_of.ensures.valid;
    }
