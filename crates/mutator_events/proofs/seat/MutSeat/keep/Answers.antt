use Rattle.std.proofs.Common.{◌≡◌, ℕ, List, None}
use Rattle.std.proofs.Common.{Some, refl, sym, ap, subst, arith}
use Rattle.core_machine.specs.declared.events.Event.TheVariants as event
use Rattle.core_machine.specs.declared.events.Found.TheVariants as finds
use Rattle.core_machine.specs.WordOperations.{Load}
use Rattle.heap_rule.specs.Asks.{MayKeep}
use Rattle.heap_rule.proofs.Owing.{owes_keep}
use Rattle.mutator_events.specs.Seats.{IsMutator}
use Rattle.mutator_events.proofs.Begun.{begun_in, none_begun}
use Rattle.mutator_events.proofs.Calls.{after_keep}
use Rattle.mutator_events.proofs.Calls.{seat_told}
use Rattle.mutator_events.proofs.Calls.{within}
use Rattle.mutator_events.proofs.Owed.{status_owed, still_as}
use Rattle.mutator_events.proofs.seat.MutSeat.keep.Goals as goal

pub mutator_load-requires-clause-made : goal.mutator_load-requires-clause-made
mutator_load-requires-clause-made g c =
    ap (λ (n : ℕ). Some n) (sym c.self.invariant.0.number_is)

pub mutator_load-requires-clause-kind : goal.mutator_load-requires-clause-kind
mutator_load-requires-clause-kind g c =
    let may = within (λ v. MayKeep v c.args.n c.args.place c.args.count) c.self.view_is
    c.requires.may in
    let settled = within (λ v. v.own.pending ≡ None) c.self.view_is c.requires.settled in
    let me = c.self.inside.seat.me in
    status_owed g.P.Keeping.fixed c.self.invariant.0
    (λ n. event.Keep n c.args.n c.args.place c.args.count) Load
    c.status_word-word.ensures.word
    (λ s l mine. owes_keep g.P.Keeping.fixed me s l mine c.args.n c.args.place c.args.count settled
    may)

pub mutator_load-requires-clause-rule : goal.mutator_load-requires-clause-rule
mutator_load-requires-clause-rule g c =
    still_as g.P.Keeping.fixed c.self.invariant.0 g.P.Keeping.holds g.P.Keeping.shrinks
    (event.Keep c.self.inside.number c.args.n c.args.place c.args.count) (λ s l. refl)

pub invariant_of-self : goal.invariant_of-self
invariant_of-self g c =
    let may = within (λ v. MayKeep v c.args.n c.args.place c.args.count) c.self.view_is
    c.requires.may in
    let settled = within (λ v. v.own.pending ≡ None) c.self.view_is c.requires.settled in
    let seat = c.self.inside in (
      subst (λ (cells : List ℕ). IsMutator c.mutator_load.new.seat.me seat.number seat.room cells
          seat.looked
          seat.inside seat.status seat.claims) (sym c.keep_cells.ensures.cells)
          (after_keep c.self.invariant.0 c.args.n c.args.place c.args.count may
          c.mutator_load.ensures.step).keeps,
      omega (arith, c.self.invariant.1, c.keep_cells.ensures.capacity),
      begun_in (after_keep c.self.invariant.0 c.args.n c.args.place c.args.count may
          c.mutator_load.ensures.step).view (none_begun settled),
    )

pub returns : goal.returns
returns g c =
    let may = within (λ v. MayKeep v c.args.n c.args.place c.args.count) c.self.view_is
    c.requires.may in
    record {
      told = seat_told c.mutator_load.new.seat
          (λ v. event.Keep v.number c.args.n c.args.place c.args.count)
          (λ v. finds.Presence v.presence) c.self.view_is c.mutator_load.ensures.same
          (after_keep c.self.invariant.0 c.args.n c.args.place c.args.count may
          c.mutator_load.ensures.step).view;
    }
