use Rattle.std.proofs.Common.{◌∙◌, ◌+◌, ℕ, List}
use Rattle.std.proofs.Common.{None, Some, refl, sym, ap, subst, arith}
use Rattle.cell_words.specs.Colour.{pack_colour_of}
use Rattle.cell_words.specs.declared.colours.Colour.{Colour}
use Rattle.cell_words.specs.declared.colours.Colour.TheVariants as colour
use Rattle.core_machine.specs.declared.events.Event.TheVariants as event
use Rattle.core_machine.specs.declared.events.Found.TheVariants as finds
use Rattle.core_machine.specs.Own.{Own}
use Rattle.core_machine.specs.Table.{ColourOf, index_of}
use Rattle.heap_rule.specs.Apart.{IsNewTo}
use Rattle.heap_rule.specs.Asks.{MayClaim}
use Rattle.heap_rule.specs.Lore.{cells_in}
use Rattle.heap_rule.specs.Shape.{Shape}
use Rattle.heap_table.specs.Seats.{SeatView}
use Rattle.mutator_events.specs.Seats.{IsMutator}
use Rattle.mutator_events.proofs.Begun.{begun_in, none_begun}
use Rattle.mutator_events.proofs.Calls.{after_claim}
use Rattle.mutator_events.proofs.Calls.{after_miss}
use Rattle.mutator_events.proofs.Calls.{claims_more, got_new, seat_told}
use Rattle.mutator_events.proofs.Calls.{within, without}
use Rattle.mutator_events.proofs.Looked.{looked_word, mode_kept}
use Rattle.mutator_events.proofs.Founds.{claim_word, not_blue}
use Rattle.mutator_events.proofs.Keeping.{missed_own}
use Rattle.mutator_events.proofs.Owed.{claim_owed}
use Rattle.mutator_events.proofs.Owed.{still_as}
use Rattle.mutator_events.proofs.seat.MutSeat.claim.Goals as goal

pub control_of-requires : goal.control_of-requires
control_of-requires g c =
    let may = within (λ v. MayClaim v c.args.cell) c.self.view_is c.requires.may in
    looked_word c.self.inside.seat.me.own.mode c.self.invariant.0.own.mode_is may.mode

pub mutator_exchange-number-requires-clause-made : goal.mutator_exchange-number-requires-clause-made
mutator_exchange-number-requires-clause-made g c =
    ap (λ (n : ℕ). Some n) (sym c.self.invariant.0.number_is)

pub mutator_exchange-number-requires-clause-kind : goal.mutator_exchange-number-requires-clause-kind
mutator_exchange-number-requires-clause-kind g c =
    let may = within (λ v. MayClaim v c.args.cell) c.self.view_is c.requires.may in
    claim_owed g.P.Keeping.fixed c.self.invariant.0 c.args.cell
    (ap (λ (h : Shape). index_of h.mutators (ColourOf c.args.cell))
    (ap (λ (s : SeatView _). s.me.shape) c.self.view_is ∙ c.requires.seat.1)
    ∙ sym c.colour_word-word.ensures.word)
    c.pack_colour-blue.ensures.word
    (c.pack_colour-new.ensures.word
    ∙ ap (λ (x : Colour). pack_colour_of x) c.claim_colour-born.ensures.colour)
    (mode_kept c.self.inside.seat.me.own.mode c.self.invariant.0.own.mode_is may.mode
    c.control_of.ensures.control) may

pub mutator_exchange-number-requires-clause-rule : goal.mutator_exchange-number-requires-clause-rule
mutator_exchange-number-requires-clause-rule g c =
    still_as g.P.Keeping.fixed c.self.invariant.0 g.P.Keeping.holds g.P.Keeping.shrinks
    (event.Claim c.self.inside.number c.args.cell) (λ s l. refl)

pub colour_of-found-requires : goal.colour_of-found-requires
colour_of-found-requires g c =
    claim_word c.mutator_exchange-number.ensures.step

pub overflow_add-self : goal.overflow_add-self
overflow_add-self g c =
    let fits = claims_more c.self.invariant.0 (event.Claim c.self.inside.number c.args.cell)
    c.mutator_exchange-number.ensures.step in
    omega (arith, fits)

pub invariant_of-self : goal.invariant_of-self
invariant_of-self g c =
    let may = within (λ v. MayClaim v c.args.cell) c.self.view_is c.requires.may in
    let seat = c.self.inside in
    let after = after_claim c.self.invariant.0 c.args.cell c.colour_of-found.result
    c.colour_of-found.ensures.colour may c.mutator_exchange-number.ensures.step c.in-Blue.is in (
      subst (λ (cells : List ℕ). IsMutator c.mutator_exchange-number.new.seat.me seat.number
          seat.room cells seat.looked
          seat.inside seat.status (seat.claims + 1)) (sym c.push_reserved.ensures.items) after.keeps,
      omega (arith, c.self.invariant.1, c.push_reserved.ensures.capacity),
      begun_in after.view (none_begun may.settled),
    )

pub invariant_of-self-in-White : goal.invariant_of-self-in-White
invariant_of-self-in-White g c =
    let may = within (λ v. MayClaim v c.args.cell) c.self.view_is c.requires.may in
    let other = not_blue c.colour_of-found.result c.in-White.is in
    let own = c.self.inside.seat.me.own in
    let after = after_miss c.self.invariant.0 c.args.cell c.colour_of-found.result
    c.colour_of-found.ensures.colour c.mutator_exchange-number.ensures.step other in (
      after.keeps,
      c.self.invariant.1,
      begun_in after.view (none_begun
          (ap (λ (o : Own). o.pending)
          (missed_own own c.args.cell c.colour_of-found.result other) ∙ may.settled)),
    )

pub returns-in-Blue : goal.returns-in-Blue
returns-in-Blue g c =
    let may = within (λ v. MayClaim v c.args.cell) c.self.view_is c.requires.may in
    record {
      told = (
        colour.Blue,
        refl,
        seat_told c.mutator_exchange-number.new.seat
            (λ v. event.Claim v.number c.args.cell)
            (λ v. finds.Colour colour.Blue) c.self.view_is c.mutator_exchange-number.ensures.same
            (after_claim c.self.invariant.0 c.args.cell c.colour_of-found.result
            c.colour_of-found.ensures.colour may c.mutator_exchange-number.ensures.step c.in-Blue.is).view,
      );
      new = λ got.
          without (λ v. IsNewTo (cells_in v.own.held) v.known c.args.cell) c.self.view_is
          (got_new c.self.invariant.0 c.args.cell c.colour_of-found.result
          c.colour_of-found.ensures.colour c.mutator_exchange-number.ensures.step c.in-Blue.is);
    }

pub returns-in-White : goal.returns-in-White
returns-in-White g c =
    let other = not_blue c.colour_of-found.result c.in-White.is in
    record {
      told = (
        c.colour_of-found.result,
        sym other,
        seat_told c.mutator_exchange-number.new.seat
            (λ v. event.Claim v.number c.args.cell)
            (λ v. finds.Colour c.colour_of-found.result) c.self.view_is
            c.mutator_exchange-number.ensures.same
            (after_miss c.self.invariant.0 c.args.cell c.colour_of-found.result
            c.colour_of-found.ensures.colour c.mutator_exchange-number.ensures.step other).view,
      );
      new = λ got. absurd cc;
    }
