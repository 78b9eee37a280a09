use Rattle.std.proofs.Common.{◌∷◌, [], ℕ, arith, subst, sym}
use Rattle.std.specs.List.{SameBelow}
use Rattle.held_places.proofs.Going.{many_held}
use Rattle.mutator_seat.specs.Bound.{bound}
use Rattle.mutator_seat.specs.Claims.{Seeking}
use Rattle.sorted_boxes.specs.Holding.{HoldsRaw}
use Rattle.heap_c.specs.Refusing.{AreMeant}
use Rattle.sorted_boxes.proofs.NewBoxes.{claimed_records}
use Rattle.heap_c.proofs.Making.{made_holds, made_room}
use Rattle.heap_c.proofs.Staying.{mine_still}
use Rattle.heap_c.proofs.using.make.Goals as goal

pub make-made-requires-clause-raw : goal.make-made-requires-clause-raw
make-made-requires-clause-raw c = record {
  before = bound c.args.heap.now c.args.seat.now;
  held = c.requires.mine.held (sym c.if-not-is_in.ensures.inside);
  claimed = c.in_ok-place.ensures.got;
}

pub returns-in_err-place-clause-mine : goal.returns-in_err-place-clause-mine
returns-in_err-place-clause-mine c =
    mine_still Seeking c.args.heap.now c.args.seat.now c.claim.new.seat c.args.sorts.now
    c.in_err-place.ensures.none c.claim.ensures.seat c.requires.mine

pub returns-then-made-clause-made : goal.returns-then-made-clause-made
returns-then-made-clause-made c =
    let was = bound c.args.heap.now c.args.seat.now in
    let raw = bound c.args.heap.now c.claim.new.seat in
    let now = bound c.args.heap.now c.make-made.new.seat in
    let place = c.in_ok-place.place in
    let inside = sym c.if-not-is_in.ensures.inside in
    let claimed = c.in_ok-place.ensures.got in
    let given = c.in-Some.fields in
    let made = c.if-made.ensures.made in
    let means = subst (λ (many : ℕ). AreMeant c.args.turns many c.args.vals.now given)
    c.held_len.ensures.len c.in-Some.ensures.means in
    let same = subst (λ (n : ℕ). SameBelow c.args.sorts.now.records c.make-made.new.sorts.records n)
    claimed.place_is c.make-made.ensures.same in
    let holds : HoldsRaw c.args.sorts.now raw place =
    record { before = was; held = c.requires.mine.held inside; claimed = claimed } in (
      inside,
      (
        c.make-made.ensures.held.inside,
        (
          claimed.place_is,
          (
            (
              made_holds was raw now place claimed given made,
              (made_room was raw now place claimed given made, same),
            ),
            (
              c.make-made.ensures.boxed,
              (given, (means, (c.if-not-are_fit.ensures.fit, (raw, (holds, made))))),
            ),
          ),
        ),
      ),
    )

pub returns-then-made-clause-records : goal.returns-then-made-clause-records
returns-then-made-clause-records c =
    λ place t is. c.make-made.ensures.records place t
    (claimed_records (bound c.args.heap.now c.args.seat.now)
    (bound c.args.heap.now c.claim.new.seat) c.in_ok-place.place c.in_ok-place.ensures.got
    place t is)

pub returns-else-made-clause-records : goal.returns-else-made-clause-records
returns-else-made-clause-records c =
    λ place t is. c.make-made.ensures.records place t
    (claimed_records (bound c.args.heap.now c.args.seat.now)
    (bound c.args.heap.now c.claim.new.seat) c.in_ok-place.place c.in_ok-place.ensures.got
    place t is)

pub returns-then-made-clause-longer : goal.returns-then-made-clause-longer
returns-then-made-clause-longer c =
    let heap = c.args.heap.now in
    let was = bound heap c.args.seat.now in
    let now = bound heap c.make-made.new.seat in
    let more = made_holds was (bound heap c.claim.new.seat) now c.in_ok-place.place
    c.in_ok-place.ensures.got c.in-Some.fields c.if-made.ensures.made in
    let many = many_held was now (more.0 ∷ []) more.1 in
    omega (
      arith,
      many,
      c.held_len.ensures.len,
      c.held_len.ensures.known,
      c.held_len-held.ensures.len,
      c.held_len-held.ensures.known,
    )
