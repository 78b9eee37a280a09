use Rattle.std.proofs.Common.{◌≡◌, ℕ, length, ◌∙◌, ap, subst, arith}
use Rattle.core_machine.specs.declared.events.Event.TheVariants as event
use Rattle.core_machine.specs.declared.events.Found.TheVariants as finds
use Rattle.mutator_seat.specs.Bound.{bound, takes}
use Rattle.mutator_seat.proofs.Stores.{bound_left, heap_left, held_left, many_left, pass_left}
use Rattle.mutator_seat.proofs.Stores.{places_left, store_leaves, table_left}
use Rattle.mutator_seat.proofs.storing.overwrite.Goals as goal

pub cut-requires-clause-seat : goal.cut-requires-clause-seat
cut-requires-clause-seat g c =
    let heap = c.args.heap.now in
    let after = bound heap c.store_fetched.new.seat in
    let one = c.store_fetched.ensures.replaced in
    bound_left heap c.args.seat.now after one.0 c.requires.seat
    (store_leaves c.args.place c.args.field one.0 c.args.new (bound heap c.args.seat.now) after
    one.1)

pub cut-requires-clause-inside : goal.cut-requires-clause-inside
cut-requires-clause-inside g c =
    let heap = c.args.heap.now in
    let after = bound heap c.store_fetched.new.seat in
    let one = c.store_fetched.ensures.replaced in
    ap (λ p. p.inside)
    (store_leaves c.args.place c.args.field one.0 c.args.new (bound heap c.args.seat.now) after
    one.1).presence
    ∙ c.requires.may.inside

pub cut-requires-clause-some : goal.cut-requires-clause-some
cut-requires-clause-some g c = c.held_len-many.ensures.some c.requires.may.inside

pub cut-requires-clause-kept : goal.cut-requires-clause-kept
cut-requires-clause-kept g c =
    let heap = c.args.heap.now in
    let was = bound heap c.args.seat.now in
    let after = bound heap c.store_fetched.new.seat in
    let one = c.store_fetched.ensures.replaced in
    let more = many_left was after one.0
    (store_leaves c.args.place c.args.field one.0 c.args.new was after one.1) in
    omega (arith, more, c.held_len-many.ensures.len)

pub returns-clause-rewritten : goal.returns-clause-rewritten
returns-clause-rewritten g c =
    let heap = c.args.heap.now in
    let was = bound heap c.args.seat.now in
    let after = bound heap c.store_fetched.new.seat in
    let last = bound heap c.cut.new.seat in
    let one = c.store_fetched.ensures.replaced in
    let told = subst (λ (n : ℕ). last ≡ takes after (event.Keep after.seat.me.number n 0 0)
    (finds.Presence after.seat.me.presence)) c.held_len-many.ensures.len c.cut.ensures.told in
    let left = store_leaves c.args.place c.args.field one.0 c.args.new was after one.1 in
    let many = length was.seat.me.own.held in (
      one.0,
      record {
        written = after;
        replaced = one.1;
        told = told;
        heap = heap_left was after one.0 left last many told;
        table = table_left was after one.0 left last many told;
        held = held_left was after one.0 left last told;
        places = places_left was after one.0 left last told;
        pass = pass_left one.0 c.args.new was after one.1 last many told;
      },
    )
