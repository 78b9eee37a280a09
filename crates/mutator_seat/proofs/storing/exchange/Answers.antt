use Rattle.std.proofs.Common.{◌≡◌, ◌≤◌, ℕ, length, ◌∙◌, ap, subst, arith}
use Rattle.core_machine.specs.declared.events.Event.TheVariants as event
use Rattle.core_machine.specs.declared.events.Found.TheVariants as finds
use Rattle.mutator_seat.specs.Bound.{bound, takes}
use Rattle.mutator_seat.proofs.Stores.{bound_left, either_of, exchange_leaves, heap_left}
use Rattle.mutator_seat.proofs.Stores.{held_left, many_left, pass_left, places_left, table_left}
use Rattle.mutator_seat.proofs.Updates.{err_then, ok_then}
use Rattle.mutator_seat.proofs.storing.exchange.Goals as goal

pub cut-requires-clause-seat : goal.cut-requires-clause-seat
cut-requires-clause-seat g c =
    let heap = c.args.heap.now in
    let was = bound heap c.args.seat.now in
    let after = bound heap c.exchange_read-result.new.seat in
    let call = c.exchange_read-result in
    either_of call.result call.ensures.made call.ensures.moved
    (λ one. bound_left heap c.args.seat.now after one.0 c.requires.seat
    (exchange_leaves c.args.place c.args.field one.0 c.args.new was after one.0 one.1))
    (λ moved one. bound_left heap c.args.seat.now after one.0 c.requires.seat
    (exchange_leaves c.args.place c.args.field one.0 c.args.new was after moved.found one.2))

pub cut-requires-clause-inside : goal.cut-requires-clause-inside
cut-requires-clause-inside g c =
    let heap = c.args.heap.now in
    let was = bound heap c.args.seat.now in
    let after = bound heap c.exchange_read-result.new.seat in
    let call = c.exchange_read-result in
    let same : after.seat.me.presence ≡ was.seat.me.presence =
    either_of call.result call.ensures.made call.ensures.moved
    (λ one. (exchange_leaves c.args.place c.args.field one.0 c.args.new was after one.0
    one.1).presence)
    (λ moved one. (exchange_leaves c.args.place c.args.field one.0 c.args.new was after moved.found
    one.2).presence) in
    ap (λ p. p.inside) same ∙ c.requires.may.inside

pub cut-requires-clause-some : goal.cut-requires-clause-some
cut-requires-clause-some g c = c.held_len-many.ensures.some c.requires.may.inside

pub cut-requires-clause-kept : goal.cut-requires-clause-kept
cut-requires-clause-kept g c =
    let heap = c.args.heap.now in
    let was = bound heap c.args.seat.now in
    let after = bound heap c.exchange_read-result.new.seat in
    let call = c.exchange_read-result in
    let more : length was.seat.me.own.held ≤ length after.seat.me.own.held =
    either_of call.result call.ensures.made call.ensures.moved
    (λ one. many_left was after one.0
    (exchange_leaves c.args.place c.args.field one.0 c.args.new was after one.0 one.1))
    (λ moved one. many_left was after one.0
    (exchange_leaves c.args.place c.args.field one.0 c.args.new was after moved.found one.2)) in
    omega (arith, more, c.held_len-many.ensures.len)

pub returns-clause-made : goal.returns-clause-made
returns-clause-made g c =
    let heap = c.args.heap.now in
    let was = bound heap c.args.seat.now in
    let after = bound heap c.exchange_read-result.new.seat in
    let last = bound heap c.cut.new.seat in
    let call = c.exchange_read-result in
    let told = subst (λ (n : ℕ). last ≡ takes after (event.Keep after.seat.me.number n 0 0)
    (finds.Presence after.seat.me.presence)) c.held_len-many.ensures.len c.cut.ensures.told in
    ok_then call.result call.ensures.made (λ one.
    let left = exchange_leaves c.args.place c.args.field one.0 c.args.new was after one.0 one.1 in
    let many = length was.seat.me.own.held in (
      one.0,
      record {
        written = after;
        replaced = one.1;
        told = told;
        heap = heap_left was after one.0 left last many told;
        table = table_left was after one.0 left last many told;
        held = held_left was after one.0 left last told;
        places = places_left was after one.0 left last told;
        pass = pass_left one.0 c.args.new was after one.1 last many told;
      },
    ))

pub returns-clause-moved : goal.returns-clause-moved
returns-clause-moved g c =
    let heap = c.args.heap.now in
    let was = bound heap c.args.seat.now in
    let after = bound heap c.exchange_read-result.new.seat in
    let last = bound heap c.cut.new.seat in
    let call = c.exchange_read-result in
    let told = subst (λ (n : ℕ). last ≡ takes after (event.Keep after.seat.me.number n 0 0)
    (finds.Presence after.seat.me.presence)) c.held_len-many.ensures.len c.cut.ensures.told in
    err_then call.result call.ensures.moved (λ moved one.
    let left = exchange_leaves c.args.place c.args.field one.0 c.args.new was after moved.found
    one.2 in
    let many = length was.seat.me.own.held in (
      one.0,
      one.1,
      record {
        written = after;
        replaced = one.2;
        told = told;
        heap = heap_left was after one.0 left last many told;
        table = table_left was after one.0 left last many told;
        held = held_left was after one.0 left last told;
        places = places_left was after one.0 left last told;
        pass = pass_left one.0 c.args.new was after one.2 last many told;
      },
    ))
