use Rattle.std.proofs.Common.{true, false, inl, inr, ◌∙◌}
use Rattle.mutator_seat.specs.Bound.{bound}
use Rattle.mutator_seat.proofs.Handshakes.{looked_at}
use Rattle.mutator_seat.proofs.Stores.{either_of, exchanged, lets_looked, lets_there, may_still}
use Rattle.mutator_seat.proofs.Stores.{mode_there, overwritten, places_then, presence_there}
use Rattle.mutator_seat.proofs.Stores.{wanted_looked, wanted_there}
use Rattle.mutator_seat.proofs.Updates.{err_then, ok_then}
use Rattle.mutator_seat.proofs.storing.store.Goals as goal

pub overwrite-requires-clause-may : goal.overwrite-requires-clause-may
overwrite-requires-clause-may g c =
    let heap = c.args.heap.now in
    let was = bound heap c.args.seat.now in
    let looked = c.look_once-control in
    let now = bound heap looked.new.seat in
    may_still g.P.Keeping.fixed was now c.args.place c.args.field c.args.new
    (looked_at was now looked.result looked.ensures.told).kept c.requires.may

pub overwrite-requires-clause-lets : goal.overwrite-requires-clause-lets
overwrite-requires-clause-lets g c =
    let heap = c.args.heap.now in
    let was = bound heap c.args.seat.now in
    let looked = c.look_once-control in
    let now = bound heap looked.new.seat in
    lets_there was now looked.result c.status-own.result looked.ensures.told
    c.status-own.ensures.status
    ∙ lets_looked was now looked.result c.status-own.result looked.ensures.told
    c.status-own.ensures.status true c.if-lets_store.ensures.lets

pub overwrite-requires-clause-wanted : goal.overwrite-requires-clause-wanted
overwrite-requires-clause-wanted g c =
    let heap = c.args.heap.now in
    let looked = c.look_once-control in
    let now = bound heap looked.new.seat in
    wanted_there (bound heap c.args.seat.now) now looked.result c.status-own.result
    looked.ensures.told c.status-own.ensures.status c.barrier-wanted.result
    c.barrier-wanted.ensures.barrier

pub overwrite-requires-clause-rule : goal.overwrite-requires-clause-rule
overwrite-requires-clause-rule g c =
    let heap = c.args.heap.now in
    let was = bound heap c.args.seat.now in
    let looked = c.look_once-control in
    let now = bound heap looked.new.seat in
    c.requires.rule.store now
    (looked_at was now looked.result looked.ensures.told).kept
    (presence_there was now looked.result c.status-own.result looked.ensures.told
    c.status-own.ensures.status)

pub exchange-requires-clause-may : goal.exchange-requires-clause-may
exchange-requires-clause-may g c =
    let heap = c.args.heap.now in
    let was = bound heap c.args.seat.now in
    let looked = c.look_once-control in
    let now = bound heap looked.new.seat in
    may_still g.P.Keeping.fixed was now c.args.place c.args.field c.args.new
    (looked_at was now looked.result looked.ensures.told).kept c.requires.may

pub exchange-requires-clause-mode : goal.exchange-requires-clause-mode
exchange-requires-clause-mode g c =
    let heap = c.args.heap.now in
    let looked = c.look_once-control in
    let now = bound heap looked.new.seat in
    mode_there (bound heap c.args.seat.now) now looked.result c.status-own.result
    looked.ensures.told c.status-own.ensures.status

pub exchange-requires-clause-wanted : goal.exchange-requires-clause-wanted
exchange-requires-clause-wanted g c =
    let heap = c.args.heap.now in
    let looked = c.look_once-control in
    let now = bound heap looked.new.seat in
    wanted_there (bound heap c.args.seat.now) now looked.result c.status-own.result
    looked.ensures.told c.status-own.ensures.status c.barrier-wanted.result
    c.barrier-wanted.ensures.barrier

pub exchange-requires-clause-read : goal.exchange-requires-clause-read
exchange-requires-clause-read g c =
    let heap = c.args.heap.now in
    let was = bound heap c.args.seat.now in
    let looked = c.look_once-control in
    let now = bound heap looked.new.seat in
    c.requires.rule.read now
    (looked_at was now looked.result looked.ensures.told).kept
    (presence_there was now looked.result c.status-own.result looked.ensures.told
    c.status-own.ensures.status)

pub exchange-requires-clause-rule : goal.exchange-requires-clause-rule
exchange-requires-clause-rule g c =
    let heap = c.args.heap.now in
    let was = bound heap c.args.seat.now in
    let looked = c.look_once-control in
    let now = bound heap looked.new.seat in
    c.requires.rule.exchange now
    (looked_at was now looked.result looked.ensures.told).kept
    (presence_there was now looked.result c.status-own.result looked.ensures.told
    c.status-own.ensures.status)

pub returns-then-lets_store-clause-made : goal.returns-then-lets_store-clause-made
returns-then-lets_store-clause-made g c =
    let heap = c.args.heap.now in
    let was = bound heap c.args.seat.now in
    let looked = c.look_once-control in
    let now = bound heap looked.new.seat in
    let own = c.status-own.ensures.status in
    let one = c.overwrite.ensures.rewritten in
    inl (overwritten was now (bound heap c.overwrite.new.seat) looked.result c.args.place
    c.args.field c.args.new c.barrier-wanted.result
    (wanted_looked was now looked.result c.status-own.result
    looked.ensures.told own c.barrier-wanted.result c.barrier-wanted.ensures.barrier)
    (looked_at was now looked.result looked.ensures.told)
    (presence_there was now looked.result c.status-own.result looked.ensures.told own)
    one.0
    (lets_looked was now looked.result c.status-own.result looked.ensures.told
    own true c.if-lets_store.ensures.lets) one.1)

pub returns-else-lets_store-clause-made : goal.returns-else-lets_store-clause-made
returns-else-lets_store-clause-made g c =
    let heap = c.args.heap.now in
    let was = bound heap c.args.seat.now in
    let looked = c.look_once-control in
    let now = bound heap looked.new.seat in
    let own = c.status-own.ensures.status in
    ok_then c.exchange.result c.exchange.ensures.made (λ one. inr (
      one.0,
      exchanged was now (bound heap c.exchange.new.seat) looked.result c.args.place c.args.field
          c.args.new c.barrier-wanted.result
          (wanted_looked was now looked.result c.status-own.result
          looked.ensures.told own c.barrier-wanted.result c.barrier-wanted.ensures.barrier)
          (looked_at was now looked.result looked.ensures.told)
          (presence_there was now looked.result c.status-own.result
          looked.ensures.told own) one.0 one.0
          (lets_looked was now looked.result c.status-own.result looked.ensures.told
          own false c.if-lets_store.ensures.lets) one.1,
    ))

pub returns-else-lets_store-clause-moved : goal.returns-else-lets_store-clause-moved
returns-else-lets_store-clause-moved g c =
    let heap = c.args.heap.now in
    let was = bound heap c.args.seat.now in
    let looked = c.look_once-control in
    let now = bound heap looked.new.seat in
    let own = c.status-own.ensures.status in
    err_then c.exchange.result c.exchange.ensures.moved (λ moved one. (
      one.0,
      one.1,
      exchanged was now (bound heap c.exchange.new.seat) looked.result c.args.place c.args.field
          c.args.new c.barrier-wanted.result
          (wanted_looked was now looked.result c.status-own.result
          looked.ensures.told own c.barrier-wanted.result c.barrier-wanted.ensures.barrier)
          (looked_at was now looked.result looked.ensures.told)
          (presence_there was now looked.result c.status-own.result
          looked.ensures.told own) one.0 moved.found
          (lets_looked was now looked.result c.status-own.result looked.ensures.told
          own false c.if-lets_store.ensures.lets) one.2,
    ))

pub returns-then-lets_store-clause-places : goal.returns-then-lets_store-clause-places
returns-then-lets_store-clause-places g c =
    let heap = c.args.heap.now in
    let was = bound heap c.args.seat.now in
    let looked = c.look_once-control in
    let now = bound heap looked.new.seat in
    let calm = looked_at was now looked.result looked.ensures.told in
    places_then calm.kept c.overwrite.ensures.rewritten.1.places

pub returns-else-lets_store-clause-places : goal.returns-else-lets_store-clause-places
returns-else-lets_store-clause-places g c =
    let heap = c.args.heap.now in
    let was = bound heap c.args.seat.now in
    let looked = c.look_once-control in
    let now = bound heap looked.new.seat in
    let calm = looked_at was now looked.result looked.ensures.told in
    places_then calm.kept
    (either_of c.exchange.result c.exchange.ensures.made c.exchange.ensures.moved
    (λ one. one.1.places) (λ moved one. one.2.places))
