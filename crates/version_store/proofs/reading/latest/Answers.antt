use Rattle.std.proofs.Common.{[], ◌∷◌, arith}
use Rattle.held_places.proofs.Going.{in_still, many_held}
use Rattle.version_store.proofs.Latest.{gives_latest, seen_is}
use Rattle.version_store.proofs.Leaving.{nothing_then}
use Rattle.version_store.proofs.reading.latest.Goals as goal

pub read_number-number-requires : goal.read_number-number-requires
read_number-number-requires g c =
    let finds = c.read_anchor-place.ensures.latest in
    let read = finds.read in
    let next = c.read_anchor-place.new.m in
    let longer = many_held c.args.m.now next (finds.cell ∷ []) read.holds.held in
    let same = read.goes.room in
    record {
      inside = in_still c.args.m.now next (finds.cell ∷ []) _ c.requires.inside read.goes
          read.holds.held;
      room = omega (arith, longer, same, c.requires.room);
      version = (finds.number, (finds.root, finds.known));
    }

pub returns-clause-coherent : goal.returns-clause-coherent
returns-clause-coherent g c = c.read_anchor-place.ensures.latest.read.coherent

pub returns-clause-many : goal.returns-clause-many
returns-clause-many g c = c.read_number-number.ensures.number.read.many

pub returns-clause-latest : goal.returns-clause-latest
returns-clause-latest g c =
    gives_latest c.args.m.now c.read_anchor-place.new.m c.read_number-number.new.m
    c.read_anchor-place.result c.read_number-number.result c.requires.inside
    c.read_anchor-place.ensures.latest c.read_number-number.ensures.number

pub returns-clause-seen : goal.returns-clause-seen
returns-clause-seen g c =
    seen_is c.args.m.now c.read_number-number.new.m
    (record { number = c.read_number-number.result; place = c.read_anchor-place.result })
    (gives_latest c.args.m.now c.read_anchor-place.new.m c.read_number-number.new.m
    c.read_anchor-place.result c.read_number-number.result c.requires.inside
    c.read_anchor-place.ensures.latest c.read_number-number.ensures.number)

pub returns-clause-writes : goal.returns-clause-writes
returns-clause-writes g c =
    nothing_then [] c.args.m.now c.read_anchor-place.new.m c.read_number-number.new.m
    c.read_anchor-place.ensures.writes c.read_number-number.ensures.writes
