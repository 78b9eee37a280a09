use Rattle.std.proofs.Common.{◌∙◌, sym, arith, ◌≤◌, max}
use Rattle.std.proofs.Math.Nat.{le-max_right}
use Rattle.mutator_seat.specs.Bound.{bound}
use Rattle.heap_c.proofs.Moved.{max_within, mine_as, owned_as, released_local}
use Rattle.heap_c.proofs.moving.release.Goals as goal

pub returns-clause-owned : goal.returns-clause-owned
returns-clause-owned c =
    let heap = c.args.heap.now in
    let was = c.args.seat.now in
    let now = c.keep.new.seat in
    let local = c.args.local.now in
    let owned = c.requires.owned in
    let inside = sym c.if-not-is_in.ensures.inside in
    let so = owned.inside inside in
    let within = so.within in
    let len = c.held_len-held.ensures.len in
    let known = c.held_len-held.ensures.known in
    let named = c.named.ensures.named in
    let enough = c.if-held-n.false in
    let most : max c.args.n c.named.result ≤ c.held_len-held.result =
    max_within c.args.n c.named.result c.held_len-held.result (omega (arith, enough))
    (omega (arith, named, within, known)) in
    let least = le-max_right c.args.n c.named.result in
    let is = c.max.ensures in
    let holds = c.keep.ensures.held in
    owned_as heap now c.keep.new.sorts local
    (mine_as heap was now c.args.sorts.now c.keep.new.sorts owned.mine c.keep.ensures.seat holds
    (owned.mine.held inside) c.keep.ensures.narrows.pass)
    holds.inside
    (released_local (bound heap was) (bound heap now) local c.max.result so
    (omega (arith, is, least, named)) (omega (arith, is, most, len))
    (c.held_len-kept.ensures.known ∙ c.held_len-kept.ensures.len) c.keep.ensures.narrows
    c.keep.ensures.records)
    owned.apart
