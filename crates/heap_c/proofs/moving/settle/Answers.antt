use Rattle.std.proofs.Common.{◌≡◌, ◌-◌, ◌∙◌, ℕ, List, arith, length, subst, sym}
use Rattle.std.specs.List.{CopiedTo}
use Rattle.local_records.specs.Settling.{cell_count}
use Rattle.local_records.proofs.Naming.{root_wider, roots_at}
use Rattle.local_references.specs.Roots.{slot_at}
use Rattle.local_references.specs.declared.roots.Root.{Root}
use Rattle.mutator_seat.specs.Bound.{bound}
use Rattle.heap_c.specs.Holding.{NoAnchor}
use Rattle.heap_c.proofs.Moved.{mine_as, owned_as}
use Rattle.heap_c.proofs.RootSorts.{count_few, settled_holds, shared_apart}
use Rattle.heap_c.proofs.moving.settle.Goals as goal

pub sort_roots-end-requires : goal.sort_roots-end-requires
sort_roots-end-requires c =
    let local = c.args.local.now in
    let so = c.requires.owned.inside c.requires.inside in
    let within = so.within in
    let len = c.held_len-first.ensures.len in
    let known = c.held_len-first.ensures.known in
    let room = c.requires.room in
    let serves = c.requires.owned.mine.serves.room in
    let few = c.requires.few in
    record {
      room = omega (arith, len, room, serves);
      few = omega (arith, len, room, few);
      below = λ i. root_wider local.named c.held_len-first.result (slot_at local.roots i)
          (omega (arith, within, known)) (roots_at local.named local.roots so.below i);
    }

pub keep-requires : goal.keep-requires
keep-requires c =
    let local = c.args.local.now in
    let len = c.held_len-first.ensures.len in
    let room = c.requires.room in
    let serves = c.requires.owned.mine.serves.room in
    let many = c.sort_roots-end.ensures.told.many in
    let end = c.sort_roots-end.ensures.end in
    let few = count_few local.roots in
    let base = c.requires.base in
    record {
      others = omega (arith, len, room, serves, many, end, few);
      room = omega (arith, len, room, serves, many, end, few, base);
    }

pub returns : goal.returns
returns c =
    let heap = c.args.heap.now in
    let old = c.args.seat.now in
    let new = c.settle.new.seat in
    let local = c.args.local.now in
    let sorts = c.args.sorts.now in
    let told = c.sort_roots-end.new.sorts in
    let later = c.keep.new.self in
    let first = c.held_len-first.result in
    let mine = c.requires.owned.mine in
    let so = c.requires.owned.inside c.requires.inside in
    let within = so.within in
    let len = c.held_len-first.ensures.len in
    let known = c.held_len-first.ensures.known in
    let base = c.requires.base in
    let holds = mine.held c.requires.inside in
    let settled = c.settle.ensures.settled in
    let tells = c.sort_roots-end.ensures.told in
    let end = c.sort_roots-end.ensures.end in
    let moved = subst (λ (n : ℕ). CopiedTo told.records later.records first c.args.base n)
    (let e : c.sort_roots-end.result - first ≡ cell_count local.roots = omega (arith, end) in e)
    c.keep.ensures.moved in
    let at = settled_holds sorts (bound heap old) holds local.records local.places local.roots
    c.args.base first (bound heap new) settled told later c.requires.some
    (omega (arith, base, len)) len (known ∙ len)
    (c.held_len-held.ensures.known ∙ c.held_len-held.ensures.len)
    (c.held_len-held.ensures.anchor (settled.stays.inside ∙ c.requires.inside))
    (λ i. root_wider local.named (length old.me.own.held) (slot_at local.roots i)
    (omega (arith, within, known, len)) (roots_at local.named local.roots so.below i))
    c.requires.owned.apart tells c.keep.ensures.boxes c.keep.ensures.room c.keep.ensures.first
    moved in
    record {
      owned = owned_as heap new later c.settle.new.self
          (mine_as heap old new sorts later mine c.settle.ensures.seat at holds settled.stays.pass)
          at.inside c.settle.ensures.local
          (subst (λ (rs : List Root). NoAnchor rs) (sym c.settle.ensures.roots)
          (shared_apart c.args.base local.roots c.requires.some));
      settles = record {
        settled = settled;
        sorts = λ k d lt. c.keep.ensures.first k d lt
            ∙ tells.same k d (omega (arith, lt, base, len));
        roots = c.settle.ensures.roots;
        named = c.settle.ensures.named;
        empty = c.settle.ensures.empty;
        none = c.settle.ensures.none;
        aged = c.settle.ensures.aged;
        turn = c.settle.ensures.turn.more c.requires.turn;
        room = c.settle.ensures.room;
        most = c.settle.ensures.most;
      };
    }
