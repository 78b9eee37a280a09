use Rattle.std.proofs.Common.{[], All, List, ap, arith, length, refl, subst, sym}
use Rattle.minor_heap.specs.Nursery.{Nursery}
use Rattle.local_references.specs.declared.roots.Root.{Root}
use Rattle.local_references.specs.Roots.{AllStand, private_of}
use Rattle.record_copying.specs.Copies.{IsCopied}
use Rattle.local_records.specs.Local.{AreLocal, IsLocal, IsRootBelow, Local}
use Rattle.local_records.proofs.Places.{shared_below, shared_stand}
use Rattle.local_records.proofs.Keeping.{local_none}
use Rattle.local_records.proofs.local.LocalRecords.settle.Goals as goal

pub settle_roots-named-requires : goal.settle_roots-named-requires
settle_roots-named-requires g c =
    let known = c.args.seat.now.me.known in
    let table = c.self.inside.table in
    let roots = c.self.inside.stack.roots in
    let heap = sym c.heap-minor.ensures.heap in
    let room = ap (λ (n : Nursery). n.room) heap in
    let many = ap (λ (l : Local). length l.roots) c.self.view_is in
    let was = subst (λ (l : Local). IsLocal l known) (sym c.self.view_is) c.requires.local in
    record {
      seat = c.requires.seat;
      inside = c.requires.inside;
      some = c.requires.some;
      base = c.requires.base;
      room = omega (arith, c.requires.room, many);
      fits = omega (arith, c.spare-spare.ensures.spare, room, c.self.invariant.serves);
      stand = subst (λ (n : Nursery). AllStand n.records roots) heap c.self.invariant.stand;
      done = subst (λ (l : Local). All (IsCopied l.copied) (private_of l.roots))
          (sym c.self.view_is) c.requires.done;
      local = subst
          (λ (n : Nursery). AreLocal known c.self.inside.named n.records table.copied table.places
          roots) heap was;
    }

pub invariant_of-self : goal.invariant_of-self
invariant_of-self g c =
    let records = c.self.inside.nursery.heap.records in
    record {
      whole = c.self.invariant.whole;
      serves = c.self.invariant.serves;
      stand = subst (λ (xs : List Root). AllStand records xs)
          (sym c.settle_roots-named.ensures.roots)
          (shared_stand records c.args.base c.self.inside.stack.roots);
      below = c.self.invariant.below;
    }

pub empty-requires : goal.empty-requires
empty-requires g c = record {
  rootless = subst (λ (xs : List Root). AllStand [] xs) (sym c.settle_roots-named.ensures.roots)
      (shared_stand [] c.args.base c.self.inside.stack.roots);
}

pub returns-clause-local : goal.returns-clause-local
returns-clause-local g c =
    let done = c.settle_roots-named.ensures in
    let known = c.settle_roots-named.new.seat.me.known in
    let named = c.settle_roots-named.result in
    let roots = c.settle_roots-named.new.stack.roots in
    subst (λ (l : Local). IsLocal l known) (sym c.empty.ensures.only)
    (local_none known named [] c.empty.new.self.copied c.empty.new.self.places roots refl
    c.empty.ensures.none (omega (arith, done.known))
    (subst (λ (xs : List Root). All (IsRootBelow named) xs) (sym done.roots)
    (shared_below c.args.base named c.self.inside.stack.roots (omega (arith, done.end)))))
