use Rattle.std.proofs.Common.{◌≡◌, ◌+◌, ◌++◌, ◌∷◌, ◌∙◌, [], ℕ, List, ap, arith, length, subst}
use Rattle.std.proofs.Common.{sym, take}
use Rattle.std.proofs.Math.Seq.{take-length}
use Rattle.std.proofs.lemmas.List.{length-take-le, take_more}
use Rattle.local_records.specs.Local.{IsRootBelow}
use Rattle.local_records.specs.Settling.{cell_count, cells_in}
use Rattle.local_records.proofs.Places.{count_next}
use Rattle.local_references.specs.declared.roots.Root.{Root}
use Rattle.local_references.specs.declared.roots.Root.TheVariants as root
use Rattle.heap_c.specs.Moving.{TellsRoots}
use Rattle.heap_c.proofs.RootSorts.{count_few, tells_none}
use Rattle.heap_c.proofs.moving.sort_roots.Goals as goal

pub loop-i-init : goal.loop-i-init
loop-i-init c = (tells_none c.args.first c.args.sorts.now, (omega arith, omega arith))

pub sort_root-next-requires : goal.sort_root-next-requires
sort_root-next-requires c =
    let roots = c.args.local.now.roots in
    let i = c.loop-i.i in
    let inv = c.loop-i.invariant in
    let many = inv.0.many in
    let next_is = inv.1.0 in
    let le = inv.1.1 in
    let few = count_few (take i roots) in
    let upto = length-take-le i roots le in
    let lt = c.loop-i-test.true in
    let all = c.roots_len-i-end.ensures.count in
    let room = c.requires.room in
    let fits = c.requires.few in
    record {
      there = omega (arith, many, next_is, few, upto, lt, all, room);
      few = omega (arith, next_is, few, upto, lt, all, fits);
      below = subst (λ (x : Root). IsRootBelow c.args.first x) (sym c.root-root.ensures.root)
          (c.requires.below i);
    }

pub loop-i-preserved : goal.loop-i-preserved
loop-i-preserved c =
    let roots = c.args.local.now.roots in
    let i = c.loop-i.i in
    let inv = c.loop-i.invariant in
    let next_is = inv.1.0 in
    let lt = c.loop-i-test.true in
    let all = c.roots_len-i-end.ensures.count in
    let root_is = c.root-root.ensures.root in
    let more : take (i + 1) roots ≡ take i roots ++ c.root-root.result ∷ [] =
    take_more roots i root.Null (omega (arith, lt, all))
    ∙ ap (λ (x : Root). take i roots ++ x ∷ []) (sym root_is) in
    let count = count_next roots i (omega (arith, lt, all)) in
    let cells = ap cells_in root_is in
    let next = c.sort_root-next.ensures.next in (
      subst (λ (rs : List Root). TellsRoots c.args.first c.args.sorts.now rs
          c.sort_root-next.new.sorts) (sym more)
          (c.sort_root-next.ensures.told c.args.sorts.now (take i roots) inv.0 next_is),
      (omega (arith, next_is, count, cells, next), omega (arith, lt, all)),
    )

pub returns : goal.returns
returns c =
    let roots = c.args.local.now.roots in
    let i = c.loop-i.i in
    let inv = c.loop-i.invariant in
    let next_is = inv.1.0 in
    let le = inv.1.1 in
    let over = c.loop-i-test.false in
    let all = c.roots_len-i-end.ensures.count in
    let whole : take i roots ≡ roots =
    ap (λ (n : ℕ). take n roots) (let e : i ≡ length roots = omega (arith, le, over, all) in e)
    ∙ take-length roots in
    let count = ap cell_count whole in
    record {
      told = subst (λ (rs : List Root). TellsRoots c.args.first c.args.sorts.now rs c.loop-i.sorts)
          whole inv.0;
      end = omega (arith, next_is, count);
    }
