use Rattle.std.proofs.Common.{◌<◌, ap, arith, length, List, subst, sym}
use Rattle.std.proofs.lemmas.List.{get_or_read}
use Rattle.kids_avl.specs.Entries.{Entries}
use Rattle.kids_tests.specs.Memory.{Holding, Tells, blank, trees_of}
use Rattle.kids_tests.proofs.Trees.{as_many, within}
use Rattle.kids_tests.proofs.memory.MemPool.held.Goals as goal

pub index-requires : goal.index-requires
index-requires c =
    let there = within c.args.self.now c.args.at c.requires in
    omega (arith, there, ap length c.self.view_is, as_many c.self.inside.entries.items)

pub returns : goal.returns
returns c =
    let items = c.self.inside.entries.items in
    let there : c.args.at < length items =
    omega (
      arith,
      within c.args.self.now c.args.at c.requires,
      ap length c.self.view_is,
      as_many items,
    ) in
    let read = get_or_read items c.args.at _ there c.index.ensures blank in
    subst (λ (trees : List Entries). Tells trees c.args.at c.index.result.now) c.self.view_is
    (subst (λ (h : Holding). Tells (trees_of items) c.args.at h) (sym read)
    (c.self.invariant.told c.args.at there))
