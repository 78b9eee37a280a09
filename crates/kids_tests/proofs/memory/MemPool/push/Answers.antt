use Rattle.std.proofs.Common.{◌≡◌, ◌+◌, ◌≤◌, ◌∙◌, ◌++◌, ◌∷◌, [], ap, arith, length, List, subst}
use Rattle.std.proofs.Common.{sym}
use Rattle.std.specs.Prelude.{vec_capacity}
use Rattle.kids_avl.specs.Entries.{Entries, height_of}
use Rattle.kids_tests.specs.Memory.{Holding, IsSound, tree_over, trees_of}
use Rattle.kids_tests.proofs.Trees.{as_many, pushed, trees_snoc}
use Rattle.kids_tests.proofs.memory.MemPool.push.Goals as goal

-- the new entry
abbrev new : (c : goal.After-push_reserved) → Holding
new c = record {
  name = c.args.name;
  child = c.args.child;
  left = c.args.left;
  right = c.args.right;
  height = c.height_above.result;
}

pub invariant_of-self : goal.invariant_of-self
invariant_of-self c =
    let items = c.self.inside.entries.items in
    let trees = c.args.self.now in
    let high : c.height_above.result ≡ height_of (tree_over trees (new c)) =
    grind (
      arith,
      c.height_above.ensures,
      c.height_under-on_left.ensures.height,
      c.height_under-on_right.ensures.height,
    ) in
    let low : c.height_above.result ≤ length trees + 1 =
    grind (
      arith,
      c.height_above.ensures,
      c.height_under-on_left.ensures.low,
      c.height_under-on_right.ensures.low,
    ) in
    let now = vec_capacity c.push_reserved.new.self in
    let larger : vec_capacity c.self.inside.entries ≤ now =
    omega (arith, c.push_reserved.ensures.capacity) in
    subst (λ (held : List Holding). IsSound held now) (sym c.push_reserved.ensures.items)
    (pushed items (new c) trees _ now c.self.view_is c.self.invariant
    (omega (arith, c.requires.room, ap length c.self.view_is, as_many items))
    larger c.requires.left c.requires.right high low)

pub returns-clause-place : goal.returns-clause-place
returns-clause-place c =
    omega (
      arith,
      c.len-place.ensures,
      ap length c.self.view_is,
      as_many c.self.inside.entries.items,
    )

pub returns-clause-more : goal.returns-clause-more
returns-clause-more c =
    ap trees_of c.push_reserved.ensures.items
    ∙ trees_snoc [] c.self.inside.entries.items (new c)
    ∙ ap (λ (trees : List Entries). trees ++ tree_over trees (new c) ∷ []) c.self.view_is
