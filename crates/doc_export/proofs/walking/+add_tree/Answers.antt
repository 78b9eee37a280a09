use Rattle.std.proofs.Common.{◌≡◌, ◌∙◌, ◌+◌, ◌≤◌, ℕ, ap, arith, length, refl, subst, sym}
use Rattle.std.proofs.Common.{Some}
use Rattle.client_trees.specs.declared.at.NodeAt.TheVariants as at
use Rattle.client_trees.specs.Nodes.{tree_at}
use Rattle.doc_tree.specs.Tree.{DocTree, child, height, names_of}
use Rattle.doc_export.specs.Lines.{with_slash}
use Rattle.doc_export.specs.Looks.{looks}
use Rattle.version_store.specs.Lasts.{marks}
use Rattle.doc_export.proofs.Looking.{first_looks, looks_kept}
use Rattle.doc_export.proofs.Keeping.{keeps_left, keeps_on, many_all, tree_same}
use Rattle.doc_export.proofs.Turns.{child_lower, child_room, first_lines, none_turn}
use Rattle.doc_export.proofs.Turns.{some_turn, turn_keeps}
use Rattle.doc_export.proofs.walking.+add_tree.Goals as goal
use Rattle.doc_export.proofs.walking.+add_tree.Goals.{in-Some+in_ok-added-in-Some, in-None}

pub returns-in_err-names-clause-keeps : goal.returns-in_err-names-clause-keeps
returns-in_err-names-clause-keeps t c =
    keeps_on c.add_node.ensures.keeps
    (keeps_left c.add_node.new.m c.names.new.m c.add_node.new.minor c.names.new.minor
    c.names.ensures.leaves.leaves)

pub loop-name-init : goal.loop-name-init
loop-name-init t c =
    let left = c.names.ensures.leaves in
    let same = tree_same c.args.m.now c.add_node.new.m c.args.minor.now c.add_node.new.minor
    c.add_node.ensures.keeps c.args.place c.requires.node.stands.0 c.requires.node in
    record {
      keeps = keeps_on c.add_node.ensures.keeps
          (keeps_left c.add_node.new.m c.names.new.m c.add_node.new.minor c.names.new.minor
          left.leaves);
      held = many_all c.add_node.new.m c.names.new.m c.add_node.new.minor c.names.new.minor left
          ∙ c.add_node.ensures.held;
      minor = left.minor ∙ c.add_node.ensures.minor;
      lines = first_lines c.add_node.new.out.items c.args.out.now.items c.args.path.now
          c.args.before.now (tree_at c.args.m.now c.args.minor.now (at.Shared c.args.place))
          c.names-name-items.result.now c.in_ok-add_node.ensures.line
          (c.names-name-items.ensures ∙ c.in_ok-names.ensures.names
          ∙ ap (λ (d : DocTree). names_of d.kids) same)
          c.requires.node.node.lawful.nodes.here.rising;
      looked = first_looks (tree_at c.args.m.now c.args.minor.now (at.Shared c.args.place))
          c.names-name-items.result.now (looks (marks c.args.m.now))
          (looks (marks c.add_node.new.m)) (looks (marks c.names.new.m))
          (c.names-name-items.ensures ∙ c.in_ok-names.ensures.names
          ∙ ap (λ (d : DocTree). names_of d.kids) same)
          c.requires.node.node.lawful.nodes.here.rising c.in_ok-add_node.ensures.looked
          (looks_kept c.add_node.new.m c.names.new.m
          (keeps_left c.add_node.new.m c.names.new.m c.add_node.new.minor c.names.new.minor
          left.leaves));
    }

pub add_tree-added-requires : goal.add_tree-added-requires
add_tree-added-requires t c =
    let so_far = c.loop-name.invariant.keeps in
    let down = c.child_place.ensures.keeps in
    let d = tree_at c.child_place.new.m c.child_place.new.minor (at.Shared c.in-Some.child) in
    let top = tree_at c.args.m.now c.args.minor.now (at.Shared c.args.place) in
    let same = tree_same c.args.m.now c.loop-name.m c.args.minor.now c.loop-name.minor
    so_far c.args.place c.requires.node.stands.0 c.requires.node in
    let found : child c.name-item.result top.kids ≡ Some d =
    sym (c.in-Some.ensures.child ∙ ap (λ (x : DocTree). child c.name-item.result x.kids) same) in (
      child_lower c.name-item.result top d t found c.decreases,
      (
        down.same.inside ∙ so_far.same.inside ∙ c.requires.inside,
        (
          c.in-Some.ensures.node c.in-Some.child refl,
          subst (λ (room : ℕ). length c.child_place.new.m.seat.me.own.held + (8192 + height d)
              ≤ room) (sym (down.same.room ∙ so_far.same.room))
              (child_room c.name-item.result top d (length c.args.m.now.seat.me.own.held)
              (length c.child_place.new.m.seat.me.own.held) c.args.m.now.seat.me.room found
              c.requires.room (omega (arith, c.in-Some.ensures.held, c.loop-name.invariant.held))),
        ),
      ),
    )

pub returns-in_err-added-in-Some-clause-keeps : goal.returns-in_err-added-in-Some-clause-keeps
returns-in_err-added-in-Some-clause-keeps t c =
    turn_keeps c.args.m.now c.loop-name.m c.child_place.new.m c.add_tree-added.new.m
    c.cut.new.self c.held_len-places.result _ c.loop-name.invariant.keeps
    c.loop-name.invariant.held c.child_place.ensures.keeps c.add_tree-added.ensures.keeps
    c.held_len-places.ensures.len c.cut.ensures.told

pub loop-name-preserved : goal.loop-name-preserved
loop-name-preserved t c =
    let walks = c.loop-name.invariant in
    let top = tree_at c.args.m.now c.args.minor.now (at.Shared c.args.place) in
    let same = tree_same c.args.m.now c.loop-name.m c.args.minor.now c.loop-name.minor
    walks.keeps c.args.place c.requires.node.stands.0 c.requires.node in
    let here = ap (λ (x : DocTree). child c.name-item.result x.kids) same in
    elim c.match-child_place.branch [
      | in-Some+in_ok-added-in-Some w ↦
          rw (w.m-is, w.minor-is, w.out-is)
          (some_turn c.args.m.now c.loop-name.m c.child_place.new.m w.add_tree-added.new.m
          w.cut.new.self c.held_len-places.result _ walks.keeps walks.held
          c.child_place.ensures.keeps w.add_tree-added.ensures.keeps
          c.held_len-places.ensures.len w.cut.ensures.told c.args.minor.now c.loop-name.minor
          w.add_tree-added.new.minor top
          (tree_at c.child_place.new.m c.child_place.new.minor (at.Shared w.in-Some.child))
          c.args.path.now c.args.before.now c.args.out.now.items c.loop-name.out.items
          w.add_tree-added.new.out.items c.name-item.result w.deref-in-Some.result.now
          w.deref-in-Some-2.result.now c.names-name-items.result.now c.loop-name.name-index walks
          (w.add_tree-added.ensures.minor ∙ c.child_place.ensures.minor) c.loop-name-test.true
          c.name-item.is (sym (w.in-Some.ensures.child ∙ here))
          (w.deref-in-Some.ensures.value ∙ c.in_ok-path.ensures.path)
          (w.deref-in-Some-2.ensures.value ∙ c.in_ok-below.ensures.before
          ∙ ap with_slash (c.deref.ensures.value ∙ sym w.deref-in-Some.ensures.value))
          w.in_ok-added-in-Some.ensures.lines
          w.in_ok-added-in-Some.ensures.looked)
      | in-None w ↦
          rw (w.m-is, w.minor-is, w.out-is)
          (none_turn c.args.m.now c.loop-name.m c.child_place.new.m c.args.minor.now
          c.loop-name.minor c.child_place.new.minor top c.args.path.now c.args.before.now
          c.args.out.now.items c.loop-name.out.items c.name-item.result
          c.names-name-items.result.now c.loop-name.name-index walks c.child_place.ensures.keeps
          w.in-None.ensures.held c.child_place.ensures.minor c.loop-name-test.true
          c.name-item.is (sym (w.in-None.ensures.child ∙ here)))
    ]
