use Rattle.std.proofs.Common.{[], ◌∷◌, refl, arith}
use Rattle.std.proofs.lemmas.Bool.{lt-ltb}
use Rattle.cell_words.specs.declared.fields.Field.TheVariants as field
use Rattle.heap_rule.specs.Asks.{target}
use Rattle.heap_rule.specs.Lore.{five_nulls}
use Rattle.mutator_events.specs.declared.values.Value.TheVariants as values
use Rattle.mutator_events.specs.Values.{field_at}
use Rattle.version_rule.specs.Versions.{HoldsVersions, is_fixed}
use Rattle.heap_rule.proofs.Filling.{fill_picks}
use Rattle.version_store.proofs.Filling.{filled_link, filled_number, filled_tree, filling_starts}
use Rattle.version_store.proofs.Filling.{makes, may_fill, may_seal, names_place, sealed_place}
use Rattle.version_store.proofs.Filling.{settled_place, spared_settled}
use Rattle.version_store.proofs.Leaving.{filled_writes, nothing_then, writes_told}
use Rattle.version_store.proofs.committing.make_version.Goals as goal

pub fill-requires-clause-may : goal.fill-requires-clause-may
fill-requires-clause-may g c =
    let m = c.args.m.now in
    let may = c.requires.may in
    may_fill m m c.args.fresh c.args.latest c.args.tree five_nulls
    (filling_starts m c.args.fresh c.args.latest c.args.tree may) may.there may.inside 0
    (field.Num c.args.number) (omega arith)
    (lt-ltb c.args.number 4611686018427387904 (omega (arith, c.requires.small))) tt refl

pub fill-requires-clause-rule : goal.fill-requires-clause-rule
fill-requires-clause-rule g c =
    let s = g.S.Spelling in
    fill_picks (HoldsVersions s.is_tree s.tree_of) is_fixed c.args.m.now.seat.me c.args.fresh 0
    (field.Num c.args.number) tt

pub fill-requires-2-clause-may : goal.fill-requires-2-clause-may
fill-requires-2-clause-may g c =
    let m = c.args.m.now in
    let may = c.requires.may in
    let a = c.fill.new.self in
    let fields = field.Num c.args.number ∷ field.Null ∷ field.Null ∷ field.Null ∷ field.Null ∷ [] in
    let filled = filled_number m m a c.args.fresh c.args.latest c.args.tree c.args.number may
    c.fill.ensures.told in
    may_fill m a c.args.fresh c.args.latest c.args.tree fields filled may.there may.inside 1 _
    (omega arith)
    (names_place m a c.args.fresh c.args.latest c.args.tree fields filled may.there may.inside
    c.args.tree may.tree_before may.tree_is
    (spared_settled m c.args.fresh c.args.latest c.args.tree c.args.tree may.tree_apart
    may.tree_is))
    (sealed_place m a c.args.fresh c.args.latest c.args.tree fields filled may.there may.inside
    c.args.tree may.tree_before may.tree_is
    (spared_settled m c.args.fresh c.args.latest c.args.tree c.args.tree may.tree_apart
    may.tree_is)) refl

pub fill-requires-2-clause-rule : goal.fill-requires-2-clause-rule
fill-requires-2-clause-rule g c =
    let s = g.S.Spelling in
    let m = c.args.m.now in
    let may = c.requires.may in
    let a = c.fill.new.self in
    let fields = field.Num c.args.number ∷ field.Null ∷ field.Null ∷ field.Null ∷ field.Null ∷ [] in
    fill_picks (HoldsVersions s.is_tree s.tree_of) is_fixed a.seat.me c.args.fresh 1
    (field_at a.seat.me.own.held (values.Held c.args.tree))
    (settled_place m a c.args.fresh c.args.latest c.args.tree fields
    (filled_number m m a c.args.fresh c.args.latest c.args.tree c.args.number may
    c.fill.ensures.told) may.there may.inside c.args.tree may.tree_before may.tree_is
    (spared_settled m c.args.fresh c.args.latest c.args.tree c.args.tree may.tree_apart
    may.tree_is))

pub fill-requires-3-clause-may : goal.fill-requires-3-clause-may
fill-requires-3-clause-may g c =
    let m = c.args.m.now in
    let may = c.requires.may in
    let a = c.fill.new.self in
    let b = c.fill-2.new.self in
    let fields = field.Num c.args.number ∷ field.Cell (target m.seat.me c.args.tree) ∷ field.Null ∷
    field.Null ∷ field.Null ∷ [] in
    let filled = filled_tree m a b c.args.fresh c.args.latest c.args.tree c.args.number may
    (filled_number m m a c.args.fresh c.args.latest c.args.tree c.args.number may
    c.fill.ensures.told) c.fill-2.ensures.told in
    may_fill m b c.args.fresh c.args.latest c.args.tree fields filled may.there may.inside 2 _
    (omega arith)
    (names_place m b c.args.fresh c.args.latest c.args.tree fields filled may.there may.inside
    c.args.latest may.latest_before may.latest_is
    (spared_settled m c.args.fresh c.args.latest c.args.tree c.args.latest may.latest_apart
    may.latest_is))
    (sealed_place m b c.args.fresh c.args.latest c.args.tree fields filled may.there may.inside
    c.args.latest may.latest_before may.latest_is
    (spared_settled m c.args.fresh c.args.latest c.args.tree c.args.latest may.latest_apart
    may.latest_is)) refl

pub fill-requires-3-clause-rule : goal.fill-requires-3-clause-rule
fill-requires-3-clause-rule g c =
    let s = g.S.Spelling in
    let m = c.args.m.now in
    let may = c.requires.may in
    let a = c.fill.new.self in
    let b = c.fill-2.new.self in
    let fields = field.Num c.args.number ∷ field.Cell (target m.seat.me c.args.tree) ∷ field.Null ∷
    field.Null ∷ field.Null ∷ [] in
    fill_picks (HoldsVersions s.is_tree s.tree_of) is_fixed b.seat.me c.args.fresh 2
    (field_at b.seat.me.own.held (values.Held c.args.latest))
    (settled_place m b c.args.fresh c.args.latest c.args.tree fields
    (filled_tree m a b c.args.fresh c.args.latest c.args.tree c.args.number may
    (filled_number m m a c.args.fresh c.args.latest c.args.tree c.args.number may
    c.fill.ensures.told) c.fill-2.ensures.told) may.there may.inside c.args.latest
    may.latest_before may.latest_is
    (spared_settled m c.args.fresh c.args.latest c.args.tree c.args.latest may.latest_apart
    may.latest_is))

pub seal_box-requires : goal.seal_box-requires
seal_box-requires g c =
    let m = c.args.m.now in
    let may = c.requires.may in
    let a = c.fill.new.self in
    let b = c.fill-2.new.self in
    let d = c.fill-3.new.self in
    record {
      may = may_seal m d c.args.fresh c.args.latest c.args.tree (field.Num c.args.number ∷
          field.Cell (target m.seat.me c.args.tree) ∷ field.Cell (target m.seat.me c.args.latest) ∷
          field.Null ∷ field.Null ∷ [])
          (filled_link m b d c.args.fresh c.args.latest c.args.tree c.args.number may
          (filled_tree m a b c.args.fresh c.args.latest c.args.tree c.args.number may
          (filled_number m m a c.args.fresh c.args.latest c.args.tree c.args.number may
          c.fill.ensures.told) c.fill-2.ensures.told) c.fill-3.ensures.told) may.there may.inside;
    }

pub returns : goal.returns
returns g c =
    let m = c.args.m.now in
    let may = c.requires.may in
    let a = c.fill.new.self in
    let b = c.fill-2.new.self in
    let d = c.fill-3.new.self in
    record {
      makes = makes m d c.seal_box.new.self c.args.fresh c.args.number c.args.latest c.args.tree
          (filled_link m b d c.args.fresh c.args.latest c.args.tree c.args.number may
          (filled_tree m a b c.args.fresh c.args.latest c.args.tree c.args.number may
          (filled_number m m a c.args.fresh c.args.latest c.args.tree c.args.number may
          c.fill.ensures.told) c.fill-2.ensures.told) c.fill-3.ensures.told) may.there
          c.seal_box.ensures.told;
      writes = nothing_then [] m a c.seal_box.new.self (filled_writes m a _ _ _ c.fill.ensures.told)
          (nothing_then [] a b c.seal_box.new.self (filled_writes a b _ _ _ c.fill-2.ensures.told)
          (nothing_then [] b d c.seal_box.new.self (filled_writes b d _ _ _ c.fill-3.ensures.told)
          (writes_told d c.seal_box.new.self _ _ c.seal_box.ensures.told)));
    }
