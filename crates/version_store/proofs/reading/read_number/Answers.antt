use Rattle.std.proofs.Common.{sym, ◌∙◌}
use Rattle.heap_rule.proofs.Picking.{read_picks}
use Rattle.version_rule.specs.Versions.{HoldsVersions, is_fixed}
use Rattle.version_store.proofs.Leaving.{read_writes, reads_alone}
use Rattle.version_store.proofs.Latest.{finds_number, number_is}
use Rattle.held_places.proofs.ReadValues.{number_alone}
use Rattle.version_store.proofs.reading.read_number.Goals as goal

pub read-requires-clause-rule : goal.read-requires-clause-rule
read-requires-clause-rule g c =
    let s = g.S.Spelling in
    let v = c.args.m.now.seat.me in
    read_picks (HoldsVersions s.is_tree s.tree_of) is_fixed v v.number c.args.place 0

pub unreachable-requires : goal.unreachable-requires
unreachable-requires g c =
    let s = g.S.Spelling in
    let told = c.read.ensures.told in
    let is = c.requires.version in
    number_alone _ is.0 told.0 c.read.result told.1
    (number_is s.is_tree s.tree_of s.is_record c.args.m.now c.read.new.self c.read.ensures.heap
    c.read.ensures.table c.args.place is.1.1.there told.0 told.2 is.0 is.1.0 is.1.1) c.in-Null.is

pub returns : goal.returns
returns g c =
    let s = g.S.Spelling in
    let told = c.read.ensures.told in
    record {
      number = finds_number s.is_tree s.tree_of s.is_record c.args.m.now c.read.new.self
          c.read.ensures.heap c.read.ensures.table c.args.place c.requires.version.1.1.there told.0
          told.2 c.in-Num.number (sym c.in-Num.is ∙ told.1);
      writes = read_writes _ _ c.args.m.now c.read.new.self c.args.place 0 _ told.2;
      alone = reads_alone _ _ c.args.m.now c.read.new.self c.args.place 0 _ told.2;
    }
