use Rattle.std.proofs.Common.{sym, ◌∙◌}
use Rattle.version_rule.proofs.Reading.{latest_picks}
use Rattle.version_store.proofs.Leaving.{read_writes}
use Rattle.version_store.proofs.Latest.{anchor_cell, finds_latest}
use Rattle.held_places.proofs.ReadValues.{held_alone}
use Rattle.version_store.proofs.reading.read_anchor.Goals as goal

pub read-requires-clause-rule : goal.read-requires-clause-rule
read-requires-clause-rule g c =
    let s = g.S.Spelling in
    latest_picks s.is_tree s.tree_of s.is_record c.args.m.now.seat.me 0 c.requires.inside.anchor

pub unreachable-requires : goal.unreachable-requires
unreachable-requires g c =
    let s = g.S.Spelling in
    let told = c.read.ensures.told in
    let cell = anchor_cell s.is_tree s.tree_of s.is_record c.args.m.now c.read.new.self
    c.read.ensures.heap c.read.ensures.table c.requires.inside told.0 told.2 in
    held_alone _ cell.0 told.0 c.read.result told.1 cell.1 c.in-Null.is

pub returns : goal.returns
returns g c =
    let s = g.S.Spelling in
    let told = c.read.ensures.told in
    record {
      latest = finds_latest s.is_tree s.tree_of s.is_record c.args.m.now c.read.new.self
          c.read.ensures.heap c.read.ensures.table c.requires.inside told.0 told.2 c.in-Held.place
          (sym c.in-Held.is ∙ told.1);
      writes = read_writes _ _ c.args.m.now c.read.new.self 0 0 _ told.2;
    }
