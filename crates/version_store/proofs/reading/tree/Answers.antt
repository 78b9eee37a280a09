use Rattle.std.proofs.Common.{sym, ◌∙◌}
use Rattle.version_rule.proofs.Reading.{tree_picks}
use Rattle.version_store.proofs.Lasting.{goes_same, root_lasts, root_shows}
use Rattle.version_store.proofs.Leaving.{read_writes}
use Rattle.version_store.proofs.Latest.{gives_root, root_cell}
use Rattle.held_places.proofs.ReadValues.{held_alone}
use Rattle.version_store.proofs.reading.tree.Goals as goal

pub read-requires-clause-rule : goal.read-requires-clause-rule
read-requires-clause-rule g c =
    let s = g.S.Spelling in
    let is = c.requires.version in
    tree_picks s.is_tree s.tree_of s.is_record c.args.m.now.seat.me c.args.v.place c.args.v.number
    is.root is.knows 1

pub unreachable-requires : goal.unreachable-requires
unreachable-requires g c =
    let s = g.S.Spelling in
    let told = c.read.ensures.told in
    let cell = root_cell s.is_tree s.tree_of s.is_record c.args.m.now c.read.new.self
    c.read.ensures.heap c.read.ensures.table c.args.v c.requires.version told.0 told.2 in
    held_alone _ cell.0 told.0 c.read.result told.1 cell.1 c.in-Null.is

pub returns : goal.returns
returns g c =
    let s = g.S.Spelling in
    let told = c.read.ensures.told in
    let a = c.args.m.now in
    let b = c.read.new.self in
    let gives = gives_root s.is_tree s.tree_of s.is_record a b c.read.ensures.heap
    c.read.ensures.table c.args.v c.requires.version told.0 told.2 c.in-Held.place
    (sym c.in-Held.is ∙ told.1) in
    record {
      root = gives;
      shows = root_shows s.is_tree s.tree_of a b c.args.v c.in-Held.place c.held_len.ensures.left
          gives;
      writes = read_writes _ _ a b c.args.v.place 1 _ told.2;
      lasts = root_lasts s.is_tree s.tree_of a b c.args.v c.in-Held.place gives;
      same = goes_same a b gives.goes;
    }
