use Rattle.version_store.proofs.Taking.{may_take, pick_taken, was_taken}
use Rattle.version_store.proofs.walking.take_link.Goals as goal

pub end_link-requires-clause-may : goal.end_link-requires-clause-may
end_link-requires-clause-may g c =
    let need = c.requires in
    may_take c.args.m.now c.args.newest c.args.oldest need.inside need.newest need.oldest need.room
    need.due

pub end_link-requires-clause-rule : goal.end_link-requires-clause-rule
end_link-requires-clause-rule g c =
    let s = g.S.Spelling in
    let need = c.requires in
    pick_taken c.args.m.now c.args.newest c.args.oldest need.inside need.newest need.oldest
    need.room need.due s.is_tree s.tree_of s.is_record

pub returns : goal.returns
returns g c =
    let s = g.S.Spelling in
    let need = c.requires in
    let was = was_taken c.args.m.now c.args.newest c.args.oldest need.inside need.newest need.oldest
    need.room need.due s.is_tree s.tree_of s.is_record c.end_link.new.m c.end_link.result
    c.end_link.ensures.made c.end_link.ensures.moved in
    record { taken = was.0; writes = was.1 }
