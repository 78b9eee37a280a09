use Rattle.std.proofs.Common.{◌∷◌, [], ap, arith, inl, inr}
use Rattle.version_rule.specs.Pass.{Pass}
use Rattle.version_store.proofs.Backward.{held_on}
use Rattle.held_places.proofs.Going.{in_still, many_held}
use Rattle.version_store.proofs.Leaving.{at_most_behind}
use Rattle.version_store.proofs.Trimming.{link_taken_on, link_was_null, picks_cut}
use Rattle.version_store.proofs.walking.cut_link.Goals as goal

pub follow-requires-clause-picks : goal.follow-requires-clause-picks
follow-requires-clause-picks g c =
    let s = g.S.Spelling in picks_cut s.is_tree s.tree_of s.is_record

pub follow-requires-clause-room : goal.follow-requires-clause-room
follow-requires-clause-room g c = omega (arith, c.requires.room)

pub take_link-requires-clause-room : goal.take_link-requires-clause-room
take_link-requires-clause-room g c =
    let step = c.in-Some.ensures.follows in
    let more = many_held c.args.m.now c.follow.new.m (step.cell ∷ []) step.holds.held in
    let same = step.goes.room in
    omega (arith, more, same, c.requires.room)

pub take_link-requires-clause-inside : goal.take_link-requires-clause-inside
take_link-requires-clause-inside g c =
    let step = c.in-Some.ensures.follows in
    in_still c.args.m.now c.follow.new.m (step.cell ∷ []) [] c.requires.inside step.goes
    step.holds.held

pub take_link-requires-clause-newest : goal.take_link-requires-clause-newest
take_link-requires-clause-newest g c =
    let step = c.in-Some.ensures.follows in
    held_on c.args.m.now c.follow.new.m c.args.newest (step.cell ∷ []) step.holds
    c.requires.newest

pub take_link-requires-clause-oldest : goal.take_link-requires-clause-oldest
take_link-requires-clause-oldest g c =
    let step = c.in-Some.ensures.follows in
    held_on c.args.m.now c.follow.new.m c.args.oldest (step.cell ∷ []) step.holds
    c.requires.oldest

pub take_link-requires-clause-due : goal.take_link-requires-clause-due
take_link-requires-clause-due g c =
    let keep = ap (λ (p : Pass). p.keep) c.in-Some.ensures.follows.pass in
    omega (arith, keep, c.requires.due)

pub returns-in-Some : goal.returns-in-Some
returns-in-Some g c = record {
  cut = link_taken_on c.args.m.now c.follow.new.m c.take_link.new.m c.args.oldest
      _ c.requires.oldest c.in-Some.ensures.follows c.take_link.ensures.taken;
  writes = at_most_behind c.args.m.now c.follow.new.m c.take_link.new.m
      c.in-Some.ensures.follows.goes.number c.follow.ensures.writes c.follow.ensures.alone
      (inr c.take_link.ensures.writes);
}

pub returns-in-None : goal.returns-in-None
returns-in-None g c = record {
  cut = link_was_null c.args.m.now c.follow.new.m c.args.oldest c.in-None.ensures.ends;
  writes = inl c.follow.ensures.writes;
}
