use Rattle.std.proofs.Common.{ℕ, ap, subst, arith, inl}
use Rattle.version_rule.specs.Knowing.{link_cut}
use Rattle.version_rule.specs.Pass.{Pass}
use Rattle.version_store.specs.Walks.{Stopped, Walked}
use Rattle.version_store.proofs.Backward.{walked_held, walked_some_room}
use Rattle.version_store.proofs.Leaving.{at_most_behind}
use Rattle.version_store.proofs.Trimming.{cuts_stopped, cuts_walked, picks_cut}
use Rattle.version_store.proofs.walking.cut_off.Goals as goal

pub walk_back-requires-clause-picks : goal.walk_back-requires-clause-picks
walk_back-requires-clause-picks g c =
    let s = g.S.Spelling in picks_cut s.is_tree s.tree_of s.is_record

pub cut_link-requires-clause-room : goal.cut_link-requires-clause-room
cut_link-requires-clause-room g c =
    walked_some_room c.args.m.now c.walk_back.new.m c.args.v c.in-Some.oldest
    c.saturating_sub.result c.in-Some.ensures.walked
    (omega (arith, c.saturating_sub.ensures, c.requires.setting)) c.requires.room

pub cut_link-requires-clause-newest : goal.cut_link-requires-clause-newest
cut_link-requires-clause-newest g c =
    walked_held c.args.m.now c.walk_back.new.m c.args.v c.in-Some.oldest _ c.in-Some.ensures.walked
    c.requires.version

pub cut_link-requires-clause-due : goal.cut_link-requires-clause-due
cut_link-requires-clause-due g c =
    let walked = c.in-Some.ensures.walked in
    let is = walked.number_is in
    let some = walked.keeps_some in
    let same = ap (λ (p : Pass). p.keep) walked.pass in
    omega (arith, is, some, same, c.saturating_sub.ensures, c.requires.setting)

pub returns-in-Some : goal.returns-in-Some
returns-in-Some g c = record {
  cuts = cuts_walked c.args.m.now c.walk_back.new.m c.cut_link.new.m c.args.v c.in-Some.oldest
      c.args.keep c.requires.setting
      (subst (λ (n : ℕ). Walked c.args.m.now c.walk_back.new.m c.args.v c.in-Some.oldest n)
      c.saturating_sub.ensures c.in-Some.ensures.walked) c.cut_link.ensures.cut;
  writes = at_most_behind c.args.m.now c.walk_back.new.m c.cut_link.new.m
      c.in-Some.ensures.walked.goes.number c.walk_back.ensures.writes c.walk_back.ensures.alone
      c.cut_link.ensures.writes;
}

pub returns-in-None : goal.returns-in-None
returns-in-None g c = record {
  cuts = cuts_stopped c.args.m.now c.walk_back.new.m c.args.v c.args.keep
      (subst (λ (n : ℕ). Stopped link_cut c.args.m.now c.walk_back.new.m c.args.v n)
      c.saturating_sub.ensures c.in-None.ensures.stopped);
  writes = inl c.walk_back.ensures.writes;
}
