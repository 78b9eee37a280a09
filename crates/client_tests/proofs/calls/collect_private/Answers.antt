use Rattle.std.proofs.Common.{◌∙◌, arith, rules}
use Rattle.client_trees.proofs.Resting.{rests_stands}
use Rattle.client_tests.proofs.Copied.{node_shares, works_shared}
use Rattle.client_tests.proofs.calls.collect_private.Goals as goal

pub collect-requires-clause-stand : goal.collect-requires-clause-stand
collect-requires-clause-stand g c =
    let stands = rests_stands _ _ _ c.requires.works.node.stands in search (rules, stands)

pub collect-requires-clause-shares : goal.collect-requires-clause-shares
collect-requires-clause-shares g c = node_shares _ _ _ _ c.requires.works.node.stands

pub returns : goal.returns
returns g c =
    let held = c.held_len-held.ensures in
    let some = held.some c.requires.works.inside in
    record {
      works = works_shared c.args.m.now c.collect.new.m c.args.minor.now c.collect.new.minor c.args.r
          c.requires.works c.in_ok-collect.ensures.collected (held.known ∙ held.len)
          (omega (arith, some, held.len));
    }
