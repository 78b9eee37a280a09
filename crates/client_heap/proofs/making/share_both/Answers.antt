use Rattle.client_heap.proofs.Pairs.{last_copied}
use Rattle.client_heap.proofs.making.share_both.Goals as goal

pub returns-in-Minor-Minor-clause-second : goal.returns-in-Minor-Minor-clause-second
returns-in-Minor-Minor-clause-second g c =
    let did = c.share_nodes-both.ensures in
    last_copied c.args.m.now c.share_nodes-both.new.m c.args.minor.now c.in-Minor-Minor.q
    c.in-Minor-Minor.r c.share_nodes-both.result did.first did.held did.copied c.args.y
    c.in-Minor-Minor.is-1
