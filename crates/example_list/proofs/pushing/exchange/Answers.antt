use Rattle.example_list.proofs.Making.{may_exchange, picks_exchange}
use Rattle.example_list.proofs.pushing.exchange.Goals as goal

pub update-requires-clause-may : goal.update-requires-clause-may
update-requires-clause-may c =
    may_exchange c.args.m.now c.args.newest c.args.node c.requires.node

pub update-requires-clause-rule : goal.update-requires-clause-rule
update-requires-clause-rule c =
    picks_exchange c.args.m.now c.args.newest c.args.node c.requires.node
