use Rattle.client_session.proofs.turns.give_back.Goals as goal

-- from what is known of the state after the call, whatever call that is
pub returns-clause-settled : goal.returns-clause-settled
returns-clause-settled g c = cc
