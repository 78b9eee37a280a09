use Rattle.promotion.proofs.copying.give_back.Goals as goal

pub returns-then-held-held_len-clause-cut : goal.returns-then-held-held_len-clause-cut
returns-then-held-held_len-clause-cut g c = λ _. c.cut.ensures.told
