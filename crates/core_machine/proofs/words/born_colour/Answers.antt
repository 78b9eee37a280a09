use Rattle.core_machine.proofs.words.born_colour.Goals as goal

pub returns-in-Some : goal.returns-in-Some
returns-in-Some c = record { colour = rw c.in-Some.is c.claim_colour.ensures.colour }
