use Rattle.trails.proofs.Claims.{finds_full}
use Rattle.trails.proofs.theorems.a_refused_claim_found_the_heap_full.Goals as goal

pub returns : goal.returns
returns c = λ own number cells off_duty begun ended events full.
    finds_full own number cells off_duty begun ended events full
