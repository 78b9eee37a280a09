-- A cell of a chain: what it is, and what comes after it.
use Rattle.std.proofs.Common.{◌≡◌, ◌+◌, List, ◌++◌, refl}
use Rattle.cell_words.specs.Term.{Term, null, num, five, part, number, IsFive}
use Rattle.trails.specs.Asks.{Ask}
use Rattle.doc_records.specs.Shapes.{IsNum, IsChain, cells_of, ask_cell, ask_text}
use Rattle.doc_records.specs.Texts.{text_of, bytes_here}

pub num_count : (t : Term) → IsFive t → IsChain t → IsNum (part 0 t)
num_count null is chain = absurd is
num_count (num n) is chain = absurd is
num_count (five a b c d e) is chain = chain.0

pub num_first : (t : Term) → IsFive t → IsChain t → IsNum (part 1 t)
num_first null is chain = absurd is
num_first (num n) is chain = absurd is
num_first (five a b c d e) is chain = chain.1

pub num_second : (t : Term) → IsFive t → IsChain t → IsNum (part 2 t)
num_second null is chain = absurd is
num_second (num n) is chain = absurd is
num_second (five a b c d e) is chain = chain.2

pub num_third : (t : Term) → IsFive t → IsChain t → IsNum (part 3 t)
num_third null is chain = absurd is
num_third (num n) is chain = absurd is
num_third (five a b c d e) is chain = chain.3

pub chain_next : (t : Term) → IsFive t → IsChain t → IsChain (part 4 t)
chain_next null is chain = absurd is
chain_next (num n) is chain = absurd is
chain_next (five a b c d e) is chain = chain.4

pub text_cell : (t : Term) → IsFive t
    → text_of t ≡ bytes_here (number (part 0 t)) (number (part 1 t)) (number (part 2 t))
    (number (part 3 t)) ++ text_of (part 4 t)
text_cell null is = absurd is
text_cell (num n) is = absurd is
text_cell (five a b c d e) is = refl

pub cells_next : (t : Term) → IsFive t → cells_of t ≡ cells_of (part 4 t) + 1
cells_next null is = absurd is
cells_next (num n) is = absurd is
cells_next (five a b c d e) is = refl

pub ask_next : (t : Term) (rest : List Ask) → IsFive t
    → ask_text t rest ≡ ask_cell t (ask_text (part 4 t) rest)
ask_next null rest is = absurd is
ask_next (num n) rest is = absurd is
ask_next (five a b c d e) rest is = refl

pub ruleset cell = (num_count, num_first, num_second, num_third, text_cell)

pub ruleset next = (chain_next, cells_next, ask_next)
