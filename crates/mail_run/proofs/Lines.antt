-- How many lines there are, script by script.
use Rattle.std.proofs.Common.{ℕ, ◌+◌, ◌≤◌, List, [], ◌∷◌, length, All, arith}
use Rattle.std.specs.Prelude.{Vec}
use Rattle.std.specs.declared.alloc.Global.{Global}
use Rattle.std.proofs.lemmas.List.Elements.{All-cons, All-nil}
use Rattle.mail_threads.specs.Taken.{lists_of}
use Rattle.mail_run.specs.Comes.{lines_in}

-- each script is as short as all are
pub each_short : (scripts : List (Vec ℕ Global)) (most : ℕ) → lines_in (lists_of scripts) ≤ most
    → All (λ (script : Vec ℕ Global). length script.items ≤ most) scripts
each_short [] most le = All-nil (λ (script : Vec ℕ Global). length script.items ≤ most)
each_short (s ∷ ss) most le =
    let sum : length s.items + lines_in (lists_of ss) ≤ most = le in
    All-cons (λ (script : Vec ℕ Global). length script.items ≤ most) s ss
    (omega (arith, sum)) (each_short ss most (omega (arith, sum)))
