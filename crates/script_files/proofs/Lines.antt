-- One line more of those that are left.
use Rattle.std.proofs.Common.{append_assoc, ◌≡◌, ◌∙◌, ap, ap₂, sym, ℕ, suc, ◌+◌}
use Rattle.std.proofs.Common.{◌-◌, ◌<◌, List}
use Rattle.std.proofs.Common.{◌++◌, refl, arith}
use Rattle.script_files.specs.Draws.{drawn_at, state_after}
use Rattle.script_files.specs.Generated.{line_text_of, lines_from}

lines_more : (client state more : ℕ) → lines_from client state (suc more)
    ≡ line_text_of client (drawn_at (state_after state))
    (drawn_at (state_after (state_after state)))
    ++ lines_from client (state_after (state_after state)) more
lines_more client state more = refl

-- the first state is that before the line, the others those after each of its draws
pub goes_on : (client first second third one two commands done : ℕ) (text longer whole : List ℕ)
    → done < commands → text ++ lines_from client first (commands - done) ≡ whole
    → second ≡ state_after first → one ≡ drawn_at second
    → third ≡ state_after second → two ≡ drawn_at third
    → longer ≡ text ++ line_text_of client one two
    → longer ++ lines_from client third (commands - (done + 1)) ≡ whole
goes_on client first second third one two commands done text longer whole more so_far
    second_is one_is third_is two_is longer_is =
    let left : commands - done ≡ suc (commands - (done + 1)) = omega arith in
    let rest = commands - (done + 1) in
    let next = ap (lines_from client first) left ∙ lines_more client first rest in
    let last : third ≡ state_after (state_after first) = third_is ∙ ap state_after second_is in
    let line = ap₂ (line_text_of client) (one_is ∙ ap drawn_at second_is)
    (two_is ∙ ap drawn_at last) in
    ap (λ l. l ++ lines_from client third rest) longer_is
    ∙ append_assoc text (line_text_of client one two) (lines_from client third rest)
    ∙ ap₂ (λ l s. text ++ (l ++ lines_from client s rest)) line last
    ∙ ap (λ l. text ++ l) (sym next)
    ∙ so_far
