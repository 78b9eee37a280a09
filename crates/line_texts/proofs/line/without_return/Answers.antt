use Rattle.std.proofs.Common.{◌≡◌, ◌-◌, ℕ, List, length, take, get_or, eq-eqb, refl, arith}
use Rattle.std.specs.Str.Lines.{strip_carriage_return}
use Rattle.line_texts.proofs.line.without_return.Goals as goal

ends_before : (line : List ℕ) → get_or line (length line - 1) 0 ≡ 13
    → take (length line - 1) line ≡ strip_carriage_return line
ends_before line last = rw (eq-eqb (get_or line (length line - 1) 0) 13 last) refl

-- the line ends before its carriage return
pub returns-in-13 : goal.returns-in-13
returns-in-13 c = ends_before c.args.line.now (omega arith)
