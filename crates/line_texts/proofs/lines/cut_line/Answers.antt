-- The line ends at the first line feed.
use Rattle.std.proofs.Common.{◌≡◌, ℕ, List, ◌∷◌, ◌++◌, take, drop, Some, None, ap, sym, ◌∙◌}
use Rattle.std.specs.Prelude.{position, ◌==◌}
use Rattle.line_texts.specs.Lines.{lines_of}
use Rattle.line_texts.proofs.Feeds.{cut_at, uncut, whole_at}
use Rattle.line_texts.proofs.lines.cut_line.Goals as goal

pub returns-in_default-clause-lines : goal.returns-in_default-clause-lines
returns-in_default-clause-lines c =
    let none : position (λ byte. byte == 10) c.args.bytes.now ≡ None = cc c.first_feed.ensures in
    uncut c.args.bytes.now none

cut_lines : (xs line rest more : List ℕ) (at : ℕ) → position (λ byte. byte == 10) xs ≡ Some at
    → line ≡ take at xs → rest ≡ drop at xs → more ≡ drop 1 rest
    → lines_of xs ≡ line ∷ lines_of more
cut_lines xs line rest more at found front back behind =
    cut_at xs at found
    ∙ ap (λ (l : List ℕ). l ∷ lines_of (drop 1 (drop at xs))) (sym front)
    ∙ ap (λ (m : List ℕ). line ∷ lines_of m) (sym (behind ∙ ap (drop 1) back))

cut_whole : (xs line rest more : List ℕ) (at : ℕ) → position (λ byte. byte == 10) xs ≡ Some at
    → line ≡ take at xs → rest ≡ drop at xs → more ≡ drop 1 rest → xs ≡ line ++ 10 ∷ more
cut_whole xs line rest more at found front back behind =
    whole_at xs at found
    ∙ ap (λ (l : List ℕ). l ++ 10 ∷ drop 1 (drop at xs)) (sym front)
    ∙ ap (λ (m : List ℕ). line ++ 10 ∷ m) (sym (behind ∙ ap (drop 1) back))

pub returns-clause-lines : goal.returns-clause-lines
returns-clause-lines c =
    let some : position (λ byte. byte == 10) c.args.bytes.now ≡ Some c.in-Some.at =
    cc c.first_feed.ensures in
    cut_lines c.args.bytes.now c.split_at.result.0.now c.split_at.result.1.now
    c.split_at-2.result.1.now c.in-Some.at some c.split_at.ensures.front c.split_at.ensures.back
    c.split_at-2.ensures.back

pub returns-clause-whole : goal.returns-clause-whole
returns-clause-whole c =
    let some : position (λ byte. byte == 10) c.args.bytes.now ≡ Some c.in-Some.at =
    cc c.first_feed.ensures in
    cut_whole c.args.bytes.now c.split_at.result.0.now c.split_at.result.1.now
    c.split_at-2.result.1.now c.in-Some.at some c.split_at.ensures.front c.split_at.ensures.back
    c.split_at-2.ensures.back
