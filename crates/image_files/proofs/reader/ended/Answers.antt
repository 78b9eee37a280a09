use Rattle.std.proofs.Common.{◌≡◌, ◌+◌, length, false, Err, sym, subst, arith}
use Rattle.image_files.specs.Answers.{Lists}
use Rattle.image_files.specs.Contents.{ended}
use Rattle.line_texts.specs.Lines.{is_end, lines_left}
use Rattle.image_files.specs.declared.fault.ImageError.{ImageError}
use Rattle.image_files.proofs.Turns.{follows_end}
use Rattle.image_files.proofs.reader.ended.Goals as goal

pub returns-else-is_end-clause-lines : goal.returns-else-is_end-clause-lines
returns-else-is_end-clause-lines c =
    let lines = c.args.file.lines in
    let same : c.count.result + 3 ≡ length lines + 3 = omega (arith, c.count.ensures.count) in
    let more : is_end (lines_left c.args.rest) ≡ false = cc in
    subst (λ (e : ImageError). Lists (Err e) (ended lines (lines_left c.args.rest)))
    (sym c.fault_at.ensures)
    (follows_end (c.count.result + 3) lines (lines_left c.args.rest) more same)
