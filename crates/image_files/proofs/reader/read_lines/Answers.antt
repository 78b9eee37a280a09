use Rattle.std.proofs.Common.{◌≡◌, ◌≤◌, ◌^◌, ◌+◌, ◌∙◌, [], length, Ok, Err, ap, sym, subst, arith}
use Rattle.line_texts.specs.Lines.{lines_left, lines_of}
use Rattle.image_files.specs.Answers.{Lists}
use Rattle.image_files.specs.Contents.{lines_from}
use Rattle.image_files.specs.declared.fault.ImageError.{ImageError}
use Rattle.image_files.proofs.Turns.{ends, goes_on, missing, stops, turn_fits}
use Rattle.image_files.proofs.reader.read_lines.Goals as goal

pub returns-in-Ok-End-clause-lines : goal.returns-in-Ok-End-clause-lines
returns-in-Ok-End-clause-lines c =
    let so_far = rw c.in-Some.is at c.loop-rest.invariant.so_far in
    let file = c.loop-rest.file in
    ends file.size file.lines c.in-Some.left.now c.cut_line.result.0.now c.cut_line.result.1
    c.is_some.result c.read_turn.result _ c.ended.result (record {
      cut = c.cut_line.ensures.lines;
      feed = c.is_some.ensures;
      is = c.read_turn.ensures;
    }) (c.in-Ok-End.is ∙ ap (λ h. Ok h) c.in-Ok-End.field-0-is) so_far c.ended.ensures.lines

pub push-requires : goal.push-requires
push-requires c =
    let file = c.loop-rest.file in
    let is = c.loop-rest.invariant.file in
    let few : file.size ≤ 2 ^ 32 = omega (arith, is.few) in
    let fits = turn_fits file.size file.lines c.is_some.result c.cut_line.result.0.now
    c.in-Ok-Cell.cell few
    (sym c.read_turn.ensures ∙ c.in-Ok-Cell.is ∙ ap (λ h. Ok h) c.in-Ok-Cell.field-0-is) in
    record {
      file = is;
      fits = fits.0;
      order = omega (arith, fits.1, is.least_is);
    }

pub loop-rest-preserved : goal.loop-rest-preserved
loop-rest-preserved c =
    let so_far = rw c.in-Some.is at c.loop-rest.invariant.so_far in
    let file = c.loop-rest.file in
    let new = c.push.new.self in
    let size = c.in_ok-push-in-Ok-Cell.ensures.size in
    record {
      file = c.in_ok-push-in-Ok-Cell.ensures.file;
      size = size ∙ c.loop-rest.invariant.size;
      so_far = ap (λ n. lines_from n new.lines (lines_left c.cut_line.result.1)) size
          ∙ goes_on file.size file.lines new.lines c.in-Some.left.now c.cut_line.result.0.now
          c.cut_line.result.1 c.is_some.result c.read_turn.result c.in-Ok-Cell.cell _ (record {
            cut = c.cut_line.ensures.lines;
            feed = c.is_some.ensures;
            is = c.read_turn.ensures;
          }) (c.in-Ok-Cell.is ∙ ap (λ h. Ok h) c.in-Ok-Cell.field-0-is)
          c.in_ok-push-in-Ok-Cell.ensures.lines so_far;
    }

pub returns-in-Err-clause-lines : goal.returns-in-Err-clause-lines
returns-in-Err-clause-lines c =
    let so_far = rw c.in-Some.is at c.loop-rest.invariant.so_far in
    let file = c.loop-rest.file in
    let same : c.count.result + 2 ≡ length file.lines + 2 = omega (arith, c.count.ensures.count) in
    subst (λ (e : ImageError). Lists (Err e) (lines_from c.args.size [] (lines_of
    c.args.bytes.now))) (sym c.fault_at.ensures)
    (stops file.size file.lines c.in-Some.left.now c.cut_line.result.0.now c.cut_line.result.1
    c.is_some.result c.read_turn.result c.in-Err.kind (c.count.result + 2) _ (record {
      cut = c.cut_line.ensures.lines;
      feed = c.is_some.ensures;
      is = c.read_turn.ensures;
    }) c.in-Err.is same so_far)

pub returns-clause-lines : goal.returns-clause-lines
returns-clause-lines c =
    let so_far = rw c.in_default.is at c.loop-rest.invariant.so_far in
    let file = c.loop-rest.file in
    let same : c.count-2.result + 2 ≡ length file.lines + 2 =
    omega (arith, c.count-2.ensures.count) in
    subst (λ (e : ImageError). Lists (Err e) (lines_from c.args.size [] (lines_of
    c.args.bytes.now))) (sym c.fault_at-2.ensures)
    (missing file.size (c.count-2.result + 2) file.lines _ same so_far)
