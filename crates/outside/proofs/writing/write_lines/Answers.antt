use Rattle.std.proofs.Common.{◌≡◌, ◌+◌, ◌++◌, length, arith, ap, ◌∙◌, length-append}
use Rattle.std.proofs.lemmas.Result.{err_from_is_err_and}
use Rattle.outside.proofs.Taken.{appended_next, first_cut, part_of_text}
use Rattle.outside.proofs.writing.write_lines.Goals as goal

-- the next line was written
pub loop-rest-preserved : goal.loop-rest-preserved
loop-rest-preserved g c =
    let cut : c.loop-rest.rest.now ≡ c.first_line.result.0.now ++ c.first_line.result.1.now =
    rw (c.first_line.ensures.line, c.first_line.ensures.after)
    (first_cut c.loop-rest.rest.now) in
    let long : length c.loop-rest.rest.now
    ≡ length c.first_line.result.0.now + length c.first_line.result.1.now =
    ap length cut ∙ length-append c.first_line.result.0.now _ in
    record {
      taken = appended_next _ _ _ _ _ _ _ c.loop-rest.invariant.taken cut
          c.in_ok-write_all.ensures.ok;
      turns = omega (arith, long, c.loop-rest.invariant.turns, c.in_ok-write_all.ensures.calls);
      unbroken = λ was. c.in_ok-write_all.ensures.unbroken (c.loop-rest.invariant.unbroken was);
      later = omega (arith, c.in_ok-write_all.ensures.faults, c.loop-rest.invariant.later);
      wanted = omega (arith, c.in_ok-write_all.ensures.wants, c.loop-rest.invariant.wanted);
    }

-- the lines before were written, and a part of this one
pub returns-in_err-write_all-clause-err : goal.returns-in_err-write_all-clause-err
returns-in_err-write_all-clause-err g c =
    let failed = err_from_is_err_and c.from_residual.result c.from_residual.ensures.1 in
    let cut : c.loop-rest.rest.now ≡ c.first_line.result.0.now ++ c.first_line.result.1.now =
    rw (c.first_line.ensures.line, c.first_line.ensures.after)
    (first_cut c.loop-rest.rest.now) in
    rw failed.1
    (part_of_text _ _ _ _ _ _ _ c.loop-rest.invariant.taken cut c.in_err-write_all.ensures.err)
