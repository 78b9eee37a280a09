use Rattle.std.proofs.Common.{ℕ, Err, Ok, subst}
use Rattle.heap_c.specs.Records.{GetsField}
use Rattle.heap_c.proofs.Paths.{follows_next, stops_next}
use Rattle.heap_c.proofs.walking.follow.Goals as goal

pub loop-field-preserved : goal.loop-field-preserved
loop-field-preserved c =
    let at = c.loop-field.at in
    let was = c.loop-field.mine in
    let now = c.get.new.self in
    follows_next c.args.mine.now c.args.of c.args.path.now c.loop-field.field-index 0 was at now
    c.in-Ok.found c.loop-field-test.true c.loop-field.invariant
    (subst (λ (f : ℕ). GetsField was now at f (Ok c.in-Ok.found)) c.from.ensures
    c.in-Ok.ensures.got)

pub returns-in-Err : goal.returns-in-Err
returns-in-Err c =
    let at = c.loop-field.at in
    let was = c.loop-field.mine in
    let now = c.get.new.self in
    record {
      followed = stops_next c.args.mine.now c.args.of c.args.path.now c.loop-field.field-index 0
          was at now c.in-Err.code c.loop-field-test.true c.loop-field.invariant
          (subst (λ (f : ℕ). GetsField was now at f (Err c.in-Err.code)) c.from.ensures
          c.in-Err.ensures.got);
    }
