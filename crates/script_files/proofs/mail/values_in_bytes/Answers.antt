use Rattle.std.proofs.Common.{refl, arith, length}
use Rattle.std.proofs.lemmas.Bool.{le-ltb, lt-ltb}
use Rattle.script_files.proofs.mail.values_in_bytes.Goals as goal

pub returns-then-bytes-gt-LARGEST_FILE-clause-values :
    goal.returns-then-bytes-gt-LARGEST_FILE-clause-values
returns-then-bytes-gt-LARGEST_FILE-clause-values c =
    rw (lt-ltb 1048576 (length c.args.bytes.now)
    (omega (arith, c.if-bytes-gt-LARGEST_FILE.true))) refl

pub returns-in-Ok-clause-values : goal.returns-in-Ok-clause-values
returns-in-Ok-clause-values c =
    rw (
      le-ltb 1048576 (length c.args.bytes.now)
          (omega (arith, c.if-bytes-gt-LARGEST_FILE.false)),
      c.in-Ok.ensures.script,
    )
    c.values_within.ensures.counted

pub returns-in-Err-Fault-clause-values : goal.returns-in-Err-Fault-clause-values
returns-in-Err-Fault-clause-values c =
    let read = rw c.in-Err-Fault.field-0-is at c.in-Err-Fault.ensures.script in
    rw (
      c.fault_in.ensures,
      le-ltb 1048576 (length c.args.bytes.now)
          (omega (arith, c.if-bytes-gt-LARGEST_FILE.false)),
      read,
    ) (refl, refl)
