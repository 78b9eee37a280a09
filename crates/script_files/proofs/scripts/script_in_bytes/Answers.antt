use Rattle.std.proofs.Common.{refl, arith, length}
use Rattle.std.proofs.lemmas.Bool.{le-ltb, lt-ltb}
use Rattle.script_files.proofs.scripts.script_in_bytes.Goals as goal

pub returns-then-bytes-gt-LARGEST_FILE-clause-script :
    goal.returns-then-bytes-gt-LARGEST_FILE-clause-script
returns-then-bytes-gt-LARGEST_FILE-clause-script c =
    rw (lt-ltb 1048576 (length c.args.bytes.now)
    (omega (arith, c.if-bytes-gt-LARGEST_FILE.true))) refl

pub returns-in-Ok-clause-script : goal.returns-in-Ok-clause-script
returns-in-Ok-clause-script c =
    rw (
      le-ltb 1048576 (length c.args.bytes.now)
          (omega (arith, c.if-bytes-gt-LARGEST_FILE.false)),
      c.in-Ok.ensures.script,
    )
    c.within_count.ensures.counted

pub returns-in-Err-Fault-clause-script : goal.returns-in-Err-Fault-clause-script
returns-in-Err-Fault-clause-script c =
    let read = rw c.in-Err-Fault.field-0-is at c.in-Err-Fault.ensures.script in
    rw (
      c.fault_in.ensures,
      le-ltb 1048576 (length c.args.bytes.now)
          (omega (arith, c.if-bytes-gt-LARGEST_FILE.false)),
      read,
    ) (refl, refl)
