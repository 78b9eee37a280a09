use Rattle.std.proofs.Common.{refl, arith, ◌+◌, length}
use Rattle.std.proofs.lemmas.Bool.{lt-ltb}
use Rattle.run_limits.specs.declared.TheConstants.{MOST_COMMANDS}
use Rattle.script_files.proofs.mail.values_within.Goals as goal

pub returns-then-len-before-clause-counted : goal.returns-then-len-before-clause-counted
returns-then-len-before-clause-counted c =
    rw (lt-ltb MOST_COMMANDS (c.args.before + length c.args.values.items)
    (omega (arith, c.len.ensures, c.if-len-before.true, c.requires.before))) refl
