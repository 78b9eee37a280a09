use Rattle.std.proofs.Common.{◌≡◌, ◌+◌, drop}
use Rattle.mail_threads.specs.Taken.{lists_of}
use Rattle.mail_run.specs.Comes.{lines_in}
use Rattle.mail_run.proofs.closing.lines_of.Given as goal

abbrev pub invariant-loop-script : goal.invariant-loop-script
invariant-loop-script l = l.lines + lines_in (lists_of (drop l.script-index l.scripts))
    ≡ lines_in (lists_of l.scripts)
