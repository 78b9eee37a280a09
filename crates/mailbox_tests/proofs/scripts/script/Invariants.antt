use Rattle.std.proofs.Common.{◌≡◌, length}
use Rattle.mail_threads.specs.Workers.{AreSmall}
use Rattle.mailbox_tests.proofs.scripts.script.Given as goal

abbrev pub invariant-loop-line : goal.invariant-loop-line
invariant-loop-line l = record {
  many : length l.values.items ≡ l.line;
  small : AreSmall l.values.items;
}
