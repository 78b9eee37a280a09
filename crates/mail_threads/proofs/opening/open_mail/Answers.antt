use Rattle.std.proofs.Common.{rules, ◌≤◌, List, ℕ, arith, length}
use Rattle.run_limits.specs.declared.TheConstants.{MOST_COMMANDS}
use Rattle.beside_collector.proofs.Scripts.{script_is}
use Rattle.mail_threads.specs.Workers.{AreSmall}
use Rattle.mail_threads.proofs.Openings.{opens}
use Rattle.mail_threads.proofs.opening.open_mail.Goals as goal

pub open-requires-clause-rule : goal.open-requires-clause-rule
open-requires-clause-rule g c =
    opens c.args.cells _ 0 c.opening_rows-rows.result c.opening_rows-rows.ensures.rows
    (omega (arith, c.requires.few))

pub open-requires-clause-own : goal.open-requires-clause-own
open-requires-clause-own g c number below = (
  omega (arith, below, c.requires.few),
  script_is (λ (script : List ℕ). AreSmall script) (search rules) c.args.scripts.now number
      c.requires.small,
  script_is (λ (script : List ℕ). length script ≤ MOST_COMMANDS) (omega arith) c.args.scripts.now
      number c.requires.short,
)
