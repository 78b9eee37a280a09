use Rattle.std.proofs.Common.{◌≡◌, ◌≤◌, length}
use Rattle.std.specs.Prelude.{All, Vec}
use Rattle.std.specs.declared.alloc.Global.{Global}
use Rattle.doc_model.specs.declared.command.Command.{Command}
use Rattle.run_limits.specs.declared.TheConstants.{MOST_COMMANDS}
use Rattle.store_run_tests.proofs.scripts.alike.Given as goal

abbrev pub invariant-loop-place : goal.invariant-loop-place
invariant-loop-place l = record {
  many : length l.scripts.items ≡ l.place;
  short : All (λ (script : Vec Command Global). length script.items ≤ MOST_COMMANDS)
      l.scripts.items;
}
