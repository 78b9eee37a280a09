-- Numbers that the words bring are within what a run of clients takes.
use Rattle.std.proofs.Common.{◌≤◌, List, [], ◌∷◌, length}
use Rattle.std.proofs.Common.{arith}
use Rattle.std.specs.Prelude.{All, Vec, sum_by}
use Rattle.std.specs.declared.alloc.Global.{Global}
use Rattle.std.proofs.lemmas.List.Elements.{All-cons, All-nil}
use Rattle.std.proofs.lemmas.List.Sums.{sum_by-cons}
use Rattle.client_run.specs.Options.{IsWithin}
use Rattle.doc_model.specs.declared.command.Command.{Command}
use Rattle.command_line.specs.Limits.{IsRunWithin}
use Rattle.command_line.specs.Requests.{run_asked_by}
use Rattle.command_line.specs.declared.request.RunWords.{RunWords}
use Rattle.doc_run.specs.Clients.{default_options, options_of}
use Rattle.run_limits.specs.declared.TheConstants.{MOST_COMMANDS}

-- the options of a run
pub options_within : (run : RunWords) → IsRunWithin run
    → IsWithin (options_of (run_asked_by run))
options_within run within = record {
  cells = within.numbers.cells;
  minor = within.numbers.minor;
  keep = within.numbers.keep;
  versions = within.numbers.versions;
  cycles = within.numbers.cycles.1;
}

-- those of a run without words for them
pub default_within : IsWithin default_options
default_within = record {
  cells = (omega arith, omega arith);
  minor = (omega arith, omega arith);
  keep = (omega arith, omega arith);
  versions = (omega arith, omega arith);
  cycles = omega arith;
}

-- each of the scripts is short, since all of them are
pub each_short : (scripts : List (Vec Command Global))
    → sum_by (λ script. length script.items) scripts ≤ MOST_COMMANDS
    → All (λ script. length script.items ≤ MOST_COMMANDS) scripts
each_short [] short = All-nil (λ (s : Vec Command Global). length s.items ≤ MOST_COMMANDS)
each_short (script ∷ scripts) short =
    let sum = sum_by-cons (λ (s : Vec Command Global). length s.items) script scripts in
    All-cons (λ (s : Vec Command Global). length s.items ≤ MOST_COMMANDS) script scripts
    (omega (arith, sum, short)) (each_short scripts (omega (arith, sum, short)))

pub ruleset ranges = (options_within, default_within)
