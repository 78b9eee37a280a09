-- The commands that read the words after each subcommand, as `clap` sees them: simple ones, whose
-- reading of words is `clap`'s own statement.
--
-- The names of options and flags are those that are written after two hyphens; the names of the
-- others stand in no text. No word asks for help or for a version.
-- Source: the rules are those of `clap`; which words there are is this project's own.
use Rattle.std.specs.Prelude.{ℕ, true, List, [], ◌∷◌, Some, codes}
use Rattle.clap.specs.Words.{App, Rule, Text, new_app, new_rule, with_rule}
use Rattle.clap.specs.Simple.{on_top}
use Rattle.clap.specs.declared.builder.action.ArgAction.TheVariants.{Append, Set, SetTrue}
use Rattle.clap.specs.declared.builder.value_parser.ValueParser.TheVariants.{Unsigned}
use Rattle.cell_words.specs.declared.controls.TheConstants.{GREATEST_CYCLES}
use Rattle.cell_words.specs.declared.controls.TheConstants.{GREATEST_POSITION}
use Rattle.run_limits.specs.declared.TheConstants.{MOST_CLIENTS}

-- a number after its name, in these ends
abbrev pub option_rule : Text → ℕ → ℕ → Rule
option_rule name least most = record (new_rule name) {
  long = Some name;
  action = Some Set;
  parser = Some (Unsigned least most);
}

-- a name alone
abbrev pub flag_rule : Text → Rule
flag_rule name = record (new_rule name) { long = Some name; action = Some SetTrue }

-- a number in its place, in these ends
abbrev pub number_rule : Text → ℕ → ℕ → Rule
number_rule name least most = record (new_rule name) {
  required = true;
  action = Some Set;
  parser = Some (Unsigned least most);
}

-- a text in its place
abbrev pub name_rule : Text → Rule
name_rule name = record (new_rule name) { required = true; action = Some Set }

-- one text or more, wherever they stand
abbrev pub names_rule : Text → Rule
names_rule name = record (new_rule name) { required = true; action = Some Append }

-- a command that takes no word for the program's name, and has no help
abbrev pub bare : Text → App
bare name = on_top (λ s. record s {
  no_binary_name = true;
  disable_help_flag = true;
  disable_version_flag = true;
}) (new_app name)

-- a command with these arguments more
abbrev pub with_rules : App → List Rule → App
with_rules app [] = app
with_rules app (rule ∷ rules) = with_rules (with_rule app rule) rules

-- what a run may use, and how often the collector may go round
abbrev pub room_rules : List Rule
room_rules =
    option_rule (codes "cells") 64 GREATEST_POSITION
    ∷ option_rule (codes "minor") 4_096 262_144
    ∷ option_rule (codes "keep") 1 100
    ∷ option_rule (codes "versions") 1 1_000_000
    ∷ option_rule (codes "cycles") 0 GREATEST_CYCLES
    ∷ []

-- what is written, and which files are read
abbrev pub shown_rules : List Rule
shown_rules =
    flag_rule (codes "history")
    ∷ flag_rule (codes "stats")
    ∷ names_rule (codes "file")
    ∷ []

abbrev pub run_app : App
run_app = with_rules (with_rules (bare (codes "run")) room_rules) shown_rules

-- of a run whose closed heap is written, and nothing else
abbrev pub image_app : App
image_app =
    with_rules (with_rules (bare (codes "image")) room_rules) (names_rule (codes "file") ∷ [])

-- of a run with no options
abbrev pub dump_app : App
dump_app = with_rules (bare (codes "dump")) (names_rule (codes "file") ∷ [])

-- of a run of a mailbox: how many cells its heap has, how often the collector may go round, and
-- which files are read
abbrev pub mail_app : App
mail_app = with_rules (bare (codes "mail")) (
    option_rule (codes "cells") 64 GREATEST_POSITION
    ∷ option_rule (codes "cycles") 0 GREATEST_CYCLES
    ∷ names_rule (codes "file")
    ∷ [])

-- of a subcommand of this name that takes one file
abbrev pub file_app : Text → App
file_app subcommand = with_rules (bare subcommand) (name_rule (codes "file") ∷ [])

abbrev pub gen_app : App
gen_app = with_rules (bare (codes "gen")) (
    number_rule (codes "start") 0 2_147_483_647
    ∷ number_rule (codes "clients") 1 MOST_CLIENTS
    ∷ number_rule (codes "commands") 1 10_000
    ∷ option_rule (codes "print") 1 MOST_CLIENTS
    ∷ [])
