-- What the words of a command line ask for.
--
-- The first word is the subcommand, compared byte for byte. The words after it ask for something
-- exactly where the subcommand's command takes them, by `clap`'s own statement for a simple
-- command, and then for what that finds in them. Two conditions are the program's own: the script
-- that is printed is one of those that are made, and a run has a file. (No command line reaches the
-- second, since `clap` takes no `run` without one; so no proof has to go through its walk.)
-- Source: this project's own.
use Rattle.std.specs.Prelude.{◌≡◌, ℕ, Bool, false, List, [], ◌∷◌, Option, Some, None, Result}
use Rattle.std.specs.Prelude.{Ok, Err, Vec}
use Rattle.std.specs.Borrow.{Bor}
use Rattle.std.specs.declared.alloc.Global.{Global}
use Rattle.std.specs.Prelude.{bytes_eq, codes, cond, if◌then◌else◌, map, nat_le}
use Rattle.std.specs.Prelude.{option_and_then}
use Rattle.std.specs.Prelude.{option_map, unwrap_or}
use Rattle.cell_words.specs.declared.controls.TheConstants.{GREATEST_CYCLES}
use Rattle.clap.specs.Words.{App, Kinds, Row, Text, all_of, fault_of, first_of, matches_of}
use Rattle.clap.specs.Words.{one_of}
use Rattle.command_line.specs.Commands.{dump_app, file_app, gen_app, image_app, mail_app, run_app}
use Rattle.command_line.specs.Readings.{flag_in, names_in, number_in}
use Rattle.command_line.specs.declared.request.GenWords.{GenWords}
use Rattle.command_line.specs.declared.request.MailWords.{MailWords}
use Rattle.command_line.specs.declared.request.Request.{Request}
use Rattle.command_line.specs.declared.request.Request.TheVariants as code
use Rattle.command_line.specs.declared.request.RunWords.{RunWords}
use Rattle.command_line.specs.declared.request.WordsFault.{WordsFault}
use Rattle.command_line.specs.declared.request.WordsFault.TheVariants as fault

-- the words of a run, with the names that they hold as bytes
pub record RunAsked : Type 0 where
  pub cells : ℕ
  pub minor : ℕ
  pub keep : ℕ
  pub versions : ℕ
  pub cycles : ℕ
  pub history : Bool
  pub stats : Bool
  pub files : List Text

-- the words of a run of a mailbox, with the names that they hold as bytes
pub record MailAsked : Type 0 where
  pub cells : ℕ
  pub cycles : ℕ
  pub files : List Text

-- a request
pub data Asked : Type 0 where
  Run : RunAsked → Asked
  Replay : Text → Asked
  Gen : GenWords → Asked
  Load : Text → Asked
  Image : RunAsked → Asked
  Dump : List Text → Asked
  Census : Text → Asked
  Mail : MailAsked → Asked

-- what was found, where no step of the reading fails
abbrev pub taken : {A : Type 0} → Kinds → Option A → Option A
taken [] found = found
taken (kind ∷ kinds) found = None

-- the number of an option, or what stands for it where it is left out
abbrev pub number_of : Text → ℕ → List Row → ℕ
number_of id otherwise rows = unwrap_or (number_in (one_of id rows)) otherwise

-- the run that was found, with these flags
abbrev pub run_with : Bool → Bool → List Row → RunAsked
run_with history stats rows = record {
  cells = number_of (codes "cells") 65_536 rows;
  minor = number_of (codes "minor") 8_192 rows;
  keep = number_of (codes "keep") 8 rows;
  versions = number_of (codes "versions") 1_000_000 rows;
  cycles = number_of (codes "cycles") GREATEST_CYCLES rows;
  history = history;
  stats = stats;
  files = names_in (all_of (codes "file") rows);
}

-- the run that was found
abbrev pub run_found : List Row → RunAsked
run_found rows =
    run_with (flag_in (first_of (codes "history") rows)) (flag_in (first_of (codes "stats") rows))
    rows

-- the run of a mailbox that was found
abbrev pub mail_found : List Row → MailAsked
mail_found rows = record {
  cells = number_of (codes "cells") 65_536 rows;
  cycles = number_of (codes "cycles") GREATEST_CYCLES rows;
  files = names_in (all_of (codes "file") rows);
}

-- what is asked for, where it is of a file or more
abbrev pub if_of_files : {A : Type 0} → List Text → A → Option A
if_of_files [] asked = None
if_of_files (file ∷ files) asked = Some asked

-- the names, where there are some
abbrev pub if_some_name : List Text → Option (List Text)
if_some_name names = if_of_files names names

-- the run, where it has a file
abbrev pub if_some_file : RunAsked → Option RunAsked
if_some_file run = if_of_files run.files run

-- the run of a mailbox, where it has a file
abbrev pub if_some_mail : MailAsked → Option MailAsked
if_some_mail mail = if_of_files mail.files mail

-- what a command finds in words, as some reading of it has it, where it takes them
abbrev pub read_by : {A : Type 0} → App → (List Row → Option A) → List Text → Option A
read_by app reading words = taken (fault_of app words) (reading (matches_of app words))

-- the words after `run`
abbrev pub run_of : List Text → Option RunAsked
run_of words = read_by run_app (λ rows. if_some_file (run_found rows)) words

-- the words after `image`
abbrev pub image_of : List Text → Option RunAsked
image_of words = read_by image_app (λ rows. if_some_file (run_with false false rows)) words

-- the words after `dump`: the names of the files
abbrev pub dump_of : List Text → Option (List Text)
dump_of words =
    read_by dump_app (λ rows. if_some_name (names_in (all_of (codes "file") rows))) words

-- the words after `mail`
abbrev pub mail_of : List Text → Option MailAsked
mail_of words = read_by mail_app (λ rows. if_some_mail (mail_found rows)) words

-- the words after a subcommand of this name that takes one file: the file's name
abbrev pub file_of : Text → List Text → Option Text
file_of subcommand words =
    read_by (file_app subcommand) (λ rows. first_of (codes "file") rows) words

-- the words, where the client whose script is printed is one of the clients
abbrev pub if_client : Option ℕ → GenWords → Option GenWords
if_client None words = Some words
if_client (Some client) words = if nat_le client words.clients then Some words else None

abbrev pub if_printable : GenWords → Option GenWords
if_printable words = if_client words.print words

-- the generated scripts that were found
abbrev pub gen_found : List Row → Option GenWords
gen_found rows =
    option_and_then (λ start.
    option_and_then (λ clients.
    option_and_then (λ commands.
    if_printable (record {
      start = start;
      clients = clients;
      commands = commands;
      print = number_in (one_of (codes "print") rows);
    }))
    (number_in (one_of (codes "commands") rows)))
    (number_in (one_of (codes "clients") rows)))
    (number_in (one_of (codes "start") rows))

-- the words after `gen`
abbrev pub gen_of : List Text → Option GenWords
gen_of words = read_by gen_app gen_found words

-- what a first word and those after it ask for
abbrev pub request_behind : Text → List Text → Option Asked
request_behind word words =
    cond (bytes_eq word (codes "run")) (option_map Run (run_of words))
    (cond (bytes_eq word (codes "replay")) (option_map Replay (file_of (codes "replay") words))
    (cond (bytes_eq word (codes "gen")) (option_map Gen (gen_of words))
    (cond (bytes_eq word (codes "load")) (option_map Load (file_of (codes "load") words))
    (cond (bytes_eq word (codes "image")) (option_map Image (image_of words))
    (cond (bytes_eq word (codes "dump")) (option_map Dump (dump_of words))
    (cond (bytes_eq word (codes "census")) (option_map Census (file_of (codes "census") words))
    (cond (bytes_eq word (codes "mail")) (option_map Mail (mail_of words))
    None)))))))

-- what the words ask for, or nothing where they are no command line
abbrev pub request_of : List Text → Option Asked
request_of [] = None
request_of (word ∷ words) = request_behind word words

-- the names that a list of the program is
abbrev pub names_by : Vec (Bor Text) Global → List Text
names_by names = map (λ name. name.now) names.items

-- the run that a value of the program is
abbrev pub run_asked_by : RunWords → RunAsked
run_asked_by run = record {
  cells = run.cells;
  minor = run.minor;
  keep = run.keep;
  versions = run.versions;
  cycles = run.cycles;
  history = run.history;
  stats = run.stats;
  files = names_by run.files;
}

-- the run of a mailbox that a value of the program is
abbrev pub mail_asked_by : MailWords → MailAsked
mail_asked_by mail = record {
  cells = mail.cells;
  cycles = mail.cycles;
  files = names_by mail.files;
}

-- the request that a value of the program is
abbrev pub asked_by : Request → Asked
asked_by (code.Run run) = Run (run_asked_by run)
asked_by (code.Replay name) = Replay name.now
asked_by (code.Gen words) = Gen words
asked_by (code.Load name) = Load name.now
asked_by (code.Image run) = Image (run_asked_by run)
asked_by (code.Dump names) = Dump (names_by names)
asked_by (code.Census name) = Census name.now
asked_by (code.Mail mail) = Mail (mail_asked_by mail)

-- an answer is what the words ask for, seen so, and usage exactly where that is nothing
abbrev pub Gives : {V A : Type 0} → (V → A) → Result V WordsFault → Option A → Type 0
Gives seen (Ok value) asked = asked ≡ Some (seen value)
Gives seen (Err fault.Usage) asked = asked ≡ None
Gives seen (Err fault.NoMemory) asked = Unit {0}
