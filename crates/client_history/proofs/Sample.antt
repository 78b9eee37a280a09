-- A client of an empty store asks for a text, and then finds the heap full: each definition of a
-- turn, and of a log in step, is met.
use Rattle.std.proofs.Common.{◌≡◌, ℕ, zero, suc, ◌<◌, true, false, List, [], ◌∷◌, ◌++◌, refl, arith}
use Rattle.cell_words.specs.declared.colours.Colour.TheVariants as colour
use Rattle.cell_words.specs.declared.controls.Control.{Control}
use Rattle.cell_words.specs.declared.controls.Stage.TheVariants as stage
use Rattle.cell_words.specs.declared.fields.Field.TheVariants as field
use Rattle.cell_words.specs.Term.{null}
use Rattle.doc_model.specs.Answers.{Limits}
use Rattle.doc_model.specs.ClientLog.{ClientLog}
use Rattle.doc_model.specs.declared.command.Command.TheVariants as command
use Rattle.doc_model.specs.declared.command.Entry.{Entry}
use Rattle.doc_model.specs.declared.command.Reply.TheVariants as reply
use Rattle.doc_tree.specs.Tree.{empty}
use Rattle.trails.specs.Asks.{here, nothing}
use Rattle.trails.specs.Claims.{IsFull, was_used}
use Rattle.trails.specs.Marks.{Mark, looked, saw, tried}
use Rattle.trails.specs.Stretches.{Had}
use Rattle.version_rule.specs.Pass.{opening_pass, reading, seeing}
use Rattle.version_rule.proofs.Trees.{grows_on, grows_still, reading_grows, seeing_grows}
use Rattle.client_history.specs.Progress.{HasRead, MakesNone}
use Rattle.client_history.specs.Runs.{ShowsRun}
use Rattle.client_history.specs.State.{ClientState, IsSettled, OnlyReads}
use Rattle.client_history.specs.Turns.{IsInStep, account_in, entry_for}
use Rattle.client_history.proofs.Commands.{dput_full, get_absent}
use Rattle.client_history.proofs.Reading.{tree_known}
use Rattle.client_history.proofs.Running.{shows_run}
use Rattle.client_history.proofs.Stepping.{in_step_opening, in_step_turned, step_account}

abbrev limits : Limits
limits = record { keep = 2; versions = 10 }

-- the path a
abbrev path : List (List ℕ)
path = (97 ∷ []) ∷ []

-- a heap of one cell, the anchor
abbrev opened : ClientState
opened = record {
  cells = 1;
  pass = opening_pass 1 2;
  marks = [];
  claims = 0;
  draft = null;
  base = 1;
  held = 1;
  room = 9_000;
  spare = 0;
}

-- version 0 and its tree were read
abbrev reads : List Mark
reads = saw 0 0 (field.Cell 1) ∷ saw 1 0 (field.Num 0) ∷ []

abbrev read : ClientState
read = record opened { pass = reading 0 empty (seeing 0 opened.pass); marks = reads }

-- the collector is off duty, and the anchor is used
abbrev control : Control
control = record { stage = stage.Idle; position = 0; cycles = 0; duty = false }

abbrev tries : List Mark
tries = looked control ∷ tried 0 colour.White ∷ []

abbrev refused : ClientState
refused = record read { marks = reads ++ tries }

-- The log, empty, with the get, and with the dput after it.

abbrev before : ClientLog
before = record { client = 1; entries = []; spare = 2 }

abbrev got : Entry
got = entry_for 1 (account_in opened 0 0) (command.Get path) (reply.Absent 0) 0

abbrev between : ClientLog
between = record { client = 1; entries = got ∷ []; spare = 1 }

abbrev was_refused : Entry
was_refused = entry_for 1 (account_in read 0 1) (command.DraftPut path []) (reply.Full 0) 0

abbrev behind : ClientLog
behind = record { client = 1; entries = got ∷ was_refused ∷ []; spare = 0 }

before_in_step : IsInStep limits opened 0 before
before_in_step = in_step_opening limits opened before refl refl refl refl

-- The get: the version is read, and no node is there. Nothing else changes.

pub opened_settled : IsSettled opened
opened_settled = refl

pub got_only : OnlyReads opened read
got_only = record { claims = refl; base = refl; spare = omega arith }

none_made : MakesNone opened read
none_made = record {
  lasts = record {
    cells = refl;
    passes = grows_on opened.pass (seeing 0 opened.pass) read.pass (seeing_grows 0 opened.pass)
        (reading_grows 0 empty (seeing 0 opened.pass));
    grown = record { added = reads; is = refl };
    claims = omega arith;
  };
  commits = refl;
  draft = refl;
  small = omega arith;
}

version_read : HasRead 0 [] opened read
version_read = record {
  none = none_made;
  cell = 1;
  shows = record {
    added = reads;
    is = refl;
    shown = here (refl, refl, refl) (here (refl, refl, refl) nothing);
  };
  not_below = omega arith;
  seen = omega arith;
}

pub got_in_step : IsInStep limits read 0 between
got_in_step =
    in_step_turned limits 0 before between (command.Get path) (reply.Absent 0) 0 before_in_step
    (get_absent limits 1 (account_in opened 0 0)
    (step_account limits opened 0 before before_in_step) (omega arith) path 0 empty
    (tree_known (seeing 0 opened.pass) read.pass 0 empty refl) refl version_read) refl refl

-- The dput: a look, and each cell was used.

all_tried : (cell : ℕ) → cell < 1 → was_used cell (tried 0 colour.White ∷ []) ≡ true
all_tried zero below = refl
all_tried (suc n) below = absurd (omega (arith, below))

is_full : Had (IsFull 1) reads (reads ++ tries)
is_full = record {
  before = [];
  stretch = tries;
  after = [];
  is = refl;
  meets = record {
    before = [];
    control = control;
    after = tried 0 colour.White ∷ [];
    look = refl;
    decided = refl;
    all_used = all_tried;
  };
}

none_drafted : MakesNone read refused
none_drafted = record {
  lasts = record {
    cells = refl;
    passes = grows_still read.pass;
    grown = record { added = tries; is = refl };
    claims = omega arith;
  };
  commits = refl;
  draft = refl;
  small = omega arith;
}

pub refused_in_step : IsInStep limits refused 0 behind
refused_in_step =
    in_step_turned limits 0 between behind (command.DraftPut path []) (reply.Full 0) 0 got_in_step
    (dput_full limits 1 (account_in read 0 1) (step_account limits read 0 between got_in_step)
    (omega arith) path [] none_drafted is_full) refl refl

-- and so its trail shows its log
pub refused_shown : ShowsRun 1 (got ∷ was_refused ∷ []) (reads ++ tries)
refused_shown = shows_run 1 (got ∷ was_refused ∷ []) (reads ++ tries) refused_in_step.turns
