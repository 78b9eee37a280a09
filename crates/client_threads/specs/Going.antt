-- What a client's thread knows of its mutator and its session between two calls.
-- Source: this project's.
use Rattle.std.specs.Prelude.{ℕ, ◌≡◌, ◌++◌, Bool, true, false, List, [], ◌∷◌, take}
use Rattle.client_run.specs.Answers.{IsSameClient}
use Rattle.client_run.specs.Own.{MayAnswer}
use Rattle.client_run.specs.declared.session.Session.{Session}
use Rattle.client_threads.specs.Clients.{commands_of}
use Rattle.doc_model.specs.declared.command.Command.{Command}
use Rattle.mutator_seat.specs.Bound.{Bound}
use Rattle.mutator_seat.specs.Stretches.{Kept}
use Rattle.trails.specs.Asks.{Grown}
use Rattle.trails.specs.Marks.{marks_of}
use Rattle.version_rule.specs.Pass.{Pass}

-- Answers to handshakes: what the mutator holds and knows is as before, and its trail grew.
pub record Waits (old new : Bound Pass) : Type 0 where
  pub kept : Kept old new
  pub grown : Grown (marks_of old.seat.me.trail) (marks_of new.seat.me.trail)

-- the command, if it was answered
abbrev pub answered : Bool → Command → List Command
answered true command = command ∷ []
answered false command = []

-- The session answered these commands by this mutator, and may answer more.
pub record Went (more : List Command) (s : Session) (m : Bound Pass) (t : Session) (n : Bound Pass)
    : Type 0 where
  pub may : MayAnswer t n
  pub same : IsSameClient s m t n
  pub commands : commands_of t.journal.log.entries ≡ commands_of s.journal.log.entries ++ more

-- this is so with some number of the first commands
pub record WentSome (script : List Command) (s : Session) (m : Bound Pass) (t : Session)
    (n : Bound Pass) : Type 0 where
  pub count : ℕ
  pub went : Went (take count script) s m t n

-- with all of them, or with some
abbrev pub Answers : Bool → List Command → Session → Bound Pass → Session → Bound Pass
    → Type 0
Answers true script s m t n = Went script s m t n
Answers false script s m t n = WentSome script s m t n
