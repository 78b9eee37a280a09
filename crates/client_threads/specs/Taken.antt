-- The clients after their run: their logs, and the collector's seat with theirs joined.
-- Source: this project's.
use Rattle.std.specs.Prelude.{ℕ, ◌≡◌, ◌<◌, Bool, List, [], ◌∷◌, length, take}
use mathlib.Core.Option.{some}
use lib.ListN.{get_elem?}
use Rattle.client_threads.specs.Clients.{commands_of}
use Rattle.client_threads.specs.declared.clients.Client.{Client}
use Rattle.doc_model.specs.Answers.{Limits}
use Rattle.doc_model.specs.ClientLog.{ClientLog}
pub use Rattle.doc_model.specs.Scripts.{lists_of}
use Rattle.doc_model.specs.declared.command.Command.{Command}
use Rattle.heap_rule.specs.declared.view.Place.{Place}
use Rattle.heap_rule.specs.declared.view.Place.TheVariants as places
use Rattle.heap_rule.specs.declared.view.Share.{Share}
use Rattle.client_history.specs.Left.{AreLeft}
use Rattle.version_rule.specs.Pass.{Pass}

-- the commands of a log
abbrev pub commands_in : ClientLog → List Command
commands_in log = commands_of log.entries

-- each of these lists is a front of the one at its index
abbrev pub AreFronts : List (List Command) → List (List Command) → Type 0
AreFronts [] [] = Unit {0}
AreFronts [] (whole ∷ wholes) = ⊥
AreFronts (front ∷ fronts) [] = ⊥
AreFronts (front ∷ fronts) (whole ∷ wholes) =
    (front ≡ take (length front) whole) × AreFronts fronts wholes

-- the mutator with this index was joined, and had so many places
pub record HadRoom (room : ℕ) (joined : List (Place Pass)) (i : ℕ) : Type 0 where
  pub share : Share Pass
  pub share_at : get_elem? joined i ≡ some (places.Joined share)
  pub room_is : share.room ≡ room

-- so had the first mutators, up to this number
abbrev pub AllHadRoom : ℕ → List (Place Pass) → ℕ → Type 0
AllHadRoom room joined count = (i : ℕ) → i < count → HadRoom room joined i

-- All clients are taken back, of which there were so many: their seats are joined, each of which
-- had so many places, and the logs are theirs.
pub record AreTaken (l : Limits) (cells room clients : ℕ) (logs : List ClientLog)
    (joined : List (Place Pass)) : Type 0 where
  pub many : length logs ≡ clients
  pub left : AreLeft l cells logs joined clients
  pub rooms : AllHadRoom room joined clients

-- what a client gives

abbrev pub log_of : Client → ClientLog
log_of client = client.session.journal.log

abbrev pub has_failed : Client → Bool
has_failed client = client.failed
