-- The rule of a mailbox, on the boxes of a heap and on the passes of its mutators.
--
-- It is said with two witnesses: the items that were sent, in the order of their positions, and who
-- took the first of them. So there are as many sends as letters and as many takes as takers, and
-- each position is one mutator's. What that gives in numbers is in specs/Counted. A send or a take
-- makes one list longer by one at its end; said by counting, each send would have to show again
-- that a list of lists is a permutation.
-- Source: this project's.
use Rattle.std.specs.Prelude.{ℕ, ◌≡◌, ◌≢◌, ◌<◌, ◌≤◌, ◌+◌, ◌⊎◌, ◌==◌, ◌||◌, Bool, List}
use Rattle.std.specs.Prelude.{length, All, Some}
use mathlib.Core.Option.{some}
use lib.ListN.{get_elem?}
use Rattle.cell_words.specs.Term.{null, num}
use Rattle.run_limits.specs.declared.TheConstants.{MOST_CLIENTS, MOST_COMMANDS}
use Rattle.heap_rule.specs.Boxes.{Map, Payload}
use Rattle.heap_rule.specs.Lore.{Entry, Named, Plain}
use Rattle.heap_rule.specs.Numbered.{AreApart, HasNumber, NamesNumber}
use Rattle.mail_rule.specs.Items.{Letter, letter_at, sends_of, takes_of}
use Rattle.mail_rule.specs.declared.mail_pass.MailPass.{MailPass}

-- the position, the sender and the value of an item's box
abbrev pub is_fixed : ℕ → Bool
is_fixed f = (f == 0) || ((f == 1) || (f == 2))

-- no item follows yet
pub record IsLast (sent position : ℕ) (next : Entry) : Type 0 where
  pub last : position ≡ sent
  pub none : next ≡ Plain null

-- the box of the next item follows
pub record IsFollowed (map : Map) (position : ℕ) (next : Entry) : Type 0 where
  pub cell : ℕ
  pub names : next ≡ Named cell
  pub item : HasNumber map cell (position + 1)

-- a box has the fields of the item at this position
pub record HasItem (letters : List Letter) (position : ℕ) (box : Payload) : Type 0 where
  pub position_is : box 0 ≡ Plain (num position)
  pub sender_is : box 1 ≡ Plain (num (letter_at letters position).sender)
  pub value_is : box 2 ≡ Plain (num (letter_at letters position).value)

-- it is an item's box, or the one that the mailbox opened with
pub record IsItem (letters : List Letter) (map : Map) (box : Payload) : Type 0 where
  pub position : ℕ
  pub sent : position ≤ length letters
  pub has : HasItem letters position box
  pub next : IsLast (length letters) position (box 3) ⊎ IsFollowed map position (box 3)
  pub fifth : box 4 ≡ Plain null

-- its sender is one of so many mutators
pub record IsSigned (mutators : ℕ) (letter : Letter) : Type 0 where
  pub some : 1 ≤ letter.sender
  pub few : letter.sender ≤ mutators

-- the pass of this mutator has what it sent and what it took
pub record IsOwn (letters : List Letter) (takers : List ℕ) (number : ℕ) (pass : MailPass) : Type 0
  where
    pub sends : pass.sends ≡ sends_of letters (number + 1)
    pub takes : pass.takes ≡ takes_of letters takers number
    pub few : length pass.sends ≤ MOST_COMMANDS

pub record HoldsMail (map : Map) (passes : List MailPass) : Type 0 where
  -- the items that were sent, by position, and who took the first of them
  pub letters : List Letter
  pub takers : List ℕ
  pub few : length passes ≤ MOST_CLIENTS
  pub signed : All (IsSigned (length passes)) letters
  pub received : All (λ (number : ℕ). number < length passes) takers
  pub own : (number : ℕ) (pass : MailPass) → get_elem? passes number ≡ some pass
      → IsOwn letters takers number pass
  -- the box of the item that was taken last
  pub latest : NamesNumber map (length takers)
  pub boxes : (cell : ℕ) (box : Payload) → cell ≢ 0 → map cell ≡ Some box
      → IsItem letters map box
  pub apart : AreApart map
