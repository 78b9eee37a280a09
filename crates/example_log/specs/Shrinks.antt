-- The law of the rule: a chain from a box that is still there is still there, since a smaller map
-- has with each box those that it names.
-- Source: this project's.
use Rattle.std.specs.Prelude.{ℕ, ◌≡◌, List, [], ◌∷◌, length, Some}
use Rattle.std.proofs.Common.{◌∙◌, arith, sym}
use Rattle.heap_rule.specs.Boxes.{Map, Payload, Smaller}
use Rattle.heap_rule.specs.Lore.{Named}
use Rattle.heap_rule.specs.Numbered.{HasNumber}
use Rattle.example_log.specs.Logging.{Chain, KeepsLog}
use Rattle.example_log.specs.declared.log.Appended.{Appended}

-- a chain begins with a box that has a number
pub has_number : (map : Map) (cell : ℕ) (writers : List ℕ) → Chain map cell writers
    → HasNumber map cell (length writers)
has_number map cell [] first = first.has
has_number map cell (writer ∷ writers) (entry, rest) = entry.has

-- A chain is in a new map too if its first box is, and if the new map has with each box the
-- numbered one that it names in field 1.
module _ (old new : Map)
    (named : (cell before n : ℕ) (box : Payload) → new cell ≡ Some box → box 1 ≡ Named before
    → HasNumber old before n → new before ≡ old before) where
  number_on : (cell n : ℕ) (has : HasNumber old cell n) → new cell ≡ old cell
      → HasNumber new cell n
  number_on cell n has same = record {
    box = has.box;
    there = same ∙ has.there;
    number_is = has.number_is;
  }

  pub chain_on : (cell : ℕ) (writers : List ℕ) → new cell ≡ old cell → Chain old cell writers
      → Chain new cell writers
  unfolding number_on
  chain_on cell [] same first = record {
    has = number_on cell 0 first.has same;
    before_is = first.before_is;
  }
  chain_on cell (writer ∷ writers) same (entry, rest) = (
    record {
      has = number_on cell (length (writer ∷ writers)) entry.has same;
      before = entry.before;
      before_is = entry.before_is;
      writer_is = entry.writer_is;
      own_is = entry.own_is;
    },
    chain_on entry.before writers
        (named cell entry.before (length writers) entry.has.box (same ∙ entry.has.there)
        entry.before_is (has_number old entry.before writers rest)) rest,
  )

pub log_shrinks : (old new : Map) (passes : List Appended) → Smaller old new
    → KeepsLog old passes → KeepsLog new passes
log_shrinks old new passes smaller log =
    let newest = has_number old log.newest log.writers log.chain in
    let anchor_is : new 0 ≡ Some log.anchor = smaller.anchor ∙ log.anchor_is in
    record {
      writers = log.writers;
      anchor = log.anchor;
      anchor_is = anchor_is;
      newest = log.newest;
      names = log.names;
      chain = chain_on old new
          (λ cell before n box at names has.
          smaller.closed cell before 1 box has.box at (omega arith) names has.there
          ∙ sym has.there)
          log.newest log.writers
          (smaller.closed 0 log.newest 0 log.anchor newest.box anchor_is (omega arith) log.names
          newest.there ∙ sym newest.there) log.chain;
      many = log.many;
      own = log.own;
    }
