-- The boxes of a state, and what a seat knows of them: from words to maps and back.
use Rattle.std.proofs.Common.{◌≡◌, ◌≢◌, ℕ, refl, arith}
use Rattle.cell_words.specs.Term.{Term, num}
use Rattle.core_machine.specs.State.{State}
use Rattle.heap_rule.specs.Asks.{target}
use Rattle.heap_rule.specs.Boxes.{boxes_of, payload_of}
use Rattle.heap_rule.specs.Lore.{Lore, Plain}
use Rattle.heap_rule.specs.Numbered.{HasNumber}
use Rattle.heap_rule.specs.Steps.{Mine}
use Rattle.heap_rule.specs.declared.view.View.{View}
use Rattle.heap_rule.proofs.Maps.{In, in_map}
use Rattle.heap_rule.proofs.Seats.{box_seen}
use Rattle.version_rule.specs.Knowing.{KnowsVersion}
use Rattle.version_rule.specs.Pass.{Pass}
use Rattle.version_rule.specs.Versions.{is_fixed}

-- a version's box is in the map, and is no anchor
pub record Seen (s : State) (l : Lore) (x number : ℕ) (root : Term) : Type 0 where
  pub other : x ≢ 0
  pub in_is : In s l x
  pub number_is : payload_of s l x 0 ≡ Plain (num number)
  pub root_is : payload_of s l x 1 ≡ Plain root

pub number_seen : (s : State) (l : Lore) (x number : ℕ) (root : Term) → Seen s l x number root
    → HasNumber (boxes_of s l) x number
number_seen s l x number root seen = record {
  box = payload_of s l x;
  there = in_map s l x seen.in_is;
  number_is = seen.number_is;
}

-- What a seat knows.

module _ (v : View Pass) (s : State) (l : Lore) (mine : Mine is_fixed v s l) where
  pub version_seen : (place number : ℕ) (root : Term) → KnowsVersion v place number root
      → Seen s l (target v place) number root
  version_seen place number root has =
      let k = has.known in
      let is = box_seen v s l mine place k.told has.there k.is in
      record {
        other = is.other;
        in_is = is.in_is;
        number_is = is.told_is 0 (num number) (omega arith) refl k.number_is;
        root_is = is.told_is 1 root (omega arith) refl k.root_is;
      }
