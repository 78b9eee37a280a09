-- What the machine keeps of its mutators: of each its own part and its room, and of all of them the
-- two lists that the state has.
-- Source: this project's.
use Rattle.std.specs.Prelude.{ℕ, List, map, slice_set}
use Rattle.core_machine.specs.Own.{Own}

pub record Part : Type 0 where
  pub room : ℕ
  pub own : Own

pub record Parts : Type 0 where
  pub rooms : List ℕ
  pub owns : List Own

abbrev pub parts_of : List Part → Parts
parts_of parts = record {
  rooms = map (λ part. part.room) parts;
  owns = map
      (λ part. part.own) parts;
}

-- mutator i has another own part
abbrev pub with_own : Parts → ℕ → Own → Parts
with_own parts i own = record parts { owns = slice_set parts.owns i own }
