-- The making of a version's box: the claimed cell, what its filling needs, and what is then known.
-- Source: this project's.
use Rattle.std.specs.Prelude.{ℕ, ◌≡◌, ◌≢◌, ◌<◌, ◌+◌, ◌++◌, true, List, [], ◌∷◌, length}
use Rattle.cell_words.specs.declared.fields.Field.TheVariants as field
use Rattle.heap_rule.specs.declared.known.Known.{Known}
use Rattle.heap_rule.specs.declared.known.Known.TheVariants as knows
use Rattle.heap_rule.specs.Asks.{known_of, target}
use Rattle.heap_rule.specs.Lore.{five_nulls}
use Rattle.mutator_seat.specs.Bound.{Bound, held_cells}
use Rattle.version_rule.specs.Pass.{Pass}
use Rattle.held_places.specs.Calls.{Goes, known_fresh, settled}
use Rattle.version_store.specs.Calls.{StaysKnown, StillKnown}

-- the cell at the last place was just claimed, and the version and the tree are held before it
pub record IsClaimed (m : Bound Pass) (fresh latest tree : ℕ) : Type 0 where
  pub others : List Known
  pub known_is : m.seat.me.known ≡ others ++ knows.Raw five_nulls ∷ []
  pub last : length m.seat.me.own.held ≡ fresh + 1
  pub latest_before : latest < fresh
  pub tree_before : tree < fresh
  pub apart : (place : ℕ) → place < fresh → target m.seat.me place ≢ target m.seat.me fresh

-- Making the box leaves what is known at this place: its cell is not the claimed one, and if it is
-- fresh, neither the version's nor the tree's.
pub record IsSpared (m : Bound Pass) (fresh latest tree place : ℕ) : Type 0 where
  pub not_claimed : target m.seat.me place ≢ target m.seat.me fresh
  pub not_latest : known_fresh (known_of m.seat.me place) ≡ true
      → target m.seat.me place ≢ target m.seat.me latest
  pub not_tree : known_fresh (known_of m.seat.me place) ≡ true
      → target m.seat.me place ≢ target m.seat.me tree

-- what the filling needs: the claimed cell is raw, and is neither the version's nor the tree's
pub record MayMake (m : Bound Pass) (fresh latest tree : ℕ) : Type 0 where
  pub inside : m.seat.me.presence.inside ≡ true
  pub there : fresh < length m.seat.me.own.held
  pub latest_before : latest < fresh
  pub tree_before : tree < fresh
  pub many : length m.seat.me.known ≡ length m.seat.me.own.held
  pub raw : known_of m.seat.me fresh ≡ knows.Raw five_nulls
  pub latest_is : settled (known_of m.seat.me latest) ≡ true
  pub tree_is : settled (known_of m.seat.me tree) ≡ true
  pub latest_apart : target m.seat.me latest ≢ target m.seat.me fresh
  pub tree_apart : target m.seat.me tree ≢ target m.seat.me fresh

-- the cell is a box that no other cell names, over the version
pub record Makes (old new : Bound Pass) (fresh number latest tree : ℕ) : Type 0 where
  pub goes : Goes [] old new
  pub held : held_cells new ≡ held_cells old
  pub many : length new.seat.me.known ≡ length new.seat.me.own.held
  pub box : known_of new.seat.me fresh ≡ knows.Fresh (field.Num number ∷
      field.Cell (target old.seat.me tree) ∷ field.Cell (target old.seat.me latest) ∷ field.Null ∷
      field.Null ∷ [])
  pub known : (place : ℕ) → place < fresh → IsSpared old fresh latest tree place
      → StillKnown (known_of old.seat.me place) (known_of new.seat.me place)
  pub pass : new.seat.me.pass ≡ old.seat.me.pass
  pub claims : new.seat.me.own.claims ≡ old.seat.me.own.claims

-- after the write: more cells may be held, and what was known before the claim is still known
pub record Behind (fresh : ℕ) (old new : Bound Pass) : Type 0 where
  pub cells : List ℕ
  pub held : held_cells new ≡ held_cells old ++ cells
  pub known : StaysKnown fresh old new
  pub claims : new.seat.me.own.claims ≡ old.seat.me.own.claims
