-- Single reads of versions.
-- Source: this project's.
use Rattle.std.specs.Prelude.{ℕ, ◌≡◌, ◌≤◌, length}
use Rattle.cell_words.specs.Term.{Term}
use Rattle.cell_words.specs.declared.fields.Field.TheVariants as field
use Rattle.run_limits.specs.declared.TheConstants.{MOST_VERSIONS}
use Rattle.mutator_seat.specs.Bound.{Bound}
use Rattle.version_rule.specs.Knowing.{KnowsVersion}
use Rattle.version_rule.specs.Pass.{Pass, seeing}
use Rattle.version_store.specs.Calls.{WasRead}

-- the anchor's field was the box of the latest version, which is held at this place
pub record FindsLatest (old new : Bound Pass) (place : ℕ) : Type 0 where
  pub cell : ℕ
  pub read : WasRead old new 0 0 (field.Cell cell)
  pub place_is : place ≡ length old.seat.me.own.held
  pub number : ℕ
  pub root : Term
  pub known : KnowsVersion new.seat.me place number root
  pub not_below : old.seat.me.pass.seen ≤ number
  pub newest : (other its : ℕ) (of : Term) → KnowsVersion old.seat.me other its of → its ≤ number
  pub few : number ≤ MOST_VERSIONS
  pub pass : new.seat.me.pass ≡ seeing number old.seat.me.pass

-- field 0 of the version at a place was this number, which is the one that was known
pub record FindsNumber (old new : Bound Pass) (place number : ℕ) : Type 0 where
  pub read : WasRead old new place 0 (field.Num number)
  pub is : (known : ℕ) (root : Term) → KnowsVersion old.seat.me place known root → number ≡ known
  pub pass : new.seat.me.pass ≡ old.seat.me.pass
  pub keeps_some : 1 ≤ old.seat.me.pass.keep
  pub keeps_few : old.seat.me.pass.keep ≤ 100
