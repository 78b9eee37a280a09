-- What lasts across each call: what a caller of many calls may keep.
-- Source: this project's.
use Rattle.std.specs.Prelude.{ℕ, ◌≡◌, ◌≤◌, List}
use Rattle.mutator_seat.specs.Bound.{Bound}
use Rattle.trails.specs.Asks.{Grown}
use Rattle.trails.specs.Marks.{Mark, marks_of}
use Rattle.version_rule.specs.Fits.{Narrows}
use Rattle.version_rule.specs.Pass.{Pass}

-- Of the passes, the marks and the claims before and after a call, which are plain values: so one
-- lemma puts calls of several crates together. Every list of versions that fits the pass after it
-- also fits the pass before it.
pub record Lasts (p q : Pass) (a b : List Mark) (x y : ℕ) : Type 0 where
  pub narrows : Narrows p q
  pub keep : q.keep ≡ p.keep
  pub seen : p.seen ≤ q.seen
  pub cut : p.cut ≤ q.cut
  pub grown : Grown a b
  pub claims : x ≤ y

-- what the trail of a mutator shows
abbrev pub marks : Bound Pass → List Mark
marks m = marks_of m.seat.me.trail

abbrev pub LastsAcross : Bound Pass → Bound Pass → Type 0
LastsAcross old new =
    Lasts old.seat.me.pass new.seat.me.pass (marks old) (marks new) old.seat.me.own.claims
    new.seat.me.own.claims

-- it is the same mutator of the same heap, in or out as it was
pub record IsSameMutator (old new : Bound Pass) : Type 0 where
  pub heap : new.heap ≡ old.heap
  pub table : new.seat.table ≡ old.seat.table
  pub shape : new.seat.me.shape ≡ old.seat.me.shape
  pub role : new.seat.me.role ≡ old.seat.me.role
  pub number : new.seat.me.number ≡ old.seat.me.number
  pub room : new.seat.me.room ≡ old.seat.me.room
  pub inside : new.seat.me.presence.inside ≡ old.seat.me.presence.inside
  pub over : new.seat.me.presence.over ≡ old.seat.me.presence.over
