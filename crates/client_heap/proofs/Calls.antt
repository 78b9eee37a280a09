-- What the calls of the store and those on trees leave of a client.
use Rattle.std.proofs.Common.{◌≡◌, ◌<◌, ◌≤◌, ◌+◌, ◌⊎◌, ℕ, List, []}
use Rattle.std.proofs.Common.{◌∷◌, length, refl, ap, arith}
use Rattle.std.proofs.Common.{inl, inr, Result, Ok, Err}
use Rattle.std.specs.Prelude.{IfOk, OnErr}
use Rattle.std.proofs.lemmas.Bool.{cases_lt}
use Rattle.client_trees.specs.declared.at.NodeAt.{NodeAt}
use Rattle.client_session.specs.Handles.{Edits, Still}
use Rattle.client_trees.specs.Leaves.{Leaves, LeavesAll}
use Rattle.client_history.specs.State.{Rests}
use Rattle.minor_heap.specs.Nursery.{IsOrdered, Nursery}
use Rattle.mutator_seat.specs.Bound.{Bound}
use Rattle.version_rule.specs.Pass.{Pass, commit_numbers}
use Rattle.version_store.specs.Calls.{Holds}
use Rattle.version_store.specs.Lasts.{IsSameMutator, LastsAcross}
use Rattle.version_store.specs.Older.{GivesOlder, Trims}
use Rattle.version_store.specs.declared.fault.Cut.{Cut}
use Rattle.version_rule.specs.declared.held.HeldVersion.{HeldVersion}
use Rattle.held_places.proofs.Going.{many_cells}
use Rattle.client_heap.specs.Shows.{handles_of, state_of}
use Rattle.client_heap.specs.Sound.{IsSound}
use Rattle.client_heap.proofs.Carrying.{carries_left}
use Rattle.client_heap.proofs.Commits.{holds_carries, holds_held}
use Rattle.client_heap.proofs.Resting.{edits_on, rests_on, sound_on, still_on}

-- Of the store.
module _ (m n : Bound Pass) (minor : Nursery) (cells : List ℕ) (holds : Holds cells m n)
    (ordered : IsOrdered 0 minor.records) (lasts : LastsAcross m n) (same : IsSameMutator m n)
  where
    pub holds_still : Still (handles_of m minor) (handles_of n minor)
    holds_still = still_on m n minor minor (holds_carries m n minor cells holds ordered lasts same)

    module _ (d : NodeAt) (b : ℕ) (sound : IsSound m minor d b) where
      pub holds_sound : IsSound n minor d b
      holds_sound =
          sound_on (length m.seat.me.own.held) m n minor minor
          (holds_carries m n minor cells holds ordered lasts same) d b sound sound.kept sound.ready

      pub holds_rests : (more : ℕ) → length cells ≤ more
          → commit_numbers n.seat.me.pass ≡ commit_numbers m.seat.me.pass
          → n.seat.me.own.claims ≡ m.seat.me.own.claims
          → Rests more (state_of m minor d b) (state_of n minor d b)
      holds_rests more few commits claims =
          rests_on (length m.seat.me.own.held) m n minor minor
          (holds_carries m n minor cells holds ordered lasts same) d b sound sound.kept more commits
          claims refl
          (let many = holds_held m n minor cells holds in omega (arith, many, few))

-- On trees: an edit.
module _ (m n : Bound Pass) (old new : Nursery) (left : Leaves m n old new) where
  pub left_still : Still (handles_of m old) (handles_of n new)
  left_still = still_on m n old new (carries_left m n old new left)

  module _ (d : NodeAt) (b : ℕ) (sound : IsSound m old d b)
      (records : length new.records ≤ length old.records + 509)
      (held : length n.seat.me.own.held ≤ length m.seat.me.own.held + 8_192) where
    pub left_sound : length m.seat.me.own.held + length old.records + 20_000 ≤ m.seat.me.room
        → IsSound n new d b
    left_sound room =
        sound_on (length m.seat.me.own.held) m n old new (carries_left m n old new left) d b sound
        sound.kept (let kept = sound.kept in omega (arith, kept, records, room))

    pub left_edits : Edits 0 (state_of m old d b) (state_of n new d b)
    left_edits =
        edits_on (length m.seat.me.own.held) m n old new (carries_left m n old new left) d b sound
        sound.kept left.pass records held

-- A reading.
module _ (m n : Bound Pass) (old new : Nursery) (left : LeavesAll m n old new) where
  all_records : length new.records ≡ length old.records
  all_records = ap (λ (x : Nursery). length x.records) left.minor

  all_held : length n.seat.me.own.held ≡ length m.seat.me.own.held
  all_held =
      let here = many_cells m in
      let there = many_cells n in
      let same = ap (λ (cs : List ℕ). length cs) left.held in omega (arith, here, there, same)

  pub all_still : Still (handles_of m old) (handles_of n new)
  all_still = still_on m n old new (carries_left m n old new left.leaves)

  module _ (d : NodeAt) (b : ℕ) (sound : IsSound m old d b) where
    pub all_sound : IsSound n new d b
    all_sound =
        sound_on (length m.seat.me.own.held) m n old new (carries_left m n old new left.leaves) d b
        sound sound.kept
        (let ready = sound.ready in let same = all_records in omega (arith, ready, same))

    pub all_rests : Rests 0 (state_of m old d b) (state_of n new d b)
    all_rests =
        rests_on (length m.seat.me.own.held) m n old new (carries_left m n old new left.leaves) d b
        sound sound.kept 0 (ap commit_numbers left.leaves.pass) left.leaves.claims all_records
        (let same = all_held in omega (arith, same))

-- A walk back, which found the version or did not.
pub older_sound : (m n : Bound Pass) (minor : Nursery) (v : HeldVersion) (back : ℕ)
    → IsOrdered 0 minor.records → LastsAcross m n → IsSameMutator m n
    → (r : Result HeldVersion Cut) → IfOk r (λ o. GivesOlder m n v back o)
    → OnErr r (Holds [] m n) → (d : NodeAt) (b : ℕ) → IsSound m minor d b → IsSound n
    minor d b
older_sound m n minor v back ordered lasts same (Ok o) gives none d b sound =
    holds_sound m n minor (gives.cell ∷ []) gives.holds ordered lasts same d b sound
older_sound m n minor v back ordered lasts same (Err cut) gives none d b sound =
    holds_sound m n minor [] none ordered lasts same d b sound

-- A trim, which had something to cut or had not.
pub trim_commits : (m n : Bound Pass) (v : HeldVersion) (keep : ℕ)
    → (keep ≤ v.number → Trims m n v keep) → (v.number < keep → n ≡ m)
    → commit_numbers n.seat.me.pass ≡ commit_numbers m.seat.me.pass
trim_commits m n v keep trims nothing = by_number (cases_lt v.number keep)
  where
    by_number : (v.number < keep) ⊎ (keep ≤ v.number)
        → commit_numbers n.seat.me.pass ≡ commit_numbers m.seat.me.pass
    by_number (inl lt) = ap (λ (b : Bound Pass). commit_numbers b.seat.me.pass) (nothing lt)
    by_number (inr le) = ap commit_numbers (trims le).pass

pub trim_claims : (m n : Bound Pass) (v : HeldVersion) (keep : ℕ)
    → (keep ≤ v.number → Trims m n v keep) → (v.number < keep → n ≡ m)
    → n.seat.me.own.claims ≡ m.seat.me.own.claims
trim_claims m n v keep trims nothing = by_number (cases_lt v.number keep)
  where
    by_number : (v.number < keep) ⊎ (keep ≤ v.number)
        → n.seat.me.own.claims ≡ m.seat.me.own.claims
    by_number (inl lt) = ap (λ (b : Bound Pass). b.seat.me.own.claims) (nothing lt)
    by_number (inr le) = (trims le).claims
