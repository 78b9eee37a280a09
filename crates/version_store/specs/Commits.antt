-- A commit: the one write that made it, or why there is none.
-- Source: this project's.
use Rattle.std.specs.Prelude.{ℕ, ◌≡◌, ◌<◌, ◌≤◌, ◌+◌, ◌++◌, List, []}
use Rattle.cell_words.specs.Term.{Term}
use Rattle.cell_words.specs.declared.fields.Field.TheVariants as field
use Rattle.core_machine.specs.declared.events.Event.{Event}
use Rattle.core_machine.specs.declared.events.Event.TheVariants as event
use Rattle.core_machine.specs.declared.events.Found.TheVariants as finds
use Rattle.core_machine.specs.declared.events.Taken.{Taken}
use Rattle.doc_tree.specs.Tree.{DocTree}
use Rattle.heap_rule.specs.declared.view.View.{View}
use Rattle.heap_rule.specs.Asks.{target}
use Rattle.mutator_events.specs.Events.{AtEvent}
use Rattle.mutator_seat.specs.Bound.{Bound}
use Rattle.mutator_seat.specs.Stretches.{Calm}
use Rattle.trails.specs.Claims.{FindsFull, IsFull}
use Rattle.trails.specs.Asks.{Shows}
use Rattle.trails.specs.Stretches.{Had}
use Rattle.version_rule.specs.Knowing.{next_made}
use Rattle.version_rule.specs.Pass.{Pass, committed, seeing}
use Rattle.version_rule.specs.Versions.{HoldsVersions, is_fixed}
use Rattle.version_store.specs.declared.fault.CommitFault.{CommitFault}
use Rattle.version_store.specs.declared.fault.CommitFault.TheVariants as faults
use Rattle.version_rule.specs.declared.held.HeldVersion.{HeldVersion}
use Rattle.held_places.specs.Calls.{Goes}
use Rattle.version_rule.specs.Shows.{version_asks}
use Rattle.version_store.specs.Held.{root_at, term_at}
use Rattle.version_store.specs.Lasts.{marks}

-- the exchange of the anchor's field, from the box of the version at a place to this box
abbrev pub write_over : View Pass → ℕ → ℕ → Event
write_over v latest box =
    event.Write v.number 0 0 (field.Cell (target v latest)) (field.Cell box)

-- Up to a write the pass is as it was, except that it has seen the version that was the latest. The
-- write found this version, and after it the pass has the commit. No more of it changes.
pub record Committed (is_tree : Term → Type 0) (tree_of : Term → DocTree) (old new : Bound Pass)
    (v : HeldVersion) (tree : ℕ) : Type 0 where
  pub goes : Goes [] old new
  pub not_below : old.seat.me.pass.seen ≤ v.number
  pub box : ℕ
  pub at : View Pass
  pub before : List Taken
  pub trail_before : at.trail ≡ old.seat.me.trail ++ before
  pub pass_before : at.pass ≡ seeing v.number old.seat.me.pass
  pub latest_is : target at v.place ≡ target old.seat.me v.place
  pub behind : View Pass
  pub step : AtEvent (HoldsVersions is_tree tree_of) is_fixed at (write_over at v.place box)
      (next_made (field.Cell (target at v.place)) (v.number + 1) (tree_of (root_at old v.place))
      (tree_of (term_at old tree)))
      (finds.Field (field.Cell (target at v.place))) behind
  pub after : List Taken
  pub trail_after : new.seat.me.trail ≡ behind.trail ++ after
  pub pass : new.seat.me.pass ≡ committed (v.number + 1) (tree_of (root_at old v.place))
      (tree_of (term_at old tree)) old.seat.me.pass

-- A newer version was read: its box from the anchor, and then its number. Nothing of the pass
-- changed except what was seen.
pub record FindsNewer (old new : Bound Pass) (v : HeldVersion) (newer : ℕ) : Type 0 where
  pub cell : ℕ
  pub goes : Goes (version_asks cell newer) old new
  pub is_newer : v.number < newer
  pub not_below : old.seat.me.pass.seen ≤ newer
  pub pass : new.seat.me.pass ≡ seeing newer old.seat.me.pass

-- what a refusal shows
abbrev pub Refused : Bound Pass → Bound Pass → HeldVersion → CommitFault → Type 0
Refused old new v (faults.Moved newer) = FindsNewer old new v newer
Refused old new v (faults.Full full) = Calm (FindsFull old.seat.me.number old.seat.me.shape.cells
    full.off_duty full.began full.ended) old new
Refused old new v faults.Worn = new ≡ old

-- what the marks of the trail show of a newer version: its box from the anchor, then its number
abbrev pub ShowsNewer : Bound Pass → Bound Pass → ℕ → Type 0
ShowsNewer old new newer =
    (cell : ℕ) × Shows (version_asks cell newer) (marks old) (marks new)

-- and of a refusal: a newer version, or a claim that found the heap full
abbrev pub ShowsRefusal : Bound Pass → Bound Pass → CommitFault → Type 0
ShowsRefusal old new (faults.Moved newer) = ShowsNewer old new newer
ShowsRefusal old new (faults.Full full) =
    Had (IsFull old.seat.me.shape.cells) (marks old) (marks new)
ShowsRefusal old new faults.Worn = Unit {0}
