-- What the guest tells of a version, and what it leaves.
-- Source: this project's.
use Rattle.std.specs.Prelude.{ℕ, ◌≡◌, ◌≤◌, ◌<◌, List, [], Option, Some, None, Vec, true}
use Rattle.std.specs.declared.alloc.Global.{Global}
use Rattle.client_session.specs.declared.journal.Limits.{Limits}
use Rattle.client_threads.specs.Clients.{places_for}
use Rattle.doc_tree.specs.Tree.{DocTree, count}
use Rattle.heap_table.specs.Seats.{HeapId, IsSeatOf, SeatView}
use Rattle.mutator_seat.specs.Bound.{Bound}
use Rattle.mutator_threads.specs.Mutators.{IsNew}
use Rattle.trails.specs.Asks.{InOrder}
use Rattle.trails.specs.Marks.{Mark, marks_of}
use Rattle.dump_text.specs.Dump.{dump_of}
use Rattle.dump_text.specs.declared.grow.TheConstants.{MOST_NODES}
use Rattle.doc_export.specs.declared.fault.DumpFault.{DumpFault}
use Rattle.doc_export.specs.declared.fault.DumpFault.TheVariants as faults
use Rattle.version_rule.specs.Fits.{Fits, HasTree}
use Rattle.version_rule.specs.Pass.{Pass, opening_pass}
use Rattle.version_store.specs.Calls.{version_asks}
use Rattle.version_store.specs.Lasts.{IsSameMutator, marks}
use Rattle.doc_export.specs.declared.guest.Copied.{Copied}
use Rattle.doc_export.specs.declared.guest.Through.{Through}

-- the bytes are the dump of the version with this number and this tree; there are none exactly
-- where the tree has more nodes than a dump may have
abbrev pub IsDumpOf : ℕ → DocTree → Option (Vec ℕ Global) → Type 0
IsDumpOf version t None = MOST_NODES < count t
IsDumpOf version t (Some bytes) = (count t ≤ MOST_NODES) × (bytes.items ≡ dump_of version t)

-- By the pass and the trail of the mutator that tells of a version: it is the latest that was seen,
-- and the anchor named its box. For every list of versions that fits the pass, the tree of that
-- version is the one that has so many nodes and was dumped.
pub record Tells (p : Pass) (shown : List Mark) (version nodes : ℕ)
    (bytes : Option (Vec ℕ Global)) : Type 0 where
  pub latest : p.seen ≡ version
  pub cell : ℕ
  pub read : InOrder (version_asks cell version) shown
  pub tree : DocTree
  pub fits : (trees : List DocTree) → Fits trees p → HasTree trees version tree
  pub counted : nodes ≡ count tree
  pub dumped : IsDumpOf version tree bytes

-- this is so of the version, if there is one
abbrev pub MayTell : Pass → List Mark → Option Copied → Type 0
MayTell p shown None = Unit {0}
MayTell p shown (Some c) = Tells p shown c.version c.count c.bytes

-- the version is told without a dump where its tree has too many nodes, and not at all where memory
-- ran out
abbrev pub TellsWithout : DumpFault → ℕ → ℕ → Option Copied → Type 0
TellsWithout (faults.TooMany count) version nodes copied =
    copied ≡ Some (record { version = version; count = nodes; bytes = None })
TellsWithout faults.NoMemory version nodes copied = copied ≡ None

-- The latest version was taken by a mutator, which committed nothing.
pub record Copies (old new : Bound Pass) (copied : Option Copied) : Type 0 where
  pub same : IsSameMutator old new
  pub keep : new.seat.me.pass.keep ≡ old.seat.me.pass.keep
  pub commits : new.seat.me.pass.commits ≡ old.seat.me.pass.commits
  pub tells : MayTell new.seat.me.pass (marks new) copied

-- The guest, which has the mutator with this number, has not begun.
abbrev pub IsWaiting : HeapId → Limits → ℕ → SeatView Pass → Type 0
IsWaiting heap l number seat =
    IsNew heap number (places_for l.minor) (opening_pass number l.keep) seat

-- The guest is done: its mutator, the one with this number, is over, and made no version.
pub record IsThrough (heap : HeapId) (l : Limits) (place : ℕ) (t : Through) : Type 0 where
  pub seat_is : IsSeatOf heap t.seat
  pub number_is : t.seat.me.number ≡ place
  pub room : t.seat.me.room ≡ places_for l.minor
  pub over : t.seat.me.presence.over ≡ true
  pub keep : t.seat.me.pass.keep ≡ l.keep
  pub commits : t.seat.me.pass.commits ≡ []
  pub tells : MayTell t.seat.me.pass (marks_of t.seat.me.trail) t.copied
