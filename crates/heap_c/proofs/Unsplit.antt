-- Which mutators have no seat yet: all at the opening, and one less after each split. And that a
-- collector stays one that may be moved on.
use Rattle.std.proofs.Common.{◌≡◌, ◌<◌, ◌≤◌, ◌+◌, ◌≢◌, ℕ, zero, suc, List, [], refl, sym, ◌∙◌, ap}
use Rattle.std.proofs.Common.{arith, replicate, subst, Option, Some}
use Rattle.atomic_table.proofs.Lists.{set_else}
use mathlib.Core.Option.{some}
use lib.ListN.{get_elem?}
use Rattle.cell_words.specs.declared.controls.Stage.{Stage}
use Rattle.cell_words.specs.declared.controls.Stage.TheVariants as stage
use Rattle.collector.specs.Bound.{Bound}
use Rattle.collector.specs.Stack.{AllBelow, Stack}
use Rattle.collector.specs.Stepping.{IsAsking, Steps, StepsAt}
use Rattle.heap_c.specs.Keeping.{AreLeft, IsKeeping, IsKeptBy, IsWorked, Worked, collector_of}
use Rattle.heap_rule.specs.Moves.{split_view}
use Rattle.heap_rule.specs.Opening.{opening_view}
use Rattle.heap_rule.specs.Shape.{Shape}
use Rattle.heap_rule.specs.declared.view.Place.{Place}
use Rattle.heap_rule.specs.declared.view.Place.TheVariants as places
use Rattle.heap_table.specs.Seats.{HeapId, SeatView}
use Rattle.sorted_rule.specs.Sorted.{opening_pass}
use Rattle.sorted_rule.specs.declared.sorting.Sorting.{Sorting}

all_alike : {A : Type 0} (a : A) (n i : ℕ) → i < n → get_elem? (replicate n a) i ≡ some a
all_alike a zero i lt = absurd (omega (arith, lt))
all_alike a (suc n) zero lt = refl
all_alike a (suc n) (suc i) lt = all_alike a n i (omega (arith, lt))

pub all_left : (seat : SeatView Sorting)
    → seat.me.places ≡ replicate seat.me.shape.mutators places.Unsplit → AreLeft 0 seat
all_left seat is n from below =
    subst (λ (ps : List (Place Sorting)). get_elem? ps n ≡ some places.Unsplit) (sym is)
    (all_alike places.Unsplit seat.me.shape.mutators n below)

pub one_less : (given : ℕ) (old new : SeatView Sorting)
    → new ≡ record old { me = split_view given old.me } → AreLeft given old
    → AreLeft (given + 1) new
one_less given old new is left n from below =
    let apart : n ≢ given = λ same. omega (arith, from, same) in
    let shape = ap (λ (s : SeatView Sorting). s.me.shape.mutators) is in
    ap (λ (s : SeatView Sorting). get_elem? s.me.places n) is
    ∙ set_else old.me.places given n places.Away apart
    ∙ left n (omega (arith, from)) (omega (arith, below, shape))

-- a heap that was opened just now
pub new_left : (held heap : HeapId) (w : Worked) (boxes : ℕ) → held ≡ heap
    → w.seat ≡ record { table = heap.table; me = opening_view opening_pass heap.shape }
    → w.stack.cells ≡ [] → heap.shape.setting ≡ boxes → 1 ≤ boxes → IsKeptBy held w 0 boxes
new_left held heap w boxes same is empty setting least =
    let shape = ap (λ (s : SeatView Sorting). s.me.shape) is
    ∙ ap (λ (h : HeapId). h.shape) (sym same) in
    record {
      worked = record {
        bound = record {
          seat_is = (
            ap (λ (s : SeatView Sorting). s.table) is ∙ ap (λ (h : HeapId). h.table) (sym same),
            shape,
          );
          mutators_are = refl;
          stacked = subst (λ (cells : List ℕ). AllBelow w.seat.me.shape.cells cells) (sym empty) tt;
        };
        steps = subst (λ (s : SeatView Sorting). Steps w.heard
            (collector_of held (record w { seat = s }))) (sym is) tt;
      };
      few = omega arith;
      setting = ap (λ (h : HeapId). h.shape.setting) same ∙ setting;
      some = least;
      left = all_left w.seat (ap (λ (s : SeatView Sorting). s.me.places) is
          ∙ ap (λ (n : ℕ). replicate n places.Unsplit)
          (sym (ap (λ (s : SeatView Sorting). s.me.shape.mutators) is)));
    }

-- a split leaves what is between two moves
abbrev split_of : ℕ → Bound Sorting → Bound Sorting
split_of given c = record c { seat = record c.seat { me = split_view given c.seat.me } }

asking_on : (given heard : ℕ) (c : Bound Sorting) → IsAsking heard c
    → IsAsking heard (split_of given c)
asking_on given heard c k = record { few = k.few; answers = k.answers; scan = k.scan }

steps_on : (given heard : ℕ) (c : Bound Sorting) (s : Stage) → StepsAt s heard c
    → StepsAt s heard (split_of given c)
steps_on given heard c stage.Idle k = tt
steps_on given heard c stage.Sync1 k = asking_on given heard c k
steps_on given heard c stage.Clear k = record { within = k.within; scan = k.scan }
steps_on given heard c stage.Sync2 k = asking_on given heard c k
steps_on given heard c stage.Trace k =
    record { asking = asking_on given heard c k.asking; within = k.within }
steps_on given heard c stage.Sweep k = record { within = k.within; fresh = k.fresh }

split_worked : (heap : HeapId) (given : ℕ) (old new : Worked) → IsWorked heap old
    → new.seat ≡ record old.seat { me = split_view given old.seat.me }
    → new.stack ≡ old.stack → new.heard ≡ old.heard → IsWorked heap new
split_worked heap given old new worked is stack heard =
    let shape = ap (λ (s : SeatView Sorting). s.me.shape) is in
    record {
      bound = record {
        seat_is = (
          ap (λ (s : SeatView Sorting). s.table) is ∙ worked.bound.seat_is.0,
          shape ∙ worked.bound.seat_is.1,
        );
        mutators_are = refl;
        stacked = subst (λ (s : Stack). AllBelow new.seat.me.shape.cells s.cells) (sym stack)
            (subst (λ (h : Shape). AllBelow h.cells old.stack.cells) (sym shape)
            worked.bound.stacked);
      };
      steps = subst (λ (n : ℕ). Steps n (collector_of heap new)) (sym heard)
          (subst (λ (s : Stack). Steps old.heard
          (record { heap = heap; seat = new.seat; stack = s })) (sym stack)
          (subst (λ (s : SeatView Sorting). Steps old.heard
          (record { heap = heap; seat = s; stack = old.stack })) (sym is)
          (steps_on given old.heard (collector_of heap old) old.seat.me.control.stage
          worked.steps)));
    }

-- one after a split
pub keeps_on : (heap : HeapId) (given boxes : ℕ) (old new : Worked)
    → IsKeptBy heap old given boxes
    → new.seat ≡ record old.seat { me = split_view given old.seat.me }
    → new.stack ≡ old.stack → new.heard ≡ old.heard → given < heap.shape.mutators
    → IsKeptBy heap new (given + 1) boxes
keeps_on heap given boxes old new keeping is stack heard left = record {
  worked = split_worked heap given old new keeping.worked is stack heard;
  few = omega (arith, left);
  setting = keeping.setting;
  some = keeping.some;
  left = one_less given old.seat new.seat is keeping.left;
}

-- the same of a collector with its parts in place
split_of_some : (heap : HeapId) (works : Option Worked) (given boxes : ℕ) (w : Worked)
    → works ≡ Some w → IsKeeping heap works given boxes → IsKeptBy heap w given boxes
split_of_some heap works given boxes w is keeping =
    subst (λ (o : Option Worked). IsKeeping heap o given boxes) is keeping

pub split_keeps : (heap : HeapId) (works : Option Worked) (given boxes : ℕ) (w : Worked)
    (seat : SeatView Sorting) (stack : Stack) (heard : ℕ) (new : SeatView Sorting)
    → works ≡ Some w → w ≡ record { seat = seat; stack = stack; heard = heard }
    → IsKeeping heap works given boxes → new ≡ record seat { me = split_view given seat.me }
    → given < heap.shape.mutators
    → IsKeptBy heap (record { seat = new; stack = stack; heard = heard }) (given + 1) boxes
split_keeps heap works given boxes w seat stack heard new at is keeping split left =
    keeps_on heap given boxes (record { seat = seat; stack = stack; heard = heard })
    (record { seat = new; stack = stack; heard = heard })
    (subst (λ (v : Worked). IsKeptBy heap v given boxes) is
    (split_of_some heap works given boxes w at keeping)) split refl refl left
