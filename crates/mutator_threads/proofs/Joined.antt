-- The seats of all mutators are joined in turn, the collector serves if it has not, and the heap is
-- closed.
use Rattle.std.proofs.Common.{◌≡◌, ◌<◌, ◌+◌, ◌^◌, ◌++◌, ◌∷◌, ℕ, zero, suc, Bool, false, List, []}
use Rattle.std.proofs.Common.{Option, Some, None, length, refl, sym, ◌∙◌, ap, subst, arith}
use Rattle.std.proofs.lemmas.List.{append-nil, append_assoc, length-map}
use Rattle.atomic_table.proofs.Lists.{at_map}
use mathlib.Core.Option.{some, some-injective}
use lib.ListN.{get_elem?}
use Rattle.beside_collector.specs.Duty.{duty_on}
use Rattle.beside_collector.specs.Freed.{freed_by}
use Rattle.beside_collector.specs.Places.{AllFrom}
use Rattle.beside_collector.specs.Service.{HasServed}
use Rattle.beside_collector.specs.Serving.{IsStill, MayServe, ServesLate, Stands}
use Rattle.beside_collector.specs.declared.keeper.Standby.{Standby}
use Rattle.beside_collector.proofs.AllJoined.{Numbered, all_joined, joined_with}
use Rattle.beside_collector.proofs.Closing.{Worked, cycles_made, few_cycles, has_served, late_seat}
use Rattle.beside_collector.proofs.Closing.{may_serve, service, stands_seat, still_seat, tidy}
use Rattle.beside_collector.proofs.Closing.{worked}
use Rattle.beside_collector.proofs.Freed.{settled_off}
use Rattle.cell_heap.specs.Telling.{AreJoined}
use Rattle.cell_words.specs.declared.controls.Control.{Control}
use Rattle.free_cells.specs.declared.queue.FreeQueue.{FreeQueue}
use Rattle.heap_rule.specs.Boxes.{Map}
use Rattle.heap_rule.specs.Laws.{Ended}
use Rattle.heap_rule.specs.Moves.{joined_view}
use Rattle.heap_rule.specs.Rule.{share_of}
use Rattle.heap_rule.specs.Shape.{Shape}
use Rattle.heap_rule.specs.declared.view.Place.{Place}
use Rattle.heap_rule.specs.declared.view.Place.TheVariants as places
use Rattle.heap_rule.specs.declared.view.View.{View}
use Rattle.heap_table.specs.Images.{ImageView, Shows}
use Rattle.heap_table.specs.Seats.{HeapId, IsSeatOf, SeatView}
use Rattle.mutator_threads.specs.Closing.{HasClosed, IsClosed, joined_parts, passes_of}
use Rattle.mutator_threads.specs.Mutators.{AreOver, HasJoined, WentOffDuty, IsOver, own_of}
use Rattle.mutator_threads.specs.Mutators.{views_of}
use Rattle.mutator_threads.specs.declared.closing.Closed.{Closed}
use Rattle.mutator_threads.specs.declared.running.OffDuty.{OffDuty}
use Rattle.mutator_threads.specs.declared.worker.Worker.{Worker}

-- The joins, one after the other.

-- a seat to which another is joined is still the heap's
pub seat_joined : {P : Type 0} (heap : HeapId) (mid new one : SeatView P)
    → new ≡ record mid { me = joined_view mid.me one.me } → IsSeatOf heap mid
    → IsSeatOf heap new
seat_joined {P} heap mid new one made is = (
  ap (λ (s : SeatView P). s.table) made ∙ is.0,
  ap (λ (s : SeatView P). s.me.shape) made ∙ is.1,
)

module _ {P T : Type 0} (heap : HeapId) where
  -- The workers that are left are over, from some place on.
  pub record OverFrom (workers : List (Worker P T)) : Type 0 where
    pub place : ℕ
    pub over : AllFrom (λ number worker. IsOver heap number worker.seat) place workers

  -- Joined to this seat, those that are left make of it what all make of the first.
  -- What the others have of their own is given.
  pub record JoinedSoFar (all rest : List (Worker P T)) (given : List T) (old new : SeatView P)
      : Type 0 where
    pub still : IsStill old new
    pub own : given ++ own_of rest ≡ own_of all
    pub over : OverFrom rest
    pub left : joined_with new.me (views_of rest) ≡ joined_with old.me (views_of all)

  pub none_joined : (all rest : List (Worker P T)) (given : List T) (seat : SeatView P)
      → rest ≡ all → given ≡ [] → AreOver heap all → JoinedSoFar all rest given seat seat
  none_joined all rest given seat is none over = record {
    own = ap (λ (xs : List T). xs ++ own_of rest) none ∙ ap own_of is;
    still = record { table = refl; shape = refl; control = refl; trail = refl };
    over = subst (λ (ws : List (Worker P T)). OverFrom ws) (sym is)
        record { place = 0; over = over };
    left = ap (λ (ws : List (Worker P T)). joined_with seat.me (views_of ws)) is;
  }

  -- the next one is over
  pub next_over : (all left rest : List (Worker P T)) (one : Worker P T) (given : List T)
      (old mid : SeatView P) → JoinedSoFar all left given old mid → left ≡ one ∷ rest
      → OverFrom (one ∷ rest)
  next_over all left rest one given old mid so is =
      subst (λ (ws : List (Worker P T)). OverFrom ws) is so.over

  pub one_joined : (all left rest : List (Worker P T)) (one : Worker P T) (given now : List T)
      (gift : T) (old mid new : SeatView P) → JoinedSoFar all left given old mid
      → left ≡ one ∷ rest → gift ≡ one.own → now ≡ given ++ gift ∷ []
      → new ≡ record mid { me = joined_view mid.me one.seat.me }
      → JoinedSoFar all rest now old new
  one_joined all left rest one given now gift old mid new so is gift_is now_is made =
      let over = next_over all left rest one given old mid so is in
      record {
        still = record {
          table = ap (λ (s : SeatView P). s.table) made ∙ so.still.table;
          shape = ap (λ (s : SeatView P). s.me.shape) made ∙ so.still.shape;
          control = ap (λ (s : SeatView P). s.me.control) made ∙ so.still.control;
          trail = ap (λ (s : SeatView P). s.me.trail) made ∙ so.still.trail;
        };
        own = ap (λ (xs : List T). xs ++ own_of rest) now_is
            ∙ append_assoc given (gift ∷ []) (own_of rest)
            ∙ ap (λ (x : T). given ++ (x ∷ own_of rest)) gift_is
            ∙ ap (λ (ws : List (Worker P T)). given ++ own_of ws) (sym is) ∙ so.own;
        over = record { place = over.place + 1; over = over.over.1 };
        left = ap (λ (s : SeatView P). joined_with s.me (views_of rest)) made
            ∙ ap (λ (ws : List (Worker P T)). joined_with mid.me (views_of ws)) (sym is)
            ∙ so.left;
      }

  numbered : (place : ℕ) (ws : List (Worker P T))
      → AllFrom (λ number worker. IsOver heap number worker.seat) place ws
      → AllFrom Numbered place (views_of ws)
  numbered place [] over = tt
  numbered place (w ∷ ws) over = (over.0.number_is, numbered (place + 1) ws over.1)

  -- none is left
  pub parts_joined : (all left : List (Worker P T)) (given : List T) (old new : SeatView P)
      → length all ≡ length old.me.places → AreOver heap all → JoinedSoFar all left given old new
      → length left ≡ 0 → new.me.places ≡ joined_parts (views_of all)
  parts_joined all [] given old new many over so none =
      ap (λ (v : View P). v.places) so.left
      ∙ all_joined (views_of all) old.me
      (sym many ∙ sym (length-map all (λ (w : Worker P T). w.seat.me)))
      (numbered 0 all over)
  parts_joined all (w ∷ left) given old new many over so none = absurd (omega (arith, none))

  pub all_given : (all left : List (Worker P T)) (given : List T) (old new : SeatView P)
      → JoinedSoFar all left given old new → length left ≡ 0 → given ≡ own_of all
  all_given all [] given old new so none = sym (append-nil given) ∙ so.own
  all_given all (w ∷ left) given old new so none = absurd (omega (arith, none))

-- What follows from the parts.

there : {A : Type 0} (xs : List A) (i : ℕ) → i < length xs → (x : A) × (get_elem? xs i ≡ some x)
there [] i lt = absurd (omega (arith, lt))
there (x ∷ xs) zero lt = (x, refl)
there (x ∷ xs) (suc i) lt = there xs i (omega (arith, lt))

module _ {P : Type 0} where
  -- where the parts are those of joined seats, all seats are joined
  pub are_joined : (v : View P) (views : List (View P)) → v.places ≡ joined_parts views
      → v.shape.mutators ≡ length views → AreJoined v
  are_joined v views is many i lt =
      let at = there views i (omega (arith, lt, many)) in (
        share_of at.0,
        ap (λ (ps : List (Place P)). get_elem? ps i) is
            ∙ at_map (λ (view : View P). places.Joined (share_of view)) views i at.0 at.1,
      )

  same_passes : (passes : List P) (views : List (View P)) → length passes ≡ length views
      → ((i : ℕ) (view : View P) → get_elem? views i ≡ some view
      → get_elem? passes i ≡ some view.pass) → passes ≡ passes_of views
  same_passes [] [] many each = refl
  same_passes [] (v ∷ views) many each = absurd (omega (arith, many))
  same_passes (p ∷ passes) [] many each = absurd (omega (arith, many))
  same_passes (p ∷ passes) (v ∷ views) many each =
      let first : p ≡ v.pass = some-injective p v.pass (each 0 v refl) in
      let more : passes ≡ passes_of views = same_passes passes views (omega (arith, many))
      (λ i view at. each (suc i) view at) in
      (λ k. first k ∷ more k)

module _ {P : Type 0} {opens : ℕ → ℕ → P} {holding : Map → List P → Type 0} {fixed : ℕ → Bool}
    (h : Shape) (cycles : ℕ) (parts : List (Place P)) (closed : Closed P)
    (has : HasClosed opens holding fixed h cycles parts closed) (views : List (View P))
    (are : parts ≡ joined_parts views) (many : length views ≡ h.mutators) where
  -- the passes of the last state are those of the joined seats
  passes_are : has.ended.shows.passes ≡ passes_of views
  passes_are =
      same_passes has.ended.shows.passes views (has.ended.passes_fit ∙ sym many)
      (λ i view at. (has.ended.collector.joined i (share_of view)
      (ap (λ (ps : List (Place P)). get_elem? ps i) (has.places_are ∙ are)
      ∙ at_map (λ (v : View P). places.Joined (share_of v)) views i view at)).pass)

  pub is_closed : IsClosed opens holding fixed h cycles views closed
  is_closed = record {
    has_closed = record {
      ended = has.ended;
      shows = has.shows;
      collected = has.collected;
      places_are = has.places_are ∙ are;
      cells_are = has.cells_are;
      number_freed_is = has.number_freed_is;
      few_freed = has.few_freed;
    };
    passes_are = passes_are;
  }

-- The collector.

duty_frees_none : (cycles : ℕ) → freed_by (duty_on cycles) ≡ 0
duty_frees_none zero = refl
duty_frees_none (suc more) = refl

module _ {P : Type 0} (heap : HeapId) (queue : FreeQueue) (cycles : ℕ) where
  -- if it is still to serve, it has freed none
  none_freed : (first seat : SeatView P) (standby : Option Standby)
      → first.me.trail ≡ duty_on cycles
      → Stands heap queue cycles first seat standby → (one : Standby) → standby ≡ Some one
      → freed_by seat.me.trail ≡ 0
  none_freed first seat None trail stands one is = absurd cc
  none_freed first seat (Some standby) trail stands one is =
      let after : freed_by seat.me.trail ≡ freed_by first.me.trail + 0 =
      (settled_off first seat stands.1).freed_are in
      let before : freed_by first.me.trail ≡ 0 =
      ap freed_by trail ∙ duty_frees_none cycles in
      omega (arith, after, before)

  pub off_duty_seat : (seat : SeatView P) (standby : Option Standby) (freed : ℕ)
      → WentOffDuty heap queue cycles seat standby freed → IsSeatOf heap seat
  off_duty_seat seat standby freed went =
      stands_seat heap queue cycles went.on_duty seat seat standby went.seat_is went.stands

  module _ (off : OffDuty P) (j : HasJoined heap queue cycles off) where
    pub none_before : (one : Standby) → off.standby ≡ Some one → freed_by off.seat.me.trail ≡ 0
    none_before one is =
        ap freed_by j.still.trail
        ∙ none_freed j.went.on_duty j.before off.standby j.went.trail j.went.stands
        one is

    pub freed_before : freed_by off.seat.me.trail ≡ off.freed
    freed_before = ap freed_by j.still.trail ∙ j.went.freed_are

    pub may_still : MayServe heap queue cycles off.seat off.standby
    may_still =
        may_serve heap queue cycles j.went.on_duty j.before off.seat off.standby j.went.stands
        j.still

    seat_before : IsSeatOf heap off.seat
    seat_before =
        still_seat heap queue cycles j.went.on_duty j.before off.seat
        (off_duty_seat j.before off.standby off.freed j.went) j.still

    module _ (last : SeatView P) (late : ServesLate cycles off.standby off.seat last) where
      pub last_seat : IsSeatOf heap last
      last_seat =
          late_seat heap queue cycles j.went.on_duty j.before off.seat off.standby last seat_before
          late

      work : Worked cycles j.went.on_duty off.seat last
      work =
          worked heap queue cycles j.went.on_duty j.before off.seat off.standby last
          j.went.stands j.still j.joined late

      served : HasServed cycles heap.shape.mutators last.me
      served =
          has_served cycles heap.shape.mutators j.went.on_duty off.seat last
          (ap (λ (h : Shape). h.mutators) j.went.seat_is.1) j.went.trail j.went.no_cycles work

      off_still : (standby : Option Standby) → ServesLate cycles standby off.seat last
          → last.me.control.duty ≡ false
      off_still None same =
          ap (λ (s : SeatView P). s.me.control.duty) same
          ∙ ap (λ (k : Control). k.duty) j.still.control ∙ j.went.off_duty
      off_still (Some standby) serves = serves.off_duty

      pub has_closed : {opens : ℕ → ℕ → P} {holding : Map → List P → Type 0} {fixed : ℕ → Bool}
          (image : ImageView) (freed number_freed : ℕ)
          (ended : Ended opens holding fixed heap.shape (Unit {0}) image.words last.me)
          → Shows image ended.shows.core → freed_by last.me.trail ≡ freed
          → image.cells ≡ heap.shape.cells → last.me.part.number_freed ≡ number_freed
          → number_freed < 2 ^ 63
          → HasClosed opens holding fixed heap.shape cycles off.seat.me.places
          record { image = image; passes = last.me; freed = freed; number_freed = number_freed }
      has_closed image freed number_freed ended shows freed_are cells number few =
          let made = cycles_made heap.shape image.words last.me ended cycles served in
          let count = ended.shows.core.control.cycles in
          record {
            ended = ended;
            shows = shows;
            collected = record {
              service = service cycles heap.shape.mutators last.me served count made;
              cycles_are = few_cycles cycles heap.shape.mutators last.me served count made;
              tidy = λ fewer. tidy heap.shape image.words last.me ended cycles served j.went.sound
                  (omega (arith, made, fewer));
              off_duty = off_still off.standby late;
              freed_are = freed_are;
            };
            places_are = work.places;
            cells_are = cells;
            number_freed_is = number;
            few_freed = few;
          }
