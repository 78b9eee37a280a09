-- The collector's seat from the opening of a heap to its close, where all seats are joined before
-- it serves late.
use Rattle.std.proofs.Common.{◌≡◌, ◌≤◌, ◌<◌, ◌+◌, ◌++◌, ◌⊎◌, ℕ, Bool, true, false, List, [], ◌∷◌}
use Rattle.std.proofs.Common.{Option, Some, None, inl, inr, refl, sym, ◌∙◌, ap, subst, arith}
use Rattle.std.proofs.lemmas.Bool.{false≢true}
use Rattle.std.proofs.lemmas.List.{append_assoc}
use Rattle.beside_collector.specs.Duty.{duty_on}
use Rattle.beside_collector.specs.Service.{HasServed, IsService}
use Rattle.beside_collector.specs.Serving.{IsStill, MayServe, ServesLate, Stands, off_first}
use Rattle.beside_collector.specs.declared.keeper.Standby.{Standby}
use Rattle.cell_heap.specs.Telling.{AreJoined}
use Rattle.cell_words.specs.declared.controls.Control.{Control}
use Rattle.collector.specs.Cycles.{Served}
use Rattle.collector.specs.Over.{MeetOver}
use Rattle.collector.proofs.Leaving.{tidy_at_close}
use Rattle.core_machine.specs.State.{greatest_cycles}
use Rattle.core_machine.specs.declared.events.Event.TheVariants as event
use Rattle.core_machine.specs.declared.events.Found.TheVariants as finds
use Rattle.core_machine.specs.declared.events.Taken.{Taken}
use Rattle.dlg_core.specs.Collects.{IsTidy}
use Rattle.free_cells.specs.declared.queue.FreeQueue.{FreeQueue}
use Rattle.heap_rule.specs.Boxes.{Map}
use Rattle.heap_rule.specs.Laws.{Ended}
use Rattle.heap_rule.specs.Rule.{took}
use Rattle.heap_rule.specs.Shape.{IsSound, Shape}
use Rattle.heap_rule.specs.declared.view.View.{View}
use Rattle.heap_table.specs.Seats.{HeapId, IsSeatOf, SeatView}

module _ {P : Type 0} where
  -- What the collector's seat has at the close, by what it had first and what it had when all seats
  -- were joined.
  pub record Worked (cycles : ℕ) (first joined last : SeatView P) : Type 0 where
    pub places : last.me.places ≡ joined.me.places
    pub held_back : Bool
    pub made : ℕ
    pub freed : ℕ
    pub added : List Taken
    pub trail : last.me.trail ≡ first.me.trail ++ (off_first held_back ++ added)
    pub served : Served first.me.shape.mutators cycles made freed added
    pub late : held_back ≡ true → MeetOver added
    pub cycles_are : last.me.control.cycles ≡ first.me.control.cycles + made

  module _ (heap : HeapId) (queue : FreeQueue) (cycles : ℕ) (first mid joined : SeatView P) where
    -- after the work the seat is where it was
    pub stands_seat : (standby : Option Standby) → IsSeatOf heap first
        → Stands heap queue cycles first mid standby → IsSeatOf heap mid
    stands_seat None is s = (s.table ∙ is.0, s.shape ∙ is.1)
    stands_seat (Some standby) is s = s.0.seat_is

    pub stands_places : (standby : Option Standby) → Stands heap queue cycles first mid standby
        → mid.me.places ≡ first.me.places
    stands_places None s = s.places
    stands_places (Some standby) s = ap (λ (x : SeatView P). x.me.places) s.1

    pub still_seat : IsSeatOf heap mid → IsStill mid joined → IsSeatOf heap joined
    still_seat is still = (still.table ∙ is.0, still.shape ∙ is.1)

    -- what may serve may do so when its mutators' seats are joined
    pub may_serve : (standby : Option Standby) → Stands heap queue cycles first mid standby
        → IsStill mid joined → MayServe heap queue cycles joined standby
    may_serve None s still = tt
    may_serve (Some standby) s still = record {
      seat_is = still_seat s.0.seat_is still;
      idle = ap (λ (c : Control). c.stage) still.control ∙ s.0.idle;
      few = subst (λ (c : Control). c.cycles + cycles ≤ greatest_cycles) (sym still.control)
          s.0.few;
      pass_is = s.0.pass_is;
      cells = s.0.cells;
    }

    pub late_seat : (standby : Option Standby) (last : SeatView P) → IsSeatOf heap joined
        → ServesLate cycles standby joined last → IsSeatOf heap last
    late_seat None last is late = subst (λ (s : SeatView P). IsSeatOf heap s) (sym late) is
    late_seat (Some standby) last is late = (late.table ∙ is.0, late.shape ∙ is.1)

    pub worked : (standby : Option Standby) (last : SeatView P)
        → Stands heap queue cycles first mid standby → IsStill mid joined → AreJoined joined.me
        → ServesLate cycles standby joined last → Worked cycles first joined last
    worked None last s still all late =
        subst (λ (x : SeatView P). Worked cycles first joined x) (sym late) record {
          places = refl;
          held_back = false;
          made = s.made;
          freed = s.freed;
          added = s.added;
          trail = still.trail ∙ s.trail;
          served = s.served;
          late = λ is. absurd (false≢true is);
          cycles_are = ap (λ (c : Control). c.cycles) still.control ∙ s.cycles_are;
        }
    worked (Some standby) last s still all late =
        let off = s.1 in
        let shape = still.shape ∙ ap (λ (x : SeatView P). x.me.shape) off in
        let was = ap (λ (c : Control). c.cycles) still.control
        ∙ ap (λ (x : SeatView P). x.me.control.cycles) off in
        let now = late.cycles_are in
        record {
          places = late.places;
          held_back = true;
          made = late.made;
          freed = late.freed;
          added = late.added;
          trail = late.trail
              ∙ ap (λ (ts : List Taken). ts ++ late.added)
              (still.trail ∙ ap (λ (x : SeatView P). x.me.trail) off)
              ∙ append_assoc first.me.trail (off_first true) late.added;
          served = subst (λ (h : Shape). Served h.mutators cycles late.made late.freed late.added)
              shape late.served;
          late = λ is. late.late all;
          cycles_are = omega (arith, was, now);
        }

  -- from a seat that went on duty after an opening
  pub has_served : (most mutators : ℕ) (first joined last : SeatView P)
      → first.me.shape.mutators ≡ mutators → first.me.trail ≡ duty_on most
      → first.me.control.cycles ≡ 0 → Worked most first joined last
      → HasServed most mutators last.me
  has_served most mutators first joined last those trail cycles w = record {
    held_back = w.held_back;
    made = w.made;
    freed = w.freed;
    added = w.added;
    trail = w.trail ∙ ap (λ (ts : List Taken). ts ++ (off_first w.held_back ++ w.added)) trail;
    served = subst (λ (n : ℕ). Served n most w.made w.freed w.added) those w.served;
    late = w.late;
    cycles = let begun = w.cycles_are in omega (arith, begun, cycles);
  }

-- What follows from that at the close, where the number of cycles has another name.

off_or_not : (held : Bool) → (off_first held ≡ []) ⊎ (off_first held
    ≡ took (event.Duty false) finds.Stored ∷ [])
off_or_not true = inr refl
off_or_not false = inl refl

off_was : (held : Bool) → off_first held ≡ took (event.Duty false) finds.Stored ∷ []
    → held ≡ true
off_was true is = refl
off_was false is = absurd cc

module _ {P : Type 0} (most mutators : ℕ) (v : View P) (s : HasServed most mutators v) where
  pub service : (count : ℕ) → count ≡ s.made → IsService most mutators count v.trail
  service count is = record {
    off = off_first s.held_back;
    off_is = off_or_not s.held_back;
    served = s.added;
    trail_is = s.trail;
    freed = s.freed;
    serves = subst (λ (n : ℕ). Served mutators most n s.freed s.added) (sym is) s.served;
    late = λ off. s.late (off_was s.held_back off);
  }

  pub few_cycles : (count : ℕ) → count ≡ s.made → count ≤ most
  few_cycles count is = let few = s.served.cycles.most_are in omega (arith, few, is)

module _ {P : Type 0} {opens : ℕ → ℕ → P} {holding : Map → List P → Type 0} {fixed : ℕ → Bool}
    {S : Type 0} (h : Shape) (words : List ℕ) (v : View P)
    (ended : Ended opens holding fixed h S words v) (most : ℕ) (s : HasServed most h.mutators v)
  where
    pub cycles_made : ended.shows.core.control.cycles ≡ s.made
    cycles_made = ap (λ (c : Control). c.cycles) ended.collector.control ∙ s.cycles

    -- fewer cycles than the collector may make leave no garbage
    pub tidy : IsSound h → s.made < most → IsTidy ended.shows.core
    tidy sound fewer =
        let on = duty_on most in
        let off = off_first s.held_back in
        let last = took (event.Duty false) finds.Stored ∷ [] in
        tidy_at_close h words v most s.made s.freed (on ++ off) s.served.made last sound ended
        (s.trail ∙ ap (λ (ts : List Taken). on ++ (off ++ ts)) s.served.split
        ∙ sym (append_assoc on off (s.served.made ++ last))) s.served.cycles fewer
