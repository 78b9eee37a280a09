-- What the collector's seat has freed, after a service and after a change of its duty.
use Rattle.std.proofs.Common.{ℕ, zero, suc, Bool, true, false, List, [], ◌∷◌, ◌≡◌, ◌++◌, ◌+◌, ◌∙◌}
use Rattle.std.proofs.Common.{ap, refl, arith}
use Rattle.std.proofs.lemmas.List.{append-nil}
use Rattle.beside_collector.specs.Duty.{IsOnDuty}
use Rattle.beside_collector.specs.Freed.{HasFreed, Settled, freed_by}
use Rattle.beside_collector.specs.Serving.{Serves, gone_off}
use Rattle.collector.specs.Bound.{Bound, mutators_of}
use Rattle.collector.specs.Counting.{is_free}
use Rattle.collector.specs.Cycles.{Served}
use Rattle.collector.specs.Stretches.{Stretch}
use Rattle.collector.proofs.Counted.{counted}
use Rattle.core_machine.specs.declared.events.Event.TheVariants as event
use Rattle.core_machine.specs.declared.events.Found.TheVariants as finds
use Rattle.core_machine.specs.declared.events.Taken.{Taken}
use Rattle.heap_rule.specs.Rule.{took}
use Rattle.heap_table.specs.Seats.{SeatView}

-- a change of duty frees none
duty_frees_none : (xs : List Taken) (on : Bool)
    → freed_by (xs ++ took (event.Duty on) finds.Stored ∷ []) ≡ freed_by xs + 0
duty_frees_none xs on =
    counted (λ (t : Taken). is_free t.event) xs (took (event.Duty on) finds.Stored ∷ [])
    (freed_by xs) 0 refl refl

-- a service frees what it tells
pub service_frees : (xs added : List Taken) (mutators most made freed : ℕ)
    → Served mutators most made freed added → freed_by (xs ++ added) ≡ freed_by xs + freed
service_frees xs added mutators most made freed served =
    let on : freed_by (served.made ++ took (event.Duty false) finds.Stored ∷ [])
    ≡ freed_by served.made + 0 = duty_frees_none served.made false in
    let its : freed_by served.made ≡ freed = served.cycles.freed_are in
    counted (λ (t : Taken). is_free t.event) xs added (freed_by xs) freed refl
    (ap freed_by served.split ∙ on ∙ omega (arith, its))

module _ {P : Type 0} where
  on_duty_frees_none : (cycles : ℕ) (old new : SeatView P) → IsOnDuty cycles old new
      → freed_by new.me.trail ≡ freed_by old.me.trail
  on_duty_frees_none zero old new on =
      ap freed_by on.trail ∙ ap freed_by (append-nil old.me.trail)
  on_duty_frees_none (suc more) old new on =
      ap freed_by on.trail ∙ duty_frees_none old.me.trail true ∙ omega arith

  -- a call of `serve`
  pub has_freed : (cycles freed made : ℕ) (old new : Bound P)
      → Stretch (Served (mutators_of old) cycles made freed) old new
      → HasFreed old.seat new.seat freed
  has_freed cycles freed made old new stretch =
      ap freed_by stretch.trail
      ∙ service_frees old.seat.me.trail stretch.added (mutators_of old) cycles made freed
      stretch.fact

  pub settled_served : (cycles freed : ℕ) (old new : SeatView P) → Serves cycles old new
      → HasFreed old new freed → Settled old new freed
  settled_served cycles freed old new served freed_are = record {
    table = served.table;
    shape = served.shape;
    places = served.places;
    off_duty = served.off_duty;
    freed_are = freed_are;
  }

  pub settled_off : (old new : SeatView P) → new ≡ gone_off old → Settled old new 0
  settled_off old new off = record {
    table = ap (λ (s : SeatView P). s.table) off;
    shape = ap (λ (s : SeatView P). s.me.shape) off;
    places = ap (λ (s : SeatView P). s.me.places) off;
    off_duty = ap (λ (s : SeatView P). s.me.control.duty) off;
    freed_are = ap (λ (s : SeatView P). freed_by s.me.trail) off
        ∙ duty_frees_none old.me.trail false;
  }

  -- from an opening on
  pub freed_in_all : (cycles freed : ℕ) (opened on last : SeatView P) → opened.me.trail ≡ []
      → IsOnDuty cycles opened on → Settled on last freed → freed_by last.me.trail ≡ freed
  freed_in_all cycles freed opened on last none duty settled =
      let before : freed_by on.me.trail ≡ 0 =
      on_duty_frees_none cycles opened on duty ∙ ap freed_by none in
      let all = settled.freed_are in
      omega (arith, before, all)
