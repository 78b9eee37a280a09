-- What promotion and a minor collection tell.
-- Source: Doligez and Leroy, POPL 1993 (promotion of private records, minor collection). This
-- project's: that the held list names the copies.
use Rattle.std.specs.Prelude.{ℕ, ◌≡◌, ◌+◌, List, [], ◌∷◌, ◌++◌, length, map, take}
use Rattle.core_machine.specs.declared.events.Taken.{Taken}
use Rattle.heap_rule.specs.declared.known.Known.{Known}
use Rattle.heap_rule.specs.declared.known.Known.TheVariants as knows
use Rattle.minor_heap.specs.declared.fields.MinorField.{MinorField}
use Rattle.minor_heap.specs.declared.fields.MinorRef.{MinorRef}
use Rattle.minor_heap.specs.Reaches.{AreReached}
use Rattle.minor_heap.specs.Terms.{term_of}
use Rattle.mutator_seat.specs.declared.full.HeapFull.{HeapFull}
use Rattle.mutator_seat.specs.Bound.{Bound, held_cells}
use Rattle.mutator_seat.specs.Claims.{anything}
use Rattle.mutator_seat.specs.Stretches.{takes_all}
use Rattle.trails.specs.Claims.{FindsFull}
use Rattle.promotion.specs.Sharing.{known_terms}

-- F holds of a part of the events
pub record Within (F : List Taken → Type 0) (events : List Taken) : Type 0 where
  pub before : List Taken
  pub part : List Taken
  pub after : List Taken
  pub split : events ≡ before ++ (part ++ after)
  pub fact : F part

module _ {P : Type 0} where
  -- the mutator took events of which F holds, and none of them picked a pass
  pub record Adds (F : List Taken → Type 0) (old new : Bound P) : Type 0 where
    pub added : List Taken
    pub told : new ≡ takes_all old added
    pub fact : F added

  -- all is the same except the held list, what is known of it, the claims, and what handshakes
  -- change
  pub record Stays (old new : Bound P) : Type 0 where
    pub heap : new.heap ≡ old.heap
    pub table : new.seat.table ≡ old.seat.table
    pub shape : new.seat.me.shape ≡ old.seat.me.shape
    pub role : new.seat.me.role ≡ old.seat.me.role
    pub number : new.seat.me.number ≡ old.seat.me.number
    pub room : new.seat.me.room ≡ old.seat.me.room
    pub pass : new.seat.me.pass ≡ old.seat.me.pass
    pub inside : new.seat.me.presence.inside ≡ old.seat.me.presence.inside
    pub over : new.seat.me.presence.over ≡ old.seat.me.presence.over

  -- as many cells were claimed as these records reach, one for each record
  pub record ClaimsFor (old : Bound P) (records : List (List MinorField)) (from : List MinorRef)
      (new : Bound P) : Type 0 where
    pub copied : List MinorRef
    pub reached : AreReached records from copied
    pub claims : new.seat.me.own.claims ≡ old.seat.me.own.claims + length copied

  abbrev pub knows_term : Bound P → List (List MinorField) → MinorRef → Known
  knows_term m records r = knows.Record (term_of (known_terms m.seat.me.known) records r)

  -- one more place, which holds a record with the term of the private one
  pub record Promoted (old : Bound P) (records : List (List MinorField)) (r : MinorRef)
      (new : Bound P) : Type 0 where
    pub cell : ℕ
    pub held : held_cells new ≡ held_cells old ++ cell ∷ []
    pub known : new.seat.me.known ≡ old.seat.me.known ++ knows_term old records r ∷ []
    pub claims : ClaimsFor old records (r ∷ []) new
    pub stays : Stays old new
    pub adds : Adds anything old new

  -- the first places, and then one for each root, which holds the copy of that root
  pub record Collected (old : Bound P) (records : List (List MinorField)) (roots : List MinorRef)
      (base : ℕ) (new : Bound P) : Type 0 where
    pub cell : MinorRef → ℕ
    pub held : held_cells new ≡ take base (held_cells old) ++ map cell roots
    pub known : new.seat.me.known
        ≡ take base old.seat.me.known ++ map (knows_term old records) roots
    pub claims : ClaimsFor old records roots new
    pub stays : Stays old new
    pub adds : Adds anything old new

  -- a claim among the events found the heap full
  abbrev pub HasRefusal : Bound P → HeapFull → List Taken → Type 0
  HasRefusal m full events =
      Within (FindsFull m.seat.me.number m.seat.me.shape.cells full.off_duty full.began full.ended)
      events

  -- a claim found the heap full, and the held list is as it was
  pub record Refused (old : Bound P) (full : HeapFull) (new : Bound P) : Type 0 where
    pub held : held_cells new ≡ held_cells old
    pub known : new.seat.me.known ≡ old.seat.me.known
    pub stays : Stays old new
    pub adds : Adds (HasRefusal old full) old new
