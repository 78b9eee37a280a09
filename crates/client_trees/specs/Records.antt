-- A client's records as a pool: what stands, and what each record says.
-- Source: Doligez and Leroy, POPL 1993 (private records that name shared ones). This project's:
-- that they name places of the held list.
use Rattle.std.specs.Prelude.{ℕ, ◌≡◌, ◌<◌, ◌≤◌, ◌+◌, ◌-◌, ◌++◌, Bool, true, false, List, []}
use Rattle.std.specs.Prelude.{length, map}
use Rattle.cell_words.specs.Term.{Term, null, IsFive}
use Rattle.core_machine.specs.Places.{cell_at}
use Rattle.atomic_table.specs.Seated.{TableId}
use Rattle.heap_table.specs.Seats.{HeapId}
use Rattle.mutator_seat.specs.Bound.{Bound}
use Rattle.heap_rule.specs.Lore.{known_at, term_or}
use Rattle.heap_rule.specs.declared.known.Known.{Known}
use Rattle.heap_rule.specs.declared.known.Known.TheVariants as knows
use Rattle.heap_rule.specs.declared.view.View.{View}
use Rattle.minor_heap.specs.declared.fields.MinorField.{MinorField}
use Rattle.minor_heap.specs.declared.fields.MinorField.TheVariants as field
use Rattle.minor_heap.specs.declared.fields.MinorRef.{MinorRef}
use Rattle.minor_heap.specs.Nursery.{Nursery, field_at}
use Rattle.minor_heap.specs.Terms.{term_of}
use Rattle.trails.specs.Marks.{marks_of}
use Rattle.trails.specs.Telling.{Tells}
use Rattle.mutator_events.specs.declared.values.Value.{Value}
use Rattle.mutator_events.specs.declared.values.Value.TheVariants as values
use Rattle.doc_records.specs.Pool.{Later, Shown, Stands, ask_part, part_term, places_of}
use Rattle.doc_records.specs.Pool.{is_shared as parts_shared}
use Rattle.doc_records.specs.declared.pool.Part.{Part}
use Rattle.doc_records.specs.declared.pool.Part.TheVariants as parts
use Rattle.client_trees.specs.declared.at.NodeAt.{NodeAt}
use Rattle.client_trees.specs.declared.at.NodeAt.TheVariants as at

-- what is known of a cell is its term as a record
abbrev pub IsRecord : Known → Type 0
IsRecord knows.Nothing = ⊥
IsRecord (knows.Raw fields) = ⊥
IsRecord (knows.Fresh fields) = ⊥
IsRecord (knows.Record t) = IsFive t
IsRecord (knows.Boxed terms) = ⊥

-- that term; null where no such record is known
abbrev pub known_term : Known → Term
known_term k = term_or null k

-- by place
abbrev pub terms_known : List Known → List Term
terms_known known = map known_term known

-- The private record stands, and so does all that it leads to; `ok` holds of the shared places
-- among that. This goes by the fields and sets no bound on places: so one lemma serves a longer
-- held list, a shorter one, and more that is known.
pub data Rests (records : List (List MinorField)) (ok : ℕ → Type 0) : MinorRef → Type 0 where
  rests : {r : MinorRef} → r.number < length records
      → ((i place : ℕ) → i < 5 → field_at records r.number i ≡ field.Shared place → ok place)
      → ((i : ℕ) (older : MinorRef) → i < 5 → field_at records r.number i ≡ field.Minor older
      → Rests records ok older)
      → Rests records ok r

-- a place among the first so many that is known as a record
abbrev pub IsAmong : List Known → ℕ → ℕ → Type 0
IsAmong known places place = (place < places) × IsRecord (known_at known place)

-- the record stands on the first so many places
abbrev pub stands_on : List Known → List (List MinorField) → ℕ → NodeAt → Type 0
stands_on known records places (at.Shared place) = IsAmong known places place
stands_on known records places (at.Minor r) = Rests records (IsAmong known places) r

abbrev pub term_at : List Known → List (List MinorField) → NodeAt → Term
term_at known records (at.Shared place) = known_term (known_at known place)
term_at known records (at.Minor r) = term_of (terms_known known) records r

abbrev pub is_shared : NodeAt → Bool
is_shared (at.Shared place) = true
is_shared (at.Minor r) = false

-- What a client's pool says in addition to its records.

-- what there is outside of a mutator's view and a private heap: the mutator's heap, and the names
-- under which both are borrowed
pub record Outside : Type 0 where
  pub heap : HeapId
  pub table : TableId
  pub names : ℕ × ℕ

-- a mutator without what it holds, what it knows of that, and its trail
abbrev pub blank : {P : Type 0} → View P → View P
blank v = record v { own = record v.own { held = [] }; known = []; trail = [] }

-- what no call changes: all of the mutator except these, and the room of the private heap
pub record Around (P : Type 0) : Type 0 where
  pub outside : Outside
  pub view : View P
  pub room : ℕ

abbrev pub around_of : {P : Type 0} → View P → Nursery → Outside → Around P
around_of v minor outside = record { outside = outside; view = blank v; room = minor.room }

-- more than nothing is known
abbrev pub IsSomething : Known → Type 0
IsSomething knows.Nothing = ⊥
IsSomething (knows.Raw fields) = Unit {0}
IsSomething (knows.Fresh fields) = Unit {0}
IsSomething (knows.Record t) = Unit {0}
IsSomething (knows.Boxed terms) = Unit {0}

pub data ClientFact (P : Type 0) : Type 0 where
  -- this is what no call changes
  IsAround : Around P → ClientFact P
  -- the place holds this cell
  HasCell : (place cell : ℕ) → ClientFact P
  -- this is known of the place, and it is something
  IsKnownAs : (place : ℕ) → Known → ClientFact P
  -- the private records are these, and those that were made later
  HasRecords : List (List MinorField) → ClientFact P

pub record BeginWith (first records : List (List MinorField)) : Type 0 where
  pub rest : List (List MinorField)
  pub is : records ≡ first ++ rest

-- the fact stands on the first so many places
abbrev pub says_of : {P : Type 0} → View P → Nursery → Outside → ℕ → ClientFact P → Type 0
says_of v minor outside places (IsAround around) = around_of v minor outside ≡ around
says_of v minor outside places (HasCell place cell) =
    (place < places) × (cell_at v.own.held place ≡ cell)
says_of v minor outside places (IsKnownAs place k) =
    (place < places) × (IsSomething k × (known_at v.known place ≡ k))
says_of v minor outside places (HasRecords records) = BeginWith records minor.records

-- what a mutator's view and a private heap show together
abbrev pub shown_of : {P : Type 0} → View P → Nursery → Outside → Shown NodeAt (ClientFact P)
shown_of v minor outside = record {
  term = term_at v.known minor.records;
  stands = stands_on v.known minor.records;
  held = length v.own.held;
  room = v.room;
  says = says_of v minor outside;
  records = minor.room - length minor.records;
  marks = marks_of v.trail;
}

abbrev pub outside_of : {P : Type 0} → Bound P → ℕ × ℕ → Outside
outside_of m names = record { heap = m.heap; table = m.seat.table; names = names }

-- and what they show when they are borrowed under these names
abbrev pub shown_by : {P : Type 0} → Bound P → Nursery → ℕ × ℕ → Shown NodeAt (ClientFact P)
shown_by m minor names = shown_of m.seat.me minor (outside_of m names)

-- a part as a field of a private record
abbrev pub field_of : Part NodeAt → MinorField
field_of parts.Null = field.Null
field_of (parts.Num n) = field.Num n
field_of (parts.Record (at.Shared place)) = field.Shared place
field_of (parts.Record (at.Minor r)) = field.Minor r

-- what a read of a held cell gives, and what a field of a private record gives
abbrev pub part_held : Value → Part NodeAt
part_held values.Null = parts.Null
part_held (values.Num n) = parts.Num n
part_held (values.Held place) = parts.Record (at.Shared place)

abbrev pub part_read : MinorField → Part NodeAt
part_read field.Null = parts.Null
part_read (field.Num n) = parts.Num n
part_read (field.Minor r) = parts.Record (at.Minor r)
part_read (field.Shared place) = parts.Record (at.Shared place)

-- a read of a shared record gave a part that says this, with any private heap
pub record SharedRead {P : Type 0} (minor : Nursery) (before behind : Outside) (v w : View P)
    (t : Term) (result : Part NodeAt) : Type 0 where
  pub term : part_term (shown_of w minor behind).term result ≡ t
  pub stands : Stands (shown_of w minor behind) result
  pub later : Later (shown_of v minor before) (shown_of w minor behind)
  pub held : length w.own.held ≤ length v.own.held + places_of result
  pub told : Tells (ask_part result) (marks_of v.trail) (marks_of w.trail)
  pub shared : parts_shared is_shared result ≡ true
