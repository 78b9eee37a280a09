-- What the calls of private records answer, code by code, and what they leave of them.
-- Source: this project's.
use Rattle.std.specs.Prelude.{ℕ, zero, suc, ◌≡◌, ◌<◌, ◌≤◌, ◌/◌, ◌%◌, ◌^◌, ◌⊎◌, ◌++◌, ◌∷◌}
use Rattle.std.specs.Prelude.{[], true, false, All, Bool, List, Ok, Err, MatchOption, length}
use Rattle.std.specs.Prelude.{slice_get}
use Rattle.std.specs.Prelude.{slice_index_or, slice_set, take, ◌-◌}
use Rattle.std.specs.declared.result.Result.{Result}
use Rattle.cell_making.specs.Makes.{value_at}
use Rattle.local_records.specs.Local.{Local}
use Rattle.local_references.specs.Roots.{slot_at}
use Rattle.local_references.specs.declared.roots.Root.{Root}
use Rattle.local_references.specs.declared.roots.Root.TheVariants as root
use Rattle.minor_heap.specs.Nursery.{field_at}
use Rattle.minor_heap.specs.Record.{IsWithin}
use Rattle.minor_heap.specs.declared.fields.MinorField.{MinorField}
use Rattle.minor_heap.specs.declared.fields.MinorField.TheVariants as field
use Rattle.minor_heap.specs.declared.fields.MinorRef.{MinorRef}
use Rattle.minor_heap.specs.declared.record.FieldKind.{FieldKind}
use Rattle.minor_heap.specs.declared.record.FieldKind.TheVariants as kind
use Rattle.mutator_events.specs.declared.values.Value.{Value}
use Rattle.sorted_boxes.specs.Sorts.{SortList, holds_record}
use Rattle.heap_c.specs.declared.codes.Code.{Code}
use Rattle.heap_c.specs.declared.codes.Code.TheVariants as code
use Rattle.heap_c.specs.declared.turns.Turns.{Turns}
use Rattle.heap_c.specs.declared.values.HeapVal.{HeapVal}
use Rattle.heap_c.specs.Calls.{IsIn, ReadsAllFields, ReadsField}
use Rattle.heap_c.specs.Holding.{AtPlace, Held, Mutator, Owned, StillLocal, turns_of}
use Rattle.heap_c.specs.Refusing.{IsOut, IsVal, NoField, held_of}
use Rattle.heap_c.specs.Turns.{IsNumber, NamesPlace, ref_number}

-- the bytes name this private record
abbrev pub NamesRecord : Local → (tag n : ℕ) → MinorRef → Type 0
NamesRecord l tag n r =
    (tag ≡ 3) × ((n ≡ ref_number l.turn r.number) × (r.number < length l.records))

-- the tag of field i of a new record, in the bytes of a word
abbrev pub tag_at : ℕ → ℕ → ℕ
tag_at kinds zero = kinds % 256
tag_at kinds (suc zero) = kinds / 256 % 256
tag_at kinds (suc (suc zero)) = kinds / 65536 % 256
tag_at kinds (suc (suc (suc zero))) = kinds / 16777216 % 256
tag_at kinds (suc (suc (suc (suc i)))) = kinds / 4294967296

-- with so many places held, which hold this
module _ (t : Turns) (held : ℕ) (sorts : SortList) (l : Local) where
  -- the bytes are this field of a new record
  abbrev pub FieldMeans : (tag n : ℕ) → MinorField → Type 0
  FieldMeans tag n field.Null = tag ≡ 0
  FieldMeans tag n (field.Num number) = (tag ≡ 1) × ((n ≡ number) × (number < 2 ^ 62))
  FieldMeans tag n (field.Minor r) = NamesRecord l tag n r
  FieldMeans tag n (field.Shared place) = (tag ≡ 2) × (NamesPlace t n place
      × ((place < held) × (holds_record sorts place ≡ true)))

  -- these are five such fields
  abbrev pub AreFields : (kinds : ℕ) → (words : List ℕ) → List MinorField → Type 0
  AreFields kinds words fields = (length fields ≡ 5) × ((i : ℕ) → i < 5
      → FieldMeans (tag_at kinds i) (slice_index_or words i 0) (slice_index_or fields i field.Null))

  -- the bytes are this root
  abbrev pub RootMeans : (tag n : ℕ) → Root → Type 0
  RootMeans tag n root.Null = tag ≡ 0
  RootMeans tag n (root.Num number) = (tag ≡ 1) × ((n ≡ number) × (number < 2 ^ 62))
  RootMeans tag n (root.Private r) = NamesRecord l tag n r
  RootMeans tag n (root.Shared place) =
      (tag ≡ 2) × (NamesPlace t n place × ((1 ≤ place) × (place < held)))

-- the kind of a new record's field, by its tag
abbrev pub kind_at : ℕ → FieldKind
kind_at zero = kind.Null
kind_at (suc zero) = kind.Num
kind_at (suc (suc zero)) = kind.Shared
kind_at (suc (suc (suc tag))) = kind.Minor

-- by tag, what the number of a field's bytes counts from, but for a place
abbrev pub starts_of : (turn : ℕ) → List ℕ
starts_of turn = 0 ∷ 0 ∷ 0 ∷ ref_number turn 0 ∷ []

module _ (t : Turns) (sorts : SortList) (l : Local) where
  -- The bytes can be no other field than this one, and are this one if what it names is there.
  pub record CanMean (tag n : ℕ) (f : MinorField) : Type 0 where
    pub within : (held : ℕ) (other : MinorField) → FieldMeans t held sorts l tag n other
        → IsWithin (length l.records) held f
    pub means : (held : ℕ) → IsWithin (length l.records) held f
        → FieldMeans t held sorts l tag n f

  -- the same of five
  pub record CanBeFields (kinds : ℕ) (words : List ℕ) (fields : List MinorField) : Type 0 where
    pub within : (held : ℕ) (others : List MinorField) → AreFields t held sorts l kinds words others
        → All (IsWithin (length l.records) held) fields
    pub means : (held : ℕ) → All (IsWithin (length l.records) held) fields
        → AreFields t held sorts l kinds words fields

-- of a mutator
abbrev pub AreFieldsOf : Turns → Owned → (kinds : ℕ) → (words : List ℕ) → List MinorField
    → Type 0
AreFieldsOf t m = AreFields t (held_of m.held) m.held.sorts m.local

abbrev pub IsRootOf : Turns → Owned → HeapVal → Root → Type 0
IsRootOf t m val = RootMeans t (held_of m.held) m.held.sorts m.local val.tag val.n

-- the bytes of a private record, and of a field of one, that are handed out
abbrev pub IsRef : Local → HeapVal → (number : ℕ) → Type 0
IsRef l val number = (val.tag ≡ 3) × (val.n ≡ ref_number l.turn number)

abbrev pub IsFieldVal : Turns → Local → HeapVal → MinorField → Type 0
IsFieldVal t l val field.Null = (val.tag ≡ 0) × (val.n ≡ 0)
IsFieldVal t l val (field.Num n) = (val.tag ≡ 1) × (val.n ≡ n)
IsFieldVal t l val (field.Minor r) = IsRef l val r.number
IsFieldVal t l val (field.Shared place) = (val.tag ≡ 2) × IsNumber t val.n place

-- One more record of five fields, or why not.
abbrev pub MakesRecord : Turns → Owned → Local → (kinds : ℕ) → (words : List ℕ)
    → Result HeapVal Code → Type 0
MakesRecord t m later kinds words (Ok val) = IsIn m.held × ((fields : List MinorField)
    × (AreFieldsOf t m kinds words fields × ((later.records ≡ m.local.records ++ fields ∷ [])
    × (IsRef m.local val (length m.local.records) × (later ≡ record m.local {
      records = later.records;
      named = later.named;
    })))))
MakesRecord t m later kinds words (Err code.NotIn) = IsOut m.held × (later ≡ m.local)
MakesRecord t m later kinds words (Err code.BadValue) =
    ((fields : List MinorField) → AreFieldsOf t m kinds words fields → ⊥) × (later ≡ m.local)
MakesRecord t m later kinds words (Err code.NoRecords) =
    (length m.local.records ≡ m.local.room) × (later ≡ m.local)
MakesRecord t m later kinds words (Err code.Spent) =
    (m.local.turn ≡ 4294967295) × (later ≡ m.local)
MakesRecord t m later kinds words (Err _) = ⊥

abbrev pub NoRoot : Turns → Owned → HeapVal → Type 0
NoRoot t m val = (r : Root) → IsRootOf t m val r → ⊥

-- a field of a private record, of who is in or out
abbrev pub GetsPrivate : Bool → Turns → Local → HeapVal → (f : ℕ) → Result HeapVal Code → Type 0
GetsPrivate inside t l of f (Ok val) = (inside ≡ true) × ((r : MinorRef)
    × (NamesRecord l of.tag of.n r
    × ((f ≤ 4) × IsFieldVal t l val (field_at l.records r.number f))))
GetsPrivate inside t l of f (Err code.NotIn) = inside ≡ false
GetsPrivate inside t l of f (Err code.BadValue) =
    (r : MinorRef) → NamesRecord l of.tag of.n r → ⊥
GetsPrivate inside t l of f (Err code.BadField) = NoField f
GetsPrivate inside t l of f (Err _) = ⊥

-- all five
abbrev pub GetsAllPrivate : Bool → Turns → Local → HeapVal → (five : ℕ)
    → Result (List HeapVal) Code → Type 0
GetsAllPrivate inside t l of five (Ok vals) = (inside ≡ true) × ((five ≡ 5) × ((r : MinorRef)
    × (NamesRecord l of.tag of.n r × ((i : ℕ) → i < 5 → MatchOption (slice_get vals i) ⊥
    (λ val. IsFieldVal t l val (field_at l.records r.number i))))))
GetsAllPrivate inside t l of five (Err code.NotIn) = inside ≡ false
GetsAllPrivate inside t l of five (Err code.BadValue) =
    (r : MinorRef) → NamesRecord l of.tag of.n r → ⊥
GetsAllPrivate inside t l of five (Err code.BadSize) = ¬ (five ≡ 5)
GetsAllPrivate inside t l of five (Err _) = ⊥

-- a field of a cell, or of a private record
abbrev pub ReadsVal : Turns → Held → Held → (place f : ℕ) → Result HeapVal Code → Type 0
ReadsVal t old new place f (Ok val) =
    (value : Value) × (IsVal t val value × ReadsField old new place f (Ok value))
ReadsVal t old new place f (Err c) = ReadsField old new place f (Err c)

abbrev pub GetsField : Mutator → Mutator → HeapVal → (f : ℕ) → Result HeapVal Code → Type 0
GetsField old new of f r =
    ((of.tag ≡ 2) × AtPlace old new of.n (r ≡ Err code.BadPlace)
    (λ place. ReadsVal (turns_of old) old.owned.held new.owned.held place f r
    × StillLocal old new))
    ⊎ ((¬ (of.tag ≡ 2)) × (GetsPrivate old.owned.held.bound.seat.me.presence.inside (turns_of old)
    old.owned.local of f r × (new ≡ old)))

abbrev pub ReadsAllVals : Turns → Held → Held → (place five : ℕ) → Result (List HeapVal) Code
    → Type 0
ReadsAllVals t old new place five (Ok vals) = (values : List Value)
    × (((i : ℕ) → i < 5 → MatchOption (slice_get vals i) ⊥ (λ val. IsVal t val (value_at values i)))
    × ReadsAllFields old new place five (Ok values))
ReadsAllVals t old new place five (Err c) = ReadsAllFields old new place five (Err c)

abbrev pub GetsAllFields : Mutator → Mutator → HeapVal → (five : ℕ) → Result (List HeapVal) Code
    → Type 0
GetsAllFields old new of five r =
    ((of.tag ≡ 2) × AtPlace old new of.n (r ≡ Err code.BadPlace)
    (λ place. ReadsAllVals (turns_of old) old.owned.held new.owned.held place five r
    × StillLocal old new))
    ⊎ ((¬ (of.tag ≡ 2)) × (GetsAllPrivate old.owned.held.bound.seat.me.presence.inside
    (turns_of old) old.owned.local of five r × (new ≡ old)))

-- how many records and roots a mutator may get room for
abbrev pub IsRecordSize : (records roots : ℕ) → Type 0
IsRecordSize records roots = (1 ≤ records) × ((records ≤ 4194304) × (roots ≤ 1048576))

abbrev pub GivesRoom : (records roots : ℕ) → Owned → Owned → Code → Type 0
GivesRoom records roots old new code.Ok = IsOut old.held × ((old.local.room ≡ 0)
    × (IsRecordSize records roots × ((new.held ≡ old.held) × ((new.local.room ≡ records)
    × ((new.local.most ≡ roots) × ((new.local.records ≡ []) × (new.local.roots ≡ [])))))))
GivesRoom records roots old new code.IsIn = IsIn old.held × (new ≡ old)
GivesRoom records roots old new code.NotZero = (1 ≤ old.local.room) × (new ≡ old)
GivesRoom records roots old new code.BadSize = (¬ IsRecordSize records roots) × (new ≡ old)
GivesRoom records roots old new code.NoMemory = new ≡ old
GivesRoom records roots old new _ = ⊥

-- the bytes of a root that is handed out
abbrev pub IsRootVal : Turns → Local → HeapVal → Root → Type 0
IsRootVal t l val root.Null = (val.tag ≡ 0) × (val.n ≡ 0)
IsRootVal t l val (root.Num n) = (val.tag ≡ 1) × (val.n ≡ n)
IsRootVal t l val (root.Private r) = IsRef l val r.number
IsRootVal t l val (root.Shared place) = (val.tag ≡ 2) × IsNumber t val.n place

module _ (t : Turns) (m : Owned) (later : Local) where
  abbrev pub PushesRoot : HeapVal → Code → Type 0
  PushesRoot val code.Ok = IsIn m.held × ((r : Root) × (IsRootOf t m val r
      × ((later.roots ≡ m.local.roots ++ r ∷ []) × (later ≡ record m.local {
        roots = later.roots;
        named = later.named;
      }))))
  PushesRoot val code.NotIn = IsOut m.held × (later ≡ m.local)
  PushesRoot val code.BadValue = NoRoot t m val × (later ≡ m.local)
  PushesRoot val code.NoRoom = (length m.local.roots ≡ m.local.most) × (later ≡ m.local)
  PushesRoot val _ = ⊥

  abbrev pub SetsRoot : (i : ℕ) → HeapVal → Code → Type 0
  SetsRoot i val code.Ok = IsIn m.held × ((i < length m.local.roots) × ((r : Root)
      × (IsRootOf t m val r × ((later.roots ≡ slice_set m.local.roots i r)
      × (later ≡ record m.local {
        roots = later.roots;
        named = later.named;
      })))))
  SetsRoot i val code.NotIn = IsOut m.held × (later ≡ m.local)
  SetsRoot i val code.BadPlace = (length m.local.roots ≤ i) × (later ≡ m.local)
  SetsRoot i val code.BadValue = NoRoot t m val × (later ≡ m.local)
  SetsRoot i val _ = ⊥

-- the newest n go
abbrev pub PopsRoots : Owned → Local → (n : ℕ) → Code → Type 0
PopsRoots m later n code.Ok = IsIn m.held × ((n ≤ length m.local.roots)
    × (later ≡ record m.local { roots = take (length m.local.roots - n) m.local.roots }))
PopsRoots m later n code.NotIn = IsOut m.held × (later ≡ m.local)
PopsRoots m later n code.BadPlace = (length m.local.roots < n) × (later ≡ m.local)
PopsRoots m later n _ = ⊥

abbrev pub TellsRoot : Turns → Owned → (i : ℕ) → Result HeapVal Code → Type 0
TellsRoot t m i (Ok val) = IsIn m.held × ((i < length m.local.roots)
    × IsRootVal t m.local val (slot_at m.local.roots i))
TellsRoot t m i (Err code.NotIn) = IsOut m.held
TellsRoot t m i (Err code.BadPlace) = length m.local.roots ≤ i
TellsRoot t m i (Err _) = ⊥

-- the number of a held place, counted from the anchor's
abbrev pub TellsPlace : Turns → Held → (i : ℕ) → Result ℕ Code → Type 0
TellsPlace t m i (Ok n) = IsIn m × ((i < held_of m) × IsNumber t n i)
TellsPlace t m i (Err code.NotIn) = IsOut m
TellsPlace t m i (Err code.BadPlace) = held_of m ≤ i
TellsPlace t m i (Err _) = ⊥
