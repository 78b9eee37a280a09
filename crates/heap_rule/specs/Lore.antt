-- Lore: what is so of a heap's cells beyond its words. The terms of its records, for whom a cell is
-- fresh, and what each mutator knows of the cells that it holds. It changes with the events alone.
-- What mutators know is in it, by mutator, and each view has a copy, tied to it by one equation: so
-- no event needs a lemma on other seats.
-- Source: this project's.
use Rattle.std.specs.Prelude.{ℕ, ◌==◌, Bool, true, false, List, [], ◌∷◌, ◌++◌}
use Rattle.std.specs.Prelude.{slice_index_or, slice_set, map, take, drop, Option, Some, None}
use Rattle.std.specs.Prelude.{if◌then◌else◌}
use Rattle.std.specs.List.{list_any}
use Rattle.cell_words.specs.declared.colours.Colour.{Colour}
use Rattle.cell_words.specs.declared.colours.Colour.TheVariants as colour
use Rattle.cell_words.specs.declared.fields.Field.{Field}
use Rattle.cell_words.specs.declared.fields.Field.TheVariants as field
use Rattle.cell_words.specs.declared.fields.Kind.{Kind}
use Rattle.cell_words.specs.declared.fields.Kind.TheVariants as kind
use Rattle.cell_words.specs.Term.{Term, null, num, five}
use Rattle.core_machine.specs.declared.events.Event.{Event}
use Rattle.core_machine.specs.declared.events.Event.TheVariants as event
use Rattle.core_machine.specs.declared.events.Found.{Found}
use Rattle.core_machine.specs.declared.events.Found.TheVariants as finds
use Rattle.core_machine.specs.declared.places.Held.{Held}
use Rattle.core_machine.specs.Next.{found_by, maker}
use Rattle.core_machine.specs.Own.{Own, pending_or_none}
use Rattle.core_machine.specs.Places.{kept}
use Rattle.core_machine.specs.State.{State, colour_of, field_of, held_of, own_of, target_of}
use Rattle.core_machine.specs.Words.{is_box_kind, same_field}
use Rattle.heap_rule.specs.declared.known.Known.{Known}
use Rattle.heap_rule.specs.declared.known.Known.TheVariants as knows
use Rattle.heap_rule.specs.declared.known.Learned.{Learned}

-- What a field stands for: a term that never changes again, or a cell that is no record.
pub data Entry : Type 0 where
  Plain : Term → Entry
  Named : (cell : ℕ) → Entry

abbrev pub Terms : Type 0
Terms = ℕ → Option Term

abbrev pub named_or : ℕ → Option Term → Entry
named_or c None = Named c
named_or c (Some t) = Plain t

abbrev pub entry_of : Terms → Field → Entry
entry_of terms field.Null = Plain null
entry_of terms (field.Num n) = Plain (num n)
entry_of terms (field.Cell c) = named_or c (terms c)

-- the term of an entry; null of a cell that is no record
abbrev pub term_of : Entry → Term
term_of (Plain t) = t
term_of (Named c) = null

-- the record of five fields
abbrev pub five_of : Terms → (ℕ → Field) → Term
five_of terms row = five (term_of (entry_of terms (row 0))) (term_of (entry_of terms (row 1)))
    (term_of (entry_of terms (row 2))) (term_of (entry_of terms (row 3)))
    (term_of (entry_of terms (row 4)))

-- the function with another value at one number
abbrev pub put : {A : Type 0} → (ℕ → A) → ℕ → A → ℕ → A
put f x value y = if y == x then value else f y

pub record Lore : Type 0 where
  -- the terms of sealed records
  pub terms : Terms
  -- for which mutator a cell is fresh: it claimed the cell, holds it, and has named it nowhere
  pub fresh : ℕ → Option ℕ
  -- by mutator and place, what it knows of the cell that it holds there
  pub known : List (List Known)

abbrev pub known_in : List (List Known) → ℕ → List Known
known_in known i = slice_index_or known i []

abbrev pub known_at : List Known → ℕ → Known
known_at known place = slice_index_or known place knows.Nothing

-- the cells of a held list, place by place
abbrev pub cells_in : List Held → List ℕ
cells_in held = map (λ place. place.cell) held

-- the cells that a mutator holds
abbrev pub cells_of : State → ℕ → List ℕ
cells_of s i = cells_in (held_of s i)

abbrev pub has : List ℕ → ℕ → Bool
has cells x = list_any (λ cell. cell == x) cells

-- Terms. A claim forgets what a cell was, and sealing a record gives it its term.

abbrev pub claimed_terms : Terms → ℕ → Colour → Terms
claimed_terms terms c colour.Blue = put terms c None
claimed_terms terms c colour.White = terms
claimed_terms terms c colour.Gray = terms
claimed_terms terms c colour.Black = terms

abbrev pub sealed_terms : Terms → ℕ → (ℕ → Field) → Kind → Terms
sealed_terms terms c row kind.Record = put terms c (Some (five_of terms row))
sealed_terms terms c row kind.Boxed = terms

abbrev pub terms_after : State → Terms → Event → Terms
terms_after s terms (event.Claim i c) = claimed_terms terms c (colour_of s c)
terms_after s terms (event.Seal i place of) =
    sealed_terms terms (target_of s i place) (field_of s (target_of s i place)) of
terms_after s terms _ = terms

-- Freshness. A cell is fresh for who claimed it, until that names it in a field or drops it.

abbrev pub Fresh : Type 0
Fresh = ℕ → Option ℕ

abbrev pub claimed_fresh : Fresh → ℕ → ℕ → Colour → Fresh
claimed_fresh fresh i c colour.Blue = put fresh c (Some i)
claimed_fresh fresh i c colour.White = fresh
claimed_fresh fresh i c colour.Gray = fresh
claimed_fresh fresh i c colour.Black = fresh

-- the cell that a value names is fresh no longer
abbrev pub revealed : Fresh → Field → Fresh
revealed fresh field.Null = fresh
revealed fresh (field.Num n) = fresh
revealed fresh (field.Cell c) = put fresh c None

abbrev pub revealed_if : Bool → Fresh → Field → Fresh
revealed_if true fresh value = revealed fresh value
revealed_if false fresh value = fresh

-- what is fresh for the mutator stays so where it still holds the cell
abbrev pub fresh_still : ℕ → Bool → Option ℕ → Option ℕ
fresh_still i held None = None
fresh_still i held (Some j) = if j == i then (if held then Some j else None) else Some j

abbrev pub fresh_held : Fresh → ℕ → List ℕ → Fresh
fresh_held fresh i cells x = fresh_still i (has cells x) (fresh x)

-- whether a write was made: the field held the old value
abbrev pub was_made : Field → Found → Bool
was_made old (finds.Field found) = same_field found old
was_made old _ = false

abbrev pub fresh_after : State → Fresh → Event → Fresh
fresh_after s fresh (event.Claim i c) = claimed_fresh fresh i c (colour_of s c)
fresh_after s fresh (event.Fill i place f value) = revealed fresh value
fresh_after s fresh (event.Write i place f old new) =
    revealed_if (same_field (field_of s (target_of s i place) f) old) fresh new
fresh_after s fresh (event.Store i new) = revealed fresh new
fresh_after s fresh (event.Keep i count from copies) =
    fresh_held fresh i (cells_in (kept (held_of s i) count from copies))
fresh_after s fresh (event.End i) = fresh_held fresh i []
fresh_after s fresh _ = fresh

-- What a read tells.

abbrev pub plain : Entry → Option Term
plain (Plain t) = Some t
plain (Named c) = None

abbrev pub five_plain : (ℕ → Entry) → List (Option Term)
five_plain entries = plain (entries 0) ∷ plain (entries 1) ∷ plain (entries 2) ∷ plain (entries 3) ∷
    plain (entries 4) ∷ []

-- of a record its term, of a box that is neither the anchor nor fresh the terms of its payload
abbrev pub told_of : Bool → Bool → Option Term → Option ℕ → List (Option Term) → Known
told_of is_anchor is_box (Some t) fresh payload = knows.Record t
told_of true is_box None fresh payload = knows.Nothing
told_of false is_box None (Some i) payload = knows.Nothing
told_of false true None None payload = knows.Boxed payload
told_of false false None None payload = knows.Nothing

abbrev pub learned_of : State → Lore → ℕ → Known
learned_of s l x =
    told_of (x == 0) (is_box_kind (field_of s x 5)) (l.terms x) (l.fresh x)
    (five_plain (λ f. entry_of l.terms (field_of s x f)))

abbrev pub learned_from : State → Lore → Field → Known
learned_from s l field.Null = knows.Nothing
learned_from s l (field.Num n) = knows.Nothing
learned_from s l (field.Cell c) = learned_of s l c

abbrev pub nothing_learned : Learned
nothing_learned = record { here = knows.Nothing; found = knows.Nothing }

abbrev pub learned : State → Lore → Event → Learned
learned s l (event.Read i place f) = record {
  here = learned_of s l (target_of s i place);
  found = learned_from s l (field_of s (target_of s i place) f);
}
learned s l (event.Fetch i place f) = record {
  here = learned_of s l (target_of s i place);
  found = learned_from s l (field_of s (target_of s i place) f);
}
learned s l _ = nothing_learned

-- What a mutator knows after an event of its own: from its own part, what it knew, what the event
-- found and what was told there.

-- a change of what is known of a cell, at all places that hold it
abbrev pub at_cell : (Known → Known) → ℕ → List ℕ → List Known → List Known
at_cell change c [] known = known
at_cell change c (cell ∷ cells) [] = []
at_cell change c (cell ∷ cells) (k ∷ known) =
    (if cell == c then change k else k) ∷ at_cell change c cells known

-- what was told of a cell, where more was not known
abbrev pub told : Known → Known → Known
told knows.Nothing old = old
told (knows.Raw fields) old = old
told (knows.Fresh fields) old = old
told (knows.Record t) knows.Nothing = knows.Record t
told (knows.Record t) old = old
told (knows.Boxed terms) knows.Nothing = knows.Boxed terms
told (knows.Boxed terms) (knows.Boxed others) = knows.Boxed terms
told (knows.Boxed terms) old = old

-- a cell that was found is held at a further place
abbrev pub known_found : List Known → Known → Field → List Known
known_found known k field.Null = known
known_found known k (field.Num n) = known
known_found known k (field.Cell c) = known ++ k ∷ []

abbrev pub known_read : List ℕ → List Known → ℕ → Learned → Found → List Known
known_read cells known place tells (finds.Field found) =
    known_found (at_cell (told tells.here) (slice_index_or cells place 0) cells known) tells.found
    found
known_read cells known place tells _ = known

abbrev pub five_nulls : List Field
five_nulls = field.Null ∷ field.Null ∷ field.Null ∷ field.Null ∷ field.Null ∷ []

abbrev pub known_claimed : List Known → Found → List Known
known_claimed known (finds.Colour colour.Blue) = known ++ knows.Raw five_nulls ∷ []
known_claimed known _ = known

-- a field of the payload becomes this
abbrev pub known_set : ℕ → Field → Known → Known
known_set f value knows.Nothing = knows.Nothing
known_set f value (knows.Raw fields) = knows.Raw (slice_set fields f value)
known_set f value (knows.Fresh fields) = knows.Fresh (slice_set fields f value)
known_set f value (knows.Record t) = knows.Record t
known_set f value (knows.Boxed terms) = knows.Boxed terms

-- the cell is fresh no longer: a fresh box stays a box, whose fields any thread may write now
abbrev pub known_revealed : Known → Known
known_revealed knows.Nothing = knows.Nothing
known_revealed (knows.Raw fields) = knows.Nothing
known_revealed (knows.Fresh fields) = knows.Boxed []
known_revealed (knows.Record t) = knows.Record t
known_revealed (knows.Boxed terms) = knows.Boxed terms

abbrev pub known_named : List ℕ → List Known → Field → List Known
known_named cells known field.Null = known
known_named cells known (field.Num n) = known
known_named cells known (field.Cell c) = at_cell known_revealed c cells known

abbrev pub known_stored : List ℕ → List Known → ℕ → ℕ → Field → List Known
known_stored cells known place f value =
    known_named cells (at_cell (known_set f value) (slice_index_or cells place 0) cells known) value

abbrev pub known_stored_if : Bool → List ℕ → List Known → ℕ → ℕ → Field → List Known
known_stored_if true cells known place f value = known_stored cells known place f value
known_stored_if false cells known place f value = known

-- the term of a cell: that of the first place which holds it and knows its term
abbrev pub term_or : Term → Known → Term
term_or other knows.Nothing = other
term_or other (knows.Raw fields) = other
term_or other (knows.Fresh fields) = other
term_or other (knows.Record t) = t
term_or other (knows.Boxed terms) = other

abbrev pub cell_term : List ℕ → List Known → ℕ → Term
cell_term [] known c = null
cell_term (cell ∷ cells) [] c = null
cell_term (cell ∷ cells) (k ∷ known) c =
    (if cell == c then term_or (cell_term cells known c) k else cell_term cells known c)

abbrev pub value_term : List ℕ → List Known → Field → Term
value_term cells known field.Null = null
value_term cells known (field.Num n) = num n
value_term cells known (field.Cell c) = cell_term cells known c

abbrev pub fields_term : List ℕ → List Known → List Field → Term
fields_term cells known fields =
    five (value_term cells known (slice_index_or fields 0 field.Null))
    (value_term cells known (slice_index_or fields 1 field.Null))
    (value_term cells known (slice_index_or fields 2 field.Null))
    (value_term cells known (slice_index_or fields 3 field.Null))
    (value_term cells known (slice_index_or fields 4 field.Null))

abbrev pub known_sealed : List ℕ → List Known → Kind → Known → Known
known_sealed cells known kind.Record (knows.Raw fields) = knows.Record
    (fields_term cells known fields)
known_sealed cells known kind.Boxed (knows.Raw fields) = knows.Fresh fields
known_sealed cells known of k = knows.Nothing

abbrev pub knows_after : Own → List Known → Event → Found → Learned → List Known
knows_after own known (event.Begin i) found tells = knows.Nothing ∷ []
knows_after own known
    (event.Read i place f) found tells = known_read (cells_in own.held) known place tells found
knows_after own known
    (event.Fetch i place f) found tells = known_read (cells_in own.held) known place tells found
knows_after own known (event.Claim i c) found tells = known_claimed known found
knows_after own known
    (event.Fill i place f value) found tells = known_stored (cells_in own.held) known place f value
knows_after own known (event.Seal i place of) found tells =
    at_cell (known_sealed (cells_in own.held) known of) (slice_index_or (cells_in own.held) place 0)
    (cells_in own.held) known
knows_after own known (event.Write i place f old new) found tells =
    known_stored_if (was_made old found) (cells_in own.held) known place f new
knows_after own known (event.Store i new) found tells =
    known_stored (cells_in own.held) known (pending_or_none own.pending).place
    (pending_or_none own.pending).f new
knows_after own known (event.Keep i count from copies) found tells =
    take count known ++ take copies (drop from known)
knows_after own known (event.End i) found tells = []
knows_after own known _ found tells = known

abbrev pub known_by : State → Lore → Event → Option ℕ → List (List Known)
known_by s l e None = l.known
known_by s l e (Some i) =
    slice_set l.known i
    (knows_after (own_of s i) (known_in l.known i) e (found_by s e) (learned s l e))

abbrev pub lore_after : State → Lore → Event → Lore
lore_after s l e = record {
  terms = terms_after s l.terms e;
  fresh = fresh_after s l.fresh e;
  known = known_by s l e (maker e);
}
