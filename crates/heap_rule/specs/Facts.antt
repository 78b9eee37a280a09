-- The facts on lore that stand in every state of a heap, and what a client owes so that they stay.
--
-- They are of reachable cells alone: a cell that only garbage leads to is freed and claimed again.
-- Of a cell they take the function from a field's number to the field, its term and for whom it is
-- fresh, and no state: what an event leaves of a cell is then a handful of equations.
-- Source: this project's.
use Rattle.std.specs.Prelude.{ℕ, ◌≡◌, ◌<◌, ◌==◌, ◌&&◌, ◌||◌, Bool, true, false, List, [], ◌∷◌}
use Rattle.std.specs.Prelude.{length}
use Rattle.std.specs.Prelude.{Option, Some, None}
use Rattle.cell_words.specs.declared.fields.Field.{Field}
use Rattle.cell_words.specs.declared.fields.Field.TheVariants as field
use Rattle.cell_words.specs.declared.fields.Kind.{Kind}
use Rattle.cell_words.specs.declared.fields.Kind.TheVariants as kind
use Rattle.cell_words.specs.Term.{Term}
use Rattle.core_machine.specs.declared.events.Event.{Event}
use Rattle.core_machine.specs.declared.events.Event.TheVariants as event
use Rattle.core_machine.specs.State.{State, begun_of, field_of, target_of}
use Rattle.core_machine.specs.Words.{is_raw_kind}
use Rattle.dlg_core.specs.Reachable.{Reachable}
use Rattle.heap_rule.specs.declared.known.Known.{Known}
use Rattle.heap_rule.specs.declared.known.Known.TheVariants as knows
use Rattle.heap_rule.specs.Knowledge.{KnownAt}
use Rattle.heap_rule.specs.Lore.{Entry, Plain, Named, Lore, Terms, Fresh, entry_of, five_of}
use Rattle.heap_rule.specs.Lore.{known_in, cells_of, has}

-- field 5 of a record is the number 1
abbrev pub is_record_kind : Field → Bool
is_record_kind field.Null = false
is_record_kind (field.Num n) = n == 1
is_record_kind (field.Cell c) = false

abbrev pub IsPlain : Entry → Type 0
IsPlain (Plain t) = Unit {0}
IsPlain (Named c) = ⊥

-- a record has the term of its five fields, each of which has one; no other cell has a term
abbrev pub TermFits : Bool → Terms → (ℕ → Field) → Option Term → Type 0
TermFits true terms row term =
    (term ≡ Some (five_of terms row)) × ((f : ℕ) → f < 5 → IsPlain (entry_of terms (row f)))
TermFits false terms row term = term ≡ None

abbrev pub Termed : (ℕ → ℕ → Field) → (ℕ → Type 0) → Terms → Type 0
Termed rows reached terms =
    (x : ℕ) → reached x → TermFits (is_record_kind (rows x 5)) terms (rows x) (terms x)

-- a cell is fresh for a mutator that holds it, and no other does, and no reachable cell names it; a
-- raw cell is fresh for somebody
pub record FreshFits (rows : ℕ → ℕ → Field) (reached : ℕ → Type 0) (cells : ℕ
    → List ℕ) (fresh : Fresh) : Type 0 where
  pub anchor : fresh 0 ≡ None
  pub held : (x i : ℕ) → fresh x ≡ Some i → has (cells i) x ≡ true
  pub alone : (x i j : ℕ) → fresh x ≡ Some i → has (cells j) x ≡ true → j ≡ i
  pub unnamed : (x i a f : ℕ) → fresh x ≡ Some i → reached a → rows a f ≡ field.Cell x → ⊥
  pub raw : (x : ℕ) → reached x → is_raw_kind (rows x 5) ≡ true → (i : ℕ) × (fresh x ≡ Some i)

-- what is known of the cell is its term
abbrev pub is_term : Known → Bool
is_term knows.Nothing = false
is_term (knows.Raw fields) = false
is_term (knows.Fresh fields) = false
is_term (knows.Record t) = true
is_term (knows.Boxed terms) = false

-- something is so of each cell and of what is known of it, and as many cells stand there as that
abbrev pub AllKnown : (ℕ → Known → Type 0) → List ℕ → List Known → Type 0
AllKnown K [] [] = Unit {0}
AllKnown K [] (k ∷ known) = ⊥
AllKnown K (cell ∷ cells) [] = ⊥
AllKnown K (cell ∷ cells) (k ∷ known) = K cell k × AllKnown K cells known

-- mutator i knows this of the cell
abbrev pub IsKnown : (ℕ → Bool) → State → Lore → ℕ → ℕ → Known → Type 0
IsKnown fixed s l i x k = KnownAt fixed l.terms (field_of s x) (l.terms x) (l.fresh x) i x k

pub record Facts (fixed : ℕ → Bool) (s : State) (l : Lore) : Type 0 where
  pub termed : Termed (field_of s) (Reachable s) l.terms
  pub freshed : FreshFits (field_of s) (Reachable s) (cells_of s) l.fresh
  -- as many lists as mutators, in each as much as places, and what a mutator knows is so
  pub known_fit : length l.known ≡ s.mutators
  pub known_all : (i : ℕ) → AllKnown (IsKnown fixed s l i) (cells_of s i) (known_in l.known i)

-- What is owed besides the event table: no write of a fixed field, but in the anchor; and who seals
-- a record knows the term of each of its fields.

-- some place has the cell, with a term known of it
abbrev pub knows_term : List ℕ → List Known → ℕ → Bool
knows_term [] known c = false
knows_term (cell ∷ cells) [] c = false
knows_term (cell ∷ cells) (k ∷ known) c = ((cell == c) && is_term k) || knows_term cells known c

abbrev pub IsTermKnown : List ℕ → List Known → Field → Type 0
IsTermKnown cells known field.Null = Unit {0}
IsTermKnown cells known (field.Num n) = Unit {0}
IsTermKnown cells known (field.Cell c) = knows_term cells known c ≡ true

abbrev pub SealsTerms : Kind → List ℕ → List Known → (ℕ → Field) → Type 0
SealsTerms kind.Record cells known row = (f : ℕ) → f < 5 → IsTermKnown cells known (row f)
SealsTerms kind.Boxed cells known row = Unit {0}

abbrev pub Proper : (ℕ → Bool) → State → Lore → Event → Type 0
Proper fixed s l (event.Write i place f old new) = fixed f ≡ true → target_of s i place ≡ 0
Proper fixed s l (event.Store i new) =
    fixed (begun_of s i).f ≡ true → target_of s i (begun_of s i).place ≡ 0
Proper fixed s l (event.Seal i place of) =
    SealsTerms of (cells_of s i) (known_in l.known i) (field_of s (target_of s i place))
Proper fixed s l _ = Unit {0}
