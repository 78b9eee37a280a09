-- What a field is that denotes a term, and so in which parts of a layout it fits.
use Rattle.std.proofs.Common.{◌≡◌, ℕ, true, false, List, refl, ap, subst}
use Rattle.cell_words.specs.declared.fields.Field.{Field}
use Rattle.cell_words.specs.declared.fields.Field.TheVariants as field
use Rattle.cell_words.specs.Term.{Term, null, num, five}
use Rattle.closed_store.specs.Chain.{Denotes}
use Rattle.core_machine.specs.State.{State}
use Rattle.doc_records.specs.Texts.{IsName, SpellsText}
use Rattle.doc_records.specs.Trees.{AreEntries, IsNode}
use Rattle.heap_census.specs.declared.layouts.Role.TheVariants as role
use Rattle.heap_census.specs.Layouts.{fits, part_of}

-- null and numbers stand for themselves, and a record's term is a cell
abbrev Suits : Term → Field → Type 0
Suits null value = value ≡ field.Null
Suits (num n) value = value ≡ field.Num n
Suits (five a b c d e) value = (x : ℕ) × (value ≡ field.Cell x)

module _ (s : State) where
  suits : (value : Field) (t : Term) → Denotes s value t → Suits t value
  suits field.Null null is = refl
  suits field.Null (num n) is = absurd is
  suits field.Null (five a b c d e) is = absurd is
  suits (field.Num m) null is = absurd is
  suits (field.Num m) (num n) is = ap field.Num is
  suits (field.Num m) (five a b c d e) is = absurd is
  suits (field.Cell x) null is = absurd is
  suits (field.Cell x) (num n) is = absurd is
  suits (field.Cell x) (five a b c d e) is = (x, refl)

  pub null_fits : (value : Field) (t : Term) → Denotes s value t → t ≡ null
      → fits (part_of role.Node 4) value ≡ true
  null_fits value t is none =
      ap (λ (v : Field). fits (part_of role.Node 4) v)
      (subst (λ (u : Term). Suits u value) none (suits value t is))

  pub number_fits : (value : Field) (t : Term) (n : ℕ) → Denotes s value t → t ≡ num n
      → fits (part_of role.Node 2) value ≡ true
  number_fits value t n is number =
      ap (λ (v : Field). fits (part_of role.Node 2) v)
      (subst (λ (u : Term). Suits u value) number (suits value t is))

  pub node_fits : (value : Field) (t : Term) → Denotes s value t → IsNode t
      → fits (part_of role.Entry 1) value ≡ true
  node_fits value null is node = absurd node
  node_fits value (num n) is node = absurd node
  node_fits value (five a b c d e) is node =
      ap (λ (v : Field). fits (part_of role.Entry 1) v) (suits value (five a b c d e) is).1

  pub entries_fit : (value : Field) (t : Term) → Denotes s value t → AreEntries t
      → fits (part_of role.Entry 2) value ≡ true
  entries_fit value null is entries =
      ap (λ (v : Field). fits (part_of role.Entry 2) v) (suits value null is)
  entries_fit value (num n) is entries = absurd entries
  entries_fit value (five a b c d e) is entries =
      ap (λ (v : Field). fits (part_of role.Entry 2) v) (suits value (five a b c d e) is).1

  pub text_fits : (bytes : List ℕ) (value : Field) (t : Term) → Denotes s value t
      → SpellsText t bytes → fits (part_of role.Text 4) value ≡ true
  text_fits bytes value null is text =
      ap (λ (v : Field). fits (part_of role.Text 4) v) (suits value null is)
  text_fits bytes value (num n) is text = absurd text
  text_fits bytes value (five a b c d e) is text =
      ap (λ (v : Field). fits (part_of role.Text 4) v) (suits value (five a b c d e) is).1

  -- a name has a byte
  pub name_fits : (value : Field) (t : Term) → Denotes s value t → IsName t
      → fits (part_of role.Entry 0) value ≡ true
  name_fits value null is name = absurd (let none : false ≡ true = name.name in cc)
  name_fits value (num n) is name = absurd name.spells
  name_fits value (five a b c d e) is name =
      ap (λ (v : Field). fits (part_of role.Entry 0) v) (suits value (five a b c d e) is).1
