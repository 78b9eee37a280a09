-- What a load of a field leaves of what a write of it needs: the places stand, what was found is
-- held after them, and what was known to be sealed or a box is known to be so.
use Rattle.std.proofs.Common.{◌≡◌, ◌<◌, ◌==◌, ◌&&◌, ◌^◌, ℕ, zero, suc, Bool}
use Rattle.std.proofs.Common.{true, false, List, [], ◌∷◌, ◌++◌, length, get_or, refl, sym}
use Rattle.std.proofs.Common.{ap, subst, arith, inl, inr, if◌then◌else◌}
use Rattle.std.proofs.lemmas.Bool.{and_from, and_parts, lt-ltb, or_cases}
use Rattle.std.proofs.lemmas.List.{length-append}
use Rattle.cell_words.specs.Field.{IsValidField}
use Rattle.cell_words.specs.declared.fields.Field.{Field}
use Rattle.cell_words.specs.declared.fields.Field.TheVariants as field
use Rattle.core_machine.specs.declared.events.Found.TheVariants as finds
use Rattle.core_machine.specs.declared.places.Held.{Held}
use Rattle.core_machine.specs.Own.{Own, having_read}
use Rattle.core_machine.specs.Places.{cell_at, found_at}
use Rattle.dlg_core.proofs.Truths.{or_here, or_later}
use Rattle.heap_rule.specs.declared.known.Known.{Known}
use Rattle.heap_rule.specs.declared.known.Known.TheVariants as knows
use Rattle.heap_rule.specs.declared.known.Learned.{Learned}
use Rattle.heap_rule.specs.Asks.{IsBox, IsSealedValue, is_sealed, knows_sealed}
use Rattle.heap_rule.specs.Lore.{at_cell, cells_in, known_at, known_read, told as told_more}
use Rattle.heap_rule.proofs.Reading.{cells_more}
use Rattle.mutator_events.specs.declared.values.Value.{Value}
use Rattle.mutator_events.specs.declared.values.Value.TheVariants as values
use Rattle.mutator_events.specs.Values.{field_at, value_found}
use Rattle.mutator_events.proofs.Begun.{read_long}
use Rattle.mutator_seat.specs.Writes.{IsNamed}

-- Places.

cell_push : (held : List Held) (c place : ℕ) → place < length held
    → cell_at (held ++ found_at c ∷ []) place ≡ cell_at held place
cell_push [] c place lt = absurd (omega (arith, lt))
cell_push (p ∷ ps) c zero lt = refl
cell_push (p ∷ ps) c (suc place) lt = cell_push ps c place (omega (arith, lt))

cell_last : (held : List Held) (c : ℕ) → cell_at (held ++ found_at c ∷ []) (length held) ≡ c
cell_last [] c = refl
cell_last (p ∷ ps) c = cell_last ps c

pub cell_more : (own : Own) (seen : Field) (place : ℕ) → place < length own.held
    → cell_at (having_read own seen).held place ≡ cell_at own.held place
cell_more own field.Null place lt = refl
cell_more own (field.Num n) place lt = refl
cell_more own (field.Cell c) place lt = cell_push own.held c place lt

-- what a value stood for it stands for
pub field_more : (own : Own) (seen : Field) (v : Value) → IsNamed own.held v
    → field_at (having_read own seen).held v ≡ field_at own.held v
field_more own seen values.Null named = refl
field_more own seen (values.Num n) named = refl
field_more own seen (values.Held place) named =
    ap (λ (c : ℕ). field.Cell c) (cell_more own seen place named)

pub named_more : (own : Own) (seen : Field) (v : Value) → IsNamed own.held v
    → IsNamed (having_read own seen).held v
named_more own seen values.Null named = named
named_more own seen (values.Num n) named = named
named_more own seen (values.Held place) named =
    let long = read_long own seen in omega (arith, named, long)

-- and the value that is given stands for what was found
pub named_seen : (own : Own) (seen : Field) → IsValidField seen
    → IsNamed (having_read own seen).held (value_found (length own.held) seen)
named_seen own field.Null valid = tt
named_seen own (field.Num n) valid = lt-ltb n (2 ^ 62) valid
named_seen own (field.Cell c) valid = omega (arith, length-append own.held (found_at c ∷ []))

pub field_seen : (own : Own) (seen : Field)
    → field_at (having_read own seen).held (value_found (length own.held) seen) ≡ seen
field_seen own field.Null = refl
field_seen own (field.Num n) = refl
field_seen own (field.Cell c) = ap (λ (d : ℕ). field.Cell d) (cell_last own.held c)

-- a load leaves the mode
pub mode_more : (own : Own) (seen : Field) → (having_read own seen).mode ≡ own.mode
mode_more own field.Null = refl
mode_more own (field.Num n) = refl
mode_more own (field.Cell c) = refl

-- What is known: that a cell is sealed.

sealed_told : (k old : Known) → is_sealed old ≡ true → is_sealed (told_more k old) ≡ true
sealed_told knows.Nothing old is = is
sealed_told (knows.Raw fields) old is = is
sealed_told (knows.Fresh fields) old is = is
sealed_told (knows.Record t) knows.Nothing is = refl
sealed_told (knows.Record t) (knows.Raw fields) is = is
sealed_told (knows.Record t) (knows.Fresh fields) is = is
sealed_told (knows.Record t) (knows.Record u) is = is
sealed_told (knows.Record t) (knows.Boxed terms) is = is
sealed_told (knows.Boxed terms) knows.Nothing is = refl
sealed_told (knows.Boxed terms) (knows.Raw fields) is = is
sealed_told (knows.Boxed terms) (knows.Fresh fields) is = is
sealed_told (knows.Boxed terms) (knows.Record u) is = is
sealed_told (knows.Boxed terms) (knows.Boxed others) is = refl

sealed_if : (b : Bool) (k old : Known) → is_sealed old ≡ true
    → is_sealed (if b then told_more k old else old) ≡ true
sealed_if true k old is = sealed_told k old is
sealed_if false k old is = is

sealed_changed : (k : Known) (c d : ℕ) (cells : List ℕ) (known : List Known)
    → knows_sealed cells known d ≡ true
    → knows_sealed cells (at_cell (told_more k) c cells known) d ≡ true
sealed_changed k c d [] known is = is
sealed_changed k c d (cell ∷ cells) [] is = is
sealed_changed k c d (cell ∷ cells) (j ∷ known) is =
    elim (or_cases ((cell == d) && is_sealed j) (knows_sealed cells known d) is) [
      | inl here ↦
          let both = and_parts (cell == d) (is_sealed j) here in
          or_here _ (knows_sealed cells (at_cell (told_more k) c cells known) d)
          (and_from (cell == d) _ both.0 (sealed_if (cell == c) k j both.1))
      | inr later ↦ or_later _ (knows_sealed cells (at_cell (told_more k) c cells known) d)
          (sealed_changed k c d cells known later)
    ]

sealed_push : (k : Known) (c d : ℕ) (cells : List ℕ) (known : List Known)
    → knows_sealed cells known d ≡ true
    → knows_sealed (cells ++ c ∷ []) (known ++ k ∷ []) d ≡ true
sealed_push k c d [] known is = absurd (let no = is in cc)
sealed_push k c d (cell ∷ cells) [] is = absurd (let no = is in cc)
sealed_push k c d (cell ∷ cells) (j ∷ known) is =
    elim (or_cases ((cell == d) && is_sealed j) (knows_sealed cells known d) is) [
      | inl here ↦ or_here _ (knows_sealed (cells ++ c ∷ []) (known ++ k ∷ []) d) here
      | inr later ↦ or_later _ (knows_sealed (cells ++ c ∷ []) (known ++ k ∷ []) d)
          (sealed_push k c d cells known later)
    ]

sealed_read : (own : Own) (known : List Known) (place : ℕ) (k : Learned) (seen : Field) (d : ℕ)
    → knows_sealed (cells_in own.held) known d ≡ true
    → knows_sealed (cells_in (having_read own seen).held)
    (known_read (cells_in own.held) known place k (finds.Field seen)) d ≡ true
sealed_read own known place k field.Null d is =
    sealed_changed k.here (get_or (cells_in own.held) place 0) d (cells_in own.held) known is
sealed_read own known place k (field.Num n) d is =
    sealed_changed k.here (get_or (cells_in own.held) place 0) d (cells_in own.held) known is
sealed_read own known place k (field.Cell c) d is =
    let at = get_or (cells_in own.held) place 0 in
    let told = at_cell (told_more k.here) at (cells_in own.held) known in
    subst (λ (cells : List ℕ). knows_sealed cells (told ++ k.found ∷ []) d ≡ true)
    (sym (cells_more own.held c))
    (sealed_push k.found c d (cells_in own.held) told
    (sealed_changed k.here at d (cells_in own.held) known is))

pub value_sealed : (own : Own) (known : List Known) (place : ℕ) (k : Learned) (seen x : Field)
    → IsSealedValue (cells_in own.held) known x
    → IsSealedValue (cells_in (having_read own seen).held)
    (known_read (cells_in own.held) known place k (finds.Field seen)) x
value_sealed own known place k seen field.Null is = tt
value_sealed own known place k seen (field.Num n) is = tt
value_sealed own known place k seen (field.Cell c) is =
    elim (or_cases (c == 0) (knows_sealed (cells_in own.held) known c) is) [
      | inl root ↦ or_here (c == 0) _ root
      | inr sealed ↦ or_later (c == 0) _ (sealed_read own known place k seen c sealed)
    ]

-- That it is a box.

pub box_any : (b : ℕ) (k : Known) → b ≡ 0 → IsBox b k
box_any b knows.Nothing is = is
box_any b (knows.Raw fields) is = is
box_any b (knows.Fresh fields) is = tt
box_any b (knows.Record t) is = is
box_any b (knows.Boxed terms) is = tt

box_told : (b : ℕ) (k old : Known) → IsBox b old → IsBox b (told_more k old)
box_told b knows.Nothing old is = is
box_told b (knows.Raw fields) old is = is
box_told b (knows.Fresh fields) old is = is
box_told b (knows.Record t) knows.Nothing is = is
box_told b (knows.Record t) (knows.Raw fields) is = is
box_told b (knows.Record t) (knows.Fresh fields) is = is
box_told b (knows.Record t) (knows.Record u) is = is
box_told b (knows.Record t) (knows.Boxed terms) is = is
box_told b (knows.Boxed terms) knows.Nothing is = tt
box_told b (knows.Boxed terms) (knows.Raw fields) is = is
box_told b (knows.Boxed terms) (knows.Fresh fields) is = is
box_told b (knows.Boxed terms) (knows.Record u) is = is
box_told b (knows.Boxed terms) (knows.Boxed others) is = tt

box_if : (x : Bool) (b : ℕ) (k old : Known) → IsBox b old
    → IsBox b (if x then told_more k old else old)
box_if true b k old is = box_told b k old is
box_if false b k old is = is

box_changed : (k : Known) (c b : ℕ) (cells : List ℕ) (known : List Known) (place : ℕ)
    → IsBox b (known_at known place)
    → IsBox b (known_at (at_cell (told_more k) c cells known) place)
box_changed k c b [] known place is = is
box_changed k c b (d ∷ cells) [] place is = is
box_changed k c b (d ∷ cells) (j ∷ known) zero is = box_if (d == c) b k j is
box_changed k c b (d ∷ cells) (j ∷ known) (suc place) is = box_changed k c b cells known place is

box_push : (k : Known) (b : ℕ) (known : List Known) (place : ℕ) → IsBox b (known_at known place)
    → IsBox b (known_at (known ++ k ∷ []) place)
box_push k b [] zero is = box_any b k is
box_push k b [] (suc place) is = is
box_push k b (j ∷ known) zero is = is
box_push k b (j ∷ known) (suc place) is = box_push k b known place is

pub box_read : (cells : List ℕ) (known : List Known) (place : ℕ) (k : Learned) (seen : Field)
    (b : ℕ) → IsBox b (known_at known place)
    → IsBox b (known_at (known_read cells known place k (finds.Field seen)) place)
box_read cells known place k field.Null b is =
    box_changed k.here (get_or cells place 0) b cells known place is
box_read cells known place k (field.Num n) b is =
    box_changed k.here (get_or cells place 0) b cells known place is
box_read cells known place k (field.Cell c) b is =
    let at = get_or cells place 0 in
    box_push k.found b (at_cell (told_more k.here) at cells known) place
    (box_changed k.here at b cells known place is)
