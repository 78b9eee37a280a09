-- The cells of a held list after each change of it, and where they lie.
use Rattle.std.proofs.Common.{◌≡◌, ◌<◌, ◌≤◌, ◌+◌, ℕ, true, List, [], ◌∷◌, ◌++◌}
use Rattle.std.proofs.Common.{length, take, drop, refl, sym, ◌∙◌, ap, subst, arith, get_or}
use Rattle.std.proofs.Common.{length-drop}
use Rattle.std.proofs.lemmas.List.{take-map, drop-map, map-append, length-map, length-take}
use Rattle.std.proofs.lemmas.List.{length-append, take-append-le, drop-append-le}
use Rattle.std.proofs.lemmas.List.{take-append-drop}
use Rattle.std.proofs.lemmas.List.Edits.{take-paste}
use Rattle.std.proofs.lemmas.List.Elements.{All-append, All-push, All-take, All-drop, All-get_or}
use Rattle.std.specs.List.{All}
use Rattle.cell_words.specs.declared.fields.Field.{Field}
use Rattle.cell_words.specs.declared.fields.Field.TheVariants as field
use Rattle.core_machine.specs.declared.places.Held.{Held}
use Rattle.core_machine.specs.InRange.{NamesBelow}
use Rattle.core_machine.specs.Places.{cell_at, kept, names_rightly}
use Rattle.heap_rule.specs.Lore.{cells_in}
use Rattle.heap_rule.proofs.Reading.{cell_there}
use Rattle.mutator_events.specs.declared.values.Value.{Value}
use Rattle.mutator_events.specs.declared.values.Value.TheVariants as values
use Rattle.mutator_events.specs.Values.{cells_kept, cells_read, field_among, field_at, is_small}

-- as many as places
pub cells_many : (held : List Held) → length (cells_in held) ≡ length held
cells_many held = length-map held (λ (p : Held). p.cell)

pub cells_kept_are : (held : List Held) (count from copies : ℕ)
    → cells_in (kept held count from copies) ≡ cells_kept (cells_in held) count from copies
cells_kept_are held count from copies =
    map-append (λ (p : Held). p.cell) (take count held) (take copies (drop from held))
    ∙ ap (λ (cs : List ℕ). cs ++ cells_in (take copies (drop from held)))
    (sym (take-map (λ (p : Held). p.cell) count held))
    ∙ ap (λ (cs : List ℕ). take count (cells_in held) ++ cs)
    (sym (take-map (λ (p : Held). p.cell) copies (drop from held))
    ∙ ap (λ (cs : List ℕ). take copies cs) (sym (drop-map (λ (p : Held). p.cell) from held)))

pub kept_below : (P : ℕ → Type 0) (cells : List ℕ) (count from copies : ℕ) → All P cells
    → All P (cells_kept cells count from copies)
kept_below P cells count from copies all =
    All-append P (take count cells) (take copies (drop from cells)) (All-take P count cells all)
    (All-take P copies (drop from cells) (All-drop P from cells all))

pub kept_many : (cells : List ℕ) (count from copies : ℕ) → count ≤ length cells
    → from + copies ≤ length cells → length (cells_kept cells count from copies) ≡ count + copies
kept_many cells count from copies first second =
    omega (
      arith,
      length-append (take count cells) (take copies (drop from cells)),
      length-take count cells,
      length-take copies (drop from cells),
      length-drop from cells,
    )

pub read_below : (cells : ℕ) (held : List ℕ) (found : Field) → NamesBelow cells found
    → All (λ c. c < cells) held → All (λ c. c < cells) (cells_read held found)
read_below cells held field.Null named all = all
read_below cells held (field.Num n) named all = all
read_below cells held (field.Cell c) named all = All-push (λ c. c < cells) held c all named

pub read_many : (held : List ℕ) (found : Field) (room : ℕ) → length held < room
    → length (cells_read held found) ≤ room
read_many held field.Null room lt = omega (arith, lt)
read_many held (field.Num n) room lt = omega (arith, lt)
read_many held (field.Cell c) room lt = omega (arith, lt, length-append held (c ∷ []))

-- the cell at a place is one of the heap
pub cell_below : (cells : ℕ) (held : List Held) (among : List ℕ) (place : ℕ)
    → cells_in held ≡ among → All (λ c. c < cells) among → place < length held
    → cell_at held place < cells
cell_below cells held among place is all lt =
    subst (λ (c : ℕ). c < cells) (cell_there held place)
    (All-get_or (λ c. c < cells) (cells_in held) place 0
    (subst (λ (n : ℕ). place < n) (sym (cells_many held)) lt)
    (subst (λ (cs : List ℕ). All (λ c. c < cells) cs) (sym is) all))

-- and it is the one among the cells
pub cell_among : (held : List Held) (among : List ℕ) (place : ℕ) → cells_in held ≡ among
    → get_or among place 0 ≡ cell_at held place
cell_among held among place is =
    ap (λ (cs : List ℕ). get_or cs place 0) (sym is) ∙ cell_there held place

pub field_among_at : (held : List Held) (among : List ℕ) (value : Value) → cells_in held ≡ among
    → field_among among value ≡ field_at held value
field_among_at held among values.Null is = refl
field_among_at held among (values.Num n) is = refl
field_among_at held among (values.Held place) is =
    ap (λ (c : ℕ). field.Cell c) (cell_among held among place is)

pub rightly_small : (held : List Held) (value : Value)
    → names_rightly held (field_at held value) ≡ true → is_small value ≡ true
rightly_small held values.Null is = refl
rightly_small held (values.Num n) is = is
rightly_small held (values.Held place) is = refl

-- Keeping: the list is made longer, some cells are copied within it, and the rest is cut off.

-- what stands further on does not count for places of the front
pub kept_of_front : (front all : List ℕ) (count from copies : ℕ) → count ≤ length front
    → from + copies ≤ length front → take (length front) all ≡ front
    → cells_kept all count from copies ≡ cells_kept front count from copies
kept_of_front front all count from copies first second is =
    let rest = drop (length front) all in
    let split : front ++ rest ≡ all = ap (λ (xs : List ℕ). xs ++ rest) (sym is)
    ∙ take-append-drop (length front) all in
    let start : from ≤ length front = omega arith in
    let left : copies ≤ length (drop from front) = omega (arith, length-drop from front) in
    let copied : take copies (drop from (front ++ rest)) ≡ take copies (drop from front) =
    ap (λ (xs : List ℕ). take copies xs) (drop-append-le from front rest start)
    ∙ take-append-le copies (drop from front) rest left in
    let whole : cells_kept (front ++ rest) count from copies ≡ cells_kept front count from copies =
    ap (λ (xs : List ℕ). xs ++ take copies (drop from (front ++ rest)))
    (take-append-le count front rest first)
    ∙ ap (λ (xs : List ℕ). take count front ++ xs) copied in
    ap (λ (xs : List ℕ). cells_kept xs count from copies) (sym split) ∙ whole

-- the cells that a copy within the list leaves up to the end of the copy
pub copied_is : (all : List ℕ) (count from copies n : ℕ) → count ≤ length all
    → n ≤ length (drop from all) → n ≡ copies
    → take (count + copies) (take count all ++ take n (drop from all) ++ drop (count + n) all)
    ≡ cells_kept all count from copies
copied_is all count from copies n first left is =
    ap (λ (m : ℕ). take (count + m)
    (take count all ++ take n (drop from all) ++ drop (count + n) all)) (sym is)
    ∙ take-paste all count (drop from all) n first left
    ∙ ap (λ (m : ℕ). cells_kept all count from m) is

-- as many as the cells that the seat has
pub held_many : (held : List Held) (among : List ℕ) → cells_in held ≡ among
    → length among ≡ length held
held_many held among is = ap (λ (cells : List ℕ). length cells) (sym is) ∙ cells_many held
