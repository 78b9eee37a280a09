-- As many places are known of as are held, and who is in holds the anchor at the first of them: so
-- after each event.
use Rattle.std.proofs.Common.{◌≡◌, ◌≤◌, ℕ, zero, suc, Bool, true, false, List, [], ◌∷◌, ◌++◌}
use Rattle.std.proofs.Common.{length, map, take, drop, get_or, refl, sym, ◌∙◌, ap, arith}
use Rattle.std.proofs.lemmas.List.{length-append, length-map}
use Rattle.cell_words.specs.declared.colours.Colour.{Colour}
use Rattle.cell_words.specs.declared.colours.Colour.TheVariants as colour
use Rattle.cell_words.specs.declared.fields.Field.{Field}
use Rattle.cell_words.specs.declared.fields.Field.TheVariants as field
use Rattle.core_machine.specs.declared.events.Found.TheVariants as finds
use Rattle.core_machine.specs.declared.places.Held.{Held}
use Rattle.core_machine.specs.Own.{Own, having_read}
use Rattle.core_machine.specs.Places.{cell_at, found_at, kept}
use Rattle.core_machine.specs.Words.{is_blue}
use Rattle.heap_rule.specs.declared.known.Known.{Known}
use Rattle.heap_rule.specs.declared.known.Learned.{Learned}
use Rattle.heap_rule.specs.Lore.{at_cell, cells_in, known_claimed}
use Rattle.heap_rule.specs.Lore.{known_named, known_read, known_stored, known_stored_if}
use Rattle.heap_rule.proofs.Reading.{cell_there}
use Rattle.mutator_events.specs.Seats.{HasRoots}

-- A change at the places of one cell leaves how many there are.

pub at_many : (change : Known → Known) (c : ℕ) (cells : List ℕ) (known : List Known)
    → length known ≡ length cells → length (at_cell change c cells known) ≡ length cells
at_many change c [] known same = same
at_many change c (d ∷ cells) [] same = absurd (omega (arith, same))
at_many change c (d ∷ cells) (k ∷ known) same = ap suc (at_many change c cells known
    (let e : length known ≡ length cells = omega (arith, same) in e))

named_many : (cells : List ℕ) (known : List Known) (value : Field) → length known ≡ length cells
    → length (known_named cells known value) ≡ length cells
named_many cells known field.Null same = same
named_many cells known (field.Num n) same = same
named_many cells known (field.Cell c) same = at_many _ c cells known same

stored_many : (cells : List ℕ) (known : List Known) (place f : ℕ) (value : Field)
    → length known ≡ length cells → length (known_stored cells known place f value) ≡ length cells
stored_many cells known place f value same =
    named_many cells _ value (at_many _ _ cells known same)

stored_if_many : (made : Bool) (cells : List ℕ) (known : List Known) (place f : ℕ) (value : Field)
    → length known ≡ length cells
    → length (known_stored_if made cells known place f value) ≡ length cells
stored_if_many true cells known place f value same = stored_many cells known place f value same
stored_if_many false cells known place f value same = same

-- the cells are as many as the places
cells_many : (held : List Held) → length (cells_in held) ≡ length held
cells_many held = length-map held (λ (p : Held). p.cell)

-- parts of two lists that are as long as each other are so too
take_many : {A B : Type 0} (n : ℕ) (xs : List A) (ys : List B) → length xs ≡ length ys
    → length (take n xs) ≡ length (take n ys)
take_many zero xs ys same = refl
take_many (suc n) [] [] same = refl
take_many (suc n) [] (y ∷ ys) same = absurd (omega (arith, same))
take_many (suc n) (x ∷ xs) [] same = absurd (omega (arith, same))
take_many (suc n) (x ∷ xs) (y ∷ ys) same = ap suc (take_many n xs ys
    (let e : length xs ≡ length ys = omega (arith, same) in e))

drop_many : {A B : Type 0} (n : ℕ) (xs : List A) (ys : List B) → length xs ≡ length ys
    → length (drop n xs) ≡ length (drop n ys)
drop_many zero xs ys same = same
drop_many (suc n) [] [] same = refl
drop_many (suc n) [] (y ∷ ys) same = absurd (omega (arith, same))
drop_many (suc n) (x ∷ xs) [] same = absurd (omega (arith, same))
drop_many (suc n) (x ∷ xs) (y ∷ ys) same = drop_many n xs ys
    (let e : length xs ≡ length ys = omega (arith, same) in e)

-- The first place.

first_same : (held others : List Held) → cells_in others ≡ cells_in held
    → cell_at others 0 ≡ cell_at held 0
first_same held others same =
    sym (cell_there others 0) ∙ ap (λ (cells : List ℕ). get_or cells 0 0) same ∙ cell_there held 0

first_kept : (n : ℕ) (held more : List Held) → 1 ≤ n → 1 ≤ length held
    → cell_at (take n held ++ more) 0 ≡ cell_at held 0
first_kept zero held more le some = absurd (omega (arith, le))
first_kept (suc n) [] more le some = absurd (omega (arith, some))
first_kept (suc n) (p ∷ held) more le some = refl

first_more : (held more : List Held) → 1 ≤ length held → cell_at (held ++ more) 0 ≡ cell_at held 0
first_more [] more some = absurd (omega (arith, some))
first_more (p ∷ held) more some = refl

module _ {known : List Known} {held : List Held} {inside : Bool}
    (roots : HasRoots known held inside) where
  by_cells : length known ≡ length (cells_in held)
  by_cells = roots.fit ∙ sym (cells_many held)

  -- marks come and go
  pub moved_roots : (move : Held → Held) → cells_in (map move held) ≡ cells_in held
      → HasRoots known (map move held) inside
  moved_roots move same = record {
    fit = roots.fit ∙ sym (length-map held move);
    some = λ is. omega (arith, roots.some is, length-map held move);
    anchor = λ is. first_same held (map move held) same ∙ roots.anchor is;
  }

  pub sealed_roots : (change : Known → Known) (c : ℕ)
      → HasRoots (at_cell change c (cells_in held) known) held inside
  sealed_roots change c = record {
    fit = at_many change c (cells_in held) known by_cells ∙ cells_many held;
    some = roots.some;
    anchor = roots.anchor;
  }

  pub stored_roots : (place f : ℕ) (value : Field)
      → HasRoots (known_stored (cells_in held) known place f value) held inside
  stored_roots place f value = record {
    fit = stored_many (cells_in held) known place f value by_cells ∙ cells_many held;
    some = roots.some;
    anchor = roots.anchor;
  }

  pub written_roots : (move : Held → Held) → cells_in (map move held) ≡ cells_in held
      → (made : Bool) (place f : ℕ) (value : Field)
      → HasRoots (known_stored_if made (cells_in held) known place f value) (map move held) inside
  written_roots move same made place f value = record {
    fit = stored_if_many made (cells_in held) known place f value by_cells ∙ cells_many held
        ∙ sym (length-map held move);
    some = λ is. omega (arith, roots.some is, length-map held move);
    anchor = λ is. first_same held (map move held) same ∙ roots.anchor is;
  }

  -- one more
  pub more_roots : (k : Known) (c : ℕ) → HasRoots (known ++ k ∷ []) (held ++ found_at c ∷ []) inside
  more_roots k c = record {
    fit = omega (
      arith,
      roots.fit,
      length-append known (k ∷ []),
      length-append held (found_at c ∷ []),
    );
    some = λ is. omega (arith, length-append held (found_at c ∷ []));
    anchor = λ is. first_more held (found_at c ∷ []) (roots.some is) ∙ roots.anchor is;
  }

  pub kept_roots : (n from copies : ℕ) → 1 ≤ n → 1 ≤ length (kept held n from copies)
      → HasRoots (take n known ++ take copies (drop from known)) (kept held n from copies) inside
  kept_roots n from copies front some = record {
    fit = omega (
      arith,
      length-append (take n known) (take copies (drop from known)),
      length-append (take n held) (take copies (drop from held)),
      take_many n known held roots.fit,
      take_many copies (drop from known) (drop from held)
          (drop_many from known held roots.fit),
    );
    some = λ is. some;
    anchor = λ is. first_kept n held (take copies (drop from held)) front (roots.some is)
        ∙ roots.anchor is;
  }

-- a read tells of the cell that it read, and holds the one that it found
pub read_roots : {known : List Known} {inside : Bool} (own : Own) (place : ℕ) (tells : Learned)
    (found : Field) → HasRoots known own.held inside
    → HasRoots (known_read (cells_in own.held) known place tells (finds.Field found))
    (having_read own found).held inside
read_roots own place tells field.Null roots = sealed_roots roots _ _
read_roots own place tells (field.Num n) roots = sealed_roots roots _ _
read_roots own place tells (field.Cell c) roots = more_roots (sealed_roots roots _ _) tells.found c

-- a claim that missed tells nothing
pub missed_roots : {held : List Held} {inside : Bool} (known : List Known) (found : Colour)
    → is_blue found ≡ false → HasRoots known held inside
    → HasRoots (known_claimed known (finds.Colour found)) held inside
missed_roots known colour.Blue other roots = absurd (let no = other in cc)
missed_roots known colour.White other roots = roots
missed_roots known colour.Gray other roots = roots
missed_roots known colour.Black other roots = roots
