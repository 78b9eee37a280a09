-- What a heap opens with: rows of nulls after the first ones, a pass for each mutator, and, where
-- the anchor leads to one box with a number, no other.
use Rattle.std.proofs.Common.{◌≡◌, ◌≢◌, ◌<◌, ◌≤◌, ◌+◌, ◌⊎◌, ℕ, zero, suc, true, All, length}
use Rattle.std.proofs.Common.{get_or, replicate, Some, inl, inr, refl, sym, ◌∙◌, ap, subst, arith}
use Rattle.std.proofs.lemmas.List.Elements.{All-cons, All-nil}
use Rattle.cell_words.specs.declared.fields.Field.TheVariants as field
use Rattle.cell_words.specs.Term.{null, num}
use Rattle.core_machine.specs.State.{State, field_in, field_of, null_row}
use Rattle.core_machine.specs.Words.{is_box_kind}
use Rattle.heap_rule.specs.Boxes.{Map, Payload, boxes_of, payload_of}
use Rattle.heap_rule.specs.Lore.{Entry, Lore, Named, Plain}
use Rattle.heap_rule.specs.Numbered.{AreApart, HasNumber, NamesNumber}
use Rattle.heap_rule.specs.Opening.{passes_from}
use Rattle.heap_rule.proofs.Entries.{same_entry, some_is}
use Rattle.heap_rule.proofs.Maps.{In, in_map, of_map}

-- The rows.

pub everywhere : (n f : ℕ) → get_or (replicate n field.Null) f field.Null ≡ field.Null
everywhere zero f = refl
everywhere (suc n) zero = refl
everywhere (suc n) (suc f) = everywhere n f

pub null_rows : (n k f : ℕ) → field_in (replicate n null_row) k f ≡ field.Null
null_rows zero k f = refl
null_rows (suc n) zero f = everywhere 6 f
null_rows (suc n) (suc k) f = null_rows n k f

-- The passes.

module _ {P : Type 0} (opens : ℕ → ℕ → P) (setting : ℕ) where
  pub all_opening : (F : P → Type 0) → ((number : ℕ) → F (opens number setting)) → (number n : ℕ)
      → All F (passes_from opens setting number n)
  all_opening F each number zero = All-nil F
  all_opening F each number (suc n) = All-cons F (opens number setting)
      (passes_from opens setting (number + 1) n) (each number)
      (all_opening F each (number + 1) n)

  pub as_many_open : (number n : ℕ) → length (passes_from opens setting number n) ≡ n
  as_many_open number zero = refl
  as_many_open number (suc n) = ap suc (as_many_open (number + 1) n)

-- The boxes: the anchor, and one that it names.

-- null after the first field
pub four_null : (entry : ℕ → Entry) → entry 1 ≡ Plain null → entry 2 ≡ Plain null
    → entry 3 ≡ Plain null → entry 4 ≡ Plain null
    → (f : ℕ) → 1 ≤ f → f < 5 → entry f ≡ Plain null
four_null entry one two three four zero some lt = absurd (omega (arith, some))
four_null entry one two three four (suc zero) some lt = one
four_null entry one two three four (suc (suc zero)) some lt = two
four_null entry one two three four (suc (suc (suc zero))) some lt = three
four_null entry one two three four (suc (suc (suc (suc zero)))) some lt = four
four_null entry one two three four (suc (suc (suc (suc (suc f))))) some lt =
    absurd (omega (arith, lt))

module _ (s : State) (l : Lore) (n : ℕ) (anchor : In s l 0) (first : In s l 1)
    (only : (x : ℕ) → is_box_kind (field_of s x 5) ≡ true → (x ≡ 0) ⊎ (x ≡ 1))
    (names : payload_of s l 0 0 ≡ Named 1) (number_is : payload_of s l 1 0 ≡ Plain (num n))
    (others : (f : ℕ) → 1 ≤ f → f < 5 → payload_of s l 0 f ≡ Plain null) where
  abbrev map : Map
  map = boxes_of s l

  in_is : (x : ℕ) (q : Payload) → map x ≡ Some q → (x ≡ 0) ⊎ (x ≡ 1)
  in_is x q at = only x (of_map s l x q at).box

  -- only that box has a number
  number_at : (x u : ℕ) → HasNumber map x u → x ≡ 1
  number_at x u has = elim (in_is x has.box has.there) [
    | inl zero_is ↦ absurd (let e : Named 1 ≡ Plain (num u) = sym names
        ∙ same_entry map 0 0 (payload_of s l 0) has.box (in_map s l 0 anchor)
        (subst (λ (y : ℕ). map y ≡ Some has.box) zero_is has.there) ∙ has.number_is in cc)
    | inr is ↦ is
  ]

  pub first_named : NamesNumber map n
  first_named = record {
    anchor = payload_of s l 0;
    there = in_map s l 0 anchor;
    cell = 1;
    names = names;
    numbered =
        record { box = payload_of s l 1; there = in_map s l 1 first; number_is = number_is };
    others = others;
  }

  pub first_apart : AreApart map
  first_apart one other number a b = number_at one number a ∙ sym (number_at other number b)

  -- what is so of it is so of each box besides the anchor
  pub each_box : (F : Payload → Type 0) → F (payload_of s l 1) → (x : ℕ) (q : Payload) → x ≢ 0
      → map x ≡ Some q → F q
  each_box F is x q other at = elim (in_is x q at) [
    | inl zero_is ↦ absurd (other zero_is)
    | inr here ↦ subst F (some_is (payload_of s l 1) q (sym (in_map s l 1 first)
        ∙ subst (λ (y : ℕ). map y ≡ Some q) here at)) is
  ]
