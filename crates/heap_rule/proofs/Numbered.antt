-- Boxes with numbers: on a smaller map, where a field after the number is written, where a box is
-- added, and where the anchor goes to another one; and what the anchor's word is.
use Rattle.std.proofs.Common.{◌≡◌, ◌≢◌, ◌<◌, ◌≤◌, ◌⊎◌, ℕ, Bool, true, Some, None}
use Rattle.std.proofs.Common.{inl, inr, refl, sym, ◌∙◌, ap, subst, arith}
use Rattle.std.proofs.lemmas.Bool.{cases_eq}
use Rattle.cell_words.specs.declared.fields.Field.TheVariants as field
use Rattle.cell_words.specs.Term.{num}
use Rattle.core_machine.specs.State.{State, field_of}
use Rattle.core_machine.specs.Words.{is_box_kind}
use Rattle.dlg_core.specs.Reachable.{Reachable}
use Rattle.heap_rule.specs.Boxes.{Map, Payload, Smaller, boxes_of, payload_of, written_map}
use Rattle.heap_rule.specs.Facts.{Facts}
use Rattle.heap_rule.specs.Lore.{Entry, Lore, Named, Plain, entry_of, named_or, put}
use Rattle.heap_rule.specs.Numbered.{AreApart, HasNumber, NamesNumber}
use Rattle.heap_rule.proofs.BoxWords.{entry_there, named_there}
use Rattle.heap_rule.proofs.Claiming.{put_here, put_other}
use Rattle.heap_rule.proofs.Entries.{named_inj, num_inj, same_entry, written_else, written_here}
use Rattle.heap_rule.proofs.EntryWords.{no_term}

-- one box has one number
pub one_number : (map : Map) (x a b : ℕ) → HasNumber map x a → HasNumber map x b → a ≡ b
one_number map x a b p q = num_inj a b
    (sym p.number_is ∙ same_entry map x 0 p.box q.box p.there q.there ∙ q.number_is)

-- the anchor has none
pub not_anchor : (map : Map) (n x u : ℕ) → NamesNumber map n → HasNumber map x u → x ≢ 0
not_anchor map n x u latest has is =
    let there : map 0 ≡ Some has.box = subst (λ (y : ℕ). map y ≡ Some has.box) is has.there in
    let other : Named latest.cell ≡ Plain (num u) =
    sym latest.names ∙ same_entry map 0 0 latest.anchor has.box latest.there there
    ∙ has.number_is in
    cc

-- a box that the anchor names has the number that it names
pub named_number : (map : Map) (n c u : ℕ) (latest : NamesNumber map n)
    → latest.anchor 0 ≡ Named c → HasNumber map c u → n ≡ u
named_number map n c u latest named has =
    let same : latest.cell ≡ c = named_inj latest.cell c (sym latest.names ∙ named) in
    one_number map c n u (subst (λ (x : ℕ). HasNumber map x n) same latest.numbered) has

-- Where each box with a number is this one, or was there and had another number, no two have one.
pub apart_with : (map new : Map) (z n : ℕ)
    → ((y u : ℕ) → HasNumber new y u → ((y ≡ z) × (u ≡ n)) ⊎ HasNumber map y u)
    → ((y u : ℕ) → HasNumber map y u → u ≢ n) → AreApart map → AreApart new
apart_with map new z n before else apart one other number a b = elim (before one number a) [
  | inl here ↦ elim (before other number b) [
    | inl there ↦ here.0 ∙ sym there.0
    | inr older ↦ absurd (else other number older here.1)
  ]
  | inr older ↦ elim (before other number b) [
    | inl there ↦ absurd (else one number older there.1)
    | inr too ↦ apart one other number older too
  ]
]

-- A smaller map.
module _ (old new : Map) (smaller : Smaller old new) where
  pub number_before : (x u : ℕ) → HasNumber new x u → HasNumber old x u
  number_before x u has = record {
    box = has.box;
    there = smaller.within x has.box has.there;
    number_is = has.number_is;
  }

  -- what a box of the smaller map names is in that map
  pub number_still : (x y f u : ℕ) (p : Payload) → new x ≡ Some p → f < 5 → p f ≡ Named y
      → HasNumber old y u
      → HasNumber new y u
  number_still x y f u p at lt names has = record {
    box = has.box;
    there = smaller.closed x y f p has.box at lt names has.there;
    number_is = has.number_is;
  }

  pub names_still : (n : ℕ) → NamesNumber old n → NamesNumber new n
  names_still n latest =
      let there : new 0 ≡ Some latest.anchor = smaller.anchor ∙ latest.there in
      record {
        anchor = latest.anchor;
        there = there;
        cell = latest.cell;
        names = latest.names;
        numbered = number_still 0 latest.cell 0 n latest.anchor there (omega arith) latest.names
            latest.numbered;
        others = latest.others;
      }

  pub apart_still : AreApart old → AreApart new
  apart_still apart one other number a b =
      apart one other number (number_before one number a) (number_before other number b)

-- A field after the number is written, in one box.
module _ (map : Map) (x f : ℕ) (entry : Entry) (box : Payload) (there : map x ≡ Some box)
    (behind : 1 ≤ f) where
  abbrev written : Map
  written = written_map map x f entry

  same_number : put box f entry 0 ≡ box 0
  same_number = put_other box f entry 0 (λ e. omega (arith, e, behind))

  pub number_written : (y u : ℕ) → HasNumber map y u → HasNumber written y u
  number_written y u has = elim (cases_eq y x) [
    | inl same ↦ subst (λ (c : ℕ). HasNumber written c u) (sym same) record {
      box = put box f entry;
      there = written_here map x f entry box there;
      number_is =
          let here : map x ≡ Some has.box =
          subst (λ (c : ℕ). map c ≡ Some has.box) same has.there in
          same_number ∙ same_entry map x 0 box has.box there here ∙ has.number_is;
    }
    | inr other ↦ record {
      box = has.box;
      there = written_else map x f entry box there y other ∙ has.there;
      number_is = has.number_is;
    }
  ]

  pub number_unwritten : (y u : ℕ) → HasNumber written y u → HasNumber map y u
  number_unwritten y u has = elim (cases_eq y x) [
    | inl same ↦ subst (λ (c : ℕ). HasNumber map c u) (sym same) record {
      box = box;
      there = there;
      number_is =
          let here : written x ≡ Some has.box =
          subst (λ (c : ℕ). written c ≡ Some has.box) same has.there in
          sym same_number ∙ same_entry written x 0 (put box f entry) has.box
          (written_here map x f entry box there) here ∙ has.number_is;
    }
    | inr other ↦ record {
      box = has.box;
      there = sym (written_else map x f entry box there y other) ∙ has.there;
      number_is = has.number_is;
    }
  ]

  -- the anchor is as it was, if it is another one
  pub names_written : 0 ≢ x → (n : ℕ) → NamesNumber map n → NamesNumber written n
  names_written apart n latest = record {
    anchor = latest.anchor;
    there = written_else map x f entry box there 0 apart ∙ latest.there;
    cell = latest.cell;
    names = latest.names;
    numbered = number_written latest.cell n latest.numbered;
    others = latest.others;
  }

-- A box is added, at a cell where none was.
module _ (map : Map) (z : ℕ) (box : Payload) (absent : map z ≡ None) where
  abbrev added : Map
  added = put map z (Some box)

  pub not_added : (y : ℕ) (q : Payload) → map y ≡ Some q → y ≢ z
  not_added y q at e =
      let none : None ≡ Some q = sym absent ∙ ap map (sym e) ∙ at in cc

  pub number_beside : (y u : ℕ) → HasNumber map y u → HasNumber added y u
  number_beside y u has = record {
    box = has.box;
    there = put_other map z (Some box) y (not_added y has.box has.there) ∙ has.there;
    number_is = has.number_is;
  }

  pub names_beside : (n : ℕ) → NamesNumber map n → NamesNumber added n
  names_beside n latest = record {
    anchor = latest.anchor;
    there = put_other map z (Some box) 0 (not_added 0 latest.anchor latest.there) ∙ latest.there;
    cell = latest.cell;
    names = latest.names;
    numbered = number_beside latest.cell n latest.numbered;
    others = latest.others;
  }

  module _ (n : ℕ) (is : box 0 ≡ Plain (num n)) where
    pub number_added : HasNumber added z n
    number_added = record { box = box; there = put_here map z (Some box); number_is = is }

    -- a box with a number is the new one, or was there before
    pub added_or_before : (y u : ℕ) → HasNumber added y u
        → ((y ≡ z) × (u ≡ n)) ⊎ HasNumber map y u
    added_or_before y u has = elim (cases_eq y z) [
      | inl same ↦ inl (
        same,
        one_number added z u n (subst (λ (x : ℕ). HasNumber added x u) same has) number_added,
      )
      | inr other ↦ inr record {
        box = has.box;
        there = sym (put_other map z (Some box) y other) ∙ has.there;
        number_is = has.number_is;
      }
    ]

-- The anchor goes to another box.
module _ (map : Map) (n : ℕ) (latest : NamesNumber map n) (d : ℕ) where
  abbrev moved : Map
  moved = written_map map 0 0 (Named d)

  anchor_here : moved 0 ≡ Some (put latest.anchor 0 (Named d))
  anchor_here = written_here map 0 0 (Named d) latest.anchor latest.there

  pub moved_else : (y : ℕ) → y ≢ 0 → moved y ≡ map y
  moved_else y other = written_else map 0 0 (Named d) latest.anchor latest.there y other

  pub number_moved : (y u : ℕ) → HasNumber map y u → HasNumber moved y u
  number_moved y u has = record {
    box = has.box;
    there = moved_else y (not_anchor map n y u latest has) ∙ has.there;
    number_is = has.number_is;
  }

  -- the anchor has no number now either
  no_number : (y u : ℕ) → HasNumber moved y u → y ≢ 0
  no_number y u has is =
      let there : moved 0 ≡ Some has.box =
      subst (λ (x : ℕ). moved x ≡ Some has.box) is has.there in
      let clash : Named d ≡ Plain (num u) =
      same_entry moved 0 0 (put latest.anchor 0 (Named d)) has.box anchor_here there
      ∙ has.number_is in
      cc

  pub number_unmoved : (y u : ℕ) → HasNumber moved y u → HasNumber map y u
  number_unmoved y u has = record {
    box = has.box;
    there = sym (moved_else y (no_number y u has)) ∙ has.there;
    number_is = has.number_is;
  }

  pub names_moved : (m : ℕ) → HasNumber map d m → NamesNumber moved m
  names_moved m has = record {
    anchor = put latest.anchor 0 (Named d);
    there = anchor_here;
    cell = d;
    names = refl;
    numbered = number_moved d m has;
    others = λ f some lt.
        put_other latest.anchor 0 (Named d) f (λ e. omega (arith, e, some))
        ∙ latest.others f some lt;
  }

-- The anchor's word.
module _ (s : State) (l : Lore) (n : ℕ) (latest : NamesNumber (boxes_of s l) n) where
  pub anchor_entry : payload_of s l 0 0 ≡ latest.anchor 0
  anchor_entry = entry_there s l 0 latest.anchor latest.there 0

  pub anchor_word : field_of s 0 0 ≡ field.Cell latest.cell
  anchor_word = named_there s l 0 latest.anchor latest.there 0 latest.cell latest.names

  -- if that is a box, the anchor names this one
  pub anchor_names : (fixed : ℕ → Bool) → Facts fixed s l → (c : ℕ) → Reachable s c
      → is_box_kind (field_of s c 5) ≡ true → field_of s 0 0 ≡ field.Cell c
      → latest.anchor 0 ≡ Named c
  anchor_names fixed facts c reached box word =
      sym anchor_entry ∙ ap (entry_of l.terms) word
      ∙ ap (named_or c) (no_term fixed s l facts c reached box)
