-- The rule where an entry is appended: the anchor goes from the newest entry to a box that was in
-- no map before.
use Rattle.std.proofs.Common.{◌≡◌, ◌≢◌, ◌+◌, ◌∷◌, ℕ, List, true, length, Some, None}
use Rattle.std.proofs.Common.{slice_set, inl, inr, refl, sym, ◌∙◌, ap, subst, arith, if◌then◌else◌}
use Rattle.std.proofs.Common.{Bool}
use Rattle.std.proofs.lemmas.Bool.{eq-eqb, ne_eqb}
use mathlib.Core.Option.{some}
use lib.ListN.{get_elem?}
use Rattle.atomic_table.proofs.Lists.{at_set}
use Rattle.cell_words.specs.Term.{num}
use Rattle.heap_rule.specs.Boxes.{Map, Payload, written_map}
use Rattle.heap_rule.specs.Lore.{Named, Plain, put}
use Rattle.heap_rule.proofs.Claiming.{put_here, put_other}
use Rattle.heap_rule.proofs.Entries.{named_inj, num_inj, same_entry, written_else, written_here}
use Rattle.mutator_threads.proofs.Sums.{sum_grows}
use Rattle.heap_rule.specs.Numbered.{HasNumber}
use Rattle.example_log.specs.Logging.{Chain, KeepsLog, entries_of, one_more, sum_of}
use Rattle.example_log.specs.Shrinks.{chain_on, has_number}
use Rattle.example_log.specs.declared.log.Appended.{Appended}

-- an entry adds one to those of its writer, and to those of no other
one_more_of : (writer k : ℕ) (writers : List ℕ) → writer ≡ k
    → entries_of k (writer ∷ writers) ≡ entries_of k writers + 1
one_more_of writer k writers is =
    ap (λ (b : Bool). if b then entries_of k writers + 1 else entries_of k writers)
    (eq-eqb writer k is)

same_of : (writer k : ℕ) (writers : List ℕ) → writer ≢ k
    → entries_of k (writer ∷ writers) ≡ entries_of k writers
same_of writer k writers other =
    ap (λ (b : Bool). if b then entries_of k writers + 1 else entries_of k writers)
    (ne_eqb writer k other)

module _ (map : Map) (passes : List Appended) (h : KeepsLog map passes) (z c number : ℕ)
    (box : Payload) (absent : map z ≡ None) (named : h.anchor 0 ≡ Named c)
    (before : HasNumber map c number) where
  abbrev shown : Map
  shown = put map z (Some box)

  abbrev new : Map
  new = written_map shown 0 0 (Named z)

  there_before : (y : ℕ) (q : Payload) → map y ≡ Some q → y ≢ z
  there_before y q at e =
      let none : None ≡ Some q = sym absent ∙ ap map (sym e) ∙ at in cc

  anchor_there : shown 0 ≡ Some h.anchor
  anchor_there = put_other map z (Some box) 0 (there_before 0 h.anchor h.anchor_is) ∙ h.anchor_is

  anchor_here : new 0 ≡ Some (put h.anchor 0 (Named z))
  anchor_here = written_here shown 0 0 (Named z) h.anchor anchor_there

  box_here : new z ≡ Some box
  box_here = written_else shown 0 0 (Named z) h.anchor anchor_there z
      (λ e. there_before 0 h.anchor h.anchor_is (sym e)) ∙ put_here map z (Some box)

  -- the anchor has no number
  number_apart : (y n : ℕ) → HasNumber map y n → y ≢ 0
  number_apart y n has is =
      let e : Named c ≡ Plain (num n) = sym named
      ∙ same_entry map 0 0 h.anchor has.box h.anchor_is
      (subst (λ (x : ℕ). map x ≡ Some has.box) is has.there) ∙ has.number_is in
      cc

  number_same : (y n : ℕ) → HasNumber map y n → new y ≡ map y
  number_same y n has =
      written_else shown 0 0 (Named z) h.anchor anchor_there y (number_apart y n has)
      ∙ put_other map z (Some box) y (there_before y has.box has.there)

  was_newest : h.newest ≡ c
  was_newest = named_inj h.newest c (sym h.names ∙ named)

  was_last : number ≡ length h.writers
  was_last =
      let has = has_number map h.newest h.writers h.chain in
      num_inj number (length h.writers) (sym before.number_is
      ∙ same_entry map c 0 before.box has.box before.there
      (subst (λ (x : ℕ). map x ≡ Some has.box) was_newest has.there) ∙ has.number_is)

  module _ (i : ℕ) (pass : Appended) (at : get_elem? passes i ≡ some pass)
      (number_is : box 0 ≡ Plain (num (number + 1))) (before_is : box 1 ≡ Named c)
      (writer_is : box 2 ≡ Plain (num i)) (own_is : box 3 ≡ Plain (num pass.count)) where
    abbrev writers : List ℕ
    writers = i ∷ h.writers

    longer : number + 1 ≡ length writers
    longer = let last = was_last in omega (arith, last)

    chain_new : Chain new z writers
    chain_new = (
      record {
        has = record {
          box = box;
          there = box_here;
          number_is = number_is ∙ ap (λ (n : ℕ). Plain (num n)) longer;
        };
        before = c;
        before_is = before_is;
        writer_is = writer_is;
        own_is = own_is ∙ ap (λ (n : ℕ). Plain (num n)) (h.own i pass at);
      },
      chain_on map new (λ cell y n q there names has. number_same y n has) c h.writers
          (number_same c number before)
          (subst (λ (x : ℕ). Chain map x h.writers) was_newest h.chain),
    )

    own_new : (k : ℕ) (other : Appended)
        → get_elem? (slice_set passes i (one_more true pass)) k ≡ some other
        → other.count ≡ entries_of k writers
    own_new k other there = elim (at_set passes i k (one_more true pass) other there) [
      | inl here ↦
          sym (ap (λ (p : Appended). p.count) here.1) ∙ ap (λ (n : ℕ). n + 1) (h.own i pass at)
          ∙ ap (λ (n : ℕ). entries_of n h.writers + 1) (sym here.0)
          ∙ sym (one_more_of i k h.writers (sym here.0))
      | inr older ↦ h.own k other older.1
          ∙ sym (same_of i k h.writers (λ e. older.0 (sym e)))
    ]

    pub grown : KeepsLog new (slice_set passes i (one_more true pass))
    grown = record {
      writers = writers;
      anchor = put h.anchor 0 (Named z);
      anchor_is = anchor_here;
      newest = z;
      names = refl;
      chain = chain_new;
      many = (let sum = sum_grows (λ (p : Appended). p.count) passes i pass (one_more true pass) at refl in let so_many = h.many in
          let e : length writers ≡ sum_of (slice_set passes i (one_more true pass)) =
          omega (arith, sum, so_many) in e);
      own = own_new;
    }
