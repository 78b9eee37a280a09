-- The rule holds where a store of versions opens.
use Rattle.std.proofs.Common.{◌≡◌, ◌<◌, ◌≤◌, ◌+◌, ◌-◌, ◌⊎◌, ℕ, zero, suc, true, false}
use Rattle.std.proofs.Common.{List, [], ◌∷◌, length, flat_map}
use Rattle.std.proofs.Common.{Some, None, inl, inr, refl, sym, ap, subst, arith}
use Rattle.std.proofs.lemmas.List.Elements.{All-nil}
use Rattle.std.proofs.lemmas.List.Sorted.{IsPermutation-refl}
use Rattle.cell_words.specs.declared.fields.Field.{Field}
use Rattle.cell_words.specs.Term.{Term, null}
use Rattle.run_limits.specs.declared.TheConstants.{MOST_CLIENTS}
use Rattle.core_machine.specs.State.{State, field_in, field_of, opening}
use Rattle.core_machine.specs.Words.{is_box_kind}
use Rattle.dlg_core.specs.Reachable.{anchor, named}
use Rattle.doc_model.specs.Agreement.{EachOnce}
use Rattle.doc_tree.specs.Tree.{DocTree, empty}
use Rattle.heap_rule.specs.Boxes.{Map, Payload, boxes_of, payload_of}
use Rattle.heap_rule.specs.Facts.{IsPlain}
use Rattle.heap_rule.specs.Lore.{Lore, Plain, entry_of}
use Rattle.heap_rule.specs.Numbered.{NamesNumber}
use Rattle.heap_rule.specs.Opening.{FirstTerms, opening_lore, opening_passes, opening_rooms}
use Rattle.heap_rule.specs.Opening.{passes_from}
use Rattle.heap_rule.specs.Shape.{Shape, start}
use Rattle.heap_rule.proofs.Claiming.{put_other}
use Rattle.heap_rule.proofs.Maps.{In}
use Rattle.heap_rule.proofs.Numbered.{not_anchor}
use Rattle.heap_rule.proofs.Openings.{all_opening, as_many_open, each_box, first_apart}
use Rattle.heap_rule.proofs.Openings.{first_named, four_null, null_rows}
use Rattle.version_rule.specs.Fits.{Fits, HasTree, IsMade}
use Rattle.version_rule.specs.Opening.{OpensVersions, first_rows, first_terms}
use Rattle.version_rule.specs.Pass.{Commit, Reading, commit_numbers, opening_pass}
use Rattle.version_rule.specs.Spelling.{bare_root}
use Rattle.version_rule.specs.Versions.{HoldsVersions, IsInStep, IsVersion}

-- The rows.

plain_field : (f : ℕ) → f < 5 → IsPlain (entry_of first_terms (field_in first_rows 2 f))
plain_field zero lt = tt
plain_field (suc zero) lt = tt
plain_field (suc (suc zero)) lt = tt
plain_field (suc (suc (suc zero))) lt = tt
plain_field (suc (suc (suc (suc zero)))) lt = tt
plain_field (suc (suc (suc (suc (suc f))))) lt = absurd (omega (arith, lt))

-- the terms are those of the first rows
pub firsts : FirstTerms first_rows first_terms
firsts zero = refl
firsts (suc zero) = refl
firsts (suc (suc zero)) = (refl, plain_field)
firsts (suc (suc (suc k))) = put_other (λ x. None) 2 (Some bare_root) (suc (suc (suc k)))
    (λ e. omega (arith, e))

-- The boxes: the anchor and version 0.

module _ (is_tree : Term → Type 0) (tree_of : Term → DocTree) (bare : is_tree bare_root)
    (bare_is : tree_of bare_root ≡ empty) (cells : ℕ) (rooms : List ℕ) (known : ℕ) where
  abbrev s : State
  s = opening cells rooms first_rows

  abbrev l : Lore
  l = opening_lore first_terms known

  anchor_in : In s l 0
  anchor_in = record { reached = anchor refl; box = refl; old = refl }

  version_in : In s l 1
  version_in = record { reached = named 0 (anchor refl) refl; box = refl; old = refl }

  abbrev map : Map
  map = boxes_of s l

  -- no other cell is a box
  box_is : (x : ℕ) → is_box_kind (field_of s x 5) ≡ true → (x ≡ 0) ⊎ (x ≡ 1)
  box_is zero is = inl refl
  box_is (suc zero) is = inr refl
  box_is (suc (suc zero)) is = absurd cc
  box_is (suc (suc (suc k))) is = absurd (
      let none : is_box_kind (field_of s (suc (suc (suc k))) 5) ≡ false =
      ap is_box_kind (null_rows (cells - 3) k 5) in cc)

  others : (f : ℕ) → 1 ≤ f → f < 5 → payload_of s l 0 f ≡ Plain null
  others = four_null (payload_of s l 0) refl refl refl refl

  latest_first : NamesNumber map 0
  latest_first = first_named s l 0 anchor_in version_in box_is refl refl others

  version_zero : (keep : ℕ) → IsVersion is_tree tree_of keep (empty ∷ []) map (payload_of s l 1)
  version_zero keep = record {
    number = 0;
    number_is = refl;
    made = omega arith;
    root = bare_root;
    root_is = refl;
    spells = bare;
    tree = bare_is;
    link = inl record { none = refl; due = inl refl };
    fourth = refl;
    fifth = refl;
  }

  module _ (setting : ℕ) where
    fits_first : (number : ℕ) → Fits (empty ∷ []) (opening_pass number setting)
    fits_first number = record {
      opens = refl;
      seen = omega arith;
      reads = All-nil (λ (r : Reading). HasTree (empty ∷ []) r.number r.tree);
      commits = All-nil (IsMade (empty ∷ []));
    }

    in_step_first : (number : ℕ) → IsInStep setting map (opening_pass number setting)
    in_step_first number = record {
      keeps = refl;
      few = omega arith;
      reads_seen = All-nil (λ (r : Reading). r.number ≤ 0);
      commits_seen = All-nil (λ (c : Commit). c.number ≤ 0);
      cut_seen = omega arith;
      cut_is = λ x q at is. each_box s l 0 anchor_in version_in box_is refl refl others
          (λ (p : Payload). p 2 ≡ Plain null) refl x q (not_anchor map 0 x 0 latest_first
          record { box = q; there = at; number_is = is }) at;
    }

    none_made : (number n : ℕ)
        → flat_map commit_numbers (passes_from opening_pass setting number n) ≡ []
    none_made number zero = refl
    none_made number (suc n) = none_made (number + 1) n

    pub opens_versions : (mutators : ℕ) → 1 ≤ setting → setting ≤ 100 → mutators ≤ MOST_CLIENTS
        → HoldsVersions is_tree tree_of map (passes_from opening_pass setting 0 mutators)
    opens_versions mutators least most few = record {
      keep = setting;
      trees = empty ∷ [];
      keeps_some = least;
      keeps_few = most;
      few = subst (λ (n : ℕ). n ≤ MOST_CLIENTS)
          (sym (as_many_open opening_pass setting 0 mutators)) few;
      versions = record {
        opens = refl;
        fits = all_opening opening_pass setting (Fits (empty ∷ [])) fits_first 0 mutators;
        made = ap (λ (ns : List ℕ). length ns + 1) (sym (none_made 0 mutators));
        once = subst (λ (ns : List ℕ). EachOnce ns) (sym (none_made 0 mutators))
            (IsPermutation-refl []);
      };
      in_step = all_opening opening_pass setting (IsInStep setting map) in_step_first 0 mutators;
      latest = latest_first;
      boxes = λ x q other at. each_box s l 0 anchor_in version_in box_is refl refl others
          (λ (p : Payload). IsVersion is_tree tree_of setting (empty ∷ []) map p)
          (version_zero setting) x q other at;
      apart = first_apart s l 0 anchor_in version_in box_is refl refl others;
    }

-- what is asked of the client of a heap that is made
pub opened : (is_tree : Term → Type 0) (tree_of : Term → DocTree) → is_tree bare_root
    → tree_of bare_root ≡ empty → (h : Shape) → OpensVersions h
    → HoldsVersions is_tree tree_of
    (boxes_of (start h (opening_rooms h.mutators)) (opening_lore first_terms h.mutators))
    (opening_passes opening_pass h)
opened is_tree tree_of bare bare_is h opens =
    subst (λ (first : List (List Field)). HoldsVersions is_tree tree_of
    (boxes_of (opening h.cells (opening_rooms h.mutators) first)
    (opening_lore first_terms h.mutators)) (opening_passes opening_pass h)) (sym opens.first)
    (opens_versions is_tree tree_of bare bare_is h.cells (opening_rooms h.mutators) h.mutators
    h.setting h.mutators opens.keeps_some opens.keeps_few opens.few)
