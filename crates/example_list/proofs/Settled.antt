-- What a field of a reachable cell names, under any rule: the anchor, a record, or a box that is
-- not fresh. So a read tells of each cell other than the anchor that it is sealed.
use Rattle.std.proofs.Common.{◌≡◌, ◌≢◌, ◌==◌, ℕ, Bool, true, Option, Some, None, inl, inr}
use Rattle.std.proofs.Common.{refl, ◌∙◌, ap, subst}
use Rattle.std.proofs.lemmas.Bool.{or_cases}
use Rattle.cell_words.specs.declared.fields.Field.{Field}
use Rattle.cell_words.specs.declared.fields.Field.TheVariants as field
use Rattle.core_machine.specs.State.{State, field_of}
use Rattle.core_machine.specs.Words.{is_box_kind, is_raw_kind}
use Rattle.dlg_core.specs.Facts.{is_kind_field}
use Rattle.dlg_core.specs.Reachable.{Reachable, named}
use Rattle.heap_rule.specs.Facts.{TermFits, is_record_kind}
use Rattle.heap_rule.specs.Lore.{Lore, learned_of}
use Rattle.heap_rule.specs.Steps.{Shown}
use Rattle.heap_rule.proofs.EntryWords.{learned_box, learned_record, not_some}
use Rattle.held_places.specs.Calls.{settled}

module _ (fixed : ℕ → Bool) (s : State) (l : Lore) (shown : Shown fixed s l) (a f c : ℕ)
    (reached : Reachable s a) (names : field_of s a f ≡ field.Cell c) where
  there : Reachable s c
  there = named f reached names

  old : l.fresh c ≡ None
  old = by_owner (l.fresh c) refl
    where
      by_owner : (o : Option ℕ) → l.fresh c ≡ o → o ≡ None
      by_owner None is = refl
      by_owner (Some i) is = absurd (shown.facts.freshed.unnamed c i a f is reached names)

  not_raw : is_raw_kind (field_of s c 5) ≡ true → ⊥
  not_raw raw =
      let owner = shown.facts.freshed.raw c there raw in
      not_some owner.0 (l.fresh c) old owner.1

  as_record : is_record_kind (field_of s c 5) ≡ true → settled (learned_of s l c) ≡ true
  as_record is =
      let fits : TermFits true l.terms (field_of s c) (l.terms c) =
      subst (λ (b : Bool). TermFits b l.terms (field_of s c) (l.terms c)) is
      (shown.facts.termed c there) in
      ap settled (learned_record fixed s l shown.facts c _ fits.0)

  as_box : is_box_kind (field_of s c 5) ≡ true → c ≢ 0 → settled (learned_of s l c) ≡ true
  as_box box other = ap settled (learned_box fixed s l shown.facts c record {
    reached = there;
    box = box;
    old = old;
  } other)

  by_kind : (k : Field) → field_of s c 5 ≡ k → is_kind_field k ≡ true → c ≢ 0
      → settled (learned_of s l c) ≡ true
  by_kind field.Null is kind other = absurd (not_raw (ap is_raw_kind is))
  by_kind (field.Num n) is kind other = elim (or_cases (n == 1) (n == 2) kind) [
    | inl one ↦ as_record (ap is_record_kind is ∙ one)
    | inr two ↦ as_box (ap is_box_kind is ∙ two) other
  ]
  by_kind (field.Cell d) is kind other = absurd cc

  pub named_settled : c ≢ 0 → settled (learned_of s l c) ≡ true
  named_settled =
      by_kind (field_of s c 5) refl (shown.consistent.cells.kinds c)
