-- A cell that is blue stands at no place of a mutator, since no reachable cell is; and what is
-- known of two places of one cell agrees, since both is so.
use Rattle.std.proofs.Common.{◌≡◌, ℕ, Bool, true, false, List}
use Rattle.std.proofs.Common.{slice_index_or, Some, refl, sym, ◌∙◌, subst}
use Rattle.cell_words.specs.declared.colours.Colour.TheVariants as colour
use Rattle.cell_words.specs.declared.fields.Field.{Field}
use Rattle.cell_words.specs.declared.fields.Field.TheVariants as field
use Rattle.cell_words.specs.Term.{Term}
use Rattle.core_machine.specs.Own.{Own}
use Rattle.core_machine.specs.State.{State, colour_of, field_of}
use Rattle.core_machine.specs.Words.{is_box_kind}
use Rattle.dlg_core.proofs.Safety.{consistent_safe}
use Rattle.heap_rule.specs.Apart.{IsNewTo, KnowsNoOther}
use Rattle.heap_rule.specs.Facts.{IsKnown}
use Rattle.heap_rule.specs.Lore.{Lore, cells_in, has, known_at}
use Rattle.heap_rule.specs.Steps.{Mine}
use Rattle.heap_rule.specs.declared.known.Known.{Known}
use Rattle.heap_rule.specs.declared.known.Known.TheVariants as knows
use Rattle.heap_rule.specs.declared.view.View.{View}
use Rattle.heap_rule.proofs.Lists.{all_at, reached_held}
use Rattle.heap_rule.proofs.Many.{as_many}
use Rattle.heap_rule.proofs.Seats.{all_mine}

-- a record is no box
no_box : (kind : Field) → kind ≡ field.Num 1 → is_box_kind kind ≡ true → ⊥
no_box kind is box =
    let e : is_box_kind (field.Num 1) ≡ true = subst (λ (k : Field). is_box_kind k ≡ true) is box in
    cc

-- both is so of one cell
both_so : (fixed : ℕ → Bool) (s : State) (l : Lore) (i x : ℕ) (k : Known) (t : Term)
    → IsKnown fixed s l i x (knows.Record t) → IsKnown fixed s l i x k → KnowsNoOther t k
both_so fixed s l i x knows.Nothing t record_is is = tt
both_so fixed s l i x (knows.Record u) t record_is is =
    let e : Some u ≡ Some t = sym is.1 ∙ record_is.1 in
    cc
both_so fixed s l i x (knows.Raw fields) t record_is is =
    let e : field.Null ≡ field.Num 1 = sym is.0 ∙ record_is.0 in absurd cc
both_so fixed s l i x (knows.Fresh fields) t record_is is =
    absurd (no_box (field_of s x 5) record_is.0 is.0)
both_so fixed s l i x (knows.Boxed told) t record_is is =
    absurd (no_box (field_of s x 5) record_is.0 is.1)

module _ {P : Type 0} {fixed : ℕ → Bool} (v : View P) (s : State) (l : Lore)
    (mine : Mine fixed v s l) where
  abbrev cells : List ℕ
  cells = cells_in v.own.held

  -- no held cell is blue
  held_used : (c : ℕ) → colour_of s c ≡ colour.Blue → (b : Bool) → has cells c ≡ b → b ≡ false
  held_used c blue false is = refl
  held_used c blue true is =
      absurd ((consistent_safe s mine.shown.consistent).reached c
      (reached_held s v.number c mine.shown.consistent
      (subst (λ (o : Own). has (cells_in o.held) c ≡ true) (sym mine.own) is)) blue)

  pub new_to : (c : ℕ) → colour_of s c ≡ colour.Blue → IsNewTo cells v.known c
  new_to c blue = record {
    fit = as_many (IsKnown fixed s l v.number) cells v.known (all_mine v s l mine);
    apart = held_used c blue (has cells c) refl;
    agree = λ p q t p_lt q_lt same is.
        both_so fixed s l v.number (slice_index_or cells q 0) (known_at v.known p) t
        (subst (IsKnown fixed s l v.number (slice_index_or cells q 0)) is
        (all_at (IsKnown fixed s l v.number) cells v.known q q_lt (all_mine v s l mine)))
        (subst (λ (x : ℕ). IsKnown fixed s l v.number x (known_at v.known p)) same
        (all_at (IsKnown fixed s l v.number) cells v.known p p_lt (all_mine v s l mine)));
  }
