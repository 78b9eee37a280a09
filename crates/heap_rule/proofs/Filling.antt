-- Fills of a raw cell with a value that names no fresh box: the boxes are as they were, and any
-- client's rule stands with the pass as it is.
use Rattle.std.proofs.Common.{◌≡◌, ◌≢◌, ◌&&◌, ℕ, Bool, List, Option}
use Rattle.std.proofs.Common.{None, is_none, inl, inr, refl, sym, ◌∙◌, ap, subst}
use Rattle.std.proofs.lemmas.Bool.{cases_eq}
use Rattle.atomic_table.proofs.Lists.{set_again}
use Rattle.cell_words.specs.declared.fields.Field.{Field}
use Rattle.cell_words.specs.declared.fields.Field.TheVariants as field
use Rattle.core_machine.specs.declared.events.Event.TheVariants as event
use Rattle.core_machine.specs.State.{State, field_of}
use Rattle.core_machine.specs.Words.{is_box_kind}
use Rattle.dlg_core.specs.Reachable.{reach}
use Rattle.heap_rule.specs.Asks.{known_of}
use Rattle.heap_rule.specs.Boxes.{Map, Payload, boxes_of, payload_of, revealing, where_shown}
use Rattle.heap_rule.specs.Facts.{IsKnown}
use Rattle.heap_rule.specs.Lore.{Lore, put}
use Rattle.heap_rule.specs.Steps.{Mine, Picks, same_pass}
use Rattle.heap_rule.specs.declared.known.Known.{Known}
use Rattle.heap_rule.specs.declared.known.Known.TheVariants as knows
use Rattle.heap_rule.specs.declared.view.View.{View}
use Rattle.heap_rule.proofs.Claiming.{put_here, put_other}
use Rattle.heap_rule.specs.Settled.{IsSettled, NamesSettled}
use Rattle.heap_rule.proofs.Seats.{knows_place}

module _ (s : State) (l : Lore) (c : ℕ) where
  abbrev revealed_at : ℕ → Option Payload
  revealed_at x = boxes_of s (revealing l (field.Cell c)) x

  same_else : (x : ℕ) → x ≢ c → revealed_at x ≡ boxes_of s l x
  same_else x other = ap (λ (o : Option ℕ). where_shown
      (reach s x && (is_box_kind (field_of s x 5) && is_none o)) (payload_of s l x))
      (put_other l.fresh c None x other)

  -- the cell is no box, or was not fresh
  same_fresh : l.fresh c ≡ None → revealed_at c ≡ boxes_of s l c
  same_fresh none = ap (λ (o : Option ℕ). where_shown
      (reach s c && (is_box_kind (field_of s c 5) && is_none o)) (payload_of s l c))
      (put_here l.fresh c None ∙ sym none)

  same_record : field_of s c 5 ≡ field.Num 1 → revealed_at c ≡ boxes_of s l c
  same_record kind =
      ap (λ (f : Field). where_shown (reach s c && (is_box_kind f
      && is_none (put l.fresh c None c))) (payload_of s l c)) kind
      ∙ sym (ap (λ (f : Field). where_shown (reach s c && (is_box_kind f
      && is_none (l.fresh c))) (payload_of s l c)) kind)

  same_from : revealed_at c ≡ boxes_of s l c
      → boxes_of s (revealing l (field.Cell c)) ≡ boxes_of s l
  same_from here = λ i x. same_at x i
    where
      same_at : (x : ℕ) → revealed_at x ≡ boxes_of s l x
      same_at x = elim (cases_eq x c) [
        | inl same ↦ subst (λ (y : ℕ). revealed_at y ≡ boxes_of s l y) (sym same) here
        | inr other ↦ same_else x other
      ]

  same_known : (fixed : ℕ → Bool) (i : ℕ) (k : Known) → IsSettled k → IsKnown fixed s l i c k
      → boxes_of s (revealing l (field.Cell c)) ≡ boxes_of s l
  same_known fixed i (knows.Record t) settled is = same_from (same_record is.0)
  same_known fixed i (knows.Boxed told) settled is = same_from (same_fresh is.2)
  same_known fixed i knows.Nothing settled is = absurd settled
  same_known fixed i (knows.Raw fields) settled is = absurd settled
  same_known fixed i (knows.Fresh fields) settled is = absurd settled

module _ {P : Type 0} {fixed : ℕ → Bool} (v : View P) (s : State) (l : Lore)
    (mine : Mine fixed v s l) where
  pub fills_nothing : (value : Field) → NamesSettled v value
      → boxes_of s (revealing l value) ≡ boxes_of s l
  fills_nothing field.Null names = refl
  fills_nothing (field.Num n) names = refl
  fills_nothing (field.Cell c) names =
      same_known s l c fixed v.number (known_of v names.0) names.1.1.1
      (subst (λ (x : ℕ). IsKnown fixed s l v.number x (known_of v names.0)) names.1.1.0
      (knows_place v s l mine names.0 names.1.0))

pub fill_picks : {P : Type 0} (holding : Map → List P → Type 0) (fixed : ℕ → Bool) (v : View P)
    (place f : ℕ) (value : Field) → NamesSettled v value
    → Picks holding fixed same_pass v (event.Fill v.number place f value)
fill_picks holding fixed v place f value names s l passes mine happens proper at kept =
    subst (λ (ps : List _). holding (boxes_of s (revealing l value)) ps)
    (sym (set_again passes v.number v.pass at))
    (subst (λ (m : Map). holding m passes) (sym (fills_nothing v s l mine value names)) kept)
