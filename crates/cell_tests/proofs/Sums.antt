-- The counter's rule over boxes.
use Rattle.std.proofs.Common.{◌≡◌, ◌∙◌, ◌+◌, ◌∷◌, ℕ, zero, suc, List, [], Bool, true, false}
use Rattle.std.proofs.Common.{Option, Some, None, if◌then◌else◌}
use Rattle.std.proofs.Common.{ap, sym, subst, refl, arith, slice_set}
use Rattle.std.proofs.lemmas.Bool.{eqb-true}
use mathlib.Core.Option.{some}
use lib.ListN.{get_elem?}
use Rattle.atomic_table.proofs.Lists.{set_again}
use Rattle.cell_tests.specs.Counting.{Counts, adding, sum_of}
use Rattle.cell_tests.specs.declared.counter.Added.{Added}
use Rattle.cell_words.specs.Term.{num, number}
use Rattle.cell_words.specs.declared.fields.Field.{Field}
use Rattle.cell_words.specs.declared.fields.Field.TheVariants as field
use Rattle.core_machine.specs.Own.{Own}
use Rattle.core_machine.specs.Places.{cell_at}
use Rattle.core_machine.specs.State.{State, field_of}
use Rattle.core_machine.specs.Words.{same_field}
use Rattle.core_machine.specs.declared.events.Event.{Event}
use Rattle.core_machine.specs.declared.events.Event.TheVariants as event
use Rattle.core_machine.specs.declared.events.Found.TheVariants as finds
use Rattle.heap_rule.specs.Boxes.{Map, Payload, boxes_by, boxes_of, with_entry, written_if}
use Rattle.heap_rule.specs.Lore.{Entry, Lore, Plain, entry_of, nothing_learned, put, term_of}
use Rattle.heap_rule.specs.NoRule.{no_field_is_fixed}
use Rattle.heap_rule.specs.Steps.{Picks, same_pass}
use Rattle.heap_rule.specs.declared.view.View.{View}
use Rattle.heap_rule.proofs.Maps.{in_map, of_map}

-- an event that leaves the boxes and the pass
pub picks_still : (v : View Added) (e : Event)
    → ((s : State) (l : Lore) → boxes_by s l e ≡ boxes_of s l)
    → Picks Counts no_field_is_fixed same_pass v e
picks_still v e same s l passes mine happens proper pass kept =
    subst (λ (ps : List Added). Counts (boxes_by s l e) ps)
    (sym (set_again passes v.number v.pass pass))
    (subst (λ (m : Map). Counts m passes) (sym (same s l)) kept)

-- one pass that grows by one lets the sum grow by one
sum_set : (passes : List Added) (i : ℕ) (p : Added) → get_elem? passes i ≡ some p
    → sum_of (slice_set passes i record { sum = p.sum + 1 }) ≡ sum_of passes + 1
sum_set [] i p h = absurd cc
sum_set (x ∷ xs) zero p h =
    let same : x ≡ p = cc in
    let sums : x.sum ≡ p.sum = ap (λ (a : Added). a.sum) same in
    omega (arith, sums)
sum_set (x ∷ xs) (suc i) p h = let rest = sum_set xs i p h in omega (arith, rest)

is_number : (x : Field) (n : ℕ) → same_field x (field.Num n) ≡ true → x ≡ field.Num n
is_number field.Null n h = absurd cc
is_number (field.Num k) n h = ap field.Num (eqb-true k n h)
is_number (field.Cell c) n h = absurd cc

first_entry : Option Payload → Entry
first_entry None = Plain (num 0)
first_entry (Some p) = p 0

-- the entry of the anchor's field 0 is the sum
pub counter_is : (s : State) (l : Lore) (passes : List Added) → Counts (boxes_of s l) passes
    → entry_of l.terms (field_of s 0 0) ≡ Plain (num (sum_of passes))
unfolding first_entry
counter_is s l passes kept =
    ap first_entry (sym (in_map s l 0 (of_map s l 0 kept.0 kept.1)) ∙ kept.1) ∙ kept.2

added : (s : State) (l : Lore) (passes : List Added) (i count : ℕ) (p : Added) (made : Bool)
    → same_field (field_of s 0 0) (field.Num count) ≡ made → get_elem? passes i ≡ some p
    → Counts (boxes_of s l) passes
    → Counts (written_if made s l 0 0 (field.Num (count + 1)))
    (slice_set passes i record { sum = if made then p.sum + 1 else p.sum })
added s l passes i count p false other pass kept =
    subst (λ (ps : List Added). Counts (boxes_of s l) ps) (sym (set_again passes i p pass)) kept
added s l passes i count p true made pass kept =
    let there : entry_of l.terms (field_of s 0 0) ≡ Plain (num count) =
    ap (entry_of l.terms) (is_number (field_of s 0 0) count made) in
    let is : count ≡ sum_of passes =
    ap (λ (e : Entry). number (term_of e)) (sym there ∙ counter_is s l passes kept) in
    let more : count + 1 ≡ sum_of (slice_set passes i record { sum = p.sum + 1 }) =
    ap (λ (n : ℕ). n + 1) is ∙ sym (sum_set passes i p pass) in (
      put kept.0 0 (Plain (num (count + 1))),
      ap (λ (q : Option Payload). with_entry q 0 (Plain (num (count + 1)))) kept.1,
      ap (λ (n : ℕ). Plain (num n)) more,
    )

-- the rule stands after a write over the counter, whether it was made or not
pub picks_add : (v : View Added) (count : ℕ) → cell_at v.own.held 0 ≡ 0
    → Picks Counts no_field_is_fixed (adding (field.Num count)) v
    (event.Write v.number 0 0 (field.Num count) (field.Num (count + 1)))
picks_add v count anchor s l passes mine happens proper pass kept =
    let there = ap (λ (own : Own). cell_at own.held 0) mine.own ∙ anchor in
    let found = λ (x : ℕ). finds.Field (field_of s x 0) in
    subst (λ (x : ℕ). Counts
    (written_if (same_field (field_of s x 0) (field.Num count)) s l x 0 (field.Num (count + 1)))
    (slice_set passes v.number (adding (field.Num count) nothing_learned (found x) v.pass)))
    (sym there)
    (added s l passes v.number count v.pass (same_field (field_of s 0 0) (field.Num count)) refl
    pass kept)
