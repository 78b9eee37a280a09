-- The counter's rule over boxes: what it says of the anchor, and that it holds after an exchange.
use Rattle.std.proofs.Common.{◌≡◌, ◌∙◌, ◌+◌, ◌∷◌, ℕ, List, [], Bool, true, false, Option}
use Rattle.std.proofs.Common.{Some, None, ap, sym, subst, refl, slice_set}
use Rattle.std.specs.Prelude.{slice_index_or}
use Rattle.std.proofs.lemmas.Bool.{eqb-true}
use mathlib.Core.Option.{some}
use lib.ListN.{get_elem?}
use Rattle.atomic_table.proofs.Lists.{set_again}
use Rattle.cell_words.specs.Term.{null, number, part}
use Rattle.cell_words.specs.declared.fields.Field.{Field}
use Rattle.cell_words.specs.declared.fields.Field.TheVariants as word
use Rattle.core_machine.specs.Own.{Own}
use Rattle.core_machine.specs.Places.{cell_at}
use Rattle.core_machine.specs.State.{State, field_of}
use Rattle.core_machine.specs.Words.{same_field}
use Rattle.core_machine.specs.declared.events.Event.TheVariants as event
use Rattle.heap_rule.specs.Boxes.{Map, Payload, boxes_of, with_entry, written_if, written_map}
use Rattle.heap_rule.specs.Facts.{AllKnown, IsKnown}
use Rattle.heap_rule.specs.Lore.{Entry, Lore, Plain, cells_in, entry_of, named_or, put, term_of}
use Rattle.heap_rule.specs.NoRule.{no_field_is_fixed}
use Rattle.heap_rule.specs.Steps.{Picks}
use Rattle.heap_rule.specs.declared.known.Known.{Known}
use Rattle.heap_rule.specs.declared.known.Known.TheVariants as knows
use Rattle.heap_rule.specs.declared.view.View.{View}
use Rattle.heap_rule.proofs.Maps.{in_map, of_map}
use Rattle.heap_rule.proofs.Reading.{cell_there}
use Rattle.mutator_threads.proofs.Sums.{sum_grows}
use Rattle.promotion.proofs.Filling.{known_now, reveals_nothing}
use Rattle.example_counter.specs.Counting.{Counts, adding, number_record, one_more, sum_of}
use Rattle.example_counter.specs.declared.counter.Added.{Added}

pub is_cell_of : (x : Field) (c : ℕ) → same_field x (word.Cell c) ≡ true → x ≡ word.Cell c
is_cell_of word.Null c h = absurd cc
is_cell_of (word.Num k) c h = absurd cc
is_cell_of (word.Cell d) c h = ap word.Cell (eqb-true d c h)

abbrev first_entry : Option Payload → Entry
first_entry None = Plain null
first_entry (Some p) = p 0

-- the entry of the anchor's field 0 is the record of the sum
pub counter_is : (s : State) (l : Lore) (passes : List Added) → Counts (boxes_of s l) passes
    → entry_of l.terms (field_of s 0 0) ≡ Plain (number_record (sum_of passes))
counter_is s l passes kept =
    ap first_entry (sym (in_map s l 0 (of_map s l 0 kept.payload kept.anchor)) ∙ kept.anchor)
    ∙ kept.counted

-- the number of such an entry
abbrev pub entry_number : Entry → ℕ
entry_number e = number (part 0 (term_of e))

added : (s : State) (l : Lore) (passes : List Added) (i count c d : ℕ) (p : Added) (made : Bool)
    → same_field (field_of s 0 0) (word.Cell c) ≡ made → get_elem? passes i ≡ some p
    → field_of s d 5 ≡ word.Num 1 → l.terms c ≡ Some (number_record count)
    → l.terms d ≡ Some (number_record (count + 1)) → Counts (boxes_of s l) passes
    → Counts (written_if made s l 0 0 (word.Cell d)) (slice_set passes i (one_more made p))
added s l passes i count c d p false other pass kind old new kept =
    subst (λ (ps : List Added). Counts (boxes_of s l) ps) (sym (set_again passes i p pass)) kept
added s l passes i count c d p true made pass kind old new kept =
    let there : entry_of l.terms (field_of s 0 0) ≡ Plain (number_record count) =
    ap (entry_of l.terms) (is_cell_of (field_of s 0 0) c made) ∙ ap (named_or c) old in
    let is : count ≡ sum_of passes =
    ap entry_number (sym there ∙ counter_is s l passes kept) in
    let more : count + 1 ≡ sum_of (slice_set passes i record { sum = p.sum + 1 }) =
    ap (λ (n : ℕ). n + 1) is
    ∙ sym (sum_grows (λ (x : Added). x.sum) passes i p record { sum = p.sum + 1 } pass refl) in
    let e = entry_of l.terms (word.Cell d) in
    subst (λ (m : Map). Counts (written_map m 0 0 e)
    (slice_set passes i record { sum = p.sum + 1 })) (sym (reveals_nothing s l d kind)) record {
      payload = put kept.payload 0 e;
      anchor = ap (λ (q : Option Payload). with_entry q 0 e) kept.anchor;
      counted = ap (named_or d) new ∙ ap (λ (n : ℕ). Plain (number_record n)) more;
    }

-- an exchange of the record of a number for that of the next one counts one more, if it is made
pub picks_next : (v : View Added) (count c d : ℕ) (first : Known)
    → cells_in v.own.held ≡ 0 ∷ c ∷ d ∷ []
    → v.known ≡ first ∷ knows.Record (number_record count) ∷ knows.Record (number_record (count + 1))
    ∷ []
    → Picks Counts no_field_is_fixed (adding (word.Cell c)) v
    (event.Write v.number 0 0 (word.Cell c) (word.Cell d))
picks_next v count c d first held known s l passes mine happens proper pass kept =
    let there = ap (λ (own : Own). cell_at own.held 0) mine.own
    ∙ sym (cell_there v.own.held 0) ∙ ap (λ (cs : List ℕ). slice_index_or cs 0 0) held in
    let Now : ℕ → Known → Type 0 = IsKnown no_field_is_fixed s l v.number in
    let all : AllKnown Now (0 ∷ c ∷ d ∷ []) (first ∷ knows.Record (number_record count)
    ∷ knows.Record (number_record (count + 1)) ∷ []) =
    subst (λ (ks : List Known). AllKnown Now (0 ∷ c ∷ d ∷ []) ks) known
    (subst (λ (cs : List ℕ). AllKnown Now cs v.known) held (known_now v s l mine)) in
    subst (λ (x : ℕ). Counts
    (written_if (same_field (field_of s x 0) (word.Cell c)) s l x 0 (word.Cell d))
    (slice_set passes v.number (one_more (same_field (field_of s x 0) (word.Cell c)) v.pass)))
    (sym there)
    (added s l passes v.number count c d v.pass (same_field (field_of s 0 0) (word.Cell c)) refl
    pass all.1.1.0.0 all.1.0.1 all.1.1.0.1 kept)
