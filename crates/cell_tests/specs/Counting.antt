-- A counter in field 0 of the anchor: the rule that it is the sum of what the mutators have added.
-- Source: this project's.
use Rattle.std.specs.Prelude.{ℕ, ◌≡◌, ◌+◌, List, [], ◌∷◌, Some, if◌then◌else◌}
use Rattle.std.proofs.Common.{◌∙◌}
use Rattle.cell_tests.specs.declared.counter.Added.{Added}
use Rattle.cell_words.specs.Term.{num}
use Rattle.cell_words.specs.declared.fields.Field.{Field}
use Rattle.cell_words.specs.declared.fields.Field.TheVariants as field
use Rattle.core_machine.specs.State.{State, field_of}
use Rattle.core_machine.specs.Table.{words_of}
use Rattle.core_machine.specs.declared.events.Found.{Found}
use Rattle.heap_rule.specs.declared.known.Learned.{Learned}
use Rattle.heap_rule.specs.Boxes.{Map, Payload, Smaller}
use Rattle.heap_rule.specs.Lore.{Plain, was_made}

abbrev pub sum_of : List Added → ℕ
sum_of [] = 0
sum_of (pass ∷ passes) = pass.sum + sum_of passes

-- the anchor's field 0 is the number that the passes sum to
abbrev pub Counts : Map → List Added → Type 0
Counts map passes =
    (p : Payload) × (map 0 ≡ Some p) × (p 0 ≡ Plain (num (sum_of passes)))

-- no smaller map has another anchor
pub counts_on : (old new : Map) (passes : List Added) → Smaller old new → Counts old passes
    → Counts new passes
counts_on old new passes smaller (p, at, counted) = (p, smaller.anchor ∙ at, counted)

-- the pass of a mutator after a write over the old value: one more, where the write was made
abbrev pub adding : Field → Learned → Found → Added → Added
adding old learned found pass =
    record { sum = if was_made old found then pass.sum + 1 else pass.sum }

-- What a closed heap shows: field 0 of the anchor is this number.
pub record CounterIs (words : List ℕ) (sum : ℕ) : Type 0 where
  pub core : State
  pub words_are : words ≡ words_of core
  pub is : field_of core 0 0 ≡ field.Num sum
