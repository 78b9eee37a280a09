-- A counter in a box: field 0 of the anchor names a record, whose field 0 is a number. The rule is
-- that it is the sum of what the mutators have added.
-- Source: this project's.
use Rattle.std.specs.Prelude.{ℕ, ◌≡◌, ◌+◌, Bool, true, false, List, Option, Some, None, sum_by}
use Rattle.std.proofs.Common.{◌∙◌}
use Rattle.cell_words.specs.Term.{Term, five, null, num}
use Rattle.cell_words.specs.declared.fields.Field.{Field}
use Rattle.cell_words.specs.declared.fields.Field.TheVariants as field
use Rattle.core_machine.specs.State.{State, field_of}
use Rattle.core_machine.specs.declared.events.Found.{Found}
use Rattle.heap_rule.specs.Boxes.{Map, Payload, Smaller}
use Rattle.heap_rule.specs.Lore.{Plain, was_made}
use Rattle.heap_rule.specs.declared.known.Learned.{Learned}
use Rattle.example_counter.specs.declared.counter.Added.{Added}

-- the pass of a mutator at the start
abbrev pub nothing_added : ℕ → ℕ → Added
nothing_added number setting = record { sum = 0 }

-- the record of a number
abbrev pub number_record : ℕ → Term
number_record n = five (num n) null null null null

abbrev pub sum_of : List Added → ℕ
sum_of passes = sum_by (λ (pass : Added). pass.sum) passes

-- the anchor's field 0 stands for the record of the number that the passes sum to
pub record Counts (map : Map) (passes : List Added) : Type 0 where
  pub payload : Payload
  pub anchor : map 0 ≡ Some payload
  pub counted : payload 0 ≡ Plain (number_record (sum_of passes))

-- no smaller map has another anchor
pub counts_on : (old new : Map) (passes : List Added) → Smaller old new → Counts old passes
    → Counts new passes
counts_on old new passes smaller counts = record {
  payload = counts.payload;
  anchor = smaller.anchor ∙ counts.anchor;
  counted = counts.counted;
}

-- the pass with one more, if it was made
abbrev pub one_more : Bool → Added → Added
one_more true pass = record { sum = pass.sum + 1 }
one_more false pass = pass

-- a write over the old value that was made adds one
abbrev pub adding : Field → Learned → Found → Added → Added
adding old learned found pass = one_more (was_made old found) pass

-- The number in a field; that of the record which a field names; and that of the record which the
-- anchor names.

abbrev pub number_in : Field → Option ℕ
number_in field.Null = None
number_in (field.Num n) = Some n
number_in (field.Cell c) = None

abbrev pub number_behind : State → Field → Option ℕ
number_behind s field.Null = None
number_behind s (field.Num n) = None
number_behind s (field.Cell c) = number_in (field_of s c 0)

abbrev pub counter_in : State → Option ℕ
counter_in s = number_behind s (field_of s 0 0)
