-- What a mutator keeps while it is out. Field 0 of the anchor names the box at cell 1, and field 0
-- of that box stands for the record of the number that the first mutator keeps, or is null.
-- Source: this project's.
use Rattle.std.specs.Prelude.{ℕ, ◌≡◌, Bool, true, false, List, Option, Some, None}
use Rattle.std.proofs.Common.{◌∙◌, arith}
use mathlib.Core.Option.{some}
use lib.ListN.{get_elem?}
use Rattle.cell_words.specs.Term.{Term, five, null, num, number, part}
use Rattle.cell_words.specs.declared.fields.Field.{Field}
use Rattle.core_machine.specs.declared.events.Found.{Found}
use Rattle.heap_rule.specs.Asks.{known_of}
use Rattle.heap_rule.specs.Boxes.{Map, Payload, Smaller}
use Rattle.heap_rule.specs.Lore.{Named, Plain, was_made}
use Rattle.heap_rule.specs.declared.known.Known.{Known}
use Rattle.heap_rule.specs.declared.known.Known.TheVariants as knows
use Rattle.heap_rule.specs.declared.known.Learned.{Learned}
use Rattle.heap_rule.specs.declared.view.View.{View}
use Rattle.mutator_events.specs.declared.values.Value.{Value}
use Rattle.mutator_events.specs.declared.values.Value.TheVariants as values
use Rattle.example_root.specs.declared.kept.Kept.{Kept}

-- the pass of a mutator at the start
abbrev pub nothing_kept : ℕ → ℕ → Kept
nothing_kept number setting = record { number = None }

-- the record of a number
abbrev pub number_record : ℕ → Term
number_record n = five (num n) null null null null

-- what stands for the number that is kept, if one is
abbrev pub kept_term : Option ℕ → Term
kept_term None = null
kept_term (Some n) = number_record n

pub record HasKept (map : Map) (passes : List Kept) : Type 0 where
  pub anchor : Payload
  pub anchor_is : map 0 ≡ Some anchor
  pub names : anchor 0 ≡ Named 1
  pub box : Payload
  pub box_is : map 1 ≡ Some box
  pub kept : (pass : Kept) → get_elem? passes 0 ≡ some pass
      → box 0 ≡ Plain (kept_term pass.number)

-- a smaller map has the anchor, and with it the box that it names
pub kept_shrinks : (old new : Map) (passes : List Kept) → Smaller old new → HasKept old passes
    → HasKept new passes
kept_shrinks old new passes smaller has =
    let anchor_is : new 0 ≡ Some has.anchor = smaller.anchor ∙ has.anchor_is in
    record {
      anchor = has.anchor;
      anchor_is = anchor_is;
      names = has.names;
      box = has.box;
      box_is = smaller.closed 0 1 0 has.anchor has.box anchor_is (omega arith) has.names has.box_is;
      kept = has.kept;
    }

-- the pass after a write, whether it was made or not
abbrev pub keeping_if : Bool → Option ℕ → Kept → Kept
keeping_if true number pass = record { number = number }
keeping_if false number pass = pass

-- a write over the old value that was made puts this number in
abbrev pub putting : Field → Option ℕ → Learned → Found → Kept → Kept
putting old number learned found pass = keeping_if (was_made old found) number pass

-- the number of a record that is known
abbrev pub number_told : Known → ℕ
number_told knows.Nothing = 0
number_told (knows.Raw fields) = 0
number_told (knows.Fresh fields) = 0
number_told (knows.Record t) = number (part 0 t)
number_told (knows.Boxed terms) = 0

-- what is kept where this value is put in
abbrev pub number_of : View Kept → Value → Option ℕ
number_of v values.Null = None
number_of v (values.Num n) = None
number_of v (values.Held place) = Some (number_told (known_of v place))
