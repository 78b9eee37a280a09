-- What a seat has and knows after a read.
use Rattle.std.proofs.Common.{◌≡◌, ℕ, Bool, [], ◌∷◌, ◌++◌, length, slice_index_or}
use Rattle.std.proofs.Common.{sym, ◌∙◌, ap, subst}
use Rattle.std.proofs.lemmas.List.{get_or_push, length-map}
use Rattle.cell_words.specs.declared.fields.Field.{Field}
use Rattle.cell_words.specs.declared.fields.Field.TheVariants as field
use Rattle.core_machine.specs.declared.events.Event.TheVariants as event
use Rattle.core_machine.specs.declared.events.Found.{Found}
use Rattle.core_machine.specs.declared.events.Found.TheVariants as finds
use Rattle.core_machine.specs.declared.places.Held.{Held}
use Rattle.core_machine.specs.Own.{having_read_by}
use Rattle.core_machine.specs.State.{State}
use Rattle.core_machine.specs.WordOperations.{IsPackedAs}
use Rattle.heap_rule.specs.Asks.{known_of}
use Rattle.heap_rule.specs.Lore.{Lore, at_cell, cells_in, known_at, known_read}
use Rattle.heap_rule.specs.Lore.{told as told_more}
use Rattle.heap_rule.specs.Reads.{HasRead}
use Rattle.heap_rule.specs.Rule.{told, took}
use Rattle.heap_rule.specs.Steps.{Mine}
use Rattle.heap_rule.specs.declared.known.Known.TheVariants as knows
use Rattle.heap_rule.specs.declared.known.Learned.{Learned}
use Rattle.heap_rule.specs.declared.view.View.{View}
use Rattle.heap_rule.proofs.Many.{at_cell_many, known_many}

-- A cell that a read found is held and known at the next place.
module _ {P : Type 0} (fixed : ℕ → Bool) (v w : View P) (s : State) (l : Lore)
    (mine : Mine fixed v s l) (place f : ℕ) (found : Found) (tells : Learned) (pass : P)
    (new : w ≡ told v (event.Read v.number place f) found tells pass) where
  pub has_read : (word : ℕ) (value : Field) → found ≡ finds.Field value → IsPackedAs found word
      → HasRead v w place f word value
  has_read word value is packed = record {
    word_is = subst (λ (x : Found). IsPackedAs x word) is packed;
    own = ap (λ (u : View P). u.own) new ∙ ap (having_read_by v.own) is;
    trail = ap (λ (u : View P). u.trail) new
        ∙ ap (λ (x : Found). v.trail ++ took (event.Read v.number place f) x ∷ []) is;
  }

  pub found_known : (cell : ℕ) → found ≡ finds.Field (field.Cell cell)
      → known_of w (length v.own.held) ≡ tells.found
  found_known cell is =
      let change = λ (x : Found).
      known_at (known_read (cells_in v.own.held) v.known place tells x) (length v.own.held) in
      let many = known_many fixed v s l mine in
      let cells : length v.known ≡ length (cells_in v.own.held) =
      many ∙ sym (length-map v.own.held (λ (p : Held). p.cell)) in
      let before = at_cell (told_more tells.here)
      (slice_index_or (cells_in v.own.held) place 0) (cells_in v.own.held) v.known in
      ap (λ (u : View P). known_of u (length v.own.held)) new
      ∙ ap change is
      ∙ get_or_push before tells.found knows.Nothing (length v.own.held)
      (at_cell_many (told_more tells.here)
      (slice_index_or (cells_in v.own.held) place 0) (cells_in v.own.held) v.known cells ∙ many)
