-- What the words of an image show.
use Rattle.std.proofs.Common.{◌≡◌, ◌<◌, ◌≤◌, ℕ, ap, arith, subst, sym, ◌∙◌, length, slice_index, List}
use Rattle.std.proofs.Common.{Bool, [], ◌∷◌, zero, suc}
use mathlib.Core.Option.{some}
use lib.ListN.{get_elem?}
use Rattle.atomic_table.specs.Table as table
use Rattle.cell_words.specs.Colour.{IsColourWord, pack_colour_of}
use Rattle.cell_words.specs.Control.{IsControlWord, IsValidControl, pack_control_of}
use Rattle.cell_words.specs.Field.{IsFieldWord, IsValidField, pack_field_of}
use Rattle.core_machine.specs.State.{State, colour_of, field_of, greatest_cells}
use Rattle.core_machine.specs.Table.{Word, HasWord, TheControl, ColourOf, FieldOf, index_of}
use Rattle.core_machine.specs.Table.{number_in, words_of}
use Rattle.core_machine.proofs.HasWords.{control_valid, field_valid}
use Rattle.core_machine.proofs.Table.{word_below, word_read}
use Rattle.heap_rule.specs.Boxes.{Map}
use Rattle.heap_rule.specs.Rule.{Kept}
use Rattle.heap_rule.specs.Shape.{Shape}
use Rattle.heap_rule.specs.declared.view.View.{View}
use Rattle.heap_rule.proofs.Stepping.{core_shaped, core_words}
use Rattle.heap_table.specs.Images.{ImageView, IsImage, Shows}

-- what a reader of a list finds there
pub read_there : (xs : List ℕ) (n x : ℕ) → get_elem? xs n ≡ some x → x ≡ slice_index xs n
read_there [] n x h = absurd cc
read_there (y ∷ xs) zero x h = cc
read_there (y ∷ xs) (suc n) x h = read_there xs n x h

module _ (i : ImageView) (s : State) (shows : Shows i s) where
  word_there : (w : Word) → HasWord s w → index_of i.mutators w < length i.words
  word_there w has =
      let at : index_of s.mutators w < length (words_of s) = word_below s shows.in_range.shape w has in
      subst (λ (ws : List ℕ). index_of i.mutators w < length ws) (sym shows.words_are)
      (subst (λ (n : ℕ). index_of n w < length (words_of s)) shows.mutators_are at)

  word_is : (w : Word) → HasWord s w → slice_index i.words (index_of i.mutators w) ≡ number_in s w
  word_is w has =
      ap (λ (ws : List ℕ). slice_index ws (index_of i.mutators w)) shows.words_are
      ∙ ap (λ (n : ℕ). slice_index (words_of s) (index_of n w)) (sym shows.mutators_are)
      ∙ word_read s shows.in_range.shape w has

  cell_there : (c : ℕ) → c < i.cells → c < s.cells
  cell_there c lt = subst (λ (n : ℕ). c < n) (sym shows.cells_are) lt

-- The word of the control, of a colour, of a field: it lies there, it is one of such a value, and
-- whatever state is shown has it.

pub control_there : (i : ImageView) → IsImage i → 0 < length i.words
control_there i is = word_there i is.0 is.1 TheControl tt

pub control_word : (i : ImageView) → IsImage i → IsControlWord (slice_index i.words 0)
control_word i is = (is.0.control, control_valid is.0 is.1.in_range, sym (word_is i is.0 is.1 TheControl tt))

pub colour_there : (i : ImageView) → IsImage i → (c : ℕ) → c < i.cells
    → index_of i.mutators (ColourOf c) < length i.words
colour_there i is c lt = word_there i is.0 is.1 (ColourOf c) (cell_there i is.0 is.1 c lt)

pub colour_word : (i : ImageView) → IsImage i → (c : ℕ) → c < i.cells
    → IsColourWord (slice_index i.words (index_of i.mutators (ColourOf c)))
colour_word i is c lt = (
  colour_of is.0 c,
  sym (word_is i is.0 is.1 (ColourOf c) (cell_there i is.0 is.1 c lt)),
)

pub field_there : (i : ImageView) → IsImage i → (c f : ℕ) → c < i.cells → f < 6
    → index_of i.mutators (FieldOf c f) < length i.words
field_there i is c f lt small =
    word_there i is.0 is.1 (FieldOf c f) (cell_there i is.0 is.1 c lt, small)

pub field_word : (i : ImageView) → IsImage i → (c f : ℕ) → c < i.cells → f < 6
    → IsFieldWord (slice_index i.words (index_of i.mutators (FieldOf c f)))
field_word i is c f lt small = (
  field_of is.0 c f,
  field_valid is.0 is.1.in_range is.1.has_words c f,
  sym (word_is i is.0 is.1 (FieldOf c f) (cell_there i is.0 is.1 c lt, small)),
)

-- and of any state that they show
pub shows_control : (i : ImageView) (s : State) → Shows i s
    → IsValidControl s.control × (pack_control_of s.control ≡ slice_index i.words 0)
shows_control i s shows =
    (control_valid s shows.in_range, sym (word_is i s shows TheControl tt))

pub shows_colour : (i : ImageView) (s : State) → Shows i s → (c : ℕ) → c < i.cells
    → pack_colour_of (colour_of s c) ≡ slice_index i.words (index_of i.mutators (ColourOf c))
shows_colour i s shows c lt = sym (word_is i s shows (ColourOf c) (cell_there i s shows c lt))

pub shows_field : (i : ImageView) (s : State) → Shows i s → (c f : ℕ) → c < i.cells → f < 6
    → IsValidField (field_of s c f)
    × (pack_field_of (field_of s c f) ≡ slice_index i.words (index_of i.mutators (FieldOf c f)))
shows_field i s shows c f lt small = (
  field_valid s shows.in_range shows.has_words c f,
  sym (word_is i s shows (FieldOf c f) (cell_there i s shows c lt, small)),
)

-- the words of a table with the rule are an image
pub image_of : {P : Type 0} (opens : ℕ → ℕ → P) (holds : Map → List P → Type 0) (fixed : ℕ → Bool)
    (h : Shape) {S : Type 0} (s : table.State S (View P)) (words : List ℕ) (cells mutators : ℕ)
    → Kept opens holds fixed h s → s.words ≡ words → h.cells ≡ cells → h.mutators ≡ mutators
    → IsImage record { words = words; cells = cells; mutators = mutators }
image_of opens holds fixed h s words cells mutators k are many some_many =
    let l = k.ledger in
    let few : h.cells ≤ greatest_cells = k.stands.sound.few in
    let is = k.stands.cells in (
      l.core,
      record {
        in_range = record {
          shape = core_shaped holds fixed h l k.stands;
          few_cells = omega (arith, few, is);
        };
        has_words = core_words holds fixed h l k.stands;
        words_are = sym are ∙ k.words_are;
        cells_are = k.stands.cells ∙ many;
        mutators_are = k.stands.mutators ∙ some_many;
      },
    )
