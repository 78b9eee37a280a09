use Rattle.std.proofs.Common.{◌≡◌, ◌<◌, ◌+◌, ◌*◌, ◌∙◌, ap, length, subst, sym, slice_index}
use Rattle.cell_words.specs.Colour.{IsColourWord}
use Rattle.core_machine.specs.State.{colour_of}
use Rattle.heap_table.specs.Images.{ImageView, IsImage}
use Rattle.heap_table.proofs.Shown.{colour_there, colour_word, shows_colour}
use Rattle.heap_table.proofs.closing.Image.colour.Goals as goal

pub word-requires : goal.word-requires
word-requires c =
    subst (λ (i : ImageView). 1 + i.mutators + 7 * c.args.cell < length c.args.self.now.words)
    (sym c.self.view_is)
    (colour_there c.args.self.now (subst IsImage c.self.view_is c.self.invariant.2) c.args.cell
    c.requires.cell)

-- the number that was read, as contracts see it
found : (c : goal.After-word) → c.word.result
    ≡ slice_index c.args.self.now.words (1 + c.args.self.now.mutators + 7 * c.args.cell)
found c =
    c.word.ensures.word
    ∙ ap (λ (i : ImageView). slice_index c.args.self.now.words
    (1 + i.mutators + 7 * c.args.cell)) c.self.view_is

pub colour_of-requires : goal.colour_of-requires
colour_of-requires c =
    subst IsColourWord (sym (found c))
    (colour_word c.args.self.now (subst IsImage c.self.view_is c.self.invariant.2) c.args.cell
    c.requires.cell)

pub returns : goal.returns
returns c = record {
  colour = λ s shows.
      c.colour_of.ensures.colour (colour_of s c.args.cell)
      (shows_colour c.args.self.now s shows c.args.cell c.requires.cell ∙ sym (found c.before));
}
