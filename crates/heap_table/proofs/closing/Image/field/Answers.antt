use Rattle.std.proofs.Common.{◌≡◌, ◌<◌, ◌+◌, ◌*◌, ◌∙◌, ap, length, subst, sym, slice_index}
use Rattle.cell_words.specs.Field.{IsFieldWord}
use Rattle.core_machine.specs.State.{field_of}
use Rattle.heap_table.specs.Images.{ImageView, IsImage}
use Rattle.heap_table.proofs.Shown.{field_there, field_word, shows_field}
use Rattle.heap_table.proofs.closing.Image.field.Goals as goal

pub word-requires : goal.word-requires
word-requires c =
    subst (λ (i : ImageView). 1 + i.mutators + 7 * c.args.cell + 1 + c.args.i
    < length c.args.self.now.words)
    (sym c.self.view_is)
    (field_there c.args.self.now (subst IsImage c.self.view_is c.self.invariant.2) c.args.cell
    c.args.i c.requires.cell c.requires.field)

-- the number that was read, as contracts see it
found : (c : goal.After-word) → c.word.result
    ≡ slice_index c.args.self.now.words
    (1 + c.args.self.now.mutators + 7 * c.args.cell + 1 + c.args.i)
found c =
    c.word.ensures.word
    ∙ ap (λ (i : ImageView). slice_index c.args.self.now.words
    (1 + i.mutators + 7 * c.args.cell + 1 + c.args.i)) c.self.view_is

pub field_of-requires : goal.field_of-requires
field_of-requires c =
    subst IsFieldWord (sym (found c))
    (field_word c.args.self.now (subst IsImage c.self.view_is c.self.invariant.2) c.args.cell
    c.args.i c.requires.cell c.requires.field)

pub returns : goal.returns
returns c = record {
  field = λ s shows.
      let is = shows_field c.args.self.now s shows c.args.cell c.args.i c.requires.cell
      c.requires.field in
      c.field_of.ensures.field (field_of s c.args.cell c.args.i) is.0 (is.1 ∙ sym (found c.before));
}
