use Rattle.std.proofs.Common.{◌∙◌, subst, sym}
use Rattle.cell_words.specs.Control.{IsControlWord}
use Rattle.heap_table.specs.Images.{IsImage}
use Rattle.heap_table.proofs.Shown.{control_there, control_word, shows_control}
use Rattle.heap_table.proofs.closing.Image.control.Goals as goal

pub word-requires : goal.word-requires
word-requires c = control_there c.args.self.now (subst IsImage c.self.view_is c.self.invariant.2)

pub control_of-requires : goal.control_of-requires
control_of-requires c =
    subst IsControlWord (sym c.word.ensures.word)
    (control_word c.args.self.now (subst IsImage c.self.view_is c.self.invariant.2))

pub returns : goal.returns
returns c = record {
  control = λ s shows.
      let is = shows_control c.args.self.now s shows in
      c.control_of.ensures.control s.control is.0 (is.1 ∙ sym c.word.ensures.word);
}
