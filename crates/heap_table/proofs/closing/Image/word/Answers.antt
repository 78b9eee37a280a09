use Rattle.std.proofs.Common.{◌∙◌, ap, slice_index}
use Rattle.heap_table.specs.Images.{ImageView}
use Rattle.heap_table.proofs.Shown.{read_there}
use Rattle.heap_table.proofs.closing.Image.word.Goals as goal

pub returns : goal.returns
returns c = record {
  word = read_there _ c.args.index c.word.result c.word.ensures
      ∙ ap (λ (i : ImageView). slice_index i.words c.args.index) c.self.view_is;
}
