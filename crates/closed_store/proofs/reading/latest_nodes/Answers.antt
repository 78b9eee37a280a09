use Rattle.std.proofs.Common.{◌∙◌, ap}
use Rattle.cell_words.specs.declared.fields.Field.{Field}
use Rattle.closed_heap.specs.Words.{number_in}
use Rattle.closed_store.specs.Words.{field_behind}
use Rattle.closed_store.proofs.Nodes.{latest_count}
use Rattle.closed_store.proofs.reading.latest_nodes.Goals as goal

pub returns : goal.returns
returns c = record {
  nodes = λ s keep trees shows versions.
      let latest = c.field_at-latest.ensures.field s shows in
      let root = c.followed-root.ensures.field s shows
      ∙ ap (λ (value : Field). field_behind s value 1) latest in
      let nodes = c.followed.ensures.field s shows
      ∙ ap (λ (value : Field). field_behind s value 2) root in
      c.number_of.ensures.number ∙ ap number_in nodes ∙ latest_count s keep trees versions;
}
