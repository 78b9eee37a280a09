use Rattle.std.proofs.Common.{sym, ◌∙◌, ap}
use Rattle.collector.specs.Stack.{Stack, is_empty}
use Rattle.collector.proofs.Stacked.{empty_of}
use Rattle.collector.proofs.mark_stack.MarkStack.is_empty.Goals as goal

pub returns : goal.returns
returns c = record {
  empty = sym (empty_of c.self.inside.items.items c.self.inside.height)
      ∙ ap (λ (s : Stack). is_empty s.cells) c.self.view_is;
}
