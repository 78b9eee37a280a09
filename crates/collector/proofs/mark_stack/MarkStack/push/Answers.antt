use Rattle.std.proofs.Common.{ap, sym, ◌∙◌, arith}
use Rattle.collector.specs.Stack.{Stack, has_room}
use Rattle.collector.proofs.Stacked.{pushed_gone, pushed_there, room_gone, room_there}
use Rattle.collector.proofs.mark_stack.MarkStack.push.Goals as goal

pub returns-then-self-len-clause-room : goal.returns-then-self-len-clause-room
returns-then-self-len-clause-room c =
    sym (sym (ap (λ (s : Stack). has_room s) c.self.view_is)
    ∙ room_there c.self.inside.items.items c.self.inside.height (omega arith))

pub returns-then-self-len-clause-pushed : goal.returns-then-self-len-clause-pushed
returns-then-self-len-clause-pushed c =
    pushed_there c.self.inside.items.items c.args.cell c.self.inside.height c.args.self.now
    c.self.view_is (omega arith)

pub returns-else-self-len-clause-room : goal.returns-else-self-len-clause-room
returns-else-self-len-clause-room c =
    sym (sym (ap (λ (s : Stack). has_room s) c.self.view_is)
    ∙ room_gone c.self.inside.items.items c.self.inside.height (omega arith))

pub returns-else-self-len-clause-pushed : goal.returns-else-self-len-clause-pushed
returns-else-self-len-clause-pushed c =
    pushed_gone c.self.inside.items.items c.args.cell c.self.inside.height c.args.self.now
    c.self.view_is (omega arith)
