use Rattle.std.proofs.lemmas.Result.{IfOk-weaker}
use Rattle.command_line.proofs.Rules.{more}
use Rattle.command_line.proofs.commands.gen_command.Goals as goal

pub returns : goal.returns
returns c =
    let start =
    more _ _ _ _ _ c.bare_command.ensures c.number.ensures.rule
    (c.in_ok-arg.ensures.shape c.number.ensures.own) in
    let clients =
    more _ _ _ _ _ start c.number-2.ensures.rule
    (c.in_ok-arg-2.ensures.shape c.number-2.ensures.own) in
    let commands =
    more _ _ _ _ _ clients c.number-3.ensures.rule
    (c.in_ok-arg-3.ensures.shape c.number-3.ensures.own) in
    IfOk-weaker c.arg-4.result _ _
    (λ last adds. more _ _ _ _ _ commands c.option.ensures.rule (adds.shape c.option.ensures.own))
    c.arg-4.ensures
