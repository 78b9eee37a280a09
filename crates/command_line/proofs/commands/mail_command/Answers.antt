use Rattle.std.proofs.lemmas.Result.{IfOk-weaker}
use Rattle.command_line.proofs.Rules.{more}
use Rattle.command_line.proofs.commands.mail_command.Goals as goal

pub returns : goal.returns
returns c =
    let cells =
    more _ _ _ _ _ c.bare_command.ensures c.option.ensures.rule
    (c.in_ok-arg.ensures.shape c.option.ensures.own) in
    let cycles =
    more _ _ _ _ _ cells c.option-2.ensures.rule
    (c.in_ok-arg-2.ensures.shape c.option-2.ensures.own) in
    IfOk-weaker c.arg-3.result _ _
    (λ last adds. more _ _ _ _ _ cycles c.names.ensures.rule (adds.shape c.names.ensures.own))
    c.arg-3.ensures
