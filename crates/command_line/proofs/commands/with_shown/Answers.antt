use Rattle.std.proofs.Common.{refl}
use Rattle.std.proofs.lemmas.Result.{IfOk-weaker}
use Rattle.command_line.proofs.Rules.{more}
use Rattle.command_line.proofs.commands.with_shown.Goals as goal

pub returns : goal.returns
returns c =
    let history =
    more _ _ _ _ _ refl c.flag.ensures.rule
    (c.in_ok-arg.ensures.shape c.flag.ensures.own) in
    let stats =
    more _ _ _ _ _ history c.flag-2.ensures.rule
    (c.in_ok-arg-2.ensures.shape c.flag-2.ensures.own) in
    IfOk-weaker c.arg-3.result _ _
    (λ last adds. more _ _ _ _ _ stats c.names.ensures.rule (adds.shape c.names.ensures.own))
    c.arg-3.ensures
