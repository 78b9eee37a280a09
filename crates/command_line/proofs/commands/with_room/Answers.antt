use Rattle.std.proofs.Common.{refl}
use Rattle.std.proofs.lemmas.Result.{IfOk-weaker}
use Rattle.command_line.proofs.Rules.{more}
use Rattle.command_line.proofs.commands.with_room.Goals as goal

pub returns : goal.returns
returns c =
    let cells =
    more _ _ _ _ _ refl c.option.ensures.rule
    (c.in_ok-arg.ensures.shape c.option.ensures.own) in
    let minor =
    more _ _ _ _ _ cells c.option-2.ensures.rule
    (c.in_ok-arg-2.ensures.shape c.option-2.ensures.own) in
    let keep =
    more _ _ _ _ _ minor c.option-3.ensures.rule
    (c.in_ok-arg-3.ensures.shape c.option-3.ensures.own) in
    let versions =
    more _ _ _ _ _ keep c.option-4.ensures.rule
    (c.in_ok-arg-4.ensures.shape c.option-4.ensures.own) in
    IfOk-weaker c.arg-5.result _ _
    (λ last adds. more _ _ _ _ _ versions c.option-5.ensures.rule
    (adds.shape c.option-5.ensures.own))
    c.arg-5.ensures
