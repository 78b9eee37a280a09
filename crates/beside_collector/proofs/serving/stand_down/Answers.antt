use Rattle.std.proofs.Common.{◌∙◌, ap, subst}
use Rattle.beside_collector.specs.Serving.{TurnOf, gone_off}
use Rattle.beside_collector.specs.declared.keeper.Keeper.{Keeper}
use Rattle.beside_collector.specs.declared.serving.Turn.{Turn}
use Rattle.beside_collector.proofs.Working.{stands_off}
use Rattle.beside_collector.proofs.serving.stand_down.Goals as goal

pub returns-in-HandedBack : goal.returns-in-HandedBack
returns-in-HandedBack g c =
    let was = c.args.was.now.value in
    let keeper = c.in-HandedBack.keeper in
    let same = subst (λ (t : Turn _). TurnOf c.args.cycles was t) c.in-HandedBack.is
    c.requires.turn in
    record {
      stands = stands_off c.args.heap.now c.args.queue.now c.args.cycles was
          record { seat = c.duty.new.self; stack = keeper.stack; pass = keeper.pass }
          c.requires.keeper
          (c.duty.ensures.told ∙ ap (λ (k : Keeper _). gone_off k.seat) same)
          (ap (λ (k : Keeper _). k.pass) same);
    }
