use Rattle.std.proofs.Common.{◌+◌, Bool, ap, sym}
use Rattle.std.specs.Prelude.{◌||◌, nat_le}
use Rattle.mutator_seat.proofs.claiming.decides.Goals as goal

pub returns-else-not-control : goal.returns-else-not-control
returns-else-not-control c = record {
  decides = ap (λ (b : Bool). b || nat_le (c.args.began + 2) c.args.control.cycles)
      (sym c.if-not-control.false);
}
