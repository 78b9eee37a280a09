use Rattle.std.proofs.Common.{subst}
use Rattle.std.specs.Prelude.{MatchOption}
use Rattle.heap_c.specs.Turns.{NamesNone, NamesPlace}
use Rattle.heap_c.specs.declared.turns.Turns.{Turns}
use Rattle.heap_c.proofs.mine.Mine.place.Goals as goal

pub returns : goal.returns
returns c = record {
  names = subst (λ (t : Turns). MatchOption c.place.result (NamesNone t c.args.n)
      (NamesPlace t c.args.n)) c.turns.ensures.turns c.place.ensures.names;
}
