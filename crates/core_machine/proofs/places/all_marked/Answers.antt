use Rattle.std.proofs.Common.{rules, tests}
use Rattle.std.proofs.lemmas.Iterator.{YieldsList-from_slice}
use Rattle.std.proofs.lemmas.Iterator.Search.{all_from_yields_List}
use Rattle.core_machine.proofs.places.all_marked.Goals as goal

-- every place is looked at
pub returns : goal.returns
returns c =
    record {
      marked = all_from_yields_List (λ place. place.marked) _ _ _ c.all.ensures.ran
          (YieldsList-from_slice c.args.held.now cc) (λ x b q k. search (rules, tests));
    }
