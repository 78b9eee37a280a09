use Rattle.std.proofs.Common.{◌<◌, length, subst, sym}
use Rattle.core_machine.proofs.Told.{told}
use Rattle.core_machine.specs.Own.{having_fetched}
use Rattle.core_machine.specs.Parts.{Parts}
use Rattle.core_machine.proofs.mutator_parts.MutatorParts.fetch.Goals as goal

pub returns : goal.returns
returns c =
    let within = subst (λ (p : Parts). c.args.i < length p.owns)
    (sym c.self.view_is) c.requires.mutator in
    rw (← c.self.view_is) (record {
      parts = told (λ own. having_fetched own c.args.place c.args.f c.args.found)
          c.self.inside.parts.items c.args.i _ _ within
          c.index_mut-part.ensures.value c.fetch.ensures.part;
    })
