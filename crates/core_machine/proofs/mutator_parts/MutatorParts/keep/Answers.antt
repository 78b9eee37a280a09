use Rattle.std.proofs.Common.{◌<◌, length, subst, sym}
use Rattle.core_machine.proofs.Told.{told}
use Rattle.core_machine.specs.Own.{keeping}
use Rattle.core_machine.specs.Parts.{Parts}
use Rattle.core_machine.proofs.mutator_parts.MutatorParts.keep.Goals as goal

pub returns : goal.returns
returns c =
    let within = subst (λ (p : Parts). c.args.i < length p.owns)
    (sym c.self.view_is) c.requires.mutator in
    rw (← c.self.view_is) (record {
      parts = told (λ own. keeping own c.args.count c.args.from c.args.copies)
          c.self.inside.parts.items c.args.i _ _ within
          c.index_mut-part.ensures.value c.keep.ensures.part;
    })
