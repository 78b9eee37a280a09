use Rattle.std.proofs.Common.{All, List, ap, length, subst, sym, ◌∙◌}
use Rattle.minor_heap.specs.declared.fields.MinorRef.{MinorRef}
use Rattle.minor_heap.specs.Nursery.{Stands}
use Rattle.aged_nursery.specs.Survivors.{AreSurvivors}
use Rattle.local_references.specs.Roots.{private_of}
use Rattle.local_references.proofs.Ranks.{private_now, private_stand, refs_many, roots_keep}
use Rattle.local_references.proofs.moving.age_roots.Goals as goal

pub age-requires-clause-stand : goal.age-requires-clause-stand
age-requires-clause-stand c =
    subst (λ (refs : List MinorRef). All (Stands c.args.nursery.now.heap.records) refs)
    (sym c.requires.private)
    (private_stand c.args.nursery.now.heap.records c.args.slots.now c.requires.stand)

pub put_private-requires : goal.put_private-requires
put_private-requires c = record {
  many = refs_many c.args.nursery.now.heap.records c.age.new.self.heap.records c.args.refs.now
      c.age.new.roots c.age.ensures.survivors
      ∙ ap (λ (refs : List MinorRef). length refs) c.requires.private;
}

pub returns-clause-keep : goal.returns-clause-keep
returns-clause-keep c =
    let before = c.args.nursery.now.heap.records in
    let after = c.age.new.self.heap.records in
    let refs = c.age.new.roots in
    roots_keep before after c.args.slots.now c.put_private.new.slots refs
    (subst (λ (from : List MinorRef). AreSurvivors before from after refs) c.requires.private
    c.age.ensures.survivors) c.put_private.ensures.moved

pub returns-clause-survivors : goal.returns-clause-survivors
returns-clause-survivors c =
    let before = c.args.nursery.now.heap.records in
    let after = c.age.new.self.heap.records in
    let old = c.args.slots.now in
    let refs = c.age.new.roots in
    let many = refs_many before after c.args.refs.now refs c.age.ensures.survivors
    ∙ ap (λ (rs : List MinorRef). length rs) c.requires.private in
    subst (λ (to : List MinorRef). AreSurvivors before (private_of old) after to)
    (sym (private_now old refs c.put_private.new.slots many c.put_private.ensures.moved))
    (subst (λ (from : List MinorRef). AreSurvivors before from after refs) c.requires.private
    c.age.ensures.survivors)

pub returns-clause-many : goal.returns-clause-many
returns-clause-many c = c.put_private.ensures.moved.many

pub returns-clause-refs : goal.returns-clause-refs
returns-clause-refs c =
    refs_many c.args.nursery.now.heap.records c.age.new.self.heap.records c.args.refs.now
    c.age.new.roots c.age.ensures.survivors
