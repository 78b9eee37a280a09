use Rattle.std.proofs.Common.{◌^◌}
use Rattle.std.proofs.lemmas.Bool.{lt-ltb}
use Rattle.heap_rule.specs.NoRule.{anything_holds, no_field_is_fixed}
use Rattle.mutator_events.specs.declared.values.Value.TheVariants as values
use Rattle.mutator_seat.proofs.Staying.{store_stays}
use Rattle.cell_tests.proofs.Anchored.{may_any, picks_any, stored_anchor}
use Rattle.cell_tests.proofs.storing.store_number.Goals as goal

pub store-stored-requires-clause-may : goal.store-stored-requires-clause-may
store-stored-requires-clause-may c =
    let one = c.requires.anchor in
    may_any c.args.mutator.now.seat.me c.args.number
    (lt-ltb c.args.number (2 ^ 62) c.requires.small) one.inside one.held one.fits
    (c.held_len-many.ensures.anchor one.inside)

pub store-stored-requires-clause-rule : goal.store-stored-requires-clause-rule
store-stored-requires-clause-rule c = picks_any _ _ c.args.mutator.now 0 0 (values.Num c.args.number)

pub returns : goal.returns
returns c =
    let was = c.args.mutator.now in
    record {
      anchor = stored_anchor c.args.heap.now was c.store-stored.new.self c.requires.anchor
          (store_stays anything_holds no_field_is_fixed _ _ was c.store-stored.new.self 0 0
          (values.Num c.args.number) c.store-stored.result c.store-stored.ensures.made
          c.store-stored.ensures.moved);
    }
