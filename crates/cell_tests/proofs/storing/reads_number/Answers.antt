use Rattle.std.proofs.Common.{length, ◌∙◌, ap, arith}
use Rattle.mutator_events.proofs.Begun.{read_long}
use Rattle.heap_rule.specs.declared.keeping.NoRule.{NoRule}
use Rattle.heap_rule.specs.declared.view.View.{View}
use Rattle.cell_tests.proofs.Anchored.{read_anchor}
use Rattle.cell_tests.proofs.storing.reads_number.Goals as goal

pub read-found-requires-clause-may : goal.read-found-requires-clause-may
read-found-requires-clause-may c =
    let one = c.requires.anchor in
    record {
      inside = one.inside;
      there = omega (arith, one.held);
      payload = omega arith;
      room = omega (arith, one.held, one.fits);
    }

pub read-found-requires-clause-rule : goal.read-found-requires-clause-rule
read-found-requires-clause-rule c = λ s l passes mine can proper pass stands. tt

pub cut-requires-clause-inside : goal.cut-requires-clause-inside
cut-requires-clause-inside c =
    ap (λ (v : View NoRule). v.presence.inside) c.read-found.ensures.told.2.new
    ∙ c.requires.anchor.inside

pub cut-requires-clause-kept : goal.cut-requires-clause-kept
cut-requires-clause-kept c =
    let told = c.read-found.ensures.told in
    let long = read_long c.args.mutator.now.seat.me.own told.0 in
    let more = ap (λ (v : View NoRule). length v.own.held) told.2.new in
    omega (arith, long, more, c.requires.anchor.held)

pub returns : goal.returns
returns c =
    let told = c.read-found.ensures.told in
    record {
      anchor = read_anchor c.args.heap.now c.args.mutator.now c.read-found.new.self
          c.requires.anchor 0 told.0 c.cut.new.self c.read-found.ensures.heap
          c.read-found.ensures.table told.2 c.cut.ensures.told;
    }
