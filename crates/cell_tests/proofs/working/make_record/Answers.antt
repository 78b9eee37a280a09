use Rattle.std.proofs.Common.{◌∙◌, refl, sym}
use Rattle.cell_tests.proofs.Rounds.{claimed, filled, kept_one, looked, missed, sealed}
use Rattle.cell_tests.proofs.Sums.{picks_still}
use Rattle.cell_words.specs.declared.fields.Field.TheVariants as field
use Rattle.core_machine.specs.declared.events.Event.TheVariants as event
use Rattle.cell_tests.proofs.working.make_record.Goals as goal

pub fill-requires-clause-rule : goal.fill-requires-clause-rule
fill-requires-clause-rule c =
    picks_still c.claim.new.self.me
    (event.Fill c.claim.new.self.me.number 1 0 (field.Num 7)) (λ s l. refl)

pub returns-then-claim-clause-within : goal.returns-then-claim-clause-within
returns-then-claim-clause-within c =
    let heap = c.args.heap.now in
    let sum = c.args.sum in
    let seen = looked heap sum c.args.seat.now c.requires.within.0 c.requires.within.1
    c.look.result c.look.new.self c.look.ensures.told in
    let told = c.claim.ensures.told in
    let raw = claimed heap sum c.look.new.self c.look.result seen c.args.cell told.0
    (sym c.if-claim.true ∙ told.1) c.claim.new.self told.2 in
    let full = filled heap sum c.claim.new.self _ c.args.cell _ raw c.fill.new.self
    c.fill.ensures.told in
    let record_now = sealed heap sum c.fill.new.self _ c.args.cell full.0 full.1 c.seal.new.self
    c.seal.ensures.told in
    kept_one heap sum c.seal.new.self _ c.args.cell record_now.0 record_now.1 c.keep.new.self
    c.keep.ensures.told

pub returns-else-claim-clause-within : goal.returns-else-claim-clause-within
returns-else-claim-clause-within c =
    let heap = c.args.heap.now in
    let sum = c.args.sum in
    let seen = looked heap sum c.args.seat.now c.requires.within.0 c.requires.within.1
    c.look.result c.look.new.self c.look.ensures.told in
    let told = c.claim.ensures.told in
    missed heap sum c.look.new.self c.look.result seen c.args.cell told.0
    (sym c.if-claim.false ∙ told.1) c.claim.new.self told.2
