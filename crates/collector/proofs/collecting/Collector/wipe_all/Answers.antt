use Rattle.std.proofs.Common.{◌≡◌, ℕ, refl, ◌∙◌, ap, arith}
use Rattle.std.proofs.lemmas.Bool.{lt-ltb}
use Rattle.core_machine.specs.Collector.{Collector, wiped}
use Rattle.core_machine.specs.Sweep.{may_wipe}
use Rattle.core_machine.specs.declared.events.Event.TheVariants as event
use Rattle.core_machine.specs.declared.events.Found.TheVariants as finds
use Rattle.core_machine.specs.declared.progress.Sweeping.{Sweeping}
use Rattle.core_machine.specs.declared.progress.Sweeping.TheVariants as sweeping
use Rattle.collector.specs.Bound.{Bound, control_of, part_of}
use Rattle.collector.specs.Counting.{nothing}
use Rattle.collector.proofs.Joining.{does_and, does_none, does_still}
use Rattle.collector.proofs.collecting.Collector.wipe_all.Goals as goal

pub loop-field-init : goal.loop-field-init
loop-field-init g c = (
  does_none c.args.self.now,
  refl,
  ap (λ (s : Sweeping). record (part_of c.args.self.now) { sweep = s }) c.requires.found,
)

pub wipe_once-requires : goal.wipe_once-requires
wipe_once-requires g c =
    record {
      may = ap (λ (p : Collector). may_wipe p.sweep) c.loop-field.invariant.2
          ∙ lt-ltb c.loop-field._field 6 c.loop-field-test.true;
    }

pub loop-field-preserved : goal.loop-field-preserved
loop-field-preserved g c = (
  does_and nothing c.args.self.now c.loop-field.self c.wipe_once.new.self
      c.loop-field.invariant.0
      (does_still c.loop-field.self c.wipe_once.new.self event.Wipe finds.Stored refl refl
      c.wipe_once.ensures.told c.wipe_once.ensures.known),
  ap (λ (x : Bound _). control_of x) c.wipe_once.ensures.told ∙ c.loop-field.invariant.1,
  ap (λ (x : Bound _). part_of x) c.wipe_once.ensures.told
      ∙ ap (λ (p : Collector). record p { sweep = wiped p.sweep }) c.loop-field.invariant.2,
)

pub returns-clause-part : goal.returns-clause-part
returns-clause-part g c =
    let last : c.loop-field._field ≡ 6 =
    omega (arith, c.loop-field-test.false, c.loop-field.auto._field-end) in
    c.loop-field.invariant.2
    ∙ ap (λ (k : ℕ). record (part_of c.args.self.now) { sweep = sweeping.Wiping k }) last
