use Rattle.std.proofs.Common.{◌<◌, ℕ, refl, sym, ◌∙◌, ap, subst}
use Rattle.std.proofs.lemmas.Bool.{and_from, lt-ltb}
use Rattle.cell_words.specs.declared.colours.Colour.TheVariants as colour
use Rattle.cell_words.specs.declared.controls.Stage.{Stage}
use Rattle.cell_words.specs.declared.controls.Stage.TheVariants as stage
use Rattle.core_machine.specs.Sweep.{is_black_found, is_fresh}
use Rattle.core_machine.specs.Words.{same_stage}
use Rattle.core_machine.specs.declared.events.Event.TheVariants as event
use Rattle.core_machine.specs.declared.events.Found.TheVariants as finds
use Rattle.core_machine.specs.declared.progress.Sweeping.{Sweeping}
use Rattle.collector.specs.Bound.{Bound, cells_of, control_of, part_of}
use Rattle.collector.specs.Counting.{frees, nothing}
use Rattle.collector.proofs.Joining.{does_after, does_and, does_still}
use Rattle.collector.proofs.Moving.{freed_after, freed_nothing}
use Rattle.collector.proofs.collecting.Collector.settle.Goals as goal

pub sweep_look_once-requires : goal.sweep_look_once-requires
sweep_look_once-requires g c =
    record {
      may = and_from _ _ (and_from _ _ (and_from _ _
          (ap (λ (s : Stage). same_stage s stage.Sweep) c.requires.stage)
          (lt-ltb _ _ c.requires.there))
          (ap (λ (s : Sweeping). is_fresh s) c.requires.fresh))
          refl;
    }

pub free_white-requires : goal.free_white-requires
free_white-requires g c =
    record { found = ap (λ (x : Bound _). (part_of x).sweep) c.in-White.ensures.told }

pub whiten_once-requires : goal.whiten_once-requires
whiten_once-requires g c =
    record {
      may = ap (λ (x : Bound _). is_black_found (part_of x).sweep) c.in-Black.ensures.told;
    }

pub returns-in-Blue : goal.returns-in-Blue
returns-in-Blue g c =
    let a = c.args.self.now in
    let b = c.sweep_look_once.new.self in
    let told = c.in-Blue.ensures.told in
    let does = does_still a b event.SweepLook (finds.Colour colour.Blue) refl refl told
    c.in-Blue.ensures.known in
    record {
      does = does;
      control = ap (λ (x : Bound _). control_of x) told;
      done = ap (λ (x : Bound _). (part_of x).sweep) told;
      freed = freed_nothing nothing a b refl does;
      cell = tt;
    }

pub returns-in-White : goal.returns-in-White
returns-in-White g c =
    let a = c.args.self.now in
    let m = c.sweep_look_once.new.self in
    let b = c.free_white.new.self in
    let told = c.in-White.ensures.told in
    let looks = does_still a m event.SweepLook (finds.Colour colour.White) refl refl told
    c.in-White.ensures.known in
    let so = c.free_white.ensures in
    let here = so.cell ∙ ap (λ (x : Bound _). (control_of x).position) told in
    record {
      does = does_after (frees 1) a m b looks so.does;
      control = so.control ∙ ap (λ (x : Bound _). control_of x) told;
      done = so.done;
      freed = freed_after nothing (frees 1) a m b refl looks so.does ∙ so.freed;
      cell = subst (λ (k : ℕ). k < cells_of a) (sym here) c.requires.there;
    }

pub returns-in-Black : goal.returns-in-Black
returns-in-Black g c =
    let a = c.args.self.now in
    let m = c.sweep_look_once.new.self in
    let b = c.whiten_once.new.self in
    let told = c.in-Black.ensures.told in
    let on = c.whiten_once.ensures.told in
    let does = does_and nothing a m b
    (does_still a m event.SweepLook (finds.Colour colour.Black) refl refl told
    c.in-Black.ensures.known)
    (does_still m b event.Whiten finds.Stored refl refl on c.whiten_once.ensures.known) in
    record {
      does = does;
      control = ap (λ (x : Bound _). control_of x) on
          ∙ ap (λ (x : Bound _). control_of x) told;
      done = ap (λ (x : Bound _). (part_of x).sweep) on;
      freed = freed_nothing nothing a b refl does;
      cell = tt;
    }
