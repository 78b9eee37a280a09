use Rattle.std.proofs.Common.{[], ◌∷◌, ◌++◌, ℕ, List, refl, sym, ◌∙◌, ap}
use Rattle.cell_words.specs.declared.controls.Control.{Control}
use Rattle.collector.specs.Bound.{Bound, control_of, part_of}
use Rattle.collector.specs.Counting.{frees, nothing}
use Rattle.collector.specs.Offering.{freed_since}
use Rattle.collector.proofs.Joining.{does_after}
use Rattle.collector.proofs.Moving.{free_frees, freed_nothing, freed_two}
use Rattle.collector.proofs.Offered.{free_does}
use Rattle.collector.proofs.collecting.Collector.free_white.Goals as goal

pub returns : goal.returns
returns g c =
    let a = c.args.self.now in
    let m = c.wipe_all.new.self in
    let b = c.free_once.new.self in
    let told = c.free_once.ensures.told in
    let frees_it = free_does m b told c.free_once.ensures.known in
    record {
      cell = ap (λ (x : Control). x.position) c.control-cell.ensures.control;
      does = does_after (frees 1) a m b c.wipe_all.ensures.does frees_it;
      control = ap (λ (x : Bound _). control_of x) told ∙ c.wipe_all.ensures.control;
      done = ap (λ (x : Bound _). (part_of x).sweep) told;
      freed = freed_two nothing (frees 1) a m b c.wipe_all.ensures.does frees_it
          ∙ ap (λ (cells : List ℕ). cells ++ freed_since m b)
          (freed_nothing nothing a m refl c.wipe_all.ensures.does)
          ∙ free_frees m b told
          ∙ ap (λ (x : Control). x.position ∷ []) c.wipe_all.ensures.control
          ∙ sym (ap (λ (x : Control). x.position ∷ []) c.control-cell.ensures.control);
    }
