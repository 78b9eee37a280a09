use Rattle.std.proofs.Common.{false, ℕ, replicate, sym, ◌∙◌, ap}
use Rattle.cell_words.specs.declared.controls.Stage.TheVariants as stage
use Rattle.collector.specs.Bound.{Bound, control_of}
use Rattle.collector.specs.Underway.{Begins}
use Rattle.collector.proofs.Moving.{begins_free, begins_kept, nobody_yet, same_mutators, steps_at}
use Rattle.collector.proofs.collecting.Collector.first_move.Goals as goal

pub returns : goal.returns
returns g c =
    let a = c.args.self.now in
    let b = c.begin.new.self in
    let begins : Begins a b = (c.begin.ensures.told, c.begin.ensures.known) in
    let kept = begins_kept a b begins in
    record {
      stops = λ heard. tt;
      moved =
          record {
            steps = steps_at stage.Sync1 0 b
                (ap (λ (x : Bound _). (control_of x).stage) c.begin.ensures.told)
                (nobody_yet b (c.begin.ensures.nobody
                ∙ ap (λ (n : ℕ). replicate n false) (sym (same_mutators a b kept)))
                c.begin.ensures.scan);
            told = begins;
            leads = λ start so_far never. absurd never;
            kept = kept;
            freed = begins_free a b begins;
            there = tt;
          };
    }
