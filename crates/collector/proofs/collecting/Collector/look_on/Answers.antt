use Rattle.std.proofs.Common.{Some, None, refl, ◌∙◌, ap, arith}
use Rattle.core_machine.specs.Collector.{Collector}
use Rattle.heap_rule.specs.Shape.{Shape}
use Rattle.collector.proofs.AllTold.{does_see}
use Rattle.collector.proofs.collecting.Collector.look_on.Goals as goal

pub returns-in-Some : goal.returns-in-Some
returns-in-Some g c =
    let seen = c.in-Some.ensures.seen in
    let does = does_see seen.found _ (Some c.in-Some.cell) c.args.self.now c.see_on.new.self refl
    c.requires.there c.requires.empty seen.none_gray seen.many seen.there c.in-Some.ensures.heap
    c.in-Some.ensures.stack seen.told in
    record {
      does = does;
      control = seen.control;
      kept = record {
        answered = ap (λ (x : Collector). x.answered) seen.part;
        sweep = ap (λ (x : Collector). x.sweep) seen.part;
      };
      scan = ap (λ (x : Collector). x.scan) seen.part;
      within = omega (
        arith,
        seen.there,
        ap (λ (x : Collector). x.cursor) seen.part,
        ap (λ (h : Shape). h.cells) does.kept.shape,
      );
    }

pub returns-in-None : goal.returns-in-None
returns-in-None g c =
    let seen = c.in-None.ensures.seen in
    let does = does_see seen.found _ None c.args.self.now c.see_on.new.self refl
    c.requires.there c.requires.empty seen.none_gray seen.many seen.there c.in-None.ensures.heap
    c.in-None.ensures.stack seen.told in
    record {
      does = does;
      control = seen.control;
      kept = record {
        answered = ap (λ (x : Collector). x.answered) seen.part;
        sweep = ap (λ (x : Collector). x.sweep) seen.part;
      };
      scan = ap (λ (x : Collector). x.scan) seen.part ∙ c.requires.scan;
      within = omega (
        arith,
        ap (λ (x : Collector). x.cursor) seen.part,
        ap (λ (h : Shape). h.cells) does.kept.shape,
      );
    }
