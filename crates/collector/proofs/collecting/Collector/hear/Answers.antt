use Rattle.std.proofs.Common.{◌+◌, Bool, refl, ◌∙◌, ap}
use Rattle.core_machine.specs.Collector.{Collector, answered_by}
use Rattle.collector.specs.Bound.{part_of}
use Rattle.collector.specs.Counting.{nothing}
use Rattle.collector.proofs.Hearing.{hears_does}
use Rattle.collector.proofs.Joining.{does_as}
use Rattle.collector.proofs.Moving.{one_more, same_mutators, still_asking}
use Rattle.collector.proofs.collecting.Collector.hear.Goals as goal

pub returns-then-tried : goal.returns-then-tried
returns-then-tried g c =
    let a = c.args.self.now in
    let b = c.try_answer-tried.new.self in
    let part = c.try_answer-tried.ensures.part
    ∙ ap (λ (x : Bool). answered_by (part_of a) c.args.heard x) c.if-tried.true in
    let does = hears_does c.try_answer-tried.result.over c.args.heard (c.args.heard + 1) a b
    c.try_answer-tried.ensures.hears in
    record {
      asking = one_more c.args.heard a b c.requires.mutator (same_mutators a b does.kept) part
          c.requires.asking;
      does = does;
      told = does_as nothing c.nothing.result a b c.nothing.ensures.report does;
      control = c.try_answer-tried.ensures.control;
      cursor = ap (λ (p : Collector). p.cursor) part;
      stops = tt;
      freed = refl;
      on = refl;
      came = c.nothing.ensures.report;
    }

pub returns : goal.returns
returns g c =
    let a = c.args.self.now in
    let b = c.try_answer-tried.new.self in
    let part = c.try_answer-tried.ensures.part
    ∙ ap (λ (x : Bool). answered_by (part_of a) c.args.heard x) c.if-tried.false in
    let does = hears_does c.try_answer-tried.result.over c.args.heard (c.args.heard + 1) a b
    c.try_answer-tried.ensures.hears in
    record {
      asking = still_asking c.args.heard a b (same_mutators a b does.kept)
          (ap (λ (p : Collector). p.answered) part)
          (ap (λ (p : Collector). p.scan) part ∙ c.requires.asking.scan) c.requires.asking;
      does = does;
      told = does_as nothing c.nothing-2.result a b c.nothing-2.ensures.report does;
      control = c.try_answer-tried.ensures.control;
      cursor = ap (λ (p : Collector). p.cursor) part;
      stops = record { asks = c.requires.asks; there = c.requires.mutator; same = refl };
      freed = refl;
      on = refl;
      came = c.nothing-2.ensures.report;
    }
