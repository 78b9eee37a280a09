-- The iterator gives the lines in order, and each turn of the loop is one lemma.
use Rattle.std.proofs.Common.{rules, tests, ◌∙◌, ap, subst, sym, ◌+◌, IsTrue, Ok}
use Rattle.std.proofs.lemmas.Iterator.Consumers.{YieldsList-turn, YieldsList-end, YieldsList-at}
use Rattle.std.proofs.lemmas.Iterator.Splits.{YieldsList-from_slice_split}
use Rattle.std.proofs.lemmas.List.{length_push}
use Rattle.core_replay.specs.Lines.{HasAllowedSizes}
use Rattle.core_replay.specs.ScheduleValue.{are_sizes}
use Rattle.core_replay.specs.declared.start.Sizes.{Sizes}
use Rattle.core_replay.proofs.Lines.{few_more, few_still, goes_past, starts, goes_on, stops}
use Rattle.core_replay.proofs.Lines.{ends_started, ends_unstarted, of_same}
use Rattle.core_replay.proofs.schedule.read_schedule.Goals as goal

pub loop-line-preserved-in-Ok-Nothing : goal.loop-line-preserved-in-Ok-Nothing
loop-line-preserved-in-Ok-Nothing c =
    let pieces = YieldsList-from_slice_split _ _ c.args.bytes.now c.split-line-items.ensures.rest
    c.split-line-items.ensures.done c.split-line-items.ensures.closure
    (λ x r q k. search (rules, tests)) in
    let lines = YieldsList-at c.into_iter-line-iterator.ensures.into_iter_gives pieces in
    let this = YieldsList-turn lines c.loop-line.yielded _ c.loop-line.yielded_by _ _ c.in-Some.line
    c.in-Some.is c.next.ensures.steps in
    let reads = sym c.in-Ok-Nothing.ensures.reading ∙ ap Ok c.in-Ok-Nothing.field-0-is in
    let past = goes_past _ _ _ _ _ _ this.0 this.1 reads c.loop-line.invariant.so_far in
    let longer = length_push c.loop-line.yielded c.in-Some.line in
    record {
      count = ap (λ n. n + 1) c.loop-line.invariant.count ∙ sym longer;
      so_far = rw longer past;
      few = few_still c.loop-line.invariant.few;
      allowed = c.loop-line.invariant.allowed;
    }

pub loop-line-preserved-in-Ok-Start : goal.loop-line-preserved-in-Ok-Start
loop-line-preserved-in-Ok-Start c =
    let pieces = YieldsList-from_slice_split _ _ c.args.bytes.now c.split-line-items.ensures.rest
    c.split-line-items.ensures.done c.split-line-items.ensures.closure
    (λ x r q k. search (rules, tests)) in
    let lines = YieldsList-at c.into_iter-line-iterator.ensures.into_iter_gives pieces in
    let this = YieldsList-turn lines c.loop-line.yielded _ c.loop-line.yielded_by _ _ c.in-Some.line
    c.in-Some.is c.next.ensures.steps in
    let found = c.in-Ok-Start.found in
    let reads = sym c.in-Ok-Start.ensures.reading ∙ ap Ok c.in-Ok-Start.field-0-is in
    let started = starts _ _ _ _ _ _ found this.0 this.1 reads c.loop-line.invariant.so_far in
    let longer = length_push c.loop-line.yielded c.in-Some.line in
    let fits : IsTrue
    (are_sizes found) = subst HasAllowedSizes c.in-Ok-Start.field-0-is
    c.in-Ok-Start.ensures.allowed in
    record {
      count = ap (λ n. n + 1) c.loop-line.invariant.count ∙ sym longer;
      so_far = rw longer started;
      few = few_still c.loop-line.invariant.few;
      allowed = λ sizes same. of_same (λ (s : Sizes). IsTrue (are_sizes s)) found sizes same fits;
    }

pub loop-line-preserved : goal.loop-line-preserved
loop-line-preserved c =
    let pieces = YieldsList-from_slice_split _ _ c.args.bytes.now c.split-line-items.ensures.rest
    c.split-line-items.ensures.done c.split-line-items.ensures.closure
    (λ x r q k. search (rules, tests)) in
    let lines = YieldsList-at c.into_iter-line-iterator.ensures.into_iter_gives pieces in
    let this = YieldsList-turn lines c.loop-line.yielded _ c.loop-line.yielded_by _ _ c.in-Some.line
    c.in-Some.is c.next.ensures.steps in
    let step = c.in-Ok-Next.step in
    let reads = sym c.in-Ok-Next.ensures.reading ∙ ap Ok c.in-Ok-Next.field-0-is in
    let on = goes_on _ _ _ _ _ _ step _ c.loop-line.invariant.count this.0 this.1 reads
    c.loop-line.invariant.so_far in
    let longer = length_push c.loop-line.yielded c.in-Some.line in
    let pushed = c.in_ok-push-in-Ok-Next.ensures.items in
    record {
      count = ap (λ n. n + 1) c.loop-line.invariant.count ∙ sym longer;
      so_far = rw (longer, pushed) on;
      few = rw pushed (few_more _ _ _ c.loop-line.invariant.few);
      allowed = c.loop-line.invariant.allowed;
    }

pub returns-in-Err : goal.returns-in-Err
returns-in-Err c =
    let pieces = YieldsList-from_slice_split _ _ c.args.bytes.now c.split-line-items.ensures.rest
    c.split-line-items.ensures.done c.split-line-items.ensures.closure
    (λ x r q k. search (rules, tests)) in
    let lines = YieldsList-at c.into_iter-line-iterator.ensures.into_iter_gives pieces in
    let this = YieldsList-turn lines c.loop-line.yielded _ c.loop-line.yielded_by _ _ c.in-Some.line
    c.in-Some.is c.next.ensures.steps in
    let reads = sym c.in-Err.ensures.reading in
    record {
      schedule = stops _ _ _ _ _ _ c.in-Err.kind _ c.loop-line.invariant.count this.0 this.1
          reads c.loop-line.invariant.so_far;
    }

pub returns-in-Some-sizes : goal.returns-in-Some-sizes
returns-in-Some-sizes c =
    let pieces = YieldsList-from_slice_split _ _ c.args.bytes.now c.split-line-items.ensures.rest
    c.split-line-items.ensures.done c.split-line-items.ensures.closure
    (λ x r q k. search (rules, tests)) in
    let lines = YieldsList-at c.into_iter-line-iterator.ensures.into_iter_gives pieces in
    let all = YieldsList-end lines c.loop-line.yielded _ c.loop-line.yielded_by _ _ c.in-None.is
    c.next.ensures.steps in
    record {
      schedule = ends_started _ _ _ _ _ _ all.1 c.in-Some-sizes.is
          c.loop-line.invariant.so_far;
    }

pub returns-in-None-sizes : goal.returns-in-None-sizes
returns-in-None-sizes c =
    let pieces = YieldsList-from_slice_split _ _ c.args.bytes.now c.split-line-items.ensures.rest
    c.split-line-items.ensures.done c.split-line-items.ensures.closure
    (λ x r q k. search (rules, tests)) in
    let lines = YieldsList-at c.into_iter-line-iterator.ensures.into_iter_gives pieces in
    let all = YieldsList-end lines c.loop-line.yielded _ c.loop-line.yielded_by _ _ c.in-None.is
    c.next.ensures.steps in
    record {
      schedule = ends_unstarted _ _ _ _ _ all.1 c.in-None-sizes.is
          c.loop-line.invariant.so_far;
    }
