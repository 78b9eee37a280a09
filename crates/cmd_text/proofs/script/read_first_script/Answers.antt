-- The iterator gives the lines in order, and each turn of the loop is one lemma.
use Rattle.std.proofs.Common.{rules, tests, ◌∙◌, ap, subst, sym, ◌+◌, ℕ, Ok, Err}
use Rattle.std.proofs.lemmas.Iterator.Consumers.{YieldsList-turn, YieldsList-end, YieldsList-at}
use Rattle.std.proofs.lemmas.Iterator.Splits.{YieldsList-from_slice_split}
use Rattle.std.proofs.lemmas.List.{length_push}
use Rattle.cmd_text.specs.Answers.{GivesAt}
use Rattle.cmd_text.specs.Line.{reading_of}
use Rattle.cmd_text.proofs.Lines.{goes_past, goes_on, stops, ends}
use Rattle.cmd_text.proofs.script.read_first_script.Goals as goal

pub loop-line-preserved-in-Ok-None : goal.loop-line-preserved-in-Ok-None
loop-line-preserved-in-Ok-None c =
    let pieces =
    YieldsList-from_slice_split _ _ c.args.bytes.now c.split-line-items.ensures.rest
    c.split-line-items.ensures.done c.split-line-items.ensures.closure
    (λ x r q k. search (rules, tests)) in
    let lines = YieldsList-at c.into_iter-line-iterator.ensures.into_iter_gives pieces in
    let this =
    YieldsList-turn lines c.loop-line.yielded _ c.loop-line.yielded_by _ _ c.in-Some.line
    c.in-Some.is c.next.ensures.steps in
    let reads = c.in-Ok-None.ensures ∙ ap Ok c.in-Ok-None.field-0-is in
    let past = goes_past _ _ _ _ _ this.0 this.1 reads c.loop-line.invariant.so_far in
    let longer = length_push c.loop-line.yielded c.in-Some.line in
    record {
      count = ap (λ n. n + 1) c.loop-line.invariant.count ∙ sym longer;
      so_far =
          rw longer past;
    }

pub loop-line-preserved : goal.loop-line-preserved
loop-line-preserved c =
    let pieces =
    YieldsList-from_slice_split _ _ c.args.bytes.now c.split-line-items.ensures.rest
    c.split-line-items.ensures.done c.split-line-items.ensures.closure
    (λ x r q k. search (rules, tests)) in
    let lines = YieldsList-at c.into_iter-line-iterator.ensures.into_iter_gives pieces in
    let this =
    YieldsList-turn lines c.loop-line.yielded _ c.loop-line.yielded_by _ _ c.in-Some.line
    c.in-Some.is c.next.ensures.steps in
    let reads = c.in-Ok-Some.ensures ∙ ap Ok c.in-Ok-Some.field-0-is in
    let on =
    goes_on _ _ _ _ _ c.in-Ok-Some.command this.0 this.1 reads c.loop-line.invariant.so_far in
    let longer = length_push c.loop-line.yielded c.in-Some.line in
    let pushed = c.in_ok-push-in-Ok-Some.ensures.items in
    record {
      count = ap (λ n. n + 1) c.loop-line.invariant.count ∙ sym longer;
      so_far =
          rw (longer, pushed) on;
    }

pub returns-in-Err : goal.returns-in-Err
returns-in-Err c =
    let pieces =
    YieldsList-from_slice_split _ _ c.args.bytes.now c.split-line-items.ensures.rest
    c.split-line-items.ensures.done c.split-line-items.ensures.closure
    (λ x r q k. search (rules, tests)) in
    let lines = YieldsList-at c.into_iter-line-iterator.ensures.into_iter_gives pieces in
    let this =
    YieldsList-turn lines c.loop-line.yielded _ c.loop-line.yielded_by _ _ c.in-Some.line
    c.in-Some.is c.next.ensures.steps in
    let error = c.in-Err.error in
    let faulty = subst (λ (n : ℕ). GivesAt (n + 1) (Err error)
    (reading_of c.in-Some.line.now)) c.loop-line.invariant.count c.in-Err.ensures in
    record { script = stops error _ _ _ _ _ this.0 this.1 faulty c.loop-line.invariant.so_far }

pub returns : goal.returns
returns c =
    let pieces =
    YieldsList-from_slice_split _ _ c.args.bytes.now c.split-line-items.ensures.rest
    c.split-line-items.ensures.done c.split-line-items.ensures.closure
    (λ x r q k. search (rules, tests)) in
    let lines = YieldsList-at c.into_iter-line-iterator.ensures.into_iter_gives pieces in
    let all =
    YieldsList-end lines c.loop-line.yielded _ c.loop-line.yielded_by _ _ c.in-None.is
    c.next.ensures.steps in
    record { script = ends _ _ _ _ all.1 c.loop-line.invariant.so_far }
