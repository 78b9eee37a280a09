use Rattle.std.proofs.Common.{◌<◌, All, List, length, subst}
use Rattle.std.proofs.lemmas.List.{take_all}
use Rattle.std.proofs.lemmas.List.Elements.{All-more}
use Rattle.minor_heap.specs.declared.fields.MinorRef.{MinorRef}
use Rattle.record_copying.specs.Copies.{IsCopied}
use Rattle.record_copying.proofs.slices.are_copied.Goals as goal

pub loop-r-preserved : goal.loop-r-preserved
loop-r-preserved c =
    let roots = c.args.roots.now in
    let i = c.loop-r.r-index in
    let d : MinorRef = record { number = 0 } in
    let lt : i < length roots = c.loop-r-test.true in
    All-more (IsCopied c.args.copied.now) roots i d lt c.loop-r.invariant
    c.if-not-copied-r.false

pub returns : goal.returns
returns c = record {
  done = λ _. subst (λ (rs : List MinorRef). All (IsCopied c.args.copied.now) rs)
      (take_all c.loop-r.r-index c.args.roots.now c.loop-r-test.false) c.loop-r.invariant;
}
