use Rattle.std.proofs.Common.{◌<◌, ◌^◌, ℕ, List, length, ap, arith, subst, sym}
use Rattle.std.proofs.lemmas.List.{length_push}
use Rattle.std.proofs.lemmas.List.Elements.{All-push}
use Rattle.mail_threads.specs.Workers.{AreSmall}
use Rattle.mailbox_tests.proofs.scripts.script.Goals as goal

pub loop-line-init : goal.loop-line-init
loop-line-init c = record {
  many = ap (λ (values : List ℕ). length values) c.new-values.ensures.items;
  small = subst AreSmall (sym c.new-values.ensures.items)
      (λ k d there. absurd (omega (arith, there)));
}

pub loop-line-preserved : goal.loop-line-preserved
loop-line-preserved c =
    let k = c.loop-line.invariant in
    let pushed = c.in_ok-push.ensures.items in
    let longer = ap (λ (values : List ℕ). length values) pushed in
    let more = length_push c.loop-line.values.items c.value_of.result in
    record {
      many = omega (arith, longer, more, k.many);
      small = subst AreSmall (sym pushed)
          (All-push (λ (value : ℕ). value < 2 ^ 32) c.loop-line.values.items c.value_of.result
          k.small c.value_of.ensures.small);
    }
