use Rattle.std.proofs.Common.{◌≡◌, ◌++◌, ◌∙◌, ap, ℕ, List}
use Rattle.cmd_text.proofs.summary.stats_lines.Goals as goal

then_more : (was now next more : List ℕ) → next ≡ now ++ more → now ≡ was → next ≡ was ++ more
then_more was now next more grown same = grown ∙ ap (λ x. x ++ more) same

pub returns : goal.returns
returns c =
    record {
      lines =
          then_more _ _ _ _ c.in_ok-add_total-7.ensures.lines
          (then_more _ _ _ _ c.in_ok-add_total-6.ensures.lines
          (then_more _ _ _ _ c.in_ok-add_total-5.ensures.lines
          (then_more _ _ _ _ c.in_ok-add_total-4.ensures.lines
          (then_more _ _ _ _ c.in_ok-add_total-3.ensures.lines
          (then_more _ _ _ _ c.in_ok-add_total-2.ensures.lines
          (then_more _ _ _ _ c.in_ok-add_total.ensures.lines c.in_ok-lines.ensures.items))))));
    }
