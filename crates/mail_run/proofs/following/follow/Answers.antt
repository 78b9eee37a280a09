use Rattle.std.proofs.Common.{◌∙◌, ◌-◌, ℕ, suc, Option, ap, arith, not, subst}
use Rattle.run_limits.specs.declared.TheConstants.{MOST_VERSIONS}
use Rattle.mail_run.proofs.Walking.{IsOnWay, ends, goes, pushed, starts, stops}
use Rattle.mail_run.proofs.following.follow.Goals as goal

pub loop-box-init : goal.loop-box-init
loop-box-init c left is = starts c.args.image.now c.args.items.now.items c.args.first left is

pub returns-in-None : goal.returns-in-None
returns-in-None c = record {
  rest =
      let low = c.loop-box.auto._box-end in
      let left : ℕ = MOST_VERSIONS - c.loop-box._box in
      ends c.args.image.now c.args.items.now.items c.args.first left c.loop-box.items.items
      (subst (λ (at : Option ℕ). IsOnWay c.args.image.now c.args.items.now.items c.args.first left
      c.loop-box.items.items at) c.in-None.is (c.loop-box.invariant left (omega (arith, low))));
}

pub loop-box-preserved : goal.loop-box-preserved
loop-box-preserved c left is =
    goes c.args.image.now c.args.items.now.items c.args.first left c.loop-box.items.items
    c.push.new.self.items c.in-Some.cell c.item_at.result c.cell_at-at.result
    (subst (λ (at : Option ℕ). IsOnWay c.args.image.now c.args.items.now.items c.args.first
    (suc left) c.loop-box.items.items at) c.in-Some.is
    (c.loop-box.invariant (suc left) (omega (arith, is))))
    c.item_at.ensures.item c.cell_at-at.ensures.named
    (pushed _ c.push.new.self.items c.loop-box.items.items c.item_at.result
    c.push.ensures.items (c.is_err.ensures.negation ∙ ap not c.if-is_err.false))

pub returns : goal.returns
returns c = record {
  rest =
      let low = c.loop-box.auto._box-end in
      let high = c.loop-box-test.false in
      stops c.args.image.now c.args.items.now.items c.args.first c.loop-box.items.items
      c.loop-box.at (c.loop-box.invariant 0 (omega (arith, low, high)));
}
