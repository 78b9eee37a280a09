use Rattle.std.proofs.Common.{◌≡◌, ◌<◌, ◌+◌, ℕ, refl, sym, ◌∙◌, ap, subst, arith}
use Rattle.cell_words.specs.declared.controls.Control.{Control}
use Rattle.core_machine.specs.Collector.{Collector}
use Rattle.heap_rule.specs.Shape.{Shape}
use Rattle.collector.specs.Bound.{cells_of, control_of}
use Rattle.collector.specs.Counting.{frees, nothing}
use Rattle.free_cells.specs.Hints.{cells_of as hinted_of, counts_of}
use Rattle.collector.proofs.Joining.{does_after, does_and, does_then}
use Rattle.collector.proofs.Offered.{offers_after, offers_none, offers_then}
use Rattle.collector.proofs.collecting.Collector.sweep_all.Goals as goal

pub sweep_on-requires : goal.sweep_on-requires
sweep_on-requires g c =
    let so = c.loop-white.invariant in
    record {
      stage = ap (λ (x : Control). x.stage) so.control ∙ c.requires.stage;
      fresh = so.fresh;
      within = so.high;
    }

pub free_next-requires : goal.free_next-requires
free_next-requires g c =
    let so = c.loop-white.invariant in
    let swept = c.in-Some.ensures.swept in
    let cells = ap (λ (h : Shape). h.cells) c.in-Some.ensures.does.kept.shape in
    let before = ap (λ (h : Shape). h.cells) so.does.kept.shape in
    record {
      stage = ap (λ (x : Control). x.stage) swept.control
          ∙ ap (λ (x : Control). x.stage) so.control ∙ c.requires.stage;
      found = ap (λ (x : Collector). x.sweep) swept.part;
      hints = ap hinted_of so.queue ∙ c.requires.hints ∙ sym (cells ∙ before);
      there = subst (λ (x : ℕ × ℕ). x.0 < x.1)
          (λ j. (sym (ap (λ (x : Control). x.position) swept.control) j, sym cells j))
          swept.there;
    }

pub loop-white-preserved : goal.loop-white-preserved
loop-white-preserved g c =
    let so = c.loop-white.invariant in
    let a = c.args.self.now in
    let b = c.loop-white.self in
    let m = c.sweep_on.new.self in
    let d = c.free_next.new.self in
    let swept = c.in-Some.ensures.swept in
    let more = does_after (frees 1) b m d c.in-Some.ensures.does c.free_next.ensures.does in
    let position = c.in-Some.field-0 + 1 in
    let control = c.free_next.ensures.control
    ∙ ap (λ (x : Control). record x { position = x.position + 1 }) swept.control
    ∙ ap (λ (x : Control). record x { position = position }) so.control in
    let next = ap (λ (x : Control). x.position) control in
    let cells = ap (λ (h : Shape). h.cells) more.kept.shape in
    record {
      does = does_then (frees c.loop-white.freed) (frees 1) a b d so.does more;
      few = omega (arith, so.few);
      control = control ∙ (λ j. record (control_of a) { position = sym next j });
      low = omega (arith, so.low, swept.many, next);
      high = omega (arith, swept.there, next, cells);
      fresh = c.free_next.ensures.fresh;
      kept = record {
        answered = c.free_next.ensures.kept.answered
            ∙ ap (λ (x : Collector). x.answered) swept.part ∙ so.kept.answered;
        scan = c.free_next.ensures.kept.scan
            ∙ ap (λ (x : Collector). x.scan) swept.part ∙ so.kept.scan;
      };
      queue = c.free_next.ensures.queue ∙ so.queue;
      puts = omega (arith, c.free_next.ensures.puts, so.puts);
      offers = offers_then _ _ a b d (counts_of c.args.hints.now) (counts_of c.loop-white.hints)
          (counts_of c.free_next.new.hints) so.does more so.offers
          (offers_after nothing _ b m d (counts_of c.loop-white.hints)
          (counts_of c.free_next.new.hints) refl c.in-Some.ensures.does
          c.free_next.ensures.does c.free_next.ensures.offered);
    }

pub returns-in-None : goal.returns-in-None
returns-in-None g c =
    let so = c.loop-white.invariant in
    let swept = c.in-None.ensures.swept in
    let cells = ap (λ (h : Shape). h.cells) so.does.kept.shape in
    record {
      does = does_and (frees c.loop-white.freed) c.args.self.now c.loop-white.self
          c.sweep_on.new.self so.does c.in-None.ensures.does;
      few = omega (arith, so.few, c.loop-white-test.true);
      control = swept.control
          ∙ ap (λ (x : Control). record x { position = cells_of c.loop-white.self }) so.control
          ∙ ap (λ (n : ℕ). record (control_of c.args.self.now) { position = n }) cells;
      fresh = ap (λ (x : Collector). x.sweep) swept.part;
      kept = record {
        answered = ap (λ (x : Collector). x.answered) swept.part ∙ so.kept.answered;
        scan = ap (λ (x : Collector). x.scan) swept.part ∙ so.kept.scan;
      };
      queue = so.queue;
      offered = offers_then _ _ c.args.self.now c.loop-white.self c.sweep_on.new.self
          (counts_of c.args.hints.now) (counts_of c.loop-white.hints)
          (counts_of c.loop-white.hints) so.does c.in-None.ensures.does so.offers
          (offers_none nothing c.loop-white.self c.sweep_on.new.self
          (counts_of c.loop-white.hints) refl c.in-None.ensures.does);
      puts = so.puts;
    }

pub returns : goal.returns
returns g c =
    let so = c.loop-white.invariant in
    let cells = ap (λ (h : Shape). h.cells) so.does.kept.shape in
    let last : (control_of c.loop-white.self).position ≡ cells_of c.args.self.now =
    omega (
      arith,
      so.low,
      so.high,
      cells,
      c.loop-white-test.false,
      c.cells-white-end.ensures.cells,
    ) in
    record {
      does = so.does;
      few = omega (arith, so.few, c.loop-white.auto._white-end);
      control = so.control
          ∙ ap (λ (n : ℕ). record (control_of c.args.self.now) { position = n }) last;
      fresh = so.fresh;
      kept = so.kept;
      queue = so.queue;
      offered = so.offers;
      puts = so.puts;
    }
