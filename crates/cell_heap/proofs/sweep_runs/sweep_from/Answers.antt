use Rattle.std.proofs.Common.{◌≡◌, ◌<◌, ◌+◌, ℕ, sym, ◌∙◌, ap, subst, arith}
use Rattle.std.proofs.lemmas.Bool.{and_from, lt-ltb}
use Rattle.cell_words.specs.declared.controls.Control.{Control}
use Rattle.cell_words.specs.declared.controls.Stage.{Stage}
use Rattle.cell_words.specs.declared.controls.Stage.TheVariants as stage
use Rattle.core_machine.specs.Collector.{Collector}
use Rattle.core_machine.specs.Sweep.{is_done}
use Rattle.core_machine.specs.Words.{same_stage}
use Rattle.heap_rule.specs.Shape.{Shape}
use Rattle.cell_heap.specs.Runs.{sweep_at, sweep_over}
use Rattle.cell_heap.proofs.InARow.{kept_is, still_of, swept_all, swept_more, swept_none}
use Rattle.cell_heap.proofs.InARow.{swept_white, tells_shape, white_is}
use Rattle.cell_heap.proofs.sweep_runs.sweep_from.Goals as goal

pub loop-position-init : goal.loop-position-init
loop-position-init g c = (
  swept_none c.args.seat.now c.args.control c.requires.control,
  c.requires.collector,
)

pub keep_at-colour-requires : goal.keep_at-colour-requires
keep_at-colour-requires g c =
    let so = c.loop-position.invariant.0 in
    let shape = tells_shape c.args.seat.now c.loop-position.seat (sweep_over so.kept) so.told in
    record {
      seat = still_of c.args.heap.now c.args.seat.now c.loop-position.seat (sweep_over so.kept)
          c.requires.seat so.told;
      collector = c.loop-position.invariant.1;
      mutators = c.requires.mutators ∙ sym (ap (λ (h : Shape). h.mutators) shape);
      position = sym (ap (λ (x : Control). x.position) so.control);
      stage = ap (λ (x : Control). x.stage) so.control
          ∙ sym (ap (λ (x : Control). x.stage) c.requires.control) ∙ c.requires.stage;
      fresh = ap (λ (x : Collector). x.sweep) so.part ∙ c.requires.fresh;
      there = subst (λ (n : ℕ). c.loop-position.position < n)
          (c.requires.cells ∙ sym (ap (λ (h : Shape). h.cells) shape))
          c.loop-position-test.true;
    }

pub advance_to-requires : goal.advance_to-requires
advance_to-requires g c =
    let so = c.loop-position.invariant.0 in
    let b = c.loop-position.seat in
    let m = c.keep_at-colour.new.seat in
    let k = c.keep_at-colour.result in
    let shape = tells_shape b m (sweep_at k) c.keep_at-colour.ensures.told
    ∙ tells_shape c.args.seat.now b (sweep_over so.kept) so.told in
    let control = c.keep_at-colour.ensures.control ∙ so.control in
    let stays = kept_is k (sym c.is_white.ensures.white ∙ c.if-is_white.false)
    c.keep_at-colour.ensures.not_gray in
    let done = ap (λ (x : Collector). x.sweep) c.keep_at-colour.ensures.part ∙ stays.1 in
    let there = subst (λ (x : ℕ × ℕ). x.0 < x.1)
    (λ j. (
      sym (ap (λ (x : Control). x.position) control) j,
      (c.requires.cells ∙ sym (ap (λ (h : Shape). h.cells) shape)) j,
    )) c.loop-position-test.true in
    record {
      seat = still_of c.args.heap.now b m (sweep_at k)
          (still_of c.args.heap.now c.args.seat.now b (sweep_over so.kept) c.requires.seat so.told)
          c.keep_at-colour.ensures.told;
      collector = c.keep_at-colour.ensures.collector;
      control = ap (λ (x : Control). record x { position = c.loop-position.position + 1 })
          c.requires.control
          ∙ sym (ap (λ (x : Control). record x { position = x.position + 1 }) control);
      can = and_from _ _
          (and_from _ _
          (ap (λ (x : Control). same_stage x.stage stage.Sweep) control
          ∙ sym (ap (λ (x : Control). same_stage x.stage stage.Sweep) c.requires.control)
          ∙ ap (λ (s : Stage). same_stage s stage.Sweep) c.requires.stage)
          (lt-ltb _ _ there))
          (ap is_done done);
    }

pub loop-position-preserved : goal.loop-position-preserved
loop-position-preserved g c =
    let k = c.keep_at-colour.result in
    let stays = kept_is k (sym c.is_white.ensures.white ∙ c.if-is_white.false)
    c.keep_at-colour.ensures.not_gray in (
      swept_more c.loop-position.position k c.args.seat.now c.loop-position.seat
          c.keep_at-colour.new.seat c.advance_to.new.seat c.loop-position.invariant.0
          c.requires.fresh stays.0 stays.1 c.keep_at-colour.ensures.told
          c.keep_at-colour.ensures.control c.keep_at-colour.ensures.part
          c.advance_to.ensures.told c.advance_to.ensures.known,
      c.advance_to.ensures.collector,
    )

pub returns-then-is_white : goal.returns-then-is_white
returns-then-is_white g c = record {
  swept = swept_white c.loop-position.position c.keep_at-colour.result c.args.seat.now
      c.loop-position.seat c.keep_at-colour.new.seat c.loop-position.invariant.0
      (subst (λ (n : ℕ). c.loop-position.position < n) c.requires.cells
      c.loop-position-test.true)
      (white_is c.keep_at-colour.result (sym c.is_white.ensures.white ∙ c.if-is_white.true))
      c.keep_at-colour.ensures.told c.keep_at-colour.ensures.control
      c.keep_at-colour.ensures.part;
  collector = c.keep_at-colour.ensures.collector;
}

pub returns : goal.returns
returns g c =
    let last : c.loop-position.position ≡ c.args.cells =
    omega (
      arith,
      c.loop-position-test.false,
      c.loop-position.auto.position-end,
      c.requires.within,
    ) in
    record {
      swept = swept_all c.loop-position.position c.args.seat.now c.loop-position.seat
          c.loop-position.invariant.0 (last ∙ c.requires.cells) c.requires.fresh;
      collector = c.loop-position.invariant.1;
    }
