use Rattle.std.proofs.Common.{◌≡◌, ◌<◌, ◌-◌, ◌++◌, ℕ, Bool, true, false, List, [], replicate, refl}
use Rattle.std.proofs.Common.{sym, ◌∙◌, ap, subst, arith}
use Rattle.std.proofs.lemmas.List.{append-nil}
use Rattle.core_machine.specs.Collector.{Collector, answered_by}
use Rattle.collector.specs.Bound.{mutators_of, part_of}
use Rattle.collector.specs.Replay.{work_of}
use Rattle.collector.proofs.Answered.{answers_more}
use Rattle.collector.proofs.Counted.{counts_none}
use Rattle.collector.proofs.Hearing.{hears_more}
use Rattle.collector.proofs.collecting.Collector.await_all.Goals as goal

all_have : (n m : ℕ) → m ≡ n → replicate m true ++ replicate (n - m) false ≡ replicate n true
all_have n m is =
    ap (λ (k : ℕ). replicate m true ++ replicate k false) none
    ∙ append-nil (replicate m true)
    ∙ ap (λ (k : ℕ). replicate k true) is
  where
    none : n - m ≡ 0
    none = omega (arith, is)

none_have : (n : ℕ) (xs : List Bool) → xs ≡ replicate n false
    → xs ≡ replicate 0 true ++ replicate (n - 0) false
none_have n xs is = is ∙ ap (λ (k : ℕ). replicate k false) all
  where
    all : n ≡ n - 0
    all = omega arith

pub loop-mutator-init : goal.loop-mutator-init
loop-mutator-init g c = (
  record {
    added = [];
    told = refl;
    trail = sym (append-nil c.args.self.now.seat.me.trail);
    kept = record { heap = refl; table = refl; shape = refl; places = refl; room = refl };
    fact = (
      counts_none (work_of c.args.self.now),
      λ over m low high. absurd (omega (arith, low, high)),
    );
  },
  refl,
  ap (λ (xs : List Bool). record (part_of c.args.self.now) { answered = xs })
      (none_have (mutators_of c.args.self.now) (part_of c.args.self.now).answered
      c.requires.nobody),
)

pub loop-mutator-preserved : goal.loop-mutator-preserved
loop-mutator-preserved g c = (
  hears_more c.loop-mutator.all_over c.await_answer-over.result c.both-all_over.result
      c.loop-mutator.mutator c.args.self.now c.loop-mutator.self c.await_answer-over.new.self
      c.both-all_over.ensures.both c.loop-mutator.invariant.0 c.await_answer-over.ensures.hears,
  c.await_answer-over.ensures.control ∙ c.loop-mutator.invariant.1,
  c.await_answer-over.ensures.part
      ∙ ap (λ (p : Collector). answered_by p c.loop-mutator.mutator true) c.loop-mutator.invariant.2
      ∙ ap (λ (xs : List Bool). record (part_of c.args.self.now) { answered = xs })
      (answers_more (mutators_of c.args.self.now) c.loop-mutator.mutator
      (subst (λ (n : ℕ). c.loop-mutator.mutator < n) c.mutators-mutator-end.ensures.mutators
      c.loop-mutator-test.true)),
)

pub returns-clause-part : goal.returns-clause-part
returns-clause-part g c =
    c.loop-mutator.invariant.2
    ∙ ap (λ (xs : List Bool). record (part_of c.args.self.now) { answered = xs })
    (all_have (mutators_of c.args.self.now) c.loop-mutator.mutator
    (omega (
      arith,
      c.loop-mutator-test.false,
      c.loop-mutator.auto.mutator-end,
      c.mutators-mutator-end.ensures.mutators,
    )))
