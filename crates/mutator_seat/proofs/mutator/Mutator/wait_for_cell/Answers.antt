use Rattle.std.proofs.Common.{ℕ, ap, refl, subst, sym, ◌∙◌, arith}
use Rattle.heap_rule.specs.Shape.{Shape}
use Rattle.mutator_seat.specs.Claims.{Seeking}
use Rattle.mutator_seat.proofs.Calm.{calm_none}
use Rattle.mutator_seat.proofs.Pacing.{paces_none, paces_then}
use Rattle.mutator_seat.proofs.Searching.{sought_ends, sought_found, sought_idle, sought_more}
use Rattle.mutator_seat.proofs.Searching.{Sought, sought_none}
use Rattle.mutator_seat.proofs.Seeking.{seeking_then}
use Rattle.mutator_seat.proofs.Tries.{claimed_then, err_both, full_behind, ok_all}
use Rattle.mutator_seat.proofs.Updates.{err_then}
use Rattle.mutator_seat.proofs.Writes.{many_same}
use Rattle.mutator_seat.proofs.mutator.Mutator.wait_for_cell.Goals as goal

pub loop-init : goal.loop-init
loop-init g c = (
  calm_none Seeking c.args.self.now refl,
  refl,
  omega arith,
  paces_none c.args.self.now 65 65 (omega arith),
  sought_none c.args.first c.args.hints.now c.args.self.now,
)

pub handshake-control-requires : goal.handshake-control-requires
handshake-control-requires g c = record {
  inside = c.loop.invariant.0.kept.inside ∙ c.requires.inside;
}

pub try_last-requires : goal.try_last-requires
try_last-requires g c =
    let asked = c.handshake-control in
    let first = c.loop.invariant.0.kept in
    let then = asked.ensures.seeking.kept in
    let long = many_same asked.new.self.seat.me.own.held c.args.self.now.seat.me.own.held
    (then.held ∙ first.held) in
    let same = then.room ∙ first.room in
    record {
      inside = then.inside ∙ first.inside ∙ c.requires.inside;
      room = omega (arith, long, same, c.requires.room);
      mode = asked.ensures.mode;
    }

pub try_on-requires : goal.try_on-requires
try_on-requires g c =
    let asked = c.handshake-control in
    let first = c.loop.invariant.0.kept in
    let then = asked.ensures.seeking.kept in
    let long = many_same asked.new.self.seat.me.own.held c.args.self.now.seat.me.own.held
    (then.held ∙ first.held) in
    let same = then.room ∙ first.room in
    record {
      inside = then.inside ∙ first.inside ∙ c.requires.inside;
      room = omega (arith, long, same, c.requires.room);
      mode = asked.ensures.mode;
    }

pub returns-then-decides-clause-got : goal.returns-then-decides-clause-got
returns-then-decides-clause-got g c =
    let asked = c.handshake-control in
    ok_all c.try_last.result c.try_last.ensures.got (λ place got.
    claimed_then c.args.self.now asked.new.self c.try_last.new.self place
    (seeking_then c.args.self.now c.loop.self asked.new.self c.loop.invariant.0
    asked.ensures.seeking) got)

pub returns-then-decides-clause-full : goal.returns-then-decides-clause-full
returns-then-decides-clause-full g c =
    let asked = c.handshake-control in
    err_both c.try_last.result c.try_last.ensures.full c.try_last.ensures.tried (λ full is tried.
    full_behind c.args.self.now c.loop.self asked.new.self c.try_last.new.self c.args.began
    asked.result full c.loop.invariant.0 asked.ensures.calm tried is
    (sym c.if-decides.ensures.decides))

pub returns-then-decides-clause-seeking : goal.returns-then-decides-clause-seeking
returns-then-decides-clause-seeking g c =
    let asked = c.handshake-control in
    err_then c.try_last.result c.try_last.ensures.seeking (λ full rest.
    seeking_then c.args.self.now asked.new.self c.try_last.new.self
    (seeking_then c.args.self.now c.loop.self asked.new.self c.loop.invariant.0
    asked.ensures.seeking) rest)

pub returns-then-decides-clause-queue : goal.returns-then-decides-clause-queue
returns-then-decides-clause-queue g c = c.loop.invariant.1

pub returns-then-decides-clause-takes : goal.returns-then-decides-clause-takes
returns-then-decides-clause-takes g c = c.loop.invariant.2

pub returns-in-Some-try_on-clause-queue : goal.returns-in-Some-try_on-clause-queue
returns-in-Some-try_on-clause-queue g c = c.take_hint-hint.ensures.queue ∙ c.loop.invariant.1

pub returns-in-Some-try_on-clause-takes : goal.returns-in-Some-try_on-clause-takes
returns-in-Some-try_on-clause-takes g c =
    omega (arith, c.take_hint-hint.ensures.takes, c.loop.invariant.2)

pub returns-in-Some-try_on-clause-got : goal.returns-in-Some-try_on-clause-got
returns-in-Some-try_on-clause-got g c =
    let asked = c.handshake-control in
    claimed_then c.args.self.now asked.new.self c.try_on.new.self c.in-Some-try_on.place
    (seeking_then c.args.self.now c.loop.self asked.new.self c.loop.invariant.0
    asked.ensures.seeking) c.in-Some-try_on.ensures.got

pub returns-then-decides-clause-pace : goal.returns-then-decides-clause-pace
returns-then-decides-clause-pace g c =
    let asked = c.handshake-control in
    paces_then c.args.self.now asked.new.self c.try_last.new.self 65 1 65
    (paces_then c.args.self.now c.loop.self asked.new.self 65 65 1 c.loop.invariant.3
    asked.ensures.pace) c.try_last.ensures.pace

pub returns-in-Some-try_on-clause-pace : goal.returns-in-Some-try_on-clause-pace
returns-in-Some-try_on-clause-pace g c =
    let asked = c.handshake-control in
    paces_then c.args.self.now asked.new.self c.try_on.new.self 65 1 65
    (paces_then c.args.self.now c.loop.self asked.new.self 65 65 1 c.loop.invariant.3
    asked.ensures.pace) c.try_on.ensures.pace

pub loop-preserved : goal.loop-preserved
loop-preserved g c =
    let asked = c.handshake-control in (
      seeking_then c.args.self.now asked.new.self c.try_on.new.self
          (seeking_then c.args.self.now c.loop.self asked.new.self c.loop.invariant.0
          asked.ensures.seeking) c.in-None-try_on.ensures.none,
      c.take_hint-hint.ensures.queue ∙ c.loop.invariant.1,
      omega (arith, c.take_hint-hint.ensures.takes, c.loop.invariant.2),
      paces_then c.args.self.now asked.new.self c.try_on.new.self 65 1 65
          (paces_then c.args.self.now c.loop.self asked.new.self 65 65 1 c.loop.invariant.3
          asked.ensures.pace) c.try_on.ensures.pace,
      subst (λ (q : ℕ). Sought c.args.first q c.args.hints.now c.take_hint-hint.new.hints
          c.args.self.now c.try_on.new.self) (sym c.patience_after-patience.ensures.patience)
          (sought_more c.args.first c.loop.patience c.args.hints.now c.loop.hints
          c.take_hint-hint.new.hints c.take_hint-hint.result c.args.self.now asked.new.self
          c.try_on.new.self
          (sought_idle c.args.first c.loop.patience c.args.hints.now c.loop.hints
          c.args.self.now c.loop.self asked.new.self c.loop.invariant.4 asked.ensures.idle)
          c.loop.invariant.1 c.take_hint-hint.ensures.gives c.take_hint-hint.ensures.counts
          (ap (λ (s : Shape). s.cells) (asked.ensures.seeking.kept.shape
          ∙ c.loop.invariant.0.kept.shape)) c.in-None-try_on.ensures.missed),
    )

pub returns-then-decides-clause-search : goal.returns-then-decides-clause-search
returns-then-decides-clause-search g c =
    let asked = c.handshake-control in
    sought_ends c.args.first c.loop.patience c.args.hints.now c.loop.hints c.args.self.now
    asked.new.self c.try_last.new.self
    (sought_idle c.args.first c.loop.patience c.args.hints.now c.loop.hints c.args.self.now
    c.loop.self asked.new.self c.loop.invariant.4 asked.ensures.idle)
    (ap (λ (s : Shape). s.cells) (asked.ensures.seeking.kept.shape
    ∙ c.loop.invariant.0.kept.shape)) c.try_last.ensures.walk

pub returns-in-Some-try_on-clause-search : goal.returns-in-Some-try_on-clause-search
returns-in-Some-try_on-clause-search g c =
    let asked = c.handshake-control in
    sought_found c.args.first c.loop.patience c.args.hints.now c.loop.hints
    c.take_hint-hint.new.hints c.take_hint-hint.result c.args.self.now asked.new.self
    c.try_on.new.self
    (sought_idle c.args.first c.loop.patience c.args.hints.now c.loop.hints c.args.self.now
    c.loop.self asked.new.self c.loop.invariant.4 asked.ensures.idle) c.loop.invariant.1
    c.take_hint-hint.ensures.gives c.take_hint-hint.ensures.counts
    (ap (λ (s : Shape). s.cells) (asked.ensures.seeking.kept.shape
    ∙ c.loop.invariant.0.kept.shape)) c.in-Some-try_on.ensures.found
