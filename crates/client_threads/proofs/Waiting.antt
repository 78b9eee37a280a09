-- Answers to handshakes, one after the other, leave all that a session needs of its mutator.
use Rattle.std.proofs.Common.{List, [], ◌++◌, sym, ◌∙◌, ap}
use Rattle.std.proofs.lemmas.List.{append-nil, append_assoc}
use Rattle.client_run.specs.Own.{MayAnswer}
use Rattle.client_run.specs.declared.session.Session.{Session}
use Rattle.client_run.proofs.Handshakes.{calm_grown, kept_may}
use Rattle.core_machine.specs.declared.events.Taken.{Taken}
use Rattle.mutator_seat.specs.Bound.{Bound}
use Rattle.mutator_seat.specs.Stretches.{Calm}
use Rattle.mutator_seat.proofs.Calm.{kept_same, kept_then}
use Rattle.trails.specs.Marks.{Mark, marks_of}
use Rattle.version_rule.specs.Pass.{Pass}
use Rattle.version_store.specs.Lasts.{IsSameMutator}
use Rattle.client_threads.specs.Going.{Waits}

pub waits_calm : (F : List Taken → Type 0) (a b : Bound Pass) → Calm F a b → Waits a b
waits_calm F a b calm = record { kept = calm.kept; grown = calm_grown F a b calm }

pub waits_same : (a : Bound Pass) → Waits a a
waits_same a = record {
  kept = kept_same a;
  grown = record { added = []; is = sym (append-nil (marks_of a.seat.me.trail)) };
}

pub waits_then : (a b c : Bound Pass) → Waits a b → Waits b c → Waits a c
waits_then a b c first second = record {
  kept = kept_then a b c first.kept second.kept;
  grown = record {
    added = first.grown.added ++ second.grown.added;
    is = second.grown.is
        ∙ ap (λ (ms : List Mark). ms ++ second.grown.added) first.grown.is
        ∙ append_assoc (marks_of a.seat.me.trail) first.grown.added second.grown.added;
  };
}

module _ (a b : Bound Pass) (w : Waits a b) where
  pub waits_mutator : IsSameMutator a b
  waits_mutator = record {
    heap = w.kept.heap;
    table = w.kept.table;
    shape = w.kept.shape;
    role = w.kept.role;
    number = w.kept.number;
    room = w.kept.room;
    inside = w.kept.inside;
    over = w.kept.over;
  }

  pub waits_may : (s : Session) → MayAnswer s a → MayAnswer s b
  waits_may s may = kept_may a b w.kept w.grown s may
