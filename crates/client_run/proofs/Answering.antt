-- An answer, and that there is none, from their clauses.
use Rattle.std.proofs.Common.{◌≡◌, true, false}
use Rattle.std.specs.Prelude.{Result, Ok, Err, IfOk, OnErr}
use Rattle.client_run.specs.Answers.{Answered, IsUntouched, Unanswered}
use Rattle.client_run.specs.Own.{client_state}
use Rattle.client_run.specs.declared.session.Session.{Session}
use Rattle.client_session.specs.Turns.{Enters, IsPlain}
use Rattle.client_history.specs.Demands.{is_reading}
use Rattle.client_history.specs.Turns.{Lost}
use Rattle.doc_model.specs.declared.command.Command.{Command}
use Rattle.doc_model.specs.declared.command.Reply.{Reply}
use Rattle.mutator_seat.specs.Bound.{Bound}
use Rattle.version_rule.specs.Pass.{Pass}

module _ {E : Type 0} (c : Command) (s : Session) (m : Bound Pass) (t : Session)
    (n : Bound Pass) where
  pub answered_so : (result : Result Reply E)
      → IfOk result
      (λ reply. Enters s.journal t.journal c reply (client_state s m) (client_state t n))
      → (is_reading c ≡ true → IfOk result IsPlain) → IfOk result (Answered c s m t n)
  answered_so (Ok reply) enters plain = record { enters = enters; plain = plain }
  answered_so (Err e) enters plain = tt

  pub unanswered_so : (result : Result Reply E) → OnErr result (t.journal.last ≡ s.journal.last)
      → OnErr result (t.journal.log.entries ≡ s.journal.log.entries)
      → OnErr result (Lost (client_state s m) (client_state t n))
      → (is_reading c ≡ false → OnErr result (IsUntouched s m t n))
      → OnErr result (Unanswered c s m t n)
  unanswered_so (Ok reply) last entries lost untouched = tt
  unanswered_so (Err e) last entries lost untouched = record {
    last = last;
    entries = entries;
    lost = lost;
    untouched = untouched;
  }
