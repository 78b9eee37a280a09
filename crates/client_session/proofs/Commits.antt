-- The ends of a commit.
use Rattle.std.proofs.Common.{◌≡◌, ℕ, ◌+◌, ◌≤◌, ◌<◌, false, sym, ◌∙◌, ap, subst, arith, Some}
use Rattle.std.proofs.Common.{refl, Ok, Err}
use Rattle.std.proofs.lemmas.Bool.{true≢false}
use Rattle.client_session.specs.Turns.{Answered, Outrun, account_of, bounds}
use Rattle.client_session.specs.declared.given.Given.{Given}
use Rattle.client_session.specs.declared.journal.Journal.{Journal}
use Rattle.client_history.specs.Progress.{MakesNone, runs_out}
use Rattle.client_history.specs.State.{ClientState, IsReady, Lasts, Rests}
use Rattle.client_history.specs.Turns.{Begun, Turned}
use Rattle.client_history.proofs.States.{none_lost, none_then, rests_none}
use Rattle.client_history.proofs.Turning.{begun_full, begun_trimmed, begun_on, begun_refused}
use Rattle.client_history.proofs.Turning.{begun_worn, commit_made, made_on}
use Rattle.doc_model.specs.Answers.{full_place, refusal}
use Rattle.doc_model.specs.declared.command.Command.{Command}
use Rattle.doc_model.specs.declared.command.Reply.{Reply}
use Rattle.doc_model.specs.declared.command.Reply.TheVariants as reply
use Rattle.doc_tree.specs.Tree.{DocTree}
use Rattle.doc_tree.specs.declared.edit.EditFault.{EditFault}
use Rattle.doc_tree.specs.declared.edit.EditFault.TheVariants as fault
use Rattle.trails.specs.Claims.{IsFull}
use Rattle.trails.specs.Stretches.{Had}
use Rattle.trails.proofs.Stretches.{had_late}
use Rattle.version_rule.specs.Pass.{commit_numbers, committed}

-- what wants memory is no edit of records
pub never_wants : (e : EditFault) → e ≡ fault.NoMemory → runs_out (Err e) ≡ false → ⊥
never_wants e is spared =
    true≢false (sym (ap (λ (x : EditFault). runs_out (Err x)) is) ∙ spared)

-- a commit that was not made
pub unmade_none : {s t : ClientState} → Lasts s t
    → commit_numbers t.pass ≡ commit_numbers s.pass
    → t.draft ≡ s.draft → t.base ≡ s.base → MakesNone s t
unmade_none lasts same draft base =
    record { lasts = lasts; commits = same; draft = draft; small = omega (arith, base) }

module _ (j : Journal) (c : Command) (v : ℕ) {s t : ClientState} where
  -- the edit was refused
  pub refused_ends : (e : EditFault) (g : Given)
      → Begun (bounds j.limits) (account_of j s) c v s t (Err e) → IsReady t
      → g.reply ≡ refusal e v → g.kept ≡ g.reply → g.place ≡ v → Answered j c s t g
  refused_ends e g begun ready reply kept place = record {
    turned = let turned = begun_refused (bounds j.limits) j.log.client (account_of j s) c v e begun
        ready in
        subst (λ (p : ℕ). Turned (bounds j.limits) j.log.client (account_of j s) c s t g.reply p)
        (sym place)
        (subst (λ (r : Reply). Turned (bounds j.limits) j.log.client (account_of j s) c s t r v)
        (sym reply) turned);
    kept = kept;
  }

  module _ (tree : DocTree) (begun : Begun (bounds j.limits) (account_of j s) c v s t (Ok tree))
    where
      pub worn_ends : j.limits.versions ≤ v → IsReady t
          → Answered j c s t (record { reply = reply.Worn v; kept = reply.Worn v; place = v })
      worn_ends worn ready = record {
        turned = begun_worn (bounds j.limits) j.log.client (account_of j s) c v tree begun worn
            ready;
        kept = refl;
      }

      pub outrun_ends : {u : ClientState} → MakesNone t u → IsReady u → v < u.pass.seen
          → Outrun s u
      outrun_ends none ready newer = record {
        lost = none_lost ready (none_then begun.read.none none);
        newer = let x = begun.read.not_below in omega (arith, x, newer);
      }

      pub stopped_ends : {u : ClientState} → MakesNone t u → IsReady u
          → full_place v (account_of j s) c ≡ Some v → Had (IsFull t.cells) t.marks u.marks
          → Answered j c s u (record { reply = reply.Full v; kept = reply.Full v; place = v })
      stopped_ends {u = u} none ready needs had = record {
        turned = begun_full (bounds j.limits) j.log.client (account_of j s) c v (Ok tree)
            (begun_on (bounds j.limits) j.log.client (account_of j s) c begun none) needs ready
            (had_late (IsFull s.cells) begun.read.none.lasts.grown
            (subst (λ (n : ℕ). Had (IsFull n) t.marks u.marks) begun.read.none.lasts.cells had));
        kept = refl;
      }

      pub made_ends : {u w x : ClientState} (before : DocTree) (newest : ℕ)
          → v < j.limits.versions
          → Lasts t u → u.pass ≡ committed (v + 1) before tree t.pass → t.claims < u.claims
          → u.draft ≡ t.draft → u.base ≡ t.base → u.pass.seen ≤ newest → Rests 1 u w
          → Rests 0 w x
          → newest + 1 ≤ x.pass.cut + j.limits.keep → IsReady x
          → Answered j c s x
          (record {
            reply = reply.Committed (v + 1);
            kept = reply.Committed (v + 1);
            place = v + 1;
          })
      made_ends {u = u} before newest below lasts pass rose draft base low one two due ready =
          let made = commit_made v before tree lasts pass rose draft
          (omega (arith, base)) in
          let on = made_on (made_on made (rests_none one)) (rests_none two) in
          let seen = made.seen in
          record {
            turned = begun_trimmed (bounds j.limits) j.log.client (account_of j s) c v newest tree
                begun below on ready (omega (arith, seen, low)) due;
            kept = refl;
          }
