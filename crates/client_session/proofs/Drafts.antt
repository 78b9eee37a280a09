-- The ends of the commands that make the draft.
use Rattle.std.proofs.Common.{◌≡◌, ℕ, List, sym, ◌∙◌, ap, subst, Some, None, Ok, Err}
use Rattle.std.proofs.Common.{refl}
use Rattle.cell_words.specs.Term.{Term}
use Rattle.client_session.specs.Handles.{Edits, Handles}
use Rattle.client_session.specs.Turns.{Answered, Begins, MayTurn, account_of, bounds}
use Rattle.client_session.specs.declared.given.Given.{Given}
use Rattle.client_session.specs.declared.given.Opened.{Opened}
use Rattle.client_session.specs.declared.journal.Journal.{Journal}
use Rattle.client_session.proofs.Editing.{edits_none}
use Rattle.client_session.proofs.Readings.{account_is}
use Rattle.client_history.specs.Progress.{Drafts, MakesNone}
use Rattle.client_history.specs.State.{ClientState, IsReady, Lasts, Rests}
use Rattle.client_history.specs.Turns.{Turned}
use Rattle.client_history.proofs.Commands.{dput_full, dput_refused, dput_turned, take_absent}
use Rattle.client_history.proofs.Commands.{take_turned}
use Rattle.client_history.proofs.Reading.{known_on, read_on}
use Rattle.client_history.proofs.States.{none_then, rests_none}
use Rattle.client_history.proofs.Turning.{drafts_late}
use Rattle.doc_model.specs.Answers.{refusal}
use Rattle.doc_model.specs.declared.command.Command.TheVariants as command
use Rattle.doc_model.specs.declared.command.Reply.{Reply}
use Rattle.doc_model.specs.declared.command.Reply.TheVariants as reply
use Rattle.doc_records.specs.Trees.{tree_of}
use Rattle.doc_tree.specs.Edits.{set_text}
use Rattle.doc_tree.specs.Tree.{DocTree, node}
use Rattle.doc_tree.specs.declared.edit.EditFault.{EditFault}
use Rattle.trails.specs.Claims.{IsFull}
use Rattle.trails.specs.Stretches.{Had}
use Rattle.version_rule.specs.Pass.{commit_numbers}

-- a node became the draft
pub drafts_of : {tree : DocTree} {s t : ClientState} → t.pass ≡ s.pass
    → tree_of t.draft ≡ tree → Lasts s t → Drafts tree s t
drafts_of pass draft lasts =
    record { lasts = lasts; commits = ap commit_numbers pass; draft = draft }

module _ (j : Journal) (path : List (List ℕ)) {s : ClientState} (may : MayTurn j s) where
  module _ (text : List ℕ) where
    pub dput_full_ends : {t : ClientState} → MakesNone s t → IsReady t
        → Had (IsFull s.cells) s.marks t.marks
        → Answered j (command.DraftPut path text) s t
        (record { reply = reply.Full j.last; kept = reply.Full j.last; place = j.last })
    dput_full_ends none ready had = record {
      turned = dput_full (bounds j.limits) j.log.client (account_of j s) (account_is j s may.last)
          ready path text none had;
      kept = refl;
    }

    pub dput_ends : {t u w : ClientState} (tree : DocTree) (places : ℕ) → MakesNone s t
        → Edits places t u
        → set_text path text (tree_of t.draft) ≡ Ok tree → Drafts tree u w → IsReady w
        → Answered j (command.DraftPut path text) s w
        (record { reply = reply.Drafted j.last; kept = reply.Drafted j.last; place = j.last })
    dput_ends tree places none edits made drafts ready = record {
      turned = dput_turned (bounds j.limits) j.log.client (account_of j s)
          (account_is j s may.last) ready path text tree
          (ap (λ (t : Term). set_text path text (tree_of t)) (sym none.draft) ∙ made)
          (drafts_late none (drafts_late (edits_none edits) drafts));
      kept = refl;
    }

    pub dput_refused_ends : {t u : ClientState} (e : EditFault) (g : Given) (places : ℕ)
        → MakesNone s t → Edits places t u
        → set_text path text (tree_of t.draft) ≡ Err e
        → IsReady u
        → g.reply ≡ refusal e j.last → g.kept ≡ g.reply → g.place ≡ j.last
        → Answered j (command.DraftPut path text) s u g
    dput_refused_ends {u = u} e g places none edits made ready reply kept place = record {
      turned =
          let turned = dput_refused (bounds j.limits) j.log.client (account_of j s)
          (account_is j s may.last) ready path text e
          (ap (λ (t : Term). set_text path text (tree_of t)) (sym none.draft) ∙ made)
          (none_then none (edits_none edits)) in
          subst (λ (p : ℕ). Turned (bounds j.limits) j.log.client (account_of j s)
          (command.DraftPut path text) s u g.reply p)
          (sym place)
          (subst (λ (r : Reply). Turned (bounds j.limits) j.log.client (account_of j s)
          (command.DraftPut path text) s u r j.last)
          (sym reply) turned);
      kept = kept;
    }

  module _ {At : Type 0} {t u : ClientState} {h : Handles At} (o : Opened At)
      (begins : Begins s t h o) (rests : Rests 8 t u) where
    pub take_absent_ends : node path (h.tree o.root) ≡ None → IsReady u
        → Answered j (command.Take path) s u
        (record {
          reply = reply.Absent o.version.number;
          kept = reply.Absent o.version.number;
          place = o.version.number;
        })
    take_absent_ends is ready = record {
      turned = take_absent (bounds j.limits) j.log.client (account_of j s)
          (account_is j s may.last) ready path o.version.number (h.tree o.root)
          (known_on t.pass u.pass o.version.number (h.tree o.root) rests.lasts.passes
          begins.holds.knows) is (read_on begins.read (rests_none rests));
      kept = refl;
    }

    pub take_ends : {w : ClientState} (found : DocTree) → node path (h.tree o.root) ≡ Some found
        → Drafts found u w → IsReady w → Answered j (command.Take path) s w
        (record {
          reply = reply.Drafted o.version.number;
          kept = reply.Drafted o.version.number;
          place = o.version.number;
        })
    take_ends {w = w} found is drafts ready = record {
      turned = take_turned (bounds j.limits) j.log.client (account_of j s)
          (account_is j s may.last) ready path o.version.number (h.tree o.root)
          (known_on u.pass w.pass o.version.number (h.tree o.root) drafts.lasts.passes
          (known_on t.pass u.pass o.version.number (h.tree o.root) rests.lasts.passes
          begins.holds.knows)) found is (read_on begins.read (rests_none rests)) drafts;
      kept = refl;
    }
