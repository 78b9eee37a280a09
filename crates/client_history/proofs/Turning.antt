-- The ways in which a turn ends: with a reading, on the draft, with a refusal, at a full heap, with
-- a new version, or lost. Each command of a session ends by one of these.
use Rattle.std.proofs.Common.{◌≡◌, ℕ, ◌+◌, ◌≤◌, ◌<◌, Bool, true, false, List, [], ◌∷◌, ◌++◌, refl}
use Rattle.std.proofs.Common.{sym, ◌∙◌, ap, subst, arith, Some, None, Result, Ok, Err}
use Rattle.std.proofs.lemmas.Bool.{true≢false}
use Rattle.std.proofs.lemmas.List.{append-nil}
use Rattle.doc_model.specs.Answers.{Limits, committed, draft_made, full_place, is_full, is_ok}
use Rattle.doc_model.specs.Answers.{refusal, told}
use Rattle.doc_model.specs.History.{seen_by}
use Rattle.doc_model.specs.Store.{answer}
use Rattle.doc_model.specs.declared.answer.Account.{Account}
use Rattle.doc_model.specs.declared.command.Command.{Command}
use Rattle.doc_model.specs.declared.command.Reply.{Reply}
use Rattle.doc_model.specs.declared.command.Reply.TheVariants as reply
use Rattle.doc_records.specs.Trees.{tree_of}
use Rattle.doc_tree.specs.Tree.{DocTree}
use Rattle.doc_tree.specs.declared.edit.EditFault.{EditFault}
use Rattle.trails.specs.Asks.{Ask, Shows}
use Rattle.trails.specs.Claims.{IsFull}
use Rattle.trails.specs.Stretches.{Had}
use Rattle.version_rule.specs.Fits.{Fits}
use Rattle.version_rule.specs.Pass.{Pass, commit_numbers}
use Rattle.version_rule.specs.Pass as pass
use Rattle.client_history.specs.Demands.{Demand, is_drafting, may_hold_more, reply_asks}
use Rattle.version_rule.specs.Shows.{version_asks}
use Rattle.client_history.specs.Progress.{Drafts, HasRead, IsAccount, Made, MakesNone}
use Rattle.client_history.specs.Progress.{runs_out}
use Rattle.client_history.specs.State.{ClientState, IsReady, Lasts, StaysSmall}
use Rattle.client_history.specs.Turns.{Answers, Begun, Lost, Turned, entry_for, new_numbers}
use Rattle.client_history.proofs.Answering.{committed_worn, full_answers, ok_answers, plain_answers}
use Rattle.client_history.proofs.Answering.{refusal_full, refusal_not_ok, refusal_silent, seen_made}
use Rattle.client_history.proofs.Answering.{seen_plain}
use Rattle.client_history.proofs.Meeting.{draft_full_met, draft_met, full_met, met_late, met_on}
use Rattle.client_history.proofs.Meeting.{shown_met}
use Rattle.client_history.proofs.Reading.{known_on, read_late, read_on, tree_made}
use Rattle.client_history.proofs.States.{committed_commits, lasts_then, lost_none, small_then}

-- A version was made.

pub commit_made : {s t : ClientState} (v : ℕ) (before tree : DocTree) → Lasts s t
    → t.pass ≡ pass.committed (v + 1) before tree s.pass → s.claims < t.claims → t.draft ≡ s.draft
    → StaysSmall s t → Made v tree s t
commit_made {s = s} {t = t} v before tree lasts is rose draft small = record {
  lasts = lasts;
  commits = committed_commits s.pass t.pass (v + 1) before tree is;
  seen = let seen : t.pass.seen ≡ v + 1 = ap (λ (x : Pass). x.seen) is in omega (arith, seen);
  tree_is = tree_made s.pass t.pass (v + 1) before tree is;
  rose = rose;
  draft = draft;
  small = small;
}

-- a call before, and one after
pub made_late : {v : ℕ} {tree : DocTree} {s t u : ClientState} → MakesNone s t → Made v tree t u
    → Made v tree s u
made_late {v = v} {s = s} {t = t} {u = u} none made = record {
  lasts = lasts_then none.lasts made.lasts;
  commits = made.commits ∙ ap (λ (ns : List ℕ). ns ++ (v + 1) ∷ []) none.commits;
  seen = made.seen;
  tree_is = made.tree_is;
  rose = let x = none.lasts.claims in let y = made.rose in omega (arith, x, y);
  draft = made.draft ∙ none.draft;
  small = small_then s t u none.small made.small;
}

pub made_on : {v : ℕ} {tree : DocTree} {s t u : ClientState} → Made v tree s t → MakesNone t u
    → Made v tree s u
made_on {v = v} {tree = tree} {s = s} {t = t} {u = u} made none = record {
  lasts = lasts_then made.lasts none.lasts;
  commits = none.commits ∙ made.commits;
  seen = let x = made.seen in let y = none.lasts.passes.seen in omega (arith, x, y);
  tree_is = known_on t.pass u.pass (v + 1) tree none.lasts.passes made.tree_is;
  rose = let x = made.rose in let y = none.lasts.claims in omega (arith, x, y);
  draft = none.draft ∙ made.draft;
  small = small_then s t u made.small none.small;
}

-- Drafts, with a call before, and one after.

pub drafts_late : {tree : DocTree} {s t u : ClientState} → MakesNone s t → Drafts tree t u
    → Drafts tree s u
drafts_late none drafts = record {
  lasts = lasts_then none.lasts drafts.lasts;
  commits = drafts.commits ∙ none.commits;
  draft = drafts.draft;
}

pub drafts_on : {tree : DocTree} {s t u : ClientState} → Drafts tree s t → MakesNone t u
    → Drafts tree s u
drafts_on drafts none = record {
  lasts = lasts_then drafts.lasts none.lasts;
  commits = none.commits ∙ drafts.commits;
  draft = ap tree_of none.draft ∙ drafts.draft;
}

numbers_none : (ns : List ℕ) (r : Reply) (place : ℕ) → is_ok r ≡ false
    → ns ++ new_numbers (is_ok r) place ≡ ns
numbers_none ns r place plain =
    ap (λ (b : Bool). ns ++ new_numbers b place) plain ∙ append-nil ns

module _ (l : Limits) (client : ℕ) (m : Account) (c : Command) where
  -- no version was made
  unmade_turned : {s t : ClientState} (r : Reply) (place : ℕ) → is_ok r ≡ false → Lasts s t
      → commit_numbers t.pass ≡ commit_numbers s.pass → IsReady t
      → (may_hold_more c ≡ false → StaysSmall s t)
      → Answers l t.pass client m c r place (tree_of t.draft)
      → Had (Demand s.cells (entry_for client m c r place)) s.marks t.marks
      → Turned l client m c s t r place
  unmade_turned {s = s} r place plain lasts commits ready small answers meets = record {
    lasts = lasts;
    ready = ready;
    commits = commits ∙ sym (numbers_none (commit_numbers s.pass) r place plain);
    answers = answers;
    meets = meets;
    rose = λ ok. absurd (true≢false (sym ok ∙ plain));
    trimmed = λ ok due. absurd (true≢false (sym ok ∙ plain));
    small = small;
  }

  -- the reads of a version as the entry demands them
  asked : {s t : ClientState} (r : Reply) (v : ℕ) → is_ok r ≡ false
      → (read : HasRead v (reply_asks r) s t)
      → Shows (version_asks read.cell (seen_by (entry_for client m c r v)) ++ reply_asks r)
      s.marks t.marks
  asked {s = s} {t = t} r v plain read =
      subst (λ (n : ℕ). Shows (version_asks read.cell n ++ reply_asks r) s.marks t.marks)
      (sym (seen_plain l client m c r v plain)) read.shows

  last_before : {asks : List Ask} {s t : ClientState} {v : ℕ} → IsAccount m s → HasRead v asks s t
      → m.last ≤ v
  last_before account read =
      let x = account.last in let y = read.not_below in omega (arith, x, y)

  -- A version was read, and the reply tells of it.
  pub read_turned : {s t : ClientState} (r : Reply) (v : ℕ) → is_ok r ≡ false → is_full r ≡ false
      → IsAccount m s → HasRead v (reply_asks r) s t → IsReady t
      → ((trees : List DocTree) → Fits trees t.pass → answer l trees v m c ≡ told r v)
      → Turned l client m c s t r v
  read_turned {s = s} {t = t} r v plain spare account read ready is =
      unmade_turned r v plain read.none.lasts read.none.commits ready (λ _. read.none.small)
      (plain_answers l client m c t.pass r v None (tree_of t.draft) plain spare
      (last_before account read) read.seen is (ap tree_of read.none.draft ∙ sym account.draft))
      (shown_met s.cells (entry_for client m c r v) read.cell spare (asked r v plain read))

  -- A version was read, and a node of it is the draft now.
  pub taken_turned : {s t u : ClientState} (v : ℕ) (tree : DocTree) → may_hold_more c ≡ true
      → IsAccount m s → HasRead v [] s t → Drafts tree t u → IsReady u
      → ((trees : List DocTree) → Fits trees u.pass → answer l trees v m c ≡ draft_made v tree)
      → Turned l client m c s u (reply.Drafted v) v
  taken_turned {s = s} {u = u} v tree keeping account read drafts ready is =
      unmade_turned (reply.Drafted v) v refl (lasts_then read.none.lasts drafts.lasts)
      (drafts.commits ∙ read.none.commits) ready
      (λ small. absurd (true≢false (sym keeping ∙ small)))
      (plain_answers l client m c u.pass (reply.Drafted v) v (Some tree) (tree_of u.draft) refl refl
      (last_before account read)
      (let x = read.seen in let y = drafts.lasts.passes.seen in omega (arith, x, y)) is
      drafts.draft)
      (met_on s.cells (entry_for client m c (reply.Drafted v) v)
      (shown_met s.cells (entry_for client m c (reply.Drafted v) v) read.cell refl
      (asked (reply.Drafted v) v refl read)) drafts.lasts.grown)

  last_seen : {s t : ClientState} → IsAccount m s → Lasts s t → m.last ≤ t.pass.seen
  last_seen account lasts =
      let x = account.last in let y = lasts.passes.seen in omega (arith, x, y)

  -- A command on the draft that leaves it as it is.
  pub draft_turned : {s t : ClientState} (r : Reply) → is_drafting c ≡ true → is_ok r ≡ false
      → is_full r ≡ false → IsAccount m s → MakesNone s t → IsReady t
      → ((trees : List DocTree) → Fits trees t.pass → answer l trees m.last m c ≡ told r m.last)
      → Turned l client m c s t r m.last
  draft_turned {s = s} {t = t} r drafting plain spare account none ready is =
      unmade_turned r m.last plain none.lasts none.commits ready (λ _. none.small)
      (plain_answers l client m c t.pass r m.last None (tree_of t.draft) plain spare (omega arith)
      (last_seen account none.lasts) is (ap tree_of none.draft ∙ sym account.draft))
      (draft_met s.cells (entry_for client m c r m.last) drafting spare none.lasts.grown)

  -- And one that changes it.
  pub drafted_turned : {s t : ClientState} (tree : DocTree) → is_drafting c ≡ true
      → may_hold_more c ≡ true → IsAccount m s → Drafts tree s t → IsReady t
      → ((trees : List DocTree) → Fits trees t.pass
      → answer l trees m.last m c ≡ draft_made m.last tree)
      → Turned l client m c s t (reply.Drafted m.last) m.last
  drafted_turned {s = s} {t = t} tree drafting keeping account drafts ready is =
      unmade_turned (reply.Drafted m.last) m.last refl drafts.lasts drafts.commits ready
      (λ small. absurd (true≢false (sym keeping ∙ small)))
      (plain_answers l client m c t.pass (reply.Drafted m.last) m.last (Some tree)
      (tree_of t.draft) refl refl (omega arith) (last_seen account drafts.lasts) is drafts.draft)
      (draft_met s.cells (entry_for client m c (reply.Drafted m.last) m.last) drafting refl
      drafts.lasts.grown)

  -- The heap was full for a command on the draft.
  pub draft_full_turned : {s t : ClientState} → is_drafting c ≡ true
      → full_place m.last m c ≡ Some m.last → IsAccount m s → MakesNone s t → IsReady t
      → Had (IsFull s.cells) s.marks t.marks → Turned l client m c s t (reply.Full m.last) m.last
  draft_full_turned {s = s} {t = t} drafting needs account none ready had =
      unmade_turned (reply.Full m.last) m.last refl none.lasts none.commits ready (λ _. none.small)
      (full_answers l client m c t.pass m.last (tree_of t.draft) needs (omega arith)
      (last_seen account none.lasts) (ap tree_of none.draft ∙ sym account.draft))
      (draft_full_met s.cells (entry_for client m c (reply.Full m.last) m.last) drafting had)

  -- The heap was full for a command that read a version, before that or after it.
  pub full_turned : {s t : ClientState} (v : ℕ) → full_place v m c ≡ Some v → IsAccount m s
      → HasRead v [] s t → IsReady t → Had (IsFull s.cells) s.marks t.marks
      → Turned l client m c s t (reply.Full v) v
  full_turned {s = s} {t = t} v needs account read ready had =
      unmade_turned (reply.Full v) v refl read.none.lasts read.none.commits ready
      (λ _. read.none.small)
      (full_answers l client m c t.pass v (tree_of t.draft) needs (last_before account read)
      read.seen (ap tree_of read.none.draft ∙ sym account.draft))
      (full_met s.cells (entry_for client m c (reply.Full v) v) read.cell
      (asked (reply.Full v) v refl read) had)

  -- Commands that edit the latest version.

  pub begun_new : {s t : ClientState} (v : ℕ) (edited : Result DocTree EditFault) → IsAccount m s
      → HasRead v [] s t → runs_out edited ≡ false
      → ((trees : List DocTree) → Fits trees t.pass → answer l trees v m c ≡ committed l v edited)
      → Begun l m c v s t edited
  begun_new v edited account read spared is =
      record { account = account; read = read; spared = spared; is = is }

  -- a call before, and one after
  pub begun_late : {s t u : ClientState} {v : ℕ} {edited : Result DocTree EditFault}
      → IsAccount m s → MakesNone s t → Begun l m c v t u edited → Begun l m c v s u edited
  begun_late account none begun = record {
    account = account;
    read = read_late none begun.read;
    spared = begun.spared;
    is = begun.is;
  }

  pub begun_on : {s t u : ClientState} {v : ℕ} {edited : Result DocTree EditFault}
      → Begun l m c v s t edited → MakesNone t u → Begun l m c v s u edited
  begun_on begun none = record {
    account = begun.account;
    read = read_on begun.read none;
    spared = begun.spared;
    is = λ trees fits. begun.is trees (none.lasts.passes.narrows trees fits);
  }

  -- the edit is refused
  pub begun_refused : {s t : ClientState} (v : ℕ) (e : EditFault) → Begun l m c v s t (Err e)
      → IsReady t → Turned l client m c s t (refusal e v) v
  begun_refused {s = s} {t = t} v e begun ready =
      let plain = refusal_not_ok e v in
      let spare = refusal_full e v ∙ begun.spared in
      unmade_turned (refusal e v) v plain begun.read.none.lasts begun.read.none.commits ready
      (λ _. begun.read.none.small)
      (plain_answers l client m c t.pass (refusal e v) v None (tree_of t.draft) plain spare
      (last_before begun.account begun.read) begun.read.seen begun.is
      (ap tree_of begun.read.none.draft ∙ sym begun.account.draft))
      (shown_met s.cells (entry_for client m c (refusal e v) v) begun.read.cell spare
      (subst (λ (asks : List Ask). Shows (version_asks begun.read.cell
      (seen_by (entry_for client m c (refusal e v) v)) ++ asks) s.marks t.marks)
      (sym (refusal_silent e v))
      (subst (λ (n : ℕ). Shows (version_asks begun.read.cell n) s.marks t.marks)
      (sym (seen_plain l client m c (refusal e v) v plain)) begun.read.shows)))

  -- as many versions are made as may be
  pub begun_worn : {s t : ClientState} (v : ℕ) (tree : DocTree) → Begun l m c v s t (Ok tree)
      → l.versions ≤ v → IsReady t → Turned l client m c s t (reply.Worn v) v
  begun_worn v tree begun worn ready =
      read_turned (reply.Worn v) v refl refl begun.account begun.read ready
      (λ trees fits. begun.is trees fits ∙ committed_worn l v tree worn)

  -- the heap was full
  pub begun_full : {s t : ClientState} (v : ℕ) (edited : Result DocTree EditFault)
      → Begun l m c v s t edited → full_place v m c ≡ Some v → IsReady t
      → Had (IsFull s.cells) s.marks t.marks → Turned l client m c s t (reply.Full v) v
  begun_full v edited begun needs ready had =
      full_turned v needs begun.account begun.read ready had

  -- the version is made, and what is older than is kept cut off
  pub begun_ok : {s t u : ClientState} (v : ℕ) (tree : DocTree) → Begun l m c v s t (Ok tree)
      → v < l.versions → Made v tree t u → IsReady u
      → (l.keep ≤ v + 1 → v + 1 + 1 ≤ u.pass.cut + l.keep)
      → Turned l client m c s u (reply.Committed (v + 1)) (v + 1)
  begun_ok {s = s} {t = t} {u = u} v tree begun below made ready due = record {
    lasts = lasts_then begun.read.none.lasts made.lasts;
    ready = ready;
    commits = made.commits ∙ ap (λ (ns : List ℕ). ns ++ (v + 1) ∷ []) begun.read.none.commits;
    answers = ok_answers l client m c u.pass v tree (tree_of u.draft) below
        (last_before begun.account begun.read) made.seen
        (λ trees fits. begun.is trees (made.lasts.passes.narrows trees fits)) made.tree_is
        (ap tree_of (made.draft ∙ begun.read.none.draft) ∙ sym begun.account.draft);
    meets = met_on s.cells (entry_for client m c (reply.Committed (v + 1)) (v + 1))
        (shown_met s.cells (entry_for client m c (reply.Committed (v + 1)) (v + 1))
        begun.read.cell refl
        (subst (λ (n : ℕ). Shows (version_asks begun.read.cell n) s.marks t.marks)
        (sym (seen_made l client m c v)) begun.read.shows)) made.lasts.grown;
    rose = λ _. let x = begun.read.none.lasts.claims in let y = made.rose in omega (arith, x, y);
    trimmed = λ _ many. due many;
    small = λ _. small_then s t u begun.read.none.small made.small;
  }

  -- by a latest version that was read after it
  pub begun_trimmed : {s t u : ClientState} (v newest : ℕ) (tree : DocTree)
      → Begun l m c v s t (Ok tree) → v < l.versions → Made v tree t u → IsReady u
      → v + 1 ≤ newest → newest + 1 ≤ u.pass.cut + l.keep
      → Turned l client m c s u (reply.Committed (v + 1)) (v + 1)
  begun_trimmed v newest tree begun below made ready later due =
      begun_ok v tree begun below made ready (λ _. omega (arith, later, due))

  -- Calls before, and after.

  pub turned_late : {s t u : ClientState} {r : Reply} {place : ℕ} → MakesNone s t
      → Turned l client m c t u r place → Turned l client m c s u r place
  turned_late {s = s} {t = t} {u = u} {r = r} {place = place} none turned =
      let e = entry_for client m c r place in
      record {
        lasts = lasts_then none.lasts turned.lasts;
        ready = turned.ready;
        commits = turned.commits
            ∙ ap (λ (ns : List ℕ). ns ++ new_numbers (is_ok r) place) none.commits;
        answers = turned.answers;
        meets = met_late s.cells e none.lasts.grown
            (subst (λ (n : ℕ). Had (Demand n e) t.marks u.marks) none.lasts.cells turned.meets);
        rose = λ ok. let x = none.lasts.claims in let y = turned.rose ok in omega (arith, x, y);
        trimmed = turned.trimmed;
        small = λ plain. small_then s t u none.small (turned.small plain);
      }

  pub turned_on : {s t u : ClientState} {r : Reply} {place : ℕ} → Turned l client m c s t r place
      → Lost t u → Turned l client m c s u r place
  turned_on {s = s} {t = t} {u = u} {r = r} {place = place} turned lost =
      let grows = lost.lasts.passes in
      record {
        lasts = lasts_then turned.lasts lost.lasts;
        ready = lost.ready;
        commits = lost.commits ∙ turned.commits;
        answers = record {
          made = turned.answers.made;
          drafted = turned.answers.drafted;
          rises = turned.answers.rises;
          seen = let x = turned.answers.seen in let y = grows.seen in omega (arith, x, y);
          is = λ trees fits. turned.answers.is trees (grows.narrows trees fits);
          made_is = λ trees fits. turned.answers.made_is trees (grows.narrows trees fits);
          left = ap tree_of lost.draft ∙ turned.answers.left;
        };
        meets = met_on s.cells (entry_for client m c r place) turned.meets lost.lasts.grown;
        rose = λ ok. let x = turned.rose ok in let y = lost.lasts.claims in omega (arith, x, y);
        trimmed = λ ok due.
            let x = turned.trimmed ok due in let y = grows.cut in omega (arith, x, y);
        small = λ plain. small_then s t u (turned.small plain) lost.small;
      }

  -- A lost turn before.
  pub lost_turned : {s t u : ClientState} {r : Reply} {place : ℕ} → Lost s t
      → Turned l client m c t u r place → Turned l client m c s u r place
  lost_turned lost turned = turned_late (lost_none lost) turned
