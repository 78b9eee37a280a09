-- Each command by its name: what it is answered, and so which way its turn ends.
--
-- get, list, size, old   read_turned, by what was found at the path
-- put, del, copy, publish, batch   begun_new, and then one of begun_refused, worn, full, ok
-- batch                  full_turned, where the heap is full before the last edit is made
-- take                   taken_turned, or read_turned where nothing is there, or full_turned
-- dget                   draft_turned
-- dput                   drafted_turned, or draft_turned at a refusal, or draft_full_turned
use Rattle.std.proofs.Common.{◌≡◌, ℕ, ◌+◌, ◌-◌, ◌≤◌, ◌<◌, List, [], ◌∷◌}
use Rattle.std.proofs.Common.{refl, sym, ◌∙◌, ap, subst, arith, nat_le, nat_lt, Option, Some, None}
use Rattle.std.proofs.Common.{Ok, Err}
use Rattle.std.proofs.lemmas.Bool.{le-leb, le-ltb, lt-leb, lt-ltb}
use Rattle.cell_words.specs.declared.fields.Field.TheVariants as field
use Rattle.doc_model.specs.Answers.{Limits, all_made, attached, committed, count_shown}
use Rattle.doc_model.specs.Answers.{drafted, names_shown, refusal, taken, text_shown}
use Rattle.doc_model.specs.Answers.{told}
use Rattle.doc_model.specs.Store.{answer, tree_at}
use Rattle.doc_model.specs.declared.answer.Account.{Account}
use Rattle.doc_model.specs.declared.command.Command.TheVariants as command
use Rattle.doc_model.specs.declared.command.Reply.TheVariants as reply
use Rattle.doc_model.specs.declared.edits.Edit.{Edit}
use Rattle.doc_records.specs.Texts.{name_asks, text_asks}
use Rattle.doc_tree.specs.Edits.{attach, delete, set_text}
use Rattle.doc_tree.specs.Tree.{DocTree, count, names_of, node}
use Rattle.doc_tree.specs.declared.edit.EditFault.{EditFault}
use Rattle.trails.specs.Asks.{gave}
use Rattle.trails.specs.Claims.{IsFull}
use Rattle.trails.specs.Stretches.{Had}
use Rattle.version_rule.specs.Fits.{Fits}
use Rattle.version_rule.specs.Pass.{Pass}
use Rattle.client_history.specs.Progress.{Drafts, HasRead, IsAccount, KnowsTree, MakesNone}
use Rattle.client_history.specs.Progress.{runs_out}
use Rattle.client_history.specs.State.{ClientState, IsReady}
use Rattle.client_history.specs.Turns.{Begun, Turned}
use Rattle.client_history.proofs.Answering.{chosen_first, chosen_second, refusal_full}
use Rattle.client_history.proofs.Answering.{refusal_not_ok}
use Rattle.client_history.proofs.Spared.{all_spared, attach_spared, attached_spared, delete_spared}
use Rattle.client_history.proofs.Spared.{set_text_spared}
use Rattle.client_history.proofs.Turning.{begun_new, begun_refused, draft_full_turned, draft_turned}
use Rattle.client_history.proofs.Turning.{drafted_turned, full_turned, read_turned, taken_turned}

-- The answer by what was found at the path in a version.

module _ (l : Limits) (m : Account) (p : Pass) (v : ℕ) (now : DocTree) (knows : KnowsTree p v now)
    (path : List (List ℕ)) where
  -- what the latest version has at the path is what was found
  found_at : {A : Type 0} (show : Option DocTree → A) (found : Option DocTree)
      → node path now ≡ found → (trees : List DocTree) → Fits trees p
      → show (node path (tree_at trees v)) ≡ show found
  found_at show found is trees fits =
      ap (λ (t : DocTree). show (node path t)) (knows trees fits) ∙ ap show is

  pub get_is : (found : Option DocTree) → node path now ≡ found → (trees : List DocTree)
      → Fits trees p → answer l trees v m (command.Get path) ≡ text_shown v v found
  get_is found is trees fits = found_at (text_shown v v) found is trees fits

  pub list_is : (found : Option DocTree) → node path now ≡ found → (trees : List DocTree)
      → Fits trees p → answer l trees v m (command.List path) ≡ names_shown v found
  list_is found is trees fits = found_at (names_shown v) found is trees fits

  pub size_is : (found : Option DocTree) → node path now ≡ found → (trees : List DocTree)
      → Fits trees p → answer l trees v m (command.Size path) ≡ count_shown v found
  size_is found is trees fits = found_at (count_shown v) found is trees fits

  pub take_is : (found : Option DocTree) → node path now ≡ found → (trees : List DocTree)
      → Fits trees p → answer l trees v m (command.Take path) ≡ taken v found
  take_is found is trees fits = found_at (taken v) found is trees fits

  pub put_is : (text : List ℕ) (trees : List DocTree) → Fits trees p
      → answer l trees v m (command.Put path text) ≡ committed l v (set_text path text now)
  put_is text trees fits =
      ap (λ (t : DocTree). committed l v (set_text path text t)) (knows trees fits)

  pub del_is : (trees : List DocTree) → Fits trees p
      → answer l trees v m (command.Del path) ≡ committed l v (delete path now)
  del_is trees fits = ap (λ (t : DocTree). committed l v (delete path t)) (knows trees fits)

  pub copy_is : (to : List (List ℕ)) (found : Option DocTree) → node path now ≡ found
      → (trees : List DocTree) → Fits trees p
      → answer l trees v m (command.Copy path to) ≡ committed l v (attached to now found)
  copy_is to found is trees fits =
      ap (λ (t : DocTree). committed l v (attached to t (node path t))) (knows trees fits)
      ∙ ap (λ (o : Option DocTree). committed l v (attached to now o)) is

  pub publish_is : (trees : List DocTree) → Fits trees p
      → answer l trees v m (command.Publish path) ≡ committed l v (attach path m.draft now)
  publish_is trees fits =
      ap (λ (t : DocTree). committed l v (attach path m.draft t)) (knows trees fits)

-- A batch is answered from the tree of the version that was read, as one edit is.

module _ (l : Limits) (m : Account) (p : Pass) (v : ℕ) (now : DocTree) (knows : KnowsTree p v now)
    (edits : List Edit) where
  pub batch_is : (trees : List DocTree) → Fits trees p
      → answer l trees v m (command.Batch edits) ≡ committed l v (all_made m.draft edits now)
  batch_is trees fits =
      ap (λ (t : DocTree). committed l v (all_made m.draft edits t)) (knows trees fits)

-- An older version is answered from its own tree alone.

module _ (l : Limits) (m : Account) (v back : ℕ) (path : List (List ℕ)) where
  pub old_before : v < back → (trees : List DocTree)
      → answer l trees v m (command.Old back path) ≡ told (reply.Before v) v
  old_before far trees =
      chosen_first (nat_lt v back) _ _ (lt-ltb v back far)

  pub old_gone : back ≤ v → l.keep ≤ back → (trees : List DocTree)
      → answer l trees v m (command.Old back path) ≡ told (reply.Gone v (v - back)) v
  old_gone there far trees =
      chosen_second (nat_lt v back) _ _ (le-ltb v back there)
      ∙ chosen_first (nat_le l.keep back) _ _ (le-leb l.keep back far)

  pub old_is : (p : Pass) (older : DocTree) (number : ℕ) (found : Option DocTree) → back < l.keep
      → number + back ≡ v → KnowsTree p number older → node path older ≡ found
      → (trees : List DocTree) → Fits trees p
      → answer l trees v m (command.Old back path) ≡ text_shown number v found
  old_is p older number found near total knows is trees fits =
      let there : back ≤ v = omega (arith, total) in
      let same : v - back ≡ number = omega (arith, total) in
      chosen_second (nat_lt v back) _ _ (le-ltb v back there)
      ∙ chosen_second (nat_le l.keep back) _ _ (lt-leb l.keep back near)
      ∙ ap (λ (n : ℕ). text_shown n v (node path (tree_at trees n))) same
      ∙ ap (λ (t : DocTree). text_shown number v (node path t)) (knows trees fits)
      ∙ ap (text_shown number v) is

-- Turns.

module _ (l : Limits) (client : ℕ) (m : Account) {s t : ClientState} (account : IsAccount m s)
    (ready : IsReady t) (path : List (List ℕ)) where
  module _ (v : ℕ) (now : DocTree) (knows : KnowsTree t.pass v now) where
    pub get_turned : (found : DocTree) → node path now ≡ Some found
        → HasRead v (text_asks found.text) s t
        → Turned l client m (command.Get path) s t (reply.Val v found.text) v
    get_turned found is read =
        read_turned l client m (command.Get path) (reply.Val v found.text) v refl refl account read
        ready (get_is l m t.pass v now knows path (Some found) is)

    pub get_absent : node path now ≡ None → HasRead v [] s t
        → Turned l client m (command.Get path) s t (reply.Absent v) v
    get_absent is read =
        read_turned l client m (command.Get path) (reply.Absent v) v refl refl account read ready
        (get_is l m t.pass v now knows path None is)

    pub list_turned : (found : DocTree) → node path now ≡ Some found
        → HasRead v (name_asks (names_of found.kids)) s t
        → Turned l client m (command.List path) s t (reply.Names v (names_of found.kids)) v
    list_turned found is read =
        read_turned l client m (command.List path) (reply.Names v (names_of found.kids)) v refl refl
        account read ready (list_is l m t.pass v now knows path (Some found) is)

    pub list_absent : node path now ≡ None → HasRead v [] s t
        → Turned l client m (command.List path) s t (reply.Absent v) v
    list_absent is read =
        read_turned l client m (command.List path) (reply.Absent v) v refl refl account read ready
        (list_is l m t.pass v now knows path None is)

    pub size_turned : (found : DocTree) → node path now ≡ Some found
        → HasRead v (gave (field.Num (count found)) ∷ []) s t
        → Turned l client m (command.Size path) s t (reply.Count v (count found)) v
    size_turned found is read =
        read_turned l client m (command.Size path) (reply.Count v (count found)) v refl refl account
        read ready (size_is l m t.pass v now knows path (Some found) is)

    pub size_absent : node path now ≡ None → HasRead v [] s t
        → Turned l client m (command.Size path) s t (reply.Absent v) v
    size_absent is read =
        read_turned l client m (command.Size path) (reply.Absent v) v refl refl account read ready
        (size_is l m t.pass v now knows path None is)

    pub take_absent : node path now ≡ None → HasRead v [] s t
        → Turned l client m (command.Take path) s t (reply.Absent v) v
    take_absent is read =
        read_turned l client m (command.Take path) (reply.Absent v) v refl refl account read ready
        (take_is l m t.pass v now knows path None is)

    pub take_turned : {r : ClientState} (found : DocTree) → node path now ≡ Some found
        → HasRead v [] s r → Drafts found r t
        → Turned l client m (command.Take path) s t (reply.Drafted v) v
    take_turned found is read drafts =
        taken_turned l client m (command.Take path) v found refl account read drafts ready
        (take_is l m t.pass v now knows path (Some found) is)

    -- the four that make a version
    pub put_begun : (text : List ℕ) → HasRead v [] s t
        → Begun l m (command.Put path text) v s t (set_text path text now)
    put_begun text read =
        begun_new l client m (command.Put path text) v (set_text path text now) account read
        (set_text_spared path text now) (put_is l m t.pass v now knows path text)

    pub del_begun : HasRead v [] s t → Begun l m (command.Del path) v s t (delete path now)
    del_begun read =
        begun_new l client m (command.Del path) v (delete path now) account read
        (delete_spared path now) (del_is l m t.pass v now knows path)

    pub copy_begun : (to : List (List ℕ)) (found : Option DocTree) → node path now ≡ found
        → HasRead v [] s t → Begun l m (command.Copy path to) v s t (attached to now found)
    copy_begun to found is read =
        begun_new l client m (command.Copy path to) v (attached to now found) account read
        (attached_spared to now found) (copy_is l m t.pass v now knows path to found is)

    pub publish_begun : HasRead v [] s t
        → Begun l m (command.Publish path) v s t (attach path m.draft now)
    publish_begun read =
        begun_new l client m (command.Publish path) v (attach path m.draft now) account read
        (attach_spared path m.draft now) (publish_is l m t.pass v now knows path)

  pub take_full : (v : ℕ) → HasRead v [] s t → Had (IsFull s.cells) s.marks t.marks
      → Turned l client m (command.Take path) s t (reply.Full v) v
  take_full v read had = full_turned l client m (command.Take path) v refl account read ready had

  module _ (v back : ℕ) where
    pub old_before_turned : v < back → HasRead v [] s t
        → Turned l client m (command.Old back path) s t (reply.Before v) v
    old_before_turned far read =
        read_turned l client m (command.Old back path) (reply.Before v) v refl refl account read
        ready (λ trees fits. old_before l m v back path far trees)

    pub old_gone_turned : back ≤ v → l.keep ≤ back → HasRead v [] s t
        → Turned l client m (command.Old back path) s t (reply.Gone v (v - back)) v
    old_gone_turned there far read =
        read_turned l client m (command.Old back path) (reply.Gone v (v - back)) v refl refl account
        read ready (λ trees fits. old_gone l m v back path there far trees)

    module _ (older : DocTree) (number : ℕ) (near : back < l.keep) (total : number + back ≡ v)
        (knows : KnowsTree t.pass number older) where
      pub old_turned : (found : DocTree) → node path older ≡ Some found
          → HasRead v (text_asks found.text) s t
          → Turned l client m (command.Old back path) s t (reply.Val number found.text) v
      old_turned found is read =
          read_turned l client m (command.Old back path) (reply.Val number found.text) v refl refl
          account read ready
          (old_is l m v back path t.pass older number (Some found) near total knows is)

      pub old_absent : node path older ≡ None → HasRead v [] s t
          → Turned l client m (command.Old back path) s t (reply.Absent number) v
      old_absent is read =
          read_turned l client m (command.Old back path) (reply.Absent number) v refl refl
          account read ready
          (old_is l m v back path t.pass older number None near total knows is)

  -- the draft alone
  pub dget_turned : (found : DocTree) → node path m.draft ≡ Some found → MakesNone s t
      → Turned l client m (command.DraftGet path) s t (reply.Val m.last found.text) m.last
  dget_turned found is none =
      draft_turned l client m (command.DraftGet path) (reply.Val m.last found.text) refl refl refl
      account none ready (λ trees fits. ap (text_shown m.last m.last) is)

  pub dget_absent : node path m.draft ≡ None → MakesNone s t
      → Turned l client m (command.DraftGet path) s t (reply.Absent m.last) m.last
  dget_absent is none =
      draft_turned l client m (command.DraftGet path) (reply.Absent m.last) refl refl refl
      account none ready (λ trees fits. ap (text_shown m.last m.last) is)

  module _ (text : List ℕ) where
    pub dput_turned : (tree : DocTree) → set_text path text m.draft ≡ Ok tree → Drafts tree s t
        → Turned l client m (command.DraftPut path text) s t (reply.Drafted m.last) m.last
    dput_turned tree is drafts =
        drafted_turned l client m (command.DraftPut path text) tree refl refl account drafts ready
        (λ trees fits. ap (drafted m.last) is)

    pub dput_refused : (e : EditFault) → set_text path text m.draft ≡ Err e → MakesNone s t
        → Turned l client m (command.DraftPut path text) s t (refusal e m.last) m.last
    dput_refused e is none =
        draft_turned l client m (command.DraftPut path text) (refusal e m.last) refl
        (refusal_not_ok e m.last)
        (refusal_full e m.last ∙ ap runs_out (sym is) ∙ set_text_spared path text m.draft)
        account none ready (λ trees fits. ap (drafted m.last) is)

    pub dput_full : MakesNone s t → Had (IsFull s.cells) s.marks t.marks
        → Turned l client m (command.DraftPut path text) s t (reply.Full m.last) m.last
    dput_full none had =
        draft_full_turned l client m (command.DraftPut path text) refl refl account none ready had

-- The turn of a batch: all edits are made of the version that was read, and then it ends as that of
-- one edit does; or one of them is refused; or the heap is full before them, between two or after
-- them, and the reply is of the version that was read.

module _ (l : Limits) (client : ℕ) (m : Account) {s t : ClientState} (account : IsAccount m s)
    (v : ℕ) (edits : List Edit) (read : HasRead v [] s t) where
  module _ (now : DocTree) (knows : KnowsTree t.pass v now) where
    pub batch_begun : Begun l m (command.Batch edits) v s t (all_made m.draft edits now)
    batch_begun =
        begun_new l client m (command.Batch edits) v (all_made m.draft edits now) account read
        (all_spared m.draft edits now) (batch_is l m t.pass v now knows edits)

    pub batch_refused : (e : EditFault) → all_made m.draft edits now ≡ Err e → IsReady t
        → Turned l client m (command.Batch edits) s t (refusal e v) v
    batch_refused e is ready =
        begun_refused l client m (command.Batch edits) v e
        (subst (Begun l m (command.Batch edits) v s t) is batch_begun) ready

  pub batch_full : IsReady t → Had (IsFull s.cells) s.marks t.marks
      → Turned l client m (command.Batch edits) s t (reply.Full v) v
  batch_full ready had =
      full_turned l client m (command.Batch edits) v refl account read ready had
