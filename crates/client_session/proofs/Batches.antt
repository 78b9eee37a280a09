-- A batch: an edit more, and how it ends.
use Rattle.std.proofs.Common.{◌≡◌, ℕ, zero, suc, ◌<◌, ◌≤◌, ◌+◌, List, [], ◌∷◌, length, drop, get_or}
use Rattle.std.proofs.Common.{Result, Ok, Err, sym, ◌∙◌, ap, subst, arith, refl}
use Rattle.std.proofs.lemmas.List.{at_drop_more}
use Rattle.client_session.specs.Batches.{IsStopped, IsWorking, Moves}
use Rattle.client_session.specs.Handles.{Edits, Handles, Still}
use Rattle.client_session.specs.Turns.{Answered, Begins, MayTurn, Outrun, account_of, bounds}
use Rattle.client_session.specs.declared.given.Given.{Given}
use Rattle.client_session.specs.declared.given.Opened.{Opened}
use Rattle.client_session.specs.declared.journal.Journal.{Journal}
use Rattle.client_session.proofs.Commits.{refused_ends}
use Rattle.client_session.proofs.Editing.{edits_none, worked_begun}
use Rattle.client_session.proofs.Rooms.{full_ends}
use Rattle.client_history.specs.Progress.{MakesNone}
use Rattle.client_history.specs.State.{ClientState}
use Rattle.client_history.specs.Turns.{Begun}
use Rattle.client_history.proofs.Reading.{read_on}
use Rattle.client_history.proofs.Spared.{all_spared}
use Rattle.client_history.proofs.States.{none_lost, none_still, none_then}
use Rattle.doc_model.specs.Answers.{all_made, edit_made, refusal}
use Rattle.doc_model.specs.declared.command.Command.TheVariants as command
use Rattle.doc_model.specs.declared.command.Reply.TheVariants as reply
use Rattle.doc_model.specs.declared.edits.Edit.{Edit}
use Rattle.doc_records.specs.Trees.{tree_of}
use Rattle.doc_tree.specs.Edits.{edited}
use Rattle.doc_tree.specs.Tree.{DocTree}
use Rattle.doc_tree.specs.declared.edit.EditFault.{EditFault}
use Rattle.trails.specs.Claims.{IsFull}
use Rattle.trails.specs.Stretches.{Had}
use Rattle.trails.proofs.Stretches.{had_late}

-- Before the first edit.
pub works_first : {At : Type 0} (s : ClientState) (h : Handles At) (o : Opened At)
    (edits : List Edit) → h.is_version o.version → h.is_node o.root → 9_100 ≤ s.room
    → IsWorking s s h o.version.number (all_made (tree_of s.draft) edits (h.tree o.root)) edits o
works_first s h o edits version node room = record {
  none = none_still s;
  number = refl;
  version = version;
  node = node;
  is = refl;
  room = room;
}

-- The edits that are left, by their number.

pub next_working : {At : Type 0} {s t : ClientState} {h : Handles At} {v : ℕ}
    {wanted : Result DocTree EditFault} {o : Opened At} (edits : List Edit) (k : ℕ) (e : Edit)
    → k < length edits → e ≡ get_or edits k e → IsWorking s t h v wanted (drop k edits) o
    → IsWorking s t h v wanted (e ∷ drop (k + 1) edits) o
next_working {s = s} {t = t} {h = h} {v = v} {wanted = wanted} {o = o} edits k e lt is working =
    subst (λ (es : List Edit). IsWorking s t h v wanted es o)
    (at_drop_more (λ (es : List Edit). es) edits k e lt
    ∙ ap (λ (x : Edit). x ∷ drop (k + 1) edits) (sym is)) working

drop_end : (edits : List Edit) (k : ℕ) → length edits ≤ k → drop k edits ≡ []
drop_end [] zero le = refl
drop_end [] (suc k) le = refl
drop_end (e ∷ edits) zero le = absurd (omega (arith, le))
drop_end (e ∷ edits) (suc k) le = drop_end edits k (omega (arith, le))

pub last_working : {At : Type 0} {s t : ClientState} {h : Handles At} {v : ℕ}
    {wanted : Result DocTree EditFault} {o : Opened At} (edits : List Edit) (k : ℕ)
    → length edits ≤ k → IsWorking s t h v wanted (drop k edits) o
    → IsWorking s t h v wanted [] o
last_working {s = s} {t = t} {h = h} {v = v} {wanted = wanted} {o = o} edits k le working =
    subst (λ (es : List Edit). IsWorking s t h v wanted es o) (drop_end edits k le) working

-- One edit of those that are left.

one_made : (draft : DocTree) (e : Edit) (es : List Edit) (t d : DocTree)
    {wanted : Result DocTree EditFault} → edit_made draft e t ≡ Ok d
    → all_made draft (e ∷ es) t ≡ wanted → all_made draft es d ≡ wanted
one_made draft e es t d made is = sym (ap (edited (all_made draft es)) made) ∙ is

one_refused : (draft : DocTree) (e : Edit) (es : List Edit) (t : DocTree) (fault : EditFault)
    {wanted : Result DocTree EditFault} → edit_made draft e t ≡ Err fault
    → all_made draft (e ∷ es) t ≡ wanted → wanted ≡ Err fault
one_refused draft e es t fault made is =
    sym is ∙ ap (edited (all_made draft es)) made

module _ {At : Type 0} {s t u w : ClientState} {h k : Handles At} {number : ℕ}
    {wanted : Result DocTree EditFault} (e : Edit) (es : List Edit) (o next : Opened At)
    (working : IsWorking s t h number wanted (e ∷ es) o) (none : MakesNone t u)
    (moves : Moves u h k o next) (edits : Edits 8 u w) where
  all_none : MakesNone s w
  all_none = none_then (none_then working.none none) (edits_none edits)

  edit_same : edit_made (tree_of u.draft) e (k.tree next.root)
      ≡ edit_made (tree_of s.draft) e (h.tree o.root)
  edit_same =
      ap (λ (d : DocTree). edit_made d e (k.tree next.root))
      (ap tree_of (none.draft ∙ working.none.draft))
      ∙ ap (edit_made (tree_of s.draft) e) moves.same

  pub works_on : {l : Handles At} (root : At) → Still k l → l.is_node root
      → Ok (l.tree root) ≡ edit_made (tree_of u.draft) e (k.tree next.root)
      → IsWorking s w l number wanted es (record { version = next.version; root = root })
  works_on {l = l} root still node made = record {
    none = all_none;
    number = moves.number ∙ working.number;
    version = still.versions next.version moves.version;
    node = node;
    is = one_made (tree_of s.draft) e es (h.tree o.root) (l.tree root) (sym (made ∙ edit_same))
        working.is;
    room = let x = moves.room in let y = edits.room in omega (arith, x, y);
  }

  pub works_refused : (fault : EditFault)
      → Err fault ≡ edit_made (tree_of u.draft) e (k.tree next.root)
      → IsStopped s w × (wanted ≡ Err fault)
  works_refused fault made = (
    record {
      none = all_none;
      ready = let x = moves.room in let y = edits.room in omega (arith, x, y);
    },
    one_refused (tree_of s.draft) e es (h.tree o.root) fault (sym (made ∙ edit_same)) working.is,
  )

-- No edit more.
module _ {At : Type 0} {s t u : ClientState} {h : Handles At} {number : ℕ}
    {wanted : Result DocTree EditFault} {left : List Edit} {o : Opened At}
    (working : IsWorking s t h number wanted left o) (none : MakesNone t u)
    (kept : t.room ≤ u.room + 1) where
  pub works_stopped : IsStopped s u
  works_stopped = record {
    none = none_then working.none none;
    ready = let x = working.room in omega (arith, x, kept);
  }

  pub works_outrun : o.version.number < u.pass.seen
      → IsStopped s u × (number < u.pass.seen)
  works_outrun newer =
      (works_stopped, let is = working.number in omega (arith, is, newer))

  pub works_full : Had (IsFull t.cells) t.marks u.marks
      → IsStopped s u × Had (IsFull s.cells) s.marks u.marks
  works_full had = (
    works_stopped,
    had_late (IsFull s.cells) working.none.lasts.grown
        (subst (λ (n : ℕ). Had (IsFull n) t.marks u.marks) working.none.lasts.cells had),
  )

-- The ends, over a version that was read.
module _ (j : Journal) (edits : List Edit) {At : Type 0} {s t u : ClientState} {h : Handles At}
    (o : Opened At) (may : MayTurn j s) (begins : Begins s t h o) where
  pub batch_begun : (made : Result DocTree EditFault) → MakesNone t u
      → all_made (tree_of t.draft) edits (h.tree o.root) ≡ made
      → Begun (bounds j.limits) (account_of j s) (command.Batch edits) o.version.number s u made
  batch_begun made none is =
      worked_begun j (command.Batch edits) o (all_made (tree_of s.draft) edits) made may begins
      none
      (sym is
      ∙ ap (λ (d : DocTree). all_made d edits (h.tree o.root)) (ap tree_of begins.read.none.draft))
      (all_spared (tree_of s.draft) edits) (λ trees. refl)

  pub batch_made : {k : Handles At} (made : Opened At)
      → IsWorking t u k o.version.number (all_made (tree_of t.draft) edits (h.tree o.root)) [] made
      → Begun (bounds j.limits) (account_of j s) (command.Batch edits) made.version.number s u
      (Ok (k.tree made.root))
  batch_made {k = k} made working =
      subst
      (λ (n : ℕ). Begun (bounds j.limits) (account_of j s) (command.Batch edits) n s u
      (Ok (k.tree made.root)))
      (sym working.number) (batch_begun (Ok (k.tree made.root)) working.none (sym working.is))

  pub batch_refused : (fault : EditFault) (g : Given) → IsStopped t u
      → all_made (tree_of t.draft) edits (h.tree o.root) ≡ Err fault
      → g.reply ≡ refusal fault o.version.number → g.kept ≡ g.reply → g.place ≡ o.version.number
      → Answered j (command.Batch edits) s u g
  batch_refused fault g stopped is reply kept place =
      refused_ends j (command.Batch edits) o.version.number fault g
      (batch_begun (Err fault) stopped.none is) stopped.ready reply kept place

  pub batch_outrun : IsStopped t u → o.version.number < u.pass.seen → Outrun s u
  batch_outrun stopped newer = record {
    lost = none_lost stopped.ready (none_then begins.read.none stopped.none);
    newer = let low = begins.read.not_below in omega (arith, low, newer);
  }

  pub batch_full : IsStopped t u → Had (IsFull t.cells) t.marks u.marks
      → Answered j (command.Batch edits) s u (record {
        reply = reply.Full o.version.number;
        kept = reply.Full o.version.number;
        place = o.version.number;
      })
  batch_full stopped had = full_ends j (command.Batch edits) o.version.number may refl (record {
    read = read_on begins.read stopped.none;
    full = had_late (IsFull s.cells) begins.read.none.lasts.grown
        (subst (λ (n : ℕ). Had (IsFull n) t.marks u.marks) begins.read.none.lasts.cells had);
    ready = stopped.ready;
  })
