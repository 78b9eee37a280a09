-- An edit of the latest version, and what is begun by it.
use Rattle.std.proofs.Common.{◌≡◌, ℕ, ◌+◌, ◌≤◌, false, List, sym, ◌∙◌, ap, arith}
use Rattle.std.proofs.Common.{Result, refl}
use Rattle.client_session.specs.Handles.{Edits, Handles, Still}
use Rattle.client_session.specs.Turns.{Begins, MayTurn, account_of, bounds}
use Rattle.client_session.specs.declared.given.Opened.{Opened}
use Rattle.client_session.specs.declared.journal.Journal.{Journal}
use Rattle.client_session.proofs.Readings.{account_is}
use Rattle.client_session.proofs.Rooms.{same_none}
use Rattle.client_history.specs.Progress.{MakesNone, runs_out}
use Rattle.client_history.specs.State.{ClientState, Rests}
use Rattle.client_history.specs.Turns.{Begun}
use Rattle.client_history.proofs.Reading.{known_on, read_on}
use Rattle.client_history.proofs.States.{lasts_then}
use Rattle.client_history.proofs.Turning.{begun_new}
use Rattle.doc_model.specs.Answers.{committed}
use Rattle.doc_model.specs.Store.{answer, tree_at}
use Rattle.doc_model.specs.declared.command.Command.{Command}
use Rattle.doc_tree.specs.Tree.{DocTree}
use Rattle.doc_tree.specs.declared.edit.EditFault.{EditFault}

pub edits_none : {places : ℕ} {s t : ClientState} → Edits places s t → MakesNone s t
edits_none edits =
    same_none edits.pass edits.draft (let is = edits.base in omega (arith, is)) edits.lasts

-- What was made of the latest tree is a function of it that never runs out of memory, and the
-- command's answer is that of this function.
pub worked_begun : (j : Journal) (c : Command) {At : Type 0} {s t u : ClientState} {h : Handles At}
    (o : Opened At) (f : DocTree → Result DocTree EditFault)
    (edited : Result DocTree EditFault)
    → MayTurn j s → Begins s t h o → MakesNone t u → edited ≡ f (h.tree o.root)
    → ((d : DocTree) → runs_out (f d) ≡ false)
    → ((trees : List DocTree)
    → answer (bounds j.limits) trees o.version.number (account_of j s) c
    ≡ committed (bounds j.limits) o.version.number (f (tree_at trees o.version.number)))
    → Begun (bounds j.limits) (account_of j s) c o.version.number s u edited
worked_begun j c {s = s} {t = t} {u = u} {h = h} o f edited may begins none made spared is =
    let v = o.version.number in
    let l = bounds j.limits in
    begun_new l j.log.client (account_of j s) c v edited (account_is j s may.last)
    (read_on begins.read none) (ap runs_out made ∙ spared (h.tree o.root))
    (λ trees fits. is trees
    ∙ ap (λ (d : DocTree). committed l v (f d))
    (known_on t.pass u.pass v (h.tree o.root) none.lasts.passes begins.holds.knows trees fits)
    ∙ ap (committed l v) (sym made))

-- and so of one edit
pub edited_begun : (j : Journal) (c : Command) {At : Type 0} {s t u : ClientState} {h : Handles At}
    (o : Opened At) (places : ℕ) (f : DocTree → Result DocTree EditFault)
    (edited : Result DocTree EditFault)
    → MayTurn j s → Begins s t h o → Edits places t u → edited ≡ f (h.tree o.root)
    → ((d : DocTree) → runs_out (f d) ≡ false)
    → ((trees : List DocTree)
    → answer (bounds j.limits) trees o.version.number (account_of j s) c
    ≡ committed (bounds j.limits) o.version.number (f (tree_at trees o.version.number)))
    → Begun (bounds j.limits) (account_of j s) c o.version.number s u edited
edited_begun j c o places f edited may begins edits made spared is =
    worked_begun j c o f edited may begins (edits_none edits) made spared is

-- for more places
pub edits_within : {few : ℕ} (places : ℕ) → few ≤ places → {s t : ClientState}
    → Edits few s t → Edits places s t
edits_within places le edits = record {
  lasts = edits.lasts;
  pass = edits.pass;
  draft = edits.draft;
  base = edits.base;
  room = let x = edits.room in omega (arith, x, le);
  spare = edits.spare;
}

-- calls before an edit
pub edits_late : (a : ℕ) {b : ℕ} {s t u : ClientState} → t.pass ≡ s.pass → Rests a s t
    → Edits b t u → Edits (a + b) s u
edits_late a pass rests edits = record {
  lasts = lasts_then rests.lasts edits.lasts;
  pass = edits.pass ∙ pass;
  draft = edits.draft ∙ rests.draft;
  base = edits.base ∙ rests.base;
  room = let x = rests.room in let y = edits.room in omega (arith, x, y);
  spare = let x = rests.spare in let y = edits.spare in omega (arith, x, y);
}

pub rests_edits : (a : ℕ) {s t : ClientState} → t.pass ≡ s.pass → Rests a s t
    → Edits a s t
rests_edits a pass rests = record {
  lasts = rests.lasts;
  pass = pass;
  draft = rests.draft;
  base = rests.base;
  room = let x = rests.room in omega (arith, x);
  spare = let x = rests.spare in omega (arith, x);
}

pub still_same : {At : Type 0} (h : Handles At) → Still h h
still_same h = record {
  nodes = λ x stands. stands;
  trees = λ x stands. refl;
  versions = λ v held. held;
  roots = λ v held. refl;
}

pub still_then : {At : Type 0} {a b c : Handles At} → Still a b → Still b c → Still a c
still_then one two = record {
  nodes = λ x stands. two.nodes x (one.nodes x stands);
  trees = λ x stands. two.trees x (one.nodes x stands) ∙ one.trees x stands;
  versions = λ v held. two.versions v (one.versions v held);
  roots = λ v held. two.roots v (one.versions v held) ∙ one.roots v held;
}
