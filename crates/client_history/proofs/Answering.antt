-- The answer of a command over every list of versions, by the kinds of replies.
use Rattle.std.proofs.Common.{◌≡◌, ℕ, ◌+◌, ◌-◌, ◌≤◌, ◌<◌, Bool, true, false, cond, List, [], refl}
use Rattle.std.proofs.Common.{sym, ◌∙◌, ap, arith, Option, Some, None, Ok, Err, nat_lt, unwrap_or}
use Rattle.std.proofs.lemmas.Bool.{le-ltb, lt-ltb}
use Rattle.doc_model.specs.Answers.{Limits, committed, full_or, full_place, is_full, is_ok, refusal}
use Rattle.doc_model.specs.Answers.{told}
use Rattle.doc_model.specs.History.{seen_by, step_of}
use Rattle.doc_model.specs.Store.{answer, answer_for, tree_at}
use Rattle.doc_model.specs.declared.answer.Account.{Account}
use Rattle.doc_model.specs.declared.command.Command.{Command}
use Rattle.doc_model.specs.declared.command.Reply.{Reply}
use Rattle.doc_model.specs.declared.command.Reply.TheVariants as reply
use Rattle.doc_tree.specs.Tree.{DocTree}
use Rattle.doc_tree.specs.declared.edit.EditFault.{EditFault}
use Rattle.doc_tree.specs.declared.edit.EditFault.TheVariants as fault
use Rattle.version_rule.specs.Fits.{Fits}
use Rattle.version_rule.specs.Pass.{Pass}
use Rattle.client_history.specs.Demands.{reply_asks}
use Rattle.client_history.specs.Progress.{KnowsTree, runs_out}
use Rattle.client_history.specs.Turns.{Answers, entry_for}

-- A refusal of an edit makes no version, and says that the heap was full only where memory ran out.

pub refusal_not_ok : (e : EditFault) (v : ℕ) → is_ok (refusal e v) ≡ false
refusal_not_ok fault.Absent v = refl
refusal_not_ok fault.Many v = refl
refusal_not_ok fault.Deep v = refl
refusal_not_ok fault.Big v = refl
refusal_not_ok fault.NoMemory v = refl

pub refusal_full : (e : EditFault) (v : ℕ) → is_full (refusal e v) ≡ runs_out (Err e)
refusal_full fault.Absent v = refl
refusal_full fault.Many v = refl
refusal_full fault.Deep v = refl
refusal_full fault.Big v = refl
refusal_full fault.NoMemory v = refl

pub refusal_silent : (e : EditFault) (v : ℕ) → reply_asks (refusal e v) ≡ []
refusal_silent fault.Absent v = refl
refusal_silent fault.Many v = refl
refusal_silent fault.Deep v = refl
refusal_silent fault.Big v = refl
refusal_silent fault.NoMemory v = refl

pub chosen_first : {A : Type 0} (b : Bool) (x y : A) → b ≡ true → cond b x y ≡ x
chosen_first b x y is = ap (λ (c : Bool). cond c x y) is

pub chosen_second : {A : Type 0} (b : Bool) (x y : A) → b ≡ false → cond b x y ≡ y
chosen_second b x y is = ap (λ (c : Bool). cond c x y) is

-- an edited tree as the next version, where one may be made and where none may
pub committed_made : (l : Limits) (v : ℕ) (t : DocTree) → v < l.versions
    → committed l v (Ok t)
    ≡ record { reply = reply.Committed (v + 1); place = v + 1; made = Some t; draft = None }
committed_made l v t below =
    chosen_first (nat_lt v l.versions) _ _ (lt-ltb v l.versions below)

pub committed_worn : (l : Limits) (v : ℕ) (t : DocTree) → l.versions ≤ v
    → committed l v (Ok t) ≡ told (reply.Worn v) v
committed_worn l v t worn =
    chosen_second (nat_lt v l.versions) _ _ (le-ltb v l.versions worn)

module _ (l : Limits) (client : ℕ) (m : Account) (c : Command) where
  -- the version that an entry read is its place, where it made none
  pub seen_plain : (r : Reply) (place : ℕ) → is_ok r ≡ false
      → seen_by (entry_for client m c r place) ≡ place
  seen_plain r place plain =
      let none : step_of (entry_for client m c r place) ≡ 0 =
      ap (λ (b : Bool). cond {A = ℕ} b 1 0) plain in
      omega (arith, none)

  pub seen_made : (v : ℕ) → seen_by (entry_for client m c (reply.Committed (v + 1)) (v + 1)) ≡ v
  seen_made v = let is : v + 1 - 1 ≡ v = omega arith in is

  -- no version, and the heap was not full
  pub plain_answers : (p : Pass) (r : Reply) (place : ℕ) (drafted : Option DocTree)
      (draft : DocTree)
      → is_ok r ≡ false → is_full r ≡ false → m.last ≤ place → place ≤ p.seen
      → ((trees : List DocTree) → Fits trees p → answer l trees place m c
      ≡ record { reply = r; place = place; made = None; draft = drafted })
      → draft ≡ unwrap_or drafted m.draft → Answers l p client m c r place draft
  plain_answers p r place drafted draft plain spare last seen is left =
      let e = entry_for client m c r place in
      let none : step_of e ≡ 0 = ap (λ (b : Bool). cond {A = ℕ} b 1 0) plain in
      record {
        made = None;
        drafted = drafted;
        rises = omega (arith, none, last);
        seen = seen;
        is = λ trees fits.
            ap (λ (u : ℕ). answer_for l trees u m e) (seen_plain r place plain)
            ∙ ap (λ (o : Option ℕ). full_or o (answer l trees place m c))
            (chosen_second (is_full r) (full_place place m c) None spare)
            ∙ is trees fits;
        made_is = λ trees fits.
            sym (chosen_second (is_ok r) (Some (tree_at trees place)) None plain);
        left = left;
      }

  -- the heap was full
  pub full_answers : (p : Pass) (place : ℕ) (draft : DocTree) → full_place place m c ≡ Some place
      → m.last ≤ place → place ≤ p.seen → draft ≡ m.draft
      → Answers l p client m c (reply.Full place) place draft
  full_answers p place draft needs last seen left =
      let e = entry_for client m c (reply.Full place) place in
      record {
        made = None;
        drafted = None;
        rises = omega (arith, last);
        seen = seen;
        is = λ trees fits.
            ap (λ (u : ℕ). answer_for l trees u m e) (seen_plain (reply.Full place) place refl)
            ∙ ap (λ (o : Option ℕ). full_or o (answer l trees place m c)) needs;
        made_is = λ trees fits. refl;
        left = left;
      }

  -- a version was made
  pub ok_answers : (p : Pass) (v : ℕ) (t draft : DocTree) → v < l.versions
      → m.last ≤ v → v + 1 ≤ p.seen
      → ((trees : List DocTree) → Fits trees p → answer l trees v m c ≡ committed l v (Ok t))
      → KnowsTree p (v + 1) t → draft ≡ m.draft
      → Answers l p client m c (reply.Committed (v + 1)) (v + 1) draft
  ok_answers p v t draft below last seen is knows left =
      let e = entry_for client m c (reply.Committed (v + 1)) (v + 1) in
      record {
        made = Some t;
        drafted = None;
        rises = let more : m.last + 1 ≤ v + 1 = omega (arith, last) in more;
        seen = seen;
        is = λ trees fits.
            ap (λ (u : ℕ). answer_for l trees u m e) (seen_made v)
            ∙ is trees fits ∙ committed_made l v t below;
        made_is = λ trees fits. ap (λ (d : DocTree). Some d) (sym (knows trees fits));
        left = left;
      }
