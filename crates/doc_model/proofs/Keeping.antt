-- That stores stay lawful, and that a text which is put makes no tree too high.
--
-- makes_*    what each kind of answer makes is lawful where what it is made from is.
-- answer_*   so is what any command is answered, by the laws of edits.
-- keeps_*    so is the store after it.
use Rattle.std.proofs.Common.{◌≡◌, ◌≢◌, ℕ, zero, suc, ◌+◌, ◌-◌, true, false, cond, List, [], ◌∷◌}
use Rattle.std.proofs.Common.{get_or, All, Option, Some, None, Result, Ok, Err, refl, sym, subst}
use Rattle.std.specs.Prelude.{nat_lt, nat_le, unwrap_or}
use Rattle.std.specs.Option.{ForSome}
use Rattle.std.proofs.lemmas.List.Elements.{All-append, All-cons, All-head, All-nil}
use Rattle.std.proofs.lemmas.List.Elements.{All-replicate, All-set, All-tail}
use Rattle.doc_tree.specs.declared.edit.EditFault.{EditFault}
use Rattle.doc_tree.specs.declared.edit.EditFault.TheVariants as fault
use Rattle.doc_tree.specs.Edits.{attach, delete, edited, set_text}
use Rattle.doc_tree.specs.Lawful.{IsLawful}
use Rattle.doc_tree.specs.Tree.{DocTree, empty, node}
use Rattle.doc_tree.proofs.Orderly.{attach_lawful, delete_lawful, lawful_empty, node_lawful}
use Rattle.doc_tree.proofs.Orderly.{set_text_lawful, set_text_shallow}
use Rattle.doc_model.specs.declared.answer.Account.{Account}
use Rattle.doc_model.specs.declared.answer.Answer.{Answer}
use Rattle.doc_model.specs.declared.command.Command.{Command}
use Rattle.doc_model.specs.declared.command.Command.TheVariants as command
use Rattle.doc_model.specs.declared.command.Entry.{Entry}
use Rattle.doc_model.specs.declared.edits.Edit.{Edit}
use Rattle.doc_model.specs.declared.edits.Edit.TheVariants as edit
use Rattle.doc_model.specs.declared.command.Reply.{Reply}
use Rattle.doc_model.specs.declared.command.Reply.TheVariants as reply
use Rattle.doc_model.specs.Answers.{Limits, all_made, answer_at, attached, committed, count_shown}
use Rattle.doc_model.specs.Answers.{drafted, edit_made, full_or, left, names_shown, old_shown}
use Rattle.doc_model.specs.Answers.{opening_account, refusal, taken, text_shown, told}
use Rattle.doc_model.specs.History.{after_all}
use Rattle.doc_model.specs.LawfulStore.{CommandKeepsLawful, EntryKeepsLawful, HistoryIsLawful}
use Rattle.doc_model.specs.LawfulStore.{IsLawfulStore, IsShallow, MakesLawful, NotDeep}
use Rattle.doc_model.specs.LawfulStore.{OpensLawful, PutsAreShallow, PutsLow}
use Rattle.doc_model.specs.Store.{Store, account_of, after, answer_for_in, answer_in, opening}
use Rattle.doc_model.specs.Store.{shown, tree_at, with_version}

-- what stands at any place of a list, or else the default
at_all : {X : Type 0} (P : X → Type 0) (xs : List X) (i : ℕ) (d : X) → P d → All P xs
    → P (get_or xs i d)
at_all P [] zero d is all = is
at_all P [] (suc i) d is all = is
at_all P (x ∷ xs) zero d is all = All-head P x xs all
at_all P (x ∷ xs) (suc i) d is all = at_all P xs i d is (All-tail P x xs all)

makes_told : (said : Reply) (place : ℕ) → MakesLawful (told said place)
makes_told said place = record { made = λ t e. cc; draft = λ t e. cc }

makes_committed : (l : Limits) (v : ℕ) (r : Result DocTree EditFault)
    → ((t : DocTree) → r ≡ Ok t → IsLawful t) → MakesLawful (committed l v r)
makes_committed l v (Err e) all = makes_told (refusal e v) v
makes_committed l v (Ok t) all =
    elim (nat_lt v l.versions)
    as (λ b. MakesLawful
    (cond b (record {
      reply = reply.Committed (v + 1);
      place = v + 1;
      made = Some t;
      draft =
          None;
    }) (told (reply.Worn v) v))) [
      | true ↦ record { made = λ u e. all u cc; draft = λ u e. cc }
      | false ↦ makes_told (reply.Worn v) v
    ]

makes_drafted : (v : ℕ) (r : Result DocTree EditFault) → ((t : DocTree) → r ≡ Ok t → IsLawful t)
    → MakesLawful (drafted v r)
makes_drafted v (Err e) all = makes_told (refusal e v) v
makes_drafted v (Ok t) all = record { made = λ u e. cc; draft = λ u e. all u cc }

makes_taken : (v : ℕ) (o : Option DocTree) → ((t : DocTree) → o ≡ Some t → IsLawful t)
    → MakesLawful (taken v o)
makes_taken v None all = makes_told (reply.Absent v) v
makes_taken v (Some t) all = record { made = λ u e. cc; draft = λ u e. all u cc }

makes_text : (shown place : ℕ) (o : Option DocTree) → MakesLawful (text_shown shown place o)
makes_text shown place None = makes_told (reply.Absent shown) place
makes_text shown place (Some t) = makes_told (reply.Val shown t.text) place

makes_names : (v : ℕ) (o : Option DocTree) → MakesLawful (names_shown v o)
makes_names v None = record { made = λ t e. cc; draft = λ t e. cc }
makes_names v (Some t) = record { made = λ t e. cc; draft = λ t e. cc }

makes_count : (v : ℕ) (o : Option DocTree) → MakesLawful (count_shown v o)
makes_count v None = record { made = λ t e. cc; draft = λ t e. cc }
makes_count v (Some t) = record { made = λ t e. cc; draft = λ t e. cc }

makes_old : (l : Limits) (v back : ℕ) (o : Option DocTree) → MakesLawful (old_shown l v back o)
makes_old l v back o =
    elim (nat_lt v back) as (λ b. MakesLawful
    (cond b (told (reply.Before v) v)
    (cond (nat_le l.keep back) (told (reply.Gone v (v - back)) v)
    (text_shown (v - back) v o)))) [
      | true ↦ makes_told (reply.Before v) v
      | false ↦ elim (nat_le l.keep back)
          as (λ b. MakesLawful
          (cond b (told (reply.Gone v (v - back)) v) (text_shown (v - back) v o))) [
            | true ↦ makes_told (reply.Gone v (v - back)) v
            | false ↦ makes_text (v - back) v o
          ]
    ]

makes_full : (o : Option ℕ) (a : Answer) → MakesLawful a → MakesLawful (full_or o a)
makes_full None a is = is
makes_full (Some place) a is = makes_told (reply.Full place) place

attached_lawful : (to : List (List ℕ)) (t : DocTree) (o : Option DocTree) → IsLawful t
    → ((d : DocTree) → o ≡ Some d → IsLawful d) → (u : DocTree) → attached to t o ≡ Ok u
    → IsLawful u
attached_lawful to t None is inside u h = cc
attached_lawful to t (Some sub) is inside u h = attach_lawful to sub t u (inside sub refl) is h

made_lawful : (draft : DocTree) (e : Edit) (t u : DocTree) → IsLawful draft → IsLawful t
    → edit_made draft e t ≡ Ok u → IsLawful u
made_lawful draft (edit.Put path text) t u mine is h = set_text_lawful path text t u is h
made_lawful draft (edit.Del path) t u mine is h = delete_lawful path t u is h
made_lawful draft (edit.Copy «from» to) t u mine is h =
    attached_lawful to t (node «from» t) is (λ d g. node_lawful «from» t d is g) u h
made_lawful draft (edit.Publish path) t u mine is h = attach_lawful path draft t u mine is h

edited_lawful : (next : DocTree → Result DocTree EditFault) (r : Result DocTree EditFault)
    → ((t : DocTree) → r ≡ Ok t → IsLawful t)
    → ((t u : DocTree) → IsLawful t → next t ≡ Ok u → IsLawful u) → (u : DocTree)
    → edited next r ≡ Ok u → IsLawful u
edited_lawful next (Ok t) first then u h = then t u (first t refl) h
edited_lawful next (Err e) first then u h = cc

all_lawful : (draft : DocTree) (es : List Edit) (t u : DocTree) → IsLawful draft → IsLawful t
    → all_made draft es t ≡ Ok u → IsLawful u
all_lawful draft [] t u mine is h = let same : t ≡ u = cc in subst IsLawful same is
all_lawful draft (e ∷ es) t u mine is h =
    edited_lawful (all_made draft es) (edit_made draft e t)
    (λ d g. made_lawful draft e t d mine is g)
    (λ d v lawful g. all_lawful draft es d v mine lawful g) u h

pub answer_lawful : (l : Limits) (v : ℕ) (now older : DocTree) (m : Account) (c : Command)
    → IsLawful now → IsLawful m.draft → MakesLawful (answer_at l v now older m c)
answer_lawful l v now older m (command.Put path text) is mine =
    makes_committed l v (set_text path text now) (λ u h. set_text_lawful path text now u is h)
answer_lawful l v now older m (command.Del path) is mine =
    makes_committed l v (delete path now) (λ u h. delete_lawful path now u is h)
answer_lawful l v now older m (command.Copy «from» to) is mine =
    makes_committed l v (attached to now (node «from» now))
    (attached_lawful to now (node «from» now) is (λ d h. node_lawful «from» now d is h))
answer_lawful l v now older m (command.Get path) is mine = makes_text v v (node path now)
answer_lawful l v now older m (command.List path) is mine = makes_names v (node path now)
answer_lawful l v now older m (command.Size path) is mine = makes_count v (node path now)
answer_lawful l v now older m (command.Old back path) is mine = makes_old l v back (node path older)
answer_lawful l v now older m (command.DraftPut path text) is mine =
    makes_drafted m.last (set_text path text m.draft)
    (λ u h. set_text_lawful path text m.draft u mine h)
answer_lawful l v now older m (command.DraftGet path) is mine =
    makes_text m.last m.last (node path m.draft)
answer_lawful l v now older m (command.Take path) is mine =
    makes_taken v (node path now) (λ d h. node_lawful path now d is h)
answer_lawful l v now older m (command.Publish path) is mine =
    makes_committed l v (attach path m.draft now)
    (λ u h. attach_lawful path m.draft now u mine is h)
answer_lawful l v now older m (command.Batch edits) is mine =
    makes_committed l v (all_made m.draft edits now)
    (λ u h. all_lawful m.draft edits now u mine is h)

-- the trees that a store answers from
latest_lawful : (s : Store) → IsLawfulStore s → IsLawful (tree_at s.trees (shown s))
latest_lawful s is = at_all IsLawful s.trees (shown s) empty lawful_empty is.versions

draft_lawful : (s : Store) (client : ℕ) → IsLawfulStore s → IsLawful (account_of s client).draft
draft_lawful s client is =
    at_all (λ (m : Account). IsLawful m.draft) s.accounts
    (client - 1) opening_account lawful_empty is.drafts

version_lawful : (trees : List DocTree) (o : Option DocTree) → All IsLawful trees
    → ForSome o IsLawful → All IsLawful (with_version trees o)
version_lawful trees None all new = all
version_lawful trees (Some t) all new =
    All-append IsLawful trees (t ∷ []) all (All-cons IsLawful t [] (new t refl) (All-nil IsLawful))

left_lawful : (d : DocTree) (o : Option DocTree) → IsLawful d → ForSome o IsLawful
    → IsLawful (unwrap_or o d)
left_lawful d None is new = is
left_lawful d (Some t) is new = new t refl

keeps_after : (s : Store) (client : ℕ) (a : Answer) → IsLawfulStore s → MakesLawful a
    → IsLawfulStore (after s client a)
keeps_after s client a is makes = record {
  versions = version_lawful s.trees a.made is.versions makes.made;
  drafts = All-set (λ (m : Account). IsLawful m.draft) s.accounts (client - 1)
      (left (account_of s client) a)
      (left_lawful (account_of s client).draft a.draft (draft_lawful s client is) makes.draft)
      is.drafts;
}

pub opens_lawful : OpensLawful
opens_lawful clients l = record {
  versions = All-cons IsLawful empty [] lawful_empty (All-nil IsLawful);
  drafts = All-replicate (λ (m : Account). IsLawful m.draft) clients opening_account lawful_empty;
}

pub command_keeps_lawful : CommandKeepsLawful
command_keeps_lawful s client c is =
    keeps_after s client (answer_in s client c) is
    (answer_lawful s.limits (shown s) (tree_at s.trees (shown s)) _ (account_of s client) c
    (latest_lawful s is) (draft_lawful s client is))

pub entry_keeps_lawful : EntryKeepsLawful
entry_keeps_lawful s e is =
    keeps_after s e.client (answer_for_in s e) is
    (makes_full _ _ (answer_lawful s.limits (shown s) (tree_at s.trees (shown s)) _
    (account_of s e.client) e.command (latest_lawful s is) (draft_lawful s e.client is)))

after_lawful : (s : Store) (es : List Entry) → IsLawfulStore s → IsLawfulStore (after_all s es)
after_lawful s [] is = is
after_lawful s (e ∷ es) is =
    after_lawful (after s e.client (answer_for_in s e)) es (entry_keeps_lawful s e is)

pub history_lawful : HistoryIsLawful
history_lawful clients l es = after_lawful (opening clients l) es (opens_lawful clients l)

-- a text that is put
refusal_shallow : (e : EditFault) (v : ℕ) → e ≢ fault.Deep → NotDeep (refusal e v)
refusal_shallow fault.Absent v low w h = cc
refusal_shallow fault.Many v low w h = cc
refusal_shallow fault.Deep v low w h = low refl
refusal_shallow fault.Big v low w h = cc
refusal_shallow fault.NoMemory v low w h = cc

low_fault : (e : EditFault) (r : Result DocTree EditFault) → r ≡ Err e → r ≢ Err fault.Deep
    → e ≢ fault.Deep
low_fault e r is low h = low cc

committed_shallow : (l : Limits) (v : ℕ) (r : Result DocTree EditFault) → r ≢ Err fault.Deep
    → NotDeep (committed l v r).reply
committed_shallow l v (Err e) low = refusal_shallow e v (low_fault e (Err e) refl low)
committed_shallow l v (Ok t) low =
    elim (nat_lt v l.versions)
    as (λ b. NotDeep (cond b
    (record { reply = reply.Committed (v + 1); place = v + 1; made = Some t; draft = None })
    (told (reply.Worn v) v)).reply) [
      | true ↦ λ w h. cc
      | false ↦ λ w h. cc
    ]

drafted_shallow : (v : ℕ) (r : Result DocTree EditFault) → r ≢ Err fault.Deep
    → NotDeep (drafted v r).reply
drafted_shallow v (Err e) low = refusal_shallow e v (low_fault e (Err e) refl low)
drafted_shallow v (Ok t) low = λ w h. cc

answer_shallow : (l : Limits) (v : ℕ) (now older : DocTree) (m : Account) (c : Command) → PutsLow c
    → IsLawful now → IsLawful m.draft → IsShallow c (answer_at l v now older m c).reply
answer_shallow l v now older m (command.Put path text) low is mine =
    committed_shallow l v (set_text path text now) (set_text_shallow path text now low is.low)
answer_shallow l v now older m (command.Del path) low is mine = tt
answer_shallow l v now older m (command.Copy «from» to) low is mine = tt
answer_shallow l v now older m (command.Get path) low is mine = tt
answer_shallow l v now older m (command.List path) low is mine = tt
answer_shallow l v now older m (command.Size path) low is mine = tt
answer_shallow l v now older m (command.Old back path) low is mine = tt
answer_shallow l v now older m (command.DraftPut path text) low is mine =
    drafted_shallow m.last (set_text path text m.draft)
    (set_text_shallow path text m.draft low mine.low)
answer_shallow l v now older m (command.DraftGet path) low is mine = tt
answer_shallow l v now older m (command.Take path) low is mine = tt
answer_shallow l v now older m (command.Publish path) low is mine = tt
answer_shallow l v now older m (command.Batch edits) low is mine = tt

pub puts_shallow : PutsAreShallow
puts_shallow s client c low is =
    answer_shallow s.limits (shown s) (tree_at s.trees (shown s)) _ (account_of s client) c low
    (latest_lawful s is) (draft_lawful s client is)

-- the laws in the words of the calls
pub lawful_opening : (clients : ℕ) (l : Limits) (s : Store) → s ≡ opening clients l
    → IsLawfulStore s
lawful_opening clients l s is = subst IsLawfulStore (sym is) (opens_lawful clients l)

pub lawful_next : (s t : Store) (client : ℕ) (c : Command)
    → t ≡ after s client (answer_in s client c) → IsLawfulStore s → IsLawfulStore t
lawful_next s t client c is lawful =
    subst IsLawfulStore (sym is) (command_keeps_lawful s client c lawful)

pub lawful_latest : (s : Store) (t : DocTree) → t ≡ tree_at s.trees (shown s) → IsLawfulStore s
    → IsLawful t
lawful_latest s t is lawful = subst IsLawful (sym is) (latest_lawful s lawful)

pub lawful_draft : (s : Store) (client : ℕ) (m : Account) → m ≡ account_of s client
    → IsLawfulStore s → IsLawful m.draft
lawful_draft s client m is lawful =
    subst (λ (a : Account). IsLawful a.draft) (sym is) (draft_lawful s client lawful)
