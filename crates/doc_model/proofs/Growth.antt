-- What the layers above owe a growing log and a growing list of versions, in words of lists alone.
--
-- keeps_up   a log stays in step with its versions when an entry is added.
-- once_more  the numbers of the commits stay those from 1 on when the next one is added anywhere.
use Rattle.std.proofs.Common.{◌≡◌, ℕ, zero, suc, ◌+◌, ◌-◌, List, [], ◌∷◌, ◌++◌, length}
use Rattle.std.proofs.Common.{IsPermutation, refl, sym, ◌∙◌, ap, subst, arith, length-append}
use Rattle.std.proofs.lemmas.List.Sorted.{IsPermutation-trans, IsPermutation-sym}
use Rattle.std.proofs.lemmas.List.Sorted.{IsPermutation-middle, IsPermutation-to_front}
use Rattle.std.proofs.lemmas.List.Sorted.{IsPermutation-append_left}
use Rattle.doc_tree.specs.Tree.{DocTree}
use Rattle.doc_model.specs.declared.answer.Answer.{Answer}
use Rattle.doc_model.specs.declared.answer.Account.{Account}
use Rattle.doc_model.specs.declared.command.Entry.{Entry}
use Rattle.doc_model.specs.declared.command.Command.TheVariants as command
use Rattle.doc_model.specs.Answers.{Limits, answer_at, answer_for_at, back_of, left}
use Rattle.doc_model.specs.Answers.{opening_account}
use Rattle.doc_model.specs.Store.{answer_for, tree_at}
use Rattle.doc_model.specs.History.{Follows, Says, Stands, account_after, seen_by}
use Rattle.doc_model.specs.Agreement.{EachOnce, rising}
use Rattle.doc_model.specs.Growth.{KeepsUp, IsAnswered}

module _ (l : Limits) (trees : List DocTree) where
  pub follows_more : (m : Account) (log : List Entry) (e : Entry) → Follows l trees m log
      → Stands l trees (account_after l trees m log) e → Follows l trees m (log ++ e ∷ [])
  follows_more m [] e all stands = (stands, tt)
  follows_more m (x ∷ log) e all stands =
      (all.0, follows_more (left m (answer_for l trees (seen_by x) m x)) log e all.1 stands)

  pub account_more : (m : Account) (log : List Entry) (e : Entry)
      → account_after l trees m (log ++ e ∷ [])
      ≡ left (account_after l trees m log)
      (answer_for l trees (seen_by e) (account_after l trees m log) e)
  account_more m [] e = refl
  account_more m (x ∷ log) e = account_more (left m (answer_for l trees (seen_by x) m x)) log e

-- the answer over a list, from the two trees of it that most commands read
pub answer_read : (l : Limits) (trees : List DocTree) (v : ℕ) (now older : DocTree) (m : Account)
    (e : Entry) → seen_by e ≡ v → tree_at trees v ≡ now
    → tree_at trees (v - back_of e.command) ≡ older
    → answer_for l trees (seen_by e) m e ≡ answer_for_at l v now older m e
answer_read l trees v now older m e seen read asked =
    ap (λ u. answer_for l trees u m e) seen
    ∙ ap (λ t. answer_for_at l v t (tree_at trees (v - back_of e.command)) m e) read
    ∙ ap (λ t. answer_for_at l v now t m e) asked

pub stands_read : (l : Limits) (May : List DocTree → Type 0) (m : Account) (e : Entry) (a : Answer)
    → IsAnswered l May m e a → (trees : List DocTree) → May trees → Stands l trees m e
stands_read l May m e a h trees may =
    let is = h.is trees may in
    record {
      known = h.known trees may;
      numbered = h.numbered;
      rises = h.rises;
      says = subst (λ (b : Answer). Says b e) (sym is) h.says;
      made = ap (λ (b : Answer). b.made) is ∙ h.made trees may;
    }

pub keeps_up : (l : Limits) (Might May : List DocTree → Type 0) (m : Account) (log : List Entry)
    (e : Entry) (a : Answer) → KeepsUp l Might m log
    → ((trees : List DocTree) → May trees → Might trees) → IsAnswered l May m e a
    → KeepsUp l May (left m a) (log ++ e ∷ [])
keeps_up l Might May m log e a was fewer h = record {
  follows = λ trees may.
      let stands = subst (λ (s : Account). Stands l trees s e)
      (sym (was.account trees (fewer trees may))) (stands_read l May m e a h trees may) in
      follows_more l trees opening_account log e (was.follows trees (fewer trees may)) stands;
  account = λ trees may.
      account_more l trees opening_account log e
      ∙ ap (λ (s : Account). left s (answer_for l trees (seen_by e) s e))
      (was.account trees (fewer trees may)) ∙ ap (left m) (h.is trees may);
}

-- What the answers of three commands read: that of a draft none of the trees, and that of an older
-- version that one alone. So a client meets the equation with what it read.
pub draft_put_reads : (l : Limits) (u v : ℕ) (now older now' older' : DocTree) (m : Account)
    (path : List (List ℕ)) (text : List ℕ)
    → answer_at l u now older m (command.DraftPut path text)
    ≡ answer_at l v now' older' m (command.DraftPut path text)
draft_put_reads l u v now older now' older' m path text = refl

pub draft_get_reads : (l : Limits) (u v : ℕ) (now older now' older' : DocTree) (m : Account)
    (path : List (List ℕ))
    → answer_at l u now older m (command.DraftGet path)
    ≡ answer_at l v now' older' m (command.DraftGet path)
draft_get_reads l u v now older now' older' m path = refl

pub old_reads : (l : Limits) (v back : ℕ) (now now' older : DocTree) (m : Account)
    (path : List (List ℕ))
    → answer_at l v now older m (command.Old back path)
    ≡ answer_at l v now' older m (command.Old back path)
old_reads l v back now now' older m path = refl

rising_more : (i k : ℕ) → rising i (suc k) ≡ rising i k ++ (i + k + 1) ∷ []
rising_more i zero = let e : i + 0 + 1 ≡ i + 1 = omega arith in ap (λ n. n ∷ []) (sym e)
rising_more i (suc k) =
    let rest : rising (i + 1) (suc k) ≡ rising (i + 1) k ++ (i + 1 + k + 1) ∷ [] =
    rising_more (i + 1) k in
    let e : i + 1 + k + 1 ≡ i + suc k + 1 = omega arith in
    ap (λ ns. (i + 1) ∷ ns) rest ∙ ap (λ n. (i + 1) ∷ rising (i + 1) k ++ n ∷ []) e

pub once_more : (ms ns : List ℕ) → EachOnce (ms ++ ns)
    → EachOnce (ms ++ (length (ms ++ ns) + 1) ∷ ns)
once_more ms ns once =
    let all = ms ++ ns in
    let n = length all in
    let last = n + 1 in
    let longer = ms ++ last ∷ ns in
    let many : length longer ≡ suc n =
    omega (arith, length-append ms (last ∷ ns), length-append ms ns) in
    let row : rising 0 (length longer) ≡ rising 0 n ++ last ∷ [] =
    ap (rising 0) many ∙ rising_more 0 n
    ∙ (let e : 0 + n + 1 ≡ last = omega arith in ap (λ x. rising 0 n ++ x ∷ []) e) in
    let pushed = IsPermutation-append_left (last ∷ []) (rising 0 n) all once in
    let moved = IsPermutation-trans (all ++ last ∷ []) (last ∷ all) longer
    (IsPermutation-to_front all last)
    (IsPermutation-sym longer (last ∷ all) (IsPermutation-middle ms last ns)) in
    subst (λ (xs : List ℕ). IsPermutation xs longer) (sym row)
    (IsPermutation-trans (rising 0 n ++ last ∷ []) (all ++ last ∷ []) longer pushed moved)
