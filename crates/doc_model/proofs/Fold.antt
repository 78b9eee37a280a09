-- Entries in order, of which each stands against the versions, are a history of the store that has
-- the first of these versions: at each entry the store shows the version that the entry read.
use Rattle.std.proofs.Common.{◌≡◌, ℕ, zero, suc, ◌+◌, ◌-◌, ◌*◌, ◌<◌, ◌≤◌, ◌==◌, Bool, true, false}
use Rattle.std.proofs.Common.{cond, if◌then◌else◌, List, [], ◌∷◌, ◌++◌, Some, None, length}
use Rattle.std.proofs.Common.{get_or, set, take, map, filter, All, refl, sym, ◌∙◌, ap, subst}
use Rattle.std.proofs.Common.{⊎_elim, arith, length-set, get_or-set_same, get_or-set_other}
use Rattle.std.proofs.lemmas.Bool.{cases_eq, eq-eqb, ne_eqb}
use Rattle.std.proofs.lemmas.List.{take_all, take_more, get_or-take, length-take-le}
use Rattle.std.proofs.lemmas.List.Elements.{All-head, All-tail}
use Rattle.doc_tree.specs.Tree.{DocTree, empty}
use Rattle.doc_model.specs.declared.answer.Answer.{Answer}
use Rattle.doc_model.specs.declared.answer.Account.{Account}
use Rattle.doc_model.specs.declared.command.Entry.{Entry}
use Rattle.doc_model.specs.Answers.{Limits, answer_for_at, back_of, is_ok, left, opening_account}
use Rattle.doc_model.specs.Store.{Store, after, answer_for, answer_for_in, tree_at, with_version}
use Rattle.doc_model.specs.Store.{shown}
use Rattle.doc_model.specs.History.{IsLegal, Says, Stands, Follows, after_all, seen_by}
use Rattle.doc_model.specs.Agreement.{rising, ok_places}
use Rattle.doc_model.proofs.Clients.{InRange}
use Rattle.doc_model.proofs.Order.{at, moment, Precedes, Ordered}

-- a store with the versions up to k reads no others
answer_same : (l : Limits) (trees : List DocTree) (k : ℕ) (m : Account) (e : Entry)
    → answer_for l (take (k + 1) trees) k m e ≡ answer_for l trees k m e
answer_same l trees k m e =
    let old = take (k + 1) trees in
    let back = k - back_of e.command in
    let now : tree_at old k ≡ tree_at trees k = get_or-take (k + 1) trees k empty (omega arith) in
    let older : tree_at old back ≡ tree_at trees back =
    get_or-take (k + 1) trees back empty (omega arith) in
    ap (λ t. answer_for_at l k t (tree_at old back) m e) now
    ∙ ap (λ t. answer_for_at l k (tree_at trees k) t m e) older

-- the next version of the rest is not made before an entry that stands first
next_ok : (e : Entry) (es : List Entry) → Precedes e es → (n : ℕ) (ns : List ℕ)
    → ok_places es ≡ n ∷ ns → moment e ≤ 2 * n
next_ok e [] order n ns is = cc
next_ok e (x ∷ xs) order n ns is =
    elim (is_ok x.reply) as (λ b. map (λ y. y.place)
    (cond b (x ∷ filter (λ y. is_ok y.reply) xs) (filter (λ y. is_ok y.reply) xs)) ≡ n ∷ ns
    → moment e ≤ at x.place b → moment e ≤ 2 * n) [
      | true ↦ λ is le. let here : x.place ≡ n = cc in omega arith
      | false ↦ λ is le. next_ok e xs order.1 n ns is
    ] is order.0.moments

-- What an entry at the head of the rest reads and makes, where k versions were made before it and j
-- will be from it on: then `made` were made, and `more` will be.
record Moves (trees : List DocTree) (k : ℕ) (place : ℕ) (b : Bool) (rest : List ℕ) : Type 0 where
  made : ℕ
  more : ℕ
  seen : place - (if b then 1 else 0) ≡ k
  late : 2 * made ≤ at place b
  count : made + more + 1 ≡ length trees
  oks : rest ≡ rising made more
  grown : with_version (take (k + 1) trees) (if b then Some (tree_at trees place) else None)
      ≡ take (made + 1) trees

moves : (trees : List DocTree) (k j : ℕ) (e : Entry) (rest : List Entry) (b : Bool)
    → e.place < length trees → k + j + 1 ≡ length trees
    → map (λ x. x.place)
    (cond b (e ∷ filter (λ x. is_ok x.reply) rest) (filter (λ x. is_ok x.reply) rest)) ≡ rising k j
    → 2 * k ≤ at e.place b
    → ((n : ℕ) (ns : List ℕ) → ok_places rest ≡ n ∷ ns → at e.place b ≤ 2 * n)
    → Moves trees k e.place b (ok_places rest)
moves trees k zero e rest true known count is late next = cc
moves trees k (suc j) e rest true known count is late next =
    let here : e.place ≡ k + 1 = cc in
    let oks : ok_places rest ≡ rising (k + 1) j = cc in
    let grown : take (k + 1) trees ++ tree_at trees e.place ∷ [] ≡ take (k + 1 + 1) trees =
    ap (λ p. take (k + 1) trees ++ tree_at trees p ∷ []) here
    ∙ sym (take_more trees (k + 1) empty (omega arith)) in
    record {
      made = k + 1;
      more = j;
      seen = omega arith;
      late = omega arith;
      count = omega arith;
      oks = oks;
      grown = grown;
    }
moves trees k zero e rest false known count is late next =
    let here : e.place ≡ k = omega arith in
    record {
      made = k;
      more = 0;
      seen = omega arith;
      late = late;
      count = count;
      oks = is;
      grown =
          refl;
    }
moves trees k (suc j) e rest false known count is late next =
    let first = next (k + 1) (rising (k + 1) j) is in
    let here : e.place ≡ k = omega arith in
    record {
      made = k;
      more = suc j;
      seen = omega arith;
      late = late;
      count = count;
      oks = is;
      grown = refl;
    }

abbrev pub From : ℕ → List Entry → Type 0
From m [] = Unit {0}
From m (e ∷ es) = (m ≤ moment e) × From m es

from_head : (m : ℕ) (e : Entry) (es : List Entry) → m ≤ moment e → Precedes e es → From m es
from_head m e [] le order = tt
from_head m e (x ∷ xs) le order =
    (omega (arith, order.0.moments), from_head m e xs le order.1)

-- the store after k versions
abbrev pub now : Limits → List DocTree → ℕ → List Account → Store
now l trees k accounts = record { limits = l; trees = take (k + 1) trees; accounts = accounts }

-- the rest of a merged list against a store with k versions made, of a list of k + j
pub record Ahead (l : Limits) (trees : List DocTree) (n k j : ℕ) (accounts : List Account)
    (es : List Entry) : Type 0 where
  pub count : k + j + 1 ≡ length trees
  pub oks : ok_places es ≡ rising k j
  pub late : From (2 * k) es
  pub order : Ordered es
  pub clients : All (InRange 0 n) es
  pub accounted : length accounts ≡ n
  pub follows : (i : ℕ) → i < n
      → Follows l trees (get_or accounts i opening_account) (filter (λ e. e.client == i + 1) es)

-- the head of the rest, by its client's account
record Head (l : Limits) (trees : List DocTree) (n k j : ℕ) (accounts : List Account) (e : Entry)
    (es : List Entry) : Type 0 where
  client : (e.client - 1 < n) × (e.client ≡ e.client - 1 + 1)
  stands : Stands l trees (get_or accounts (e.client - 1) opening_account) e
  follows : Follows l trees
      (left (get_or accounts (e.client - 1) opening_account)
      (answer_for l trees (seen_by e) (get_or accounts (e.client - 1) opening_account) e))
      (filter (λ x. x.client == e.client - 1 + 1) es)
  moves : Moves trees k e.place (is_ok e.reply) (ok_places es)

head : (l : Limits) (trees : List DocTree) (n k j : ℕ) (accounts : List Account) (e : Entry)
    (es : List Entry) → Ahead l trees n k j accounts (e ∷ es) → Head l trees n k j accounts e es
head l trees n k j accounts e es h =
    let range = All-head (InRange 0 n) e es h.clients in
    let i = e.client - 1 in
    let m = get_or accounts i opening_account in
    let inside : i < n = omega (arith, range.low, range.high) in
    let is : e.client ≡ i + 1 = omega (arith, range.low) in
    let test : (e.client == i + 1) ≡ true = eq-eqb e.client (i + 1) is in
    let log : Follows l trees m (e ∷ filter (λ x. x.client == i + 1) es) =
    rw test at (h.follows i inside) in
    record {
      client = (inside, is);
      stands = log.0;
      follows = log.1;
      moves = moves trees k j e es (is_ok e.reply) log.0.known h.count h.oks h.late.0
          (next_ok e es h.order.0);
    }

-- a client's account changes with its own entries alone
account_next : (l : Limits) (trees : List DocTree) (accounts : List Account) (i : ℕ)
    (next : Account) (e : Entry) (es : List Entry) → i < length accounts → e.client ≡ i + 1
    → Follows l trees next (filter (λ x. x.client == i + 1) es) → (k : ℕ)
    → Follows l trees (get_or accounts k opening_account)
    (filter (λ x. x.client == k + 1) (e ∷ es))
    → Follows l trees (get_or (set accounts i next) k opening_account)
    (filter (λ x. x.client == k + 1) es)
account_next l trees accounts i next e es inside is mine k was =
    let log : ℕ → List Entry = λ c. filter (λ x. x.client == c + 1) es in
    ⊎_elim (λ same.
    let here : get_or (set accounts i next) i opening_account ≡ next =
    get_or-set_same accounts i next opening_account inside in
    let then_here = subst (λ (m : Account). Follows l trees m (log i)) (sym here) mine in
    subst (λ (c : ℕ). Follows l trees (get_or (set accounts i next) c opening_account) (log c))
    (sym same) then_here) (λ other.
    let test : (e.client == k + 1) ≡ false = ne_eqb e.client (k + 1) (λ c. other (omega arith)) in
    let before : Follows l trees (get_or accounts k opening_account) (log k) = rw test at was in
    subst (λ (m : Account). Follows l trees m (log k))
    (sym (get_or-set_other accounts i k next opening_account other)) before) (cases_eq k i)

-- what stands ahead after the head
onward : (l : Limits) (trees : List DocTree) (n k j : ℕ) (accounts : List Account) (e : Entry)
    (es : List Entry) → Ahead l trees n k j accounts (e ∷ es)
    → (d : Head l trees n k j accounts e es)
    → Ahead l trees n d.moves.made d.moves.more
    (set accounts (e.client - 1)
    (left (get_or accounts (e.client - 1) opening_account)
    (answer_for l trees (seen_by e) (get_or accounts (e.client - 1) opening_account) e))) es
onward l trees n k j accounts e es h d =
    let i = e.client - 1 in
    let next = left (get_or accounts i opening_account)
    (answer_for l trees (seen_by e) (get_or accounts i opening_account) e) in
    record {
      count = d.moves.count;
      oks = d.moves.oks;
      late = from_head (2 * d.moves.made) e es d.moves.late h.order.0;
      order = h.order.1;
      clients = All-tail (InRange 0 n) e es h.clients;
      accounted = length-set accounts i next ∙ h.accounted;
      follows = λ c lt. account_next l trees accounts i next e es
          (omega (arith, d.client.0, h.accounted)) d.client.1 d.follows c (h.follows c lt);
    }

-- the answer of the store, and the store after it
answer_is : (l : Limits) (trees : List DocTree) (n k j : ℕ) (accounts : List Account) (e : Entry)
    (es : List Entry) → k + j + 1 ≡ length trees → Head l trees n k j accounts e es
    → answer_for_in (now l trees k accounts) e
    ≡ answer_for l trees (seen_by e) (get_or accounts (e.client - 1) opening_account) e
answer_is l trees n k j accounts e es count d =
    let m = get_or accounts (e.client - 1) opening_account in
    let shows : shown (now l trees k accounts) ≡ k =
    omega (arith, length-take-le (k + 1) trees (omega arith)) in
    let seen : seen_by e ≡ k = d.moves.seen in
    ap (λ v. answer_for l (take (k + 1) trees) v m e) shows ∙ answer_same l trees k m e
    ∙ ap (λ v. answer_for l trees v m e) (sym seen)

pub ahead_legal : (l : Limits) (trees : List DocTree) (n : ℕ) (es : List Entry) (k j : ℕ)
    (accounts : List Account) → Ahead l trees n k j accounts es
    → IsLegal (now l trees k accounts) es × ((after_all (now l trees k accounts) es).trees ≡ trees)
ahead_legal l trees n [] k zero accounts h = (tt, take_all (k + 1) trees (omega (arith, h.count)))
ahead_legal l trees n [] k (suc j) accounts h = cc
ahead_legal l trees n (e ∷ es) k j accounts h =
    let d = head l trees n k j accounts e es h in
    let i = e.client - 1 in
    let m = get_or accounts i opening_account in
    let a = answer_for l trees (seen_by e) m e in
    let is = answer_is l trees n k j accounts e es h.count d in
    let rest = ahead_legal l trees n es d.moves.made d.moves.more (set accounts i (left m a))
    (onward l trees n k j accounts e es h d) in
    let grown : with_version (take (k + 1) trees) a.made ≡ take (d.moves.made + 1) trees =
    ap (with_version (take (k + 1) trees)) d.stands.made ∙ d.moves.grown in
    let next : after (now l trees k accounts) e.client (answer_for_in (now l trees k accounts) e)
    ≡ now l trees d.moves.made (set accounts i (left m a)) =
    ap (after (now l trees k accounts) e.client) is
    ∙ ap (λ ts. record { limits = l; trees = ts; accounts = set accounts i (left m a) }) grown
    in
    let client : (1 ≤ e.client) × (e.client ≤ length accounts) =
    (omega (arith, d.client.1), omega (arith, d.client.0, d.client.1, h.accounted)) in
    let says = subst (λ (x : Answer). Says x e) (sym is) d.stands.says in
    let legal = subst (λ (t : Store). IsLegal t es) (sym next) rest.0 in
    ((client, (says, legal)), ap (λ (t : Store). (after_all t es).trees) next ∙ rest.1)
