-- Logs that agree on the versions make one legal history.
--
-- Each client's entries stand in the merged list once and in order: they are the log's own
-- (Counts), their numbers do not fall (Order, Logs), and so they are the log (Rising).
-- The new versions stand there in order, for the same reason, and the rest is a fold (Fold). Of a
-- command and its reply these lemmas ask only whether it made a version.
use Rattle.std.proofs.Common.{◌≡◌, ℕ, ◌+◌, ◌*◌, ◌≤◌, ◌==◌, Bool, true, List, [], ◌∷◌, length}
use Rattle.std.proofs.Common.{get_or, take, map, filter, replicate, All, sym, ◌∙◌, ap, subst}
use Rattle.std.proofs.Common.{arith}
use Rattle.std.proofs.lemmas.Bool.{eqb-true}
use Rattle.std.proofs.lemmas.List.{length-map, length-replicate, get_or-replicate}
use Rattle.std.proofs.lemmas.List.Elements.{All-head, All-tail, All-weaker, filter_passes}
use Rattle.std.proofs.lemmas.List.Sorted.{All-permutation}
use Rattle.doc_tree.specs.Tree.{DocTree, empty}
use Rattle.doc_model.specs.declared.command.Entry.{Entry}
use Rattle.doc_model.specs.declared.answer.Account.{Account}
use Rattle.doc_model.specs.Answers.{Limits, is_ok, opening_account}
use Rattle.doc_model.specs.ClientLog.{ClientLog}
use Rattle.doc_model.specs.Store.{Store, opening, tree_at}
use Rattle.doc_model.specs.History.{IsLegal, Follows, after_all}
use Rattle.doc_model.specs.Merge.{IsMerge, KeepsOrder, all_entries}
use Rattle.doc_model.specs.Agreement.{Agree, MergedIsLegal, rising, ok_places}
use Rattle.doc_model.proofs.Rising.{low, NeverFalls, AtLeast, is_rising, low-rising}
use Rattle.doc_model.proofs.Rising.{low-permutation}
use Rattle.doc_model.proofs.Counts.{low-kept, length-kept, All-kept}
use Rattle.doc_model.proofs.Order.{at, moment, Precedes, Ordered, ordered, ordered_kept}
use Rattle.doc_model.proofs.Logs.{IsOf, all_of, is_log}
use Rattle.doc_model.proofs.Clients.{InRange, all_in_range, client_at, own_kept}
use Rattle.doc_model.proofs.Fold.{Ahead, From, now, ahead_legal}

module _ (l : Limits) (trees : List DocTree) (logs : List ClientLog) (merged : List Entry)
    (agree : Agree l trees logs) (merge : IsMerge logs merged) where
  pub keeps_order : KeepsOrder logs merged
  keeps_order = λ j d lt.
      let g = get_or logs j d in
      let c = g.client in
      let p : Entry → Bool = λ e. e.client == c in
      let follows : Follows l trees opening_account g.entries = agree.follows j d lt in
      let kept : filter p (all_entries logs) ≡ g.entries =
      own_kept 0 logs agree.clients agree.own j d c lt (client_at 0 logs agree.clients j d lt) in
      let of = All-kept p (IsOf g.entries) (all_entries logs) merged merge.same
      (subst (λ (es : List Entry). All (IsOf g.entries) es) (sym kept)
      (all_of l trees g.entries follows)) in
      let mine = All-weaker (λ (e : Entry). p e ≡ true) (λ (e : Entry). e.client ≡ c)
      (λ e h. eqb-true e.client c h) (filter p merged) (filter_passes p merged) in
      is_log l trees g.entries follows c (filter p merged) of mine
      (ordered_kept p merged (ordered merged merge.sorted))
      (length-kept p (all_entries logs) merged merge.same ∙ ap length kept)
      (λ u. low-kept p (λ (e : Entry). e.number) u (all_entries logs) merged merge.same
      ∙ ap (λ (es : List Entry). low u (map (λ e. e.number) es)) kept)

  -- of entries that made versions, in order, the places do not fall
  at_least_places : (a : Entry) (es : List Entry) → is_ok a.reply ≡ true
      → All (λ e. is_ok e.reply ≡ true) es → Precedes a es → AtLeast a.place (map (λ e. e.place) es)
  at_least_places a [] ok all order = tt
  at_least_places a (e ∷ es) ok all order =
      let next = All-head (λ (x : Entry). is_ok x.reply ≡ true) e es all in
      let here : moment a ≡ 2 * a.place = ap (at a.place) ok in
      let there : moment e ≡ 2 * e.place = ap (at e.place) next in (
        omega (arith, order.0.moments),
        at_least_places a es ok (All-tail (λ (x : Entry). is_ok x.reply ≡ true) e es all) order.1,
      )

  places_up : (es : List Entry) → All (λ e. is_ok e.reply ≡ true) es → Ordered es
      → NeverFalls (map (λ e. e.place) es)
  places_up [] all order = tt
  places_up (e ∷ es) all order =
      let rest = All-tail (λ (x : Entry). is_ok x.reply ≡ true) e es all in (
        at_least_places e es (All-head (λ (x : Entry). is_ok x.reply ≡ true) e es all) rest order.0,
        places_up es rest order.1,
      )

  pub made_in_order : ok_places merged ≡ rising 0 (length (ok_places (all_entries logs)))
  made_in_order =
      let ok : Entry → Bool = λ e. is_ok e.reply in
      let place : Entry → ℕ = λ e. e.place in
      let all = all_entries logs in
      let n = length (ok_places all) in
      let many : length (ok_places merged) ≡ n =
      length-map (filter ok merged) place ∙ length-kept ok all merged merge.same
      ∙ sym (length-map (filter ok all) place) in
      is_rising 0 n (ok_places merged) many
      (places_up (filter ok merged) (filter_passes ok merged)
      (ordered_kept ok merged (ordered merged merge.sorted)))
      (λ u lo hi. low-kept ok place u all merged merge.same
      ∙ low-permutation u (rising 0 n) (ok_places all) agree.once ∙ low-rising 0 n u lo hi)

  late : (es : List Entry) → From 0 es
  late [] = tt
  late (e ∷ es) = (omega arith, late es)

  first_tree : (ts : List DocTree) → 1 ≤ length ts → tree_at ts 0 ≡ empty → empty ∷ [] ≡ take 1 ts
  first_tree [] some opens = absurd (omega arith)
  first_tree (t ∷ ts) some opens = ap (λ (x : DocTree). x ∷ []) (sym opens)

  opens : opening (length logs) l ≡ now l trees 0 (replicate (length logs) opening_account)
  opens =
      ap (λ (ts : List DocTree). record
      { limits = l; trees = ts; accounts = replicate (length logs) opening_account })
      (first_tree trees (omega (arith, agree.made)) agree.opens)

  ahead : Ahead l trees (length logs) 0 (length (ok_places (all_entries logs)))
      (replicate (length logs) opening_account) merged
  ahead = record {
    count = omega (arith, agree.made);
    oks = made_in_order;
    late = late merged;
    order = ordered merged merge.sorted;
    clients = All-permutation (InRange 0 (length logs)) (all_entries logs) merged merge.same
        (all_in_range 0 logs agree.clients agree.own);
    accounted = length-replicate (length logs) opening_account;
    follows = λ i lt.
        let d : ClientLog = record { client = 0; entries = []; spare = 0 } in
        let g = get_or logs i d in
        let number : g.client ≡ i + 1 = client_at 0 logs agree.clients i d lt ∙ omega arith in
        let kept = subst (λ (c : ℕ). filter (λ e. e.client == c) merged ≡ g.entries) number
        (keeps_order i d lt) in
        let log = subst (λ (es : List Entry). Follows l trees opening_account es) (sym kept)
        (agree.follows i d lt) in
        subst (λ (m : Account). Follows l trees m (filter (λ e. e.client == i + 1) merged))
        (sym (get_or-replicate (length logs) i opening_account opening_account lt)) log;
  }

  pub legal : IsLegal (opening (length logs) l) merged
      × ((after_all (opening (length logs) l) merged).trees ≡ trees)
  legal =
      subst (λ (s : Store). IsLegal s merged × ((after_all s merged).trees ≡ trees)) (sym opens)
      (ahead_legal l trees (length logs) merged 0 (length (ok_places (all_entries logs)))
      (replicate (length logs) opening_account) ahead)

pub composes : (l : Limits) (trees : List DocTree) (logs : List ClientLog) (merged : List Entry)
    → Agree l trees logs → IsMerge logs merged → MergedIsLegal l trees logs merged
composes l trees logs merged agree merge =
    let history = legal l trees logs merged agree merge in
    (keeps_order l trees logs merged agree merge, history.0, history.1)
