-- A client's log against the versions: its numbers are its places in the log, and its moments rise.
use Rattle.std.proofs.Common.{◌≡◌, ℕ, zero, suc, ◌+◌, ◌-◌, ◌*◌, ◌<◌, ◌≤◌, Bool, true, false, List}
use Rattle.std.proofs.Common.{[], ◌∷◌, length, get_or, map, All, refl, sym, ◌∙◌, ap, ⊎_elim}
use Rattle.std.proofs.Common.{arith, if◌then◌else◌}
use Rattle.std.proofs.lemmas.Bool.{cases_lt}
use Rattle.std.proofs.lemmas.List.{get_or_default, get_or_read, get_or-map, same_lists, length-map}
use Rattle.std.proofs.lemmas.List.Elements.{All-head, All-tail}
use Rattle.doc_model.specs.declared.command.Entry.{Entry}
use Rattle.doc_model.specs.declared.answer.Account.{Account}
use Rattle.doc_tree.specs.Tree.{DocTree}
use Rattle.doc_model.specs.Answers.{Limits, is_ok, left, opening_account}
use Rattle.doc_model.specs.Store.{answer_for}
use Rattle.doc_model.specs.History.{Follows, Stands, seen_by}
use Rattle.doc_model.specs.Agreement.{rising}
use Rattle.doc_model.proofs.Rising.{low, NeverFalls, AtLeast, is_rising, low-rising, get_or-rising}
use Rattle.doc_model.proofs.Order.{at, moment, InOrder, Precedes, Ordered}

-- the moment of an entry against its place and the place before it
at_least : (b : Bool) (last place : ℕ) → last + (if b then 1 else 0) ≤ place
    → 2 * last + 1 ≤ at place b
at_least true last place h = omega arith
at_least false last place h = omega arith

at_most : (b : Bool) (place : ℕ) → at place b ≤ 2 * place + 1
at_most true place = omega arith
at_most false place = omega arith

module _ (l : Limits) (trees : List DocTree) where
  -- the account after an entry has the entry's place
  last_is : (m : Account) (e : Entry) → Stands l trees m e
      → (left m (answer_for l trees (seen_by e) m e)).last ≡ e.place
  last_is m e h = h.says.1

  floor : (m : Account) (es : List Entry) → Follows l trees m es → (j : ℕ) (d : Entry)
      → j < length es → 2 * m.last + 1 ≤ moment (get_or es j d)
  floor m [] all j d lt = absurd (omega arith)
  floor m (e ∷ es) all zero d lt = at_least (is_ok e.reply) m.last e.place all.0.rises
  floor m (e ∷ es) all (suc j) d lt =
      let next = left m (answer_for l trees (seen_by e) m e) in
      let here : next.last ≡ e.place = last_is m e all.0 in
      omega (arith, here, all.0.rises, floor next es all.1 j d (omega arith))

  pub moments_rise : (m : Account) (es : List Entry) → Follows l trees m es → (i j : ℕ) (d : Entry)
      → i ≤ j → j < length es → moment (get_or es i d) ≤ moment (get_or es j d)
  moments_rise m [] all i j d le lt = absurd (omega arith)
  moments_rise m (e ∷ es) all zero zero d le lt = omega arith
  moments_rise m (e ∷ es) all zero (suc j) d le lt =
      let next = left m (answer_for l trees (seen_by e) m e) in
      let here : next.last ≡ e.place = last_is m e all.0 in
      omega (arith, here, at_most (is_ok e.reply) e.place, floor next es all.1 j d (omega arith))
  moments_rise m (e ∷ es) all (suc i) zero d le lt = absurd (omega arith)
  moments_rise m (e ∷ es) all (suc i) (suc j) d le lt =
      moments_rise (left m (answer_for l trees (seen_by e) m e)) es all.1 i j d (omega arith)
      (omega arith)

  pub number_at : (m : Account) (es : List Entry) → Follows l trees m es → (j : ℕ) (d : Entry)
      → j < length es → (get_or es j d).number ≡ m.answered + j + 1
  number_at m [] all j d lt = absurd (omega arith)
  number_at m (e ∷ es) all zero d lt = omega (arith, all.0.numbered)
  number_at m (e ∷ es) all (suc j) d lt =
      omega (
        arith,
        number_at (left m (answer_for l trees (seen_by e) m e)) es all.1 j d
            (omega arith),
      )

-- the entry stands in the log where its number says
pub record IsOf (log : List Entry) (e : Entry) : Type 0 where
  pub first : 1 ≤ e.number
  pub last : e.number ≤ length log
  pub there : e ≡ get_or log (e.number - 1) e

pub all_of : (l : Limits) (trees : List DocTree) (log : List Entry)
    → Follows l trees opening_account log → All (IsOf log) log
all_of l trees log all = λ k d lt.
    let e = get_or log k d in
    let number : e.number ≡ k + 1 = number_at l trees opening_account log all k d lt
    ∙ omega arith in
    let here : e.number - 1 ≡ k = omega arith in
    record {
      first = omega arith;
      last = omega arith;
      there = get_or_default log k d e lt
          ∙ ap (λ n. get_or log n e) (sym here);
    }

Rises : List Entry → Type 0
Rises log = (i j : ℕ) (d : Entry) → i ≤ j → j < length log
    → moment (get_or log i d) ≤ moment (get_or log j d)

-- two entries of one log that stand in order have their numbers in order
numbers_too : (log : List Entry) → Rises log → (a b : Entry) → IsOf log a → IsOf log b
    → a.client ≡ b.client → InOrder a b → a.number ≤ b.number
unfolding Rises
numbers_too log up a b ha hb same order =
    ⊎_elim (λ lt.
    let isa = get_or_read log (a.number - 1) a (omega (arith, ha.first, ha.last)) ha.there a in
    let isb = get_or_read log (b.number - 1) b (omega (arith, hb.first, hb.last)) hb.there a in
    let back : moment b ≤ moment a =
    omega (
      arith,
      up (b.number - 1) (a.number - 1) a (omega arith)
          (omega (arith, ha.first, ha.last)),
      ap moment isa,
      ap moment isb,
    ) in
    order.numbers (omega (arith, order.moments)) same) (λ le. le) (cases_lt b.number a.number)

at_least_numbers : (log : List Entry) → Rises log → (c : ℕ) (a : Entry) (es : List Entry)
    → IsOf log a → a.client ≡ c → All (IsOf log) es → All (λ e. e.client ≡ c) es → Precedes a es
    → AtLeast a.number (map (λ e. e.number) es)
at_least_numbers log up c a [] ha hc of own order = tt
at_least_numbers log up c a (e ∷ es) ha hc of own order = (
  numbers_too log up a e ha (All-head (IsOf log) e es of)
      (hc ∙ sym (All-head (λ x. x.client ≡ c) e es own)) order.0,
  at_least_numbers log up c a es ha hc (All-tail (IsOf log) e es of)
      (All-tail (λ x. x.client ≡ c) e es own) order.1,
)

never_fall : (log : List Entry) → Rises log → (c : ℕ) (es : List Entry) → All (IsOf log) es
    → All (λ e. e.client ≡ c) es → Ordered es → NeverFalls (map (λ e. e.number) es)
never_fall log up c [] of own order = tt
never_fall log up c (e ∷ es) of own order =
    let rest = All-tail (IsOf log) e es of in
    let mine = All-tail (λ x. x.client ≡ c) e es own in (
      at_least_numbers log up c e es (All-head (IsOf log) e es of)
          (All-head (λ x. x.client ≡ c) e es own) rest mine order.0,
      never_fall log up c es rest mine order.1,
    )

numbers_of : (l : Limits) (trees : List DocTree) (m : Account) (es : List Entry)
    → Follows l trees m es → map (λ e. e.number) es ≡ rising m.answered (length es)
numbers_of l trees m [] all = refl
numbers_of l trees m (e ∷ es) all =
    let first : e.number ≡ m.answered + 1 = all.0.numbered in
    let rest : map (λ (x : Entry). x.number) es ≡ rising (m.answered + 1) (length es) =
    numbers_of l trees (left m (answer_for l trees (seen_by e) m e)) es all.1 in
    cc

-- entries of a log, in order, with the log's numbers: they are the log
pub is_log : (l : Limits) (trees : List DocTree) (log : List Entry)
    → Follows l trees opening_account log → (c : ℕ) (es : List Entry) → All (IsOf log) es
    → All (λ e. e.client ≡ c) es → Ordered es → length es ≡ length log
    → ((u : ℕ) → low u (map (λ e. e.number) es) ≡ low u (map (λ e. e.number) log)) → es ≡ log
unfolding Rises
is_log l trees log all c es of own order len count =
    let n = length log in
    let up = moments_rise l trees opening_account log all in
    let is : map (λ (e : Entry). e.number) es ≡ rising 0 n =
    is_rising 0 n (map (λ (e : Entry). e.number) es)
    (length-map es (λ (e : Entry). e.number) ∙ len) (never_fall log up c es of own order)
    (λ u lo hi. count u ∙ ap (low u) (numbers_of l trees opening_account log all)
    ∙ low-rising 0 n u lo hi) in
    let at_place : (i : ℕ) (d : Entry) → i < length es → (get_or es i d).number ≡ i + 1 =
    λ i d lt. sym (get_or-map (λ (e : Entry). e.number) es i d 0 lt) ∙ ap (λ ns. get_or ns i 0) is
    ∙ get_or-rising 0 n i 0 (omega arith) ∙ omega arith in
    same_lists es log len (λ i d lt.
    let e = get_or es i d in
    let stands : IsOf log e = of i d lt in
    let here : e.number - 1 ≡ i = omega (arith, at_place i d lt) in
    stands.there ∙ ap (λ k. get_or log k e) here ∙ get_or_default log i e d (omega arith))
