-- The order of a merged list: by the moment, which is two steps a version, then by client and
-- number.
use Rattle.std.proofs.Common.{◌≡◌, ℕ, suc, ◌+◌, ◌*◌, ◌<◌, ◌≤◌, Bool, true, false, cond, not, List}
use Rattle.std.proofs.Common.{[], ◌∷◌, length, get_or, filter, IsSortedByKey, ⊎_elim, arith}
use Rattle.std.specs.declared.cmp.Ordering.{Ordering}
use Rattle.std.specs.declared.cmp.Ordering.TheVariants.{Less, Equal, Greater}
use Rattle.std.specs.Ordering.{nat_cmp, bool_cmp, ordering_then, is_lt}
use Rattle.std.proofs.lemmas.Bool.{cases_lt}
use Rattle.std.proofs.lemmas.Bool.Decides.{nat_tests}
use Rattle.doc_model.specs.declared.command.Entry.{Entry}
use Rattle.doc_model.specs.Answers.{is_ok}
use Rattle.doc_model.specs.Merge.{entry_order}

-- when an entry stands that read or made a version of this number
abbrev pub at : ℕ → Bool → ℕ
at place true = 2 * place
at place false = 2 * place + 1

abbrev pub moment : Entry → ℕ
moment e = at e.place (is_ok e.reply)

pub record InOrder (a b : Entry) : Type 0 where
  pub moments : moment a ≤ moment b
  pub clients : moment a ≡ moment b → a.client ≤ b.client
  pub numbers : moment a ≡ moment b → a.client ≡ b.client → a.number ≤ b.number

is_less : (m n : ℕ) → m < n → nat_cmp m n ≡ Less
is_less m n h = grind (arith, nat_tests)

is_equal : (m n : ℕ) → m ≡ n → nat_cmp m n ≡ Equal
is_equal m n h = grind (arith, nat_tests)

is_greater : (m n : ℕ) → n < m → nat_cmp m n ≡ Greater
is_greater m n h = grind (arith, nat_tests)

-- by cases on how two numbers compare
by_cmp : (m n : ℕ) (Q : Ordering → Type 0) → (m < n → Q Less) → (m ≡ n → Q Equal)
    → (n < m → Q Greater) → Q (nat_cmp m n)
by_cmp m n Q less equal greater =
    ⊎_elim (λ lt. rw (is_less m n lt) (less lt))
    (λ le. ⊎_elim (λ lt. rw (is_greater m n lt) (greater lt))
    (λ ge. let e : m ≡ n = omega arith in rw (is_equal m n e) (equal e)) (cases_lt n m))
    (cases_lt m n)

not_later : (m n : ℕ) → is_lt (nat_cmp n m) ≡ false → m ≤ n
not_later m n h =
    by_cmp n m (λ o. is_lt o ≡ false → m ≤ n) (λ lt h. cc) (λ e h. omega arith)
    (λ gt h. omega arith) h

tied : (c d m n : ℕ) → is_lt (ordering_then (nat_cmp d c) (nat_cmp n m)) ≡ false
    → (c ≤ d) × (c ≡ d → m ≤ n)
tied c d m n h =
    by_cmp d c (λ o. is_lt (ordering_then o (nat_cmp n m)) ≡ false → (c ≤ d) × (c ≡ d → m ≤ n))
    (λ lt h. cc) (λ e h. (omega arith, λ _. not_later m n h))
    (λ gt h. (omega arith, λ e. absurd (omega arith))) h

-- the second of two entries is not before the first: numbers and tests alone
flat : (p q : ℕ) (s t : Bool) (c d m n : ℕ)
    → is_lt (ordering_then
    (ordering_then (ordering_then (nat_cmp q p) (bool_cmp (not t) (not s))) (nat_cmp d c))
    (nat_cmp n m)) ≡ false → (at p s ≤ at q t) × (at p s ≡ at q t → (c ≤ d) × (c ≡ d → m ≤ n))
flat p q true true c d m n h =
    by_cmp q p (λ o. is_lt (ordering_then (ordering_then (ordering_then o Equal) (nat_cmp d c))
    (nat_cmp n m)) ≡ false → (2 * p ≤ 2 * q) × (2 * p ≡ 2 * q → (c ≤ d) × (c ≡ d → m ≤ n)))
    (λ lt h. cc) (λ e h. (omega arith, λ _. tied c d m n h))
    (λ gt h. (omega arith, λ e. absurd (omega arith))) h
flat p q true false c d m n h =
    by_cmp q p (λ o. is_lt (ordering_then (ordering_then (ordering_then o Greater) (nat_cmp d c))
    (nat_cmp n m)) ≡ false
    → (2 * p ≤ 2 * q + 1) × (2 * p ≡ 2 * q + 1 → (c ≤ d) × (c ≡ d → m ≤ n))) (λ lt h. cc)
    (λ e h. (omega arith, λ e. absurd (omega arith)))
    (λ gt h. (omega arith, λ e. absurd (omega arith))) h
flat p q false true c d m n h =
    by_cmp q p (λ o. is_lt (ordering_then (ordering_then (ordering_then o Less) (nat_cmp d c))
    (nat_cmp n m)) ≡ false
    → (2 * p + 1 ≤ 2 * q) × (2 * p + 1 ≡ 2 * q → (c ≤ d) × (c ≡ d → m ≤ n))) (λ lt h. cc)
    (λ e h. cc) (λ gt h. (omega arith, λ e. absurd (omega arith))) h
flat p q false false c d m n h =
    by_cmp q p (λ o. is_lt (ordering_then (ordering_then (ordering_then o Equal) (nat_cmp d c))
    (nat_cmp n m)) ≡ false
    → (2 * p + 1 ≤ 2 * q + 1) × (2 * p + 1 ≡ 2 * q + 1 → (c ≤ d) × (c ≡ d → m ≤ n)))
    (λ lt h. cc) (λ e h. (omega arith, λ _. tied c d m n h))
    (λ gt h. (omega arith, λ e. absurd (omega arith))) h

not_before : (a b : Entry) → is_lt (entry_order b a) ≡ false → InOrder a b
not_before a b h =
    let all = flat a.place b.place (is_ok a.reply)
    (is_ok b.reply) a.client b.client a.number b.number h in
    record { moments = all.0; clients = λ e. (all.1 e).0; numbers = λ e c. (all.1 e).1 c }

pub InOrder-trans : (a b c : Entry) → InOrder a b → InOrder b c → InOrder a c
InOrder-trans a b c h k = record {
  moments = omega (arith, h.moments, k.moments);
  clients = λ e. omega (
    arith,
    h.moments,
    k.moments,
    h.clients (omega (arith, h.moments, k.moments)),
    k.clients (omega (arith, h.moments, k.moments)),
  );
  numbers = λ e s.
      let first : moment a ≡ moment b = omega (arith, h.moments, k.moments) in
      let second : moment b ≡ moment c = omega (arith, h.moments, k.moments) in
      let here : a.client ≡ b.client = omega (arith, h.clients first, k.clients second) in
      let there : b.client ≡ c.client = omega arith in
      omega (arith, h.numbers first here, k.numbers second there);
}

abbrev pub Precedes : Entry → List Entry → Type 0
Precedes e [] = Unit {0}
Precedes e (x ∷ xs) = InOrder e x × Precedes e xs

abbrev pub Ordered : List Entry → Type 0
Ordered [] = Unit {0}
Ordered (e ∷ es) = Precedes e es × Ordered es

precedes_too : (a b : Entry) (es : List Entry) → InOrder a b → Precedes b es → Precedes a es
precedes_too a b [] h all = tt
precedes_too a b (e ∷ es) h all = (InOrder-trans a b e h all.0, precedes_too a b es h all.1)

pub ordered : (es : List Entry) → IsSortedByKey (λ e. e) entry_order es → Ordered es
ordered [] up = tt
ordered (a ∷ []) up = (tt, tt)
ordered (a ∷ b ∷ es) up =
    let first = not_before a b (up 0 a (omega arith) (omega arith)) in
    let next : (k : ℕ) (d : Entry) → 0 ≤ k → k + 1 < length (b ∷ es)
    → is_lt (entry_order (get_or (b ∷ es) (k + 1) d) (get_or (b ∷ es) k d)) ≡ false =
    λ k d lo hi. let e : suc k + 1 ≡ suc (k + 1) =
    omega arith in rw e at (up (suc k) d (omega arith) (omega arith)) in
    let rest = ordered (b ∷ es) next in
    ((first, precedes_too a b es first rest.0), rest)

precedes_kept : (p : Entry → Bool) (e : Entry) (es : List Entry) → Precedes e es
    → Precedes e (filter p es)
precedes_kept p e [] all = tt
precedes_kept p e (x ∷ xs) all =
    let rest = precedes_kept p e xs all.1 in
    elim (p x) as (λ b. Precedes e (cond b (x ∷ filter p xs) (filter p xs)))
    [ true ↦ (all.0, rest) | false ↦ rest ]

pub ordered_kept : (p : Entry → Bool) (es : List Entry) → Ordered es → Ordered (filter p es)
ordered_kept p [] all = tt
ordered_kept p (x ∷ xs) all =
    let rest = ordered_kept p xs all.1 in
    elim (p x) as (λ b. Ordered (cond b (x ∷ filter p xs) (filter p xs)))
    [ true ↦ (precedes_kept p x xs all.0, rest) | false ↦ rest ]
