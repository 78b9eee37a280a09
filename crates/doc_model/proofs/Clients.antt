-- The logs of clients that are numbered one after another: a client's entries are those of its log.
use Rattle.std.proofs.Common.{◌≡◌, ◌≢◌, ℕ, zero, suc, ◌+◌, ◌≤◌, ◌<◌, ◌==◌, true, false, List, []}
use Rattle.std.proofs.Common.{◌∷◌, ◌++◌, length, get_or, map, filter, All, refl, sym, ◌∙◌, ap}
use Rattle.std.proofs.Common.{arith}
use Rattle.std.proofs.lemmas.Bool.{eq-eqb, ne_eqb}
use Rattle.std.proofs.lemmas.List.{append-nil, get_or-map}
use Rattle.std.proofs.lemmas.List.Elements.{All-nil, All-head, All-tail, All-append, All-weaker}
use Rattle.std.proofs.lemmas.List.Elements.{filter-append}
use Rattle.doc_model.specs.declared.command.Entry.{Entry}
use Rattle.doc_model.specs.ClientLog.{ClientLog}
use Rattle.doc_model.specs.Merge.{all_entries}
use Rattle.doc_model.specs.Agreement.{rising}
use Rattle.doc_model.proofs.Rising.{get_or-rising}

keep_all : (c : ℕ) (es : List Entry) → All (λ e. e.client ≡ c) es
    → filter (λ e. e.client == c) es ≡ es
keep_all c [] own = refl
keep_all c (e ∷ es) own =
    let is : (e.client == c) ≡ true = eq-eqb e.client c (All-head (λ x. x.client ≡ c) e es own) in
    rw is (ap (λ xs. e ∷ xs) (keep_all c es (All-tail (λ x. x.client ≡ c) e es own)))

keep_none : (b c : ℕ) (es : List Entry) → All (λ e. e.client ≡ b) es → b ≢ c
    → filter (λ e. e.client == c) es ≡ []
keep_none b c [] own other = refl
keep_none b c (e ∷ es) own other =
    let is : (e.client == c) ≡ false =
    ne_eqb e.client c (λ x. other (sym (All-head (λ x. x.client ≡ b) e es own) ∙ x)) in
    rw is (keep_none b c es (All-tail (λ x. x.client ≡ b) e es own) other)

abbrev pub Own : List ClientLog → Type 0
Own logs = All (λ g. All (λ e. e.client ≡ g.client) g.entries) logs

abbrev pub Numbered : ℕ → List ClientLog → Type 0
Numbered i logs = map (λ g. g.client) logs ≡ rising i (length logs)

own_head : (g : ClientLog) (logs : List ClientLog) → Own (g ∷ logs)
    → All (λ e. e.client ≡ g.client) g.entries
own_head g logs own = All-head (λ g. All (λ e. e.client ≡ g.client) g.entries) g logs own

own_tail : (g : ClientLog) (logs : List ClientLog) → Own (g ∷ logs) → Own logs
own_tail g logs own = All-tail (λ g. All (λ e. e.client ≡ g.client) g.entries) g logs own

numbered_head : (i : ℕ) (g : ClientLog) (logs : List ClientLog) → Numbered i (g ∷ logs)
    → g.client ≡ i + 1
numbered_head i g logs is = cc

numbered_tail : (i : ℕ) (g : ClientLog) (logs : List ClientLog) → Numbered i (g ∷ logs)
    → Numbered (i + 1) logs
numbered_tail i g logs is = cc

pub client_at : (i : ℕ) (logs : List ClientLog) → Numbered i logs → (j : ℕ) (d : ClientLog)
    → j < length logs → (get_or logs j d).client ≡ i + j + 1
client_at i logs is j d lt =
    sym (get_or-map (λ (g : ClientLog). g.client) logs j d 0 lt) ∙ ap (λ ns. get_or ns j 0) is
    ∙ get_or-rising i (length logs) j 0 lt

none_before : (i : ℕ) (logs : List ClientLog) → Numbered i logs → Own logs → (c : ℕ) → c ≤ i
    → filter (λ e. e.client == c) (all_entries logs) ≡ []
none_before i [] is own c le = refl
none_before i (g ∷ logs) is own c le =
    let p : Entry → _ = λ e. e.client == c in
    let first : filter p g.entries ≡ [] =
    keep_none g.client c g.entries (own_head g logs own)
    (λ e. absurd (omega (arith, numbered_head i g logs is))) in
    let rest : filter p (all_entries logs) ≡ [] =
    none_before (i + 1) logs (numbered_tail i g logs is) (own_tail g logs own) c (omega arith) in
    let split = filter-append p g.entries (all_entries logs) in
    let joined : filter p g.entries ++ filter p (all_entries logs) ≡ [] = rw (first, rest) refl in
    split ∙ joined

pub own_kept : (i : ℕ) (logs : List ClientLog) → Numbered i logs → Own logs
    → (j : ℕ) (d : ClientLog) (c : ℕ) → j < length logs → c ≡ i + j + 1
    → filter (λ e. e.client == c) (all_entries logs) ≡ (get_or logs j d).entries
own_kept i [] is own j d c lt e = absurd (omega arith)
own_kept i (g ∷ logs) is own zero d c lt e =
    let p : Entry → _ = λ e. e.client == c in
    let same : g.client ≡ c = omega (arith, numbered_head i g logs is) in
    let first : filter p g.entries ≡ g.entries =
    keep_all c g.entries (All-weaker (λ x. x.client ≡ g.client) (λ x. x.client ≡ c)
    (λ x h. h ∙ same) g.entries (own_head g logs own)) in
    let rest : filter p (all_entries logs) ≡ [] =
    none_before (i + 1) logs (numbered_tail i g logs is) (own_tail g logs own) c (omega arith) in
    let split = filter-append p g.entries (all_entries logs) in
    let joined : filter p g.entries ++ filter p (all_entries logs) ≡ g.entries =
    rw (first, rest) (append-nil g.entries) in
    split ∙ joined
own_kept i (g ∷ logs) is own (suc j) d c lt e =
    let p : Entry → _ = λ e. e.client == c in
    let first : filter p g.entries ≡ [] =
    keep_none g.client c g.entries (own_head g logs own)
    (λ same. absurd (omega (arith, numbered_head i g logs is))) in
    let rest : filter p (all_entries logs) ≡ (get_or logs j d).entries =
    own_kept (i + 1) logs (numbered_tail i g logs is) (own_tail g logs own) j d c (omega arith)
    (omega arith) in
    let split = filter-append p g.entries (all_entries logs) in
    let joined : filter p g.entries ++ filter p (all_entries logs) ≡ (get_or logs j d).entries =
    rw first rest in
    split ∙ joined

pub record InRange (i n : ℕ) (e : Entry) : Type 0 where
  pub low : i + 1 ≤ e.client
  pub high : e.client ≤ i + n

pub all_in_range : (i : ℕ) (logs : List ClientLog) → Numbered i logs → Own logs
    → All (InRange i (length logs)) (all_entries logs)
all_in_range i [] is own = All-nil (InRange i 0)
all_in_range i (g ∷ logs) is own =
    let here : g.client ≡ i + 1 = numbered_head i g logs is in
    let P : Entry → Type 0 = InRange i (length (g ∷ logs)) in
    All-append P g.entries (all_entries logs)
    (All-weaker (λ x. x.client ≡ g.client) P
    (λ x h. record { low = omega arith; high = omega arith }) g.entries (own_head g logs own))
    (All-weaker (InRange (i + 1) (length logs)) P
    (λ x h. record { low = omega (arith, h.low); high = omega (arith, h.high) })
    (all_entries logs) (all_in_range (i + 1) logs (numbered_tail i g logs is)
    (own_tail g logs own)))
