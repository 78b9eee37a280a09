-- What a file of bytes is read as where it is looked at for its size first, then for its grammar:
-- the fault of a line, or that of the size.
use Rattle.std.proofs.Common.{◌≡◌, ◌∙◌, ℕ, ◌<◌, ◌≤◌, List, Result, Ok, Err}
use Rattle.std.proofs.Common.{true, false, length, inl, inr, refl, sym, subst}
use Rattle.std.specs.Prelude.{◌⊎◌, IsErr, IsOk, nat_lt}
use Rattle.std.proofs.lemmas.Bool.{le-ltb, lt-ltb, ltb-false, ltb-true}
use Rattle.script_files.specs.InTurn.{within_size}
use Rattle.script_files.specs.Sorts.{Grammar, OfLine, OfSize, sort_of}
use Rattle.script_files.specs.declared.fault.Fault.{Fault}
use Rattle.script_files.specs.declared.fault.Fault.TheVariants.{TooLarge}

-- what a reading gives, its faults made those of the program
abbrev pub after : {X F : Type 0} → (F → Fault) → Result X F → Result X Fault
after made (Ok value) = Ok value
after made (Err fault) = Err (made fault)

-- the reading of bytes within their size
abbrev pub read : {X F : Type 0} → (F → Fault) → (List ℕ → Result X F) → List ℕ
    → Result X Fault
read made parse bytes = within_size 1 (λ b. after made (parse b)) bytes

within : {X F : Type 0} (made : F → Fault) (parse : List ℕ → Result X F) (bytes : List ℕ)
    → length bytes ≤ 1048576 → read made parse bytes ≡ after made (parse bytes)
within made parse bytes short = rw (le-ltb 1048576 (length bytes) short) refl

beyond : {X F : Type 0} (made : F → Fault) (parse : List ℕ → Result X F) (bytes : List ℕ)
    → 1048576 < length bytes → read made parse bytes ≡ Err (TooLarge 1)
beyond made parse bytes long = rw (lt-ltb 1048576 (length bytes) long) refl

side : (n : ℕ) → (n ≤ 1048576) ⊎ (1048576 < n)
side n =
    elim (nat_lt 1048576 n) as (λ b. nat_lt 1048576 n ≡ b → (n ≤ 1048576) ⊎ (1048576 < n)) [
      | true ↦ λ e. inr (ltb-true 1048576 n e)
      | false ↦ λ e. inl (ltb-false 1048576 n e)
    ] refl

one_fault : {X : Type 0} (r : Result X Fault) (a b : Fault) → r ≡ Err a → r ≡ Err b → a ≡ b
one_fault r a b one other = cc

no_fault : {X : Type 0} (r : Result X Fault) (a : Fault) (c : X) → r ≡ Err a → r ≡ Ok c → ⊥
no_fault r a c one other = absurd (cc)

-- a fault behind the size is one of a line
line_fault : {X F : Type 0} (made : F → Fault) (grammar : Grammar)
    → ((f : F) → sort_of (made f) ≡ OfLine grammar) → (r : Result X F) (fault : Fault)
    → after made r ≡ Err fault → IsErr r × (sort_of fault ≡ OfLine grammar)
line_fault made grammar sorts (Ok c) fault is = absurd (cc)
line_fault made grammar sorts (Err f) fault is =
    let same : made f ≡ fault = one_fault (after made (Err f)) (made f) fault refl is in
    (refl, subst (λ (x : Fault). sort_of x ≡ OfLine grammar) same (sorts f))

no_line_fault : {X F : Type 0} (made : F → Fault) (r : Result X F) (c : X)
    → after made r ≡ Ok c → IsErr r → ⊥
no_line_fault made (Ok read) c is err = cc
no_line_fault made (Err f) c is err = no_fault (after made (Err f)) (made f) c refl is

line_by : {X F : Type 0} (made : F → Fault) (parse : List ℕ → Result X F) (grammar : Grammar)
    → ((f : F) → sort_of (made f) ≡ OfLine grammar) → (bytes : List ℕ) (fault : Fault)
    → (length bytes ≤ 1048576) ⊎ (1048576 < length bytes) → read made parse bytes ≡ Err fault
    → sort_of fault ≡ OfLine grammar → (length bytes ≤ 1048576) × IsErr (parse bytes)
line_by made parse grammar sorts bytes fault (inl short) is line = (
  short,
  (line_fault made grammar sorts (parse bytes) fault
      (sym (within made parse bytes short) ∙ is)).0,
)
line_by made parse grammar sorts bytes fault (inr long) is line =
    let same : TooLarge 1 ≡ fault =
    one_fault (read made parse bytes) (TooLarge 1) fault (beyond made parse bytes long) is in
    let size : sort_of fault ≡ OfSize = subst (λ (x : Fault). sort_of x ≡ OfSize) same refl in
    absurd (cc)

size_by : {X F : Type 0} (made : F → Fault) (parse : List ℕ → Result X F) (grammar : Grammar)
    → ((f : F) → sort_of (made f) ≡ OfLine grammar) → (bytes : List ℕ) (fault : Fault)
    → (length bytes ≤ 1048576) ⊎ (1048576 < length bytes) → read made parse bytes ≡ Err fault
    → sort_of fault ≡ OfSize → 1048576 < length bytes
size_by made parse grammar sorts bytes fault (inl short) is size =
    let line = (line_fault made grammar sorts (parse bytes) fault
    (sym (within made parse bytes short) ∙ is)).1 in
    absurd (cc)
size_by made parse grammar sorts bytes fault (inr long) is size = long

good_by : {X F : Type 0} (made : F → Fault) (parse : List ℕ → Result X F) (bytes : List ℕ) (c : X)
    → (length bytes ≤ 1048576) ⊎ (1048576 < length bytes) → read made parse bytes ≡ Ok c
    → (length bytes ≤ 1048576) × (IsErr (parse bytes) → ⊥)
good_by made parse bytes c (inl short) is =
    (short, no_line_fault made (parse bytes) c (sym (within made parse bytes short) ∙ is))
good_by made parse bytes c (inr long) is =
    absurd (no_fault (read made parse bytes) (TooLarge 1) c (beyond made parse bytes long) is)

fine : {X F : Type 0} (made : F → Fault) (r : Result X F) (fault : Fault)
    → after made r ≡ Err fault → IsOk r → ⊥
fine made (Ok c) fault is ok = cc
fine made (Err f) fault is ok = cc

-- the lemmas, of whatever reading

pub line_read : {X F : Type 0} (made : F → Fault) (parse : List ℕ → Result X F) (grammar : Grammar)
    → ((f : F) → sort_of (made f) ≡ OfLine grammar) → (bytes : List ℕ) (fault : Fault)
    → read made parse bytes ≡ Err fault → sort_of fault ≡ OfLine grammar
    → (length bytes ≤ 1048576) × IsErr (parse bytes)
line_read made parse grammar sorts bytes fault is line =
    line_by made parse grammar sorts bytes fault (side (length bytes)) is line

pub size_read : {X F : Type 0} (made : F → Fault) (parse : List ℕ → Result X F) (grammar : Grammar)
    → ((f : F) → sort_of (made f) ≡ OfLine grammar) → (bytes : List ℕ) (fault : Fault)
    → read made parse bytes ≡ Err fault → sort_of fault ≡ OfSize → 1048576 < length bytes
size_read made parse grammar sorts bytes fault is size =
    size_by made parse grammar sorts bytes fault (side (length bytes)) is size

pub good_read : {X F : Type 0} (made : F → Fault) (parse : List ℕ → Result X F) (bytes : List ℕ)
    (c : X) → read made parse bytes ≡ Ok c
    → (length bytes ≤ 1048576) × (IsErr (parse bytes) → ⊥)
good_read made parse bytes c is = good_by made parse bytes c (side (length bytes)) is

pub fine_read : {X F : Type 0} (made : F → Fault) (parse : List ℕ → Result X F) (bytes : List ℕ)
    (fault : Fault) → length bytes ≤ 1048576 → IsOk (parse bytes)
    → read made parse bytes ≡ Err fault → ⊥
fine_read made parse bytes fault short ok is =
    fine made (parse bytes) fault (sym (within made parse bytes short) ∙ is) ok
