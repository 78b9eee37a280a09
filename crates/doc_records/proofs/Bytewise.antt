-- A name against the bytes of a text, byte by byte.
use Rattle.std.proofs.Common.{◌≡◌, ℕ, zero, suc, ◌-◌, ◌/◌, ◌%◌, ◌<◌, ◌≤◌, List, [], ◌∷◌, ◌++◌}
use Rattle.std.proofs.Common.{length, take, drop, get_or, refl, ap, ◌∙◌, arith}
use Rattle.std.specs.declared.cmp.Ordering.TheVariants.{Equal}
use Rattle.std.specs.Ordering.{nat_cmp}
use Rattle.doc_tree.specs.Tree.{name_cmp}
use Rattle.doc_records.specs.Words.{bytes_of}

take_all : (bytes : List ℕ) → take (length bytes) bytes ≡ bytes
take_all [] = refl
take_all (b ∷ bytes) = ap (λ more. b ∷ more) (take_all bytes)

rest_all : (b : ℕ) (bytes : List ℕ) → take (length (b ∷ bytes) - 1) bytes ≡ bytes
rest_all b bytes =
    let same : length (b ∷ bytes) - 1 ≡ length bytes = omega arith in
    ap (λ n. take n bytes) same ∙ take_all bytes

pub same_byte : (name : List ℕ) (n w : ℕ) (more : List ℕ) → 0 < n → 1 ≤ length name
    → nat_cmp (get_or name 0 0) (w % 256) ≡ Equal
    → name_cmp name (bytes_of n w ++ more)
    ≡ name_cmp (take (length name - 1) (drop 1 name)) (bytes_of (n - 1) (w / 256) ++ more)
same_byte [] n w more some long equal = absurd (omega (arith, long))
same_byte (b ∷ name) zero w more some long equal = absurd (omega (arith, some))
same_byte (b ∷ name) (suc n) w more some long equal =
    let less : suc n - 1 ≡ n = omega arith in
    rw (equal, less, rest_all b name) refl
