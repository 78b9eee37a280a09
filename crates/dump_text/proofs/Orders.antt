-- Names and paths in their order.
use Rattle.std.proofs.Common.{◌≡◌, ℕ, true, false, List, refl, ap, ◌∙◌}
use Rattle.std.specs.Prelude.{bytes_eq}
use Rattle.std.specs.Cmp.Lexicographic.{bytes_decides, texts_ties}
use Rattle.std.specs.declared.cmp.Ordering.TheVariants.{Less, Equal, Greater}
use Rattle.std.specs.Ordering.{is_eq}
use Rattle.doc_tree.specs.Tree.{name_cmp}

pub same_tests : (m n : List ℕ) → bytes_eq m n ≡ is_eq (name_cmp m n)
same_tests m n = texts_ties m n

pub equal_is : (m n : List ℕ) → name_cmp m n ≡ Equal → m ≡ n
equal_is m n e = (bytes_decides m n).0 (same_tests m n ∙ ap is_eq e)

pub same_equal : (n : List ℕ) → name_cmp n n ≡ Equal
same_equal n =
    elim (name_cmp n n) as (λ o. bytes_eq n n ≡ is_eq o → o ≡ Equal) [
      | Less ↦ λ e. let yes : bytes_eq n n ≡ true = (bytes_decides n n).1 refl in cc
      | Equal ↦ λ e. refl
      | Greater ↦ λ e. let yes : bytes_eq n n ≡ true = (bytes_decides n n).1 refl in cc
    ] (same_tests n n)

pub less_differs : (m n : List ℕ) → name_cmp m n ≡ Less → bytes_eq m n ≡ false
less_differs m n e = same_tests m n ∙ ap is_eq e

pub greater_differs : (m n : List ℕ) → name_cmp m n ≡ Greater → bytes_eq m n ≡ false
greater_differs m n e = same_tests m n ∙ ap is_eq e

pub same_bytes : (n : List ℕ) → bytes_eq n n ≡ true
same_bytes n = (bytes_decides n n).1 refl
