-- A descent: states one after the other, and what holds of the sides of an entry that was read.
use Rattle.std.proofs.Common.{◌≡◌, ◌+◌, ◌≤◌, ◌∙◌, List, ℕ, subst, sym}
use Rattle.std.specs.declared.cmp.Ordering.TheVariants.{Less, Greater}
use Rattle.doc_tree.specs.Tree.{DocTree, IsRising, name_cmp}
use Rattle.kids_avl.specs.Changes.{IsNearly, IsPut}
use Rattle.kids_avl.specs.Entries.{Entries, IsBalanced, entry, height_of, kids_of}
use Rattle.kids_avl.specs.Pool.{Later}
use Rattle.kids_avl.proofs.Heights.{left_lower, right_lower}
use Rattle.kids_avl.proofs.Lists.{rising_after, rising_before}
use Rattle.kids_avl.proofs.Steps.{put_left_nearly, put_right_nearly}

pub later_then : {S A C : Type 0} {stands : S → A → Type 0} {entries : S → A → Entries}
    {is_child : S → C → Type 0} {tree : S → C → DocTree} {kept : S → S → Type 0} {a b c : S}
    → Later stands entries is_child tree kept a b → Later stands entries is_child tree kept b c
    → Later stands entries is_child tree kept a c
later_then first second = record {
  still = λ x s. second.still x (first.still x s);
  same = λ x s. second.same x (first.still x s) ∙ first.same x s;
  still_under = λ o s. second.still_under o (first.still_under o s);
  same_under = λ o s. second.same_under o (first.still_under o s) ∙ first.same_under o s;
  child_still = λ x s. second.child_still x (first.child_still x s);
  child_same = λ x s. second.child_same x (first.child_still x s) ∙ first.child_same x s;
  still_kept = λ start k. second.still_kept start (first.still_kept start k);
}

module _ (t : Entries) (n : List ℕ) (d : DocTree) (l r : Entries) (whole : t ≡ entry n d l r) where
  pub low_left : height_of l + 1 ≤ height_of t
  low_left =
      subst (λ (e : Entries). height_of l + 1 ≤ height_of e) (sym whole)
      (left_lower (entry n d l r) tt)

  pub low_right : height_of r + 1 ≤ height_of t
  low_right =
      subst (λ (e : Entries). height_of r + 1 ≤ height_of e) (sym whole)
      (right_lower (entry n d l r) tt)

  pub even_parts : IsBalanced t → IsBalanced (entry n d l r)
  even_parts balanced = subst IsBalanced whole balanced

  pub rising_left_of : IsRising (kids_of t) → IsRising (kids_of l)
  rising_left_of rising =
      rising_before (entry n d l r) (subst (λ (e : Entries). IsRising (kids_of e)) whole rising)

  pub rising_right_of : IsRising (kids_of t) → IsRising (kids_of r)
  rising_right_of rising =
      rising_after (entry n d l r) (subst (λ (e : Entries). IsRising (kids_of e)) whole rising)

pub put_left_ready : (m n k : List ℕ) (y d e : DocTree) (t l r s new : Entries)
    → t ≡ entry n d l r → IsBalanced t → IsRising (kids_of t) → name_cmp m n ≡ Less
    → IsPut m y l new → k ≡ n → e ≡ d → s ≡ r → IsNearly (entry k e new s)
put_left_ready m n k y d e t l r s new whole balanced rising less put name kept side =
    rw (name, kept, side) (put_left_nearly m n y d l r new (rw whole at balanced)
    (rw whole at rising) less put)

pub put_right_ready : (m n k : List ℕ) (y d e : DocTree) (t l r s new : Entries)
    → t ≡ entry n d l r → IsBalanced t → IsRising (kids_of t) → name_cmp m n ≡ Greater
    → IsPut m y r new → k ≡ n → e ≡ d → s ≡ l → IsNearly (entry k e s new)
put_right_ready m n k y d e t l r s new whole balanced rising greater put name kept side =
    rw (name, kept, side) (put_right_nearly m n y d l r new (rw whole at balanced)
    (rw whole at rising) greater put)
