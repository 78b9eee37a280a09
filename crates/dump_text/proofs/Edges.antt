-- The right edge of a tree: its last child, and that one's last child, down to the last node.
use Rattle.std.proofs.Common.{◌≡◌, ℕ, Bool, true, false, ◌&&◌, List, [], ◌∷◌, ◌++◌, map, Option}
use Rattle.std.proofs.Common.{Some, None, refl, sym, ap, subst, ◌∙◌, append-nil}
use Rattle.std.specs.Prelude.{◌||◌, bytes_eq}
use Rattle.std.specs.Cmp.Lexicographic.{slice_cmp}
use Rattle.std.specs.List.{list_any}
use Rattle.std.specs.Ordering.{is_lt, ordering_then}
use Rattle.std.specs.declared.cmp.Ordering.{Ordering}
use Rattle.std.specs.declared.cmp.Ordering.TheVariants.{Less, Equal, Greater}
use Rattle.std.proofs.Math.Bool.{and-true, or-false}
use Rattle.std.proofs.lemmas.Cmp.{nat_list_cmp_total}
use Rattle.doc_tree.specs.Lawful.{AreOrderly, IsOrdered}
use Rattle.doc_tree.specs.Rows.{join, IsBelow}
use Rattle.doc_tree.specs.Tree.{DocTree, Kids, no_kids, kid, name_cmp, by_order, child, IsAbove}
use Rattle.doc_tree.specs.Tree.{IsRising}
use Rattle.doc_tree.proofs.Joined.{above_child, above_right, child_past}
use Rattle.doc_tree.proofs.Rising.{above_later, greater_turned, less_turned}
use Rattle.dump_text.specs.Listing.{listed, listed_below, root_of, under}
use Rattle.dump_text.specs.Order.{Path, comes_after, has_parent, is_child}
use Rattle.dump_text.specs.Order.{is_next, last_path}
use Rattle.dump_text.proofs.Listings.{any-append, last-append, last-under, parent_under}
use Rattle.dump_text.proofs.Orders.{equal_is, greater_differs, less_differs, same_bytes}
use Rattle.dump_text.proofs.Orders.{same_equal}

-- the way to the last node
abbrev pub last_way : Kids → Path
last_way no_kids = []
last_way (kid m text inside no_kids) = m ∷ last_way inside
last_way (kid m text inside (kid n other within rest)) = last_way (kid n other within rest)

pub last_listed : (text : List ℕ) (kids : Kids)
    → last_path (root_of text ∷ listed_below kids) ≡ last_way kids
last_listed text no_kids = refl
last_listed text (kid m other inside no_kids) =
    ap last_path (append-nil (map (under m) (root_of other ∷ listed_below inside)))
    ∙ last-under m (root_of other) (listed_below inside)
    ∙ ap (λ (path : Path). m ∷ path) (last_listed other inside)
last_listed text (kid m other inside (kid n third within rest)) =
    last-append (map (under m) (root_of other ∷ listed_below inside)) (under n (root_of third))
    (map (under n) (listed_below within) ++ listed_below rest)
    ∙ last_listed text (kid n third within rest)

-- there is no child, or a last one, whose name comes after all others
pub data Edge (kids : Kids) : Type 0 where
  bare : kids ≡ no_kids → Edge kids
  edge : (front : Kids) (m text : List ℕ) (inside : Kids)
      → kids ≡ join front (kid m text inside no_kids) → IsBelow m front → Edge kids

edge_later : (m text : List ℕ) (inside rest : Kids) → IsAbove m rest → (rest ≡ no_kids → ⊥)
    → Edge rest → Edge (kid m text inside rest)
edge_later m text inside rest above some (bare none) = absurd (some none)
edge_later m text inside rest above some (edge front n other within is below) =
    let after = above_right m front (kid n other within no_kids) (subst (IsAbove m) is above) in
    edge (kid m text inside front) n other within (ap (kid m text inside) is)
    (less_turned m n after.0, below)

pub edge_of : (kids : Kids) → IsRising kids → Edge kids
edge_of no_kids rising = bare refl
edge_of (kid m text inside no_kids) rising = edge no_kids m text inside refl tt
edge_of (kid m text inside (kid n other within rest)) rising =
    edge_later m text inside (kid n other within rest) rising.0 (λ h. cc)
    (edge_of (kid n other within rest) rising.1)

pub last_way-join : (front : Kids) (m text : List ℕ) (inside : Kids)
    → last_way (join front (kid m text inside no_kids)) ≡ m ∷ last_way inside
last_way-join no_kids m text inside = refl
last_way-join (kid n other within no_kids) m text inside = refl
last_way-join (kid n other within (kid k third below rest)) m text inside =
    last_way-join (kid k third below rest) m text inside

pub below_more : (m n : List ℕ) (front : Kids) → name_cmp m n ≡ Less → IsBelow m front
    → IsBelow n front
below_more m n no_kids less below = tt
below_more m n (kid k text inside rest) less below = (
  less_turned k n (nat_list_cmp_total.trans k m n (greater_turned m k below.0) less),
  below_more m n rest less below.1,
)

pub below_join : (n : List ℕ) (front : Kids) (m text : List ℕ) (inside : Kids)
    → IsBelow n front → name_cmp n m ≡ Greater → IsBelow n (join front (kid m text inside no_kids))
below_join n no_kids m text inside below greater = (greater, tt)
below_join n (kid k other within rest) m text inside below greater =
    (below.0, below_join n rest m text inside below.1 greater)

pub below_child : (n : List ℕ) (kids : Kids) → IsBelow n kids → child n kids ≡ None
below_child n no_kids below = refl
below_child n (kid m text inside rest) below = rw below.0 (below_child n rest below.1)

pub last_child : (front : Kids) (n text : List ℕ) (inside : Kids) → IsBelow n front
    → child n (join front (kid n text inside no_kids))
    ≡ Some (record { text = text; kids = inside })
last_child front n text inside below =
    child_past n front (kid n text inside no_kids) below ∙ rw (same_equal n) refl

-- what is so of the last child's tree
orderly_last : (front : Kids) (m text : List ℕ) (inside : Kids)
    → AreOrderly (join front (kid m text inside no_kids))
    → IsOrdered (record { text = text; kids = inside })
orderly_last no_kids m text inside all = record { here = all.0; below = all.1.0 }
orderly_last (kid n other within rest) m text inside all =
    orderly_last rest m text inside all.1.1

pub ordered_last : (kids front : Kids) (m text : List ℕ) (inside : Kids) → AreOrderly kids
    → kids ≡ join front (kid m text inside no_kids)
    → IsOrdered (record { text = text; kids = inside })
ordered_last kids front m text inside all is =
    orderly_last front m text inside (subst AreOrderly is all)

-- whether the parent of a longer path is there, by the child on its way
abbrev pub parent_in : Option DocTree → Path → Bool
parent_in None path = false
parent_in (Some d) path = has_parent (listed d) path

parent_at : (o : Ordering) (n m text : List ℕ) (inside rest : Kids) (path : Path)
    → name_cmp n m ≡ o → IsAbove m rest
    → list_any (λ node. is_child node.path (n ∷ path)) (listed_below rest)
    ≡ parent_in (child n rest) path
    → list_any (λ node. is_child node.path (n ∷ path)) (listed_below (kid m text inside rest))
    ≡ parent_in (by_order o None (Some (record { text = text; kids = inside })) (child n rest)) path
parent_at o n m text inside rest path is above later =
    let d : DocTree = record { text = text; kids = inside } in
    let inner = has_parent (listed d) path in
    let later_any = list_any (λ node. is_child node.path (n ∷ path)) (listed_below rest) in
    let split = any-append (λ node. is_child node.path (n ∷ path))
    (map (under m) (root_of text ∷ listed_below inside)) (listed_below rest)
    ∙ ap (λ (b : Bool). b || later_any) (parent_under m n path (listed d)) in
    elim o as (λ o. name_cmp n m ≡ o → list_any (λ node. is_child node.path (n ∷ path))
    (listed_below (kid m text inside rest))
    ≡ parent_in (by_order o None (Some d) (child n rest)) path) [
      | Less ↦ λ e. split
          ∙ ap (λ (b : Bool). (b && inner) || later_any) (greater_differs m n (less_turned n m e))
          ∙ later
          ∙ ap (λ (c : Option DocTree). parent_in c path)
          (above_child n rest (above_later n m rest e above))
      | Equal ↦ λ e. (
          let same = equal_is n m e in
          let none = above_child n rest (subst (λ k. IsAbove k rest) (sym same) above) in
          split
          ∙ ap (λ (b : Bool). (b && inner) || later_any)
          (ap (λ k. bytes_eq m k) same ∙ same_bytes m)
          ∙ ap (λ (b : Bool). inner || b)
          (later ∙ ap (λ (c : Option DocTree). parent_in c path) none)
          ∙ or-false inner
          )
      | Greater ↦ λ e. split
          ∙ ap (λ (b : Bool). (b && inner) || later_any) (less_differs m n (greater_turned n m e))
          ∙ later
    ] is

pub parent_below : (n : List ℕ) (kids : Kids) (path : Path) → IsRising kids
    → list_any (λ node. is_child node.path (n ∷ path)) (listed_below kids)
    ≡ parent_in (child n kids) path
parent_below n no_kids path rising = refl
parent_below n (kid m text inside rest) path rising =
    parent_at (name_cmp n m) n m text inside rest path refl rising.0
    (parent_below n rest path rising.1)

-- after a last path of one name or more
pub after_none : (path : Path) → comes_after path [] ≡ false
after_none [] = refl
after_none (n ∷ path) = refl

abbrev IsFollowed : List ℕ → Kids → Path → Type 0
IsFollowed text kids path =
    (comes_after (last_way kids) path && has_parent (root_of text ∷ listed_below kids) path)
    ≡ is_next (last_way kids) path

-- one name
follows_one : (last : Path) (n : List ℕ) → comes_after last (n ∷ []) ≡ is_next last (n ∷ [])
follows_one [] n = refl
follows_one (m ∷ last) n =
    elim (name_cmp m n) as (λ o. is_lt (ordering_then o (slice_cmp name_cmp last []))
    ≡ by_order o true (is_next last []) false) [
      | Less ↦ refl
      | Equal ↦ after_none last
      | Greater ↦ refl
    ]

-- more names
pub follows_is : (path : Path) (text : List ℕ) (kids : Kids) → IsRising kids → AreOrderly kids
    → (comes_after (last_way kids) path && has_parent (root_of text ∷ listed_below kids) path)
    ≡ is_next (last_way kids) path
follows_is [] text kids rising all =
    ap (λ b. b && has_parent (root_of text ∷ listed_below kids) []) (after_none (last_way kids))
follows_is (n ∷ []) text kids rising all =
    and-true (comes_after (last_way kids) (n ∷ [])) ∙ follows_one (last_way kids) n
follows_is (n ∷ k ∷ path) text kids rising all =
    elim (edge_of kids rising) [
      | bare is ↦ rw is refl
      | edge front m other inside is below ↦ (
          let way = ap last_way is ∙ last_way-join front m other inside in
          rw (way, parent_below n kids (k ∷ path) rising)
          (elim (name_cmp m n) as (λ o. name_cmp m n ≡ o
          → (is_lt (ordering_then o (slice_cmp name_cmp (last_way inside) (k ∷ path)))
          && parent_in (child n kids) (k ∷ path))
          ≡ by_order o false (is_next (last_way inside) (k ∷ path)) false) [
            | Less ↦ λ e. (
                let all_below = subst (IsBelow n) (sym is)
                (below_join n front m other inside (below_more m n front e below)
                (less_turned m n e)) in
                rw (below_child n kids all_below) refl
                )
            | Equal ↦ λ e. (
                let same = equal_is m n e in
                let there : child n kids ≡ Some (record { text = other; kids = inside }) =
                subst (λ x. child x kids ≡ Some (record { text = other; kids = inside })) same
                (ap (child m) is ∙ last_child front m other inside below) in
                let inner = ordered_last kids front m other inside all is in
                rw there (follows_is (k ∷ path) other inside inner.here.rising inner.below)
                )
            | Greater ↦ λ e. refl
          ] refl)
          )
    ]
