-- The nodes of a lawful tree may follow each other, as lines do.
use Rattle.std.proofs.Common.{◌≡◌, ℕ, ◌+◌, ◌<◌, ◌≤◌, Bool, true, false, ◌&&◌, cond, List, []}
use Rattle.std.proofs.Common.{◌∷◌, ◌++◌}
use Rattle.std.proofs.Common.{length, map, max, Option, Some, None, refl, sym, ap, subst, ◌∙◌}
use Rattle.std.proofs.Common.{append_assoc, arith, inl, inr, ⊎_elim}
use Rattle.std.specs.Prelude.{◌||◌, ◌⊎◌, bytes_eq, nat_le}
use Rattle.std.specs.Cmp.Lexicographic.{slice_cmp}
use Rattle.std.specs.Ordering.{is_lt, ordering_then}
use Rattle.std.specs.declared.cmp.Ordering.{Ordering}
use Rattle.std.specs.declared.cmp.Ordering.TheVariants.{Less, Equal, Greater}
use Rattle.std.proofs.Math.Bool.{or-false}
use Rattle.std.proofs.lemmas.Bool.{and_from, and_parts, or_left, or_right}
use Rattle.std.proofs.lemmas.Bool.Decides.{nat_tests}
use Rattle.std.proofs.lemmas.List.{length-append}
use Rattle.doc_tree.specs.declared.tree.TheConstants.Tree.{MOST_CHILDREN}
use Rattle.doc_tree.specs.Lawful.{AreOrderly, IsLawful, IsOrdered}
use Rattle.doc_tree.specs.Tree.{DocTree, Kids, no_kids, kid, name_cmp, by_order, child}
use Rattle.doc_tree.specs.Tree.{count, height_below, IsAbove, IsRising}
use Rattle.doc_tree.specs.Words.{are_names, is_name, is_text}
use Rattle.doc_tree.proofs.Orderly.{ordered_child}
use Rattle.doc_tree.proofs.Rising.{above_later}
use Rattle.dump_text.specs.declared.grow.TheConstants.{MOST_NODES}
use Rattle.dump_text.specs.Laws.{has_words}
use Rattle.dump_text.specs.Listing.{Listed, listed, listed_below, root_of, under}
use Rattle.dump_text.specs.Order.{Path, comes_after, has_parent, is_child}
use Rattle.dump_text.specs.Order.{is_sibling, last_path, siblings}
use Rattle.dump_text.proofs.Edges.{after_none}
use Rattle.doc_tree.proofs.Joined.{above_child}
use Rattle.dump_text.proofs.Listings.{any-append, count-append, count-cons, count_listed}
use Rattle.dump_text.proofs.Listings.{last-append, parent_under, siblings_below, siblings_root}
use Rattle.dump_text.proofs.Listings.{siblings_under}
use Rattle.dump_text.proofs.Nexts.{below_ten, low_children, placed_as}
use Rattle.dump_text.proofs.Orders.{equal_is, greater_differs, less_differs, same_bytes}
use Rattle.dump_text.proofs.Orders.{same_equal}
use Rattle.dump_text.proofs.Texts.{AreLines, AreNext}

-- each path comes after the one before it
abbrev Rises : Path → List Listed → Type 0
Rises last [] = Unit {0}
Rises last (node ∷ nodes) = (comes_after last node.path ≡ true) × Rises node.path nodes

abbrev end_path : Path → List Listed → Path
end_path last [] = last
end_path last (node ∷ nodes) = end_path node.path nodes

rises-append : (last : Path) (l r : List Listed) → Rises last l → Rises (end_path last l) r
    → Rises last (l ++ r)
rises-append last [] r left right = right
rises-append last (node ∷ l) r left right = (left.0, rises-append node.path l r left.1 right)

after_under : (n : List ℕ) (last path : Path)
    → comes_after (n ∷ last) (n ∷ path) ≡ comes_after last path
after_under n last path =
    ap (λ o. is_lt (ordering_then o (slice_cmp name_cmp last path))) (same_equal n)

rises-under : (n : List ℕ) (last : Path) (nodes : List Listed) → Rises last nodes
    → Rises (n ∷ last) (map (under n) nodes)
rises-under n last [] all = tt
rises-under n last (node ∷ nodes) all =
    (after_under n last node.path ∙ all.0, rises-under n node.path nodes all.1)

end-under : (n : List ℕ) (last : Path) (nodes : List Listed)
    → end_path (n ∷ last) (map (under n) nodes) ≡ n ∷ end_path last nodes
end-under n last [] = refl
end-under n last (node ∷ nodes) = end-under n node.path nodes

abbrev IsBefore : Path → Kids → Type 0
IsBefore [] kids = Unit {0}
IsBefore (m ∷ last) kids = IsAbove m kids

first_after : (last : Path) (n text : List ℕ) (inside rest : Kids)
    → IsBefore last (kid n text inside rest) → comes_after last (n ∷ []) ≡ true
first_after [] n text inside rest before = refl
first_after (m ∷ last) n text inside rest before =
    ap (λ o. is_lt (ordering_then o (slice_cmp name_cmp last []))) before.0

rises_listed : (kids : Kids) (last : Path) → IsRising kids → AreOrderly kids → IsBefore last kids
    → Rises last (listed_below kids)
rises_listed no_kids last rising all before = tt
rises_listed (kid n text inside rest) last rising all before =
    let within = map (under n) (listed_below inside) in (
      first_after last n text inside rest before,
      rises-append (n ∷ []) within (listed_below rest)
          (rises-under n [] (listed_below inside)
          (rises_listed inside [] all.0.rising all.1.0 tt))
          (subst (λ (p : Path). Rises p (listed_below rest))
          (sym (end-under n [] (listed_below inside)))
          (rises_listed rest (n ∷ end_path [] (listed_below inside)) rising.1 all.1.1 rising.0)),
    )

-- each parent has a line before it
abbrev HaveParents : List Listed → List Listed → Type 0
HaveParents nodes [] = Unit {0}
HaveParents nodes (node ∷ more) =
    (has_parent nodes node.path ≡ true) × HaveParents (nodes ++ node ∷ []) more

or_cases : (x y : Bool) → (x || y) ≡ true → (x ≡ true) ⊎ (y ≡ true)
or_cases true y is = inl refl
or_cases false y is = inr is

parent_cases : (l r : List Listed) (path : Path) → has_parent (l ++ r) path ≡ true
    → (has_parent l path ≡ true) ⊎ (has_parent r path ≡ true)
parent_cases l r path is =
    or_cases (has_parent l path) (has_parent r path)
    (sym (any-append (λ node. is_child node.path path) l r) ∙ is)

parent_left : (l r : List Listed) (path : Path) → has_parent l path ≡ true
    → has_parent (l ++ r) path ≡ true
parent_left l r path is =
    any-append (λ node. is_child node.path path) l r
    ∙ or_left (has_parent l path) (has_parent r path) is

parent_right : (l r : List Listed) (path : Path) → has_parent r path ≡ true
    → has_parent (l ++ r) path ≡ true
parent_right l r path is =
    any-append (λ node. is_child node.path path) l r
    ∙ or_right (has_parent l path) (has_parent r path) is

parent_within : (n : List ℕ) (nodes : List Listed) (path : Path) → has_parent nodes path ≡ true
    → has_parent (map (under n) nodes) (n ∷ path) ≡ true
parent_within n nodes path is =
    parent_under n n path nodes
    ∙ and_from (bytes_eq n n) (has_parent nodes path) (same_bytes n) is

parents-under : (n : List ℕ) (nodes others more : List Listed)
    → ((path : Path) → has_parent nodes path ≡ true → has_parent others (n ∷ path) ≡ true)
    → HaveParents nodes more → HaveParents others (map (under n) more)
parents-under n nodes others [] known all = tt
parents-under n nodes others (node ∷ more) known all = (
  known node.path all.0,
  parents-under n (nodes ++ node ∷ []) (others ++ under n node ∷ []) more
      (λ path is. ⊎_elim
      (λ left. parent_left others (under n node ∷ []) (n ∷ path) (known path left))
      (λ right. parent_right others (under n node ∷ []) (n ∷ path)
      (parent_within n (node ∷ []) path right))
      (parent_cases nodes (node ∷ []) path is))
      all.1,
)

parents-more : (nodes others more : List Listed)
    → ((path : Path) → has_parent nodes path ≡ true → has_parent others path ≡ true)
    → HaveParents nodes more → HaveParents others more
parents-more nodes others [] known all = tt
parents-more nodes others (node ∷ more) known all = (
  known node.path all.0,
  parents-more (nodes ++ node ∷ []) (others ++ node ∷ []) more
      (λ path is. ⊎_elim
      (λ left. parent_left others (node ∷ []) path (known path left))
      (λ right. parent_right others (node ∷ []) path right)
      (parent_cases nodes (node ∷ []) path is))
      all.1,
)

parents-append : (nodes l r : List Listed) → HaveParents nodes l → HaveParents (nodes ++ l) r
    → HaveParents nodes (l ++ r)
parents-append nodes [] r left right =
    parents-more (nodes ++ []) nodes r
    (λ path is. ⊎_elim (λ there. there) (λ none. cc) (parent_cases nodes [] path is)) right
parents-append nodes (node ∷ l) r left right = (
  left.0,
  parents-append (nodes ++ node ∷ []) l r left.1
      (subst (λ (ns : List Listed). HaveParents ns r)
      (sym (append_assoc nodes (node ∷ []) l)) right),
)

root_parent : (text : List ℕ) (more : List Listed) (path : Path)
    → has_parent (root_of text ∷ []) path ≡ true → has_parent (root_of text ∷ more) path ≡ true
root_parent text more path is =
    or_left (is_child [] path) (has_parent more path)
    (sym (or-false (is_child [] path)) ∙ is)

parents_listed : (kids : Kids) (text : List ℕ)
    → HaveParents (root_of text ∷ []) (listed_below kids)
parents_listed no_kids text = tt
parents_listed (kid n other inside rest) text =
    let own = under n (root_of other) in
    let within = map (under n) (listed_below inside) in
    let before = root_of text ∷ own ∷ [] in (
      refl,
      parents-append before within (listed_below rest)
          (parents-under n (root_of other ∷ []) before (listed_below inside)
          (λ path is. or_right (is_child [] (n ∷ path)) (has_parent (own ∷ []) (n ∷ path))
          (parent_within n (root_of other ∷ []) path is))
          (parents_listed inside other))
          (parents-more (root_of text ∷ []) (before ++ within) (listed_below rest)
          (λ path is. root_parent text (own ∷ within) path is)
          (parents_listed rest text)),
    )

-- a parent has few children
siblings_none : (nodes : List Listed) → siblings nodes [] ≡ 0
siblings_none [] = refl
siblings_none (node ∷ nodes) =
    count-cons (λ x. is_sibling [] x.path) node nodes ∙ omega (arith, siblings_none nodes)

abbrev siblings_in : Option DocTree → Path → ℕ
siblings_in None path = 0
siblings_in (Some d) path = siblings (listed d) path

siblings_at : (o : Ordering) (n m k text : List ℕ) (inside rest : Kids) (path : Path)
    → name_cmp n m ≡ o → IsAbove m rest
    → siblings (listed_below rest) (n ∷ k ∷ path) ≡ siblings_in (child n rest) (k ∷ path)
    → siblings (listed_below (kid m text inside rest)) (n ∷ k ∷ path)
    ≡ siblings_in (by_order o None (Some (record { text = text; kids = inside })) (child n rest))
    (k ∷ path)
siblings_at o n m k text inside rest path is above later =
    let d : DocTree = record { text = text; kids = inside } in
    let inner = siblings (listed d) (k ∷ path) in
    let after = siblings (listed_below rest) (n ∷ k ∷ path) in
    let split : siblings (listed_below (kid m text inside rest)) (n ∷ k ∷ path)
    ≡ cond (bytes_eq n m) inner 0 + after =
    count-append (λ node. is_sibling (n ∷ k ∷ path) node.path) (map (under m) (listed d))
    (listed_below rest)
    ∙ ap (λ j. j + after) (siblings_under n m k path (listed d)) in
    elim o as (λ o. name_cmp n m ≡ o
    → siblings (listed_below (kid m text inside rest)) (n ∷ k ∷ path)
    ≡ siblings_in (by_order o None (Some d) (child n rest)) (k ∷ path)) [
      | Less ↦ λ e. (
          let none = later ∙ ap (λ (c : Option DocTree). siblings_in c (k ∷ path))
          (above_child n rest (above_later n m rest e above)) in
          split ∙ ap (λ b. cond b inner 0 + after) (less_differs n m e) ∙ omega (arith, none)
          )
      | Equal ↦ λ e. (
          let same = equal_is n m e in
          let none = later ∙ ap (λ (c : Option DocTree). siblings_in c (k ∷ path))
          (above_child n rest (subst (λ x. IsAbove x rest) (sym same) above)) in
          split ∙ ap (λ b. cond b inner 0 + after) (ap (bytes_eq n) (sym same) ∙ same_bytes n)
          ∙ omega (arith, none)
          )
      | Greater ↦ λ e.
          split ∙ ap (λ b. cond b inner 0 + after) (greater_differs n m e) ∙ omega (arith, later)
    ] is

siblings_of_kids : (n k : List ℕ) (path : Path) (kids : Kids) → IsRising kids
    → siblings (listed_below kids) (n ∷ k ∷ path) ≡ siblings_in (child n kids) (k ∷ path)
siblings_of_kids n k path no_kids rising = refl
siblings_of_kids n k path (kid m text inside rest) rising =
    siblings_at (name_cmp n m) n m k text inside rest path refl rising.0
    (siblings_of_kids n k path rest rising.1)

pub siblings_few : (path : Path) (t : DocTree) → IsOrdered t
    → siblings (listed t) path ≤ MOST_CHILDREN
siblings_few [] t ordered = omega (arith, siblings_none (listed t))
siblings_few (n ∷ []) t ordered =
    let few = ordered.here.few in
    omega (arith, few, siblings_below (n ∷ []) t.text (listed_below t.kids), siblings_root n t.kids)
siblings_few (n ∷ k ∷ path) t ordered =
    let number = siblings_below (n ∷ k ∷ path) t.text (listed_below t.kids)
    ∙ siblings_of_kids n k path t.kids ordered.here.rising in
    elim (child n t.kids) as (λ c. child n t.kids ≡ c
    → siblings (listed t) (n ∷ k ∷ path) ≡ siblings_in c (k ∷ path)
    → siblings (listed t) (n ∷ k ∷ path) ≤ MOST_CHILDREN) [
      | None ↦ λ e h. omega (arith, h)
      | Some d ↦ λ e h.
          omega (arith, h, siblings_few (k ∷ path) d (ordered_child n t.kids d ordered.below e))
    ] refl number

-- so each node may come next
self_sibling : (n : List ℕ) (path : Path) → is_sibling (n ∷ path) (n ∷ path) ≡ true
self_sibling n [] = refl
self_sibling n (k ∷ path) =
    and_from (bytes_eq n n) (is_sibling (k ∷ path) (k ∷ path)) (same_bytes n) (self_sibling k path)

own_sibling : (last path : Path) → comes_after last path ≡ true → is_sibling path path ≡ true
own_sibling last [] after = let no = sym (after_none last) ∙ after in cc
own_sibling last (n ∷ path) after = self_sibling n path

room_for : (nodes more : List Listed) (node : Listed) → is_sibling node.path node.path ≡ true
    → siblings (nodes ++ node ∷ more) node.path ≤ MOST_CHILDREN
    → siblings nodes node.path < MOST_CHILDREN
room_for nodes more node own few =
    let p : Listed → Bool = λ x. is_sibling node.path x.path in
    let one : ◌≡◌ {A = ℕ} (cond (is_sibling node.path node.path) 1 0) 1 =
    ap (λ b. cond {A = ℕ} b 1 0) own in
    omega (
      arith,
      few,
      one,
      count-append p nodes (node ∷ more),
      count-cons p node more,
    )

next_from : (more nodes whole : List Listed) (last : Path) → whole ≡ nodes ++ more
    → length whole ≤ MOST_NODES → ((path : Path) → siblings whole path ≤ MOST_CHILDREN)
    → last ≡ last_path nodes → Rises last more → HaveParents nodes more → AreNext nodes more
next_from [] nodes whole last is few all at rises parents = tt
next_from (node ∷ more) nodes whole last is few all at rises parents =
    let after = ap (λ (l : Path). comes_after l node.path) (sym at) ∙ rises.0 in
    let own = own_sibling last node.path rises.0 in
    let room = room_for nodes more node own
    (subst (λ (ns : List Listed). siblings ns node.path ≤ MOST_CHILDREN) is (all node.path)) in
    let short : length nodes < MOST_NODES =
    omega (arith, few, ap length is, length-append nodes (node ∷ more)) in (
      placed_as nodes node true false false
          (and_from (comes_after (last_path nodes) node.path) (has_parent nodes node.path) after
          parents.0)
          (low_children (siblings nodes node.path) room) (below_ten (length nodes) short),
      next_from more (nodes ++ node ∷ []) whole node.path
          (is ∙ sym (append_assoc nodes (node ∷ []) more)) few all
          (sym (last-append nodes node [])) rises.1 parents.1,
    )

pub next_of_tree : (t : DocTree) → IsLawful t → count t ≤ MOST_NODES
    → AreNext (root_of t.text ∷ []) (listed_below t.kids)
next_of_tree t lawful few =
    next_from (listed_below t.kids) (root_of t.text ∷ []) (listed t) [] refl
    (omega (arith, few, count_listed t)) (λ path. siblings_few path t lawful.nodes) refl
    (rises_listed t.kids [] lawful.nodes.here.rising lawful.nodes.below tt)
    (parents_listed t.kids t.text)

-- and is a line by itself
abbrev AreShort : ℕ → List Listed → Type 0
AreShort k [] = Unit {0}
AreShort k (node ∷ nodes) =
    (are_names node.path ≡ true) × (is_text node.text ≡ true) × (1 ≤ length node.path)
    × (length node.path ≤ k) × AreShort k nodes

short-append : (k : ℕ) (l r : List Listed) → AreShort k l → AreShort k r → AreShort k (l ++ r)
short-append k [] r left right = right
short-append k (node ∷ l) r left right =
    (left.0, left.1, left.2, left.3, short-append k l r left.4 right)

short_more : (j k : ℕ) (nodes : List Listed) → j ≤ k → AreShort j nodes → AreShort k nodes
short_more j k [] le all = tt
short_more j k (node ∷ nodes) le all =
    let short = all.3 in
    (all.0, all.1, all.2, omega (arith, short, le), short_more j k nodes le all.4)

short-under : (n : List ℕ) (k : ℕ) (nodes : List Listed) → is_name n ≡ true → AreShort k nodes
    → AreShort (k + 1) (map (under n) nodes)
short-under n k [] name all = tt
short-under n k (node ∷ nodes) name all =
    let short = all.3 in (
      and_from (is_name n) (are_names node.path) name all.0,
      all.1,
      omega arith,
      omega (arith, short),
      short-under n k nodes name all.4,
    )

short_listed : (kids : Kids) → has_words kids ≡ true
    → AreShort (height_below kids) (listed_below kids)
short_listed no_kids words = tt
short_listed (kid n text inside rest) words =
    let outer = and_parts (is_name n && is_text text && has_words inside) (has_words rest) words in
    let inner = and_parts (is_name n && is_text text) (has_words inside) outer.0 in
    let both = and_parts (is_name n) (is_text text) inner.0 in
    let high = max (height_below inside + 1) (height_below rest) in
    let within = short-under n (height_below inside) (listed_below inside) both.0
    (short_listed inside inner.1) in (
      and_from (is_name n) true both.0 refl,
      both.1,
      omega arith,
      omega arith,
      short-append high (map (under n) (listed_below inside)) (listed_below rest)
          (short_more (height_below inside + 1) high (map (under n) (listed_below inside))
          (omega arith) within)
          (short_more (height_below rest) high (listed_below rest) (omega arith)
          (short_listed rest outer.1)),
    )

at_least : (n : ℕ) → 1 ≤ n → nat_le 1 n ≡ true
at_least n h = grind (arith, nat_tests)

at_most : (n : ℕ) → n ≤ 8 → nat_le n 8 ≡ true
at_most n h = grind (arith, nat_tests)

lines_of_short : (nodes : List Listed) → AreShort 8 nodes → AreLines nodes
lines_of_short [] all = tt
lines_of_short (node ∷ nodes) all = (
  and_from (nat_le 1 (length node.path) && nat_le (length node.path) 8) (are_names node.path)
      (and_from (nat_le 1 (length node.path)) (nat_le (length node.path) 8)
      (at_least (length node.path) all.2) (at_most (length node.path) all.3)) all.0,
  all.1,
  lines_of_short nodes all.4,
)

pub lines_of_tree : (t : DocTree) → IsLawful t → has_words t.kids ≡ true
    → AreLines (listed_below t.kids)
lines_of_tree t lawful words =
    lines_of_short (listed_below t.kids)
    (short_more (height_below t.kids) 8 (listed_below t.kids) lawful.low
    (short_listed t.kids words))
