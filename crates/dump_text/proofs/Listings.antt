-- The nodes of a tree in the order of their lines, along rows of children and below one child.
use Rattle.std.proofs.Common.{◌≡◌, ℕ, ◌+◌, Bool, true, false, ◌&&◌, cond, List, [], ◌∷◌, ◌++◌, map}
use Rattle.std.proofs.Common.{length, refl, sym, ap, ◌∙◌, append_assoc, arith}
use Rattle.std.specs.Prelude.{◌||◌, count_by, bytes_eq}
use Rattle.std.specs.List.{list_any}
use Rattle.std.proofs.lemmas.List.{length-append}
use Rattle.std.proofs.lemmas.List.Sums.{sum_by-append, sum_by-cons}
use Rattle.doc_tree.specs.Rows.{join}
use Rattle.doc_tree.specs.Tree.{DocTree, Kids, no_kids, kid, kid_count, count, nodes_below}
use Rattle.dump_text.specs.Listing.{Listed, listed, listed_below, root_of, under}
use Rattle.dump_text.specs.Order.{Path, has_parent, is_child, is_empty, is_sibling, last_path}
use Rattle.dump_text.specs.Order.{siblings}

pub listed_join : (l r : Kids) → listed_below (join l r) ≡ listed_below l ++ listed_below r
listed_join no_kids r = refl
listed_join (kid name text inside rest) r =
    ap (λ (ns : List Listed). map (under name) (root_of text ∷ listed_below inside) ++ ns)
    (listed_join rest r)
    ∙ sym (append_assoc (map (under name) (root_of text ∷ listed_below inside))
    (listed_below rest) (listed_below r))

pub length-under : (n : List ℕ) (nodes : List Listed) → length (map (under n) nodes) ≡ length nodes
length-under n [] = refl
length-under n (node ∷ nodes) = omega (arith, length-under n nodes)

pub length-listed : (kids : Kids) → length (listed_below kids) ≡ nodes_below kids
length-listed no_kids = refl
length-listed (kid name text inside rest) =
    omega (
      arith,
      length-append (map (under name) (root_of text ∷ listed_below inside)) (listed_below rest),
      length-under name (root_of text ∷ listed_below inside),
      length-listed inside,
      length-listed rest,
    )

pub count_listed : (t : DocTree) → length (listed t) ≡ count t
count_listed t = omega (arith, length-listed t.kids)

-- the last node
pub last-append : (nodes : List Listed) (node : Listed) (later : List Listed)
    → last_path (nodes ++ node ∷ later) ≡ last_path (node ∷ later)
last-append [] node later = refl
last-append (a ∷ []) node later = refl
last-append (a ∷ b ∷ nodes) node later = last-append (b ∷ nodes) node later

pub last-under : (n : List ℕ) (node : Listed) (nodes : List Listed)
    → last_path (map (under n) (node ∷ nodes)) ≡ n ∷ last_path (node ∷ nodes)
last-under n node [] = refl
last-under n node (next ∷ nodes) = last-under n next nodes

-- how many nodes pass a test
pub count-cons : (p : Listed → Bool) (node : Listed) (nodes : List Listed)
    → count_by p (node ∷ nodes) ≡ cond (p node) 1 0 + count_by p nodes
count-cons p node nodes = sum_by-cons (λ x. cond (p x) 1 0) node nodes

pub count-append : (p : Listed → Bool) (l r : List Listed)
    → count_by p (l ++ r) ≡ count_by p l + count_by p r
count-append p l r = sum_by-append (λ x. cond (p x) 1 0) l r

pub count-under : (n : List ℕ) (p : Listed → Bool) (nodes : List Listed)
    → count_by p (map (under n) nodes) ≡ count_by (λ node. p (under n node)) nodes
count-under n p [] = refl
count-under n p (node ∷ nodes) =
    count-cons p (under n node) (map (under n) nodes)
    ∙ ap (λ k. cond (p (under n node)) 1 0 + k) (count-under n p nodes)
    ∙ sym (count-cons (λ node. p (under n node)) node nodes)

-- no node below another has an empty path
none_is_empty : (n : List ℕ) (nodes : List Listed)
    → count_by (λ node. is_empty node.path) (map (under n) nodes) ≡ 0
none_is_empty n [] = refl
none_is_empty n (node ∷ nodes) =
    omega (
      arith,
      count-cons (λ node. is_empty node.path) (under n node) (map (under n) nodes),
      none_is_empty n nodes,
    )

pub empties : (kids : Kids) → count_by (λ node. is_empty node.path) (listed_below kids) ≡ 0
empties no_kids = refl
empties (kid name text inside rest) =
    omega (
      arith,
      count-append (λ node. is_empty node.path)
          (map (under name) (root_of text ∷ listed_below inside)) (listed_below rest),
      none_is_empty name (root_of text ∷ listed_below inside),
      empties rest,
    )

-- the children of the root have the path of one name as a sibling
siblings_one : (n name text : List ℕ) (inside : Kids)
    → count_by (λ node. is_sibling (n ∷ []) node.path)
    (map (under name) (root_of text ∷ listed_below inside)) ≡ 1
siblings_one n name text inside =
    count-under name (λ node. is_sibling (n ∷ []) node.path) (root_of text ∷ listed_below inside)
    ∙ count-cons (λ node. is_empty node.path) (root_of text) (listed_below inside)
    ∙ omega (arith, empties inside)

pub siblings_root : (n : List ℕ) (kids : Kids)
    → count_by (λ node. is_sibling (n ∷ []) node.path) (listed_below kids) ≡ kid_count kids
siblings_root n no_kids = refl
siblings_root n (kid name text inside rest) =
    omega (
      arith,
      count-append (λ node. is_sibling (n ∷ []) node.path)
          (map (under name) (root_of text ∷ listed_below inside)) (listed_below rest),
      siblings_one n name text inside,
      siblings_root n rest,
    )

-- with one name before each path
siblings_where : (b : Bool) (path : Path) (nodes : List Listed)
    → count_by (λ node. b && is_sibling path node.path) nodes
    ≡ cond b (siblings nodes path) 0
siblings_where true path nodes = refl
siblings_where false path [] = refl
siblings_where false path (node ∷ nodes) =
    count-cons (λ node. false && is_sibling path node.path) node nodes
    ∙ omega (arith, siblings_where false path nodes)

pub siblings_under : (n m k : List ℕ) (path : Path) (nodes : List Listed)
    → siblings (map (under m) nodes) (n ∷ k ∷ path)
    ≡ cond (bytes_eq n m) (siblings nodes (k ∷ path)) 0
siblings_under n m k path nodes =
    count-under m (λ node. is_sibling (n ∷ k ∷ path) node.path) nodes
    ∙ siblings_where (bytes_eq n m) (k ∷ path) nodes

-- the root is no sibling
pub siblings_below : (path : Path) (text : List ℕ) (nodes : List Listed)
    → siblings (root_of text ∷ nodes) path ≡ siblings nodes path
siblings_below [] text nodes =
    count-cons (λ node. is_sibling [] node.path) (root_of text) nodes ∙ omega arith
siblings_below (n ∷ path) text nodes =
    count-cons (λ node. is_sibling (n ∷ path) node.path) (root_of text) nodes ∙ omega arith

-- whether a node passes a test
pub any-append : (p : Listed → Bool) (l r : List Listed)
    → list_any p (l ++ r) ≡ (list_any p l || list_any p r)
any-append p [] r = refl
any-append p (node ∷ l) r =
    elim (p node) as (λ b. (b || list_any p (l ++ r)) ≡ ((b || list_any p l) || list_any p r))
    [ true ↦ refl | false ↦ any-append p l r ]

pub any-under : (n : List ℕ) (p : Listed → Bool) (nodes : List Listed)
    → list_any p (map (under n) nodes) ≡ list_any (λ node. p (under n node)) nodes
any-under n p [] = refl
any-under n p (node ∷ nodes) = ap (λ b. p (under n node) || b) (any-under n p nodes)

parent_where : (b : Bool) (path : Path) (nodes : List Listed)
    → list_any (λ node. b && is_child node.path path) nodes ≡ (b && has_parent nodes path)
parent_where true path nodes = refl
parent_where false path [] = refl
parent_where false path (node ∷ nodes) = parent_where false path nodes

pub parent_under : (m n : List ℕ) (path : Path) (nodes : List Listed)
    → has_parent (map (under m) nodes) (n ∷ path) ≡ (bytes_eq m n && has_parent nodes path)
parent_under m n path nodes =
    any-under m (λ node. is_child node.path (n ∷ path)) nodes
    ∙ parent_where (bytes_eq m n) path nodes
