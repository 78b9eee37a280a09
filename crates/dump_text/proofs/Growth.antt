-- A tree with one node more at its right edge.
use Rattle.std.proofs.Common.{◌≡◌, ℕ, ◌<◌, ◌≤◌, Bool, true, false, cond, List, [], ◌∷◌, ◌++◌}
use Rattle.std.proofs.Common.{map, None, Ok, Err, refl, sym, ap, subst, ◌∙◌}
use Rattle.std.proofs.Common.{append-nil, append_assoc, arith}
use Rattle.std.specs.Prelude.{nat_lt}
use Rattle.std.specs.declared.cmp.Ordering.TheVariants.{Less, Equal, Greater}
use Rattle.std.proofs.lemmas.Bool.Decides.{nat_tests}
use Rattle.std.proofs.lemmas.List.{map-append}
use Rattle.doc_tree.specs.declared.tree.TheConstants.Tree.{MOST_CHILDREN}
use Rattle.doc_tree.specs.declared.edit.EditFault.TheVariants as fault
use Rattle.doc_tree.specs.Edits.{begun, edit_along, edited, placed, start, with_child, with_text}
use Rattle.doc_tree.specs.Lawful.{IsOrdered}
use Rattle.doc_tree.specs.Rows.{join, IsBelow}
use Rattle.doc_tree.specs.Tree.{DocTree, Kids, no_kids, kid, empty, kid_count, name_cmp, by_order}
use Rattle.doc_tree.specs.Tree.{put_child}
use Rattle.doc_tree.proofs.Joined.{put_past}
use Rattle.doc_tree.proofs.Rising.{less_turned}
use Rattle.dump_text.specs.Listing.{Listed, listed, listed_below, root_of, under}
use Rattle.dump_text.specs.Order.{Path, is_empty, is_next, is_sibling, siblings}
use Rattle.dump_text.proofs.Edges.{bare, edge, edge_of, last_way, last_way-join}
use Rattle.dump_text.proofs.Edges.{below_child, below_join, below_more, last_child, ordered_last}
use Rattle.dump_text.proofs.Listings.{count-append, listed_join, siblings_below, siblings_root}
use Rattle.dump_text.proofs.Listings.{siblings_under}
use Rattle.dump_text.proofs.Orders.{equal_is, greater_differs, same_bytes, same_equal}

abbrev node_at : Path → List ℕ → Listed
node_at path text = record { path = path; text = text }

-- the edit makes the tree with one more line, or its parent is full
pub data Growing (t : DocTree) (path : Path) (text : List ℕ) : Type 0 where
  grew : (u : DocTree) → edit_along (with_text text) path t ≡ Ok u
      → listed u ≡ listed t ++ record { path = path; text = text } ∷ []
      → siblings (listed t) path < MOST_CHILDREN → Growing t path text
  full : edit_along (with_text text) path t ≡ Err fault.Many
      → MOST_CHILDREN ≤ siblings (listed t) path
      → Growing t path text

-- next to the last child
put_below : (n : List ℕ) (d : DocTree) (kids : Kids) → IsBelow n kids
    → put_child n d kids ≡ join kids (kid n d.text d.kids no_kids)
put_below n d no_kids below = refl
put_below n d (kid m text inside rest) below =
    rw below.0 (ap (kid m text inside) (put_below n d rest below.1))

listed_beside : (n text root : List ℕ) (kids : Kids) → IsBelow n kids
    → listed (with_child n (record { text = text; kids = no_kids })
    (record { text = root; kids = kids }))
    ≡ listed (record { text = root; kids = kids }) ++ node_at (n ∷ []) text ∷ []
listed_beside n text root kids below =
    ap (λ (ks : Kids). root_of root ∷ listed_below ks)
    (put_below n (record { text = text; kids = no_kids }) kids below)
    ∙ ap (λ (ns : List Listed). root_of root ∷ ns)
    (listed_join kids (kid n text no_kids no_kids))

pub grow_beside : (n text root : List ℕ) (kids : Kids) → IsBelow n kids
    → Growing (record { text = root; kids = kids }) (n ∷ []) text
grow_beside n text root kids below =
    let t : DocTree = record { text = root; kids = kids } in
    let one : DocTree = record { text = text; kids = no_kids } in
    let begins : start n t ≡ begun kids None = ap (begun kids) (below_child n kids below) in
    let made = ap (λ r. placed n t (edited (edit_along (with_text text) []) r)) begins in
    let number : siblings (listed t) (n ∷ []) ≡ kid_count kids =
    siblings_below (n ∷ []) root (listed_below kids) ∙ siblings_root n kids in
    elim (nat_lt (kid_count kids) MOST_CHILDREN) as (λ b. nat_lt (kid_count kids) MOST_CHILDREN ≡ b
    → edit_along (with_text text) (n ∷ []) t
    ≡ placed n t (edited (edit_along (with_text text) []) (cond b (Ok empty) (Err fault.Many)))
    → Growing t (n ∷ []) text) [
      | true ↦ λ room is. (
          let less : kid_count kids < MOST_CHILDREN = grind (arith, nat_tests) in
          grew (with_child n one t) is (listed_beside n text root kids below)
          (omega (arith, less, number))
          )
      | false ↦ λ room is. (
          let more : MOST_CHILDREN ≤ kid_count kids = grind (arith, nat_tests) in
          full is (omega (arith, more, number))
          )
    ] refl made

-- inside the last child
siblings_front : (n k : List ℕ) (path : Path) (front : Kids) → IsBelow n front
    → siblings (listed_below front) (n ∷ k ∷ path) ≡ 0
siblings_front n k path no_kids below = refl
siblings_front n k path (kid m text inside rest) below =
    let here = siblings_under n m k path (root_of text ∷ listed_below inside) in
    let none : siblings (map (under m) (root_of text ∷ listed_below inside)) (n ∷ k ∷ path) ≡ 0 =
    here ∙ ap (λ b. cond b (siblings (root_of text ∷ listed_below inside) (k ∷ path)) 0)
    (greater_differs n m below.0) in
    omega (
      arith,
      count-append (λ node. is_sibling (n ∷ k ∷ path) node.path)
          (map (under m) (root_of text ∷ listed_below inside)) (listed_below rest),
      none,
      siblings_front n k path rest below.1,
    )

siblings_inside : (n k root text : List ℕ) (path : Path) (front inside : Kids) → IsBelow n front
    → siblings (listed (record { text = root; kids = join front (kid n text inside no_kids) }))
    (n ∷ k ∷ path) ≡ siblings (listed (record { text = text; kids = inside })) (k ∷ path)
siblings_inside n k root text path front inside below =
    let last = root_of text ∷ listed_below inside in
    let p : Listed → Bool = λ node. is_sibling (n ∷ k ∷ path) node.path in
    let here : siblings (map (under n) last) (n ∷ k ∷ path) ≡ siblings last (k ∷ path) =
    siblings_under n n k path last
    ∙ ap (λ b. cond b (siblings last (k ∷ path)) 0) (same_bytes n) in
    let whole = ap (λ (ns : List Listed). siblings ns (n ∷ k ∷ path))
    (listed_join front (kid n text inside no_kids)
    ∙ ap (λ (ns : List Listed). listed_below front ++ ns) (append-nil (map (under n) last))) in
    siblings_below (n ∷ k ∷ path) root (listed_below (join front (kid n text inside no_kids)))
    ∙ whole
    ∙ omega (
      arith,
      count-append p (listed_below front) (map (under n) last),
      siblings_front n k path front below,
      here,
    )

listed_last : (n root : List ℕ) (front : Kids) (d : DocTree)
    → listed (record { text = root; kids = join front (kid n d.text d.kids no_kids) })
    ≡ (root_of root ∷ listed_below front) ++ map (under n) (listed d)
listed_last n root front d =
    ap (λ (ns : List Listed). root_of root ∷ ns)
    (listed_join front (kid n d.text d.kids no_kids)
    ∙ ap (λ (ns : List Listed). listed_below front ++ ns)
    (append-nil (map (under n) (listed d))))

put_last : (n : List ℕ) (d : DocTree) (text : List ℕ) (inside : Kids)
    → put_child n d (kid n text inside no_kids) ≡ kid n d.text d.kids no_kids
put_last n d text inside = rw (same_equal n) refl

listed_inside : (n root text new : List ℕ) (path : Path) (front inside : Kids) (u : DocTree)
    → IsBelow n front
    → listed u ≡ listed (record { text = text; kids = inside }) ++ node_at path new ∷ []
    → listed
    (with_child n u (record { text = root; kids = join front (kid n text inside no_kids) }))
    ≡ listed (record { text = root; kids = join front (kid n text inside no_kids) })
    ++ node_at (n ∷ path) new ∷ []
listed_inside n root text new path front inside u below is =
    let before = root_of root ∷ listed_below front in
    let d : DocTree = record { text = text; kids = inside } in
    ap (λ (ks : Kids). root_of root ∷ listed_below ks)
    (put_past n u front (kid n text inside no_kids) below
    ∙ ap (join front) (put_last n u text inside))
    ∙ listed_last n root front u
    ∙ ap (λ (ns : List Listed). before ++ map (under n) ns) is
    ∙ ap (λ (ns : List Listed). before ++ ns)
    (map-append (under n) (listed d) (node_at path new ∷ []))
    ∙ sym (append_assoc before (map (under n) (listed d)) (node_at (n ∷ path) new ∷ []))
    ∙ ap (λ (ns : List Listed). ns ++ node_at (n ∷ path) new ∷ [])
    (sym (listed_last n root front d))

grow_inside : (n k text root other : List ℕ) (path : Path) (front inside : Kids)
    → IsBelow n front → Growing (record { text = other; kids = inside }) (k ∷ path) text
    → Growing (record { text = root; kids = join front (kid n other inside no_kids) })
    (n ∷ k ∷ path) text
grow_inside n k text root other path front inside below within =
    let kids = join front (kid n other inside no_kids) in
    let t : DocTree = record { text = root; kids = kids } in
    let d : DocTree = record { text = other; kids = inside } in
    let edit = edit_along (with_text text) (k ∷ path) in
    let begins : start n t ≡ Ok d = ap (begun kids) (last_child front n other inside below) in
    let made : edit_along (with_text text) (n ∷ k ∷ path) t ≡ placed n t (edit d) =
    ap (λ r. placed n t (edited edit r)) begins in
    let number = siblings_inside n k root other path front inside below in
    elim within [
      | grew u is list room ↦
          grew (with_child n u t) (made ∙ ap (placed n t) is)
          (listed_inside n root other text (k ∷ path) front inside u below list)
          (omega (arith, room, number))
      | full is more ↦ full (made ∙ ap (placed n t) is) (omega (arith, more, number))
    ]

empty_path : (path : Path) → is_empty path ≡ true → path ≡ []
empty_path [] is = refl
empty_path (n ∷ path) is = cc

pub grow : (path : Path) (text root : List ℕ) (kids : Kids)
    → IsOrdered (record { text = root; kids = kids }) → is_next (last_way kids) path ≡ true
    → Growing (record { text = root; kids = kids }) path text
grow [] text root kids ordered next = cc
grow (n ∷ []) text root kids ordered next =
    elim (edge_of kids ordered.here.rising) [
      | bare is ↦ grow_beside n text root kids (subst (IsBelow n) (sym is) tt)
      | edge front m other inside is below ↦ (
          let way = ap last_way is ∙ last_way-join front m other inside in
          let next_there : is_next (m ∷ last_way inside) (n ∷ []) ≡ true =
          ap (λ (w : Path). is_next w (n ∷ [])) (sym way) ∙ next in
          elim (name_cmp m n) as (λ o. name_cmp m n ≡ o
          → by_order o true false false ≡ true
          → Growing (record { text = root; kids = kids }) (n ∷ []) text) [
            | Less ↦ λ e h.
                grow_beside n text root kids (subst (IsBelow n) (sym is)
                (below_join n front m other inside (below_more m n front e below)
                (less_turned m n e)))
            | Equal ↦ λ e h. cc
            | Greater ↦ λ e h. cc
          ] refl next_there
          )
    ]
grow (n ∷ k ∷ path) text root kids ordered next =
    elim (edge_of kids ordered.here.rising) [
      | bare is ↦ (
          let none : false ≡ true =
          ap (λ (w : Path). is_next w (n ∷ k ∷ path)) (ap last_way (sym is))
          ∙ next in
          cc
          )
      | edge front m other inside is below ↦ (
          let way = ap last_way is ∙ last_way-join front m other inside in
          let next_there : is_next (m ∷ last_way inside) (n ∷ k ∷ path) ≡ true =
          ap (λ (w : Path). is_next w (n ∷ k ∷ path)) (sym way) ∙ next in
          elim (name_cmp m n) as (λ o. name_cmp m n ≡ o
          → by_order o false (is_next (last_way inside) (k ∷ path)) false ≡ true
          → Growing (record { text = root; kids = kids }) (n ∷ k ∷ path) text) [
            | Less ↦ λ e h. cc
            | Equal ↦ λ e h. (
                let same = equal_is m n e in
                let inner = ordered_last kids front m other inside ordered.below is in
                let there = subst (λ x. kids ≡ join front (kid x other inside no_kids)) same is in
                subst (λ ks. Growing (record { text = root; kids = ks }) (n ∷ k ∷ path) text)
                (sym there)
                (grow_inside n k text root other path front inside
                (subst (λ x. IsBelow x front) same below)
                (grow (k ∷ path) text other inside inner h))
                )
            | Greater ↦ λ e h. cc
          ] refl next_there
          )
    ]
