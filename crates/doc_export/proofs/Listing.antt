-- The node lines by what stands before a name are those of the format, and those of a node's
-- children come one after the other.
use Rattle.std.proofs.Common.{◌≡◌, ℕ, List, [], ◌∷◌, ◌++◌, refl, sym, ◌∙◌, ap}
use Rattle.std.proofs.Common.{Option, Some, None}
use Rattle.std.proofs.lemmas.List.{append-nil, append_assoc}
use Rattle.std.specs.declared.cmp.Ordering.{Ordering}
use Rattle.doc_tree.specs.Tree.{DocTree, IsAbove, IsRising, Kids, by_order, child, count, kid}
use Rattle.doc_tree.specs.Tree.{names_of, no_kids}
use Rattle.doc_tree.proofs.Rising.{less_turned}
use Rattle.dump_text.specs.Dump.{dump_of, end_line, head_line, lines_below, path_text}
use Rattle.dump_text.specs.Dump.{node_line}
use Rattle.dump_text.proofs.Orders.{same_equal}
use Rattle.doc_export.specs.Lines.{before_of, child_lines, line_of, lines_from, lines_of}
use Rattle.doc_export.specs.Lines.{path_behind, tree_lines, with_slash}

-- By names.

-- the names after the first child's are looked for after it
behind_first : (before m text : List ℕ) (inside rest kids : Kids) → IsAbove m kids
    → lines_of before (kid m text inside rest) (names_of kids)
    ≡ lines_of before rest (names_of kids)
behind_first before m text inside rest no_kids above = refl
behind_first before m text inside rest (kid n other below more) above =
    let first : child n (kid m text inside rest) ≡ child n rest =
    ap (λ (o : Ordering). by_order o None (Some (record { text = text; kids = inside }))
    (child n rest)) (less_turned m n above.0) in
    ap (λ (o : Option DocTree). child_lines (path_behind before n) o
    ++ lines_of before (kid m text inside rest) (names_of more)) first
    ∙ ap (λ (ls : List ℕ). child_lines (path_behind before n) (child n rest) ++ ls)
    (behind_first before m text inside rest more above.1)

pub all_names : (before : List ℕ) (kids : Kids) → IsRising kids
    → lines_of before kids (names_of kids) ≡ lines_from before kids
all_names before no_kids rising = refl
all_names before (kid m text inside rest) rising =
    let path = path_behind before m in
    let here : child m (kid m text inside rest) ≡ Some (record { text = text; kids = inside }) =
    ap (λ (o : Ordering). by_order o None (Some (record { text = text; kids = inside }))
    (child m rest)) (same_equal m) in
    ap (λ (o : Option DocTree). child_lines path o
    ++ lines_of before (kid m text inside rest) (names_of rest)) here
    ∙ ap (λ (ls : List ℕ). child_lines path (Some (record { text = text; kids = inside })) ++ ls)
    (behind_first before m text inside rest rest rising.0 ∙ all_names before rest rising.1)
    ∙ append_assoc (line_of path text) (lines_from (with_slash path) inside)
    (lines_from before rest)

-- By paths.

path_joined : (path : List (List ℕ)) (name : List ℕ)
    → path_text (path ++ name ∷ []) ≡ before_of path ++ name
path_joined [] name = refl
path_joined (n ∷ []) name =
    sym (append_assoc n (47 ∷ []) name)
    ∙ ap (λ (ls : List ℕ). ls ++ name) (sym (append-nil (with_slash n)))
path_joined (n ∷ k ∷ path) name =
    ap (λ (ls : List ℕ). n ++ 47 ∷ ls) (path_joined (k ∷ path) name)
    ∙ sym (append_assoc n (47 ∷ []) (before_of (k ∷ path) ++ name))
    ∙ sym (append_assoc (with_slash n) (before_of (k ∷ path)) name)

before_joined : (path : List (List ℕ)) (name : List ℕ)
    → before_of (path ++ name ∷ []) ≡ with_slash (before_of path ++ name)
before_joined [] name = append-nil (with_slash name)
before_joined (n ∷ path) name =
    ap (λ (ls : List ℕ). with_slash n ++ ls) (before_joined path name)
    ∙ sym (append_assoc (with_slash n) (before_of path ++ name) (47 ∷ []))
    ∙ ap with_slash (sym (append_assoc (with_slash n) (before_of path) name))

as_below : (path : List (List ℕ)) (kids : Kids)
    → lines_from (before_of path) kids ≡ lines_below path kids
as_below path no_kids = refl
as_below path (kid name text inside rest) =
    let line : line_of (before_of path ++ name) text ≡ node_line (path ++ name ∷ []) text =
    ap (λ (p : List ℕ). line_of p text) (sym (path_joined path name)) in
    let below : lines_from (with_slash (before_of path ++ name)) inside
    ≡ lines_below (path ++ name ∷ []) inside =
    ap (λ (p : List ℕ). lines_from p inside) (sym (before_joined path name))
    ∙ as_below (path ++ name ∷ []) inside in
    ap (λ (ls : List ℕ). ls ++ (lines_from (with_slash (before_of path ++ name)) inside
    ++ lines_from (before_of path) rest)) line
    ∙ ap (λ (ls : List ℕ). node_line (path ++ name ∷ []) text
    ++ (ls ++ lines_from (before_of path) rest)) below
    ∙ ap (λ (ls : List ℕ). node_line (path ++ name ∷ []) text
    ++ (lines_below (path ++ name ∷ []) inside ++ ls)) (as_below path rest)

-- the dump in its parts
pub whole_dump : (v : ℕ) (t : DocTree)
    → (head_line v ++ tree_lines (46 ∷ []) [] t) ++ end_line (count t) ≡ dump_of v t
whole_dump v t =
    append_assoc (head_line v) (tree_lines (46 ∷ []) [] t) (end_line (count t))
    ∙ ap (λ (ls : List ℕ). head_line v ++ ls)
    (append_assoc (line_of (46 ∷ []) t.text) (lines_from [] t.kids) (end_line (count t))
    ∙ ap (λ (ls : List ℕ). line_of (46 ∷ []) t.text ++ (ls ++ end_line (count t)))
    (as_below [] t.kids))

-- One more child.

pub one_more : (out new before name : List ℕ) (kids : Kids) (names : List (List ℕ))
    (all : List ℕ) → out ++ lines_of before kids (name ∷ names) ≡ all
    → new ≡ out ++ child_lines (path_behind before name) (child name kids)
    → new ++ lines_of before kids names ≡ all
one_more out new before name kids names all so_far is =
    ap (λ (ls : List ℕ). ls ++ lines_of before kids names) is
    ∙ append_assoc out (child_lines (path_behind before name) (child name kids))
    (lines_of before kids names)
    ∙ so_far
