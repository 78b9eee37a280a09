-- A tree is determined by its nodes in the order of their lines.
use Rattle.std.proofs.Common.{◌≡◌, ℕ, List, [], ◌∷◌, ◌++◌, map, refl, sym, ap, ◌∙◌, append-nil}
use Rattle.doc_tree.specs.Tree.{DocTree, Kids, no_kids, kid}
use Rattle.dump_text.specs.Listing.{Listed, listed, listed_below, root_of, under}
use Rattle.dump_text.specs.Order.{Path}

-- the nodes that are deeper than children, each without its first name, up to the next child
abbrev fore_by : Path → List ℕ → List Listed → List Listed
fore_by [] text later = []
fore_by (n ∷ []) text later = []
fore_by (n ∷ k ∷ path) text later = record { path = k ∷ path; text = text } ∷ later

abbrev fore : List Listed → List Listed
fore [] = []
fore (node ∷ nodes) = fore_by node.path node.text (fore nodes)

-- and those from that child on
abbrev aft_by : Path → List Listed → List Listed → List Listed
aft_by [] here later = here
aft_by (n ∷ []) here later = here
aft_by (n ∷ k ∷ path) here later = later

abbrev aft : List Listed → List Listed
aft [] = []
aft (node ∷ nodes) = aft_by node.path (node ∷ nodes) (aft nodes)

-- no path is empty
abbrev AreDeep : List Listed → Type 0
AreDeep [] = Unit {0}
AreDeep (node ∷ nodes) = (node.path ≡ [] → ⊥) × AreDeep nodes

deep-append : (l r : List Listed) → AreDeep l → AreDeep r → AreDeep (l ++ r)
deep-append [] r left right = right
deep-append (node ∷ l) r left right = (left.0, deep-append l r left.1 right)

deep-under : (n : List ℕ) (nodes : List Listed) → AreDeep (map (under n) nodes)
deep-under n [] = tt
deep-under n (node ∷ nodes) = ((λ h. cc), deep-under n nodes)

deep_listed : (kids : Kids) → AreDeep (listed_below kids)
deep_listed no_kids = tt
deep_listed (kid n text inside rest) =
    deep-append (map (under n) (root_of text ∷ listed_below inside)) (listed_below rest)
    (deep-under n (root_of text ∷ listed_below inside)) (deep_listed rest)

fore_one : (path : Path) (n text : List ℕ) (later : List Listed) → (path ≡ [] → ⊥)
    → fore_by (n ∷ path) text later ≡ record { path = path; text = text } ∷ later
fore_one [] n text later deep = absurd (deep refl)
fore_one (k ∷ path) n text later deep = refl

aft_one : (path : Path) (n : List ℕ) (here later : List Listed) → (path ≡ [] → ⊥)
    → aft_by (n ∷ path) here later ≡ later
aft_one [] n here later deep = absurd (deep refl)
aft_one (k ∷ path) n here later deep = refl

fore_within : (n : List ℕ) (nodes more : List Listed) → AreDeep nodes
    → fore (map (under n) nodes ++ more) ≡ nodes ++ fore more
fore_within n [] more deep = refl
fore_within n (node ∷ nodes) more deep =
    fore_one node.path n node.text (fore (map (under n) nodes ++ more)) deep.0
    ∙ ap (λ (ns : List Listed). node ∷ ns) (fore_within n nodes more deep.1)

aft_within : (n : List ℕ) (nodes more : List Listed) → AreDeep nodes
    → aft (map (under n) nodes ++ more) ≡ aft more
aft_within n [] more deep = refl
aft_within n (node ∷ nodes) more deep =
    aft_one node.path n (under n node ∷ (map (under n) nodes ++ more))
    (aft (map (under n) nodes ++ more)) deep.0
    ∙ aft_within n nodes more deep.1

fore_none : (kids : Kids) → fore (listed_below kids) ≡ []
fore_none no_kids = refl
fore_none (kid n text inside rest) = refl

aft_all : (kids : Kids) → aft (listed_below kids) ≡ listed_below kids
aft_all no_kids = refl
aft_all (kid n text inside rest) = refl

fore_kids : (n : List ℕ) (inside rest : Kids)
    → fore (map (under n) (listed_below inside) ++ listed_below rest) ≡ listed_below inside
fore_kids n inside rest =
    fore_within n (listed_below inside) (listed_below rest) (deep_listed inside)
    ∙ ap (λ (ns : List Listed). listed_below inside ++ ns) (fore_none rest)
    ∙ append-nil (listed_below inside)

aft_kids : (n : List ℕ) (inside rest : Kids)
    → aft (map (under n) (listed_below inside) ++ listed_below rest) ≡ listed_below rest
aft_kids n inside rest =
    aft_within n (listed_below inside) (listed_below rest) (deep_listed inside) ∙ aft_all rest

-- the first node, and the others
abbrev first_of : List Listed → Listed
first_of [] = root_of []
first_of (node ∷ nodes) = node

abbrev others_of : List Listed → List Listed
others_of [] = []
others_of (node ∷ nodes) = nodes

abbrev name_in : Path → List ℕ
name_in [] = []
name_in (n ∷ path) = n

kids_same : (a b : Kids) → listed_below a ≡ listed_below b → a ≡ b
kids_same no_kids no_kids is = refl
kids_same no_kids (kid n text inside rest) is = cc
kids_same (kid n text inside rest) no_kids is = cc
kids_same (kid n text inside rest) (kid m other within later) is =
    let name : n ≡ m = ap (λ (ns : List Listed). name_in (first_of ns).path) is in
    let same : text ≡ other = ap (λ (ns : List Listed). (first_of ns).text) is in
    let tail = ap others_of is in
    let in_both = kids_same inside within
    (sym (fore_kids n inside rest) ∙ ap fore tail ∙ fore_kids m within later) in
    let behind = kids_same rest later
    (sym (aft_kids n inside rest) ∙ ap aft tail ∙ aft_kids m within later) in
    cc

pub trees_same : (t u : DocTree) → listed t ≡ listed u → t ≡ u
trees_same t u is =
    let text : t.text ≡ u.text = ap (λ (ns : List Listed). (first_of ns).text) is in
    let kids : t.kids ≡ u.kids = kids_same t.kids u.kids (ap others_of is) in
    ap (λ x. record { text = x; kids = t.kids }) text
    ∙ ap (λ (k : Kids). record { text = u.text; kids = k }) kids
