-- The entries of a node, one by one: what each is, and their names in order.
use Rattle.std.proofs.Common.{◌≡◌, ℕ, ◌+◌, ◌≤◌, List, [], ◌∷◌, ◌++◌, refl, ap, sym, ◌∙◌, arith}
use Rattle.std.proofs.Common.{append_assoc, Some, Result, Ok, Err, OnOk, subst}
use Rattle.std.proofs.lemmas.List.{append-nil}
use Rattle.std.proofs.lemmas.Bool.Decides.{nat_tests}
use Rattle.cell_words.specs.Term.{Term, null, num, five, part, IsFive}
use Rattle.std.specs.declared.cmp.Ordering.TheVariants.{Less, Equal, Greater}
use Rattle.doc_tree.specs.declared.tree.TheConstants.Tree.{MOST_CHILDREN}
use Rattle.doc_tree.specs.Tree.{kid, kid_count, names_of, name_cmp, child, IsRising}
use Rattle.doc_tree.proofs.Joined.{count_join, names_join}
use Rattle.kids_avl.specs.declared.bounds.TheConstants.{MOST_LEVELS}
use Rattle.kids_avl.specs.Entries.{kids_of, height_of, IsBalanced}
use Rattle.kids_avl.proofs.Heights.{at_most_levels, left_lower, right_lower}
use Rattle.kids_avl.proofs.Lists.{child_less, child_equal, child_greater}
use Rattle.kids_avl.proofs.Lists.{rising_before, rising_after}
use Rattle.trails.specs.Asks.{Ask, Shows}
use Rattle.trails.specs.Marks.{Mark}
use Rattle.trails.specs.Telling.{Due, Tells, Keeps}
use Rattle.trails.proofs.Telling.{tells_shows, keeps_begins, keeps_grown}
use Rattle.trails.proofs.Orders.{shows_on}
use Rattle.doc_records.specs.Shapes.{IsChain, cells_of, ask_text, ask_names}
use Rattle.doc_records.specs.Texts.{IsName, text_of, text_asks, name_asks}
use Rattle.doc_records.specs.Trees.{IsNode, IsTreeNode, AreEntries, entries_of, tree_of}
use Rattle.doc_records.proofs.Spelled.{chain_spelled, cells_spelled, ask_spelled, name_bytes}

pub entry_name : (t : Term) → IsFive t → AreEntries t → IsName (part 0 t)
entry_name null this is = absurd this
entry_name (num n) this is = absurd this
entry_name (five a b c d e) this is = is.name

pub entry_left : (t : Term) → IsFive t → AreEntries t → AreEntries (part 2 t)
entry_left null this is = absurd this
entry_left (num n) this is = absurd this
entry_left (five a b c d e) this is = is.left

pub entry_right : (t : Term) → IsFive t → AreEntries t → AreEntries (part 3 t)
entry_right null this is = absurd this
entry_right (num n) this is = absurd this
entry_right (five a b c d e) this is = is.right

pub entry_names : (t : Term) → IsFive t
    → names_of (kids_of (entries_of t))
    ≡ names_of (kids_of (entries_of (part 2 t)))
    ++ text_of (part 0 t) ∷ names_of (kids_of (entries_of (part 3 t)))
entry_names null this = absurd this
entry_names (num n) this = absurd this
entry_names (five a b c d e) this =
    names_join (kids_of (entries_of c)) (kid (text_of a) (tree_of b).text (tree_of b).kids
    (kids_of (entries_of d)))

pub entry_count : (t : Term) → IsFive t
    → kid_count (kids_of (entries_of t)) ≡ kid_count (kids_of (entries_of (part 2 t)))
    + 1 + kid_count (kids_of (entries_of (part 3 t)))
entry_count null this = absurd this
entry_count (num n) this = absurd this
entry_count (five a b c d e) this =
    omega (
      arith,
      count_join (kids_of (entries_of c)) (kid (text_of a) (tree_of b).text (tree_of b).kids
          (kids_of (entries_of d))),
    )

pub entry_asks : (t : Term) (rest : List Ask) → IsFive t
    → ask_names t rest
    ≡ ask_names (part 2 t) (ask_text (part 0 t) (ask_names (part 3 t) rest))
entry_asks null rest this = absurd this
entry_asks (num n) rest this = absurd this
entry_asks (five a b c d e) rest this = refl

pub ruleset entries = (entry_left, entry_right, entry_names, entry_count, entry_asks)

-- an entry that was read left to right: its names, and what was told of them
pub names_read : (t l u r : Term) (old first second new : List (List ℕ)) → IsFive t
    → l ≡ part 2 t → u ≡ part 0 t → r ≡ part 3 t
    → first ≡ old ++ names_of (kids_of (entries_of l)) → second ≡ first ++ text_of u ∷ []
    → new ≡ second ++ names_of (kids_of (entries_of r))
    → new ≡ old ++ names_of (kids_of (entries_of t))
names_read t l u r old first second new this left own right before here after =
    let names_left = names_of (kids_of (entries_of (part 2 t))) in
    let names_right = names_of (kids_of (entries_of (part 3 t))) in
    let name = text_of (part 0 t) in
    after
    ∙ rw (right, here, before, left, own)
    (append_assoc (old ++ names_left) (name ∷ []) names_right
    ∙ append_assoc old names_left (name ∷ names_right)
    ∙ ap (λ names. old ++ names) (sym (entry_names t this)))

pub entry_told : (t l u r : Term) (m0 m1 m2 m3 m4 m5 : List Mark) → IsFive t
    → l ≡ part 2 t → u ≡ part 0 t → r ≡ part 3 t
    → Tells (λ rest. rest) m0 m1 → Tells (ask_names l) m1 m2 → Tells (ask_text u) m2 m3
    → Tells (λ rest. rest) m3 m4 → Tells (ask_names r) m4 m5 → Tells (ask_names t) m0 m5
entry_told t l u r m0 m1 m2 m3 m4 m5 this left own right t1 t2 t3 t4 t5 all rest due =
    let asked : Due all (ask_names l (ask_text u (ask_names r rest))) m0 =
    rw (left, own, right) (rw (sym (entry_asks t rest this)) due) in
    t5 all rest (t4 all (ask_names r rest) (t3 all (ask_names r rest)
    (t2 all (ask_text u (ask_names r rest))
    (t1 all (ask_names l (ask_text u (ask_names r rest))) asked))))

-- a name
pub name_chain : (t : Term) → IsName t → IsChain t
name_chain t is = chain_spelled t (text_of t) is.spells

pub name_cells : (t : Term) → IsName t → cells_of t ≤ 4
name_cells t is = grind (arith, nat_tests, is.name, cells_spelled t (text_of t) is.spells)

-- the children of a node
pub node_entries : (t : Term) → IsNode t → AreEntries (part 1 t)
node_entries null is = absurd is
node_entries (num n) is = absurd is
node_entries (five a b c d e) is = is.entries

pub node_kids : (t : Term) → IsNode t → (tree_of t).kids ≡ kids_of (entries_of (part 1 t))
node_kids null is = refl
node_kids (num n) is = refl
node_kids (five a b c d e) is = refl

pub node_few : (t : Term) → IsTreeNode t → kid_count (kids_of (entries_of (part 1 t)))
    ≤ MOST_CHILDREN
node_few t is =
    omega (arith, is.lawful.nodes.here.few, ap kid_count (node_kids t is.node))

pub node_rising : (t : Term) → IsTreeNode t → IsRising (kids_of (entries_of (part 1 t)))
node_rising t is = subst IsRising (node_kids t is.node) is.lawful.nodes.here.rising

-- entries are a balanced tree, and so not high
pub balanced : (t : Term) → AreEntries t → IsBalanced (entries_of t)
balanced null is = tt
balanced (num n) is = absurd is
balanced (five a b c d e) is =
    (is.left_near, is.right_near, balanced c is.left, balanced d is.right)

pub node_high : (t : Term) → IsTreeNode t → height_of (entries_of (part 1 t)) ≤ MOST_LEVELS
node_high t is =
    at_most_levels (entries_of (part 1 t)) (balanced (part 1 t) (node_entries t is.node))
    (node_few t is)

-- the child of an entry, and of a name by its order against the entry's
pub entry_child : (t : Term) → IsFive t → AreEntries t → IsNode (part 1 t)
entry_child null this is = absurd this
entry_child (num n) this is = absurd this
entry_child (five a b c d e) this is = is.child

pub no_child : (t : Term) → null ≡ t → IsNode t → ⊥
no_child t is node = subst IsNode (sym is) node

pub num_child : (n : ℕ) (t : Term) → num n ≡ t → IsNode t → ⊥
num_child n t is node = subst IsNode (sym is) node

pub find_less : (m : List ℕ) (t : Term) → IsFive t → IsRising (kids_of (entries_of t))
    → name_cmp m (text_of (part 0 t)) ≡ Less
    → child m (kids_of (entries_of t)) ≡ child m (kids_of (entries_of (part 2 t)))
find_less m null this rising less = absurd this
find_less m (num n) this rising less = absurd this
find_less m (five a b c d e) this rising less =
    child_less m (entries_of (five a b c d e)) rising less

pub find_equal : (m : List ℕ) (t : Term) → IsFive t → IsRising (kids_of (entries_of t))
    → name_cmp m (text_of (part 0 t)) ≡ Equal
    → child m (kids_of (entries_of t)) ≡ Some (tree_of (part 1 t))
find_equal m null this rising equal = absurd this
find_equal m (num n) this rising equal = absurd this
find_equal m (five a b c d e) this rising equal =
    child_equal m (entries_of (five a b c d e)) tt rising equal

pub find_greater : (m : List ℕ) (t : Term) → IsFive t → IsRising (kids_of (entries_of t))
    → name_cmp m (text_of (part 0 t)) ≡ Greater
    → child m (kids_of (entries_of t)) ≡ child m (kids_of (entries_of (part 3 t)))
find_greater m null this rising greater = absurd this
find_greater m (num n) this rising greater = absurd this
find_greater m (five a b c d e) this rising greater =
    child_greater m (entries_of (five a b c d e)) rising greater

pub rising_on_left : (t : Term) → IsFive t → IsRising (kids_of (entries_of t))
    → IsRising (kids_of (entries_of (part 2 t)))
rising_on_left null this rising = absurd this
rising_on_left (num n) this rising = absurd this
rising_on_left (five a b c d e) this rising = rising_before (entries_of (five a b c d e)) rising

pub rising_on_right : (t : Term) → IsFive t → IsRising (kids_of (entries_of t))
    → IsRising (kids_of (entries_of (part 3 t)))
rising_on_right null this rising = absurd this
rising_on_right (num n) this rising = absurd this
rising_on_right (five a b c d e) this rising = rising_after (entries_of (five a b c d e)) rising

pub left_low : (t : Term) → IsFive t
    → height_of (entries_of (part 2 t)) + 1 ≤ height_of (entries_of t)
left_low null this = absurd this
left_low (num n) this = absurd this
left_low (five a b c d e) this = left_lower (entries_of (five a b c d e)) tt

pub right_low : (t : Term) → IsFive t
    → height_of (entries_of (part 3 t)) + 1 ≤ height_of (entries_of t)
right_low null this = absurd this
right_low (num n) this = absurd this
right_low (five a b c d e) this = right_lower (entries_of (five a b c d e)) tt

-- the names that are told are those of the children
asks_join : (xs ys : List (List ℕ)) → name_asks (xs ++ ys) ≡ name_asks xs ++ name_asks ys
asks_join [] ys = refl
asks_join (x ∷ xs) ys =
    ap (λ more. text_asks x ++ more) (asks_join xs ys)
    ∙ sym (append_assoc (text_asks x) (name_asks xs) (name_asks ys))

names_told : (t : Term) (rest : List Ask) → AreEntries t
    → ask_names t rest ≡ name_asks (names_of (kids_of (entries_of t))) ++ rest
names_told null rest is = refl
names_told (num n) rest is = absurd is
names_told (five a b c d e) rest is =
    let before = names_of (kids_of (entries_of c)) in
    let after = names_of (kids_of (entries_of d)) in
    let own =
    ask_spelled a (text_of a) (name_asks after ++ rest) is.name.spells
    (name_bytes (text_of a) is.name.name) in
    names_told c (ask_text a (ask_names d rest)) is.left
    ∙ ap (λ asks. name_asks before ++ ask_text a asks) (names_told d rest is.right)
    ∙ ap (λ asks. name_asks before ++ asks) own
    ∙ ap (λ asks. name_asks before ++ asks)
    (sym (append_assoc (text_asks (text_of a)) (name_asks after) rest))
    ∙ sym (append_assoc (name_asks before) (text_asks (text_of a) ++ name_asks after) rest)
    ∙ ap (λ asks. asks ++ rest) (sym (asks_join before (text_of a ∷ after)))
    ∙ ap (λ names. name_asks names ++ rest) (sym (entry_names (five a b c d e) tt))

row_shown : (t : Term) (a b c : List Mark) → AreEntries t → Tells (ask_names t) a b → Keeps a b
    → Keeps b c → Shows (name_asks (names_of (kids_of (entries_of t)))) a c
row_shown t a b c is told first second =
    let same =
    names_told t [] is ∙ append-nil (name_asks (names_of (kids_of (entries_of t)))) in
    shows_on (subst (λ asks. Shows asks a b) same (tells_shows told (keeps_begins first)))
    (keeps_grown second)

pub names_shown : {T E : Type 0} (r : Result T E) (P : Type 0) (t : Term) (a b c : List Mark)
    → IsNode t → OnOk r (P → Tells (ask_names (part 1 t)) a b) → Keeps a b → Keeps b c
    → OnOk r (P → Shows (name_asks (names_of (tree_of t).kids)) a c)
names_shown (Ok x) P t a b c is told first second =
    λ p. subst (λ kids. Shows (name_asks (names_of kids)) a c) (sym (node_kids t is))
    (row_shown (part 1 t) a b c (node_entries t is) (told p) first second)
names_shown (Err e) P t a b c is told first second = tt

pub ruleset finding = (
  find_less,
  find_equal,
  find_greater,
  rising_on_left,
  rising_on_right,
  left_low,
  right_low,
)
