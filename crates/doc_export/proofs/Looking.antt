-- How often a mutator looked: once for each answer, and as often as a tree has nodes over its walk.
use Rattle.std.proofs.Common.{◌≡◌, ◌≤◌, ◌+◌, ℕ, Bool, List, [], ◌∷◌, ◌++◌, refl, ◌∙◌, ap}
use Rattle.std.proofs.Common.{arith}
use Rattle.std.proofs.Common.{Option, Some, None, Result, Ok, Err}
use Rattle.std.specs.Prelude.{OnOk}
use Rattle.std.specs.declared.cmp.Ordering.{Ordering}
use Rattle.core_machine.specs.Own.{no_own, own_after}
use Rattle.core_machine.specs.Trail.{own_along}
use Rattle.core_machine.specs.declared.events.Taken.{Taken}
use Rattle.doc_tree.specs.Tree.{DocTree, IsAbove, IsRising, Kids, by_order, child, count, kid}
use Rattle.doc_tree.specs.Tree.{names_of, no_kids, nodes_below}
use Rattle.doc_tree.proofs.Rising.{less_turned}
use Rattle.mutator_seat.specs.Bound.{Bound}
use Rattle.mutator_seat.specs.Stretches.{Calm, LookAndAnswer}
use Rattle.trails.specs.Asks.{Grown}
use Rattle.trails.specs.Claims.{look_of}
use Rattle.trails.specs.Marks.{Mark, looked, marks_from, marks_of, saw, tried}
use Rattle.trails.specs.Marks.{wrote}
use Rattle.trails.proofs.Marks.{marks_append}
use Rattle.dump_text.proofs.Orders.{same_equal}
use Rattle.version_rule.specs.Pass.{Pass}
use Rattle.version_store.specs.Lasts.{marks}
use Rattle.held_places.proofs.Going.{calm_trail}
use Rattle.doc_export.specs.Looks.{child_nodes, looks, nodes_of}
use Rattle.doc_export.specs.Still.{Stays}

-- Trails.

looks_append : (a b : List Mark) → looks (a ++ b) ≡ looks a + looks b
looks_append [] b = omega arith
looks_append (saw cell field found ∷ a) b = looks_append a b
looks_append (wrote cell field old new found ∷ a) b = looks_append a b
looks_append (looked control ∷ a) b = let rest = looks_append a b in omega (arith, rest)
looks_append (tried cell colour ∷ a) b = looks_append a b

pub looks_grown : (a b : List Mark) → Grown a b → looks a ≤ looks b
looks_grown a b grown =
    let is = ap looks grown.is ∙ looks_append a grown.added in omega (arith, is)

-- what a mutator that keeps its places looked before
pub looks_kept : {places : ℕ} (a b : Bound Pass) → Stays places a b
    → looks (marks a) ≤ looks (marks b)
looks_kept a b keeps = looks_grown (marks a) (marks b) keeps.grown

-- a call that answers a handshake looks for it
pub looks_once : (answered : Bool) (a b : Bound Pass)
    → Calm (LookAndAnswer a.seat.me.number a.seat.me.presence.status answered) a b
    → looks (marks a) + 1 ≤ looks (marks b)
looks_once answered a b calm =
    let F = LookAndAnswer a.seat.me.number a.seat.me.presence.status answered in
    let own = own_along no_own a.seat.me.trail in
    let shown : marks b ≡ marks a ++ marks_from own calm.added =
    ap marks_of (calm_trail F a b calm) ∙ marks_append no_own a.seat.me.trail calm.added in
    let control = calm.fact.control in
    let look = look_of a.seat.me.number control in
    let first : looks (marks_from own calm.added)
    ≡ looks (marks_from (own_after own look.event look.found) calm.fact.rest) + 1 =
    ap (λ (ts : List Taken). looks (marks_from own ts)) calm.fact.split in
    let both = ap looks shown ∙ looks_append (marks a) (marks_from own calm.added) in
    omega (arith, both, first)

-- Nodes.

behind_first : (m text : List ℕ) (inside rest kids : Kids) → IsAbove m kids
    → nodes_of (kid m text inside rest) (names_of kids) ≡ nodes_of rest (names_of kids)
behind_first m text inside rest no_kids above = refl
behind_first m text inside rest (kid n other below more) above =
    let first : child n (kid m text inside rest) ≡ child n rest =
    ap (λ (o : Ordering). by_order o None (Some (record { text = text; kids = inside }))
    (child n rest)) (less_turned m n above.0) in
    ap (λ (o : Option DocTree). child_nodes o
    + nodes_of (kid m text inside rest) (names_of more)) first
    ∙ ap (λ (k : ℕ). child_nodes (child n rest) + k)
    (behind_first m text inside rest more above.1)

all_nodes : (kids : Kids) → IsRising kids → nodes_of kids (names_of kids) ≡ nodes_below kids
all_nodes no_kids rising = refl
all_nodes (kid m text inside rest) rising =
    let here : child m (kid m text inside rest) ≡ Some (record { text = text; kids = inside }) =
    ap (λ (o : Ordering). by_order o None (Some (record { text = text; kids = inside }))
    (child m rest)) (same_equal m) in
    ap (λ (o : Option DocTree). child_nodes o
    + nodes_of (kid m text inside rest) (names_of rest)) here
    ∙ ap (λ (k : ℕ). (nodes_below inside + 1) + k)
    (behind_first m text inside rest rest rising.0 ∙ all_nodes rest rising.1)

-- before the first child
pub first_looks : (t : DocTree) (items : List (List ℕ)) (before here there : ℕ)
    → items ≡ names_of t.kids → IsRising t.kids → before + 1 ≤ here → here ≤ there
    → before + count t ≤ there + nodes_of t.kids items
first_looks t items before here there names rising one more =
    let all = ap (nodes_of t.kids) names ∙ all_nodes t.kids rising in omega (arith, all, one, more)

-- after one more
pub next_looks : (t : DocTree) (name : List ℕ) (names : List (List ℕ)) (o : Option DocTree)
    (before here there : ℕ) → before + count t ≤ here + nodes_of t.kids (name ∷ names)
    → child name t.kids ≡ o → here + child_nodes o ≤ there
    → before + count t ≤ there + nodes_of t.kids names
next_looks t name names o before here there so_far found more =
    let same = ap child_nodes found in omega (arith, so_far, same, more)

-- Answers.

pub on_ok : {T E : Type 0} (r : Result T E) (P : Type 0) → P → OnOk r P
on_ok (Ok x) P holds = holds
on_ok (Err e) P holds = tt

pub ok_then : {T E : Type 0} (r : Result T E) (P Q : Type 0) → (P → Q) → OnOk r P → OnOk r Q
ok_then (Ok x) P Q next holds = next holds
ok_then (Err e) P Q next holds = tt
