-- What a node line adds after the lines of a tree.
use Rattle.std.proofs.Common.{◌≡◌, ℕ, ◌+◌, ◌<◌, ◌≤◌, Bool, true, false, not, ◌&&◌, cond, List}
use Rattle.std.proofs.Common.{[], ◌∷◌, ◌++◌, length, Option, Some, Result, Ok, Err, refl, sym}
use Rattle.std.proofs.Common.{ap, subst, ◌∙◌, arith}
use Rattle.std.specs.Prelude.{nat_le, nat_lt}
use Rattle.std.proofs.lemmas.Bool.Decides.{nat_tests}
use Rattle.std.proofs.lemmas.List.{length-append}
use Rattle.doc_tree.specs.declared.tree.TheConstants.Tree.{MOST_CHILDREN}
use Rattle.doc_tree.specs.declared.edit.EditFault.{EditFault}
use Rattle.doc_tree.specs.declared.edit.EditFault.TheVariants as fault
use Rattle.doc_tree.specs.Edits.{Gives, edit_along, edited, set_text, with_text, within_limits}
use Rattle.doc_tree.specs.Lawful.{IsLawful}
use Rattle.doc_tree.specs.Tree.{DocTree, count, height}
use Rattle.dump_text.specs.declared.grow.TheConstants.{MOST_NODES}
use Rattle.dump_text.specs.Answers.{Gives as GivesLine, Grows, IsGrown, Turns, refused}
use Rattle.dump_text.specs.Contents.{placed, turn_of}
use Rattle.dump_text.specs.Line.{line_of}
use Rattle.dump_text.specs.declared.fault.LineError.{LineError}
use Rattle.dump_text.specs.declared.fault.LineError.TheVariants as line
use Rattle.dump_text.specs.declared.line.Held.{Held}
use Rattle.dump_text.specs.Listing.{Listed, listed}
use Rattle.dump_text.specs.Order.{Path, comes_after, follows, has_parent, is_next, last_path}
use Rattle.dump_text.specs.Order.{siblings}
use Rattle.dump_text.specs.declared.fault.LoadKind.{LoadKind}
use Rattle.dump_text.specs.declared.fault.LoadKind.TheVariants.{Big, Many, NoOrder}
use Rattle.dump_text.proofs.Edges.{follows_is, last_listed}
use Rattle.dump_text.proofs.Growth.{Growing, grew, full, grow}
use Rattle.dump_text.proofs.Listings.{count_listed, last-append}

-- the three tests of a node
abbrev pub placed_by : Bool → Bool → Bool → List Listed → Listed
    → Result (Option (List Listed)) LoadKind
placed_by next many big nodes node =
    cond (not next) (Err NoOrder)
    (cond many (Err Many) (cond big (Err Big) (Ok (Some (nodes ++ node ∷ [])))))

pub placed_as : (nodes : List Listed) (node : Listed) (next many big : Bool)
    → follows nodes node.path ≡ next → nat_le MOST_CHILDREN (siblings nodes node.path) ≡ many
    → nat_le MOST_NODES (length nodes) ≡ big
    → placed nodes node ≡ placed_by next many big nodes node
placed_as nodes node next many big first second third =
    ap (λ b. placed_by b (nat_le MOST_CHILDREN (siblings nodes node.path))
    (nat_le MOST_NODES (length nodes))
    nodes node) first
    ∙ ap (λ b. placed_by next b (nat_le MOST_NODES (length nodes)) nodes node) second
    ∙ ap (λ b. placed_by next many b nodes node) third

pub next_is : (last path : Path) (t : DocTree) → IsGrown last t
    → follows (listed t) path ≡ is_next last path
next_is last path t grown =
    let way = last_listed t.text t.kids in
    ap (λ (l : Path). comes_after l path && has_parent (listed t) path) way
    ∙ follows_is path t.text t.kids grown.lawful.nodes.here.rising grown.lawful.nodes.below
    ∙ ap (λ (l : Path). is_next l path) (sym way ∙ sym grown.last)

pub no_order : (last path : Path) (text : List ℕ) (t : DocTree) → IsGrown last t
    → is_next last path ≡ false
    → placed (listed t) (record { path = path; text = text }) ≡ Err NoOrder
no_order last path text t grown not_next =
    placed_as (listed t) (record { path = path; text = text }) false
    (nat_le MOST_CHILDREN (siblings (listed t) path)) (nat_le MOST_NODES (length (listed t)))
    (next_is last path t grown ∙ not_next) refl refl

growing : (last path : Path) (text : List ℕ) (t : DocTree) → IsGrown last t
    → is_next last path ≡ true → Growing t path text
growing last path text t grown next =
    grow path text t.text t.kids grown.lawful.nodes
    (ap (λ (l : Path). is_next l path) (sym (last_listed t.text t.kids) ∙ sym grown.last) ∙ next)

pub low_ten : (n : ℕ) → nat_le MOST_NODES n ≡ false → n < MOST_NODES
low_ten n h = grind (arith, nat_tests)

high_ten : (n : ℕ) → MOST_NODES ≤ n → nat_le MOST_NODES n ≡ true
high_ten n h = grind (arith, nat_tests)

pub low_children : (n : ℕ) → n < MOST_CHILDREN → nat_le MOST_CHILDREN n ≡ false
low_children n h = grind (arith, nat_tests)

high_children : (n : ℕ) → MOST_CHILDREN ≤ n → nat_le MOST_CHILDREN n ≡ true
high_children n h = grind (arith, nat_tests)

pub below_ten : (n : ℕ) → n < MOST_NODES → nat_le MOST_NODES n ≡ false
below_ten n h = grind (arith, nat_tests)

many_is : (last path : Path) (text : List ℕ) (t : DocTree) → IsGrown last t
    → is_next last path ≡ true → MOST_CHILDREN ≤ siblings (listed t) path
    → placed (listed t) (record { path = path; text = text }) ≡ Err Many
many_is last path text t grown next more =
    placed_as (listed t) (record { path = path; text = text }) true true
    (nat_le MOST_NODES (length (listed t))) (next_is last path t grown ∙ next)
    (high_children (siblings (listed t) path) more) refl

-- the limits on a whole tree that is far from them
within : (u : DocTree) (r : Result DocTree EditFault) → count u ≤ 10_001 → within_limits u ≡ r
    → (r ≡ Err fault.Deep → ⊥) → r ≡ Ok u
within u r few is low =
    elim (nat_lt 8 (height u)) as (λ b.
    cond b (Err fault.Deep) (cond (nat_lt 1_000_000_000 (count u)) (Err fault.Big) (Ok u)) ≡ r
    → r ≡ Ok u) [
      | true ↦ λ h. absurd (low (sym h))
      | false ↦ λ h. (
          let small : nat_lt 1_000_000_000 (count u) ≡ false = grind (arith, nat_tests) in
          sym h ∙ ap (λ b. cond b (Err fault.Big) (Ok u)) small
          )
    ] is

few_more : (t u : DocTree) (node : Listed) → listed u ≡ listed t ++ node ∷ []
    → count u ≡ count t + 1
few_more t u node is =
    omega (
      arith,
      count_listed t,
      count_listed u,
      ap length is,
      length-append (listed t) (node ∷ []),
    )

made_of : (path : Path) (text : List ℕ) (t u : DocTree)
    → edit_along (with_text text) path t ≡ Ok u → set_text path text t ≡ within_limits u
made_of path text t u made = ap (edited within_limits) made

-- no other refusal can come than that of a full parent
not_given : (e : EditFault) (u : DocTree) → Gives (Err e) (Ok u) → (e ≡ fault.NoMemory → ⊥) → ⊥
not_given fault.Absent u is other = cc
not_given fault.Many u is other = cc
not_given fault.Deep u is other = cc
not_given fault.Big u is other = cc
not_given fault.NoMemory u is other = other refl

not_deep : (e : EditFault) (r : Result DocTree EditFault) → Gives (Err e) r
    → (e ≡ fault.NoMemory → ⊥) → (e ≡ fault.Deep → ⊥) → r ≡ Err fault.Deep → ⊥
not_deep fault.Absent r is other low h = cc
not_deep fault.Many r is other low h = cc
not_deep fault.Deep r is other low h = low refl
not_deep fault.Big r is other low h = cc
not_deep fault.NoMemory r is other low h = other refl

refused_many : (e : EditFault) (last path : Path) (text : List ℕ) (t : DocTree) → IsGrown last t
    → is_next last path ≡ true → Gives (Err e) (set_text path text t)
    → (e ≡ fault.NoMemory → ⊥) → (e ≡ fault.Deep → ⊥)
    → placed (listed t) (record { path = path; text = text }) ≡ Err Many
refused_many e last path text t grown next is other low =
    elim (growing last path text t grown next) [
      | full made more ↦ many_is last path text t grown next more
      | grew u made list room ↦ (
          let few = grown.few in
          let all : set_text path text t ≡ Ok u =
          within u (set_text path text t)
          (omega (arith, few, few_more t u (record { path = path; text = text }) list))
          (sym (made_of path text t u made)) (not_deep e (set_text path text t) is other low) in
          absurd (not_given e u (subst (Gives (Err e)) all is) other)
          )
    ]

pub refused_as : (e : EditFault) (last path : Path) (text : List ℕ) (t : DocTree) → IsGrown last t
    → is_next last path ≡ true → Gives (Err e) (set_text path text t)
    → (◌≡◌ {A = Result DocTree EditFault} (Err e) (Err fault.Deep) → ⊥)
    → Grows path (Err (refused e)) (placed (listed t) (record { path = path; text = text }))
refused_as fault.Absent last path text t grown next is low =
    refused_many fault.Absent last path text t grown next is (λ h. cc) (λ h. cc)
refused_as fault.Many last path text t grown next is low =
    refused_many fault.Many last path text t grown next is (λ h. cc) (λ h. cc)
refused_as fault.Deep last path text t grown next is low = absurd (low refl)
refused_as fault.Big last path text t grown next is low =
    refused_many fault.Big last path text t grown next is (λ h. cc) (λ h. cc)
refused_as fault.NoMemory last path text t grown next is low = tt

-- where the tree was made
within_ok : (u g : DocTree) → within_limits u ≡ Ok g → u ≡ g
within_ok u g is =
    elim (nat_lt 8 (height u)) as (λ b.
    cond b (Err fault.Deep) (cond (nat_lt 1_000_000_000 (count u)) (Err fault.Big) (Ok u)) ≡ Ok g
    → u ≡ g) [
      | true ↦ λ h. cc
      | false ↦ λ h.
          elim (nat_lt 1_000_000_000 (count u))
          as (λ b. cond b (Err fault.Big) (Ok u) ≡ Ok g → u ≡ g)
          [ true ↦ λ h. cc | false ↦ λ h. cc ] h
    ] is

pub big_is : (last path : Path) (text : List ℕ) (t g : DocTree) → IsGrown last t
    → is_next last path ≡ true → set_text path text t ≡ Ok g → MOST_NODES ≤ count t
    → placed (listed t) (record { path = path; text = text }) ≡ Err Big
big_is last path text t g grown next is large =
    elim (growing last path text t grown next) [
      | full made more ↦ (
          let none : Err fault.Many ≡ Ok g = sym (ap (edited within_limits) made) ∙ is in
          cc
          )
      | grew u made list room ↦
          placed_as (listed t) (record { path = path; text = text }) true false true
          (next_is last path t grown ∙ next) (low_children (siblings (listed t) path) room)
          (high_ten (length (listed t)) (omega (arith, large, count_listed t)))
    ]

abbrev IsMore : Path → List ℕ → DocTree → DocTree → Type 0
IsMore path text t g =
    (placed (listed t) (record { path = path; text = text }) ≡ Ok (Some (listed g)))
    × (count g ≤ MOST_NODES) × (path ≡ last_path (listed g))

more_is : (last path : Path) (text : List ℕ) (t g : DocTree) → IsGrown last t
    → is_next last path ≡ true → siblings (listed t) path < MOST_CHILDREN → count t < MOST_NODES
    → listed g ≡ listed t ++ record { path = path; text = text } ∷ [] → IsMore path text t g
more_is last path text t g grown next room few list =
    let node : Listed = record { path = path; text = text } in (
      placed_as (listed t) node true false false (next_is last path t grown ∙ next)
          (low_children (siblings (listed t) path) room)
          (below_ten (length (listed t)) (omega (arith, few, count_listed t)))
          ∙ ap (λ (ns : List Listed). Ok (Some ns)) (sym list),
      omega (arith, few, few_more t g node list),
      sym (ap last_path list ∙ last-append (listed t) node []),
    )

pub grows : (last path : Path) (text : List ℕ) (t g : DocTree) → IsGrown last t
    → is_next last path ≡ true → set_text path text t ≡ Ok g → count t < MOST_NODES → IsLawful g
    → (placed (listed t) (record { path = path; text = text }) ≡ Ok (Some (listed g)))
    × IsGrown path g
grows last path text t g grown next is few lawful =
    elim (growing last path text t grown next) [
      | full made more ↦ (
          let none : Err fault.Many ≡ Ok g = sym (ap (edited within_limits) made) ∙ is in
          cc
          )
      | grew u made list room ↦ (
          let same = within_ok u g (sym (made_of path text t u made) ∙ is) in
          let more = more_is last path text t g grown next room few (ap listed (sym same) ∙ list) in
          (more.0, record { lawful = lawful; few = more.1; last = more.2 })
          )
    ]

-- a line after as many node lines as the tree has nodes
pub turned : (t : DocTree) (nodes : ℕ) (has_feed : Bool) (bytes : List ℕ)
    (reading : Result Held LoadKind) → nodes ≡ count t → line_of nodes has_feed bytes ≡ reading
    → turn_of (listed t) (line_of (length (listed t)) has_feed bytes) ≡ turn_of (listed t) reading
turned t nodes has_feed bytes reading number is =
    ap (λ n. turn_of (listed t) (line_of n has_feed bytes)) (count_listed t ∙ sym number)
    ∙ ap (turn_of (listed t)) is

pub faulty_turn : (error : LineError) (t : DocTree) (nodes : ℕ) (has_feed : Bool)
    (bytes : List ℕ) → nodes ≡ count t
    → GivesLine {A = Held} (Err error) (line_of nodes has_feed bytes)
    → Turns (Err error) (turn_of (listed t) (line_of (length (listed t)) has_feed bytes))
faulty_turn (line.Kind kind) t nodes has_feed bytes number is =
    turned t nodes has_feed bytes (Err kind) number is
faulty_turn line.NoMemory t nodes has_feed bytes number is = tt

pub faulty_node : (error : LineError) (path : Path)
    (first second : Result (Option (List Listed)) LoadKind)
    → first ≡ second → Grows path (Err error) second → Turns (Err error) first
faulty_node (line.Kind kind) path first second same is = same ∙ is
faulty_node line.NoMemory path first second same is = tt
