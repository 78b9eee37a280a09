-- What a pool's calls leave is what they leave of the mutator and the private heap.
use Rattle.std.proofs.Common.{◌≡◌, ◌<◌, ◌≤◌, ◌+◌, ◌-◌, ◌++◌, ℕ, suc, List, [], ◌∷◌, length}
use Rattle.std.proofs.Common.{refl, sym, ◌∙◌, ap, subst, arith}
use Rattle.std.proofs.Common.{Option, Some, None, true}
use Rattle.std.proofs.lemmas.List.{append-nil, length-append, length-map}
use Rattle.std.specs.Option.{ForSome}
use Rattle.client_trees.specs.declared.at.NodeAt.{NodeAt}
use Rattle.client_trees.specs.declared.at.NodeAt.TheVariants as at
use Rattle.client_trees.specs.Records.{Around, BeginWith, HasCell, HasRecords, IsAround}
use Rattle.client_trees.specs.Records.{IsKnownAs, around_of, is_shared, outside_of}
use Rattle.client_trees.specs.Records.{shown_by, stands_on}
use Rattle.client_trees.specs.Leaves.{Leaves, LeavesAll, IsLast}
use Rattle.client_trees.specs.Nodes.{IsTreeAt, tree_at}
use Rattle.core_machine.specs.declared.places.Held.{Held}
use Rattle.core_machine.specs.Places.{cell_at}
use Rattle.doc_records.specs.Pool.{Later, places_found}
use Rattle.doc_records.specs.Trees.{IsTreeNode, tree_of}
use Rattle.heap_rule.specs.Asks.{known_of}
use Rattle.heap_rule.specs.Lore.{cells_in}
use Rattle.minor_heap.specs.declared.fields.MinorField.{MinorField}
use Rattle.minor_heap.specs.Nursery.{Nursery}
use Rattle.mutator_seat.specs.Bound.{Bound}
use Rattle.trails.proofs.Telling.{keeps_grown}

record HasBehind (cells more : List ℕ) : Type 0 where
  added : List ℕ
  is : more ≡ cells ++ added

-- a list that has the cells of another place by place is that list with some after it
cells_behind : (xs ys : List Held)
    → ((place : ℕ) → place < length xs → cell_at ys place ≡ cell_at xs place)
    → length xs ≤ length ys → HasBehind (cells_in xs) (cells_in ys)
cells_behind [] ys same more = record { added = cells_in ys; is = refl }
cells_behind (x ∷ xs) [] same more = absurd (omega (arith, more))
cells_behind (x ∷ xs) (y ∷ ys) same more =
    let rest = cells_behind xs ys (λ place lt. same (suc place) (omega (arith, lt)))
    (omega (arith, more)) in
    let first : y.cell ≡ x.cell = same 0 (omega arith) in
    record {
      added = rest.added;
      is = ap (λ (c : ℕ). c ∷ cells_in ys) first ∙ ap (λ (cs : List ℕ). x.cell ∷ cs) rest.is;
    }

module _ {P : Type 0} (m n : Bound P) (old new : Nursery) (names others : ℕ × ℕ)
    (later : Later (shown_by m old names) (shown_by n new others)) where
  around : around_of n.seat.me new (outside_of n others)
      ≡ around_of m.seat.me old (outside_of m names)
  around = later.says (IsAround (around_of m.seat.me old (outside_of m names))) 0 refl (omega arith)

  -- both are those that were lent
  pub same_mutator : others.0 ≡ names.0
  same_mutator = ap (λ (a : Around P). a.outside.names.0) around

  pub same_minor : others.1 ≡ names.1
  same_minor = ap (λ (a : Around P). a.outside.names.1) around

  cells : HasBehind (cells_in m.seat.me.own.held) (cells_in n.seat.me.own.held)
  cells = cells_behind m.seat.me.own.held n.seat.me.own.held
      (λ place lt. (later.says (HasCell place (cell_at m.seat.me.own.held place))
      (length m.seat.me.own.held) (lt, refl) (omega arith)).1) later.longer

  pub leaves : Leaves m n old new
  leaves = record {
    heap = ap (λ (a : Around P). a.outside.heap) around;
    table = ap (λ (a : Around P). a.outside.table) around;
    shape = ap (λ (a : Around P). a.view.shape) around;
    role = ap (λ (a : Around P). a.view.role) around;
    number = ap (λ (a : Around P). a.view.number) around;
    room = later.room;
    presence = ap (λ (a : Around P). a.view.presence) around;
    pass = ap (λ (a : Around P). a.view.pass) around;
    claims = ap (λ (a : Around P). a.view.own.claims) around;
    mode = ap (λ (a : Around P). a.view.own.mode) around;
    added = cells.added;
    held = cells.is;
    known = λ place lt is. (later.says (IsKnownAs place (known_of m.seat.me place))
        (length m.seat.me.own.held) (lt, (is, refl)) (omega arith)).1.1;
    marks = keeps_grown later.marks;
    records_room = ap (λ (a : Around P). a.room) around;
    records = later.says (HasRecords old.records) 0
        (record { rest = []; is = sym (append-nil old.records) }) (omega arith);
    still = λ at places few stands. later.still at places stands few;
    now = later.now;
    same = later.same;
  }

-- as many records, and no more than there is room for
no_more : (old new : Nursery) → BeginWith old.records new.records → new.room ≡ old.room
    → length old.records ≤ old.room → length new.records ≤ new.room
    → new.room - length new.records ≡ old.room - length old.records → new ≡ old
no_more old new begins room fits still same = none begins.rest begins.is
  where
    none : (rest : List (List MinorField)) → new.records ≡ old.records ++ rest → new ≡ old
    none [] is =
        let records : new.records ≡ old.records = is ∙ append-nil old.records in
        rw (room, records) refl
    none (fields ∷ rest) is =
        let many = ap length is ∙ length-append old.records (fields ∷ rest) in
        absurd (omega (arith, many, room, fits, still, same))

-- as many cells
no_cells : (xs ys : List Held) → HasBehind (cells_in xs) (cells_in ys) → length ys ≡ length xs
    → cells_in ys ≡ cells_in xs
no_cells xs ys behind many = none behind.added behind.is
  where
    none : (added : List ℕ) → cells_in ys ≡ cells_in xs ++ added → cells_in ys ≡ cells_in xs
    none [] is = is ∙ append-nil (cells_in xs)
    none (c ∷ added) is =
        let more = ap length is ∙ length-append (cells_in xs) (c ∷ added) in
        let xs_many = length-map xs (λ (p : Held). p.cell) in
        let ys_many = length-map ys (λ (p : Held). p.cell) in
        absurd (omega (arith, many, more, xs_many, ys_many))

module _ {P : Type 0} (m n : Bound P) (old new : Nursery) (names others : ℕ × ℕ)
    (later : Later (shown_by m old names) (shown_by n new others))
    (fits : length old.records ≤ old.room) (still : length new.records ≤ new.room)
    (same : (shown_by n new others).records ≡ (shown_by m old names).records) where
  pub minor_same : new ≡ old
  minor_same =
      let left = leaves m n old new names others later in
      no_more old new left.records left.records_room fits still same

  pub leaves_all : (shown_by n new others).held ≡ (shown_by m old names).held
      → LeavesAll m n old new
  leaves_all held = record {
    leaves = leaves m n old new names others later;
    held = no_cells m.seat.me.own.held n.seat.me.own.held
        (cells m n old new names others later) held;
    minor = minor_same;
  }

-- a shared child that is held at none of the earlier places is held at the last
pub last_is : {P : Type 0} (n : Bound P) (new : Nursery) (before : ℕ) (o : Option NodeAt)
    → ForSome o (λ a. is_shared a ≡ true
    → (k : ℕ) → stands_on n.seat.me.known new.records k a → before < k)
    → ForSome o (λ a. stands_on n.seat.me.known new.records (length n.seat.me.own.held) a)
    → length n.seat.me.own.held ≡ before + places_found is_shared o
    → IsLast before (length n.seat.me.own.held) o
last_is n new before None last stands held = omega (arith, held)
last_is n new before (Some (at.Shared place)) last stands held =
    let low : before < place + 1 =
    last (at.Shared place) refl refl (place + 1)
    (omega arith, (stands (at.Shared place) refl).1) in
    let there : place < length n.seat.me.own.held = (stands (at.Shared place) refl).0 in
    (omega (arith, low, there, held), held)
last_is n new before (Some (at.Minor r)) last stands held = omega (arith, held)

-- a tree still stands, and is the same
module _ {P : Type 0} (m n : Bound P) (old new : Nursery) (a : NodeAt) (left : Leaves m n old new)
    (is : IsTreeAt m old a) where
  pub tree_still : IsTreeAt n new a
  tree_still = record {
    stands = left.now a is.stands;
    node = subst IsTreeNode (sym (left.same a is.stands)) is.node;
  }

  pub tree_same : tree_at n new a ≡ tree_at m old a
  tree_same = ap tree_of (left.same a is.stands)

pub ruleset leaving = (same_mutator, same_minor, leaves)

pub ruleset leaving_all = (same_mutator, same_minor, leaves_all)

pub ruleset finding = (same_mutator, same_minor, leaves, minor_same, last_is)

-- A mutator and a private heap, as they were lent to a pool and as they come back.
module _ {M P : Type 0} (bound : M → Bound P) (m n p q : M) (old new lent left : Nursery)
    (names others : ℕ × ℕ) (later : Later (shown_by (bound p) lent names)
    (shown_by (bound q) left others)) (m_is : p ≡ m) (old_is : lent ≡ old) (n_is : n ≡ q)
    (new_is : new ≡ left) where
  pub given_back : Leaves (bound m) (bound n) old new
  given_back =
      subst (λ (x : M). Leaves (bound x) (bound n) old new) m_is
      (subst (λ (x : M). Leaves (bound p) (bound x) old new) (sym n_is)
      (subst (λ (h : Nursery). Leaves (bound p) (bound q) h new) old_is
      (subst (λ (h : Nursery). Leaves (bound p) (bound q) lent h) (sym new_is)
      (leaves (bound p) (bound q) lent left names others later))))

  pub all_given_back : (spare spare_left : ℕ) → spare + length old.records ≡ old.room
      → spare_left + length new.records ≡ new.room
      → (shown_by (bound q) left others).records ≡ (shown_by (bound p) lent names).records
      → (shown_by (bound q) left others).held ≡ (shown_by (bound p) lent names).held
      → LeavesAll (bound m) (bound n) old new
  all_given_back spare spare_left fits still same held =
      subst (λ (x : M). LeavesAll (bound x) (bound n) old new) m_is
      (subst (λ (x : M). LeavesAll (bound p) (bound x) old new) (sym n_is)
      (subst (λ (h : Nursery). LeavesAll (bound p) (bound q) h new) old_is
      (subst (λ (h : Nursery). LeavesAll (bound p) (bound q) lent h) (sym new_is)
      (leaves_all (bound p) (bound q) lent left names others later
      (subst (λ (h : Nursery). length h.records ≤ h.room) (sym old_is) (omega (arith, fits)))
      (subst (λ (h : Nursery). length h.records ≤ h.room) new_is (omega (arith, still)))
      same held))))
