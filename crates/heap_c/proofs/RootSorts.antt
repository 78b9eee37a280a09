-- The sorts of roots that are cells, as a list tells of them where they are to be held.
use Rattle.std.proofs.Common.{◌≡◌, ◌<◌, ◌≤◌, ◌+◌, ◌-◌, ◌++◌, ◌∷◌, ◌∙◌, ℕ, zero, suc, Bool, true}
use Rattle.std.proofs.Common.{false, List, [], length, get_or, take, inl, inr, refl, sym, ap, subst}
use Rattle.std.proofs.Common.{arith}
use Rattle.std.specs.List.{CopiedTo, SameBelow}
use Rattle.std.proofs.lemmas.Bool.{cases_lt}
use Rattle.std.proofs.lemmas.List.{append-nil, get_or-append_right, get_or-set_other}
use Rattle.std.proofs.lemmas.List.{get_or-set_same, get_or-take, get_or_append_left, get_or_push}
use Rattle.std.proofs.lemmas.List.{length-append, length-set, length-take-le}
use Rattle.heap_rule.specs.Asks.{known_of, target}
use Rattle.heap_rule.specs.Lore.{known_at}
use Rattle.heap_rule.specs.declared.known.Known.{Known}
use Rattle.heap_rule.specs.declared.known.Known.TheVariants as knows
use Rattle.local_records.specs.Local.{IsRootBelow}
use Rattle.local_records.specs.Settling.{RootsSettled, cell_count, cells_in, knows_roots, shared_at}
use Rattle.local_records.specs.Settling.{shared_from}
use Rattle.local_references.specs.Roots.{IsPrivate, RootsKeep, slot_at}
use Rattle.local_references.specs.declared.roots.Root.{Root}
use Rattle.local_references.specs.declared.roots.Root.TheVariants as root
use Rattle.minor_heap.specs.declared.fields.MinorField.{MinorField}
use Rattle.mutator_seat.specs.Bound.{Bound}
use Rattle.sorted_rule.specs.Open.{KnownOfSort}
use Rattle.sorted_rule.specs.Sorts.{Sort}
use Rattle.sorted_rule.specs.declared.sorting.Sorting.{Sorting}
use Rattle.sorted_boxes.specs.Holding.{HoldsAs, IsAs}
use Rattle.sorted_boxes.specs.Sorts.{SortList, holds_record, sort_as, sort_in}
use Rattle.sorted_boxes.proofs.Giving.{held_known, known_as}
use Rattle.sorted_boxes.proofs.Holding.{serves_on}
use Rattle.sorted_boxes.proofs.Narrowing.{kept_serves}
use Rattle.sorted_boxes.proofs.SortLists.{box_in, with_set}
use Rattle.heap_c.specs.Holding.{NoAnchor}
use Rattle.heap_c.specs.Moving.{TellsRoots, root_sorts}

sorts_many : (sorts : SortList) (roots : List Root)
    → length (root_sorts sorts roots) ≡ cell_count roots
sorts_many sorts [] = refl
sorts_many sorts (root.Null ∷ roots) = let e = sorts_many sorts roots in omega (arith, e)
sorts_many sorts (root.Num n ∷ roots) = let e = sorts_many sorts roots in omega (arith, e)
sorts_many sorts (root.Private r ∷ roots) = let e = sorts_many sorts roots in omega (arith, e)
sorts_many sorts (root.Shared place ∷ roots) = let e = sorts_many sorts roots in omega (arith, e)

sorts_end : (sorts : SortList) (roots : List Root) (x : Root)
    → root_sorts sorts (roots ++ x ∷ []) ≡ root_sorts sorts roots ++ root_sorts sorts (x ∷ [])
sorts_end sorts [] x = refl
sorts_end sorts (root.Null ∷ roots) x = sorts_end sorts roots x
sorts_end sorts (root.Num n ∷ roots) x = sorts_end sorts roots x
sorts_end sorts (root.Private r ∷ roots) x =
    ap (λ (bs : List Bool). true ∷ bs) (sorts_end sorts roots x)
sorts_end sorts (root.Shared place ∷ roots) x =
    ap (λ (bs : List Bool). holds_record sorts place ∷ bs) (sorts_end sorts roots x)

count_end : (roots : List Root) (x : Root)
    → cell_count (roots ++ x ∷ []) ≡ cell_count roots + cells_in x
count_end [] x = omega arith
count_end (y ∷ roots) x = let e = count_end roots x in omega (arith, e)

-- a root is one cell at most
pub count_few : (roots : List Root) → cell_count roots ≤ length roots
count_few [] = omega arith
count_few (root.Null ∷ roots) = let few = count_few roots in omega (arith, few)
count_few (root.Num n ∷ roots) = let few = count_few roots in omega (arith, few)
count_few (root.Private r ∷ roots) = let few = count_few roots in omega (arith, few)
count_few (root.Shared place ∷ roots) = let few = count_few roots in omega (arith, few)

pub tells_none : (first : ℕ) (sorts : SortList) → TellsRoots first sorts [] sorts
tells_none first sorts = record {
  boxes = refl;
  many = refl;
  same = λ k d lt. refl;
  told = λ k lt. absurd (omega (arith, lt));
}

-- One more root.
module _ (first next : ℕ) (before now : SortList) (roots : List Root)
    (so : TellsRoots first before roots now) (x : Root) where
  pub tells_same : cells_in x ≡ 0 → root_sorts before (x ∷ []) ≡ []
      → TellsRoots first before (roots ++ x ∷ []) now
  tells_same none is = record {
    boxes = so.boxes;
    many = so.many;
    same = so.same;
    told = λ k lt.
        so.told k (let e = count_end roots x in omega (arith, e, lt, none))
        ∙ ap (λ (bs : List Bool). get_or bs k false)
        (sym (sorts_end before roots x
        ∙ ap (λ (bs : List Bool). root_sorts before roots ++ bs) is
        ∙ append-nil (root_sorts before roots)));
  }

  module _ (b : Bool) (next_is : next ≡ first + cell_count roots)
      (there : next < length now.records) (one : cells_in x ≡ 1)
      (is : root_sorts before (x ∷ []) ≡ b ∷ []) where
    all_sorts : root_sorts before (roots ++ x ∷ []) ≡ root_sorts before roots ++ b ∷ []
    all_sorts =
        sorts_end before roots x ∙ ap (λ (bs : List Bool). root_sorts before roots ++ bs) is

    told_next : (k : ℕ) → k < cell_count (roots ++ x ∷ [])
        → holds_record (with_set now next b) (first + k)
        ≡ get_or (root_sorts before (roots ++ x ∷ [])) k false
    told_next k lt = elim (cases_lt k (cell_count roots)) [
      | inl early ↦
          get_or-set_other now.records next (first + k) b false
          (λ e. omega (arith, e, next_is, early))
          ∙ so.told k early
          ∙ sym (ap (λ (bs : List Bool). get_or bs k false) all_sorts
          ∙ get_or_append_left (root_sorts before roots) (b ∷ []) false k
          (let many = sorts_many before roots in omega (arith, many, early)))
      | inr last ↦
          let count = count_end roots x in
          let k_is : k ≡ cell_count roots = omega (arith, lt, count, one, last) in
          ap (λ (n : ℕ). get_or (with_set now next b).records n false)
          (let e : first + k ≡ next = omega (arith, k_is, next_is) in e)
          ∙ get_or-set_same now.records next b false there
          ∙ sym (ap (λ (bs : List Bool). get_or bs k false) all_sorts
          ∙ get_or_push (root_sorts before roots) b false k (sorts_many before roots ∙ sym k_is))
    ]

    pub tells_one : TellsRoots first before (roots ++ x ∷ []) (with_set now next b)
    tells_one = record {
      boxes = so.boxes;
      many = length-set now.records next b ∙ so.many;
      same = λ k d lt.
          get_or-set_other now.records next k b d (λ e. omega (arith, e, lt, next_is))
          ∙ so.same k d lt;
      told = told_next;
    }

-- The roots are places of the held list then, and none is the anchor's.

abbrev place_of : Root → ℕ
place_of root.Null = 1
place_of (root.Num n) = 1
place_of (root.Private r) = 1
place_of (root.Shared place) = place

pub one_apart : (x : Root) → 1 ≤ place_of x → x ≡ root.Shared 0 → ⊥
one_apart x some is = let e : place_of x ≡ 0 = ap place_of is in omega (arith, e, some)

shared_some : (base : ℕ) (x : Root) → 1 ≤ base → 1 ≤ place_of (shared_at base x)
shared_some base root.Null some = omega arith
shared_some base (root.Num n) some = omega arith
shared_some base (root.Private r) some = some
shared_some base (root.Shared place) some = some

pub shared_apart : (base : ℕ) (roots : List Root) → 1 ≤ base → NoAnchor (shared_from base roots)
shared_apart base [] some k is = one_apart root.Null (omega arith) is
shared_apart base (x ∷ roots) some zero is =
    one_apart (shared_at base x) (shared_some base x some) is
shared_apart base (x ∷ roots) some (suc k) is =
    shared_apart (base + cells_in x) roots (omega (arith, some)) k is

-- nor is one after an ageing
module _ (before after : List (List MinorField)) (old new : List Root)
    (keep : RootsKeep before old after new) (apart : NoAnchor old) where
  other_apart : (k : ℕ) → (IsPrivate (slot_at old k) → ⊥) → slot_at new k ≡ root.Shared 0 → ⊥
  other_apart k not is = apart k (sym (keep.others k not) ∙ is)

  private_apart : (k : ℕ) → IsPrivate (slot_at old k) → slot_at new k ≡ root.Shared 0 → ⊥
  private_apart k own is = subst (λ (x : Root). IsPrivate x) is (keep.private k own)

  by_root : (k : ℕ) (x : Root) → slot_at old k ≡ x → slot_at new k ≡ root.Shared 0 → ⊥
  by_root k root.Null was =
      other_apart k (λ own. subst (λ (x : Root). IsPrivate x) was own)
  by_root k (root.Num n) was =
      other_apart k (λ own. subst (λ (x : Root). IsPrivate x) was own)
  by_root k (root.Private r) was =
      private_apart k (subst (λ (x : Root). IsPrivate x) (sym was) tt)
  by_root k (root.Shared place) was =
      other_apart k (λ own. subst (λ (x : Root). IsPrivate x) was own)

  pub aged_apart : NoAnchor new
  aged_apart k is = by_root k (slot_at old k) refl is

-- What is known of the roots is of the sorts that the list tells.
module _ (sorts : SortList) (a : Bound Sorting) (at : HoldsAs sorts a.seat.me)
    (records : List (List MinorField)) where
  pub knows_many : (roots : List Root) → length (knows_roots a records roots) ≡ cell_count roots
  knows_many [] = refl
  knows_many (root.Null ∷ roots) = let e = knows_many roots in omega (arith, e)
  knows_many (root.Num n ∷ roots) = let e = knows_many roots in omega (arith, e)
  knows_many (root.Private r ∷ roots) = let e = knows_many roots in omega (arith, e)
  knows_many (root.Shared place ∷ roots) = let e = knows_many roots in omega (arith, e)

  shared_known : (place : ℕ) → place < length a.seat.me.own.held
      → (root.Shared place ≡ root.Shared 0 → ⊥)
      → KnownOfSort (sort_in sorts place) (known_of a.seat.me place)
  shared_known zero lt apart = absurd (apart refl)
  shared_known (suc place) lt apart = held_known sorts a at (suc place) (omega arith) lt

  roots_known : (roots : List Root)
      → ((i : ℕ) → IsRootBelow (length a.seat.me.own.held) (slot_at roots i)) → NoAnchor roots
      → (k : ℕ) → k < cell_count roots
      → KnownOfSort (sort_as (get_or (root_sorts sorts roots) k false))
      (get_or (knows_roots a records roots) k knows.Nothing)
  roots_known [] below apart k lt = absurd (omega (arith, lt))
  roots_known (root.Null ∷ roots) below apart k lt =
      roots_known roots (λ i. below (suc i)) (λ i. apart (suc i)) k (omega (arith, lt))
  roots_known (root.Num n ∷ roots) below apart k lt =
      roots_known roots (λ i. below (suc i)) (λ i. apart (suc i)) k (omega (arith, lt))
  roots_known (root.Private r ∷ roots) below apart zero lt = tt
  roots_known (root.Private r ∷ roots) below apart (suc k) lt =
      roots_known roots (λ i. below (suc i)) (λ i. apart (suc i)) k (omega (arith, lt))
  roots_known (root.Shared place ∷ roots) below apart zero lt =
      shared_known place (below 0) (apart 0)
  roots_known (root.Shared place ∷ roots) below apart (suc k) lt =
      roots_known roots (λ i. below (suc i)) (λ i. apart (suc i)) k (omega (arith, lt))

  -- The first places are held, and then the roots.
  module _ (places : List ℕ) (roots : List Root) (base first : ℕ) (b : Bound Sorting)
      (settled : RootsSettled a records places roots base b) (told new : SortList)
      (some : 1 ≤ base) (fit : base ≤ first) (first_is : first ≡ length a.seat.me.own.held)
      (many : length a.seat.me.known ≡ length a.seat.me.own.held)
      (later_many : length b.seat.me.known ≡ length b.seat.me.own.held)
      (anchor : target b.seat.me 0 ≡ 0)
      (below : (i : ℕ) → IsRootBelow (length a.seat.me.own.held) (slot_at roots i))
      (apart : NoAnchor roots) (tells : TellsRoots first sorts roots told)
      (boxes : new.boxes ≡ told.boxes) (room : length new.records ≡ length told.records)
      (same : SameBelow told.records new.records base)
      (moved : CopiedTo told.records new.records first base (cell_count roots)) where
    pub settled_same : SameBelow sorts.records new.records base
    settled_same k d lt = same k d lt ∙ tells.same k d (omega (arith, lt, fit))

    base_many : length (take base a.seat.me.known) ≡ base
    base_many = length-take-le base a.seat.me.known (omega (arith, fit, first_is, many))

    settled_many : length b.seat.me.own.held ≡ base + cell_count roots
    settled_many =
        let all = ap (λ (ks : List Known). length ks) settled.known in
        let both = length-append (take base a.seat.me.known) (knows_roots a records roots) in
        let more = knows_many roots in
        omega (arith, later_many, all, both, more, base_many)

    known_before : (place : ℕ) → place < base
        → known_of b.seat.me place ≡ known_of a.seat.me place
    known_before place lt =
        ap (λ (ks : List Known). known_at ks place) settled.known
        ∙ get_or_append_left (take base a.seat.me.known) (knows_roots a records roots)
        knows.Nothing place (omega (arith, lt, base_many))
        ∙ get_or-take base a.seat.me.known place knows.Nothing lt

    known_after : (place : ℕ) → base ≤ place
        → known_of b.seat.me place
        ≡ get_or (knows_roots a records roots) (place - base) knows.Nothing
    known_after place le =
        ap (λ (ks : List Known). known_at ks place) settled.known
        ∙ get_or-append_right (take base a.seat.me.known) (knows_roots a records roots) base place
        knows.Nothing base_many le

    as_before : (place : ℕ) → place < base → IsAs b.seat.me place (sort_in new place)
    as_before zero lt =
        subst (λ (sort : Sort). IsAs b.seat.me 0 sort)
        (sym (box_in new 0 (settled_same 0 false lt ∙ at.serves.anchor))) anchor
    as_before (suc place) lt =
        known_as b.seat.me (suc place) (sort_in new (suc place)) (omega arith)
        (subst (λ (k : Known). KnownOfSort (sort_in new (suc place)) k)
        (sym (known_before (suc place) lt))
        (subst (λ (sort : Sort). KnownOfSort sort (known_of a.seat.me (suc place)))
        (sym (ap sort_as (settled_same (suc place) false lt)))
        (held_known sorts a at (suc place) (omega arith) (omega (arith, lt, fit, first_is)))))

    as_after : (place : ℕ) → base ≤ place → place < length b.seat.me.own.held
        → IsAs b.seat.me place (sort_in new place)
    as_after place le lt =
        let few : place - base < cell_count roots = omega (arith, le, lt, settled_many) in
        let sort_is : sort_in new place ≡ sort_as (get_or (root_sorts sorts roots) (place - base)
        false) = ap sort_as (moved place false le (omega (arith, lt, settled_many))
        ∙ tells.told (place - base) few) in
        known_as b.seat.me place (sort_in new place) (omega (arith, le, some))
        (subst (λ (k : Known). KnownOfSort (sort_in new place) k) (sym (known_after place le))
        (subst (λ (sort : Sort). KnownOfSort sort
        (get_or (knows_roots a records roots) (place - base) knows.Nothing)) (sym sort_is)
        (roots_known roots below apart (place - base) few)))

    pub settled_holds : HoldsAs new b.seat.me
    settled_holds = record {
      inside = settled.stays.inside ∙ at.inside;
      serves = serves_on new a.seat.me b.seat.me settled.stays.room settled.stays.pass
          (kept_serves sorts new a.seat.me base some (boxes ∙ tells.boxes) (room ∙ tells.many)
          settled_same at.serves);
      some = omega (arith, settled_many, some);
      each = λ place lt. elim (cases_lt place base) [
        | inl before ↦ as_before place before
        | inr behind ↦ as_after place behind lt
      ];
    }
