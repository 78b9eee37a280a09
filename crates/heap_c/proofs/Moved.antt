-- What a mutator owns after its private records were copied, and after its roots were settled.
use Rattle.std.proofs.Common.{◌≡◌, ◌≤◌, ◌+◌, ℕ, Bool, true, false, List}
use Rattle.std.proofs.Common.{length, max, take, inl, inr, sym, ◌∙◌, ap, subst, arith}
use Rattle.std.proofs.lemmas.List.{append-nil, length-take-le}
use Rattle.heap_table.specs.Seats.{HeapId, SeatView}
use Rattle.held_places.proofs.Going.{many_cells, many_held}
use Rattle.local_records.specs.Local.{IsLocal, Local}
use Rattle.local_records.proofs.Keeping.{local_later}
use Rattle.local_references.specs.declared.roots.Root.{Root}
use Rattle.mutator_seat.specs.Bound.{Bound, IsBound, bound, held_cells}
use Rattle.record_copying.specs.Copies.{CopiesUpTo}
use Rattle.sorted_boxes.specs.Calls.{KeepsRecords, Narrows}
use Rattle.sorted_boxes.specs.Holding.{HoldsAs, HoldsFirst}
use Rattle.sorted_boxes.specs.Sorts.{SortList}
use Rattle.sorted_boxes.proofs.HeldCopies.{grown_first}
use Rattle.sorted_rule.specs.declared.sorting.Sorting.{Sorting}
use Rattle.std.specs.Prelude.{Err}
use Rattle.heap_c.specs.Claiming.{SaysNone}
use Rattle.heap_c.specs.Calls.{IsIn}
use Rattle.heap_c.specs.Holding.{IsMine, IsOwned, NoAnchor, Owned}
use Rattle.heap_c.specs.Moving.{CopiesRecords, PromotesRecord, SharesRoots}
use Rattle.heap_c.specs.declared.codes.Code.{Code}
use Rattle.heap_c.specs.declared.values.HeapVal.{HeapVal}

not_out : (x : Bool) → x ≡ true → x ≡ false → ⊥
not_out true one other = absurd cc
not_out false one other = absurd cc

-- who holds what another list says of the same heap
pub mine_as : (heap : HeapId) (old new : SeatView Sorting) (sorts later : SortList)
    → IsMine heap old sorts → IsBound heap new → HoldsAs later new.me
    → HoldsAs sorts old.me → new.me.pass ≡ old.me.pass → IsMine heap new later
mine_as heap old new sorts later mine is at was pass = record {
  bound = is;
  some = subst (λ (n : ℕ). 1 ≤ n)
      (was.serves.boxes ∙ ap (λ (p : Sorting). p.boxes) (sym pass) ∙ sym at.serves.boxes)
      mine.some;
  serves = at.serves;
  held = λ inside. at;
}

pub owned_as : (heap : HeapId) (seat : SeatView Sorting) (sorts : SortList) (local : Local)
    → IsMine heap seat sorts → seat.me.presence.inside ≡ true → IsLocal local seat.me.known
    → NoAnchor local.roots → IsOwned heap seat sorts local
owned_as heap seat sorts local mine inside is apart = record {
  mine = mine;
  inside = λ again. is;
  outside = λ out. absurd (not_out seat.me.presence.inside inside out);
  apart = apart;
}

-- Copies that were made: what a list has to be told of, and what is owned then.
module _ (a b : Bound Sorting) (most : ℕ) (up : CopiesUpTo most a b)
    (many : length a.seat.me.known ≡ length a.seat.me.own.held) where
  pub up_many : length b.seat.me.own.held ≡ length a.seat.me.own.held + up.count
  up_many =
      let longer = many_held a b up.grown.grown.cells up.grown.grown.held in
      let count = up.grown.count_is in omega (arith, longer, count)

  pub up_within : length b.seat.me.own.held ≤ length a.seat.me.own.held + most
  up_within = let few = up.few in omega (arith, up_many, few)

  pub up_first : (sorts : SortList) → HoldsAs sorts a.seat.me
      → HoldsFirst (length a.seat.me.own.held) sorts b.seat.me
  up_first = grown_first a b up.count up.grown many

-- After copies the same is owned.
module _ (heap : HeapId) (old new : SeatView Sorting) (sorts later : SortList)
    (before after : Local) (most : ℕ) (owned : IsOwned heap old sorts before)
    (inside : old.me.presence.inside ≡ true) (is : IsBound heap new)
    (up : CopiesUpTo most (bound heap old) (bound heap new)) (holds : HoldsAs later new.me) where
  pub copied_owned : IsLocal after new.me.known → after.roots ≡ before.roots
      → IsOwned heap new later after
  copied_owned local roots =
      owned_as heap new later after
      (mine_as heap old new sorts later owned.mine is holds (owned.mine.held inside)
      up.grown.grown.stays.pass)
      holds.inside local (subst (λ (rs : List Root). NoAnchor rs) (sym roots) owned.apart)

-- The first places alone are kept.
module _ (a b : Bound Sorting) (l : Local) (first : ℕ) (so : IsLocal l a.seat.me.known)
    (le : l.named ≤ first) (fit : first ≤ length a.seat.me.own.held)
    (many : length b.seat.me.known ≡ length b.seat.me.own.held) where
  pub released_local : Narrows first 0 0 a b
      → KeepsRecords first a.seat.me.known b.seat.me.known → IsLocal l b.seat.me.known
  released_local narrows records =
      let cells : held_cells b ≡ take first (held_cells a) =
      narrows.held ∙ append-nil (take first (held_cells a)) in
      let was = many_cells a in
      let now = many_cells b in
      let so_many : length (held_cells b) ≡ first =
      ap (λ (cs : List ℕ). length cs) cells
      ∙ length-take-le first (held_cells a) (omega (arith, was, fit)) in
      local_later a.seat.me.known l.named l.records l.copied l.places l.roots so b.seat.me.known
      (λ place t lt is. records place t (omega (arith, lt, le)) is)
      (omega (arith, le, many, now, so_many))

pub max_within : (a b n : ℕ) → a ≤ n → b ≤ n → max a b ≤ n
max_within a b n one other = omega (arith, one, other)

pub copies_more : (m later : Owned) (few most : ℕ) → few ≤ most → CopiesRecords m later few
    → CopiesRecords m later most
copies_more m later few most le copies = record {
  grown = record {
    count = copies.grown.count;
    few = let fewer = copies.grown.few in omega (arith, le, fewer);
    grown = copies.grown.grown;
  };
  sorts = copies.sorts;
  keeps = copies.keeps;
  terms = copies.terms;
  only = copies.only;
}

-- No cell was got.
pub promote_none : (m later : Owned) (val : HeapVal) (most : ℕ) (c : Code) → SaysNone c
    → IsIn m.held → CopiesRecords m later most → PromotesRecord m later val most (Err c)
promote_none m later val most c (inl is) inside copies =
    subst (λ (x : Code). PromotesRecord m later val most (Err x)) (sym is) (inside, copies)
promote_none m later val most c (inr is) inside copies =
    subst (λ (x : Code). PromotesRecord m later val most (Err x)) (sym is) (inside, copies)

pub share_none : (m later : Owned) (base most : ℕ) (c : Code) → SaysNone c
    → IsIn m.held → CopiesRecords m later most → SharesRoots m later base most c
share_none m later base most c (inl is) inside copies =
    subst (λ (x : Code). SharesRoots m later base most x) (sym is) (inside, copies)
share_none m later base most c (inr is) inside copies =
    subst (λ (x : Code). SharesRoots m later base most x) (sym is) (inside, copies)
