-- Hints that are taken one after the other, and copies that are made with them.
use Rattle.std.proofs.Common.{◌≡◌, ◌<◌, ◌≤◌, ◌+◌, ◌≢◌, ◌⊎◌, ℕ, zero, suc, Bool, true, false, List}
use Rattle.std.proofs.Common.{[], ◌∷◌, ◌++◌, length, map, take, refl, sym, ◌∙◌, ap, subst, arith}
use Rattle.std.proofs.Common.{◌&&◌, ⊎_elim, inl, inr, Option, Some, None, IfSome}
use Rattle.std.specs.Prelude.{slice_index_or, slice_set}
use Rattle.std.specs.List.{list_all}
use Rattle.std.proofs.lemmas.Bool.{and_parts}
use Rattle.std.proofs.lemmas.List.{append-nil, append_assoc, append_cancel_left, get_or-set_other}
use Rattle.std.proofs.lemmas.List.{get_or-set_same, map-append}
use Rattle.std.proofs.lemmas.List.Elements.{All-append, All-nil}
use Rattle.cell_words.specs.declared.colours.Colour.TheVariants as colour
use Rattle.core_machine.specs.declared.events.Event.{Event}
use Rattle.core_machine.specs.declared.events.Event.TheVariants as event
use Rattle.core_machine.specs.declared.events.Found.{Found}
use Rattle.core_machine.specs.declared.events.Found.TheVariants as finds
use Rattle.core_machine.specs.declared.events.Taken.{Taken}
use Rattle.free_cells.specs.declared.counts.Counts.{Counts}
use Rattle.free_cells.specs.declared.hints.Hints.{Hints}
use Rattle.free_cells.specs.Hints.{cells_of, counts_of, queue_of}
use Rattle.heap_rule.specs.Rule.{took}
use Rattle.heap_rule.specs.Shape.{Shape}
use Rattle.minor_heap.specs.declared.fields.MinorField.{MinorField}
use Rattle.minor_heap.specs.declared.fields.MinorRef.{MinorRef}
use Rattle.minor_heap.specs.Marking.{marked_of}
use Rattle.minor_heap.specs.Reaches.{AreReached}
use Rattle.mutator_seat.specs.Bound.{Bound, takes}
use Rattle.mutator_seat.specs.Claims.{Claimed, TriedFirst}
use Rattle.mutator_seat.specs.Stretches.{takes_all}
use Rattle.mutator_seat.specs.Takes.{GiveAll, Gives, after_take, after_takes}
use Rattle.mutator_seat.proofs.Calm.{takes_all_append, trail_all}
use Rattle.mutator_seat.proofs.Takes.{after_more, give_more}
use Rattle.promotion.specs.Copying.{marked_count}
use Rattle.promotion.specs.Hinting.{AreCopies, CopyBy, Hinted, IsCopy, KeepHints, TryFirst}
use Rattle.promotion.specs.Hinting.{hint_at, hints_of, makes_record}
use Rattle.promotion.specs.Linking.{AreKeeping, KeepsFrom}
use Rattle.promotion.specs.Promoting.{Adds}
use Rattle.promotion.proofs.Counting.{count_is}
use Rattle.promotion.proofs.Linked.{Keeping}
use Rattle.promotion.proofs.Stretching.{adds_then}

-- The marks of a front of the records.

pub marked_more : (first n : ℕ) (marks : List Bool) → slice_index_or marks n false ≡ true
    → marked_of first (take (suc n) marks)
    ≡ marked_of first (take n marks) ++ record { number = first + n } ∷ []
marked_more first n [] is = absurd cc
marked_more first zero (true ∷ marks) is =
    let e : first ≡ first + 0 = omega arith in
    ap (λ (k : ℕ). (let l : List MinorRef = record { number = k } ∷ [] in l)) e
marked_more first zero (false ∷ marks) is = absurd cc
marked_more first (suc n) (true ∷ marks) is =
    let e : first + 1 + n ≡ first + suc n = omega arith in
    ap (λ (rs : List MinorRef). record { number = first } ∷ rs)
    (marked_more (first + 1) n marks is
    ∙ ap (λ (k : ℕ). marked_of (first + 1) (take n marks) ++ record { number = k } ∷ []) e)
marked_more first (suc n) (false ∷ marks) is =
    let e : first + 1 + n ≡ first + suc n = omega arith in
    marked_more (first + 1) n marks is
    ∙ ap (λ (k : ℕ). marked_of (first + 1) (take n marks) ++ record { number = k } ∷ []) e

pub marked_passed : (first n : ℕ) (marks : List Bool) → slice_index_or marks n false ≡ false
    → marked_of first (take (suc n) marks) ≡ marked_of first (take n marks)
marked_passed first zero [] is = refl
marked_passed first (suc n) [] is = refl
marked_passed first zero (true ∷ marks) is = absurd cc
marked_passed first zero (false ∷ marks) is = refl
marked_passed first (suc n) (true ∷ marks) is =
    ap (λ (rs : List MinorRef). record { number = first } ∷ rs)
    (marked_passed (first + 1) n marks is)
marked_passed first (suc n) (false ∷ marks) is = marked_passed (first + 1) n marks is

-- what two functions give there, where they agree below a number
pub same_front : {A : Type 0} (f g : MinorRef → A) (first n : ℕ) (marks : List Bool)
    → ((k : ℕ) → k < first + n → f (record { number = k }) ≡ g (record { number = k }))
    → map f (marked_of first (take n marks)) ≡ map g (marked_of first (take n marks))
same_front f g first zero marks same = refl
same_front f g first (suc n) [] same = refl
same_front f g first (suc n) (true ∷ marks) same =
    let rest = same_front f g (first + 1) n marks (λ k lt. same k (omega (arith, lt))) in
    λ i. same first (omega arith) i ∷ rest i
same_front f g first (suc n) (false ∷ marks) same =
    same_front f g (first + 1) n marks (λ k lt. same k (omega (arith, lt)))

-- before the first of the marks there are none
pub none_before : (marks : List Bool) (n : ℕ)
    → ((k : ℕ) → slice_index_or marks k false ≡ true → n ≤ k) → (first : ℕ)
    → marked_of first (take n marks) ≡ []
none_before marks zero from first = refl
none_before [] (suc n) from first = refl
none_before (true ∷ marks) (suc n) from first =
    let l = from 0 refl in absurd (omega (arith, l))
none_before (false ∷ marks) (suc n) from first =
    none_before marks n (λ k is. let l = from (suc k) is in omega (arith, l)) (first + 1)

none_at_all : (marks : List Bool) → ((k : ℕ) → slice_index_or marks k false ≡ true → ⊥)
    → (first : ℕ) → marked_of first marks ≡ []
none_at_all [] none first = refl
none_at_all (true ∷ marks) none first = absurd (none 0 refl)
none_at_all (false ∷ marks) none first =
    none_at_all marks (λ k is. none (suc k) is) (first + 1)

-- and after the last one no more
pub all_before : (marks : List Bool) (n : ℕ)
    → ((k : ℕ) → slice_index_or marks k false ≡ true → k < n) → (first : ℕ)
    → marked_of first (take n marks) ≡ marked_of first marks
all_before [] zero below first = refl
all_before [] (suc n) below first = refl
all_before (true ∷ marks) zero below first =
    let l = below 0 refl in absurd (omega (arith, l))
all_before (false ∷ marks) zero below first =
    sym (none_at_all marks (λ k is. let l = below (suc k) is in absurd (omega (arith, l)))
    (first + 1))
all_before (true ∷ marks) (suc n) below first =
    ap (λ (rs : List MinorRef). record { number = first } ∷ rs)
    (all_before marks n (λ k is. let l = below (suc k) is in omega (arith, l)) (first + 1))
all_before (false ∷ marks) (suc n) below first =
    all_before marks n (λ k is. let l = below (suc k) is in omega (arith, l)) (first + 1)

-- The loop that takes them.

-- the hints of the records below n
abbrev pub hints_below : List (Option ℕ) → List Bool → ℕ → List (Option ℕ)
hints_below hints marks n = hints_of hints (take n marks)

pub below_none : (hints : List (Option ℕ)) (marks : List Bool) (n : ℕ)
    → ((k : ℕ) → slice_index_or marks k false ≡ true → n ≤ k) → hints_below hints marks n ≡ []
below_none hints marks n from =
    ap (λ (rs : List MinorRef). map (hint_at hints) rs) (none_before marks n from 0)

pub below_all : (hints : List (Option ℕ)) (marks : List Bool) (n : ℕ)
    → ((k : ℕ) → slice_index_or marks k false ≡ true → k < n)
    → hints_below hints marks n ≡ hints_of hints marks
below_all hints marks n below =
    ap (λ (rs : List MinorRef). map (hint_at hints) rs) (all_before marks n below 0)

pub below_more : (hints : List (Option ℕ)) (marks : List Bool) (n : ℕ)
    → slice_index_or marks n false ≡ true
    → hints_below hints marks (n + 1)
    ≡ hints_below hints marks n ++ slice_index_or hints n None ∷ []
below_more hints marks n is =
    let e : n + 1 ≡ suc n = omega arith in
    let own : 0 + n ≡ n = omega arith in
    ap (λ (k : ℕ). hints_below hints marks k) e
    ∙ ap (λ (rs : List MinorRef). map (hint_at hints) rs) (marked_more 0 n marks is
    ∙ ap (λ (k : ℕ). marked_of 0 (take n marks) ++ record { number = k } ∷ []) own)
    ∙ map-append (hint_at hints) (marked_of 0 (take n marks)) (record { number = n } ∷ [])

pub below_passed : (hints : List (Option ℕ)) (marks : List Bool) (n : ℕ)
    → slice_index_or marks n false ≡ false
    → hints_below hints marks (n + 1) ≡ hints_below hints marks n
below_passed hints marks n is =
    let e : n + 1 ≡ suc n = omega arith in
    ap (λ (k : ℕ). hints_below hints marks k) e
    ∙ ap (λ (rs : List MinorRef). map (hint_at hints) rs) (marked_passed 0 n marks is)

-- a hint that is put at n leaves those below
pub below_put : (hints : List (Option ℕ)) (marks : List Bool) (n : ℕ) (hint : Option ℕ)
    → hints_below (slice_set hints n hint) marks n ≡ hints_below hints marks n
below_put hints marks n hint =
    same_front (hint_at (slice_set hints n hint)) (hint_at hints) 0 n marks
    (λ k lt. get_or-set_other hints n k hint None (omega (arith, lt)))

-- one more take
pub put_more : (cells : ℕ) (first a b : Counts) (hints : List (Option ℕ)) (marks : List Bool)
    (n : ℕ) (hint : Option ℕ) → n < length hints → slice_index_or marks n false ≡ true
    → GiveAll cells first (hints_below hints marks n)
    → a ≡ after_takes first (hints_below hints marks n)
    → Gives cells a hint × (b ≡ after_take a hint)
    → GiveAll cells first (hints_below (slice_set hints n hint) marks (n + 1))
    × (b ≡ after_takes first (hints_below (slice_set hints n hint) marks (n + 1)))
put_more cells first a b hints marks n hint there is all so got =
    let was = hints_below hints marks n in
    let e : hints_below (slice_set hints n hint) marks (n + 1) ≡ was ++ hint ∷ [] =
    below_more (slice_set hints n hint) marks n is
    ∙ (λ i. below_put hints marks n hint i
    ++ get_or-set_same hints n hint None there i ∷ []) in (
      subst (λ (hs : List (Option ℕ)). GiveAll cells first hs) (sym e)
          (give_more cells first was hint all
          (subst (λ (c : Counts). Gives cells c hint) so got.0)),
      got.1 ∙ ap (λ (c : Counts). after_take c hint) so ∙ sym (after_more first was hint)
          ∙ ap (λ (hs : List (Option ℕ)). after_takes first hs) (sym e),
    )

-- Hints that are kept.

pub keep_all : (hints : List (Option ℕ)) → KeepHints hints hints
keep_all hints k cell is = is

pub keep_then : (a b c : List (Option ℕ)) → KeepHints a b → KeepHints b c → KeepHints a c
keep_then a b c first second k cell is = second k cell (first k cell is)

none_or_some : (k n : ℕ) → (k ≡ n) ⊎ (k ≢ n)
none_or_some zero zero = inl refl
none_or_some zero (suc n) = inr (λ e. omega (arith, e))
none_or_some (suc k) zero = inr (λ e. omega (arith, e))
none_or_some (suc k) (suc n) =
    ⊎_elim (λ (e : k ≡ n). inl (ap suc e)) (λ (ne : k ≢ n). inr (λ e. ne (omega (arith, e))))
    (none_or_some k n)

none_not_some : {X : Type 0} (cell : ℕ) → None ≡ Some cell → X
none_not_some cell is = absurd cc

-- where there was none a hint may be put
pub keep_put : (hints : List (Option ℕ)) (n : ℕ) (hint : Option ℕ)
    → slice_index_or hints n None ≡ None → KeepHints hints (slice_set hints n hint)
keep_put hints n hint none k cell is =
    ⊎_elim
    (λ (same : k ≡ n). none_not_some cell (sym none
    ∙ ap (λ (j : ℕ). slice_index_or hints j None) (sym same) ∙ is))
    (λ (other : k ≢ n). get_or-set_other hints n k hint None other ∙ is)
    (none_or_some k n)

-- Copies.

copy_as : (number cells : ℕ) (given own : Option ℕ) (events : List Taken)
    → ((cell : ℕ) → given ≡ Some cell → own ≡ Some cell) → IsCopy number cells own events
    → IsCopy number cells given events
copy_as number cells given own events keeps copy = record {
  sought = copy.sought;
  cell = copy.cell;
  made = copy.made;
  split = copy.split;
  seeks = copy.seeks;
  makes = copy.makes;
  tries = tries_as given keeps;
}
  where
    tries_as : (h : Option ℕ) → ((cell : ℕ) → h ≡ Some cell → own ≡ Some cell)
        → IfSome h (λ cell. cell < cells → TryFirst number cell events)
    tries_as (Some cell) keep =
        subst (λ (o : Option ℕ). IfSome o (λ c. c < cells → TryFirst number c events))
        (keep cell refl) copy.tries
    tries_as None keep = tt

pub copies_more : (number cells : ℕ) (hints : List (Option ℕ)) (hint : Option ℕ)
    (xs ys : List Taken) → AreCopies number cells hints xs → IsCopy number cells hint ys
    → AreCopies number cells (hints ++ hint ∷ []) (xs ++ ys)
copies_more number cells [] hint xs ys none copy =
    (ys, ([], (ap (λ (zs : List Taken). zs ++ ys) none ∙ sym (append-nil ys), (copy, refl))))
copies_more number cells (h ∷ hints) hint xs ys all copy =
    let first = all.0 in
    let rest = all.1.0 in
    let more = copies_more number cells hints hint rest ys all.1.1.1.1 copy in (
      first,
      (
        rest ++ ys,
        (
          ap (λ (zs : List Taken). zs ++ ys) all.1.1.0
              ∙ append_assoc first rest ys,
          (all.1.1.1.0, more),
        ),
      ),
    )

module _ {P : Type 0} where
  tried_at : (old new : Bound P) (events : List Taken) (cell : ℕ) → new ≡ takes_all old events
      → TriedFirst cell old new → TryFirst old.seat.me.number cell events
  tried_at old new events cell told tried = record {
    control = tried.control;
    found = tried.found;
    rest = tried.rest;
    split = append_cancel_left old.seat.me.trail events _
        (sym (trail_all old events) ∙ sym (ap (λ (m : Bound P). m.seat.me.trail) told)
        ∙ tried.trail);
  }

  -- a cell was claimed
  pub copy_begun_by : (old m : Bound P) (place : ℕ) (hint : Option ℕ) → Claimed old place m
      → IfSome hint (λ cell. cell < old.seat.me.shape.cells → TriedFirst cell old m)
      → Adds (IsCopy old.seat.me.number old.seat.me.shape.cells hint) old m
  copy_begun_by old m place hint got tries =
      let claim : ℕ → Taken = λ n. took (event.Claim n got.cell) (finds.Colour colour.Blue) in
      let events = got.calm.added ++ claim old.seat.me.number ∷ [] in
      let told : m ≡ takes_all old events =
      got.told
      ∙ ap (λ (n : ℕ). takes got.at (event.Claim n got.cell) (finds.Colour colour.Blue))
      got.calm.kept.number
      ∙ ap (λ (b : Bound P). takes b (event.Claim old.seat.me.number got.cell)
      (finds.Colour colour.Blue)) got.calm.told
      ∙ sym (takes_all_append old got.calm.added (claim old.seat.me.number ∷ [])) in
      record {
        added = events;
        told = told;
        fact = record {
          sought = got.calm.added;
          cell = got.cell;
          made = [];
          split = refl;
          seeks = got.calm.fact;
          makes = refl;
          tries = tries_in events hint tries told;
        };
      }
    where
      tries_in : (events : List Taken) (h : Option ℕ)
          → IfSome h (λ cell. cell < old.seat.me.shape.cells → TriedFirst cell old m)
          → m ≡ takes_all old events
          → IfSome h (λ cell. cell < old.seat.me.shape.cells
          → TryFirst old.seat.me.number cell events)
      tries_in events (Some cell) tried told = λ lt. tried_at old m events cell told (tried lt)
      tries_in events None tried told = tt

  -- and filled or sealed
  pub copy_made : (number cells : ℕ) (hint : Option ℕ) (a b c : Bound P) (e : Event)
      (found : Found) → makes_record e ≡ true → c ≡ takes b e found
      → Adds (IsCopy number cells hint) a b → Adds (IsCopy number cells hint) a c
  copy_made number cells hint a b c e found is told so =
      adds_then (IsCopy number cells hint) (λ es. es ≡ took e found ∷ [])
      (IsCopy number cells hint) a b c
      (λ xs ys copy one. copy_with xs ys copy one)
      so record { added = took e found ∷ []; told = told; fact = refl }
    where
      all_made : (ms : List Taken) → list_all (λ (t : Taken). makes_record t.event) ms ≡ true
          → list_all (λ (t : Taken). makes_record t.event) (ms ++ took e found ∷ []) ≡ true
      all_made [] are = ap (λ (b : Bool). b && true) is
      all_made (t ∷ ms) are =
          let parts = and_parts (makes_record t.event)
          (list_all (λ (u : Taken). makes_record u.event) ms) are in
          ap (λ (b : Bool). b && list_all (λ (u : Taken). makes_record u.event)
          (ms ++ took e found ∷ [])) parts.0 ∙ all_made ms parts.1

      tries_on : (h : Option ℕ) (xs ys : List Taken)
          → IfSome h (λ cell. cell < cells → TryFirst number cell xs)
          → IfSome h (λ cell. cell < cells → TryFirst number cell (xs ++ ys))
      tries_on (Some cell) xs ys tried = λ lt. record {
        control = (tried lt).control;
        found = (tried lt).found;
        rest = (tried lt).rest ++ ys;
        split = ap (λ (zs : List Taken). zs ++ ys) (tried lt).split;
      }
      tries_on None xs ys tried = tt

      copy_with : (xs ys : List Taken) → IsCopy number cells hint xs → ys ≡ took e found ∷ []
          → IsCopy number cells hint (xs ++ ys)
      copy_with xs ys copy one =
          let claim = took (event.Claim number copy.cell) (finds.Colour colour.Blue) in record {
            sought = copy.sought;
            cell = copy.cell;
            made = copy.made ++ took e found ∷ [];
            split = (λ i. copy.split i ++ one i)
                ∙ append_assoc copy.sought (claim ∷ copy.made) (took e found ∷ []);
            seeks = copy.seeks;
            makes = all_made copy.made copy.makes;
            tries = tries_on hint xs ys copy.tries;
          }

  -- The loop over the records.

  abbrev pub CopiesBelow : List (Option ℕ) → List Bool → ℕ → Bound P → Bound P → Type 0
  CopiesBelow hints marks n a b =
      Adds (AreCopies a.seat.me.number a.seat.me.shape.cells (hints_below hints marks n)) a b

  pub none_below : (hints : List (Option ℕ)) (marks : List Bool) (n : ℕ) (a : Bound P)
      → ((k : ℕ) → slice_index_or marks k false ≡ true → n ≤ k) → CopiesBelow hints marks n a a
  none_below hints marks n a from = record {
    added = [];
    told = refl;
    fact = subst (λ (hs : List (Option ℕ)). AreCopies a.seat.me.number a.seat.me.shape.cells hs [])
        (sym (below_none hints marks n from)) refl;
  }

  pub copied_below : (given now : List (Option ℕ)) (marks : List Bool) (n : ℕ) (own : Option ℕ)
      (a b c : Bound P) → KeepHints given now → own ≡ slice_index_or now n None
      → slice_index_or marks n false ≡ true → b.seat.me.number ≡ a.seat.me.number
      → b.seat.me.shape ≡ a.seat.me.shape → CopiesBelow given marks n a b
      → Adds (IsCopy b.seat.me.number b.seat.me.shape.cells own) b c
      → CopiesBelow given marks (n + 1) a c
  copied_below given now marks n own a b c keeps own_is is number shape so copy =
      let i = a.seat.me.number in
      let cells = a.seat.me.shape.cells in
      let hint = slice_index_or given n None in
      adds_then (AreCopies i cells (hints_below given marks n))
      (IsCopy b.seat.me.number b.seat.me.shape.cells own)
      (AreCopies i cells (hints_below given marks (n + 1))) a b c
      (λ xs ys all one.
      subst (λ (hs : List (Option ℕ)). AreCopies i cells hs (xs ++ ys))
      (sym (below_more given marks n is))
      (copies_more i cells (hints_below given marks n) hint xs ys all
      (copy_as i cells hint own ys (λ cell some. own_is ∙ keeps n cell some)
      (subst (λ (k : ℕ). IsCopy k cells own ys) number
      (subst (λ (s : Shape). IsCopy b.seat.me.number s.cells own ys) shape one)))))
      so copy

  pub passed_below : (given : List (Option ℕ)) (marks : List Bool) (n : ℕ) (a b : Bound P)
      → slice_index_or marks n false ≡ false → CopiesBelow given marks n a b
      → CopiesBelow given marks (n + 1) a b
  passed_below given marks n a b is so =
      subst (λ (hs : List (Option ℕ)).
      Adds (AreCopies a.seat.me.number a.seat.me.shape.cells hs) a b)
      (sym (below_passed given marks n is)) so

  pub all_below : (given : List (Option ℕ)) (marks : List Bool) (n : ℕ) (a b : Bound P)
      → ((k : ℕ) → slice_index_or marks k false ≡ true → k < n) → CopiesBelow given marks n a b
      → Adds (AreCopies a.seat.me.number a.seat.me.shape.cells (hints_of given marks)) a b
  all_below given marks n a b below so =
      subst (λ (hs : List (Option ℕ)).
      Adds (AreCopies a.seat.me.number a.seat.me.shape.cells hs) a b)
      (below_all given marks n below) so

  -- The whole call.

  pub hinted_by : (records : List (List MinorField)) (from : List MinorRef) (marks : List Bool)
      (given : List (Option ℕ)) (before middle after : Hints) (a b : Bound P)
      → AreReached records from (marked_of 0 marks)
      → GiveAll (cells_of (queue_of before)) (counts_of before) (hints_of given marks)
      → (counts_of middle).takes ≡ (counts_of before).takes + marked_count marks
      → (counts_of middle).takes ≤ (counts_of after).takes
      → Adds (AreCopies a.seat.me.number a.seat.me.shape.cells (hints_of given marks)) a b
      → Hinted a records from before after b
  hinted_by records from marks given before middle after a b reached gives taken_is more copies =
      record {
        copied = marked_of 0 marks;
        reached = reached;
        hint = hint_at given;
        given = gives;
        takes = omega (arith, taken_is, more, count_is 0 marks);
        tried = record {
          added = copies.added;
          told = copies.told;
          fact = record {
            copying = copies.added;
            keeping = [];
            split = sym (append-nil copies.added);
            copies = copies.fact;
            keeps = All-nil (λ (t : Taken). KeepsFrom a.seat.me.number 0 t.event);
          };
        };
      }

  pub hinted_kept : (records : List (List MinorField)) (from : List MinorRef)
      (before after : Hints) (a b c : Bound P) → Hinted a records from before after b
      → Keeping a.seat.me.number 0 b c → Hinted a records from before after c
  hinted_kept records from before after a b c so kept =
      let i = a.seat.me.number in
      let By = CopyBy i a.seat.me.shape.cells (map so.hint so.copied) in
      record {
        copied = so.copied;
        reached = so.reached;
        hint = so.hint;
        given = so.given;
        takes = so.takes;
        tried = adds_then By (AreKeeping i 0) By a b c
            (λ xs ys by keeps. record {
              copying = by.copying;
              keeping = by.keeping ++ ys;
              split = ap (λ (zs : List Taken). zs ++ ys) by.split
                  ∙ append_assoc by.copying by.keeping ys;
              copies = by.copies;
              keeps = All-append (λ (t : Taken). KeepsFrom i 0 t.event) by.keeping ys by.keeps
                  keeps;
            })
            so.tried kept;
      }
