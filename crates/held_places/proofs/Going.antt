-- How calls follow one another: the trail, the held list, and what is known of it.
use Rattle.std.proofs.Common.{◌≡◌, ◌<◌, ◌≤◌, ◌+◌, ℕ, Bool, true, List, [], ◌∷◌, ◌++◌, length}
use Rattle.std.proofs.Common.{get_or, take}
use Rattle.std.proofs.Common.{refl, sym, ◌∙◌, ap, subst, arith}
use Rattle.std.proofs.lemmas.List.{append_assoc, append-nil, get_or-take, get_or_append_left}
use Rattle.std.proofs.lemmas.List.{length-append, length-map, take-map, take_at}
use Rattle.core_machine.specs.declared.events.Event.{Event}
use Rattle.core_machine.specs.declared.events.Event.TheVariants as event
use Rattle.core_machine.specs.declared.events.Found.{Found}
use Rattle.core_machine.specs.declared.events.Taken.{Taken}
use Rattle.core_machine.specs.declared.places.Held.{Held}
use Rattle.core_machine.specs.Own.{Own, presence_after}
use Rattle.core_machine.specs.Trail.{own_along}
use Rattle.heap_rule.specs.declared.known.Known.{Known}
use Rattle.heap_rule.specs.declared.known.Known.TheVariants as knows
use Rattle.heap_rule.specs.declared.known.Learned.{Learned}
use Rattle.heap_rule.specs.declared.view.View.{View}
use Rattle.heap_rule.specs.Asks.{known_of, target}
use Rattle.heap_rule.specs.Lore.{cells_in, known_at}
use Rattle.heap_rule.specs.Rule.{told, took}
use Rattle.heap_rule.proofs.Reading.{cell_there}
use Rattle.mutator_seat.specs.Bound.{Bound, held_cells, takes}
use Rattle.mutator_seat.specs.Stretches.{Calm, Kept, takes_all}
use Rattle.trails.specs.Asks.{Ask, InOrder, nothing}
use Rattle.trails.specs.Marks.{Mark, mark_of, marks_from}
use Rattle.trails.proofs.Marks.{marks_append, own_append}
use Rattle.trails.proofs.Orders.{order_after, order_append, order_back}
use Rattle.held_places.specs.Calls.{Goes, Holds, IsIn, StaysKnown, StillKnown}
use Rattle.held_places.specs.Calls.{known_fresh, settled}

-- Trails.

pub goes_none : {P : Type 0} (a : Bound P) → Goes [] a a
goes_none a = record {
  heap = refl;
  table = refl;
  shape = refl;
  role = refl;
  number = refl;
  room = refl;
  inside = refl;
  over = refl;
  added = [];
  trail = sym (append-nil a.seat.me.trail);
  own = refl;
  shown = nothing;
}

pub goes_then : {P : Type 0} {xs ys : List Ask} {a b c : Bound P} → Goes xs a b → Goes ys b c
    → Goes (xs ++ ys) a c
goes_then {xs = xs} {ys = ys} {a = a} {b = b} first second = record {
  heap = second.heap ∙ first.heap;
  table = second.table ∙ first.table;
  shape = second.shape ∙ first.shape;
  role = second.role ∙ first.role;
  number = second.number ∙ first.number;
  room = second.room ∙ first.room;
  inside = second.inside ∙ first.inside;
  over = second.over ∙ first.over;
  added = first.added ++ second.added;
  trail = second.trail ∙ ap (λ (ts : List Taken). ts ++ second.added) first.trail
      ∙ append_assoc a.seat.me.trail first.added second.added;
  own = second.own ∙ ap (λ (o : Own). own_along o second.added) first.own
      ∙ sym (own_append a.seat.me.own first.added second.added);
  shown = subst (λ (ms : List Mark). InOrder (xs ++ ys) ms)
      (sym (marks_append a.seat.me.own first.added second.added))
      (order_append (marks_from a.seat.me.own first.added) first.shown
      (subst (λ (o : Own). InOrder ys (marks_from o second.added)) first.own second.shown));
}

-- the same events, for other reads that are asked for
goes_as : {P : Type 0} {xs : List Ask} {a b : Bound P} (ys : List Ask) (goes : Goes xs a b)
    → InOrder ys (marks_from a.seat.me.own goes.added) → Goes ys a b
goes_as ys goes shown = record {
  heap = goes.heap;
  table = goes.table;
  shape = goes.shape;
  role = goes.role;
  number = goes.number;
  room = goes.room;
  inside = goes.inside;
  over = goes.over;
  added = goes.added;
  trail = goes.trail;
  own = goes.own;
  shown = shown;
}

-- what the first call showed is not asked for
pub goes_late : {P : Type 0} {xs ys : List Ask} {a b c : Bound P} → Goes xs a b → Goes ys b c
    → Goes ys a c
goes_late {xs = xs} {ys = ys} {a = a} first second =
    let both = goes_then first second in
    goes_as ys both (order_back xs ys (marks_from a.seat.me.own both.added) both.shown)

-- nor what the second call showed
pub goes_on : {P : Type 0} {xs ys : List Ask} {a b c : Bound P} → Goes xs a b → Goes ys b c
    → Goes xs a c
unfolding goes_then
goes_on {xs = xs} {a = a} first second =
    goes_as xs (goes_then first second)
    (subst (λ (ms : List Mark). InOrder xs ms)
    (sym (marks_append a.seat.me.own first.added second.added))
    (order_after (marks_from (own_along a.seat.me.own first.added) second.added) first.shown))

-- one event that leaves the presence
pub goes_told : {P : Type 0} (a b : Bound P) (asks : List Ask) (e : Event) (found : Found)
    (tells : Learned)
    (pass : P) → b.heap ≡ a.heap → b.seat.table ≡ a.seat.table
    → b.seat.me ≡ told a.seat.me e found tells pass
    → presence_after a.seat.me.presence e found ≡ a.seat.me.presence
    → InOrder asks (mark_of a.seat.me.own e found) → Goes asks a b
goes_told {P = P} a b asks e found tells pass heap table new same shown = record {
  heap = heap;
  table = table;
  shape = ap (λ (v : View P). v.shape) new;
  role = ap (λ (v : View P). v.role) new;
  number = ap (λ (v : View P). v.number) new;
  room = ap (λ (v : View P). v.room) new;
  inside = ap (λ (v : View P). v.presence.inside) new ∙ ap (λ p. p.inside) same;
  over = ap (λ (v : View P). v.presence.over) new ∙ ap (λ p. p.over) same;
  added = took e found ∷ [];
  trail = ap (λ (v : View P). v.trail) new;
  own = ap (λ (v : View P). v.own) new;
  shown = order_after [] shown;
}

-- a stretch that picked no pass

all_trail : {P : Type 0} (a : Bound P) (ts : List Taken)
    → (takes_all a ts).seat.me.trail ≡ a.seat.me.trail ++ ts
all_trail a [] = sym (append-nil a.seat.me.trail)
all_trail a (t ∷ ts) = all_trail (takes a t.event t.found) ts
    ∙ append_assoc a.seat.me.trail (t ∷ []) ts

all_own : {P : Type 0} (a : Bound P) (ts : List Taken)
    → (takes_all a ts).seat.me.own ≡ own_along a.seat.me.own ts
all_own a [] = refl
all_own a (t ∷ ts) = all_own (takes a t.event t.found) ts

pub calm_trail : {P : Type 0} (F : List Taken → Type 0) (a b : Bound P) (calm : Calm F a b)
    → b.seat.me.trail ≡ a.seat.me.trail ++ calm.added
calm_trail {P = P} F a b calm =
    ap (λ (m : Bound P). m.seat.me.trail) calm.told ∙ all_trail a calm.added

pub calm_goes : {P : Type 0} (F : List Taken → Type 0) (a b : Bound P) → Calm F a b → Goes [] a b
calm_goes {P = P} F a b calm = record {
  heap = calm.kept.heap;
  table = calm.kept.table;
  shape = calm.kept.shape;
  role = calm.kept.role;
  number = calm.kept.number;
  room = calm.kept.room;
  inside = calm.kept.inside;
  over = calm.kept.over;
  added = calm.added;
  trail = calm_trail F a b calm;
  own = ap (λ (m : Bound P). m.seat.me.own) calm.told ∙ all_own a calm.added;
  shown = nothing;
}

-- Held lists.

pub many_cells : {P : Type 0} (m : Bound P) → length (held_cells m) ≡ length m.seat.me.own.held
many_cells m = length-map m.seat.me.own.held (λ (p : Held). p.cell)

pub many_held : {P : Type 0} (a b : Bound P) (cells : List ℕ) → held_cells b ≡ held_cells a ++ cells
    → length b.seat.me.own.held ≡ length a.seat.me.own.held + length cells
many_held a b cells is =
    let there = many_cells b in
    let here = many_cells a in
    let both = ap (λ (cs : List ℕ). length cs) is ∙ length-append (held_cells a) cells in
    omega (arith, there, here, both)

pub target_still : {P : Type 0} (a b : Bound P) (cells : List ℕ)
    → held_cells b ≡ held_cells a ++ cells
    → (place : ℕ) → place < length a.seat.me.own.held
    → target b.seat.me place ≡ target a.seat.me place
target_still a b cells is place lt =
    sym (cell_there b.seat.me.own.held place)
    ∙ ap (λ (cs : List ℕ). get_or cs place 0) is
    ∙ get_or_append_left (held_cells a) cells 0 place
    (let many = many_cells a in omega (arith, many, lt))
    ∙ cell_there a.seat.me.own.held place

pub in_still : {P : Type 0} (a b : Bound P) (cells : List ℕ) (asks : List Ask) → IsIn a
    → Goes asks a b
    → held_cells b ≡ held_cells a ++ cells → IsIn b
in_still a b cells asks is goes held = record {
  inside = goes.inside ∙ is.inside;
  some = let many = many_held a b cells held in let least = is.some in omega (arith, many, least);
  anchor = target_still a b cells held 0 is.some ∙ is.anchor;
}

-- what a mutator that is in says of its places
pub comes_in : {P : Type 0} (a : Bound P) (many : ℕ) → a.seat.me.presence.inside ≡ true
    → many ≡ length a.seat.me.own.held → (a.seat.me.presence.inside ≡ true → 1 ≤ many)
    → (a.seat.me.presence.inside ≡ true → target a.seat.me 0 ≡ 0) → IsIn a
comes_in a many is len some anchor = record {
  inside = is;
  some = subst (λ (n : ℕ). 1 ≤ n) len (some is);
  anchor = anchor is;
}

-- What is known.

pub still_same : (fixed : ℕ → Bool) (k : Known) → StillKnown fixed k k
still_same fixed knows.Nothing = tt
still_same fixed (knows.Raw fields) = refl
still_same fixed (knows.Fresh fields) = refl
still_same fixed (knows.Record t) = refl
still_same fixed (knows.Boxed told) = (told, (refl, λ f t lt is e. e))

pub still_then : (fixed : ℕ → Bool) (j k l : Known) → StillKnown fixed j k → StillKnown fixed k l
    → StillKnown fixed j l
still_then fixed knows.Nothing k l first second = tt
still_then fixed (knows.Raw fields) k l first second =
    subst (λ (x : Known). StillKnown fixed x l) first second
still_then fixed (knows.Fresh fields) k l first second =
    subst (λ (x : Known). StillKnown fixed x l) first second
still_then fixed (knows.Record t) k l first second = subst
    (λ (x : Known). StillKnown fixed x l) first second
still_then fixed (knows.Boxed told) k l first second =
    let next = subst (λ (x : Known). StillKnown fixed x l) first.1.0 second in
    (next.0, (next.1.0, λ f t lt is e. next.1.1 f t lt is (first.1.1 f t lt is e)))

-- a further step, which may use what is known to be fresh
pub still_on : (fixed : ℕ → Bool) (j k l : Known) → StillKnown fixed j k
    → (known_fresh k ≡ known_fresh j → StillKnown fixed k l) → StillKnown fixed j l
still_on fixed knows.Nothing k l first next = tt
still_on fixed (knows.Raw fields) k l first next =
    still_then fixed (knows.Raw fields) k l first (next (ap known_fresh first))
still_on fixed (knows.Fresh fields) k l first next =
    still_then fixed (knows.Fresh fields) k l first (next (ap known_fresh first))
still_on fixed (knows.Record t) k l first next =
    still_then fixed (knows.Record t) k l first (next (ap known_fresh first))
still_on fixed (knows.Boxed told) k l first next =
    still_then fixed (knows.Boxed told) k l first (next (ap known_fresh first.1.0))

-- what is settled stays so
pub settled_lasts : (fixed : ℕ → Bool) (j k : Known) → settled j ≡ true → StillKnown fixed j k
    → settled k ≡ true
settled_lasts fixed knows.Nothing k is still = absurd cc
settled_lasts fixed (knows.Raw fields) k is still = absurd cc
settled_lasts fixed (knows.Fresh fields) k is still = absurd cc
settled_lasts fixed (knows.Record t) k is still = ap settled still
settled_lasts fixed (knows.Boxed told) k is still = ap settled still.1.0

pub known_then : {P : Type 0} (fixed : ℕ → Bool) (n : ℕ) (a b c : Bound P) → StaysKnown fixed n a b
    → StaysKnown fixed n b c
    → StaysKnown fixed n a c
known_then fixed n a b c first second place lt =
    still_then fixed (known_of a.seat.me place) (known_of b.seat.me place)
    (known_of c.seat.me place)
    (first place lt) (second place lt)

pub holds_then : {P : Type 0} (fixed : ℕ → Bool) (xs ys : List ℕ) (a b c : Bound P)
    → Holds fixed xs a b → Holds fixed ys b c
    → Holds fixed (xs ++ ys) a c
holds_then fixed xs ys a b c first second = record {
  held = second.held ∙ ap (λ (cs : List ℕ). cs ++ ys) first.held
      ∙ append_assoc (held_cells a) xs ys;
  known = known_then fixed (length a.seat.me.own.held) a b c first.known
      (λ place lt. second.known place
      (let many = many_held a b xs first.held in omega (arith, many, lt)));
}

-- below another end
pub known_below : {P : Type 0} (fixed : ℕ → Bool) (n k : ℕ) (a b : Bound P) → k ≤ n
    → StaysKnown fixed n a b → StaysKnown fixed k a b
known_below fixed n k a b le stays place lt = stays place (omega (arith, le, lt))

-- a stretch that kept all
pub kept_known : {P : Type 0} (fixed : ℕ → Bool) (n : ℕ) (a b : Bound P) → Kept a b
    → StaysKnown fixed n a b
kept_known fixed n a b kept place lt =
    subst (λ (k : Known). StillKnown fixed (known_of a.seat.me place) k)
    (sym (ap (λ (ks : List Known). known_at ks place) kept.known))
    (still_same fixed (known_of a.seat.me place))

pub kept_holds : {P : Type 0} (fixed : ℕ → Bool) (a b : Bound P) → Kept a b → Holds fixed [] a b
kept_holds fixed a b kept = record {
  held = kept.held ∙ sym (append-nil (held_cells a));
  known = kept_known fixed (length a.seat.me.own.held) a b kept;
}

-- Keeping the first places.

module _ {P : Type 0} (b c : Bound P) (n : ℕ) (p : Found)
    (told : c ≡ takes b (event.Keep b.seat.me.number n 0 0) p) where
  pub cut_goes : Goes [] b c
  cut_goes = goes_told b c [] (event.Keep b.seat.me.number n 0 0) p
      Rattle.heap_rule.specs.Lore.nothing_learned b.seat.me.pass
      (ap (λ (m : Bound P). m.heap) told) (ap (λ (m : Bound P). m.seat.table) told)
      (ap (λ (m : Bound P). m.seat.me) told) refl nothing

  pub cut_pass : c.seat.me.pass ≡ b.seat.me.pass
  cut_pass = ap (λ (m : Bound P). m.seat.me.pass) told

  pub cut_claims : c.seat.me.own.claims ≡ b.seat.me.own.claims
  cut_claims = ap (λ (m : Bound P). m.seat.me.own.claims) told

  pub cut_held : (a : Bound P) (cells : List ℕ) → n ≡ length a.seat.me.own.held
      → held_cells b ≡ held_cells a ++ cells → held_cells c ≡ held_cells a ++ []
  cut_held a cells many held =
      ap (λ (m : Bound P). held_cells m) told
      ∙ ap cells_in (append-nil (take n b.seat.me.own.held))
      ∙ sym (take-map (λ (p : Held). p.cell) n b.seat.me.own.held)
      ∙ ap (take n) held
      ∙ take_at (held_cells a) cells n (many_cells a ∙ sym many)
      ∙ sym (append-nil (held_cells a))

module _ {P : Type 0} (fixed : ℕ → Bool) (b c : Bound P) (n : ℕ) (p : Found)
    (told : c ≡ takes b (event.Keep b.seat.me.number n 0 0) p) where
  pub cut_known : StaysKnown fixed n b c
  cut_known place lt =
      subst (λ (k : Known). StillKnown fixed (known_of b.seat.me place) k)
      (sym (ap (λ (m : Bound P). known_of m.seat.me place) told
      ∙ ap (λ (ks : List Known). known_at ks place) (append-nil (take n b.seat.me.known))
      ∙ get_or-take n b.seat.me.known place knows.Nothing lt))
      (still_same fixed (known_of b.seat.me place))
