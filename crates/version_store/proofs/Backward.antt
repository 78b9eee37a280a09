-- The walk back along links, and what is made of it.
use Rattle.std.proofs.Common.{◌≡◌, ◌<◌, ◌≤◌, ◌+◌, ◌-◌, ℕ, List, [], ◌∷◌, ◌++◌, length, max}
use Rattle.std.proofs.Common.{get_or, take, sym, ◌∙◌, ap, subst, arith}
use Rattle.std.proofs.lemmas.List.{append-nil, append_assoc}
use Rattle.std.proofs.lemmas.List.{length-append}
use Rattle.std.proofs.lemmas.List.{take_at}
use Rattle.cell_words.specs.declared.fields.Field.TheVariants as field
use Rattle.core_machine.specs.declared.events.Event.TheVariants as event
use Rattle.core_machine.specs.declared.events.Found.{Found}
use Rattle.core_machine.specs.declared.events.Found.TheVariants as finds
use Rattle.heap_rule.specs.declared.known.Known.{Known}
use Rattle.heap_rule.specs.declared.known.Learned.{Learned}
use Rattle.heap_rule.specs.Asks.{MayKeep}
use Rattle.mutator_seat.specs.Bound.{Bound, held_cells, takes}
use Rattle.version_rule.specs.Knowing.{IsVersionKnown, link_seen}
use Rattle.version_rule.specs.Pass.{Pass, seeing}
use Rattle.version_rule.specs.declared.held.HeldVersion.{HeldVersion}
use Rattle.held_places.specs.Calls.{IsIn}
use Rattle.version_store.specs.Calls.{Holds, StaysKnown}
use Rattle.version_store.specs.Commits.{FindsNewer}
use Rattle.version_store.specs.Held.{GivesLatest, IsHeld}
use Rattle.version_store.specs.Older.{GivesOlder}
use Rattle.version_store.specs.Reads.{FindsNumber}
use Rattle.version_store.specs.Walks.{EndsThere, FollowsLink, Stopped, Walked}
use Rattle.held_places.proofs.Going.{cut_claims, cut_goes, cut_held, cut_known, cut_pass}
use Rattle.held_places.proofs.Going.{in_still}
use Rattle.held_places.proofs.Going.{goes_late, goes_none, goes_on, goes_then}
use Rattle.held_places.proofs.Going.{known_below, known_then, many_cells, many_held}
use Rattle.held_places.proofs.Narrowing.{keep_cells, keep_goes, keep_last, keep_stays}
use Rattle.version_store.proofs.Remaining.{version_still}
use Rattle.version_rule.specs.Versions.{is_fixed}

-- The steps.

-- a version that is held is still held after a read
pub held_on : (a b : Bound Pass) (v : HeldVersion) (cells : List ℕ) → Holds cells a b
    → IsHeld a v → IsHeld b v
held_on a b v cells holds is = record {
  root = is.root;
  knows = version_still (length a.seat.me.own.held) cells a b holds.known holds.held
      v.place v.number is.root is.knows.there is.knows;
}

pub walk_starts : (a b : Bound Pass) (v : HeldVersion) (number : ℕ) → IsHeld a v
    → FindsNumber a b v.place number → Walked a b v v 0
walk_starts a b v number is read =
    record {
      goes = goes_on (goes_none a) read.read.goes;
      cells = [];
      held = read.read.holds.held;
      few = omega arith;
      known = read.read.holds.known;
      at_is = held_on a b v [] read.read.holds is;
      number_is = omega arith;
      pass = read.pass;
      claims = read.read.claims;
      many = read.read.many;
      keeps_some = read.keeps_some;
      keeps_few = read.keeps_few;
    }

pub walk_on : (a b c : Bound Pass) (v at before : HeldVersion) (steps : ℕ) → Walked a b v at steps
    → FollowsLink b c at before → Walked a c v before (steps + 1)
walk_on a b c v at before steps walked step = record {
  goes = goes_then walked.goes step.goes;
  cells = walked.cells ++ step.cell ∷ [];
  held = step.holds.held ∙ ap (λ (cs : List ℕ). cs ++ step.cell ∷ []) walked.held
      ∙ append_assoc (held_cells a) walked.cells (step.cell ∷ []);
  few =
      let many = length-append walked.cells (step.cell ∷ []) in
      let few = walked.few in omega (arith, many, few);
  known = known_then is_fixed (length a.seat.me.own.held) a b c walked.known
      (known_below is_fixed (length b.seat.me.own.held) (length a.seat.me.own.held) b c
      (let many = many_held a b walked.cells walked.held in omega (arith, many))
      step.holds.known);
  at_is = step.held;
  number_is =
      let one = step.number_is in
      let all = walked.number_is in omega (arith, one, all);
  pass = step.pass ∙ walked.pass;
  claims = step.claims ∙ walked.claims;
  many = step.many;
  keeps_some = walked.keeps_some;
  keeps_few = walked.keeps_few;
}

pub walk_stops : (next : Learned → Found → Pass → Pass) (a b c : Bound Pass) (v at : HeldVersion)
    (steps all : ℕ) → steps < all → Walked a b v at steps → EndsThere next b c at
    → Stopped next a c v all
walk_stops next a b c v at steps all lt walked end = record {
  goes = goes_then walked.goes end.goes;
  cells = walked.cells;
  held = end.holds.held ∙ append-nil (held_cells b) ∙ walked.held;
  few = let few = walked.few in omega (arith, few, lt);
  known = known_then is_fixed (length a.seat.me.own.held) a b c walked.known
      (known_below is_fixed (length b.seat.me.own.held) (length a.seat.me.own.held) b c
      (let many = many_held a b walked.cells walked.held in omega (arith, many))
      end.holds.known);
  number = at.number;
  within = let is = walked.number_is in omega (arith, is);
  near = let is = walked.number_is in omega (arith, is, lt);
  tells = end.tells;
  told = end.told;
  pass = end.pass ∙ ap (λ (p : Pass). next end.tells (finds.Field field.Null) p) walked.pass;
  claims = end.claims ∙ walked.claims;
  keeps_few = walked.keeps_few;
}

-- The older version.

pub gives_older : (a b c : Bound Pass) (v at : HeldVersion) (back n : ℕ) (p : Found)
    → n ≡ length a.seat.me.own.held → Walked a b v at back
    → c ≡ takes b (event.Keep b.seat.me.number n at.place 1) p
    → GivesOlder a c v back (record { number = at.number; place = n })
gives_older a b c v at back n p is walked told =
    let there = walked.at_is.knows.there in
    let longer = many_held a b walked.cells walked.held in
    let some : n ≤ length b.seat.me.own.held = omega (arith, is, longer) in
    let cells = keep_cells b c n at.place p told there some walked.many in
    let front : take n (held_cells b) ≡ held_cells a =
    ap (take n) walked.held ∙ take_at (held_cells a) walked.cells n (many_cells a ∙ sym is) in
    let cell = get_or (held_cells b) at.place 0 in
    let held : held_cells c ≡ held_cells a ++ cell ∷ [] =
    cells ∙ ap (λ (cs : List ℕ). cs ++ cell ∷ []) front in
    record {
      cell = cell;
      goes = goes_then walked.goes (keep_goes b c n at.place p told);
      holds = record {
        held = held;
        known = known_then is_fixed (length a.seat.me.own.held) a b c walked.known
            (subst (λ (k : ℕ). StaysKnown k b c) is
            (keep_stays b c n at.place p told there some walked.many is_fixed));
      };
      place_is = is;
      number_is = walked.number_is;
      held = record {
        root = walked.at_is.root;
        knows = record {
          there = let many = many_held a c (cell ∷ []) held in omega (arith, many, is);
          known = subst (λ (k : Known). IsVersionKnown k at.number walked.at_is.root)
              (sym (keep_last b c n at.place p told there some walked.many))
              walked.at_is.knows.known;
        };
      };
      pass = ap (λ (m : Bound Pass). m.seat.me.pass) told ∙ walked.pass;
      claims = ap (λ (m : Bound Pass). m.seat.me.own.claims) told ∙ walked.claims;
    }

-- The pass saw that there are so many, and then the newest.
seen_twice : (low high : ℕ) (p : Pass) → low ≤ high → seeing high (seeing low p) ≡ seeing high p
seen_twice low high p le =
    ap (λ (n : ℕ). record p { seen = n })
    (let e : max (max p.seen low) high ≡ max p.seen high = omega (arith, le) in e)

pub cut_newer : (a b c d : Bound Pass) (v newest : HeldVersion) (back n : ℕ) (p : Found)
    → back < a.seat.me.pass.keep → Stopped link_seen a b v back → GivesLatest b c newest
    → d ≡ takes c (event.Keep c.seat.me.number n 0 0) p
    → FindsNewer a d v newest.number
cut_newer a b c d v newest back n p kept stopped latest told =
    let least = stopped.number + a.seat.me.pass.keep - 1 in
    let pass : b.seat.me.pass ≡ seeing least a.seat.me.pass = stopped.pass
    ∙ ap (λ (k : ℕ). seeing (k + a.seat.me.pass.keep - 1) a.seat.me.pass) stopped.told in
    let seen : b.seat.me.pass.seen ≡ max a.seat.me.pass.seen least =
    ap (λ (q : Pass). q.seen) pass in
    let above = latest.not_below in
    let near = stopped.near in
    record {
      cell = latest.cell;
      goes = goes_on (goes_late stopped.goes latest.goes) (cut_goes c d n p told);
      is_newer = omega (arith, seen, above, near, kept);
      not_below = omega (arith, seen, above);
      pass = cut_pass c d n p told ∙ latest.pass
          ∙ ap (λ (q : Pass). seeing newest.number q) pass
          ∙ seen_twice least newest.number a.seat.me.pass (omega (arith, seen, above));
    }

pub cut_back : (a b c d : Bound Pass) (v newest : HeldVersion) (back n : ℕ) (p : Found)
    → n ≡ length a.seat.me.own.held → Stopped link_seen a b v back → GivesLatest b c newest
    → d ≡ takes c (event.Keep c.seat.me.number n 0 0) p → Holds [] a d
cut_back a b c d v newest back n p is stopped latest told =
    let held : held_cells c ≡ held_cells a ++ (stopped.cells ++ latest.cell ∷ []) =
    latest.holds.held ∙ ap (λ (cs : List ℕ). cs ++ latest.cell ∷ []) stopped.held
    ∙ append_assoc (held_cells a) stopped.cells (latest.cell ∷ []) in
    record {
      held = cut_held c d n p told a (stopped.cells ++ latest.cell ∷ []) is held;
      known = known_then is_fixed (length a.seat.me.own.held) a b d stopped.known
          (known_then is_fixed (length a.seat.me.own.held) b c d
          (known_below is_fixed (length b.seat.me.own.held) (length a.seat.me.own.held) b c
          (let many = many_held a b stopped.cells stopped.held in omega (arith, many))
          latest.holds.known)
          (subst (λ (k : ℕ). StaysKnown k c d) is (cut_known is_fixed c d n p told)));
    }

pub cut_back_claims : {next : Learned → Found → Pass → Pass} (a b c d : Bound Pass)
    (v newest : HeldVersion) (back n : ℕ) (p : Found) → Stopped next a b v back
    → GivesLatest b c newest → d ≡ takes c (event.Keep c.seat.me.number n 0 0) p
    → d.seat.me.own.claims ≡ a.seat.me.own.claims
cut_back_claims a b c d v newest back n p stopped latest told =
    cut_claims c d n p told ∙ latest.claims ∙ stopped.claims

pub stopped_in : {next : Learned → Found → Pass → Pass} (a b : Bound Pass) (v : HeldVersion)
    (back : ℕ) → IsIn a → Stopped next a b v back → IsIn b
stopped_in a b v back is stopped = in_still a b stopped.cells [] is stopped.goes stopped.held

-- there is room for a further step
pub walked_room : (a b : Bound Pass) (v at : HeldVersion) (steps back : ℕ) → Walked a b v at steps
    → steps < back → back ≤ a.seat.me.pass.keep
    → length a.seat.me.own.held + 128 ≤ a.seat.me.room
    → length b.seat.me.own.held < b.seat.me.room
walked_room a b v at steps back walked lt kept room =
    let more = many_held a b walked.cells walked.held in
    let same = walked.goes.room in
    let few = walked.few in
    let keeps = walked.keeps_few in
    omega (arith, more, same, few, keeps, lt, kept, room)

pub walked_some_room : (a b : Bound Pass) (v at : HeldVersion) (steps : ℕ) → Walked a b v at steps
    → steps ≤ a.seat.me.pass.keep → length a.seat.me.own.held + 128 ≤ a.seat.me.room
    → length b.seat.me.own.held + 1 < b.seat.me.room
walked_some_room a b v at steps walked kept room =
    let more = many_held a b walked.cells walked.held in
    let same = walked.goes.room in
    let few = walked.few in
    let keeps = walked.keeps_few in
    omega (arith, more, same, few, keeps, kept, room)

pub stopped_room : {next : Learned → Found → Pass → Pass} (a b : Bound Pass) (v : HeldVersion)
    (back : ℕ) → Stopped next a b v back → back < a.seat.me.pass.keep
    → length a.seat.me.own.held + 128 ≤ a.seat.me.room
    → length b.seat.me.own.held + 1 < b.seat.me.room
stopped_room a b v back stopped kept room =
    let more = many_held a b stopped.cells stopped.held in
    let same = stopped.goes.room in
    let few = stopped.few in
    let keeps = stopped.keeps_few in
    omega (arith, more, same, few, keeps, kept, room)

-- the version that the walk began with is still held after it
pub walked_held : (a b : Bound Pass) (v at : HeldVersion) (steps : ℕ) → Walked a b v at steps
    → IsHeld a v → IsHeld b v
walked_held a b v at steps walked is = record {
  root = is.root;
  knows = version_still (length a.seat.me.own.held) walked.cells a b walked.known
      walked.held v.place v.number is.root is.knows.there is.knows;
}

pub may_keep : (a b : Bound Pass) (v at : HeldVersion) (back n : ℕ) → n ≡ length a.seat.me.own.held
    → IsIn a → length a.seat.me.own.held + 128 ≤ a.seat.me.room → Walked a b v at back
    → MayKeep b.seat.me n at.place 1
may_keep a b v at back n is inside room walked =
    let more = many_held a b walked.cells walked.held in
    let same = walked.goes.room in
    let some = inside.some in
    let there = walked.at_is.knows.there in
    record {
      inside = walked.goes.inside ∙ inside.inside;
      some = omega (arith, is, some);
      kept = omega (arith, is, more);
      copied = omega (arith, there);
      room = omega (arith, is, same, room);
    }
