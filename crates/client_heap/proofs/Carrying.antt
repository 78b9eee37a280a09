-- How calls carry on what stands, by what they tell of it.
use Rattle.std.proofs.Common.{◌≡◌, ◌<◌, ◌≤◌, ℕ, List, length, refl}
use Rattle.std.proofs.Common.{sym, ◌∙◌, ap, subst, arith}
use Rattle.client_trees.specs.declared.at.NodeAt.{NodeAt}
use Rattle.client_trees.specs.declared.at.NodeAt.TheVariants as at
use Rattle.client_trees.specs.Records.{IsAmong, IsRecord, IsSomething, known_term, stands_on}
use Rattle.client_trees.specs.Records.{term_at, terms_known}
use Rattle.client_trees.proofs.Places.{known_term_at}
use Rattle.client_trees.proofs.Resting.{rests_map, rests_same}
use Rattle.client_trees.specs.Leaves.{Leaves}
use Rattle.heap_rule.specs.Asks.{known_of}
use Rattle.heap_rule.specs.Lore.{known_at}
use Rattle.heap_rule.specs.declared.known.Known.{Known}
use Rattle.heap_rule.specs.declared.known.Known.TheVariants as knows
use Rattle.minor_heap.specs.declared.fields.MinorField.{MinorField}
use Rattle.minor_heap.specs.Nursery.{IsOrdered, Nursery}
use Rattle.mutator_seat.specs.Bound.{Bound}
use Rattle.version_rule.specs.Fits.{Grows}
use Rattle.version_rule.specs.Knowing.{IsVersionKnown}
use Rattle.version_rule.specs.Pass.{Pass}
use Rattle.version_rule.proofs.Reading.{root_known}
use Rattle.version_rule.proofs.Trees.{grows_still}
use Rattle.version_store.specs.Calls.{StaysKnown, StillKnown}
use Rattle.version_store.specs.Held.{IsHeld}
use Rattle.version_store.specs.Lasts.{IsSameMutator, LastsAcross}
use Rattle.version_rule.specs.declared.held.HeldVersion.{HeldVersion}
use Rattle.held_places.proofs.Going.{many_held}
use Rattle.version_store.proofs.Remaining.{version_known}
use Rattle.version_store.proofs.Lasting.{lasts_still, lasts_then, same_still, same_then}
use Rattle.client_heap.specs.Carries.{Carries, Follows}

-- on more places
pub stands_more : (known : List Known) (records : List (List MinorField)) (n k : ℕ) (a : NodeAt)
    → n ≤ k → stands_on known records n a → stands_on known records k a
stands_more known records n k (at.Shared p) more stands = (omega (arith, stands.0, more), stands.1)
stands_more known records n k (at.Minor r) more stands =
    rests_map records (IsAmong known n) (IsAmong known k) r
    (λ p is. (let lt : p < k = omega (arith, is.0, more) in lt, is.1)) stands

-- By places: the records among the first ones are known as before.
module _ (known other : List Known) (records : List (List MinorField))
    (ordered : IsOrdered 0 records) (places : ℕ)
    (still : (p : ℕ) → p < places → IsRecord (known_at known p)
    → known_at other p ≡ known_at known p) where
  among_still : (n p : ℕ) → n ≤ places → IsAmong known n p → IsAmong other n p
  among_still n p few is =
      (is.0, subst IsRecord (sym (still p (omega (arith, is.0, few)) is.1)) is.1)

  pub still_at : (a : NodeAt) (n : ℕ) → n ≤ places → stands_on known records n a
      → stands_on other records n a
  still_at (at.Shared p) n few stands = among_still n p few stands
  still_at (at.Minor r) n few stands =
      rests_map records (IsAmong known n) (IsAmong other n) r (λ p is. among_still n p few is)
      stands

  pub same_at : (a : NodeAt) → stands_on known records places a
      → term_at other records a ≡ term_at known records a
  same_at (at.Shared p) stands = ap known_term (still p stands.0 stands.1)
  same_at (at.Minor r) stands =
      sym (rests_same (terms_known known) (terms_known other) records (IsAmong known places)
      (λ p is. known_term_at known p ∙ ap known_term (sym (still p is.0 is.1))
      ∙ sym (known_term_at other p)) ordered r stands)

-- a record that is known is still known
pub record_same : (j k : Known) → StillKnown j k → IsRecord j → k ≡ j
record_same knows.Nothing k still is = absurd is
record_same (knows.Raw fields) k still is = absurd is
record_same (knows.Fresh fields) k still is = absurd is
record_same (knows.Record t) k still is = still
record_same (knows.Boxed told) k still is = absurd is

-- A call that leaves the private heap.
module _ (places : ℕ) (m n : Bound Pass) (minor : Nursery) (ordered : IsOrdered 0 minor.records)
    (same : IsSameMutator m n) (lasts : LastsAcross m n) (stays : StaysKnown places m n)
    (longer : places ≤ length n.seat.me.own.held) where
  version_on : (v : HeldVersion) → v.place < places → (is : IsHeld m v)
      → IsVersionKnown (known_of n.seat.me v.place) v.number is.root
  version_on v lt is =
      version_known (known_of m.seat.me v.place) (known_of n.seat.me v.place) v.number is.root
      (stays v.place lt) is.knows.known

  record_on : (p : ℕ) → p < places → IsRecord (known_at m.seat.me.known p)
      → known_at n.seat.me.known p ≡ known_at m.seat.me.known p
  record_on p lt is =
      record_same (known_of m.seat.me p) (known_of n.seat.me p) (stays p lt) is

  pub carries_known : Carries places m n minor minor
  carries_known = record {
    follows = record {
      inside = same.inside;
      room = same.room;
      cells = ap (λ s. s.cells) same.shape;
      minor_room = refl;
      same = same;
      lasts = lasts;
    };
    longer = longer;
    still = λ a few le stands. still_at m.seat.me.known n.seat.me.known minor.records ordered
        places record_on a few le stands;
    same = λ a stands. same_at m.seat.me.known n.seat.me.known minor.records ordered places
        record_on a stands;
    versions = λ v lt is. record {
      root = is.root;
      knows = record { there = omega (arith, lt, longer); known = version_on v lt is };
    };
    roots = λ v lt is. root_known (known_of n.seat.me v.place) v.number is.root
        (version_on v lt is)
        ∙ sym (root_known (known_of m.seat.me v.place) v.number is.root is.knows.known);
  }

-- A call on trees.
module _ (m n : Bound Pass) (old new : Nursery) (left : Leaves m n old new) where
  left_lasts : LastsAcross m n
  left_lasts =
      let grows : Grows m.seat.me.pass n.seat.me.pass =
      subst (Grows m.seat.me.pass) (sym left.pass) (grows_still m.seat.me.pass) in
      record {
        narrows = grows.narrows;
        keep = grows.keep;
        seen = grows.seen;
        cut = grows.cut;
        grown = left.marks;
        claims = let same = left.claims in omega (arith, same);
      }

  pub left_same : IsSameMutator m n
  left_same = record {
    heap = left.heap;
    table = left.table;
    shape = left.shape;
    role = left.role;
    number = left.number;
    room = left.room;
    inside = ap (λ p. p.inside) left.presence;
    over = ap (λ p. p.over) left.presence;
  }

  left_known : (v : HeldVersion) → (is : IsHeld m v)
      → known_of n.seat.me v.place ≡ known_of m.seat.me v.place
  left_known v is =
      left.known v.place is.knows.there (subst IsSomething (sym is.knows.known.is) tt)

  left_version : (v : HeldVersion) → (is : IsHeld m v)
      → IsVersionKnown (known_of n.seat.me v.place) v.number is.root
  left_version v is = record {
    told = is.knows.known.told;
    is = left_known v is ∙ is.knows.known.is;
    number_is = is.knows.known.number_is;
    root_is = is.knows.known.root_is;
  }

  pub carries_left : Carries (length m.seat.me.own.held) m n old new
  carries_left = record {
    follows = record {
      inside = ap (λ p. p.inside) left.presence;
      room = left.room;
      cells = ap (λ s. s.cells) left.shape;
      minor_room = left.records_room;
      same = left_same;
      lasts = left_lasts;
    };
    longer = let more = many_held m n left.added left.held in omega (arith, more);
    still = λ a few le stands. left.still a few le stands;
    same = left.same;
    versions = λ v lt is. record {
      root = is.root;
      knows = record {
        there = let more = many_held m n left.added left.held in omega (arith, more, lt);
        known = left_version v is;
      };
    };
    roots = λ v lt is. root_known (known_of n.seat.me v.place) v.number is.root
        (left_version v is)
        ∙ sym (root_known (known_of m.seat.me v.place) v.number is.root is.knows.known);
  }

-- One call after the other, and for fewer places.

pub carries_fewer : {places : ℕ} {m n : Bound Pass} {old new : Nursery} (few : ℕ) → few ≤
    places
    → Carries places m n old new → Carries few m n old new
carries_fewer {places = places} {m = m} {old = old} few le c = record {
  follows = c.follows;
  longer = let long = c.longer in omega (arith, long, le);
  still = λ a k small stands. c.still a k (omega (arith, small, le)) stands;
  same = λ a stands. c.same a (stands_more m.seat.me.known old.records few places a le stands);
  versions = λ v lt is. c.versions v (omega (arith, lt, le)) is;
  roots = λ v lt is. c.roots v (omega (arith, lt, le)) is;
}

pub follows_then : {a b c : Bound Pass} {x y z : Nursery} → Follows a b x y → Follows b c y z
    → Follows a c x z
follows_then {a = a} {b = b} {c = c} first second = record {
  inside = second.inside ∙ first.inside;
  room = second.room ∙ first.room;
  cells = second.cells ∙ first.cells;
  minor_room = second.minor_room ∙ first.minor_room;
  same = same_then a b c first.same second.same;
  lasts = lasts_then first.lasts second.lasts;
}

pub carries_then : {places : ℕ} {a b c : Bound Pass} {x y z : Nursery} → Carries places a b x y
    → Carries places b c y z → Carries places a c x z
carries_then {places = places} first second = record {
  follows = follows_then first.follows second.follows;
  longer = second.longer;
  still = λ at few le stands. second.still at few le (first.still at few le stands);
  same = λ at stands. second.same at (first.still at places (omega arith) stands)
      ∙ first.same at stands;
  versions = λ v lt is. second.versions v lt (first.versions v lt is);
  roots = λ v lt is. second.roots v lt (first.versions v lt is) ∙ first.roots v lt is;
}

pub carries_none : (m : Bound Pass) (minor : Nursery)
    → Carries (length m.seat.me.own.held) m m minor minor
carries_none m minor = record {
  follows = record {
    inside = refl;
    room = refl;
    cells = refl;
    minor_room = refl;
    same = same_still m;
    lasts = lasts_still m;
  };
  longer = omega arith;
  still = λ a few le stands. stands;
  same = λ a stands. refl;
  versions = λ v lt is. is;
  roots = λ v lt is. refl;
}
