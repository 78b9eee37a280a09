-- Reads along a path of fields. All that they ask of a single read stands in the first lemmas.
use Rattle.std.proofs.Common.{◌≡◌, ◌≤◌, ◌<◌, ◌+◌, ◌++◌, ◌∷◌, ◌∙◌, [], ℕ, List, Ok, Err}
use Rattle.std.proofs.Common.{◌⊎◌, ap, arith}
use Rattle.std.proofs.Common.{drop, get_or, inl, inr, length, refl, suc, subst, sym, take}
use Rattle.std.proofs.Math.Seq.{split_at}
use Rattle.std.specs.declared.result.Result.{Result}
use Rattle.std.proofs.lemmas.List.{take_more}
use Rattle.heap_c.specs.Calls.{IsIn}
use Rattle.heap_c.specs.Holding.{AtPlace, Held, Mutator, StillLocal, turns_of}
use Rattle.local_records.specs.Local.{Local}
use Rattle.heap_c.specs.Records.{GetsField, ReadsVal}
use Rattle.heap_c.specs.Refusing.{held_of}
use Rattle.heap_c.specs.Walking.{Follows, MayStay, Stops}
use Rattle.heap_c.specs.declared.codes.Code.{Code}
use Rattle.heap_c.specs.declared.codes.Code.TheVariants as code
use Rattle.heap_c.specs.declared.values.HeapVal.{HeapVal}
use Rattle.heap_c.proofs.Lengths.{gave_longer}

-- A read.

mutator_is : (a b : Mutator) → b.owned.held ≡ a.owned.held → StillLocal a b → b ≡ a
mutator_is a b held still =
    subst (λ (h : Held). b ≡ record {
      owned = record { held = h; local = a.owned.local };
      steady = a.steady;
    }) held
    (subst (λ (l : Local). b ≡ record {
      owned = record { held = b.owned.held; local = l };
      steady = a.steady;
    }) still.0
    (subst (λ (n : ℕ). b ≡ record {
      owned = b.owned;
      steady = n;
    }) still.1 refl))

abbrev answer : HeapVal → Result HeapVal Code
answer val = Ok val

abbrev refusal : Code → Result HeapVal Code
refusal c = Err c

not_refused : (val : HeapVal) (c : Code) → answer val ≡ refusal c → ⊥
not_refused val c is = absurd cc

-- one that is refused changes nothing
at_refused : (a b : Mutator) (n f : ℕ) (c : Code)
    → AtPlace a b n (refusal c ≡ refusal code.BadPlace)
    (λ place. ReadsVal (turns_of a) a.owned.held b.owned.held place f (Err c) × StillLocal a b)
    → b ≡ a
at_refused a b n f c (inl at) = mutator_is a b at.1.1.0.1 at.1.1.1
at_refused a b n f c (inr none) = none.1.1

pub get_refused : (a b : Mutator) (of : HeapVal) (f : ℕ) (c : Code)
    → GetsField a b of f (Err c) → b ≡ a
get_refused a b of f c (inl shared) = at_refused a b of.n f c shared.1
get_refused a b of f c (inr own) = own.1.1

module _ (a b : Mutator) (of : HeapVal) (f : ℕ) (found : HeapVal) where
  -- of a cell at a place, or of a private record
  abbrev Got : Type 0
  Got = ((place : ℕ) × (ReadsVal (turns_of a) a.owned.held b.owned.held place f (Ok found)
      × StillLocal a b)) ⊎ (IsIn a.owned.held × (b ≡ a))

  got_at : AtPlace a b of.n (answer found ≡ refusal code.BadPlace)
      (λ place. ReadsVal (turns_of a) a.owned.held b.owned.held place f (Ok found)
      × StillLocal a b) → Got
  got_at (inl at) = inl (at.0, at.1.1)
  got_at (inr none) = absurd (not_refused found code.BadPlace none.1.0)

  got_of : GetsField a b of f (Ok found) → Got
  got_of (inl shared) = got_at shared.1
  got_of (inr own) = inr (own.1.0.0, own.1.1)

  got_local : Got → b.owned.local ≡ a.owned.local
  got_local (inl at) = at.1.1.0
  got_local (inr own) = ap (λ (m : Mutator). m.owned.local) own.1

  got_in : Got → IsIn a.owned.held
  got_in (inl at) = at.1.0.1.1.0.0
  got_in (inr own) = own.0

  got_inside : Got → IsIn b.owned.held
  got_inside (inl at) = at.1.0.1.1.1.0.was_read.goes.inside ∙ at.1.0.1.1.0.0
  got_inside (inr own) =
      ap (λ (m : Mutator). m.owned.held.bound.seat.me.presence.inside) own.1 ∙ own.0

  got_longer : Got → held_of a.owned.held ≤ held_of b.owned.held
  got_longer (inl at) =
      gave_longer a.owned.held.bound b.owned.held.bound at.0 f at.1.0.0 at.1.0.1.1.1.0
  got_longer (inr own) =
      let same = ap (λ (m : Mutator). held_of m.owned.held) own.1 in omega (arith, same)

  -- the first places may still be kept alone
  get_stays : (n : ℕ) → MayStay n a.owned → GetsField a b of f (Ok found) → MayStay n b.owned
  get_stays n stays gets =
      let got = got_of gets in
      record {
        inside = λ more. got_inside got;
        some = λ inside. stays.some (got_in got);
        within = let within = stays.within in
            let longer = got_longer got in omega (arith, within, longer);
        named = subst (λ (l : Local). l.named ≤ n)
            (sym (got_local got)) stays.named;
      }

-- Reads one after the other.

pub follows_stay : (n : ℕ) (a : Mutator) (of : HeapVal) (path : List ℕ) (b : Mutator)
    (found : HeapVal) → MayStay n a.owned → Follows a of path b found → MayStay n b.owned
follows_stay n a of [] b found stays follows =
    subst (λ (m : Mutator). MayStay n m.owned) (sym follows.0) stays
follows_stay n a of (f ∷ path) b found stays follows =
    follows_stay n follows.0 follows.1.0 path b found
    (get_stays a follows.0 of f follows.1.0 n stays follows.1.1.0) follows.1.1.1

follows_more : (a : Mutator) (of : HeapVal) (path : List ℕ) (b : Mutator) (at : HeapVal) (f : ℕ)
    (c : Mutator) (found : HeapVal) → Follows a of path b at → GetsField b c at f (Ok found)
    → Follows a of (path ++ f ∷ []) c found
follows_more a of [] b at f c found follows got = (
  c,
  (
    found,
    (
      subst (λ (m : Mutator). GetsField m c of f (Ok found)) follows.0
          (subst (λ (v : HeapVal). GetsField b c v f (Ok found)) follows.1 got),
      (refl, refl),
    ),
  ),
)
follows_more a of (g ∷ path) b at f c found follows got = (
  follows.0,
  (
    follows.1.0,
    (
      follows.1.1.0,
      follows_more follows.0 follows.1.0 path b at f c found follows.1.1.1 got,
    ),
  ),
)

-- of the next field of a path
pub follows_next : (a : Mutator) (of : HeapVal) (path : List ℕ) (i d : ℕ) (b : Mutator)
    (at : HeapVal) (c : Mutator) (found : HeapVal) → i < length path
    → Follows a of (take i path) b at → GetsField b c at (get_or path i d) (Ok found)
    → Follows a of (take (i + 1) path) c found
follows_next a of path i d b at c found lt follows got =
    subst (λ (p : List ℕ). Follows a of p c found) (sym (take_more path i d lt))
    (follows_more a of (take i path) b at (get_or path i d) c found follows got)

-- or the next one is refused
pub stops_next : (a : Mutator) (of : HeapVal) (path : List ℕ) (i d : ℕ) (b : Mutator)
    (at : HeapVal) (c : Mutator) (code : Code) → i < length path
    → Follows a of (take i path) b at → GetsField b c at (get_or path i d) (Err code)
    → Stops a of path c code
stops_next a of path i d b at c code lt follows got =
    let same = get_refused b c at (get_or path i d) code got in
    record {
      before = take i path;
      f = get_or path i d;
      after = drop (suc i) path;
      at = at;
      path_is = split_at path i d lt;
      followed = subst (λ (m : Mutator). Follows a of (take i path) m at) (sym same) follows;
      refused = subst (λ (m : Mutator). GetsField m c at (get_or path i d) (Err code)) (sym same)
          got;
    }

pub stops_stay : (n : ℕ) (a : Mutator) (of : HeapVal) (path : List ℕ) (b : Mutator) (c : Code)
    → MayStay n a.owned → Stops a of path b c → MayStay n b.owned
stops_stay n a of path b c stays stops =
    follows_stay n a of stops.before b stops.at stays stops.followed
