-- What lasts across a call, by its trail and its pass; and what its marks show. `lasts_then` and
-- `same_then` put two calls together.
use Rattle.std.proofs.Common.{◌≡◌, ◌≤◌, ◌+◌, ℕ, List, [], ◌∷◌, ◌++◌}
use Rattle.std.proofs.Common.{sym, ◌∙◌, ap, subst, arith}
use Rattle.std.proofs.lemmas.List.{append-nil, append_assoc}
use Rattle.cell_words.specs.declared.fields.Field.TheVariants as field
use Rattle.cell_words.specs.Term.{Term}
use Rattle.core_machine.specs.Own.{Own, no_own}
use Rattle.core_machine.specs.Trail.{own_along}
use Rattle.doc_tree.specs.Tree.{DocTree}
use Rattle.heap_rule.specs.declared.known.Known.TheVariants as knows
use Rattle.heap_rule.specs.Asks.{known_of, target}
use Rattle.mutator_seat.specs.declared.full.HeapFull.{HeapFull}
use Rattle.mutator_seat.specs.Bound.{Bound}
use Rattle.mutator_seat.specs.Stretches.{Calm}
use Rattle.trails.specs.Asks.{Ask, InOrder, Shows, gave_at}
use Rattle.trails.specs.Claims.{FindsFull, IsFull}
use Rattle.trails.specs.Marks.{Mark, marks_from, marks_of}
use Rattle.trails.specs.Stretches.{Had}
use Rattle.trails.proofs.Claims.{finds_full}
use Rattle.trails.proofs.Marks.{marks_append}
use Rattle.version_rule.specs.Fits.{Grows}
use Rattle.version_rule.specs.Pass.{Pass}
use Rattle.version_rule.proofs.Trees.{committed_grows, cutting_grows, grows_still, reading_grows}
use Rattle.version_rule.proofs.Trees.{seeing_grows}
use Rattle.version_rule.specs.declared.held.HeldVersion.{HeldVersion}
use Rattle.held_places.specs.Calls.{Goes}
use Rattle.version_store.specs.Calls.{Holds}
use Rattle.version_rule.specs.Shows.{version_asks}
use Rattle.version_store.specs.Commits.{Committed, FindsNewer, ShowsNewer}
use Rattle.version_store.specs.Held.{GivesLatest, GivesRoot, IsRecord, root_at, term_at}
use Rattle.version_store.specs.Held.{term_told}
use Rattle.version_store.specs.Lasts.{IsSameMutator, Lasts, LastsAcross, marks}
use Rattle.version_store.specs.Older.{GivesOlder, Trims}
use Rattle.held_places.proofs.Going.{calm_goes, calm_trail, goes_none, many_held}
use Rattle.held_places.proofs.ReadValues.{last_held}
use Rattle.version_store.proofs.Putting.{record_still}

-- One call after the other.

pub lasts_then : {p q r : Pass} {a b c : List Mark} {x y z : ℕ} → Lasts p q a b x y
    → Lasts q r b c y z → Lasts p r a c x z
lasts_then {a = a} first second = record {
  narrows = λ trees fits. first.narrows trees (second.narrows trees fits);
  keep = second.keep ∙ first.keep;
  seen = let one = first.seen in let two = second.seen in omega (arith, one, two);
  cut = let one = first.cut in let two = second.cut in omega (arith, one, two);
  grown = record {
    added = first.grown.added ++ second.grown.added;
    is = second.grown.is ∙ ap (λ (ms : List Mark). ms ++ second.grown.added) first.grown.is
        ∙ append_assoc a first.grown.added second.grown.added;
  };
  claims = let one = first.claims in let two = second.claims in omega (arith, one, two);
}

pub same_then : (a b c : Bound Pass) → IsSameMutator a b → IsSameMutator b c → IsSameMutator a c
same_then a b c first second = record {
  heap = second.heap ∙ first.heap;
  table = second.table ∙ first.table;
  shape = second.shape ∙ first.shape;
  role = second.role ∙ first.role;
  number = second.number ∙ first.number;
  room = second.room ∙ first.room;
  inside = second.inside ∙ first.inside;
  over = second.over ∙ first.over;
}

-- By the trail.

pub goes_same : {asks : List Ask} (a b : Bound Pass) → Goes asks a b → IsSameMutator a b
goes_same a b goes = record {
  heap = goes.heap;
  table = goes.table;
  shape = goes.shape;
  role = goes.role;
  number = goes.number;
  room = goes.room;
  inside = goes.inside;
  over = goes.over;
}

goes_marks : {asks : List Ask} (a b : Bound Pass) (goes : Goes asks a b)
    → marks b ≡ marks a ++ marks_from (own_along no_own a.seat.me.trail) goes.added
goes_marks a b goes = ap marks_of goes.trail ∙ marks_append no_own a.seat.me.trail goes.added

-- the marks of the whole trail show what the calls ask of the events
pub goes_shows : {asks : List Ask} (a b : Bound Pass)
    → a.seat.me.own ≡ own_along no_own a.seat.me.trail → Goes asks a b
    → Shows asks (marks a) (marks b)
goes_shows {asks} a b left goes = record {
  added = marks_from (own_along no_own a.seat.me.trail) goes.added;
  is = goes_marks a b goes;
  shown = subst (λ (own : Own). InOrder asks (marks_from own goes.added)) left goes.shown;
}

pub lasts_by : {asks : List Ask} (a b : Bound Pass) → Goes asks a b
    → Grows a.seat.me.pass b.seat.me.pass → a.seat.me.own.claims ≤ b.seat.me.own.claims
    → LastsAcross a b
lasts_by a b goes grows claims = record {
  narrows = grows.narrows;
  keep = grows.keep;
  seen = grows.seen;
  cut = grows.cut;
  grown = record {
    added = marks_from (own_along no_own a.seat.me.trail) goes.added;
    is = goes_marks a b goes;
  };
  claims = claims;
}

pub lasts_still : (a : Bound Pass) → LastsAcross a a
lasts_still a = lasts_by a a (goes_none a) (grows_still a.seat.me.pass) (omega arith)

pub same_still : (a : Bound Pass) → IsSameMutator a a
same_still a = goes_same a a (goes_none a)

grows_as : (p q r : Pass) → r ≡ q → Grows p q → Grows p r
grows_as p q r is grows = subst (Grows p) (sym is) grows

-- Each call.

pub latest_lasts : (a b : Bound Pass) (v : HeldVersion) → GivesLatest a b v → LastsAcross a b
latest_lasts a b v gives =
    lasts_by a b gives.goes
    (grows_as a.seat.me.pass _ b.seat.me.pass gives.pass (seeing_grows v.number a.seat.me.pass))
    (let same = gives.claims in omega (arith, same))

pub latest_shows : (a b : Bound Pass) (v : HeldVersion)
    → a.seat.me.own ≡ own_along no_own a.seat.me.trail → GivesLatest a b v
    → Shows (version_asks (target b.seat.me v.place) v.number) (marks a) (marks b)
latest_shows a b v left gives =
    subst (λ (x : ℕ). Shows (version_asks x v.number) (marks a) (marks b))
    (sym (ap (λ (n : ℕ). target b.seat.me n) gives.place_is
    ∙ last_held a b gives.cell gives.holds.held))
    (goes_shows a b left gives.goes)

module _ (is_tree : Term → Type 0) (tree_of : Term → DocTree) (a b : Bound Pass)
    (v : HeldVersion) where
  pub root_lasts : (place : ℕ) → GivesRoot is_tree tree_of a b v place → LastsAcross a b
  root_lasts place gives =
      lasts_by a b gives.goes
      (grows_as a.seat.me.pass _ b.seat.me.pass gives.pass
      (reading_grows v.number (tree_of (root_at a v.place)) a.seat.me.pass))
      (let same = gives.claims in omega (arith, same))

  pub root_shows : (place : ℕ) → a.seat.me.own ≡ own_along no_own a.seat.me.trail
      → GivesRoot is_tree tree_of a b v place
      → Shows (gave_at (target a.seat.me v.place) 1 (field.Cell (target b.seat.me place)) ∷ [])
      (marks a) (marks b)
  root_shows place left gives =
      subst (λ (x : ℕ). Shows (gave_at (target a.seat.me v.place) 1 (field.Cell x) ∷ []) (marks a)
      (marks b))
      (sym (ap (λ (n : ℕ). target b.seat.me n) gives.place_is
      ∙ last_held a b gives.cell gives.holds.held))
      (goes_shows a b left gives.goes)

  pub made_lasts : (tree : ℕ) → Committed is_tree tree_of a b v tree
      → b.seat.me.own.claims ≡ a.seat.me.own.claims + 1 → LastsAcross a b
  made_lasts tree made claims =
      lasts_by a b made.goes
      (grows_as a.seat.me.pass _ b.seat.me.pass made.pass
      (committed_grows (v.number + 1) (tree_of (root_at a v.place)) (tree_of (term_at a tree))
      a.seat.me.pass (let le = made.not_below in omega (arith, le))))
      (omega (arith, claims))

pub newer_lasts : (a b : Bound Pass) (v : HeldVersion) (newer : ℕ) → FindsNewer a b v newer
    → a.seat.me.own.claims ≤ b.seat.me.own.claims → LastsAcross a b
newer_lasts a b v newer finds claims =
    lasts_by a b finds.goes
    (grows_as a.seat.me.pass _ b.seat.me.pass finds.pass (seeing_grows newer a.seat.me.pass))
    claims

pub newer_shows : (a b : Bound Pass) (v : HeldVersion) (newer : ℕ)
    → a.seat.me.own ≡ own_along no_own a.seat.me.trail → FindsNewer a b v newer
    → ShowsNewer a b newer
newer_shows a b v newer left finds = (finds.cell, goes_shows a b left finds.goes)

pub older_lasts : (a b : Bound Pass) (v : HeldVersion) (back : ℕ) (older : HeldVersion)
    → GivesOlder a b v back older → LastsAcross a b
older_lasts a b v back older gives =
    lasts_by a b gives.goes
    (grows_as a.seat.me.pass a.seat.me.pass b.seat.me.pass gives.pass
    (grows_still a.seat.me.pass))
    (let same = gives.claims in omega (arith, same))

pub trim_lasts : (a b : Bound Pass) (v : HeldVersion) (keep : ℕ) → Trims a b v keep
    → LastsAcross a b
trim_lasts a b v keep trims =
    lasts_by a b trims.goes
    (grows_as a.seat.me.pass _ b.seat.me.pass trims.pass
    (cutting_grows trims.cut a.seat.me.pass))
    (let same = trims.claims in omega (arith, same))

-- A claim that found the heap full.

module _ (a b : Bound Pass) (full : HeapFull)
    (calm : Calm (FindsFull a.seat.me.number a.seat.me.shape.cells full.off_duty full.began
    full.ended) a b) where
  full_goes : Goes [] a b
  full_goes = calm_goes (FindsFull a.seat.me.number a.seat.me.shape.cells full.off_duty full.began
      full.ended) a b calm

  pub full_same : IsSameMutator a b
  full_same = goes_same a b full_goes

  pub full_lasts : LastsAcross a b
  full_lasts =
      lasts_by a b full_goes
      (grows_as a.seat.me.pass a.seat.me.pass b.seat.me.pass calm.kept.pass
      (grows_still a.seat.me.pass))
      (let same = calm.kept.claims in omega (arith, same))

  pub full_shows : Had (IsFull a.seat.me.shape.cells) (marks a) (marks b)
  full_shows =
      let own = own_along no_own a.seat.me.trail in
      let stretch = marks_from own calm.added in
      record {
        before = [];
        stretch = stretch;
        after = [];
        is = ap marks_of (calm_trail (FindsFull a.seat.me.number a.seat.me.shape.cells
            full.off_duty full.began full.ended) a b calm)
            ∙ marks_append no_own a.seat.me.trail calm.added
            ∙ ap (λ (ms : List Mark). marks a ++ ms) (sym (append-nil stretch));
        meets = finds_full own a.seat.me.number a.seat.me.shape.cells full.off_duty full.began
            full.ended calm.added calm.fact;
      }

-- A record that is held is still one after every call, with the same term. Of versions that are
-- held `held_on` of Backward says so.
pub record_on : (a b : Bound Pass) (place : ℕ) (cells : List ℕ) → Holds cells a b
    → IsRecord a place → (IsRecord b place) × (term_at b place ≡ term_at a place)
record_on a b place cells holds is =
    let known = record_still (known_of a.seat.me place) (known_of b.seat.me place)
    (term_at a place) is.known (holds.known place is.there) in
    let many = many_held a b cells holds.held in
    let there = is.there in (
      record {
        there = omega (arith, many, there);
        known = known ∙ ap knows.Record (sym (ap term_told known));
      },
      ap term_told known,
    )
