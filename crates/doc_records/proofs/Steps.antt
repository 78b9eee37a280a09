-- One call after another: what stands, how many places are held, and what was told.
use Rattle.std.proofs.Common.{◌≡◌, ◌∙◌, ◌+◌, ◌-◌, ◌<◌, ◌≤◌, Bool, Err, IfOk, List, None, Ok, OnOk}
use Rattle.std.proofs.Common.{Result, Some, ℕ, ap, arith, false, if◌then◌else◌, refl, subst, sym}
use Rattle.std.proofs.Common.{true}
use Rattle.std.specs.Option.{ForSome}
use Rattle.std.specs.Result.{IsErr}
use Rattle.cell_words.specs.Term.{Term, part, IsFive}
use Rattle.doc_tree.specs.Tree.{kid_count}
use Rattle.kids_avl.specs.Entries.{kids_of}
use Rattle.trails.specs.Asks.{Ask}
use Rattle.trails.specs.Marks.{Mark}
use Rattle.trails.specs.Telling.{Tells}
use Rattle.doc_records.specs.declared.pool.Part.{Part}
use Rattle.doc_records.specs.declared.pool.Part.TheVariants as parts
use Rattle.doc_records.specs.Pool.{Later, Shown, Stands, part_term, places_of}
use Rattle.doc_records.specs.Trees.{entries_of}
use Rattle.doc_records.proofs.Rows.{entry_count}

pub later_then : {A F : Type 0} {a b c : Shown A F} → Later a b → Later b c → Later a c
later_then first second = record {
  still = λ x n s low. second.still x n (first.still x n s low) (omega arith);
  now = λ x s. second.now x (first.now x s);
  same = λ x s. second.same x (first.now x s) ∙ first.same x s;
  says = λ f n s low. second.says f n (first.says f n s low) (omega arith);
  longer = omega arith;
  room = second.room ∙ first.room;
  marks = λ before begins. second.marks before (first.marks before begins);
}

pub later_none : {A F : Type 0} (s : Shown A F) → Later s s
later_none s = record {
  still = λ x n stands low. stands;
  now = λ x stands. stands;
  same = λ x stands. refl;
  says = λ f n says low. says;
  longer = omega arith;
  room = refl;
  marks = λ before begins. begins;
}

pub part_still : {A F : Type 0} (s t : Shown A F) (p : Part A) → Later s t → Stands s p
    → Stands t p
part_still s t parts.Null later is = tt
part_still s t (parts.Num n) later is = is
part_still s t (parts.Record a) later is =
    (later.now a is.0, subst IsFive (sym (later.same a is.0)) is.1)

pub part_same : {A F : Type 0} (s t : Shown A F) (p : Part A) → Later s t → Stands s p
    → part_term t.term p ≡ part_term s.term p
part_same s t parts.Null later is = refl
part_same s t (parts.Num n) later is = refl
part_same s t (parts.Record a) later is = later.same a is.0

-- a part that is read takes one place, and none if it is no record
pub place_one : {A : Type 0} (p : Part A) (old new : ℕ) → new ≤ old + places_of p → new ≤ old + 1
place_one parts.Null old new held = omega (arith, held)
place_one (parts.Num n) old new held = omega (arith, held)
place_one (parts.Record a) old new held = held

pub room_some : (n held room : ℕ) → held + (n + 1) ≤ room → held < room
room_some n held room fits = omega (arith, fits)

-- the first cell of a text that a field names, and then the others
pub text_fits : (most n h0 h1 m0 m1 : ℕ) → h0 + (most + 1) ≤ m0 → h1 ≤ h0 + 1 → m1 ≡ m0
    → n ≤ most → h1 + n ≤ m1
text_fits most n h0 h1 m0 m1 fits first room few = omega (arith, fits, first, room, few)

pub text_held : (more n h0 h1 h2 : ℕ) → h1 ≤ h0 + 1 → h2 ≤ h1 + (n - 1) → n ≤ more + 1
    → h2 ≤ h0 + (more + 1)
text_held more n h0 h1 h2 first others few = omega (arith, first, others, few)

pub part_told : (f : Term → List Ask → List Ask) (t u : Term) (a b c : List Mark) → u ≡ t
    → Tells (λ rest. rest) a b → Tells (f u) b c → Tells (f t) a c
part_told f t u a b c same first second all rest due =
    second all rest (first all (f u rest) (rw same due))

pub low_then : {A F : Type 0} {s t : Shown A F} {n : ℕ} → Later s t → n ≤ s.held → n ≤ t.held
low_then later low = omega (arith, low, later.longer)

-- a field that was read later
pub field_same : {A F : Type 0} (i : ℕ) (s t u : Shown A F) (at : A) (p : Part A) → Later s t
    → s.stands s.held at → part_term u.term p ≡ part i (t.term at)
    → part_term u.term p ≡ part i (s.term at)
field_same i s t u at p later stands is = is ∙ ap (part i) (later.same at stands)

pub some_is : {A : Type 0} (P : A → Type 0) (a : A) → P a → ForSome (Some a) P
some_is P a is = λ x e.
    let same : a ≡ x = cc in
    subst P same is

-- how many entries there are
abbrev pub row_count : Term → ℕ
row_count t = kid_count (kids_of (entries_of t))

pub row_counts : (t l r : Term) → IsFive t → l ≡ part 2 t → r ≡ part 3 t
    → row_count t ≡ row_count l + 1 + row_count r
row_counts t l r is left right = rw (left, right) (entry_count t is)

-- what is read as a text or a name, where the bytes are one
pub read_some : (b : Bool) (x y : List ℕ) → (if b then Some y else None) ≡ Some x → x ≡ y
read_some true x y is = cc
read_some false x y is = absurd (cc is)

pub read_none : (b : Bool) (y : List ℕ) → (if b then Some y else None) ≡ None → b ≡ true → ⊥
read_none true y is test = absurd (cc is)
read_none false y is test = absurd (cc test)

-- a call that gave an error owes nothing of what it would have given
pub none_owed : {T E : Type 0} (r : Result T E) (P : Type 0) → IsErr r → OnOk r P
none_owed (Ok x) P is = absurd (cc is)
none_owed (Err e) P is = tt

pub none_given : {T E : Type 0} (r : Result T E) (P : T → Type 0) → IsErr r → IfOk r P
none_given (Ok x) P is = absurd (cc is)
none_given (Err e) P is = tt

pub owed : {T E : Type 0} (r : Result T E) (P : Type 0) → P → OnOk r P
owed (Ok x) P p = p
owed (Err e) P p = tt
