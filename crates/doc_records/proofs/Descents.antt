-- Going down entries for a name: what is known of the side where the search goes on.
use Rattle.std.proofs.Common.{◌≡◌, ◌∙◌, ◌+◌, ◌*◌, ◌<◌, ◌≤◌, ℕ, Bool, List, true, None, ap, arith}
use Rattle.std.proofs.Common.{refl, subst, sym}
use Rattle.cell_words.specs.Term.{Term, part}
use Rattle.doc_tree.specs.Tree.{child as child_of_name, IsRising}
use Rattle.kids_avl.specs.Entries.{height_of, kids_of}
use Rattle.doc_records.specs.declared.pool.Part.{Part}
use Rattle.doc_records.specs.declared.pool.Part.TheVariants as parts
use Rattle.doc_records.specs.Pool.{IsOn, Later, PartOn, Shown, Stands, is_shared, part_term}
use Rattle.doc_records.specs.Pool.{places_of}
use Rattle.doc_records.specs.Trees.{AreEntries, entries_of}
use Rattle.doc_records.proofs.Steps.{field_same, later_none, later_then, low_then, place_one}

abbrev pub high : Term → ℕ
high t = height_of (entries_of t)

-- the search of the entries under q has come to those under p: what it finds there it finds there,
-- and there are places for what is left of it
pub record Descends {A F : Type 0} (shared : A → Bool) (name : List ℕ) (s0 : Shown A F) (q : Part A)
    (s : Shown A F) (p : Part A) : Type 0 where
  pub stands : Stands s p
  pub entries : AreEntries (part_term s.term p)
  pub rising : IsRising (kids_of (entries_of (part_term s.term p)))
  pub places : s.held + 5 * high (part_term s.term p) + 1 ≤ s.room
  pub child : child_of_name name (kids_of (entries_of (part_term s.term p)))
      ≡ child_of_name name (kids_of (entries_of (part_term s0.term q)))
  pub shares : is_shared shared q ≡ true → is_shared shared p ≡ true
  pub on : (places : ℕ) → places ≤ s0.held → PartOn shared s0 places q → PartOn shared s places p
  pub later : Later s0 s
  pub held : s.held + 5 * high (part_term s.term p) ≤ s0.held + 5 * high (part_term s0.term q)
  pub records : s.records ≡ s0.records

pub begun : {A F : Type 0} (shared : A → Bool) (name : List ℕ) (s : Shown A F) (q : Part A)
    → Stands s q → AreEntries (part_term s.term q)
    → IsRising (kids_of (entries_of (part_term s.term q)))
    → s.held + 5 * high (part_term s.term q) + 1 ≤ s.room → Descends shared name s q s q
begun shared name s q stands entries rising places = record {
  stands = stands;
  entries = entries;
  rising = rising;
  places = places;
  child = refl;
  shares = λ own. own;
  on = λ n low on. on;
  later = later_none s;
  held = omega arith;
  records = refl;
}

pub at_record : {A F : Type 0} {shared : A → Bool} {name : List ℕ} {s0 : Shown A F} {q : Part A}
    {s : Shown A F} {p : Part A} {a : A} → p ≡ parts.Record a → Descends shared name s0 q s p
    → Descends shared name s0 q s (parts.Record a)
at_record {shared = shared} {name = name} {s0 = s0} {q = q} {s = s} is far =
    subst (λ p. Descends shared name s0 q s p) is far

-- at the end of a side there is no such child
pub ended : {A F : Type 0} {shared : A → Bool} {name : List ℕ} {s0 : Shown A F} {q : Part A}
    {s : Shown A F} (p : Part A) → ((a : A) → p ≡ parts.Record a → ⊥)
    → Descends shared name s0 q s p
    → None ≡ child_of_name name (kids_of (entries_of (part_term s0.term q)))
ended parts.Null past far = far.child
ended (parts.Num n) past far = absurd far.entries
ended (parts.Record a) past far = absurd (past a refl)

-- the places: four for the name, and one for the side or the child
pub name_fits : (n l h m : ℕ) → l + 1 ≤ n → h + 5 * n + 1 ≤ m → h + 5 ≤ m
name_fits n l h m low fits = omega (arith, low, fits)

pub side_place : (n l h0 h1 m0 m1 : ℕ) → l + 1 ≤ n → h0 + 5 * n + 1 ≤ m0 → h1 ≤ h0 + 4 → m1 ≡ m0
    → h1 < m1
side_place n l h0 h1 m0 m1 low fits a1 b1 = omega (arith, low, fits, a1, b1)

pub child_fits : (n l h0 h1 m0 m1 : ℕ) → l + 1 ≤ n → h0 + 5 * n + 1 ≤ m0 → h1 ≤ h0 + 4 → m1 ≡ m0
    → h1 + 1 ≤ m1
child_fits n l h0 h1 m0 m1 low fits a1 b1 = omega (arith, low, fits, a1, b1)

pub here_held : (n l h0 h1 h2 most : ℕ) → l + 1 ≤ n → h0 + 5 * n ≤ most → h1 ≤ h0 + 4
    → h2 ≤ h1 + 1 → h2 ≤ most
here_held n l h0 h1 h2 most low fits a1 a2 = omega (arith, low, fits, a1, a2)

side_fits : (n l h0 h1 h2 m0 m1 m2 : ℕ) → l + 1 ≤ n → h0 + 5 * n + 1 ≤ m0 → h1 ≤ h0 + 4
    → m1 ≡ m0 → h2 ≤ h1 + 1 → m2 ≡ m1 → h2 + 5 * l + 1 ≤ m2
side_fits n l h0 h1 h2 m0 m1 m2 low fits a1 b1 a2 b2 = omega (arith, low, fits, a1, b1, a2, b2)

side_held : (n l h0 h1 h2 most : ℕ) → l + 1 ≤ n → h0 + 5 * n ≤ most → h1 ≤ h0 + 4 → h2 ≤ h1 + 1
    → h2 + 5 * l ≤ most
side_held n l h0 h1 h2 most low fits a1 a2 = omega (arith, low, fits, a1, a2)

-- one entry further: the order of its name, and then the read of a side
module _ {A F : Type 0} (shared : A → Bool) (name : List ℕ) (s0 : Shown A F) (q : Part A)
    (s s1 s2 : Shown A F) (a : A) (r : Part A) (i : ℕ)
    (far : Descends shared name s0 q s (parts.Record a)) (first : Later s s1)
    (second : Later s1 s2) (is : part_term s2.term r ≡ part i (s1.term a)) where
  side_same : part_term s2.term r ≡ part i (s.term a)
  side_same = field_same i s s1 s2 a r first far.stands.0 is

  pub lower : high (part i (s.term a)) + 1 ≤ high (s.term a)
      → high (part_term s2.term r) + 1 ≤ high (s.term a)
  lower low = subst (λ (u : Term). high u + 1 ≤ high (s.term a)) (sym side_same) low

  pub deeper : high (part i (s.term a)) + 1 ≤ high (s.term a) → AreEntries (part i (s.term a))
      → IsRising (kids_of (entries_of (part i (s.term a))))
      → child_of_name name (kids_of (entries_of (s.term a)))
      ≡ child_of_name name (kids_of (entries_of (part i (s.term a))))
      → s1.held ≤ s.held + 4 → s2.held ≤ s1.held + places_of r → s1.records ≡ s.records
      → s2.records ≡ s1.records → Stands s2 r → (shared a ≡ true → is_shared shared r ≡ true)
      → ((n : ℕ) → n ≤ s1.held → IsOn shared s1 n a → PartOn shared s2 n r)
      → Descends shared name s0 q s2 r
  deeper low entries rising child held1 held2 records1 records2 stands shares on = record {
    stands = stands;
    entries = subst AreEntries (sym side_same) entries;
    rising = subst (λ (u : Term). IsRising (kids_of (entries_of u))) (sym side_same) rising;
    places =
        side_fits _ _ _ _ _ _ _ _ (lower low) far.places held1 first.room
        (place_one r _ _ held2) second.room;
    child =
        ap (λ (u : Term). child_of_name name (kids_of (entries_of u))) side_same
        ∙ sym child ∙ far.child;
    shares = λ own. shares (far.shares own);
    on = λ n few top.
        on n (low_then first (low_then far.later few))
        (λ private. first.still a n (far.on n few top private) (low_then far.later few));
    later = later_then far.later (later_then first second);
    held = side_held _ _ _ _ _ _ (lower low) far.held held1 (place_one r _ _ held2);
    records = records2 ∙ records1 ∙ far.records;
  }
