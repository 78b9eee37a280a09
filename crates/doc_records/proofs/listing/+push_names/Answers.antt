use Rattle.std.proofs.Common.{◌≡◌, ◌∙◌, ◌+◌, ◌*◌, ◌<◌, ◌≤◌, ap, subst, sym, [], ◌∷◌, ◌++◌, List, ℕ}
use Rattle.std.proofs.Common.{arith, refl}
use Rattle.cell_words.specs.Term.{Term, part, IsFive}
use Rattle.doc_records.specs.Pool.{part_term}
use Rattle.doc_records.specs.Trees.{AreEntries}
use Rattle.doc_records.proofs.Rows.{entry_left, entry_right, entry_told, names_read}
use Rattle.doc_records.proofs.Steps.{field_same, later_then, none_owed, place_one, row_count}
use Rattle.doc_records.proofs.Steps.{row_counts}
use Rattle.doc_records.proofs.listing.+push_names.Goals as goal

-- the places: one for the left side and six for each entry there, four for the name, and one for
-- the right side and six for each entry there
left_place : (n l r h m : ℕ) → n ≡ l + 1 + r → h + 6 * n ≤ m → h < m
left_place n l r h m whole fits = omega (arith, whole, fits)

left_fits : (n l r h0 h1 m0 m1 : ℕ) → n ≡ l + 1 + r → h0 + 6 * n ≤ m0 → h1 ≤ h0 + 1 → m1 ≡ m0
    → h1 + 6 * l ≤ m1
left_fits n l r h0 h1 m0 m1 whole fits a1 b1 = omega (arith, whole, fits, a1, b1)

name_fits : (n l r h0 h1 h2 m0 m1 m2 : ℕ) → n ≡ l + 1 + r → h0 + 6 * n ≤ m0 → h1 ≤ h0 + 1
    → m1 ≡ m0 → h2 ≤ h1 + 6 * l → m2 ≡ m1 → h2 + 5 + 6 * r ≤ m2
name_fits n l r h0 h1 h2 m0 m1 m2 whole fits a1 b1 a2 b2 =
    omega (arith, whole, fits, a1, b1, a2, b2)

five_fit : (r h m : ℕ) → h + 5 + 6 * r ≤ m → h + 5 ≤ m
five_fit r h m fits = omega (arith, fits)

right_place : (r h2 h3 m2 m3 : ℕ) → h2 + 5 + 6 * r ≤ m2 → h3 ≤ h2 + 4 → m3 ≡ m2 → h3 < m3
right_place r h2 h3 m2 m3 fits a3 b3 = omega (arith, fits, a3, b3)

right_fits : (r h2 h3 h4 m2 m3 m4 : ℕ) → h2 + 5 + 6 * r ≤ m2 → h3 ≤ h2 + 4 → m3 ≡ m2
    → h4 ≤ h3 + 1 → m4 ≡ m3 → h4 + 6 * r ≤ m4
right_fits r h2 h3 h4 m2 m3 m4 fits a3 b3 a4 b4 = omega (arith, fits, a3, b3, a4, b4)

left_held : (n l r h0 h1 h2 : ℕ) → n ≡ l + 1 + r → h1 ≤ h0 + 1 → h2 ≤ h1 + 6 * l
    → h2 ≤ h0 + 6 * n
left_held n l r h0 h1 h2 whole a1 a2 = omega (arith, whole, a1, a2)

name_held : (n l r h0 h1 h2 h3 : ℕ) → n ≡ l + 1 + r → h1 ≤ h0 + 1 → h2 ≤ h1 + 6 * l
    → h3 ≤ h2 + 4 → h3 ≤ h0 + 6 * n
name_held n l r h0 h1 h2 h3 whole a1 a2 a3 = omega (arith, whole, a1, a2, a3)

all_held : (n l r h0 h1 h2 h3 h4 h5 : ℕ) → n ≡ l + 1 + r → h1 ≤ h0 + 1 → h2 ≤ h1 + 6 * l
    → h3 ≤ h2 + 4 → h4 ≤ h3 + 1 → h5 ≤ h4 + 6 * r → h5 ≤ h0 + 6 * n
all_held n l r h0 h1 h2 h3 h4 h5 whole a1 a2 a3 a4 a5 = omega (arith, whole, a1, a2, a3, a4, a5)

left_less : (n l r t : ℕ) → n ≡ l + 1 + r → n ≡ t → l < t
left_less n l r t whole all = omega (arith, whole, all)

right_less : (n l r t : ℕ) → n ≡ l + 1 + r → n ≡ t → r < t
right_less n l r t whole all = omega (arith, whole, all)

pub read_part-left-requires-clause-stands : goal.read_part-left-requires-clause-stands
read_part-left-requires-clause-stands g t c =
    let is = rw c.in-Record.is at c.requires.stands in
    is.0

pub read_part-left-requires-clause-place : goal.read_part-left-requires-clause-place
read_part-left-requires-clause-place g t c =
    let s0 = g.R.RecordPool.shown c.args.records.now in
    let at = c.in-Record.at in
    let t0 = s0.term at in
    let is = rw c.in-Record.is at c.requires.stands in
    let places = rw c.in-Record.is at c.requires.places in
    left_place _ _ _ _ _ (row_counts t0 _ _ is.1 refl refl) places

pub push_names-requires : goal.push_names-requires
push_names-requires g t c κs within =
    let s0 = g.R.RecordPool.shown c.args.records.now in
    let at = c.in-Record.at in
    let t0 = s0.term at in
    let is = rw c.in-Record.is at c.requires.stands in
    let places = rw c.in-Record.is at c.requires.places in
    let s1 = g.R.RecordPool.shown c.read_part-left.new.records in
    let left = c.read_part-left.result in
    let whole =
    row_counts t0 _ _ is.1 c.read_part-left.ensures.part refl in
    let one = place_one c.read_part-left.result _ _ c.read_part-left.ensures.held in
    let entries : AreEntries (part_term s1.term left) =
    subst AreEntries (sym c.read_part-left.ensures.part)
    (entry_left t0 is.1 (rw c.in-Record.is at c.requires.entries)) in
    let all : row_count (part_term s0.term c.args.top) ≡ t = c.decreases in (
      left_less _ _ _ _ whole (rw c.in-Record.is at all),
      (
        within.0,
        (
          within.1,
          (
            c.read_part-left.ensures.stands,
            (
              entries,
              left_fits _ _ _ _ _ _ _ whole places one c.read_part-left.ensures.later.room,
            ),
          ),
        ),
      ),
    )

pub returns-in_err-push_names : goal.returns-in_err-push_names
returns-in_err-push_names g t c =
    record {
      names = none_owed _ _ c.from_residual.ensures.0;
      later = later_then c.read_part-left.ensures.later c.push_names.ensures.later;
      held =
          let s0 = g.R.RecordPool.shown c.args.records.now in
          let at = c.in-Record.at in
          let t0 = s0.term at in
          let is = rw c.in-Record.is at c.requires.stands in
          let whole =
          row_counts t0 _ _ is.1 c.read_part-left.ensures.part refl in
          let one = place_one c.read_part-left.result _ _ c.read_part-left.ensures.held in
          rw c.in-Record.is (left_held _ _ _ _ _ _ whole one c.push_names.ensures.held);
      records = c.push_names.ensures.records ∙ c.read_part-left.ensures.records;
      told = none_owed _ _ c.from_residual.ensures.0;
    }

pub read_name-requires : goal.read_name-requires
read_name-requires g t c =
    let at = c.in-Record.at in
    let is = rw c.in-Record.is at c.requires.stands in
    let s0 = g.R.RecordPool.shown c.args.records.now in
    let t0 = s0.term at in
    let later = later_then c.read_part-left.ensures.later c.push_names.ensures.later in
    record {
      stands =
          let s1 = c.read_part-left.ensures.later.now c.in-Record.at is.0 in
          c.push_names.ensures.later.now c.in-Record.at s1;
      five = subst IsFive (sym (later.same at is.0)) is.1;
      entry = subst AreEntries (sym (later.same at is.0)) (rw c.in-Record.is at c.requires.entries);
      places =
          let whole =
          row_counts t0 _ _ is.1 c.read_part-left.ensures.part refl in
          let places = rw c.in-Record.is at c.requires.places in
          let one = place_one c.read_part-left.result _ _ c.read_part-left.ensures.held in
          let fits =
          name_fits _ _ _ _ _ _ _ _ _ whole places one c.read_part-left.ensures.later.room
          c.push_names.ensures.held c.push_names.ensures.later.room in
          five_fit (row_count (part 3 t0)) _ _ fits;
    }

pub returns-in_err-name : goal.returns-in_err-name
returns-in_err-name g t c =
    record {
      names = none_owed _ _ c.from_residual-in_err-name.ensures.0;
      later = later_then (later_then c.read_part-left.ensures.later c.push_names.ensures.later)
          c.read_name.ensures.later;
      held =
          let s0 = g.R.RecordPool.shown c.args.records.now in
          let at = c.in-Record.at in
          let t0 = s0.term at in
          let is = rw c.in-Record.is at c.requires.stands in
          let whole =
          row_counts t0 _ _ is.1 c.read_part-left.ensures.part refl in
          let one = place_one c.read_part-left.result _ _ c.read_part-left.ensures.held in
          rw c.in-Record.is
          (name_held _ _ _ _ _ _ _ whole one c.push_names.ensures.held c.read_name.ensures.held);
      records = c.read_name.ensures.records ∙ c.push_names.ensures.records
          ∙ c.read_part-left.ensures.records;
      told = none_owed _ _ c.from_residual-in_err-name.ensures.0;
    }

pub returns-in_err-push : goal.returns-in_err-push
returns-in_err-push g t c =
    record {
      names = none_owed _ _ c.from_residual-in_err-push.ensures.0;
      later = later_then (later_then c.read_part-left.ensures.later c.push_names.ensures.later)
          c.read_name.ensures.later;
      held =
          let s0 = g.R.RecordPool.shown c.args.records.now in
          let at = c.in-Record.at in
          let t0 = s0.term at in
          let is = rw c.in-Record.is at c.requires.stands in
          let whole =
          row_counts t0 _ _ is.1 c.read_part-left.ensures.part refl in
          let one = place_one c.read_part-left.result _ _ c.read_part-left.ensures.held in
          rw c.in-Record.is
          (name_held _ _ _ _ _ _ _ whole one c.push_names.ensures.held c.read_name.ensures.held);
      records = c.read_name.ensures.records ∙ c.push_names.ensures.records
          ∙ c.read_part-left.ensures.records;
      told = none_owed _ _ c.from_residual-in_err-push.ensures.0;
    }

pub read_part-right-requires-clause-stands : goal.read_part-right-requires-clause-stands
read_part-right-requires-clause-stands g t c =
    let s0 = g.R.RecordPool.shown c.args.records.now in
    let at = c.in-Record.at in
    let t0 = s0.term at in
    let is = rw c.in-Record.is at c.requires.stands in
    let later = later_then c.read_part-left.ensures.later c.push_names.ensures.later in
    c.read_name.ensures.later.now at (later.now at is.0)

pub read_part-right-requires-clause-place : goal.read_part-right-requires-clause-place
read_part-right-requires-clause-place g t c =
    let s0 = g.R.RecordPool.shown c.args.records.now in
    let at = c.in-Record.at in
    let t0 = s0.term at in
    let is = rw c.in-Record.is at c.requires.stands in
    let whole =
    row_counts t0 _ _ is.1 c.read_part-left.ensures.part refl in
    let places = rw c.in-Record.is at c.requires.places in
    let one = place_one c.read_part-left.result _ _ c.read_part-left.ensures.held in
    let fits =
    name_fits _ _ _ _ _ _ _ _ _ whole places one c.read_part-left.ensures.later.room
    c.push_names.ensures.held c.push_names.ensures.later.room in
    right_place (row_count (part 3 t0)) _ _ _ _ fits c.read_name.ensures.held
    c.read_name.ensures.later.room

pub push_names-requires-2 : goal.push_names-requires-2
push_names-requires-2 g t c κs within =
    let s0 = g.R.RecordPool.shown c.args.records.now in
    let at = c.in-Record.at in
    let t0 = s0.term at in
    let is = rw c.in-Record.is at c.requires.stands in
    let places = rw c.in-Record.is at c.requires.places in
    let later =
    later_then (later_then c.read_part-left.ensures.later c.push_names.ensures.later)
    c.read_name.ensures.later in
    let right_is =
    field_same 3 s0 _ (g.R.RecordPool.shown c.read_part-right.new.records) at
    c.read_part-right.result later is.0 c.read_part-right.ensures.part in
    let whole =
    row_counts t0 _ _ is.1 c.read_part-left.ensures.part right_is in
    let one = place_one c.read_part-left.result _ _ c.read_part-left.ensures.held in
    let fits =
    name_fits _ _ _ _ _ _ _ _ _ whole places one c.read_part-left.ensures.later.room
    c.push_names.ensures.held c.push_names.ensures.later.room in
    let s4 = g.R.RecordPool.shown c.read_part-right.new.records in
    let right = c.read_part-right.result in
    let entries : AreEntries (part_term s4.term right) =
    subst AreEntries (sym right_is)
    (entry_right t0 is.1 (rw c.in-Record.is at c.requires.entries)) in
    let all : row_count (part_term s0.term c.args.top) ≡ t = c.decreases in (
      right_less _ _ _ _ whole (rw c.in-Record.is at all),
      (
        within.0,
        (
          within.1,
          (
            c.read_part-right.ensures.stands,
            (
              entries,
              right_fits _ _ _ _ _ _ _ fits c.read_name.ensures.held
                  c.read_name.ensures.later.room
                  (place_one right _ _ c.read_part-right.ensures.held)
                  c.read_part-right.ensures.later.room,
            ),
          ),
        ),
      ),
    )

pub returns-in_err-push_names-2 : goal.returns-in_err-push_names-2
returns-in_err-push_names-2 g t c =
    record {
      names = none_owed _ _ c.from_residual-in_err-push_names-2.ensures.0;
      later = later_then
          (later_then (later_then c.read_part-left.ensures.later c.push_names.ensures.later)
          c.read_name.ensures.later)
          (later_then c.read_part-right.ensures.later c.push_names-2.ensures.later);
      held =
          let s0 = g.R.RecordPool.shown c.args.records.now in
          let at = c.in-Record.at in
          let t0 = s0.term at in
          let is = rw c.in-Record.is at c.requires.stands in
          let later =
          later_then (later_then c.read_part-left.ensures.later c.push_names.ensures.later)
          c.read_name.ensures.later in
          let right_is =
          field_same 3 s0 _ (g.R.RecordPool.shown c.read_part-right.new.records) at
          c.read_part-right.result later is.0 c.read_part-right.ensures.part in
          let whole =
          row_counts t0 _ _ is.1 c.read_part-left.ensures.part right_is in
          let one = place_one c.read_part-left.result _ _ c.read_part-left.ensures.held in
          rw c.in-Record.is
          (all_held _ _ _ _ _ _ _ _ _ whole one c.push_names.ensures.held c.read_name.ensures.held
          (place_one c.read_part-right.result _ _ c.read_part-right.ensures.held)
          c.push_names-2.ensures.held);
      records = c.push_names-2.ensures.records ∙ c.read_part-right.ensures.records
          ∙ c.read_name.ensures.records ∙ c.push_names.ensures.records
          ∙ c.read_part-left.ensures.records;
      told = none_owed _ _ c.from_residual-in_err-push_names-2.ensures.0;
    }

pub returns : goal.returns
returns g t c =
    let s0 = g.R.RecordPool.shown c.args.records.now in
    let at = c.in-Record.at in
    let is = rw c.in-Record.is at c.requires.stands in
    let first = later_then c.read_part-left.ensures.later c.push_names.ensures.later in
    let right_is =
    field_same 3 s0 _ (g.R.RecordPool.shown c.read_part-right.new.records) at
    c.read_part-right.result (later_then first c.read_name.ensures.later) is.0
    c.read_part-right.ensures.part in
    record {
      names = rw c.in-Record.is
          (names_read _ _ _ _ _ _ _ _ is.1 c.read_part-left.ensures.part
          (ap (λ (u : Term). part 0 u) (first.same at is.0)) right_is
          c.in_ok-push_names.ensures.names
          (c.in_ok-push.ensures.ok
          ∙ ap (λ (name : List ℕ). c.push_names.new.names ++ name ∷ []) c.in_ok-name.ensures.name)
          c.in_ok-push_names-2.ensures.names);
      later = later_then
          (later_then (later_then c.read_part-left.ensures.later c.push_names.ensures.later)
          c.read_name.ensures.later)
          (later_then c.read_part-right.ensures.later c.push_names-2.ensures.later);
      held =
          let t0 = s0.term at in
          let later =
          later_then (later_then c.read_part-left.ensures.later c.push_names.ensures.later)
          c.read_name.ensures.later in
          let right_is =
          field_same 3 s0 _ (g.R.RecordPool.shown c.read_part-right.new.records) at
          c.read_part-right.result later is.0 c.read_part-right.ensures.part in
          let whole =
          row_counts t0 _ _ is.1 c.read_part-left.ensures.part right_is in
          let one = place_one c.read_part-left.result _ _ c.read_part-left.ensures.held in
          rw c.in-Record.is
          (all_held _ _ _ _ _ _ _ _ _ whole one c.push_names.ensures.held c.read_name.ensures.held
          (place_one c.read_part-right.result _ _ c.read_part-right.ensures.held)
          c.push_names-2.ensures.held);
      records = c.push_names-2.ensures.records ∙ c.read_part-right.ensures.records
          ∙ c.read_name.ensures.records ∙ c.push_names.ensures.records
          ∙ c.read_part-left.ensures.records;
      told =
          λ shared.
          let own = rw c.in-Record.is at shared in
          rw c.in-Record.is
          (entry_told _ _ _ _ _ _ _ _ _ _ is.1 c.read_part-left.ensures.part
          (ap (λ (u : Term). part 0 u) (first.same at is.0)) right_is
          (c.read_part-left.ensures.told own)
          (c.in_ok-push_names.ensures.told (c.read_part-left.ensures.shared own))
          (c.in_ok-name.ensures.told own) (c.read_part-right.ensures.told own)
          (c.in_ok-push_names-2.ensures.told (c.read_part-right.ensures.shared own)));
    }
