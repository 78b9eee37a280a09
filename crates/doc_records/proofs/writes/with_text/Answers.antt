use Rattle.std.proofs.Common.{◌≡◌, ◌∙◌, ◌+◌, ◌/◌, ◌^◌, ◌<◌, ◌≤◌, List, ap, arith, length, refl}
use Rattle.std.proofs.Common.{subst, sym, true, ℕ, rules, tests}
use Rattle.cell_words.specs.Term.{Term, null, num, five, number, part}
use Rattle.doc_tree.specs.Words.{is_text}
use Rattle.doc_records.specs.Shapes.{IsNum}
use Rattle.doc_records.specs.Texts.{SpellsText}
use Rattle.doc_records.proofs.Makings.{node_with_text, text_low}
use Rattle.doc_records.proofs.Spellings.{node_count, node_height}
use Rattle.doc_records.proofs.Steps.{later_then, part_same, part_still, place_one, room_some}
use Rattle.doc_records.proofs.writes.with_text.Goals as goal

count_place : (h0 h1 m0 m1 : ℕ) → h0 + 2 ≤ m0 → h1 ≤ h0 + 1 → m1 ≡ m0 → h1 < m1
count_place h0 h1 m0 m1 fits a1 b1 = omega (arith, fits, a1, b1)

height_place : (h0 h1 h2 m0 m1 m2 : ℕ) → h0 + 2 ≤ m0 → h1 ≤ h0 + 1 → m1 ≡ m0 → h2 ≡ h1
    → m2 ≡ m1 → h2 < m2
height_place h0 h1 h2 m0 m1 m2 fits a1 b1 a2 b2 = omega (arith, fits, a1, b1, a2, b2)

made_held : (h0 h1 h2 h3 h4 h5 : ℕ) → h1 ≤ h0 + 1 → h2 ≡ h1 → h3 ≡ h2 → h4 ≡ h3 → h5 ≡ h4
    → h5 ≤ h0 + 1
made_held h0 h1 h2 h3 h4 h5 a1 a2 a3 a4 a5 = omega (arith, a1, a2, a3, a4, a5)

abbrev cells_in : List ℕ → ℕ
cells_in bytes = (length bytes + 20) / 21

text_few : (bytes text : List ℕ) → bytes ≡ text → is_text text ≡ true → length bytes < 2 ^ 62
text_few bytes text same is = rw same (text_low text is)

text_room : (j k r0 r1 r2 r3 : ℕ) → j ≡ k → k + 1 ≤ r0 → r1 ≡ r0 → r2 ≡ r1 → r3 ≡ r2 → j ≤ r3
text_room j k r0 r1 r2 r3 same room b1 b2 b3 = omega (arith, same, room, b1, b2, b3)

node_room : (j k r0 r1 r2 r3 r4 : ℕ) → j ≡ k → k + 1 ≤ r0 → r1 ≡ r0 → r2 ≡ r1 → r3 ≡ r2
    → r3 ≡ r4 + j → 1 ≤ r4
node_room j k r0 r1 r2 r3 r4 same room b1 b2 b3 b4 =
    omega (arith, same, room, b1, b2, b3, b4)

all_made : (j k r0 r1 r2 r3 r4 r5 : ℕ) → j ≡ k → r1 ≡ r0 → r2 ≡ r1 → r3 ≡ r2 → r3 ≡ r4 + j
    → r4 ≡ r5 + 1 → r0 ≡ r5 + k + 1
all_made j k r0 r1 r2 r3 r4 r5 same b1 b2 b3 b4 b5 =
    omega (arith, same, b1, b2, b3, b4, b5)

num_is : (n : ℕ) (t : Term) → t ≡ num n → IsNum t
num_is n t is = subst IsNum (sym is) tt

five_is : (t u p q : Term) (n m k l : ℕ) → t ≡ five u p (num n) (num m) null → p ≡ q → n ≡ k
    → m ≡ l → t ≡ five u q (num k) (num l) null
five_is t u p q n m k l is a b d = is ∙ rw (a, b, d) refl

pub read_part-entries-requires-clause-stands : goal.read_part-entries-requires-clause-stands
read_part-entries-requires-clause-stands g c = c.requires.stands

pub read_part-entries-requires-clause-place : goal.read_part-entries-requires-clause-place
read_part-entries-requires-clause-place g c = room_some 1 _ _ c.requires.places

pub read_number-count-requires-clause-stands : goal.read_number-count-requires-clause-stands
read_number-count-requires-clause-stands g c =
    c.read_part-entries.ensures.later.now c.args.at c.requires.stands

pub read_number-count-requires-clause-place : goal.read_number-count-requires-clause-place
read_number-count-requires-clause-place g c =
    count_place _ _ _ _ c.requires.places
    (place_one c.read_part-entries.result _ _ c.read_part-entries.ensures.held)
    c.read_part-entries.ensures.later.room

pub read_number-count-requires-clause-num : goal.read_number-count-requires-clause-num
read_number-count-requires-clause-num g c =
    let t0 = (g.R.RecordPool.shown c.args.records.now).term c.args.at in
    let e1 = c.read_part-entries.ensures.later.same c.args.at c.requires.stands in
    let counted = ap (λ (u : Term). part 2 u) e1 ∙ node_count t0 c.requires.node in
    num_is _ _ counted

pub read_number-height-requires-clause-stands : goal.read_number-height-requires-clause-stands
read_number-height-requires-clause-stands g c =
    let stands1 = c.read_part-entries.ensures.later.now c.args.at c.requires.stands in
    c.read_number-count.ensures.later.now c.args.at stands1

pub read_number-height-requires-clause-place : goal.read_number-height-requires-clause-place
read_number-height-requires-clause-place g c =
    height_place _ _ _ _ _ _ c.requires.places
    (place_one c.read_part-entries.result _ _ c.read_part-entries.ensures.held)
    c.read_part-entries.ensures.later.room c.read_number-count.ensures.held
    c.read_number-count.ensures.later.room

pub read_number-height-requires-clause-num : goal.read_number-height-requires-clause-num
read_number-height-requires-clause-num g c =
    let stands1 = c.read_part-entries.ensures.later.now c.args.at c.requires.stands in
    let t0 = (g.R.RecordPool.shown c.args.records.now).term c.args.at in
    let e1 = c.read_part-entries.ensures.later.same c.args.at c.requires.stands in
    let e2 : (g.R.RecordPool.shown c.read_number-count.new.records).term c.args.at ≡ t0 =
    c.read_number-count.ensures.later.same c.args.at stands1 ∙ e1 in
    let high = ap (λ (u : Term). part 3 u) e2 ∙ node_height t0 c.requires.node in
    num_is _ _ high

pub make-requires : goal.make-requires
make-requires g c =
    record {
      first = c.make_text-text.ensures.stands;
      second =
          let later =
          later_then (later_then c.read_number-count.ensures.later
          c.read_number-height.ensures.later)
          c.make_text-text.ensures.later in
          part_still _ _ c.read_part-entries.result later c.read_part-entries.ensures.stands;
      third = c.read_number-count.ensures.fits;
      fourth = c.read_number-height.ensures.fits;
      fifth = search (arith, rules, tests);
      records = node_room _ _ _ _ _ _ _ (ap cells_in c.bytes.ensures.bytes) c.requires.records
          c.read_part-entries.ensures.records c.read_number-count.ensures.records
          c.read_number-height.ensures.records c.make_text-text.ensures.records;
    }

pub returns : goal.returns
returns g c =
    record {
      tree =
          let stands1 = c.read_part-entries.ensures.later.now c.args.at c.requires.stands in
          let t0 = (g.R.RecordPool.shown c.args.records.now).term c.args.at in
          let e1 = c.read_part-entries.ensures.later.same c.args.at c.requires.stands in
          let e2 : (g.R.RecordPool.shown c.read_number-count.new.records).term c.args.at ≡ t0 =
          c.read_number-count.ensures.later.same c.args.at stands1 ∙ e1 in
          let counted = ap (λ (u : Term). part 2 u) e1 ∙ node_count t0 c.requires.node in
          let high = ap (λ (u : Term). part 3 u) e2 ∙ node_height t0 c.requires.node in
          let later =
          later_then (later_then c.read_number-count.ensures.later
          c.read_number-height.ensures.later)
          c.make_text-text.ensures.later in
          let entries =
          part_same _ _ c.read_part-entries.result later c.read_part-entries.ensures.stands
          ∙ c.read_part-entries.ensures.part in
          let made =
          five_is _ _ _ _ _ _ _ _ c.make.ensures.term entries
          (c.read_number-count.ensures.number ∙ ap number counted)
          (c.read_number-height.ensures.number ∙ ap number high) in
          node_with_text t0 _ _ c.args.text.now c.requires.node
          (subst (SpellsText _) c.bytes.ensures.bytes c.make_text-text.ensures.text)
          c.bytes.ensures.text made;
      stands = c.make.ensures.stands;
      later = later_then
          (later_then (later_then c.read_part-entries.ensures.later
          c.read_number-count.ensures.later)
          c.read_number-height.ensures.later)
          (later_then c.make_text-text.ensures.later c.make.ensures.later);
      held = made_held _ _ _ _ _ _
          (place_one c.read_part-entries.result _ _ c.read_part-entries.ensures.held)
          c.read_number-count.ensures.held c.read_number-height.ensures.held
          c.make_text-text.ensures.held c.make.ensures.held;
      records = all_made _ _ _ _ _ _ _ _ (ap cells_in c.bytes.ensures.bytes)
          c.read_part-entries.ensures.records c.read_number-count.ensures.records
          c.read_number-height.ensures.records c.make_text-text.ensures.records
          c.make.ensures.records;
    }

pub make_text-text-requires-clause-few : goal.make_text-text-requires-clause-few
make_text-text-requires-clause-few g c = text_few _ _ c.bytes.ensures.bytes c.bytes.ensures.text

pub make_text-text-requires-clause-records : goal.make_text-text-requires-clause-records
make_text-text-requires-clause-records g c =
    text_room _ _ _ _ _ _ (ap cells_in c.bytes.ensures.bytes) c.requires.records
    c.read_part-entries.ensures.records c.read_number-count.ensures.records
    c.read_number-height.ensures.records
