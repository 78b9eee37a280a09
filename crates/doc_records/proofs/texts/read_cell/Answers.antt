use Rattle.std.proofs.Common.{◌≡◌, ◌∙◌, ◌<◌, ◌++◌, List, ap, arith, subst, sym, ℕ, rules, tests}
use Rattle.cell_words.specs.Term.{Term, number, part, IsFive}
use Rattle.trails.specs.Marks.{Mark}
use Rattle.trails.specs.Telling.{Due, Tells}
use Rattle.doc_records.specs.Shapes.{IsNum, ask_cell, ask_word}
use Rattle.doc_records.specs.Texts.{bytes_here, text_of}
use Rattle.doc_records.proofs.Chains.{num_count, num_first, num_second, num_third, text_cell}
use Rattle.doc_records.proofs.Steps.{later_then}
use Rattle.doc_records.proofs.texts.read_cell.Goals as goal

kept_place : (h0 h1 m0 m1 : ℕ) → h0 < m0 → h1 ≡ h0 → m1 ≡ m0 → h1 < m1
kept_place h0 h1 m0 m1 place a1 b1 = omega (arith, place, a1, b1)

cell_text : (t : Term) (n w1 w2 w3 : ℕ) → IsFive t → n ≡ number (part 0 t)
    → w1 ≡ number (part 1 t) → w2 ≡ number (part 2 t) → w3 ≡ number (part 3 t)
    → text_of t ≡ bytes_here n w1 w2 w3 ++ text_of (part 4 t)
cell_text t n w1 w2 w3 five a b d e = rw (a, b, d, e) (text_cell t five)

cell_told : (t : Term) (w1 w2 w3 : ℕ) (m0 m1 m2 m3 m4 : List Mark) → w1 ≡ number (part 1 t)
    → w2 ≡ number (part 2 t) → w3 ≡ number (part 3 t) → Tells (λ rest. rest) m0 m1
    → Tells (ask_word w1) m1 m2 → Tells (ask_word w2) m2 m3 → Tells (ask_word w3) m3 m4
    → Tells (ask_cell t) m0 m4
cell_told t w1 w2 w3 m0 m1 m2 m3 m4 a b d none first second third all rest due =
    let asked : Due all (ask_word w1 (ask_word w2 (ask_word w3 rest))) m0 = rw (a, b, d) due in
    third all rest (second all (ask_word w3 rest) (first all (ask_word w2 (ask_word w3 rest))
    (none all (ask_word w1 (ask_word w2 (ask_word w3 rest))) asked)))

pub read_number-count-requires-clause-stands : goal.read_number-count-requires-clause-stands
read_number-count-requires-clause-stands g c = c.requires.stands

pub read_number-count-requires-clause-place : goal.read_number-count-requires-clause-place
read_number-count-requires-clause-place g c = c.requires.place

pub read_number-count-requires-clause-num : goal.read_number-count-requires-clause-num
read_number-count-requires-clause-num g c = num_count _ c.requires.five c.requires.chain

pub read_word-first-requires-clause-stands : goal.read_word-first-requires-clause-stands
read_word-first-requires-clause-stands g c =
    c.read_number-count.ensures.later.now c.args.at c.requires.stands

pub read_word-first-requires-clause-place : goal.read_word-first-requires-clause-place
read_word-first-requires-clause-place g c =
    kept_place _ _ _ _ c.requires.place c.read_number-count.ensures.held
    c.read_number-count.ensures.later.room

pub read_word-first-requires-clause-num : goal.read_word-first-requires-clause-num
read_word-first-requires-clause-num g c =
    let at = c.args.at in
    let t0 = (g.R.RecordPool.shown c.args.records.now).term at in
    let e1 : (g.R.RecordPool.shown c.read_number-count.new.records).term at ≡ t0 =
    c.read_number-count.ensures.later.same at c.requires.stands in
    subst (λ (u : Term). IsNum (part 1 u)) (sym e1)
    (num_first t0 c.requires.five c.requires.chain)

pub read_word-second-requires-clause-stands : goal.read_word-second-requires-clause-stands
read_word-second-requires-clause-stands g c =
    let s1 = c.read_number-count.ensures.later.now c.args.at c.requires.stands in
    c.read_word-first.ensures.later.now c.args.at s1

pub read_word-second-requires-clause-place : goal.read_word-second-requires-clause-place
read_word-second-requires-clause-place g c =
    let p1 =
    kept_place _ _ _ _ c.requires.place c.read_number-count.ensures.held
    c.read_number-count.ensures.later.room in
    kept_place _ _ _ _ p1 c.read_word-first.ensures.held
    c.read_word-first.ensures.later.room

pub read_word-second-requires-clause-num : goal.read_word-second-requires-clause-num
read_word-second-requires-clause-num g c =
    let at = c.args.at in
    let t0 = (g.R.RecordPool.shown c.args.records.now).term at in
    let e1 : (g.R.RecordPool.shown c.read_number-count.new.records).term at ≡ t0 =
    c.read_number-count.ensures.later.same at c.requires.stands in
    let s1 = c.read_number-count.ensures.later.now at c.requires.stands in
    let e2 : (g.R.RecordPool.shown c.read_word-first.new.records).term at ≡ t0 =
    c.read_word-first.ensures.later.same at s1 ∙ e1 in
    subst (λ (u : Term). IsNum (part 2 u)) (sym e2)
    (num_second t0 c.requires.five c.requires.chain)

pub read_word-third-requires-clause-stands : goal.read_word-third-requires-clause-stands
read_word-third-requires-clause-stands g c =
    let s1 = c.read_number-count.ensures.later.now c.args.at c.requires.stands in
    let s2 = c.read_word-first.ensures.later.now c.args.at s1 in
    c.read_word-second.ensures.later.now c.args.at s2

pub read_word-third-requires-clause-place : goal.read_word-third-requires-clause-place
read_word-third-requires-clause-place g c =
    let p1 =
    kept_place _ _ _ _ c.requires.place c.read_number-count.ensures.held
    c.read_number-count.ensures.later.room in
    let p2 =
    kept_place _ _ _ _ p1 c.read_word-first.ensures.held
    c.read_word-first.ensures.later.room in
    kept_place _ _ _ _ p2 c.read_word-second.ensures.held
    c.read_word-second.ensures.later.room

pub read_word-third-requires-clause-num : goal.read_word-third-requires-clause-num
read_word-third-requires-clause-num g c =
    let at = c.args.at in
    let t0 = (g.R.RecordPool.shown c.args.records.now).term at in
    let e1 : (g.R.RecordPool.shown c.read_number-count.new.records).term at ≡ t0 =
    c.read_number-count.ensures.later.same at c.requires.stands in
    let s1 = c.read_number-count.ensures.later.now at c.requires.stands in
    let e2 : (g.R.RecordPool.shown c.read_word-first.new.records).term at ≡ t0 =
    c.read_word-first.ensures.later.same at s1 ∙ e1 in
    let s2 = c.read_word-first.ensures.later.now at s1 in
    let e3 : (g.R.RecordPool.shown c.read_word-second.new.records).term at ≡ t0 =
    c.read_word-second.ensures.later.same at s2 ∙ e2 in
    subst (λ (u : Term). IsNum (part 3 u)) (sym e3)
    (num_third t0 c.requires.five c.requires.chain)

pub returns : goal.returns
returns g c =
    let at = c.args.at in
    let t0 = (g.R.RecordPool.shown c.args.records.now).term at in
    let e1 : (g.R.RecordPool.shown c.read_number-count.new.records).term at ≡ t0 =
    c.read_number-count.ensures.later.same at c.requires.stands in
    let s1 = c.read_number-count.ensures.later.now at c.requires.stands in
    let e2 : (g.R.RecordPool.shown c.read_word-first.new.records).term at ≡ t0 =
    c.read_word-first.ensures.later.same at s1 ∙ e1 in
    let s2 = c.read_word-first.ensures.later.now at s1 in
    let e3 : (g.R.RecordPool.shown c.read_word-second.new.records).term at ≡ t0 =
    c.read_word-second.ensures.later.same at s2 ∙ e2 in
    let n1 = c.read_word-first.ensures.number ∙ ap (λ (u : Term). number (part 1 u)) e1 in
    let n2 = c.read_word-second.ensures.number ∙ ap (λ (u : Term). number (part 2 u)) e2 in
    let n3 = c.read_word-third.ensures.number ∙ ap (λ (u : Term). number (part 3 u)) e3 in
    record {
      count = search (arith, rules, tests);
      text = cell_text t0 _ _ _ _ c.requires.five c.read_number-count.ensures.number n1 n2 n3;
      later =
          later_then (later_then c.read_number-count.ensures.later c.read_word-first.ensures.later)
          (later_then c.read_word-second.ensures.later c.read_word-third.ensures.later);
      held = c.read_word-third.ensures.held ∙ c.read_word-second.ensures.held
          ∙ c.read_word-first.ensures.held ∙ c.read_number-count.ensures.held;
      records = c.read_word-third.ensures.records ∙ c.read_word-second.ensures.records
          ∙ c.read_word-first.ensures.records ∙ c.read_number-count.ensures.records;
      told =
          λ shared. cell_told t0 _ _ _ _ _ _ _ _ n1 n2 n3 (c.read_number-count.ensures.told shared)
          (c.read_word-first.ensures.told shared) (c.read_word-second.ensures.told shared)
          (c.read_word-third.ensures.told shared);
    }
