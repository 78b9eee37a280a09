use Rattle.std.proofs.Common.{◌≡◌, ◌<◌, ◌≤◌, ◌+◌, ◌*◌, ◌∙◌, ap, sym, subst}
use Rattle.std.proofs.Common.{arith, rules}
use Rattle.cell_words.specs.Term.{part}
use Rattle.doc_tree.specs.Tree.{height_below, kid_count}
use Rattle.kids_avl.specs.Entries.{kids_of}
use Rattle.doc_records.specs.Pool.{part_term}
use Rattle.doc_records.specs.Trees.{AreEntries, entries_of}
use Rattle.doc_records.proofs.Rows.{entry_count, entry_left, entry_right}
use Rattle.doc_edits.specs.Tops.{row_of}
use Rattle.doc_edits.proofs.Sized.{entry_high, place_one, side_count, side_high}
use Rattle.doc_edits.proofs.Standing.{later_then}
use Rattle.doc_edits.proofs.sizes.+levels_under.Goals as goal

pub levels_under-before-requires : goal.levels_under-before-requires
levels_under-before-requires g t c κs within =
    let at = c.in-Record.at in
    let s0 = g.R.RecordPool.shown c.args.records.now in
    let s2 = g.R.RecordPool.shown c.read_part-left.new.records in
    let left = c.read_part-left.result in
    let t0 = s0.term at in
    let is = rw c.in-Record.is at c.requires.stands in
    let whole : kid_count (row_of s0 c.args.top)
    ≡ kid_count (kids_of (entries_of (part 2 t0))) + 1
    + kid_count (kids_of (entries_of (part 3 t0))) =
    rw c.in-Record.is (entry_count t0 is.1) in
    let most = rw c.in-Record.is at c.requires.most in
    let same = c.entry_levels-own.ensures.later.same at is.0 in
    let count = side_count _ _ t0 2 c.read_part-left.ensures.part same in
    let levels = side_high _ _ t0 2 c.read_part-left.ensures.part same in
    let less : kid_count (row_of s2 left) < kid_count (row_of s0 c.args.top) =
    omega (arith, whole, count) in
    let entries : AreEntries (part_term s2.term left) =
    subst AreEntries (sym (c.read_part-left.ensures.part ∙ ap (part 2) same))
    (entry_left t0 is.1 (rw c.in-Record.is at c.requires.entries)) in
    let low : height_below (row_of s2 left) ≤ c.args.most =
    omega (arith, entry_high t0 is.1, levels, most) in
    let places : s2.held + 3 * kid_count (row_of s2 left) + 1 ≤ s2.room =
    omega (
      arith,
      whole,
      count,
      c.requires.places,
      c.entry_levels-own.ensures.held,
      c.entry_levels-own.ensures.later.room,
      c.read_part-left.ensures.held,
      c.read_part-left.ensures.later.room,
      place_one left,
    ) in (
      omega (arith, less),
      (
        search rules,
        (
          search rules,
          (c.read_part-left.ensures.stands, (entries, (low, places))),
        ),
      ),
    )

pub levels_under-after-requires : goal.levels_under-after-requires
levels_under-after-requires g t c κs within =
    let at = c.in-Record.at in
    let s0 = g.R.RecordPool.shown c.args.records.now in
    let s4 = g.R.RecordPool.shown c.read_part-right.new.records in
    let right = c.read_part-right.result in
    let t0 = s0.term at in
    let is = rw c.in-Record.is at c.requires.stands in
    let whole : kid_count (row_of s0 c.args.top)
    ≡ kid_count (kids_of (entries_of (part 2 t0))) + 1
    + kid_count (kids_of (entries_of (part 3 t0))) =
    rw c.in-Record.is (entry_count t0 is.1) in
    let most = rw c.in-Record.is at c.requires.most in
    let e1 = c.entry_levels-own.ensures.later.same at is.0 in
    let n1 = c.entry_levels-own.ensures.later.now at is.0 in
    let e2 = c.read_part-left.ensures.later.same at n1 ∙ e1 in
    let n2 = c.read_part-left.ensures.later.now at n1 in
    let same = c.levels_under-before.ensures.later.same at n2 ∙ e2 in
    let before = side_count _ _ t0 2 c.read_part-left.ensures.part e1 in
    let count = side_count _ _ t0 3 c.read_part-right.ensures.part same in
    let levels = side_high _ _ t0 3 c.read_part-right.ensures.part same in
    let less : kid_count (row_of s4 right) < kid_count (row_of s0 c.args.top) =
    omega (arith, whole, count) in
    let entries : AreEntries (part_term s4.term right) =
    subst AreEntries (sym (c.read_part-right.ensures.part ∙ ap (part 3) same))
    (entry_right t0 is.1 (rw c.in-Record.is at c.requires.entries)) in
    let low : height_below (row_of s4 right) ≤ c.args.most =
    omega (arith, entry_high t0 is.1, levels, most) in
    let places : s4.held + 3 * kid_count (row_of s4 right) + 1 ≤ s4.room =
    omega (
      arith,
      whole,
      before,
      count,
      c.requires.places,
      c.entry_levels-own.ensures.held,
      c.entry_levels-own.ensures.later.room,
      c.read_part-left.ensures.held,
      c.read_part-left.ensures.later.room,
      place_one c.read_part-left.result,
      c.levels_under-before.ensures.held,
      c.levels_under-before.ensures.later.room,
      c.read_part-right.ensures.held,
      c.read_part-right.ensures.later.room,
      place_one right,
    ) in (
      omega (arith, less),
      (
        search rules,
        (
          search rules,
          (c.read_part-right.ensures.stands, (entries, (low, places))),
        ),
      ),
    )

pub returns-then-before-most : goal.returns-then-before-most
returns-then-before-most g t c =
    let at = c.in-Record.at in
    let s0 = g.R.RecordPool.shown c.args.records.now in
    let t0 = s0.term at in
    let is = rw c.in-Record.is at c.requires.stands in
    let e1 = c.entry_levels-own.ensures.later.same at is.0 in
    record {
      levels =
          let most = rw c.in-Record.is at c.requires.most in
          let levels = side_high _ _ t0 2 c.read_part-left.ensures.part e1 in
          let whole = entry_high t0 is.1 in
          rw c.in-Record.is (omega (
            arith,
            whole,
            levels,
            most,
            c.levels_under-before.ensures.levels,
            c.if-before-most.true,
          ));
      later =
          later_then (later_then c.entry_levels-own.ensures.later c.read_part-left.ensures.later)
          c.levels_under-before.ensures.later;
      held =
          let whole : kid_count (row_of s0 c.args.top)
          ≡ kid_count (kids_of (entries_of (part 2 t0))) + 1
          + kid_count (kids_of (entries_of (part 3 t0))) =
          rw c.in-Record.is (entry_count t0 is.1) in
          let before = side_count _ _ t0 2 c.read_part-left.ensures.part e1 in
          omega (
            arith,
            whole,
            before,
            c.entry_levels-own.ensures.held,
            c.read_part-left.ensures.held,
            place_one c.read_part-left.result,
            c.levels_under-before.ensures.held,
          );
      records = c.levels_under-before.ensures.records ∙ c.read_part-left.ensures.records
          ∙ c.entry_levels-own.ensures.records;
    }

pub returns : goal.returns
returns g t c =
    let at = c.in-Record.at in
    let s0 = g.R.RecordPool.shown c.args.records.now in
    let t0 = s0.term at in
    let is = rw c.in-Record.is at c.requires.stands in
    let e1 = c.entry_levels-own.ensures.later.same at is.0 in
    let n1 = c.entry_levels-own.ensures.later.now at is.0 in
    let e2 = c.read_part-left.ensures.later.same at n1 ∙ e1 in
    let n2 = c.read_part-left.ensures.later.now at n1 in
    let e3 = c.levels_under-before.ensures.later.same at n2 ∙ e2 in
    record {
      levels =
          let before = side_high _ _ t0 2 c.read_part-left.ensures.part e1 in
          let after = side_high _ _ t0 3 c.read_part-right.ensures.part e3 in
          let whole = entry_high t0 is.1 in
          rw c.in-Record.is (omega (
            arith,
            whole,
            before,
            after,
            c.entry_levels-own.ensures.levels,
            c.levels_under-before.ensures.levels,
            c.levels_under-after.ensures.levels,
            c.max.ensures,
            c.max-2.ensures,
          ));
      later = later_then
          (later_then (later_then c.entry_levels-own.ensures.later c.read_part-left.ensures.later)
          c.levels_under-before.ensures.later)
          (later_then c.read_part-right.ensures.later c.levels_under-after.ensures.later);
      held =
          let whole : kid_count (row_of s0 c.args.top)
          ≡ kid_count (kids_of (entries_of (part 2 t0))) + 1
          + kid_count (kids_of (entries_of (part 3 t0))) =
          rw c.in-Record.is (entry_count t0 is.1) in
          let before = side_count _ _ t0 2 c.read_part-left.ensures.part e1 in
          let after = side_count _ _ t0 3 c.read_part-right.ensures.part e3 in
          omega (
            arith,
            whole,
            before,
            after,
            c.entry_levels-own.ensures.held,
            c.read_part-left.ensures.held,
            place_one c.read_part-left.result,
            c.levels_under-before.ensures.held,
            c.read_part-right.ensures.held,
            place_one c.read_part-right.result,
            c.levels_under-after.ensures.held,
          );
      records = c.levels_under-after.ensures.records ∙ c.read_part-right.ensures.records
          ∙ c.levels_under-before.ensures.records ∙ c.read_part-left.ensures.records
          ∙ c.entry_levels-own.ensures.records;
    }

pub entry_levels-own-requires : goal.entry_levels-own-requires
entry_levels-own-requires g t c =
    let at = c.in-Record.at in
    let is = rw c.in-Record.is at c.requires.stands in
    record {
      stands = is.0;
      five = is.1;
      entry = rw c.in-Record.is at c.requires.entries;
      places =
          let s0 = g.R.RecordPool.shown c.args.records.now in
          let t0 = s0.term at in
          let whole : kid_count (row_of s0 c.args.top)
          ≡ kid_count (kids_of (entries_of (part 2 t0))) + 1
          + kid_count (kids_of (entries_of (part 3 t0))) =
          rw c.in-Record.is (entry_count t0 is.1) in
          omega (arith, whole, c.requires.places);
    }

pub returns-then-own-most-clause-levels : goal.returns-then-own-most-clause-levels
returns-then-own-most-clause-levels g t c =
    let at = c.in-Record.at in
    let t0 = (g.R.RecordPool.shown c.args.records.now).term at in
    let is = rw c.in-Record.is at c.requires.stands in
    let most = rw c.in-Record.is at c.requires.most in
    let whole = entry_high t0 is.1 in
    rw c.in-Record.is (omega (
      arith,
      whole,
      most,
      c.entry_levels-own.ensures.levels,
      c.if-own-most.true,
    ))

pub returns-then-own-most-clause-held : goal.returns-then-own-most-clause-held
returns-then-own-most-clause-held g t c =
    let at = c.in-Record.at in
    let s0 = g.R.RecordPool.shown c.args.records.now in
    let t0 = s0.term at in
    let is = rw c.in-Record.is at c.requires.stands in
    let whole : kid_count (row_of s0 c.args.top)
    ≡ kid_count (kids_of (entries_of (part 2 t0))) + 1
    + kid_count (kids_of (entries_of (part 3 t0))) =
    rw c.in-Record.is (entry_count t0 is.1) in
    omega (arith, whole, c.entry_levels-own.ensures.held)

pub read_part-left-requires-clause-stands : goal.read_part-left-requires-clause-stands
read_part-left-requires-clause-stands g t c =
    let is = rw c.in-Record.is at c.requires.stands in
    c.entry_levels-own.ensures.later.now c.in-Record.at is.0

pub read_part-left-requires-clause-place : goal.read_part-left-requires-clause-place
read_part-left-requires-clause-place g t c =
    let at = c.in-Record.at in
    let s0 = g.R.RecordPool.shown c.args.records.now in
    let t0 = s0.term at in
    let is = rw c.in-Record.is at c.requires.stands in
    let whole : kid_count (row_of s0 c.args.top)
    ≡ kid_count (kids_of (entries_of (part 2 t0))) + 1
    + kid_count (kids_of (entries_of (part 3 t0))) =
    rw c.in-Record.is (entry_count t0 is.1) in
    omega (
      arith,
      whole,
      c.requires.places,
      c.entry_levels-own.ensures.held,
      c.entry_levels-own.ensures.later.room,
    )

pub read_part-right-requires-clause-stands : goal.read_part-right-requires-clause-stands
read_part-right-requires-clause-stands g t c =
    let at = c.in-Record.at in
    let is = rw c.in-Record.is at c.requires.stands in
    c.levels_under-before.ensures.later.now at
    (c.read_part-left.ensures.later.now at (c.entry_levels-own.ensures.later.now at is.0))

pub read_part-right-requires-clause-place : goal.read_part-right-requires-clause-place
read_part-right-requires-clause-place g t c =
    let at = c.in-Record.at in
    let s0 = g.R.RecordPool.shown c.args.records.now in
    let t0 = s0.term at in
    let is = rw c.in-Record.is at c.requires.stands in
    let whole : kid_count (row_of s0 c.args.top)
    ≡ kid_count (kids_of (entries_of (part 2 t0))) + 1
    + kid_count (kids_of (entries_of (part 3 t0))) =
    rw c.in-Record.is (entry_count t0 is.1) in
    let e1 = c.entry_levels-own.ensures.later.same at is.0 in
    let before = side_count _ _ t0 2 c.read_part-left.ensures.part e1 in
    omega (
      arith,
      whole,
      before,
      c.requires.places,
      c.entry_levels-own.ensures.held,
      c.entry_levels-own.ensures.later.room,
      c.read_part-left.ensures.held,
      c.read_part-left.ensures.later.room,
      place_one c.read_part-left.result,
      c.levels_under-before.ensures.held,
      c.levels_under-before.ensures.later.room,
    )
