use Rattle.std.proofs.Common.{◌≡◌, ◌∙◌, Some, ap, arith, subst, sym, true, rules, tests}
use Rattle.cell_words.specs.Term.{Term, part, IsFive}
use Rattle.doc_records.specs.Pool.{IsOn, part_term}
use Rattle.doc_records.specs.Trees.{AreEntries, tree_of}
use Rattle.doc_records.proofs.Descents.{at_record, begun, child_fits, deeper, ended, here_held}
use Rattle.doc_records.proofs.Descents.{high, lower, name_fits, side_place}
use Rattle.doc_records.proofs.Rows.{entry_left, entry_right, find_equal, find_greater, find_less}
use Rattle.doc_records.proofs.Rows.{left_low, right_low, rising_on_left, rising_on_right}
use Rattle.doc_records.proofs.Steps.{later_then, low_then, some_is}
use Rattle.doc_records.proofs.finding.find_under.Goals as goal

pub loop-side-init : goal.loop-side-init
loop-side-init g c =
    begun g.R.RecordPool.shared c.args.name.now (g.R.RecordPool.shown c.args.records.now)
    c.args.top c.requires.stands c.requires.entries c.requires.rising c.requires.places

pub order_by_head-requires : goal.order_by_head-requires
order_by_head-requires g c =
    let far = at_record c.in-Record.is c.loop-side.invariant in
    record {
      stands = far.stands.0;
      five = far.stands.1;
      entry = far.entries;
      places = name_fits _ _ _ _ (left_low _ far.stands.1) far.places;
      head = search (arith, rules, tests);
    }

pub read_part-side-requires-clause-stands : goal.read_part-side-requires-clause-stands
read_part-side-requires-clause-stands g c =
    let far = at_record c.in-Record.is c.loop-side.invariant in
    c.order_by_head.ensures.later.now c.in-Record.at far.stands.0

pub read_part-side-requires-clause-place : goal.read_part-side-requires-clause-place
read_part-side-requires-clause-place g c =
    let far = at_record c.in-Record.is c.loop-side.invariant in
    side_place _ _ _ _ _ _ (left_low _ far.stands.1) far.places c.order_by_head.ensures.held
    c.order_by_head.ensures.later.room

pub loop-side-smaller-in-Less : goal.loop-side-smaller-in-Less
loop-side-smaller-in-Less g c =
    let s = g.R.RecordPool.shown c.loop-side.records in
    let far = at_record c.in-Record.is c.loop-side.invariant in
    let low =
    lower _ _ _ _ _ _ _ _ _ 2 far c.order_by_head.ensures.later c.read_part-side.ensures.later
    c.read_part-side.ensures.part (left_low _ far.stands.1) in
    let same : high (part_term s.term c.loop-side.side) ≡ high (s.term c.in-Record.at) =
    ap (λ p. high (part_term s.term p)) c.in-Record.is in
    omega (arith, low, same)

pub loop-side-preserved-in-Less : goal.loop-side-preserved-in-Less
loop-side-preserved-in-Less g c =
    let far = at_record c.in-Record.is c.loop-side.invariant in
    deeper _ _ _ _ _ _ _ _ _ 2 far c.order_by_head.ensures.later c.read_part-side.ensures.later
    c.read_part-side.ensures.part (left_low _ far.stands.1)
    (entry_left _ far.stands.1 far.entries) (rising_on_left _ far.stands.1 far.rising)
    (find_less _ _ far.stands.1 far.rising (sym c.order_by_head.ensures.order ∙ c.in-Less.is))
    c.order_by_head.ensures.held c.read_part-side.ensures.held c.order_by_head.ensures.records
    c.read_part-side.ensures.records c.read_part-side.ensures.stands
    c.read_part-side.ensures.shared c.read_part-side.ensures.on

pub read_part-side-requires-in-Greater-clause-stands :
    goal.read_part-side-requires-in-Greater-clause-stands
read_part-side-requires-in-Greater-clause-stands g c =
    let far = at_record c.in-Record.is c.loop-side.invariant in
    c.order_by_head.ensures.later.now c.in-Record.at far.stands.0

pub read_part-side-requires-in-Greater-clause-place :
    goal.read_part-side-requires-in-Greater-clause-place
read_part-side-requires-in-Greater-clause-place g c =
    let far = at_record c.in-Record.is c.loop-side.invariant in
    side_place _ _ _ _ _ _ (right_low _ far.stands.1) far.places c.order_by_head.ensures.held
    c.order_by_head.ensures.later.room

pub loop-side-smaller : goal.loop-side-smaller
loop-side-smaller g c =
    let s = g.R.RecordPool.shown c.loop-side.records in
    let far = at_record c.in-Record.is c.loop-side.invariant in
    let low =
    lower _ _ _ _ _ _ _ _ _ 3 far c.order_by_head.ensures.later
    c.read_part-side-in-Greater.ensures.later c.read_part-side-in-Greater.ensures.part
    (right_low _ far.stands.1) in
    let same : high (part_term s.term c.loop-side.side) ≡ high (s.term c.in-Record.at) =
    ap (λ p. high (part_term s.term p)) c.in-Record.is in
    omega (arith, low, same)

pub loop-side-preserved : goal.loop-side-preserved
loop-side-preserved g c =
    let far = at_record c.in-Record.is c.loop-side.invariant in
    deeper _ _ _ _ _ _ _ _ _ 3 far c.order_by_head.ensures.later
    c.read_part-side-in-Greater.ensures.later c.read_part-side-in-Greater.ensures.part
    (right_low _ far.stands.1) (entry_right _ far.stands.1 far.entries)
    (rising_on_right _ far.stands.1 far.rising)
    (find_greater _ _ far.stands.1 far.rising
    (sym c.order_by_head.ensures.order ∙ c.in-Greater.is))
    c.order_by_head.ensures.held c.read_part-side-in-Greater.ensures.held
    c.order_by_head.ensures.records c.read_part-side-in-Greater.ensures.records
    c.read_part-side-in-Greater.ensures.stands c.read_part-side-in-Greater.ensures.shared
    c.read_part-side-in-Greater.ensures.on

pub entry_child-requires : goal.entry_child-requires
entry_child-requires g c =
    let far = at_record c.in-Record.is c.loop-side.invariant in
    record {
      stands = c.order_by_head.ensures.later.now c.in-Record.at far.stands.0;
      five = subst IsFive (sym (c.order_by_head.ensures.later.same c.in-Record.at far.stands.0))
          far.stands.1;
      entry =
          subst AreEntries (sym (c.order_by_head.ensures.later.same c.in-Record.at far.stands.0))
          far.entries;
      places =
          child_fits _ _ _ _ _ _ (left_low _ far.stands.1) far.places c.order_by_head.ensures.held
          c.order_by_head.ensures.later.room;
    }

pub returns-in-Equal : goal.returns-in-Equal
returns-in-Equal g c =
    let far = at_record c.in-Record.is c.loop-side.invariant in
    record {
      child =
          let same = c.order_by_head.ensures.later.same c.in-Record.at far.stands.0 in
          ap (λ (u : Term). Some (tree_of u))
          (c.entry_child.ensures.term ∙ ap (λ (u : Term). part 1 u) same)
          ∙ sym
          (find_equal _ _ far.stands.1 far.rising (sym c.order_by_head.ensures.order
          ∙ c.in-Equal.is))
          ∙ far.child;
      stands = search (arith, rules, tests);
      shared =
          λ own. some_is (λ a. g.R.RecordPool.shared a ≡ true) _ (c.entry_child.ensures.shared
          (far.shares own));
      on =
          λ places low on.
          let few = low_then far.later low in
          some_is (IsOn g.R.RecordPool.shared
          (g.R.RecordPool.shown c.entry_child.new.records) places) _
          (c.entry_child.ensures.on places (low_then c.order_by_head.ensures.later few)
          (λ private.
          c.order_by_head.ensures.later.still c.in-Record.at places
          (far.on places low on private) few));
      later = later_then c.loop-side.invariant.later
          (later_then c.order_by_head.ensures.later c.entry_child.ensures.later);
      held = here_held _ _ _ _ _ _ (left_low _ far.stands.1) far.held c.order_by_head.ensures.held
          c.entry_child.ensures.held;
      records = c.entry_child.ensures.records ∙ c.order_by_head.ensures.records
          ∙ c.loop-side.invariant.records;
    }

pub returns : goal.returns
returns g c =
    let far = c.loop-side.invariant in
    record {
      child = ended c.loop-side.side c.in_default.not-Record far;
      stands = λ x e. absurd (cc e);
      shared = λ own x e. absurd (cc e);
      on = λ places low on x e. absurd (cc e);
      later = far.later;
      held = omega (arith, far.held);
      records = far.records;
    }
