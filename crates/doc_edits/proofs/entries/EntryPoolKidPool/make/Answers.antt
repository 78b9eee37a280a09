use Rattle.std.proofs.Common.{◌∙◌, ap, arith, length, subst, sym, rules, tests}
use Rattle.kids_avl.specs.Entries.{IsBalanced}
use Rattle.kids_avl.proofs.Turns.{same_entry}
use Rattle.doc_records.specs.Texts.{SpellsText}
use Rattle.doc_records.specs.Trees.{tree_of}
use Rattle.doc_edits.proofs.Fields.{name_low, name_made, name_spelled}
use Rattle.doc_edits.proofs.Pools.{entries_later, side_same, side_still}
use Rattle.doc_edits.proofs.Standing.{later_then, node_still}
use Rattle.doc_edits.proofs.entries.EntryPoolKidPool.make.Goals as goal

pub make_text-written-requires-clause-few : goal.make_text-written-requires-clause-few
make_text-written-requires-clause-few g c =
    omega (
      arith,
      ap length c.bytes.ensures.bytes,
      name_low c.args.name.now c.bytes.ensures.name,
    )

pub make_text-written-requires-clause-records : goal.make_text-written-requires-clause-records
make_text-written-requires-clause-records g c =
    omega (
      arith,
      ap length c.bytes.ensures.bytes,
      name_low c.args.name.now c.bytes.ensures.name,
      c.requires.records,
    )

pub make_entry-requires : goal.make_entry-requires
make_entry-requires g c =
    let later = c.make_text-written.ensures.later in
    record {
      written = search (arith, rules, tests);
      name = name_made _ c.args.name.now
          (subst (SpellsText _) c.bytes.ensures.bytes c.make_text-written.ensures.text)
          c.bytes.ensures.name;
      child = record {
        node = node_still _ _ c.args.child later c.requires.child.node;
        place = omega (arith, later.room, c.make_text-written.ensures.held, c.requires.child.place);
      };
      left = side_still g.R.RecordPool.shown c.args.self.now _ _ _ later
          (omega (arith, later.room, c.make_text-written.ensures.held, c.requires.child.place))
          c.part_of.ensures c.requires.left;
      right = side_still g.R.RecordPool.shown c.args.self.now _ _ _ later
          (omega (arith, later.room, c.make_text-written.ensures.held, c.requires.child.place))
          c.part_of-2.ensures c.requires.right;
      balanced =
          let shown = g.R.RecordPool.shown in
          let same = same_entry _ _ _ _ _ _ _ _ (name_spelled _ c.args.name.now
          (subst (SpellsText _) c.bytes.ensures.bytes c.make_text-written.ensures.text)
          c.bytes.ensures.name)
          (ap tree_of (later.same c.args.child c.requires.child.node.stands))
          (side_same shown c.args.self.now _ _ _ later c.part_of.ensures c.requires.left)
          (side_same shown c.args.self.now _ _ _ later c.part_of-2.ensures c.requires.right) in
          subst IsBalanced (sym same) c.requires.balanced;
      few = omega (arith, c.requires.records);
      records = omega (
        arith,
        ap length c.bytes.ensures.bytes,
        name_low c.args.name.now c.bytes.ensures.name,
        c.make_text-written.ensures.records,
        c.requires.records,
      );
    }

pub returns-clause-entry : goal.returns-clause-entry
returns-clause-entry g c =
    let later = c.make_text-written.ensures.later in
    let shown = g.R.RecordPool.shown in
    let same = same_entry _ _ _ _ _ _ _ _ (name_spelled _ c.args.name.now
    (subst (SpellsText _) c.bytes.ensures.bytes c.make_text-written.ensures.text)
    c.bytes.ensures.name)
    (ap tree_of (later.same c.args.child c.requires.child.node.stands))
    (side_same shown c.args.self.now _ _ _ later c.part_of.ensures c.requires.left)
    (side_same shown c.args.self.now _ _ _ later c.part_of-2.ensures c.requires.right) in
    c.make_entry.ensures.entry ∙ same

pub returns-clause-later : goal.returns-clause-later
returns-clause-later g c =
    let first = c.make_text-written.ensures.later in
    let second = c.make_entry.ensures.later in
    entries_later g.R.RecordPool.shown _ _ (later_then first second)
    (omega (
      arith,
      first.room,
      second.room,
      c.make_text-written.ensures.held,
      c.make_entry.ensures.held,
      c.requires.child.place,
    ))
    (omega (arith, c.make_entry.ensures.made)) c.make_entry.ensures.lent

pub returns-clause-places : goal.returns-clause-places
returns-clause-places g c =
    omega (
      arith,
      c.make_text-written.ensures.later.room,
      c.make_entry.ensures.later.room,
      c.make_text-written.ensures.held,
      c.make_entry.ensures.held,
    )

pub returns-clause-records : goal.returns-clause-records
returns-clause-records g c =
    omega (
      arith,
      ap length c.bytes.ensures.bytes,
      name_low c.args.name.now c.bytes.ensures.name,
      c.make_text-written.ensures.records,
      c.make_entry.ensures.records,
      c.make_entry.ensures.made,
    )
