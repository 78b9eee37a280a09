use Rattle.std.proofs.Common.{◌∙◌, ap, arith, subst, sym, rules, tests}
use Rattle.kids_avl.specs.Entries.{IsBalanced}
use Rattle.kids_avl.proofs.Turns.{same_entry}
use Rattle.doc_records.specs.Texts.{IsName, text_of}
use Rattle.doc_records.specs.Trees.{tree_of}
use Rattle.doc_records.proofs.Rows.{entry_name}
use Rattle.doc_edits.proofs.Fields.{own_name}
use Rattle.doc_edits.proofs.Pools.{entries_later, side_same, side_still}
use Rattle.doc_edits.proofs.Sized.{place_one}
use Rattle.doc_edits.proofs.Standing.{later_then, node_still}
use Rattle.doc_edits.proofs.entries.EntryPoolKidPool.make_like.Goals as goal

pub make_entry-requires : goal.make_entry-requires
make_entry-requires g c =
    let later = c.read_part-written.ensures.later in
    record {
      written = search (arith, rules, tests);
      name =
          let t = (g.R.RecordPool.shown c.args.self.now.records.now).term c.args.like in
          subst IsName (sym c.read_part-written.ensures.part)
          (entry_name t c.requires.like.five c.requires.like.entries);
      child = record {
        node = node_still _ _ c.args.child later c.requires.child.node;
        place = omega (
          arith,
          later.room,
          c.read_part-written.ensures.held,
          place_one c.read_part-written.result,
          c.requires.places,
        );
      };
      left = side_still g.R.RecordPool.shown c.args.self.now _ _ _ later
          (omega (
            arith,
            later.room,
            c.read_part-written.ensures.held,
            place_one c.read_part-written.result,
            c.requires.places,
          ))
          c.part_of.ensures c.requires.left;
      right = side_still g.R.RecordPool.shown c.args.self.now _ _ _ later
          (omega (
            arith,
            later.room,
            c.read_part-written.ensures.held,
            place_one c.read_part-written.result,
            c.requires.places,
          ))
          c.part_of-2.ensures c.requires.right;
      balanced =
          let shown = g.R.RecordPool.shown in
          let same = same_entry _ _ _ _ _ _ _ _ (ap text_of c.read_part-written.ensures.part
          ∙ sym (own_name ((shown c.args.self.now.records.now).term c.args.like)
          c.requires.like.five))
          (ap tree_of (later.same c.args.child c.requires.child.node.stands))
          (side_same shown c.args.self.now _ _ _ later c.part_of.ensures c.requires.left)
          (side_same shown c.args.self.now _ _ _ later c.part_of-2.ensures c.requires.right) in
          subst IsBalanced (sym same) c.requires.balanced;
      few = omega (arith, c.requires.records);
      records = omega (arith, c.read_part-written.ensures.records, c.requires.records);
    }

pub returns-clause-entry : goal.returns-clause-entry
returns-clause-entry g c =
    let later = c.read_part-written.ensures.later in
    let shown = g.R.RecordPool.shown in
    let same = same_entry _ _ _ _ _ _ _ _ (ap text_of c.read_part-written.ensures.part
    ∙ sym (own_name ((shown c.args.self.now.records.now).term c.args.like) c.requires.like.five))
    (ap tree_of (later.same c.args.child c.requires.child.node.stands))
    (side_same shown c.args.self.now _ _ _ later c.part_of.ensures c.requires.left)
    (side_same shown c.args.self.now _ _ _ later c.part_of-2.ensures c.requires.right) in
    c.make_entry.ensures.entry ∙ same

pub returns-clause-later : goal.returns-clause-later
returns-clause-later g c =
    let first = c.read_part-written.ensures.later in
    let second = c.make_entry.ensures.later in
    entries_later g.R.RecordPool.shown _ _ (later_then first second)
    (omega (
      arith,
      first.room,
      second.room,
      c.read_part-written.ensures.held,
      place_one c.read_part-written.result,
      c.make_entry.ensures.held,
      c.requires.places,
    ))
    (omega (arith, c.make_entry.ensures.made)) c.make_entry.ensures.lent

pub returns-clause-places : goal.returns-clause-places
returns-clause-places g c =
    omega (
      arith,
      c.read_part-written.ensures.later.room,
      c.make_entry.ensures.later.room,
      c.read_part-written.ensures.held,
      place_one c.read_part-written.result,
      c.make_entry.ensures.held,
    )

pub returns-clause-records : goal.returns-clause-records
returns-clause-records g c =
    omega (
      arith,
      c.read_part-written.ensures.records,
      c.make_entry.ensures.records,
      c.make_entry.ensures.made,
    )
