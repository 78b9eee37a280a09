use Rattle.doc_edits.proofs.Along.{text_node}
use Rattle.std.proofs.Common.{ap, arith, length, rules, tests}
use Rattle.doc_edits.proofs.Along.{text_few}
use Rattle.doc_edits.proofs.Standing.{later_then}
use Rattle.doc_edits.proofs.edits.text_under.Goals as goal

pub returns-in-None : goal.returns-in-None
returns-in-None g c =
    let spells =
    text_node _ _ _ _ c.bytes-bytes.ensures.bytes c.make_text-written.ensures.text
    c.bytes-bytes.ensures.text c.make.ensures.term in
    record {
      node = record { stands = c.make.ensures.stands; node = spells.node };
      tree = rw c.in-None.is spells.tree;
      later = later_then c.make_text-written.ensures.later c.make.ensures.later;
      held = search (arith, rules, tests);
      records = omega (
        arith,
        ap length c.bytes-bytes.ensures.bytes,
        text_few c.args.text.now c.bytes-bytes.ensures.text,
        c.make_text-written.ensures.records,
        c.make.ensures.records,
      );
    }

pub with_text-requires-clause-stands : goal.with_text-requires-clause-stands
with_text-requires-clause-stands g c =
    let top = rw c.in-Some.is at c.requires.top in
    top.stands

pub with_text-requires-clause-node : goal.with_text-requires-clause-node
with_text-requires-clause-node g c =
    let top = rw c.in-Some.is at c.requires.top in
    top.node.node

pub with_text-requires-clause-records : goal.with_text-requires-clause-records
with_text-requires-clause-records g c =
    omega (arith, text_few c.args.text.now c.bytes-bytes.ensures.text, c.requires.records)

pub returns-in-Some-clause-tree : goal.returns-in-Some-clause-tree
returns-in-Some-clause-tree g c = rw c.in-Some.is c.with_text.ensures.tree.tree

pub returns-in-Some-clause-node : goal.returns-in-Some-clause-node
returns-in-Some-clause-node g c = record {
  stands = c.with_text.ensures.stands;
  node = c.with_text.ensures.tree.node;
}

pub returns-in-Some-clause-records : goal.returns-in-Some-clause-records
returns-in-Some-clause-records g c =
    omega (
      arith,
      text_few c.args.text.now c.bytes-bytes.ensures.text,
      c.with_text.ensures.records,
    )

pub make_text-written-requires-clause-few : goal.make_text-written-requires-clause-few
make_text-written-requires-clause-few g c =
    omega (
      arith,
      ap length c.bytes-bytes.ensures.bytes,
      text_few c.args.text.now c.bytes-bytes.ensures.text,
    )

pub make_text-written-requires-clause-records : goal.make_text-written-requires-clause-records
make_text-written-requires-clause-records g c =
    omega (
      arith,
      ap length c.bytes-bytes.ensures.bytes,
      text_few c.args.text.now c.bytes-bytes.ensures.text,
      c.requires.records,
    )

pub make-requires-clause-records : goal.make-requires-clause-records
make-requires-clause-records g c =
    omega (
      arith,
      ap length c.bytes-bytes.ensures.bytes,
      text_few c.args.text.now c.bytes-bytes.ensures.text,
      c.make_text-written.ensures.records,
      c.requires.records,
    )
