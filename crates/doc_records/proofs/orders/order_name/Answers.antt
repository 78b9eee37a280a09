use Rattle.std.proofs.Common.{arith}
use Rattle.doc_records.proofs.Chains.{num_first}
use Rattle.doc_records.proofs.Heads.{head_end, head_less, head_more}
use Rattle.doc_records.proofs.Rows.{name_chain}
use Rattle.doc_records.proofs.orders.order_name.Goals as goal

pub read_number-requires-clause-num : goal.read_number-requires-clause-num
read_number-requires-clause-num g c =
    let is = rw c.in-Record.is at c.requires.stands in
    let written = rw c.in-Record.is at c.requires.written in
    num_first _ is.1 (name_chain _ written)

pub returns-then-head-theirs-clause-order : goal.returns-then-head-theirs-clause-order
returns-then-head-theirs-clause-order g c =
    let is = rw c.in-Record.is at c.requires.stands in
    let written = rw c.in-Record.is at c.requires.written in
    rw c.in-Record.is
    (head_less _ _ _ _ _ c.requires.name is.1 written c.requires.head
    c.read_number.ensures.number c.swap_bytes-theirs.ensures c.if-head-theirs.true)

pub returns-then-head-theirs-2-clause-order : goal.returns-then-head-theirs-2-clause-order
returns-then-head-theirs-2-clause-order g c =
    let is = rw c.in-Record.is at c.requires.stands in
    let written = rw c.in-Record.is at c.requires.written in
    rw c.in-Record.is
    (head_more _ _ _ _ _ c.requires.name is.1 written c.requires.head
    c.read_number.ensures.number c.swap_bytes-theirs.ensures c.if-head-theirs-2.true)

pub returns-then-head-eq0-clause-order : goal.returns-then-head-eq0-clause-order
returns-then-head-eq0-clause-order g c =
    let is = rw c.in-Record.is at c.requires.stands in
    let written = rw c.in-Record.is at c.requires.written in
    rw c.in-Record.is
    (head_end _ _ _ _ _ c.requires.name is.1 written c.requires.head
    c.read_number.ensures.number c.swap_bytes-theirs.ensures
    (omega (arith, c.if-head-theirs.false, c.if-head-theirs-2.false)) c.if-head-eq0.true)
