use Rattle.std.proofs.Common.{arith, refl, ◌∙◌}
use Rattle.std.proofs.lemmas.Result.{err_from_is_err_and}
use Rattle.client_session.specs.Turns.{account_of, bounds}
use Rattle.client_session.proofs.Readings.{opened_ends, opens_knows, rests_lost}
use Rattle.client_session.proofs.journal.Journal.list.Goals as goal
use Rattle.client_history.proofs.Commands.{list_is}
use Rattle.client_history.proofs.States.{rests_reads, rests_then}
use Rattle.doc_model.specs.declared.command.Command.TheVariants as command
use Rattle.doc_tree.specs.Tree.{node}

pub returns-clause-ends : goal.returns-clause-ends
returns-clause-ends g c =
    let h = g.H.ClientHeap in
    let j = c.args.self.now in
    let path = c.args.path.now in
    let s = h.state c.args.heap.now in
    let u = h.state c.names_given.new.heap in
    let o = c.open-opened.result in
    let now = (h.shown c.open-opened.new.heap).tree o.root in
    let read = c.in_ok-given.ensures in
    opened_ends j (command.List path) c.requires.may c.in_ok-given.given c.requires.room
    c.open-opened.ensures.opens read.kept read.place read.plain read.rests
    (read.shows c.open-opened.ensures.shared)
    (λ trees fits. list_is (bounds j.limits) (account_of j s) u.pass o.version.number now
    (opens_knows c.open-opened.ensures.opens read.rests) path (node path now) refl trees fits
    ∙ read.told)

pub returns-clause-reads : goal.returns-clause-reads
returns-clause-reads g c =
    rests_reads (rests_then c.open-opened.ensures.opens.rests c.in_ok-given.ensures.rests)

pub returns-clause-lent : goal.returns-clause-lent
returns-clause-lent g c = c.in_ok-given.ensures.lent ∙ c.open-opened.ensures.lent

pub returns-in_err-given-clause-ends : goal.returns-in_err-given-clause-ends
returns-in_err-given-clause-ends g c =
    let failed = err_from_is_err_and c.from_residual.result c.from_residual.ensures.1 in
    rw failed.1
    (rests_lost (omega (arith, c.requires.room))
    (rests_then c.open-opened.ensures.opens.rests c.in_err-given.ensures.rests))

pub returns-in_err-given-clause-reads : goal.returns-in_err-given-clause-reads
returns-in_err-given-clause-reads g c =
    rests_reads (rests_then c.open-opened.ensures.opens.rests c.in_err-given.ensures.rests)

pub returns-in_err-given-clause-lent : goal.returns-in_err-given-clause-lent
returns-in_err-given-clause-lent g c =
    c.in_err-given.ensures.lent ∙ c.open-opened.ensures.lent
