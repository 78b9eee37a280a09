use Rattle.std.proofs.Common.{refl, ◌∙◌}
use Rattle.client_session.specs.Turns.{account_of, bounds}
use Rattle.client_session.proofs.Readings.{opened_ends, opens_knows}
use Rattle.client_session.proofs.journal.Journal.size.Goals as goal
use Rattle.client_history.proofs.Commands.{size_is}
use Rattle.doc_model.specs.declared.command.Command.TheVariants as command
use Rattle.doc_tree.specs.Tree.{node}

pub returns-clause-ends : goal.returns-clause-ends
returns-clause-ends g c =
    let h = g.H.ClientHeap in
    let j = c.args.self.now in
    let path = c.args.path.now in
    let s = h.state c.args.heap.now in
    let u = h.state c.count_given-given.new.heap in
    let o = c.open-opened.result in
    let now = (h.shown c.open-opened.new.heap).tree o.root in
    let read = c.count_given-given.ensures in
    let given = c.count_given-given.result in
    opened_ends j (command.Size path) c.requires.may given c.requires.room
    c.open-opened.ensures.opens read.kept read.place read.plain read.rests
    (read.shows c.open-opened.ensures.shared)
    (λ trees fits. size_is (bounds j.limits) (account_of j s) u.pass o.version.number now
    (opens_knows c.open-opened.ensures.opens read.rests) path (node path now) refl trees fits
    ∙ read.told)
