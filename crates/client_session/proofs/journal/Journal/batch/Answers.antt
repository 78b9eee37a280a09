use Rattle.std.proofs.Common.{List, arith, refl, subst}
use Rattle.client_session.specs.Turns.{Ends}
use Rattle.client_session.proofs.Rooms.{full_ends, may_on}
use Rattle.client_session.proofs.journal.Journal.batch.Goals as goal
use Rattle.doc_model.specs.declared.command.Command.TheVariants as command
use Rattle.doc_model.specs.declared.edits.Edit.{Edit}

pub batch_over-ended-requires : goal.batch_over-ended-requires
batch_over-ended-requires g c =
    let begins = c.in-Ok.ensures.begins in
    record {
      may = may_on c.requires.may begins.read.none;
      room = let x = begins.room in omega (arith, x);
      version = begins.holds.version;
      node = begins.holds.node;
      seen = begins.read.seen;
    }

pub returns-in-Ok-clause-ends : goal.returns-in-Ok-clause-ends
returns-in-Ok-clause-ends g c =
    let h = g.H.ClientHeap in
    let s = h.state c.args.heap.now in
    subst
    (λ (es : List Edit). Ends c.args.self.now (command.Batch es) s
    (h.state c.batch_over-ended.new.heap) c.batch_over-ended.result)
    c.edits.ensures.edits
    (c.batch_over-ended.ensures.ends s c.requires.may c.in-Ok.ensures.begins)

pub returns-in-Err-clause-ends : goal.returns-in-Err-clause-ends
returns-in-Err-clause-ends g c =
    full_ends c.args.self.now (command.Batch c.args.edits.now) c.in-Err.shown c.requires.may refl
    c.in-Err.ensures.full
