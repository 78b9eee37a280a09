use Rattle.std.specs.Prelude.{◌≡◌, Result}
use Rattle.client_session.specs.Carries.{Makes, Stands}
use Rattle.client_session.specs.Turns.{MayTurn}
use Rattle.client_session.proofs.journal.Journal.commit_along.Given as goal
use Rattle.client_history.specs.State.{ClientState}
use Rattle.doc_model.specs.declared.command.Command.{Command}
use Rattle.doc_tree.specs.Tree.{DocTree}
use Rattle.doc_tree.specs.declared.edit.EditFault.{EditFault}

-- what the edit made of the first version, it made of the one that it was carried over to
abbrev pub invariant-loop : goal.invariant-loop
invariant-loop g l =
    let h = g.H.ClientHeap in
    record {
      may : MayTurn l.self (h.state l.heap);
      stands : Stands (h.state l.heap) (h.shown l.heap) l.edited;
      makes : (c : Command) (f : DocTree → Result DocTree EditFault) (b : ClientState)
          → Makes l.self c f l.along b (h.state l.fn.heap) (h.shown l.fn.heap) l.fn.edited
          → Makes l.self c f l.along b (h.state l.heap) (h.shown l.heap) l.edited;
      lent : h.lent l.heap ≡ h.lent l.fn.heap;
    }
