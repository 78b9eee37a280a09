use Rattle.std.proofs.Common.{◌≡◌, drop}
use Rattle.client_session.specs.Batches.{IsWorking}
use Rattle.client_session.proofs.batching.make_all.Given as goal
use Rattle.doc_model.specs.Answers.{all_made}
use Rattle.doc_records.specs.Trees.{tree_of}

-- the edits that are left make of this tree what all make of the first
abbrev pub invariant-loop-edit : goal.invariant-loop-edit
invariant-loop-edit g l =
    let h = g.H.ClientHeap in
    let s = h.state l.fn.heap in
    record {
      working : IsWorking s (h.state l.heap) (h.shown l.heap) l.fn.opened.version.number
          (all_made (tree_of s.draft) l.edits ((h.shown l.fn.heap).tree l.fn.opened.root))
          (drop l.edit-index l.edits) l.working;
      lent : h.lent l.heap ≡ h.lent l.fn.heap;
    }
