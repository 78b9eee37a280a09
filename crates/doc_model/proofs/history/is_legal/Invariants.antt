use Rattle.std.proofs.Common.{◌↔◌, ◌≤◌, drop, All}
use Rattle.doc_model.specs.History.{IsLegal}
use Rattle.doc_model.specs.Store.{opening}
use Rattle.doc_model.proofs.history.is_legal.Given as goal

-- the history is legal where its rest is, and nobody was answered more than there were entries
abbrev pub invariant-loop-entry : goal.invariant-loop-entry
invariant-loop-entry l = record {
  rest : IsLegal l.store (drop l.entry-index l.entries) ↔ IsLegal
      (opening l.fn.clients (record { keep = l.fn.keep; versions = l.fn.versions })) l.entries;
  few : All (λ m. m.answered ≤ l.entry-index) l.store.accounts;
}
