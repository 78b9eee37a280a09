use Rattle.std.proofs.Common.{◌+◌, ◌≤◌}
use Rattle.client_threads.specs.Going.{Waits}
use Rattle.doc_export.specs.Looks.{looks}
use Rattle.version_store.specs.Lasts.{marks}
use Rattle.doc_export.proofs.waiting.await_end.Given as goal

-- it looks once a turn
abbrev pub invariant-loop-look : goal.invariant-loop-look
invariant-loop-look g l = record {
  waits : Waits l.fn.m l.m;
  looked : looks (marks l.fn.m) + l.look ≤ looks (marks l.m);
}
