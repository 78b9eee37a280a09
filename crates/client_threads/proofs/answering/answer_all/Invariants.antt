use Rattle.std.proofs.Common.{take}
use Rattle.client_threads.specs.Going.{Went}
use Rattle.client_threads.proofs.answering.answer_all.Given as goal

-- the first commands are answered
abbrev pub invariant-loop-index : goal.invariant-loop-index
invariant-loop-index g l = Went (take l.index l.script) l.fn.session l.fn.m l.session l.m
