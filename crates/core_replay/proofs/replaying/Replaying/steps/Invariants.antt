use Rattle.std.proofs.Common.{ℕ, ◌+◌, ◌*◌, ◌^◌, ◌≤◌, List, ◌++◌, drop}
use Rattle.core_replay.specs.Replay.{Writes}
use Rattle.core_replay.specs.Standing.{Standing}
use Rattle.core_replay.proofs.replaying.Replaying.steps.Given as goal

-- what is written so far, with what the steps that are left write, is what they all write
abbrev pub invariant-loop-numbered : goal.invariant-loop-numbered
invariant-loop-numbered l = record {
  so_far : (rest : List ℕ) (last : Standing)
      → Writes l.self (drop l.numbered-index l.steps) rest last
      → Writes l.initial.self l.steps (l.text.items ++ rest) last;
  few : l.self.taken ≤ l.initial.self.taken + l.numbered-index * 2 ^ 18;
}
