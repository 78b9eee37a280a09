use Rattle.std.proofs.Common.{◌≡◌, drop}
use Rattle.std.specs.List.{list_all}
use Rattle.dlg_core.specs.PlainCycle.{all_out, is_out}
use Rattle.dlg_core.proofs.machine.Core.are_out.Given as goal

abbrev pub invariant-loop-m : goal.invariant-loop-m
invariant-loop-m l = list_all is_out (drop l.m l.self.presences) ≡ all_out l.self
