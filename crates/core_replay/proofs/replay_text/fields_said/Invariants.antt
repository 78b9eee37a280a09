use Rattle.std.proofs.Common.{◌≡◌, string_bytes}
use Rattle.core_replay.proofs.Fields.{first_fields}
use Rattle.core_replay.proofs.replay_text.fields_said.Given as goal

abbrev pub invariant-loop-i : goal.invariant-loop-i
invariant-loop-i l = string_bytes l.text ≡ first_fields l.core l.cell l.i
