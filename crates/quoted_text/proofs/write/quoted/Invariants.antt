use Rattle.std.proofs.Common.{◌≡◌, ◌∷◌, take}
use Rattle.std.specs.List.{flat_map}
use Rattle.quoted_text.specs.Quoted.{escaped}
use Rattle.quoted_text.proofs.write.quoted.Given as goal

abbrev pub invariant-loop-byte : goal.invariant-loop-byte
invariant-loop-byte l = l.line.items ≡ 34 ∷ flat_map escaped (take l.byte-index l.text)
