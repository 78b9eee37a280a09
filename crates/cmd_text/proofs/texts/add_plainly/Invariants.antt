use Rattle.std.proofs.Common.{◌≡◌, ◌++◌, take}
use Rattle.cmd_text.specs.ReplyText.{plainly_of}
use Rattle.cmd_text.proofs.texts.add_plainly.Given as goal

-- what stood there, and the bytes so far
abbrev pub invariant-loop-byte : goal.invariant-loop-byte
invariant-loop-byte l =
    l.lines.items ≡ l.initial.lines.items ++ plainly_of (take l.byte-index l.text)
