use Rattle.std.proofs.Common.{◌≡◌, ◌++◌, take}
use Rattle.cmd_text.specs.ReplyText.{spaced}
use Rattle.cmd_text.proofs.reply.add_spaced.Given as goal

-- what stood there, and the names so far
abbrev pub invariant-loop-name : goal.invariant-loop-name
invariant-loop-name l =
    l.lines.items ≡ l.initial.lines.items ++ spaced (take l.name-index l.name-items)
