use Rattle.std.proofs.Common.{◌≡◌, ◌++◌, take}
use Rattle.result_text.specs.Mailed.{items_text_of}
use Rattle.result_text.proofs.mailed.add_items.Given as goal

-- what stood there, and the lines of the items so far
abbrev pub invariant-loop-item : goal.invariant-loop-item
invariant-loop-item l =
    l.text.items ≡ l.initial.text.items ++ items_text_of (take l.item-index l.items)
