use Rattle.std.proofs.Common.{◌+◌, ◌∙◌, [], ap, subst, sym, List}
use Rattle.mail_rule.specs.declared.items.Item.{Item}
use Rattle.mail_threads.specs.Calls.{Received}
use Rattle.mail_threads.proofs.Going.{still_room, returns_then}
use Rattle.mail_threads.proofs.Turns.{received_first, received_item, received_none}
use Rattle.mail_threads.proofs.receiving.take_turns.Goals as goal
use Rattle.mail_threads.proofs.receiving.take_turns.Goals.{in-Some+else-not-keep, in-None}

pub loop-line-init : goal.loop-line-init
loop-line-init g c =
    received_first c.args.items.now.items c.args.m.now c.requires.fresh c.requires.empty

pub take_next-requires-clause-inside : goal.take_next-requires-clause-inside
take_next-requires-clause-inside g c =
    c.loop-line.invariant.returns.goes.inside ∙ c.requires.fresh.inside

pub take_next-requires-clause-room : goal.take_next-requires-clause-room
take_next-requires-clause-room g c =
    still_room c.args.m.now c.loop-line.m c.loop-line.invariant.returns c.requires.fresh.room

pub returns-then-not-keep-clause-returns : goal.returns-then-not-keep-clause-returns
returns-then-not-keep-clause-returns g c =
    returns_then [] c.args.m.now c.loop-line.m c.take_next.new.m c.loop-line.invariant.returns
    c.take_next.ensures.takes.returns

pub loop-line-preserved : goal.loop-line-preserved
loop-line-preserved g c = elim c.match-take_next.branch [
  | in-Some+else-not-keep w ↦
      received_item c.loop-line._line c.loop-line.items.items c.match-take_next.items.items
      w.in-Some.item c.args.m.now c.loop-line.m c.take_next.new.m c.loop-line.invariant
      w.in-Some.ensures.takes (ap (λ v. v.items) w.items-is ∙ w.if-not-keep.ensures.kept)
  | in-None w ↦
      subst (λ (xs : List Item). Received (c.loop-line._line + 1) xs c.args.m.now c.take_next.new.m)
      (sym (ap (λ v. v.items) w.items-is))
      (received_none c.loop-line._line c.loop-line.items.items c.args.m.now c.loop-line.m
      c.take_next.new.m c.loop-line.invariant w.in-None.ensures.takes)
]
