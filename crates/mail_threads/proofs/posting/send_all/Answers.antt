use Rattle.std.proofs.Common.{◌∙◌, ◌+◌, ℕ, List, ap, arith, Option, refl, subst, sym}
use Rattle.std.proofs.Common.{rules, take}
use Rattle.mail_threads.specs.Calls.{Posted}
use Rattle.mail_threads.proofs.Going.{still_room}
use Rattle.mail_threads.proofs.Lines.{posted_few, posted_first, posted_next}
use Rattle.mail_threads.proofs.posting.send_all.Goals as goal

pub send_line-answer-requires-clause-inside : goal.send_line-answer-requires-clause-inside
send_line-answer-requires-clause-inside g c =
    c.loop-index.invariant.posted.returns.goes.inside ∙ c.requires.fresh.inside

pub send_line-answer-requires-clause-room : goal.send_line-answer-requires-clause-room
send_line-answer-requires-clause-room g c =
    still_room c.args.m.now c.loop-index.m c.loop-index.invariant.posted.returns
    c.requires.fresh.room

pub send_line-answer-requires-clause-sender : goal.send_line-answer-requires-clause-sender
send_line-answer-requires-clause-sender g c =
    c.requires.sender
    ∙ ap (λ (n : ℕ). n + 1) (sym c.loop-index.invariant.posted.returns.goes.number)

pub send_line-answer-requires-clause-few : goal.send_line-answer-requires-clause-few
send_line-answer-requires-clause-few g c =
    posted_few c.args.script.now c.loop-index.index c.loop-index.sent.items c.args.m.now
    c.loop-index.m c.loop-index-test.true c.requires.short c.loop-index.invariant.posted

pub loop-index-init : goal.loop-index-init
loop-index-init g c = record {
  posted = posted_first c.args.sent.now.items c.args.m.now c.requires.fresh c.requires.empty;
  len = search rules;
  room = refl;
  queue = refl;
}

pub loop-index-preserved : goal.loop-index-preserved
loop-index-preserved g c =
    let k = c.loop-index.invariant in
    let len = c.push_reserved.ensures.len in
    record {
      posted = subst (λ (answers : List (Option ℕ)).
          Posted (take (c.loop-index.index + 1) c.args.script.now) answers c.args.m.now
          c.send_line-answer.new.m) (sym c.push_reserved.ensures.items)
          (posted_next c.args.script.now c.loop-index.index _ _ c.loop-index.sent.items
          c.send_line-answer.result c.args.m.now c.loop-index.m c.send_line-answer.new.m
          c.loop-index-test.true refl k.posted c.send_line-answer.ensures.posts);
      len = omega (arith, len, k.len);
      room = c.push_reserved.ensures.capacity ∙ k.room;
      queue = c.send_line-answer.ensures.queue ∙ k.queue;
    }
