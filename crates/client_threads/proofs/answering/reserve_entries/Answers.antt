use Rattle.client_threads.proofs.Going.{client_with_room, may_with_room}
use Rattle.client_threads.proofs.answering.reserve_entries.Goals as goal

pub returns : goal.returns
returns c = record {
  may = λ m may. may_with_room c.args.session.now m c.reserve-refused.new.self
      c.reserve-refused.ensures.client c.reserve-refused.ensures.entries may;
  same = λ m. client_with_room c.args.session.now m c.reserve-refused.new.self
      c.reserve-refused.ensures.client;
  entries = c.reserve-refused.ensures.entries;
}
