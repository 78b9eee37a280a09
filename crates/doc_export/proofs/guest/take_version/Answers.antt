use Rattle.client_threads.proofs.Waiting.{waits_then}
use Rattle.doc_export.proofs.Leaving.{through, waited_inside, waited_one, waited_room}
use Rattle.doc_export.proofs.guest.take_version.Goals as goal

pub await_gate-requires : goal.await_gate-requires
await_gate-requires g c = record {
  inside = waited_inside c.args.heap.now c.args.limits c.args.guest c.come_in-m.result
      c.await_end-ended.new.m c.requires.guest c.come_in-m.ensures.entered
      c.await_end-ended.ensures.waits;
}

pub copy_latest-copied-requires-clause-held : goal.copy_latest-copied-requires-clause-held
copy_latest-copied-requires-clause-held g c =
    waited_one c.args.heap.now c.args.limits c.args.guest c.come_in-m.result c.await_gate.new.m
    c.requires.guest c.come_in-m.ensures.entered
    (waits_then c.come_in-m.result c.await_end-ended.new.m c.await_gate.new.m
    c.await_end-ended.ensures.waits c.await_gate.ensures.waits)

pub copy_latest-copied-requires-clause-room : goal.copy_latest-copied-requires-clause-room
copy_latest-copied-requires-clause-room g c =
    waited_room c.args.heap.now c.args.limits c.args.guest c.come_in-m.result c.await_gate.new.m
    c.requires.guest c.come_in-m.ensures.entered
    (waits_then c.come_in-m.result c.await_end-ended.new.m c.await_gate.new.m
    c.await_end-ended.ensures.waits c.await_gate.ensures.waits) c.requires.minor

pub returns : goal.returns
returns g c = record {
  through = through c.args.heap.now c.args.limits c.args.guest c.come_in-m.result
      c.await_gate.new.m c.requires.guest c.come_in-m.ensures.entered
      (waits_then c.come_in-m.result c.await_end-ended.new.m c.await_gate.new.m
      c.await_end-ended.ensures.waits c.await_gate.ensures.waits)
      c.copy_latest-copied.new.m
      (record { seat = c.leave.result; copied = c.copy_latest-copied.result })
      c.copy_latest-copied.ensures.copies c.leave.ensures.left;
}
