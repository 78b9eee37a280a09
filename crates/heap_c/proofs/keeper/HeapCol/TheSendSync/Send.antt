-- The handle may go to another thread, since what it owns may.
use denote.Param.Send.{AllSend, IsSend, owning_send, sendable, struct_send}
use denote.Struct.Owning.{fields, shape, to}
use denote.Struct.Struct.{exits_of}
use Rattle.std.proofs.alloc.Global.TheSendSync as allocator
use Rattle.heap_c.specs.contracts.keeper.HeapCol.{the_row, the_type}
use Rattle.heap_c.specs.contracts.collecting.Collecting as Owned
use Rattle.heap_c.proofs.collecting.Collecting.TheSendSync.{the_send as sent}
use Rattle.heap_c.proofs.Crossing.{owned, quiet}

pub send : IsSend the_row
send =
    let all : AllSend (fields the_type) = (search sendable, (allocator.the_field_send, tt)) in
    owning_send the_type all (λ d. owned Owned.the_row sent d.alloc d.ptr d.collecting)
    (λ k. quiet (to the_type) (exits_of k (fields the_type))
    ((struct_send (shape the_type) all).leaving k))
