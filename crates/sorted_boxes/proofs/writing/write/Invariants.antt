use Rattle.mutator_seat.specs.Bound.{IsBound, bound}
use Rattle.record_copying.specs.Copies.{StillRecords}
use Rattle.sorted_boxes.specs.Calls.{AllRefused, KeepsPlaces}
use Rattle.sorted_boxes.specs.Holding.{HoldsAs}
use Rattle.sorted_boxes.proofs.writing.write.Given as goal

abbrev pub invariant-loop-tried : goal.invariant-loop-tried
invariant-loop-tried l =
    IsBound l.fn.heap l.seat
    × HoldsAs l.fn.sorts l.seat.me
    × KeepsPlaces (bound l.fn.heap l.fn.seat) (bound l.fn.heap l.seat)
    × AllRefused l.place l.field l.value (bound l.fn.heap l.fn.seat) (bound l.fn.heap l.seat)
    × StillRecords l.fn.seat.me.known l.seat.me.known
