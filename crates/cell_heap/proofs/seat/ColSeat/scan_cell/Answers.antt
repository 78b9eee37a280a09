use Rattle.std.proofs.Common.{◌++◌, None, sym, ◌∙◌, ap, subst}
use Rattle.cell_heap.specs.declared.progress.Progress.{Progress}
use Rattle.cell_heap.specs.Progress.{progress_of}
use Rattle.cell_heap.specs.Scans.{ScansCell, blackens, scan_over}
use Rattle.heap_rule.specs.Shape.{Shape}
use Rattle.heap_table.specs.Seats.{IsSeatOf, SeatView}
use Rattle.cell_heap.proofs.InARow.{collectors, numbered, tells_shape}
use Rattle.cell_heap.proofs.seat.ColSeat.scan_cell.Goals as goal

pub scan_all-children-requires : goal.scan_all-children-requires
scan_all-children-requires g c =
    let is = c.self.invariant in
    record {
      at = record {
        seat_is = subst (λ (s : SeatView _). IsSeatOf c.args.heap.now s) (sym c.self.view_is)
            c.requires.seat;
        collector = collectors is;
        mutators_are = sym is.mutators_are;
        scan_is = ap (λ (s : SeatView _). s.me.part.scan) c.self.view_is ∙ c.requires.scan;
      };
    }

pub invariant_of-self : goal.invariant_of-self
invariant_of-self g c =
    let is = c.self.invariant in
    let scanned = c.scan_all-children.ensures.scanned in
    let shape = tells_shape c.self.inside.seat c.scan_all-children.new.seat
    (scan_over scanned.loaded ++ blackens) scanned.told in
    numbered c.scan_all-children.ensures.collector
    (ap (λ (h : Shape). h.cells) shape ∙ is.cells_are)
    (ap (λ (h : Shape). h.mutators) shape ∙ is.mutators_are)
    (scanned.control ∙ is.control_is)
    (ap progress_of scanned.part ∙ ap (λ (p : Progress). record p { scan = None }) is.progress_is)

pub returns : goal.returns
returns g c = record {
  scanned = subst (λ (s : SeatView _). ScansCell c.scan_all-children.result s
      c.scan_all-children.new.seat) c.self.view_is c.scan_all-children.ensures.scanned;
}
