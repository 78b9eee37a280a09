use Rattle.std.proofs.Common.{◌≡◌, ◌++◌, sym, ◌∙◌, ap, subst}
use Rattle.cell_heap.specs.Runs.{TellsAll}
use Rattle.cell_heap.specs.Scans.{AreBelow, blackens, children_in, scan_over}
use Rattle.heap_rule.specs.Shape.{Shape}
use Rattle.heap_table.specs.Seats.{SeatView}
use Rattle.cell_heap.proofs.InARow.{tells_shape}
use Rattle.collector.specs.Bound.{Bound, control_of, part_of}
use Rattle.collector.specs.Counting.{nothing, plus, scans_one}
use Rattle.collector.specs.Pushes.{all_pushed, with_all}
use Rattle.collector.specs.declared.report.CycleReport.{CycleReport}
use Rattle.collector.proofs.Joining.{does_as, does_none}
use Rattle.collector.proofs.Pushed.{does_scan}
use Rattle.collector.proofs.collecting.Collector.scan_cell.Goals as goal

pub push_all-report-requires : goal.push_all-report-requires
push_all-report-requires g c =
    let scanned = c.scan_on-children.ensures.scanned in
    record {
      below = subst (λ (h : Shape). AreBelow h.cells c.scan_on-children.result)
          (sym (tells_shape c.args.self.now.seat c.scan_on-children.new.self.seat
          (scan_over scanned.loaded ++ blackens) scanned.told)) scanned.below;
    }

pub returns-clause-does : goal.returns-clause-does
returns-clause-does g c =
    let a = c.args.self.now in
    let b = c.push_all-report.new.self in
    let on = c.scan_on-children.ensures in
    let loaded = on.scanned.loaded in
    let pushed = c.push_all-report.ensures.pushed in
    let report : c.scanned.result ≡ plus (with_all nothing (children_in loaded) a.stack) scans_one =
    c.scanned.ensures.report
    ∙ ap (λ (r : CycleReport). plus r scans_one) c.push_all-report.ensures.report
    ∙ (λ j. plus (with_all nothing (on.scanned.children_are j) (on.stack j)) scans_one) in
    does_as (plus (with_all nothing (children_in loaded) a.stack) scans_one) c.scanned.result a b
    report
    (does_scan loaded nothing c.args.cell 0 a a b c.requires.scan (does_none a)
    (ap (λ (x : Bound _). x.heap) pushed ∙ on.heap)
    (ap (λ (x : Bound _). x.stack) pushed
    ∙ (λ j. all_pushed (on.scanned.children_are j) (on.stack j)))
    (subst (λ (s : SeatView _). TellsAll a.seat (scan_over loaded ++ blackens) s)
    (sym (ap (λ (x : Bound _). x.seat) pushed)) on.scanned.told))

pub returns-clause-control : goal.returns-clause-control
returns-clause-control g c =
    ap (λ (x : Bound _). control_of x) c.push_all-report.ensures.pushed
    ∙ c.scan_on-children.ensures.scanned.control

pub returns-clause-part : goal.returns-clause-part
returns-clause-part g c =
    ap (λ (x : Bound _). part_of x) c.push_all-report.ensures.pushed
    ∙ c.scan_on-children.ensures.scanned.part
