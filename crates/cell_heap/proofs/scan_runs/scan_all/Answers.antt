use Rattle.std.proofs.Common.{[], Option, sym, ap}
use Rattle.core_machine.specs.Tracing.{may_blacken, scan_or_none}
use Rattle.core_machine.specs.declared.progress.Scanning.{Scanning}
use Rattle.cell_heap.proofs.Scanned.{scans_before, scans_end}
use Rattle.cell_heap.proofs.scan_runs.scan_all.Goals as goal

pub blacken_at-requires : goal.blacken_at-requires
blacken_at-requires g c =
    let at = c.child_at-fifth.ensures.at in
    record {
      seat = at.seat_is;
      collector = at.collector;
      mutators = at.mutators_are;
      cell = sym (ap (λ (s : Option Scanning). (scan_or_none s).cell) at.scan_is);
      can = ap (λ (s : Option Scanning). may_blacken s) at.scan_is;
    }

pub returns : goal.returns
returns g c =
    let cell = c.args.cell in
    let last = c.blacken_at.new.seat in
    let end = scans_end c.child_at-fifth.new.seat last c.blacken_at.ensures.told
    c.blacken_at.ensures.known in
    let fifth = scans_before cell 4 c.child_at-fifth.result [] c.child_at-fourth.new.seat
    c.child_at-fifth.new.seat last c.child_at-fifth.ensures.scanned end in
    let fourth = scans_before cell 3 c.child_at-fourth.result _ c.child_at-third.new.seat
    c.child_at-fourth.new.seat last c.child_at-fourth.ensures.scanned fifth in
    let third = scans_before cell 2 c.child_at-third.result _ c.child_at-second.new.seat
    c.child_at-third.new.seat last c.child_at-third.ensures.scanned fourth in
    let second = scans_before cell 1 c.child_at-second.result _ c.child_at-first.new.seat
    c.child_at-second.new.seat last c.child_at-second.ensures.scanned third in
    record {
      scanned = scans_before cell 0 c.child_at-first.result _ c.args.seat.now
          c.child_at-first.new.seat last c.child_at-first.ensures.scanned second;
      collector = c.blacken_at.ensures.collector;
    }
