use Rattle.std.proofs.Common.{sym}
use Rattle.cell_words.specs.declared.controls.Stage.TheVariants as stage
use Rattle.collector.proofs.Moving.{moved_at, steps_from}
use Rattle.collector.proofs.collecting.Collector.move_on.Goals as goal

pub first_move-requires : goal.first_move-requires
first_move-requires g c =
    record { idle = sym c.in-Idle.ensures.stage; cycles = c.requires.cycles }

pub hear_or_clear-requires : goal.hear_or_clear-requires
hear_or_clear-requires g c =
    let is = sym c.in-Sync1.ensures.stage in
    record {
      stage = is;
      asking = steps_from stage.Sync1 c.args.heard c.args.self.now is c.requires.steps;
    }

pub clear_next-requires : goal.clear_next-requires
clear_next-requires g c =
    let is = sym c.in-Clear.ensures.stage in
    record {
      stage = is;
      clearing = steps_from stage.Clear c.args.heard c.args.self.now is c.requires.steps;
    }

pub hear_or_mark-requires : goal.hear_or_mark-requires
hear_or_mark-requires g c =
    let is = sym c.in-Sync2.ensures.stage in
    record {
      stage = is;
      asking = steps_from stage.Sync2 c.args.heard c.args.self.now is c.requires.steps;
    }

pub hear_or_trace-requires : goal.hear_or_trace-requires
hear_or_trace-requires g c =
    let is = sym c.in-Trace.ensures.stage in
    record {
      stage = is;
      tracing = steps_from stage.Trace c.args.heard c.args.self.now is c.requires.steps;
    }

pub sweep_next-requires : goal.sweep_next-requires
sweep_next-requires g c =
    let is = sym c.in-Sweep.ensures.stage in
    record {
      stage = is;
      sweeping = steps_from stage.Sweep c.args.heard c.args.self.now is c.requires.steps;
    }

pub returns-in-Idle : goal.returns-in-Idle
returns-in-Idle g c = record {
  stops = c.first_move.ensures.stops c.args.heard;
  moved = moved_at stage.Idle _ c.first_move.result c.args.self.now c.first_move.new.self
      (sym c.in-Idle.ensures.stage) c.first_move.ensures.moved;
}

pub returns-in-Sync1 : goal.returns-in-Sync1
returns-in-Sync1 g c = record {
  stops = c.hear_or_clear.ensures.stops;
  moved = moved_at stage.Sync1 _ c.hear_or_clear.result c.args.self.now
      c.hear_or_clear.new.self (sym c.in-Sync1.ensures.stage) c.hear_or_clear.ensures.moved;
}

pub returns-in-Clear : goal.returns-in-Clear
returns-in-Clear g c = record {
  stops = c.clear_next.ensures.stops c.args.heard;
  moved = moved_at stage.Clear _ c.clear_next.result c.args.self.now c.clear_next.new.self
      (sym c.in-Clear.ensures.stage) c.clear_next.ensures.moved;
}

pub returns-in-Sync2 : goal.returns-in-Sync2
returns-in-Sync2 g c = record {
  stops = c.hear_or_mark.ensures.stops;
  moved = moved_at stage.Sync2 _ c.hear_or_mark.result c.args.self.now c.hear_or_mark.new.self
      (sym c.in-Sync2.ensures.stage) c.hear_or_mark.ensures.moved;
}

pub returns-in-Trace : goal.returns-in-Trace
returns-in-Trace g c = record {
  stops = c.hear_or_trace.ensures.stops;
  moved = moved_at stage.Trace _ c.hear_or_trace.result c.args.self.now
      c.hear_or_trace.new.self (sym c.in-Trace.ensures.stage) c.hear_or_trace.ensures.moved;
}

pub returns-in-Sweep : goal.returns-in-Sweep
returns-in-Sweep g c = record {
  stops = c.sweep_next.ensures.stops c.args.heard;
  moved = moved_at stage.Sweep _ c.sweep_next.result c.args.self.now c.sweep_next.new.self
      (sym c.in-Sweep.ensures.stage) c.sweep_next.ensures.moved;
}
