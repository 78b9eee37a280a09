use Rattle.std.proofs.Common.{rules}
use Rattle.example_root.proofs.Reading.{read_later}
use Rattle.example_root.proofs.working.work.Goals as goal

pub returns : goal.returns
returns g c = record {
  reports = record {
    first = record {
      seat = c.leave.result;
      pass = c.into_pass.result;
      own = c.take_both-list.result.1.own;
    };
    second = c.over_call-second.result.0;
    both = c.put_both.ensures.both;
    first_over = search rules;
    second_over = search rules;
    found = read_later c.args.number c.read_kept-found.result.0 c.keep_number-kept.new.m
        c.over_call-second.new.m c.read_kept-found.new.m c.leave.result
        c.over_call-second.ensures.away c.read_kept-found.ensures.own
        c.read_kept-found.ensures.found c.leave.ensures.trail;
  };
}
