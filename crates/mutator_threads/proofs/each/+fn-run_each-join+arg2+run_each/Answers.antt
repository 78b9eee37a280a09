use Rattle.std.proofs.Common.{rules, ◌≡◌, ◌≤◌, List, arith, ap, length}
use Rattle.std.proofs.lemmas.List.{length_push}
use Rattle.mutator_threads.proofs.EachDone.{each_push, front_ready, last_ready}
use Rattle.mutator_threads.proofs.each.+fn-run_each-join+arg2+run_each.Goals as goal

pub join-work-requires-after_bounds : goal.join-work-requires-after_bounds
join-work-requires-after_bounds g t c κs within =
    let front = c.pop.new.self.items in
    let parted = c.in-Some.ensures.items in
    let many = ap (λ (ws : List _). length ws) parted in
    let longer = length_push front c.in-Some.last in
    let here : c.len-place.result ≡ length front =
    omega (arith, c.len-place.ensures, c.pop.new.self.ok.0) in
    let few : length front ≤ 4294967295 = omega (arith, many, longer, c.requires.few) in
    let ready = front_ready (goal.F-pre g c.args.each.now) c.args.work.items front c.in-Some.last
    parted c.requires.ready in
    let last = last_ready (goal.F-pre g c.args.each.now) c.args.work.items front c.in-Some.last
    parted c.requires.ready c.len-place.result here in (
      (
        search rules,
        (
          (λ a h. h),
          (
            (λ a h. h),
            (
              (λ a h. h),
              (
                (search rules, search rules, search rules, few, ready),
                (search rules, search rules, search rules),
              ),
            ),
          ),
        ),
      ),
      (search rules, search rules, last),
    )

pub returns-clause-done : goal.returns-clause-done
returns-clause-done g t c =
    let here : c.len-place.result ≡ length c.pop.new.self.items =
    omega (arith, c.len-place.ensures, c.pop.new.self.ok.0) in
    each_push (goal.F-post g c.args.each.now) c.args.work.items c.pop.new.self.items
    c.join-work.result.0.items c.push-2.new.self.items c.in-Some.last c.join-work.result.1
    c.len-place.result c.in-Some.ensures.items c.join-work.ensures.first.0 here
    c.join-work.ensures.second (search rules)
