use Rattle.std.proofs.Common.{rules, ◌≡◌, ◌≤◌, ◌∙◌, ℕ, List, ap, arith, length, refl, subst, sym}
use Rattle.std.proofs.lemmas.List.{length_push}
use Rattle.mail_threads.specs.Workers.{HasReceived, IsHalfway, IsReady, Mailer}
use Rattle.mutator_threads.proofs.EachDone.{front_ready, last_ready}
use Rattle.mail_threads.proofs.joining.run_all.Goals as goal

pub join-senders-requires-after_bounds : goal.join-senders-requires-after_bounds
join-senders-requires-after_bounds g c κs within =
    let all = c.args.mailers.items in
    let front = c.pop.new.self.items in
    let last = c.in-Some.last in
    let parted = c.in-Some.ensures.items in
    let many = ap (λ (ms : List Mailer). length ms) parted in
    let longer = length_push front last in
    let few : length front ≤ 4_294_967_295 =
    omega (arith, many, longer, c.requires.many, c.requires.few) in
    let ready = λ (number : ℕ) (mailer : Mailer).
    IsReady c.args.heap.now c.args.queue.now c.args.scripts.now number mailer in
    let at = last_ready ready all front last parted c.requires.ready (length front) refl in
    let here = last_ready ready all front last parted c.requires.ready last.seat.me.number
    at.new.number_is in (
      (
        (search rules, few, front_ready ready all front last parted c.requires.ready),
        search rules,
      ),
      here.new,
    )

pub receive_rest-seat-requires : goal.receive_rest-seat-requires
receive_rest-seat-requires g c =
    let front = c.pop.new.self.items in
    let last = c.in-Some.last in
    let ready = λ (number : ℕ) (mailer : Mailer).
    IsReady c.args.heap.now c.args.queue.now c.args.scripts.now number mailer in
    let at = last_ready ready c.args.mailers.items front last c.in-Some.ensures.items
    c.requires.ready (length front) refl in
    let here : c.len-number.result ≡ length front =
    omega (arith, c.len-number.ensures, c.pop.new.self.ok.0) in
    let half = c.join-senders.result.1 in
    record {
      halfway = subst (λ (k : ℕ). IsHalfway c.args.heap.now k c.args.lines half.0 half.1.items
          half.2) (at.new.number_is ∙ sym here) c.join-senders.ensures.second;
    }

pub returns : goal.returns
returns g c =
    let front = c.pop.new.self.items in
    let last = c.in-Some.last in
    let whole = ap (λ (ms : List Mailer). length ms) c.in-Some.ensures.items in
    let longer = length_push front last in
    let same : length front ≡ length c.args.scripts.now =
    omega (arith, whole, longer, c.requires.many) in
    let here : c.len-number.result ≡ length front =
    omega (arith, c.len-number.ensures, c.pop.new.self.ok.0) in
    record {
      worked = record {
        senders = c.join-senders.result.0.items;
        receiver = record {
          seat = c.receive_rest-seat.result.0;
          pass = last.pass;
          own = last.own;
        };
        mailers_are = search rules;
        many = c.join-senders.ensures.first.1 ∙ same;
        done = c.join-senders.ensures.first.0;
        taken = subst (λ (k : ℕ). HasReceived c.args.heap.now k c.args.lines
            c.receive_rest-seat.result.0 c.receive_rest-seat.result.1) (here ∙ same)
            c.receive_rest-seat.ensures.received;
      };
    }
