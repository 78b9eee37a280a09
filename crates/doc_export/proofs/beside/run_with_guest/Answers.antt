use Rattle.std.proofs.Common.{rules, ◌≡◌, ◌≤◌, ◌∙◌, ℕ, List, ap, arith, length, subst}
use Rattle.std.proofs.lemmas.List.{length_push}
use Rattle.client_threads.specs.Clients.{IsReady, places_for}
use Rattle.client_threads.specs.declared.clients.Client.{Client}
use Rattle.mutator_threads.specs.Mutators.{IsNew}
use Rattle.mutator_threads.specs.declared.worker.Worker.{Worker}
use Rattle.mutator_threads.proofs.EachDone.{front_ready, last_ready}
use Rattle.version_rule.specs.Pass.{Pass, opening_pass}
use Rattle.doc_export.specs.Guests.{IsThrough}
use Rattle.doc_export.proofs.beside.run_with_guest.Goals as goal

pub join-through-requires-after_bounds : goal.join-through-requires-after_bounds
join-through-requires-after_bounds g c κs within =
    let heap = c.args.heap.now in
    let queue = c.args.queue.now in
    let limits = c.args.limits in
    let all = c.args.workers.items in
    let front = c.pop.new.self.items in
    let last = c.in-Some.last in
    let parted = c.in-Some.ensures.items in
    let many = ap (λ (ws : List (Worker Pass Client)). length ws) parted in
    let longer = length_push front last in
    let few : length front ≤ 4_294_967_295 =
    omega (arith, many, longer, c.requires.many, c.requires.few) in
    let ready = λ (n : ℕ) (w : Worker Pass Client). IsReady heap queue limits n w in
    let here : c.len-place.result ≡ length front =
    omega (arith, c.len-place.ensures, c.pop.new.self.ok.0) in
    let at = last_ready ready all front last parted c.requires.ready c.len-place.result here in (
      (
        c.requires.minor,
        subst (λ (keep : ℕ). IsNew heap c.len-place.result (places_for limits.minor)
            (opening_pass c.len-place.result keep) last.seat) c.requires.keep at.new,
      ),
      (
        (
          search rules,
          search rules,
          few,
          c.requires.short,
          c.requires.keep,
          front_ready ready all front last parted c.requires.ready,
        ),
        search rules,
      ),
    )

pub returns : goal.returns
returns g c =
    let front = c.pop.new.self.items in
    let last = c.in-Some.last in
    let whole = ap (λ (ws : List (Worker Pass Client)). length ws) c.in-Some.ensures.items in
    let longer = length_push front last in
    let same : length front ≡ length c.args.scripts.now =
    omega (arith, whole, longer, c.requires.many) in
    let here : c.len-place.result ≡ length front =
    omega (arith, c.len-place.ensures, c.pop.new.self.ok.0) in
    record {
      worked = record {
        clients = c.join-through.result.1.items;
        guest = record {
          seat = c.join-through.result.0.seat;
          pass = last.pass;
          own = last.own;
        };
        workers_are = search rules;
        many = c.join-through.ensures.second.1 ∙ same;
        done = c.join-through.ensures.second.0;
        through = subst (λ (k : ℕ). IsThrough c.args.heap.now c.args.limits k
            c.join-through.result.0) (here ∙ same) c.join-through.ensures.first;
      };
    }
