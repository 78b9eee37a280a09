use Rattle.std.proofs.Common.{ℕ, ◌≡◌, rules, sym}
use Rattle.client_trees.proofs.Leaving.{all_given_back, same_minor, same_mutator}
use Rattle.client_trees.proofs.reading.count.Goals as goal

pub returns-clause-count : goal.returns-clause-count
returns-clause-count g c =
    rw (sym c.new-records.ensures.same, sym c.new-records.ensures.records)
    c.count-count.ensures.count

pub returns-clause-leaves : goal.returns-clause-leaves
returns-clause-leaves g c =
    let bound = g.M.ClientSeat.bound in
    let p = c.new-records.result in
    let q = c.count-count.new.records in
    let names : ℕ × ℕ = (p.mutator.ghost_name, p.minor.ghost_name) in
    let others : ℕ × ℕ = (q.mutator.ghost_name, q.minor.ghost_name) in
    let later = c.count-count.ensures.later in
    let m_name = same_mutator (bound p.mutator.now) (bound q.mutator.now) p.minor.now q.minor.now
    names others later in
    let m_is : c.m-1.given.0 ≡ q.mutator.now = search (rules, m_name) in
    let minor_name = same_minor (bound p.mutator.now) (bound q.mutator.now) p.minor.now q.minor.now
    names others later in
    let minor_is : c.minor-1.given.0 ≡ q.minor.now = search (rules, minor_name) in
    all_given_back bound c.args.m.now c.m-1.given.0 p.mutator.now q.mutator.now c.args.minor.now
    c.minor-1.given.0 p.minor.now q.minor.now names others later c.new-records.ensures.same
    c.new-records.ensures.records m_is minor_is c.spare-spare.result c.spare-spare-2.result
    c.spare-spare.ensures.spare c.spare-spare-2.ensures.spare c.count-count.ensures.records
    c.count-count.ensures.held

pub returns-clause-shows : goal.returns-clause-shows
returns-clause-shows g c =
    let bound = g.M.ClientSeat.bound in
    let p = c.new-records.result in
    let q = c.count-count.new.records in
    let names : ℕ × ℕ = (p.mutator.ghost_name, p.minor.ghost_name) in
    let others : ℕ × ℕ = (q.mutator.ghost_name, q.minor.ghost_name) in
    let later = c.count-count.ensures.later in
    let m_name = same_mutator (bound p.mutator.now) (bound q.mutator.now) p.minor.now q.minor.now
    names others later in
    let m_is : c.m-1.given.0 ≡ q.mutator.now = search (rules, m_name) in
    rw (m_is, sym c.new-records.ensures.same) c.count-count.ensures.shows
