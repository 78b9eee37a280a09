use Rattle.std.proofs.Common.{ℕ, ◌≡◌, rules, sym, arith, length, ◌+◌, ◌-◌}
use Rattle.client_trees.proofs.Leaving.{given_back, same_minor, same_mutator}
use Rattle.client_trees.proofs.editing.empty_node.Goals as goal

pub returns-clause-tree : goal.returns-clause-tree
returns-clause-tree g c =
    let bound = g.M.ClientSeat.bound in
    let p = c.new-records.result in
    let q = c.empty_node-node.new.records in
    let names : ℕ × ℕ = (p.mutator.ghost_name, p.minor.ghost_name) in
    let others : ℕ × ℕ = (q.mutator.ghost_name, q.minor.ghost_name) in
    let later = c.empty_node-node.ensures.later in
    let m_name = same_mutator (bound p.mutator.now) (bound q.mutator.now) p.minor.now q.minor.now
    names others later in
    let m_is : c.m-1.given.0 ≡ q.mutator.now = search (rules, m_name) in
    let minor_name = same_minor (bound p.mutator.now) (bound q.mutator.now) p.minor.now q.minor.now
    names others later in
    let minor_is : c.minor-1.given.0 ≡ q.minor.now = search (rules, minor_name) in
    rw (m_is, minor_is) c.empty_node-node.ensures.tree.tree

pub returns-clause-node : goal.returns-clause-node
returns-clause-node g c =
    let bound = g.M.ClientSeat.bound in
    let p = c.new-records.result in
    let q = c.empty_node-node.new.records in
    let names : ℕ × ℕ = (p.mutator.ghost_name, p.minor.ghost_name) in
    let others : ℕ × ℕ = (q.mutator.ghost_name, q.minor.ghost_name) in
    let later = c.empty_node-node.ensures.later in
    let m_name = same_mutator (bound p.mutator.now) (bound q.mutator.now) p.minor.now q.minor.now
    names others later in
    let m_is : c.m-1.given.0 ≡ q.mutator.now = search (rules, m_name) in
    let minor_name = same_minor (bound p.mutator.now) (bound q.mutator.now) p.minor.now q.minor.now
    names others later in
    let minor_is : c.minor-1.given.0 ≡ q.minor.now = search (rules, minor_name) in
    rw (m_is, minor_is) record {
      stands = c.empty_node-node.ensures.stands;
      node = c.empty_node-node.ensures.node;
    }

pub returns-clause-leaves : goal.returns-clause-leaves
returns-clause-leaves g c =
    let bound = g.M.ClientSeat.bound in
    let p = c.new-records.result in
    let q = c.empty_node-node.new.records in
    let names : ℕ × ℕ = (p.mutator.ghost_name, p.minor.ghost_name) in
    let others : ℕ × ℕ = (q.mutator.ghost_name, q.minor.ghost_name) in
    let later = c.empty_node-node.ensures.later in
    let m_name = same_mutator (bound p.mutator.now) (bound q.mutator.now) p.minor.now q.minor.now
    names others later in
    let m_is : c.m-1.given.0 ≡ q.mutator.now = search (rules, m_name) in
    let minor_name = same_minor (bound p.mutator.now) (bound q.mutator.now) p.minor.now q.minor.now
    names others later in
    let minor_is : c.minor-1.given.0 ≡ q.minor.now = search (rules, minor_name) in
    given_back bound c.args.m.now c.m-1.given.0 p.mutator.now q.mutator.now c.args.minor.now
    c.minor-1.given.0 p.minor.now q.minor.now names others later c.new-records.ensures.same
    c.new-records.ensures.records m_is minor_is

pub returns-clause-held : goal.returns-clause-held
returns-clause-held g c =
    let bound = g.M.ClientSeat.bound in
    let p = c.new-records.result in
    let q = c.empty_node-node.new.records in
    let names : ℕ × ℕ = (p.mutator.ghost_name, p.minor.ghost_name) in
    let others : ℕ × ℕ = (q.mutator.ghost_name, q.minor.ghost_name) in
    let later = c.empty_node-node.ensures.later in
    let m_name = same_mutator (bound p.mutator.now) (bound q.mutator.now) p.minor.now q.minor.now
    names others later in
    let m_is : c.m-1.given.0 ≡ q.mutator.now = search (rules, m_name) in
    rw (m_is, sym c.new-records.ensures.same) c.empty_node-node.ensures.held

pub returns-clause-records : goal.returns-clause-records
returns-clause-records g c =
    let bound = g.M.ClientSeat.bound in
    let p = c.new-records.result in
    let q = c.empty_node-node.new.records in
    let names : ℕ × ℕ = (p.mutator.ghost_name, p.minor.ghost_name) in
    let others : ℕ × ℕ = (q.mutator.ghost_name, q.minor.ghost_name) in
    let later = c.empty_node-node.ensures.later in
    let m_name = same_mutator (bound p.mutator.now) (bound q.mutator.now) p.minor.now q.minor.now
    names others later in
    let m_is : c.m-1.given.0 ≡ q.mutator.now = search (rules, m_name) in
    let minor_name = same_minor (bound p.mutator.now) (bound q.mutator.now) p.minor.now q.minor.now
    names others later in
    let minor_is : c.minor-1.given.0 ≡ q.minor.now = search (rules, minor_name) in
    let room = (given_back bound c.args.m.now c.m-1.given.0 p.mutator.now q.mutator.now
    c.args.minor.now c.minor-1.given.0 p.minor.now q.minor.now names others later
    c.new-records.ensures.same c.new-records.ensures.records m_is minor_is).records_room in
    let made : c.args.minor.now.room - length c.args.minor.now.records
    ≡ c.minor-1.given.0.room - length c.minor-1.given.0.records + 1
    = rw (minor_is, sym c.new-records.ensures.records) c.empty_node-node.ensures.records in
    omega (
      arith,
      room,
      c.spare-spare.ensures.spare,
      c.spare-spare-2.ensures.spare,
      made,
      c.requires.spare,
    )
