use Rattle.std.proofs.Common.{ℕ, ◌≡◌, ◌∙◌, rules, sym, arith, length, ◌≤◌}
use Rattle.std.proofs.Common.{ap}
use Rattle.std.specs.Option.{option_map}
use Rattle.client_trees.specs.Records.{shown_by, term_at}
use Rattle.doc_edits.proofs.Lawful.{tree_child}
use Rattle.doc_records.specs.Trees.{tree_of}
use Rattle.client_trees.specs.declared.at.NodeAt.{NodeAt}
use Rattle.client_trees.proofs.Leaving.{given_back, last_is, minor_same, same_minor, same_mutator}
use Rattle.client_trees.proofs.reading.child.Goals as goal

pub returns-clause-child : goal.returns-clause-child
returns-clause-child g c =
    let bound = g.M.ClientSeat.bound in
    let p = c.new-records.result in
    let q = c.child-child.new.records in
    let names : ℕ × ℕ = (p.mutator.ghost_name, p.minor.ghost_name) in
    let others : ℕ × ℕ = (q.mutator.ghost_name, q.minor.ghost_name) in
    let later = c.child-child.ensures.later in
    let m_name = same_mutator (bound p.mutator.now) (bound q.mutator.now) p.minor.now q.minor.now
    names others later in
    let m_is : c.m-1.given.0 ≡ q.mutator.now = search (rules, m_name) in
    let minor_name = same_minor (bound p.mutator.now) (bound q.mutator.now) p.minor.now q.minor.now
    names others later in
    let minor_is : c.minor-1.given.0 ≡ q.minor.now = search (rules, minor_name) in
    rw (m_is, minor_is, sym c.new-records.ensures.same, sym c.new-records.ensures.records) c.child-child.ensures.child

pub returns-clause-node : goal.returns-clause-node
returns-clause-node g c =
    let bound = g.M.ClientSeat.bound in
    let p = c.new-records.result in
    let q = c.child-child.new.records in
    let names : ℕ × ℕ = (p.mutator.ghost_name, p.minor.ghost_name) in
    let others : ℕ × ℕ = (q.mutator.ghost_name, q.minor.ghost_name) in
    let later = c.child-child.ensures.later in
    let m_name = same_mutator (bound p.mutator.now) (bound q.mutator.now) p.minor.now q.minor.now
    names others later in
    let m_is : c.m-1.given.0 ≡ q.mutator.now = search (rules, m_name) in
    let minor_name = same_minor (bound p.mutator.now) (bound q.mutator.now) p.minor.now q.minor.now
    names others later in
    let minor_is : c.minor-1.given.0 ≡ q.minor.now = search (rules, minor_name) in
    let there = shown_by (bound q.mutator.now) q.minor.now others in
    let t = tree_of (term_at (bound p.mutator.now).seat.me.known p.minor.now.records c.args.at) in
    rw (m_is, minor_is) (λ a is.
    let found = tree_child there t c.args.name.now a
    (rw (c.new-records.ensures.same, c.new-records.ensures.records) c.requires.node.node.lawful)
    (c.child-child.ensures.stands a is)
    (ap (option_map (λ (x : NodeAt). tree_of (there.term x))) (sym is)
    ∙ c.child-child.ensures.child) in
    record { stands = found.stands; node = found.node })

pub returns-clause-leaves : goal.returns-clause-leaves
returns-clause-leaves g c =
    let bound = g.M.ClientSeat.bound in
    let p = c.new-records.result in
    let q = c.child-child.new.records in
    let names : ℕ × ℕ = (p.mutator.ghost_name, p.minor.ghost_name) in
    let others : ℕ × ℕ = (q.mutator.ghost_name, q.minor.ghost_name) in
    let later = c.child-child.ensures.later in
    let m_name = same_mutator (bound p.mutator.now) (bound q.mutator.now) p.minor.now q.minor.now
    names others later in
    let m_is : c.m-1.given.0 ≡ q.mutator.now = search (rules, m_name) in
    let minor_name = same_minor (bound p.mutator.now) (bound q.mutator.now) p.minor.now q.minor.now
    names others later in
    let minor_is : c.minor-1.given.0 ≡ q.minor.now = search (rules, minor_name) in
    given_back bound c.args.m.now c.m-1.given.0 p.mutator.now q.mutator.now c.args.minor.now
    c.minor-1.given.0 p.minor.now q.minor.now names others later c.new-records.ensures.same
    c.new-records.ensures.records m_is minor_is

pub returns-clause-minor : goal.returns-clause-minor
returns-clause-minor g c =
    let bound = g.M.ClientSeat.bound in
    let p = c.new-records.result in
    let q = c.child-child.new.records in
    let names : ℕ × ℕ = (p.mutator.ghost_name, p.minor.ghost_name) in
    let others : ℕ × ℕ = (q.mutator.ghost_name, q.minor.ghost_name) in
    let later = c.child-child.ensures.later in
    let m_name = same_mutator (bound p.mutator.now) (bound q.mutator.now) p.minor.now q.minor.now
    names others later in
    let m_is : c.m-1.given.0 ≡ q.mutator.now = search (rules, m_name) in
    let minor_name = same_minor (bound p.mutator.now) (bound q.mutator.now) p.minor.now q.minor.now
    names others later in
    let minor_is : c.minor-1.given.0 ≡ q.minor.now = search (rules, minor_name) in
    let before : length c.args.minor.now.records ≤ c.args.minor.now.room =
    omega (arith, c.spare-spare.ensures.spare) in
    let fits : length p.minor.now.records ≤ p.minor.now.room =
    rw (c.new-records.ensures.records) before in
    let behind : length c.minor-1.given.0.records ≤ c.minor-1.given.0.room =
    omega (arith, c.spare-spare-2.ensures.spare) in
    let still : length q.minor.now.records ≤ q.minor.now.room = rw (sym minor_is) behind in
    minor_is ∙ minor_same (bound p.mutator.now) (bound q.mutator.now) p.minor.now q.minor.now names
    others later fits still c.child-child.ensures.records
    ∙ c.new-records.ensures.records

pub returns-clause-last : goal.returns-clause-last
returns-clause-last g c =
    let bound = g.M.ClientSeat.bound in
    let p = c.new-records.result in
    let q = c.child-child.new.records in
    let names : ℕ × ℕ = (p.mutator.ghost_name, p.minor.ghost_name) in
    let others : ℕ × ℕ = (q.mutator.ghost_name, q.minor.ghost_name) in
    let later = c.child-child.ensures.later in
    let m_name = same_mutator (bound p.mutator.now) (bound q.mutator.now) p.minor.now q.minor.now
    names others later in
    let m_is : c.m-1.given.0 ≡ q.mutator.now = search (rules, m_name) in
    rw (m_is, sym c.new-records.ensures.same) (last_is (bound q.mutator.now) q.minor.now
    (length (bound p.mutator.now).seat.me.own.held) c.child-child.result c.child-child.ensures.last
    (λ a is. (c.child-child.ensures.stands a is).stands) c.child-child.ensures.held)
