use Rattle.std.proofs.Common.{ℕ, ◌∙◌, ap, subst, sym, length}
use Rattle.cell_words.specs.Term.{part}
use Rattle.doc_records.specs.Pool.{Stands}
use Rattle.client_trees.specs.Records.{is_shared, outside_of, shown_by, stands_on, term_at}
use Rattle.client_trees.specs.declared.at.NodeAt.{NodeAt}
use Rattle.client_trees.proofs.Readings.{part_on, read_stands}
use Rattle.client_trees.proofs.pool.ClientRecordsRecordPool.read.Goals as goal

pub returns-in-Shared-clause-part : goal.returns-in-Shared-clause-part
returns-in-Shared-clause-part g c =
    let was = c.args.self.now in
    let m = g.M.ClientSeat.bound was.mutator.now in
    let v = m.seat.me in
    let names : ℕ × ℕ = (was.mutator.ghost_name, was.minor.ghost_name) in
    let done = c.read_part.ensures.reads was.minor.now names c.len-records.ensures.ordered in
    done.term ∙ ap (λ (a : NodeAt). part c.args.index (term_at v.known was.minor.now.records a))
    (sym c.in-Shared.is)

pub returns-in-Shared-clause-stands : goal.returns-in-Shared-clause-stands
returns-in-Shared-clause-stands g c =
    let was = c.args.self.now in
    let m = g.M.ClientSeat.bound was.mutator.now in
    let v = m.seat.me in
    let names : ℕ × ℕ = (was.mutator.ghost_name, was.minor.ghost_name) in
    let done = c.read_part.ensures.reads was.minor.now names c.len-records.ensures.ordered in
    done.stands

pub returns-in-Shared-clause-later : goal.returns-in-Shared-clause-later
returns-in-Shared-clause-later g c =
    let was = c.args.self.now in
    let m = g.M.ClientSeat.bound was.mutator.now in
    let v = m.seat.me in
    let names : ℕ × ℕ = (was.mutator.ghost_name, was.minor.ghost_name) in
    let done = c.read_part.ensures.reads was.minor.now names c.len-records.ensures.ordered in
    done.later

pub returns-in-Shared-clause-held : goal.returns-in-Shared-clause-held
returns-in-Shared-clause-held g c =
    let was = c.args.self.now in
    let m = g.M.ClientSeat.bound was.mutator.now in
    let v = m.seat.me in
    let names : ℕ × ℕ = (was.mutator.ghost_name, was.minor.ghost_name) in
    let done = c.read_part.ensures.reads was.minor.now names c.len-records.ensures.ordered in
    done.held

pub returns-in-Shared-clause-shared : goal.returns-in-Shared-clause-shared
returns-in-Shared-clause-shared g c =
    let was = c.args.self.now in
    let m = g.M.ClientSeat.bound was.mutator.now in
    let v = m.seat.me in
    let names : ℕ × ℕ = (was.mutator.ghost_name, was.minor.ghost_name) in
    let done = c.read_part.ensures.reads was.minor.now names c.len-records.ensures.ordered in
    λ shared. done.shared

pub returns-in-Shared-clause-told : goal.returns-in-Shared-clause-told
returns-in-Shared-clause-told g c =
    let was = c.args.self.now in
    let m = g.M.ClientSeat.bound was.mutator.now in
    let v = m.seat.me in
    let names : ℕ × ℕ = (was.mutator.ghost_name, was.minor.ghost_name) in
    let done = c.read_part.ensures.reads was.minor.now names c.len-records.ensures.ordered in
    λ shared. done.told

pub returns-in-Shared-clause-on : goal.returns-in-Shared-clause-on
returns-in-Shared-clause-on g c =
    let was = c.args.self.now in
    let m = g.M.ClientSeat.bound was.mutator.now in
    let v = m.seat.me in
    let names : ℕ × ℕ = (was.mutator.ghost_name, was.minor.ghost_name) in
    let done = c.read_part.ensures.reads was.minor.now names c.len-records.ensures.ordered in
    λ places few on. part_on is_shared (shown_by (g.M.ClientSeat.bound c.read_part.new.self) was.minor.now names)
    places c.read_part.result done.shared

pub returns-in-Minor-clause-stands : goal.returns-in-Minor-clause-stands
returns-in-Minor-clause-stands g c =
    let was = c.args.self.now in
    let m = g.M.ClientSeat.bound was.mutator.now in
    let v = m.seat.me in
    let outside = outside_of m (was.mutator.ghost_name, was.minor.ghost_name) in
    let stands = subst (λ (a : NodeAt). stands_on v.known was.minor.now.records
    (length v.own.held) a) c.in-Minor.is c.requires.stands in
    subst (λ p. Stands (shown_by m was.minor.now (was.mutator.ghost_name, was.minor.ghost_name)) p) (sym c.part_read.ensures)
    (read_stands was.minor.now outside v c.in-Minor.r c.args.index c.len-records.ensures.ordered
    c.requires.range stands c.field.result c.field.ensures.field c.field.ensures.older)
