use Rattle.std.proofs.Common.{ℕ, ◌∙◌, subst, sym}
use Rattle.doc_records.specs.Pool.{Kept}
use Rattle.mutator_seat.specs.Bound.{Bound}
use Rattle.client_trees.specs.Records.{outside_of, shown_by}
use Rattle.client_trees.proofs.Kept.{holds_kept, kept_at}
use Rattle.client_trees.proofs.pool.ClientRecordsRecordPool.cut.Goals as goal

pub returns-clause-kept : goal.returns-clause-kept
returns-clause-kept g c =
    let was = c.args.self.now in
    let m = g.M.ClientSeat.bound was.mutator.now in
    let v = m.seat.me in
    let names : ℕ × ℕ = (was.mutator.ghost_name, was.minor.ghost_name) in
    let outside = outside_of m names in
    let fit = c.held_count-held.ensures.known ∙ c.held_count-held.ensures.len in
    subst (λ (n : Bound _). Kept c.args.places (shown_by m was.minor.now names)
    (shown_by n was.minor.now names))
    (sym c.cut_to.ensures.told)
    (kept_at was.minor.now outside c.len-records.ensures.ordered v _ c.args.places
    (holds_kept v fit c.args.places 0 0 v.presence c.requires.held))
