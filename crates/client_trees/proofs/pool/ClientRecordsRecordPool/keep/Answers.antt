use Rattle.std.proofs.Common.{◌≡◌, ◌<◌, ◌∙◌, ℕ, ap, subst, sym, arith, length}
use Rattle.core_machine.specs.Places.{no_place}
use Rattle.heap_rule.specs.declared.known.Known.TheVariants as knows
use Rattle.heap_rule.specs.Lore.{known_at}
use Rattle.doc_records.specs.Pool.{Kept}
use Rattle.mutator_seat.specs.Bound.{Bound}
use Rattle.client_trees.specs.declared.at.NodeAt.{NodeAt}
use Rattle.client_trees.specs.declared.at.NodeAt.TheVariants as at
use Rattle.client_trees.specs.Records.{IsRecord, known_term, outside_of, shown_by, stands_on}
use Rattle.client_trees.specs.Records.{term_at}
use Rattle.client_trees.proofs.Kept.{holds_kept, kept_at}
use Rattle.client_trees.proofs.Places.{at_copy, copied_many}
use Rattle.client_trees.proofs.Readings.{kept_stands}
use Rattle.client_trees.proofs.pool.ClientRecordsRecordPool.keep.Goals as goal

pub returns-in-Shared-clause-kept : goal.returns-in-Shared-clause-kept
returns-in-Shared-clause-kept g c =
    let was = c.args.self.now in
    let m = g.M.ClientSeat.bound was.mutator.now in
    let v = m.seat.me in
    let names : ℕ × ℕ = (was.mutator.ghost_name, was.minor.ghost_name) in
    let outside = outside_of m names in
    let fit = c.held_count-held.ensures.known ∙ c.held_count-held.ensures.len in
    subst (λ (n : Bound _). Kept c.args.places (shown_by m was.minor.now names)
    (shown_by n was.minor.now names))
    (sym c.keep_one.ensures.told)
    (kept_at was.minor.now outside c.len-records.ensures.ordered v _ c.args.places
    (holds_kept v fit c.args.places c.in-Shared.place 1 v.presence c.requires.held))

pub returns-in-Shared-clause-stands : goal.returns-in-Shared-clause-stands
returns-in-Shared-clause-stands g c =
    let v = (g.M.ClientSeat.bound c.args.self.now.mutator.now).seat.me in
    let records = c.args.self.now.minor.now.records in
    let fit = c.held_count-held.ensures.known ∙ c.held_count-held.ensures.len in
    let there = subst (λ (a : NodeAt). stands_on v.known records (length v.own.held) a)
    c.in-Shared.is c.requires.stands in
    let many = copied_many no_place v.own.held c.args.places c.in-Shared.place c.requires.held
    there.0 in
    subst (λ (n : Bound _). (c.args.places < length n.seat.me.own.held)
    × IsRecord (known_at n.seat.me.known c.args.places)) (sym c.keep_one.ensures.told) (
      omega (arith, many),
      subst IsRecord (sym (at_copy knows.Nothing v.known c.args.places c.in-Shared.place
          (omega (arith, fit, c.requires.held)) (omega (arith, fit, there.0)))) there.1,
    )

pub returns-in-Shared-clause-term : goal.returns-in-Shared-clause-term
returns-in-Shared-clause-term g c =
    let v = (g.M.ClientSeat.bound c.args.self.now.mutator.now).seat.me in
    let records = c.args.self.now.minor.now.records in
    let fit = c.held_count-held.ensures.known ∙ c.held_count-held.ensures.len in
    let there = subst (λ (a : NodeAt). stands_on v.known records (length v.own.held) a)
    c.in-Shared.is c.requires.stands in
    subst (λ (n : Bound _). known_term (known_at n.seat.me.known c.args.places)
    ≡ term_at v.known records c.args.at) (sym c.keep_one.ensures.told)
    (ap known_term (at_copy knows.Nothing v.known c.args.places c.in-Shared.place
    (omega (arith, fit, c.requires.held)) (omega (arith, fit, there.0)))
    ∙ ap (term_at v.known records) (sym c.in-Shared.is))

pub returns-in-Shared-clause-last : goal.returns-in-Shared-clause-last
returns-in-Shared-clause-last g c = λ shared n stands. stands.0

pub returns-in-Minor-clause-kept : goal.returns-in-Minor-clause-kept
returns-in-Minor-clause-kept g c =
    let was = c.args.self.now in
    let m = g.M.ClientSeat.bound was.mutator.now in
    let v = m.seat.me in
    let names : ℕ × ℕ = (was.mutator.ghost_name, was.minor.ghost_name) in
    let outside = outside_of m names in
    let fit = c.held_count-held.ensures.known ∙ c.held_count-held.ensures.len in
    subst (λ (n : Bound _). Kept c.args.places (shown_by m was.minor.now names)
    (shown_by n was.minor.now names))
    (sym c.cut_to.ensures.told)
    (kept_at was.minor.now outside c.len-records.ensures.ordered v _ c.args.places
    (holds_kept v fit c.args.places 0 0 v.presence c.requires.held))

pub returns-in-Minor-clause-term : goal.returns-in-Minor-clause-term
returns-in-Minor-clause-term g c =
    let was = c.args.self.now in
    let m = g.M.ClientSeat.bound was.mutator.now in
    let v = m.seat.me in
    let names : ℕ × ℕ = (was.mutator.ghost_name, was.minor.ghost_name) in
    let outside = outside_of m names in
    let fit = c.held_count-held.ensures.known ∙ c.held_count-held.ensures.len in
    let stands = kept_stands v.known was.minor.now.records (length v.own.held) c.args.places
    c.args.at c.requires.on c.in-Minor.r c.in-Minor.is in
    subst (λ (n : Bound _). term_at n.seat.me.known was.minor.now.records (at.Minor c.in-Minor.r)
    ≡ term_at v.known was.minor.now.records c.args.at) (sym c.cut_to.ensures.told)
    ((kept_at was.minor.now outside c.len-records.ensures.ordered v _ c.args.places
    (holds_kept v fit c.args.places 0 0 v.presence c.requires.held)).same (at.Minor c.in-Minor.r)
    stands
    ∙ ap (term_at v.known was.minor.now.records) (sym c.in-Minor.is))

pub returns-in-Minor-clause-stands : goal.returns-in-Minor-clause-stands
returns-in-Minor-clause-stands g c =
    let was = c.args.self.now in
    let m = g.M.ClientSeat.bound was.mutator.now in
    let v = m.seat.me in
    let names : ℕ × ℕ = (was.mutator.ghost_name, was.minor.ghost_name) in
    let outside = outside_of m names in
    let fit = c.held_count-held.ensures.known ∙ c.held_count-held.ensures.len in
    let stands = kept_stands v.known was.minor.now.records (length v.own.held) c.args.places
    c.args.at c.requires.on c.in-Minor.r c.in-Minor.is in
    subst (λ (n : Bound _). stands_on n.seat.me.known was.minor.now.records
    (length n.seat.me.own.held) (at.Minor c.in-Minor.r)) (sym c.cut_to.ensures.told)
    ((kept_at was.minor.now outside c.len-records.ensures.ordered v _ c.args.places
    (holds_kept v fit c.args.places 0 0 v.presence c.requires.held)).now (at.Minor c.in-Minor.r)
    stands)
