use Rattle.std.proofs.Common.{◌≡◌, ◌&&◌, ℕ, true, sym, ◌∙◌, ap, subst}
use Rattle.cell_words.specs.declared.fields.Field.{Field}
use Rattle.cell_words.specs.declared.write_barrier.Barrier.TheVariants as barrier
use Rattle.core_machine.specs.Places.{is_marked_value}
use Rattle.mutator_events.specs.Values.{field_at}
use Rattle.mutator_seat.specs.Bound.{bound}
use Rattle.mutator_seat.specs.Stretches.{MarksOf}
use Rattle.mutator_seat.specs.Writes.{places_in, wanted_by}
use Rattle.mutator_seat.proofs.Calm.{calm_then}
use Rattle.mutator_seat.proofs.Marks.{marks_of_join}
use Rattle.mutator_seat.proofs.Writes.{field_same}
use Rattle.mutator_seat.proofs.writing.mark_both.Goals as goal

pub returns-clause-calm : goal.returns-clause-calm
returns-clause-calm g c =
    let heap = c.args.heap.now in
    let was = bound heap c.args.seat.now in
    let between = bound heap c.mark_value.new.seat in
    let number = was.seat.me.number in
    calm_then (MarksOf number (places_in c.args.old))
    (MarksOf between.seat.me.number (places_in c.args.new))
    (MarksOf number (wanted_by barrier.Both c.args.old c.args.new)) was between
    (bound heap c.mark_value-2.new.seat)
    (λ xs ys first second. marks_of_join number (places_in c.args.old) (places_in c.args.new) xs ys
    first (subst (λ (n : ℕ). MarksOf n (places_in c.args.new) ys)
    c.mark_value.ensures.calm.kept.number second))
    c.mark_value.ensures.calm c.mark_value-2.ensures.calm

pub returns-clause-marks : goal.returns-clause-marks
returns-clause-marks g c =
    let between = c.mark_value.new.seat.me.own.held in
    let held = c.mark_value-2.new.seat.me.own.held in
    let first = subst (λ (x : Field). is_marked_value held x ≡ true)
    (sym (field_same held between c.mark_value-2.ensures.calm.kept.held c.args.old))
    (c.mark_value-2.ensures.still (field_at between c.args.old) c.mark_value.ensures.marked) in
    ap (λ b. b && is_marked_value held (field_at held c.args.new)) first
    ∙ c.mark_value-2.ensures.marked
