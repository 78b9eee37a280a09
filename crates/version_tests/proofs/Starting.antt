-- A new store, and a mutator that comes in.
use Rattle.std.proofs.Common.{◌≡◌, ◌≤◌, ℕ, true, List, [], ◌∷◌, length, refl, sym, ◌∙◌, ap, subst}
use Rattle.std.proofs.Common.{arith}
use Rattle.cell_words.specs.declared.fields.Field.{Field}
use Rattle.cell_words.specs.Term.{IsFive}
use Rattle.run_limits.specs.declared.TheConstants.{MOST_CLIENTS}
use Rattle.core_machine.specs.declared.events.Event.TheVariants as event
use Rattle.core_machine.specs.declared.events.Found.{Found}
use Rattle.doc_tree.specs.Tree.{empty}
use Rattle.heap_table.specs.Opening.{Opens}
use Rattle.heap_table.specs.Seats.{HeapId, SeatView}
use Rattle.mutator_seat.specs.Bound.{Bound, held_cells, takes}
use Rattle.version_rule.specs.Opening.{first_rows, first_terms}
use Rattle.version_rule.specs.Pass.{Commit, Pass, opening_pass}
use Rattle.version_rule.specs.Versions.{HoldsVersions}
use Rattle.version_rule.proofs.Openings.{firsts, opened}
use Rattle.held_places.proofs.Going.{many_cells}
use Rattle.version_tests.specs.Grows.{IsNew, IsOf, Works}

pub opens : (cells mutators keep : ℕ) (rows : List (List Field)) → rows ≡ first_rows
    → mutators ≤ MOST_CLIENTS → 1 ≤ keep → keep ≤ 100
    → Opens opening_pass (HoldsVersions IsFive (λ t. empty))
    record { cells = cells; mutators = mutators; setting = keep; first = rows }
opens cells mutators keep rows is some least most =
    subst (λ (first : List (List Field)). Opens opening_pass (HoldsVersions IsFive (λ t. empty))
    record { cells = cells; mutators = mutators; setting = keep; first = first }) (sym is) (
      first_terms,
      firsts,
      opened IsFive (λ t. empty) tt refl
          record { cells = cells; mutators = mutators; setting = keep; first = first_rows } record {
            first = refl;
            keeps_some = least;
            keeps_few = most;
            few = some;
          },
    )

pub comes_in : (heap : HeapId) (seat : SeatView Pass) (keep : ℕ) (found : Found) (b : Bound Pass)
    → IsNew heap keep seat
    → b ≡ takes (record { heap = heap; seat = seat }) (event.Begin seat.me.number) found
    → b.seat.me.presence.inside ≡ true → held_cells b ≡ 0 ∷ [] → Works 1 0 keep b
comes_in heap seat keep found b new told inside held =
    let many = many_cells b in
    let one = ap (λ (cs : List ℕ). length cs) held in
    let pass = ap (λ (m : Bound Pass). m.seat.me.pass) told in
    record {
      inside = inside;
      some = omega (arith, many, one);
      held = omega (arith, many, one);
      room = let same = ap (λ (m : Bound Pass). m.seat.me.room) told in
          let room = new.room in omega (arith, same, room);
      keep_is = ap (λ (p : Pass). p.keep) pass ∙ new.keep_is;
      made =
          let none = ap (λ (p : Pass). length p.commits) pass
          ∙ ap (λ (cs : List Commit). length cs) new.none_made in omega (arith, none);
    }

pub is_of : (heap : HeapId) (seat : SeatView Pass) (keep : ℕ) (found : Found) (b : Bound Pass)
    → IsNew heap keep seat
    → b ≡ takes (record { heap = heap; seat = seat }) (event.Begin seat.me.number) found
    → IsOf heap b
is_of heap seat keep found b new told = record {
  heap_is = ap (λ (m : Bound Pass). m.heap) told;
  seat_is = (
    ap (λ (m : Bound Pass). m.seat.table) told ∙ new.seat_is.0,
    ap (λ (m : Bound Pass). m.seat.me.shape) told ∙ new.seat_is.1,
  );
}
