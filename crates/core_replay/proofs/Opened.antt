-- What sizes that a core can have are, and that a core of such sizes begins as it has to.
use Rattle.std.proofs.Common.{◌≡◌, ◌<◌, ◌≤◌, ℕ, zero, suc, IsTrue, nat_le, [], ◌∷◌, length}
use Rattle.std.proofs.Common.{replicate, refl, subst, sym, arith}
use Rattle.std.proofs.lemmas.Bool.{and_parts, leb-true}
use Rattle.std.proofs.lemmas.List.{length-replicate}
use Rattle.core_machine.specs.State.{row_in}
use Rattle.core_machine.proofs.Ranges.Start.{opening_in_range, rows_below}
use Rattle.core_replay.specs.ScheduleValue.{are_sizes}
use Rattle.core_replay.specs.Standing.{IsReplayed, anchor_row, opened}
use Rattle.core_replay.specs.declared.start.Sizes.{Sizes}
use Rattle.dlg_core.proofs.Starts.{opening_consistent}
use Rattle.dlg_core.proofs.Throughout.{first_rows_named}

pub record Allowed (sizes : Sizes) : Type 0 where
  pub some_cells : 1 ≤ sizes.cells
  pub few_cells : sizes.cells ≤ 256
  pub some_mutators : 1 ≤ sizes.mutators
  pub few_mutators : sizes.mutators ≤ 64
  pub some_room : 1 ≤ sizes.room

pub allowed_sizes : (sizes : Sizes) → IsTrue (are_sizes sizes) → Allowed sizes
allowed_sizes sizes allowed =
    let e = and_parts _ (nat_le sizes.room 1024) allowed in
    let d = and_parts _ (nat_le 1 sizes.room) e.0 in
    let c = and_parts _ (nat_le sizes.mutators 64) d.0 in
    let b = and_parts _ (nat_le 1 sizes.mutators) c.0 in
    let a = and_parts (nat_le 1 sizes.cells) (nat_le sizes.cells 256) b.0 in
    record {
      some_cells = leb-true 1 sizes.cells a.0;
      few_cells = leb-true sizes.cells 256 a.1;
      some_mutators = leb-true 1 sizes.mutators b.1;
      few_mutators = leb-true sizes.mutators 64 c.1;
      some_room = leb-true 1 sizes.room d.1;
    }

six : (i : ℕ) → i < 1 → length (row_in (anchor_row ∷ []) i) ≡ 6
six zero lt = refl
six (suc i) lt = absurd (omega arith)

few_of_rooms : (sizes : Sizes) → sizes.mutators ≤ 64
    → length (replicate sizes.mutators sizes.room) ≤ 64
few_of_rooms sizes few = subst (λ n. n ≤ 64) (sym (length-replicate sizes.mutators sizes.room)) few

pub opened_kept : (sizes : Sizes) → IsTrue (are_sizes sizes) → IsReplayed (opened sizes).core
opened_kept sizes allowed =
    let rooms = replicate sizes.mutators sizes.room in
    let first = anchor_row ∷ [] in
    let are = allowed_sizes sizes allowed in
    let some = are.some_cells in
    let few = are.few_cells in
    record {
      kept = record {
        range = opening_in_range sizes.cells rooms first (omega arith) (omega arith) some six
            (rows_below sizes.cells first (first_rows_named sizes.cells first some refl));
        consistent = opening_consistent sizes.cells rooms first some refl;
      };
      few_cells = few;
      few_mutators = few_of_rooms sizes are.few_mutators;
    }
