-- The opening of a heap with the counter.
use Rattle.std.proofs.Common.{◌≡◌, ◌<◌, ◌+◌, ℕ, zero, suc, None, Some, ap, refl, sym, arith}
use Rattle.std.proofs.lemmas.List.Sums.{sum_by-cons}
use Rattle.core_machine.specs.State.{field_in}
use Rattle.dlg_core.specs.Reachable.{anchor}
use Rattle.heap_rule.specs.Boxes.{payload_of}
use Rattle.heap_rule.specs.Facts.{IsPlain}
use Rattle.heap_rule.specs.Lore.{Plain, Terms, entry_of, put}
use Rattle.heap_rule.specs.Opening.{FirstTerms, opening_lore, passes_from}
use Rattle.heap_rule.proofs.Claiming.{put_other}
use Rattle.heap_rule.proofs.Maps.{in_map}
use Rattle.heap_table.specs.Opening.{Opens, opening_state}
use Rattle.example_counter.specs.Counting.{Counts, nothing_added, number_record, sum_of}
use Rattle.example_counter.specs.Leaving.{counter_rows, counter_shape}
use Rattle.example_counter.specs.declared.counter.Added.{Added}

abbrev first_terms : Terms
first_terms = put (λ x. None) 1 (Some (number_record 0))

plain_field : (f : ℕ) → f < 5 → IsPlain (entry_of first_terms (field_in counter_rows 1 f))
plain_field zero lt = tt
plain_field (suc zero) lt = tt
plain_field (suc (suc zero)) lt = tt
plain_field (suc (suc (suc zero))) lt = tt
plain_field (suc (suc (suc (suc zero)))) lt = tt
plain_field (suc (suc (suc (suc (suc f))))) lt = absurd (omega (arith, lt))

firsts : FirstTerms counter_rows first_terms
firsts zero = refl
firsts (suc zero) = (refl, plain_field)
firsts (suc (suc k)) = put_other (λ x. None) 1 (Some (number_record 0)) (suc (suc k))
    (λ e. omega (arith, e))

-- the opening passes have added nothing
none_added : (number threads : ℕ) → sum_of (passes_from nothing_added 0 number threads) ≡ 0
none_added number zero = refl
none_added number (suc more) =
    let first = sum_by-cons (λ (pass : Added). pass.sum) (nothing_added number 0)
    (passes_from nothing_added 0 (number + 1) more) in
    let rest = none_added (number + 1) more in
    omega (arith, first, rest)

pub opens : (cells threads : ℕ) → Opens nothing_added Counts (counter_shape cells threads)
opens cells threads =
    let s = opening_state (counter_shape cells threads) in
    let l = opening_lore first_terms threads in (
      first_terms,
      firsts,
      record {
        payload = payload_of s l 0;
        anchor = in_map s l 0 record { reached = anchor refl; box = refl; old = refl };
        counted = ap (λ (n : ℕ). Plain (number_record n)) (sym (none_added 0 threads));
      },
    )
