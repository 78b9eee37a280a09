-- The opening of a heap with an empty log.
use Rattle.std.proofs.Common.{◌≡◌, ◌+◌, ℕ, zero, suc, [], refl, sym, ap, arith}
use Rattle.std.proofs.lemmas.List.Sums.{sum_by-cons}
use mathlib.Core.Option.{some, some-injective}
use lib.ListN.{get_elem?}
use Rattle.cell_words.specs.declared.fields.Field.TheVariants as word
use Rattle.heap_rule.specs.Boxes.{payload_of}
use Rattle.heap_rule.specs.Opening.{passes_from}
use Rattle.heap_table.specs.Opening.{Opens}
use Rattle.mutator_threads.proofs.FirstRows.{anchor_is, box_is, first_lore, first_state}
use Rattle.mutator_threads.proofs.FirstRows.{first_terms, no_terms}
use Rattle.example_log.specs.Leaving.{log_shape}
use Rattle.example_log.specs.Logging.{KeepsLog, nothing_appended, sum_of}
use Rattle.example_log.specs.declared.log.Appended.{Appended}

-- each of the first passes is the opening one
first_pass : (number n k : ℕ) (pass : Appended)
    → get_elem? (passes_from nothing_appended 0 number n) k ≡ some pass → pass.count ≡ 0
first_pass number zero k pass at = absurd cc
first_pass number (suc n) zero pass at =
    ap (λ (p : Appended). p.count)
    (sym (some-injective (nothing_appended number 0) pass at))
first_pass number (suc n) (suc k) pass at = first_pass (number + 1) n k pass at

-- and none has appended an entry
none_appended : (number threads : ℕ)
    → sum_of (passes_from nothing_appended 0 number threads) ≡ 0
none_appended number zero = refl
none_appended number (suc more) =
    let first = sum_by-cons (λ (pass : Appended). pass.count) (nothing_appended number 0)
    (passes_from nothing_appended 0 (number + 1) more) in
    let rest = none_appended (number + 1) more in
    omega (arith, first, rest)

pub opens : (cells threads : ℕ) → Opens nothing_appended KeepsLog (log_shape cells threads)
opens cells threads =
    let s = first_state cells threads (word.Num 0) in
    let l = first_lore cells threads (word.Num 0) in (
      no_terms cells threads (word.Num 0),
      first_terms cells threads (word.Num 0),
      record {
        writers = [];
        anchor = payload_of s l 0;
        anchor_is = anchor_is cells threads (word.Num 0);
        newest = 1;
        names = refl;
        chain = record {
          has = record {
            box = payload_of s l 1;
            there = box_is cells threads (word.Num 0);
            number_is = refl;
          };
          before_is = refl;
        };
        many = sym (none_appended 0 threads);
        own = λ number pass at. first_pass 0 threads number pass at;
      },
    )
