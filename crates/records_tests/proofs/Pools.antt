-- A record more in a private heap: what it says, and that the others say what they said.
use Rattle.std.proofs.Common.{◌≡◌, ℕ, zero, suc, ◌+◌, ◌<◌, List, [], ◌∷◌, ◌++◌, length, refl}
use Rattle.std.proofs.Common.{ap, ◌∙◌, arith, length-append}
use Rattle.std.specs.Prelude.{slice_index_or}
use Rattle.cell_words.specs.Term.{Term, null}
use Rattle.minor_heap.specs.declared.fields.MinorField.{MinorField}
use Rattle.minor_heap.specs.declared.fields.MinorRef.{MinorRef}
use Rattle.minor_heap.specs.Nursery.{FitsRecord}
use Rattle.minor_heap.specs.Terms.{field_term, record_term, terms_after, terms_of, term_of}
use Rattle.doc_records.specs.declared.pool.Part.{Part}
use Rattle.doc_records.specs.declared.pool.Part.TheVariants as parts
use Rattle.doc_records.specs.Pool.{Later, Shown, Stands, part_term}
use Rattle.records_tests.specs.declared.memory.MemoryPool.{MemoryPool}
use Rattle.records_tests.specs.Memory.{shown, field_of}

terms_len : (older : List Term) (records : List (List MinorField))
    → length (terms_after [] older records) ≡ length older + length records
terms_len older [] = omega arith
terms_len older (fields ∷ records) =
    omega (
      arith,
      terms_len (older ++ record_term [] older fields ∷ []) records,
      length-append older (record_term [] older fields ∷ []),
    )

index_append : (xs : List Term) (x : Term) (k : ℕ) → k < length xs
    → slice_index_or (xs ++ x ∷ []) k null ≡ slice_index_or xs k null
index_append [] x k lt = absurd (omega (arith, lt))
index_append (y ∷ xs) x zero lt = refl
index_append (y ∷ xs) x (suc k) lt = index_append xs x k (omega (arith, lt))

index_last : (xs : List Term) (x : Term) (k : ℕ) → k ≡ length xs
    → slice_index_or (xs ++ x ∷ []) k null ≡ x
index_last [] x zero e = refl
index_last [] x (suc k) e = absurd (omega (arith, e))
index_last (y ∷ xs) x zero e = absurd (omega (arith, e))
index_last (y ∷ xs) x (suc k) e = index_last xs x k (omega (arith, e))

-- what one more record is
pub record IsMore (old new : List (List MinorField)) (fields : List MinorField) : Type 0 where
  pub records : new ≡ old ++ fields ∷ []
  pub terms : terms_of [] new ≡ terms_of [] old ++ record_term [] (terms_of [] old) fields ∷ []

pub new_term : (old new : List (List MinorField)) (fields : List MinorField) (r : MinorRef)
    → IsMore old new fields → r.number ≡ length old
    → term_of [] new r ≡ record_term [] (terms_of [] old) fields
new_term old new fields r more last =
    ap (λ terms. slice_index_or terms r.number null) more.terms
    ∙ index_last (terms_of [] old) (record_term [] (terms_of [] old) fields) r.number
    (omega (arith, terms_len [] old, last))

old_term : (old new : List (List MinorField)) (fields : List MinorField) (r : MinorRef)
    → IsMore old new fields → r.number < length old → term_of [] new r ≡ term_of [] old r
old_term old new fields r more stands =
    ap (λ terms. slice_index_or terms r.number null) more.terms
    ∙ index_append (terms_of [] old) (record_term [] (terms_of [] old) fields) r.number
    (omega (arith, terms_len [] old, stands))

longer : (old new : List (List MinorField)) (fields : List MinorField)
    → IsMore old new fields → length new ≡ length old + 1
longer old new fields more = ap length more.records ∙ length-append old (fields ∷ [])

pub later_made : (old new : MemoryPool) (fields : List MinorField)
    → IsMore old.heap.records new.heap.records fields → Later (shown old) (shown new)
later_made old new fields more =
    let more_records = longer old.heap.records new.heap.records fields more in
    record {
      still = λ r n stands low. omega (arith, stands, more_records);
      now = λ r stands. omega (arith, stands, more_records);
      same = λ r stands. old_term old.heap.records new.heap.records fields r more stands;
      says = λ count n says low. omega (arith, says, more_records);
      longer = omega arith;
      room = refl;
      marks = λ before begins. begins;
    }

-- a part as a field
pub part_field : (pool : MemoryPool) (p : Part MinorRef)
    → field_term [] (terms_of [] pool.heap.records) (field_of p) ≡ part_term (shown pool).term p
part_field pool parts.Null = refl
part_field pool (parts.Num n) = refl
part_field pool (parts.Record r) = refl

pub part_fits : (pool : MemoryPool) (p : Part MinorRef) (f : MinorField) → f ≡ field_of p
    → Stands (shown pool) p → FitsRecord (length pool.heap.records) f
part_fits pool parts.Null f is stands = rw is tt
part_fits pool (parts.Num n) f is stands = rw is stands
part_fits pool (parts.Record r) f is stands = rw is stands.0

-- two calls, one after the other
pub later_on : {A F : Type 0} (a b c : Shown A F) → Later a b → Later b c → Later a c
later_on a b c first second = record {
  still = λ x n stands low.
      second.still x n (first.still x n stands low) (omega (arith, low, first.longer));
  now = λ x stands. second.now x (first.now x stands);
  same = λ x stands. second.same x (first.now x stands) ∙ first.same x stands;
  says = λ f n says low.
      second.says f n (first.says f n says low) (omega (arith, low, first.longer));
  longer = omega (arith, first.longer, second.longer);
  room = second.room ∙ first.room;
  marks = λ before begins. second.marks before (first.marks before begins);
}
