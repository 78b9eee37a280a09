-- What a status says of the fault that it stands for.
use Rattle.std.proofs.Common.{◌≡◌, ◌∙◌, ℕ, Option, None, Some, arith, inl, inr, refl, sym}
use Rattle.std.specs.Prelude.{◌⊎◌, ◌≢◌}
use Rattle.script_files.specs.Fault.{status_by, status_of}
use Rattle.script_files.specs.Sorts.{Sort, sort_of}
use Rattle.script_files.specs.Sorts.{OfWords, OfLine, OfReading, OfWriting, OfMemory, OfSize}
use Rattle.script_files.specs.declared.fault.Fault.{Fault}
use Rattle.doc_run.specs.Sentences.{IsRefusal}

no_refusal : (status n : ℕ) → status ≡ n → n ≢ 1 → n ≢ 2 → n ≢ 3 → n ≢ 6 → IsRefusal status → ⊥
no_refusal status n same one two three six refusal = elim refusal [
  | inl e ↦ one (sym same ∙ e)
  | inr more ↦ elim more [
    | inl e ↦ two (sym same ∙ e)
    | inr rest ↦ elim rest [ inl e ↦ three (sym same ∙ e) | inr e ↦ six (sym same ∙ e) ]
  ]
]

-- that of a refusal is no other
pub not_refusal : (status : ℕ) → (status ≡ 0) ⊎ (status ≡ 4) ⊎ (status ≡ 5) → IsRefusal status → ⊥
not_refusal status is refusal = elim is [
  | inl zero ↦
      no_refusal status 0 zero (λ e. omega (arith, e)) (λ e. omega (arith, e))
      (λ e. omega (arith, e)) (λ e. omega (arith, e)) refusal
  | inr others ↦ elim others [
    | inl four ↦
        no_refusal status 4 four (λ e. omega (arith, e)) (λ e. omega (arith, e))
        (λ e. omega (arith, e)) (λ e. omega (arith, e)) refusal
    | inr five ↦
        no_refusal status 5 five (λ e. omega (arith, e)) (λ e. omega (arith, e))
        (λ e. omega (arith, e)) (λ e. omega (arith, e)) refusal
  ]
]

-- which sort each is of

pub words_of : (sort : Sort) → status_by sort ≡ 1 → sort ≡ OfWords
words_of OfWords e = refl
words_of (OfLine grammar) e = absurd (omega (arith, e))
words_of OfReading e = absurd (omega (arith, e))
words_of OfWriting e = absurd (omega (arith, e))
words_of OfMemory e = absurd (omega (arith, e))
words_of OfSize e = absurd (omega (arith, e))

pub reading_of : (sort : Sort) → status_by sort ≡ 3 → sort ≡ OfReading
reading_of OfWords e = absurd (omega (arith, e))
reading_of (OfLine grammar) e = absurd (omega (arith, e))
reading_of OfReading e = refl
reading_of OfWriting e = absurd (omega (arith, e))
reading_of OfMemory e = absurd (omega (arith, e))
reading_of OfSize e = absurd (omega (arith, e))

pub writing_of : (sort : Sort) → status_by sort ≡ 4 → sort ≡ OfWriting
writing_of OfWords e = absurd (omega (arith, e))
writing_of (OfLine grammar) e = absurd (omega (arith, e))
writing_of OfReading e = absurd (omega (arith, e))
writing_of OfWriting e = refl
writing_of OfMemory e = absurd (omega (arith, e))
writing_of OfSize e = absurd (omega (arith, e))

pub some_fault : (sort : Sort) → status_by sort ≡ 0 → ⊥
some_fault OfWords e = omega (arith, e)
some_fault (OfLine grammar) e = omega (arith, e)
some_fault OfReading e = omega (arith, e)
some_fault OfWriting e = omega (arith, e)
some_fault OfMemory e = omega (arith, e)
some_fault OfSize e = omega (arith, e)

-- at 0 there is none
pub none_of : (fault : Option Fault) → status_of fault ≡ 0 → fault ≡ None
none_of None is = refl
none_of (Some fault) is = absurd (some_fault (sort_of fault) is)
