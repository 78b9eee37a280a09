-- The status of a run is that which the scripts of its files call for.
use Rattle.std.proofs.Common.{◌≡◌, ℕ, List, Option, Result, Ok, Err, inl, inr}
use Rattle.std.proofs.Common.{refl, sym, ap, subst, ◌∙◌, rules, arith}
use Rattle.std.specs.Prelude.{◌⊎◌}
use Rattle.script_files.specs.Due.{IsDueBy, IsDueIn, Reads}
use Rattle.script_files.specs.Fault.{status_by}
use Rattle.script_files.specs.Sorts.{Grammar, Refused, Sort, sort_of}
use Rattle.script_files.specs.Sorts.{OfWords, OfLine, OfReading, OfWriting, OfMemory, OfSize}
use Rattle.script_files.specs.declared.fault.Fault.{Fault}

-- the files were read, and so the status is due
due_by : {A : Type 0} (grammar : Grammar) (reading : List (List ℕ) → Result A Fault)
    (told : List (Option (List ℕ))) (outcome : Result A Fault) (status : ℕ)
    → Reads reading told outcome → IsDueIn grammar outcome status
    → IsDueBy grammar reading told status
due_by grammar reading told outcome status are due scripts decided =
    subst (λ s. IsDueIn grammar s status) (sym are.2 ∙ decided are.0 are.1) due

done_due : {A : Type 0} (grammar : Grammar) (scripts : A)
    → IsDueIn {A = A} grammar (Ok scripts) 0
done_due grammar scripts =
    record { faulty = search rules; large = search rules; complete = search rules }

unwritten_due : {A : Type 0} (grammar : Grammar) (scripts : A)
    → IsDueIn {A = A} grammar (Ok scripts) 4
unwritten_due grammar scripts =
    record { faulty = search rules; large = search rules; complete = search rules }

faulty_due : {A : Type 0} (grammar : Grammar) (fault : Fault) → sort_of fault ≡ OfLine grammar
    → IsDueIn {A = A} grammar (Err fault) 2
faulty_due grammar fault is = record {
  faulty = ((λ two. (search rules, is)), (λ facts. refl));
  large = (
    (λ six. absurd (omega (arith, six))),
    (λ facts. let other = facts.1 in absurd (cc)),
  );
  complete = search rules;
}

large_due : {A : Type 0} (grammar : Grammar) (fault : Fault) → sort_of fault ≡ OfSize
    → IsDueIn {A = A} grammar (Err fault) 6
large_due grammar fault is = record {
  faulty = (
    (λ two. absurd (omega (arith, two))),
    (λ facts. let other = facts.1 in absurd (cc)),
  );
  large = ((λ six. (search rules, is)), (λ facts. refl));
  complete = search rules;
}

unread_due : {A : Type 0} (grammar : Grammar) (outcome : Result A Fault)
    → IsDueIn grammar outcome 3
unread_due grammar outcome =
    record { faulty = search rules; large = search rules; complete = search rules }

wanting_due : {A : Type 0} (grammar : Grammar) (outcome : Result A Fault)
    → IsDueIn grammar outcome 5
wanting_due grammar outcome =
    record { faulty = search rules; large = search rules; complete = search rules }

-- the files are what they are read as, and the run ended
pub ended_due : {A : Type 0} (grammar : Grammar) (reading : List (List ℕ) → Result A Fault)
    (told : List (Option (List ℕ))) (scripts : A) (status : ℕ) → (status ≡ 0) ⊎ (status ≡ 4)
    → Reads reading told (Ok scripts) → IsDueBy grammar reading told status
ended_due grammar reading told scripts status ends are = elim ends [
  | inl zero ↦
      subst (λ (n : ℕ). IsDueBy grammar reading told n) (sym zero)
      (due_by grammar reading told (Ok scripts) 0 are (done_due grammar scripts))
  | inr four ↦
      subst (λ (n : ℕ). IsDueBy grammar reading told n) (sym four)
      (due_by grammar reading told (Ok scripts) 4 are (unwritten_due grammar scripts))
]

refused_sort : {A : Type 0} (grammar : Grammar) (reading : List (List ℕ) → Result A Fault)
    (told : List (Option (List ℕ))) (fault : Fault) (sort : Sort) → sort_of fault ≡ sort
    → Refused grammar sort (Reads reading told (Err fault)) (Unit {0})
    → IsDueBy grammar reading told (status_by sort)
refused_sort grammar reading told fault OfWords same is = absurd is
refused_sort grammar reading told fault (OfLine one) same is =
    due_by grammar reading told (Err fault) 2 is.1
    (faulty_due grammar fault (same ∙ ap OfLine is.0))
refused_sort grammar reading told fault OfReading same is =
    λ scripts decided. unread_due grammar scripts
refused_sort grammar reading told fault OfWriting same is = absurd is
refused_sort grammar reading told fault OfMemory same is =
    λ scripts decided. wanting_due grammar scripts
refused_sort grammar reading told fault OfSize same is =
    due_by grammar reading told (Err fault) 6 is (large_due grammar fault same)

-- they were refused, or one could not be read, or memory was wanting
pub refused_due : {A : Type 0} (grammar : Grammar) (reading : List (List ℕ) → Result A Fault)
    (told : List (Option (List ℕ))) (fault : Fault)
    → Refused grammar (sort_of fault) (Reads reading told (Err fault)) (Unit {0})
    → IsDueBy grammar reading told (status_by (sort_of fault))
refused_due grammar reading told fault is =
    refused_sort grammar reading told fault (sort_of fault) refl is

-- memory was wanting
pub wanted_due : {A : Type 0} (grammar : Grammar) (reading : List (List ℕ) → Result A Fault)
    (told : List (Option (List ℕ))) (status : ℕ) → status ≡ 5
    → IsDueBy grammar reading told status
wanted_due grammar reading told status is =
    subst (λ (n : ℕ). IsDueBy grammar reading told n) (sym is)
    (λ scripts decided. wanting_due grammar scripts)
