-- What is promised of the calls on a shelf and a sink, from those of the request, and from those of
-- the writing of its answer.
use Rattle.std.proofs.Common.{◌≡◌, ◌∙◌, ℕ, List, Option, None, Some, Result, Ok, Err}
use Rattle.std.proofs.Common.{ap, arith, inl, inr, refl, subst, sym}
use Rattle.std.specs.Prelude.{IsOk}
use Rattle.outside.specs.Calls.{IsOrderly, IsUnbroken}
use Rattle.outside.specs.Causes.{Rose}
use Rattle.outside.specs.declared.course.Course.{Course}
use Rattle.command_line.specs.Requests.{Asked}
use Rattle.script_files.proofs.Sorting.{is_reading}
use Rattle.script_files.specs.Fault.{status_by, status_of}
use Rattle.script_files.specs.Sorts.{sort_of}
use Rattle.script_files.specs.declared.fault.Fault.{Fault}
use Rattle.script_files.specs.declared.fault.Fault.TheVariants.{Memory, ReadFault, WriteFault}
use Rattle.doc_run.specs.Answers.{Decided, refusal_of}
use Rattle.doc_run.specs.Reads.{OpensFiles, Reads}
use Rattle.doc_run.specs.Request.{files_of}
use Rattle.doc_run.specs.Sentences.{Calls, Failures}
use Rattle.doc_run.specs.Written.{Ended}
use Rattle.doc_run.specs.declared.answer.Answer.{Answer}
use Rattle.doc_run.specs.declared.answer.Refusal.{Refusal}
use Rattle.doc_run.specs.declared.outcome.Outcome.{Outcome}
use Rattle.doc_run.proofs.ByRequest.{unwriting}
use Rattle.doc_run.proofs.Statuses.{none_of, reading_of, some_fault, writing_of}

opens_at : (status before now files : ℕ) → OpensFiles 0 before now files
    → OpensFiles status before now files
opens_at status before now files is =
    (is.0, is.1, (λ other some. is.2 (λ five. omega (arith, five)) some), is.3)

another_fault : {X : Type 0} (fault : Option Fault) (one other : Fault) → fault ≡ Some one
    → fault ≡ Some other → (one ≡ other → ⊥) → X
another_fault fault one other is was differ =
    let same : one ≡ other = cc in absurd (differ same)

module _ (holds : List ℕ → Option (List ℕ)) (asked : Option Asked) (result : Outcome)
    (at : result.status ≡ status_of result.fault)
    (limit old_opens new_opens old_calls new_calls old_faults new_faults : ℕ)
    (old_shelf new_shelf : Course) where
  status_is : (fault : Option Fault) → result.fault ≡ fault → result.status ≡ status_of fault
  status_is fault is = at ∙ ap status_of is

  abbrev pub ReadBy : Option Fault → Type 0
  ReadBy fault =
      Reads holds asked fault limit old_opens new_opens old_calls new_calls old_faults new_faults
      old_shelf new_shelf

  module _ (old new : Option (List ℕ)) where
    module _ (old_write new_write old_wants new_wants : ℕ) where
      abbrev Fails : Type 0
      Fails = Failures result old_opens new_opens old_faults new_faults old new old_write new_write
          old_wants new_wants

      pub failures : (answered : Result Answer Refusal) → Decided holds asked answered
          → Ended answered result old new → ReadBy (refusal_of answered)
          → (IsOk answered → result.fault ≡ Some WriteFault → Rose old_write new_write)
          → (IsOk answered → result.fault ≡ Some Memory → Rose old_wants new_wants) → Fails
      failures (Ok answer) comes ended reads cause want = elim ended [
        | inl is ↦
            let zero = status_is None is.0 in
            record {
              read = λ three. absurd (omega (arith, zero, three));
              read_file = λ file one. let none = is.0 in absurd (cc);
              write = λ four. absurd (omega (arith, zero, four));
              memory = λ five. absurd (omega (arith, zero, five));
            }
        | inr others ↦ elim others [
          | inl is ↦
              let four = status_is (Some WriteFault) is.0 in
              record {
                read = λ three. absurd (omega (arith, four, three));
                read_file = λ file one.
                    another_fault result.fault WriteFault (ReadFault file) is.0 one (λ e. cc);
                write = λ ends. cause refl is.0;
                memory = λ five. absurd (omega (arith, four, five));
              }
          | inr is ↦
              let five = status_is (Some Memory) is.0 in
              record {
                read = λ three. absurd (omega (arith, five, three));
                read_file = λ file one.
                    another_fault result.fault Memory (ReadFault file) is.0 one (λ e. cc);
                write = λ four. absurd (omega (arith, five, four));
                memory = λ ends. inr (want refl is.0);
              }
        ]
      ]
      failures (Err refusal) by is reads cause want =
          let same : result.status ≡ status_by (sort_of refusal.fault) =
          status_is (Some refusal.fault) is.0 in
          record {
            read = λ three.
                let file = is_reading refusal.fault
                (reading_of (sort_of refusal.fault) (sym same ∙ three)) in
                reads.read file.0 (ap (λ (f : Fault). Some f) file.1);
            read_file = λ file one. reads.read_file file (sym is.0 ∙ one);
            write = λ four. absurd (unwriting holds asked refusal.dumped refusal.fault by
                (writing_of (sort_of refusal.fault) (sym same ∙ four)));
            memory = λ five. inl is.4;
          }

    module _ (old_sink new_sink : Course)
        (unbroken : result.fault ≡ None → IsUnbroken old_sink → IsUnbroken new_sink)
        (orderly : IsUnbroken old_sink → IsOrderly new_sink) where
      pub calls : (answered : Result Answer Refusal) → Ended answered result old new
          → ReadBy (refusal_of answered)
          → Calls holds asked result limit old_opens new_opens old_calls new_calls old_shelf
          new_shelf old_sink new_sink
      calls (Ok answer) ended reads = record {
        unbroken_shelf = λ zero. reads.unbroken refl;
        unbroken_sink = λ zero. unbroken (none_of result.fault (sym at ∙ zero));
        orderly_shelf = reads.orderly;
        orderly_sink = orderly;
        opens = opens_at result.status old_opens new_opens (files_of asked) reads.opens;
        all_opened = λ zero. reads.all_opened refl;
        stops = reads.stops;
        calls = reads.calls;
      }
      calls (Err refusal) is reads =
          let same : result.status ≡ status_by (sort_of refusal.fault) =
          status_is (Some refusal.fault) is.0 in
          let never : result.status ≡ 0 → ⊥ =
          λ zero. some_fault (sort_of refusal.fault) (sym same ∙ zero) in
          record {
            unbroken_shelf = λ zero. absurd (never zero);
            unbroken_sink = λ zero. absurd (never zero);
            orderly_shelf = reads.orderly;
            orderly_sink = orderly;
            opens = subst (λ (n : ℕ). OpensFiles n old_opens new_opens (files_of asked))
                (sym same) reads.opens;
            all_opened = λ zero. absurd (never zero);
            stops = reads.stops;
            calls = reads.calls;
          }
