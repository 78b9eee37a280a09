-- What is promised of a run, from how its request was decided and how the run ended.
use Rattle.std.proofs.Common.{◌≡◌, ◌∙◌, ℕ, List, Option, None, Some, Result, Ok, Err}
use Rattle.std.proofs.Common.{ap, arith, inl, inr, refl, subst, sym}
use Rattle.std.specs.Prelude.{◌⊎◌, ◌↔◌, IsNone, IsSome}
use Rattle.std.specs.Io.KnownBytes.{Appends}
use Rattle.doc_export.specs.declared.dumped.Dumped.{Dumped}
use Rattle.outside.specs.Pieces.{AppendsPart}
use Rattle.command_line.specs.Requests.{Asked}
use Rattle.script_files.specs.Fault.{status_by, status_of}
use Rattle.script_files.specs.Sorts.{sort_of}
use Rattle.script_files.specs.declared.fault.Fault.{Fault}
use Rattle.script_files.specs.declared.fault.Fault.TheVariants.{Memory, WriteFault}
use Rattle.doc_run.specs.Answers.{Answers, Decided, HandsBack, IsRefusedBy, dumped_of}
use Rattle.doc_run.specs.Answers.{finished_of, mailed_of, text_of}
use Rattle.doc_run.specs.Due.{IsDueOf}
use Rattle.doc_run.specs.Guested.{IsTooLarge}
use Rattle.doc_run.specs.Request.{ForClients, ForDump, ForMailbox, Kind, kind_of}
use Rattle.doc_run.specs.Sentences.{Completed, Refusals, Written}
use Rattle.doc_run.specs.Written.{Ended, IsCut, IsDone, IsLetGo, IsRefused}
use Rattle.doc_run.specs.declared.answer.Answer.{Answer}
use Rattle.doc_run.specs.declared.answer.Answer.TheVariants as came
use Rattle.doc_run.specs.declared.answer.Refusal.{Refusal}
use Rattle.doc_run.specs.declared.outcome.Outcome.{Outcome}
use Rattle.doc_run.proofs.ByRequest.{Leaves, asks, due_answered, due_refused, due_wanted}
use Rattle.doc_run.proofs.ByRequest.{is_none, kind_in, kind_is, leaves, replies_in, unwriting}
use Rattle.doc_run.proofs.ByRequest.{usage_is, wordless}
use Rattle.doc_run.proofs.Guesting.{none_small}
use Rattle.doc_run.proofs.Statuses.{not_refusal, some_fault, words_of, writing_of}

-- Of what is handed back: it is there exactly where the answer is of its kind.

finished_there : (answer : Answer) → IsSome (finished_of answer) ↔ (kind_in answer ≡ ForClients)
finished_there (came.Text text) = ((λ some. absurd (cc)), (λ is. absurd (cc)))
finished_there (came.Ran text f) = ((λ some. refl), (λ is. refl))
finished_there (came.Dumped d) = ((λ some. absurd (cc)), (λ is. absurd (cc)))
finished_there (came.Mailed text ran) = ((λ some. absurd (cc)), (λ is. absurd (cc)))

dumped_there : (answer : Answer) → IsSome (dumped_of answer) ↔ (kind_in answer ≡ ForDump)
dumped_there (came.Text text) = ((λ some. absurd (cc)), (λ is. absurd (cc)))
dumped_there (came.Ran text f) = ((λ some. absurd (cc)), (λ is. absurd (cc)))
dumped_there (came.Dumped d) = ((λ some. refl), (λ is. refl))
dumped_there (came.Mailed text ran) = ((λ some. absurd (cc)), (λ is. absurd (cc)))

mailed_there : (answer : Answer) → IsSome (mailed_of answer) ↔ (kind_in answer ≡ ForMailbox)
mailed_there (came.Text text) = ((λ some. absurd (cc)), (λ is. absurd (cc)))
mailed_there (came.Ran text f) = ((λ some. absurd (cc)), (λ is. absurd (cc)))
mailed_there (came.Dumped d) = ((λ some. absurd (cc)), (λ is. absurd (cc)))
mailed_there (came.Mailed text ran) = ((λ some. refl), (λ is. refl))

none_some : {X : Type 0} (found : Option X) → IsNone found → IsSome found → ⊥
none_some None none some = cc
none_some (Some x) none some = cc

some_same : (a b : Fault) → Some a ≡ Some b → a ≡ b
some_same a b e = cc

large_some : (dumped : Option Dumped) → IsTooLarge dumped → IsSome dumped
large_some None big = absurd big
large_some (Some d) big = refl

-- it is, at the status of an answer that was written
there : {X : Type 0} (back found : Option X) (one asked wanted : Kind) (Ends : Type 0)
    → back ≡ found → IsSome found ↔ (one ≡ wanted) → one ≡ asked → Ends
    → IsSome back ↔ ((asked ≡ wanted) × Ends)
there {X} back found one asked wanted Ends same is kind ends =
    subst (λ (o : Option X). IsSome o ↔ ((asked ≡ wanted) × Ends)) (sym same)
    ((λ some. (sym kind ∙ is.0 some, ends)), (λ facts. is.1 (kind ∙ facts.0)))

-- and nothing is, at another
gone : {X : Type 0} (back : Option X) (Asks Ends : Type 0) → back ≡ None → (Ends → ⊥)
    → IsSome back ↔ (Asks × Ends)
gone back Asks Ends none never = (
  (λ some. absurd (none_some back (is_none back none) some)),
  (λ facts. absurd (never facts.1)),
)

-- All that is promised of a run.

pub record Promised (holds : List ℕ → Option (List ℕ)) (asked : Option Asked) (result : Outcome)
    (old new : Option (List ℕ)) : Type 0 where
  pub finished : IsSome result.finished
      ↔ ((kind_of asked ≡ ForClients) × ((result.status ≡ 0) ⊎ (result.status ≡ 4)))
  pub dumped : IsSome result.dumped
      ↔ ((kind_of asked ≡ ForDump) × ((result.status ≡ 0) ⊎ (result.status ≡ 4)
      ⊎ ((result.status ≡ 6) × IsTooLarge result.dumped)))
  pub mailed : IsSome result.mailed
      ↔ ((kind_of asked ≡ ForMailbox) × ((result.status ≡ 0) ⊎ (result.status ≡ 4)))
  pub completed : result.status ≡ 0 → Completed holds asked result (Appends old new)
  pub refused : Refusals holds asked result
  pub due : IsDueOf holds asked result.dumped result.status
  pub written : Written holds asked result old new

module _ (holds : List ℕ → Option (List ℕ)) (asked : Option Asked) (result : Outcome)
    (old new : Option (List ℕ)) (at : result.status ≡ status_of result.fault) where
  whole : (Wrote : List ℕ → Type 0) (answer : Answer) → Answers holds asked answer
      → HandsBack answer result → Wrote (text_of answer) → Completed holds asked result Wrote
  whole Wrote answer comes back wrote = record {
    done = replies_in holds asked answer result Wrote comes back.0 wrote;
    answer = answer;
    comes = comes;
    handed = back;
    wrote = wrote;
  }

  status_is : (fault : Option Fault) → result.fault ≡ fault → result.status ≡ status_of fault
  status_is fault is = at ∙ ap status_of is

  due_at : (answer : Answer) → Answers holds asked answer → HandsBack answer result
      → (result.status ≡ 0) ⊎ (result.status ≡ 4) → IsDueOf holds asked result.dumped result.status
  due_at answer comes back ends =
      subst (λ (o : Option Dumped). IsDueOf holds asked o result.status) (sym back.1)
      (due_answered holds asked answer result.status ends comes)

  -- the answer was written, wholly or a front of it
  done : (answer : Answer) → Answers holds asked answer → IsDone answer result old new
      → Promised holds asked result old new
  done answer comes is =
      let zero : result.status ≡ 0 = status_is None is.0 in
      let back : HandsBack answer result = is.1 in
      let kind = kind_is holds asked answer comes in
      record {
        finished = there result.finished (finished_of answer) (kind_in answer) (kind_of asked)
            ForClients _ back.0 (finished_there answer) kind (inl zero);
        dumped = there result.dumped (dumped_of answer) (kind_in answer) (kind_of asked) ForDump _
            back.1 (dumped_there answer) kind (inl zero);
        mailed = there result.mailed (mailed_of answer) (kind_in answer) (kind_of asked)
            ForMailbox _ back.2 (mailed_there answer) kind (inl zero);
        completed = λ ends. whole (Appends old new) answer comes back is.2;
        refused = record {
          usage = (
            (λ one. absurd (omega (arith, zero, one))),
            (λ facts. absurd (asks holds asked answer comes facts.1)),
          );
          refused = λ refusal. absurd (not_refusal result.status (inl zero) refusal);
        };
        due = due_at answer comes back (inl zero);
        written = record {
          front = λ four. absurd (omega (arith, zero, four));
          memory_part = λ five. absurd (omega (arith, zero, five));
          unwritten = λ refusal. absurd (not_refusal result.status (inl zero) refusal);
        };
      }

  cut : (answer : Answer) → Answers holds asked answer → IsCut answer result old new
      → Promised holds asked result old new
  cut answer comes is =
      let four : result.status ≡ 4 = status_is (Some WriteFault) is.0 in
      let back : HandsBack answer result = is.1 in
      let kind = kind_is holds asked answer comes in
      record {
        finished = there result.finished (finished_of answer) (kind_in answer) (kind_of asked)
            ForClients _ back.0 (finished_there answer) kind (inr four);
        dumped = there result.dumped (dumped_of answer) (kind_in answer) (kind_of asked) ForDump _
            back.1 (dumped_there answer) kind (inr (inl four));
        mailed = there result.mailed (mailed_of answer) (kind_in answer) (kind_of asked)
            ForMailbox _ back.2 (mailed_there answer) kind (inr four);
        completed = λ zero. absurd (omega (arith, zero, four));
        refused = record {
          usage = (
            (λ one. absurd (omega (arith, four, one))),
            (λ facts. absurd (asks holds asked answer comes facts.1)),
          );
          refused = λ refusal. absurd (not_refusal result.status (inr (inl four)) refusal);
        };
        due = due_at answer comes back (inr four);
        written = record {
          front = λ ends. whole (AppendsPart old new) answer comes back is.2;
          memory_part = λ five. absurd (omega (arith, four, five));
          unwritten = λ refusal. absurd (not_refusal result.status (inr (inl four)) refusal);
        };
      }

  -- the sink was out of memory
  let_go : (answer : Answer) → Answers holds asked answer → IsLetGo answer result old new
      → Promised holds asked result old new
  let_go answer comes is =
      let five : result.status ≡ 5 = status_is (Some Memory) is.0 in
      let ended : ((result.status ≡ 0) ⊎ (result.status ≡ 4)) → ⊥ =
      λ ends. elim ends [ inl e ↦ omega (arith, five, e) | inr e ↦ omega (arith, five, e) ] in
      record {
        finished = gone result.finished _ _ is.1 ended;
        dumped = gone result.dumped _ _ is.2 (λ ends. elim ends [
          | inl e ↦ omega (arith, five, e)
          | inr more ↦ elim more [
            | inl e ↦ omega (arith, five, e)
            | inr big ↦ let six = big.0 in omega (arith, five, six)
          ]
        ]);
        mailed = gone result.mailed _ _ is.3 ended;
        completed = λ zero. absurd (omega (arith, five, zero));
        refused = record {
          usage = (
            (λ one. absurd (omega (arith, five, one))),
            (λ facts. absurd (asks holds asked answer comes facts.1)),
          );
          refused = λ refusal. absurd (not_refusal result.status (inr (inr five)) refusal);
        };
        due = due_wanted holds asked result.dumped result.status five;
        written = record {
          front = λ four. absurd (omega (arith, five, four));
          memory_part = λ ends. inr (answer, comes, is.4);
          unwritten = λ refusal. absurd (not_refusal result.status (inr (inr five)) refusal);
        };
      }

  -- the request was refused
  module _ (refusal : Refusal) (by : IsRefusedBy holds asked refusal.dumped refusal.fault)
      (is : IsRefused refusal result old new) where
    fault_is : result.status ≡ status_by (sort_of refusal.fault)
    fault_is = status_is (Some refusal.fault) is.0

    by_back : IsRefusedBy holds asked result.dumped refusal.fault
    by_back = subst (λ (o : Option Dumped). IsRefusedBy holds asked o refusal.fault) (sym is.2) by

    no_zero : result.status ≡ 0 → ⊥
    no_zero zero = some_fault (sort_of refusal.fault) (sym fault_is ∙ zero)

    no_four : result.status ≡ 4 → ⊥
    no_four four =
        unwriting holds asked refusal.dumped refusal.fault by
        (writing_of (sort_of refusal.fault) (sym fault_is ∙ four))

    no_end : ((result.status ≡ 0) ⊎ (result.status ≡ 4)) → ⊥
    no_end ends = elim ends [ inl e ↦ no_zero e | inr e ↦ no_four e ]

    dumped_back : Leaves holds asked result.dumped refusal.fault → IsSome result.dumped
        ↔ ((kind_of asked ≡ ForDump) × ((result.status ≡ 0) ⊎ (result.status ≡ 4)
        ⊎ ((result.status ≡ 6) × IsTooLarge result.dumped)))
    dumped_back left = elim left [
      | inl none ↦ (
        (λ some. absurd (none_some result.dumped none some)),
        (λ facts. absurd (elim facts.1 [
          | inl e ↦ no_zero e
          | inr more ↦ elim more [
            | inl e ↦ no_four e
            | inr big ↦ none_small result.dumped none big.1
          ]
        ])),
      )
      | inr large ↦ (
        (λ some. (
          large.0,
          inr (inr (
            fault_is ∙ ap (λ (f : Fault). status_by (sort_of f)) large.1,
            large.2,
          )),
        )),
        (λ facts. large_some result.dumped large.2),
      )
    ]

    refused : Promised holds asked result old new
    refused = record {
      finished = gone result.finished _ _ is.1 no_end;
      dumped = dumped_back (leaves holds asked result.dumped refusal.fault by_back);
      mailed = gone result.mailed _ _ is.3 no_end;
      completed = λ zero. absurd (no_zero zero);
      refused = record {
        usage = (
          (λ one. (
            (λ five. omega (arith, one, five)),
            wordless holds asked refusal.dumped refusal.fault by
                (words_of (sort_of refusal.fault) (sym fault_is ∙ one)),
          )),
          (λ facts. fault_is ∙ usage_is holds asked refusal.dumped refusal.fault by facts.1
              (λ five. facts.0 (fault_is ∙ five))),
        );
        refused = λ ends fault one.
            let same : refusal.fault ≡ fault = some_same refusal.fault fault (sym is.0 ∙ one) in
            subst (λ (f : Fault). IsRefusedBy holds asked result.dumped f) same by_back;
      };
      due = subst (λ (n : ℕ). IsDueOf holds asked result.dumped n) (sym fault_is)
          (due_refused holds asked result.dumped refusal.fault by_back);
      written = record {
        front = λ four. absurd (no_four four);
        memory_part = λ five. inl is.4;
        unwritten = λ ends. is.4;
      };
    }

  pub promised : (answered : Result Answer Refusal) → Decided holds asked answered
      → Ended answered result old new → Promised holds asked result old new
  promised (Ok answer) comes ended = elim ended [
    | inl is ↦ done answer comes is
    | inr others ↦ elim others [ inl is ↦ cut answer comes is | inr is ↦ let_go answer comes is ]
  ]
  promised (Err refusal) by is = refused refusal by is
