-- What follows of every request from the answer that it comes to, and from the fault that it is
-- refused by: a line a request.
use Rattle.std.proofs.Common.{◌≡◌, ◌∙◌, ℕ, ◌≤◌, ◌<◌, ◌*◌, List, Option, None, Some, Result, Err}
use Rattle.std.proofs.Common.{ap, arith, inl, inr, map, refl, subst, sym}
use Rattle.std.specs.Prelude.{◌⊎◌, ◌≢◌, IsNone, IsSomeAnd}
use Rattle.doc_export.specs.declared.dumped.Dumped.{Dumped}
use Rattle.mail_run.specs.declared.finished.MailRun.{MailRun}
use Rattle.command_line.specs.Requests.{Asked, Run, Replay, Gen, Load, Image, Dump, Census, Mail}
use Rattle.command_line.specs.Requests.{Gives, asked_by, request_of}
use Rattle.command_line.specs.declared.request.Request.{Request}
use Rattle.command_line.specs.declared.request.WordsFault.{WordsFault}
use Rattle.command_line.specs.declared.request.WordsFault.TheVariants as words_fault
use Rattle.command_line.specs.declared.request.GenWords.{GenWords}
use Rattle.run_limits.specs.declared.TheConstants.{MOST_COMMANDS}
use Rattle.script_files.proofs.Opens.{stops_none}
use Rattle.script_files.specs.Fault.{status_by}
use Rattle.script_files.specs.Mail.{mail_of, parse_mail}
use Rattle.script_files.specs.Scripts.{parse_script, scripts_of}
use Rattle.script_files.specs.Sorts.{Grammar, OfMail, OfScripts, Refused, Sort, sort_of}
use Rattle.script_files.specs.Sorts.{OfWords, OfWriting}
use Rattle.script_files.specs.declared.fault.Fault.{Fault}
use Rattle.script_files.specs.declared.fault.Fault.TheVariants.{Memory, TooLarge, Usage}
use Rattle.store_run.specs.declared.finished.Finished.{Finished}
use Rattle.doc_run.specs.Answers.{Answers, AnswersMade, Decided, IsRefusedBy, OfDump}
use Rattle.doc_run.specs.Answers.{OfMailbox, OfRun, OfText, dumped_of, finished_of}
use Rattle.doc_run.specs.Answers.{text_of}
use Rattle.doc_run.specs.Due.{IsDueOf}
use Rattle.doc_run.specs.Guested.{IsDumpDueFor, IsDumpRunGiven, IsTooLarge}
use Rattle.doc_run.specs.Made.{IsMadeDue}
use Rattle.doc_run.specs.Reads.{StopsOf}
use Rattle.doc_run.specs.Replies.{AreReplies}
use Rattle.doc_run.specs.Request.{ForClients, ForDump, ForMailbox, ForText, IfRun, Kind, kind_by}
use Rattle.doc_run.specs.Request.{kind_of}
use Rattle.doc_run.specs.declared.answer.Answer.{Answer}
use Rattle.doc_run.specs.declared.answer.Answer.TheVariants as came
use Rattle.doc_run.specs.declared.answer.Refusal.{Refusal}
use Rattle.doc_run.specs.declared.outcome.Outcome.{Outcome}
use Rattle.doc_run.specs.declared.reading.Reading.TheVariants.{Schedules, Dumps, Images}
use Rattle.doc_run.proofs.Due.{ended_due, refused_due, wanted_due}
use Rattle.doc_run.proofs.Guesting.{beside_wanting, dump_answered, dump_refused, too_large}
use Rattle.doc_run.proofs.Readings.{file_answered, file_refused, file_wanted}

-- The request that words are read as.

pub known : (words given : List (List ℕ)) (request this : Request) → words ≡ given
    → request_of words ≡ Some (asked_by request) → request ≡ this
    → request_of given ≡ Some (asked_by this)
known words given request this same is one =
    subst (λ (ws : List (List ℕ)). request_of ws ≡ Some (asked_by this)) same
    (is ∙ ap (λ (r : Request). Some (asked_by r)) one)

-- it is none
pub none_asked : (words given : List (List ℕ)) (fault : WordsFault) → words ≡ given
    → Gives {V = Request} asked_by (Err fault) (request_of words) → fault ≡ words_fault.Usage
    → request_of given ≡ None
none_asked words given fault same is one =
    subst (λ (ws : List (List ℕ)). request_of ws ≡ None) same
    (subst (λ (f : WordsFault). Gives {V = Request} asked_by (Err f) (request_of words)) one is)

pub decided_as : (holds : List ℕ → Option (List ℕ)) (asked told : Option Asked)
    (r : Result Answer Refusal) → asked ≡ told → Decided holds told r → Decided holds asked r
decided_as holds asked told r is decided = subst (λ a. Decided holds a r) (sym is) decided

pub usage_refuses : (holds : List ℕ → Option (List ℕ)) → IsRefusedBy holds None None Usage
usage_refuses holds = (inl refl, refl)

-- What an answer is of.

abbrev pub kind_in : Answer → Kind
kind_in (came.Text text) = ForText
kind_in (came.Ran text f) = ForClients
kind_in (came.Dumped d) = ForDump
kind_in (came.Mailed text ran) = ForMailbox

of_text : (answer : Answer) (Fact : List ℕ → Type 0) → OfText answer Fact
    → Fact (text_of answer) × (kind_in answer ≡ ForText)
of_text (came.Text text) Fact is = (is, refl)
of_text (came.Ran text f) Fact is = absurd is
of_text (came.Dumped d) Fact is = absurd is
of_text (came.Mailed text ran) Fact is = absurd is

of_run : (answer : Answer) (Fact : Finished → List ℕ → Type 0) → OfRun answer Fact
    → (f : Finished) × Fact f (text_of answer) × (finished_of answer ≡ Some f)
    × (kind_in answer ≡ ForClients)
of_run (came.Text text) Fact is = absurd is
of_run (came.Ran text f) Fact is = (f, is, refl, refl)
of_run (came.Dumped d) Fact is = absurd is
of_run (came.Mailed text ran) Fact is = absurd is

of_dump : (answer : Answer) (Fact : Dumped → List ℕ → Type 0) → OfDump answer Fact
    → (d : Dumped) × Fact d (text_of answer) × (dumped_of answer ≡ Some d)
    × (kind_in answer ≡ ForDump)
of_dump (came.Text text) Fact is = absurd is
of_dump (came.Ran text f) Fact is = absurd is
of_dump (came.Dumped d) Fact is = (d, is, refl, refl)
of_dump (came.Mailed text ran) Fact is = absurd is

of_mailbox : (answer : Answer) (Fact : MailRun → List ℕ → Type 0) → OfMailbox answer Fact
    → (ran : MailRun) × Fact ran (text_of answer) × (kind_in answer ≡ ForMailbox)
of_mailbox (came.Text text) Fact is = absurd is
of_mailbox (came.Ran text f) Fact is = absurd is
of_mailbox (came.Dumped d) Fact is = absurd is
of_mailbox (came.Mailed text ran) Fact is = (ran, is, refl)

pub is_none : {X : Type 0} (found : Option X) → found ≡ None → IsNone found
is_none found is = subst (λ o. IsNone o) (sym is) refl

-- By the sort of a refusal.

not_writing : (grammar : Grammar) (sort : Sort) (A B : Type 0) → Refused grammar sort A B
    → sort ≡ OfWriting → ⊥
not_writing grammar OfWriting A B is same = is
not_writing grammar sort A B is same = cc

not_words : (grammar : Grammar) (sort : Sort) (A B : Type 0) → Refused grammar sort A B
    → sort ≡ OfWords → ⊥
not_words grammar OfWords A B is same = is
not_words grammar sort A B is same = cc

another : (fault known : Fault) (sort : Sort) → fault ≡ known → sort_of fault ≡ sort
    → sort_of known ≡ sort
another fault known sort is same = subst (λ (f : Fault). sort_of f ≡ sort) is same

module _ (holds : List ℕ → Option (List ℕ)) where
  -- Of an answer.

  made_kind : (made : GenWords) (print : Option ℕ) (answer : Answer)
      → AnswersMade made print answer → kind_in answer ≡ kind_by print
  made_kind made None answer is = (of_run answer _ is).3
  made_kind made (Some client) answer is = (of_text answer _ is).1

  -- it is of what the request asks for
  pub kind_is : (asked : Option Asked) (answer : Answer) → Answers holds asked answer
      → kind_in answer ≡ kind_of asked
  kind_is None answer is = absurd is
  kind_is (Some (Run run)) answer is = (of_run answer _ is).3
  kind_is (Some (Replay name)) answer is = (of_text answer _ is).1
  kind_is (Some (Gen made)) answer is = made_kind made made.print answer is.1
  kind_is (Some (Load name)) answer is = (of_text answer _ is).1
  kind_is (Some (Image run)) answer is = (of_run answer _ is).3
  kind_is (Some (Dump names)) answer is = (of_dump answer _ is).3
  kind_is (Some (Census name)) answer is = (of_text answer _ is).1
  kind_is (Some (Mail mail)) answer is = (of_mailbox answer _ is).2

  pub asks : (asked : Option Asked) (answer : Answer) → Answers holds asked answer
      → IsNone asked → ⊥
  asks None answer is none = is
  asks (Some request) answer is none = cc

  -- the replies in it
  pub replies_in : (asked : Option Asked) (answer : Answer) (result : Outcome)
      (Wrote : List ℕ → Type 0) → Answers holds asked answer
      → result.finished ≡ finished_of answer → Wrote (text_of answer)
      → IfRun asked (λ run. IsSomeAnd result.finished (λ f.
      (text : List ℕ) × AreReplies (map holds run.files) run f text × Wrote text))
  replies_in None answer result Wrote is back wrote = tt
  replies_in (Some (Run run)) answer result Wrote is back wrote =
      let one = of_run answer _ is in
      subst (λ (o : Option Finished). IsSomeAnd o (λ f.
      (text : List ℕ) × AreReplies (map holds run.files) run f text × Wrote text))
      (sym (back ∙ one.2)) (text_of answer, one.1.1, wrote)
  replies_in (Some (Replay name)) answer result Wrote is back wrote = tt
  replies_in (Some (Gen made)) answer result Wrote is back wrote = tt
  replies_in (Some (Load name)) answer result Wrote is back wrote = tt
  replies_in (Some (Image run)) answer result Wrote is back wrote = tt
  replies_in (Some (Dump names)) answer result Wrote is back wrote = tt
  replies_in (Some (Census name)) answer result Wrote is back wrote = tt
  replies_in (Some (Mail mail)) answer result Wrote is back wrote = tt

  made_answered : (made : GenWords) (status : ℕ) → (status ≡ 0) ⊎ (status ≡ 4)
      → made.clients * made.commands ≤ MOST_COMMANDS → IsMadeDue made status
  made_answered made status ends few = record {
    large = (
      (λ six. absurd (elim ends [
        | inl e ↦ omega (arith, six, e)
        | inr e ↦ omega (arith, six, e)
      ])),
      (λ facts. let many = facts.1 in absurd (omega (arith, few, many))),
    );
    complete = λ all. elim ends [ inl e ↦ inl e | inr e ↦ inr (inl e) ];
  }

  dump_back : (told : List (Option (List ℕ))) (answer : Answer) (status : ℕ) (d : Dumped)
      → dumped_of answer ≡ Some d → IsDumpDueFor told (Some d) status
      → IsDumpDueFor told (dumped_of answer) status
  dump_back told answer status d is due =
      subst (λ (o : Option Dumped). IsDumpDueFor told o status) (sym is) due

  -- at status 0 or 4 the status is due
  pub due_answered : (asked : Option Asked) (answer : Answer) (status : ℕ)
      → (status ≡ 0) ⊎ (status ≡ 4) → Answers holds asked answer
      → IsDueOf holds asked (dumped_of answer) status
  due_answered None answer status ends is = tt
  due_answered (Some (Run run)) answer status ends is =
      let one = of_run answer _ is in
      ended_due OfScripts (λ contents. scripts_of contents) (map holds run.files) one.1.0.0 status
      ends one.1.0.1
  due_answered (Some (Replay name)) answer status ends is =
      file_answered Schedules (holds name) (text_of answer) status ends (of_text answer _ is).0
  due_answered (Some (Gen made)) answer status ends is = made_answered made status ends is.0
  due_answered (Some (Load name)) answer status ends is =
      file_answered Dumps (holds name) (text_of answer) status ends (of_text answer _ is).0
  due_answered (Some (Image run)) answer status ends is =
      let one = of_run answer _ is in
      ended_due OfScripts (λ contents. scripts_of contents) (map holds run.files) one.1.0.0 status
      ends one.1.0.1
  due_answered (Some (Dump names)) answer status ends is =
      let one = of_dump answer _ is in
      dump_back (map holds names) answer status one.0 one.2
      (dump_answered (map holds names) one.0 (text_of answer) status ends one.1.0 one.1.1)
  due_answered (Some (Census name)) answer status ends is =
      file_answered Images (holds name) (text_of answer) status ends (of_text answer _ is).0
  due_answered (Some (Mail mail)) answer status ends is =
      let one = of_mailbox answer _ is in
      ended_due OfMail (λ contents. mail_of contents) (map holds mail.files) one.1.0.0 status ends
      one.1.0.1

  -- Where memory was wanting.

  made_wanted : (made : GenWords) (status : ℕ) → status ≡ 5 → IsMadeDue made status
  made_wanted made status is = record {
    large = ((λ six. absurd (omega (arith, is, six))), (λ facts. absurd (facts.0 is)));
    complete = λ few. inr (inr is);
  }

  pub due_wanted : (asked : Option Asked) (dumped : Option Dumped) (status : ℕ) → status ≡ 5
      → IsDueOf holds asked dumped status
  due_wanted None dumped status is = tt
  due_wanted (Some (Run run)) dumped status is =
      wanted_due OfScripts (λ contents. scripts_of contents) (map holds run.files) status is
  due_wanted (Some (Replay name)) dumped status is = file_wanted Schedules (holds name) status is
  due_wanted (Some (Gen made)) dumped status is = made_wanted made status is
  due_wanted (Some (Load name)) dumped status is = file_wanted Dumps (holds name) status is
  due_wanted (Some (Image run)) dumped status is =
      wanted_due OfScripts (λ contents. scripts_of contents) (map holds run.files) status is
  due_wanted (Some (Dump names)) dumped status is =
      beside_wanting (map holds names) dumped status is
  due_wanted (Some (Census name)) dumped status is = file_wanted Images (holds name) status is
  due_wanted (Some (Mail mail)) dumped status is =
      wanted_due OfMail (λ contents. mail_of contents) (map holds mail.files) status is

  -- every request may be refused since memory ran out
  pub memory_refuses : (asked : Option Asked) (dumped : Option Dumped) → dumped ≡ None
      → IsRefusedBy holds asked dumped Memory
  memory_refuses None dumped none = (inr refl, is_none dumped none)
  memory_refuses (Some (Run run)) dumped none = (tt, is_none dumped none)
  memory_refuses (Some (Replay name)) dumped none = (tt, is_none dumped none)
  memory_refuses (Some (Gen made)) dumped none = (inr refl, is_none dumped none)
  memory_refuses (Some (Load name)) dumped none = (tt, is_none dumped none)
  memory_refuses (Some (Image run)) dumped none = (tt, is_none dumped none)
  memory_refuses (Some (Dump names)) dumped none = inl (tt, is_none dumped none)
  memory_refuses (Some (Census name)) dumped none = (tt, is_none dumped none)
  memory_refuses (Some (Mail mail)) dumped none = (tt, is_none dumped none)

  -- Of a refusal.

  -- its fault is not that of writing
  pub unwriting : (asked : Option Asked) (dumped : Option Dumped) (fault : Fault)
      → IsRefusedBy holds asked dumped fault → sort_of fault ≡ OfWriting → ⊥
  unwriting None dumped fault is same = elim is.0 [
    | inl e ↦ let other = another fault Usage OfWriting e same in cc
    | inr e ↦ let other = another fault Memory OfWriting e same in cc
  ]
  unwriting (Some (Run run)) dumped fault is same = not_writing _ _ _ _ is.0 same
  unwriting (Some (Replay name)) dumped fault is same = not_writing _ _ _ _ is.0 same
  unwriting (Some (Gen made)) dumped fault is same = elim is.0 [
    | inl e ↦ let other = another fault (TooLarge 0) OfWriting e.0 same in cc
    | inr e ↦ let other = another fault Memory OfWriting e same in cc
  ]
  unwriting (Some (Load name)) dumped fault is same = not_writing _ _ _ _ is.0 same
  unwriting (Some (Image run)) dumped fault is same = not_writing _ _ _ _ is.0 same
  unwriting (Some (Dump names)) dumped fault is same = elim is [
    | inl e ↦ not_writing _ _ _ _ e.0 same
    | inr e ↦ let other = another fault (TooLarge 0) OfWriting e.0 same in cc
  ]
  unwriting (Some (Census name)) dumped fault is same = not_writing _ _ _ _ is.0 same
  unwriting (Some (Mail mail)) dumped fault is same = not_writing _ _ _ _ is.0 same

  -- it is that of words only where the words are none of the program's
  pub wordless : (asked : Option Asked) (dumped : Option Dumped) (fault : Fault)
      → IsRefusedBy holds asked dumped fault → sort_of fault ≡ OfWords → IsNone asked
  wordless None dumped fault is same = refl
  wordless (Some (Run run)) dumped fault is same = absurd (not_words _ _ _ _ is.0 same)
  wordless (Some (Replay name)) dumped fault is same = absurd (not_words _ _ _ _ is.0 same)
  wordless (Some (Gen made)) dumped fault is same = absurd (elim is.0 [
    | inl e ↦ let other = another fault (TooLarge 0) OfWords e.0 same in cc
    | inr e ↦ let other = another fault Memory OfWords e same in cc
  ])
  wordless (Some (Load name)) dumped fault is same = absurd (not_words _ _ _ _ is.0 same)
  wordless (Some (Image run)) dumped fault is same = absurd (not_words _ _ _ _ is.0 same)
  wordless (Some (Dump names)) dumped fault is same = absurd (elim is [
    | inl e ↦ not_words _ _ _ _ e.0 same
    | inr e ↦ let other = another fault (TooLarge 0) OfWords e.0 same in cc
  ])
  wordless (Some (Census name)) dumped fault is same = absurd (not_words _ _ _ _ is.0 same)
  wordless (Some (Mail mail)) dumped fault is same = absurd (not_words _ _ _ _ is.0 same)

  -- and there it is that, or memory was wanting
  pub usage_is : (asked : Option Asked) (dumped : Option Dumped) (fault : Fault)
      → IsRefusedBy holds asked dumped fault → IsNone asked → status_by (sort_of fault) ≢ 5
      → status_by (sort_of fault) ≡ 1
  usage_is None dumped fault is none other = elim is.0 [
    | inl e ↦ ap (λ (f : Fault). status_by (sort_of f)) e
    | inr e ↦ absurd (other (ap (λ (f : Fault). status_by (sort_of f)) e))
  ]
  usage_is (Some request) dumped fault is none other = absurd (cc)

  -- what a run came to is there only of a version that is too large for a dump
  abbrev pub Leaves : Option Asked → Option Dumped → Fault → Type 0
  Leaves asked dumped fault =
      IsNone dumped ⊎ ((kind_of asked ≡ ForDump) × (fault ≡ TooLarge 0) × IsTooLarge dumped)

  pub leaves : (asked : Option Asked) (dumped : Option Dumped) (fault : Fault)
      → IsRefusedBy holds asked dumped fault → Leaves asked dumped fault
  leaves None dumped fault is = inl is.1
  leaves (Some (Run run)) dumped fault is = inl is.1
  leaves (Some (Replay name)) dumped fault is = inl is.1
  leaves (Some (Gen made)) dumped fault is = inl is.1
  leaves (Some (Load name)) dumped fault is = inl is.1
  leaves (Some (Image run)) dumped fault is = inl is.1
  leaves (Some (Dump names)) dumped fault is = elim is [
    | inl e ↦ inl e.1
    | inr e ↦ inr (refl, e.0, too_large (IsDumpRunGiven (map holds names)) dumped e.1)
  ]
  leaves (Some (Census name)) dumped fault is = inl is.1
  leaves (Some (Mail mail)) dumped fault is = inl is.1

  made_refused : (made : GenWords) (fault : Fault)
      → ((fault ≡ TooLarge 0) × (MOST_COMMANDS < made.clients * made.commands))
      ⊎ (fault ≡ Memory) → IsMadeDue made (status_by (sort_of fault))
  made_refused made fault is = elim is [
    | inl e ↦
        subst (λ (f : Fault). IsMadeDue made (status_by (sort_of f))) (sym e.0)
        (let many = e.1 in record {
          large = ((λ six. ((λ five. omega (arith, five)), many)), (λ facts. refl));
          complete = λ few. absurd (omega (arith, few, many));
        })
    | inr e ↦
        subst (λ (f : Fault). IsMadeDue made (status_by (sort_of f))) (sym e)
        (made_wanted made 5 refl)
  ]

  -- its status is due
  pub due_refused : (asked : Option Asked) (dumped : Option Dumped) (fault : Fault)
      → IsRefusedBy holds asked dumped fault
      → IsDueOf holds asked dumped (status_by (sort_of fault))
  due_refused None dumped fault is = tt
  due_refused (Some (Run run)) dumped fault is =
      refused_due OfScripts (λ contents. scripts_of contents) (map holds run.files) fault is.0
  due_refused (Some (Replay name)) dumped fault is =
      file_refused Schedules (holds name) fault is.0
  due_refused (Some (Gen made)) dumped fault is = made_refused made fault is.0
  due_refused (Some (Load name)) dumped fault is = file_refused Dumps (holds name) fault is.0
  due_refused (Some (Image run)) dumped fault is =
      refused_due OfScripts (λ contents. scripts_of contents) (map holds run.files) fault is.0
  due_refused (Some (Dump names)) dumped fault is =
      dump_refused (map holds names) dumped fault is
  due_refused (Some (Census name)) dumped fault is = file_refused Images (holds name) fault is.0
  due_refused (Some (Mail mail)) dumped fault is =
      refused_due OfMail (λ contents. mail_of contents) (map holds mail.files) fault is.0

  -- Where no file was opened.
  pub stops_before : (asked : Option Asked) (opens : ℕ) → StopsOf holds asked opens opens
  stops_before None opens = tt
  stops_before (Some (Run run)) opens =
      stops_none parse_script 1 0 opens (map holds run.files)
  stops_before (Some (Replay name)) opens = tt
  stops_before (Some (Gen made)) opens = tt
  stops_before (Some (Load name)) opens = tt
  stops_before (Some (Image run)) opens =
      stops_none parse_script 1 0 opens (map holds run.files)
  stops_before (Some (Dump names)) opens = stops_none parse_script 1 0 opens (map holds names)
  stops_before (Some (Census name)) opens = tt
  stops_before (Some (Mail mail)) opens = stops_none parse_mail 1 0 opens (map holds mail.files)
