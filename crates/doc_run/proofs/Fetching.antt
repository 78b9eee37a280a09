-- The calls of a request, from those of the reading of its files.
use Rattle.std.proofs.Common.{◌≡◌, ◌∙◌, ℕ, ◌+◌, ◌*◌, ◌≤◌, ◌<◌, List, [], ◌∷◌, Option, None, Some}
use Rattle.std.proofs.Common.{Result, Ok, Err, OnOk, ap, arith, inl, inr, length, map, refl, subst}
use Rattle.std.proofs.Common.{sym}
use Rattle.std.specs.Prelude.{◌⊎◌, IsErrOf, Vec}
use Rattle.std.specs.Borrow.{Bor}
use Rattle.std.specs.declared.alloc.Global.{Global}
use Rattle.client_run.specs.declared.options.Options.{Options}
use Rattle.cmd_text.specs.declared.form.Form.{Form}
use Rattle.doc_model.specs.declared.command.Command.{Command}
use Rattle.mail_run.specs.declared.finished.MailRun.{MailRun}
use Rattle.outside.specs.Calls.{IsOrderly, IsUnbroken}
use Rattle.outside.specs.Causes.{Rose, next_count}
use Rattle.outside.specs.declared.course.Course.{Course}
use Rattle.command_line.specs.Requests.{Asked, Gen, Run, RunAsked}
use Rattle.command_line.specs.declared.request.GenWords.{GenWords}
use Rattle.run_limits.specs.declared.TheConstants.{MOST_COMMANDS}
use Rattle.script_files.specs.Fault.{status_of}
use Rattle.script_files.specs.Files.{OpensInTurn, opened}
use Rattle.script_files.specs.Sorts.{Refused, sort_of}
use Rattle.script_files.specs.declared.fault.Fault.{Fault}
use Rattle.script_files.specs.declared.fault.Fault.TheVariants.{Memory, ReadFault, TooLarge}
use Rattle.doc_export.specs.declared.dumped.Dumped.{Dumped}
use Rattle.doc_run.specs.Answers.{Decided, IsOfDump, refusal_of}
use Rattle.doc_run.specs.Clients.{FinishesWith}
use Rattle.doc_run.specs.Guested.{FinishesDump}
use Rattle.doc_run.specs.Mailed.{FinishesMail}
use Rattle.doc_run.specs.Reading.{AnswersFile, Decides, grammar_of}
use Rattle.doc_run.specs.Reads.{OpensFiles, Reads, StopsOf, err_of}
use Rattle.doc_run.specs.Request.{asked_for, asked_of, files_of, names_of}
use Rattle.doc_run.specs.declared.answer.Answer.{Answer}
use Rattle.doc_run.specs.declared.answer.Refusal.{Refusal}
use Rattle.doc_run.specs.declared.clients.Ran.{Ran}
use Rattle.doc_run.specs.declared.reading.Reading.{Reading}
use Rattle.doc_run.specs.declared.reading.Reading.TheVariants.{Schedules, Dumps, Images}
use Rattle.doc_run.specs.declared.report.Report.{Report}
use Rattle.doc_run.specs.declared.report.Report.TheVariants.{Replies, Heap}
use Rattle.doc_run.proofs.ByRequest.{stops_before}

same_fault : (one other : Fault) → Some one ≡ Some other → one ≡ other
same_fault one other is = cc

-- what is so after a reading stands where it gives a value
on_any : {X P : Type 0} (r : Result X Fault) → P → OnOk r P
on_any (Ok value) fact = fact
on_any (Err fault) fact = tt

-- By the request.

name_for : (reading : Reading) (name : List ℕ)
    → names_of (Some (asked_of reading name)) ≡ name ∷ []
name_for Schedules name = refl
name_for Dumps name = refl
name_for Images name = refl

file_for : (reading : Reading) (name : List ℕ) → files_of (Some (asked_of reading name)) ≡ 1
file_for Schedules name = refl
file_for Dumps name = refl
file_for Images name = refl

stop_for : (holds : List ℕ → Option (List ℕ)) (reading : Reading) (name : List ℕ) (old new : ℕ)
    → StopsOf holds (Some (asked_of reading name)) old new
stop_for holds Schedules name old new = tt
stop_for holds Dumps name old new = tt
stop_for holds Images name old new = tt

-- the file that could not be read is the only one
first_file : (reading : Reading) (told : Option (List ℕ)) (r : Result (Vec ℕ Global) Fault)
    (file : ℕ) → AnswersFile reading told r → IsErrOf r (ReadFault file) → file ≡ 1
first_file reading told (Ok text) file is one = absurd (cc)
first_file reading told (Err fault) file is one =
    let same : fault ≡ ReadFault file = cc in
    let read : ReadFault file ≡ ReadFault 1 =
    subst (λ (f : Fault). Refused (grammar_of reading) (sort_of f) (Decides reading told f)
    (f ≡ ReadFault 1)) same is in
    cc

module _ (holds : List ℕ → Option (List ℕ)) (asked : Option Asked)
    (limit old_opens new_opens old_calls new_calls old_faults new_faults : ℕ)
    (old new : Course) where
  abbrev pub ReadsBy : Option Fault → Type 0
  ReadsBy fault =
      Reads holds asked fault limit old_opens new_opens old_calls new_calls old_faults new_faults
      old new

  -- the files were read, or refused, in turn
  read_in_turn : {X : Type 0} (r : Result X Fault) (files count : ℕ) → files_of asked ≡ files
      → length (names_of asked) ≡ count
      → ((file : ℕ) → IsErrOf r (ReadFault file) → Rose old_faults new_faults)
      → ((file : ℕ) → IsErrOf r (ReadFault file) → new_opens ≡ opened old_opens file)
      → OpensInTurn old_opens new_opens files → OnOk r (new_opens ≡ opened old_opens count)
      → StopsOf holds asked old_opens new_opens → new_calls ≤ old_calls + files * (limit + 1)
      → OnOk r (IsUnbroken old → IsUnbroken new) → (IsUnbroken old → IsOrderly new)
      → ReadsBy (err_of r)
  read_in_turn (Ok value) files count files_are count_is read read_file opens all stops calls
      unbroken orderly = record {
        read = λ file one. absurd (cc);
        read_file = λ file one. absurd (cc);
        opens = subst (λ (n : ℕ). OpensFiles 0 old_opens new_opens n) (sym files_are)
            (opens.0, opens.1, (λ other. opens.2), opens.3);
        all_opened = λ none. all ∙ ap (λ (n : ℕ). opened old_opens n) (sym count_is);
        stops = stops;
        calls = subst (λ (n : ℕ). new_calls ≤ old_calls + n * (limit + 1)) (sym files_are) calls;
        unbroken = λ none. unbroken;
        orderly = orderly;
      }
  read_in_turn (Err fault) files count files_are count_is read read_file opens all stops calls
      unbroken orderly = record {
        read = λ file one.
            read file (ap (λ (f : Fault). Err f) (same_fault fault (ReadFault file) one));
        read_file = λ file one.
            read_file file (ap (λ (f : Fault). Err f) (same_fault fault (ReadFault file) one));
        opens = subst (λ (n : ℕ). OpensFiles (status_of (Some fault)) old_opens new_opens n)
            (sym files_are) (opens.0, opens.1, (λ other. opens.2), opens.3);
        all_opened = λ none. absurd (cc);
        stops = stops;
        calls = subst (λ (n : ℕ). new_calls ≤ old_calls + n * (limit + 1)) (sym files_are) calls;
        unbroken = λ none. absurd (cc);
        orderly = orderly;
      }

  -- those whose names are these, as they are lent
  pub read_lent : {X : Type 0} (r : Result X Fault) (items lent : List (Bor (List ℕ)))
      (many : ℕ → ℕ) (Stops : List (Option (List ℕ)) → Type 0) → lent ≡ items
      → length (names_of asked) ≡ length items → files_of asked ≡ many (length items)
      → (Stops (map holds (map (λ name. name.now) items))
      → StopsOf holds asked old_opens new_opens)
      → ((file : ℕ) → IsErrOf r (ReadFault file) → Rose old_faults new_faults)
      → ((file : ℕ) → IsErrOf r (ReadFault file) → new_opens ≡ opened old_opens file)
      → OpensInTurn old_opens new_opens (many (length lent))
      → OnOk r (new_opens ≡ opened old_opens (length lent))
      → Stops (map holds (map (λ name. name.now) lent))
      → new_calls ≤ old_calls + many (length lent) * (limit + 1)
      → OnOk r (IsUnbroken old → IsUnbroken new) → (IsUnbroken old → IsOrderly new)
      → ReadsBy (err_of r)
  read_lent r items lent many Stops same count_is files_are stops_are read read_file opens all
      stops calls unbroken orderly =
      read_in_turn r (many (length items)) (length items) files_are count_is read read_file
      (subst (λ (ns : List (Bor (List ℕ))). OpensInTurn old_opens new_opens (many (length ns)))
      same opens)
      (subst (λ (ns : List (Bor (List ℕ))). OnOk r (new_opens ≡ opened old_opens (length ns))) same
      all)
      (stops_are (subst (λ (ns : List (Bor (List ℕ))). Stops (map holds (map (λ name. name.now) ns)))
      same stops))
      (subst (λ (ns : List (Bor (List ℕ))). new_calls ≤ old_calls + many (length ns) * (limit + 1))
      same calls) unbroken orderly

  -- and then the request was refused for something else
  pub then_refused : (fault : Fault) → ((file : ℕ) → fault ≡ ReadFault file → ⊥) → ReadsBy None
      → ReadsBy (Some fault)
  then_refused fault other is = record {
    read = λ file one. absurd (other file (same_fault fault (ReadFault file) one));
    read_file = λ file one. absurd (other file (same_fault fault (ReadFault file) one));
    opens = (
      is.opens.0,
      is.opens.1,
      (λ waits some. is.opens.2 (λ five. omega (arith, five)) some),
      is.opens.3,
    );
    all_opened = λ none. absurd (cc);
    stops = is.stops;
    calls = is.calls;
    unbroken = λ none. absurd (cc);
    orderly = is.orderly;
  }

  -- the same fault, told otherwise
  pub renamed : (one other : Fault) → one ≡ other → ReadsBy (Some other) → ReadsBy (Some one)
  renamed one other same is = subst (λ (f : Fault). ReadsBy (Some f)) (sym same) is

  -- as memory was wanting
  pub then_wanted : ReadsBy None → ReadsBy (Some Memory)
  then_wanted is = then_refused Memory (λ file e. cc) is

  pub ended_run : (options : Options) (scripts : List (List Command)) (forms : List Form)
      (r : Result Ran Fault) → FinishesWith options scripts forms r → ReadsBy None
      → ReadsBy (err_of r)
  ended_run options scripts forms (Ok ran) wants is = is
  ended_run options scripts forms (Err fault) wants is =
      renamed fault Memory wants (then_wanted is)

  pub ended_dump : (scripts : List (List Command)) (r : Result Dumped Fault)
      → FinishesDump scripts r → ReadsBy None → ReadsBy (err_of r)
  ended_dump scripts (Ok d) wants is = is
  ended_dump scripts (Err fault) wants is = renamed fault Memory wants (then_wanted is)

  pub ended_mail : (cells cycles : ℕ) (scripts : List (List ℕ)) (r : Result MailRun Fault)
      → FinishesMail cells cycles scripts r → ReadsBy None → ReadsBy (err_of r)
  ended_mail cells cycles scripts (Ok ran) wants is = is
  ended_mail cells cycles scripts (Err fault) wants is =
      renamed fault Memory wants (then_wanted is)

  -- or the tree of a version was too large for a dump
  pub then_small : (d : Dumped) (r : Result Answer Refusal) → IsOfDump d r → ReadsBy None
      → ReadsBy (refusal_of r)
  then_small d (Ok answer) small is = is
  then_small d (Err refusal) small is =
      then_refused refusal.fault (λ file e. let large = small.0 in cc) is

-- the only file
pub read_one : (holds : List ℕ → Option (List ℕ)) (reading : Reading) (name : List ℕ)
    (r : Result (Vec ℕ Global) Fault)
    (limit old_opens new_opens old_calls new_calls old_faults new_faults : ℕ) (old new : Course)
    → AnswersFile reading (holds name) r
    → ((file : ℕ) → IsErrOf r (ReadFault file) → Rose old_faults new_faults)
    → new_opens ≡ next_count old_opens → new_calls ≤ old_calls + limit + 1
    → OnOk r (IsUnbroken old → IsUnbroken new) → (IsUnbroken old → IsOrderly new)
    → ReadsBy holds (Some (asked_of reading name)) limit old_opens new_opens old_calls new_calls
    old_faults new_faults old new (err_of r)
read_one holds reading name r limit old_opens new_opens old_calls new_calls old_faults new_faults
    old new answers read first calls unbroken orderly =
    read_in_turn holds (Some (asked_of reading name)) limit old_opens new_opens old_calls new_calls
    old_faults new_faults old new r 1 1 (file_for reading name)
    (ap (λ (ns : List (List ℕ)). length ns) (name_for reading name)) read
    (λ file one. first ∙ ap (λ (n : ℕ). opened old_opens n)
    (sym (first_file reading (holds name) r file answers one)))
    (1, omega arith, (λ some. omega arith), first) (on_any r first)
    (stop_for holds reading name old_opens new_opens) (omega (arith, calls)) unbroken orderly

-- the files of a run, of whatever report
pub reads_for : (holds : List ℕ → Option (List ℕ)) (report : Report) (run : RunAsked)
    (fault : Option Fault) (limit old_opens new_opens old_calls new_calls old_faults new_faults : ℕ)
    (old new : Course)
    → ReadsBy holds (Some (Run run)) limit old_opens new_opens old_calls new_calls old_faults
    new_faults old new fault
    → ReadsBy holds (Some (asked_for report run)) limit old_opens new_opens old_calls new_calls
    old_faults new_faults old new fault
reads_for holds Replies run fault limit old_opens new_opens old_calls new_calls old_faults
    new_faults old new is = is
reads_for holds Heap run fault limit old_opens new_opens old_calls new_calls old_faults new_faults
    old new is = record {
      read = is.read;
      read_file = is.read_file;
      opens = is.opens;
      all_opened = is.all_opened;
      stops = is.stops;
      calls = is.calls;
      unbroken = is.unbroken;
      orderly = is.orderly;
    }

-- of a request that is known
pub reads_as : (holds : List ℕ → Option (List ℕ)) (asked told : Option Asked)
    (fault : Option Fault) (limit old_opens new_opens old_calls new_calls old_faults new_faults : ℕ)
    (old new : Course) → asked ≡ told
    → ReadsBy holds told limit old_opens new_opens old_calls new_calls old_faults new_faults old new
    fault
    → ReadsBy holds asked limit old_opens new_opens old_calls new_calls old_faults new_faults old
    new fault
reads_as holds asked told fault limit old_opens new_opens old_calls new_calls old_faults new_faults
    old new is reads =
    subst (λ a. ReadsBy holds a limit old_opens new_opens old_calls new_calls old_faults new_faults
    old new fault) (sym is) reads

unbroken_orderly : (course : Course) → IsUnbroken course → IsOrderly course
unbroken_orderly course is = subst (λ (c : Course). IsOrderly c) (sym is) tt

no_less : (a b : ℕ) → a ≤ a + b
no_less a b = omega arith

-- No file was opened.
module _ (holds : List ℕ → Option (List ℕ)) (limit opens calls faults : ℕ) (course : Course) where
  abbrev pub Unread : Option Asked → Option Fault → Type 0
  Unread asked fault = Reads holds asked fault limit opens opens calls calls faults faults course course

  unread_by : (asked : Option Asked) (fault : Fault) → ((file : ℕ) → fault ≡ ReadFault file → ⊥)
      → OpensFiles (status_of (Some fault)) opens opens (files_of asked)
      → Unread asked (Some fault)
  unread_by asked fault other opened_none = record {
    read = λ file one. absurd (other file (same_fault fault (ReadFault file) one));
    read_file = λ file one. absurd (other file (same_fault fault (ReadFault file) one));
    opens = opened_none;
    all_opened = λ none. absurd (cc);
    stops = stops_before holds asked opens;
    calls = no_less calls _;
    unbroken = λ none. absurd (cc);
    orderly = unbroken_orderly course;
  }

  -- since memory was wanting before
  pub unread_wanted : (asked : Option Asked) → Unread asked (Some Memory)
  unread_wanted asked =
      unread_by asked Memory (λ file e. cc) (0, omega arith, (λ other. absurd (other refl)), refl)

  -- since none is named
  pub unread_none : (asked : Option Asked) (fault : Fault)
      → ((file : ℕ) → fault ≡ ReadFault file → ⊥) → files_of asked ≡ 0
      → Unread asked (Some fault)
  unread_none asked fault other none =
      unread_by asked fault other
      (0, omega arith, (λ waits some. absurd (omega (arith, none, some))), refl)

  -- generated scripts name none
  made_fault : (made : GenWords) (fault : Fault) (file : ℕ)
      → ((fault ≡ TooLarge 0) × (MOST_COMMANDS < made.clients * made.commands))
      ⊎ (fault ≡ Memory) → fault ≡ ReadFault file → ⊥
  made_fault made fault file is one = elim is [
    | inl e ↦ let large = e.0 in cc
    | inr e ↦ cc
  ]

  pub unread_made : (made : GenWords) (r : Result Answer Refusal)
      → Decided holds (Some (Gen made)) r → Unread (Some (Gen made)) (refusal_of r)
  unread_made made (Ok answer) is = record {
    read = λ file one. absurd (cc);
    read_file = λ file one. absurd (cc);
    opens = (0, omega arith, (λ other some. omega (arith, some)), refl);
    all_opened = λ none. refl;
    stops = tt;
    calls = no_less calls _;
    unbroken = λ none before. before;
    orderly = unbroken_orderly course;
  }
  unread_made made (Err refusal) is =
      unread_none (Some (Gen made)) refusal.fault
      (λ file one. made_fault made refusal.fault file is.0 one) refl
