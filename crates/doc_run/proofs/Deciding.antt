-- How each request is decided: the answer that it comes to, or the fault that it is refused by.
use Rattle.std.proofs.Common.{◌≡◌, ℕ, ◌*◌, ◌≤◌, ◌<◌, List, Option, None, Some, Result, Ok, Err}
use Rattle.std.proofs.Common.{OnOk, inl, inr, map, refl, subst, sym}
use Rattle.std.specs.Prelude.{IsNone, IsSome, IsSomeAnd, Vec}
use Rattle.std.specs.declared.alloc.Global.{Global}
use Rattle.client_run.specs.declared.options.Options.{Options}
use Rattle.cmd_text.specs.declared.form.Form.{Form}
use Rattle.doc_export.specs.declared.dumped.Dumped.{Dumped}
use Rattle.doc_model.specs.declared.command.Command.{Command}
use Rattle.command_line.specs.Requests.{Asked, Dump, Gen, Mail, MailAsked, RunAsked}
use Rattle.command_line.specs.declared.request.GenWords.{GenWords}
use Rattle.run_limits.specs.declared.TheConstants.{MOST_COMMANDS}
use Rattle.script_files.specs.Formed.{AreRead}
use Rattle.script_files.specs.Mail.{IsMail}
use Rattle.script_files.specs.Scripts.{AreScripts}
use Rattle.script_files.specs.Sorts.{OfMail, OfScripts, Refused, sort_of}
use Rattle.script_files.specs.declared.fault.Fault.{Fault}
use Rattle.script_files.specs.declared.fault.Fault.TheVariants.{Memory, ReadFault, TooLarge}
use Rattle.store_run.specs.declared.finished.Finished.{Finished}
use Rattle.doc_run.specs.Answers.{Answers, AnswersMade, Decided, IsOfDump, IsRefusedBy, bytes_of}
use Rattle.doc_run.specs.Clients.{DecidesRun, FinishesWith, IsMade, IsRunGiven, IsRunOf}
use Rattle.doc_run.specs.Clients.{IsRunWithForms, default_options, options_of}
use Rattle.doc_run.specs.Guested.{AreFewScripts, IsDumpRunGiven}
use Rattle.doc_run.specs.Made.{IsSummaryOf, printed_of}
use Rattle.doc_run.specs.Reading.{Decides, IsAnswerOf, grammar_of}
use Rattle.doc_run.specs.Replies.{AreReplies, shown_of}
use Rattle.doc_run.specs.Reports.{Tells}
use Rattle.doc_run.specs.Request.{asked_for, asked_of}
use Rattle.doc_run.specs.declared.answer.Answer.{Answer}
use Rattle.doc_run.specs.declared.answer.Answer.TheVariants as came
use Rattle.doc_run.specs.declared.answer.Refusal.{Refusal}
use Rattle.doc_run.specs.declared.clients.Ran.{Ran}
use Rattle.doc_run.specs.declared.reading.Reading.{Reading}
use Rattle.doc_run.specs.declared.reading.Reading.TheVariants.{Schedules, Dumps, Images}
use Rattle.doc_run.specs.declared.report.Report.{Report}
use Rattle.doc_run.specs.declared.report.Report.TheVariants.{Replies, Heap}

-- A run of scripts that are given comes to what they come to, or memory is wanting.

pub decided : (told : List (Option (List ℕ))) (o p : Options) (scripts : List (List Command))
    (forms : List Form) (r : Result Ran Fault) → AreRead told scripts forms → p ≡ o
    → FinishesWith p scripts forms r → DecidesRun told o r
decided told o p scripts forms (Ok ran) given same comes = (
  scripts,
  subst (AreRead told scripts) (sym comes.1) given,
  subst (λ (x : Options). IsRunOf x scripts ran.finished) same comes.0,
)
decided told o p scripts forms (Err fault) given same wants =
    subst (λ (x : Fault). DecidesRun told o (Err x)) (sym wants) tt

-- and it comes to that by the scripts alone
pub comes_by : (told : List (Option (List ℕ))) (o : Options) (f : Finished) (forms : List Form)
    → IsRunWithForms told o f forms → IsRunGiven (AreScripts told) o f
comes_by told o f forms is = (is.0, (is.1.0, is.1.1, is.1.2), is.2)

-- the replies that are told of it
pub replied : (told : List (Option (List ℕ))) (run : RunAsked) (f : Finished) (forms : List Form)
    (text : List ℕ) → IsRunWithForms told (options_of run) f forms
    → Tells Replies (shown_of run) f forms text → AreReplies told run f text
replied told run f forms text is tells = record {
  scripts = is.0;
  forms = forms;
  read = is.1;
  trees = is.2.heap.ended.shows.kept.trees;
  answered = is.2.answered;
  output = tells;
}

-- what stands behind the reading of all scripts stands wherever the run comes to an end
pub on_ok : {X : Type 0} (r : Result Ran Fault) → X → OnOk r X
on_ok (Ok ran) fact = fact
on_ok (Err fault) fact = tt

-- By the request.

module _ (holds : List ℕ → Option (List ℕ)) where
  -- a refusal by this fault, with nothing that a run came to
  pub refused_by : (asked : Option Asked) (refusal : Refusal) (fault : Fault)
      → refusal.fault ≡ fault → refusal.dumped ≡ None → IsRefusedBy holds asked None fault
      → Decided holds asked (Err refusal)
  refused_by asked refusal fault is none by =
      subst (λ (f : Fault). IsRefusedBy holds asked refusal.dumped f) (sym is)
      (subst (λ (o : Option Dumped). IsRefusedBy holds asked o fault) (sym none) by)

  -- scripts of files
  pub scripts_answer : (report : Report) (run : RunAsked) (f : Finished) (forms : List Form)
      (text : Vec ℕ Global) → IsRunWithForms (map holds run.files) (options_of run) f forms
      → Tells report (shown_of run) f forms text.items
      → Answers holds (Some (asked_for report run)) (came.Ran text f)
  scripts_answer Replies run f forms text is tells = (
    comes_by (map holds run.files) (options_of run) f forms is,
    replied (map holds run.files) run f forms text.items is tells,
  )
  scripts_answer Heap run f forms text is tells =
      (comes_by (map holds run.files) (options_of run) f forms is, tells)

  pub scripts_refuse : (report : Report) (run : RunAsked) (fault : Fault)
      → Refused OfScripts (sort_of fault) (AreScripts (map holds run.files) (Err fault)) (Unit {0})
      → IsRefusedBy holds (Some (asked_for report run)) None fault
  scripts_refuse Replies run fault is = (is, refl)
  scripts_refuse Heap run fault is = (is, refl)

  -- one file
  pub file_answers : (reading : Reading) (name : List ℕ) (text : Vec ℕ Global)
      → IsAnswerOf reading (holds name) text.items
      → Answers holds (Some (asked_of reading name)) (came.Text text)
  file_answers Schedules name text is = is
  file_answers Dumps name text is = is
  file_answers Images name text is = is

  pub file_refuses : (reading : Reading) (name : List ℕ) (fault : Fault)
      → Refused (grammar_of reading) (sort_of fault) (Decides reading (holds name) fault)
      (fault ≡ ReadFault 1) → IsRefusedBy holds (Some (asked_of reading name)) None fault
  file_refuses Schedules name fault is = (is, refl)
  file_refuses Dumps name fault is = (is, refl)
  file_refuses Images name fault is = (is, refl)

  -- scripts of files with a dump
  some_text : (found : Option (Vec ℕ Global)) → IsSome found
      → IsSomeAnd found (λ bytes. bytes_of found ≡ bytes.items)
  some_text None is = absurd (cc)
  some_text (Some bytes) is = refl

  pub dump_decided : (names : List (List ℕ)) (d : Dumped) (r : Result Answer Refusal)
      → IsDumpRunGiven (map holds names) d → IsOfDump d r → Decided holds (Some (Dump names)) r
  dump_decided names d (Ok answer) comes is =
      subst (λ a. Answers holds (Some (Dump names)) a) (sym is.0)
      (comes, some_text d.bytes is.1)
  dump_decided names d (Err refusal) comes is = inr (
    is.0,
    subst (λ (o : Option Dumped). IsSomeAnd o (λ x. IsDumpRunGiven (map holds names) x
        × IsNone x.bytes)) (sym is.1) (comes, is.2),
  )

  pub dump_refuses : (names : List (List ℕ)) (fault : Fault)
      → Refused OfScripts (sort_of fault) (AreFewScripts (map holds names) (Err fault)) (Unit {0})
      → IsRefusedBy holds (Some (Dump names)) None fault
  dump_refuses names fault is = inl (is, refl)

  -- generated scripts
  pub made_ran : (made : GenWords) (text : Vec ℕ Global) (f : Finished)
      → made.clients * made.commands ≤ MOST_COMMANDS → made.print ≡ None
      → IsRunGiven (IsMade made) default_options f → IsSummaryOf made f text.items
      → Answers holds (Some (Gen made)) (came.Ran text f)
  made_ran made text f few none comes said = (
    few,
    subst (λ (p : Option ℕ). AnswersMade made p (came.Ran text f)) (sym none) (comes, said),
  )

  pub made_printed : (made : GenWords) (client : ℕ) (text : Vec ℕ Global)
      → made.clients * made.commands ≤ MOST_COMMANDS → made.print ≡ Some client
      → text.items ≡ printed_of made client → Answers holds (Some (Gen made)) (came.Text text)
  made_printed made client text few one is = (
    few,
    subst (λ (p : Option ℕ). AnswersMade made p (came.Text text)) (sym one) is,
  )

  pub made_wants : (made : GenWords) → IsRefusedBy holds (Some (Gen made)) None Memory
  made_wants made = (inr refl, refl)

  pub made_large : (made : GenWords) → MOST_COMMANDS < made.clients * made.commands
      → IsRefusedBy holds (Some (Gen made)) None (TooLarge 0)
  made_large made many = (inl (refl, many), refl)

  -- a mailbox
  pub mail_refuses : (mail : MailAsked) (fault : Fault)
      → Refused OfMail (sort_of fault) (IsMail (map holds mail.files) (Err fault)) (Unit {0})
      → IsRefusedBy holds (Some (Mail mail)) None fault
  mail_refuses mail fault is = (is, refl)
