-- What is promised of a run of the whole program: five sentences, each a record of facts by name. A
-- sixth, which status is due, is a line a request (Due).
--
-- In front of each stands what it speaks of: what the files hold, where the shelf tells it, what
-- the words ask for, and what was handed back. What a shelf or a sink shows is `old` before the run
-- and `new` after it. Where the shelf does not tell what a file holds, the facts are of some bytes
-- that it may have held.
-- Source: this project's own.
use Rattle.std.specs.Prelude.{◌≡◌, ◌≢◌, ℕ, ◌+◌, ◌*◌, ◌≤◌, ◌⊎◌, ◌↔◌, List, Option, Some, IsNone}
use Rattle.std.specs.Prelude.{IsSomeAnd, length, map}
use Rattle.outside.specs.Calls.{IsUnbroken, IsOrderly}
use Rattle.outside.specs.Causes.{Rose}
use Rattle.outside.specs.Pieces.{AppendsPart}
use Rattle.outside.specs.declared.course.Course.{Course}
use Rattle.command_line.specs.Requests.{Asked}
use Rattle.script_files.specs.Files.{opened}
use Rattle.script_files.specs.declared.fault.Fault.{Fault}
use Rattle.script_files.specs.declared.fault.Fault.TheVariants.{ReadFault}
use Rattle.doc_run.specs.Answers.{Answers, HandsBack, IsRefusedBy, text_of}
use Rattle.doc_run.specs.Reads.{OpensFiles, StopsOf}
use Rattle.doc_run.specs.Replies.{AreReplies}
use Rattle.doc_run.specs.Request.{IfRun, files_of, names_of}
use Rattle.doc_run.specs.declared.answer.Answer.{Answer}
use Rattle.doc_run.specs.declared.outcome.Outcome.{Outcome}

-- the run was refused: for its words, its files or the reading of them
abbrev pub IsRefusal : ℕ → Type 0
IsRefusal status = (status ≡ 1) ⊎ (status ≡ 2) ⊎ (status ≡ 3) ⊎ (status ≡ 6)

module _ (holds : List ℕ → Option (List ℕ)) (asked : Option Asked) (result : Outcome) where
  -- What the request came to is handed back, and of its text was written what the relation says:
  -- all of it, or a front of it.
  pub record Completed (Wrote : List ℕ → Type 0) : Type 0 where
    -- the replies of the clients of the files' scripts
    pub done : IfRun asked (λ run. IsSomeAnd result.finished (λ f.
        (text : List ℕ) × AreReplies (map holds run.files) run f text × Wrote text))
    -- all that the request came to, by its own line
    pub answer : Answer
    pub comes : Answers holds asked answer
    pub handed : HandsBack answer result
    pub wrote : Wrote (text_of answer)

  -- what is refused, and why
  pub record Refusals : Type 0 where
    -- faulty words, and no others
    pub usage : (result.status ≡ 1) ↔ ((result.status ≢ 5) × IsNone asked)
    -- each request by its own line, and a version that is too large for a dump after its run
    pub refused : IsRefusal result.status → (fault : Fault) → result.fault ≡ Some fault
        → IsRefusedBy holds asked result.dumped fault

  -- how much was written of a request that was not done
  pub record Written (old new : Option (List ℕ)) : Type 0 where
    -- where a write failed, a front of the text of what it came to
    pub front : result.status ≡ 4 → Completed (AppendsPart old new)
    -- where memory was wanting, nothing or a front of such a text
    pub memory_part : result.status ≡ 5 → (new ≡ old)
        ⊎ ((answer : Answer) × Answers holds asked answer × AppendsPart old new (text_of answer))
    -- where it was refused, nothing
    pub unwritten : IsRefusal result.status → new ≡ old

  -- Which calls are made of a shelf and a sink. The limit is how many bytes of a file are taken at
  -- most.
  pub record Calls (limit old_opens new_opens old_calls new_calls : ℕ)
      (old_shelf new_shelf old_sink new_sink : Course) : Type 0 where
    -- where no call had failed, none has at status 0
    pub unbroken_shelf : result.status ≡ 0 → IsUnbroken old_shelf → IsUnbroken new_shelf
    pub unbroken_sink : result.status ≡ 0 → IsUnbroken old_sink → IsUnbroken new_sink
    -- and none is made after one that fails
    pub orderly_shelf : IsUnbroken old_shelf → IsOrderly new_shelf
    pub orderly_sink : IsUnbroken old_sink → IsOrderly new_sink
    -- a file is opened once at most, and too many files are not opened at all
    pub opens : OpensFiles result.status old_opens new_opens (files_of asked)
    -- at status 0 all are
    pub all_opened : result.status ≡ 0 → new_opens ≡ opened old_opens (length (names_of asked))
    -- none is opened after one that is refused
    pub stops : StopsOf holds asked old_opens new_opens
    -- each further call of a file but the last takes at least a byte of it
    pub calls : new_calls ≤ old_calls + files_of asked * (limit + 1)

-- why a status other than those of refusals comes: a device failed, or memory was wanting
pub record Failures (result : Outcome) (old_opens new_opens : ℕ)
    (old_read_faults new_read_faults : ℕ) (old_written new_written : Option (List ℕ))
    (old_write_faults new_write_faults old_wants new_wants : ℕ) : Type 0 where
  -- a file could not be read
  pub read : result.status ≡ 3 → Rose old_read_faults new_read_faults
  -- it is the last one that was opened
  pub read_file : (file : ℕ) → result.fault ≡ Some (ReadFault file)
      → new_opens ≡ opened old_opens file
  -- output could not be written
  pub write : result.status ≡ 4 → Rose old_write_faults new_write_faults
  -- memory was wanting, before anything was written or in the sink
  pub memory : result.status ≡ 5 → (new_written ≡ old_written) ⊎ Rose old_wants new_wants
