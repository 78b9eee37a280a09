-- The status of a request for one file is that which the file calls for.
use Rattle.std.proofs.Common.{◌≡◌, ◌∙◌, ℕ, ◌<◌, ◌≤◌, List, Option, None, Some, Result, Ok, Err}
use Rattle.std.proofs.Common.{length, inl, inr, refl, ap, subst, rules, arith}
use Rattle.std.specs.Prelude.{◌⊎◌, Bool, true, false, IfSome, if◌then◌else◌, nat_lt}
use Rattle.core_replay.specs.Schedule.{schedule_of}
use Rattle.core_replay.specs.ScheduleValue.{ScheduleValue}
use Rattle.core_replay.specs.declared.fault.ScheduleFault.{ScheduleFault}
use Rattle.script_files.proofs.Images.{refused_none}
use Rattle.script_files.specs.Counted.{IsCensusOf, IsFaultyImage, RefusesBytes}
use Rattle.script_files.specs.Fault.{status_by}
use Rattle.script_files.specs.Loaded.{after_dump, contents_by, dump_in}
use Rattle.script_files.specs.Replayed.{after_schedule, steps_of}
use Rattle.script_files.specs.Sorts.{OfDumps, OfImages, OfSchedules, Refused, Sort, sort_of}
use Rattle.script_files.specs.Sorts.{OfWords, OfLine, OfReading, OfWriting, OfMemory, OfSize}
use Rattle.script_files.specs.declared.fault.Fault.{Fault}
use Rattle.script_files.specs.declared.fault.Fault.TheVariants.{Dump, Image, ReadFault, Schedule}
use Rattle.dump_text.specs.Contents.{Contents, contents_of}
use Rattle.dump_text.specs.declared.fault.LoadFault.{LoadFault}
use Rattle.doc_run.specs.Reading.{Decides, IsAnswerOf, IsFaultyFile, IsFileDue, IsGoodFile}
use Rattle.doc_run.specs.Reading.{grammar_of}
use Rattle.doc_run.specs.declared.reading.Reading.{Reading}
use Rattle.doc_run.specs.declared.reading.Reading.TheVariants.{Schedules, Dumps, Images}
use Rattle.doc_run.proofs.Sizes.{after, fine_read, good_read, line_read, read, size_read}

-- Of schedules and of dumps: how their readings make a fault one of the program.

abbrev of_schedule : ScheduleFault → Fault
of_schedule f = Schedule f.line f.kind

abbrev of_dump : LoadFault → Fault
of_dump f = Dump f.line f.kind

schedule_after : (r : Result ScheduleValue ScheduleFault) → after of_schedule r ≡ after_schedule r
schedule_after (Ok value) = refl
schedule_after (Err f) = refl

dump_after : (r : Result Contents LoadFault) → after of_dump r ≡ after_dump r
dump_after (Ok value) = refl
dump_after (Err f) = refl

within_both : {A : Type 0} (long : Bool) (a b c : A) → a ≡ b
    → (if long then c else a) ≡ (if long then c else b)
within_both true a b c is = refl
within_both false a b c is = is

schedule_read : (bytes : List ℕ) → read of_schedule schedule_of bytes ≡ steps_of bytes
schedule_read bytes =
    within_both (nat_lt 1048576 (length bytes)) _ _ _ (schedule_after (schedule_of bytes))

dump_read : (bytes : List ℕ) → read of_dump contents_of bytes ≡ dump_in bytes
dump_read bytes =
    within_both (nat_lt 1048576 (length bytes)) _ _ _ (dump_after (contents_of bytes))

-- Of a file that is told.

-- what was read of it
steps_told : (bytes : List ℕ) (r : Result ScheduleValue Fault)
    → (b : List ℕ) × (b ≡ bytes) × (steps_of b ≡ r) → read of_schedule schedule_of bytes ≡ r
steps_told bytes r is =
    schedule_read bytes ∙ subst (λ (b : List ℕ). steps_of b ≡ r) is.1 is.2

dump_told : (bytes : List ℕ) (r : Result Contents Fault)
    → (b : List ℕ) × (b ≡ bytes) × (dump_in b ≡ r) → read of_dump contents_of bytes ≡ r
dump_told bytes r is =
    dump_read bytes ∙ subst (λ (b : List ℕ). dump_in b ≡ r) is.1 is.2

bytes_told : (bytes : List ℕ) (fault : Fault)
    → (b : List ℕ) × (b ≡ bytes) × RefusesBytes b fault → RefusesBytes bytes fault
bytes_told bytes fault is = subst (λ (b : List ℕ). RefusesBytes b fault) is.1 is.2

image_line : (bytes : List ℕ) (fault : Fault) → RefusesBytes bytes fault
    → sort_of fault ≡ OfLine OfImages → IsFaultyImage bytes
image_line bytes fault is line = elim is [
  | inl long ↦
      let size : sort_of fault ≡ OfSize = ap sort_of long.1 in
      absurd (cc)
  | inr wrong ↦ (wrong.0, wrong.2)
]

image_size : (bytes : List ℕ) (fault : Fault) → RefusesBytes bytes fault
    → sort_of fault ≡ OfSize → 1048576 < length bytes
image_size bytes fault is size = elim is [
  | inl long ↦ long.0
  | inr wrong ↦
      let line : sort_of fault ≡ OfLine OfImages = ap sort_of wrong.1 in
      absurd (cc)
]

-- the fault of a line
decides_line : (reading : Reading) (bytes : List ℕ) (fault : Fault)
    → Decides reading (Some bytes) fault → sort_of fault ≡ OfLine (grammar_of reading)
    → IsFaultyFile reading bytes
decides_line Schedules bytes fault is line =
    line_read of_schedule schedule_of OfSchedules (λ f. refl) bytes fault
    (steps_told bytes (Err fault) is) line
decides_line Dumps bytes fault is line =
    line_read of_dump contents_of OfDumps (λ f. refl) bytes fault
    (dump_told bytes (Err fault) is.0) line
decides_line Images bytes fault is line =
    image_line bytes fault (bytes_told bytes fault is) line

-- the fault of a size
decides_size : (reading : Reading) (bytes : List ℕ) (fault : Fault)
    → Decides reading (Some bytes) fault → sort_of fault ≡ OfSize → 1048576 < length bytes
decides_size Schedules bytes fault is size =
    size_read of_schedule schedule_of OfSchedules (λ f. refl) bytes fault
    (steps_told bytes (Err fault) is) size
decides_size Dumps bytes fault is size =
    size_read of_dump contents_of OfDumps (λ f. refl) bytes fault
    (dump_told bytes (Err fault) is.0) size
decides_size Images bytes fault is size =
    image_size bytes fault (bytes_told bytes fault is) size

-- what is refused is not as it is read
decides_good : (reading : Reading) (bytes : List ℕ) (fault : Fault)
    → Decides reading (Some bytes) fault → IsGoodFile reading bytes → ⊥
decides_good Schedules bytes fault is good =
    fine_read of_schedule schedule_of bytes fault good.0 good.1 (steps_told bytes (Err fault) is)
decides_good Dumps bytes fault is good = is.1 good
decides_good Images bytes fault is good =
    refused_none bytes fault (bytes_told bytes fault is) good

faulty_short : (reading : Reading) (bytes : List ℕ) → IsFaultyFile reading bytes
    → length bytes ≤ 1048576
faulty_short Schedules bytes is = is.0
faulty_short Dumps bytes is = is.0
faulty_short Images bytes is = is.1.short

-- what is answered is within its size, and not faulty
answer_good : (reading : Reading) (bytes text : List ℕ) → IsAnswerOf reading (Some bytes) text
    → (length bytes ≤ 1048576) × (IsFaultyFile reading bytes → ⊥)
answer_good Schedules bytes text is =
    let good = good_read of_schedule schedule_of bytes is.0 (steps_told bytes (Ok is.0) is.1) in
    (good.0, (λ wrong. good.1 wrong.1))
answer_good Dumps bytes text is =
    let contents = contents_by is.0 is.1 in
    let good = good_read of_dump contents_of bytes contents
    (dump_told bytes (Ok contents) is.2.0) in
    (good.0, (λ wrong. good.1 wrong.1))
answer_good Images bytes text is =
    let held = is.1 in
    let of_bytes = subst (λ (b : List ℕ). IsCensusOf b is.0) held.1 held.2 in (
      of_bytes.short,
      (λ wrong. refused_none bytes (Image wrong.0.line wrong.0.kind)
          (inr (wrong.0, refl, wrong.1)) (is.0, of_bytes)),
    )

-- The status by the sort of the fault.

-- it was answered, wholly or as far as the device took it
answered : (reading : Reading) (bytes text : List ℕ) (status : ℕ)
    → (status ≡ 0) ⊎ (status ≡ 4) → IsAnswerOf reading (Some bytes) text
    → IsFileDue reading bytes status
answered reading bytes text status ends is =
    let good = answer_good reading bytes text is in
    let short = good.0 in
    record {
      faulty = (
        (λ two. absurd (elim ends [
          | inl e ↦ omega (arith, two, e)
          | inr e ↦ omega (arith, two, e)
        ])),
        (λ facts. absurd (good.1 facts.1)),
      );
      large = (
        (λ six. absurd (elim ends [
          | inl e ↦ omega (arith, six, e)
          | inr e ↦ omega (arith, six, e)
        ])),
        (λ facts. let long = facts.1 in absurd (omega (arith, long, short))),
      );
      complete = λ fine. elim ends [ inl e ↦ inl e | inr e ↦ inr (inr (inl e)) ];
    }

-- it could not be read
unread : (reading : Reading) (bytes : List ℕ) → IsFileDue reading bytes 3
unread reading bytes = record {
  faulty = ((λ two. absurd (omega (arith, two))), (λ facts. absurd (facts.0.0 refl)));
  large = ((λ six. absurd (omega (arith, six))), (λ facts. absurd (facts.0.0 refl)));
  complete = λ good. inr (inl refl);
}

-- memory was wanting
wanting : (reading : Reading) (bytes : List ℕ) (status : ℕ) → status ≡ 5
    → IsFileDue reading bytes status
wanting reading bytes status is = record {
  faulty = ((λ two. absurd (omega (arith, is, two))), (λ facts. absurd (facts.0.1 is)));
  large = ((λ six. absurd (omega (arith, is, six))), (λ facts. absurd (facts.0.1 is)));
  complete = λ good. inr (inr (inr is));
}

refused_sort : (reading : Reading) (bytes : List ℕ) (fault : Fault) (sort : Sort)
    → sort_of fault ≡ sort
    → Refused (grammar_of reading) sort (Decides reading (Some bytes) fault) (fault ≡ ReadFault 1)
    → IsFileDue reading bytes (status_by sort)
refused_sort reading bytes fault OfWords same is = absurd is
refused_sort reading bytes fault (OfLine grammar) same is =
    let faulty = decides_line reading bytes fault is.1 (same ∙ ap OfLine is.0) in
    let short = faulty_short reading bytes faulty in
    record {
      faulty = ((λ two. (search rules, faulty)), (λ facts. refl));
      large = (
        (λ six. absurd (omega (arith, six))),
        (λ facts. let long = facts.1 in absurd (omega (arith, long, short))),
      );
      complete = λ good. absurd (decides_good reading bytes fault is.1 good);
    }
refused_sort reading bytes fault OfReading same is = unread reading bytes
refused_sort reading bytes fault OfWriting same is = absurd is
refused_sort reading bytes fault OfMemory same is = wanting reading bytes 5 refl
refused_sort reading bytes fault OfSize same is =
    let long = decides_size reading bytes fault is same in
    record {
      faulty = (
        (λ two. absurd (omega (arith, two))),
        (λ facts. let short = faulty_short reading bytes facts.1 in
            absurd (omega (arith, long, short))),
      );
      large = ((λ six. (search rules, long)), (λ facts. refl));
      complete = λ good. absurd (decides_good reading bytes fault is good);
    }

-- Of a file that is told or not.

-- it was answered, wholly or as far as the device took it
pub file_answered : (reading : Reading) (told : Option (List ℕ)) (text : List ℕ) (status : ℕ)
    → (status ≡ 0) ⊎ (status ≡ 4) → IsAnswerOf reading told text
    → IfSome told (λ bytes. IsFileDue reading bytes status)
file_answered reading None text status ends is = tt
file_answered reading (Some bytes) text status ends is =
    answered reading bytes text status ends is

-- it was refused, or could not be read, or memory was wanting
pub file_refused : (reading : Reading) (told : Option (List ℕ)) (fault : Fault)
    → Refused (grammar_of reading) (sort_of fault) (Decides reading told fault)
    (fault ≡ ReadFault 1)
    → IfSome told (λ bytes. IsFileDue reading bytes (status_by (sort_of fault)))
file_refused reading None fault is = tt
file_refused reading (Some bytes) fault is =
    refused_sort reading bytes fault (sort_of fault) refl is

-- memory was wanting
pub file_wanted : (reading : Reading) (told : Option (List ℕ)) (status : ℕ) → status ≡ 5
    → IfSome told (λ bytes. IsFileDue reading bytes status)
file_wanted reading None status is = tt
file_wanted reading (Some bytes) status is = wanting reading bytes status is
