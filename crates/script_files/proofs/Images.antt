-- The bytes that were read decide a census as the whole file does.
use Rattle.std.proofs.Common.{◌≡◌, ℕ, ◌<◌, ◌≤◌, List, Option, None, Some, Result, Ok, Err, inl, inr}
use Rattle.std.proofs.Common.{length, take, refl, ap, subst, ◌∙◌, arith}
use Rattle.std.proofs.lemmas.List.{length-take}
use Rattle.outside.specs.Pieces.{IsFrontOf}
use Rattle.heap_census.specs.declared.numbers.Census.{Census}
use Rattle.image_files.specs.Contents.{contents_of}
use Rattle.image_files.proofs.Safety.{fault_excludes}
use Rattle.script_files.specs.Counted.{Counts, CountsFile, IsImageFile}
use Rattle.script_files.specs.Counted.{OfBytes, RefusesBytes}
use Rattle.script_files.specs.Sorts.{OfImages, sort_of}
use Rattle.script_files.specs.declared.fault.Fault.{Fault}
use Rattle.script_files.proofs.Sessions.{all_read}
use Rattle.script_files.proofs.Sorting.{refused_as}

-- a file of which not too much was read was read whole
read_whole : (all front : List ℕ) → front ≡ take 1048577 all → length front ≤ 1048576
    → front ≡ all
read_whole all front read short =
    read ∙ all_read 1048576 all (subst (λ (f : List ℕ). length f ≤ 1048576) read short)

refused_file : (told : Option (List ℕ)) (front : List ℕ) (fault : Fault)
    → IsFrontOf told 1048577 front → RefusesBytes front fault
    → OfBytes told (λ bytes. RefusesBytes bytes fault)
refused_file None front fault read is = (front, tt, is)
refused_file (Some all) front fault read is = elim is [
  | inl long ↦
      let more : 1048576 < length all =
      omega (arith, long.0, ap length read, length-take 1048577 all) in
      (all, refl, inl (more, long.1))
  | inr wrong ↦ (front, read_whole all front read wrong.2.short, inr wrong)
]

pub counted_file : (told : Option (List ℕ)) (front : List ℕ) (answer : Result Census Fault)
    → IsFrontOf told 1048577 front → Counts answer front → CountsFile answer told
counted_file None front (Ok census) read is = (front, tt, is)
counted_file (Some all) front (Ok census) read is =
    (front, read_whole all front read is.short, is)
counted_file told front (Err fault) read is =
    refused_as OfImages (sort_of fault) _ _ _ _ (refused_file told front fault read)
    (λ never. absurd never) is

-- what is refused is no heap file
pub refused_none : (bytes : List ℕ) (fault : Fault) → RefusesBytes bytes fault
    → IsImageFile bytes → ⊥
refused_none bytes fault is good = elim is [
  | inl long ↦ omega (arith, long.0, good.1.short)
  | inr wrong ↦ fault_excludes (contents_of bytes) wrong.0 good.0 wrong.2.is good.1.is
]
