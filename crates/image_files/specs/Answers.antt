-- How the answers of this crate's calls relate to the definitions: equal, unless out of memory.
-- Source: this project's own.
use Rattle.std.specs.Prelude.{◌≡◌, ℕ, false, List, Result, Ok, Err}
use Rattle.heap_census.specs.Census.{AddsUp, IsCensus}
use Rattle.heap_census.specs.Flaws.{IsFlawless, IsLeastFlaw}
use Rattle.heap_census.specs.Heap.{is_free}
use Rattle.heap_census.specs.declared.flaws.Flaw.{Flaw}
use Rattle.heap_census.specs.declared.flaws.Flaw.TheVariants as flaw
use Rattle.heap_census.specs.declared.numbers.Census.{Census}
use Rattle.image_files.specs.Contents.{Contents}
use Rattle.image_files.specs.File.{FileView, contents_by, heap_in, line_number}
use Rattle.image_files.specs.Reach.{IsReached}
use Rattle.image_files.specs.declared.fault.ImageError.{ImageError}
use Rattle.image_files.specs.declared.fault.ImageError.TheVariants as error
use Rattle.image_files.specs.declared.fault.ImageFault.{ImageFault}
use Rattle.image_files.specs.declared.fault.ImageKind.{ImageKind}
use Rattle.image_files.specs.declared.fault.ImageKind.TheVariants as kind
use Rattle.image_files.specs.declared.line.CellLine.{CellLine}

-- the answer is a file of these lines
abbrev pub Lists : Result FileView ImageError → Result (List CellLine) ImageFault → Type 0
Lists (Ok file) lines = lines ≡ Ok file.lines
Lists (Err (error.Fault fault)) lines = lines ≡ Err fault
Lists (Err error.NoMemory) lines = Unit {0}

-- the answer is a file of these contents
abbrev pub ListsFile : Result FileView ImageError → Result Contents ImageFault → Type 0
ListsFile (Ok file) contents = contents ≡ Ok (contents_by file)
ListsFile (Err (error.Fault fault)) contents = contents ≡ Err fault
ListsFile (Err error.NoMemory) contents = Unit {0}

-- the fault of a cell with which this is wrong
abbrev pub kind_of : Flaw → ImageKind
kind_of flaw.Blue = kind.Blue
kind_of flaw.BadShape = kind.BadShape

-- the least cell of the heap with which something is wrong has this fault
pub record IsCellFault (f : Contents) (fault : ImageFault) : Type 0 where
  pub cell : ℕ
  pub wrong : Flaw
  pub least : IsLeastFlaw (heap_in f) cell wrong
  pub line : fault.line ≡ line_number f.lines cell
  pub kind : fault.kind ≡ kind_of wrong

-- no line is at fault and no cell, and this is the census of the heap
abbrev pub IsCensusIn : Result Contents ImageFault → Census → Type 0
IsCensusIn (Err fault) census = ⊥
IsCensusIn (Ok f) census =
    IsFlawless (heap_in f) × IsCensus (heap_in f) census × AddsUp census

-- the first faulty line has the fault, or where there is none the least faulty cell
abbrev pub IsFaultIn : Result Contents ImageFault → ImageFault → Type 0
IsFaultIn (Err other) fault = fault ≡ other
IsFaultIn (Ok f) fault = IsCellFault f fault

-- the answer is the census of these contents, or what is at fault in them
abbrev pub ReadsImage : Result Census ImageError → Result Contents ImageFault → Type 0
ReadsImage (Ok census) contents = IsCensusIn contents census
ReadsImage (Err (error.Fault fault)) contents = IsFaultIn contents fault
ReadsImage (Err error.NoMemory) contents = Unit {0}

-- no cell that the anchor leads to is free
abbrev pub IsSafe : Result Contents ImageFault → Type 0
IsSafe (Err fault) = ⊥
IsSafe (Ok f) = (c : ℕ) → IsReached (heap_in f) c → is_free (heap_in f) c ≡ false
