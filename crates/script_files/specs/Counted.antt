-- The census of the heap that a file shows, or the fault that decides.
--
-- A file is looked at for its size first, then for its lines, and then for the cells of its heap.
-- Source: this project's own.
use Rattle.std.specs.Prelude.{◌≡◌, ℕ, ◌<◌, ◌≤◌, ◌⊎◌, List, length, Option, IfSome, Result, Ok, Err}
use Rattle.heap_census.specs.declared.numbers.Census.{Census}
use Rattle.image_files.specs.Answers.{IsCensusIn, IsFaultIn, IsSafe}
use Rattle.image_files.specs.Contents.{contents_of}
use Rattle.image_files.specs.declared.fault.ImageFault.{ImageFault}
use Rattle.script_files.specs.InTurn.{largest_file}
use Rattle.script_files.specs.Sorts.{OfImages, Refused, sort_of}
use Rattle.script_files.specs.declared.fault.Fault.{Fault}
use Rattle.script_files.specs.declared.fault.Fault.TheVariants.{Image, ReadFault, TooLarge}

-- bytes within their size show a heap with this census, whose anchor leads to cells in use alone
pub record IsCensusOf (bytes : List ℕ) (census : Census) : Type 0 where
  pub short : length bytes ≤ largest_file
  pub is : IsCensusIn (contents_of bytes) census
  pub safe : IsSafe (contents_of bytes)

-- bytes within their size have this fault in their lines, or in the cells that they show
pub record IsImageFault (bytes : List ℕ) (fault : ImageFault) : Type 0 where
  pub short : length bytes ≤ largest_file
  pub is : IsFaultIn (contents_of bytes) fault

-- a heap file within its size
abbrev pub IsImageFile : List ℕ → Type 0
IsImageFile bytes = (census : Census) × IsCensusOf bytes census

-- a file within its size that is none
abbrev pub IsFaultyImage : List ℕ → Type 0
IsFaultyImage bytes = (fault : ImageFault) × IsImageFault bytes fault

-- bytes have this fault: there are too many of them, or they are none of a heap file
abbrev pub RefusesBytes : List ℕ → Fault → Type 0
RefusesBytes bytes fault =
    ((largest_file < length bytes) × (fault ≡ TooLarge 1))
    ⊎ ((of_image : ImageFault) × (fault ≡ Image of_image.line of_image.kind)
    × IsImageFault bytes of_image)

-- the answer is the census of the heap that the bytes show, or memory ran out
abbrev pub Counts : Result Census Fault → List ℕ → Type 0
Counts (Ok census) bytes = IsCensusOf bytes census
Counts (Err fault) bytes = Refused OfImages (sort_of fault) (RefusesBytes bytes fault) ⊥

-- it is so of some bytes, which are all that the file holds where that is told
abbrev pub OfBytes : Option (List ℕ) → (List ℕ → Type 0) → Type 0
OfBytes told Is = (bytes : List ℕ) × IfSome told (λ all. bytes ≡ all) × Is bytes

-- the file shows a heap with this census
abbrev pub HoldsImage : Option (List ℕ) → Census → Type 0
HoldsImage told census = OfBytes told (λ bytes. IsCensusOf bytes census)

-- What is so of a file without a census: it is refused by this fault, or it could not be read, or
-- memory ran out.
abbrev pub RefusesImage : Option (List ℕ) → Fault → Type 0
RefusesImage told fault =
    Refused OfImages (sort_of fault) (OfBytes told (λ bytes. RefusesBytes bytes fault))
    (fault ≡ ReadFault 1)

-- the answer is the census of the heap that the file shows, or why there is none
abbrev pub CountsFile : Result Census Fault → Option (List ℕ) → Type 0
CountsFile (Ok census) told = HoldsImage told census
CountsFile (Err fault) told = RefusesImage told fault
