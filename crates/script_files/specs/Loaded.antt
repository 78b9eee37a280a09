-- The dump that a file holds, or the fault that decides.
--
-- A file is looked at for its size first, then for its grammar.
-- Source: this project's own.
use Rattle.std.specs.Prelude.{◌≡◌, ℕ, ◌≤◌, List, length, Option, IfSome, Result, Ok, Err, IsErr}
use Rattle.doc_tree.specs.Tree.{DocTree}
use Rattle.dump_text.specs.Contents.{Contents, contents_of}
use Rattle.dump_text.specs.Laws.{IsDump}
use Rattle.dump_text.specs.Listing.{listed}
use Rattle.dump_text.specs.declared.fault.LoadFault.{LoadFault}
use Rattle.dump_text.specs.declared.loader.Loaded.{Loaded}
use Rattle.script_files.specs.InTurn.{largest_file, within_size}
use Rattle.script_files.specs.Sorts.{OfDumps, Refused, sort_of}
use Rattle.script_files.specs.declared.fault.Fault.{Fault}
use Rattle.script_files.specs.declared.fault.Fault.TheVariants.{Dump, ReadFault}

-- what the reading of a dump gives
abbrev pub after_dump : Result Contents LoadFault → Result Contents Fault
after_dump (Ok contents) = Ok contents
after_dump (Err fault) = Err (Dump fault.line fault.kind)

-- what the bytes of a dump give
abbrev pub dump_in : List ℕ → Result Contents Fault
dump_in bytes = within_size 1 (λ dump. after_dump (contents_of dump)) bytes

-- the contents of some bytes, which are all that the file holds where that is told
abbrev pub IsDumpRead : Option (List ℕ) → Result Contents Fault → Type 0
IsDumpRead told outcome =
    (bytes : List ℕ) × IfSome told (λ all. bytes ≡ all) × (dump_in bytes ≡ outcome)

-- a version and its tree, as a dump has them
abbrev pub contents_by : ℕ → DocTree → Contents
contents_by v t = record { version = v; nodes = listed t }

-- some bytes, which are all that the file holds where that is told, are the dump of this
abbrev pub IsDumpOf : Option (List ℕ) → ℕ → DocTree → Type 0
IsDumpOf told v t = (bytes : List ℕ) × IfSome told (λ all. bytes ≡ all) × IsDump bytes v t

-- the file was read as this version and this tree, of which it is the dump
abbrev pub HoldsDump : Option (List ℕ) → ℕ → DocTree → Type 0
HoldsDump told v t = IsDumpRead told (Ok (contents_by v t)) × IsDumpOf told v t

-- a file within its size that is no dump
abbrev pub IsFaultyDump : List ℕ → Type 0
IsFaultyDump bytes = (length bytes ≤ largest_file) × IsErr (contents_of bytes)

-- a dump within its size
abbrev pub IsDumpFile : List ℕ → Type 0
IsDumpFile bytes = (length bytes ≤ largest_file) × (v : ℕ) × (t : DocTree) × IsDump bytes v t

-- the answer is the version and the tree that the bytes are the dump of, or memory ran out
abbrev pub Loads : Result Loaded Fault → List ℕ → Type 0
Loads (Ok loaded) bytes =
    (dump_in bytes ≡ Ok (contents_by loaded.version loaded.tree))
    × IsDump bytes loaded.version loaded.tree
Loads (Err fault) bytes =
    Refused OfDumps (sort_of fault) ((dump_in bytes ≡ Err fault) × (IsDumpFile bytes → ⊥)) ⊥

-- What is so of a file that was not loaded: it is refused by this fault, and where it is told what
-- it holds, that is no dump; or it could not be read, or memory ran out.
abbrev pub RefusesDump : Option (List ℕ) → Fault → Type 0
RefusesDump told fault =
    Refused OfDumps (sort_of fault)
    (IsDumpRead told (Err fault) × IfSome told (λ bytes. IsDumpFile bytes → ⊥))
    (fault ≡ ReadFault 1)

-- the answer is the version and the tree that the file is the dump of, or why there is none
abbrev pub LoadsFile : Result Loaded Fault → Option (List ℕ) → Type 0
LoadsFile (Ok loaded) told = HoldsDump told loaded.version loaded.tree
LoadsFile (Err fault) told = RefusesDump told fault
