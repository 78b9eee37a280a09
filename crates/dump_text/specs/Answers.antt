-- How the answers of this crate's calls relate to the definitions: equal, unless out of memory.
-- Source: this project's own.
use Rattle.std.specs.Prelude.{◌≡◌, ℕ, ◌≤◌, List, [], Result, Ok, Err, Option, Some, None}
use Rattle.doc_tree.specs.declared.edit.EditFault.{EditFault}
use Rattle.doc_tree.specs.declared.edit.EditFault.TheVariants as edit
use Rattle.doc_tree.specs.Lawful.{IsLawful}
use Rattle.doc_tree.specs.Tree.{DocTree, count}
use Rattle.dump_text.specs.declared.grow.TheConstants.{MOST_NODES}
use Rattle.dump_text.specs.Contents.{Contents}
use Rattle.dump_text.specs.Listing.{Listed, listed}
use Rattle.dump_text.specs.declared.fault.LineError.{LineError}
use Rattle.dump_text.specs.declared.fault.LineError.TheVariants as line
use Rattle.dump_text.specs.declared.fault.LoadError.{LoadError}
use Rattle.dump_text.specs.declared.fault.LoadError.TheVariants as load
use Rattle.dump_text.specs.declared.fault.LoadFault.{LoadFault}
use Rattle.dump_text.specs.declared.fault.LoadKind.{LoadKind}
use Rattle.dump_text.specs.declared.fault.LoadKind.TheVariants.{Many}
use Rattle.dump_text.specs.Order.{Path, last_path}
use Rattle.dump_text.specs.declared.grow.Turn.{Turn}
use Rattle.dump_text.specs.declared.grow.Turn.TheVariants as turns
use Rattle.dump_text.specs.declared.loader.Loaded.{Loaded}

-- the answer is this reading of a line
abbrev pub Gives : {A : Type 0} → Result A LineError → Result A LoadKind → Type 0
Gives (Ok part) reading = reading ≡ Ok part
Gives (Err (line.Kind kind)) reading = reading ≡ Err kind
Gives (Err line.NoMemory) reading = Unit {0}

-- how a node in its order is refused
abbrev pub refused : EditFault → LineError
refused edit.Absent = line.Kind Many
refused edit.Many = line.Kind Many
refused edit.Deep = line.Kind Many
refused edit.Big = line.Kind Many
refused edit.NoMemory = line.NoMemory

-- an error in the line with this number
abbrev pub error_in : ℕ → LineError → LoadError
error_in number (line.Kind kind) = load.Fault (record { line = number; kind = kind })
error_in number line.NoMemory = load.NoMemory

-- the names on the way to the last node
abbrev pub names_in : Option Path → Path
names_in None = []
names_in (Some path) = path

-- the lines so far are those of a tree that a dump may begin with, and this is the last path
pub record IsGrown (path : Path) (t : DocTree) : Type 0 where
  pub lawful : IsLawful t
  pub few : count t ≤ MOST_NODES
  pub last : path ≡ last_path (listed t)

-- the answer is the tree of these nodes, the last of which is at this path
abbrev pub Grows : Path → Result DocTree LineError → Result (Option (List Listed)) LoadKind
    → Type 0
Grows path (Ok tree) nodes = (nodes ≡ Ok (Some (listed tree))) × IsGrown path tree
Grows path (Err (line.Kind kind)) nodes = nodes ≡ Err kind
Grows path (Err line.NoMemory) nodes = Unit {0}

-- the same of a line, at the end of the nodes too
abbrev pub Turns : Result Turn LineError → Result (Option (List Listed)) LoadKind → Type 0
Turns (Ok turns.End) nodes = nodes ≡ Ok None
Turns (Ok (turns.Grown path tree)) nodes =
    (nodes ≡ Ok (Some (listed tree))) × IsGrown path tree
Turns (Err (line.Kind kind)) nodes = nodes ≡ Err kind
Turns (Err line.NoMemory) nodes = Unit {0}

-- the answer is the tree of these nodes
abbrev pub Lists : Result DocTree LoadError → Result (List Listed) LoadFault → Type 0
Lists (Ok tree) nodes = nodes ≡ Ok (listed tree)
Lists (Err (load.Fault fault)) nodes = nodes ≡ Err fault
Lists (Err load.NoMemory) nodes = Unit {0}

-- the answer is the version and the tree of these contents
abbrev pub Reads : Result Loaded LoadError → Result Contents LoadFault → Type 0
Reads (Ok loaded) contents =
    contents ≡ Ok (record { version = loaded.version; nodes = listed loaded.tree })
Reads (Err (load.Fault fault)) contents = contents ≡ Err fault
Reads (Err load.NoMemory) contents = Unit {0}

-- the answer is this version and this tree
abbrev pub IsLoaded : Result Loaded LoadError → ℕ → DocTree → Type 0
IsLoaded (Ok loaded) v t = (loaded.version ≡ v) × (loaded.tree ≡ t)
IsLoaded (Err (load.Fault fault)) v t = ⊥
IsLoaded (Err load.NoMemory) v t = Unit {0}
