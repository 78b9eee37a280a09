-- What a text holds that may be a dump: the number and the nodes, or the first faulty line.
--
-- The head is line 1 and the root's line 2: the line after N nodes is line N + 2, and what comes
-- after the end is line N + 3. A line is looked at after the nodes before it, where no line is at
-- fault among those.
-- The lines before a line are a list here, as in FORMATS; `load` keeps a tree and the last path.
-- That both give the same is proved (proofs/Edges, proofs/Growth).
-- Source: this project's own.
use Rattle.std.specs.Prelude.{ℕ, Bool, true, false, not, ◌+◌, List, [], ◌∷◌, ◌++◌, length, nat_le}
use Rattle.std.specs.Prelude.{Option, Some, None, Result, Ok, Err, if◌then◌else◌}
use Rattle.doc_tree.specs.declared.tree.TheConstants.Tree.{MOST_CHILDREN}
use Rattle.line_texts.specs.Lines.{has_feed, is_end, lines_of}
use Rattle.dump_text.specs.declared.grow.TheConstants.{MOST_NODES}
use Rattle.dump_text.specs.Line.{head_of, line_of, root_line_of}
use Rattle.dump_text.specs.Listing.{Listed, root_of}
use Rattle.dump_text.specs.Order.{follows, siblings}
use Rattle.dump_text.specs.declared.fault.LoadFault.{LoadFault}
use Rattle.dump_text.specs.declared.fault.LoadKind.{LoadKind}
use Rattle.dump_text.specs.declared.fault.LoadKind.TheVariants.{BadEnd, Big, Many, NoHead}
use Rattle.dump_text.specs.declared.fault.LoadKind.TheVariants.{NoOrder}
use Rattle.dump_text.specs.declared.line.Held.{Held}
use Rattle.dump_text.specs.declared.line.Held.TheVariants as held

pub record Contents : Type 0 where
  pub version : ℕ
  pub nodes : List Listed

abbrev pub fault_at : {A : Type 0} → ℕ → LoadKind → Result A LoadFault
fault_at line kind = Err (record { line = line; kind = kind })

-- these nodes and one more, or what is at fault with it there
abbrev pub placed : List Listed → Listed → Result (Option (List Listed)) LoadKind
placed nodes node =
    if not (follows nodes node.path) then Err NoOrder
    else if nat_le MOST_CHILDREN (siblings nodes node.path) then Err Many
    else if nat_le MOST_NODES (length nodes) then Err Big
    else Ok (Some (nodes ++ node ∷ []))

-- what a line adds to these nodes: one more, or none at the end
abbrev pub turn_of : List Listed → Result Held LoadKind → Result (Option (List Listed)) LoadKind
turn_of nodes (Err kind) = Err kind
turn_of nodes (Ok held.End) = Ok None
turn_of nodes (Ok (held.Node path text)) = placed nodes (record { path = path; text = text })

-- the nodes where the end was the last line
abbrev pub ended : List Listed → List (List ℕ) → Result (List Listed) LoadFault
ended nodes lines = if is_end lines then Ok nodes else fault_at (length nodes + 3) BadEnd

-- the rest, after a line that gave this
abbrev pub with_turn : List Listed → Result (Option (List Listed)) LoadKind → List (List ℕ)
    → (List Listed → Result (List Listed) LoadFault) → Result (List Listed) LoadFault
with_turn nodes (Err kind) lines later = fault_at (length nodes + 2) kind
with_turn nodes (Ok None) lines later = ended nodes lines
with_turn nodes (Ok (Some more)) lines later = later more

-- all nodes, after these
abbrev pub nodes_from : List Listed → List (List ℕ) → Result (List Listed) LoadFault
nodes_from nodes [] = fault_at (length nodes + 2) BadEnd
nodes_from nodes (line ∷ lines) =
    with_turn nodes (turn_of nodes (line_of (length nodes) (has_feed lines) line)) lines
    (λ more. nodes_from more lines)

-- the rest after the root's line
abbrev pub with_root : Result (List ℕ) LoadKind → List (List ℕ) → Result (List Listed) LoadFault
with_root (Err kind) lines = fault_at 2 kind
with_root (Ok text) lines = nodes_from (root_of text ∷ []) lines

-- all nodes, where the first line is the root's
abbrev pub nodes_of : List (List ℕ) → Result (List Listed) LoadFault
nodes_of [] = fault_at 2 BadEnd
nodes_of (line ∷ lines) = with_root (root_line_of (has_feed lines) line) lines

abbrev pub with_nodes : ℕ → Result (List Listed) LoadFault → Result Contents LoadFault
with_nodes v (Ok nodes) = Ok (record { version = v; nodes = nodes })
with_nodes v (Err fault) = Err fault

-- the rest after a head, which is none without its line feed
abbrev pub with_head : Option ℕ → Bool → List (List ℕ) → Result Contents LoadFault
with_head None has lines = fault_at 1 NoHead
with_head (Some v) false lines = fault_at 1 NoHead
with_head (Some v) true lines = with_nodes v (nodes_of lines)

-- the contents of these lines
abbrev pub contents_in : List (List ℕ) → Result Contents LoadFault
contents_in [] = fault_at 1 NoHead
contents_in (line ∷ lines) = with_head (head_of line) (has_feed lines) lines

-- the contents of a text
abbrev pub contents_of : List ℕ → Result Contents LoadFault
contents_of bytes = contents_in (lines_of bytes)
