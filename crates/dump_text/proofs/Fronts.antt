-- What the loop over the lines of a dump keeps: the nodes of the tree so far, with those of the
-- lines that are left, are all nodes.
use Rattle.std.proofs.Common.{◌≡◌, ℕ, ◌+◌, Bool, false, cond, List, [], ◌∷◌, length}
use Rattle.std.proofs.Common.{Option, Some, None, Result, Ok, Err, Bor, sym, ap, subst, ◌∙◌}
use Rattle.std.proofs.Common.{arith}
use Rattle.std.specs.Prelude.{is_some}
use Rattle.doc_tree.specs.Lawful.{IsLawful}
use Rattle.doc_tree.specs.Tree.{DocTree, no_kids, count}
use Rattle.line_texts.specs.Lines.{has_feed, is_end, lines_left, lines_of}
use Rattle.line_texts.proofs.Rests.{IsCut, cut_lines, fed_lines, has_lines}
use Rattle.dump_text.specs.Answers.{Gives, IsGrown, Lists, Reads, Turns, error_in}
use Rattle.dump_text.specs.Contents.{contents_in, contents_of, ended, fault_at}
use Rattle.dump_text.specs.Contents.{nodes_from, nodes_of, turn_of, with_head, with_nodes}
use Rattle.dump_text.specs.Contents.{with_root, with_turn}
use Rattle.dump_text.specs.Line.{head_of, line_of, root_line_of}
use Rattle.dump_text.specs.Listing.{Listed, listed}
use Rattle.dump_text.specs.Order.{last_path}
use Rattle.dump_text.specs.declared.fault.LineError.{LineError}
use Rattle.dump_text.specs.declared.fault.LineError.TheVariants as line
use Rattle.dump_text.specs.declared.fault.LoadError.{LoadError}
use Rattle.dump_text.specs.declared.fault.LoadError.TheVariants as load
use Rattle.dump_text.specs.declared.fault.LoadFault.{LoadFault}
use Rattle.dump_text.specs.declared.fault.LoadKind.{LoadKind}
use Rattle.dump_text.specs.declared.fault.LoadKind.TheVariants.{BadEnd}

-- the next line
first_line : (nodes : List Listed) (bytes line : List ℕ) (rest : Option (Bor (List ℕ))) (has : Bool)
    (turn : Result (Option (List Listed)) LoadKind) → IsCut bytes line rest → has ≡ is_some rest
    → turn_of nodes (line_of (length nodes) has line) ≡ turn
    → nodes_from nodes (lines_of bytes)
    ≡ with_turn nodes turn (lines_left rest) (λ more. nodes_from more (lines_left rest))
first_line nodes bytes line rest has turn is feed read =
    ap (nodes_from nodes) (cut_lines bytes line rest is)
    ∙ ap (λ b. with_turn nodes (turn_of nodes (line_of (length nodes) b line)) (lines_left rest)
    (λ more. nodes_from more (lines_left rest))) (has_lines rest ∙ sym feed)
    ∙ ap (λ t. with_turn nodes t (lines_left rest) (λ more. nodes_from more (lines_left rest))) read

pub goes_on : (nodes more : List Listed) (bytes line : List ℕ) (rest : Option (Bor (List ℕ)))
    (has : Bool) (whole : Result (List Listed) LoadFault) → IsCut bytes line rest
    → has ≡ is_some rest → turn_of nodes (line_of (length nodes) has line) ≡ Ok (Some more)
    → nodes_from nodes (lines_of bytes) ≡ whole → nodes_from more (lines_left rest) ≡ whole
goes_on nodes more bytes line rest has whole is feed read so_far =
    sym (first_line nodes bytes line rest has (Ok (Some more)) is feed read) ∙ so_far

pub ends : (nodes : List Listed) (bytes line : List ℕ) (rest : Option (Bor (List ℕ))) (has : Bool)
    (whole : Result (List Listed) LoadFault) (answer : Result DocTree LoadError)
    → IsCut bytes line rest → has ≡ is_some rest
    → turn_of nodes (line_of (length nodes) has line) ≡ Ok None
    → nodes_from nodes (lines_of bytes) ≡ whole → Lists answer (ended nodes (lines_left rest))
    → Lists answer whole
ends nodes bytes line rest has whole answer is feed read so_far lists =
    subst (Lists answer)
    (sym (first_line nodes bytes line rest has (Ok None) is feed read) ∙ so_far) lists

pub stops : (error : LineError) (number : ℕ) (nodes : List Listed) (bytes line : List ℕ)
    (rest : Option (Bor (List ℕ))) (has : Bool) (whole : Result (List Listed) LoadFault)
    → IsCut bytes line rest → has ≡ is_some rest → number ≡ length nodes + 2
    → Turns (Err error) (turn_of nodes (line_of (length nodes) has line))
    → nodes_from nodes (lines_of bytes) ≡ whole → Lists (Err (error_in number error)) whole
stops (line.Kind kind) number nodes bytes text rest has whole is feed same faulty so_far =
    sym so_far ∙ first_line nodes bytes text rest has (Err kind) is feed faulty
    ∙ ap (λ n. fault_at n kind) (sym same)
stops line.NoMemory number nodes bytes text rest has whole is feed same faulty so_far = tt

pub missing : (number : ℕ) (nodes : List Listed) (whole : Result (List Listed) LoadFault)
    → number ≡ length nodes + 2 → nodes_from nodes [] ≡ whole
    → whole ≡ Err (record { line = number; kind = BadEnd })
missing number nodes whole same so_far =
    sym so_far ∙ ap (λ n. fault_at n BadEnd) (sym same)

-- a line after the end
pub follows_end : (number : ℕ) (nodes : List Listed) (lines : List (List ℕ))
    → is_end lines ≡ false → number ≡ length nodes + 3
    → ended nodes lines ≡ Err (record { line = number; kind = BadEnd })
follows_end number nodes lines more same =
    ap (λ b. cond b (Ok nodes) (fault_at (length nodes + 3) BadEnd)) more
    ∙ ap (λ n. fault_at n BadEnd) (sym same)

-- the root's line
root_line : (bytes line : List ℕ) (rest : Option (Bor (List ℕ))) (has : Bool)
    (read : Result (List ℕ) LoadKind) → IsCut bytes line rest → has ≡ is_some rest
    → root_line_of has line ≡ read → nodes_of (lines_of bytes) ≡ with_root read (lines_left rest)
root_line bytes line rest has read is feed text =
    ap nodes_of (cut_lines bytes line rest is)
    ∙ ap (λ b. with_root (root_line_of b line) (lines_left rest)) (has_lines rest ∙ sym feed)
    ∙ ap (λ r. with_root r (lines_left rest)) text

pub root_read : (bytes line : List ℕ) (rest : Option (Bor (List ℕ))) (has : Bool) (text : List ℕ)
    (t : DocTree) (answer : Result DocTree LoadError)
    → IsCut bytes line rest → has ≡ is_some rest → root_line_of has line ≡ Ok text
    → t ≡ record { text = text; kids = no_kids }
    → Lists answer (nodes_from (listed t) (lines_left rest))
    → Lists answer (nodes_of (lines_of bytes))
root_read bytes line rest has text t answer is feed read one lists =
    subst (Lists answer) (ap (λ (u : DocTree). nodes_from (listed u) (lines_left rest)) one
    ∙ sym (root_line bytes line rest has (Ok text) is feed read)) lists

pub root_stops : (error : LineError) (bytes line : List ℕ) (rest : Option (Bor (List ℕ)))
    (has : Bool)
    → IsCut bytes line rest → has ≡ is_some rest
    → Gives {A = List ℕ} (Err error) (root_line_of has line)
    → Lists (Err (error_in 2 error)) (nodes_of (lines_of bytes))
root_stops (line.Kind kind) bytes text rest has is feed faulty =
    root_line bytes text rest has (Err kind) is feed faulty
root_stops line.NoMemory bytes text rest has is feed faulty = tt

-- a tree of one node
pub one_grown : (text : List ℕ) (t : DocTree) → t ≡ record { text = text; kids = no_kids }
    → IsLawful t → IsGrown [] t
one_grown text t is lawful = record {
  lawful = lawful;
  few = omega (arith, ap count is);
  last = sym (ap (λ (u : DocTree). last_path (listed u)) is);
}

-- the head
pub head_read : (bytes line rest : List ℕ) (v : ℕ) → lines_of bytes ≡ line ∷ lines_of rest
    → head_of line ≡ Some v → contents_of bytes ≡ with_nodes v (nodes_of (lines_of rest))
head_read bytes line rest v is head =
    ap contents_in is
    ∙ ap (λ o. with_head o (has_feed (lines_of rest)) (lines_of rest)) head
    ∙ ap (λ b. with_head (Some v) b (lines_of rest)) (fed_lines rest)

pub tree_stops : (error : LoadError) (bytes line : List ℕ) (more : Option (Bor (List ℕ)))
    (rest : Bor (List ℕ)) (v : ℕ) → IsCut bytes line more → more ≡ Some rest
    → head_of line ≡ Some v → Lists (Err error) (nodes_of (lines_of rest.now))
    → Reads (Err error) (contents_of bytes)
tree_stops (load.Fault fault) bytes line more rest v is some head lists =
    head_read bytes line rest.now v (cut_lines bytes line more is
    ∙ ap (λ m. line ∷ lines_left m) some) head
    ∙ ap (with_nodes v) lists
tree_stops load.NoMemory bytes line more rest v is some head lists = tt
