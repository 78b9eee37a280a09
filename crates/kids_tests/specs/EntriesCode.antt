-- Entries as a row of words, by which a proof tells them apart: the name and the child of each as
-- it is met, left before right, and a mark where there is none. The row is read back from its end.
-- Source: this project's.
use Rattle.std.specs.Prelude.{◌≡◌, ℕ, List, [], ◌∷◌, Option, Some, None}
use Rattle.std.proofs.Common.{refl, ap, ◌∙◌}
use Rattle.std.specs.Coded.{Coded, code_by, coded×, coded_ℕ, coded_list, coded_option}
use Rattle.doc_tree.specs.Tree.{DocTree}
use Rattle.doc_tree.specs.TreeCode.{tree_code}
use Rattle.kids_avl.specs.Entries.{Entries, no_entries, entry}

abbrev pub Word : Type 0
Word = Option (List ℕ × DocTree)

abbrev pub words_of : Entries → List Word → List Word
words_of no_entries after = None ∷ after
words_of (entry name child left right) after =
    Some (name, child) ∷ words_of left (words_of right after)

-- an entry over the two that were read last
abbrev pub over : List ℕ × DocTree → List Entries → List Entries
over top [] = []
over top (left ∷ []) = []
over top (left ∷ right ∷ others) = entry top.0 top.1 left right ∷ others

abbrev pub read : List Word → List Entries
read [] = []
read (None ∷ words) = no_entries ∷ read words
read (Some top ∷ words) = over top (read words)

abbrev pub first : List Entries → Entries
first [] = no_entries
first (t ∷ others) = t

pub read_back : (t : Entries) (after : List Word) → read (words_of t after) ≡ t ∷ read after
read_back no_entries after = refl
read_back (entry name child left right) after =
    ap (over (name, child)) (read_back left (words_of right after))
    ∙ ap (λ (rows : List Entries). over (name, child) (left ∷ rows)) (read_back right after)

abbrev pub entries_code : Coded Entries
entries_code =
    code_by (List Word) (coded_list (coded_option (coded× (coded_list coded_ℕ) tree_code)))
    (λ t. words_of t []) (λ words. first (read words)) (λ t. ap first (read_back t []))
