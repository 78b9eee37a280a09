-- A tree as a row of words, by which a proof tells trees apart: the name and the text of each child
-- as it is met, and a mark where a row of children ends. The row is read back from its end.
-- Source: this project's.
use Rattle.std.specs.Prelude.{◌≡◌, ℕ, List, [], ◌∷◌, Option, Some, None}
use Rattle.std.proofs.Common.{refl, ap, ◌∙◌}
use Rattle.std.specs.Coded.{Coded, code_by, coded×, coded_ℕ, coded_list, coded_option}
use Rattle.doc_tree.specs.Tree.{Kids, no_kids, kid, DocTree}

abbrev pub Word : Type 0
Word = Option (List ℕ × List ℕ)

abbrev pub row : Kids → List Word → List Word
row no_kids after = None ∷ after
row (kid name text inside rest) after = Some (name, text) ∷ row inside (row rest after)

-- a child from its name and text and the two rows read last
abbrev pub join : List ℕ → List ℕ → List Kids → List Kids
join name text [] = []
join name text (inside ∷ []) = []
join name text (inside ∷ rest ∷ others) = kid name text inside rest ∷ others

abbrev pub read : List Word → List Kids
read [] = []
read (None ∷ words) = no_kids ∷ read words
read (Some w ∷ words) = join w.0 w.1 (read words)

abbrev pub first : List Kids → Kids
first [] = no_kids
first (kids ∷ others) = kids

pub read-row : (kids : Kids) (after : List Word) → read (row kids after) ≡ kids ∷ read after
read-row no_kids after = refl
read-row (kid name text inside rest) after =
    ap (join name text) (read-row inside (row rest after))
    ∙ ap (λ rows. join name text (inside ∷ rows)) (read-row rest after)

abbrev pub kids_code : Coded Kids
kids_code =
    code_by (List Word) (coded_list
    (coded_option (coded× (coded_list coded_ℕ) (coded_list coded_ℕ)))) (λ kids. row kids [])
    (λ words. first (read words)) (λ kids. ap first (read-row kids []))

abbrev pub tree_code : Coded DocTree
tree_code =
    code_by (List ℕ × Kids) (coded× (coded_list coded_ℕ) kids_code) (λ t. (t.text, t.kids))
    (λ p. record { text = p.0; kids = p.1 }) (λ _. refl)
