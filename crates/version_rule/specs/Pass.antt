-- A pass: what the rule of versions knows of one mutator, and how it changes.
-- Source: this project's.
use Rattle.std.specs.Prelude.{ℕ, List, [], ◌∷◌, ◌++◌, map, max}
use Rattle.std.specs.Coded.{Coded, code_by, coded×, coded_ℕ, coded_list}
use Rattle.std.proofs.Common.{refl}
use Rattle.doc_tree.specs.Tree.{DocTree}
use Rattle.doc_tree.specs.TreeCode.{tree_code}

-- a version that the mutator made, and the tree of the version before it
pub record Commit : Type 0 where
  pub number : ℕ
  pub before : DocTree
  pub made : DocTree

-- a version that it read
pub record Reading : Type 0 where
  pub number : ℕ
  pub tree : DocTree

pub record Pass : Type 0 where
  -- how many versions stay: one number in all passes
  pub keep : ℕ
  -- the greatest number of a version that the mutator knows of
  pub seen : ℕ
  -- the greatest number of a version whose link to an older one it has cut, or has found cut; 0 at
  -- first, since version 0 has none
  pub cut : ℕ
  -- what it made and what it read, in this order
  pub commits : List Commit
  pub reads : List Reading

-- the setting of the heap is how many versions stay
abbrev pub opening_pass : ℕ → ℕ → Pass
opening_pass number setting =
    record { keep = setting; seen = 0; cut = 0; commits = []; reads = [] }

abbrev pub commit_numbers : Pass → List ℕ
commit_numbers pass = map (λ c. c.number) pass.commits

-- How a pass changes.

-- it knows of a version with this number
abbrev pub seeing : ℕ → Pass → Pass
seeing number pass = record pass { seen = max pass.seen number }

-- it has read this tree of a version
abbrev pub reading : ℕ → DocTree → Pass → Pass
reading number tree pass = record pass {
  seen = max pass.seen number;
  reads = pass.reads ++ record { number = number; tree = tree } ∷ [];
}

-- it has made a version, over one with the tree before
abbrev pub committed : ℕ → DocTree → DocTree → Pass → Pass
committed number before made pass = record pass {
  seen = number;
  commits = pass.commits ++ record { number = number; before = before; made = made } ∷ [];
}

-- a version with this number has no link any more
abbrev pub cutting : ℕ → Pass → Pass
cutting number pass =
    record pass { seen = max pass.seen number; cut = max pass.cut number }

abbrev pub commit_code : Coded Commit
commit_code =
    code_by (ℕ × (DocTree × DocTree)) (coded× coded_ℕ (coded× tree_code tree_code))
    (λ c. (c.number, (c.before, c.made)))
    (λ p. record { number = p.0; before = p.1.0; made = p.1.1 }) (λ _. refl)

abbrev pub reading_code : Coded Reading
reading_code =
    code_by (ℕ × DocTree) (coded× coded_ℕ tree_code) (λ r. (r.number, r.tree))
    (λ p. record { number = p.0; tree = p.1 }) (λ _. refl)

abbrev pub pass_code : Coded Pass
pass_code =
    code_by ((ℕ × (ℕ × ℕ)) × (List Commit × List Reading))
    (coded× (coded× coded_ℕ (coded× coded_ℕ coded_ℕ))
    (coded× (coded_list commit_code) (coded_list reading_code)))
    (λ p. ((p.keep, (p.seen, p.cut)), (p.commits, p.reads)))
    (λ p. record {
      keep = p.0.0;
      seen = p.0.1.0;
      cut = p.0.1.1;
      commits = p.1.0;
      reads = p.1.1;
    }) (λ _. refl)
