-- Which bytes are a dump that is loaded, and what is so of all of these.
-- Source: this project's own.
use Rattle.std.specs.Prelude.{◌≡◌, ℕ, ◌≤◌, Bool, true, ◌&&◌, List, [], ◌++◌, IsTrue}
use Rattle.doc_tree.specs.Lawful.{IsLawful}
use Rattle.doc_tree.specs.Tree.{DocTree, Kids, no_kids, kid, count}
use Rattle.doc_tree.specs.Words.{is_name, is_text}
use Rattle.dump_text.specs.declared.grow.TheConstants.{MOST_NODES}
use Rattle.dump_text.specs.Dump.{dump_of}

-- the children's names are names, and their texts are texts
abbrev pub has_words : Kids → Bool
has_words no_kids = true
has_words (kid name text inside rest) =
    is_name name && is_text text && has_words inside && has_words rest

-- the dump of a version up to the millionth, and of a lawful tree of at most 10,000 nodes
pub record IsDump (bytes : List ℕ) (v : ℕ) (t : DocTree) : Type 0 where
  pub written : bytes ≡ dump_of v t
  pub version : v ≤ 1_000_000
  pub few : count t ≤ MOST_NODES
  pub lawful : IsLawful t
  pub text : IsTrue (is_text t.text)
  pub words : IsTrue (has_words t.kids)

-- a dump that begins another is the whole of it
abbrev pub NoneIsAFront : Type 0
NoneIsAFront =
    (bytes more : List ℕ) (v w : ℕ) (t u : DocTree) → IsDump bytes v t → IsDump (bytes ++ more) w u
    → more ≡ []
