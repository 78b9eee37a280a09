-- the tree of the version is read
use Rattle.version_rule.specs.Knowing.{tree_read}
use Rattle.version_store.proofs.reading.tree.Given as goal

abbrev pub ghosts-read : goal.ghosts-read
ghosts-read g a = record { next = tree_read g.S.Spelling.tree_of }
