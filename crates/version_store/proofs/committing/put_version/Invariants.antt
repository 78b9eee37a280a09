-- the commit if the write is made, and otherwise that there is a version with this number
use Rattle.version_store.proofs.Putting.{picks_made}
use Rattle.version_store.proofs.committing.put_version.Given as goal

abbrev pub ghosts-publish : goal.ghosts-publish
ghosts-publish g a = record { next = picks_made g.S.Spelling.tree_of a.m.now a.latest a.tree }
