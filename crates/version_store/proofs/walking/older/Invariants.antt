-- a link that is null shows that there are newer versions
use Rattle.version_rule.specs.Knowing.{link_seen}
use Rattle.version_store.proofs.walking.older.Given as goal

abbrev pub ghosts-walk_back : goal.ghosts-walk_back
ghosts-walk_back g a = record { next = link_seen }
