-- a link that is null is cut
use Rattle.version_rule.specs.Knowing.{link_cut}
use Rattle.version_store.proofs.walking.cut_off.Given as goal

abbrev pub ghosts-walk_back : goal.ghosts-walk_back
ghosts-walk_back g a = record { next = link_cut }
