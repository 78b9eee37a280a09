-- a link that is null is cut
use Rattle.version_rule.specs.Knowing.{link_cut}
use Rattle.version_store.proofs.walking.cut_link.Given as goal

abbrev pub ghosts-follow : goal.ghosts-follow
ghosts-follow g a = record { next = link_cut }
