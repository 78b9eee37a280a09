-- the version that is found is seen
use Rattle.version_rule.specs.Knowing.{latest_seen}
use Rattle.version_store.proofs.reading.read_anchor.Given as goal

abbrev pub ghosts-read : goal.ghosts-read
ghosts-read g a = record { next = latest_seen }
