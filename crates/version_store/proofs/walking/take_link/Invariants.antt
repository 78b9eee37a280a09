-- after the store, or the read and the exchange, the link is cut, whoever cut it
use Rattle.heap_rule.specs.Asks.{known_of}
use Rattle.version_rule.specs.Knowing.{link_cut, link_taken, number_told}
use Rattle.version_store.proofs.walking.take_link.Given as goal

abbrev pub ghosts-end_link-R-Choice : goal.ghosts-end_link-R-Choice
ghosts-end_link-R-Choice g a = record { next = link_cut }

abbrev pub ghosts-end_link-C-Choice : goal.ghosts-end_link-C-Choice
ghosts-end_link-C-Choice g a = record {
  next = link_taken (number_told (known_of a.m.now.seat.me a.place));
}
