use Rattle.held_places.proofs.Going.{comes_in}
use Rattle.version_store.proofs.Lasting.{goes_same, latest_lasts, latest_shows}
use Rattle.version_store.proofs.reading.current.Goals as goal

pub latest-newest-requires-clause-inside : goal.latest-newest-requires-clause-inside
latest-newest-requires-clause-inside g c =
    comes_in c.args.m.now c.held_len.result c.requires.inside c.held_len.ensures.len
    c.held_len.ensures.some c.held_len.ensures.anchor

pub returns-clause-shows : goal.returns-clause-shows
returns-clause-shows g c =
    latest_shows c.args.m.now c.latest-newest.new.m c.latest-newest.result c.held_len.ensures.left
    c.latest-newest.ensures.latest

pub returns-clause-lasts : goal.returns-clause-lasts
returns-clause-lasts g c =
    latest_lasts c.args.m.now c.latest-newest.new.m c.latest-newest.result
    c.latest-newest.ensures.latest

pub returns-clause-same : goal.returns-clause-same
returns-clause-same g c =
    goes_same c.args.m.now c.latest-newest.new.m c.latest-newest.ensures.latest.goes
