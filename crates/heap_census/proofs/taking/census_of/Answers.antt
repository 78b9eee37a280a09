use Rattle.heap_census.proofs.Judged.{checked_faulty, checked_sound, flawless_sound}
use Rattle.heap_census.proofs.taking.census_of.Goals as goal

pub returns-in-Sound-clause-found : goal.returns-in-Sound-clause-found
returns-in-Sound-clause-found g c = λ h shows.
    flawless_sound h (checked_sound h c.in_ok-checked.checked c.in-Sound.census c.in-Sound.is
    (c.in_ok-checked.ensures h shows)).0

pub returns-in-Faulty-clause-found : goal.returns-in-Faulty-clause-found
returns-in-Faulty-clause-found g c = λ h shows.
    checked_faulty h c.in_ok-checked.checked c.in-Faulty.field-0 c.in-Faulty.is
    (c.in_ok-checked.ensures h shows)
