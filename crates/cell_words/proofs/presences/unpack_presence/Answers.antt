-- The word is that of the presence that is answered.
use Rattle.std.proofs.Common.{refl, rules, true, false}
use Rattle.cell_words.specs.declared.presences.Presence.{Presence}
use Rattle.cell_words.proofs.presences.unpack_presence.Goals as goal

pub returns-in-0-2-clause-some : goal.returns-in-0-2-clause-some
returns-in-0-2-clause-some c =
    let p : Presence = record { status = c.match-word-rem4.status; inside = false; over = false } in
    (λ _. (p, refl, search rules), λ _. refl)

pub returns-in-1-2-clause-some : goal.returns-in-1-2-clause-some
returns-in-1-2-clause-some c =
    let p : Presence = record { status = c.match-word-rem4.status; inside = true; over = false } in
    (λ _. (p, refl, search rules), λ _. refl)

pub returns-in-2-2-clause-some : goal.returns-in-2-2-clause-some
returns-in-2-2-clause-some c =
    let p : Presence = record { status = c.match-word-rem4.status; inside = false; over = true } in
    (λ _. (p, refl, search rules), λ _. refl)
