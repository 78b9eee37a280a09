use Rattle.std.proofs.Common.{subst, sym}
use Rattle.heap_census.specs.Roles.{TellsRoles}
use Rattle.heap_census.specs.Times.{TellsShared}
use Rattle.heap_census.proofs.Judged.{flawless_sound, none_found, one_found}
use Rattle.heap_census.proofs.taking.check_cells.Goals as goal

pub returns-in-Some : goal.returns-in-Some
returns-in-Some g c = λ h shows.
    one_found h c.first_flaw.result c.in-Some.flawed c.in-Some.is
    (c.first_flaw.ensures h shows
    (subst (TellsRoles h) (sym c.deref.ensures.value) (c.in_ok-marks.ensures.roles h shows)))

pub returns : goal.returns
returns g c = λ h shows.
    let roles = c.in_ok-marks.ensures.roles h shows in
    let flawless = none_found h c.first_flaw.result c.in_default.not-Some
    (c.first_flaw.ensures h shows (subst (TellsRoles h) (sym c.deref.ensures.value) roles)) in
    let shared = c.in_ok-times.ensures.shared h shows
    (subst (TellsRoles h) (sym c.deref-2.ensures.value) roles) in
    let counted = c.counted.ensures h shows
    (subst (TellsRoles h) (sym c.deref-3.ensures.value) roles)
    (subst (TellsShared h) (sym c.deref-4.ensures.value) shared) (flawless_sound h flawless) in
    (flawless, counted.0, counted.1)
