use Rattle.std.proofs.Common.{◌∙◌, ap, sym}
use Rattle.std.proofs.lemmas.Bool.{true≢false}
use Rattle.core_machine.specs.Words.{is_blue}
use Rattle.heap_census.proofs.Judged.{fit_shaped, misfit_shapeless, no_flaw}
use Rattle.heap_census.proofs.flaws.flaw_of.Goals as goal
use Rattle.heap_census.proofs.flaws.flaw_of.Goals.{then-is_free-via-then-is_free}
use Rattle.heap_census.proofs.flaws.flaw_of.Goals.{then-is_free-via-else-is_free+then-fits_all}

pub returns-then-is_free : goal.returns-then-is_free
returns-then-is_free g c = λ h shows tells.
    let blue = c.stands_blue.ensures.not h shows tells c.if-stands_blue.false in
    elim c.then-is_free.branch [
      | then-is_free-via-then-is_free w ↦
          no_flaw h c.args.cell blue (λ used shape. true≢false
          (sym (ap is_blue (sym (c.colour.ensures h shows)) ∙ sym c.is_free.ensures
          ∙ w.if-is_free.true) ∙ used))
      | then-is_free-via-else-is_free+then-fits_all w ↦
          no_flaw h c.args.cell blue (λ used. fit_shaped h c.args.roles c.args.cell tells
          (w.fits_all.ensures.fit h shows w.if-fits_all.true))
    ]

pub returns : goal.returns
returns g c = λ h shows tells.
    let used = ap is_blue (sym (c.colour.ensures h shows)) ∙ sym c.is_free.ensures
    ∙ c.if-is_free.false in (
      c.stands_blue.ensures.not h shows tells c.if-stands_blue.false,
      used,
      misfit_shapeless h c.args.roles c.args.cell tells used
          (c.fits_all.ensures.misfit h shows c.if-fits_all.false),
    )
