use Rattle.heap_census.proofs.Checks.{five_fit, five_misfit}
use Rattle.heap_census.proofs.checking.fits_all.Goals as goal

pub returns : goal.returns
returns g c = record {
  fit = λ h shows.
      five_fit h c.args.roles c.args.cell c.fits_as.result c.fits_as-2.result c.fits_as-3.result
      c.fits_as-4.result c.fits_as-5.result
      (record {
        fit = c.fits_as.ensures.fit h shows;
        misfit = c.fits_as.ensures.misfit h shows;
      })
      (record {
        fit = c.fits_as-2.ensures.fit h shows;
        misfit = c.fits_as-2.ensures.misfit h shows;
      })
      (record {
        fit = c.fits_as-3.ensures.fit h shows;
        misfit = c.fits_as-3.ensures.misfit h shows;
      })
      (record {
        fit = c.fits_as-4.ensures.fit h shows;
        misfit = c.fits_as-4.ensures.misfit h shows;
      })
      (record {
        fit = c.fits_as-5.ensures.fit h shows;
        misfit = c.fits_as-5.ensures.misfit h shows;
      });
  misfit = λ h shows.
      five_misfit h c.args.roles c.args.cell c.fits_as.result c.fits_as-2.result c.fits_as-3.result
      c.fits_as-4.result c.fits_as-5.result
      (record {
        fit = c.fits_as.ensures.fit h shows;
        misfit = c.fits_as.ensures.misfit h shows;
      })
      (record {
        fit = c.fits_as-2.ensures.fit h shows;
        misfit = c.fits_as-2.ensures.misfit h shows;
      })
      (record {
        fit = c.fits_as-3.ensures.fit h shows;
        misfit = c.fits_as-3.ensures.misfit h shows;
      })
      (record {
        fit = c.fits_as-4.ensures.fit h shows;
        misfit = c.fits_as-4.ensures.misfit h shows;
      })
      (record {
        fit = c.fits_as-5.ensures.fit h shows;
        misfit = c.fits_as-5.ensures.misfit h shows;
      });
}
