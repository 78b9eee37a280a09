use Rattle.std.proofs.Common.{◌≡◌, ◌++◌, ◌∷◌, ◌∙◌, [], Some, ap, arith, length, refl}
use Rattle.std.specs.Prelude.{set}
use Rattle.image_files.specs.File.{FileView}
use Rattle.image_files.proofs.Places.{file_more}
use Rattle.image_files.proofs.file.ImageFile.push.Goals as goal

pub returns-clause-file : goal.returns-clause-file
returns-clause-file c =
    let view = c.self.view_is in
    let old = c.args.self.now in
    let cell = c.args.line.cell in
    let count : c.count-place.result ≡ length old.lines = omega (
      arith,
      c.count-place.ensures.count,
      ap (λ (f : FileView). length f.lines) view,
    ) in
    file_more old _ c.args.line c.requires.file c.requires.fits c.requires.order
    (ap (λ (f : FileView). f.size) view) refl
    (c.in_ok-push.ensures.items ∙ ap (λ (f : FileView). f.lines ++ c.args.line ∷ []) view)
    (ap (λ (f : FileView). set f.places cell (Some c.count-place.result)) view
    ∙ ap (λ n. set old.places cell (Some n)) count)
