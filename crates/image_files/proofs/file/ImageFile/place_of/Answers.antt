use Rattle.std.proofs.Common.{ap, arith, length}
use Rattle.image_files.specs.File.{FileView}
use Rattle.image_files.proofs.Places.{place_past}
use Rattle.image_files.proofs.file.ImageFile.place_of.Goals as goal

pub returns-in-None : goal.returns-in-None
returns-in-None c = λ file.
    place_past c.args.self.now c.args.cell file (omega (
      arith,
      c.in-None.ensures.lookup.3,
      ap length c.deref.ensures.value,
      ap (λ (f : FileView). length f.places) c.self.view_is,
    ))
