use Rattle.std.proofs.Common.{◌∙◌, arith, sym}
use Rattle.image_files.proofs.Places.{place_few}
use Rattle.image_files.proofs.file.ImageFile.line_of.Goals as goal

pub overflow_add-result : goal.overflow_add-result
overflow_add-result c =
    let few = place_few c.args.self.now c.args.cell c.in-Some.place c.requires
    (sym (c.place_of.ensures c.requires) ∙ c.in-Some.is) in
    omega (arith, few)
