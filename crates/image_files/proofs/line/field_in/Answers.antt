use Rattle.std.proofs.Common.{arith}
use Rattle.image_files.proofs.Words.{kept_by, none_by}
use Rattle.image_files.proofs.line.field_in.Goals as goal

pub returns-in-None : goal.returns-in-None
returns-in-None c =
    none_by c.args.size c.args.word.now c.read_field.result (omega (arith, c.ranges.size.fits))
    (record {
      valid = c.read_field.ensures.valid;
      text = c.read_field.ensures.text;
      all = c.read_field.ensures.read;
    }) c.in-None.is

pub returns-in-Some : goal.returns-in-Some
returns-in-Some c =
    kept_by c.args.size c.args.word.now c.read_field.result c.kept.result c.in-Some.field
    (omega (arith, c.ranges.size.fits))
    (record {
      valid = c.read_field.ensures.valid;
      text = c.read_field.ensures.text;
      all = c.read_field.ensures.read;
    }) c.in-Some.is c.kept.ensures
