use Rattle.image_files.proofs.Words.{colour_none_by}
use Rattle.image_files.proofs.line.colour_in.Goals as goal

pub returns-in-None : goal.returns-in-None
returns-in-None c =
    colour_none_by c.args.word.now c.read_colour.result (record {
      text = c.read_colour.ensures.text;
      all = c.read_colour.ensures.read;
    }) c.in-None.is
