use Rattle.std.proofs.Common.{[], sym, ◌∙◌}
use Rattle.line_texts.specs.Lines.{lines_of}
use Rattle.image_files.specs.Contents.{contents_of, lines_from}
use Rattle.image_files.proofs.Turns.{file_read, head_read}
use Rattle.image_files.proofs.reader.read_file.Goals as goal

pub returns-clause-contents : goal.returns-clause-contents
returns-clause-contents c =
    let size = c.in-Some-read_head.size in
    file_read size (lines_from size [] (lines_of c.in-Some.rest.now))
    (contents_of c.args.bytes.now) c.read_lines.result
    (head_read c.args.bytes.now c.cut_line.result.0.now c.cut_line.result.1 c.in-Some.rest size
    c.cut_line.ensures.lines c.in-Some.is (sym c.read_head.ensures ∙ c.in-Some-read_head.is))
    c.read_lines.ensures.size c.read_lines.ensures.lines
