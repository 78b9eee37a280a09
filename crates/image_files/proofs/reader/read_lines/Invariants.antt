use Rattle.std.proofs.Common.{◌≡◌, []}
use Rattle.line_texts.specs.Lines.{lines_left, lines_of}
use Rattle.image_files.specs.Contents.{lines_from}
use Rattle.image_files.specs.File.{IsFile}
use Rattle.line_texts.proofs.Rests.{left}
use Rattle.image_files.proofs.reader.read_lines.Given as goal

abbrev pub invariant-loop-rest : goal.invariant-loop-rest
invariant-loop-rest l = record {
  file : IsFile l.file;
  size : l.file.size ≡ l.fn.size;
  so_far : lines_from l.file.size l.file.lines (lines_left l.rest)
      ≡ lines_from l.fn.size [] (lines_of l.fn.bytes);
}

abbrev pub decreases-loop-rest : goal.decreases-loop-rest
decreases-loop-rest l = left l.rest
