use Rattle.std.proofs.Common.{Err, refl, sym, subst}
use Rattle.heap_census.specs.Flaws.{IsChecked}
use Rattle.image_files.specs.Answers.{ReadsImage}
use Rattle.image_files.specs.Contents.{contents_of}
use Rattle.image_files.specs.File.{contents_by, heap_in}
use Rattle.image_files.specs.declared.fault.ImageError.{ImageError}
use Rattle.image_files.proofs.Safety.{faulty_file, safe_file, sound_file}
use Rattle.image_files.proofs.reader.read_image.Goals as goal

pub returns-in-Sound-clause-contents : goal.returns-in-Sound-clause-contents
returns-in-Sound-clause-contents c =
    let file = c.in_ok-file.file in
    let h = heap_in (contents_by file) in
    sound_file file (contents_of c.args.bytes.now) c.in-Sound.census c.in_ok-file.ensures.contents
    (subst (IsChecked h) c.in-Sound.is
    (c.in_ok-census.ensures h (c.in_ok-file.ensures.file, refl)))

pub returns-in-Sound-clause-safe : goal.returns-in-Sound-clause-safe
returns-in-Sound-clause-safe c =
    let file = c.in_ok-file.file in
    let h = heap_in (contents_by file) in
    safe_file file (contents_of c.args.bytes.now) c.in-Sound.census c.in_ok-file.ensures.contents
    (subst (IsChecked h) c.in-Sound.is
    (c.in_ok-census.ensures h (c.in_ok-file.ensures.file, refl)))

pub returns-clause-contents : goal.returns-clause-contents
returns-clause-contents c =
    let file = c.in_ok-file.file in
    let h = heap_in (contents_by file) in
    let contents = contents_of c.args.bytes.now in
    subst (λ (e : ImageError). ReadsImage (Err e) contents) (sym c.fault_at.ensures)
    (faulty_file file contents c.in-Faulty.at c.line_of.result c.kind_of.result
    c.in_ok-file.ensures.contents
    (subst (IsChecked h) c.in-Faulty.is
    (c.in_ok-census.ensures h (c.in_ok-file.ensures.file, refl)))
    c.line_of.ensures c.kind_of.ensures)
