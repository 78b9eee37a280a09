use Rattle.std.proofs.Common.{◌++◌, ◌∙◌, ap, sym, drop, take}
use Rattle.std.proofs.lemmas.List.{drop-drop, take-append-drop}
use Rattle.outside.proofs.named_files.read_at.Goals as goal

-- the bytes that were copied come before what is left after the new place
pub returns-clause-bytes : goal.returns-clause-bytes
returns-clause-bytes c =
    let n = c.copy_front-count.result in
    let rest = c.rest_of.ensures ∙ ap (drop c.args.place.position) c.content.ensures in
    sym rest ∙ sym (take-append-drop n c.rest_of.result.now)
    ∙ ap (λ front. front ++ drop n c.rest_of.result.now) (sym c.copy_front-count.ensures.copied)
    ∙ ap (λ xs. take n c.copy_front-count.new.buffer ++ drop n xs) rest
    ∙ ap (λ xs. take n c.copy_front-count.new.buffer ++ xs)
    (drop-drop n c.args.place.position _)
