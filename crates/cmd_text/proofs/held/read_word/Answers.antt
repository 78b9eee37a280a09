-- What follows the first word of a plain line is plain.
use Rattle.std.proofs.Common.{◌≡◌, ℕ, true, List, sym, subst}
use Rattle.std.specs.List.{list_all, position_or_len}
use Rattle.line_texts.specs.Cut.{is_space}
use Rattle.line_texts.specs.Line.{is_plain_byte}
use Rattle.line_texts.proofs.Cuts.{list_all-drop}
use Rattle.cmd_text.proofs.held.read_word.Goals as goal

pub read_rest-requires : goal.read_rest-requires
read_rest-requires c =
    let line = c.args.line.now in
    subst (λ (bytes : List ℕ). list_all is_plain_byte bytes ≡ true) (sym c.first_word.ensures.rest)
    (list_all-drop is_plain_byte (position_or_len is_space line) line c.requires)
