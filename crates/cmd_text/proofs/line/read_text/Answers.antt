-- Plain bytes are those of a text.
use Rattle.std.proofs.Common.{◌≡◌, ℕ, true, List, drop, sym, subst}
use Rattle.std.specs.List.{list_all}
use Rattle.doc_tree.specs.Words.{is_text_byte}
use Rattle.line_texts.specs.Line.{is_plain_byte}
use Rattle.line_texts.proofs.Cuts.{list_all-drop}
use Rattle.cmd_text.proofs.Quoting.{plain_text}
use Rattle.cmd_text.proofs.line.read_text.Goals as goal

pub read_short-requires : goal.read_short-requires
read_short-requires c =
    let rest = c.args.rest.now in
    subst (λ (bytes : List ℕ). list_all is_text_byte bytes ≡ true) (sym c.after_space.ensures)
    (plain_text (drop 1 rest) (list_all-drop is_plain_byte 1 rest c.requires))
