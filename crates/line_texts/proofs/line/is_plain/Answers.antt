use Rattle.std.proofs.Common.{rules, tests}
use Rattle.std.proofs.lemmas.Iterator.{YieldsList-from_slice}
use Rattle.std.proofs.lemmas.Iterator.Search.{all_from_yields_List}
use Rattle.line_texts.specs.Line.{is_plain_byte}
use Rattle.line_texts.proofs.line.is_plain.Goals as goal

-- every byte is looked at
pub returns : goal.returns
returns c =
    all_from_yields_List is_plain_byte _ _ _ c.all.ensures.ran
    (YieldsList-from_slice c.args.line.now cc) (λ x b q k. search (rules, tests))
