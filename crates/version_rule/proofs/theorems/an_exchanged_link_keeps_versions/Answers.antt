use Rattle.cell_words.specs.declared.fields.Field.TheVariants as field
use Rattle.version_rule.specs.Versions.{HoldsVersions}
use Rattle.version_rule.proofs.AfterSteps.{shows_taken}
use Rattle.version_rule.proofs.Writing.{exchange_picks}
use Rattle.version_rule.proofs.theorems.an_exchanged_link_keeps_versions.Goals as goal

pub returns : goal.returns
returns g c =
    let tree = g.S.Spelling.is_tree in
    let of = g.S.Spelling.tree_of in
    record {
      keeps = exchange_picks tree of g.S.Spelling.is_record;
      shows = λ v w place number word found step. shows_taken (HoldsVersions tree of) v w word place
          number found field.Null step;
    }
