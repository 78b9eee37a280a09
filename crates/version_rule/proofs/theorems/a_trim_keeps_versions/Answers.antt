use Rattle.cell_words.specs.declared.fields.Field.TheVariants as field
use Rattle.version_rule.specs.Versions.{HoldsVersions}
use Rattle.version_rule.proofs.AfterSteps.{shows_cut}
use Rattle.version_rule.proofs.Writing.{cut_picks}
use Rattle.version_rule.proofs.theorems.a_trim_keeps_versions.Goals as goal

pub returns : goal.returns
returns g c =
    let tree = g.S.Spelling.is_tree in
    let of = g.S.Spelling.tree_of in
    record {
      keeps = cut_picks tree of g.S.Spelling.is_record;
      shows = λ v w number word step. shows_cut (HoldsVersions tree of) v w word number field.Null
          step;
    }
