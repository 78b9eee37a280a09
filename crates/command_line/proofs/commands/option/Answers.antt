use Rattle.std.proofs.Common.{◌≡◌, ap, Some}
use Rattle.clap.specs.Words.{Rule}
use Rattle.clap.specs.declared.builder.action.ArgAction.TheVariants.{Set}
use Rattle.clap.specs.declared.builder.value_parser.ValueParser.TheVariants.{Unsigned}
use Rattle.command_line.proofs.commands.option.Goals as goal

-- what each call adds
pub returns-clause-rule : goal.returns-clause-rule
returns-clause-rule c =
    let given = c.value_parser.ensures.given in
    let ends : c.value_parser.result.value_parser
    ≡ Some (Unsigned c.args.limits.least c.args.limits.most) =
    cc (given.1, given.2, c.parser.ensures) in
    rw (c.value_parser.ensures.others, c.action.ensures, c.long.ensures, ends) (
    ap (λ (r : Rule). record r {
      long = Some c.args.name.now;
      action = Some Set;
      parser = Some (Unsigned c.args.limits.least c.args.limits.most);
    }) c.new.ensures.rule)
