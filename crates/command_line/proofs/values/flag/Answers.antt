use Rattle.std.proofs.Common.{◌≡◌, ◌∙◌, ap, rules, codes, bytes_eq}
use Rattle.clap.specs.Matches.{found_of}
use Rattle.clap.proofs.WalkLemmas.{first_value-rows}
use Rattle.command_line.specs.Readings.{flag_in}
use Rattle.command_line.proofs.values.flag.Goals as goal

pub returns-in-None : goal.returns-in-None
returns-in-None c =
    let none = c.in-None.ensures ∙ first_value-rows (found_of c.args.matches.now) c.args.id.now in
    ap flag_in none

pub returns-in-Some : goal.returns-in-Some
returns-in-Some c =
    let some = c.in-Some.ensures ∙ first_value-rows (found_of c.args.matches.now) c.args.id.now in
    let same : c.eq.result ≡ bytes_eq c.in-Some.text.now (codes "true") = search rules in
    same ∙ ap flag_in some
