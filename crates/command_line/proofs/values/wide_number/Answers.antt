use Rattle.std.proofs.Common.{◌∙◌, ap, sym}
use Rattle.clap.specs.Matches.{found_of, one_text}
use Rattle.clap.proofs.WalkLemmas.{one_text-rows}
use Rattle.command_line.specs.Readings.{number_in}
use Rattle.command_line.proofs.Numbers.{never_refused, number_read, number_within}
use Rattle.command_line.proofs.values.wide_number.Goals as goal

pub unreachable-requires : goal.unreachable-requires
unreachable-requires c =
    let same = one_text-rows (found_of c.args.matches.now) c.args.id.now in
    never_refused _ (one_text (found_of c.args.matches.now) c.args.id.now) c.args.limits.least
    c.args.limits.most c.in_default.field-0 (λ text is. c.requires.number text (sym same ∙ is))
    c.in_default.ensures.none (λ text is. (c.in_default.ensures.value text is).0)

pub returns-clause-number : goal.returns-clause-number
returns-clause-number c =
    let same = one_text-rows (found_of c.args.matches.now) c.args.id.now in
    number_read (one_text (found_of c.args.matches.now) c.args.id.now) c.in-Ok.number
    c.in-Ok.ensures.none c.in-Ok.ensures.value ∙ ap number_in same

pub returns-clause-within : goal.returns-clause-within
returns-clause-within c =
    let same = one_text-rows (found_of c.args.matches.now) c.args.id.now in
    let one = one_text (found_of c.args.matches.now) c.args.id.now in
    number_within one c.in-Ok.number c.args.limits.least c.args.limits.most
    (λ text is. c.requires.number text (sym same ∙ is))
    (number_read one c.in-Ok.number c.in-Ok.ensures.none c.in-Ok.ensures.value)
