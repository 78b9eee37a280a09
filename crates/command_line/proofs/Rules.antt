-- A command with arguments more, one by one.
use Rattle.std.proofs.Common.{◌≡◌, ◌∙◌, ap}
use Rattle.clap.specs.Words.{App, Rule, with_rule}

-- one of the rule that is wanted, after those that are
pub more : (was old new : App) (rule wanted : Rule) → old ≡ was → rule ≡ wanted
    → new ≡ with_rule old rule → new ≡ with_rule was wanted
more was old new rule wanted before is added =
    added ∙ ap (λ a. with_rule a rule) before ∙ ap (with_rule was) is
