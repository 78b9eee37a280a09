use Rattle.std.proofs.Common.{◌≡◌, ◌+◌, ℕ}
use Rattle.run_limits.specs.declared.TheConstants.{MOST_VERSIONS}
use Rattle.mail_run.proofs.Walking.{IsOnWay}
use Rattle.mail_run.proofs.following.follow.Given as goal

-- with the items so far, and those that are left
abbrev pub invariant-loop-box : goal.invariant-loop-box
invariant-loop-box l = (left : ℕ) → l._box + left ≡ MOST_VERSIONS
    → IsOnWay l.image l.fn.items.items l.fn.first left l.items.items l.at
