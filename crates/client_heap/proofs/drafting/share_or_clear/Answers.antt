use Rattle.client_heap.proofs.Carrying.{follows_then}
use Rattle.client_heap.proofs.Commits.{full_late, on_refusal}
use Rattle.client_heap.proofs.drafting.share_or_clear.Goals as goal

pub returns-then-base-gt2-clause-full : goal.returns-then-base-gt2-clause-full
returns-then-base-gt2-clause-full g c =
    on_refusal c.clear_around-cleared.result
    (λ had. full_late c.args.m.now c.draw_in.new.m c.clear_around-cleared.new.m c.args.minor.now
    c.args.minor.now c.draw_in.ensures.follows had)
    c.clear_around-cleared.ensures.full

pub returns-then-base-gt2-clause-follows : goal.returns-then-base-gt2-clause-follows
returns-then-base-gt2-clause-follows g c =
    follows_then c.draw_in.ensures.follows c.clear_around-cleared.ensures.follows

pub returns-in_err-share_draft-in-Minor-clause-term :
    goal.returns-in_err-share_draft-in-Minor-clause-term
returns-in_err-share_draft-in-Minor-clause-term g c =
    rw c.in-Minor.is c.in_err-share_draft-in-Minor.ensures.same

pub returns-in_err-share_draft-in-Minor-clause-sound :
    goal.returns-in_err-share_draft-in-Minor-clause-sound
returns-in_err-share_draft-in-Minor-clause-sound g c =
    rw c.in-Minor.is c.in_err-share_draft-in-Minor.ensures.sound
