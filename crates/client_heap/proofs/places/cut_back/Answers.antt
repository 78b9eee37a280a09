use Rattle.std.proofs.Common.{◌∙◌}
use Rattle.client_heap.proofs.Keeping.{cut_carries, cut_held, keep_claims}
use Rattle.client_heap.proofs.places.cut_back.Goals as goal

pub returns-clause-carries : goal.returns-clause-carries
returns-clause-carries g c =
    let bound = g.M.ClientSeat.bound in
    let fit = c.held_count-held.ensures.known ∙ c.held_count-held.ensures.len in
    cut_carries (bound c.args.m.now) (bound c.cut_to.new.self) c.args.places _ c.cut_to.ensures.told
    fit c.requires.kept c.args.minor.now c.len-records.ensures.ordered

pub returns-clause-held : goal.returns-clause-held
returns-clause-held g c =
    let bound = g.M.ClientSeat.bound in
    let fit = c.held_count-held.ensures.known ∙ c.held_count-held.ensures.len in
    cut_held (bound c.args.m.now) (bound c.cut_to.new.self) c.args.places _ c.cut_to.ensures.told
    fit c.requires.kept

pub returns-clause-claims : goal.returns-clause-claims
returns-clause-claims g c =
    let bound = g.M.ClientSeat.bound in
    let fit = c.held_count-held.ensures.known ∙ c.held_count-held.ensures.len in
    keep_claims (bound c.args.m.now) (bound c.cut_to.new.self) c.args.places 0 0 _
    c.cut_to.ensures.told fit c.requires.kept
