use Rattle.std.proofs.Common.{◌∙◌}
use Rattle.client_heap.proofs.Keeping.{again_carries, again_held, again_known, again_still}
use Rattle.client_heap.proofs.places.hold_again.Goals as goal

pub returns-clause-carries : goal.returns-clause-carries
returns-clause-carries c =
    let fit = c.held_len-held.ensures.known ∙ c.held_len-held.ensures.len in
    again_carries c.args.m.now c.keep.new.self _ c.args.place _ c.keep.ensures.told fit
    c.held_len-held.ensures.len c.requires.there c.args.minor.now c.len-records.ensures.ordered

pub returns-clause-held : goal.returns-clause-held
returns-clause-held c =
    let fit = c.held_len-held.ensures.known ∙ c.held_len-held.ensures.len in
    again_held c.args.m.now c.keep.new.self _ c.args.place _ c.keep.ensures.told fit
    c.held_len-held.ensures.len c.requires.there

pub returns-clause-known : goal.returns-clause-known
returns-clause-known c =
    let fit = c.held_len-held.ensures.known ∙ c.held_len-held.ensures.len in
    again_known c.args.m.now c.keep.new.self _ c.args.place _ c.keep.ensures.told fit
    c.held_len-held.ensures.len c.requires.there

pub returns-clause-still : goal.returns-clause-still
returns-clause-still c =
    let fit = c.held_len-held.ensures.known ∙ c.held_len-held.ensures.len in
    again_still c.args.m.now c.keep.new.self _ c.args.place _ c.keep.ensures.told fit
    c.held_len-held.ensures.len c.requires.there
