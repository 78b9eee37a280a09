use Rattle.std.proofs.Common.{◌∙◌}
use Rattle.client_heap.proofs.Keeping.{two_carries, two_first, two_held, two_second}
use Rattle.client_heap.proofs.places.keep_two.Goals as goal

pub returns-clause-carries : goal.returns-clause-carries
returns-clause-carries c =
    let fit = c.held_len-held.ensures.known ∙ c.held_len-held.ensures.len in
    two_carries c.args.m.now c.keep.new.self c.args.place _ c.keep.ensures.told fit
    c.requires.there c.args.minor.now c.len-records.ensures.ordered

pub returns-clause-held : goal.returns-clause-held
returns-clause-held c =
    let fit = c.held_len-held.ensures.known ∙ c.held_len-held.ensures.len in
    two_held c.args.m.now c.keep.new.self c.args.place _ c.keep.ensures.told fit
    c.requires.there

pub returns-clause-first : goal.returns-clause-first
returns-clause-first c =
    let fit = c.held_len-held.ensures.known ∙ c.held_len-held.ensures.len in
    two_first c.args.m.now c.keep.new.self c.args.place _ c.keep.ensures.told fit
    c.requires.there

pub returns-clause-second : goal.returns-clause-second
returns-clause-second c =
    let fit = c.held_len-held.ensures.known ∙ c.held_len-held.ensures.len in
    two_second c.args.m.now c.keep.new.self c.args.place _ c.keep.ensures.told fit
    c.requires.there
