use Rattle.std.proofs.Common.{◌∙◌}
use Rattle.client_heap.proofs.Keeping.{alone_carries, alone_held, alone_known}
use Rattle.client_heap.proofs.places.keep_alone.Goals as goal

pub returns-clause-carries : goal.returns-clause-carries
returns-clause-carries c =
    let fit = c.held_len-held.ensures.known ∙ c.held_len-held.ensures.len in
    alone_carries c.args.m.now c.keep.new.self c.args.place _ c.keep.ensures.told fit
    c.requires.there c.args.minor.now c.len-records.ensures.ordered

pub returns-clause-held : goal.returns-clause-held
returns-clause-held c =
    let fit = c.held_len-held.ensures.known ∙ c.held_len-held.ensures.len in
    alone_held c.args.m.now c.keep.new.self c.args.place _ c.keep.ensures.told fit
    c.requires.there

pub returns-clause-known : goal.returns-clause-known
returns-clause-known c =
    let fit = c.held_len-held.ensures.known ∙ c.held_len-held.ensures.len in
    alone_known c.args.m.now c.keep.new.self c.args.place _ c.keep.ensures.told fit
    c.requires.there
