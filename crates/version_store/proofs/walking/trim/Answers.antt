use Rattle.std.proofs.Common.{inl}
use Rattle.held_places.proofs.Going.{comes_in}
use Rattle.version_store.proofs.Lasting.{goes_same, trim_lasts}
use Rattle.version_store.specs.Writes.{is_act}
use Rattle.version_store.proofs.Leaving.{at_most_before, chosen_told, writes_none, writes_told}
use Rattle.version_store.proofs.Trimming.{trims}
use Rattle.version_store.proofs.walking.trim.Goals as goal

pub cut_off-requires-clause-inside : goal.cut_off-requires-clause-inside
cut_off-requires-clause-inside g c =
    comes_in c.args.m.now c.held_len-held.result c.requires.inside c.held_len-held.ensures.len
    c.held_len-held.ensures.some c.held_len-held.ensures.anchor

pub returns-then-keep-v-clause-trims : goal.returns-then-keep-v-clause-trims
returns-then-keep-v-clause-trims g c =
    λ le. trims c.args.m.now c.cut_off.new.m c.cut.new.self c.args.v c.args.keep
    c.held_len-held.result _ c.held_len-held.ensures.len c.cut_off.ensures.cuts
    c.cut.ensures.told

pub returns-then-keep-v-clause-held : goal.returns-then-keep-v-clause-held
returns-then-keep-v-clause-held g c =
    let is = trims c.args.m.now c.cut_off.new.m c.cut.new.self c.args.v c.args.keep
    c.held_len-held.result _ c.held_len-held.ensures.len c.cut_off.ensures.cuts
    c.cut.ensures.told in
    is.holds

pub returns-then-keep-v-clause-lasts : goal.returns-then-keep-v-clause-lasts
returns-then-keep-v-clause-lasts g c =
    trim_lasts c.args.m.now c.cut.new.self c.args.v c.args.keep
    (trims c.args.m.now c.cut_off.new.m c.cut.new.self c.args.v c.args.keep
    c.held_len-held.result _ c.held_len-held.ensures.len c.cut_off.ensures.cuts
    c.cut.ensures.told)

pub returns-then-keep-v-clause-same : goal.returns-then-keep-v-clause-same
returns-then-keep-v-clause-same g c =
    let is = trims c.args.m.now c.cut_off.new.m c.cut.new.self c.args.v c.args.keep
    c.held_len-held.result _ c.held_len-held.ensures.len c.cut_off.ensures.cuts
    c.cut.ensures.told in
    goes_same c.args.m.now c.cut.new.self is.goes

pub returns-then-keep-v-clause-writes : goal.returns-then-keep-v-clause-writes
returns-then-keep-v-clause-writes g c =
    at_most_before c.args.m.now c.cut_off.new.m c.cut.new.self c.cut_off.ensures.writes
    (writes_told c.cut_off.new.m c.cut.new.self _ _ c.cut.ensures.told)
    (chosen_told is_act c.cut_off.new.m c.cut.new.self _ _ c.cut.ensures.told)

pub returns-else-keep-v-clause-writes : goal.returns-else-keep-v-clause-writes
returns-else-keep-v-clause-writes g c = inl (writes_none c.args.m.now)
