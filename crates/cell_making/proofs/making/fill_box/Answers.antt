use Rattle.cell_making.proofs.Claiming.{fills_all}
use Rattle.std.proofs.Common.{[]}
use Rattle.mutator_seat.proofs.Searching.{tries_idle}
use Rattle.cell_making.proofs.Sealing.{makes_box, may_seal}
use Rattle.cell_making.proofs.Searching.{seal_tries, searches_idle}
use Rattle.cell_making.proofs.making.fill_box.Goals as goal

pub fill_fields-requires : goal.fill_fields-requires
fill_fields-requires g c = record {
  may = fills_all c.args.m.now c.claim.new.self c.in-Ok.place c.in-Ok.ensures.got c.args.fields
      c.requires.inside c.requires.named;
}

pub seal_box-requires : goal.seal_box-requires
seal_box-requires g c = record {
  may = may_seal c.args.m.now c.claim.new.self c.fill_fields.new.m c.in-Ok.place c.args.fields
      c.in-Ok.ensures.got c.requires.inside c.requires.named c.fill_fields.ensures.filled;
}

pub returns-in-Ok-clause-made : goal.returns-in-Ok-clause-made
returns-in-Ok-clause-made g c =
    makes_box c.args.m.now c.claim.new.self c.fill_fields.new.m c.in-Ok.place c.args.fields
    c.in-Ok.ensures.got c.requires.inside c.requires.named c.fill_fields.ensures.filled
    c.seal_box.new.self c.seal_box.ensures.told

pub returns-in-Ok-clause-search : goal.returns-in-Ok-clause-search
returns-in-Ok-clause-search g c =
    let got = c.claim.new.self in
    let filled = c.fill_fields.new.m in
    let last = c.seal_box.new.self in
    searches_idle 1000 [] c.args.hints.now c.claim.new.hints c.args.m.now got last
    c.claim.ensures.search
    (tries_idle [] got filled last c.fill_fields.ensures.idle
    (seal_tries filled last _ _ _ c.seal_box.ensures.told))
