use Rattle.mutator_seat.proofs.Searching.{look_tries, searches_at, searches_on}
use Rattle.mutator_seat.proofs.Seeking.{look_seeks, seeking_then}
use Rattle.std.proofs.Common.{ℕ, [], sym, ◌∙◌, ap, subst, arith}
use Rattle.heap_rule.specs.Shape.{Shape}
use Rattle.mutator_seat.specs.Searches.{Searches}
use Rattle.std.proofs.lemmas.List.{append-nil}
use Rattle.mutator_seat.specs.Bound.{Bound}
use Rattle.mutator_seat.proofs.Pacing.{paces_look, paces_prompt, paces_then}
use Rattle.mutator_seat.proofs.Tries.{claimed_then, finds_full, grown, ok_all, some_all}
use Rattle.mutator_seat.proofs.Tries.{tried_first}
use Rattle.mutator_seat.proofs.Updates.{err_then}
use Rattle.mutator_seat.proofs.mutator.Mutator.claim_hinted.Goals as goal

pub returns-in-Some-clause-got : goal.returns-in-Some-clause-got
returns-in-Some-clause-got g c =
    let was = c.args.self.now in
    let first = c.look_once-first in
    claimed_then was first.new.self c.try_hinted.new.self c.in-Some.place
    (look_seeks was first.new.self first.result first.ensures.told) c.in-Some.ensures.got

pub returns-in-None-clause-got : goal.returns-in-None-clause-got
returns-in-None-clause-got g c =
    let was = c.args.self.now in
    let first = c.look_once-first in
    ok_all c.wait_for_cell.result c.wait_for_cell.ensures.got (λ place got.
    claimed_then was c.try_hinted.new.self c.wait_for_cell.new.self place
    (seeking_then was first.new.self c.try_hinted.new.self
    (look_seeks was first.new.self first.result first.ensures.told) c.in-None.ensures.none) got)

pub returns-in-None-clause-full : goal.returns-in-None-clause-full
returns-in-None-clause-full g c =
    err_then c.wait_for_cell.result c.wait_for_cell.ensures.full (λ full behind.
    finds_full c.args.self.now c.look_once-first.new.self c.try_hinted.new.self
    c.wait_for_cell.new.self c.begun-began.result c.look_once-first.result full
    c.look_once-first.ensures.told c.in-None.ensures.none behind c.begun-began.ensures.begun)

pub returns-in-None-clause-seeking : goal.returns-in-None-clause-seeking
returns-in-None-clause-seeking g c =
    let was = c.args.self.now in
    let first = c.look_once-first in
    let tried = c.try_hinted.new.self in
    err_then c.wait_for_cell.result c.wait_for_cell.ensures.seeking (λ full rest.
    seeking_then was tried c.wait_for_cell.new.self
    (seeking_then was first.new.self tried
    (look_seeks was first.new.self first.result first.ensures.told) c.in-None.ensures.none) rest)

pub returns-in-Some-clause-tries : goal.returns-in-Some-clause-tries
returns-in-Some-clause-tries g c =
    let was = c.args.self.now in
    let first = c.look_once-first in
    let tried = c.try_hinted.new.self in
    some_all c.args.hint c.try_hinted.ensures.tried (λ cell is below.
    tried_first was first.new.self tried tried first.result cell [] first.ensures.told
    (is (omega (arith, below, ap (λ (m : Bound _). m.seat.me.shape.cells) first.ensures.told)))
    (sym (append-nil tried.seat.me.trail)))

pub returns-in-None-clause-tries : goal.returns-in-None-clause-tries
returns-in-None-clause-tries g c =
    let was = c.args.self.now in
    let first = c.look_once-first in
    let tried = c.try_hinted.new.self in
    let last = c.wait_for_cell.new.self in
    let more = grown tried last c.wait_for_cell.result c.wait_for_cell.ensures.got
    c.wait_for_cell.ensures.seeking in
    some_all c.args.hint c.try_hinted.ensures.tried (λ cell is below.
    tried_first was first.new.self tried last first.result cell more.0 first.ensures.told
    (is (omega (arith, below, ap (λ (m : Bound _). m.seat.me.shape.cells) first.ensures.told)))
    more.1)

pub returns-in-Some-clause-prompt : goal.returns-in-Some-clause-prompt
returns-in-Some-clause-prompt g c =
    let was = c.args.self.now in
    let first = c.look_once-first in
    paces_prompt was c.try_hinted.new.self
    (paces_then was first.new.self c.try_hinted.new.self 0 1 65
    (paces_look was first.new.self first.result 0 (omega arith) first.ensures.told)
    c.try_hinted.ensures.pace)

pub returns-in-None-clause-prompt : goal.returns-in-None-clause-prompt
returns-in-None-clause-prompt g c =
    let was = c.args.self.now in
    let first = c.look_once-first in
    let tried = c.try_hinted.new.self in
    paces_prompt was c.wait_for_cell.new.self
    (paces_then was tried c.wait_for_cell.new.self 0 65 65
    (paces_then was first.new.self tried 0 1 65
    (paces_look was first.new.self first.result 0 (omega arith) first.ensures.told)
    c.try_hinted.ensures.pace) c.wait_for_cell.ensures.pace)

pub returns-in-Some-clause-search : goal.returns-in-Some-clause-search
returns-in-Some-clause-search g c =
    let was = c.args.self.now in
    let first = c.look_once-first in
    let tried = c.try_hinted.new.self in
    searches_at 1000 c.args.hint c.args.hints.now was tried
    (look_tries was first.new.self tried first.result 1000 c.args.hint first.ensures.told
    c.try_hinted.ensures.tries)

pub returns-in-None-clause-search : goal.returns-in-None-clause-search
returns-in-None-clause-search g c =
    let was = c.args.self.now in
    let first = c.look_once-first in
    let tried = c.try_hinted.new.self in
    let last = c.wait_for_cell.new.self in
    searches_on 1000 c.args.hint c.args.hints.now c.wait_for_cell.new.hints was tried last
    (ap (λ (s : Shape). s.cells) c.in-None.ensures.none.kept.shape
    ∙ ap (λ (m : Bound _). m.seat.me.shape.cells) first.ensures.told)
    (look_tries was first.new.self tried first.result 1000 c.args.hint first.ensures.told
    c.try_hinted.ensures.tries)
    (subst (λ (q : ℕ). Searches q [] c.args.hints.now c.wait_for_cell.new.hints tried last)
    c.patience_after.ensures.patience c.wait_for_cell.ensures.search)
