use Rattle.std.proofs.Common.{◌≡◌, ◌<◌, ℕ, length, refl, sym, ◌∙◌, ap, subst, arith}
use Rattle.std.specs.List.{SameBelow}
use Rattle.heap_rule.specs.NoRule.{no_field_is_fixed}
use Rattle.heap_rule.proofs.Picking.{read_picks}
use Rattle.mutator_seat.specs.Bound.{bound}
use Rattle.sorted_rule.specs.Sorted.{HoldsSorted}
use Rattle.sorted_boxes.specs.Holding.{HoldsAs}
use Rattle.sorted_boxes.specs.Sorts.{IsOfTheSort, SortList, sort_found}
use Rattle.sorted_boxes.proofs.Holding.{gave, read_holds, read_records, read_sort}
use Rattle.sorted_boxes.proofs.SortLists.{set_same, set_serves, set_there, with_set}
use Rattle.sorted_boxes.proofs.reading.read.Goals as goal

pub read-found-requires-clause-rule : goal.read-found-requires-clause-rule
read-found-requires-clause-rule c =
    read_picks HoldsSorted no_field_is_fixed c.args.seat.now.me c.args.seat.now.me.number
    c.args.place c.args.field

pub returns : goal.returns
returns c =
    let heap = c.args.heap.now in
    let was = bound heap c.args.seat.now in
    let now = bound heap c.read-found.new.seat in
    let told = c.read-found.ensures.told in
    let table = c.read-found.ensures.table in
    let place = c.args.place in
    let f = c.args.field in
    let at = c.requires.held in
    let old = c.args.sorts.now in
    let next = length was.seat.me.own.held in
    let is_record = c.finds_record.result in
    let is : with_set old next is_record ≡ c.set.new.self =
    sym (c.set.ensures.set
    ∙ ap (λ (n : ℕ). with_set old n is_record) c.held_len-next.ensures.len) in
    let serves = set_serves old next is_record was.seat.me at.some at.serves in
    let same = set_same old next is_record in
    let there : next < length old.records =
    let more = c.requires.room in let room = at.serves.room in omega (arith, more, room) in
    let found = set_there old next is_record there ∙ c.finds_record.ensures.sort in
    record {
      seat = c.read-found.ensures.seat;
      held = subst (λ (s : SortList). HoldsAs s now.seat.me) is
          (read_holds was now refl table place f c.requires.there told.0 told.2 old at
          c.requires.field (with_set old next is_record) serves same found);
      gave = gave was now refl table place f c.requires.there told.0 told.2 c.read-found.result
          told.1;
      sort = subst (λ (s : SortList). IsOfTheSort s (sort_found old place f) c.read-found.result) is
          (read_sort was now refl table place f c.requires.there told.0 told.2 old at
          c.requires.field (with_set old next is_record) serves same found c.read-found.result
          told.1);
      same = subst (λ (s : SortList). SameBelow old.records s.records next) is same;
      records = read_records was now refl table place f c.requires.there told.0 told.2;
    }
