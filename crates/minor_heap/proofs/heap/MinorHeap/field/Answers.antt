use Rattle.std.proofs.Common.{◌≡◌, ◌<◌, ap, sym, subst, ◌∙◌, length, List, [], arith}
use Rattle.std.specs.Prelude.{slice_index_or}
use Rattle.std.proofs.lemmas.List.{get_or_read}
use Rattle.minor_heap.specs.declared.fields.MinorField.TheVariants as field
use Rattle.minor_heap.specs.declared.fields.MinorField.{MinorField}
use Rattle.minor_heap.specs.Nursery.{FitsRecord, IsOrdered, Nursery, field_at}
use Rattle.minor_heap.specs.Terms.{field_term, terms_of}
use Rattle.minor_heap.proofs.Terms.{fits_is, is_five, part_is}
use Rattle.minor_heap.proofs.heap.MinorHeap.field.Goals as goal

-- the records are ordered, as the caller sees them
ordered : (c : goal.After-field) → IsOrdered 0 c.args.self.now.records
ordered c = subst (λ (n : Nursery). IsOrdered 0 n.records) c.self.view_is c.self.invariant.ordered

found : (c : goal.After-field) → c.field.result
    ≡ field_at c.args.self.now.records c.args.r.number c.args.i
found c =
    let records = c.self.inside.records.items in
    let count = ap (λ (n : Nursery). length n.records) c.self.view_is in
    let stands : c.args.r.number < length records = omega (arith, c.requires.stands, count) in
    let there = get_or_read records c.args.r.number _ stands c.index.ensures [] in
    c.field.ensures.field
    ∙ ap (λ (fields : List MinorField). slice_index_or fields c.args.i field.Null) there
    ∙ ap (λ (n : Nursery). field_at n.records c.args.r.number c.args.i) c.self.view_is

pub returns-clause-older : goal.returns-clause-older
returns-clause-older c =
    subst (λ (f : MinorField). FitsRecord c.args.r.number f) (sym (found c))
    (fits_is _ _ _ (ordered c) c.requires.stands)

pub returns-clause-record : goal.returns-clause-record
returns-clause-record c shared = is_five shared _ c.args.r (ordered c) c.requires.stands

pub returns-clause-part : goal.returns-clause-part
returns-clause-part c shared =
    part_is shared _ c.args.r c.args.i (ordered c) c.requires.stands c.requires.range
    ∙ ap (field_term shared (terms_of shared c.args.self.now.records)) (sym (found c))
