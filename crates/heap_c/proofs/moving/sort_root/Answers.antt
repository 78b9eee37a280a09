use Rattle.std.proofs.Common.{◌≡◌, ◌∷◌, ◌∙◌, [], Bool, ap, subst, sym, true}
use Rattle.local_records.specs.Local.{IsRootBelow}
use Rattle.local_records.specs.Settling.{cells_in}
use Rattle.local_references.specs.declared.roots.Root.{Root}
use Rattle.sorted_boxes.specs.Sorts.{SortList, holds_record}
use Rattle.heap_c.specs.Moving.{TellsRoots, root_sorts}
use Rattle.heap_c.proofs.RootSorts.{tells_one, tells_same}
use Rattle.heap_c.proofs.moving.sort_root.Goals as goal
use Rattle.std.proofs.Common.{◌++◌}

pub returns-in-Null-clause-told : goal.returns-in-Null-clause-told
returns-in-Null-clause-told c before roots so next_is =
    tells_same c.args.first c.args.next before c.args.sorts.now roots so c.args.root
    (ap cells_in c.in-Null.is) (ap (λ (x : Root). root_sorts before (x ∷ [])) c.in-Null.is)

pub returns-in-Num-clause-told : goal.returns-in-Num-clause-told
returns-in-Num-clause-told c before roots so next_is =
    tells_same c.args.first c.args.next before c.args.sorts.now roots so c.args.root
    (ap cells_in c.in-Num.is) (ap (λ (x : Root). root_sorts before (x ∷ [])) c.in-Num.is)

pub returns-in-Private-clause-told : goal.returns-in-Private-clause-told
returns-in-Private-clause-told c before roots so next_is =
    subst (λ (s : SortList). TellsRoots c.args.first before (roots ++ c.args.root ∷ []) s)
    (sym c.set.ensures.set)
    (tells_one c.args.first c.args.next before c.args.sorts.now roots so c.args.root true next_is
    c.requires.there (ap cells_in c.in-Private.is)
    (ap (λ (x : Root). root_sorts before (x ∷ [])) c.in-Private.is))

pub returns-in-Shared-clause-told : goal.returns-in-Shared-clause-told
returns-in-Shared-clause-told c before roots so next_is =
    let place = c.in-Shared.place in
    let below = subst (λ (x : Root). IsRootBelow c.args.first x) c.in-Shared.is
    c.requires.below in
    let same : holds_record before place ≡ c.is_record-is_record.result =
    sym (so.same place _ below) ∙ sym c.is_record-is_record.ensures.is in
    subst (λ (s : SortList). TellsRoots c.args.first before (roots ++ c.args.root ∷ []) s)
    (sym c.set-in-Shared.ensures.set)
    (tells_one c.args.first c.args.next before c.args.sorts.now roots so c.args.root
    c.is_record-is_record.result next_is c.requires.there (ap cells_in c.in-Shared.is)
    (ap (λ (x : Root). root_sorts before (x ∷ [])) c.in-Shared.is
    ∙ ap (λ (b : Bool). b ∷ []) same))
