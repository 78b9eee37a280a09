-- How the marks of a trail grow with its events.
use Rattle.std.proofs.Common.{◌≡◌, List, [], ◌∷◌, ◌++◌, refl, sym, ◌∙◌, ap}
use Rattle.std.proofs.lemmas.List.{append_assoc, append-nil}
use Rattle.core_machine.specs.declared.events.Taken.{Taken}
use Rattle.core_machine.specs.Trail.{own_along}
use Rattle.core_machine.specs.Own.{Own, no_own, own_after}
use Rattle.trails.specs.Marks.{mark_of, marks_from, marks_of}

pub own_append : (own : Own) (ts us : List Taken)
    → own_along own (ts ++ us) ≡ own_along (own_along own ts) us
own_append own [] us = refl
own_append own (t ∷ ts) us = own_append (own_after own t.event t.found) ts us

-- what two lists of events show, the second from the own part that the first leaves
pub marks_append : (own : Own) (ts us : List Taken)
    → marks_from own (ts ++ us) ≡ marks_from own ts ++ marks_from (own_along own ts) us
marks_append own [] us = refl
marks_append own (t ∷ ts) us =
    let next = own_after own t.event t.found in
    let shown = mark_of own t.event t.found in
    ap (λ ms. shown ++ ms) (marks_append next ts us)
    ∙ sym (append_assoc shown (marks_from next ts) (marks_from (own_along next ts) us))

-- one event more
pub marks_push : (ts : List Taken) (t : Taken)
    → marks_of (ts ++ t ∷ []) ≡ marks_of ts ++ mark_of (own_along no_own ts) t.event t.found
marks_push ts t =
    marks_append no_own ts (t ∷ [])
    ∙ ap (λ ms. marks_of ts ++ ms) (append-nil (mark_of (own_along no_own ts) t.event t.found))
