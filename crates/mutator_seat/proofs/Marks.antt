-- Marking place by place marks them all.
use Rattle.std.proofs.Common.{◌≡◌, ◌<◌, ◌≤◌, ◌+◌, ◌==◌, ◌&&◌, ℕ, suc, Bool, true, false, List, []}
use Rattle.std.proofs.Common.{◌∷◌, ◌++◌, length, map, get_or, refl, sym, ◌∙◌, ap, subst, arith}
use Rattle.std.proofs.Common.{⊎_elim, if◌then◌else◌}
use Rattle.std.proofs.lemmas.Bool.{cases_lt, eq-eqb}
use Rattle.std.proofs.lemmas.List.{get_or-map, map-append}
use Rattle.std.proofs.lemmas.List.Folds.{list_all-append}
use Rattle.std.specs.List.{list_all}
use Rattle.core_machine.specs.declared.events.Event.{Event}
use Rattle.core_machine.specs.declared.events.Event.TheVariants as event
use Rattle.core_machine.specs.declared.events.Taken.{Taken}
use Rattle.core_machine.specs.declared.places.Held.{Held}
use Rattle.core_machine.specs.Places.{all_marked, cell_at, mark_of, no_place}
use Rattle.mutator_seat.specs.Stretches.{MarksOf, are_marks, is_mark}

-- each place below this one is marked
abbrev pub MarkedBelow : ℕ → List Held → Type 0
MarkedBelow i held = (k : ℕ) → k < i → (get_or held k no_place).marked ≡ true

stays : (b : Bool) (p : Held) → p.marked ≡ true
    → (if b then record p { marked = true } else p).marked ≡ true
stays true p marked = refl
stays false p marked = marked

comes : (b : Bool) (p : Held) → b ≡ true
    → (if b then record p { marked = true } else p).marked ≡ true
comes b p is =
    subst (λ (c : Bool). (if c then record p { marked = true } else p).marked ≡ true) (sym is) refl

pub marked_more : (held : List Held) (i : ℕ) → i < length held → MarkedBelow i held
    → MarkedBelow (i + 1) (map (mark_of (cell_at held i)) held)
marked_more held i there below k lt =
    let within : k < length held = omega (arith, lt, there) in
    let is = get_or-map (mark_of (cell_at held i)) held k no_place no_place within in
    ap (λ (p : Held). p.marked) is ∙ here within
  where
    here : k < length held → (mark_of (cell_at held i) (get_or held k no_place)).marked ≡ true
    here within = ⊎_elim
        (λ first. stays _ (get_or held k no_place) (below k first))
        (λ last. comes _ (get_or held k no_place)
        (ap (λ n. (get_or held n no_place).cell == cell_at held i) (at last)
        ∙ eq-eqb (cell_at held i) (cell_at held i) refl))
        (cases_lt k i)
      where
        at : i ≤ k → k ≡ i
        at above = omega (arith, above, lt)

pub all_of : (held : List Held) → MarkedBelow (length held) held → all_marked held ≡ true
all_of [] below = refl
all_of (p ∷ ps) below =
    ap (λ b. b && all_marked ps) (below 0 (omega arith))
    ∙ all_of ps (λ k lt. below (suc k) (omega (arith, lt)))

pub marks_join : (xs ys : List Taken) → are_marks xs → are_marks ys → are_marks (xs ++ ys)
marks_join xs ys first second =
    list_all-append (λ (t : Taken). is_mark t.event) xs ys
    ∙ ap (λ b. b && list_all (λ (t : Taken). is_mark t.event) ys) first
    ∙ second

-- marks of some places, and then of others
pub marks_of_join : (number : ℕ) (ps qs : List ℕ) (xs ys : List Taken) → MarksOf number ps xs
    → MarksOf number qs ys → MarksOf number (ps ++ qs) (xs ++ ys)
marks_of_join number ps qs xs ys first second =
    let mark : ℕ → Event = λ place. event.Mark number place in
    map-append (λ (t : Taken). t.event) xs ys
    ∙ ap (λ (es : List Event). es ++ map (λ (t : Taken). t.event) ys) first
    ∙ ap (λ (es : List Event). map mark ps ++ es) second
    ∙ sym (map-append mark ps qs)
