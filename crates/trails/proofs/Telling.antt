-- The form of a clause that a generic reader chains is the plain one, in both directions.
use Rattle.std.proofs.Common.{ℕ, List, [], ◌∷◌, ◌++◌, refl, sym, ◌∙◌, ap, subst}
use Rattle.std.proofs.lemmas.List.{append_assoc, append-nil}
use Rattle.cell_words.specs.declared.colours.Colour.{Colour}
use Rattle.cell_words.specs.declared.controls.Control.{Control}
use Rattle.trails.specs.Asks.{Ask, gave, gave_at, wrote_at, Meets, InOrder, nothing, pass, here}
use Rattle.trails.specs.Asks.{Shows, Grown}
use Rattle.trails.specs.Marks.{Mark, saw, wrote, looked, tried}
use Rattle.trails.specs.Telling.{Due, Tells, Begins, Keeps}
use Rattle.trails.proofs.Orders.{order_after, order_append, order_back}

-- a plain clause, forwards
pub shows_tells : {asks : List Ask} {a b : List Mark} → Shows asks a b
    → Tells (λ rest. asks ++ rest) a b
shows_tells {asks = asks} {a = a} shows all rest due = record {
  done = due.done ++ asks;
  is = due.is ∙ sym (append_assoc due.done asks rest);
  shown = subst (λ (ms : List Mark). InOrder (due.done
      ++ asks) ms) (sym shows.is) (order_append a due.shown shows.shown);
}

pub grown_keeps : {a b : List Mark} → Grown a b → Keeps a b
grown_keeps grown before begins = record {
  rest = begins.rest ++ grown.added;
  is = grown.is ∙ ap (λ ms. ms ++ grown.added) begins.is
      ∙ append_assoc before begins.rest grown.added;
}

pub keeps_begins : {a b : List Mark} → Keeps a b → Begins a b
keeps_begins {a = a} keeps = keeps a record { rest = []; is = sym (append-nil a) }

pub keeps_grown : {a b : List Mark} → Keeps a b → Grown a b
keeps_grown keeps =
    let begins = keeps_begins keeps in
    record { added = begins.rest; is = begins.is }

-- a call that is not asked about tells nothing
pub keeps_tells : {a b : List Mark} → Keeps a b → Tells (λ rest. rest) a b
keeps_tells keeps all rest due =
    let begins = keeps_begins keeps in
    record {
      done = due.done;
      is = due.is;
      shown = subst (λ (ms : List Mark). InOrder due.done ms) (sym begins.is)
          (order_after begins.rest due.shown);
    }

-- The other direction: the old marks are all spent on asks of their own, so what is told stands in
-- what was added.

-- an ask for every read and write among the marks
abbrev asks_of : List Mark → List Ask
asks_of [] = []
asks_of (saw cell field found ∷ marks) = gave_at cell field found ∷ asks_of marks
asks_of (wrote cell field old new found ∷ marks) =
    wrote_at cell field old new found ∷ asks_of marks
asks_of (looked control ∷ marks) = asks_of marks
asks_of (tried cell found ∷ marks) = asks_of marks

asks_shown : (marks : List Mark) → InOrder (asks_of marks) marks
asks_shown [] = nothing
asks_shown (saw cell field found ∷ marks) = here (refl, refl, refl) (asks_shown marks)
asks_shown (wrote cell field old new found ∷ marks) =
    here (refl, refl, refl, refl, refl) (asks_shown marks)
asks_shown (looked control ∷ marks) = pass (asks_shown marks)
asks_shown (tried cell found ∷ marks) = pass (asks_shown marks)

never_looked : (control : Control) (ask : Ask) → Meets ask (looked control) → ⊥
never_looked control (gave value) meets = meets
never_looked control (gave_at cell field value) meets = meets
never_looked control (wrote_at cell field old new value) meets = meets

never_tried : (cell : ℕ) (found : Colour) (ask : Ask) → Meets ask (tried cell found) → ⊥
never_tried cell found (gave value) meets = meets
never_tried cell found (gave_at other field value) meets = meets
never_tried cell found (wrote_at other field old new value) meets = meets

-- a mark that meets no ask is passed
order_skip : {asks : List Ask} {mark : Mark} {marks : List Mark}
    → ((ask : Ask) → Meets ask mark → ⊥)
    → InOrder asks (mark ∷ marks) → InOrder asks marks
order_skip never nothing = nothing
order_skip never (pass rest) = rest
order_skip {asks = ask ∷ asks} never (here meets rest) = absurd (never ask meets)

order_behind : (old : List Mark) (asks : List Ask) (added : List Mark)
    → InOrder (asks_of old ++ asks) (old ++ added)
    → InOrder asks added
order_behind [] asks added shown = shown
order_behind (saw cell field found ∷ old) asks added (pass rest) =
    order_behind old asks added
    (order_back (gave_at cell field found ∷ []) (asks_of old ++ asks) (old ++ added) rest)
order_behind (saw cell field found ∷ old) asks added
    (here meets rest) = order_behind old asks added rest
order_behind (wrote cell field before after found ∷ old) asks added (pass rest) =
    order_behind old asks added
    (order_back (wrote_at cell field before after found ∷ []) (asks_of old ++ asks)
    (old ++ added) rest)
order_behind (wrote cell field before after found ∷ old) asks added
    (here meets rest) = order_behind old asks added rest
order_behind (looked control ∷ old) asks added shown =
    order_behind old asks added (order_skip (never_looked control) shown)
order_behind (tried cell found ∷ old) asks added shown =
    order_behind old asks added (order_skip (never_tried cell found) shown)

pub tells_shows : {f : List Ask → List Ask} {a b : List Mark} → Tells f a b → Begins a b
    → Shows (f []) a b
tells_shows {f = f} {a = a} {b = b} tells begins =
    let all = asks_of a ++ f [] in
    let due : Due all [] b = tells all []
    record { done = asks_of a; is = refl; shown = asks_shown a } in
    let whole : InOrder all b =
    subst (λ (asks : List Ask). InOrder asks b) (sym (due.is ∙ append-nil due.done)) due.shown in
    record {
      added = begins.rest;
      is = begins.is;
      shown = order_behind a (f []) begins.rest
          (subst (λ (ms : List Mark). InOrder all ms) begins.is whole);
    }
