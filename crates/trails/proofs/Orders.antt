-- Asks in order: more marks before or after do no harm, and asks of two stretches go together.
use Rattle.std.proofs.Common.{◌≡◌, List, [], ◌∷◌, ◌++◌, refl, sym, ◌∙◌, ap}
use Rattle.std.proofs.lemmas.List.{append_assoc, append-nil}
use Rattle.trails.specs.Asks.{Ask, InOrder, nothing, pass, here, Shows, Grown}
use Rattle.trails.specs.Marks.{Mark}

-- more marks after
pub order_after : {asks : List Ask} {marks : List Mark} (more : List Mark) → InOrder asks marks
    → InOrder asks (marks ++ more)
order_after more nothing = nothing
order_after more (pass rest) = pass (order_after more rest)
order_after more (here meets rest) = here meets (order_after more rest)

-- more marks before
pub order_before : {asks : List Ask} {marks : List Mark} (more : List Mark) → InOrder asks marks
    → InOrder asks (more ++ marks)
order_before [] shown = shown
order_before (mark ∷ more) shown = pass (order_before more shown)

-- the asks of two stretches
pub order_append : {xs ys : List Ask} (first : List Mark) {second : List Mark} → InOrder xs first
    → InOrder ys second → InOrder (xs ++ ys) (first ++ second)
order_append first nothing shown = order_before first shown
order_append (mark ∷ first) (pass rest) shown = pass (order_append first rest shown)
order_append (mark ∷ first) (here meets rest) shown = here meets (order_append first rest shown)

-- the asks at the front alone
pub order_front : (xs ys : List Ask) (marks : List Mark) → InOrder (xs ++ ys) marks
    → InOrder xs marks
order_front [] ys marks shown = nothing
order_front (x ∷ xs) ys [] shown = elim shown [ ]
order_front (x ∷ xs) ys (mark ∷ marks) (pass rest) = pass (order_front (x ∷ xs) ys marks rest)
order_front (x ∷ xs) ys (mark ∷ marks) (here meets rest) = here meets (order_front xs ys marks rest)

-- the asks at the back alone
pub order_back : (xs ys : List Ask) (marks : List Mark) → InOrder (xs ++ ys) marks
    → InOrder ys marks
order_back [] ys marks shown = shown
order_back (x ∷ xs) ys [] shown = elim shown [ ]
order_back (x ∷ xs) ys (mark ∷ marks) (pass rest) = pass (order_back (x ∷ xs) ys marks rest)
order_back (x ∷ xs) ys (mark ∷ marks) (here meets rest) = pass (order_back xs ys marks rest)

-- marks that show two lists of asks fall into two stretches, one for each
pub record Split (xs ys : List Ask) (marks : List Mark) : Type 0 where
  pub before : List Mark
  pub after : List Mark
  pub is : marks ≡ before ++ after
  pub first : InOrder xs before
  pub second : InOrder ys after

pub order_split : (xs ys : List Ask) (marks : List Mark) → InOrder (xs ++ ys) marks
    → Split xs ys marks
order_split [] ys marks
    shown = record { before = []; after = marks; is = refl; first = nothing; second = shown }
order_split (x ∷ xs) ys [] shown = elim shown [ ]
order_split (x ∷ xs) ys (mark ∷ marks) (pass rest) =
    let split = order_split (x ∷ xs) ys marks rest in
    record {
      before = mark ∷ split.before;
      after = split.after;
      is = ap (λ ms. mark ∷ ms) split.is;
      first = pass split.first;
      second = split.second;
    }
order_split (x ∷ xs) ys (mark ∷ marks) (here meets rest) =
    let split = order_split xs ys marks rest in
    record {
      before = mark ∷ split.before;
      after = split.after;
      is = ap (λ ms. mark ∷ ms) split.is;
      first = here meets split.first;
      second = split.second;
    }

-- Calls.

-- what grows twice ends with both parts
pub grows_twice : (a : List Mark) {b c : List Mark} (first second : List Mark) → b ≡ a ++ first
    → c ≡ b ++ second
    → c ≡ a ++ (first ++ second)
grows_twice a first second one two =
    two ∙ ap (λ ms. ms ++ second) one ∙ append_assoc a first second

pub grown_same : {a : List Mark} → Grown a a
grown_same {a = a} = record { added = []; is = sym (append-nil a) }

pub grown_then : {a b c : List Mark} → Grown a b → Grown b c → Grown a c
grown_then {a = a} one two =
    record { added = one.added ++ two.added; is = grows_twice a one.added two.added one.is two.is }

pub shows_grown : {asks : List Ask} {a b : List Mark} → Shows asks a b → Grown a b
shows_grown one = record { added = one.added; is = one.is }

pub shows_none : {a b : List Mark} → Grown a b → Shows [] a b
shows_none one = record { added = one.added; is = one.is; shown = nothing }

-- one call's asks, and then another's
pub shows_then : {xs ys : List Ask} {a b c : List Mark} → Shows xs a b → Shows ys b c
    → Shows (xs ++ ys) a c
shows_then {a = a} one two = record {
  added = one.added ++ two.added;
  is = grows_twice a one.added two.added one.is two.is;
  shown = order_append one.added one.shown two.shown;
}

-- a later call that is not asked about
pub shows_on : {asks : List Ask} {a b c : List Mark} → Shows asks a b → Grown b c → Shows asks a c
shows_on {a = a} one two = record {
  added = one.added ++ two.added;
  is = grows_twice a one.added two.added one.is two.is;
  shown = order_after two.added one.shown;
}

-- a call before that is not asked about
pub shows_late : {asks : List Ask} {a b c : List Mark} → Grown a b → Shows asks b c → Shows asks a c
shows_late {a = a} one two = record {
  added = one.added ++ two.added;
  is = grows_twice a one.added two.added one.is two.is;
  shown = order_before one.added two.shown;
}
