-- Stretches: that of a call is one of every longer call, and a list of entries grows by one.
use Rattle.std.proofs.Common.{◌≡◌, Bool, true, false, cond, List, [], ◌∷◌, ◌++◌, refl, sym, ◌∙◌, ap}
use Rattle.std.proofs.Common.{subst}
use Rattle.std.proofs.lemmas.List.{append_assoc, append-nil}
use Rattle.std.specs.List.{filter}
use Rattle.trails.specs.Asks.{Grown}
use Rattle.trails.specs.Marks.{Mark}
use Rattle.trails.specs.Stretches.{Had, Then, InTurn}
use Rattle.trails.proofs.Orders.{grows_twice}

module _ (P : List Mark → Type 0) where
  -- the stretch is all that was added
  pub had_whole : {a b : List Mark} (added : List Mark) → b ≡ a ++ added → P added → Had P a b
  had_whole {a = a} added is meets = record {
    before = [];
    stretch = added;
    after = [];
    meets = meets;
    is = is ∙ ap (λ ms. a ++ ms) (sym (append-nil added));
  }

  -- a call before
  pub had_late : {a b c : List Mark} → Grown a b → Had P b c → Had P a c
  had_late {a = a} grown had = record {
    before = grown.added ++ had.before;
    stretch = had.stretch;
    after = had.after;
    meets = had.meets;
    is = grows_twice a grown.added (had.before ++ (had.stretch ++ had.after)) grown.is had.is
        ∙ ap (λ ms. a ++ ms) (sym (append_assoc grown.added had.before (had.stretch ++ had.after)));
  }

  -- a later call
  pub had_on : {a b c : List Mark} → Had P a b → Grown b c → Had P a c
  had_on {a = a} had grown = record {
    before = had.before;
    stretch = had.stretch;
    after = had.after ++ grown.added;
    meets = had.meets;
    is = grows_twice a (had.before ++ (had.stretch ++ had.after)) grown.added had.is grown.is
        ∙ ap (λ ms. a ++ ms) (append_assoc had.before (had.stretch ++ had.after) grown.added
        ∙ ap (λ ms. had.before ++ ms) (append_assoc had.stretch had.after grown.added));
  }

  pub had_grown : {a b : List Mark} → Had P a b → Grown a b
  had_grown had = record { added = had.before ++ (had.stretch ++ had.after); is = had.is }

module _ {E : Type 0} (P : E → List Mark → Type 0) where
  -- more marks after
  pub turns_more : (es : List E) (marks more : List Mark) → InTurn P es marks
      → InTurn P es (marks ++ more)
  turns_more [] marks more turns = tt
  turns_more (e ∷ es) marks more turns = record {
    before = turns.before;
    stretch = turns.stretch;
    after = turns.after ++ more;
    meets = turns.meets;
    is = ap (λ ms. ms ++ more) turns.is
        ∙ append_assoc turns.before (turns.stretch ++ turns.after) more
        ∙ ap (λ ms. turns.before ++ ms) (append_assoc turns.stretch turns.after more);
    rest = turns_more es turns.after more turns.rest;
  }

  -- more marks before
  pub turns_late : (es : List E) (marks more : List Mark) → InTurn P es marks
      → InTurn P es (more ++ marks)
  turns_late [] marks more turns = tt
  turns_late (e ∷ es) marks more turns = record {
    before = more ++ turns.before;
    stretch = turns.stretch;
    after = turns.after;
    meets = turns.meets;
    is = ap (λ ms. more ++ ms) turns.is
        ∙ sym (append_assoc more turns.before (turns.stretch ++ turns.after));
    rest = turns.rest;
  }

  pub turns_grown : (es : List E) (a : List Mark) {b : List Mark} → InTurn P es a → Grown a b
      → InTurn P es b
  turns_grown es a turns grown =
      subst (λ (ms : List Mark). InTurn P es ms) (sym grown.is) (turns_more es a grown.added turns)

  -- one entry more, whose stretch is some of what was added
  turns_added : (es : List E) (e : E) (marks before stretch after : List Mark) → InTurn P es marks
      → P e stretch → InTurn P (es ++ e ∷ []) (marks ++ (before ++ (stretch ++ after)))
  turns_added [] e marks before stretch after turns meets = record {
    before = marks ++ before;
    stretch = stretch;
    after = after;
    meets = meets;
    rest = tt;
    is = sym (append_assoc marks before (stretch ++ after));
  }
  turns_added (x ∷ es) e marks before stretch after turns meets =
      let added = before ++ (stretch ++ after) in
      record {
        before = turns.before;
        stretch = turns.stretch;
        after = turns.after ++ added;
        meets = turns.meets;
        is = ap (λ ms. ms ++ added) turns.is
            ∙ append_assoc turns.before (turns.stretch ++ turns.after) added
            ∙ ap (λ ms. turns.before ++ ms) (append_assoc turns.stretch turns.after added);
        rest = turns_added es e turns.after before stretch after turns.rest meets;
      }

  pub turns_had : (es : List E) (e : E) (a : List Mark) {b : List Mark} → InTurn P es a
      → Had (P e) a b → InTurn P (es ++ e ∷ []) b
  turns_had es e a turns had =
      subst (λ (ms : List Mark). InTurn P (es ++ e ∷ []) ms) (sym had.is)
      (turns_added es e a had.before had.stretch had.after turns had.meets)

  -- or all of it
  pub turns_last : (es : List E) (e : E) (a : List Mark) {b : List Mark} (added : List Mark)
      → b ≡ a ++ added → InTurn P es a
      → P e added → InTurn P (es ++ e ∷ []) b
  turns_last es e a added is turns meets = turns_had es e a turns (had_whole (P e) added is meets)

-- From the stretches of all entries to those of some.
module _ {E : Type 0} (P Q : E → List Mark → Type 0) where
  chosen : (is : E → Bool) (b : Bool) (e : E) (es : List E) {marks : List Mark}
      → ((ms : List Mark) → b ≡ true → P e ms → Q e ms)
      → Then (P e) (InTurn Q (filter is es)) marks
      → InTurn Q (cond b (e ∷ filter is es) (filter is es)) marks
  chosen is true e es asks turn = record {
    before = turn.before;
    stretch = turn.stretch;
    after = turn.after;
    is = turn.is;
    meets = asks turn.stretch refl turn.meets;
    rest = turn.rest;
  }
  chosen is false e es asks turn =
      let behind = turns_late Q (filter is es) turn.after (turn.before ++ turn.stretch) turn.rest in
      subst (λ (ms : List Mark). InTurn Q (filter is es) ms)
      (append_assoc turn.before turn.stretch turn.after ∙ sym turn.is) behind

  pub turns_some : (is : E → Bool) → ((e : E) (ms : List Mark) → is e ≡ true → P e ms → Q e ms)
      → (es : List E)
      (marks : List Mark) → InTurn P es marks → InTurn Q (filter is es) marks
  turns_some is asks [] marks turns = tt
  turns_some is asks (e ∷ es) marks turns = chosen is (is e) e es (asks e) record {
    before = turns.before;
    stretch = turns.stretch;
    after = turns.after;
    is = turns.is;
    meets = turns.meets;
    rest = turns_some is asks es turns.after turns.rest;
  }

-- A stretch that has a stretch gives that one.
module _ {E : Type 0} (P : E → List Mark → Type 0) where
  pub turns_inner : (es : List E) (marks : List Mark) → InTurn (λ e ms. Had (P e) [] ms) es marks
      → InTurn P es marks
  turns_inner [] marks turns = tt
  turns_inner (e ∷ es) marks turns =
      let inner = turns.meets in
      record {
        before = turns.before ++ inner.before;
        stretch = inner.stretch;
        after = inner.after ++ turns.after;
        meets = inner.meets;
        rest = turns_late P es turns.after inner.after (turns_inner es turns.after turns.rest);
        is = turns.is
            ∙ ap (λ ms. turns.before ++ (ms ++ turns.after)) inner.is
            ∙ ap (λ ms. turns.before
            ++ ms) (append_assoc inner.before (inner.stretch ++ inner.after) turns.after
            ∙ ap (λ ms. inner.before ++ ms) (append_assoc inner.stretch inner.after turns.after))
            ∙ sym (append_assoc turns.before inner.before (inner.stretch
            ++ (inner.after ++ turns.after)));
      }
