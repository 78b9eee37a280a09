-- Events of copying, one after the other.
use Rattle.std.proofs.Common.{◌≡◌, ◌<◌, ◌≤◌, ◌⊎◌, ℕ, List, [], ◌∷◌, ◌++◌, length}
use Rattle.std.proofs.Common.{true, refl, sym, ap, subst, arith, ⊎_elim}
use Rattle.std.specs.List.{list_all}
use Rattle.std.proofs.lemmas.Bool.{and_parts}
use Rattle.std.proofs.lemmas.List.{append-nil}
use Rattle.std.proofs.lemmas.List.Elements.{All-append, All-cons, All-nil}
use Rattle.cell_words.specs.declared.colours.Colour.TheVariants as colour
use Rattle.core_machine.specs.declared.events.Event.{Event}
use Rattle.core_machine.specs.declared.events.Event.TheVariants as event
use Rattle.core_machine.specs.declared.events.Found.{Found}
use Rattle.core_machine.specs.declared.events.Found.TheVariants as finds
use Rattle.core_machine.specs.declared.events.Taken.{Taken}
use Rattle.heap_rule.specs.Rule.{took}
use Rattle.mutator_seat.specs.Bound.{Bound, takes}
use Rattle.mutator_seat.specs.Claims.{Claimed, Seeking, seeks}
use Rattle.mutator_seat.specs.Stretches.{Calm}
use Rattle.promotion.specs.Linking.{AreCopying, AreKeeping, CopiesFrom, KeepsCopies, KeepsFrom}
use Rattle.promotion.specs.Linking.{LinksNothing}
use Rattle.promotion.specs.Promoting.{Adds}
use Rattle.promotion.proofs.Stretching.{adds_then}

seeks_copies : (held : ℕ) (e : Event) (found : Found) → seeks e found ≡ true → CopiesFrom held e
seeks_copies held (event.Look i) found is = tt
seeks_copies held (event.Mark i place) found is = tt
seeks_copies held (event.Answer i) found is = tt
seeks_copies held (event.Claim i cell) found is = tt
seeks_copies held e found is = absurd cc

seeking_copies : (held : ℕ) (es : List Taken) → Seeking es → AreCopying held es
seeking_copies held [] are = All-nil (λ (t : Taken). CopiesFrom held t.event)
seeking_copies held (t ∷ ts) are =
    let parts = and_parts (seeks t.event t.found)
    (list_all (λ (u : Taken). seeks u.event u.found) ts) are in
    All-cons (λ (u : Taken). CopiesFrom held u.event) t ts
    (seeks_copies held t.event t.found parts.0) (seeking_copies held ts parts.1)

copies_less : (held more : ℕ) → held ≤ more → (e : Event) → CopiesFrom more e → CopiesFrom held e
copies_less held more le (event.Look i) is = tt
copies_less held more le (event.Mark i place) is = tt
copies_less held more le (event.Answer i) is = tt
copies_less held more le (event.Claim i cell) is = tt
copies_less held more le (event.Fill i place f value) is = omega (arith, le, is)
copies_less held more le (event.Seal i place k) is = (omega (arith, le, is.0), is.1)
copies_less held more le e is = absurd is

keeps_less : (number base more : ℕ) → base ≤ more → (e : Event) → KeepsFrom number more e
    → KeepsFrom number base e
keeps_less number base more le (event.Keep i n place count) is = (is.0, omega (arith, le, is.1))
keeps_less number base more le e is = absurd is

equal_or : (n k : ℕ) → n ≤ k → (k ≡ n) ⊎ (n < k)
equal_or n k le = search (arith, le)

module _ {P : Type 0} where
  abbrev pub Copying : ℕ → Bound P → Bound P → Type 0
  Copying held a b = Adds (AreCopying held) a b

  pub copying_none : (held : ℕ) (a : Bound P) → Copying held a a
  copying_none held a = record {
    added = [];
    told = refl;
    fact = All-nil (λ (t : Taken). CopiesFrom held t.event);
  }

  pub copying_then : (held : ℕ) (a b c : Bound P) → Copying held a b → Copying held b c
      → Copying held a c
  copying_then held a b c first second =
      adds_then (AreCopying held) (AreCopying held) (AreCopying held) a b c
      (λ xs ys f s. All-append (λ (t : Taken). CopiesFrom held t.event) xs ys f s) first second

  pub copying_event : (held : ℕ) (a b : Bound P) (e : Event) (found : Found) → CopiesFrom held e
      → b ≡ takes a e found → Copying held a b
  copying_event held a b e found is told = record {
    added = took e found ∷ [];
    told = told;
    fact = All-cons (λ (t : Taken). CopiesFrom held t.event) (took e found) [] is
        (All-nil (λ (t : Taken). CopiesFrom held t.event));
  }

  pub copying_calm : (held : ℕ) (a b : Bound P) → Calm Seeking a b → Copying held a b
  copying_calm held a b calm = record {
    added = calm.added;
    told = calm.told;
    fact = seeking_copies held calm.added calm.fact;
  }

  pub copy_begun : (held : ℕ) (old m : Bound P) (place : ℕ) → Claimed old place m
      → Copying held old m
  copy_begun held old m place got =
      copying_then held old got.at m (copying_calm held old got.at got.calm)
      (copying_event held got.at m (event.Claim got.at.seat.me.number got.cell)
      (finds.Colour colour.Blue) tt got.told)

  -- a further copy is held further on
  pub copying_on : (held more : ℕ) (a b c : Bound P) → held ≤ more → Copying held a b
      → Copying more b c → Copying held a c
  copying_on held more a b c le first second =
      copying_then held a b c first record {
        added = second.added;
        told = second.told;
        fact = λ k d lt. copies_less held more le _ (second.fact k d lt);
      }

  -- Events that choose what stays held.

  abbrev pub Keeping : ℕ → ℕ → Bound P → Bound P → Type 0
  Keeping number base a b = Adds (AreKeeping number base) a b

  pub keeping_none : (number base : ℕ) (a : Bound P) → Keeping number base a a
  keeping_none number base a = record {
    added = [];
    told = refl;
    fact = All-nil (λ (t : Taken). KeepsFrom number base t.event);
  }

  pub keeping_event : (number base : ℕ) (a b : Bound P) (n place count : ℕ)
      → a.seat.me.number ≡ number → base ≤ n
      → b ≡ takes a (event.Keep a.seat.me.number n place count)
      (finds.Presence a.seat.me.presence) → Keeping number base a b
  keeping_event number base a b n place count is le told =
      let keep = took (event.Keep a.seat.me.number n place count)
      (finds.Presence a.seat.me.presence) in
      record {
        added = keep ∷ [];
        told = told;
        fact = All-cons (λ (t : Taken). KeepsFrom number base t.event) keep [] (is, le)
            (All-nil (λ (t : Taken). KeepsFrom number base t.event));
      }

  pub keeping_then : (number base : ℕ) (a b c : Bound P) → Keeping number base a b
      → Keeping number base b c → Keeping number base a c
  keeping_then number base a b c first second =
      adds_then (AreKeeping number base) (AreKeeping number base) (AreKeeping number base) a b c
      (λ xs ys f s. All-append (λ (t : Taken). KeepsFrom number base t.event) xs ys f s) first
      second

  pub keeping_less : (number base more : ℕ) (a b : Bound P) → base ≤ more
      → Keeping number more a b → Keeping number base a b
  keeping_less number base more a b le so = record {
    added = so.added;
    told = so.told;
    fact = λ k d lt. keeps_less number base more le _ (so.fact k d lt);
  }

  -- what was copied comes after, and then it is chosen what stays
  pub copies_kept : (number base held : ℕ) (a b c : Bound P) → Copying held a b
      → Keeping number base b c → Adds (KeepsCopies number base held) a c
  copies_kept number base held a b c first second =
      adds_then (AreCopying held) (AreKeeping number base) (KeepsCopies number base held) a b c
      (λ xs ys f s. record { copying = xs; keeping = ys; split = refl; copies = f; keeps = s })
      first second

  -- all places of copies are given up
  pub links_nothing : (held : ℕ) (a b c : Bound P) → b.seat.me.number ≡ a.seat.me.number
      → held ≤ length b.seat.me.own.held → Copying held a b
      → (length b.seat.me.own.held ≡ held → c ≡ b)
      → (held < length b.seat.me.own.held
      → c ≡ takes b (event.Keep b.seat.me.number held 0 0) (finds.Presence b.seat.me.presence))
      → Adds (LinksNothing a.seat.me.number held) a c
  links_nothing held a b c number le so same cut =
      let Nothing = LinksNothing a.seat.me.number held in
      ⊎_elim
      (λ (is : length b.seat.me.own.held ≡ held).
      subst (λ (m : Bound P). Adds Nothing a m) (sym (same is)) record {
        added = so.added;
        told = so.told;
        fact = record {
          copying = so.added;
          back = [];
          split = sym (append-nil so.added);
          copies = so.fact;
          lets_go = tt;
        };
      })
      (λ (more : held < length b.seat.me.own.held).
      let keep = event.Keep b.seat.me.number held 0 0 in
      let found = finds.Presence b.seat.me.presence in
      adds_then (AreCopying held) (λ es. es ≡ took keep found ∷ []) Nothing a b c
      (λ xs ys copies is. record {
        copying = xs;
        back = took keep found ∷ [];
        split = ap (λ (zs : List Taken). xs ++ zs) is;
        copies = copies;
        lets_go = ap (λ (n : ℕ). event.Keep n held 0 0) number;
      })
      so record { added = took keep found ∷ []; told = cut more; fact = refl })
      (equal_or held (length b.seat.me.own.held) le)
