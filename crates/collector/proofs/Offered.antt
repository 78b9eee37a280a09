-- Offers are counted, and follow the cells that the events free.
use Rattle.std.proofs.Common.{◌≡◌, ◌+◌, inl, inr, ℕ, Bool, true, false, cond, List, [], ◌∷◌, ◌++◌}
use Rattle.std.proofs.Common.{drop, length, refl, sym, ◌∙◌, ap, subst, arith}
use Rattle.std.proofs.Math.Seq.{drop-append_seam}
use Rattle.std.proofs.lemmas.Bool.{false≢true}
use Rattle.std.proofs.lemmas.List.{append_assoc}
use Rattle.std.specs.List.{count_by}
use Rattle.cell_heap.specs.Telling.{FindsKnown}
use Rattle.cell_words.specs.declared.controls.Control.{Control}
use Rattle.core_machine.specs.Collector.{control_after}
use Rattle.core_machine.specs.declared.events.Event.{Event}
use Rattle.core_machine.specs.declared.events.Event.TheVariants as event
use Rattle.core_machine.specs.declared.events.Found.{Found}
use Rattle.core_machine.specs.declared.events.Found.TheVariants as finds
use Rattle.core_machine.specs.declared.events.Taken.{Taken}
use Rattle.free_cells.specs.declared.counts.Counts.{Counts}
use Rattle.heap_rule.specs.Asks.{collector_state}
use Rattle.heap_rule.specs.Rule.{took}
use Rattle.heap_table.specs.Seats.{SeatView}
use Rattle.collector.specs.Bound.{Bound, control_of, part_of, takes, tells_at}
use Rattle.collector.specs.Counting.{Counts as CountsTo, Does, frees, is_free}
use Rattle.collector.specs.Offering.{Offers, OffersAll, freed_along, freed_since, frees_at}
use Rattle.collector.specs.Replay.{work_of}
use Rattle.collector.specs.Stretches.{Stretch, Took}
use Rattle.collector.specs.declared.report.CycleReport.{CycleReport}
use Rattle.collector.proofs.Counted.{count_append, is_still, still_stack}
use Rattle.collector.proofs.Joining.{does_one, stretch_one}

pub offer_counts : (cell : ℕ) (old new : Counts) → Offers cell old new → new.puts ≡ old.puts + 1
offer_counts cell old new offered =
    elim offered [
      | inl joined ↦ ap (λ (c : Counts). c.puts) joined
      | inr refused ↦ ap (λ (c : Counts). c.puts) refused
    ]

offers_append : (xs ys : List ℕ) (a b c : Counts) → OffersAll xs a b → OffersAll ys b c
    → OffersAll (xs ++ ys) a c
offers_append [] ys a b c first second = subst (λ (x : Counts). OffersAll ys x c) first second
offers_append (x ∷ xs) ys a b c first second = (
  first.0,
  first.1,
  offers_append xs ys first.0 b c first.2 second,
)

-- The control after events.
abbrev control_along : Control → List Taken → Control
control_along control [] = control
control_along control (t ∷ ts) = control_along (control_after control t.event) ts

freed_append : (control : Control) (xs ys : List Taken)
    → freed_along control (xs ++ ys)
    ≡ freed_along control xs ++ freed_along (control_along control xs) ys
freed_append control [] ys = refl
freed_append control (x ∷ xs) ys =
    let next = control_after control x.event in
    ap (λ (cells : List ℕ). frees_at control x.event ++ cells) (freed_append next xs ys)
    ∙ sym (append_assoc (frees_at control x.event) (freed_along next xs)
    (freed_along (control_along next xs) ys))

-- Events without a Free free nothing.

frees_none : (control : Control) (e : Event) → is_free e ≡ false → frees_at control e ≡ []
frees_none control event.Free none = absurd (false≢true (sym none))
frees_none control _ none = refl

is_none : (b : Bool) (k : ℕ) → 0 + cond b 1 0 + k ≡ 0 → b ≡ false
is_none true k none = absurd (omega (arith, none))
is_none false k none = refl

rest_none : (b k : ℕ) → 0 + b + k ≡ 0 → k ≡ 0
rest_none b k none = omega (arith, none)

pub freed_none : (control : Control) (events : List Taken)
    → count_by (λ (t : Taken). is_free t.event) events ≡ 0 → freed_along control events ≡ []
freed_none control [] none = refl
freed_none control (t ∷ ts) none =
    let rest = count_by (λ (u : Taken). is_free u.event) ts in
    let sum = sym (count_append (λ (u : Taken). is_free u.event) (t ∷ []) ts) ∙ none in
    ap (λ (cells : List ℕ). cells ++ freed_along (control_after control t.event) ts)
    (frees_none control t.event (is_none (is_free t.event) rest sum))
    ∙ freed_none (control_after control t.event) ts
    (rest_none (cond (is_free t.event) 1 0) rest sum)

module _ {P : Type 0} where
  control_is : (a b : SeatView P) (xs : List Taken) → Took a xs b
      → b.me.control ≡ control_along a.me.control xs
  control_is a b [] told = ap (λ (x : SeatView P). x.me.control) told
  control_is a b (x ∷ xs) told =
      control_is (tells_at a x.event x.found told.0) b xs told.2

  pub freed_by : (a b : Bound P) (xs : List Taken) → b.seat.me.trail ≡ a.seat.me.trail ++ xs
      → freed_since a b ≡ freed_along (control_of a) xs
  freed_by a b xs trail =
      ap (λ (events : List Taken). freed_along (control_of a) events)
      (ap (λ (ys : List Taken). drop (length a.seat.me.trail) ys) trail
      ∙ drop-append_seam a.seat.me.trail xs)

  pub freed_then : (F G : List Taken → Type 0) (a b c : Bound P) → Stretch F a b → Stretch G b c
      → freed_since a c ≡ freed_since a b ++ freed_since b c
  freed_then F G a b c first second =
      freed_by a c (first.added ++ second.added) (second.trail
      ∙ ap (λ (xs : List Taken). xs ++ second.added) first.trail
      ∙ append_assoc a.seat.me.trail first.added second.added)
      ∙ freed_append (control_of a) first.added second.added
      ∙ ap (λ (x : Control). freed_along (control_of a) first.added
      ++ freed_along x second.added) (sym (control_is a.seat b.seat first.added first.told))
      ∙ ap (λ (cells : List ℕ). freed_along (control_of a) first.added ++ cells)
      (sym (freed_by b c second.added second.trail))
      ∙ ap (λ (cells : List ℕ). cells ++ freed_since b c)
      (sym (freed_by a b first.added first.trail))

  pub offers_then : (F G : List Taken → Type 0) (a b c : Bound P) (m n o : Counts)
      → Stretch F a b → Stretch G b c → OffersAll (freed_since a b) m n
      → OffersAll (freed_since b c) n o → OffersAll (freed_since a c) m o
  offers_then F G a b c m n o first second offers more =
      subst (λ (cells : List ℕ). OffersAll cells m o) (sym (freed_then F G a b c first second))
      (offers_append (freed_since a b) (freed_since b c) m n o offers more)

  -- A stretch that frees nothing offers nothing.

  pub offers_none : (r : CycleReport) (a b : Bound P) (m : Counts) → r.freed ≡ 0 → Does r a b
      → OffersAll (freed_since a b) m m
  offers_none r a b m none does =
      subst (λ (cells : List ℕ). OffersAll cells m m)
      (sym (freed_by a b does.added does.trail
      ∙ freed_none (control_of a) does.added (does.fact.comes.freed_are ∙ none))) refl

  -- before others
  pub offers_after : (r : CycleReport) (G : List Taken → Type 0) (a b c : Bound P) (m n : Counts)
      → r.freed ≡ 0 → Does r a b → Stretch G b c → OffersAll (freed_since b c) m n
      → OffersAll (freed_since a c) m n
  offers_after r G a b c m n none does second offers =
      offers_then (CountsTo (work_of a) (work_of b) r) G a b c m m n does second
      (offers_none r a b m none does) offers

  -- an event that frees nothing, after others
  pub offers_and : (F : List Taken → Type 0) (a b c : Bound P) (m n : Counts) (e : Event)
      (found : Found) → is_free e ≡ false → is_still e ≡ true → c ≡ takes b e found
      → FindsKnown b.seat.me e found → Stretch F a b → OffersAll (freed_since a b) m n
      → OffersAll (freed_since a c) m n
  offers_and F a b c m n e found none still is known first offers =
      let last = stretch_one (λ (xs : List Taken). xs ≡ took e found ∷ []) b c e found
      (collector_state b.seat.me) (ap (λ (x : Bound P). x.heap) is)
      (ap (λ (x : Bound P). x.seat) is)
      (ap (λ (x : Bound P). x.stack) is ∙ sym (still_stack b.stack (part_of b) e still)) known
      refl in
      offers_then F (λ (xs : List Taken). xs ≡ took e found ∷ []) a b c m n n first last offers
      (subst (λ (cells : List ℕ). OffersAll cells n n)
      (sym (freed_by b c (took e found ∷ []) (ap (λ (x : Bound P). x.seat.me.trail) is)
      ∙ ap (λ (cells : List ℕ). cells ++ []) (frees_none (control_of b) e none))) refl)

  -- A Free, and the offer of its cell after it.

  pub free_does : (a b : Bound P) → b ≡ takes a event.Free finds.Stored
      → FindsKnown a.seat.me event.Free finds.Stored → Does (frees 1) a b
  free_does a b is known =
      does_one (frees 1) a b event.Free finds.Stored is known refl
      (record {
        on = refl;
        answers = (tt, tt);
        comes = record {
          leads = refl;
          passes_are = refl;
          scanned_are = refl;
          freed_are = refl;
          stacked_are = refl;
          spilled_are = refl;
          straight = refl;
        };
      })

  pub offers_one : (a b : Bound P) (m n : Counts) → b ≡ takes a event.Free finds.Stored
      → Offers (control_of b).position m n → OffersAll (freed_since a b) m n
  offers_one a b m n is offers =
      subst (λ (cells : List ℕ). OffersAll cells m n)
      (sym (ap (λ (x : Bound P). freed_since a x) is
      ∙ ap (λ (events : List Taken). freed_along (control_of a) events)
      (drop-append_seam a.seat.me.trail (took event.Free finds.Stored ∷ [])))) (
        n,
        subst (λ (x : Control). Offers x.position m n) (ap (λ (x : Bound P). control_of x) is)
            offers,
        refl,
      )
