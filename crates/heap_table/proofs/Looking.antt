-- A look of the collector at a word tells too that mutators whose seats are joined are over: the
-- ledger has of each what its seat left, and the words are those of the ledger's state.
use Rattle.std.proofs.Common.{◌≡◌, ◌<◌, ◌≤◌, ℕ, Bool, List, None, slice_index, sym, ◌∙◌, ap}
use Rattle.std.proofs.Common.{subst, arith}
use mathlib.Core.Option.{some}
use lib.ListN.{get_elem?}
use Rattle.atomic_table.specs.Table as table
use Rattle.core_machine.specs.Next.{maker}
use Rattle.core_machine.specs.State.{greatest_cells, presence_of}
use Rattle.core_machine.specs.Table.{StatusOf, index_of, words_of}
use Rattle.core_machine.specs.declared.events.Event.{Event}
use Rattle.core_machine.specs.declared.events.Event.TheVariants as event
use Rattle.core_machine.proofs.HasWords.{found_valid}
use Rattle.core_machine.proofs.Table.{word_read}
use Rattle.heap_rule.specs.Boxes.{Map, Smaller}
use Rattle.heap_rule.specs.Rule.{CollectorFits, Kept, PlaceFits, SeatFits}
use Rattle.heap_rule.specs.Shape.{Shape}
use Rattle.heap_rule.specs.Steps.{AtCollectorStep, CollectorOwes}
use Rattle.heap_rule.specs.declared.view.Place.{Place}
use Rattle.heap_rule.specs.declared.view.Place.TheVariants as places
use Rattle.heap_rule.specs.declared.view.Role.{Role}
use Rattle.heap_rule.specs.declared.view.Role.TheVariants as role
use Rattle.heap_rule.specs.declared.view.View.{View}
use Rattle.heap_rule.proofs.Moving.{some_below}
use Rattle.heap_rule.proofs.Stepping.{collector_step, core_shaped, core_words}
use Rattle.heap_table.specs.Joined.{JoinedIsOver}

module _ {P : Type 0} (opens : ℕ → ℕ → P) (holds : Map → List P → Type 0)
    (fixed : ℕ → Bool) (h : Shape) where
  -- what the ledger has of a joined mutator
  joined_over : {S : Type 0} (id : ℕ) (v : View P) (word : ℕ) (s : table.State S (View P))
      (k : Kept opens holds fixed h s) → CollectorFits h k.ledger id v
      → JoinedIsOver v word (slice_index s.words word)
  joined_over id v word s k fits i joined at =
      let l = k.ledger in
      let share = joined.0 in
      let place : PlaceFits opens h l i (places.Joined share) =
      k.each_place i (places.Joined share)
      (ap (λ (ps : List (Place P)). get_elem? ps i) fits.places ∙ joined.1) in
      let shaped = core_shaped holds fixed h l k.stands in
      let below = some_below l.passes i share.pass place.0.pass in
      let many = k.stands.passes_fit in
      let mutators = k.stands.mutators in
      let there : i < l.core.mutators = omega (arith, below, many, mutators) in
      let few = k.stands.sound.few in
      let cells = k.stands.cells in
      record {
        presence = presence_of l.core i;
        valid = found_valid l.core (event.Poll i) record {
          shape = shaped;
          few_cells = subst (λ (n : ℕ). n ≤ greatest_cells) (sym cells) few;
        } (core_words holds fixed h l k.stands);
        word_is = sym (ap (λ (ns : List ℕ). slice_index ns word) k.words_are
            ∙ ap (λ (n : ℕ). slice_index (words_of l.core) n)
            (at ∙ ap (λ (x : Shape). index_of x.mutators (StatusOf i)) fits.shape
            ∙ ap (λ (n : ℕ). index_of n (StatusOf i)) (sym mutators))
            ∙ word_read l.core shaped (StatusOf i) there);
        over = sym place.0.presence.over ∙ place.1;
      }

  pub collector_look : ((old new : Map) (passes : List P) → Smaller old new → holds old passes
      → holds new passes)
      → {S : Type 0} (slots id : ℕ) (me : table.Me S (View P)) (e : Event) (word : ℕ)
      (f g : ℕ → ℕ)
      → me.0.role ≡ role.Collector → maker e ≡ None → CollectorOwes fixed me.0 e word f g
      → table.Allows (Kept opens holds fixed h) slots id me word f
      (λ n m. AtCollectorStep fixed me.0 e (g n) m.0 × JoinedIsOver me.0 word n × (m.1 ≡ me.1))
  collector_look shrinks slots id me e word f g is made owes s k fit there bound =
      let step = collector_step opens holds fixed h shrinks slots id me e word f g is made owes s k
      fit there bound in
      let fits : CollectorFits h k.ledger id me.0 =
      subst (λ (r : Role). SeatFits h k.ledger id me.0 r) is (k.each_seat id me.0 there) in (
        step.0,
        step.1,
        step.2,
        step.3,
        (step.4.0, joined_over id me.0 word s k fits, step.4.1),
      )
