-- What a call of the collector's seat owes for its operation, from its condition and from where its
-- word lies. A call speaks of the seat that it was given; its fields have the same one, opened.
use Rattle.std.proofs.Common.{◌≡◌, ◌<◌, ◌+◌, ◌*◌, ℕ, Bool, true, false, not, Option, Some, None}
use Rattle.std.proofs.Common.{is_none, refl, sym, ◌∙◌, ap, subst, arith}
use Rattle.std.proofs.lemmas.Bool.{and_parts, ltb-true}
use Rattle.cell_heap.specs.declared.progress.Progress.{Progress}
use Rattle.cell_heap.specs.Collecting.{IsCollector, IsWithin}
use Rattle.cell_heap.specs.Progress.{progress_of}
use Rattle.cell_words.specs.declared.controls.Control.{Control}
use Rattle.core_machine.specs.declared.events.Event.{Event}
use Rattle.core_machine.specs.declared.events.Event.TheVariants as event
use Rattle.core_machine.specs.declared.progress.Scanning.{Scanning}
use Rattle.core_machine.specs.declared.progress.Sweeping.{Sweeping}
use Rattle.core_machine.specs.declared.progress.Sweeping.TheVariants as sweeping
use Rattle.core_machine.specs.Collector.{Collector}
use Rattle.core_machine.specs.InRange.{ChildFits, ScanFits}
use Rattle.core_machine.specs.Next.{can, maker}
use Rattle.core_machine.specs.State.{State}
use Rattle.core_machine.specs.Sweep.{is_black_found, is_fresh, may_free, may_wipe, wiped_count}
use Rattle.core_machine.specs.Table.{Word, TheControl, StatusOf, ColourOf, FieldOf, HasWord}
use Rattle.core_machine.specs.Table.{index_of}
use Rattle.core_machine.specs.Tracing.{child_or_anchor, may_blacken, may_scan, may_shade}
use Rattle.core_machine.specs.Tracing.{scan_or_none}
use Rattle.core_machine.specs.WordOperations.{Operation, Exchange, Store, left_by, operation_of}
use Rattle.core_machine.specs.WordOperations.{word_of}
use Rattle.heap_rule.specs.Asks.{collector_state, known_state, told_by}
use Rattle.heap_rule.specs.Shape.{Shape}
use Rattle.heap_rule.specs.Steps.{CollectorOwes}
use Rattle.heap_rule.proofs.Owing.{collector_asks}
use Rattle.heap_table.specs.Seats.{HeapId, IsSeatOf, SeatView, words_many}

-- The word of an event of the collector is one that there is.

scan_there : (cells : ℕ) (scan : Option Scanning) → ScanFits cells scan → may_scan scan ≡ true
    → ((scan_or_none scan).cell < cells) × ((scan_or_none scan).next < 6)
scan_there cells None fits h = let no = h in absurd cc
scan_there cells (Some scan) fits h =
    let next : scan.next < 5 = ltb-true scan.next 5 (and_parts _ _ h).0 in
    (fits.0, omega (arith, next))

-- where a field may be loaded there is one
pub next_there : (known : Option Scanning) (scan : Scanning) → scan_or_none known ≡ scan
    → may_scan known ≡ true → scan.next < 6
next_there None scan is h = let no = h in absurd cc
next_there (Some known) scan is h =
    let next : known.next < 5 = ltb-true known.next 5 (and_parts _ _ h).0 in
    subst (λ (s : Scanning). s.next < 6) is (omega (arith, next))

child_there : (cells : ℕ) (scan : Option Scanning) → ScanFits cells scan → may_shade scan ≡ true
    → child_or_anchor (scan_or_none scan).child < cells
child_there cells None fits h = let no = h in absurd cc
child_there cells (Some scan) fits h = by_child scan.child fits.2 h
  where
    by_child : (child : Option ℕ) → ChildFits cells scan.next child
        → not (is_none child) ≡ true → child_or_anchor child < cells
    by_child None fits h = let no = h in absurd cc
    by_child (Some child) fits h = fits.1

scanned_there : (cells : ℕ) (scan : Option Scanning) → ScanFits cells scan
    → may_blacken scan ≡ true → (scan_or_none scan).cell < cells
scanned_there cells None fits h = let no = h in absurd cc
scanned_there cells (Some scan) fits h = fits.0

wiping_busy : (sweep : Sweeping) → may_wipe sweep ≡ true
    → (is_fresh sweep ≡ false) × (wiped_count sweep < 6)
wiping_busy sweeping.Fresh h = let no = h in absurd cc
wiping_busy (sweeping.Wiping k) h = (refl, ltb-true k 6 h)
wiping_busy sweeping.BlackFound h = let no = h in absurd cc
wiping_busy sweeping.Done h = let no = h in absurd cc

freeing_busy : (sweep : Sweeping) → may_free sweep ≡ true → is_fresh sweep ≡ false
freeing_busy sweeping.Fresh h = let no = h in absurd cc
freeing_busy (sweeping.Wiping k) h = refl
freeing_busy sweeping.BlackFound h = let no = h in absurd cc
freeing_busy sweeping.Done h = let no = h in absurd cc

whitening_busy : (sweep : Sweeping) → is_black_found sweep ≡ true → is_fresh sweep ≡ false
whitening_busy sweeping.Fresh h = let no = h in absurd cc
whitening_busy (sweeping.Wiping k) h = let no = h in absurd cc
whitening_busy sweeping.BlackFound h = refl
whitening_busy sweeping.Done h = let no = h in absurd cc

module _ (cells mutators : ℕ) (control : Control) (part : Collector) where
  abbrev known : State
  known = known_state cells mutators control part

  there : (e : Event) → maker e ≡ None → IsWithin cells control (progress_of part)
      → can known e ≡ true → HasWord known (word_of known e)
  there (event.Begin i) made within h = let no = made in absurd cc
  there (event.Look i) made within h = let no = made in absurd cc
  there (event.Read i place f) made within h = let no = made in absurd cc
  there (event.Fetch i place f) made within h = let no = made in absurd cc
  there (event.Mark i place) made within h = let no = made in absurd cc
  there (event.Write i place f old new) made within h = let no = made in absurd cc
  there (event.Store i new) made within h = let no = made in absurd cc
  there (event.Claim i c) made within h = let no = made in absurd cc
  there (event.Fill i place f value) made within h = let no = made in absurd cc
  there (event.Seal i place of) made within h = let no = made in absurd cc
  there (event.Answer i) made within h = let no = made in absurd cc
  there (event.Keep i n from copies) made within h = let no = made in absurd cc
  there (event.End i) made within h = let no = made in absurd cc
  there (event.Over i) made within h = let no = made in absurd cc
  there (event.Post target) made within h = tt
  there (event.Duty on) made within h = tt
  there (event.Poll i) made within h = ltb-true i mutators (and_parts _ _ h).1
  there (event.AnswerOut i over) made within h =
      ltb-true i mutators (and_parts _ _ (and_parts _ _ h).0).1
  there event.ClearCell made within h = ltb-true part.cursor cells (and_parts _ _ h).1
  there event.Anchor made within h = within.some_cells
  there (event.See c) made within h = ltb-true c cells (and_parts _ _ h).1
  there event.Scan made within h = scan_there cells part.scan within.scan_fits h
  there event.Shade made within h = child_there cells part.scan within.scan_fits h
  there event.Blacken made within h = scanned_there cells part.scan within.scan_fits h
  there event.SweepLook made within h =
      ltb-true control.position cells (and_parts _ _ (and_parts _ _ (and_parts _ _ h).0).0).1
  there event.Wipe made within h =
      let wiping = wiping_busy part.sweep h in (within.busy wiping.0, wiping.1)
  there event.Free made within h = within.busy (freeing_busy part.sweep h)
  there event.Whiten made within h = within.busy (whitening_busy part.sweep h)
  there event.Advance made within h = tt

  in_table : (w : Word) → HasWord known w
      → index_of mutators w < 1 + mutators + 7 * cells
  in_table TheControl h = omega arith
  in_table (StatusOf i) h = omega (arith, h)
  in_table (ColourOf c) h = omega (arith, h)
  in_table (FieldOf c f) h = omega (arith, h.0, h.1)

module _ {P : Type 0} where
  -- the event that the condition allows, by the operation and on the word that the table has for it
  pub owes : {old inside : SeatView P} (fixed : ℕ → Bool) (e : Event) (word : ℕ) (o : Operation)
      → inside ≡ old → maker e ≡ None → can (collector_state old.me) e ≡ true
      → index_of inside.me.shape.mutators (word_of (collector_state inside.me) e) ≡ word
      → operation_of (collector_state inside.me) e ≡ o
      → CollectorOwes fixed inside.me e word (left_by o) (told_by o)
  owes {old} {inside} fixed e word o is made allowed at by =
      let happens : can (collector_state inside.me) e ≡ true =
      subst (λ (s : SeatView P). can (collector_state s.me) e ≡ true) (sym is) allowed in
      subst
      (λ (x : ℕ × Operation). CollectorOwes fixed inside.me e x.0 (left_by x.1) (told_by x.1))
      (λ t. (at t, by t)) (collector_asks fixed inside.me e made happens)

  -- the condition, of the seat opened
  pub allowed : {old inside : SeatView P} (e : Event) → inside ≡ old
      → can (collector_state old.me) e ≡ true → can (collector_state inside.me) e ≡ true
  allowed e is h =
      subst (λ (s : SeatView P). can (collector_state s.me) e ≡ true) (sym is) h

  -- and its word lies in the table
  pub below : {cells mutators : ℕ} {control : Control} {progress : Progress}
      {old inside : SeatView P} (heap : HeapId) (e : Event) {word : ℕ} → inside ≡ old
      → IsSeatOf heap old
      → IsCollector inside.me cells mutators control progress → maker e ≡ None
      → can (collector_state old.me) e ≡ true
      → index_of inside.me.shape.mutators (word_of (collector_state inside.me) e) ≡ word
      → word < words_many heap.shape
  below {cells} {mutators} {control} {progress} {old} {inside} heap e is of at_hand made h at =
      let shape : inside.me.shape ≡ heap.shape =
      ap (λ (s : SeatView P). s.me.shape) is ∙ of.1 in
      let within : IsWithin inside.me.shape.cells inside.me.control (progress_of inside.me.part) =
      subst (λ (x : (ℕ × Control) × Progress). IsWithin x.0.0 x.0.1 x.1)
      (λ j. ((sym at_hand.cells_are j, sym at_hand.control_is j), sym at_hand.progress_is j))
      at_hand.within in
      let lies : index_of inside.me.shape.mutators (word_of (collector_state inside.me) e)
      < words_many inside.me.shape =
      in_table inside.me.shape.cells inside.me.shape.mutators inside.me.control inside.me.part
      (word_of (collector_state inside.me) e)
      (there inside.me.shape.cells inside.me.shape.mutators inside.me.control inside.me.part e made
      within (allowed e is h)) in
      subst (λ (x : ℕ × Shape). x.0 < words_many x.1) (λ j. (at j, shape j)) lies

-- The operations.

pub exchanges : (old new first second : ℕ) → old ≡ first → new ≡ second
    → Exchange first second ≡ Exchange old new
exchanges old new first second from to = (λ j. Exchange (sym from j) (sym to j))

pub stores : (number new : ℕ) → number ≡ new → Store new ≡ Store number
stores number new is = ap Store (sym is)
