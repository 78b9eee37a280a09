-- The facts on lore stay with every event, by kinds.
--
-- A kind of change has a file of its own: Quiet, Holding, Reading, Claiming, Storing with Writing,
-- Sealing; Carried has what an event leaves of the cells that it does not change. Of the core's
-- invariant they use: no reachable cell is free, a free cell has null fields, who is out holds
-- nothing, the anchor is a box, a raw cell is held once, and live cells name sealed ones.
use Rattle.std.proofs.Common.{◌≡◌, ℕ, Bool, true, refl, sym, subst}
use Rattle.core_machine.specs.declared.events.Event.{Event}
use Rattle.core_machine.specs.declared.events.Event.TheVariants as event
use Rattle.core_machine.specs.InRange.{IsShaped}
use Rattle.core_machine.specs.Next.{can, after}
use Rattle.core_machine.specs.Own.{looked, marking, spent}
use Rattle.core_machine.specs.State.{State, held_of, own_of, target_of}
use Rattle.dlg_core.specs.Consistent.{IsConsistent}
use Rattle.dlg_core.proofs.Step.{consistent_after}
use Rattle.heap_rule.specs.Facts.{Facts, Proper}
use Rattle.heap_rule.specs.Lore.{Lore, cells_of, lore_after}
use Rattle.heap_rule.proofs.Claiming.{facts_claim}
use Rattle.heap_rule.proofs.Holding.{facts_begin, facts_end, facts_keep}
use Rattle.heap_rule.proofs.Quiet.{cells_marked, cells_own, cells_unmarked, known_back, quiet_facts}
use Rattle.heap_rule.proofs.Reading.{facts_fetch, facts_read, facts_wipe}
use Rattle.heap_rule.proofs.Sealing.{facts_seal}
use Rattle.heap_rule.proofs.Writing.{facts_fill, facts_store, facts_write}

module _ (fixed : ℕ
    → Bool) (s : State) (l : Lore) (shape : IsShaped s) (k : IsConsistent s)
    (facts : Facts fixed s l) where
  -- an event of the collector that changes no field and no mutator's cells
  quiet : (e : Event) → can s e ≡ true → (after s e).rows ≡ s.rows
      → ((i : ℕ) → cells_of (after s e) i ≡ cells_of s i)
      → (after s e).mutators ≡ s.mutators → Facts fixed (after s e) l
  quiet e h rows cells mutators =
      quiet_facts s (after s e) k rows cells fixed l (consistent_after s e shape k h) mutators facts

  -- or of mutator i, whose knowledge is written back
  quiet_by : (i : ℕ) (e : Event) → can s e ≡ true → (after s e).rows ≡ s.rows
      → ((j : ℕ) → cells_of (after s e) j ≡ cells_of s j)
      → (after s e).mutators ≡ s.mutators → lore_after s l e ≡ l
      → Facts fixed (after s e) (lore_after s l e)
  quiet_by i e h rows cells mutators same =
      subst (λ (m : Lore). Facts fixed (after s e) m) (sym same) (quiet e h rows cells mutators)

  pub facts_after : (e : Event) → can s e ≡ true → Proper fixed s l e
      → Facts fixed (after s e) (lore_after s l e)
  facts_after (event.Begin i) h p = facts_begin fixed s l i shape k facts h
  facts_after (event.Look i) h p = quiet_by i (event.Look i) h refl
      (cells_own s i (looked (own_of s i) s.control) (cells_unmarked (held_of s i))) refl
      (known_back l i)
  facts_after (event.Read i place f) h p = facts_read fixed s l i place f shape k h facts
  facts_after (event.Mark i place) h p = quiet_by i (event.Mark i place) h refl
      (cells_own s i (marking (own_of s i) (target_of s i place))
      (cells_marked (target_of s i place) (held_of s i))) refl (known_back l i)
  facts_after (event.Write i place f old new) h p = facts_write fixed s l i place f shape k facts
      old new h p
  facts_after (event.Fetch i place f) h p = facts_fetch fixed s l i place f shape k h facts
  facts_after (event.Store i new) h p = facts_store fixed s l i shape k facts new h p
  facts_after (event.Claim i c) h p = facts_claim fixed s l i c shape k h facts
  facts_after (event.Fill i place f value) h p = facts_fill fixed s l i place f shape k facts value
      h
  facts_after (event.Seal i place of) h p = facts_seal fixed s l i place of shape k h p facts
  facts_after (event.Answer i) h p = quiet_by i (event.Answer i) h refl
      (cells_own s i (spent (own_of s i)) (cells_unmarked (held_of s i))) refl (known_back l i)
  facts_after (event.Keep i count from copies) h p = facts_keep fixed s l i shape k facts count from
      copies h
  facts_after (event.End i) h p = facts_end fixed s l i shape k facts h
  facts_after (event.Over i) h p = quiet_by i (event.Over i) h refl (λ j. refl) refl
      (known_back l i)
  facts_after (event.Post target) h p = quiet (event.Post target) h refl (λ i. refl) refl
  facts_after (event.Duty on) h p = quiet (event.Duty on) h refl (λ i. refl) refl
  facts_after (event.Poll i) h p = quiet (event.Poll i) h refl (λ j. refl) refl
  facts_after (event.AnswerOut i over) h p = quiet (event.AnswerOut i over) h refl (λ j. refl) refl
  facts_after event.ClearCell h p = quiet event.ClearCell h refl (λ i. refl) refl
  facts_after event.Anchor h p = quiet event.Anchor h refl (λ i. refl) refl
  facts_after (event.See c) h p = quiet (event.See c) h refl (λ i. refl) refl
  facts_after event.Scan h p = quiet event.Scan h refl (λ i. refl) refl
  facts_after event.Shade h p = quiet event.Shade h refl (λ i. refl) refl
  facts_after event.Blacken h p = quiet event.Blacken h refl (λ i. refl) refl
  facts_after event.SweepLook h p = quiet event.SweepLook h refl (λ i. refl) refl
  facts_after event.Wipe h p = facts_wipe fixed s l shape k h facts
  facts_after event.Free h p = quiet event.Free h refl (λ i. refl) refl
  facts_after event.Whiten h p = quiet event.Whiten h refl (λ i. refl) refl
  facts_after event.Advance h p = quiet event.Advance h refl (λ i. refl) refl
