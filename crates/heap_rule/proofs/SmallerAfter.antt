-- The boxes after an event are a smaller map than those that it would leave if nothing became
-- unreachable, by kinds.
use Rattle.std.proofs.Common.{◌≡◌, ◌≢◌, ◌<◌, ◌==◌, ℕ, Bool, true, false, List, [], if◌then◌else◌}
use Rattle.std.proofs.Common.{Option, Some, None, inl, inr}
use Rattle.std.proofs.Common.{refl, sym, ◌∙◌, ap, subst}
use Rattle.std.proofs.Math.ListN.{set}
use Rattle.std.proofs.lemmas.Bool.{cases_eq, eqb-true, eq-eqb}
use Rattle.cell_words.specs.declared.colours.Colour.{Colour}
use Rattle.cell_words.specs.declared.colours.Colour.TheVariants as colour
use Rattle.cell_words.specs.declared.fields.Field.{Field}
use Rattle.cell_words.specs.declared.fields.Field.TheVariants as field
use Rattle.cell_words.specs.declared.fields.Kind.{Kind}
use Rattle.core_machine.specs.declared.events.Event.{Event}
use Rattle.core_machine.specs.declared.events.Event.TheVariants as event
use Rattle.core_machine.specs.InRange.{IsShaped}
use Rattle.core_machine.specs.Next.{can, after}
use Rattle.core_machine.specs.Own.{Own, having_claimed, looked, marking, spent}
use Rattle.core_machine.specs.State.{State, begun_of, colour_of, field_of, held_of, own_in}
use Rattle.core_machine.specs.State.{own_of, row_in}
use Rattle.core_machine.specs.State.{set_field, target_of}
use Rattle.core_machine.specs.declared.events.Found.TheVariants as finds
use Rattle.core_machine.proofs.Conditions.{claim_needs, fill_needs}
use Rattle.core_machine.proofs.OneOperation.{inside_there}
use Rattle.heap_rule.proofs.Sealing.{raw, sealed_same, target_reached}
use Rattle.std.proofs.lemmas.List.{set-get_or}
use Rattle.core_machine.specs.Words.{is_box_kind, same_field}
use Rattle.dlg_core.specs.Consistent.{IsConsistent}
use Rattle.dlg_core.specs.Reachable.{Reachable}
use Rattle.dlg_core.proofs.Step.{consistent_after}
use Rattle.heap_rule.specs.Boxes.{Payload, Smaller, boxes_by, boxes_of, payload_of, revealing}
use Rattle.heap_rule.specs.Boxes.{with_entry, written_if, written_map}
use Rattle.heap_rule.specs.Facts.{Facts, Proper}
use Rattle.heap_rule.specs.Lore.{Lore, cells_in, cells_of, claimed_fresh, claimed_terms, entry_of}
use Rattle.heap_rule.specs.Lore.{known_claimed, known_in, lore_after, put, revealed_if}
use Rattle.heap_rule.proofs.Carried.{SameAt}
use Rattle.heap_rule.proofs.Claiming.{claimed_same, put_here, put_other, unreached}
use Rattle.heap_rule.proofs.FactsAfter.{facts_after}
use Rattle.heap_rule.proofs.Holding.{begin_made, end_made, keep_made}
use Rattle.heap_rule.proofs.Maps.{In, anchor_in, in_map, of_map, same_but_smaller, smaller}
use Rattle.heap_rule.proofs.Quiet.{cells_marked, cells_own, cells_unmarked, known_back, quiet_same}
use Rattle.heap_rule.proofs.Reading.{fetch_same, read_same, wipe_same}
use Rattle.heap_rule.proofs.Storing.{Stores, stored_back, stored_fields, stored_kinds, stored_there}
use Rattle.heap_rule.proofs.Writing.{fill_stores, store_stores, write_stores, raw_no_box}

module _ (fixed : ℕ
    → Bool) (s : State) (l : Lore) (shape : IsShaped s) (k : IsConsistent s)
    (facts : Facts fixed s l) where
  root : (e : Event) → can s e ≡ true → Proper fixed s l e → In (after s e) (lore_after s l e) 0
  root e h p =
      anchor_in fixed (after s e) (lore_after s l e) (consistent_after s e shape k h)
      (facts_after fixed s l shape k facts e h p)

  -- nothing changes of what is still reachable
  kept_by : (e : Event) → can s e ≡ true → Proper fixed s l e
      → ((x : ℕ) → Reachable (after s e) x → SameAt s (after s e) l (lore_after s l e) x)
      → Smaller (boxes_of s l) (boxes_of (after s e) (lore_after s l e))
  kept_by e h p same =
      same_but_smaller s (after s e) l (lore_after s l e) (λ x. false) (root e h p)
      (λ x r b. same x r) (λ x b is. absurd cc) (λ x b is. absurd cc)

  quiet : (e : Event) → can s e ≡ true → Proper fixed s l e → (after s e).rows ≡ s.rows
      → ((i : ℕ) → cells_of (after s e) i ≡ cells_of s i) → lore_after s l e ≡ l
      → Smaller (boxes_of s l) (boxes_of (after s e) (lore_after s l e))
  quiet e h p rows cells same =
      kept_by e h p (subst (λ (m : Lore). (x : ℕ) → Reachable (after s e) x
      → SameAt s (after s e) l m x) (sym same)
      (quiet_same s (after s e) k rows cells l))

  -- A field of a held cell becomes another value.
  module _ (i x f : ℕ) (value : Field) (t : State) (later : IsConsistent t)
      (stores : Stores fixed s t l i x f value) where
    abbrev seen : Lore
    seen = revealing l value

    entries_else : (y : ℕ) → y ≢ x → (m : Lore) → m.terms ≡ l.terms
        → payload_of t m y ≡ payload_of s seen y
    entries_else y other m terms = λ j g.
        entry_of (terms j)
        (stored_fields fixed s t l i x f value shape k facts later stores y g
        (λ is same. other is) j)

    back : (y : ℕ) → Reachable t y → Reachable s y
    back = stored_back fixed s t l i x f value shape k facts later stores

    kind_is : (y : ℕ) → field_of t y 5 ≡ field_of s y 5
    kind_is = stored_kinds fixed s t l i x f value shape k facts later stores

    in_before : (m : Lore) (y : ℕ) → m.fresh ≡ seen.fresh → In t m y → In s seen y
    in_before m y same is = record {
      reached = back y is.reached;
      box = ap is_box_kind (sym (kind_is y)) ∙ is.box;
      old = ap (λ (fresh : ℕ → Option ℕ). fresh y) (sym same) ∙ is.old;
    }

    in_behind : (m : Lore) (y : ℕ) → m.fresh ≡ seen.fresh → Reachable t y → In s seen y → In t m y
    in_behind m y same r is = record {
      reached = r;
      box = ap is_box_kind (kind_is y) ∙ is.box;
      old = ap (λ (fresh : ℕ → Option ℕ). fresh y) same ∙ is.old;
    }

    -- in a cell that is no box
    filled : (m : Lore) → m.terms ≡ l.terms → m.fresh ≡ seen.fresh → In t m 0
        → is_box_kind (field_of s x 5) ≡ false
        → Smaller (boxes_of s seen) (boxes_of t m)
    filled m terms fresh root no_box =
        let apart : (y : ℕ) → In s seen y → y ≢ x
        = (λ y is same. let yes = is.box in let no = ap
        (λ (n : ℕ). is_box_kind (field_of s n 5)) same ∙ no_box in absurd cc) in
        smaller (boxes_of s seen) t m root
        (λ y is. let before = in_before m y fresh is in
        in_map s seen y before ∙ ap Some (sym (entries_else y (apart y before) m terms)))
        (λ y q r h. in_behind m y fresh r (of_map s seen y q h))

    -- in a box
    entries_here : (m : Lore) → m.terms ≡ l.terms
        → put (payload_of s seen x) f (entry_of l.terms value) ≡ payload_of t m x
    entries_here m terms j g = entry_here m terms g j
      where
        entry_here : (m : Lore) → m.terms ≡ l.terms → (g : ℕ)
            → put (payload_of s seen x) f (entry_of l.terms value) g ≡ payload_of t m x g
        entry_here m terms g = elim (cases_eq g f) [
          | inl is ↦
              ap (put (payload_of s seen x) f (entry_of l.terms value)) is
              ∙ put_here (payload_of s seen x) f (entry_of l.terms value)
              ∙ sym (λ j. entry_of (terms j)
              (stored_there fixed s t l i x f value shape k facts later stores j))
              ∙ sym (ap (payload_of t m x) is)
          | inr other ↦
              put_other (payload_of s seen x) f (entry_of l.terms value) g other
              ∙ sym (λ j. entry_of (terms j)
              (stored_fields fixed s t l i x f value shape k facts later stores x g
              (λ here same. other same) j))
        ]

    made : (m : Lore) → m.terms ≡ l.terms → m.fresh ≡ seen.fresh → In t m 0
        → Smaller (written_map (boxes_of s seen) x f (entry_of l.terms value)) (boxes_of t m)
    made m terms fresh root = smaller
        (written_map (boxes_of s seen) x f (entry_of l.terms value)) t m root
        (λ y is. let before = in_before m y fresh is in elim (cases_eq y x) [
          | inl same ↦
              ap (written_map (boxes_of s seen) x f (entry_of l.terms value)) same
              ∙ put_here (boxes_of s seen) x
              (with_entry (boxes_of s seen x) f (entry_of l.terms value))
              ∙ ap (λ (o : Option Payload). with_entry o f (entry_of l.terms value))
              (in_map s seen x (subst (λ (n : ℕ). In s seen n) same before))
              ∙ ap Some (entries_here m terms) ∙ sym (ap (λ (n : ℕ). Some (payload_of t m n)) same)
          | inr other ↦
              put_other (boxes_of s seen) x
              (with_entry (boxes_of s seen x) f (entry_of l.terms value)) y other
              ∙ in_map s seen y before ∙ ap Some (sym (entries_else y other m terms))
        ])
        (λ y q r h. in_behind m y fresh r (elim (cases_eq y x) [
          | inl same ↦
              let here : with_entry (boxes_of s seen x) f (entry_of l.terms value) ≡ Some q =
              sym (put_here (boxes_of s seen) x
              (with_entry (boxes_of s seen x) f (entry_of l.terms value)))
              ∙ ap (written_map (boxes_of s seen) x f (entry_of l.terms value)) (sym same) ∙ h in
              subst (λ (n : ℕ). In s seen n) (sym same)
              (entry_in_map (boxes_of s seen x) refl q here)
          | inr other ↦
              of_map s seen y q
              (sym (put_other (boxes_of s seen) x
              (with_entry (boxes_of s seen x) f (entry_of l.terms value)) y other) ∙ h)
        ]))
      where
        entry_in_map : (o : Option Payload) → boxes_of s seen x ≡ o → (q : Payload)
            → with_entry o f (entry_of l.terms value) ≡ Some q → In s seen x
        entry_in_map None is q h = absurd cc
        entry_in_map (Some p) is q h = of_map s seen x p is

  -- Claim, by the colour that it found. A blue cell was not reachable, and is fresh now.
  abbrev claimed_lore : ℕ → ℕ → Colour → Lore
  claimed_lore i c found = record {
    terms = claimed_terms l.terms c found;
    fresh = claimed_fresh l.fresh i c found;
    known = set l.known i (known_claimed (known_in l.known i) (finds.Colour found));
  }

  missed_smaller : (i : ℕ) (t : State) (m : Lore) → t.rows ≡ s.rows
      → t.owns ≡ set s.owns i (own_of s i) → m ≡ l → In t m 0
      → Smaller (boxes_of s l) (boxes_of t m)
  missed_smaller i t m rows owns same root =
      let still : t.owns ≡ s.owns = owns ∙ set-get_or s.owns i _ in
      subst (λ (n : Lore). Smaller (boxes_of s l) (boxes_of t n)) (sym same)
      (same_but_smaller s t l l (λ x. false) (subst (λ (n : Lore). In t n 0) same root)
      (λ x r b. quiet_same s t k rows
      (λ j. ap (λ (os : List Own). cells_in (own_in os j).held) still) l x r)
      (λ x b is. absurd cc) (λ x b is. absurd cc))

  claimed_smaller : (i c : ℕ) (found : Colour) → colour_of s c ≡ found → (t : State) (m : Lore)
      → IsConsistent t → t.rows ≡ s.rows
      → t.mutators ≡ s.mutators → t.owns ≡ set s.owns i (having_claimed (own_of s i) c found)
      → m ≡ claimed_lore i c found
      → i < s.mutators → In t m 0 → Smaller (boxes_of s l) (boxes_of t m)
  claimed_smaller i c colour.Blue is t m later rows mutators owns m_is lt root =
      let new = claimed_lore i c colour.Blue in
      subst (λ (n : Lore). Smaller (boxes_of s l) (boxes_of t n)) (sym m_is)
      (same_but_smaller s t l new (λ x. x == c) (subst (λ (n : Lore). In t n 0) m_is root)
      (λ x r other. claimed_same fixed s t l i c shape k facts later rows mutators owns lt is x r
      (λ here. let yes : (x == c) ≡ true = eq-eqb x c here in cc))
      (λ x here now. absurd (
      let none : Some i ≡ None =
      sym (put_here l.fresh c (Some i)) ∙ ap new.fresh (sym (eqb-true x c here)) ∙ now.old in cc))
      (λ x here before. unreached fixed s t l i c shape k facts later rows mutators owns lt is
      (subst (Reachable s) (eqb-true x c here) before.reached)))
  claimed_smaller i c colour.White is t m later rows mutators owns m_is lt root =
      missed_smaller i t m rows owns (m_is ∙ known_back l i) root
  claimed_smaller i c colour.Gray is t m later rows mutators owns m_is lt root =
      missed_smaller i t m rows owns (m_is ∙ known_back l i) root
  claimed_smaller i c colour.Black is t m later rows mutators owns m_is lt root =
      missed_smaller i t m rows owns (m_is ∙ known_back l i) root

  claim_smaller : (i c : ℕ) → can s (event.Claim i c) ≡ true
      → Smaller (boxes_of s l)
      (boxes_of (after s (event.Claim i c)) (lore_after s l (event.Claim i c)))
  claim_smaller i c h =
      let e = event.Claim i c in
      let needs = claim_needs s i c h in
      claimed_smaller i c (colour_of s c) refl (after s e) (lore_after s l e)
      (consistent_after s e shape k h) refl refl refl refl
      (inside_there s shape i needs.inside) (root e h tt)

  -- Seal: the cell was raw, and is a record or a fresh box now.
  seal_smaller : (i place : ℕ) (of : Kind) → can s (event.Seal i place of) ≡ true
      → Proper fixed s l (event.Seal i place of)
      → Smaller (boxes_of s l)
      (boxes_of (after s (event.Seal i place of)) (lore_after s l (event.Seal i place of)))
  seal_smaller i place of h p =
      let e = event.Seal i place of in
      let x = target_of s i place in
      let is_raw = raw fixed s l i place of shape k facts h p in
      let fresh = facts.freshed.raw x
      (target_reached fixed s l i place of shape k facts h p) is_raw in
      same_but_smaller s (after s e) l (lore_after s l e) (λ y. y == x) (root e h p)
      (λ y r other. sealed_same fixed s l i place of shape k facts h p y r
      (λ here. let yes : (y == x) ≡ true = eq-eqb y x here in cc))
      (λ y here now. absurd (let none : Some fresh.0 ≡ None = sym fresh.1
      ∙ ap l.fresh (sym (eqb-true y x here)) ∙ now.old in cc))
      (λ y here before. absurd (
      let no : is_box_kind (field_of s y 5) ≡ false =
      ap (λ (n : ℕ). is_box_kind (field_of s n 5)) (eqb-true y x here)
      ∙ raw_no_box (field_of s x 5) is_raw in
      let yes = before.box in cc))

  fill_smaller : (i place f : ℕ) (value : Field) → can s (event.Fill i place f value) ≡ true
      → Smaller (boxes_of s (revealing l value))
      (boxes_of (after s (event.Fill i place f value))
      (lore_after s l (event.Fill i place f value)))
  fill_smaller i place f value h =
      let e = event.Fill i place f value in
      let needs = fill_needs s i place f value h in
      filled i (target_of s i place) f value (after s e) (consistent_after s e shape k h)
      (fill_stores fixed s l i place f shape k facts value h) (lore_after s l e) refl refl
      (root e h tt)
      (raw_no_box (field_of s (target_of s i place) 5) needs.raw)

  -- Write, by whether it was made
  wrote_smaller : (i place f : ℕ) (old new : Field) (is : Bool) (t : State) (m : Lore)
      → can s (event.Write i place f old new) ≡ true
      → Proper fixed s l (event.Write i place f old new) → IsConsistent t
      → t.rows ≡ set_field s.rows (target_of s i place) f
      (if is then new else field_of s (target_of s i place) f)
      → ((j : ℕ) → cells_of t j ≡ cells_of s j) → t.mutators ≡ s.mutators → m.terms ≡ l.terms
      → m.fresh ≡ revealed_if is l.fresh new → In t m 0
      → Smaller (written_if is s l (target_of s i place) f new) (boxes_of t m)
  wrote_smaller i place f old new true t m h p later rows cells mutators terms fresh root =
      made i (target_of s i place) f new t later
      (write_stores fixed s l i place f shape k facts old new t h p rows cells mutators)
      m terms fresh root
  wrote_smaller i place f old new false t m h p later rows cells mutators terms fresh root =
      let x = target_of s i place in
      let still : t.rows ≡ s.rows =
      rows ∙ ap (λ (r : List Field). set s.rows x r) (set-get_or (row_in s.rows x) f field.Null)
      ∙ set-get_or s.rows x [] in
      same_but_smaller s t l m (λ y. false) root
      (λ y r b. let same = quiet_same s t k still cells l y r in record {
        reached = same.reached;
        rows = same.rows;
        term = ap (λ (f : ℕ → Option _). f y) terms;
        fresh = ap (λ (f : ℕ → Option ℕ). f y) fresh;
        entries = λ g. ap (λ (f : ℕ → Option _). entry_of f (field_of s y g)) terms;
      })
      (λ y b is. absurd cc) (λ y b is. absurd cc)

  pub smaller_after : (e : Event) → can s e ≡ true → Proper fixed s l e
      → Smaller (boxes_by s l e) (boxes_of (after s e) (lore_after s l e))
  smaller_after (event.Begin i) h p = kept_by (event.Begin i) h p
      (begin_made fixed s l i shape k facts h).same
  smaller_after (event.Look i) h p = quiet (event.Look i) h p refl
      (cells_own s i (looked (own_of s i) s.control) (cells_unmarked (held_of s i)))
      (known_back l i)
  smaller_after (event.Read i place f) h p = kept_by (event.Read i place f) h p
      (read_same fixed s l i place f shape k h facts)
  smaller_after (event.Mark i place) h p = quiet (event.Mark i place) h p refl
      (cells_own s i (marking (own_of s i) (target_of s i place))
      (cells_marked (target_of s i place) (held_of s i))) (known_back l i)
  smaller_after (event.Write i place f old new) h p =
      wrote_smaller i place f old new (same_field (field_of s (target_of s i place) f) old)
      (after s (event.Write i place f old new))
      (lore_after s l (event.Write i place f old new)) h p
      (consistent_after s (event.Write i place f old new) shape k h) refl
      (cells_own s i (spent (own_of s i)) (cells_unmarked (held_of s i))) refl refl refl
      (root (event.Write i place f old new) h p)
  smaller_after (event.Fetch i place f) h p = kept_by (event.Fetch i place f) h p
      (fetch_same fixed s l i place f shape k h facts)
  smaller_after (event.Store i new) h p =
      let e = event.Store i new in
      let write = begun_of s i in
      made i (target_of s i write.place) write.f new (after s e) (consistent_after s e shape k h)
      (store_stores fixed s l i shape k facts new (after s e) h p refl
      (cells_own s i (spent (own_of s i)) (cells_unmarked (held_of s i))) refl)
      (lore_after s l e) refl refl (root e h p)
  smaller_after (event.Claim i c) h p = claim_smaller i c h
  smaller_after (event.Fill i place f value) h p = fill_smaller i place f value h
  smaller_after (event.Seal i place of) h p = seal_smaller i place of h p
  smaller_after (event.Answer i) h p = quiet (event.Answer i) h p refl
      (cells_own s i (spent (own_of s i)) (cells_unmarked (held_of s i))) (known_back l i)
  smaller_after (event.Keep i count from copies) h p =
      kept_by (event.Keep i count from copies) h p
      (keep_made fixed s l i shape k facts count from copies h).same
  smaller_after (event.End i) h p = kept_by (event.End i) h p
      (end_made fixed s l i shape k facts h).same
  smaller_after (event.Over i) h p = quiet (event.Over i) h p refl (λ j. refl) (known_back l i)
  smaller_after (event.Post target) h p = quiet (event.Post target) h p refl (λ i. refl) refl
  smaller_after (event.Duty on) h p = quiet (event.Duty on) h p refl (λ i. refl) refl
  smaller_after (event.Poll i) h p = quiet (event.Poll i) h p refl (λ j. refl) refl
  smaller_after (event.AnswerOut i over) h p = quiet (event.AnswerOut i over) h p refl
      (λ j. refl) refl
  smaller_after event.ClearCell h p = quiet event.ClearCell h p refl (λ i. refl) refl
  smaller_after event.Anchor h p = quiet event.Anchor h p refl (λ i. refl) refl
  smaller_after (event.See c) h p = quiet (event.See c) h p refl (λ i. refl) refl
  smaller_after event.Scan h p = quiet event.Scan h p refl (λ i. refl) refl
  smaller_after event.Shade h p = quiet event.Shade h p refl (λ i. refl) refl
  smaller_after event.Blacken h p = quiet event.Blacken h p refl (λ i. refl) refl
  smaller_after event.SweepLook h p = quiet event.SweepLook h p refl (λ i. refl) refl
  smaller_after event.Wipe h p = kept_by event.Wipe h p (wipe_same s l shape k h)
  smaller_after event.Free h p = quiet event.Free h p refl (λ i. refl) refl
  smaller_after event.Whiten h p = quiet event.Whiten h p refl (λ i. refl) refl
  smaller_after event.Advance h p = quiet event.Advance h p refl (λ i. refl) refl
