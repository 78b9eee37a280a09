-- A read of a record whose term is known: what it finds is that part of the term, and where it
-- finds a cell, this is held as a record with that part for its term.
use Rattle.std.proofs.Common.{◌≡◌, ◌<◌, ◌≤◌, ◌==◌, ℕ, zero, suc, Bool, true, false, List, [], ◌∷◌}
use Rattle.std.proofs.Common.{◌++◌, length, slice_index_or, Option, Some, None, refl, sym, ◌∙◌, ap}
use Rattle.std.proofs.Common.{subst, arith}
use Rattle.std.proofs.lemmas.List.{length-map}
use Rattle.cell_words.specs.declared.fields.Field.{Field}
use Rattle.cell_words.specs.declared.fields.Field.TheVariants as field
use Rattle.cell_words.specs.Term.{IsFive, Term, part}
use Rattle.core_machine.specs.declared.events.Event.TheVariants as event
use Rattle.core_machine.specs.declared.places.Held.{Held}
use Rattle.core_machine.specs.declared.events.Found.TheVariants as finds
use Rattle.core_machine.specs.InRange.{NumberFits}
use Rattle.core_machine.specs.State.{State, field_of}
use Rattle.core_machine.specs.Words.{is_box_kind}
use Rattle.dlg_core.specs.Reachable.{Reachable, named}
use Rattle.heap_rule.specs.Asks.{known_of, target}
use Rattle.heap_rule.specs.Facts.{AllKnown, IsKnown, IsPlain, TermFits, is_record_kind}
use Rattle.heap_rule.specs.Lore.{Entry, Lore, Terms, at_cell, cells_in, entry_of}
use Rattle.heap_rule.specs.Lore.{five_of, five_plain, known_at, known_found}
use Rattle.heap_rule.specs.Lore.{learned, learned_from, named_or, term_of, told, told_of}
use Rattle.heap_rule.specs.Parts.{ShowsPart}
use Rattle.heap_rule.specs.Rule.{told as told_view}
use Rattle.heap_rule.specs.Steps.{Mine}
use Rattle.heap_rule.specs.declared.known.Known.{Known}
use Rattle.heap_rule.specs.declared.known.Known.TheVariants as knows
use Rattle.heap_rule.specs.declared.view.View.{View}
use Rattle.heap_rule.proofs.EntryWords.{not_some}
use Rattle.heap_rule.proofs.Lists.{all_changed}
use Rattle.heap_rule.proofs.Seats.{all_mine, knows_place, reached_place, target_now}

-- field f of the five is the term of that entry
part_is : (terms : Terms) (row : ℕ → Field) (f : ℕ) → f ≤ 4
    → part f (five_of terms row) ≡ term_of (entry_of terms (row f))
part_is terms row zero lt = refl
part_is terms row (suc zero) lt = refl
part_is terms row (suc (suc zero)) lt = refl
part_is terms row (suc (suc (suc zero))) lt = refl
part_is terms row (suc (suc (suc (suc zero)))) lt = refl
part_is terms row (suc (suc (suc (suc (suc n))))) lt = absurd (omega arith)

-- whatever has a term is a record
five_fits : (kind : Bool) (terms : Terms) (row : ℕ → Field) (term : Option Term) (t : Term)
    → TermFits kind terms row term → term ≡ Some t → IsFive t
five_fits true terms row term t fits is =
    let e : Some (five_of terms row) ≡ Some t = sym fits.0 ∙ is in
    let same : five_of terms row ≡ t = cc in
    subst IsFive same tt
five_fits false terms row term t fits is = absurd (not_some t term fits is)

-- a cell in the place of a term has one
named_plain : (c : ℕ) (term : Option Term) → IsPlain (named_or c term)
    → term ≡ Some (term_of (named_or c term))
named_plain c None plain = absurd plain
named_plain c (Some t) plain = refl

-- what is known after the places that there are stands at the next
known_last : (K : ℕ → Known → Type 0) (cells : List ℕ) (known : List Known) (k : Known)
    → AllKnown K cells known → known_at (known ++ k ∷ []) (length cells) ≡ k
known_last K [] [] k all = refl
known_last K [] (j ∷ known) k all = absurd all
known_last K (c ∷ cells) [] k all = absurd all
known_last K (c ∷ cells) (j ∷ known) k all = known_last K cells known k all.1

module _ {P : Type 0} {fixed : ℕ → Bool} (v : View P) (s : State) (l : Lore)
    (mine : Mine fixed v s l) (place f : ℕ) (t : Term) (there : place < length v.own.held)
    (payload : f ≤ 4) (knows_it : known_of v place ≡ knows.Record t) where
  abbrev x : ℕ
  x = target v place

  abbrev row : ℕ → Field
  row = field_of s x

  reached : Reachable s x
  reached = reached_place v s l mine place there

  is : IsKnown fixed s l v.number x (knows.Record t)
  is = subst (IsKnown fixed s l v.number x) knows_it (knows_place v s l mine place there)

  fits : TermFits true l.terms row (l.terms x)
  fits = subst (λ (k : Field). TermFits (is_record_kind k) l.terms row (l.terms x)) is.0
      (mine.shown.facts.termed x reached)

  says : part f t ≡ term_of (entry_of l.terms (row f))
  says =
      let e : Some t ≡ Some (five_of l.terms row) = sym is.1 ∙ fits.0 in
      let same : t ≡ five_of l.terms row = cc in
      ap (part f) same ∙ part_is l.terms row f payload

  -- the cell that a field names is a record with that part
  cell_says : (c : ℕ) → row f ≡ field.Cell c → l.terms c ≡ Some (part f t)
  cell_says c at =
      let entry : entry_of l.terms (row f) ≡ named_or c (l.terms c) = ap (entry_of l.terms) at in
      named_plain c (l.terms c) (subst IsPlain entry (fits.1 f (omega arith)))
      ∙ ap (λ (e : Entry). Some (term_of e)) (sym entry) ∙ ap (λ (u : Term). Some u) (sym says)

  pub part_shown : (found : Field) (w : View P) (pass : P) → row f ≡ found
      → w ≡ told_view v (event.Read v.number place f) (finds.Field found)
      (learned s l (event.Read v.number place f)) pass
      → ShowsPart (part f t) v w found
  part_shown field.Null w pass at new = says ∙ ap (λ (k : Field). term_of (entry_of l.terms k)) at
  part_shown (field.Num n) w pass at new = (
    says ∙ ap (λ (k : Field). term_of (entry_of l.terms k)) at,
    subst NumberFits at (mine.shown.words.numbers_fit x f),
  )
  part_shown (field.Cell c) w pass at new =
      let tells = learned s l (event.Read v.number place f) in
      let cells = cells_in v.own.held in
      let told_here : AllKnown (λ d k. Unit {0}) cells
      (at_cell (told tells.here) (slice_index_or cells place 0) cells v.known) =
      all_changed (IsKnown fixed s l v.number) (λ d k. Unit {0}) (told tells.here)
      (slice_index_or cells place 0) cells v.known (λ k h. tt) (λ d k other h before. tt)
      (all_mine v s l mine) in (
        five_fits (is_record_kind (field_of s c 5)) l.terms (field_of s c) (l.terms c) (part f t)
            (mine.shown.facts.termed c (named f reached at)) (cell_says c at),
        ap (λ (u : View P). known_of u (length v.own.held)) new
            ∙ ap (λ (n : ℕ). known_at (known_found (at_cell (told tells.here)
            (slice_index_or cells place 0) cells v.known) tells.found (field.Cell c)) n)
            (sym (length-map v.own.held (λ (p : Held). p.cell)))
            ∙ known_last (λ d k. Unit {0}) cells _ tells.found told_here
            ∙ ap (λ (k : Field). learned_from s l k)
            (ap (λ (y : ℕ). field_of s y f) (target_now v s l mine place) ∙ at)
            ∙ ap (λ (o : Option Term). told_of (c == 0) (is_box_kind (field_of s c 5)) o (l.fresh c)
            (five_plain (λ g. entry_of l.terms (field_of s c g)))) (cell_says c at),
      )
