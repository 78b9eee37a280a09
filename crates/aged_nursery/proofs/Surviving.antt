-- What was copied has the terms and the shared places that it had.
use Rattle.std.proofs.Common.{◌≡◌, ◌↔◌, ℕ, zero, suc, ◌+◌, ◌<◌, ◌≤◌, Bool, true, false, List, []}
use Rattle.std.proofs.Common.{◌∷◌, ◌++◌, All, length, map, refl, sym, ap, subst, ◌∙◌, arith}
use Rattle.std.proofs.Common.{length-append}
use Rattle.std.specs.Prelude.{slice_index_or}
use Rattle.std.specs.List.{Contains}
use Rattle.std.proofs.lemmas.List.{get_or-map, get_or_default, length-map, same_lists}
use Rattle.cell_words.specs.Term.{Term, five, null}
use Rattle.minor_heap.specs.declared.fields.MinorField.{MinorField}
use Rattle.minor_heap.specs.declared.fields.MinorField.TheVariants as field
use Rattle.minor_heap.specs.declared.fields.MinorRef.{MinorRef}
use Rattle.minor_heap.specs.Marking.{marked_of}
use Rattle.minor_heap.specs.Nursery.{FitsRecord, IsOrdered, Stands, field_at}
use Rattle.minor_heap.specs.Reaches.{AreReached, IsMarked, Reaches, named, root}
use Rattle.minor_heap.specs.Terms.{field_term, record_term, term_of, terms_after}
use Rattle.minor_heap.specs.Terms.{terms_of}
use Rattle.minor_heap.proofs.Terms.{fits_is, term_is}
use Rattle.aged_nursery.specs.Copies.{AreClosed, AreCopied, moved_field, moved_ref, rank}
use Rattle.aged_nursery.proofs.Copying.{ranked}
use Rattle.aged_nursery.specs.Survivors.{AreSurvivors, LeadNoFurther, Leads, by, here, root_at}

-- The marks of what some records reach are closed.

reach_stands : (old : List (List MinorField)) (from : List MinorRef) → IsOrdered 0 old
    → All (Stands old) from → (r : MinorRef) → Reaches old (Contains from) r
    → r.number < length old
reach_stands old from ordered stand r (root is) =
    subst (λ (t : MinorRef). t.number < length old) is.2 (stand is.0 r is.1)
reach_stands old from ordered stand _ (named {r = s} {older = t} i lt before names) =
    let below = reach_stands old from ordered stand s before in
    let older : t.number < s.number =
    subst (λ (f : MinorField). FitsRecord s.number f) names (fits_is old s.number i ordered below)
    in
    omega (arith, older, below)

pub closed_of : (old : List (List MinorField)) (from : List MinorRef) (marks : List Bool)
    → IsOrdered 0 old → All (Stands old) from
    → ((r : MinorRef) → IsMarked marks r ↔ Reaches old (Contains from) r)
    → AreClosed old marks
closed_of old from marks ordered stand all =
    record {
      stands = λ r is. reach_stands old from ordered stand r ((all r).0 is);
      named = λ r older i lt is names. (all older).1 (named {r = r} i lt ((all r).0 is) names);
    }

-- A field that was moved.

shared_was : (numbers : List ℕ) (f : MinorField) (place : ℕ)
    → moved_field numbers f ≡ field.Shared place → f ≡ field.Shared place
shared_was numbers field.Null place e = e
shared_was numbers (field.Num n) place e = e
shared_was numbers (field.Minor r) place e = absurd (cc)
shared_was numbers (field.Shared p) place e = e

minor_was : (numbers : List ℕ) (f : MinorField) (s : MinorRef)
    → moved_field numbers f ≡ field.Minor s
    → (r : MinorRef) × (f ≡ field.Minor r) × (s ≡ moved_ref numbers r)
minor_was numbers field.Null s e = absurd (cc)
minor_was numbers (field.Num n) s e = absurd (cc)
minor_was numbers (field.Minor r) s e = (r, refl, cc)
minor_was numbers (field.Shared place) s e = absurd (cc)

terms_length : (shared older : List Term) (records : List (List MinorField))
    → length (terms_after shared older records) ≡ length older + length records
terms_length shared older [] = omega arith
terms_length shared older (fields ∷ records) =
    let t = record_term shared older fields in
    omega (arith, terms_length shared (older ++ t ∷ []) records, length-append older (t ∷ []))

module _ (old : List (List MinorField)) (marks : List Bool) (numbers : List ℕ)
    (new : List (List MinorField)) (was : IsOrdered 0 old) (ordered : IsOrdered 0 new)
    (closed : AreClosed old marks) (so : AreCopied old marks numbers new (length old)) where
  there : (r : MinorRef) → IsMarked marks r → Stands new (moved_ref numbers r)
  there r is = so.there r is (closed.stands r is)

  moved : (r : MinorRef) (i : ℕ) → i < 5 → IsMarked marks r
      → field_at new (moved_ref numbers r).number i ≡ moved_field numbers (field_at old r.number i)
  moved r i lt is = so.fields r i is (closed.stands r is) lt

  -- Terms.

  same_field : (shared : List Term) (k : ℕ) (f : MinorField) → FitsRecord k f
      → ((older : MinorRef) → f ≡ field.Minor older → older.number < k
      → term_of shared new (moved_ref numbers older) ≡ term_of shared old older)
      → field_term shared (terms_of shared new) (moved_field numbers f)
      ≡ field_term shared (terms_of shared old) f
  same_field shared k field.Null fits same = refl
  same_field shared k (field.Num n) fits same = refl
  same_field shared k (field.Minor r) fits same = same r refl fits
  same_field shared k (field.Shared place) fits same = refl

  term_below : (shared : List Term) (n : ℕ) (r : MinorRef) → r.number < n → IsMarked marks r
      → term_of shared new (moved_ref numbers r) ≡ term_of shared old r
  term_below shared zero r lt is = absurd (omega (arith, lt))
  term_below shared (suc n) r lt is =
      let stands = closed.stands r is in
      let to = moved_ref numbers r in
      let at : (i : ℕ) → i < 5
      → field_term shared (terms_of shared new) (field_at new (moved_ref numbers r).number i)
      ≡ field_term shared (terms_of shared old) (field_at old r.number i) =
      λ i lt5. ap (field_term shared (terms_of shared new)) (moved r i lt5 is)
      ∙ same_field shared r.number (field_at old r.number i) (fits_is old r.number i was stands)
      (λ older names less. term_below shared n older (omega (arith, less, lt))
      (closed.named r older i lt5 is names)) in
      term_is shared new to ordered (there r is)
      ∙ (λ j. five (at 0 (omega arith) j) (at 1 (omega arith) j) (at 2 (omega arith) j)
      (at 3 (omega arith) j) (at 4 (omega arith) j))
      ∙ sym (term_is shared old r was stands)

  same_terms : (shared : List Term) (from : List MinorRef)
      → ((r : MinorRef) → Contains from r → IsMarked marks r)
      → map (term_of shared new) (map (moved_ref numbers) from) ≡ map (term_of shared old) from
  same_terms shared [] marked = refl
  same_terms shared (r ∷ rs) marked =
      let first = term_below shared (r.number + 1) r (omega arith)
      (marked r (0, omega arith, refl)) in
      let rest = same_terms shared rs
      (λ s is. marked s (suc is.0, omega (arith, is.1), is.2)) in
      λ j. first j ∷ rest j

  -- all records, where as many stand as are marked
  all_terms : (shared : List Term) → length new ≡ length (marked_of 0 marks)
      → terms_of shared new ≡ map (term_of shared old) (marked_of 0 marks)
  all_terms shared many =
      let found = marked_of 0 marks in
      let zeroth : MinorRef = record { number = 0 } in
      let count = terms_length shared [] new in
      same_lists (terms_of shared new) (map (term_of shared old) found)
      (omega (arith, count, many, length-map found (term_of shared old)))
      (λ k d lt.
      let within : k < length found = omega (arith, lt, count, many) in
      let r = slice_index_or found k zeroth in
      let x = ranked 0 marks k zeroth within in
      let number : x.0 ≡ r.number = omega (arith, x.2) in
      let is : IsMarked marks r =
      subst (λ (n : ℕ). slice_index_or marks n false ≡ true) number x.1 in
      let to : k ≡ (moved_ref numbers r).number =
      sym (so.place r is (closed.stands r is) ∙ ap (λ (k : ℕ). rank k marks) (sym number) ∙ x.3) in
      get_or_default (terms_of shared new) k d null lt
      ∙ ap (λ (n : ℕ). slice_index_or (terms_of shared new) n null) to
      ∙ term_below shared (r.number + 1) r (omega arith) is
      ∙ sym (get_or-map (term_of shared old) found k zeroth d within))

  -- Places.

  leads_old : (place : ℕ) (r s : MinorRef) → IsMarked marks r → s ≡ moved_ref numbers r
      → Leads new place s → Leads old place r
  leads_old place r s is e (here i lt names) =
      here i lt
      (shared_was numbers (field_at old r.number i) place
      (sym (moved r i lt is) ∙ ap (λ (t : MinorRef). field_at new t.number i) (sym e) ∙ names))
  leads_old place r s is e (by {older = t} i lt names leads) =
      let x = minor_was numbers (field_at old r.number i) t
      (sym (moved r i lt is) ∙ ap (λ (t : MinorRef). field_at new t.number i) (sym e) ∙ names) in
      by i lt x.1 (leads_old place x.0 t (closed.named r x.0 i lt is x.1) x.2 leads)

  -- Roots.

  module _ (from : List MinorRef) (marked : (r : MinorRef) → Contains from r → IsMarked marks r)
    where
      root_marked : (k : ℕ) → k < length from → IsMarked marks (root_at from k)
      root_marked k lt =
          let r = root_at from k in
          let zeroth : MinorRef = record { number = 0 } in
          marked r (k, lt, get_or_default from k r zeroth lt)

      root_moved : (k : ℕ) (d : MinorRef) → k < length from
          → slice_index_or (map (moved_ref numbers) from) k d ≡ moved_ref numbers (root_at from k)
      root_moved k d lt =
          let zeroth : MinorRef = record { number = 0 } in
          get_or-map (moved_ref numbers) from k zeroth d lt

      stand_moved : All (Stands new) (map (moved_ref numbers) from)
      stand_moved k d lt =
          let within : k < length from = omega (arith, lt, length-map from (moved_ref numbers)) in
          subst (Stands new) (sym (root_moved k d within))
          (there (root_at from k) (root_marked k within))

      no_further : LeadNoFurther old from new (map (moved_ref numbers) from)
      no_further k place lt leads =
          let zeroth : MinorRef = record { number = 0 } in
          leads_old place (root_at from k) (root_at (map (moved_ref numbers) from) k)
          (root_marked k lt) (root_moved k zeroth lt) leads

      pub survivors_of : AreReached old from (marked_of 0 marks)
          → length new ≡ length (marked_of 0 marks) → length new ≤ length old
          → AreSurvivors old from new (map (moved_ref numbers) from)
      survivors_of reached many fewer =
          record {
            stand = stand_moved;
            terms = λ shared. same_terms shared from marked;
            places = no_further;
            found = marked_of 0 marks;
            kept = λ shared. all_terms shared many;
            reached = reached;
            many = many;
            fewer = fewer;
          }
