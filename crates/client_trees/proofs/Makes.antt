-- One more private record: what it says, that it stands where its parts do, and that the others
-- stand and say what they said.
use Rattle.std.proofs.Common.{◌≡◌, ◌<◌, ◌+◌, ℕ, zero, suc, List, [], ◌∷◌, ◌++◌, length}
use Rattle.std.proofs.Common.{refl, sym, ◌∙◌, ap, subst, arith}
use Rattle.std.specs.Prelude.{slice_index_or}
use Rattle.std.proofs.lemmas.List.{append_assoc, length-append}
use Rattle.cell_words.specs.Term.{Term, null}
use Rattle.heap_rule.specs.declared.view.View.{View}
use Rattle.minor_heap.specs.declared.fields.MinorField.{MinorField}
use Rattle.minor_heap.specs.declared.fields.MinorField.TheVariants as field
use Rattle.minor_heap.specs.declared.fields.MinorRef.{MinorRef}
use Rattle.minor_heap.specs.Nursery.{FitsRecord, Nursery}
use Rattle.minor_heap.specs.Terms.{field_term, record_term, term_of, terms_after, terms_of}
use Rattle.doc_records.specs.declared.pool.Part.{Part}
use Rattle.doc_records.specs.declared.pool.Part.TheVariants as parts
use Rattle.doc_records.specs.Pool.{Later, Stands, part_term}
use Rattle.client_trees.specs.declared.at.NodeAt.{NodeAt}
use Rattle.client_trees.specs.declared.at.NodeAt.TheVariants as at
use Rattle.client_trees.specs.Records.{ClientFact, HasCell, HasRecords, IsAmong, IsAround}
use Rattle.client_trees.specs.Records.{IsKnownAs, Outside, Rests, blank, field_of, says_of}
use Rattle.client_trees.specs.Records.{shown_of, stands_on, term_at, terms_known}
use Rattle.client_trees.proofs.Places.{at_more, known_term_at}
use Rattle.client_trees.proofs.Resting.{rests_more, rests_new, rests_stands}

terms_many : (shared older : List Term) (records : List (List MinorField))
    → length (terms_after shared older records) ≡ length older + length records
terms_many shared older [] = omega arith
terms_many shared older (fields ∷ records) =
    omega (
      arith,
      terms_many shared (older ++ record_term shared older fields ∷ []) records,
      length-append older (record_term shared older fields ∷ []),
    )

last_is : (xs : List Term) (x : Term) (k : ℕ) → k ≡ length xs
    → slice_index_or (xs ++ x ∷ []) k null ≡ x
last_is [] x zero is = refl
last_is [] x (suc k) is = absurd (omega (arith, is))
last_is (y ∷ xs) x zero is = absurd (omega (arith, is))
last_is (y ∷ xs) x (suc k) is = last_is xs x k (omega (arith, is))

-- what `make` tells of the records
pub record IsMore (old new : Nursery) (fields : List MinorField) : Type 0 where
  pub room : new.room ≡ old.room
  pub records : new.records ≡ old.records ++ fields ∷ []
  pub terms : (shared : List Term) → terms_of shared new.records
      ≡ terms_of shared old.records
      ++ record_term shared (terms_of shared old.records) fields ∷ []

module _ {P : Type 0} (v : View P) (outside : Outside) (old new : Nursery)
    (fields : List MinorField) (more : IsMore old new fields) where
  abbrev shared : List Term
  shared = terms_known v.known

  old_term : (r : MinorRef) → r.number < length old.records
      → term_of shared new.records r ≡ term_of shared old.records r
  old_term r lt =
      ap (λ (ts : List Term). slice_index_or ts r.number null) (more.terms shared)
      ∙ at_more null (terms_of shared old.records)
      (record_term shared (terms_of shared old.records) fields) r.number
      (let many = terms_many shared [] old.records in omega (arith, lt, many))

  pub new_term : (r : MinorRef) → r.number ≡ length old.records
      → term_of shared new.records r ≡ record_term shared (terms_of shared old.records) fields
  new_term r is =
      ap (λ (ts : List Term). slice_index_or ts r.number null) (more.terms shared)
      ∙ last_is (terms_of shared old.records)
      (record_term shared (terms_of shared old.records) fields) r.number
      (let many = terms_many shared [] old.records in omega (arith, is, many))

  still_made : (a : NodeAt) (n : ℕ) → stands_on v.known old.records n a
      → stands_on v.known new.records n a
  still_made (at.Shared p) n stands = stands
  still_made (at.Minor r) n stands =
      subst (λ (rows : List (List MinorField)). Rests rows (IsAmong v.known n) r) (sym more.records)
      (rests_more old.records fields (IsAmong v.known n) r stands)

  same_made : (a : NodeAt) (n : ℕ) → stands_on v.known old.records n a
      → term_at v.known new.records a ≡ term_at v.known old.records a
  same_made (at.Shared p) n stands = refl
  same_made (at.Minor r) n stands =
      old_term r (rests_stands old.records (IsAmong v.known n) r stands)

  says_made : (f : ClientFact P) (n : ℕ) → says_of v old outside n f → says_of v new outside n f
  says_made (IsAround around) n is =
      ap (λ (room : ℕ). record { outside = outside; view = blank v; room = room }) more.room ∙ is
  says_made (HasCell p c) n is = is
  says_made (IsKnownAs p k) n is = is
  says_made (HasRecords records) n is = record {
    rest = is.rest ++ fields ∷ [];
    is = more.records ∙ ap (λ (rows : List (List MinorField)). rows ++ fields ∷ []) is.is
        ∙ append_assoc records is.rest (fields ∷ []);
  }

  pub later_made : Later (shown_of v old outside) (shown_of v new outside)
  later_made = record {
    still = λ a n stands few. still_made a n stands;
    now = λ a stands. still_made a (length v.own.held) stands;
    same = λ a stands. same_made a (length v.own.held) stands;
    says = λ f n says few. says_made f n says;
    longer = omega arith;
    room = refl;
    marks = λ before begins. begins;
  }

  pub stands_made : (r : MinorRef) → r.number ≡ length old.records
      → ((i : ℕ) → i < 5 → (p : Part NodeAt) × ((slice_index_or fields i field.Null ≡ field_of p)
      × Stands (shown_of v old outside) p))
      → stands_on v.known new.records (length v.own.held) (at.Minor r)
  stands_made r is each =
      subst (λ (rows : List (List MinorField)). Rests rows (IsAmong v.known (length v.own.held)) r)
      (sym more.records)
      (rests_new old.records fields (IsAmong v.known (length v.own.held)) r is
      (λ i p lt at_it. let part = each i lt in
      shared_there part.0 p (sym part.1.0 ∙ at_it) part.1.1)
      (λ i o lt at_it. let part = each i lt in
      minor_there part.0 o (sym part.1.0 ∙ at_it) part.1.1))
    where
      shared_there : (part : Part NodeAt) (p : ℕ) → field_of part ≡ field.Shared p
          → Stands (shown_of v old outside) part → IsAmong v.known (length v.own.held) p
      shared_there parts.Null p is stands = absurd cc
      shared_there (parts.Num n) p is stands = absurd cc
      shared_there (parts.Record (at.Shared q)) p is stands =
          let same : q ≡ p = cc in
          subst (IsAmong v.known (length v.own.held)) same stands.0
      shared_there (parts.Record (at.Minor r)) p is stands = absurd cc

      minor_there : (part : Part NodeAt) (o : MinorRef) → field_of part ≡ field.Minor o
          → Stands (shown_of v old outside) part
          → Rests old.records (IsAmong v.known (length v.own.held)) o
      minor_there parts.Null o is stands = absurd cc
      minor_there (parts.Num n) o is stands = absurd cc
      minor_there (parts.Record (at.Shared q)) o is stands = absurd cc
      minor_there (parts.Record (at.Minor r)) o is stands =
          let same : r ≡ o = cc in
          subst (Rests old.records (IsAmong v.known (length v.own.held))) same stands.0

-- a part as a field says the same as before
pub part_says : {P : Type 0} (v : View P) (outside : Outside) (old : Nursery) (p : Part NodeAt)
    → field_term (terms_known v.known) (terms_of (terms_known v.known) old.records) (field_of p)
    ≡ part_term (shown_of v old outside).term p
part_says v outside old parts.Null = refl
part_says v outside old (parts.Num n) = refl
part_says v outside old (parts.Record (at.Shared q)) = known_term_at v.known q
part_says v outside old (parts.Record (at.Minor r)) = refl

-- and may be a field
part_fits : {P : Type 0} (v : View P) (outside : Outside) (old : Nursery) (p : Part NodeAt)
    → Stands (shown_of v old outside) p → FitsRecord (length old.records) (field_of p)
part_fits v outside old parts.Null stands = tt
part_fits v outside old (parts.Num n) stands = stands
part_fits v outside old (parts.Record (at.Shared q)) stands = tt
part_fits v outside old (parts.Record (at.Minor r)) stands =
    rests_stands old.records (IsAmong v.known (length v.own.held)) r stands.0

pub field_fits : {P : Type 0} (v : View P) (outside : Outside) (old : Nursery) (p : Part NodeAt)
    (f : MinorField) → f ≡ field_of p → Stands (shown_of v old outside) p
    → FitsRecord (length old.records) f
field_fits v outside old p f is stands =
    subst (FitsRecord (length old.records)) (sym is) (part_fits v outside old p stands)

-- the field at an index is that of a part that stands
abbrev FieldStands : {P : Type 0} → View P → Outside → Nursery → MinorField → Type 0
FieldStands v outside old f =
    (p : Part NodeAt) × ((f ≡ field_of p) × Stands (shown_of v old outside) p)

pub each_stands : {P : Type 0} (v : View P) (outside : Outside) (old : Nursery)
    (first second third fourth fifth : MinorField) → FieldStands v outside old first
    → FieldStands v outside old second → FieldStands v outside old third
    → FieldStands v outside old fourth → FieldStands v outside old fifth → (i : ℕ) → i < 5
    → FieldStands v outside old (slice_index_or
    (first ∷ second ∷ third ∷ fourth ∷ fifth ∷ []) i field.Null)
each_stands v outside old a b c d e one two three four last zero lt = one
each_stands v outside old a b c d e one two three four last (suc zero) lt = two
each_stands v outside old a b c d e one two three four last (suc (suc zero)) lt = three
each_stands v outside old a b c d e one two three four last (suc (suc (suc zero))) lt = four
each_stands v outside old a b c d e one two three four last (suc (suc (suc (suc zero)))) lt = last
each_stands v outside old a b c d e one two three four last (suc (suc (suc (suc (suc n))))) lt =
    absurd (omega (arith, lt))
