-- Which private record, field or root bytes of C are.
use Rattle.std.proofs.Common.{◌≡◌, ◌<◌, ◌≤◌, ◌+◌, ◌/◌, ◌%◌, ◌^◌, ◌∷◌, ◌∙◌, ◌⊎◌, [], ℕ, zero, suc}
use Rattle.std.proofs.Common.{Bool, List, Option, None, Some, All, false, length, true, ap, arith}
use Rattle.std.proofs.Common.{inl, inr, refl, subst, sym, true≢false}
use Rattle.std.specs.Prelude.{IfNone, IfSome, MatchOption, slice_index_or}
use Rattle.std.proofs.lemmas.List.Elements.{All-cons, All-nil}
use Rattle.heap_rule.specs.Asks.{known_of}
use Rattle.heap_rule.specs.Facts.{is_term}
use Rattle.heap_rule.specs.declared.known.Known.{Known}
use Rattle.heap_rule.specs.declared.known.Known.TheVariants as knows
use Rattle.heap_rule.specs.declared.view.View.{View}
use Rattle.local_records.specs.Local.{Local}
use Rattle.local_references.specs.References.{IsCurrent}
use Rattle.local_references.specs.declared.roots.Root.{Root}
use Rattle.local_references.specs.declared.roots.Root.TheVariants as root
use Rattle.minor_heap.specs.Nursery.{Stands}
use Rattle.minor_heap.specs.Record.{IsWithin, field_of}
use Rattle.minor_heap.specs.declared.fields.MinorField.{MinorField}
use Rattle.minor_heap.specs.declared.fields.MinorField.TheVariants as field
use Rattle.minor_heap.specs.declared.fields.MinorRef.{MinorRef}
use Rattle.promotion.specs.Sharing.{SharesRecord}
use Rattle.sorted_boxes.specs.Holding.{HoldsAs, IsAs}
use Rattle.sorted_boxes.specs.Sorts.{SortList, holds_record, sort_as}
use Rattle.sorted_rule.specs.Open.{KnownOfSort}
use Rattle.sorted_rule.specs.Sorts.{Records}
use Rattle.sorted_rule.specs.declared.sorting.Sorting.{Sorting}
use Rattle.heap_c.specs.Records.{AreFields, CanBeFields, CanMean, FieldMeans, NamesRecord}
use Rattle.heap_c.specs.Records.{RootMeans, kind_at, starts_of, tag_at}
use Rattle.heap_c.specs.Refusing.{NoValue}
use Rattle.heap_c.specs.Turns.{NamesNone, NamesPlace, ref_number}
use Rattle.heap_c.specs.declared.turns.Turns.{Turns}
use Rattle.heap_c.specs.declared.values.HeapVal.{HeapVal}

-- what was found of a reference is what its bytes name
pub names_found : (l : Local) (tag n : ℕ) (o : Option MinorRef) → tag ≡ 3
    → length l.records ≤ 4294967296
    → IfSome o (λ found. found.number ≡ n % 4294967296)
    → IfSome o (λ found. n / 4294967296 ≡ l.turn) → IfSome o (Stands l.records)
    → IfNone o (IsCurrent l.turn l.records
    (record { turn = n / 4294967296; number = n % 4294967296 }) → ⊥)
    → MatchOption o ((r : MinorRef) → NamesRecord l tag n r → ⊥) (λ r. NamesRecord l tag n r)
names_found l tag n None is few found current stands none =
    λ r named.
    let at = named.1.0 in
    let lt = named.1.1 in
    none (omega (arith, at, lt, few), omega (arith, at, lt, few))
names_found l tag n (Some r) is few found current stands none =
    (is, (omega (arith, found, current), stands))

module _ (t : Turns) (held : ℕ) (sorts : SortList) (l : Local) (tag n : ℕ)
    (none : (r : MinorRef) → NamesRecord l tag n r → ⊥) where
  -- bytes that are no private record are no root where their tag is that of one
  pub no_root : tag ≡ 3 → (r : Root) → RootMeans t held sorts l tag n r → ⊥
  no_root is root.Null means = omega (arith, is, means)
  no_root is (root.Num number) means = let at = means.0 in omega (arith, is, at)
  no_root is (root.Private r) means = none r means
  no_root is (root.Shared place) means = let at = means.0 in omega (arith, is, at)

not_held : (place held : ℕ) → (place < 1) ⊎ (held ≤ place) → 1 ≤ place → place < held → ⊥
not_held place held (inl less) some lt = omega (arith, less, some)
not_held place held (inr more) some lt = omega (arith, more, lt)

-- nor are bytes that are no value a root, where their tag is another
pub no_root_value : (t : Turns) (held : ℕ) (sorts : SortList) (l : Local) (val : HeapVal)
    → (val.tag ≡ 3 → ⊥) → NoValue t held val → (r : Root)
    → RootMeans t held sorts l val.tag val.n r → ⊥
no_root_value t held sorts l val not none (root.Private r) means = not means.0
no_root_value t held sorts l val not (inl more) root.Null means = omega (arith, more, means)
no_root_value t held sorts l val not (inl more) (root.Num number) means =
    let at = means.0 in omega (arith, more, at)
no_root_value t held sorts l val not (inl more) (root.Shared place) means =
    let at = means.0 in omega (arith, more, at)
no_root_value t held sorts l val not (inr (inl large)) root.Null means =
    let tag = large.0 in omega (arith, tag, means)
no_root_value t held sorts l val not (inr (inl large)) (root.Num number) means =
    let more = large.1 in
    let at = means.1.0 in
    let few = means.1.1 in
    omega (arith, more, at, few)
no_root_value t held sorts l val not (inr (inl large)) (root.Shared place) means =
    let tag = large.0 in let at = means.0 in omega (arith, tag, at)
no_root_value t held sorts l val not (inr (inr apart)) root.Null means =
    let tag = apart.0 in omega (arith, tag, means)
no_root_value t held sorts l val not (inr (inr apart)) (root.Num number) means =
    let tag = apart.0 in let at = means.0 in omega (arith, tag, at)
no_root_value t held sorts l val not (inr (inr apart)) (root.Shared place) means =
    not_held place held (apart.1 place means.1.0) means.1.1.0 means.1.1.1

-- what is so of each of five fields
pub all_five : (Q : MinorField → Type 0) (fields : List MinorField) → ((i : ℕ) → i < length fields
    → Q (slice_index_or fields i field.Null)) → All Q fields
all_five Q [] at = All-nil Q
all_five Q (f ∷ fields) at = All-cons Q f fields (at 0 (omega arith))
    (all_five Q fields (λ i lt. at (suc i) (omega (arith, lt))))

is_record_term : (k : Known) → KnownOfSort Records k → is_term k ≡ true
is_record_term (knows.Record t) is = refl
is_record_term knows.Nothing is = absurd is
is_record_term (knows.Raw fields) is = absurd is
is_record_term (knows.Fresh fields) is = absurd is
is_record_term (knows.Boxed told) is = absurd is

module _ (t : Turns) (held : ℕ) (sorts : SortList) (l : Local) (v : View Sorting)
    (many : held ≡ length v.own.held) (at : HoldsAs sorts v) where
  shares_field : (tag n : ℕ) (f : MinorField) → FieldMeans t held sorts l tag n f
      → SharesRecord v.known f
  shares_field tag n field.Null means = tt
  shares_field tag n (field.Num number) means = tt
  shares_field tag n (field.Minor r) means = tt
  shares_field tag n (field.Shared place) means =
      let lt = means.1.1.0 in
      is_record_term (known_of v place)
      (subst (λ (b : Bool). IsAs v place (sort_as b)) means.1.1.1
      (at.each place (omega (arith, lt, many))))

  -- what new fields share is known as records
  pub shares_all : (kinds : ℕ) (words : List ℕ) (fields : List MinorField)
      → AreFields t held sorts l kinds words fields → All (SharesRecord v.known) fields
  shares_all kinds words fields are =
      let five = are.0 in
      all_five (SharesRecord v.known) fields
      (λ i lt. shares_field _ _ (slice_index_or fields i field.Null)
      (are.1 i (omega (arith, lt, five))))

-- of each of five numbers
at_five : (Q : ℕ → Type 0) → Q 0 → Q 1 → Q 2 → Q 3 → Q 4 → (i : ℕ) → i < 5 → Q i
at_five Q q0 q1 q2 q3 q4 zero lt = q0
at_five Q q0 q1 q2 q3 q4 (suc zero) lt = q1
at_five Q q0 q1 q2 q3 q4 (suc (suc zero)) lt = q2
at_five Q q0 q1 q2 q3 q4 (suc (suc (suc zero))) lt = q3
at_five Q q0 q1 q2 q3 q4 (suc (suc (suc (suc zero)))) lt = q4
at_five Q q0 q1 q2 q3 q4 (suc (suc (suc (suc (suc i))))) lt = absurd (omega (arith, lt))

-- a number names one place at most
pub names_one : (t : Turns) (n one other : ℕ) → NamesPlace t n one → NamesPlace t n other
    → one ≡ other
names_one t n one other (inl at) (inl too) =
    let is = at.1 in let same = too.1 in omega (arith, is, same)
names_one t n one other (inl at) (inr too) =
    let less = at.0 in
    let is = at.1 in
    let more = too.0 in
    let same = too.1 in
    absurd (omega (arith, less, is, more, same))
names_one t n one other (inr at) (inl too) =
    let more = at.0 in
    let is = at.1 in
    let less = too.0 in
    let same = too.1 in
    absurd (omega (arith, more, is, less, same))
names_one t n one other (inr at) (inr too) =
    let is = at.1 in let same = too.1 in omega (arith, is, same)

module _ (t : Turns) (sorts : SortList) (l : Local) where
  -- bytes with a tag that is none, or with a number below that from which it counts, or that name
  -- no place, or a box, are no field
  pub no_such_tag : (held tag n : ℕ) (f : MinorField) → 3 < tag → FieldMeans t held sorts l tag n f
      → ⊥
  no_such_tag held tag n field.Null more means = omega (arith, more, means)
  no_such_tag held tag n (field.Num number) more means =
      let at = means.0 in omega (arith, more, at)
  no_such_tag held tag n (field.Minor r) more means = let at = means.0 in omega (arith, more, at)
  no_such_tag held tag n (field.Shared place) more means =
      let at = means.0 in omega (arith, more, at)

  pub of_other_turn : (held tag n : ℕ) (f : MinorField) → tag ≤ 3
      → n < slice_index_or (starts_of l.turn) tag 0 → FieldMeans t held sorts l tag n f → ⊥
  of_other_turn held zero n f le less means = omega (arith, less)
  of_other_turn held (suc zero) n f le less means = omega (arith, less)
  of_other_turn held (suc (suc zero)) n f le less means = omega (arith, less)
  of_other_turn held (suc (suc (suc zero))) n field.Null le less means = omega (arith, means)
  of_other_turn held (suc (suc (suc zero))) n (field.Num number) le less means =
      let at = means.0 in omega (arith, at)
  of_other_turn held (suc (suc (suc zero))) n (field.Minor r) le less means =
      let at = means.1.0 in omega (arith, less, at)
  of_other_turn held (suc (suc (suc zero))) n (field.Shared place) le less means =
      let at = means.0 in omega (arith, at)
  of_other_turn held (suc (suc (suc (suc tag)))) n f le less means = omega (arith, le)

  pub of_no_place : (held n : ℕ) (f : MinorField) → NamesNone t n
      → FieldMeans t held sorts l 2 n f → ⊥
  of_no_place held n field.Null none means = omega (arith, means)
  of_no_place held n (field.Num number) none means = let at = means.0 in omega (arith, at)
  of_no_place held n (field.Minor r) none means = let at = means.0 in omega (arith, at)
  of_no_place held n (field.Shared place) none means = none place means.1.0

  pub of_box : (held n at : ℕ) (f : MinorField) → NamesPlace t n at
      → holds_record sorts at ≡ false → FieldMeans t held sorts l 2 n f → ⊥
  of_box held n at field.Null is box means = omega (arith, means)
  of_box held n at (field.Num number) is box means = let tag = means.0 in omega (arith, tag)
  of_box held n at (field.Minor r) is box means = let tag = means.0 in omega (arith, tag)
  of_box held n at (field.Shared place) is box means =
      true≢false (sym means.1.1.1
      ∙ ap (holds_record sorts) (names_one t n place at means.1.0 is) ∙ box)

  within_num : (n word : ℕ) → n ≡ word → (held : ℕ) (other : MinorField)
      → FieldMeans t held sorts l 1 n other → word < 2 ^ 62
  within_num n word is held field.Null means = absurd (omega (arith, means))
  within_num n word is held (field.Num number) means =
      let at = means.1.0 in let lt = means.1.1 in omega (arith, is, at, lt)
  within_num n word is held (field.Minor r) means = let at = means.0 in absurd (omega (arith, at))
  within_num n word is held (field.Shared place) means =
      let at = means.0 in absurd (omega (arith, at))

  within_shared : (n word : ℕ) → NamesPlace t n word → (held : ℕ) (other : MinorField)
      → FieldMeans t held sorts l 2 n other → word < held
  within_shared n word is held field.Null means = absurd (omega (arith, means))
  within_shared n word is held (field.Num number) means =
      let at = means.0 in absurd (omega (arith, at))
  within_shared n word is held (field.Minor r) means =
      let at = means.0 in absurd (omega (arith, at))
  within_shared n word is held (field.Shared place) means =
      let at = names_one t n place word means.1.0 is in
      let lt = means.1.1.0 in
      omega (arith, at, lt)

  within_minor : (n word : ℕ) → n ≡ ref_number l.turn 0 + word → (held : ℕ) (other : MinorField)
      → FieldMeans t held sorts l 3 n other → word < length l.records
  within_minor n word is held field.Null means = absurd (omega (arith, means))
  within_minor n word is held (field.Num number) means =
      let at = means.0 in absurd (omega (arith, at))
  within_minor n word is held (field.Minor r) means =
      let at = means.1.0 in let lt = means.1.1 in omega (arith, is, at, lt)
  within_minor n word is held (field.Shared place) means =
      let at = means.0 in absurd (omega (arith, at))

  -- the bytes of a place that holds a record are that field, if they are any
  pub mean_place : (n place : ℕ) → NamesPlace t n place → holds_record sorts place ≡ true
      → CanMean t sorts l 2 n (field.Shared place)
  mean_place n place is record_is = record {
    within = within_shared n place is;
    means = λ held within. (refl, (is, (within, record_is)));
  }

  -- all others are the field of their tag, if they are any
  pub can_mean : (tag n word : ℕ) → (tag ≡ 2 → ⊥) → tag ≤ 3
      → n ≡ slice_index_or (starts_of l.turn) tag 0 + word
      → CanMean t sorts l tag n (field_of (kind_at tag) word)
  can_mean zero n word not le is = record {
    within = λ held other means. tt;
    means = λ held within. refl;
  }
  can_mean (suc zero) n word not le is =
      let same : n ≡ word = omega (arith, is) in
      record {
        within = within_num n word same;
        means = λ held within. (refl, (same, within));
      }
  can_mean (suc (suc zero)) n word not le is = absurd (not refl)
  can_mean (suc (suc (suc zero))) n word not le is = record {
    within = within_minor n word is;
    means = λ held within. (refl, (omega (arith, is), within));
  }
  can_mean (suc (suc (suc (suc tag)))) n word not le is = absurd (omega (arith, le))

  -- five that can be meant
  pub can_be : (kinds : ℕ) (words : List ℕ) (f0 f1 f2 f3 f4 : MinorField)
      → CanMean t sorts l (tag_at kinds 0) (slice_index_or words 0 0) f0
      → CanMean t sorts l (tag_at kinds 1) (slice_index_or words 1 0) f1
      → CanMean t sorts l (tag_at kinds 2) (slice_index_or words 2 0) f2
      → CanMean t sorts l (tag_at kinds 3) (slice_index_or words 3 0) f3
      → CanMean t sorts l (tag_at kinds 4) (slice_index_or words 4 0) f4
      → CanBeFields t sorts l kinds words (f0 ∷ f1 ∷ f2 ∷ f3 ∷ f4 ∷ [])
  can_be kinds words f0 f1 f2 f3 f4 m0 m1 m2 m3 m4 =
      let fields = f0 ∷ f1 ∷ f2 ∷ f3 ∷ f4 ∷ [] in
      record {
        within = λ held others are.
            all_five (IsWithin (length l.records) held) fields
            (at_five (λ (i : ℕ). IsWithin (length l.records) held
            (slice_index_or fields i field.Null))
            (m0.within held (slice_index_or others 0 field.Null) (are.1 0 (omega arith)))
            (m1.within held (slice_index_or others 1 field.Null) (are.1 1 (omega arith)))
            (m2.within held (slice_index_or others 2 field.Null) (are.1 2 (omega arith)))
            (m3.within held (slice_index_or others 3 field.Null) (are.1 3 (omega arith)))
            (m4.within held (slice_index_or others 4 field.Null) (are.1 4 (omega arith))));
        means = λ held all. (
          refl,
          at_five (λ (i : ℕ). FieldMeans t held sorts l (tag_at kinds i) (slice_index_or words i 0)
              (slice_index_or fields i field.Null))
              (m0.means held (all 0 f0 (omega arith))) (m1.means held (all 1 f1 (omega arith)))
              (m2.means held (all 2 f2 (omega arith))) (m3.means held (all 3 f3 (omega arith)))
              (m4.means held (all 4 f4 (omega arith))),
        );
      }
