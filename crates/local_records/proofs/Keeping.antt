-- Private records stay in force: through one more of them, an ageing, copies, other roots, and
-- whatever becomes of the places that they do not name.
use Rattle.std.proofs.Common.{◌≡◌, ◌≤◌, ◌+◌, ◌++◌, ◌∷◌, ◌∙◌, ℕ, List, [], All, Bool}
use Rattle.std.proofs.Common.{length, length-append, map, take, refl, sym, ap, subst, arith}
use Rattle.std.proofs.Math.Seq.{take-length}
use Rattle.heap_rule.specs.declared.known.Known.{Known}
use Rattle.heap_rule.specs.declared.known.Known.TheVariants as knows
use Rattle.minor_heap.specs.declared.fields.MinorField.{MinorField}
use Rattle.minor_heap.specs.Spans.{NoneMarked}
use Rattle.minor_heap.specs.Terms.{terms_of}
use Rattle.aged_nursery.specs.Survivors.{NameNoMore}
use Rattle.local_references.specs.declared.roots.Root.{Root}
use Rattle.mutator_seat.specs.Bound.{Bound}
use Rattle.promotion.specs.Sharing.{SharesRecord, known_terms}
use Rattle.record_copying.specs.Copies.{AllShare, AreCopies, CopiesUpTo, StillRecords}
use Rattle.record_copying.proofs.Standing.{all_share_still, copies_made, copies_none, copies_stay}
use Rattle.record_copying.proofs.Standing.{terms_stay}
use Rattle.local_records.specs.Local.{AreLocal, IsFieldBelow, IsRootBelow, StillBelow}
use Rattle.local_records.proofs.Naming.{fields_first, first_below, first_still, more_still}
use Rattle.local_records.proofs.Naming.{roots_wider, share_aged, share_made}

-- no records and no copies
pub local_none : (known : List Known) (named : ℕ) (records : List (List MinorField))
    (copied : List Bool) (places : List ℕ) (roots : List Root) → records ≡ [] → NoneMarked copied
    → named ≤ length known → All (IsRootBelow named) roots
    → AreLocal known named records copied places roots
local_none known named records copied places roots empty none within below = record {
  within = within;
  shares = subst (λ (rs : List (List MinorField)). AllShare (take named known) rs) (sym empty)
      (λ k i. tt);
  copies = copies_none (take named known) records copied places none;
  below = below;
}

module _ (known : List Known) (named : ℕ) (records : List (List MinorField)) (copied : List Bool)
    (places : List ℕ) (roots : List Root)
    (so : AreLocal known named records copied places roots) where
  -- In all of the held list.

  pub local_shares : AllShare known records
  local_shares =
      all_share_still (take named known) known records so.shares (first_still named known)

  pub local_copies : AreCopies known records copied places
  local_copies =
      copies_stay (take named known) known records copied places so.shares
      (first_still named known) so.copies

  local_terms : terms_of (known_terms known) records
      ≡ terms_of (known_terms (take named known)) records
  local_terms =
      terms_stay (take named known) known records so.shares (first_still named known)

  -- The places that are named stay known.
  module _ (later : List Known) (still : StillBelow named known later) where
    pub local_later : named ≤ length later → AreLocal later named records copied places roots
    local_later within =
        let kept = first_below named named known later (omega arith) still in
        record {
          within = within;
          shares = all_share_still (take named known) (take named later) records so.shares kept;
          copies = copies_stay (take named known) (take named later) records copied places so.shares
              kept so.copies;
          below = so.below;
        }

    pub local_denotes : terms_of (known_terms later) records ≡ terms_of (known_terms known) records
    local_denotes =
        let kept : StillRecords (take named known) later = λ place t is.
        first_still named later place t
        (first_below named named known later (omega arith) still place t is) in
        terms_stay (take named known) later records so.shares kept ∙ sym local_terms

  -- More places are named.
  module _ (more : ℕ) (le : named ≤ more) (within : more ≤ length known) where
    pub local_roots : (others : List Root) → All (IsRootBelow more) others
        → AreLocal known more records copied places others
    local_roots others below = record {
      within = within;
      shares = all_share_still (take named known) (take more known) records so.shares
          (more_still named more known le);
      copies = copies_stay (take named known) (take more known) records copied places so.shares
          (more_still named more known le) so.copies;
      below = below;
    }

    pub local_made : (fields : List MinorField) → All (SharesRecord known) fields
        → All (IsFieldBelow more) fields
        → AreLocal known more (records ++ fields ∷ []) copied places roots
    local_made fields shares below =
        let wider = local_roots roots (roots_wider named more roots le so.below) in
        record {
          within = within;
          shares = share_made (take more known) records fields wider.shares
              (fields_first more known fields shares below);
          copies = copies_made (take more known) records fields copied places wider.copies;
          below = wider.below;
        }

  -- Records age.
  pub local_aged : (new : List (List MinorField)) (none : List Bool) (moved : List Root)
      (further : List ℕ) → NameNoMore records new → NoneMarked none
      → All (IsRootBelow named) moved → AreLocal known named new none further moved
  local_aged new none moved further named_no_more unmarked below = record {
    within = so.within;
    shares = share_aged (take named known) records new so.shares named_no_more;
    copies = copies_none (take named known) new none further unmarked;
    below = below;
  }

-- all of the held list is named
pub local_whole : (known : List Known) (named : ℕ) (records : List (List MinorField))
    (copied : List Bool) (places : List ℕ) (roots : List Root) → named ≡ length known
    → AllShare known records → AreCopies known records copied places
    → All (IsRootBelow named) roots → AreLocal known named records copied places roots
local_whole known named records copied places roots is shares copies below =
    let all : take named known ≡ known =
    ap (λ (n : ℕ). take n known) is ∙ take-length known in
    record {
      within = omega (arith, is);
      shares = subst (λ (ks : List Known). AllShare ks records) (sym all) shares;
      copies = subst (λ (ks : List Known). AreCopies ks records copied places) (sym all) copies;
      below = below;
    }

-- more of them are copied
pub local_copied : {P : Type 0} (a b : Bound P) (most named : ℕ) (records : List (List MinorField))
    (copied : List Bool) (places : List ℕ) (roots : List Root) (later : List Bool)
    (further : List ℕ) → AreLocal a.seat.me.known named records copied places roots
    → CopiesUpTo most a b → AllShare b.seat.me.known records
    → AreCopies b.seat.me.known records later further
    → AreLocal b.seat.me.known (length b.seat.me.known) records later further roots
local_copied a b most named records copied places roots later further so grown shares copies =
    let known = a.seat.me.known in
    let more = map (λ t. knows.Record t) grown.grown.grown.terms in
    let longer : length b.seat.me.known ≡ length known + length more =
    ap (λ (ks : List Known). length ks) grown.grown.grown.known ∙ length-append known more in
    local_whole b.seat.me.known (length b.seat.me.known) records later further roots refl shares
    copies
    (roots_wider named (length b.seat.me.known) roots (omega (arith, so.within, longer)) so.below)
