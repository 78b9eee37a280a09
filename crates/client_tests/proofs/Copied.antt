-- A node that was copied into the shared heap.
use Rattle.std.proofs.Common.{◌≡◌, ◌<◌, ◌≤◌, ◌+◌, ℕ, zero, suc, true, List}
use Rattle.std.proofs.Common.{[], ◌∷◌, ◌++◌, length, take, refl, sym, ◌∙◌, ap, subst}
use Rattle.std.proofs.Common.{arith}
use Rattle.std.specs.Prelude.{slice_index_or}
use Rattle.std.specs.List.{Contains}
use Rattle.std.proofs.lemmas.List.{length-map}
use Rattle.cell_words.specs.Term.{IsFive, Term, five, null, num}
use Rattle.client_trees.specs.declared.at.NodeAt.TheVariants as at
use Rattle.client_trees.specs.Records.{IsAmong, IsRecord, Rests, known_term, terms_known}
use Rattle.client_trees.proofs.Resting.{rests_place, rests_reached}
use Rattle.client_tests.specs.Works.{Works}
use Rattle.client_trees.specs.Nodes.{IsTreeAt}
use Rattle.core_machine.specs.declared.places.Held.{Held}
use Rattle.doc_records.specs.Trees.{IsTreeNode}
use Rattle.heap_rule.specs.Facts.{is_term}
use Rattle.heap_rule.specs.Lore.{known_at}
use Rattle.heap_rule.specs.declared.known.Known.{Known}
use Rattle.heap_rule.specs.declared.known.Known.TheVariants as knows
use Rattle.minor_heap.specs.declared.fields.MinorField.{MinorField}
use Rattle.minor_heap.specs.declared.fields.MinorField.TheVariants as field
use Rattle.minor_heap.specs.declared.fields.MinorRef.{MinorRef}
use Rattle.minor_heap.specs.Nursery.{Nursery, field_at}
use Rattle.minor_heap.specs.Terms.{term_of}
use Rattle.mutator_seat.specs.Bound.{Bound, held_cells}
use Rattle.promotion.specs.Promoting.{Collected, knows_term}
use Rattle.promotion.specs.Sharing.{ShareRecords, SharesRecord}

-- the places that it shares are known as records

record_term : (k : Known) → IsRecord k → is_term k ≡ true
record_term knows.Nothing is = absurd is
record_term (knows.Raw fields) is = absurd is
record_term (knows.Fresh fields) is = absurd is
record_term (knows.Record t) is = refl
record_term (knows.Boxed told) is = absurd is

only_root : (r q : MinorRef) (k : ℕ) → k < 1 → slice_index_or (r ∷ []) k q ≡ q → r ≡ q
only_root r q zero lt is = is
only_root r q (suc k) lt is = absurd (omega (arith, lt))

module _ (known : List Known) (records : List (List MinorField)) (places : ℕ) where
  field_shares : (f : MinorField)
      → ((place : ℕ) → f ≡ field.Shared place → IsAmong known places place)
      → SharesRecord known f
  field_shares field.Null stands = tt
  field_shares (field.Num n) stands = tt
  field_shares (field.Minor r) stands = tt
  field_shares (field.Shared place) stands =
      record_term (known_at known place) (stands place refl).1

  pub node_shares : (r : MinorRef) → Rests records (IsAmong known places) r
      → ShareRecords known records (r ∷ [])
  node_shares root stands r i reaches lt =
      let rests = rests_reached records (IsAmong known places) (Contains (root ∷ []))
      (λ q is. subst (Rests records (IsAmong known places)) (only_root root q is.0 is.1 is.2) stands)
      r reaches in
      field_shares (field_at records r.number i)
      (λ place is. rests_place records (IsAmong known places) r i place rests lt is)

-- after the anchor it is known as the record that it was

node_record : (k : Known) (t : Term) → k ≡ knows.Record t → IsTreeNode t → IsRecord k
node_record k null is node = absurd node.node
node_record k (num n) is node = absurd node.node
node_record k (five a b c d e) is node = subst IsRecord (sym is) tt

second_at : {A : Type 0} (d : A) (xs : List A) (x : A) → 1 ≤ length xs
    → slice_index_or (take 1 xs ++ x ∷ []) 1 d ≡ x
second_at d [] x some = absurd (omega (arith, some))
second_at d (y ∷ xs) x some = refl

two_many : {A : Type 0} (xs : List A) (x : A) → 1 ≤ length xs
    → length (take 1 xs ++ x ∷ []) ≡ 2
two_many [] x some = absurd (omega (arith, some))
two_many (y ∷ xs) x some = refl

module _ {P : Type 0} where
  many_cells : (m : Bound P) → length (held_cells m) ≡ length m.seat.me.own.held
  many_cells m = length-map m.seat.me.own.held (λ (p : Held). p.cell)

  module _ (m n : Bound P) (old new : Nursery) (r : MinorRef) (works : Works m old (at.Minor r))
      (collected : Collected m old.records (r ∷ []) 1 n)
      (fit : length m.seat.me.known ≡ length m.seat.me.own.held)
      (some : 1 ≤ length m.seat.me.own.held) where
    held_two : 1 < length n.seat.me.own.held
    held_two =
        let there = many_cells n in
        let here = many_cells m in
        let two = ap (λ (cs : List ℕ). length cs) collected.held
        ∙ two_many (held_cells m) (collected.cell r) (omega (arith, here, some)) in
        omega (arith, there, two)

    known_as : known_at n.seat.me.known 1
        ≡ knows.Record (term_of (terms_known m.seat.me.known) old.records r)
    known_as = ap (λ (ks : List Known). known_at ks 1) collected.known
        ∙ second_at knows.Nothing m.seat.me.known (knows_term m old.records r)
        (omega (arith, fit, some))

    pub works_shared : Works n new (at.Shared 1)
    works_shared = record {
      inside = collected.stays.inside ∙ works.inside;
      node = record {
        stands = (held_two, node_record _ _ known_as works.node.node);
        node = subst IsTreeNode (sym (ap known_term known_as)) works.node.node;
      };
    }
