-- The first draft: a private record of the empty tree.
use Rattle.std.proofs.Common.{◌≡◌, ◌<◌, ◌≤◌, ℕ, zero, suc}
use Rattle.std.proofs.Common.{List, [], ◌∷◌, length, sym, ◌∙◌, ap, subst, arith}
use Rattle.std.specs.Prelude.{slice_index_or}
use Rattle.aged_nursery.specs.Aged.{Aged}
use Rattle.cell_words.specs.Term.{null}
use Rattle.run_limits.specs.declared.TheConstants.{MOST_CLIENTS}
use Rattle.client_heap.specs.Shows.{node_term, state_of}
use Rattle.client_heap.specs.Sound.{IsSound}
use Rattle.client_trees.specs.declared.at.NodeAt.{NodeAt}
use Rattle.client_trees.specs.declared.at.NodeAt.TheVariants as at
use Rattle.client_trees.specs.Records.{IsAmong, Rests, rests, stands_on, term_at, terms_known}
use Rattle.client_session.specs.declared.journal.Journal.{Journal}
use Rattle.client_session.specs.Turns.{InStep}
use Rattle.client_history.specs.State.{ClientState}
use Rattle.doc_records.specs.Trees.{IsTreeNode, tree_of}
use Rattle.doc_tree.specs.Tree.{empty}
use Rattle.client_history.specs.Spelled.{bare_is_empty, bare_is_node}
use Rattle.heap_rule.specs.declared.known.Known.{Known}
use Rattle.minor_heap.specs.declared.fields.MinorField.{MinorField}
use Rattle.minor_heap.specs.declared.fields.MinorField.TheVariants as field
use Rattle.minor_heap.specs.declared.fields.MinorRef.{MinorRef}
use Rattle.minor_heap.specs.Nursery.{Nursery, field_at}
use Rattle.minor_heap.specs.Terms.{term_of, terms_of}
use Rattle.mutator_seat.specs.Bound.{Bound}
use Rattle.version_rule.specs.Pass.{Pass}
use Rattle.version_rule.specs.Spelling.{bare_root}
use Rattle.client_run.specs.Own.{IsBegun, MayAnswer}
use Rattle.client_run.specs.declared.session.Session.{Session}

-- a session of these parts
abbrev pub session_of : Journal → Aged → ℕ → NodeAt → ℕ → Session
session_of j nursery copies draft base = record {
  journal = j;
  nursery = nursery;
  promoter = copies;
  draft = draft;
  base = base;
}

abbrev pub first_record : List MinorField
first_record = field.Null ∷ field.Null ∷ field.Num 1 ∷ field.Num 0 ∷ field.Null ∷ []

-- it names no other

abbrev names_none : MinorField → Type 0
names_none field.Null = Unit {0}
names_none (field.Num n) = Unit {0}
names_none (field.Minor r) = ⊥
names_none (field.Shared place) = ⊥

first_none : (i : ℕ) → i < 5 → names_none (field_at (first_record ∷ []) 0 i)
first_none zero lt = tt
first_none (suc zero) lt = tt
first_none (suc (suc zero)) lt = tt
first_none (suc (suc (suc zero))) lt = tt
first_none (suc (suc (suc (suc zero)))) lt = tt
first_none (suc (suc (suc (suc (suc i))))) lt = absurd (omega (arith, lt))

first_stands : (known : List Known) (r : MinorRef) → r.number ≡ 0
    → Rests (first_record ∷ []) (IsAmong known 1) r
first_stands known r number =
    let none : (i : ℕ) → i < 5 → names_none (field_at (first_record ∷ []) r.number i) =
    λ i lt. subst (λ (n : ℕ). names_none (field_at (first_record ∷ []) n i)) (sym number)
    (first_none i lt) in
    rests (omega (arith, number)) (λ i place lt is. absurd (subst names_none is (none i lt)))
    (λ i o lt is. absurd (subst names_none is (none i lt)))

module _ (m : Bound Pass) (minor : Nursery) (r : MinorRef)
    (records : minor.records ≡ first_record ∷ []) (number : r.number ≡ 0) where
  draft_stands : stands_on m.seat.me.known minor.records 1 (at.Minor r)
  draft_stands = subst (λ (rs : List (List MinorField)). Rests rs (IsAmong m.seat.me.known 1) r)
      (sym records) (first_stands m.seat.me.known r number)

  draft_bare : term_at m.seat.me.known minor.records (at.Minor r) ≡ bare_root
  draft_bare =
      ap (λ (rs : List (List MinorField)). term_of (terms_known m.seat.me.known) rs r) records
      ∙ ap (λ (n : ℕ).
      slice_index_or (terms_of (terms_known m.seat.me.known) (first_record ∷ [])) n null) number

  -- a mutator that has just begun
  module _ (j : Journal) (copies most keep : ℕ)
      (client : (1 ≤ j.log.client) × (j.log.client ≤ MOST_CLIENTS))
      (step : (s : ClientState) → s.pass.keep ≡ keep → s.pass.commits ≡ []
      → tree_of s.draft ≡ empty → InStep j s)
      (many : 4_096 ≤ most) (room : minor.room ≡ most) (copied : copies ≡ most)
      (begun : IsBegun keep most m) where
    one : length minor.records ≡ 1
    one = ap (λ (rs : List (List MinorField)). length rs) records

    begin_sound : IsSound m minor (at.Minor r) 1
    begin_sound = record {
      inside = begun.inside;
      some = omega arith;
      kept = let held = begun.one in omega (arith, held);
      stands = draft_stands;
      node = subst IsTreeNode (sym draft_bare) bare_is_node;
      records = omega (arith, many, room);
      places = let places = begun.room in omega (arith, room, places);
      ready = let is = one in let places = begun.room in omega (arith, is, many, places);
    }

    pub may_begin : (nursery : Aged) → nursery.heap ≡ minor → nursery.records ≡ most
        → MayAnswer (session_of j nursery copies (at.Minor r) 1) m
    may_begin nursery heap all =
        let same = ap (λ (n : Nursery). n.room) heap in
        let many = ap (λ (n : Nursery). length n.records) heap in
        let held = begun.one in
        let places = begun.room in
        record {
          client = client;
          step = step (state_of m nursery.heap (at.Minor r) 1) begun.keep_is begun.none_made
              (ap (λ (n : Nursery). tree_of (node_term m n (at.Minor r))) heap
              ∙ ap tree_of draft_bare ∙ bare_is_empty);
          sound = subst (λ (n : Nursery). IsSound m n (at.Minor r) 1) (sym heap) begin_sound;
          ready = let is = one in omega (arith, is, many, held, same, room, places);
          settled = held;
          whole = omega (arith, same, room, all);
          copied = omega (arith, same, room, copied);
        }
