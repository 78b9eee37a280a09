-- What a store leaves of a mutator, whichever way it went: all but marks, mode, pass, trail and
-- what is known.
use Rattle.std.proofs.Common.{◌≡◌, ◌⊎◌, ℕ, Bool, false, List, ◌∙◌, ap, inl, inr}
use Rattle.std.proofs.Common.{Result, Ok, Err, OnOk, IfErr}
use Rattle.cell_words.specs.declared.fields.Field.{Field}
use Rattle.core_machine.specs.declared.events.Found.{Found}
use Rattle.core_machine.specs.Words.{same_field}
use Rattle.heap_rule.specs.declared.known.Learned.{Learned}
use Rattle.heap_rule.specs.Boxes.{Map}
use Rattle.mutator_events.specs.declared.values.Moved.{Moved}
use Rattle.mutator_events.specs.declared.values.Value.{Value}
use Rattle.mutator_seat.specs.Bound.{Bound, held_cells}
use Rattle.mutator_seat.specs.Stores.{Exchanged, Overwritten}
use Rattle.mutator_seat.proofs.Stores.{exchange_leaves, store_leaves}

pub record Stays {P : Type 0} (old after : Bound P) : Type 0 where
  pub heap : after.heap ≡ old.heap
  pub table : after.seat.table ≡ old.seat.table
  pub shape : after.seat.me.shape ≡ old.seat.me.shape
  pub number : after.seat.me.number ≡ old.seat.me.number
  pub room : after.seat.me.room ≡ old.seat.me.room
  pub presence : after.seat.me.presence ≡ old.seat.me.presence
  pub held : held_cells after ≡ held_cells old

module _ {P : Type 0} {holds : Map → List P → Type 0} {fixed : ℕ → Bool}
    {next : Learned → Found → P → P} (m after : Bound P) (place f : ℕ) (new : Value) where
  pub overwritten_stays : Overwritten holds fixed next m place f new after → Stays m after
  overwritten_stays o =
      let one = o.rewritten in
      let left = store_leaves place f o.seen new o.looked one.written one.replaced in record {
        heap = o.heap;
        table = o.table;
        shape = ap (λ (b : Bound P). b.seat.me.shape) one.told ∙ left.shape ∙ o.look.kept.shape;
        number = ap (λ (b : Bound P). b.seat.me.number) one.told ∙ left.number
            ∙ o.look.kept.number;
        room = ap (λ (b : Bound P). b.seat.me.room) one.told ∙ left.room ∙ o.look.kept.room;
        presence = ap (λ (b : Bound P). b.seat.me.presence) one.told ∙ left.presence ∙ o.presence;
        held = o.held;
      }

  pub exchanged_stays : {reads : Learned → Found → P → P} (seen found : Field)
      → Exchanged holds fixed reads next m place f new seen found after → Stays m after
  exchanged_stays seen found x =
      let one = x.rewritten in
      let left = exchange_leaves place f seen new x.looked one.written found one.replaced in
      record {
        heap = x.heap;
        table = x.table;
        shape = ap (λ (b : Bound P). b.seat.me.shape) one.told ∙ left.shape ∙ x.look.kept.shape;
        number = ap (λ (b : Bound P). b.seat.me.number) one.told ∙ left.number
            ∙ x.look.kept.number;
        room = ap (λ (b : Bound P). b.seat.me.room) one.told ∙ left.room ∙ x.look.kept.room;
        presence = ap (λ (b : Bound P). b.seat.me.presence) one.told ∙ left.presence ∙ x.presence;
        held = x.held;
      }

-- whatever it answered
pub store_stays : {P T : Type 0} (holds : Map → List P → Type 0) (fixed : ℕ → Bool)
    (reads next : Learned → Found → P → P) (m after : Bound P) (place f : ℕ) (new : Value)
    (r : Result T Moved)
    → OnOk r (Overwritten holds fixed next m place f new after
    ⊎ ((seen : Field) × Exchanged holds fixed reads next m place f new seen seen after))
    → IfErr r (λ moved. (seen : Field) × (same_field moved.found seen ≡ false)
    × Exchanged holds fixed reads next m place f new seen moved.found after)
    → Stays m after
store_stays holds fixed reads next m after place f new (Ok done) made moved = elim made [
  | inl o ↦ overwritten_stays m after place f new o
  | inr x ↦ exchanged_stays m after place f new x.0 x.0 x.1
]
store_stays holds fixed reads next m after place f new (Err e) made moved =
    exchanged_stays m after place f new moved.0 e.found moved.2
