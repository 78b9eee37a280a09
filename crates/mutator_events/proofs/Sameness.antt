-- Two places that hold one cell: who keeps all places is shown that what is known of both agrees.
use Rattle.std.proofs.Common.{◌≡◌, ◌<◌, ◌≤◌, ◌++◌, ◌∙◌, ℕ, Bool, true, List, [], length, Some}
use Rattle.std.proofs.Common.{ap, sym, subst, arith}
use Rattle.std.proofs.lemmas.List.{append-nil, take_all}
use Rattle.cell_words.specs.Term.{Term}
use Rattle.cell_words.specs.declared.presences.Status.{Status}
use Rattle.core_machine.specs.State.{State}
use Rattle.core_machine.specs.declared.events.Event.TheVariants as event
use Rattle.core_machine.specs.declared.events.Found.TheVariants as finds
use Rattle.heap_rule.specs.Asks.{MayKeep, known_of, target}
use Rattle.heap_rule.specs.Boxes.{Map}
use Rattle.heap_rule.specs.Facts.{IsKnown}
use Rattle.heap_rule.specs.Lore.{Lore, nothing_learned}
use Rattle.heap_rule.specs.Rule.{told}
use Rattle.heap_rule.specs.Steps.{AtStep, Mine, same_pass}
use Rattle.heap_rule.specs.declared.known.Known.{Known}
use Rattle.heap_rule.specs.declared.known.Known.TheVariants as knows
use Rattle.heap_rule.specs.declared.view.View.{View}
use Rattle.heap_rule.proofs.Seats.{knows_place}
use Rattle.mutator_events.specs.Seats.{IsMutator}
use Rattle.mutator_events.specs.Values.{cells_kept}
use Rattle.mutator_events.proofs.Calls.{Behind, after_keep}
use Rattle.mutator_events.proofs.HeldCells.{held_many}

-- a record has one term, wherever it is known
pub one_term : {P : Type 0} {fixed : ℕ → Bool} (v : View P) (s : State) (l : Lore)
    → Mine fixed v s l → (first second : ℕ) → first < length v.own.held
    → second < length v.own.held → target v first ≡ target v second → (t u : Term)
    → known_of v first ≡ knows.Record t → known_of v second ≡ knows.Record u → t ≡ u
one_term {fixed = fixed} v s l mine first second low high same t u first_is second_is =
    let here : IsKnown fixed s l v.number (target v second) (knows.Record t) =
    subst (λ (x : ℕ). IsKnown fixed s l v.number x (knows.Record t)) same
    (subst (λ (k : Known). IsKnown fixed s l v.number (target v first) k) first_is
    (knows_place v s l mine first low)) in
    let there : IsKnown fixed s l v.number (target v second) (knows.Record u) =
    subst (λ (k : Known). IsKnown fixed s l v.number (target v second) k) second_is
    (knows_place v s l mine second high) in
    let one : Some t ≡ Some u = sym here.1 ∙ there.1 in
    cc

-- all cells are kept, and none is copied
all_kept : (cells : List ℕ) (n : ℕ) → length cells ≤ n → cells_kept cells n 0 0 ≡ cells
all_kept cells n le = ap (λ (cs : List ℕ). cs ++ []) (take_all n cells le) ∙ append-nil cells

module _ {P : Type 0} {v : View P} {i room : ℕ} {held : List ℕ} {looked : ℕ} {inside : Bool}
    {status : Status} {claims : ℕ} (m : IsMutator v i room held looked inside status claims)
    (n : ℕ) (all : n ≡ length v.own.held) (is_in : v.presence.inside ≡ true) where
  -- who is in may keep all places
  pub may_keep_all : MayKeep v n 0 0
  may_keep_all =
      let many = held_many v.own.held held m.own.held_is in
      let some = m.roots.some (sym m.presence.inside_is ∙ is_in) in
      record {
        inside = is_in;
        some = omega (arith, all, some);
        kept = omega (arith, all);
        copied = omega arith;
        room = omega (arith, all, many, m.own.held_fits, m.room_is);
      }

  -- and holds the same cells after it
  pub after_keep_all : {holds : Map → List P → Type 0} {fixed : ℕ → Bool} {w : View P} {number : ℕ}
      → AtStep holds fixed v (event.Keep i n 0 0) same_pass number w
      → Behind v w (event.Keep v.number (length v.own.held) 0 0) (finds.Presence v.presence) i room
      held looked inside status claims
  after_keep_all {w = w} at =
      let many = held_many v.own.held held m.own.held_is in
      let after = after_keep m n 0 0 may_keep_all at in
      record {
        view = after.view
            ∙ ap (λ (k : ℕ). told v (event.Keep v.number k 0 0) (finds.Presence v.presence)
            nothing_learned v.pass) all;
        keeps = subst (λ (cells : List ℕ). IsMutator w i room cells looked inside status claims)
            (all_kept held n (omega (arith, all, many))) after.keeps;
      }
