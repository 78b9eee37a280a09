-- One read of a mutator: what it leaves of its places.
use Rattle.std.proofs.Common.{◌≡◌, ◌<◌, ◌+◌, ℕ, Bool, List, [], ◌∷◌, ◌++◌}
use Rattle.std.proofs.Common.{length, get_or, refl, sym, ◌∙◌, ap, subst, arith}
use Rattle.std.proofs.lemmas.Bool.{eq-eqb}
use Rattle.std.proofs.lemmas.List.{append-nil, length-map, length_push}
use Rattle.cell_words.specs.declared.fields.Field.{Field}
use Rattle.cell_words.specs.declared.fields.Field.TheVariants as field
use Rattle.cell_words.specs.Field.{pack_field_of}
use Rattle.core_machine.specs.declared.events.Event.{Event}
use Rattle.core_machine.specs.declared.events.Event.TheVariants as event
use Rattle.core_machine.specs.declared.events.Found.{Found}
use Rattle.core_machine.specs.declared.events.Found.TheVariants as finds
use Rattle.core_machine.specs.declared.places.Held.{Held}
use Rattle.core_machine.specs.Own.{Own, having_read}
use Rattle.core_machine.specs.State.{State, target_of}
use Rattle.core_machine.specs.WordOperations.{IsPackedAs}
use Rattle.core_machine.proofs.WordOperations.{same_packed}
use Rattle.dlg_core.specs.Reachable.{Reachable}
use Rattle.dlg_core.proofs.Events.Write.{same_field_is}
use Rattle.heap_rule.specs.declared.known.Known.{Known}
use Rattle.heap_rule.specs.declared.known.Learned.{Learned}
use Rattle.heap_rule.specs.declared.view.View.{View}
use Rattle.heap_rule.specs.Asks.{known_of, target}
use Rattle.heap_rule.specs.Boxes.{Map}
use Rattle.heap_rule.specs.Facts.{IsKnown}
use Rattle.heap_rule.specs.Lore.{Lore, at_cell, cells_in, known_at, known_found, known_read}
use Rattle.heap_rule.specs.Lore.{learned, learned_of}
use Rattle.heap_rule.specs.Lore.{told as told_more}
use Rattle.heap_rule.specs.Rule.{told}
use Rattle.heap_rule.specs.Steps.{AtStep, Mine}
use Rattle.heap_rule.proofs.Reading.{cell_there, cells_more}
use Rattle.mutator_events.specs.Events.{AtEvent}
use Rattle.mutator_seat.specs.Bound.{Bound, held_cells}
use Rattle.mutator_seat.proofs.Stores.{found_claims}
use Rattle.trails.specs.Asks.{gave_at, here, nothing}
use Rattle.heap_rule.proofs.Many.{at_cell_many, known_many}
use Rattle.heap_rule.proofs.Seats.{knows_place, reached_place, target_now}
use Rattle.held_places.specs.Calls.{IsCoherent, StaysKnown, StillKnown, WasRead}
use Rattle.held_places.specs.Calls.{cells_found}
use Rattle.held_places.proofs.Going.{goes_told, many_held, still_same, still_then}
use Rattle.held_places.proofs.Knowns.{changed_still, fit, not_fresh, pushed_still, told_still}

-- No other field is packed into the same word.
pub same_word : (a b : Field) → pack_field_of a ≡ pack_field_of b → a ≡ b
same_word a b is = same_field_is a b
    (sym (same_packed a b) ∙ eq-eqb (pack_field_of a) (pack_field_of b) is)

pub same_value : (a b : Field) → finds.Field a ≡ finds.Field b → a ≡ b
same_value a b is = cc

module _ {P : Type 0} (fixed : ℕ → Bool) (holds : Map → List P → Type 0)
    (next : Learned → Found → P → P)
    (v w : View P) (e : Event) (found : Field)
    (step : AtEvent holds fixed v e next (finds.Field found) w) where
  -- an event, as the laws of a rule speak of it
  pub as_step : AtStep holds fixed v e next (pack_field_of found) w
  as_step = record {
    core = step.core;
    lore = step.lore;
    passes = step.passes;
    mine = step.mine;
    happens = step.happens;
    kept = step.kept;
    pass = step.pass;
    says = subst (λ (x : Found). IsPackedAs x (pack_field_of found)) (sym step.found_is) refl;
    new = step.new ∙ ap (λ (x : Found). told v e x (learned step.core step.lore e)
        (next (learned step.core step.lore e) x v.pass)) (sym step.found_is);
  }

  pub coherent : IsCoherent v
  coherent = record {
    many = known_many fixed v step.core step.lore step.mine;
    kinds = fit fixed v step.core step.lore step.mine;
    anchor = not_fresh fixed v step.core step.lore step.mine;
  }

-- One read.

found_cells : (own : Own) (found : Field)
    → cells_in (having_read own found).held ≡ cells_in own.held ++ cells_found found
found_cells own field.Null = sym (append-nil (cells_in own.held))
found_cells own (field.Num n) = sym (append-nil (cells_in own.held))
found_cells own (field.Cell c) = cells_more own.held c

found_still : (fixed : ℕ → Bool) (known : List Known) (k : Known) (found : Field) (place : ℕ)
    → place < length known
    → StillKnown fixed (known_at known place) (known_at (known_found known k found) place)
found_still fixed known k field.Null place lt = still_same fixed (known_at known place)
found_still fixed known k (field.Num n) place lt = still_same fixed (known_at known place)
found_still fixed known k (field.Cell c) place lt = pushed_still fixed known k place lt

found_many : (known : List Known) (k : Known) (found : Field)
    → length (known_found known k found) ≡ length known + length (cells_found found)
found_many known k field.Null = omega arith
found_many known k (field.Num n) = omega arith
found_many known k (field.Cell c) = length_push known k

-- What a load of a field leaves of the places, by a read or by a fetch: more is known of the cell,
-- and the cell that was found is held.
module _ {P : Type 0} (fixed : ℕ → Bool) (a b : Bound P) (s : State) (l : Lore)
    (mine : Mine fixed a.seat.me s l) (place : ℕ)
    (found : Field) (tells : Learned) (there : place < length a.seat.me.own.held)
    (here_is : tells.here ≡ learned_of s l (target_of s a.seat.me.number place))
    (known_is : b.seat.me.known ≡ known_read (cells_in a.seat.me.own.held) a.seat.me.known place
    tells (finds.Field found))
    (cells_are : held_cells b ≡ cells_in (having_read a.seat.me.own found).held) where
  abbrev v : View P
  v = a.seat.me

  abbrev cells : List ℕ
  cells = cells_in v.own.held

  abbrev known_told : List Known
  known_told = at_cell (told_more tells.here) (get_or cells place 0) cells v.known

  many : length v.known ≡ length cells
  many = known_many fixed v s l mine ∙ sym (length-map v.own.held (λ (p : Held). p.cell))

  cell_is : get_or cells place 0 ≡ target v place
  cell_is = cell_there v.own.held place

  still_at : (other : ℕ) → other < length v.own.held → get_or cells other 0 ≡ get_or cells place 0
      → StillKnown fixed (known_of v other) (told_more tells.here (known_of v other))
  still_at other lt same =
      let x = target_of s v.number place in
      let now = target_now v s l mine place in
      let is : target v other ≡ x =
      sym (cell_there v.own.held other) ∙ same ∙ cell_is ∙ sym now in
      subst (λ (h : Known). StillKnown fixed (known_of v other) (told_more h (known_of v other)))
      (sym here_is)
      (told_still fixed v s l mine x (known_of v other)
      (subst (Reachable s) (sym now) (reached_place v s l mine place there))
      (subst (λ (c : ℕ). IsKnown fixed s l v.number c (known_of v other)) is
      (knows_place v s l mine other lt)))

  pub loaded_known : StaysKnown fixed (length v.own.held) a b
  loaded_known other lt =
      let within : other < length cells =
      let many = length-map v.own.held (λ (p : Held). p.cell) in omega (arith, many, lt) in
      let longer = at_cell_many (told_more tells.here) (get_or cells place 0) cells v.known many in
      subst (λ (k : Known). StillKnown fixed (known_of v other) k)
      (sym (ap (λ (ks : List Known). known_at ks other) known_is))
      (still_then fixed (known_of v other) (known_at known_told other)
      (known_at (known_found known_told tells.found found) other)
      (changed_still fixed (told_more tells.here)
      (get_or cells place 0) cells v.known other within many
      (still_at other lt))
      (found_still fixed known_told tells.found found other (omega (arith, within, longer, many))))

  pub loaded_held : held_cells b ≡ held_cells a ++ cells_found found
  loaded_held = cells_are ∙ found_cells v.own found

  pub loaded_many : length b.seat.me.known ≡ length b.seat.me.own.held
  loaded_many =
      let known = ap (λ (ks : List Known). length ks) known_is
      ∙ found_many known_told tells.found found in
      let changed = at_cell_many (told_more tells.here) (get_or cells place 0) cells v.known many
      in
      let held = many_held a b (cells_found found) loaded_held in
      let before = known_many fixed v s l mine in
      omega (arith, known, changed, held, before)

module _ {P : Type 0} (fixed : ℕ → Bool) (holds : Map → List P → Type 0)
    (next : Learned → Found → P → P)
    (a b : Bound P) (place f : ℕ) (found : Field) (heap : b.heap ≡ a.heap)
    (table : b.seat.table ≡ a.seat.table) (there : place < length a.seat.me.own.held)
    (step : AtEvent holds fixed a.seat.me (event.Read a.seat.me.number place f) next
    (finds.Field found) b.seat.me) where
  abbrev tells_read : Learned
  tells_read = learned step.core step.lore (event.Read a.seat.me.number place f)

  known_read_is : b.seat.me.known ≡ known_read (cells_in a.seat.me.own.held) a.seat.me.known place
      tells_read (finds.Field found)
  known_read_is = ap (λ (u : View P). u.known) step.new

  cells_read : held_cells b ≡ cells_in (having_read a.seat.me.own found).held
  cells_read = ap (λ (u : View P). cells_in u.own.held) step.new

  pub was_read : WasRead fixed a b place f found
  was_read = record {
    goes = goes_told a b (gave_at (target a.seat.me place) f found ∷ [])
        (event.Read a.seat.me.number place f) (finds.Field found) tells_read
        (next tells_read (finds.Field found) a.seat.me.pass) heap table step.new refl
        (here (refl, refl, refl) nothing);
    holds = record {
      held = loaded_held fixed a b step.core step.lore step.mine place found tells_read there refl
          known_read_is cells_read;
      known = loaded_known fixed a b step.core step.lore step.mine place found tells_read there refl
          known_read_is cells_read;
    };
    claims = ap (λ (u : View P). u.own.claims) step.new ∙ found_claims a.seat.me.own found;
    coherent = coherent fixed holds next a.seat.me b.seat.me
        (event.Read a.seat.me.number place f) found
        step;
    many = loaded_many fixed a b step.core step.lore step.mine place found tells_read there refl
        known_read_is cells_read;
  }
