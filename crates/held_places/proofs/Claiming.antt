-- What a claim leaves: one more place, whose cell stood at none; and all else as it was.
use Rattle.std.proofs.Common.{◌≡◌, ◌≢◌, ◌<◌, ◌+◌, ℕ, Bool, true, false, List, [], ◌∷◌, length}
use Rattle.std.proofs.Common.{refl, sym, ◌∙◌, ap, subst, arith}
use Rattle.std.proofs.lemmas.List.{get_or_append_left, get_or_push, length_push}
use Rattle.cell_words.specs.declared.colours.Colour.TheVariants as colour
use Rattle.core_machine.specs.declared.events.Event.TheVariants as event
use Rattle.core_machine.specs.declared.events.Found.TheVariants as finds
use Rattle.heap_rule.specs.declared.known.Known.{Known}
use Rattle.heap_rule.specs.declared.known.Known.TheVariants as knows
use Rattle.heap_rule.specs.Asks.{known_of, target}
use Rattle.heap_rule.specs.Lore.{five_nulls, has, known_at, nothing_learned}
use Rattle.heap_rule.proofs.Lists.{has_at}
use Rattle.heap_rule.proofs.Reading.{cell_there}
use Rattle.mutator_seat.specs.Bound.{Bound, held_cells}
use Rattle.mutator_seat.specs.Claims.{Claimed, Seeking}
use Rattle.trails.specs.Asks.{nothing}
use Rattle.held_places.specs.Calls.{Goes, IsIn, StaysKnown, StillKnown}
use Rattle.held_places.proofs.Going.{calm_goes, goes_then, goes_told, in_still, many_cells}
use Rattle.held_places.proofs.Going.{many_held, still_same, target_still}
use Rattle.held_places.proofs.ReadValues.{last_held}

module _ {P : Type 0} (a b : Bound P) (fresh : ℕ) (got : Claimed a fresh b) where
  pub claimed_goes : Goes [] a b
  claimed_goes = goes_then (calm_goes Seeking a got.at got.calm)
      (goes_told got.at b [] (event.Claim got.at.seat.me.number got.cell)
      (finds.Colour colour.Blue) nothing_learned got.at.seat.me.pass
      (ap (λ (m : Bound P). m.heap) got.told)
      (ap (λ (m : Bound P). m.seat.table) got.told)
      (ap (λ (m : Bound P). m.seat.me) got.told) refl nothing)

  pub claimed_pass : b.seat.me.pass ≡ a.seat.me.pass
  claimed_pass = ap (λ (m : Bound P). m.seat.me.pass) got.told ∙ got.calm.kept.pass

  pub claimed_claims : b.seat.me.own.claims ≡ a.seat.me.own.claims + 1
  claimed_claims = ap (λ (m : Bound P). m.seat.me.own.claims) got.told
      ∙ ap (λ (n : ℕ). n + 1) got.calm.kept.claims

  -- as much was known as there were places, and there is one more place
  pub claimed_many : length a.seat.me.known ≡ length a.seat.me.own.held
  claimed_many = got.is_new.fit ∙ many_cells a

  pub claimed_longer : length b.seat.me.own.held ≡ length a.seat.me.own.held + 1
  claimed_longer = many_held a b (got.cell ∷ []) got.held

  pub claimed_fits : length b.seat.me.known ≡ length b.seat.me.own.held
  claimed_fits =
      let many = claimed_many in
      let more = claimed_longer in
      let pushed = ap (λ (ks : List Known). length ks) got.known
      ∙ length_push a.seat.me.known (knows.Raw five_nulls) in
      omega (arith, many, more, pushed)

  pub claimed_there : fresh < length b.seat.me.own.held
  claimed_there =
      let more = claimed_longer in let placed = got.place_is in omega (arith, more, placed)

  pub claimed_in : IsIn a → IsIn b
  claimed_in is = in_still a b (got.cell ∷ []) [] is claimed_goes got.held

  -- what was known before is known
  pub claimed_same : (place : ℕ) → place < length a.seat.me.own.held
      → known_of b.seat.me place ≡ known_of a.seat.me place
  claimed_same place lt =
      ap (λ (ks : List Known). known_at ks place) got.known
      ∙ get_or_append_left a.seat.me.known (knows.Raw five_nulls ∷ []) knows.Nothing place
      (let many = claimed_many in omega (arith, many, lt))

  pub claimed_known : (fixed : ℕ → Bool) → StaysKnown fixed (length a.seat.me.own.held) a b
  claimed_known fixed place lt =
      subst (λ (k : Known). StillKnown fixed (known_of a.seat.me place) k)
      (sym (claimed_same place lt)) (still_same fixed (known_of a.seat.me place))

  -- and of the claimed cell that it is raw
  pub claimed_raw : known_of b.seat.me fresh ≡ knows.Raw five_nulls
  claimed_raw = ap (λ (ks : List Known). known_at ks fresh) got.known
      ∙ get_or_push a.seat.me.known (knows.Raw five_nulls) knows.Nothing fresh
      (claimed_many ∙ sym got.place_is)

  pub claimed_target : (place : ℕ) → place < length a.seat.me.own.held
      → target b.seat.me place ≡ target a.seat.me place
  claimed_target place lt = target_still a b (got.cell ∷ []) got.held place lt

  pub claimed_cell : target b.seat.me fresh ≡ got.cell
  claimed_cell = ap (λ (n : ℕ). target b.seat.me n) got.place_is
      ∙ last_held a b got.cell got.held

  -- the claimed cell stood at no place
  pub stood_nowhere : (place : ℕ) → place < length a.seat.me.own.held
      → target a.seat.me place ≢ got.cell
  stood_nowhere place lt same =
      let there : has (held_cells a) got.cell ≡ true =
      subst (λ (c : ℕ). has (held_cells a) c ≡ true)
      (cell_there a.seat.me.own.held place ∙ same)
      (has_at (held_cells a) place (let many = many_cells a in omega (arith, many, lt))) in
      let none : false ≡ true = sym got.is_new.apart ∙ there in absurd cc

  -- so it differs from the cell of every place before it
  pub claimed_apart : (place : ℕ) → place < length a.seat.me.own.held
      → target b.seat.me place ≢ target b.seat.me fresh
  claimed_apart place lt same =
      stood_nowhere place lt (sym (claimed_target place lt) ∙ same ∙ claimed_cell)
