-- The events of a mutator keep the ranges. No event makes a cell blue, and each cell that is newly
-- held or named was held, named or tested before.
use Rattle.std.proofs.Common.{◌≡◌, ℕ, ◌+◌, ◌<◌, ◌≤◌, true, false, cond, List, [], ◌∷◌, length, take}
use Rattle.std.proofs.Common.{drop, set, Option, Some, None, nat_lt, ◌==◌, suc, refl, sym, ◌∙◌, ap}
use Rattle.std.proofs.Common.{subst, arith, inl, inr}
use Rattle.std.specs.List.{count_by}
use Rattle.std.proofs.lemmas.Bool.{or_cases, eqb-true}
use Rattle.std.proofs.lemmas.List.{length-set}
use Rattle.cell_words.specs.declared.colours.Colour.{Colour}
use Rattle.cell_words.specs.declared.colours.Colour.TheVariants as colour
use Rattle.cell_words.specs.declared.controls.Control.{Control}
use Rattle.cell_words.specs.declared.controls.Stage.{Stage}
use Rattle.cell_words.specs.declared.controls.Stage.TheVariants as stage
use Rattle.cell_words.specs.declared.fields.Field.{Field}
use Rattle.cell_words.specs.declared.fields.Field.TheVariants as field
use Rattle.cell_words.specs.declared.fields.Kind.{Kind}
use Rattle.cell_words.specs.declared.fields.Kind.TheVariants as kind
use Rattle.cell_words.specs.declared.presences.Status.{Status}
use Rattle.cell_words.specs.declared.presences.Status.TheVariants as status
use Rattle.cell_words.specs.Modes.{async_claim_colour_of}
use Rattle.core_machine.specs.declared.places.Held.{Held}
use Rattle.core_machine.specs.Own.{Own, no_own, pending_or_none, begun, looked, having_read}
use Rattle.core_machine.specs.Own.{having_fetched, marking, spent, having_claimed, keeping, ended}
use Rattle.core_machine.specs.InRange.{IsShaped, NamesBelow}
use Rattle.core_machine.specs.Mutation.{mark_after, write_can, write_after, store_can, store_after}
use Rattle.core_machine.specs.Mutation.{claim_can, claim_after, fill_can, fill_after, seal_after}
use Rattle.core_machine.specs.Operations.{begin_after, look_after, read_after, fetch_can}
use Rattle.core_machine.specs.Operations.{fetch_after, answer_after, keep_after, end_after}
use Rattle.core_machine.specs.Operations.{over_after}
use Rattle.core_machine.specs.Places.{is_place_of, holds, names_rightly, unmark, mark_of, found_at}
use Rattle.core_machine.specs.State.{State, colour_of, field_of, presence_of, own_of, held_of}
use Rattle.core_machine.specs.State.{target_of, begun_of}
use Rattle.core_machine.specs.Words.{is_blue, shaded, claimed, written, same_field, kind_field}
use Rattle.core_machine.specs.Words.{born_colour}
use Rattle.core_machine.proofs.Conditions.{fetch_needs, write_needs, store_needs, claim_needs}
use Rattle.core_machine.proofs.Conditions.{fill_needs}
use Rattle.core_machine.proofs.Ranges.Lists.{set_cases, Below, below-none, below-cons, below-map}
use Rattle.core_machine.proofs.Ranges.Lists.{below-append, below-take, below-drop}
use Rattle.core_machine.proofs.Ranges.Lists.{count-set_claimed}
use Rattle.core_machine.proofs.Ranges.Parts.{own_kept, presence_kept, colour_kept, colours_fit_kept}
use Rattle.core_machine.proofs.Ranges.Parts.{field_kept}

-- What is held, named or born.

-- a held cell is one that there is
pub holds_below : (n : ℕ) (held : List Held) (c : ℕ) → Below n held → holds held c ≡ true → c < n
holds_below n [] c below is = cc
holds_below n (p ∷ ps) c below is = elim (or_cases (is_place_of c p) (holds ps c) is) [
  | inl here ↦ subst (λ (d : ℕ). d < n) (eqb-true p.cell c here) (below 0)
  | inr there ↦ holds_below n ps c (λ k. below (suc k)) there
]

-- a value that names a cell rightly names none, or one that there is
pub rightly_below : (n : ℕ) (held : List Held) (value : Field) → Below n held
    → names_rightly held value ≡ true
    → NamesBelow n value
rightly_below n held field.Null below is = tt
rightly_below n held (field.Num k) below is = tt
rightly_below n held (field.Cell c) below is = holds_below n held c below is

written_below : (n : ℕ) (found old new : Field) → NamesBelow n found → NamesBelow n new
    → NamesBelow n (written found old new)
written_below n found old new before after =
    elim (same_field found old) as (λ b. NamesBelow n (cond b new found))
    [ true ↦ after | false ↦ before ]

read_below : (n : ℕ) (own : Own) (found : Field) → 0 < n → Below n own.held → NamesBelow n found
    → Below n (having_read own found).held
read_below n own field.Null some below names = below
read_below n own (field.Num k) some below names = below
read_below n own (field.Cell c) some below names =
    below-append n own.held (found_at c ∷ []) below
    (below-cons n (found_at c) [] names (below-none n some))

read_claims : (own : Own) (found : Field) → (having_read own found).claims ≤ own.claims
read_claims own field.Null = omega arith
read_claims own (field.Num k) = omega arith
read_claims own (field.Cell c) = omega arith

read_pending : (own : Own) (found : Field) → (having_read own found).pending ≡ own.pending
read_pending own field.Null = refl
read_pending own (field.Num k) = refl
read_pending own (field.Cell c) = refl

mark_of-cell : (c : ℕ) (place : Held) → (mark_of c place).cell ≡ place.cell
mark_of-cell c place =
    elim (place.cell == c)
    as (λ b. (cond b (record place { marked = true }) place).cell ≡ place.cell)
    [ true ↦ refl | false ↦ refl ]

pub shaded-blue : (x : Colour) → is_blue (shaded x) ≡ true → is_blue x ≡ true
shaded-blue colour.Blue is = is
shaded-blue colour.White is = is
shaded-blue colour.Gray is = is
shaded-blue colour.Black is = is

born_async : (at : Stage) (position c : ℕ) → is_blue (async_claim_colour_of at position c) ≡ false
born_async stage.Idle position c = refl
born_async stage.Sync1 position c = refl
born_async stage.Clear position c = refl
born_async stage.Sync2 position c = refl
born_async stage.Trace position c = refl
born_async stage.Sweep position c =
    elim (nat_lt c position) as (λ b. is_blue (cond b colour.White colour.Black) ≡ false)
    [ true ↦ refl | false ↦ refl ]

-- a new cell is not blue
pub born-blue : (own : Status) (mode : Option Control) (c : ℕ)
    → is_blue (born_colour own mode c) ≡ false
born-blue own None c = refl
born-blue status.Async (Some mode) c = born_async mode.stage mode.position c
born-blue status.Sync1 (Some mode) c = refl
born-blue status.Sync2 (Some mode) c = refl

same_claims : (own : Own) → own.claims ≤ own.claims
same_claims own = omega arith

-- The events.

pub begin_keeps : (s : State) → IsShaped s → (i : ℕ) → IsShaped (begin_after s i)
begin_keeps s r i =
    let some = r.cells_fit.some_cells in
    presence_kept _ (own_kept s r i (begun (own_of s i))
    (below-cons s.cells (found_at 0) [] some (below-none s.cells some))
    (r.names_fit.pendings_fit i) (omega arith)) i _

pub look_keeps : (s : State) → IsShaped s → (i : ℕ) → IsShaped (look_after s i)
look_keeps s r i =
    own_kept s r i (looked (own_of s i) s.control)
    (below-map s.cells unmark (λ place. refl) _ (r.names_fit.held_fit i))
    (r.names_fit.pendings_fit i) (omega arith)

pub read_keeps : (s : State) → IsShaped s → (i place f : ℕ) → IsShaped (read_after s i place f)
read_keeps s r i place f =
    let found = field_of s (target_of s i place) f in
    own_kept s r i (having_read (own_of s i) found)
    (read_below s.cells (own_of s i) found r.cells_fit.some_cells (r.names_fit.held_fit i)
    (r.names_fit.fields_fit (target_of s i place) f))
    (subst (λ p. (pending_or_none p).f ≤ 4) (sym (read_pending (own_of s i) found))
    (r.names_fit.pendings_fit i))
    (read_claims (own_of s i) found)

pub fetch_keeps : (s : State) → IsShaped s → (i place f : ℕ) → fetch_can s i place f ≡ true
    → IsShaped (fetch_after s i place f)
fetch_keeps s r i place f can =
    let found = field_of s (target_of s i place) f in
    own_kept s r i (having_fetched (own_of s i) place f found)
    (read_below s.cells (own_of s i) found r.cells_fit.some_cells (r.names_fit.held_fit i)
    (r.names_fit.fields_fit (target_of s i place) f))
    (fetch_needs s i place f can).payload
    (read_claims (own_of s i) found)

pub mark_keeps : (s : State) → IsShaped s → (i place : ℕ) → IsShaped (mark_after s i place)
mark_keeps s r i place =
    let cell = target_of s i place in
    own_kept _ (colour_kept s r cell (shaded (colour_of s cell)) (r.names_fit.held_fit i place)
    (shaded-blue (colour_of s cell)))
    i (marking (own_of s i) cell)
    (below-map s.cells (mark_of cell) (mark_of-cell cell) _ (r.names_fit.held_fit i))
    (r.names_fit.pendings_fit i) (omega arith)

pub write_keeps : (s : State) → IsShaped s → (i place f : ℕ) (old new : Field)
    → write_can s i place f old new ≡ true → IsShaped (write_after s i place f old new)
write_keeps s r i place f old new can =
    let cell = target_of s i place in
    let found = field_of s cell f in
    let needs = write_needs s i place f old new can in
    own_kept _ (field_kept s r cell f (written found old new)
    (written_below s.cells found old new (r.names_fit.fields_fit cell f)
    (rightly_below s.cells (held_of s i) new (r.names_fit.held_fit i) needs.names_new)))
    i (spent (own_of s i)) (below-map s.cells unmark (λ p. refl) _ (r.names_fit.held_fit i))
    (omega arith) (same_claims (own_of s i))

pub store_keeps : (s : State) → IsShaped s → (i : ℕ) (new : Field) → store_can s i new ≡ true
    → IsShaped (store_after s i new)
store_keeps s r i new can =
    let begun = begun_of s i in
    own_kept _ (field_kept s r (target_of s i begun.place) begun.f new
    (rightly_below s.cells (held_of s i) new (r.names_fit.held_fit i)
    (store_needs s i new can).names))
    i (spent (own_of s i)) (below-map s.cells unmark (λ p. refl) _ (r.names_fit.held_fit i))
    (omega arith) (same_claims (own_of s i))

-- a claim of a blue cell: one claim more, and one blue cell less
claimed_keeps : (s : State) → IsShaped s → (i c : ℕ) (born : Colour) → c < s.cells
    → colour_of s c ≡ colour.Blue → is_blue born ≡ false
    → IsShaped (record s {
      colours = set s.colours c born;
      owns = set s.owns i (having_claimed (own_of s i) c colour.Blue);
    })
claimed_keeps s r i c born within blue other =
    let own = having_claimed (own_of s i) c colour.Blue in
    let some = r.cells_fit.some_cells in
    let there : c < length s.colours = subst (λ (n : ℕ). c < n)
    (sym r.cells_fit.colours_fit) within in
    let fewer = count-set_claimed s.colours c born there (ap is_blue blue) other in
    record {
      cells_fit = colours_fit_kept s r c born;
      mutators_fit = record {
        rooms_fit = r.mutators_fit.rooms_fit;
        presences_fit = r.mutators_fit.presences_fit;
        owns_fit = length-set s.owns i own ∙ r.mutators_fit.owns_fit;
        answered_fit = r.mutators_fit.answered_fit;
      };
      names_fit = record {
        fields_fit = r.names_fit.fields_fit;
        held_fit = λ j. set_cases (λ o. Below s.cells o.held) s.owns i j own no_own
            (λ is there. below-append s.cells (held_of s i) (found_at c ∷ [])
            (r.names_fit.held_fit i)
            (below-cons s.cells (found_at c) [] within (below-none s.cells some)))
            (r.names_fit.held_fit j);
        pendings_fit = λ j. set_cases (λ o. (pending_or_none o.pending).f ≤ 4) s.owns i j own no_own
            (λ is there. r.names_fit.pendings_fit i) (r.names_fit.pendings_fit j);
        scan_fits = r.names_fit.scan_fits;
      };
      control_fits = r.control_fits;
      counts_fit = record {
        each_fits = r.counts_fit.each_fits;
        freed_fits = r.counts_fit.freed_fits;
        claims_fit = λ j. set_cases
            (λ o. o.claims + count_by is_blue
            (set s.colours c born) ≤ s.cells + s.collector.number_freed)
            s.owns i j own no_own
            (λ is there. omega (arith, r.counts_fit.claims_fit i))
            (omega (arith, r.counts_fit.claims_fit j));
      };
    }

-- a claim of another cell: nothing changes
missed_keeps : (s : State) → IsShaped s → (i c : ℕ) (found : Colour) → c < s.cells
    → colour_of s c ≡ found
    → is_blue found ≡ false
    → IsShaped (record s { colours = set s.colours c found; owns = set s.owns i (own_of s i) })
missed_keeps s r i c found within is other =
    own_kept _ (colour_kept s r c found within (λ blue. ap is_blue is ∙ blue)) i (own_of s i)
    (r.names_fit.held_fit i) (r.names_fit.pendings_fit i) (omega arith)

claim_found_keeps : (s : State) → IsShaped s → (i c : ℕ) (born found : Colour) → c < s.cells
    → colour_of s c ≡ found → is_blue born ≡ false
    → IsShaped (record s {
      colours = set s.colours c (claimed found born);
      owns = set s.owns i (having_claimed (own_of s i) c found);
    })
claim_found_keeps s r i c born colour.Blue within is other = claimed_keeps s r i c born within is
    other
claim_found_keeps s r i c born colour.White within is other = missed_keeps s r i c colour.White
    within is refl
claim_found_keeps s r i c born colour.Gray within is other = missed_keeps s r i c colour.Gray
    within is refl
claim_found_keeps s r i c born colour.Black within is other = missed_keeps s r i c colour.Black
    within is refl

pub claim_keeps : (s : State) → IsShaped s → (i c : ℕ) → claim_can s i c ≡ true
    → IsShaped (claim_after s i c)
claim_keeps s r i c can =
    claim_found_keeps s r i c _ (colour_of s c) (claim_needs s i c can).cell refl
    (born-blue (presence_of s i).status (own_of s i).mode c)

pub fill_keeps : (s : State) → IsShaped s → (i place f : ℕ) (value : Field)
    → fill_can s i place f value ≡ true
    → IsShaped (fill_after s i place f value)
fill_keeps s r i place f value can =
    field_kept s r (target_of s i place) f value
    (rightly_below s.cells (held_of s i) value (r.names_fit.held_fit i)
    (fill_needs s i place f value can).names)

kind_below : (n : ℕ) (kind : Kind) → NamesBelow n (kind_field kind)
kind_below n kind.Record = tt
kind_below n kind.Boxed = tt

pub seal_keeps : (s : State) → IsShaped s → (i place : ℕ) (kind : Kind)
    → IsShaped (seal_after s i place kind)
seal_keeps s r i place kind = field_kept s r (target_of s i place) 5 (kind_field kind)
    (kind_below s.cells kind)

pub answer_keeps : (s : State) → IsShaped s → (i : ℕ) → IsShaped (answer_after s i)
answer_keeps s r i =
    presence_kept _ (own_kept s r i (spent (own_of s i))
    (below-map s.cells unmark (λ place. refl) _ (r.names_fit.held_fit i))
    (omega arith) (omega arith)) i _

pub keep_keeps : (s : State) → IsShaped s → (i count from copies : ℕ)
    → IsShaped (keep_after s i count from copies)
keep_keeps s r i count from copies =
    let some = r.cells_fit.some_cells in
    let below = r.names_fit.held_fit i in
    own_kept s r i (keeping (own_of s i) count from copies)
    (below-append s.cells (take count (held_of s i)) (take copies (drop from (held_of s i)))
    (below-take s.cells count some (held_of s i) below)
    (below-take s.cells copies some (drop from (held_of s i))
    (below-drop s.cells from (held_of s i) below)))
    (r.names_fit.pendings_fit i) (omega arith)

pub end_keeps : (s : State) → IsShaped s → (i : ℕ) → IsShaped (end_after s i)
end_keeps s r i =
    presence_kept _
    (own_kept s r i (ended (own_of s i)) (below-none s.cells r.cells_fit.some_cells)
    (omega arith) (omega arith)) i _

pub over_keeps : (s : State) → IsShaped s → (i : ℕ) → IsShaped (over_after s i)
over_keeps s r i = presence_kept s r i _
