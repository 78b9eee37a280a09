-- Each step of the queue keeps the rule.
use Rattle.std.proofs.Common.{◌≡◌, ◌≢◌, ℕ, zero, suc, ◌<◌, ◌++◌, List, [], ◌∷◌, set, inl, inr}
use Rattle.std.proofs.Common.{sym, refl, ap, ◌∙◌, subst, ⊎_elim, arith}
use Rattle.std.specs.Prelude.{Option, Some, None, All, drop}
use Rattle.std.specs.Option.{option_map}
use Rattle.std.proofs.lemmas.List.Elements.{All-nil, All-cons, All-append}
use mathlib.Core.Option.{some, some-injective, some-ne-none}
use lib.ListN.{get_elem?}
use Rattle.crossbeam_queue.specs.Fifo.{Pushes, Pops, Forks, Learns}
use Rattle.crossbeam_queue.proofs.Lists.{at_set}
use Rattle.free_cells.specs.declared.counts.Counts.{Counts}
use Rattle.free_cells.specs.Counts.{unused, opened, shared, begun, pushed, put, put_refused, taken}
use Rattle.free_cells.specs.Counts.{none_taken, IsContent, IsFront}
use Rattle.free_cells.specs.Below.{IsBelow}
use Rattle.free_cells.proofs.Passes.{Knows, changed, idle_joined, joined, none_known, in_use}

lone : (i : ℕ) (p : Counts) → get_elem? (opened 0 ∷ []) i ≡ some p → (i ≡ 0) × (opened 0 ≡ p)
lone zero p at = (refl, some-injective (opened 0) p at)
lone (suc i) p at = absurd (some-ne-none p (sym at))

-- the opening: one pass, which knows that the queue is empty
pub begins : IsBelow [] (opened 0 ∷ [])
begins = (
  0,
  record {
    below = All-nil (λ cell. cell < 0);
    sized = λ i p at. inl (ap (λ (q : Counts). q.cells) (sym (lone i p at).1));
    exact = λ i p known at content. let e = ap (λ (q : Counts). q.content) (lone i p at).1
        ∙ content in cc;
    only = λ i p known at content j q apart at_j.
        absurd (apart ((lone j q at_j).0 ∙ sym (lone i p at).0));
  },
)

-- it learns how many cells there are
pub sizes : (port cells : ℕ) → Forks IsBelow port (opened 0) (opened cells) unused
sizes port cells items passes rule here =
    let empty : items ≡ [] = rule.1.exact port (opened 0) [] here refl in
    let idle = rule.1.only port (opened 0) [] here refl in
    let none : (i : ℕ) (p : Counts) (known : List ℕ) → i ≢ port → get_elem? passes i ≡ some p
    → p.content ≡ Some known → ⊥ =
    λ i p known apart at content. let e = ap (λ (q : Counts). q.content) (sym (idle i p apart at))
    ∙ content in cc in
    let now : List Counts = set passes port (opened cells) in (
      cells,
      idle_joined cells items now record {
        below =
            subst (λ (l : List ℕ). All (λ cell. cell < cells) l) (sym empty)
            (All-nil (λ cell. cell < cells));
        sized = λ i p at. ⊎_elim
            (λ (x : (i ≡ port) × (opened cells ≡ p)). inl (ap (λ (q : Counts). q.cells) (sym x.1)))
            (λ (x : (i ≢ port) × (get_elem? passes i ≡ some p)). inr (idle i p x.0 x.1))
            (at_set passes port i (opened cells) p at);
        exact = λ i p known at content. ⊎_elim
            (λ (x : (i ≡ port) × (opened cells ≡ p)). let e = ap (λ (q : Counts). q.content) x.1
            ∙ content in cc)
            (λ (x : (i ≢ port) × (get_elem? passes i ≡ some p)).
            absurd (none i p known x.0 x.1 content))
            (at_set passes port i (opened cells) p at);
        only = λ i p known at content j q apart at_j. ⊎_elim
            (λ (x : (i ≡ port) × (opened cells ≡ p)). ⊎_elim
            (λ (y : (j ≡ port) × (opened cells ≡ q)). absurd (apart (y.0 ∙ sym x.0)))
            (λ (y : (j ≢ port) × (get_elem? passes j ≡ some q)). idle j q y.0 y.1)
            (at_set passes port j (opened cells) q at_j))
            (λ (x : (i ≢ port) × (get_elem? passes i ≡ some p)).
            absurd (none i p known x.0 x.1 content))
            (at_set passes port i (opened cells) p at);
      },
    )

-- what is known of the queue is so
known_so : (content : Option (List ℕ)) (items : List ℕ)
    → ((known : List ℕ) → content ≡ Some known → items ≡ known) → IsContent content items
known_so None items exact = tt
known_so (Some known) items exact = exact known refl

pub learns : (port : ℕ) (v : Counts) → Learns IsBelow port v (λ items. IsContent v.content items)
learns port v items passes rule here =
    known_so v.content items (λ known. rule.1.exact port v known here)

pub splits : (port : ℕ) (v : Counts) → 0 < v.cells → Forks IsBelow port v (shared v) (begun v)
splits port v used items passes rule here =
    let cells = rule.0 in
    let same : v.cells ≡ cells = in_use cells v used (rule.1.sized port v here) in
    let now : List Counts = set passes port (shared v) in
    let kept =
    changed cells items items passes port v (shared v) rule.1 here used refl rule.1.below
    (λ known e. cc) in
    let nobody : (i : ℕ) (p : Counts) (known : List ℕ) → get_elem? now i ≡ some p → p.content
    ≡ Some known → ⊥ =
    λ i p known at content. ⊎_elim
    (λ (x : (i ≡ port) × (shared v ≡ p)). let e = ap (λ (q : Counts). q.content) x.1
    ∙ content in cc)
    (λ (x : (i ≢ port) × (get_elem? passes i ≡ some p)).
    none_known cells items passes port v rule.1 here used i p known x.0 x.1 content)
    (at_set passes port i (shared v) p at) in
    (cells, joined cells items now (begun v) kept same refl nobody)

-- what is known after a change of the queue is so
mapped : (content : Option (List ℕ)) (f : List ℕ → List ℕ) (items : List ℕ)
    → ((known : List ℕ) → content ≡ Some known → items ≡ known)
    → (known : List ℕ) → option_map f content ≡ Some known → (f items ≡ known)
    × ((before : List ℕ) × (content ≡ Some before))
mapped None f items exact known e = cc
mapped (Some before) f items exact known e =
    let there : f before ≡ known = cc in (ap f (exact before refl) ∙ there, (before, refl))

all_snoc : (cells cell : ℕ) (items : List ℕ) → All (λ x. x < cells) items → cell < cells
    → All (λ x. x < cells) (items ++ cell ∷ [])
all_snoc cells cell items below fits =
    let P : ℕ → Type 0 = λ x. x < cells in
    All-append P items (cell ∷ []) below (All-cons P cell [] fits (All-nil P))

all_rest : (cells cell : ℕ) (items : List ℕ) → All (λ x. x < cells) (cell ∷ items)
    → All (λ x. x < cells) items
all_rest cells cell items below k d lt = below (suc k) d (omega (arith, lt))

joins_back : (port : ℕ) (v w : Counts) (cell : ℕ) → cell < v.cells → w.cells ≡ v.cells → w.content
    ≡ option_map (λ items. items ++ cell ∷ []) v.content
    → (items : List ℕ) (passes : List Counts) → IsBelow items passes → get_elem? passes port
    ≡ some v → IsBelow (items ++ cell ∷ []) (set passes port w)
joins_back port v w cell fits same content items passes rule here =
    let cells = rule.0 in
    let used : 0 < v.cells = omega (arith, fits) in
    let all : v.cells ≡ cells = in_use cells v used (rule.1.sized port v here) in
    let fits_all : cell < cells = omega (arith, fits, all) in
    let exact = λ (known : List ℕ). rule.1.exact port v known here in
    let knows : Knows v w (items ++ cell ∷ []) = λ known e.
    mapped v.content (λ l. l ++ cell ∷ []) items exact known (sym content ∙ e) in (
      cells,
      changed cells items (items ++ cell ∷ []) passes port v w rule.1 here used same
          (all_snoc cells cell items rule.1.below fits_all) knows,
    )

pub pushes : (n port : ℕ) (v : Counts) (cell : ℕ) → cell < v.cells
    → Pushes IsBelow n port v cell (λ w. w ≡ pushed cell v)
pushes n port v cell fits items passes room rule here = (
  pushed cell v,
  joins_back port v (pushed cell v) cell fits refl refl items passes rule here,
  refl,
)

pub puts : (n port : ℕ) (v : Counts) (cell : ℕ) → cell < v.cells
    → Pushes IsBelow n port v cell (λ w. w ≡ put cell v)
puts n port v cell fits items passes room rule here =
    (put cell v, joins_back port v (put cell v) cell fits refl refl items passes rule here, refl)

in_front : (content : Option (List ℕ)) (cell : ℕ) (items : List ℕ)
    → ((known : List ℕ) → content ≡ Some known → cell ∷ items ≡ known) → IsFront cell content
in_front None cell items exact = tt
in_front (Some known) cell items exact = rw (sym (exact known refl)) refl

pub takes : (port : ℕ) (v : Counts) → 0 < v.cells
    → Pops IsBelow port v (λ cell w. (cell < v.cells) × IsFront cell v.content × (w ≡ taken v))
takes port v used cell items passes rule here =
    let cells = rule.0 in
    let same : v.cells ≡ cells = in_use cells v used (rule.1.sized port v here) in
    let exact = λ (known : List ℕ). rule.1.exact port v known here in
    let first : cell < cells = rule.1.below 0 cell (omega arith) in
    let knows : Knows v (taken v) items = λ known e.
    mapped v.content (drop 1) (cell ∷ items) exact known e in (
      taken v,
      (
        cells,
        changed cells (cell ∷ items) items passes port v (taken v) rule.1 here used refl
            (all_rest cells cell items rule.1.below) knows,
      ),
      (omega (arith, first, same), in_front v.content cell items exact, refl),
    )

-- a pass that knows of the queue what it knew, with one that is not in use split off
calls : (port : ℕ) (v w : Counts) → 0 < v.cells → w.cells ≡ v.cells → w.content ≡ v.content
    → Forks IsBelow port v w unused
calls port v w used same content items passes rule here =
    let cells = rule.0 in
    let knows : Knows v w items = λ known e.
    (rule.1.exact port v known here (sym content ∙ e), (known, sym content ∙ e)) in (
      cells,
      idle_joined cells items (set passes port w)
          (changed cells items items passes port v w rule.1 here used same rule.1.below knows),
    )

pub put_refuses : (port : ℕ) (v : Counts) → 0 < v.cells
    → Forks IsBelow port v (put_refused v) unused
put_refuses port v used = calls port v (put_refused v) used refl refl

pub takes_none : (port : ℕ) (v : Counts) → 0 < v.cells → Forks IsBelow port v (none_taken v) unused
takes_none port v used = calls port v (none_taken v) used refl refl
