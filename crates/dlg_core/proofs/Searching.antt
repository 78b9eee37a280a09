-- How a search for reachable cells grows, and why it finds all of them and no other.
use Rattle.std.proofs.Common.{◌≡◌, ◌≢◌, ◌<◌, ◌≤◌, ◌+◌, ◌⊎◌, inl, inr, ◌==◌, ℕ, suc, zero, Bool}
use Rattle.std.proofs.Common.{true, false, List, [], ◌∷◌, ◌++◌, length, get_or, replicate, take}
use Rattle.std.proofs.Common.{refl, sym, subst, arith, ap, ◌∙◌, if◌then◌else◌, length-append}
use Rattle.std.proofs.Common.{eq-eqb}
use Rattle.std.proofs.Math.ListN.{set}
use Rattle.std.specs.List.{Contains}
use Rattle.std.proofs.lemmas.List.{length-set, length-replicate, get_or-set_same, get_or_past}
use Rattle.std.proofs.lemmas.List.{get_or_default, take_more, take_all}
use Rattle.std.proofs.lemmas.List.Elements.{Contains-push, Contains-append_left}
use Rattle.std.proofs.lemmas.List.Elements.{Contains-push_cases}
use Rattle.std.proofs.lemmas.Bool.{cases_lt, or_cases, eqb-true}
use Rattle.cell_words.specs.declared.fields.Field.TheVariants as field
use Rattle.core_machine.specs.declared.places.Held.{Held}
use Rattle.core_machine.specs.InRange.{IsShaped, NamesBelow}
use Rattle.core_machine.specs.Places.{holds, no_place}
use Rattle.core_machine.specs.State.{State, field_of, held_of, presence_of}
use Rattle.dlg_core.specs.Consistent.{IsConsistent}
use Rattle.dlg_core.specs.Reachable.{Reachable}
use Rattle.dlg_core.specs.Reachable as reach
use Rattle.dlg_core.specs.Search.{Search, has_found, with_found, twice_unfound, left_to_do, GrowsTo}
use Rattle.dlg_core.specs.Search.{FoundNamed, FoundHeld, IsSearch, HeldSoFar, NamedSoFar}
use Rattle.dlg_core.specs.Search.{RootsSoFar}
use Rattle.dlg_core.proofs.Each.{set_each}
use Rattle.dlg_core.proofs.Computes.{into}
use Rattle.dlg_core.proofs.Events.Blacken.{payload_names}
use Rattle.dlg_core.proofs.Truths.{or_here, or_later}
use Rattle.core_machine.proofs.OneOperation.{inside_there}

-- a mark that is set is set, and each that was set still is
pub marked_same : (marks : List Bool) (c : ℕ) → c < length marks
    → get_or (set marks c true) c false ≡ true
marked_same marks c lt = get_or-set_same marks c true false lt

pub marked_kept : (marks : List Bool) (c d : ℕ) → get_or marks d false ≡ true
    → get_or (set marks c true) d false ≡ true
marked_kept marks c d h = set_each
    (λ n b. get_or marks n false ≡ true → b ≡ true) marks c true false (λ _ _. refl)
    (λ n h2. h2) d h

pub marked_was : (marks : List Bool) (c d : ℕ) → get_or (set marks c true) d false ≡ true
    → (get_or marks d false ≡ true) ⊎ (d ≡ c)
marked_was marks c d h =
    set_each (λ n b. b ≡ true → (get_or marks n false ≡ true) ⊎ (n ≡ c)) marks c true false
    (λ _ _. inr refl) (λ n h2. inl h2) d h

-- one cell fewer is not found
pub fewer : (marks : List Bool) (c : ℕ) → c < length marks → get_or marks c false ≡ false
    → twice_unfound (set marks c true) + 2 ≡ twice_unfound marks
fewer [] c lt h = absurd (omega arith)
fewer (true ∷ marks) zero lt h = absurd cc
fewer (false ∷ marks) zero lt h = refl
fewer (true ∷ marks) (suc c) lt h = fewer marks c (omega arith) h
fewer (false ∷ marks) (suc c) lt h = let e = fewer marks c (omega arith) h in omega arith

pub grows_same : (s : State) (f : Search) → GrowsTo s f f
grows_same s f = record {
  size = refl;
  kept = (λ c h. h);
  waits = (λ c h. h);
  new_waits = (λ c h. inl h);
  sound = (λ k. k);
  found = (λ k. k);
  less = omega arith;
}

pub grows_on : (s : State) (f g h : Search) → GrowsTo s f g → GrowsTo s g h → GrowsTo s f h
grows_on s f g h a b = record {
  size = b.size ∙ a.size;
  kept = (λ c e. b.kept c (a.kept c e));
  waits = (λ c e. b.waits c (a.waits c e));
  new_waits = (λ c e. elim (b.new_waits c e) [
    | inl was ↦ elim (a.new_waits c was)
        [ inl before ↦ inl before | inr waits ↦ inr (b.waits c waits) ]
    | inr waits ↦ inr waits
  ]);
  sound = (λ k. b.sound (a.sound k));
  found = (λ k. b.found (a.found k));
  less = let one = a.less in let two = b.less in omega arith;
}

-- a reachable cell is found
pub add_grows : (s : State) (f : Search) (c : ℕ) → c < length f.marks → Reachable s c
    → GrowsTo s f (with_found f c)
add_grows s f c lt r =
    elim (has_found f c)
    as (λ b. has_found f c ≡ b
    → GrowsTo s f
    (if b then f else record { marks = set f.marks c true; waiting = f.waiting ++ c ∷ [] })) [
      | true ↦ λ e. grows_same s f
      | false ↦ λ e. record {
        size = length-set f.marks c true;
        kept = (λ d h. marked_kept f.marks c d h);
        waits = (λ d h. Contains-append_left f.waiting (c ∷ []) d h);
        new_waits = (λ d h. elim (marked_was f.marks c d h) [
          | inl was ↦ inl was
          | inr here ↦ inr
              (subst (Contains (f.waiting ++ c ∷ [])) (sym here) (Contains-push f.waiting c))
        ]);
        sound = (λ k d h. elim (marked_was f.marks c d h) [
          | inl was ↦ k d was
          | inr here ↦ subst (Reachable s) (sym here) r
        ]);
        found = (λ k d h. elim (Contains-push_cases f.waiting c d h) [
          | inl was ↦ marked_kept f.marks c d (k d was)
          | inr here ↦ subst (λ n. get_or (set f.marks c true) n false ≡ true) here
              (marked_same f.marks c lt)
        ]);
        less = let fell = fewer f.marks c lt e in omega (arith, length-append f.waiting (c ∷ []));
      }
    ] refl

pub add_finds : (f : Search) (c : ℕ) → c < length f.marks → has_found (with_found f c) c ≡ true
add_finds f c lt =
    elim (has_found f c)
    as (λ b. has_found f c ≡ b
    → has_found
    (if b then f else record { marks = set f.marks c true; waiting = f.waiting ++ c ∷ [] }) c
    ≡ true) [
      | true ↦ λ e. e
      | false ↦ λ e. marked_same f.marks c lt
    ] refl

-- What a mutator holds.

pub holds_push : (held : List Held) (p : Held) (c : ℕ) → holds (held ++ p ∷ []) c ≡ true
    → (holds held c ≡ true) ⊎ (p.cell ≡ c)
holds_push [] p c h = elim (or_cases (p.cell == c) false h) [
  | inl here ↦ inr (eqb-true p.cell c here)
  | inr there ↦ absurd cc
]
holds_push (x ∷ xs) p c h = elim (or_cases (x.cell == c) _ h) [
  | inl here ↦ inl (or_here (x.cell == c) _ here)
  | inr there ↦ elim (holds_push xs p c there) [
    | inl held ↦ inl (or_later (x.cell == c) _ held)
    | inr new ↦ inr new
  ]
]

pub holds_at : (held : List Held) (k : ℕ) (d : Held) → k < length held
    → holds held (get_or held k d).cell ≡ true
holds_at [] k d lt = absurd (omega arith)
holds_at (p ∷ ps) zero d lt = or_here (p.cell == p.cell) _ (eq-eqb p.cell p.cell refl)
holds_at (p ∷ ps) (suc k) d lt = or_later (p.cell == (get_or ps k d).cell) _
    (holds_at ps k d (omega arith))

-- a held cell is one that there is
pub held_below : (s : State) (i k : ℕ) (d : Held) → IsShaped s → k < length (held_of s i)
    → (get_or (held_of s i) k d).cell < s.cells
held_below s i k d shape lt =
    subst (λ p. p.cell < s.cells) (get_or_default (held_of s i) k no_place d lt)
    (shape.names_fit.held_fit i k)

pub held_start : (s : State) (i : ℕ) (f : Search) → HeldSoFar s i 0 f f
held_start s i f = record { grows = grows_same s f; held = (λ c h. absurd cc) }

pub held_more : (s : State) (i k : ℕ) (d : Held) (start now : Search) → IsShaped s
    → (presence_of s i).inside ≡ true
    → k < length (held_of s i) → length start.marks ≡ s.cells → HeldSoFar s i k start now
    → HeldSoFar s i (k + 1) start (with_found now (get_or (held_of s i) k d).cell)
held_more s i k d start now shape inside lt size so =
    let held = held_of s i in
    let c = (get_or held k d).cell in
    let below : c < length now.marks = let b = held_below s i k d shape
    lt in let e = so.grows.size in omega arith in
    let grown = add_grows s now c below (reach.held i inside (holds_at held k d lt)) in
    record {
      grows = grows_on s start now (with_found now c) so.grows grown;
      held = (λ n h.
          elim (holds_push (take k held) (get_or held k d) n
          (subst (λ ps. holds ps n ≡ true) (take_more held k d lt) h)) [
            | inl before ↦ grown.kept n (so.held n before)
            | inr new ↦
                subst (λ m. has_found (with_found now c) m ≡ true) new (add_finds now c below)
          ]);
    }

pub held_done : (s : State) (i k : ℕ) (items : List Held) (start now : Search)
    → HeldSoFar s i k start now → items ≡ held_of s i
    → length items ≤ k → FoundHeld s i now
held_done s i k items start now so same all c inside h =
    let le : length (held_of s i) ≤ k = subst (λ ps. length ps ≤ k) same all in
    so.held c (subst (λ ps. holds ps c ≡ true) (sym (take_all k (held_of s i) le)) h)

-- one place more, of the list as the loop has it
pub held_next : (s : State) (i k : ℕ) (d : Held) (items : List Held) (start now later : Search)
    → IsShaped s → items ≡ held_of s i
    → (presence_of s i).inside ≡ true → k < length items → length start.marks ≡ s.cells
    → HeldSoFar s i k start now
    → later ≡ with_found now (get_or items k d).cell → HeldSoFar s i (k + 1) start later
held_next s i k d items start now later shape same inside lt size so e =
    subst (HeldSoFar s i (k + 1) start)
    (ap (λ ps. with_found now (get_or ps k d).cell) (sym same) ∙ sym e)
    (held_more s i k d start now shape inside (subst (λ ps. k < length ps) same lt) size so)

-- What a cell names.

pub named_start : (s : State) (c : ℕ) (f : Search) → NamedSoFar s c 0 f f
named_start s c f = record { grows = grows_same s f; named = (λ d f2 lt e. absurd (omega arith)) }

-- a field that is no cell
pub named_pass : (s : State) (c k : ℕ) (start now : Search) → NamedSoFar s c k start now
    → ((d : ℕ) → field_of s c k ≢ field.Cell d)
    → NamedSoFar s c (k + 1) start now
named_pass s c k start now so nothing = record {
  grows = so.grows;
  named = (λ d f lt e. elim (cases_lt f k) [
    | inl below ↦ so.named d f below e
    | inr here ↦ absurd
        (nothing d
        (let same : f ≡ k = omega arith in subst (λ n. field_of s c n ≡ field.Cell d) same e))
  ]);
}

-- a field that is one
pub named_more : (s : State) (c k n : ℕ) (start now : Search) → IsShaped s → Reachable s c
    → length start.marks ≡ s.cells
    → field_of s c k ≡ field.Cell n → NamedSoFar s c k start now
    → NamedSoFar s c (k + 1) start (with_found now n)
named_more s c k n start now shape r size is so =
    let fits : n < s.cells = subst (λ x. NamesBelow s.cells x) is
    (shape.names_fit.fields_fit c k) in
    let below : n < length now.marks = let e = so.grows.size in omega arith in
    let grown = add_grows s now n below (reach.named k r is) in
    record {
      grows = grows_on s start now (with_found now n) so.grows grown;
      named = (λ d f lt e. elim (cases_lt f k) [
        | inl before ↦ grown.kept d (so.named d f before e)
        | inr here ↦
            let same : f ≡ k = omega arith in
            let cell : field.Cell n ≡ field.Cell d = sym is
            ∙ subst (λ m. field_of s c m ≡ field.Cell d) same e in
            let eq : n ≡ d = cc in
            subst (λ m. has_found (with_found now n) m ≡ true) eq (add_finds now n below)
      ]);
    }

-- The roots.

pub not_in_nil : (c : ℕ) → Contains [] c → ⊥
not_in_nil c h = absurd (let lt = h.1 in omega arith)

pub nothing_found : (n c : ℕ) → get_or (replicate n false) c false ≡ false
nothing_found zero c = refl
nothing_found (suc n) zero = refl
nothing_found (suc n) (suc c) = nothing_found n c

pub roots_start : (s : State) → IsShaped s
    → RootsSoFar s 0 (with_found (record { marks = replicate s.cells false; waiting = [] }) 0)
roots_start s shape =
    let start : Search = record { marks = replicate s.cells false; waiting = [] } in
    let below : 0 < length start.marks = let some = shape.cells_fit.some_cells in omega
    (arith, length-replicate s.cells false) in
    let grown = add_grows s start 0 below (reach.anchor refl) in
    record {
      size = grown.size ∙ length-replicate s.cells false;
      sound = grown.sound (λ c h. absurd (let no = nothing_found s.cells c in cc));
      found = grown.found (λ c h. absurd (not_in_nil c h));
      anchor = add_finds start 0 below;
      held = (λ i lt. absurd (omega arith));
      waits = (λ c h. elim (grown.new_waits c h) [
        | inl was ↦ absurd (let no = nothing_found s.cells c in cc)
        | inr waits ↦ waits
      ]);
    }

pub roots_more : (s : State) (k : ℕ) (old new : Search) → RootsSoFar s k old → GrowsTo s old new
    → FoundHeld s k new → RootsSoFar s (k + 1) new
roots_more s k old new so grown held = record {
  size = grown.size ∙ so.size;
  sound = grown.sound so.sound;
  found = grown.found so.found;
  anchor = grown.kept 0 so.anchor;
  held = (λ i lt c inside h. elim (cases_lt i k) [
    | inl below ↦ grown.kept c (so.held i below c inside h)
    | inr here ↦ let same : i ≡ k = omega arith in
        held c (subst (λ n. (presence_of s n).inside ≡ true) same inside)
        (subst (λ n. holds (held_of s n) c ≡ true) same h)
  ]);
  waits = (λ c h. elim (grown.new_waits c h) [
    | inl was ↦ grown.waits c (so.waits c was)
    | inr waits ↦ waits
  ]);
}

pub roots_done : (s : State) (k : ℕ) (f : Search) → IsShaped s → k ≡ s.mutators → RootsSoFar s k f
    → IsSearch s f
roots_done s k f shape all so = record {
  size = so.size;
  sound = so.sound;
  found = so.found;
  roots = record {
    anchor = so.anchor;
    held = (λ i c inside h. so.held i
        (let lt = inside_there s shape i inside in omega arith) c inside h);
  };
  closed = (λ c h. inl (so.waits c h));
}

-- The search.

pub search_more : (s : State) (old mid new : Search) (c : ℕ) → IsSearch s old
    → mid.marks ≡ old.marks
    → old.waiting ≡ mid.waiting ++ c ∷ [] → GrowsTo s mid new → FoundNamed s c 6 new
    → IsSearch s new
search_more s old mid new c k marks waiting grown named =
    let same : (d : ℕ)
    → has_found old d ≡ has_found mid d = (λ d. ap (λ m. get_or m d false) (sym marks)) in
    record {
      size = grown.size ∙ ap length marks ∙ k.size;
      sound = grown.sound (λ d h. k.sound d (same d ∙ h));
      found = grown.found
          (λ d h. sym (same d)
          ∙ k.found d
          (subst (λ w. Contains w d) (sym waiting)
          (Contains-append_left mid.waiting (c ∷ []) d h)));
      roots = record {
        anchor = grown.kept 0 (sym (same 0) ∙ k.roots.anchor);
        held = (λ i d inside h. grown.kept d (sym (same d) ∙ k.roots.held i d inside h));
      };
      closed = (λ d h. elim (grown.new_waits d h) [
        | inl was ↦ elim (k.closed d (same d ∙ was)) [
          | inl waits ↦ elim (Contains-push_cases mid.waiting c d
              (subst (λ w. Contains w d) waiting waits)) [
                | inl still ↦ inl (grown.waits d still)
                | inr here ↦ inr (subst (λ n. FoundNamed s n 6 new) here named)
              ]
          | inr done ↦ inr (λ e f lt n. grown.kept e (sym (same e) ∙ done e f lt n))
        ]
        | inr waits ↦ inl waits
      ]);
    }

pub search_less : (s : State) (old mid new : Search) (c : ℕ) → mid.marks ≡ old.marks
    → old.waiting ≡ mid.waiting ++ c ∷ []
    → GrowsTo s mid new → left_to_do new < left_to_do old
search_less s old mid new c marks waiting grown =
    let less = grown.less in
    let one : length old.waiting ≡ length mid.waiting + 1 = ap length waiting
    ∙ length-append mid.waiting (c ∷ []) in
    let same : twice_unfound mid.marks ≡ twice_unfound old.marks = ap twice_unfound marks in
    omega arith

-- where nothing waits the search has found all
pub search_done : (s : State) (f : Search) (c : ℕ) → IsShaped s → IsConsistent s → IsSearch s f
    → f.waiting ≡ [] → Reachable s c → has_found f c ≡ true
search_done s f c shape kept k none r =
    into s.rows s.presences s.owns (λ d. has_found f d ≡ true) k.roots.anchor
    (λ i d inside h. k.roots.held i d inside h)
    (λ d e g h n. elim (k.closed d h) [
      | inl waits ↦ absurd (not_in_nil d (subst (λ w. Contains w d) none waits))
      | inr done ↦ done e g (let lt = payload_names s d e g shape kept n in omega arith) n
    ]) c r

-- a cell that waits is found, and is one that there is
pub waits_found : (s : State) (f : Search) (rest : List ℕ) (c : ℕ) → IsSearch s f
    → f.waiting ≡ rest ++ c ∷ [] → has_found f c ≡ true
waits_found s f rest c k waiting = k.found c
    (subst (λ w. Contains w c) (sym waiting) (Contains-push rest c))

pub next_below : (s : State) (f : Search) (rest : List ℕ) (c : ℕ) → IsSearch s f
    → f.waiting ≡ rest ++ c ∷ [] → c < s.cells
next_below s f rest c k waiting = elim (cases_lt c s.cells) [
  | inl lt ↦ lt
  | inr past ↦ absurd (
      let size = k.size in
      let out : has_found f c ≡ false = get_or_past f.marks c false (omega arith) in
      let in_found = waits_found s f rest c k waiting in cc)
]

pub next_reachable : (s : State) (f : Search) (rest : List ℕ) (c : ℕ) → IsSearch s f
    → f.waiting ≡ rest ++ c ∷ [] → Reachable s c
next_reachable s f rest c k waiting = k.sound c (waits_found s f rest c k waiting)
