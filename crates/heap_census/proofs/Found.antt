-- How a search for roles grows, and why it finds all of them and no other.
use Rattle.std.proofs.Common.{◌≡◌, ◌<◌, ◌≤◌, ◌+◌, ◌⊎◌, inl, inr, ℕ, suc, zero, Bool}
use Rattle.std.proofs.Common.{true, false, List, [], ◌∷◌, ◌++◌, length, get_or, replicate, nat_lt}
use Rattle.std.proofs.Common.{refl, sym, subst, arith, ap, ◌∙◌, if◌then◌else◌, length-append}
use Rattle.std.proofs.Common.{Some}
use Rattle.std.proofs.Math.ListN.{set}
use Rattle.std.specs.List.{Contains}
use Rattle.std.proofs.lemmas.List.{length-set, length-replicate, get_or-set_same, get_or_past}
use Rattle.std.proofs.lemmas.List.Elements.{Contains-push, Contains-append_left}
use Rattle.std.proofs.lemmas.List.Elements.{Contains-push_cases}
use Rattle.std.proofs.lemmas.Bool.{cases_lt, ltb-true, ltb-false}
use Rattle.cell_words.specs.declared.fields.Field.TheVariants as field
use Rattle.core_machine.specs.InRange.{NamesBelow}
use Rattle.dlg_core.proofs.Each.{set_each}
use Rattle.heap_census.specs.declared.flags.Roles.{Roles}
use Rattle.heap_census.specs.declared.layouts.Role.{Role}
use Rattle.heap_census.specs.declared.layouts.Role.TheVariants as role
use Rattle.heap_census.specs.declared.searching.Named.{Named}
use Rattle.heap_census.specs.Flags.{has_role, no_roles, with_role}
use Rattle.heap_census.specs.Heap.{Heap, NamesFit}
use Rattle.heap_census.specs.Layouts.{gives}
use Rattle.heap_census.specs.Roles.{HasRole, TellsRoles}
use Rattle.heap_census.specs.Roles as roles
use Rattle.heap_census.specs.Search.{Search, has_found, with_found, named, twice, twice_unfound}
use Rattle.heap_census.specs.Search.{left_to_do, GrowsTo, WaitsFound, IsFound, FoundNamed, IsSearch}
use Rattle.heap_census.proofs.OneMore.{has_with, has_still, had_before}

abbrev with_mark : List Roles → Role → ℕ → List Roles
with_mark marks r c = set marks c (with_role (get_or marks c no_roles) r)

abbrev marked : List Roles → Role → ℕ → Bool
marked marks r c = has_role (get_or marks c no_roles) r

-- a mark that is set is set, and each that was set still is
marked_same : (marks : List Roles) (r : Role) (c : ℕ) → c < length marks
    → marked (with_mark marks r c) r c ≡ true
marked_same marks r c lt =
    ap (λ m. has_role m r)
    (get_or-set_same marks c (with_role (get_or marks c no_roles) r) no_roles lt)
    ∙ has_with (get_or marks c no_roles) r

marked_kept : (marks : List Roles) (r q : Role) (c d : ℕ) → marked marks q d ≡ true
    → marked (with_mark marks r c) q d ≡ true
marked_kept marks r q c d h = set_each
    (λ n m. marked marks q n ≡ true → has_role m q ≡ true) marks c
    (with_role (get_or marks c no_roles) r) no_roles
    (λ _ has. has_still (get_or marks c no_roles) r q has) (λ n has. has) d h

marked_was : (marks : List Roles) (r q : Role) (c d : ℕ)
    → marked (with_mark marks r c) q d ≡ true
    → (marked marks q d ≡ true) ⊎ ((q ≡ r) × (d ≡ c))
marked_was marks r q c d h =
    set_each
    (λ n m. has_role m q ≡ true → (marked marks q n ≡ true) ⊎ ((q ≡ r) × (n ≡ c))) marks c
    (with_role (get_or marks c no_roles) r) no_roles
    (λ _ has. elim (had_before (get_or marks c no_roles) r q has) [
      | inl was ↦ inl was
      | inr new ↦ inr (new, refl)
    ]) (λ n has. inl has) d h

-- one role fewer is not found
abbrev unfound_in : Roles → ℕ
unfound_in m =
    twice m.anchor + twice m.version + twice m.node + twice m.entry + twice m.text

twice_false : (b : Bool) → b ≡ false → twice b ≡ 2
twice_false b is = ap twice is

fewer_in : (m : Roles) (r : Role) → has_role m r ≡ false
    → unfound_in (with_role m r) + 2 ≡ unfound_in m
fewer_in m role.Anchor h = omega (arith, twice_false m.anchor h)
fewer_in m role.Version h = omega (arith, twice_false m.version h)
fewer_in m role.Node h = omega (arith, twice_false m.node h)
fewer_in m role.Entry h = omega (arith, twice_false m.entry h)
fewer_in m role.Text h = omega (arith, twice_false m.text h)

fewer : (marks : List Roles) (r : Role) (c : ℕ) → c < length marks → marked marks r c ≡ false
    → twice_unfound (with_mark marks r c) + 2 ≡ twice_unfound marks
fewer [] r c lt h = absurd (omega (arith, lt))
fewer (m ∷ marks) r zero lt h = let less = fewer_in m r h in omega (arith, less)
fewer (m ∷ marks) r (suc c) lt h =
    let less = fewer marks r c (omega (arith, lt)) h in omega (arith, less)

pub grows_same : (f : Search) → GrowsTo f f
grows_same f = record {
  size = refl;
  kept = (λ r c h. h);
  waits = (λ r c h. h);
  new_waits = (λ r c h. inl h);
  found = (λ k. k);
  less = omega arith;
}

pub grows_on : (f g h : Search) → GrowsTo f g → GrowsTo g h → GrowsTo f h
grows_on f g h a b = record {
  size = b.size ∙ a.size;
  kept = (λ r c e. b.kept r c (a.kept r c e));
  waits = (λ r c e. b.waits r c (a.waits r c e));
  new_waits = (λ r c e. elim (b.new_waits r c e) [
    | inl was ↦ elim (a.new_waits r c was)
        [ inl before ↦ inl before | inr waits ↦ inr (b.waits r c waits) ]
    | inr waits ↦ inr waits
  ]);
  found = (λ k. b.found (a.found k));
  less = let one = a.less in let two = b.less in omega arith;
}

-- a role that was not found before
abbrev grown : Search → Role → ℕ → Search
grown f r c = record { marks = with_mark f.marks r c; waiting = f.waiting ++ named r c ∷ [] }

role_of : (r q : Role) (c d : ℕ) → named r c ≡ named q d → r ≡ q
role_of r q c d is = ap (λ (n : Named). n.role) is

cell_of : (r q : Role) (c d : ℕ) → named r c ≡ named q d → c ≡ d
cell_of r q c d is = ap (λ (n : Named). n.cell) is

grown_grows : (f : Search) (r : Role) (c : ℕ) → c < length f.marks → has_found f r c ≡ false
    → GrowsTo f (grown f r c)
grown_grows f r c lt new = record {
  size = length-set f.marks c (with_role (get_or f.marks c no_roles) r);
  kept = (λ q d h. marked_kept f.marks r q c d h);
  waits = (λ q d h. Contains-append_left f.waiting (named r c ∷ []) (named q d) h);
  new_waits = (λ q d h. elim (marked_was f.marks r q c d h) [
    | inl was ↦ inl was
    | inr here ↦ inr
        (subst (λ n. Contains (f.waiting ++ named r c ∷ []) n)
        (ap (λ p. named p c) (sym here.0) ∙ ap (named q) (sym here.1))
        (Contains-push f.waiting (named r c)))
  ]);
  found = (λ k q d h. elim (Contains-push_cases f.waiting (named r c) (named q d) h) [
    | inl was ↦ marked_kept f.marks r q c d (k q d was)
    | inr here ↦
        subst (λ p. marked (with_mark f.marks r c) p d ≡ true) (role_of r q c d here)
        (subst (λ e. marked (with_mark f.marks r c) r e ≡ true) (cell_of r q c d here)
        (marked_same f.marks r c lt))
  ]);
  less = let fell = fewer f.marks r c lt new in
      omega (arith, fell, length-append f.waiting (named r c ∷ []));
}

-- the cases of what is found
by_cases : (P : Search → Type 0) (f : Search) (r : Role) (c : ℕ)
    → (length f.marks ≤ c → P f) → (c < length f.marks → has_found f r c ≡ true → P f)
    → (c < length f.marks → has_found f r c ≡ false → P (grown f r c)) → P (with_found f r c)
by_cases P f r c out old new =
    elim (nat_lt c (length f.marks))
    as (λ b. nat_lt c (length f.marks) ≡ b
    → P (if b then (if has_found f r c then f else grown f r c) else f)) [
      | true ↦ λ lt. elim (has_found f r c)
          as (λ b. has_found f r c ≡ b → P (if b then f else grown f r c)) [
            | true ↦ λ is. old (ltb-true c (length f.marks) lt) is
            | false ↦ λ is. new (ltb-true c (length f.marks) lt) is
          ] refl
      | false ↦ λ past. out (ltb-false c (length f.marks) past)
    ] refl

pub add_grows : (f : Search) (r : Role) (c : ℕ) → GrowsTo f (with_found f r c)
add_grows f r c = by_cases (GrowsTo f) f r c (λ past. grows_same f) (λ lt is. grows_same f)
    (λ lt is. grown_grows f r c lt is)

pub add_found : (h : Heap) (f : Search) (r : Role) (c : ℕ) → HasRole h r c → IsFound h f
    → IsFound h (with_found f r c)
add_found h f r c has k = by_cases (IsFound h) f r c (λ past. k) (λ lt is. k)
    (λ lt is q d got. elim (marked_was f.marks r q c d got) [
      | inl was ↦ k q d was
      | inr here ↦ subst (λ p. HasRole h p d) (sym here.0)
          (subst (HasRole h r) (sym here.1) has)
    ])

pub add_finds : (f : Search) (r : Role) (c : ℕ) → c < length f.marks
    → has_found (with_found f r c) r c ≡ true
add_finds f r c lt = by_cases (λ g. has_found g r c ≡ true) f r c
    (λ past. absurd (omega (arith, lt, past)))
    (λ _ is. is) (λ _ is. marked_same f.marks r c lt)

-- What a cell names.

-- the first fields of a cell with a role were looked at
pub record NamedSoFar (h : Heap) (r : Role) (c count : ℕ) (start now : Search) : Type 0 where
  pub found : HasRole h r c → IsFound h start → IsFound h now
  pub named : FoundNamed h r c count now

pub named_start : (h : Heap) (r : Role) (c : ℕ) (f : Search) → NamedSoFar h r c 0 f f
named_start h r c f = record {
  found = (λ has k. k);
  named = (λ i q d lt. absurd (omega (arith, lt)));
}

-- a field that gives nothing
pub named_pass : (h : Heap) (r : Role) (c k : ℕ) (start now : Search)
    → ((q : Role) (d : ℕ) → gives r k ≡ Some q → h.field c k ≡ field.Cell d → ⊥)
    → NamedSoFar h r c k start now → NamedSoFar h r c (k + 1) start now
named_pass h r c k start now nothing so = record {
  found = so.found;
  named = (λ i q d lt gave is. elim (cases_lt i k) [
    | inl below ↦ so.named i q d below gave is
    | inr past ↦ let same : i ≡ k = omega (arith, lt, past) in
        absurd (nothing q d (subst (λ n. gives r n ≡ Some q) same gave)
        (subst (λ n. h.field c n ≡ field.Cell d) same is))
  ]);
}

-- a field that gives a role
pub named_more : (h : Heap) (r : Role) (c k : ℕ) (q : Role) (d : ℕ) (start now : Search) → k < 6
    → NamesFit (length now.marks) h → gives r k ≡ Some q → h.field c k ≡ field.Cell d
    → NamedSoFar h r c k start now → NamedSoFar h r c (k + 1) start (with_found now q d)
named_more h r c k q d start now among fit gave is so = record {
  found = (λ has sound. add_found h now q d (roles.named k has among gave is) (so.found has sound));
  named = (λ i p e lt gave2 is2. elim (cases_lt i k) [
    | inl below ↦ (add_grows now q d).kept p e (so.named i p e below gave2 is2)
    | inr past ↦
        let same : i ≡ k = omega (arith, lt, past) in
        let role_is : Some q ≡ Some p =
        sym gave ∙ subst (λ n. gives r n ≡ Some p) same gave2 in
        let cell_is : field.Cell d ≡ field.Cell e =
        sym is ∙ subst (λ n. h.field c n ≡ field.Cell e) same is2 in
        let one : q ≡ p = cc in
        let two : d ≡ e = cc in
        let fits : d < length now.marks =
        subst (NamesBelow (length now.marks)) is (fit.fields_fit c k) in
        subst (λ x. has_found (with_found now q d) x e ≡ true) one
        (subst (λ x. has_found (with_found now q d) q x ≡ true) two (add_finds now q d fits))
  ]);
}

-- The search.

pub not_in_nil : (n : Named) → Contains [] n → ⊥
not_in_nil n h = absurd (let lt = h.1 in omega (arith, lt))

nothing_found : (n c : ℕ) (r : Role) → marked (replicate n no_roles) r c ≡ false
nothing_found zero c role.Anchor = refl
nothing_found zero c role.Version = refl
nothing_found zero c role.Node = refl
nothing_found zero c role.Entry = refl
nothing_found zero c role.Text = refl
nothing_found (suc n) zero role.Anchor = refl
nothing_found (suc n) zero role.Version = refl
nothing_found (suc n) zero role.Node = refl
nothing_found (suc n) zero role.Entry = refl
nothing_found (suc n) zero role.Text = refl
nothing_found (suc n) (suc c) r = nothing_found n c r

abbrev pub nothing : ℕ → Search
nothing size = record { marks = replicate size no_roles; waiting = [] }

pub start_found : (size : ℕ) → WaitsFound (with_found (nothing size) role.Anchor 0)
start_found size =
    (add_grows (nothing size) role.Anchor 0).found (λ r c h. absurd (not_in_nil (named r c) h))

pub start_size : (size : ℕ)
    → length (with_found (nothing size) role.Anchor 0).marks ≡ size
start_size size =
    (add_grows (nothing size) role.Anchor 0).size ∙ length-replicate size no_roles

pub start_search : (size : ℕ) (h : Heap) → NamesFit size h
    → IsSearch h (with_found (nothing size) role.Anchor 0)
start_search size h fit =
    let start = nothing size in
    let below : 0 < length start.marks =
    let some = fit.some_cells in omega (arith, some, length-replicate size no_roles) in
    let grew = add_grows start role.Anchor 0 in
    record {
      sound = add_found h start role.Anchor 0 (roles.anchor refl refl)
          (λ r c found. absurd (let no = nothing_found size c r in cc));
      start = add_finds start role.Anchor 0 below;
      closed = (λ r c found. elim (grew.new_waits r c found) [
        | inl was ↦ absurd (let no = nothing_found size c r in cc)
        | inr waits ↦ inl waits
      ]);
    }

-- what is so between two cells: the size, what waits, and what the marks say of a heap
pub search_more : (h : Heap) (old mid new : Search) (n : Named) → IsSearch h old
    → mid.marks ≡ old.marks → old.waiting ≡ mid.waiting ++ n ∷ [] → GrowsTo mid new
    → (IsFound h mid → IsFound h new) → FoundNamed h n.role n.cell 6 new → IsSearch h new
search_more h old mid new n k marks waiting grew found names =
    let same : (r : Role) (d : ℕ) → has_found old r d ≡ has_found mid r d =
    (λ r d. ap (λ m. has_role (get_or m d no_roles) r) (sym marks)) in
    record {
      sound = found (λ r d got. k.sound r d (same r d ∙ got));
      start = grew.kept role.Anchor 0 (sym (same role.Anchor 0) ∙ k.start);
      closed = (λ r d got. elim (grew.new_waits r d got) [
        | inl was ↦ elim (k.closed r d (same r d ∙ was)) [
          | inl waits ↦ elim (Contains-push_cases mid.waiting n (named r d)
              (subst (λ w. Contains w (named r d)) waiting waits)) [
                | inl still ↦ inl (grew.waits r d still)
                | inr here ↦ inr
                    (subst (λ (x : Named). FoundNamed h x.role x.cell 6 new) here names)
              ]
          | inr done ↦ inr (λ i q e lt gave is. grew.kept q e
              (sym (same q e) ∙ done i q e lt gave is))
        ]
        | inr waits ↦ inl waits
      ]);
    }

pub waits_more : (old mid new : Search) (n : Named) → WaitsFound old → mid.marks ≡ old.marks
    → old.waiting ≡ mid.waiting ++ n ∷ [] → GrowsTo mid new → WaitsFound new
waits_more old mid new n k marks waiting grew = grew.found (λ r d h.
    ap (λ m. has_role (get_or m d no_roles) r) marks
    ∙ k r d (subst (λ w. Contains w (named r d)) (sym waiting)
    (Contains-append_left mid.waiting (n ∷ []) (named r d) h)))

pub search_less : (old mid new : Search) (n : Named) → mid.marks ≡ old.marks
    → old.waiting ≡ mid.waiting ++ n ∷ [] → GrowsTo mid new → left_to_do new < left_to_do old
search_less old mid new n marks waiting grew =
    let less = grew.less in
    let one : length old.waiting ≡ length mid.waiting + 1 = ap length waiting
    ∙ length-append mid.waiting (n ∷ []) in
    let same : twice_unfound mid.marks ≡ twice_unfound old.marks = ap twice_unfound marks in
    omega (arith, less, one, same)

-- where nothing waits the search has found all
search_done : (h : Heap) (f : Search) → IsSearch h f → f.waiting ≡ [] → (r : Role) (c : ℕ)
    → HasRole h r c → has_found f r c ≡ true
search_done h f k none r c (roles.anchor is here) =
    subst (λ p. has_found f p c ≡ true) (sym is)
    (subst (λ d. has_found f role.Anchor d ≡ true) (sym here) k.start)
search_done h f k none r c (roles.named {r = q} {c = b} i has among gave is) =
    elim (k.closed q b (search_done h f k none q b has)) [
      | inl waits ↦ absurd (not_in_nil (named q b) (subst (λ w. Contains w (named q b)) none waits))
      | inr done ↦ done i r c among gave is
    ]

pub tells_roles : (h : Heap) (f : Search) → IsSearch h f → f.waiting ≡ [] → TellsRoles h f.marks
tells_roles h f k none r c = (λ is. k.sound r c is, λ has. search_done h f k none r c has)

-- a cell that waits is one that there is, and has its role

pub next_found : (f : Search) (rest : List Named) (n : Named) → WaitsFound f
    → f.waiting ≡ rest ++ n ∷ [] → has_found f n.role n.cell ≡ true
next_found f rest n k waiting = k n.role n.cell
    (subst (λ w. Contains w n) (sym waiting) (Contains-push rest n))

pub next_below : (f : Search) (rest : List Named) (n : Named) → WaitsFound f
    → f.waiting ≡ rest ++ n ∷ [] → n.cell < length f.marks
next_below f rest n k waiting = elim (cases_lt n.cell (length f.marks)) [
  | inl lt ↦ lt
  | inr past ↦ absurd (
      let out : has_found f n.role n.cell ≡ false =
      ap (λ m. has_role m n.role) (get_or_past f.marks n.cell no_roles past)
      ∙ nothing_found 0 0 n.role in
      let is = next_found f rest n k waiting in cc)
]
