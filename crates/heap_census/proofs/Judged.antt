-- What is wrong with one cell, and what that shows of the heap.
use Rattle.std.proofs.Common.{◌≡◌, ◌<◌, ◌+◌, inl, inr, ℕ, true, false, Option, Some, None}
use Rattle.std.proofs.Common.{ap, arith, refl, subst, sym, ◌∙◌}
use Rattle.std.proofs.lemmas.Bool.{true≢false, cases_lt}
use Rattle.cell_words.specs.declared.fields.Field.{Field}
use Rattle.cell_words.specs.declared.fields.Field.TheVariants as field
use Rattle.heap_census.specs.declared.flags.Roles.{Roles}
use Rattle.heap_census.specs.declared.flaws.Flaw.{Flaw}
use Rattle.heap_census.specs.declared.flaws.Flaw.TheVariants as flaw
use Rattle.heap_census.specs.declared.flaws.Flawed.{Flawed}
use Rattle.heap_census.specs.declared.layouts.Part.{Part}
use Rattle.heap_census.specs.declared.layouts.Part.TheVariants as part
use Rattle.heap_census.specs.declared.layouts.Role.{Role}
use Rattle.heap_census.specs.declared.numbers.Census.{Census}
use Rattle.heap_census.specs.declared.taking.Checked.{Checked}
use Rattle.heap_census.specs.declared.taking.Checked.TheVariants as is
use Rattle.heap_census.specs.Census.{AddsUp, IsCensus, IsFaulty, IsSound}
use Rattle.heap_census.specs.Census as faulty
use Rattle.heap_census.specs.Fit.{FitsAs, Misfits}
use Rattle.heap_census.specs.Flags.{has_role}
use Rattle.heap_census.specs.Flaws.{HasFlaw, HasNoFlaw, IsChecked, IsFirstFlaw, IsFlawOf}
use Rattle.heap_census.specs.Flaws.{IsFlawless, IsLeastFlaw, IsShapeless}
use Rattle.heap_census.specs.Flaws.{StandsBlue, TellsRole, names_free}
use Rattle.heap_census.specs.Flaws as shapeless
use Rattle.heap_census.specs.Heap.{Heap, is_free}
use Rattle.heap_census.specs.Layouts.{fits, gives, named_by, part_of}
use Rattle.heap_census.specs.Roles.{HasRole, anchor, named}
use Rattle.heap_census.proofs.Checks.{two_layouts}

-- without a flaw

used_role : (h : Heap) (r : Role) (c : ℕ) → IsFlawless h → HasRole h r c → is_free h c ≡ false
used_role h r c none (anchor is here) =
    elim (is_free h c) as (λ b. is_free h c ≡ b → b ≡ false) [
      | true ↦ λ e. absurd (none c flaw.Blue (inl (here, e)))
      | false ↦ λ e. refl
    ] refl
used_role h r c none (named {r = q} {c = b} i has among gave is) =
    elim (is_free h c) as (λ t. is_free h c ≡ t → t ≡ false) [
      | true ↦ λ e. absurd (none b flaw.Blue
          (inr (q, has, (i, among, ap (names_free h) is ∙ e))))
      | false ↦ λ e. refl
    ] refl

shaped_role : (h : Heap) (r : Role) (c i : ℕ) → IsFlawless h → HasRole h r c → i < 6
    → fits (part_of r i) (h.field c i) ≡ true
shaped_role h r c i none has among =
    elim (fits (part_of r i) (h.field c i))
    as (λ b. fits (part_of r i) (h.field c i) ≡ b → b ≡ true) [
      | true ↦ λ e. refl
      | false ↦ λ e. absurd (none c flaw.BadShape (
        none c flaw.Blue,
        used_role h r c none has,
        shapeless.in_field i has among e,
      ))
    ] refl

pub flawless_sound : (h : Heap) → IsFlawless h → IsSound h
flawless_sound h none = record {
  used = λ r c has. used_role h r c none has;
  shaped = λ r c i has among. shaped_role h r c i none has among;
  one_role = λ r q c has also.
      two_layouts r q (h.field c) (λ i among. shaped_role h r c i none has among)
      (λ i among. shaped_role h q c i none also among);
}

-- a cell that fits gets a role there

fitting_name : (p : Part) (d : ℕ) → fits p (field.Cell d) ≡ true
    → (q : Role) × (named_by p ≡ Some q)
fitting_name part.Null d is = absurd cc
fitting_name part.Number d is = absurd cc
fitting_name part.Record d is = absurd cc
fitting_name part.Boxed d is = absurd cc
fitting_name (part.Names r) d is = (r, refl)
fitting_name (part.MayName r) d is = (r, refl)

-- what a cell with a role names has one too
pub role_given : (h : Heap) (r : Role) (c i d : ℕ) → IsSound h → HasRole h r c → i < 6
    → h.field c i ≡ field.Cell d → (q : Role) × HasRole h q d
role_given h r c i d sound has among is =
    let there = fitting_name (part_of r i) d
    (ap (fits (part_of r i)) (sym is) ∙ sound.shaped r c i has among) in
    (there.0, named {r = r} {q = there.0} {c = c} {d = d} i has among there.1 is)

-- with one

no_name_there : (p : Part) (d : ℕ) → named_by p ≡ None → fits p (field.Cell d) ≡ false
no_name_there part.Null d is = refl
no_name_there part.Number d is = refl
no_name_there part.Record d is = refl
no_name_there part.Boxed d is = refl
no_name_there (part.Names r) d is = absurd cc
no_name_there (part.MayName r) d is = absurd cc

name_faulty : (h : Heap) (r : Role) (c i d : ℕ) (given : Option Role) → HasRole h r c → i < 6
    → gives r i ≡ given → h.field c i ≡ field.Cell d → is_free h d ≡ true → IsFaulty h
name_faulty h r c i d (Some q) has among gave is free =
    faulty.free (named {r = r} {q = q} {c = c} {d = d} i has among gave is) free
name_faulty h r c i d None has among gave is free =
    faulty.shapeless i has among
    (ap (fits (part_of r i)) is ∙ no_name_there (part_of r i) d gave)

free_name : (h : Heap) (f : Field) → names_free h f ≡ true
    → (d : ℕ) × (f ≡ field.Cell d) × (is_free h d ≡ true)
free_name h field.Null is = absurd cc
free_name h (field.Num n) is = absurd cc
free_name h (field.Cell d) is = (d, refl, is)

shapeless_faulty : (h : Heap) (c : ℕ) → IsShapeless h c → IsFaulty h
shapeless_faulty h c (shapeless.in_field i has among is) = faulty.shapeless i has among is
shapeless_faulty h c (shapeless.two_roles has also differ) = faulty.two_roles has also differ

pub flaw_faulty : (h : Heap) (c : ℕ) (wrong : Flaw) → HasFlaw h c wrong → IsFaulty h
flaw_faulty h c flaw.Blue is = elim is [
  | inl here ↦ faulty.free (anchor refl here.0) here.1
  | inr there ↦
      let names = there.2 in
      let name = free_name h (h.field c names.0) names.2 in
      name_faulty h there.0 c names.0 name.0 (gives there.0 names.0) there.1 names.1 refl name.1
      name.2
]
flaw_faulty h c flaw.BadShape is = shapeless_faulty h c is.2

-- one cell

pub fit_shaped : (h : Heap) (m : Roles) (c : ℕ) → TellsRole h m c
    → ((r : Role) → has_role m r ≡ true → FitsAs h r c) → IsShapeless h c → ⊥
fit_shaped h m c tells fit (shapeless.in_field {r = r} i has among is) =
    true≢false (sym ((fit r ((tells r).1 has)).shaped i among) ∙ is)
fit_shaped h m c tells fit (shapeless.two_roles {r = r} {q = q} has also differ) =
    differ (two_layouts r q (h.field c) (fit r ((tells r).1 has)).shaped
    (fit q ((tells q).1 also)).shaped)

pub misfit_shapeless : (h : Heap) (m : Roles) (c : ℕ) → TellsRole h m c → is_free h c ≡ false
    → Misfits h m c → IsShapeless h c
misfit_shapeless h m c tells used bad =
    let has = (tells bad.role).0 bad.has in
    elim bad.misfits [
      | inl free ↦ absurd (true≢false (sym free ∙ used))
      | inr shape ↦ shapeless.in_field shape.0 has shape.1 shape.2
    ]

-- the cell is fit, or free and not named by itself
pub no_flaw : (h : Heap) (c : ℕ) → (StandsBlue h c → ⊥)
    → (is_free h c ≡ false → IsShapeless h c → ⊥) → HasNoFlaw h c
no_flaw h c blue shape flaw.Blue is = blue is
no_flaw h c blue shape flaw.BadShape is = shape is.1 is.2

-- one more cell without a flaw
pub none_more : (h : Heap) (c : ℕ) → ((k : ℕ) → k < c → HasNoFlaw h k) → HasNoFlaw h c
    → (k : ℕ) → k < c + 1 → HasNoFlaw h k
none_more h c none here k lt = elim (cases_lt k c) [
  | inl below ↦ none k below
  | inr past ↦ let same : k ≡ c = omega (arith, lt, past) in subst (HasNoFlaw h) (sym same) here
]

pub none_here : (h : Heap) (c : ℕ) (found : Option Flaw)
    → ((wrong : Flaw) → found ≡ Some wrong → ⊥) → IsFlawOf h c found → HasNoFlaw h c
none_here h c None not is = is
none_here h c (Some wrong) not is = absurd (not wrong refl)

pub none_found : (h : Heap) (found : Option Flawed)
    → ((at : Flawed) → found ≡ Some at → ⊥) → IsFirstFlaw h found → IsFlawless h
none_found h None not is = is
none_found h (Some at) not is = absurd (not at refl)

pub one_found : (h : Heap) (found : Option Flawed) (at : Flawed) → found ≡ Some at
    → IsFirstFlaw h found → IsLeastFlaw h at.cell at.flaw
one_found h found at is first = subst (IsFirstFlaw h) is first

-- a heap that was checked

pub checked_sound : (h : Heap) (checked : Checked) (x : Census) → checked ≡ is.Sound x
    → IsChecked h checked → IsFlawless h × IsCensus h x × AddsUp x
checked_sound h checked x same found = subst (IsChecked h) same found

pub checked_faulty : (h : Heap) (checked : Checked) (at : Flawed) → checked ≡ is.Faulty at
    → IsChecked h checked → IsFaulty h
checked_faulty h checked at same found =
    let least : IsLeastFlaw h at.cell at.flaw = subst (IsChecked h) same found in
    flaw_faulty h at.cell at.flaw least.is
