-- How often each cell was named, a field after another.
use Rattle.std.proofs.Common.{◌≡◌, ◌≢◌, ◌<◌, ◌+◌, ◌⊎◌, ◌↔◌, ◌∙◌, inl, inr, ℕ, zero, suc}
use Rattle.std.proofs.Common.{true, false, List, length, get_or, replicate, nat_lt, refl, sym}
use Rattle.std.proofs.Common.{subst}
use Rattle.std.proofs.Common.{arith, if◌then◌else◌}
use Rattle.std.proofs.Math.ListN.{set}
use Rattle.std.proofs.lemmas.Bool.{cases_lt, ltb-true, ltb-false}
use Rattle.std.proofs.lemmas.List.{length-set}
use Rattle.cell_words.specs.declared.fields.Field.TheVariants as field
use Rattle.dlg_core.proofs.Each.{set_else}
use Rattle.heap_census.specs.declared.layouts.Role.{Role}
use Rattle.heap_census.specs.declared.naming.Times.{Times}
use Rattle.heap_census.specs.declared.naming.Times.TheVariants as times
use Rattle.heap_census.specs.Heap.{Heap, NamesFit}
use Rattle.heap_census.specs.Names.{IsShared, Names}
use Rattle.heap_census.specs.Roles.{HasRole}
use Rattle.heap_census.specs.Times.{Seen, Tells, TellsShared, Told, is_often, more_often}
use Rattle.heap_census.specs.Times.{never, with_name}
use Rattle.heap_census.proofs.Roles.{role_below}

-- the fields that were seen, as far as they name the cell, are the same
on_same : (t : Times) (h : Heap) (k j m n d : ℕ)
    → ((c i : ℕ) → Names h c i d → Seen k j c i → Seen m n c i)
    → ((c i : ℕ) → Names h c i d → Seen m n c i → Seen k j c i)
    → Tells t h k j d → Tells t h m n d
on_same times.Never h k j m n d to from tells = λ c i seen names.
    tells c i (from c i names seen) names
on_same times.Once h k j m n d to from tells = record {
  c = tells.c;
  i = tells.i;
  seen = to tells.c tells.i tells.names tells.seen;
  names = tells.names;
  alone = λ c i seen names. tells.alone c i (from c i names seen) names;
}
on_same times.Often h k j m n d to from tells = tells

one_field : (k j c i : ℕ) → Seen k (j + 1) c i → Seen k j c i ⊎ ((c ≡ k) × (i ≡ j))
one_field k j c i (inl lt) = inl (inl lt)
one_field k j c i (inr at) = elim (cases_lt i j) [
  | inl below ↦ inl (inr (at.0, below))
  | inr past ↦ inr (at.0, let lt = at.1 in omega (arith, lt, past))
]

field_more : (k j c i : ℕ) → Seen k j c i → Seen k (j + 1) c i
field_more k j c i (inl lt) = inl lt
field_more k j c i (inr at) = inr (at.0, let lt = at.1 in omega (arith, lt))

-- a field that does not name it
pass : (t : Times) (h : Heap) (k j d : ℕ) → (h.field k j ≡ field.Cell d → ⊥)
    → Tells t h k j d → Tells t h k (j + 1) d
pass t h k j d nothing = on_same t h k j k (j + 1) d (λ c i names. field_more k j c i)
    (λ c i names seen. elim (one_field k j c i seen) [
      | inl before ↦ before
      | inr here ↦ absurd (nothing
          (subst (λ n. h.field n j ≡ field.Cell d) here.0
          (subst (λ n. h.field c n ≡ field.Cell d) here.1 names.is)))
    ])

-- a field that does
once_more : (t : Times) (h : Heap) (k j d : ℕ) → Names h k j d → Tells t h k j d
    → Tells (more_often t) h k (j + 1) d
once_more times.Never h k j d names tells = record {
  c = k;
  i = j;
  seen = inr (refl, omega arith);
  names = names;
  alone = λ c i seen also. elim (one_field k j c i seen) [
    | inl before ↦ absurd (tells c i before also)
    | inr here ↦ here
  ];
}
once_more times.Once h k j d names tells = record {
  cell = tells.c;
  field = tells.i;
  other_cell = k;
  other_field = j;
  names = tells.names;
  also = names;
  are_two = elim tells.seen [
    | inl lt ↦ inl (λ e. omega (arith, lt, e))
    | inr at ↦ inr (λ e. let lt = at.1 in omega (arith, lt, e))
  ];
}
once_more times.Often h k j d names tells = tells

pub told_pass : (h : Heap) (k j : ℕ) (named : List Times)
    → ((d : ℕ) → h.field k j ≡ field.Cell d → ⊥) → Told h k j named → Told h k (j + 1) named
told_pass h k j named nothing told d lt =
    pass (get_or named d never) h k j d (nothing d) (told d lt)

other_cell : (h : Heap) (k j d e : ℕ) → h.field k j ≡ field.Cell e → d ≢ e
    → h.field k j ≡ field.Cell d → ⊥
other_cell h k j d e is ne also = let same : field.Cell e ≡ field.Cell d = sym is ∙ also in
    ne (let eq : e ≡ d = cc in sym eq)

pub length-with_name : (named : List Times) (d : ℕ) → length (with_name named d) ≡ length named
length-with_name named d =
    elim (nat_lt d (length named))
    as (λ b. length (if b then set named d (more_often (get_or named d never)) else named)
    ≡ length named) [
      | true ↦ length-set named d (more_often (get_or named d never))
      | false ↦ refl
    ]

pub told_more : (h : Heap) (k j e : ℕ) (named : List Times) (r : Role) → HasRole h r k → j < 6
    → h.field k j ≡ field.Cell e → Told h k j named → Told h k (j + 1) (with_name named e)
told_more h k j e named r has among is told =
    elim (nat_lt e (length named))
    as (λ b. nat_lt e (length named) ≡ b
    → Told h k (j + 1) (if b then set named e (more_often (get_or named e never)) else named)) [
      | true ↦ λ lt d below.
          let size = length-set named e (more_often (get_or named e never)) in
          set_else (λ n t. n < length named → Tells t h k (j + 1) n) named e
          (more_often (get_or named e never)) never (ltb-true e (length named) lt)
          (λ there. once_more (get_or named e never) h k j e
          (record { role = (r, has); in_cell = among; is = is }) (told e there))
          (λ n ne there. pass (get_or named n never) h k j n (other_cell h k j n e is ne)
          (told n there)) d (omega (arith, below, size))
      | false ↦ λ past d below. pass (get_or named d never) h k j d
          (other_cell h k j d e is
          (λ same. let out = ltb-false e (length named) past in omega (arith, out, same, below)))
          (told d below)
    ] refl

-- from cell to cell

pub told_next : (h : Heap) (k : ℕ) (named : List Times) → Told h k 6 named → Told h (k + 1) 0 named
told_next h k named told d lt = on_same (get_or named d never) h k 6 (k + 1) 0 d
    (λ c i names seen. elim seen [
      | inl below ↦ inl (omega (arith, below))
      | inr at ↦ inl (let same = at.0 in omega (arith, same))
    ])
    (λ c i names seen. elim seen [
      | inl below ↦ elim (cases_lt c k) [
        | inl before ↦ inl before
        | inr past ↦ inr (omega (arith, below, past), names.in_cell)
      ]
      | inr at ↦ absurd (let none = at.1 in omega (arith, none))
    ]) (told d lt)

pub told_skip : (h : Heap) (k : ℕ) (named : List Times) → ((r : Role) → HasRole h r k → ⊥)
    → Told h k 0 named → Told h (k + 1) 0 named
told_skip h k named none told d lt = on_same (get_or named d never) h k 0 (k + 1) 0 d
    (λ c i names seen. elim seen [
      | inl below ↦ inl (omega (arith, below))
      | inr at ↦ absurd (let no = at.1 in omega (arith, no))
    ])
    (λ c i names seen. elim seen [
      | inl below ↦ elim (cases_lt c k) [
        | inl before ↦ inl before
        | inr past ↦
            let same : c ≡ k = omega (arith, below, past) in
            absurd (none names.role.0 (subst (HasRole h names.role.0) same names.role.1))
      ]
      | inr at ↦ absurd (let no = at.1 in omega (arith, no))
    ]) (told d lt)

all_never : (n d : ℕ) → get_or (replicate n never) d never ≡ never
all_never zero d = refl
all_never (suc n) zero = refl
all_never (suc n) (suc d) = all_never n d

none_seen : (c i : ℕ) → Seen 0 0 c i → ⊥
none_seen c i (inl lt) = omega (arith, lt)
none_seen c i (inr at) = let lt = at.1 in omega (arith, lt)

pub told_start : (h : Heap) (size : ℕ) → Told h 0 0 (replicate size never)
told_start h size d lt = subst (λ t. Tells t h 0 0 d) (sym (all_never size d))
    (λ c i seen names. none_seen c i seen)

-- where all cells were looked at
shared_or_not : (t : Times) (h : Heap) (size d : ℕ) → NamesFit size h → Tells t h size 0 d
    → (is_often t ≡ true) ↔ IsShared h d
shared_or_not times.Never h size d fit tells = (
  (λ is. absurd cc),
  (λ shared. absurd (tells shared.cell shared.field
      (inl (role_below size h shared.names.role.0 shared.cell fit shared.names.role.1))
      shared.names)),
)
shared_or_not times.Once h size d fit tells = (
  (λ is. absurd cc),
  (λ shared. absurd (
      let one = tells.alone shared.cell shared.field
      (inl (role_below size h shared.names.role.0 shared.cell fit shared.names.role.1))
      shared.names in
      let two = tells.alone shared.other_cell shared.other_field
      (inl (role_below size h shared.also.role.0 shared.other_cell fit shared.also.role.1))
      shared.also in
      elim shared.are_two [
        | inl ne ↦ ne (one.0 ∙ sym two.0)
        | inr ne ↦ ne (one.1 ∙ sym two.1)
      ])),
)
shared_or_not times.Often h size d fit tells = ((λ is. tells), (λ shared. refl))

pub told_shared : (h : Heap) (size : ℕ) (named : List Times) → NamesFit size h
    → Told h size 0 named → TellsShared h named
told_shared h size named fit told d lt =
    shared_or_not (get_or named d never) h size d fit (told d lt)
