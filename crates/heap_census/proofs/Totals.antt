-- Why the numbers of a census are those of the heap, and add up.
use Rattle.std.specs.Prelude.{not}
use Rattle.std.proofs.Common.{◌≡◌, ◌<◌, ◌+◌, ◌∙◌, ◌↔◌, ℕ, zero, suc, Bool}
use Rattle.std.proofs.Common.{true, false, List, length, get_or, refl, ap, subst, sym, arith}
use Rattle.std.proofs.lemmas.Bool.{and_parts, and_from, false_from_ne_true}
use Rattle.std.proofs.lemmas.Bool.{not_from_false, not-true}
use Rattle.heap_census.specs.declared.flags.Roles.{Roles}
use Rattle.heap_census.specs.declared.layouts.Role.{Role}
use Rattle.heap_census.specs.declared.layouts.Role.TheVariants as role
use Rattle.heap_census.specs.declared.naming.Times.{Times}
use Rattle.heap_census.specs.declared.numbers.Census.{Census}
use Rattle.heap_census.specs.Census.{AddsUp, IsCensus, IsFloating, IsSound}
use Rattle.heap_census.specs.Counts.{IsCountOf, count_below, one_if}
use Rattle.heap_census.specs.Flags.{floats, has_any, has_role, no_roles}
use Rattle.heap_census.specs.Heap.{Heap, NamesFit, is_free}
use Rattle.heap_census.specs.Roles.{HasRole, TellsRoles}
use Rattle.heap_census.specs.Roles as roles
use Rattle.heap_census.specs.Names.{IsShared}
use Rattle.heap_census.specs.Times.{TellsShared, is_often, never}
use Rattle.heap_census.proofs.OneMore.{no_role, some_role}
use Rattle.heap_census.proofs.Roles.{only_anchor}

-- A cell is of one sort.

one_sort : (free a v n e t : Bool)
    → ((r q : Role)
    → has_role (record { anchor = a; version = v; node = n; entry = e; text = t }) r ≡ true
    → has_role (record { anchor = a; version = v; node = n; entry = e; text = t }) q ≡ true
    → r ≡ q)
    → ((r : Role)
    → has_role (record { anchor = a; version = v; node = n; entry = e; text = t }) r ≡ true
    → free ≡ false)
    → one_if free + one_if a + one_if v + one_if n + one_if e + one_if t
    + one_if (floats free (record { anchor = a; version = v; node = n; entry = e; text = t })) ≡ 1
one_sort true false false false false false one used = refl
one_sort false false false false false false one used = refl
one_sort false true false false false false one used = refl
one_sort false false true false false false one used = refl
one_sort false false false true false false one used = refl
one_sort false false false false true false one used = refl
one_sort false false false false false true one used = refl
one_sort true true v n e t one used = absurd (let no = used role.Anchor refl in cc)
one_sort true false true n e t one used = absurd (let no = used role.Version refl in cc)
one_sort true false false true e t one used = absurd (let no = used role.Node refl in cc)
one_sort true false false false true t one used = absurd (let no = used role.Entry refl in cc)
one_sort true false false false false true one used = absurd (let no = used role.Text refl in cc)
one_sort false true true n e t one used =
    absurd (let no = one role.Anchor role.Version refl refl in cc)
one_sort false true false true e t one used =
    absurd (let no = one role.Anchor role.Node refl refl in cc)
one_sort false true false false true t one used =
    absurd (let no = one role.Anchor role.Entry refl refl in cc)
one_sort false true false false false true one used =
    absurd (let no = one role.Anchor role.Text refl refl in cc)
one_sort false false true true e t one used =
    absurd (let no = one role.Version role.Node refl refl in cc)
one_sort false false true false true t one used =
    absurd (let no = one role.Version role.Entry refl refl in cc)
one_sort false false true false false true one used =
    absurd (let no = one role.Version role.Text refl refl in cc)
one_sort false false false true true t one used =
    absurd (let no = one role.Node role.Entry refl refl in cc)
one_sort false false false true false true one used =
    absurd (let no = one role.Node role.Text refl refl in cc)
one_sort false false false false true true one used =
    absurd (let no = one role.Entry role.Text refl refl in cc)

-- where each number below m passes one of seven tests, the counts add up to m
all_sorts : (f a v n e t o : ℕ → Bool) (m : ℕ)
    → ((c : ℕ) → c < m → one_if (f c) + one_if (a c) + one_if (v c) + one_if (n c) + one_if (e c)
    + one_if (t c) + one_if (o c) ≡ 1)
    → count_below f m + count_below a m + count_below v m + count_below n m + count_below e m
    + count_below t m + count_below o m ≡ m
all_sorts f a v n e t o zero each = refl
all_sorts f a v n e t o (suc m) each =
    let before = all_sorts f a v n e t o m (λ c lt. each c (omega (arith, lt))) in
    let here = each m (omega arith) in
    omega (arith, before, here)

-- of the numbers below m, which are some, the first alone passes
first_alone : (test : ℕ → Bool) (m : ℕ) → test 0 ≡ true → ((c : ℕ) → test c ≡ true → c ≡ 0)
    → count_below test (suc m) ≡ 1
first_alone test zero is alone = let one : one_if (test 0) ≡ 1 = ap one_if is in omega (arith, one)
first_alone test (suc m) is alone =
    let before = first_alone test m is alone in
    let not_here : test (suc m) ≡ false =
    false_from_ne_true (test (suc m)) (λ here. let no = alone (suc m) here in omega (arith, no)) in
    let none : one_if (test (suc m)) ≡ 0 = ap one_if not_here in
    omega (arith, before, none)

-- a cell that floats, as a test
floats_or_not : (h : Heap) (marks : List Roles) (c : ℕ) → TellsRoles h marks
    → (floats (is_free h c) (get_or marks c no_roles) ≡ true) ↔ IsFloating h c
floats_or_not h marks c tells = (
  (λ is.
      let parts = and_parts (not (is_free h c)) (not (has_any (get_or marks c no_roles))) is in (
        not-true (is_free h c) parts.0,
        λ r has.
            no_role (get_or marks c no_roles)
            (not-true (has_any (get_or marks c no_roles)) parts.1) r
            ((tells r c).1 has),
      )),
  (λ is. and_from (not (is_free h c)) (not (has_any (get_or marks c no_roles)))
      (not_from_false (is_free h c) is.0)
      (not_from_false (has_any (get_or marks c no_roles))
      (false_from_ne_true (has_any (get_or marks c no_roles)) (λ any.
      let some = some_role (get_or marks c no_roles) any in
      is.1 some.0 ((tells some.0 c).0 some.1))))),
)

-- a count up to a length
pub count_at : (test : ℕ → Bool) (n m size : ℕ) → n ≡ count_below test m → m ≡ size
    → n ≡ count_below test size
count_at test n m size is same = is ∙ ap (count_below test) same

-- the numbers, as they are counted
pub record IsCounted (h : Heap) (marks : List Roles) (named : List Times) (size : ℕ) (x : Census)
    : Type 0 where
  pub cells : x.cells ≡ size
  pub free : x.free ≡ count_below (is_free h) size
  pub versions : x.versions
      ≡ count_below (λ c. has_role (get_or marks c no_roles) role.Version) size
  pub nodes : x.nodes ≡ count_below (λ c. has_role (get_or marks c no_roles) role.Node) size
  pub entries : x.entries ≡ count_below (λ c. has_role (get_or marks c no_roles) role.Entry) size
  pub texts : x.texts ≡ count_below (λ c. has_role (get_or marks c no_roles) role.Text) size
  pub shared : x.shared ≡ count_below (λ c. is_often (get_or named c never)) size
  pub floating : x.floating
      ≡ count_below (λ c. floats (is_free h c) (get_or marks c no_roles)) size

counted_role : (h : Heap) (marks : List Roles) (size n : ℕ) (r : Role) → TellsRoles h marks
    → n ≡ count_below (λ c. has_role (get_or marks c no_roles) r) size
    → IsCountOf (HasRole h r) size n
counted_role h marks size n r tells is = record {
  test = λ c. has_role (get_or marks c no_roles) r;
  tells = λ c lt. tells r c;
  counts = is;
}

pub counted_is_census : (h : Heap) (marks : List Roles) (named : List Times) (size : ℕ)
    (x : Census) → NamesFit size h → TellsRoles h marks → TellsShared h named
    → length named ≡ size → IsCounted h marks named size x → IsCensus h x
counted_is_census h marks named size x fit tells shared long k =
    let all = sym fit.cells_are in
    record {
      cells = k.cells ∙ all;
      free = subst (λ n. IsCountOf (λ c. is_free h c ≡ true) n x.free) all (record {
        test = is_free h;
        tells = λ c lt. ((λ is. is), (λ is. is));
        counts = k.free;
      });
      versions = subst (λ n. IsCountOf (HasRole h role.Version) n x.versions) all
          (counted_role h marks size x.versions role.Version tells k.versions);
      nodes = subst (λ n. IsCountOf (HasRole h role.Node) n x.nodes) all
          (counted_role h marks size x.nodes role.Node tells k.nodes);
      entries = subst (λ n. IsCountOf (HasRole h role.Entry) n x.entries) all
          (counted_role h marks size x.entries role.Entry tells k.entries);
      texts = subst (λ n. IsCountOf (HasRole h role.Text) n x.texts) all
          (counted_role h marks size x.texts role.Text tells k.texts);
      shared = subst (λ n. IsCountOf (IsShared h) n x.shared) all (record {
        test = λ c. is_often (get_or named c never);
        tells = λ c lt. shared c (subst (λ n. c < n) (sym long) lt);
        counts = k.shared;
      });
      floating = subst (λ n. IsCountOf (IsFloating h) n x.floating) all (record {
        test = λ c. floats (is_free h c) (get_or marks c no_roles);
        tells = λ c lt. floats_or_not h marks c tells;
        counts = k.floating;
      });
    }

sort_of : (h : Heap) (marks : List Roles) (c : ℕ) → TellsRoles h marks → IsSound h
    → one_if (is_free h c) + one_if (has_role (get_or marks c no_roles) role.Anchor)
    + one_if (has_role (get_or marks c no_roles) role.Version)
    + one_if (has_role (get_or marks c no_roles) role.Node)
    + one_if (has_role (get_or marks c no_roles) role.Entry)
    + one_if (has_role (get_or marks c no_roles) role.Text)
    + one_if (floats (is_free h c) (get_or marks c no_roles)) ≡ 1
sort_of h marks c tells sound =
    let m = get_or marks c no_roles in
    one_sort (is_free h c) m.anchor m.version m.node m.entry m.text
    (λ r q has also. sound.one_role r q c ((tells r c).0 has) ((tells q c).0 also))
    (λ r has. sound.used r c ((tells r c).0 has))

one_anchor : (h : Heap) (marks : List Roles) (size : ℕ) → 0 < size → TellsRoles h marks
    → count_below (λ c. has_role (get_or marks c no_roles) role.Anchor) size ≡ 1
one_anchor h marks zero some tells = absurd (omega (arith, some))
one_anchor h marks (suc m) some tells =
    first_alone (λ c. has_role (get_or marks c no_roles) role.Anchor) m
    ((tells role.Anchor 0).1 (roles.anchor refl refl))
    (λ c is. only_anchor h role.Anchor c refl ((tells role.Anchor c).0 is))

pub counted_adds_up : (h : Heap) (marks : List Roles) (named : List Times) (size : ℕ)
    (x : Census) → NamesFit size h → TellsRoles h marks → IsSound h
    → IsCounted h marks named size x → AddsUp x
counted_adds_up h marks named size x fit tells sound k =
    let sum = all_sorts (is_free h) (λ c. has_role (get_or marks c no_roles) role.Anchor)
    (λ c. has_role (get_or marks c no_roles) role.Version)
    (λ c. has_role (get_or marks c no_roles) role.Node)
    (λ c. has_role (get_or marks c no_roles) role.Entry)
    (λ c. has_role (get_or marks c no_roles) role.Text)
    (λ c. floats (is_free h c) (get_or marks c no_roles)) size
    (λ c lt. sort_of h marks c tells sound) in
    let one = one_anchor h marks size fit.some_cells tells in
    omega (
      arith,
      sum,
      one,
      k.cells,
      k.free,
      k.versions,
      k.nodes,
      k.entries,
      k.texts,
      k.floating,
    )
