-- How often a shelf was opened, file after file.
use Rattle.std.proofs.Common.{◌≡◌, ℕ, zero, suc, ◌+◌, ◌-◌, ◌≤◌, List, [], ◌∷◌, Option}
use Rattle.std.proofs.Common.{Ok, length, take, refl, sym, subst, arith}
use Rattle.outside.specs.Causes.{next_count}
use Rattle.script_files.proofs.Files.{after_first, no_lists}
use Rattle.script_files.specs.Files.{OpensInTurn, opened}
use Rattle.script_files.specs.InTurn.{AreListsFrom, IsListIn, Parse, StopsIn}

-- no file
pub opens_none : (before : ℕ) → OpensInTurn before before 0
opens_none before = (0, omega arith, (λ some. omega (arith, some)), refl)

-- the first file alone
pub opens_first : (before now others : ℕ) → now ≡ next_count before
    → OpensInTurn before now (suc others)
opens_first before now others is = (1, omega arith, (λ some. omega arith), is)

-- the first file, and then others
pub opens_more : (before middle now others : ℕ) → middle ≡ next_count before
    → OpensInTurn middle now others → OpensInTurn before now (suc others)
opens_more before middle now others is more =
    (suc more.0, omega (arith, more.1), (λ some. omega arith), rw (sym is) more.3)

-- Which files were opened: lists, and one after them.

-- no file was opened
pub stops_none : {A : Type 0} (parse : Parse A) (file before opens : ℕ)
    (told : List (Option (List ℕ))) → StopsIn parse file before told opens opens
stops_none parse file before opens told =
    (0, omega arith, refl, [], no_lists parse file before)

-- the first file alone was opened
pub stops_first : {A : Type 0} (parse : Parse A) (file before opens now : ℕ)
    (told : List (Option (List ℕ))) → 1 ≤ length told → now ≡ next_count opens
    → StopsIn parse file before told opens now
stops_first parse file before opens now told some is =
    (1, some, is, [], no_lists parse file before)

-- a list in front of others, of which so many were opened
lists_more : {A : Type 0} (parse : Parse A) (file before count : ℕ) (one : Option (List ℕ))
    (told : List (Option (List ℕ))) (list : List A) (lists : List (List A))
    → IsListIn parse file before one (Ok list)
    → AreListsFrom parse (file + 1) (before + length list) (take (count - 1) told) (Ok lists)
    → (all : List (List A)) × AreListsFrom parse file before (take count (one ∷ told)) (Ok all)
lists_more parse file before zero one told list lists is others =
    ([], no_lists parse file before)
lists_more parse file before (suc count) one told list lists is others =
    let same : suc count - 1 ≡ count = omega arith in (
      list ∷ lists,
      after_first parse file before one (take count told) list (Ok lists) is
          (subst (λ n. AreListsFrom parse (file + 1) (before + length list) (take n told)
          (Ok lists)) same others),
    )

-- the first file is a list, and then others were opened
pub stops_more : {A : Type 0} (parse : Parse A) (file before opens middle now : ℕ)
    (one : Option (List ℕ)) (told : List (Option (List ℕ))) (list : List A)
    → IsListIn parse file before one (Ok list) → middle ≡ next_count opens
    → StopsIn parse (file + 1) (before + length list) told middle now
    → StopsIn parse file before (one ∷ told) opens now
stops_more parse file before opens middle now one told list is first more =
    let all = lists_more parse file before more.0 one told list more.3 is more.4 in
    let same : more.0 ≡ suc more.0 - 1 = omega arith in (
      suc more.0,
      omega (arith, more.1),
      rw (sym first) more.2,
      all.0,
      subst (λ n. AreListsFrom parse file before (take n (one ∷ told)) (Ok all.0)) same all.1,
    )

-- the first file, and then all of the others
pub all_more : (before middle now others : ℕ) → middle ≡ next_count before
    → now ≡ opened middle others → now ≡ opened before (suc others)
all_more before middle now others is more = rw (sym is) more

pub ruleset openings = (opens_none, opens_first, opens_more, stops_none, all_more)
