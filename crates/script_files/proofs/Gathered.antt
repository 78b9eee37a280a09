-- The lists of several files with their notes, gathered one after another.
use Rattle.std.proofs.Common.{◌≡◌, ℕ, ◌+◌, ◌-◌, ◌<◌, ◌≤◌, List, [], ◌∷◌, ◌++◌, Option, length, map}
use Rattle.std.proofs.Common.{take}
use Rattle.std.proofs.Common.{drop, get_or, Result, Ok, Err, refl, sym, ap, subst, ◌∙◌, arith}
use Rattle.std.specs.Prelude.{IfSome, sum_by}
use Rattle.std.proofs.lemmas.Bool.{le-ltb}
use Rattle.std.proofs.lemmas.List.Sums.{sum_by-cons}
use Rattle.std.proofs.lemmas.List.{append_assoc, append-nil, length-map, take_all}
use Rattle.script_files.specs.Files.{Agree}
use Rattle.script_files.specs.InTurn.{AddsFile, AreGathered, GathersFrom, Parse, in_front, list_in}
use Rattle.script_files.specs.InTurn.{lists_from, lists_within, with_first}
use Rattle.script_files.specs.Sorts.{Grammar, sort_of}
use Rattle.script_files.specs.declared.fault.Fault.{Fault}
use Rattle.script_files.proofs.Files.{after_first, first_refused, told_length}
use Rattle.script_files.proofs.Sorting.{refused_as}

-- no file is left
none_gathered : {A N : Type 0} (grammar : Grammar) (parse : Parse A) (note : List ℕ → N)
    (file before : ℕ) (old : List (List A)) (notes : List N)
    → GathersFrom grammar parse note file before [] (Ok tt) old old notes notes
none_gathered grammar parse note file before old notes =
    ([], tt, [], refl, sym (append-nil old), sym (append-nil notes))

pub none_left : {A N B : Type 0} (grammar : Grammar) (parse : Parse A) (note : List ℕ → N)
    (text : B → List ℕ) (names : List B) (holds : List ℕ → Option (List ℕ)) (file before : ℕ)
    (old : List (List A)) (notes : List N) → length names < 1
    → GathersFrom grammar parse note file before (map holds (map text names)) (Ok tt) old old notes
    notes
none_left grammar parse note text [] holds file before old notes none =
    none_gathered grammar parse note file before old notes
none_left grammar parse note text (name ∷ names) holds file before old notes none =
    absurd (omega (arith, none))

-- the first file is a list, which was added, and then the others were gone over
next_gathered : {A N : Type 0} (grammar : Grammar) (parse : Parse A) (note : List ℕ → N)
    (file before : ℕ) (one : Option (List ℕ)) (told : List (Option (List ℕ))) (list : List A)
    (bytes : List ℕ) (result : Result (Unit {0}) Fault) (old new : List (List A))
    (old_notes new_notes : List N) → IfSome one (λ all. bytes ≡ all)
    → list_in parse file before bytes ≡ Ok list
    → GathersFrom grammar parse note (file + 1) (before + length list) told result
    (old ++ list ∷ []) new (old_notes ++ note bytes ∷ []) new_notes
    → GathersFrom grammar parse note file before (one ∷ told) result old new old_notes new_notes
next_gathered grammar parse note file before one told list bytes (Ok done) old new old_notes
    new_notes is reading others = (
      bytes ∷ others.0,
      (is, others.1),
      list ∷ others.2,
      ap (λ first. in_front first
          (λ these. lists_from parse (file + 1) (before + length these) others.0)) reading
          ∙ ap (with_first list) others.3,
      others.4 ∙ append_assoc old (list ∷ []) others.2,
      others.5 ∙ append_assoc old_notes (note bytes ∷ []) (map note others.0),
    )
next_gathered grammar parse note file before one told list bytes (Err fault) old new old_notes
    new_notes is reading others =
    refused_as grammar (sort_of fault) _ _ _ _
    (after_first parse file before one told list (Err fault) (bytes, is, reading))
    (λ unread. tt) others

-- the same in the terms of the code: the first name, and the rest of the names after it
pub turn_gathered : {A N B : Type 0} (grammar : Grammar) (parse : Parse A) (note : List ℕ → N)
    (text : B → List ℕ) (names : List B) (otherwise : B) (bytes : List ℕ)
    (holds later : List ℕ → Option (List ℕ)) (file before : ℕ) (result : Result (Unit {0}) Fault)
    (old middle new : List (List A)) (old_notes middle_notes new_notes : List N) (count : ℕ)
    → 1 ≤ length names → bytes ≡ text (get_or names 0 otherwise) → later ≡ holds
    → AddsFile grammar parse note file before (holds bytes) (Ok count) old middle old_notes
    middle_notes
    → GathersFrom grammar parse note (file + 1) (before + count)
    (map later (map text (take (length names - 1) (drop 1 names)))) result middle new middle_notes
    new_notes
    → GathersFrom grammar parse note file before (map holds (map text names)) result old new
    old_notes new_notes
turn_gathered grammar parse note text [] otherwise bytes holds later file before result old middle
    new old_notes middle_notes new_notes count some first same is others =
    absurd (omega (arith, some))
turn_gathered {A} {N} grammar parse note text (one ∷ names) otherwise bytes holds later file before
    result old middle new old_notes middle_notes new_notes count some first same is others =
    let all : take (length (one ∷ names) - 1) names ≡ names = take_all _ names (omega arith) in
    let told = map holds (map text names) in
    let list = is.2.0 in
    next_gathered grammar parse note file before (holds (text one)) told list is.0 result old new
    old_notes new_notes
    (subst (λ (b : List ℕ). IfSome (holds b) (λ all. is.0 ≡ all)) first is.1) is.2.1
    (subst (λ (notes : List N). GathersFrom grammar parse note (file + 1)
    (before + length list) told result (old ++ list ∷ []) new notes new_notes) is.2.4
    (subst (λ (lists : List (List A)). GathersFrom grammar parse note (file + 1)
    (before + length list) told result lists new middle_notes new_notes) is.2.3
    (subst (λ n. GathersFrom grammar parse note (file + 1) (before + n) told result middle new
    middle_notes new_notes) is.2.2
    (subst (λ h. GathersFrom grammar parse note (file + 1) (before + count)
    (map h (map text names)) result middle new middle_notes new_notes) same
    (subst (λ rest. GathersFrom grammar parse note (file + 1) (before + count)
    (map later (map text rest)) result middle new middle_notes new_notes) all others)))))

-- the first file was refused, or could not be read, or memory ran out
pub turn_refused : {A N B : Type 0} (grammar : Grammar) (parse : Parse A) (note : List ℕ → N)
    (text : B → List ℕ) (names : List B) (otherwise : B) (bytes : List ℕ)
    (holds : List ℕ → Option (List ℕ)) (file before : ℕ) (fault : Fault)
    (old new : List (List A)) (old_notes new_notes : List N)
    (last : List (List A)) (last_notes : List N) → 1 ≤ length names
    → bytes ≡ text (get_or names 0 otherwise)
    → AddsFile grammar parse note file before (holds bytes) (Err fault) old new old_notes new_notes
    → GathersFrom grammar parse note file before (map holds (map text names)) (Err fault) old last
    old_notes last_notes
turn_refused grammar parse note text [] otherwise bytes holds file before fault old new old_notes
    new_notes last last_notes some first is = absurd (omega (arith, some))
turn_refused grammar parse note text (one ∷ names) otherwise bytes holds file before fault old new
    old_notes new_notes last last_notes some first is =
    subst (λ b. GathersFrom grammar parse note file before (holds b ∷ map holds (map text names))
    (Err fault) old last old_notes last_notes) first
    (refused_as grammar (sort_of fault) _ _ _ _
    (first_refused parse file before (holds bytes) (map holds (map text names)) fault)
    (λ unread. tt) is)

-- all files were read, and are not more than so many
pub all_gathered : {A N : Type 0} (most : ℕ) (parse : Parse A) (note : List ℕ → N)
    (told : List (Option (List ℕ))) (lists old : List (List A)) (notes old_notes : List N)
    → length told ≤ most → old ≡ [] → old_notes ≡ []
    → AreGathered parse note 1 0 told old lists old_notes notes
    → (contents : List (List ℕ)) × Agree told contents
    × (lists_within most parse contents ≡ Ok lists) × (notes ≡ map note contents)
all_gathered {A} {N} most parse note told lists old notes old_notes few none no_notes is =
    let some : length is.0 ≤ most = omega (arith, few, told_length told is.0 is.1) in
    let same : lists ≡ is.2 = is.4 ∙ ap (λ (front : List (List A)). front ++ is.2) none in (
      is.0,
      is.1,
      rw (le-ltb most (length is.0) some) (is.3 ∙ ap Ok (sym same)),
      is.5 ∙ ap (λ (front : List N). front ++ map note is.0) no_notes,
    )

-- The lists as the program has them: how many they are, and how many items they have.

pub count_of : {A V : Type 0} (items : V → List A) (lists old : List V) (count : ℕ) → old ≡ []
    → length (map items lists) ≡ length (map items old) + count → length lists ≡ count
count_of items lists old count none is =
    let empty : length (map items old) ≡ 0 = ap (λ l. length (map items l)) none in
    omega (arith, empty, is, length-map lists items)

sum_of : {A V : Type 0} (items : V → List A) (lists : List V)
    → sum_by (λ list. length (items list)) lists ≡ sum_by length (map items lists)
sum_of items [] = refl
sum_of items (list ∷ lists) =
    sum_by-cons (λ l. length (items l)) list lists
    ∙ ap (λ n. length (items list) + n) (sum_of items lists)
    ∙ sym (sum_by-cons length (items list) (map items lists))

pub total_of : {A V : Type 0} (items : V → List A) (lists : List V) (most : ℕ)
    → sum_by length (map items lists) ≤ most
    → sum_by (λ list. length (items list)) lists ≤ most
total_of items lists most few = omega (arith, few, sum_of items lists)

-- one file more in front of the others
pub ruleset in_turn = (none_left)
