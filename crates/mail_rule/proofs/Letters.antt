-- The positions at which somebody stands in a list, and the items there: when the list is longer by
-- one, and when only the letters are.
use Rattle.std.proofs.Common.{◌≡◌, ◌≢◌, ℕ, suc, ◌+◌, ◌<◌, ◌≤◌, ◌==◌, Bool, true, false, List, []}
use Rattle.std.proofs.Common.{◌∷◌, ◌++◌, map, length, All, refl, ◌∙◌, ap}
use Rattle.std.proofs.Common.{arith, if◌then◌else◌}
use Rattle.std.proofs.lemmas.Bool.{eq-eqb, ne_eqb}
use Rattle.std.proofs.lemmas.List.{append-nil, get_or_append_left, get_or_push, length-map}
use Rattle.std.proofs.lemmas.List.{map-append, map_push}
use Rattle.std.proofs.lemmas.List.Elements.{All-cons, All-head, All-nil, All-tail, All-weaker}
use Rattle.mail_rule.specs.Items.{Letter, item_at, letter_at, no_letter, positions_of, senders}
use Rattle.mail_rule.specs.Items.{sends_of, sent_at, takes_of}
use Rattle.mail_rule.specs.declared.items.Item.{Item}
use Rattle.mail_rule.specs.declared.items.Sent.{Sent}

-- Positions.

push_by : (here : Bool) (position : ℕ) (more rest ends : List ℕ) → more ≡ rest ++ ends
    → (if here then position ∷ more else more)
    ≡ (if here then position ∷ rest else rest) ++ ends
push_by true position more rest ends is = ap (λ (ns : List ℕ). position ∷ ns) is
push_by false position more rest ends is = is

positions_push : (who position one : ℕ) (xs : List ℕ)
    → positions_of who position (xs ++ one ∷ [])
    ≡ positions_of who position xs ++ positions_of who (position + length xs) (one ∷ [])
positions_push who position one [] =
    ap (λ (p : ℕ). positions_of who p (one ∷ []))
    (let e : position ≡ position + 0 = omega arith in e)
positions_push who position one (x ∷ xs) =
    push_by (x == who) position (positions_of who (position + 1) (xs ++ one ∷ []))
    (positions_of who (position + 1) xs)
    (positions_of who (position + suc (length xs)) (one ∷ []))
    (positions_push who (position + 1) one xs
    ∙ ap (λ (p : ℕ). positions_of who (position + 1) xs ++ positions_of who p (one ∷ []))
    (let e : position + 1 + length xs ≡ position + suc (length xs) = omega arith in e))

within_by : (here : Bool) (position many : ℕ) (rest : List ℕ)
    → All (λ (n : ℕ). (position + 1 ≤ n) × (n < position + suc many)) rest
    → All (λ (n : ℕ). (position ≤ n) × (n < position + suc many))
    (if here then position ∷ rest else rest)
within_by true position many rest all =
    All-cons (λ (n : ℕ). (position ≤ n) × (n < position + suc many)) position rest
    (omega arith, omega arith)
    (All-weaker (λ (n : ℕ). (position + 1 ≤ n) × (n < position + suc many))
    (λ (n : ℕ). (position ≤ n) × (n < position + suc many))
    (λ n is. (let le = is.0 in omega (arith, le), is.1)) rest all)
within_by false position many rest all =
    All-weaker (λ (n : ℕ). (position + 1 ≤ n) × (n < position + suc many))
    (λ (n : ℕ). (position ≤ n) × (n < position + suc many))
    (λ n is. (let le = is.0 in omega (arith, le), is.1)) rest all

pub positions_within : (who position : ℕ) (xs : List ℕ)
    → All (λ (n : ℕ). (position ≤ n) × (n < position + length xs)) (positions_of who position xs)
positions_within who position [] =
    All-nil (λ (n : ℕ). (position ≤ n) × (n < position + 0))
positions_within who position (x ∷ xs) =
    within_by (x == who) position (length xs) (positions_of who (position + 1) xs)
    (All-weaker (λ (n : ℕ). (position + 1 ≤ n) × (n < position + 1 + length xs))
    (λ (n : ℕ). (position + 1 ≤ n) × (n < position + suc (length xs)))
    (λ n is. (is.0, (let lt = is.1 in omega (arith, lt)))) (positions_of who (position + 1) xs)
    (positions_within who (position + 1) xs))

-- What is made of each position.

same_all : {B : Type 0} (f g : ℕ → B) (ns : List ℕ) → All (λ (n : ℕ). f n ≡ g n) ns
    → map f ns ≡ map g ns
same_all f g [] all = refl
same_all {B} f g (n ∷ ns) all =
    ap (λ (b : B). b ∷ map f ns) (All-head (λ (n : ℕ). f n ≡ g n) n ns all)
    ∙ ap (λ (bs : List B). g n ∷ bs)
    (same_all f g ns (All-tail (λ (n : ℕ). f n ≡ g n) n ns all))

module _ {B : Type 0} (f : ℕ → B) (who one : ℕ) (xs : List ℕ) where
  picked_here : one ≡ who → map f (positions_of who 1 (xs ++ one ∷ []))
      ≡ map f (positions_of who 1 xs) ++ f (length xs + 1) ∷ []
  picked_here same =
      ap (map f) (positions_push who 1 one xs)
      ∙ map-append f (positions_of who 1 xs) (positions_of who (1 + length xs) (one ∷ []))
      ∙ ap (λ (ns : List ℕ). map f (positions_of who 1 xs) ++ map f ns)
      (ap (λ (here : Bool). if here then (1 + length xs) ∷ [] else []) (eq-eqb one who same)
      ∙ ap (λ (n : ℕ). n ∷ []) (let e : 1 + length xs ≡ length xs + 1 = omega arith in e))

  picked_else : one ≢ who → map f (positions_of who 1 (xs ++ one ∷ []))
      ≡ map f (positions_of who 1 xs)
  picked_else other =
      ap (map f) (positions_push who 1 one xs
      ∙ ap (λ (here : Bool). positions_of who 1 xs
      ++ (if here then (1 + length xs) ∷ [] else [])) (ne_eqb one who other)
      ∙ append-nil (positions_of who 1 xs))

-- One letter more.

module _ (letters : List Letter) (letter : Letter) where
  abbrev longer : List Letter
  longer = letters ++ letter ∷ []

  pub letter_still : (position : ℕ) → position ≤ length letters
      → letter_at longer position ≡ letter_at letters position
  letter_still position low =
      get_or_append_left (no_letter ∷ letters) (letter ∷ []) no_letter position
      (omega (arith, low))

  pub letter_last : (position : ℕ) → position ≡ length letters + 1
      → letter_at longer position ≡ letter
  letter_last position is =
      get_or_push (no_letter ∷ letters) letter no_letter position (omega (arith, is))

  sent_still : (position : ℕ) → position ≤ length letters
      → sent_at longer position ≡ sent_at letters position
  sent_still position low = ap (λ (l : Letter). the_sent position l.value)
      (letter_still position low)
    where
      the_sent : ℕ → ℕ → Sent
      the_sent position value = record { position = position; value = value }

  item_still : (position : ℕ) → position ≤ length letters
      → item_at longer position ≡ item_at letters position
  item_still position low = ap (λ (l : Letter). the_item position l) (letter_still position low)
    where
      the_item : ℕ → Letter → Item
      the_item position l =
          record { position = position; sender = l.sender; value = l.value }

  -- the positions in a list that is no longer than the letters were
  module _ {B : Type 0} (f g : ℕ → B)
      (still : (position : ℕ) → position ≤ length letters → f position ≡ g position) (who : ℕ)
      (xs : List ℕ) (low : length xs ≤ length letters) where
    pub all_still : map f (positions_of who 1 xs) ≡ map g (positions_of who 1 xs)
    all_still = same_all f g (positions_of who 1 xs)
        (All-weaker (λ (n : ℕ). (1 ≤ n) × (n < 1 + length xs)) (λ (n : ℕ). f n ≡ g n)
        (λ n is. still n (let lt = is.1 in omega (arith, lt, low))) (positions_of who 1 xs)
        (positions_within who 1 xs))

  as_many : length (senders letters) ≡ length letters
  as_many = length-map letters (λ (l : Letter). l.sender)

  senders_push : senders longer ≡ senders letters ++ letter.sender ∷ []
  senders_push = map_push (λ (l : Letter). l.sender) letters letter

  sends_still : (who : ℕ) → map (sent_at longer) (positions_of who 1 (senders letters))
      ≡ sends_of letters who
  sends_still who = all_still (sent_at longer) (sent_at letters) sent_still who (senders letters)
      (let e = as_many in omega (arith, e))

  -- its sender has it more
  pub sends_more : (who : ℕ) → letter.sender ≡ who
      → sends_of longer who
      ≡ sends_of letters who ++ record { position = length letters + 1; value = letter.value }
      ∷ []
  sends_more who same =
      ap (λ (ns : List ℕ). map (sent_at longer) (positions_of who 1 ns)) senders_push
      ∙ picked_here (sent_at longer) who letter.sender (senders letters) same
      ∙ ap (λ (ss : List Sent). ss ++ sent_at longer (length (senders letters) + 1) ∷ [])
      (sends_still who)
      ∙ ap (λ (n : ℕ). sends_of letters who ++ sent_at longer (n + 1) ∷ []) as_many
      ∙ ap (λ (l : Letter). sends_of letters who
      ++ record { position = length letters + 1; value = l.value } ∷ [])
      (letter_last (length letters + 1) refl)

  -- another has the same as before
  pub sends_same : (who : ℕ) → letter.sender ≢ who → sends_of longer who ≡ sends_of letters who
  sends_same who other =
      ap (λ (ns : List ℕ). map (sent_at longer) (positions_of who 1 ns)) senders_push
      ∙ picked_else (sent_at longer) who letter.sender (senders letters) other
      ∙ sends_still who

  -- and what was taken before is what it was
  pub takes_still : (takers : List ℕ) (taker : ℕ) → length takers ≤ length letters
      → takes_of longer takers taker ≡ takes_of letters takers taker
  takes_still takers taker low =
      all_still (item_at longer) (item_at letters) item_still taker takers low

-- One taker more.

module _ (letters : List Letter) (takers : List ℕ) (one : ℕ) where
  pub takes_more : (taker : ℕ) → one ≡ taker
      → takes_of letters (takers ++ one ∷ []) taker
      ≡ takes_of letters takers taker ++ item_at letters (length takers + 1) ∷ []
  takes_more taker same = picked_here (item_at letters) taker one takers same

  pub takes_same : (taker : ℕ) → one ≢ taker
      → takes_of letters (takers ++ one ∷ []) taker ≡ takes_of letters takers taker
  takes_same taker other = picked_else (item_at letters) taker one takers other
