-- What the passes say in numbers, by the rule.
use Rattle.std.proofs.Common.{◌≡◌, ℕ, zero, suc, ◌+◌, ◌-◌, ◌*◌, ◌<◌, ◌≤◌, List, [], ◌∷◌, ◌++◌}
use Rattle.std.proofs.Common.{flat_map, length, get_or, Contains, All, IsPermutation, refl, sym}
use Rattle.std.proofs.Common.{map as mapped, ◌∙◌, ap, subst, arith}
use Rattle.std.specs.List.{range_with_len}
use Rattle.std.specs.List.Sorted.{IsStrictlyIncreasing}
use Rattle.std.proofs.lemmas.List.{get_or-map, get_or_default, length-append, length-map}
use Rattle.std.proofs.lemmas.List.Elements.{All-map, All-weaker}
use Rattle.std.proofs.lemmas.List.FromFn.{length-range_with_len}
use Rattle.std.proofs.lemmas.List.Sorted.{length_permutation}
use mathlib.Core.Option.{some}
use lib.ListN.{get_elem?}
use Rattle.atomic_table.proofs.Lists.{at_index}
use Rattle.run_limits.specs.declared.TheConstants.{MOST_COMMANDS, MOST_VERSIONS}
use Rattle.heap_rule.specs.Boxes.{Map}
use Rattle.heap_rule.specs.Numbered.{HasNumber}
use Rattle.mail_rule.specs.Counted.{EachOnce, WasSent, all_sent, all_taken, sent_in, taken_in}
use Rattle.mail_rule.specs.Items.{Letter, item_at, no_letter, positions_of, senders}
use Rattle.mail_rule.specs.Items.{sent_at}
use Rattle.mail_rule.specs.Mail.{HoldsMail, IsSigned}
use Rattle.mail_rule.specs.Passes.{opening_pass}
use Rattle.mail_rule.specs.declared.items.Item.{Item}
use Rattle.mail_rule.specs.declared.items.Sent.{Sent}
use Rattle.mail_rule.specs.declared.mail_pass.MailPass.{MailPass}
use Rattle.mail_rule.proofs.Counting.{each_once, positions_has, positions_rise}
use Rattle.mail_rule.proofs.Letters.{positions_within}
use Rattle.mail_rule.proofs.Standing.{position_low, taken_low}

-- Lists of passes.

flat_same : (f : MailPass → List ℕ) (g : ℕ → List ℕ) (passes : List MailPass) (first : ℕ)
    → ((k : ℕ) (pass : MailPass) → get_elem? passes k ≡ some pass → f pass ≡ g (first + k))
    → flat_map f passes ≡ flat_map g (range_with_len first (length passes))
flat_same f g [] first each = refl
flat_same f g (pass ∷ passes) first each =
    ap (λ (ns : List ℕ). ns ++ flat_map f passes)
    (each 0 pass refl ∙ ap g (let e : first + 0 ≡ first = omega arith in e))
    ∙ ap (λ (ns : List ℕ). g first ++ ns) (flat_same f g passes (first + 1)
    (λ k other at. each (suc k) other at
    ∙ ap g (let e : first + suc k ≡ first + 1 + k = omega arith in e)))

few_sent : (passes : List MailPass)
    → ((k : ℕ) (pass : MailPass) → get_elem? passes k ≡ some pass
    → length pass.sends ≤ MOST_COMMANDS)
    → length (all_sent passes) ≤ MOST_COMMANDS * length passes
few_sent [] each = omega arith
few_sent (pass ∷ passes) each =
    let few = each 0 pass refl in
    let rest = few_sent passes (λ k other at. each (suc k) other at) in
    let both = length-append (sent_in pass) (all_sent passes) in
    let many = length-map pass.sends (λ (sent : Sent). sent.position) in
    omega (arith, few, rest, both, many)

sent_positions : (letters : List Letter) (ns : List ℕ)
    → mapped (λ (sent : Sent). sent.position) (mapped (sent_at letters) ns) ≡ ns
sent_positions letters [] = refl
sent_positions letters (n ∷ ns) = ap (λ (ms : List ℕ). n ∷ ms) (sent_positions letters ns)

taken_positions : (letters : List Letter) (ns : List ℕ)
    → mapped (λ (item : Item). item.position) (mapped (item_at letters) ns) ≡ ns
taken_positions letters [] = refl
taken_positions letters (n ∷ ns) = ap (λ (ms : List ℕ). n ∷ ms) (taken_positions letters ns)

-- what is made of a number of a list is in the list of what is made
made_in : {B : Type 0} (f : ℕ → B) (ns : List ℕ) (n : ℕ) → Contains ns n
    → Contains (mapped f ns) (f n)
made_in f ns n has = (
  has.0,
  (let lt = has.1 in let many = length-map ns f in omega (arith, lt, many)),
  get_or-map f ns has.0 n (f n) has.1 ∙ ap f has.2,
)

-- what is so of what is made of each number is so of each that is made
all_made : {B : Type 0} (f : ℕ → B) (P : B → Type 0) (ns : List ℕ) (b : B)
    → All (λ (n : ℕ). P (f n)) ns
    → Contains (mapped f ns) b → P b
all_made f P ns b all has =
    let lt : has.0 < length ns = (let is = has.1 in let many = length-map ns f in
    omega (arith, is, many)) in
    subst P (sym (get_or-map f ns has.0 0 b lt) ∙ has.2) (all has.0 0 lt)

-- numbers that are those from 1 on, as many as these, are so as many as they are
counted : (many : ℕ) (numbers : List ℕ) → IsPermutation (range_with_len 1 many) numbers
    → (length numbers ≡ many) × EachOnce numbers
counted many numbers once =
    let same : length numbers ≡ many = length_permutation (range_with_len 1 many) numbers once
    ∙ length-range_with_len 1 many in
    (same, subst (λ (n : ℕ). IsPermutation (range_with_len 1 n) numbers) (sym same) once)

module _ (map : Map) (passes : List MailPass) (h : HoldsMail map passes) where
  -- The sends.

  sent_is : (number : ℕ) (pass : MailPass) → get_elem? passes number ≡ some pass
      → sent_in pass ≡ positions_of (number + 1) 1 (senders h.letters)
  sent_is number pass at =
      ap (mapped (λ (sent : Sent). sent.position)) (h.own number pass at).sends
      ∙ sent_positions h.letters (positions_of (number + 1) 1 (senders h.letters))

  all_sent_is : all_sent passes
      ≡ flat_map (λ (who : ℕ). positions_of who 1 (senders h.letters))
      (range_with_len 1 (length passes))
  all_sent_is = flat_same sent_in (λ (who : ℕ). positions_of who 1 (senders h.letters)) passes 1
      (λ number pass at. sent_is number pass at
      ∙ ap (λ (who : ℕ). positions_of who 1 (senders h.letters))
      (let e : number + 1 ≡ 1 + number = omega arith in e))

  all_signed : All (λ (who : ℕ). (1 ≤ who) × (who < 1 + length passes)) (senders h.letters)
  all_signed = All-map (λ (who : ℕ). (1 ≤ who) × (who < 1 + length passes))
      (λ (letter : Letter). letter.sender) h.letters
      (All-weaker (IsSigned (length passes))
      (λ (letter : Letter). (1 ≤ letter.sender) × (letter.sender < 1 + length passes))
      (λ letter is. (is.some, (let le = is.few in omega (arith, le)))) h.letters h.signed)

  sends_counted : (length (all_sent passes) ≡ length (senders h.letters))
      × EachOnce (all_sent passes)
  sends_counted = counted (length (senders h.letters)) (all_sent passes)
      (subst (λ (ns : List ℕ). IsPermutation (range_with_len 1 (length (senders h.letters))) ns)
      (sym all_sent_is) (each_once 1 (length passes) 1 (senders h.letters) all_signed))

  pub sends_many : length (all_sent passes) ≡ length h.letters
  sends_many = sends_counted.0 ∙ length-map h.letters (λ (letter : Letter). letter.sender)

  pub sends_once : EachOnce (all_sent passes)
  sends_once = sends_counted.1

  pub sends_rise : (number : ℕ) (pass : MailPass) → get_elem? passes number ≡ some pass
      → IsStrictlyIncreasing (sent_in pass)
  sends_rise number pass at =
      subst IsStrictlyIncreasing (sym (sent_is number pass at))
      (positions_rise (number + 1) 1 (senders h.letters))

  pub sends_few : length (all_sent passes) ≤ MOST_VERSIONS
  sends_few =
      let each = few_sent passes (λ number pass at. (h.own number pass at).few) in
      let few = h.few in
      omega (arith, each, few)

  pub letters_few : length h.letters ≤ MOST_VERSIONS
  letters_few = let many = sends_many in let few = sends_few in omega (arith, many, few)

  pub boxes_few : (cell position : ℕ) → HasNumber map cell position
      → position ≤ length (all_sent passes)
  boxes_few cell position has =
      let low = position_low map passes h cell position has in
      let many = sends_many in omega (arith, low, many)

  -- a mutator's pass
  pass_at : (number : ℕ) → number < length passes
      → (pass : MailPass) × (get_elem? passes number ≡ some pass)
  pass_at number lt =
      let pass = get_or passes number (opening_pass 0 0) in (
        pass,
        at_index passes number pass lt
            (get_or_default passes number (opening_pass 0 0) pass lt),
      )

  pub was_sent : (position : ℕ) → 1 ≤ position → position ≤ length h.letters
      → WasSent passes (item_at h.letters position)
  was_sent zero first low = absurd (omega (arith, first))
  was_sent (suc k) first low =
      let letter = get_or h.letters k no_letter in
      let lt : k < length h.letters = omega (arith, low) in
      let signed : IsSigned (length passes) letter = h.signed k no_letter lt in
      let number : ℕ = letter.sender - 1 in
      let least = signed.some in
      let most = signed.few in
      let sender_is : letter.sender ≡ number + 1 = omega (arith, least) in
      let below : number < length passes = omega (arith, sender_is, most) in
      let found = pass_at number below in
      let there : get_or (senders h.letters) k 0 ≡ number + 1 =
      get_or-map (λ (l : Letter). l.sender) h.letters k no_letter 0 lt ∙ sender_is in
      let many = length-map h.letters (λ (l : Letter). l.sender) in
      record {
        number = number;
        pass = found.0;
        pass_is = found.1;
        sender_is = sender_is;
        has = subst (λ (sends : List Sent). Contains sends (sent_at h.letters (suc k)))
            (sym (h.own number found.0 found.1).sends)
            (made_in (sent_at h.letters) (positions_of (number + 1) 1 (senders h.letters)) (suc k)
            (subst (λ (n : ℕ). Contains (positions_of (number + 1) 1 (senders h.letters)) n)
            (let e : 1 + k ≡ suc k = omega arith in e)
            (subst (λ (who : ℕ). Contains (positions_of who 1 (senders h.letters)) (1 + k)) there
            (positions_has 1 k 0 (senders h.letters) (omega (arith, lt, many))))));
      }

  -- The takes.

  taken_is : (number : ℕ) (pass : MailPass) → get_elem? passes number ≡ some pass
      → taken_in pass ≡ positions_of number 1 h.takers
  taken_is number pass at =
      ap (mapped (λ (item : Item). item.position)) (h.own number pass at).takes
      ∙ taken_positions h.letters (positions_of number 1 h.takers)

  all_taken_is : all_taken passes
      ≡ flat_map (λ (who : ℕ). positions_of who 1 h.takers) (range_with_len 0 (length passes))
  all_taken_is = flat_same taken_in (λ (who : ℕ). positions_of who 1 h.takers) passes 0
      (λ number pass at. taken_is number pass at
      ∙ ap (λ (who : ℕ). positions_of who 1 h.takers)
      (let e : number ≡ 0 + number = omega arith in e))

  takes_counted : (length (all_taken passes) ≡ length h.takers) × EachOnce (all_taken passes)
  takes_counted = counted (length h.takers) (all_taken passes)
      (subst (λ (ns : List ℕ). IsPermutation (range_with_len 1 (length h.takers)) ns)
      (sym all_taken_is)
      (each_once 0 (length passes) 1 h.takers
      (All-weaker (λ (number : ℕ). number < length passes)
      (λ (number : ℕ). (0 ≤ number) × (number < 0 + length passes))
      (λ number lt. (omega arith, omega (arith, lt))) h.takers h.received)))

  pub takes_many : length (all_taken passes) ≡ length h.takers
  takes_many = takes_counted.0

  pub takes_once : EachOnce (all_taken passes)
  takes_once = takes_counted.1

  pub takes_rise : (number : ℕ) (pass : MailPass) → get_elem? passes number ≡ some pass
      → IsStrictlyIncreasing (taken_in pass)
  takes_rise number pass at =
      subst IsStrictlyIncreasing (sym (taken_is number pass at))
      (positions_rise number 1 h.takers)

  pub takes_sent : (number : ℕ) (pass : MailPass) → get_elem? passes number ≡ some pass
      → (item : Item) → Contains pass.takes item → WasSent passes item
  takes_sent number pass at item has =
      all_made (item_at h.letters) (WasSent passes) (positions_of number 1 h.takers) item
      (All-weaker (λ (n : ℕ). (1 ≤ n) × (n < 1 + length h.takers))
      (λ (n : ℕ). WasSent passes (item_at h.letters n))
      (λ n is. was_sent n is.0
      (let lt = is.1 in let low = taken_low map passes h in omega (arith, lt, low)))
      (positions_of number 1 h.takers) (positions_within number 1 h.takers))
      (subst (λ (takes : List Item). Contains takes item) (h.own number pass at).takes has)

  pub takes_fewer : length (all_taken passes) ≤ length (all_sent passes)
  takes_fewer =
      let sent = sends_many in let taken = takes_many in let low = taken_low map passes h in
      omega (arith, sent, taken, low)
