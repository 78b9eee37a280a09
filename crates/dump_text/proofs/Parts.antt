-- What a line holds, and which line holds it.
use Rattle.std.proofs.Common.{◌≡◌, ℕ, ◌<◌, ◌≤◌, ◌^◌, Bool, true, false, not, ◌&&◌, cond, eqb, List}
use Rattle.std.proofs.Common.{[], ◌∷◌, ◌++◌, length, take, drop, get_or, Option, Some, None, Ok}
use Rattle.std.proofs.Common.{Err, refl, sym, ap, subst, ◌∙◌, arith}
use Rattle.std.specs.Prelude.{◌==◌, ◌||◌, bytes_eq, codes, decimal, nat_le}
use Rattle.std.proofs.Common.{⊎_elim}
use Rattle.std.specs.Char.{is_ascii_digit}
use Rattle.std.specs.Cmp.Lexicographic.{bytes_decides}
use Rattle.std.specs.List.{list_all}
use Rattle.std.specs.Option.{option_and_then}
use Rattle.std.specs.Str.Parse.{AllDigits, digits_value}
use Rattle.std.proofs.lemmas.Bool.{and_from, and_parts, and_right, cond-true}
use Rattle.std.proofs.lemmas.Bool.Decides.{nat_tests}
use Rattle.std.proofs.lemmas.Fmt.{decimal-digits_value, decimal_digit, decimal_is_IsNumeral}
use Rattle.std.proofs.lemmas.Fmt.{first_decimal, length-decimal-le}
use Rattle.std.proofs.lemmas.List.{take-append-drop}
use Rattle.std.proofs.lemmas.List.Splits.{join_with_byte-slice_split}
use Rattle.std.proofs.lemmas.Str.{digit_value_digit}
use Rattle.std.proofs.lemmas.Str.Parse.{digit_from_value, numerals_by_value, tells_digits}
use Rattle.doc_tree.specs.Words.{are_names, is_path, is_text, is_text_byte, path_of, path_with}
use Rattle.doc_tree.specs.Words.{pieces, text_of}
use Rattle.line_texts.specs.Cut.{rest_of, word_of}
use Rattle.line_texts.specs.Numbers.{are_digits, decimal_of, digits_of, is_shortest}
use Rattle.quoted_text.specs.Quoted.{quoted_of, unquoted_of}
use Rattle.quoted_text.proofs.Laws.{from_quote, read_back}
use Rattle.dump_text.specs.Dump.{end_text, head_text, node_text, path_text, root_text}
use Rattle.dump_text.specs.Line.{begins_digit, begins_end, end_in, head_of, line_of}
use Rattle.line_texts.specs.Lines.{is_missing}
use Rattle.dump_text.specs.Line.{low_version, node_in, node_with, root_in, root_line_of, text_in}
use Rattle.dump_text.specs.Line.{with_feed}
use Rattle.dump_text.specs.declared.fault.LoadKind.TheVariants.{BadEnd}
use Rattle.dump_text.specs.declared.line.Held.TheVariants as held
use Rattle.dump_text.proofs.Marks.{path_lacks, path_pieces, rest_cases, word_and_rest}
use Rattle.dump_text.proofs.Marks.{word_first, word_rest}

-- texts
text_some : (bytes text : List ℕ) → text_of bytes ≡ Some text
    → (bytes ≡ text) × (is_text text ≡ true)
text_some bytes text is =
    elim (is_text bytes) as (λ b. is_text bytes ≡ b → cond b (Some bytes) None ≡ Some text
    → (bytes ≡ text) × (is_text text ≡ true)) [
      | true ↦ λ e h. (
          let same : bytes ≡ text = cc in
          (same, ap is_text (sym same) ∙ e)
          )
      | false ↦ λ e h. cc
    ] refl is

text_there : (text : List ℕ) → is_text text ≡ true → text_in (quoted_of text) ≡ Some text
text_there text is =
    let bytes = (and_parts (nat_le (length text) 4096) (list_all is_text_byte text) is).1 in
    ap (option_and_then text_of) (read_back text bytes)
    ∙ cond-true (is_text text) (Some text) None is

text_from : (read : Option (List ℕ)) (bytes text : List ℕ) → unquoted_of bytes ≡ read
    → option_and_then text_of read ≡ Some text
    → (bytes ≡ quoted_of text) × (is_text text ≡ true)
text_from None bytes text is h = cc
text_from (Some inner) bytes text is h =
    let both = text_some inner text h in (
      (from_quote bytes inner is).0 ∙ ap quoted_of both.0,
      both.1,
    )

text_back : (bytes text : List ℕ) → text_in bytes ≡ Some text
    → (bytes ≡ quoted_of text) × (is_text text ≡ true)
text_back bytes text is = text_from (unquoted_of bytes) bytes text refl is

-- paths
path_there : (path : List (List ℕ)) → is_path path ≡ true → path_of (path_text path) ≡ Some path
path_there [] is = cc
path_there (n ∷ path) is =
    let all = (and_parts _ (are_names (n ∷ path)) is).1 in
    ap path_with (path_pieces n path all)
    ∙ cond-true (is_path (n ∷ path)) (Some (n ∷ path)) None is

path_back : (bytes : List ℕ) (path : List (List ℕ)) → path_of bytes ≡ Some path
    → (bytes ≡ path_text path) × (is_path path ≡ true)
path_back bytes path is =
    elim (is_path (pieces bytes)) as (λ b. is_path (pieces bytes) ≡ b
    → cond b (Some (pieces bytes)) None ≡ Some path
    → (bytes ≡ path_text path) × (is_path path ≡ true)) [
      | true ↦ λ e h. (
          let same : pieces bytes ≡ path = cc in (
            sym (join_with_byte-slice_split 47 bytes) ∙ ap path_text same,
            ap is_path (sym same) ∙ e,
          )
          )
      | false ↦ λ e h. cc
    ] refl is

-- node lines
pub node_there : (path : List (List ℕ)) (text : List ℕ) → is_path path ≡ true
    → is_text text ≡ true → node_in (node_text path text) ≡ Some (held.Node path text)
node_there path text is is_t =
    let spaces = (path_lacks path (and_parts _ (are_names path) is).1).1 in
    let quotes = quoted_of text in
    ap (λ w. node_with (path_of w) (text_in (drop 1 (rest_of (node_text path text)))))
    (word_first (path_text path) quotes spaces)
    ∙ ap (λ r. node_with (path_of (path_text path)) (text_in (drop 1 r)))
    (word_rest (path_text path) quotes spaces)
    ∙ ap (λ p. node_with p (text_in quotes)) (path_there path is)
    ∙ ap (node_with (Some path)) (text_there text is_t)

abbrev IsNode : List ℕ → List (List ℕ) → List ℕ → Type 0
IsNode line path text =
    (line ≡ node_text path text) × (is_path path ≡ true) × (is_text text ≡ true)

line_is : (line : List ℕ) (path : List (List ℕ)) (text : List ℕ)
    → word_of line ≡ path_text path → drop 1 (rest_of line) ≡ quoted_of text
    → line ≡ node_text path text
line_is line path text word rest =
    ⊎_elim
    (λ (none : rest_of line ≡ []).
    let empty : [] ≡ quoted_of text = ap (drop 1) (sym none) ∙ rest in cc)
    (λ space. word_and_rest line ∙ ap (λ w. w ++ rest_of line) word
    ∙ ap (λ r. path_text path ++ r) (space ∙ ap (λ r. 32 ∷ r) rest))
    (rest_cases line)

node_from : (line : List ℕ) (p : Option (List (List ℕ))) (t : Option (List ℕ))
    (path : List (List ℕ)) (text : List ℕ) → path_of (word_of line) ≡ p
    → text_in (drop 1 (rest_of line)) ≡ t → node_with p t ≡ Some (held.Node path text)
    → IsNode line path text
node_from line None t path text first second h = cc
node_from line (Some p) None path text first second h = cc
node_from line (Some p) (Some t) path text first second h =
    let same_p : p ≡ path = cc in
    let same_t : t ≡ text = cc in
    let word = path_back (word_of line) path (first ∙ ap Some same_p) in
    let rest = text_back (drop 1 (rest_of line)) text (second ∙ ap Some same_t) in
    (line_is line path text word.0 rest.0, word.1, rest.1)

pub node_back : (line : List ℕ) (path : List (List ℕ)) (text : List ℕ)
    → node_in line ≡ Some (held.Node path text) → IsNode line path text
node_back line path text is =
    node_from line (path_of (word_of line)) (text_in (drop 1 (rest_of line))) path text refl refl is

not_end_from : (line : List ℕ) (o : Option (List (List ℕ))) (t : Option (List ℕ))
    → node_with o t ≡ Some held.End → ⊥
not_end_from line None t h = cc
not_end_from line (Some p) None h = cc
not_end_from line (Some p) (Some t) h = cc

node_no_end : (path : List (List ℕ)) (text : List ℕ) → is_path path ≡ true
    → begins_end (node_text path text) ≡ false
node_no_end path text is =
    let spaces = (path_lacks path (and_parts _ (are_names path) is).1).1 in
    and_right (bytes_eq (word_of (node_text path text)) (codes "end"))
    (begins_digit (drop 1 (rest_of (node_text path text))))
    (ap (λ r. begins_digit (drop 1 r)) (word_rest (path_text path) (quoted_of text) spaces))

pub node_line_there : (nodes : ℕ) (path : List (List ℕ)) (text : List ℕ) → is_path path ≡ true
    → is_text text ≡ true → line_of nodes true (node_text path text) ≡ Ok (held.Node path text)
node_line_there nodes path text is is_t =
    let line = node_text path text in
    ap (λ b. cond b (end_in nodes true line) (with_feed true (node_in line)))
    (node_no_end path text is)
    ∙ ap (λ o. with_feed true o) (node_there path text is is_t)

-- the end
digit_is : (b : ℕ) → 48 ≤ b → b ≤ 57 → is_ascii_digit b ≡ true
digit_is b low high = grind (arith, nat_tests)

begins_of : (digits : List ℕ) → 0 < length digits → AllDigits 10 digits
    → begins_digit digits ≡ true
begins_of [] some all = absurd (omega arith)
begins_of (b ∷ digits) some all =
    let range = digit_from_value b all.0 in digit_is b range.0 range.1

pub end_line_there : (nodes : ℕ) → nodes < 2 ^ 64
    → line_of nodes true (end_text nodes) ≡ Ok held.End
end_line_there nodes small =
    let line = end_text nodes in
    let number = decimal_is_IsNumeral nodes small in
    let digits : begins_end line ≡ true = begins_of (decimal nodes) number.0.0 number.0.1 in
    ap (λ b. cond b (end_in nodes true line) (with_feed true (node_in line))) digits
    ∙ ap (λ b. cond b (Ok held.End) (Err BadEnd)) ((bytes_decides line line).1 refl)

abbrev IsEnd : ℕ → Bool → List ℕ → Type 0
IsEnd nodes has_feed line = (has_feed ≡ true) × (line ≡ end_text nodes)

end_back : (nodes : ℕ) (has_feed : Bool) (line : List ℕ)
    → end_in nodes has_feed line ≡ Ok held.End → IsEnd nodes has_feed line
end_back nodes has_feed line is =
    elim (has_feed && bytes_eq line (end_text nodes))
    as (λ b. (has_feed && bytes_eq line (end_text nodes)) ≡ b
    → cond b (Ok held.End) (Err BadEnd) ≡ Ok held.End → IsEnd nodes has_feed line) [
      | true ↦ λ e h. (
          let parts = and_parts has_feed (bytes_eq line (end_text nodes)) e in
          (parts.0, (bytes_decides line (end_text nodes)).0 parts.1)
          )
      | false ↦ λ e h. cc
    ] refl is

end_no_node : (nodes : ℕ) (has_feed : Bool) (line : List ℕ) (path : List (List ℕ))
    (text : List ℕ) → end_in nodes has_feed line ≡ Ok (held.Node path text) → ⊥
end_no_node nodes has_feed line path text is =
    elim (has_feed && bytes_eq line (end_text nodes))
    as (λ b. cond b (Ok held.End) (Err BadEnd) ≡ Ok (held.Node path text) → ⊥)
    [ true ↦ λ h. cc | false ↦ λ h. cc ] is

-- a line with its feed alone
fed_back : {A : Type 0} (has_feed : Bool) (o : Option A) (a : A) → with_feed has_feed o ≡ Ok a
    → (has_feed ≡ true) × (o ≡ Some a)
fed_back true None a is = cc
fed_back true (Some x) a is = (refl, cc)
fed_back false o a is = cc

-- which line it is
pub line_end_back : (nodes : ℕ) (has_feed : Bool) (line : List ℕ)
    → line_of nodes has_feed line ≡ Ok held.End → IsEnd nodes has_feed line
line_end_back nodes has_feed line is =
    elim (is_missing has_feed line) as (λ b. cond b (Err BadEnd)
    (cond (begins_end line) (end_in nodes has_feed line) (with_feed has_feed (node_in line)))
    ≡ Ok held.End → IsEnd nodes has_feed line) [
      | true ↦ λ h. cc
      | false ↦ λ h.
          elim (begins_end line) as (λ b. cond b (end_in nodes has_feed line)
          (with_feed has_feed (node_in line)) ≡ Ok held.End → IsEnd nodes has_feed line) [
            | true ↦ λ g. end_back nodes has_feed line g
            | false ↦ λ g.
                absurd (not_end_from line (path_of (word_of line)) (text_in (drop 1 (rest_of line)))
                (fed_back has_feed (node_in line) held.End g).1)
          ] h
    ] is

pub line_node_back : (nodes : ℕ) (has_feed : Bool) (line : List ℕ) (path : List (List ℕ))
    (text : List ℕ) → line_of nodes has_feed line ≡ Ok (held.Node path text)
    → (has_feed ≡ true) × IsNode line path text
line_node_back nodes has_feed line path text is =
    elim (is_missing has_feed line) as (λ b. cond b (Err BadEnd)
    (cond (begins_end line) (end_in nodes has_feed line) (with_feed has_feed (node_in line)))
    ≡ Ok (held.Node path text) → (has_feed ≡ true) × IsNode line path text) [
      | true ↦ λ h. cc
      | false ↦ λ h.
          elim (begins_end line) as (λ b. cond b (end_in nodes has_feed line)
          (with_feed has_feed (node_in line)) ≡ Ok (held.Node path text)
          → (has_feed ≡ true) × IsNode line path text) [
            | true ↦ λ g. absurd (end_no_node nodes has_feed line path text g)
            | false ↦ λ g. (
                let fed = fed_back has_feed (node_in line) (held.Node path text) g in
                (fed.0, node_back line path text fed.1)
                )
          ] h
    ] is

-- the root
pub root_there : (text : List ℕ) → is_text text ≡ true
    → root_line_of true (root_text text) ≡ Ok text
root_there text is = ap (λ o. with_feed true o) (text_there text is)

root_from : (line text : List ℕ) → root_in line ≡ Some text
    → (line ≡ root_text text) × (is_text text ≡ true)
root_from line text is =
    elim (bytes_eq (take 2 line) (codes ". ")) as (λ b. bytes_eq (take 2 line) (codes ". ") ≡ b
    → cond b (text_in (drop 2 line)) None ≡ Some text
    → (line ≡ root_text text) × (is_text text ≡ true)) [
      | true ↦ λ e h. (
          let front = (bytes_decides (take 2 line) (codes ". ")).0 e in
          let back = text_back (drop 2 line) text h in (
            sym (take-append-drop 2 line) ∙ ap (λ f. f ++ drop 2 line) front
                ∙ ap (λ r. codes ". " ++ r) back.0,
            back.1,
          )
          )
      | false ↦ λ e h. cc
    ] refl is

pub root_back : (has_feed : Bool) (line text : List ℕ) → root_line_of has_feed line ≡ Ok text
    → (has_feed ≡ true) × (line ≡ root_text text) × (is_text text ≡ true)
root_back has_feed line text is =
    elim (is_missing has_feed line || begins_end line) as (λ b. cond b (Err BadEnd)
    (with_feed has_feed (root_in line)) ≡ Ok text
    → (has_feed ≡ true) × (line ≡ root_text text) × (is_text text ≡ true)) [
      | true ↦ λ h. cc
      | false ↦ λ h. (
          let fed = fed_back has_feed (root_in line) text h in
          let root = root_from line text fed.1 in
          (fed.0, root.0, root.1)
          )
    ] is

-- numbers
digits_pass : (digits : List ℕ) → AllDigits 10 digits → list_all is_ascii_digit digits ≡ true
digits_pass [] all = refl
digits_pass (b ∷ digits) all =
    let range = digit_from_value b all.0 in
    and_from (is_ascii_digit b) (list_all is_ascii_digit digits) (digit_is b range.0 range.1)
    (digits_pass digits all.1)

digit_range : (b : ℕ) → is_ascii_digit b ≡ true → (48 ≤ b) × (b ≤ 57)
digit_range b is = (grind (arith, nat_tests), grind (arith, nat_tests))

digits_are : (digits : List ℕ) → list_all is_ascii_digit digits ≡ true → AllDigits 10 digits
digits_are [] all = tt
digits_are (b ∷ digits) all =
    let parts = and_parts (is_ascii_digit b) (list_all is_ascii_digit digits) all in
    let range = digit_range b parts.0 in
    let value = digit_value_digit b range in
    (omega (arith, value, range.1), digits_are digits parts.1)

shortest_of : (digits : List ℕ) → (48 < get_or digits 0 0) → is_shortest digits ≡ true
shortest_of [] low = refl
shortest_of (b ∷ []) low = refl
shortest_of (b ∷ c ∷ digits) low =
    let differs : (b == 48) ≡ false = grind (arith, nat_tests) in ap not differs

shortest_decimal : (n : ℕ) → n < 2 ^ 64 → is_shortest (decimal n) ≡ true
shortest_decimal n small =
    elim (eqb n 0) as (λ t. eqb n 0 ≡ t → is_shortest (decimal n) ≡ true) [
      | true ↦ λ e. (
          let less : n < 10 = grind (arith, nat_tests) in
          ap is_shortest (decimal_digit n less)
          )
      | false ↦ λ e. (
          let some : 0 < n = grind (arith, nat_tests) in
          shortest_of (decimal n) (first_decimal n some small)
          )
    ] refl

within_seven : (n : ℕ) → n ≤ 7 → nat_le n 7 ≡ true
within_seven n h = grind (arith, nat_tests)

at_least_one : (n : ℕ) → 0 < n → nat_le 1 n ≡ true
at_least_one n h = grind (arith, nat_tests)

low_is : (v : ℕ) → v ≤ 1_000_000 → nat_le v 1_000_000 ≡ true
low_is v h = grind (arith, nat_tests)

is_low : (v : ℕ) → nat_le v 1_000_000 ≡ true → v ≤ 1_000_000
is_low v h = grind (arith, nat_tests)

pub decimal_there : (v : ℕ) → v ≤ 1_000_000 → decimal_of 7 (decimal v) ≡ Some v
decimal_there v low =
    let small : v < 2 ^ 64 = omega arith in
    let number = decimal_is_IsNumeral v small in
    let short = length-decimal-le 7 v (omega arith) (omega arith) small in
    let digits : are_digits 7 (decimal v) ≡ true =
    and_from _ (list_all is_ascii_digit (decimal v))
    (and_from (nat_le 1 (length (decimal v))) (nat_le (length (decimal v)) 7)
    (at_least_one (length (decimal v)) number.0.0) (within_seven (length (decimal v)) short))
    (digits_pass (decimal v) number.0.1) in
    ap (λ b. cond b (digits_of 7 (decimal v)) None) (shortest_decimal v small)
    ∙ ap (λ b. cond b (Some (digits_value 10 (decimal v))) None) digits
    ∙ ap Some number.1

-- a word is the number's decimal
lead_of : (digits : List ℕ) → is_shortest digits ≡ true → get_or digits 0 0 ≡ 48
    → 0 < length digits → length digits ≡ 1
lead_of [] short zero some = absurd (omega arith)
lead_of (b ∷ []) short zero some = refl
lead_of (b ∷ c ∷ digits) short zero some =
    let same : (b == 48) ≡ true = grind (arith, nat_tests) in
    let no : not true ≡ true = ap not (sym same) ∙ short in
    cc

some_digit : (n : ℕ) → nat_le 1 n ≡ true → 0 < n
some_digit n h = grind (arith, nat_tests)

abbrev IsDecimal : List ℕ → ℕ → Type 0
IsDecimal word v = word ≡ decimal v

decimal_back : (word : List ℕ) (v : ℕ) → v ≤ 1_000_000 → decimal_of 7 word ≡ Some v
    → word ≡ decimal v
decimal_back word v low is =
    elim (is_shortest word) as (λ b. is_shortest word ≡ b
    → cond b (digits_of 7 word) None ≡ Some v → word ≡ decimal v) [
      | true ↦ λ short h.
          elim (are_digits 7 word) as (λ b. are_digits 7 word ≡ b
          → cond b (Some (digits_value 10 word)) None ≡ Some v → word ≡ decimal v) [
            | true ↦ λ are g. (
                let value : digits_value 10 word ≡ v = cc in
                let parts = and_parts _ (list_all is_ascii_digit word) are in
                let some = some_digit (length word)
                (and_parts (nat_le 1 (length word)) (nat_le (length word) 7) parts.0).0 in
                sym (decimal-digits_value (numerals_by_value (AllDigits 10) tells_digits) word
                (digits_are word parts.1) some (λ z. lead_of word short z some)
                (omega (arith, value, low)))
                ∙ ap decimal value
                )
            | false ↦ λ are g. cc
          ] refl h
      | false ↦ λ short h. cc
    ] refl is

-- the head
pub head_there : (v : ℕ) → v ≤ 1_000_000 → head_of (head_text v) ≡ Some v
head_there v low =
    ap low_version (decimal_there v low)
    ∙ cond-true (nat_le v 1_000_000) (Some v) None (low_is v low)

low_back : (o : Option ℕ) (v : ℕ) → low_version o ≡ Some v → (o ≡ Some v) × (v ≤ 1_000_000)
low_back None v is = cc
low_back (Some n) v is =
    elim (nat_le n 1_000_000) as (λ b. nat_le n 1_000_000 ≡ b → cond b (Some n) None ≡ Some v
    → (Some n ≡ Some v) × (v ≤ 1_000_000)) [
      | true ↦ λ e h. (
          let same : n ≡ v = cc in
          (h, subst (λ k. k ≤ 1_000_000) same (is_low n e))
          )
      | false ↦ λ e h. cc
    ] refl is

pub head_back : (line : List ℕ) (v : ℕ) → head_of line ≡ Some v
    → (line ≡ head_text v) × (v ≤ 1_000_000)
head_back line v is =
    elim (bytes_eq (take 12 line) (codes "docs-dump 1 "))
    as (λ b. bytes_eq (take 12 line) (codes "docs-dump 1 ") ≡ b
    → cond b (low_version (decimal_of 7 (drop 12 line))) None ≡ Some v
    → (line ≡ head_text v) × (v ≤ 1_000_000)) [
      | true ↦ λ e h. (
          let front = (bytes_decides (take 12 line) (codes "docs-dump 1 ")).0 e in
          let low = low_back (decimal_of 7 (drop 12 line)) v h in (
            sym (take-append-drop 12 line) ∙ ap (λ f. f ++ drop 12 line) front
                ∙ ap (λ r. codes "docs-dump 1 " ++ r) (decimal_back (drop 12 line) v low.1 low.0),
            low.1,
          )
          )
      | false ↦ λ e h. cc
    ] refl is
