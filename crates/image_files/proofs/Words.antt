-- What a word of a line is: the readers of fields and colours against the definitions.
use Rattle.std.proofs.Common.{◌≡◌, ℕ, zero, suc, ◌<◌, ◌≤◌, ◌^◌, true, false, cond, List}
use Rattle.std.proofs.Common.{Bool, [], ◌∷◌, inl, inr, Option, Some, None, length, refl, sym}
use Rattle.std.proofs.Common.{subst, ap, ◌∙◌, arith, eqb, ltb}
use Rattle.std.specs.Prelude.{IfSome, bytes_eq, codes, get_or}
use Rattle.std.specs.Cmp.Lexicographic.{bytes_decides}
use Rattle.std.proofs.lemmas.Bool.{cases_lt, eqb-true, le-ltb, lt-ltb, ltb-true}
use Rattle.std.proofs.lemmas.Option.{cond_some, same_Some}
use Rattle.line_texts.specs.CellTexts.{colour_text, field_text}
use Rattle.line_texts.proofs.Decimals.{decimal-decimal_of, decimal_of-decimal}
use Rattle.cell_words.specs.Field.{IsValidField}
use Rattle.cell_words.specs.declared.colours.Colour.{Colour}
use Rattle.cell_words.specs.declared.colours.Colour.TheVariants as colour
use Rattle.cell_words.specs.declared.fields.Field.{Field}
use Rattle.cell_words.specs.declared.fields.Field.TheVariants as field
use Rattle.core_machine.specs.InRange.{NamesBelow}
use Rattle.line_texts.specs.Cut.{next_rest_of, next_word_of}
use Rattle.line_texts.specs.Numbers.{decimal_of}
use Rattle.image_files.specs.Line.{below, colour_in, field_in, fields_in, kept, name_in}
use Rattle.image_files.specs.Line.{null_in, number_in, with_field}

-- the text of a field is read as it

field_there : (size : ℕ) (f : Field) → size ≤ 2 ^ 32 → IsValidField f → NamesBelow size f
    → field_in size (field_text f) ≡ Some f
field_there size field.Null few valid names = refl
field_there size (field.Num n) few valid names =
    ap number_in (decimal_of-decimal n (omega (arith, valid)))
    ∙ ap (λ b. cond b (Some (field.Num n)) None) (lt-ltb n (2 ^ 62) valid)
field_there size (field.Cell c) few valid names =
    ap (λ o. name_in (below size o)) (decimal_of-decimal c (omega (arith, few, names)))
    ∙ ap (λ b. name_in (cond b (Some c) None)) (lt-ltb c size names)

-- a cell that there is not is read as none
name_past : (size c : ℕ) → c < 2 ^ 32 → size ≤ c
    → field_in size (field_text (field.Cell c)) ≡ None
name_past size c few past =
    ap (λ o. name_in (below size o)) (decimal_of-decimal c (omega (arith, few)))
    ∙ ap (λ b. name_in (cond b (Some c) None)) (le-ltb c size past)

-- and what is read is the field of this text

record IsRead (size : ℕ) (word : List ℕ) (f : Field) : Type 0 where
  pub text : field_text f ≡ word
  pub names : NamesBelow size f
  pub valid : IsValidField f

null_back : (size : ℕ) (digits : List ℕ) (f : Field) → null_in digits ≡ Some f
    → IsRead size (45 ∷ digits) f
null_back size [] f is =
    subst (IsRead size (45 ∷ [])) (same_Some field.Null f is)
    (record { text = refl; names = tt; valid = tt })
null_back size (d ∷ digits) f is = absurd cc

number_back : (size : ℕ) (digits : List ℕ) (read : Option ℕ) (f : Field)
    → decimal_of 19 digits ≡ read → number_in read ≡ Some f → IsRead size (61 ∷ digits) f
number_back size digits None f read is = absurd cc
number_back size digits (Some n) f read is =
    let both = cond_some (ltb n (2 ^ 62)) (field.Num n) f is in
    let less = ltb-true n (2 ^ 62) both.0 in
    let text = decimal-decimal_of digits n (omega (arith, less)) read in
    subst (IsRead size (61 ∷ digits)) both.1
    (record { text = ap (λ ds. 61 ∷ ds) text; names = tt; valid = less })

below_back : (size c : ℕ) (read : Option ℕ) → below size read ≡ Some c
    → (c < size) × (read ≡ Some c)
below_back size c None is = absurd cc
below_back size c (Some n) is =
    let both = cond_some (ltb n size) n c is in
    (subst (λ k. k < size) both.1 (ltb-true n size both.0), ap (λ k. Some k) both.1)

name_back : (size : ℕ) (digits : List ℕ) (read : Option ℕ) (f : Field) → size ≤ 2 ^ 32
    → below size (decimal_of 19 digits) ≡ read → name_in read ≡ Some f
    → IsRead size (64 ∷ digits) f
name_back size digits None f few read is = absurd cc
name_back size digits (Some c) f few read is =
    let back = below_back size c (decimal_of 19 digits) read in
    let text = decimal-decimal_of digits c (omega (arith, few, back.0)) back.1 in
    subst (IsRead size (64 ∷ digits)) (same_Some (field.Cell c) f is)
    (record {
      text = ap (λ ds. 64 ∷ ds) text;
      names = back.0;
      valid = omega (arith, few, back.0);
    })

field_back : (size : ℕ) (word : List ℕ) (f : Field) → size ≤ 2 ^ 32
    → field_in size word ≡ Some f → IsRead size word f
field_back size [] f few is = absurd cc
field_back size (byte ∷ digits) f few is =
    elim (eqb byte 45) as (λ b. eqb byte 45 ≡ b
    → cond b (null_in digits) (cond (eqb byte 61) (number_in (decimal_of 19 digits))
    (cond (eqb byte 64) (name_in (below size (decimal_of 19 digits))) None)) ≡ Some f
    → IsRead size (byte ∷ digits) f) [
      | true ↦ λ same null. subst (λ n. IsRead size (n ∷ digits) f) (sym (eqb-true byte 45 same))
          (null_back size digits f null)
      | false ↦ λ no rest.
          elim (eqb byte 61) as (λ b. eqb byte 61 ≡ b
          → cond b (number_in (decimal_of 19 digits))
          (cond (eqb byte 64) (name_in (below size (decimal_of 19 digits))) None) ≡ Some f
          → IsRead size (byte ∷ digits) f) [
            | true ↦ λ same number.
                subst (λ n. IsRead size (n ∷ digits) f) (sym (eqb-true byte 61 same))
                (number_back size digits (decimal_of 19 digits) f refl number)
            | false ↦ λ none more.
                elim (eqb byte 64) as (λ b. eqb byte 64 ≡ b
                → cond b (name_in (below size (decimal_of 19 digits))) None ≡ Some f
                → IsRead size (byte ∷ digits) f) [
                  | true ↦ λ same name.
                      subst (λ n. IsRead size (n ∷ digits) f) (sym (eqb-true byte 64 same))
                      (name_back size digits (below size (decimal_of 19 digits)) f few refl name)
                  | false ↦ λ nothing left. absurd cc
                ] refl more
          ] refl rest
    ] refl is

-- what the reader of fields answers
pub record Reads (word : List ℕ) (read : Option Field) : Type 0 where
  pub valid : IfSome read IsValidField
  pub text : IfSome read (λ f. field_text f ≡ word)
  pub all : (f : Field) → IsValidField f → field_text f ≡ word → read ≡ Some f

no_field : (size : ℕ) (word : List ℕ) (found : Option Field) → size ≤ 2 ^ 32 → Reads word None
    → field_in size word ≡ found → found ≡ None
no_field size word None few reads is = refl
no_field size word (Some f) few reads is =
    let back = field_back size word f few is in
    absurd (let never = reads.all f back.valid back.text in cc)

none_read : (size : ℕ) (word : List ℕ) → size ≤ 2 ^ 32 → Reads word None
    → None ≡ field_in size word
none_read size word few reads = sym (no_field size word (field_in size word) few reads refl)

field_read : (size : ℕ) (word : List ℕ) (f : Field) → size ≤ 2 ^ 32 → Reads word (Some f)
    → NamesBelow size f → Some f ≡ field_in size word
field_read size word f few reads names =
    sym (ap (field_in size) (sym reads.text) ∙ field_there size f few reads.valid names)

past_read : (size : ℕ) (word : List ℕ) (c : ℕ) → Reads word (Some (field.Cell c)) → size ≤ c
    → None ≡ field_in size word
past_read size word c reads past =
    sym (ap (field_in size) (sym reads.text) ∙ name_past size c reads.valid past)

-- colours

pub record ReadsColour (word : List ℕ) (read : Option Colour) : Type 0 where
  pub text : IfSome read (λ c. colour_text c ≡ word)
  pub all : (c : Colour) → colour_text c ≡ word → read ≡ Some c

is_word : (word text : List ℕ) → bytes_eq word text ≡ true → text ≡ word
is_word word text is = sym ((bytes_decides word text).0 is)

colour_back : (word : List ℕ) (c : Colour) → colour_in word ≡ Some c → colour_text c ≡ word
colour_back word c is =
    elim (bytes_eq word (codes "white")) as (λ b. bytes_eq word (codes "white") ≡ b
    → cond b (Some colour.White) (cond (bytes_eq word (codes "gray")) (Some colour.Gray)
    (cond (bytes_eq word (codes "black")) (Some colour.Black) None)) ≡ Some c
    → colour_text c ≡ word) [
      | true ↦ λ same given. subst (λ k. colour_text k ≡ word) (same_Some colour.White c given)
          (is_word word (codes "white") same)
      | false ↦ λ no rest.
          elim (bytes_eq word (codes "gray")) as (λ b. bytes_eq word (codes "gray") ≡ b
          → cond b (Some colour.Gray)
          (cond (bytes_eq word (codes "black")) (Some colour.Black) None) ≡ Some c
          → colour_text c ≡ word) [
            | true ↦ λ same given. subst (λ k. colour_text k ≡ word)
                (same_Some colour.Gray c given) (is_word word (codes "gray") same)
            | false ↦ λ none more.
                let both = cond_some (bytes_eq word (codes "black")) colour.Black c more in
                subst (λ k. colour_text k ≡ word) both.1 (is_word word (codes "black") both.0)
          ] refl rest
    ] refl is

no_colour : (word : List ℕ) (found : Option Colour) → ReadsColour word None
    → colour_in word ≡ found → found ≡ None
no_colour word None reads is = refl
no_colour word (Some c) reads is =
    absurd (let never = reads.all c (colour_back word c is) in cc)

none_coloured : (word : List ℕ) → ReadsColour word None → None ≡ colour_in word
none_coloured word reads = sym (no_colour word (colour_in word) reads refl)

-- a word that is no colour of a cell in use
pub blue_read : (word : List ℕ) → ReadsColour word (Some colour.Blue) → None ≡ colour_in word
blue_read word reads = ap colour_in reads.text

used_colour : (c : Colour) → (c ≡ colour.Blue → ⊥) → Some c ≡ colour_in (colour_text c)
used_colour colour.Blue used = absurd (used refl)
used_colour colour.White used = refl
used_colour colour.Gray used = refl
used_colour colour.Black used = refl

pub colour_read : (word : List ℕ) (c : Colour) → ReadsColour word (Some c)
    → (c ≡ colour.Blue → ⊥) → Some c ≡ colour_in word
colour_read word c reads used = used_colour c used ∙ ap colour_in reads.text

-- fields of a line

with_back : (size : ℕ) (read : Option Field) (more : Option (List Field)) (fields : List Field)
    → with_field read more ≡ Some fields
    → (f : Field) × (fs : List Field) × (read ≡ Some f) × (more ≡ Some fs) × (fields ≡ f ∷ fs)
with_back size None more fields is = absurd cc
with_back size (Some f) None fields is = absurd cc
with_back size (Some f) (Some fs) fields is =
    (f, fs, refl, refl, sym (same_Some (f ∷ fs) fields is))

all_below : (size : ℕ) (f : Field) (fs : List Field) → NamesBelow size f
    → ((i : ℕ) → NamesBelow size (get_or fs i field.Null))
    → (i : ℕ) → NamesBelow size (get_or (f ∷ fs) i field.Null)
all_below size f fs here all zero = here
all_below size f fs here all (suc i) = all i

pub fields_below : (size count : ℕ) (rest : List ℕ) (fields : List Field) → size ≤ 2 ^ 32
    → fields_in size count rest ≡ Some fields
    → (i : ℕ) → NamesBelow size (get_or fields i field.Null)
fields_below size zero [] fields few is =
    subst (λ fs. (i : ℕ) → NamesBelow size (get_or fs i field.Null)) (same_Some [] fields is)
    (λ i. tt)
fields_below size zero (byte ∷ rest) fields few is = absurd cc
fields_below size (suc count) rest fields few is =
    let back = with_back size (field_in size (next_word_of rest))
    (fields_in size count (next_rest_of rest)) fields is in
    let here = (field_back size (next_word_of rest) back.0 few back.2).names in
    let all = fields_below size count (next_rest_of rest) back.1 few back.3 in
    subst (λ fs. (i : ℕ) → NamesBelow size (get_or fs i field.Null)) (sym back.4)
    (all_below size back.0 back.1 here all)

pub cell_below : (size : ℕ) (read : Option ℕ) (c : ℕ) → below size read ≡ Some c → c < size
cell_below size read c is = (below_back size c read is).0

-- bytes are left after six fields
with_none : (read : Option Field) → with_field read None ≡ None
with_none None = refl
with_none (Some f) = refl

one_before : (size i : ℕ) (rest : List ℕ) → fields_in size i (next_rest_of rest) ≡ None
    → fields_in size (suc i) rest ≡ None
one_before size i rest is =
    ap (with_field (field_in size (next_word_of rest))) is
    ∙ with_none (field_in size (next_word_of rest))

none_left : (size : ℕ) (rest : List ℕ) → eqb (length rest) 0 ≡ false
    → fields_in size 0 rest ≡ None
none_left size [] is = absurd cc
none_left size (byte ∷ rest) is = refl

-- the rest after each word of six
pub record SixRests (r0 r1 r2 r3 r4 r5 r6 : List ℕ) : Type 0 where
  pub one : r1 ≡ next_rest_of r0
  pub two : r2 ≡ next_rest_of r1
  pub three : r3 ≡ next_rest_of r2
  pub four : r4 ≡ next_rest_of r3
  pub five : r5 ≡ next_rest_of r4
  pub six : r6 ≡ next_rest_of r5

pub left_over : (size : ℕ) (r0 r1 r2 r3 r4 r5 r6 : List ℕ) (empty : Bool)
    → SixRests r0 r1 r2 r3 r4 r5 r6 → empty ≡ eqb (length r6) 0 → empty ≡ false
    → None ≡ fields_in size 6 r0
left_over size r0 r1 r2 r3 r4 r5 r6 empty rests is some =
    let last = none_left size r6 (sym is ∙ some) in
    let sixth = one_before size 0 r5 (ap (fields_in size 0) (sym rests.six) ∙ last) in
    let fifth = one_before size 1 r4 (ap (fields_in size 1) (sym rests.five) ∙ sixth) in
    let fourth = one_before size 2 r3 (ap (fields_in size 2) (sym rests.four) ∙ fifth) in
    let third = one_before size 3 r2 (ap (fields_in size 3) (sym rests.three) ∙ fourth) in
    let second = one_before size 4 r1 (ap (fields_in size 4) (sym rests.two) ∙ third) in
    sym (one_before size 5 r0 (ap (fields_in size 5) (sym rests.one) ∙ second))

-- the readers, where what they answered is known by an equation
pub none_by : (size : ℕ) (word : List ℕ) (read : Option Field) → size ≤ 2 ^ 32 → Reads word read
    → read ≡ None → None ≡ field_in size word
none_by size word read few reads is = none_read size word few (subst (Reads word) is reads)

kept_read : (size : ℕ) (word : List ℕ) (f : Field) → size ≤ 2 ^ 32 → Reads word (Some f)
    → kept size f ≡ field_in size word
kept_read size word field.Null few reads = field_read size word field.Null few reads tt
kept_read size word (field.Num n) few reads = field_read size word (field.Num n) few reads tt
kept_read size word (field.Cell c) few reads = elim (cases_lt c size) [
  | inl names ↦ ap (λ b. name_in (cond b (Some c) None)) (lt-ltb c size names)
      ∙ field_read size word (field.Cell c) few reads names
  | inr past ↦ ap (λ b. name_in (cond b (Some c) None)) (le-ltb c size past)
      ∙ past_read size word c reads past
]

pub kept_by : (size : ℕ) (word : List ℕ) (read kept_field : Option Field) (f : Field)
    → size ≤ 2 ^ 32 → Reads word read → read ≡ Some f → kept_field ≡ kept size f
    → kept_field ≡ field_in size word
kept_by size word read kept_field f few reads is same =
    same ∙ kept_read size word f few (subst (Reads word) is reads)

pub colour_none_by : (word : List ℕ) (read : Option Colour) → ReadsColour word read → read ≡ None
    → None ≡ colour_in word
colour_none_by word read reads is = none_coloured word (subst (ReadsColour word) is reads)
