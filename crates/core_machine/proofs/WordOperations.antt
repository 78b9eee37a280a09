-- Every event is one operation on one word of the table.
use Rattle.std.proofs.Common.{◌≡◌, ℕ, ◌+◌, ◌*◌, Bool, true, false, cond, eqb, bit_and, bit_or, refl}
use Rattle.std.proofs.Common.{sym, ◌∙◌, ap, arith}
use Rattle.std.proofs.Math.Decide.{ℕ_discrete}
use Rattle.std.proofs.Math.Logic.{dite}
use Rattle.std.proofs.lemmas.Bool.{eq-eqb, ne_eqb}
use Rattle.cell_words.specs.Colour.{pack_colour_of}
use Rattle.cell_words.specs.Field.{pack_field_of}
use Rattle.cell_words.specs.Presence.{pack_presence_of, pack_status_of, flag_of}
use Rattle.cell_words.specs.declared.colours.Colour.{Colour}
use Rattle.cell_words.specs.declared.colours.Colour.TheVariants as colour
use Rattle.cell_words.specs.declared.fields.Field.{Field}
use Rattle.cell_words.specs.declared.fields.Field.TheVariants as field
use Rattle.cell_words.specs.declared.presences.Presence.{Presence}
use Rattle.cell_words.specs.declared.presences.Status.{Status}
use Rattle.cell_words.specs.declared.presences.Status.TheVariants as status
use Rattle.core_machine.specs.WordOperations.{status_before, out_with}
use Rattle.core_machine.specs.Words.{shaded, cleared, claimed, written, same_field, answered_out}

-- What the operations leave of one word.

pub shade_leaves : (x : Colour)
    → cond (eqb (pack_colour_of x) 1) 2 (pack_colour_of x) ≡ pack_colour_of (shaded x)
shade_leaves colour.Blue = refl
shade_leaves colour.White = refl
shade_leaves colour.Gray = refl
shade_leaves colour.Black = refl

pub clear_leaves : (x : Colour)
    → cond (eqb (pack_colour_of x) 3) 1 (pack_colour_of x) ≡ pack_colour_of (cleared x)
clear_leaves colour.Blue = refl
clear_leaves colour.White = refl
clear_leaves colour.Gray = refl
clear_leaves colour.Black = refl

pub claim_leaves : (x born : Colour)
    → cond (eqb (pack_colour_of x) 0) (pack_colour_of born) (pack_colour_of x)
    ≡ pack_colour_of (claimed x born)
claim_leaves colour.Blue born = refl
claim_leaves colour.White born = refl
claim_leaves colour.Gray born = refl
claim_leaves colour.Black born = refl

-- a number in a word of a field is equal to another one where the words are
same_number : (a n k : ℕ) → eqb (4 * n + a) (4 * k + a) ≡ eqb n k
same_number a n k =
    dite (ℕ_discrete n k)
    (λ is. eq-eqb (4 * n + a) (4 * k + a) (omega (arith, is)) ∙ sym (eq-eqb n k is))
    (λ other. ne_eqb (4 * n + a) (4 * k + a) (λ is. other (omega (arith, is)))
    ∙ sym (ne_eqb n k other))

-- two fields are the same where their words are
pub same_packed : (a b : Field) → eqb (pack_field_of a) (pack_field_of b) ≡ same_field a b
same_packed field.Null field.Null = refl
same_packed field.Null (field.Num n) = ne_eqb 0 (4 * n + 1) (λ is. omega (arith, is))
same_packed field.Null (field.Cell c) = ne_eqb 0 (4 * c + 2) (λ is. omega (arith, is))
same_packed (field.Num n) field.Null = ne_eqb (4 * n + 1) 0 (λ is. omega (arith, is))
same_packed (field.Num n) (field.Num k) = same_number 1 n k
same_packed (field.Num n) (field.Cell c) = ne_eqb (4 * n + 1) (4 * c + 2) (λ is. omega (arith, is))
same_packed (field.Cell c) field.Null = ne_eqb (4 * c + 2) 0 (λ is. omega (arith, is))
same_packed (field.Cell c) (field.Num n) = ne_eqb (4 * c + 2) (4 * n + 1) (λ is. omega (arith, is))
same_packed (field.Cell c) (field.Cell d) = same_number 2 c d

pub write_leaves : (found old new : Field)
    → cond (eqb (pack_field_of found) (pack_field_of old)) (pack_field_of new) (pack_field_of found)
    ≡ pack_field_of (written found old new)
write_leaves found old new =
    ap (λ (b : Bool). cond b (pack_field_of new) (pack_field_of found)) (same_packed found old)
    ∙ elim (same_field found old) as (λ b. cond b (pack_field_of new) (pack_field_of found)
    ≡ pack_field_of (cond b new found)) [
      | true ↦ refl
      | false ↦ refl
    ]

-- Statuses.

begin_bits : (own : Status) → bit_or (pack_status_of own + 0 + 0) 4 ≡ pack_status_of own + 4 + 0
begin_bits status.Async = refl
begin_bits status.Sync1 = refl
begin_bits status.Sync2 = refl

pub begin_leaves : (p : Presence) → p.inside ≡ false → p.over ≡ false
    → bit_or (pack_presence_of p) 4 ≡ pack_presence_of (record p { inside = true })
begin_leaves p out not_over = rw (out, not_over) (begin_bits p.status)

over_bits : (own : Status) → bit_or (pack_status_of own + 0 + 0) 8 ≡ pack_status_of own + 0 + 8
over_bits status.Async = refl
over_bits status.Sync1 = refl
over_bits status.Sync2 = refl

pub over_leaves : (p : Presence) → p.inside ≡ false → p.over ≡ false
    → bit_or (pack_presence_of p) 8 ≡ pack_presence_of (record p { over = true })
over_leaves p out not_over = rw (out, not_over) (over_bits p.status)

end_bits : (own : Status) (over : Bool)
    → bit_and (pack_status_of own + 4 + flag_of over 8) 11 ≡ pack_status_of own + 0 + flag_of over 8
end_bits status.Async true = refl
end_bits status.Async false = refl
end_bits status.Sync1 true = refl
end_bits status.Sync1 false = refl
end_bits status.Sync2 true = refl
end_bits status.Sync2 false = refl

pub end_leaves : (p : Presence) → p.inside ≡ true
    → bit_and (pack_presence_of p) 11 ≡ pack_presence_of (record p { inside = false })
end_leaves p inside = rw inside (end_bits p.status p.over)

-- what the exchange on a status word leaves, by the status and the flags that it finds
abbrev pub AnswerOutLeaves : Status → Status → Bool → Bool → Bool → Type 0
AnswerOutLeaves own wanted inside was_over over =
    cond (eqb (pack_status_of own + flag_of inside 4 + flag_of was_over 8)
    (pack_presence_of (out_with (status_before wanted) over)))
    (pack_presence_of (out_with wanted over))
    (pack_status_of own + flag_of inside 4 + flag_of was_over 8)
    ≡ pack_presence_of (answered_out wanted over
    (record { status = own; inside = inside; over = was_over }))

all_flags : (P : Bool → Bool → Bool → Type 0) → P true true true → P true true false
    → P true false true → P true false false
    → P false true true → P false true false → P false false true → P false false false
    → (a b c : Bool) → P a b c
all_flags P p q r s t u v w true true true = p
all_flags P p q r s t u v w true true false = q
all_flags P p q r s t u v w true false true = r
all_flags P p q r s t u v w true false false = s
all_flags P p q r s t u v w false true true = t
all_flags P p q r s t u v w false true false = u
all_flags P p q r s t u v w false false true = v
all_flags P p q r s t u v w false false false = w

answer_out_bits : (own wanted : Status) (inside was_over over : Bool)
    → AnswerOutLeaves own wanted inside was_over over
answer_out_bits status.Async status.Async = all_flags
    (AnswerOutLeaves status.Async status.Async) refl refl refl refl refl refl refl refl
answer_out_bits status.Async status.Sync1 = all_flags
    (AnswerOutLeaves status.Async status.Sync1) refl refl refl refl refl refl refl refl
answer_out_bits status.Async status.Sync2 = all_flags
    (AnswerOutLeaves status.Async status.Sync2) refl refl refl refl refl refl refl refl
answer_out_bits status.Sync1 status.Async = all_flags
    (AnswerOutLeaves status.Sync1 status.Async) refl refl refl refl refl refl refl refl
answer_out_bits status.Sync1 status.Sync1 = all_flags
    (AnswerOutLeaves status.Sync1 status.Sync1) refl refl refl refl refl refl refl refl
answer_out_bits status.Sync1 status.Sync2 = all_flags
    (AnswerOutLeaves status.Sync1 status.Sync2) refl refl refl refl refl refl refl refl
answer_out_bits status.Sync2 status.Async = all_flags
    (AnswerOutLeaves status.Sync2 status.Async) refl refl refl refl refl refl refl refl
answer_out_bits status.Sync2 status.Sync1 = all_flags
    (AnswerOutLeaves status.Sync2 status.Sync1) refl refl refl refl refl refl refl refl
answer_out_bits status.Sync2 status.Sync2 = all_flags
    (AnswerOutLeaves status.Sync2 status.Sync2) refl refl refl refl refl refl refl refl

pub answer_out_leaves : (found : Presence) (wanted : Status) (over : Bool)
    → cond (eqb (pack_presence_of found) (pack_presence_of (out_with (status_before wanted) over)))
    (pack_presence_of (out_with wanted over)) (pack_presence_of found)
    ≡ pack_presence_of (answered_out wanted over found)
answer_out_leaves found wanted over = answer_out_bits found.status wanted found.inside found.over
    over
