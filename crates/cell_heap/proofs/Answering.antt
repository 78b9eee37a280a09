-- An answer for a mutator that is out is made where the exchange finds the status before the
-- requested one, with the flags of who is out.
use Rattle.std.proofs.Common.{◌≡◌, ℕ, Bool, true, false, ◌+◌, eqb, refl, sym, ◌∙◌, ap}
use Rattle.cell_words.specs.Presence.{flag_of, pack_presence_of, pack_status_of}
use Rattle.cell_words.specs.declared.presences.Presence.{Presence}
use Rattle.cell_words.specs.declared.presences.Status.{Status}
use Rattle.cell_words.specs.declared.presences.Status.TheVariants as status
use Rattle.cell_words.specs.Modes.{requested_of}
use Rattle.cell_words.specs.declared.controls.Control.{Control}
use Rattle.core_machine.specs.WordOperations.{Exchange, answer_out_exchange, out_with}
use Rattle.core_machine.specs.WordOperations.{status_before}
use Rattle.core_machine.specs.Words.{may_answer_out}

abbrev IsExchanged : Status → Status → Bool → Bool → Bool → Type 0
IsExchanged own wanted inside was_over over =
    eqb (pack_status_of own + flag_of inside 4 + flag_of was_over 8)
    (pack_presence_of (out_with (status_before wanted) over))
    ≡ may_answer_out wanted over (record { status = own; inside = inside; over = was_over })

all_flags : (P : Bool → Bool → Bool → Type 0) → P true true true → P true true false
    → P true false true → P true false false
    → P false true true → P false true false → P false false true → P false false false
    → (a b c : Bool) → P a b c
all_flags P p q r s t u v w true true true = p
all_flags P p q r s t u v w true true false = q
all_flags P p q r s t u v w true false true = r
all_flags P p q r s t u v w true false false = s
all_flags P p q r s t u v w false true true = t
all_flags P p q r s t u v w false true false = u
all_flags P p q r s t u v w false false true = v
all_flags P p q r s t u v w false false false = w

exchanged : (own wanted : Status) (inside was_over over : Bool)
    → IsExchanged own wanted inside was_over over
exchanged status.Async status.Async = all_flags (IsExchanged status.Async status.Async)
    refl refl refl refl refl refl refl refl
exchanged status.Async status.Sync1 = all_flags (IsExchanged status.Async status.Sync1)
    refl refl refl refl refl refl refl refl
exchanged status.Async status.Sync2 = all_flags (IsExchanged status.Async status.Sync2)
    refl refl refl refl refl refl refl refl
exchanged status.Sync1 status.Async = all_flags (IsExchanged status.Sync1 status.Async)
    refl refl refl refl refl refl refl refl
exchanged status.Sync1 status.Sync1 = all_flags (IsExchanged status.Sync1 status.Sync1)
    refl refl refl refl refl refl refl refl
exchanged status.Sync1 status.Sync2 = all_flags (IsExchanged status.Sync1 status.Sync2)
    refl refl refl refl refl refl refl refl
exchanged status.Sync2 status.Async = all_flags (IsExchanged status.Sync2 status.Async)
    refl refl refl refl refl refl refl refl
exchanged status.Sync2 status.Sync1 = all_flags (IsExchanged status.Sync2 status.Sync1)
    refl refl refl refl refl refl refl refl
exchanged status.Sync2 status.Sync2 = all_flags (IsExchanged status.Sync2 status.Sync2)
    refl refl refl refl refl refl refl refl

pub answers_out : (found : Presence) (wanted before : Status) (over : Bool) (number old : ℕ)
    → pack_presence_of found ≡ number → before ≡ status_before wanted
    → old ≡ pack_presence_of (out_with before over)
    → eqb number old ≡ may_answer_out wanted over found
answers_out found wanted before over number old is earlier packed =
    ap (λ (n : ℕ). eqb n old) (sym is)
    ∙ ap (eqb (pack_presence_of found)) (packed
    ∙ ap (λ (s : Status). pack_presence_of (out_with s over)) earlier)
    ∙ exchanged found.status wanted found.inside found.over over

-- the exchange of the code is the table's
pub exchanges_out : (known control : Control) (wanted before : Status) (over : Bool) (old new : ℕ)
    → known ≡ control → wanted ≡ requested_of control.stage → before ≡ status_before wanted
    → old ≡ pack_presence_of (out_with before over) → new ≡ pack_presence_of (out_with wanted over)
    → answer_out_exchange (requested_of known.stage) over ≡ Exchange old new
exchanges_out known control wanted before over old new is asked earlier first second =
    ap (λ (s : Status). answer_out_exchange s over)
    (ap (λ (x : Control). requested_of x.stage) is ∙ sym asked)
    ∙ (λ j. Exchange
    ((ap (λ (s : Status). pack_presence_of (out_with s over)) (sym earlier) ∙ sym first) j)
    (sym second j))
