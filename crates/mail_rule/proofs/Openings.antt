-- The rule holds where a mailbox opens.
use Rattle.std.proofs.Common.{◌≡◌, ◌<◌, ◌≤◌, ◌-◌, ◌⊎◌, ℕ, zero, suc, ◌+◌, false, true, List, []}
use Rattle.std.proofs.Common.{length, inl, inr, refl, sym, ap, subst, arith}
use Rattle.std.proofs.lemmas.List.Elements.{All-nil}
use mathlib.Core.Option.{some, some-injective}
use lib.ListN.{get_elem?}
use Rattle.cell_words.specs.declared.fields.Field.{Field}
use Rattle.cell_words.specs.Term.{null}
use Rattle.run_limits.specs.declared.TheConstants.{MOST_CLIENTS}
use Rattle.core_machine.specs.State.{State, field_of, opening}
use Rattle.core_machine.specs.Words.{is_box_kind}
use Rattle.dlg_core.specs.Reachable.{anchor, named}
use Rattle.heap_rule.specs.Boxes.{Map, Payload, boxes_of, payload_of}
use Rattle.heap_rule.specs.Lore.{Lore, Plain}
use Rattle.heap_rule.specs.Opening.{FirstTerms, opening_lore, opening_passes, opening_rooms}
use Rattle.heap_rule.specs.Opening.{passes_from}
use Rattle.heap_rule.specs.Shape.{Shape, start}
use Rattle.heap_rule.proofs.Maps.{In}
use Rattle.heap_rule.proofs.Openings.{as_many_open, each_box, first_apart, first_named, four_null}
use Rattle.heap_rule.proofs.Openings.{null_rows}
use Rattle.mail_rule.specs.Mail.{HoldsMail, IsItem, IsOwn, IsSigned}
use Rattle.mail_rule.specs.Opening.{OpensMail, first_rows, first_terms}
use Rattle.mail_rule.specs.Passes.{opening_pass}
use Rattle.mail_rule.specs.declared.mail_pass.MailPass.{MailPass}

-- the terms are those of the first rows, which have none
pub firsts : FirstTerms first_rows first_terms
firsts zero = refl
firsts (suc zero) = refl
firsts (suc (suc k)) = refl

-- each of the first passes is the opening one
first_pass : (setting number n k : ℕ) (pass : MailPass)
    → get_elem? (passes_from opening_pass setting number n) k ≡ some pass
    → opening_pass 0 0 ≡ pass
first_pass setting number zero k pass at = absurd cc
first_pass setting number (suc n) zero pass at = some-injective (opening_pass 0 0) pass at
first_pass setting number (suc n) (suc k) pass at =
    first_pass setting (number + 1) n k pass at

-- The boxes: the anchor, and the one at position 0.

module _ (cells : ℕ) (rooms : List ℕ) (known : ℕ) where
  abbrev s : State
  s = opening cells rooms first_rows

  abbrev l : Lore
  l = opening_lore first_terms known

  abbrev map : Map
  map = boxes_of s l

  anchor_in : In s l 0
  anchor_in = record { reached = anchor refl; box = refl; old = refl }

  item_in : In s l 1
  item_in = record { reached = named 0 (anchor refl) refl; box = refl; old = refl }

  -- no other cell is a box
  box_is : (x : ℕ) → is_box_kind (field_of s x 5) ≡ true → (x ≡ 0) ⊎ (x ≡ 1)
  box_is zero is = inl refl
  box_is (suc zero) is = inr refl
  box_is (suc (suc k)) is = absurd (
      let none : is_box_kind (field_of s (suc (suc k)) 5) ≡ false =
      ap is_box_kind (null_rows (cells - 2) k 5) in cc)

  others : (f : ℕ) → 1 ≤ f → f < 5 → payload_of s l 0 f ≡ Plain null
  others = four_null (payload_of s l 0) refl refl refl refl

  first_item : IsItem [] map (payload_of s l 1)
  first_item = record {
    position = 0;
    sent = omega arith;
    has = record { position_is = refl; sender_is = refl; value_is = refl };
    next = inl record { last = refl; none = refl };
    fifth = refl;
  }

  first_own : (number : ℕ) → IsOwn [] [] number (opening_pass 0 0)
  first_own number = record { sends = refl; takes = refl; few = omega arith }

  opens_mail : (setting mutators : ℕ) → mutators ≤ MOST_CLIENTS
      → HoldsMail map (passes_from opening_pass setting 0 mutators)
  opens_mail setting mutators few = record {
    letters = [];
    takers = [];
    few = subst (λ (n : ℕ). n ≤ MOST_CLIENTS)
        (sym (as_many_open opening_pass setting 0 mutators)) few;
    signed = All-nil (IsSigned (length (passes_from opening_pass setting 0 mutators)));
    received = All-nil (λ (number : ℕ).
        number < length (passes_from opening_pass setting 0 mutators));
    own = λ number pass at.
        subst (λ (p : MailPass). IsOwn [] [] number p)
        (first_pass setting 0 mutators number pass at) (first_own number);
    latest = first_named s l 0 anchor_in item_in box_is refl refl others;
    boxes = λ x q other at. each_box s l 0 anchor_in item_in box_is refl refl others
        (λ (p : Payload). IsItem [] map p) first_item x q other at;
    apart = first_apart s l 0 anchor_in item_in box_is refl refl others;
  }

-- what is asked of the client of a heap that is made
pub opened : (h : Shape) → OpensMail h
    → HoldsMail
    (boxes_of (start h (opening_rooms h.mutators)) (opening_lore first_terms h.mutators))
    (opening_passes opening_pass h)
opened h opens =
    subst (λ (first : List (List Field)). HoldsMail
    (boxes_of (opening h.cells (opening_rooms h.mutators) first)
    (opening_lore first_terms h.mutators)) (opening_passes opening_pass h)) (sym opens.first)
    (opens_mail h.cells (opening_rooms h.mutators) h.mutators h.setting h.mutators opens.few)
