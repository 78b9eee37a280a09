-- What is left, with one more mutator that was joined.
use Rattle.std.proofs.Common.{◌≡◌, ◌+◌, ℕ, List, []}
use Rattle.std.proofs.Common.{◌∷◌, ◌++◌, length}
use Rattle.std.proofs.Common.{inl, inr, sym, ◌∙◌, ap, subst, arith}
use Rattle.std.proofs.lemmas.Bool.{cases_lt}
use Rattle.atomic_table.proofs.Lists.{at_last, at_longer}
use mathlib.Core.Option.{some}
use lib.ListN.{get_elem?}
use Rattle.doc_model.specs.Answers.{Limits}
use Rattle.doc_model.specs.ClientLog.{ClientLog}
use Rattle.heap_rule.specs.declared.view.Place.{Place}
use Rattle.heap_rule.specs.declared.view.Place.TheVariants as places
use Rattle.heap_rule.specs.declared.view.Share.{Share}
use Rattle.client_history.specs.Left.{AreLeft, IsLeft}
use Rattle.client_threads.specs.Taken.{AllHadRoom}
use Rattle.version_rule.specs.Pass.{Pass}

module _ (count : ℕ) (joined : List (Place Pass)) (share : Share Pass)
    (at : get_elem? joined count ≡ some (places.Joined share)) where
  -- with its log
  pub left_push : (l : Limits) (cells : ℕ) (logs : List ClientLog) (log : ClientLog)
      → length logs ≡ count → AreLeft l cells logs joined count
      → IsLeft l cells (count + 1) log share
      → AreLeft l cells (logs ++ log ∷ []) joined (count + 1)
  left_push l cells logs log many left is = λ i below.
      elim (cases_lt i count) [
        | inl before ↦ let old = left i before in record {
          log = old.log;
          log_at = at_longer logs (log ∷ []) i old.log old.log_at;
          share = old.share;
          share_at = old.share_at;
          left = old.left;
        }
        | inr above ↦ let same : i ≡ count = omega (arith, below, above) in record {
          log = log;
          log_at = at_last logs log i (omega (arith, many, same));
          share = share;
          share_at = ap (λ (n : ℕ). get_elem? joined n) same ∙ at;
          left = subst (λ (n : ℕ). IsLeft l cells (n + 1) log share) (sym same) is;
        }
      ]

  -- with its places
  pub rooms_push : (room : ℕ) → AllHadRoom room joined count → share.room ≡ room
      → AllHadRoom room joined (count + 1)
  rooms_push room had is = λ i below.
      elim (cases_lt i count) [
        | inl before ↦ had i before
        | inr above ↦ let same : i ≡ count = omega (arith, below, above) in record {
          share = share;
          share_at = ap (λ (n : ℕ). get_elem? joined n) same ∙ at;
          room_is = is;
        }
      ]
