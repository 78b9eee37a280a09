-- One more entry of a history that is looked through from its front.
use Rattle.std.proofs.Common.{◌≡◌, ◌↔◌, ℕ, ◌+◌, ◌-◌, ◌≤◌, List, ◌∷◌, All, sym, subst, arith}
use Rattle.std.proofs.lemmas.List.Elements.{All-get_or, All-set, All-weaker}
use Rattle.doc_model.specs.declared.answer.Account.{Account}
use Rattle.doc_model.specs.declared.command.Entry.{Entry}
use Rattle.doc_model.specs.Answers.{left, opening_account}
use Rattle.doc_model.specs.Store.{Store, IsClient, after, answer_for_in, account_of}
use Rattle.doc_model.specs.History.{IsLegal, Says}

pub legal_step : (s next : Store) (e : Entry) (es rest : List Entry) → es ≡ e ∷ rest
    → IsClient s e.client × Says (answer_for_in s e) e
    → next ≡ after s e.client (answer_for_in s e) → IsLegal next rest ↔ IsLegal s es
legal_step s next e es rest is says becomes = (
  λ h.
      let all : IsLegal s (e ∷ rest) =
      (says.0, (says.1, subst (λ (t : Store). IsLegal t rest) becomes h)) in
      subst (λ (xs : List Entry). IsLegal s xs) (sym is) all,
  λ h.
      let all : IsLegal s (e ∷ rest) = subst (λ (xs : List Entry). IsLegal s xs) is h in
      subst (λ (t : Store). IsLegal t rest) (sym becomes) all.1.1,
)

pub legal_first : (s : Store) (e : Entry) (es rest : List Entry) → es ≡ e ∷ rest → IsLegal s es
    → IsClient s e.client × Says (answer_for_in s e) e
legal_first s e es rest is legal =
    let all : IsLegal s (e ∷ rest) = subst (λ (xs : List Entry). IsLegal s xs) is legal in
    (all.0, all.1.0)

-- how often a client was answered
pub few_step : (s next : Store) (e : Entry) (n : ℕ) → All (λ m. m.answered ≤ n) s.accounts
    → IsClient s e.client → next ≡ after s e.client (answer_for_in s e)
    → All (λ m. m.answered ≤ n + 1) next.accounts
few_step s next e n few is becomes =
    let client = e.client in
    let accounts = s.accounts in
    let one : (account_of s client).answered ≤ n =
    All-get_or (λ (m : Account). m.answered ≤ n) accounts (client - 1) opening_account
    (omega (arith, is.0, is.1)) few in
    let more = All-weaker (λ (m : Account). m.answered ≤ n) (λ (m : Account). m.answered ≤ n + 1)
    (λ m h. omega arith) accounts few in
    let all = All-set (λ (m : Account). m.answered ≤ n + 1) accounts (client - 1)
    (left (account_of s client) (answer_for_in s e)) (omega arith) more in
    subst (λ (t : Store). All (λ (m : Account). m.answered ≤ n + 1) t.accounts) (sym becomes) all
