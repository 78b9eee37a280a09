-- A store: the trees of all its versions, the oldest first, and what each client has in it.
-- Version 0 is the empty tree, and the list of versions is never shortened.
-- Source: this project's.
use Rattle.std.specs.Prelude.{ℕ, ◌+◌, ◌-◌, ◌≤◌, List, [], ◌∷◌, ◌++◌, Option, Some, None, length}
use Rattle.std.specs.Prelude.{slice_index_or, slice_set, replicate}
use Rattle.std.specs.Coded.{Coded, code_by, coded×, coded_ℕ, coded_list}
use Rattle.std.proofs.Common.{refl}
use Rattle.doc_model.specs.declared.command.Command.{Command}
use Rattle.doc_model.specs.declared.command.Entry.{Entry}
use Rattle.doc_model.specs.declared.answer.Answer.{Answer}
use Rattle.doc_model.specs.declared.answer.Account.{Account}
use Rattle.doc_tree.specs.Tree.{DocTree, empty}
use Rattle.doc_tree.specs.TreeCode.{tree_code}
use Rattle.doc_model.specs.Answers.{Limits, opening_account, answer_at, answer_for_at, back_of}
use Rattle.doc_model.specs.Answers.{left}

-- the account of client c is at c - 1
pub record Store : Type 0 where
  pub limits : Limits
  pub trees : List DocTree
  pub accounts : List Account

abbrev pub opening : ℕ → Limits → Store
opening clients limits =
    record { limits = limits; trees = empty ∷ []; accounts = replicate clients opening_account }

-- the number of the latest version
abbrev pub shown : Store → ℕ
shown s = length s.trees - 1

abbrev pub tree_at : List DocTree → ℕ → DocTree
tree_at trees u = slice_index_or trees u empty

abbrev pub IsClient : Store → ℕ → Type 0
IsClient s client = (1 ≤ client) × (client ≤ length s.accounts)

abbrev pub account_of : Store → ℕ → Account
account_of s client = slice_index_or s.accounts (client - 1) opening_account

-- what a store with these versions answers, the latest of which is v
abbrev pub answer : Limits → List DocTree → ℕ → Account → Command → Answer
answer l trees v m c = answer_at l v (tree_at trees v) (tree_at trees (v - back_of c)) m c

-- the same for an entry, whose reply may be that of a full heap
abbrev pub answer_for : Limits → List DocTree → ℕ → Account → Entry → Answer
answer_for l trees v m e =
    answer_for_at l v (tree_at trees v) (tree_at trees (v - back_of e.command)) m e

abbrev pub answer_in : Store → ℕ → Command → Answer
answer_in s client c = answer s.limits s.trees (shown s) (account_of s client) c

abbrev pub answer_for_in : Store → Entry → Answer
answer_for_in s e = answer_for s.limits s.trees (shown s) (account_of s e.client) e

abbrev pub with_version : List DocTree → Option DocTree → List DocTree
with_version trees None = trees
with_version trees (Some t) = trees ++ t ∷ []

-- the store after an answer to the client
abbrev pub after : Store → ℕ → Answer → Store
after s client a =
    record {
      limits = s.limits;
      trees = with_version s.trees a.made;
      accounts =
          slice_set s.accounts (client - 1) (left (account_of s client) a);
    }

-- the answer as an entry of the client's log
abbrev pub entry_of : Store → ℕ → Command → Answer → Entry
entry_of s client c a =
    record {
      client = client;
      number = (account_of s client).answered + 1;
      command = c;
      reply =
          a.reply;
      place = a.place;
    }

-- a client's commands, one after another: the entries
abbrev pub entries_of : Store → ℕ → List Command → List Entry
entries_of s client [] = []
entries_of s client (c ∷ cs) =
    let a = answer_in s client c in entry_of s client c a ∷ entries_of (after s client a) client cs

abbrev pub account_code : Coded Account
account_code =
    code_by (DocTree × (ℕ × ℕ)) (coded× tree_code (coded× coded_ℕ coded_ℕ))
    (λ m. (m.draft, (m.last, m.answered)))
    (λ p. record { draft = p.0; last = p.1.0; answered = p.1.1 }) (λ _. refl)

abbrev pub store_code : Coded Store
store_code =
    code_by ((ℕ × ℕ) × (List DocTree × List Account))
    (coded× (coded× coded_ℕ coded_ℕ) (coded× (coded_list tree_code) (coded_list account_code)))
    (λ s. ((s.limits.keep, s.limits.versions), (s.trees, s.accounts)))
    (λ p. record {
      limits = record { keep = p.0.0; versions = p.0.1 };
      trees = p.1.0;
      accounts = p.1.1;
    }) (λ _. refl)
