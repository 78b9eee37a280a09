-- Two clients that agree on the versions: the premises of the law on merged logs can be met.
-- The first puts a text. The second finds the heap full, and then reads what the first has put.
use Rattle.std.proofs.Common.{◌≡◌, ℕ, List, [], ◌∷◌, All, refl, arith}
use Rattle.std.proofs.lemmas.List.Elements.{All-nil, All-cons}
use Rattle.std.proofs.lemmas.List.Sorted.{IsPermutation-refl}
use Rattle.doc_tree.specs.Tree.{DocTree, empty, kid, no_kids}
use Rattle.doc_model.specs.declared.command.Command.TheVariants as command
use Rattle.doc_model.specs.declared.command.Reply.TheVariants as reply
use Rattle.doc_model.specs.declared.command.Entry.{Entry}
use Rattle.doc_model.specs.Answers.{Limits, opening_account}
use Rattle.doc_model.specs.ClientLog.{ClientLog}
use Rattle.doc_model.specs.History.{Follows}
use Rattle.doc_model.specs.Agreement.{Agree}

abbrev limits : Limits
limits = record { keep = 8; versions = 100 }

abbrev put : Entry
put = record {
  client = 1;
  number = 1;
  command = command.Put ((97 ∷ []) ∷ []) (120 ∷ []);
  reply =
      reply.Committed 1;
  place = 1;
}

abbrev full : Entry
full = record {
  client = 2;
  number = 1;
  command = command.DraftPut ((97 ∷ []) ∷ []) (120 ∷ []);
  reply = reply.Full 0;
  place = 0;
}

abbrev got : Entry
got = record {
  client = 2;
  number = 2;
  command = command.Get ((97 ∷ []) ∷ []);
  reply =
      reply.Val 1 (120 ∷ []);
  place = 1;
}

abbrev trees : List DocTree
trees = empty ∷ record { text = []; kids = kid (97 ∷ []) (120 ∷ []) no_kids no_kids } ∷ []

abbrev first : ClientLog
first = record { client = 1; entries = put ∷ []; spare = 0 }

abbrev second : ClientLog
second = record { client = 2; entries = full ∷ got ∷ []; spare = 0 }

first_follows : Follows limits trees opening_account first.entries
first_follows = (
  record {
    known = omega arith;
    numbered = refl;
    rises = omega arith;
    says =
        (refl, refl);
    made = refl;
  },
  tt,
)

second_follows : Follows limits trees opening_account second.entries
second_follows = (
  record {
    known = omega arith;
    numbered = refl;
    rises = omega arith;
    says = (refl, refl);
    made =
        refl;
  },
  (
    record {
      known = omega arith;
      numbered = refl;
      rises = omega arith;
      says = (refl, refl);
      made =
          refl;
    },
    tt,
  ),
)

pub agree : Agree limits trees (first ∷ second ∷ [])
agree =
    let own = λ (g : ClientLog). All (λ (e : Entry). e.client ≡ g.client) g.entries in
    let follows = λ (g : ClientLog). Follows limits trees opening_account g.entries in
    let is = λ (n : ℕ) (e : Entry). e.client ≡ n in
    record {
      clients = refl;
      own = All-cons own first (second ∷ []) (All-cons (is 1) put [] refl (All-nil (is 1)))
          (All-cons own second []
          (All-cons (is 2) full (got ∷ []) refl (All-cons (is 2) got [] refl (All-nil (is 2))))
          (All-nil own));
      opens = refl;
      made = refl;
      once = IsPermutation-refl (1 ∷ []);
      follows = All-cons follows first (second ∷ []) first_follows
          (All-cons follows second [] second_follows (All-nil follows));
    }
