-- Logs agree also without a last one that has no entry.
use Rattle.std.proofs.Common.{◌≡◌, ◌+◌, ◌++◌, List, [], ◌∷◌, length, map, All}
use Rattle.std.proofs.Common.{◌∙◌, ap, subst}
use Rattle.std.proofs.lemmas.Grind.{flat_map-append}
use Rattle.std.proofs.lemmas.List.{append-nil}
use Rattle.std.proofs.lemmas.List.Elements.{All-cons, All-head, All-nil, All-tail}
use Rattle.doc_model.specs.Agreement.{Agree, EachOnce, ok_places, rising}
use Rattle.doc_model.specs.Answers.{Limits, opening_account}
use Rattle.doc_model.specs.ClientLog.{ClientLog}
use Rattle.doc_model.specs.History.{Follows}
use Rattle.doc_model.specs.Merge.{all_entries}
use Rattle.doc_model.specs.declared.command.Entry.{Entry}
use Rattle.doc_tree.specs.Tree.{DocTree}

all_front : {A : Type 0} (P : A → Type 0) (xs ys : List A) → All P (xs ++ ys) → All P xs
all_front P [] ys all = All-nil P
all_front P (x ∷ xs) ys all =
    All-cons P x xs (All-head P x (xs ++ ys) all)
    (all_front P xs ys (All-tail P x (xs ++ ys) all))

pub agree_without : (l : Limits) (trees : List DocTree) (logs : List ClientLog) (last : ClientLog)
    → last.entries ≡ [] → map (λ (g : ClientLog). g.client) logs ≡ rising 0 (length logs)
    → Agree l trees (logs ++ last ∷ []) → Agree l trees logs
agree_without l trees logs last none numbered agree =
    let same : all_entries (logs ++ last ∷ []) ≡ all_entries logs =
    flat_map-append (λ (g : ClientLog). g.entries) logs (last ∷ [])
    ∙ ap (λ (es : List Entry). all_entries logs ++ (es ++ [])) none
    ∙ append-nil (all_entries logs) in
    record {
      clients = numbered;
      own = all_front (λ (g : ClientLog). All (λ (e : Entry). e.client ≡ g.client) g.entries)
          logs (last ∷ []) agree.own;
      opens = agree.opens;
      made = agree.made ∙ ap (λ (es : List Entry). length (ok_places es) + 1) same;
      once = subst (λ (es : List Entry). EachOnce (ok_places es)) same agree.once;
      follows = all_front (λ (g : ClientLog). Follows l trees opening_account g.entries) logs
          (last ∷ []) agree.follows;
    }
