-- Logs that are tied to the passes agree on the versions of the rule.
use Rattle.std.proofs.Common.{◌≡◌, ℕ, ◌+◌, List, [], ◌∷◌, ◌++◌, length, map, filter, flat_map, All}
use Rattle.std.proofs.Common.{refl, sym, ◌∙◌, ap, subst}
use Rattle.std.specs.List.{AllZip}
use Rattle.std.proofs.lemmas.List.{map-append}
use Rattle.std.proofs.lemmas.List.Elements.{All-cons, All-head, All-nil, All-tail, filter-append}
use Rattle.doc_model.specs.Agreement.{Agree, EachOnce, ok_places, rising}
use Rattle.doc_model.specs.Answers.{Limits, is_ok, opening_account}
use Rattle.doc_model.specs.ClientLog.{ClientLog}
use Rattle.doc_model.specs.History.{Follows}
use Rattle.doc_model.specs.Merge.{all_entries}
use Rattle.doc_model.specs.declared.command.Entry.{Entry}
use Rattle.doc_tree.specs.Tree.{DocTree}
use Rattle.version_rule.specs.Fits.{Fits, HasVersions}
use Rattle.version_rule.specs.Pass.{Pass, commit_numbers}
use Rattle.version_rule.specs.Tied.{Tied}

pub oks_append : (ds es : List Entry) → ok_places (ds ++ es) ≡ ok_places ds ++ ok_places es
oks_append ds es =
    ap (λ (xs : List Entry). map (λ e. e.place) xs)
    (filter-append (λ (e : Entry). is_ok e.reply) ds es)
    ∙ map-append (λ (e : Entry). e.place) (filter (λ (e : Entry). is_ok e.reply) ds)
    (filter (λ (e : Entry). is_ok e.reply) es)

module _ (l : Limits) where
  oks_are : (passes : List Pass) (logs : List ClientLog) → AllZip (Tied l) passes logs
      → ok_places (all_entries logs) ≡ flat_map commit_numbers passes
  oks_are [] [] tied = refl
  oks_are [] (g ∷ logs) tied = absurd tied
  oks_are (p ∷ passes) [] tied = absurd tied
  oks_are (p ∷ passes) (g ∷ logs) tied =
      oks_append g.entries (all_entries logs)
      ∙ ap (λ (ns : List ℕ). ns ++ ok_places (all_entries logs)) tied.0.commits
      ∙ ap (λ (ns : List ℕ). commit_numbers p ++ ns) (oks_are passes logs tied.1)

  all_own : (passes : List Pass) (logs : List ClientLog) → AllZip (Tied l) passes logs
      → All (λ (g : ClientLog). All (λ (e : Entry). e.client ≡ g.client) g.entries) logs
  all_own [] [] tied =
      All-nil (λ (g : ClientLog). All (λ (e : Entry). e.client ≡ g.client) g.entries)
  all_own [] (g ∷ logs) tied = absurd tied
  all_own (p ∷ passes) [] tied = absurd tied
  all_own (p ∷ passes) (g ∷ logs) tied =
      All-cons (λ (g : ClientLog). All (λ (e : Entry). e.client ≡ g.client) g.entries) g logs
      tied.0.own (all_own passes logs tied.1)

  all_follow : (trees : List DocTree) (passes : List Pass) (logs : List ClientLog)
      → AllZip (Tied l) passes logs → All (Fits trees) passes
      → All (λ (g : ClientLog). Follows l trees opening_account g.entries) logs
  all_follow trees [] [] tied fits =
      All-nil (λ (g : ClientLog). Follows l trees opening_account g.entries)
  all_follow trees [] (g ∷ logs) tied fits = absurd tied
  all_follow trees (p ∷ passes) [] tied fits = absurd tied
  all_follow trees (p ∷ passes) (g ∷ logs) tied fits =
      All-cons (λ (g : ClientLog). Follows l trees opening_account g.entries) g logs
      (tied.0.follows trees (All-head (Fits trees) p passes fits))
      (all_follow trees passes logs tied.1 (All-tail (Fits trees) p passes fits))

  pub agree : (trees : List DocTree) (passes : List Pass) (logs : List ClientLog)
      → HasVersions passes trees → AllZip (Tied l) passes logs
      → map (λ (g : ClientLog). g.client) logs ≡ rising 0 (length logs) → Agree l trees logs
  agree trees passes logs has tied clients =
      let same = oks_are passes logs tied in
      record {
        clients = clients;
        own = all_own passes logs tied;
        opens = has.opens;
        made = has.made ∙ ap (λ (ns : List ℕ). length ns + 1) (sym same);
        once = subst (λ (ns : List ℕ). EachOnce ns) (sym same) has.once;
        follows = all_follow trees passes logs tied has.fits;
      }
