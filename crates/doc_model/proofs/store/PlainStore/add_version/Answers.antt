use Rattle.std.proofs.Common.{◌≡◌, ℕ, ◌+◌, ◌-◌, ◌≤◌, true, List, [], ◌∷◌, ◌++◌, All, length, drop}
use Rattle.std.proofs.Common.{sym, ap, ◌∙◌, subst, arith}
use Rattle.std.specs.Prelude.{map, not}
use Rattle.std.specs.Result.{is_ok}
use Rattle.std.proofs.lemmas.List.{drop-append-le, drop-drop, length-append, length-drop}
use Rattle.std.proofs.lemmas.List.{map-append}
use Rattle.std.proofs.lemmas.List.Elements.{All-append, All-cons, All-nil}
use Rattle.doc_tree.specs.Tree.{DocTree, count}
use Rattle.doc_model.specs.StoreView.{IsKept}
use Rattle.doc_model.proofs.store.PlainStore.add_version.Goals as goal

values_next : {S T : Type 0} (f : S → T) (xs ys : List S) (s : S) (t : T) → ys ≡ xs ++ s ∷ []
    → f s ≡ t → map f ys ≡ map f xs ++ t ∷ []
values_next f xs ys s t is says =
    ap (map f) is ∙ map-append f xs (s ∷ []) ∙ ap (λ v. map f xs ++ v ∷ []) says

-- one more version, and so many fewer of the trees before it as are more than can be asked for
kept_next : (keep versions : ℕ) (trees recent made rest : List DocTree) (t : DocTree) (n : ℕ)
    → IsKept keep versions trees recent → length trees ≤ versions → count t ≤ 1000000000
    → made ≡ trees ++ t ∷ [] → rest ≡ drop n (recent ++ t ∷ []) → n ≡ length recent + 1 - keep
    → IsKept keep versions made rest
kept_next keep versions trees recent made rest t n is room few makes leaves fewer =
    let k = length trees - length recent in
    let long : length made ≡ length trees + 1 = ap length makes ∙ length-append trees (t ∷ []) in
    let same : rest ≡ drop (k + n) made =
    leaves ∙ ap (λ xs. drop n (xs ++ t ∷ [])) is.latest
    ∙ ap (drop n) (sym (drop-append-le k trees (t ∷ []) (omega arith)))
    ∙ drop-drop n k (trees ++ t ∷ []) ∙ ap (drop (k + n)) (sym makes) in
    let left : length rest ≡ length made - (k + n) = ap length same ∙ length-drop (k + n) made in
    let at : k + n ≡ length made - length rest = omega (arith, is.asked, is.kept) in
    record {
      some = omega arith;
      few = omega arith;
      bound = is.bound;
      kept = is.kept;
      asked = omega (arith, is.asked, is.kept);
      latest = same ∙ ap (λ i. drop i made) at;
      counted = subst (All (λ u. count u ≤ 1000000000)) (sym makes)
          (All-append (λ u. count u ≤ 1000000000) trees (t ∷ []) is.counted
          (All-cons (λ u. count u ≤ 1000000000) t [] few (All-nil (λ u. count u ≤ 1000000000))));
    }

pub invariant_of-self-then-len-self : goal.invariant_of-self-then-len-self
invariant_of-self-then-len-self c =
    let recent = c.self.inside.recent.items in
    let ok : is_ok c.push_back.result ≡ true =
    c.is_err.ensures.negation ∙ ap not c.if-is_err.false in
    let pushed : c.push_back.new.self.items ≡ recent ++ c.args.tree ∷ [] =
    rw ok at c.push_back.ensures.items in
    let long : length c.push_back.new.self.items ≡ length recent + 1 =
    ap length pushed ∙ length-append recent (c.args.tree ∷ []) in
    kept_next _ _ _ _ _ _ c.args.tree 1 c.self.invariant
    (rw (← c.self.view_is) at c.requires.room) c.requires.counted
    (values_next _ _ _ _ _ c.in_ok-push.ensures.items c.of.ensures)
    (c.pop_front.ensures.rest ∙ ap (drop 1) pushed)
    (omega (arith, long, c.push_back.new.self.ok, c.self.invariant.asked))

pub invariant_of-self-else-len-self : goal.invariant_of-self-else-len-self
invariant_of-self-else-len-self c =
    let recent = c.self.inside.recent.items in
    let ok : is_ok c.push_back.result ≡ true =
    c.is_err.ensures.negation ∙ ap not c.if-is_err.false in
    let pushed : c.push_back.new.self.items ≡ recent ++ c.args.tree ∷ [] =
    rw ok at c.push_back.ensures.items in
    let long : length c.push_back.new.self.items ≡ length recent + 1 =
    ap length pushed ∙ length-append recent (c.args.tree ∷ []) in
    kept_next _ _ _ _ _ _ c.args.tree 0 c.self.invariant
    (rw (← c.self.view_is) at c.requires.room) c.requires.counted
    (values_next _ _ _ _ _ c.in_ok-push.ensures.items c.of.ensures) pushed
    (omega (arith, long, c.push_back.new.self.ok, c.self.invariant.asked))
