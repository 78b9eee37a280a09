use Rattle.std.proofs.Common.{◌≡◌, ℕ, List, [], ◌∷◌, ◌++◌, ◌∙◌, ap, codes, refl, append_assoc}
use Rattle.std.proofs.Common.{decimal}
use Rattle.cmd_text.proofs.summary.history_line.Goals as goal

three_then : (a b c last : List ℕ)
    → (a ++ (32 ∷ (b ++ (32 ∷ (c ++ (32 ∷ [])))))) ++ last
    ≡ a ++ codes " " ++ b ++ codes " " ++ c ++ codes " " ++ last
three_then a b c last = simp append_assoc refl

whole : (a b c last start next line : List ℕ) → line ≡ start ++ next
    → start ≡ a ++ (32 ∷ (b ++ (32 ∷ (c ++ (32 ∷ []))))) → next ≡ last
    → line ≡ a ++ codes " " ++ b ++ codes " " ++ c ++ codes " " ++ last
whole a b c last start next line joined starts ends =
    joined ∙ ap (λ x. x ++ next) starts
    ∙ ap (λ x. (a ++ (32 ∷ (b ++ (32 ∷ (c ++ (32 ∷ [])))))) ++ x) ends ∙ three_then a b c last

pub returns : goal.returns
returns c =
    let entry = c.args.entry.now in
    record {
      line =
          whole (decimal entry.place) (decimal entry.client) (decimal entry.number) _ _ _ _
          c.in_ok-extend_from_slice.ensures.items
          (ap (λ v. v.items) c.into_bytes-line.ensures.value ∙ c.in_ok-format.ensures.ok)
          (c.deref.ensures.value ∙ c.in_ok-reply_line.ensures.line);
    }
