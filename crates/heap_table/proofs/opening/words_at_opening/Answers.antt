use Rattle.std.proofs.Common.{◌≡◌, ℕ, ◌+◌, ◌*◌, ◌-◌, List, [], ◌∷◌, ◌++◌, ◌∙◌, ap, take}
use Rattle.std.proofs.Common.{length, replicate, append_assoc, arith}
use Rattle.std.proofs.lemmas.List.{take_all}
use Rattle.heap_table.specs.Opening.{rows_words}
use Rattle.heap_table.proofs.opening.words_at_opening.Goals as goal

-- a list that was made longer
longer : (n len : ℕ) (was now : List ℕ) (x more : ℕ) → now ≡ take n was ++ replicate (n - len) x
    → len ≡ length was → n ≡ len + more → now ≡ was ++ replicate more x
longer n len was now x more is same by =
    let left : n - len ≡ more = omega (arith, by) in
    is ∙ ap (λ (ws : List ℕ). ws ++ replicate (n - len) x)
    (take_all n was (omega (arith, same, by)))
    ∙ ap (λ (k : ℕ). was ++ replicate k x) left

pub returns : goal.returns
returns c =
    let first = c.args.first.now in
    let control = c.pack_control.result in
    let out = c.pack_presence.result in
    let mutators = c.args.mutators in
    let rest = 7 * (c.args.cells - length first) in
    let begun : c.push.new.self.items ≡ control ∷ [] = c.in_ok-push.ensures.items
    ∙ ap (λ (ws : List ℕ). ws ++ control ∷ []) c.in_ok-words.ensures.items in
    let outs = longer (1 + mutators) c.push.new.self.len c.push.new.self.items
    c.resize.new.self.items out mutators c.in_ok-resize.ensures.items
    (omega (arith, c.push.new.self.ok.0)) (omega (arith, c.push.new.self.ok.0, ap length begun)) in
    let zeros = longer (c.len.result + rest) c.push_rows.new.words.len
    c.push_rows.new.words.items c.resize-2.new.self.items 0 rest
    c.in_ok-resize-2.ensures.items (omega (arith, c.push_rows.new.words.ok.0))
    (omega (arith, c.push_rows.new.words.ok.0)) in
    let laid = zeros
    ∙ ap (λ (ws : List ℕ). ws ++ replicate rest 0) (c.in_ok-push_rows.ensures.words
    ∙ ap (λ (ws : List ℕ). ws ++ rows_words first) (outs
    ∙ ap (λ (ws : List ℕ). ws ++ replicate mutators out) begun))
    ∙ append_assoc (control ∷ replicate mutators out) (rows_words first) (replicate rest 0)
    ∙ ap (λ (w : ℕ). w ∷ (replicate mutators out ++ (rows_words first ++ replicate rest 0)))
    c.pack_control.ensures.word
    ∙ ap (λ (w : ℕ). 0 ∷ (replicate mutators w ++ (rows_words first ++ replicate rest 0)))
    c.pack_presence.ensures.word in
    record { words = λ setting. laid }
