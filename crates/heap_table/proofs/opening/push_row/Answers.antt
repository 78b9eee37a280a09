use Rattle.std.proofs.Common.{ℕ, List, [], ◌∷◌, ◌++◌, ◌∙◌, ap, map, append_assoc, arith}
use Rattle.std.proofs.lemmas.List.{take_all}
use Rattle.cell_words.specs.Field.{pack_field_of}
use Rattle.cell_words.specs.declared.fields.Field.{Field}
use Rattle.heap_table.proofs.opening.push_row.Goals as goal

pub returns : goal.returns
returns c =
    let row = c.args.row.now in
    let i = c.loop-field.field-index in
    let old = c.args.words.now.items in
    let fields : List ℕ = map pack_field_of row in
    record {
      words = c.loop-field.invariant
          ∙ ap (λ (fs : List Field). c.push.new.self.items ++ map pack_field_of fs)
          (take_all i row (omega (arith, c.told-row, c.loop-field-test.false)))
          ∙ ap (λ (ws : List ℕ). ws ++ fields) c.in_ok-push.ensures.items
          ∙ append_assoc old (c.pack_colour.result ∷ []) fields
          ∙ ap (λ (w : ℕ). old ++ (w ∷ fields)) c.pack_colour.ensures.word;
    }
