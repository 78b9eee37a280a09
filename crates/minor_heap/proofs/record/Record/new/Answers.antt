use Rattle.std.proofs.Common.{◌≡◌, ◌∙◌, ◌∷◌, [], ℕ, subst, sym, refl}
use Rattle.minor_heap.specs.Record.{IsNumbered, kind_of}
use Rattle.minor_heap.specs.declared.fields.MinorField.{MinorField}
use Rattle.minor_heap.specs.declared.record.FieldKind.{FieldKind}
use Rattle.minor_heap.proofs.Packing.{five_fields, packed}
use Rattle.minor_heap.proofs.record.Record.new.Goals as goal

pub returns : goal.returns
returns c =
    let a = packed _ _ _ c.kind.ensures.kind c.word.ensures.word in
    let b = packed _ _ _ c.kind-2.ensures.kind c.word-2.ensures.word in
    let d = packed _ _ _ c.kind-3.ensures.kind c.word-3.ensures.word in
    let e = packed _ _ _ c.kind-4.ensures.kind c.word-4.ensures.word in
    let f = packed _ _ _ c.kind-5.ensures.kind c.word-5.ensures.word in
    record {
      fields = (λ i. a i ∷ b i ∷ d i ∷ e i ∷ f i ∷ [])
          ∙ five_fields c.args.fields.now c.requires.five;
    }

numbered : (k : FieldKind) (f : MinorField) (w : ℕ) → k ≡ kind_of f → IsNumbered (kind_of f) w
    → IsNumbered k w
numbered k f w same is = subst (λ (x : FieldKind). IsNumbered x w) (sym same) is

pub invariant_of-result : goal.invariant_of-result
invariant_of-result c =
    let a = numbered _ _ _ c.kind.ensures.kind c.word.ensures.numbered in
    let b = numbered _ _ _ c.kind-2.ensures.kind c.word-2.ensures.numbered in
    let d = numbered _ _ _ c.kind-3.ensures.kind c.word-3.ensures.numbered in
    let e = numbered _ _ _ c.kind-4.ensures.kind c.word-4.ensures.numbered in
    let f = numbered _ _ _ c.kind-5.ensures.kind c.word-5.ensures.numbered in
    record { five = refl; numbered = (a, (b, (d, (e, (f, tt))))) }
