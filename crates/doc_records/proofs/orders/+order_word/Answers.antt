use Rattle.std.proofs.Common.{◌≡◌, ℕ, ◌<◌, List, [], ◌∷◌, ◌++◌, length, ap, sym, ◌∙◌, arith}
use Rattle.std.specs.declared.cmp.Ordering.TheVariants.{Less}
use Rattle.doc_tree.specs.Tree.{name_cmp}
use Rattle.doc_records.specs.Words.{bytes_of}
use Rattle.doc_records.proofs.Bytewise.{same_byte}
use Rattle.doc_records.proofs.Letters.{bytes_step}
use Rattle.doc_records.proofs.orders.+order_word.Goals as goal

pub returns-in-Equal : goal.returns-in-Equal
returns-in-Equal t c more =
    let some : 0 < c.args.count = omega (arith, c.if-count-eq0.false) in
    same_byte c.args.name.now _ _ more some c.in-len1-up.len_at_least
    (sym c.cmp.ensures ∙ c.in-Equal.is) ∙ c.order_word.ensures more

empty_less : (name : List ℕ) (n w : ℕ) (more : List ℕ) → length name < 1 → 0 < n
    → name_cmp name (bytes_of n w ++ more) ≡ Less
empty_less [] n w more short some = ap (λ bytes. name_cmp [] (bytes ++ more)) (bytes_step n w some)
empty_less (byte ∷ bytes) n w more short some = absurd (omega (arith, short))

pub returns-in-empty : goal.returns-in-empty
returns-in-empty t c more =
    empty_less c.args.name.now c.args.count c.args.word more c.in-empty.len_below
    (omega (arith, c.if-count-eq0.false))
