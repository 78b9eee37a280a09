use Rattle.std.proofs.Common.{◌≡◌, ◌∙◌, ◌+◌, ◌/◌, ◌^◌, ◌<◌, ◌≤◌, List, [], ◌∷◌, arith, drop}
use Rattle.std.proofs.Common.{length, length-drop, false, refl, subst, sym, true, ℕ}
use Rattle.std.specs.Bool.{◌==◌}
use Rattle.std.proofs.lemmas.Bool.{eqb-false, eqb-true}
use Rattle.cell_words.specs.Term.{Term, num, five, IsFive}
use Rattle.doc_records.specs.Pool.{part_term}
use Rattle.doc_records.specs.Words.{word_of}
use Rattle.doc_records.specs.Texts.{SpellsText}
use Rattle.doc_records.proofs.Spelled.{cells_made, text_made}
use Rattle.doc_records.proofs.Steps.{later_none, later_then}
use Rattle.doc_records.proofs.writes.+make_text.Goals as goal

abbrev cells_in : List ℕ → ℕ
cells_in bytes = (length bytes + 20) / 21

no_bytes : (bytes : List ℕ) → (length bytes == 0) ≡ true → bytes ≡ []
no_bytes [] test = refl
no_bytes (b ∷ bytes) test = absurd (omega (arith, eqb-true _ _ test))

no_cells : (bytes : List ℕ) (r : ℕ) → (length bytes == 0) ≡ true → r ≡ r + cells_in bytes
no_cells bytes r test = omega (arith, eqb-true _ _ test)

some_bytes : (bytes : List ℕ) → (length bytes == 0) ≡ false → 0 < length bytes
some_bytes bytes test = omega (arith, eqb-false _ _ test)

-- the bytes past those of one cell
rest_less : (bytes rest : List ℕ) (t : ℕ) → rest ≡ drop 21 bytes → 0 < length bytes
    → length bytes ≡ t → length rest < t
rest_less bytes rest t same some all =
    rw same (omega (arith, some, all, length-drop 21 bytes))

rest_few : (bytes rest : List ℕ) → rest ≡ drop 21 bytes → length bytes < 2 ^ 62
    → length rest < 2 ^ 62
rest_few bytes rest same few = rw same (omega (arith, few, length-drop 21 bytes))

one_more : (bytes rest : List ℕ) → rest ≡ drop 21 bytes → 0 < length bytes
    → cells_in bytes ≡ cells_in rest + 1
one_more bytes rest same some = rw same (cells_made bytes some)

rest_room : (n k r : ℕ) → n ≡ k + 1 → n ≤ r → k ≤ r
rest_room n k r one room = omega (arith, one, room)

cell_room : (n k r0 r1 : ℕ) → n ≡ k + 1 → n ≤ r0 → r0 ≡ r1 + k → 1 ≤ r1
cell_room n k r0 r1 one room made = omega (arith, one, room, made)

all_made : (n k r0 r1 r2 : ℕ) → n ≡ k + 1 → r0 ≡ r1 + k → r1 ≡ r2 + 1 → r0 ≡ r2 + n
all_made n k r0 r1 r2 one b1 b2 = omega (arith, one, b1, b2)

word_low : (w : ℕ) → w < 2 ^ 56 → w < 2 ^ 62
word_low w low = omega (arith, low)

cell_is : (t next : Term) (bytes second third : List ℕ) (w1 w2 w3 : ℕ)
    → t ≡ five (num (length bytes)) (num w1) (num w2) (num w3) next → w1 ≡ word_of 7 bytes
    → w2 ≡ word_of 7 second → w3 ≡ word_of 7 third → second ≡ drop 7 bytes
    → third ≡ drop 14 bytes
    → t ≡ five (num (length bytes)) (num (word_of 7 bytes)) (num (word_of 7 (drop 7 bytes)))
    (num (word_of 7 (drop 14 bytes))) next
cell_is t next bytes second third w1 w2 w3 is a b d first rest =
    is ∙ rw (a, b, d, first, rest) refl

pub returns-then-is_empty-clause-text : goal.returns-then-is_empty-clause-text
returns-then-is_empty-clause-text g t c = no_bytes _ (sym c.is_empty.ensures ∙ c.if-is_empty.true)

pub returns-then-is_empty-clause-later : goal.returns-then-is_empty-clause-later
returns-then-is_empty-clause-later g t c = later_none _

pub returns-then-is_empty-clause-records : goal.returns-then-is_empty-clause-records
returns-then-is_empty-clause-records g t c =
    no_cells c.args.bytes.now _ (sym c.is_empty.ensures ∙ c.if-is_empty.true)

pub make_text-next-requires : goal.make_text-next-requires
make_text-next-requires g t c κs within =
    let some = some_bytes c.args.bytes.now (sym c.is_empty.ensures ∙ c.if-is_empty.false) in
    let one = one_more c.args.bytes.now _ c.past.ensures some in
    let rest = c.past.result.now in (
      rest_less _ rest _ c.past.ensures some c.decreases,
      (
        within.0,
        (
          within.1,
          (
            rest_few _ rest c.past.ensures c.requires.few,
            rest_room _ _ _ one c.requires.records,
          ),
        ),
      ),
    )

pub make-requires : goal.make-requires
make-requires g t c =
    record {
      first = c.requires.few;
      second = word_low _ c.word-first.ensures.fits;
      third = word_low _ c.word-second.ensures.fits;
      fourth = word_low _ c.word-third.ensures.fits;
      fifth = c.make_text-next.ensures.stands;
      records =
          let some = some_bytes c.args.bytes.now (sym c.is_empty.ensures ∙ c.if-is_empty.false) in
          let one = one_more c.args.bytes.now _ c.past.ensures some in
          cell_room _ _ _ _ one c.requires.records c.make_text-next.ensures.records;
    }

pub returns : goal.returns
returns g t c =
    let some = some_bytes c.args.bytes.now (sym c.is_empty.ensures ∙ c.if-is_empty.false) in
    record {
      text =
          let s1 = g.R.RecordPool.shown c.make_text-next.new.records in
          text_made _ (part_term s1.term c.make_text-next.result) c.args.bytes.now some
          (cell_is _ _ _ _ _ _ _ _ c.make.ensures.term c.word-first.ensures.word
          c.word-second.ensures.word c.word-third.ensures.word c.past-2.ensures c.past-3.ensures)
          (subst (SpellsText _) c.past.ensures c.make_text-next.ensures.text);
      stands = (c.make.ensures.stands, subst IsFive (sym c.make.ensures.term) tt);
      later = later_then c.make_text-next.ensures.later c.make.ensures.later;
      held = c.make.ensures.held ∙ c.make_text-next.ensures.held;
      records =
          let one = one_more c.args.bytes.now _ c.past.ensures some in
          all_made _ _ _ _ _ one c.make_text-next.ensures.records c.make.ensures.records;
    }
