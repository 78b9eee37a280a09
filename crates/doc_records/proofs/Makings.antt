-- Nodes that are made from the parts of others.
use Rattle.std.proofs.Common.{◌≡◌, ℕ, ◌<◌, ◌^◌, List, length, true, refl, arith}
use Rattle.std.proofs.lemmas.Bool.Decides.{nat_tests}
use Rattle.cell_words.specs.Term.{Term, null, num, five, part}
use Rattle.doc_tree.specs.Tree.{count, height}
use Rattle.doc_tree.specs.Edits.{with_text}
use Rattle.doc_tree.specs.Words.{is_text}
use Rattle.doc_records.specs.Texts.{SpellsText, IsText, text_of}
use Rattle.doc_tree.proofs.Orderly.{lawful_empty}
use Rattle.doc_records.specs.Trees.{IsNode, IsTreeNode, Spells, tree_of}
use Rattle.doc_records.proofs.Spelled.{text_spelled, text_bytes}

pub text_low : (bytes : List ℕ) → is_text bytes ≡ true → length bytes < 2 ^ 62
text_low bytes text = grind (arith, nat_tests, text)

pub is_text_made : (t : Term) (bytes : List ℕ) → SpellsText t bytes → is_text bytes ≡ true
    → IsText t
is_text_made t bytes spells text =
    let same : text_of t ≡ bytes = text_spelled t bytes spells (text_bytes bytes text) in
    record { spells = rw same spells; text = rw same text }

pub node_with_text : (t u new : Term) (bytes : List ℕ) → IsNode t → SpellsText u bytes
    → is_text bytes ≡ true
    → new ≡ five u (part 1 t) (num (count (tree_of t))) (num (height (tree_of t))) null
    → Spells new (with_text bytes (tree_of t))
node_with_text null u new bytes is spells text made = absurd is
node_with_text (num n) u new bytes is spells text made = absurd is
node_with_text (five a b c d e) u new bytes is spells text made =
    let same : text_of u ≡ bytes = text_spelled u bytes spells (text_bytes bytes text) in
    rw made (record {
      node = record {
        text = is_text_made u bytes spells text;
        entries = is.entries;
        rising = is.rising;
        count = refl;
        height = refl;
        last = refl;
      };
      tree = rw same refl;
    })

pub empty_made : (t : Term) → t ≡ five null null (num 1) (num 0) null → IsTreeNode t
empty_made t made =
    rw made (record {
      node = record {
        text = record { spells = refl; text = refl };
        entries = tt;
        rising = tt;
        count = refl;
        height = refl;
        last = refl;
      };
      lawful = lawful_empty;
    })
