-- There is at most one proof of the facts on a client's draft, which a ghost field asks of its own.
-- Source: this project's.
use Rattle.std.proofs.Common.{ℕ, List, []}
use Rattle.std.proofs.Common.{drop}
use Rattle.std.specs.Coded.{Coded-set, ×_prop, Unit-prop, coded_list, coded_ℕ, le_prop}
use Rattle.std.specs.Ordering.{Ordering-set}
use Rattle.std.proofs.Math.Bool.{Bool-set}
use Rattle.std.specs.declared.cmp.Ordering.TheVariants.{Less}
use Rattle.cell_words.specs.Term.{IsFive, Term, five, null, num, term_code}
use Rattle.client_trees.specs.declared.at.NodeAt.{NodeAt}
use Rattle.client_trees.specs.declared.at.NodeAt.TheVariants as at
use Rattle.client_trees.specs.Records.{IsAmong, IsRecord, Rests, rests, stands_on}
use Rattle.doc_records.specs.Texts.{IsName, IsText, IsTextCell, SpellsText, text_of}
use Rattle.doc_records.specs.Trees.{IsEntryRecord, IsNodeRecord, IsSpelling, IsTreeNode, Role}
use Rattle.doc_records.specs.Trees.{as_entry, as_node, tree_of}
use Rattle.doc_tree.specs.Lawful.{AreOrderly, IsLawful, IsOrderly}
use Rattle.doc_tree.specs.Tree.{DocTree, IsAbove, IsRising, Kids, kid, name_cmp, no_kids}
use Rattle.heap_rule.specs.Lore.{known_at}
use Rattle.heap_rule.specs.declared.known.Known.{Known}
use Rattle.heap_rule.specs.declared.known.Known.TheVariants as knows
use Rattle.minor_heap.specs.declared.fields.MinorField.{MinorField}
use Rattle.minor_heap.specs.declared.fields.MinorRef.{MinorRef}
use Rattle.minor_heap.specs.Nursery.{Nursery}
use Rattle.mutator_seat.specs.Bound.{Bound}
use Rattle.version_rule.specs.Pass.{Pass}
use Rattle.client_heap.specs.Sound.{IsSound}

five_once : (t : Term) → IsProp (IsFive t)
five_once null = λ x y. absurd x
five_once (num n) = λ x y. absurd x
five_once (five a b c d e) = Unit-prop

-- What stands.

record_once : (k : Known) → IsProp (IsRecord k)
record_once knows.Nothing = λ x y. absurd x
record_once (knows.Raw fields) = λ x y. absurd x
record_once (knows.Fresh fields) = λ x y. absurd x
record_once (knows.Record t) = five_once t
record_once (knows.Boxed told) = λ x y. absurd x

among_once : (known : List Known) (places place : ℕ) → IsProp (IsAmong known places place)
among_once known places place = ×_prop le_prop (record_once (known_at known place))

rests_once : (records : List (List MinorField)) (ok : ℕ → Type 0)
    → ((place : ℕ) → IsProp (ok place)) → (r : MinorRef) → IsProp (Rests records ok r)
rests_once records ok once r (rests a b c) (rests d e f) =
    λ j. rests (le_prop a d j) (λ i place lt is. once place (b i place lt is) (e i place lt is) j)
    (λ i o lt is. rests_once records ok once o (c i o lt is) (f i o lt is) j)

stands_once : (known : List Known) (records : List (List MinorField)) (places : ℕ) (a : NodeAt)
    → IsProp (stands_on known records places a)
stands_once known records places (at.Shared place) = among_once known places place
stands_once known records places (at.Minor r) =
    rests_once records (IsAmong known places) (λ place. among_once known places place) r

-- What spells a text.

cell_once : (bytes : List ℕ) (a b c d : Term) → IsProp (IsTextCell bytes a b c d)
cell_once bytes a b c d x y = λ j. record {
  some = le_prop x.some y.some j;
  count = Coded-set term_code _ _ x.count y.count j;
  first = Coded-set term_code _ _ x.first y.first j;
  second = Coded-set term_code _ _ x.second y.second j;
  third = Coded-set term_code _ _ x.third y.third j;
}

text_once : (t : Term) (bytes : List ℕ) → IsProp (SpellsText t bytes)
text_once null bytes = Coded-set (coded_list coded_ℕ) bytes []
text_once (num n) bytes = λ x y. absurd x
text_once (five a b c d e) bytes = ×_prop (cell_once bytes a b c d) (text_once e (drop 21 bytes))

is_text_once : (t : Term) → IsProp (IsText t)
is_text_once t x y = λ j. record {
  spells = text_once t (text_of t) x.spells y.spells j;
  text = Bool-set _ _ x.text y.text j;
}

is_name_once : (t : Term) → IsProp (IsName t)
is_name_once t x y = λ j. record {
  spells = text_once t (text_of t) x.spells y.spells j;
  name = Bool-set _ _ x.name y.name j;
}

-- What makes a tree lawful.

above_once : (n : List ℕ) (ks : Kids) → IsProp (IsAbove n ks)
above_once n no_kids = Unit-prop
above_once n (kid m text inside rest) =
    ×_prop (Ordering-set (name_cmp n m) Less) (above_once n rest)

rising_once : (ks : Kids) → IsProp (IsRising ks)
rising_once no_kids = Unit-prop
rising_once (kid m text inside rest) = ×_prop (above_once m rest) (rising_once rest)

orderly_once : (ks : Kids) → IsProp (IsOrderly ks)
orderly_once ks x y = λ j. record {
  rising = rising_once ks x.rising y.rising j;
  few = le_prop x.few y.few j;
}

all_orderly_once : (ks : Kids) → IsProp (AreOrderly ks)
all_orderly_once no_kids = Unit-prop
all_orderly_once (kid name text inside rest) =
    ×_prop (orderly_once inside) (×_prop (all_orderly_once inside) (all_orderly_once rest))

lawful_once : (t : DocTree) → IsProp (IsLawful t)
lawful_once t x y = λ j. record {
  nodes = record {
    here = orderly_once t.kids x.nodes.here y.nodes.here j;
    below = all_orderly_once t.kids x.nodes.below y.nodes.below j;
  };
  low = le_prop x.low y.low j;
  few = le_prop x.few y.few j;
}

-- What spells a tree.

node_record_once : (Below : Type 0) → IsProp Below → (a b c d e : Term)
    → IsProp (IsNodeRecord Below a b c d e)
node_record_once Below once a b c d e x y = λ j. record {
  text = is_text_once a x.text y.text j;
  entries = once x.entries y.entries j;
  rising = rising_once _ x.rising y.rising j;
  count = Coded-set term_code _ _ x.count y.count j;
  height = Coded-set term_code _ _ x.height y.height j;
  last = Coded-set term_code _ _ x.last y.last j;
}

entry_record_once : (Node Left Right : Type 0) → IsProp Node → IsProp Left → IsProp Right
    → (a b c d e : Term) → IsProp (IsEntryRecord Node Left Right a b c d e)
entry_record_once Node Left Right node left right a b c d e x y = λ j. record {
  name = is_name_once a x.name y.name j;
  child = node x.child y.child j;
  left = left x.left y.left j;
  right = right x.right y.right j;
  left_near = le_prop x.left_near y.left_near j;
  right_near = le_prop x.right_near y.right_near j;
  height = Coded-set term_code _ _ x.height y.height j;
}

spelling_once : (t : Term) (role : Role) → IsProp (IsSpelling t role)
spelling_once null as_node = λ x y. absurd x
spelling_once null as_entry = Unit-prop
spelling_once (num n) role = λ x y. absurd x
spelling_once (five a b c d e) as_node =
    node_record_once (IsSpelling b as_entry) (spelling_once b as_entry) a b c d e
spelling_once (five a b c d e) as_entry =
    entry_record_once (IsSpelling b as_node) (IsSpelling c as_entry) (IsSpelling d as_entry)
    (spelling_once b as_node) (spelling_once c as_entry) (spelling_once d as_entry) a b c d e

tree_node_once : (t : Term) → IsProp (IsTreeNode t)
tree_node_once t x y = λ j. record {
  node = spelling_once t as_node x.node y.node j;
  lawful = lawful_once (tree_of t) x.lawful y.lawful j;
}

pub sound_once : (m : Bound Pass) (minor : Nursery) (draft : NodeAt) (base : ℕ)
    → IsProp (IsSound m minor draft base)
sound_once m minor draft base x y = λ j. record {
  inside = Bool-set _ _ x.inside y.inside j;
  some = le_prop x.some y.some j;
  kept = le_prop x.kept y.kept j;
  stands = stands_once m.seat.me.known minor.records base draft x.stands y.stands j;
  node = tree_node_once _ x.node y.node j;
  records = le_prop x.records y.records j;
  places = le_prop x.places y.places j;
  ready = le_prop x.ready y.ready j;
}
