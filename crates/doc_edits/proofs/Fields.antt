-- Entries among records: what each field of one is, and what a call on the records leaves of them.
use Rattle.std.proofs.Common.{◌≡◌, ℕ, ◌+◌, ◌≤◌, List, max, length}
use Rattle.std.proofs.Common.{refl, ap, arith, true}
use Rattle.std.proofs.lemmas.Bool.Decides.{nat_tests}
use Rattle.cell_words.specs.Term.{Term, null, num, five, part, number, IsFive}
use Rattle.doc_tree.specs.Words.{is_name}
use Rattle.kids_avl.specs.declared.bounds.TheConstants.{MOST_LEVELS}
use Rattle.kids_avl.specs.Entries.{entry, name_of, child_of, left_of, right_of, height_of}
use Rattle.kids_avl.specs.Entries.{IsEntry, IsBalanced}
use Rattle.doc_records.specs.declared.pool.Part.{Part}
use Rattle.doc_records.specs.declared.pool.Part.TheVariants as parts
use Rattle.doc_records.specs.Pool.{Shown, Stands, part_term}
use Rattle.doc_records.specs.Shapes.{IsNum}
use Rattle.doc_records.specs.Texts.{SpellsText, IsName, text_of}
use Rattle.doc_records.specs.Trees.{AreEntries, IsNode, entries_of, tree_of}
use Rattle.doc_records.proofs.Spelled.{text_spelled, name_bytes}
use Rattle.doc_edits.specs.Entries.{IsSideAt}

-- the fields of an entry
pub five_entry : (t : Term) → IsFive t → IsEntry (entries_of t)
five_entry null this = this
five_entry (num n) this = this
five_entry (five a b c d e) this = tt

pub own_name : (t : Term) → IsFive t → name_of (entries_of t) ≡ text_of (part 0 t)
own_name null this = absurd this
own_name (num n) this = absurd this
own_name (five a b c d e) this = refl

pub own_child : (t : Term) → IsFive t → child_of (entries_of t) ≡ tree_of (part 1 t)
own_child null this = absurd this
own_child (num n) this = absurd this
own_child (five a b c d e) this = refl

pub own_left : (t : Term) → IsFive t → left_of (entries_of t) ≡ entries_of (part 2 t)
own_left null this = absurd this
own_left (num n) this = absurd this
own_left (five a b c d e) this = refl

pub own_right : (t : Term) → IsFive t → right_of (entries_of t) ≡ entries_of (part 3 t)
own_right null this = absurd this
own_right (num n) this = absurd this
own_right (five a b c d e) this = refl

pub own_num : (t : Term) → IsFive t → AreEntries t → IsNum (part 4 t)
own_num null this is = absurd this
own_num (num n) this is = absurd this
own_num (five a b c d e) this is = rw is.height tt

pub own_height : (t : Term) → IsFive t → AreEntries t
    → number (part 4 t) ≡ height_of (entries_of t)
own_height null this is = absurd this
own_height (num n) this is = absurd this
own_height (five a b c d e) this is = rw is.height refl

pub ruleset fields = (own_name, own_child, own_left, own_right, own_num, own_height)

-- a name that was written
pub name_low : (bytes : List ℕ) → is_name bytes ≡ true → length bytes ≤ 64
name_low bytes name = grind (arith, nat_tests, name)

pub name_spelled : (t : Term) (bytes : List ℕ) → SpellsText t bytes → is_name bytes ≡ true
    → text_of t ≡ bytes
name_spelled t bytes spells name = text_spelled t bytes spells (name_bytes bytes name)

pub name_made : (t : Term) (bytes : List ℕ) → SpellsText t bytes → is_name bytes ≡ true → IsName t
name_made t bytes spells name =
    let same = name_spelled t bytes spells name in
    record { spells = rw same spells; name = rw same name }

pub ruleset written = (name_low, name_spelled, name_made)

-- a new entry
pub entry_is : (t n c l r : Term) (k : ℕ) → t ≡ five n c l r (num k)
    → entries_of t ≡ entry (text_of n) (tree_of c) (entries_of l) (entries_of r)
entry_is t n c l r k made = rw made refl

pub entry_made : (t n c l r : Term) (k : ℕ) → t ≡ five n c l r (num k) → IsName n → IsNode c
    → AreEntries l → AreEntries r
    → IsBalanced (entry (text_of n) (tree_of c) (entries_of l) (entries_of r))
    → k ≡ max (height_of (entries_of l)) (height_of (entries_of r)) + 1 → AreEntries t
entry_made t n c l r k made name child left right even high =
    rw made (record {
      name = name;
      child = child;
      left = left;
      right = right;
      left_near = even.0;
      right_near = even.1;
      height = ap num high;
    })

pub entry_there : (t n c l r : Term) (k : ℕ) → t ≡ five n c l r (num k)
    → IsEntry (entries_of t)
entry_there t n c l r k made = rw made tt

pub entry_five : (t a b c d e : Term) → t ≡ five a b c d e → IsFive t
entry_five t a b c d e made = rw made tt

pub ruleset new_entry = (entry_is, entry_made, entry_there, entry_five)

-- the entries on one side
pub side_stands : {At F : Type 0} (s : Shown At F) (made : ℕ) (p : Part At) → IsSideAt s made p
    → Stands s p
side_stands s made parts.Null side = tt
side_stands s made (parts.Num n) side = absurd side
side_stands s made (parts.Record a) side = (side.stands, side.five)

pub side_entries : {At F : Type 0} (s : Shown At F) (made : ℕ) (p : Part At) → IsSideAt s made p
    → AreEntries (part_term s.term p)
side_entries s made parts.Null side = tt
side_entries s made (parts.Num n) side = absurd side
side_entries s made (parts.Record a) side = side.entries

pub side_low : {At F : Type 0} (s : Shown At F) (made : ℕ) (p : Part At) → IsSideAt s made p
    → height_of (entries_of (part_term s.term p)) ≤ MOST_LEVELS + made
side_low s made parts.Null side = omega arith
side_low s made (parts.Num n) side = absurd side
side_low s made (parts.Record a) side = side.low

pub ruleset sides = (side_stands, side_entries, side_low)
