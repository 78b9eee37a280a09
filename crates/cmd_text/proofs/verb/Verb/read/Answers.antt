-- A word is known by its length and each of its bytes, and is no other word by one of them.
use Rattle.std.proofs.Common.{◌≡◌, ℕ, Bool, true, false, List, length, None, ap, get_or, codes}
use Rattle.std.proofs.Common.{refl, arith}
use Rattle.std.specs.Prelude.{bytes_eq}
use Rattle.std.proofs.lemmas.Slice.Eq.{bytes_eq-Decides, text_from_reads}
use Rattle.cmd_text.specs.Verb.{verb_of}
use Rattle.cmd_text.proofs.verb.Verb.read.Goals as goal

byte : (i : ℕ) {s p : List ℕ} → s ≡ p → get_or s i 0 ≡ get_or p i 0
byte i is = ap (λ s. get_or s i 0) is

differs_as : (b : Bool) (s p : List ℕ) → bytes_eq s p ≡ b → (s ≡ p → ⊥) → b ≡ false
differs_as true s p is other = absurd (other ((bytes_eq-Decides s p).0 is))
differs_as false s p is other = refl

differs : (s p : List ℕ) → (s ≡ p → ⊥) → bytes_eq s p ≡ false
differs s p other = differs_as (bytes_eq s p) s p refl other

-- none of the words
none : (word : List ℕ)
    → (word ≡ codes "put" → ⊥)
    → (word ≡ codes "del" → ⊥)
    → (word ≡ codes "copy" → ⊥)
    → (word ≡ codes "get" → ⊥)
    → (word ≡ codes "list" → ⊥)
    → (word ≡ codes "size" → ⊥)
    → (word ≡ codes "old" → ⊥)
    → (word ≡ codes "dput" → ⊥)
    → (word ≡ codes "dget" → ⊥)
    → (word ≡ codes "take" → ⊥)
    → (word ≡ codes "publish" → ⊥)
    → None ≡ verb_of word
none word no_put no_del no_copy no_get no_list no_size
    no_old no_dput no_dget no_take no_publish =
    rw (
      differs word (codes "put") no_put,
      differs word (codes "del") no_del,
      differs word (codes "copy") no_copy,
      differs word (codes "get") no_get,
      differs word (codes "list") no_list,
      differs word (codes "size") no_size,
      differs word (codes "old") no_old,
      differs word (codes "dput") no_dput,
      differs word (codes "dget") no_dget,
      differs word (codes "take") no_take,
      differs word (codes "publish") no_publish,
    ) refl

-- these are not its bytes
abbrev Not3 : List ℕ → ℕ → ℕ → ℕ → Type 0
Not3 word a b c =
    get_or word 0 0 ≡ a → get_or word 1 0 ≡ b → get_or word 2 0 ≡ c → ⊥

abbrev Not4 : List ℕ → ℕ → ℕ → ℕ → ℕ → Type 0
Not4 word a b c d =
    get_or word 0 0 ≡ a → get_or word 1 0 ≡ b → get_or word 2 0 ≡ c → get_or word 3 0 ≡ d → ⊥

abbrev Not7 : List ℕ → ℕ → ℕ → ℕ → ℕ → ℕ → ℕ → ℕ → Type 0
Not7 word a b c d e f g =
    get_or word 0 0 ≡ a → get_or word 1 0 ≡ b → get_or word 2 0 ≡ c → get_or word 3 0 ≡ d
    → get_or word 4 0 ≡ e → get_or word 5 0 ≡ f → get_or word 6 0 ≡ g → ⊥

-- none of those of its length
none_3 : (word : List ℕ) → length word ≡ 3
    → Not3 word 112 117 116
    → Not3 word 100 101 108
    → Not3 word 103 101 116
    → Not3 word 111 108 100
    → None ≡ verb_of word
none_3 word long no_put no_del no_get no_old =
    none word
    (λ is. no_put (byte 0 is) (byte 1 is) (byte 2 is))
    (λ is. no_del (byte 0 is) (byte 1 is) (byte 2 is))
    (λ is. let many = ap length is in absurd (omega (arith, long, many)))
    (λ is. no_get (byte 0 is) (byte 1 is) (byte 2 is))
    (λ is. let many = ap length is in absurd (omega (arith, long, many)))
    (λ is. let many = ap length is in absurd (omega (arith, long, many)))
    (λ is. no_old (byte 0 is) (byte 1 is) (byte 2 is))
    (λ is. let many = ap length is in absurd (omega (arith, long, many)))
    (λ is. let many = ap length is in absurd (omega (arith, long, many)))
    (λ is. let many = ap length is in absurd (omega (arith, long, many)))
    (λ is. let many = ap length is in absurd (omega (arith, long, many)))

none_4 : (word : List ℕ) → length word ≡ 4
    → Not4 word 99 111 112 121
    → Not4 word 108 105 115 116
    → Not4 word 115 105 122 101
    → Not4 word 100 112 117 116
    → Not4 word 100 103 101 116
    → Not4 word 116 97 107 101
    → None ≡ verb_of word
none_4 word long no_copy no_list no_size no_dput no_dget no_take =
    none word
    (λ is. let many = ap length is in absurd (omega (arith, long, many)))
    (λ is. let many = ap length is in absurd (omega (arith, long, many)))
    (λ is. no_copy (byte 0 is) (byte 1 is) (byte 2 is) (byte 3 is))
    (λ is. let many = ap length is in absurd (omega (arith, long, many)))
    (λ is. no_list (byte 0 is) (byte 1 is) (byte 2 is) (byte 3 is))
    (λ is. no_size (byte 0 is) (byte 1 is) (byte 2 is) (byte 3 is))
    (λ is. let many = ap length is in absurd (omega (arith, long, many)))
    (λ is. no_dput (byte 0 is) (byte 1 is) (byte 2 is) (byte 3 is))
    (λ is. no_dget (byte 0 is) (byte 1 is) (byte 2 is) (byte 3 is))
    (λ is. no_take (byte 0 is) (byte 1 is) (byte 2 is) (byte 3 is))
    (λ is. let many = ap length is in absurd (omega (arith, long, many)))

none_7 : (word : List ℕ) → length word ≡ 7
    → Not7 word 112 117 98 108 105 115 104
    → None ≡ verb_of word
none_7 word long no_publish =
    none word
    (λ is. let many = ap length is in absurd (omega (arith, long, many)))
    (λ is. let many = ap length is in absurd (omega (arith, long, many)))
    (λ is. let many = ap length is in absurd (omega (arith, long, many)))
    (λ is. let many = ap length is in absurd (omega (arith, long, many)))
    (λ is. let many = ap length is in absurd (omega (arith, long, many)))
    (λ is. let many = ap length is in absurd (omega (arith, long, many)))
    (λ is. let many = ap length is in absurd (omega (arith, long, many)))
    (λ is. let many = ap length is in absurd (omega (arith, long, many)))
    (λ is. let many = ap length is in absurd (omega (arith, long, many)))
    (λ is. let many = ap length is in absurd (omega (arith, long, many)))
    (λ is. no_publish (byte 0 is) (byte 1 is) (byte 2 is) (byte 3 is)
    (byte 4 is) (byte 5 is) (byte 6 is))

-- and of no length of theirs
none_long : (word : List ℕ) → (length word ≡ 3 → ⊥) → (length word ≡ 4 → ⊥)
    → (length word ≡ 7 → ⊥) → None ≡ verb_of word
none_long word three four seven =
    none word
    (λ is. three (ap length is))
    (λ is. three (ap length is))
    (λ is. four (ap length is))
    (λ is. three (ap length is))
    (λ is. four (ap length is))
    (λ is. four (ap length is))
    (λ is. three (ap length is))
    (λ is. four (ap length is))
    (λ is. four (ap length is))
    (λ is. four (ap length is))
    (λ is. seven (ap length is))

pub returns-in-put : goal.returns-in-put
returns-in-put c =
    let is : c.args.word.now ≡ codes "put" =
    text_from_reads c.args.word.now (codes "put") (omega arith)
    (omega arith, (omega arith, (omega arith, tt))) in
    rw is

pub returns-in-del : goal.returns-in-del
returns-in-del c =
    let is : c.args.word.now ≡ codes "del" =
    text_from_reads c.args.word.now (codes "del") (omega arith)
    (omega arith, (omega arith, (omega arith, tt))) in
    rw is

pub returns-in-copy : goal.returns-in-copy
returns-in-copy c =
    let is : c.args.word.now ≡ codes "copy" =
    text_from_reads c.args.word.now (codes "copy") (omega arith)
    (omega arith, (omega arith, (omega arith, (omega arith, tt)))) in
    rw is

pub returns-in-get : goal.returns-in-get
returns-in-get c =
    let is : c.args.word.now ≡ codes "get" =
    text_from_reads c.args.word.now (codes "get") (omega arith)
    (omega arith, (omega arith, (omega arith, tt))) in
    rw is

pub returns-in-list : goal.returns-in-list
returns-in-list c =
    let is : c.args.word.now ≡ codes "list" =
    text_from_reads c.args.word.now (codes "list") (omega arith)
    (omega arith, (omega arith, (omega arith, (omega arith, tt)))) in
    rw is

pub returns-in-size : goal.returns-in-size
returns-in-size c =
    let is : c.args.word.now ≡ codes "size" =
    text_from_reads c.args.word.now (codes "size") (omega arith)
    (omega arith, (omega arith, (omega arith, (omega arith, tt)))) in
    rw is

pub returns-in-old : goal.returns-in-old
returns-in-old c =
    let is : c.args.word.now ≡ codes "old" =
    text_from_reads c.args.word.now (codes "old") (omega arith)
    (omega arith, (omega arith, (omega arith, tt))) in
    rw is

pub returns-in-dput : goal.returns-in-dput
returns-in-dput c =
    let is : c.args.word.now ≡ codes "dput" =
    text_from_reads c.args.word.now (codes "dput") (omega arith)
    (omega arith, (omega arith, (omega arith, (omega arith, tt)))) in
    rw is

pub returns-in-dget : goal.returns-in-dget
returns-in-dget c =
    let is : c.args.word.now ≡ codes "dget" =
    text_from_reads c.args.word.now (codes "dget") (omega arith)
    (omega arith, (omega arith, (omega arith, (omega arith, tt)))) in
    rw is

pub returns-in-take : goal.returns-in-take
returns-in-take c =
    let is : c.args.word.now ≡ codes "take" =
    text_from_reads c.args.word.now (codes "take") (omega arith)
    (omega arith, (omega arith, (omega arith, (omega arith, tt)))) in
    rw is

pub returns-in-publish : goal.returns-in-publish
returns-in-publish c =
    let is : c.args.word.now ≡ codes "publish" =
    text_from_reads c.args.word.now (codes "publish") (omega arith) (
      omega arith,
      (
        omega arith,
        (
          omega arith,
          (
            omega arith,
            (omega arith, (omega arith, (omega arith, tt))),
          ),
        ),
      ),
    ) in
    rw is

pub returns-in_default : goal.returns-in_default
returns-in_default c =
    none_long c.args.word.now (λ a. omega arith) (λ a. omega arith) (λ a. omega arith)

pub returns-in_default-2 : goal.returns-in_default-2
returns-in_default-2 c =
    none_3 c.args.word.now (omega arith) (λ r0 r1 r2. omega arith) (λ r0 r1 r2. omega arith)
    (λ r0 r1 r2. omega arith) (λ r0 r1 r2. omega arith)

pub returns-in_default-3 : goal.returns-in_default-3
returns-in_default-3 c =
    none_3 c.args.word.now (omega arith) (λ r0 r1 r2. omega arith) (λ r0 r1 r2. omega arith)
    (λ r0 r1 r2. omega arith) (λ r0 r1 r2. omega arith)

pub returns-in_default-4 : goal.returns-in_default-4
returns-in_default-4 c =
    none_3 c.args.word.now (omega arith) (λ r0 r1 r2. omega arith) (λ r0 r1 r2. omega arith)
    (λ r0 r1 r2. omega arith) (λ r0 r1 r2. omega arith)

pub returns-in_default-5 : goal.returns-in_default-5
returns-in_default-5 c =
    none_3 c.args.word.now (omega arith) (λ r0 r1 r2. omega arith) (λ r0 r1 r2. omega arith)
    (λ r0 r1 r2. omega arith) (λ r0 r1 r2. omega arith)

pub returns-in_default-6 : goal.returns-in_default-6
returns-in_default-6 c =
    none_3 c.args.word.now (omega arith) (λ r0 r1 r2. omega arith) (λ r0 r1 r2. omega arith)
    (λ r0 r1 r2. omega arith) (λ r0 r1 r2. omega arith)

pub returns-in_default-7 : goal.returns-in_default-7
returns-in_default-7 c =
    none_3 c.args.word.now (omega arith) (λ r0 r1 r2. omega arith) (λ r0 r1 r2. omega arith)
    (λ r0 r1 r2. omega arith) (λ r0 r1 r2. omega arith)

pub returns-in_default-8 : goal.returns-in_default-8
returns-in_default-8 c =
    none_3 c.args.word.now (omega arith) (λ r0 r1 r2. omega arith) (λ r0 r1 r2. omega arith)
    (λ r0 r1 r2. omega arith) (λ r0 r1 r2. omega arith)

pub returns-in_default-9 : goal.returns-in_default-9
returns-in_default-9 c =
    none_3 c.args.word.now (omega arith) (λ r0 r1 r2. omega arith) (λ r0 r1 r2. omega arith)
    (λ r0 r1 r2. omega arith) (λ r0 r1 r2. omega arith)

pub returns-in_default-10 : goal.returns-in_default-10
returns-in_default-10 c =
    none_3 c.args.word.now (omega arith) (λ r0 r1 r2. omega arith) (λ r0 r1 r2. omega arith)
    (λ r0 r1 r2. omega arith) (λ r0 r1 r2. omega arith)

pub returns-in_default-11 : goal.returns-in_default-11
returns-in_default-11 c =
    none_4 c.args.word.now (omega arith) (λ r0 r1 r2 r3. omega arith) (λ r0 r1 r2 r3. omega arith)
    (λ r0 r1 r2 r3. omega arith) (λ r0 r1 r2 r3. omega arith)
    (λ r0 r1 r2 r3. omega arith) (λ r0 r1 r2 r3. omega arith)

pub returns-in_default-12 : goal.returns-in_default-12
returns-in_default-12 c =
    none_4 c.args.word.now (omega arith) (λ r0 r1 r2 r3. omega arith) (λ r0 r1 r2 r3. omega arith)
    (λ r0 r1 r2 r3. omega arith) (λ r0 r1 r2 r3. omega arith)
    (λ r0 r1 r2 r3. omega arith) (λ r0 r1 r2 r3. omega arith)

pub returns-in_default-13 : goal.returns-in_default-13
returns-in_default-13 c =
    none_4 c.args.word.now (omega arith) (λ r0 r1 r2 r3. omega arith) (λ r0 r1 r2 r3. omega arith)
    (λ r0 r1 r2 r3. omega arith) (λ r0 r1 r2 r3. omega arith)
    (λ r0 r1 r2 r3. omega arith) (λ r0 r1 r2 r3. omega arith)

pub returns-in_default-14 : goal.returns-in_default-14
returns-in_default-14 c =
    none_4 c.args.word.now (omega arith) (λ r0 r1 r2 r3. omega arith) (λ r0 r1 r2 r3. omega arith)
    (λ r0 r1 r2 r3. omega arith) (λ r0 r1 r2 r3. omega arith)
    (λ r0 r1 r2 r3. omega arith) (λ r0 r1 r2 r3. omega arith)

pub returns-in_default-15 : goal.returns-in_default-15
returns-in_default-15 c =
    none_4 c.args.word.now (omega arith) (λ r0 r1 r2 r3. omega arith) (λ r0 r1 r2 r3. omega arith)
    (λ r0 r1 r2 r3. omega arith) (λ r0 r1 r2 r3. omega arith)
    (λ r0 r1 r2 r3. omega arith) (λ r0 r1 r2 r3. omega arith)

pub returns-in_default-16 : goal.returns-in_default-16
returns-in_default-16 c =
    none_4 c.args.word.now (omega arith) (λ r0 r1 r2 r3. omega arith) (λ r0 r1 r2 r3. omega arith)
    (λ r0 r1 r2 r3. omega arith) (λ r0 r1 r2 r3. omega arith)
    (λ r0 r1 r2 r3. omega arith) (λ r0 r1 r2 r3. omega arith)

pub returns-in_default-17 : goal.returns-in_default-17
returns-in_default-17 c =
    none_4 c.args.word.now (omega arith) (λ r0 r1 r2 r3. omega arith) (λ r0 r1 r2 r3. omega arith)
    (λ r0 r1 r2 r3. omega arith) (λ r0 r1 r2 r3. omega arith)
    (λ r0 r1 r2 r3. omega arith) (λ r0 r1 r2 r3. omega arith)

pub returns-in_default-18 : goal.returns-in_default-18
returns-in_default-18 c =
    none_4 c.args.word.now (omega arith) (λ r0 r1 r2 r3. omega arith) (λ r0 r1 r2 r3. omega arith)
    (λ r0 r1 r2 r3. omega arith) (λ r0 r1 r2 r3. omega arith)
    (λ r0 r1 r2 r3. omega arith) (λ r0 r1 r2 r3. omega arith)

pub returns-in_default-19 : goal.returns-in_default-19
returns-in_default-19 c =
    none_4 c.args.word.now (omega arith) (λ r0 r1 r2 r3. omega arith) (λ r0 r1 r2 r3. omega arith)
    (λ r0 r1 r2 r3. omega arith) (λ r0 r1 r2 r3. omega arith)
    (λ r0 r1 r2 r3. omega arith) (λ r0 r1 r2 r3. omega arith)

pub returns-in_default-20 : goal.returns-in_default-20
returns-in_default-20 c =
    none_4 c.args.word.now (omega arith) (λ r0 r1 r2 r3. omega arith) (λ r0 r1 r2 r3. omega arith)
    (λ r0 r1 r2 r3. omega arith) (λ r0 r1 r2 r3. omega arith)
    (λ r0 r1 r2 r3. omega arith) (λ r0 r1 r2 r3. omega arith)

pub returns-in_default-21 : goal.returns-in_default-21
returns-in_default-21 c =
    none_4 c.args.word.now (omega arith) (λ r0 r1 r2 r3. omega arith) (λ r0 r1 r2 r3. omega arith)
    (λ r0 r1 r2 r3. omega arith) (λ r0 r1 r2 r3. omega arith)
    (λ r0 r1 r2 r3. omega arith) (λ r0 r1 r2 r3. omega arith)

pub returns-in_default-22 : goal.returns-in_default-22
returns-in_default-22 c =
    none_4 c.args.word.now (omega arith) (λ r0 r1 r2 r3. omega arith) (λ r0 r1 r2 r3. omega arith)
    (λ r0 r1 r2 r3. omega arith) (λ r0 r1 r2 r3. omega arith)
    (λ r0 r1 r2 r3. omega arith) (λ r0 r1 r2 r3. omega arith)

pub returns-in_default-23 : goal.returns-in_default-23
returns-in_default-23 c =
    none_4 c.args.word.now (omega arith) (λ r0 r1 r2 r3. omega arith) (λ r0 r1 r2 r3. omega arith)
    (λ r0 r1 r2 r3. omega arith) (λ r0 r1 r2 r3. omega arith)
    (λ r0 r1 r2 r3. omega arith) (λ r0 r1 r2 r3. omega arith)

pub returns-in_default-24 : goal.returns-in_default-24
returns-in_default-24 c =
    none_4 c.args.word.now (omega arith) (λ r0 r1 r2 r3. omega arith) (λ r0 r1 r2 r3. omega arith)
    (λ r0 r1 r2 r3. omega arith) (λ r0 r1 r2 r3. omega arith)
    (λ r0 r1 r2 r3. omega arith) (λ r0 r1 r2 r3. omega arith)

pub returns-in_default-25 : goal.returns-in_default-25
returns-in_default-25 c =
    none_4 c.args.word.now (omega arith) (λ r0 r1 r2 r3. omega arith) (λ r0 r1 r2 r3. omega arith)
    (λ r0 r1 r2 r3. omega arith) (λ r0 r1 r2 r3. omega arith)
    (λ r0 r1 r2 r3. omega arith) (λ r0 r1 r2 r3. omega arith)

pub returns-in_default-26 : goal.returns-in_default-26
returns-in_default-26 c =
    none_4 c.args.word.now (omega arith) (λ r0 r1 r2 r3. omega arith) (λ r0 r1 r2 r3. omega arith)
    (λ r0 r1 r2 r3. omega arith) (λ r0 r1 r2 r3. omega arith)
    (λ r0 r1 r2 r3. omega arith) (λ r0 r1 r2 r3. omega arith)

pub returns-in_default-27 : goal.returns-in_default-27
returns-in_default-27 c =
    none_4 c.args.word.now (omega arith) (λ r0 r1 r2 r3. omega arith) (λ r0 r1 r2 r3. omega arith)
    (λ r0 r1 r2 r3. omega arith) (λ r0 r1 r2 r3. omega arith)
    (λ r0 r1 r2 r3. omega arith) (λ r0 r1 r2 r3. omega arith)

pub returns-in_default-28 : goal.returns-in_default-28
returns-in_default-28 c =
    none_4 c.args.word.now (omega arith) (λ r0 r1 r2 r3. omega arith) (λ r0 r1 r2 r3. omega arith)
    (λ r0 r1 r2 r3. omega arith) (λ r0 r1 r2 r3. omega arith)
    (λ r0 r1 r2 r3. omega arith) (λ r0 r1 r2 r3. omega arith)

pub returns-in_default-29 : goal.returns-in_default-29
returns-in_default-29 c =
    none_long c.args.word.now (λ a. omega arith) (λ a. omega arith) (λ a. omega arith)

pub returns-in_default-30 : goal.returns-in_default-30
returns-in_default-30 c =
    none_7 c.args.word.now (omega arith) (λ r0 r1 r2 r3 r4 r5 r6. omega arith)

pub returns-in_default-31 : goal.returns-in_default-31
returns-in_default-31 c =
    none_7 c.args.word.now (omega arith) (λ r0 r1 r2 r3 r4 r5 r6. omega arith)

pub returns-in_default-32 : goal.returns-in_default-32
returns-in_default-32 c =
    none_7 c.args.word.now (omega arith) (λ r0 r1 r2 r3 r4 r5 r6. omega arith)

pub returns-in_default-33 : goal.returns-in_default-33
returns-in_default-33 c =
    none_7 c.args.word.now (omega arith) (λ r0 r1 r2 r3 r4 r5 r6. omega arith)

pub returns-in_default-34 : goal.returns-in_default-34
returns-in_default-34 c =
    none_7 c.args.word.now (omega arith) (λ r0 r1 r2 r3 r4 r5 r6. omega arith)

pub returns-in_default-35 : goal.returns-in_default-35
returns-in_default-35 c =
    none_7 c.args.word.now (omega arith) (λ r0 r1 r2 r3 r4 r5 r6. omega arith)

pub returns-in_default-36 : goal.returns-in_default-36
returns-in_default-36 c =
    none_7 c.args.word.now (omega arith) (λ r0 r1 r2 r3 r4 r5 r6. omega arith)

pub returns-in_default-37 : goal.returns-in_default-37
returns-in_default-37 c =
    none_long c.args.word.now (λ a. omega arith) (λ a. omega arith) (λ a. omega arith)
