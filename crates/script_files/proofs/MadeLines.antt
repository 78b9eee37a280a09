-- The texts of the generator are scripts, of as many commands as they were asked for.
--
-- Each line is words with a space between them, so its first word is a command's and the next ones
-- are paths; no byte ends the line early. Then the lines fall out of the text one by one.
use Rattle.std.proofs.Common.{◌≡◌, ℕ, zero, suc, ◌+◌, ◌-◌, ◌*◌}
use Rattle.std.proofs.Common.{◌%◌, ◌^◌, ◌<◌, ◌≤◌, List, []}
use Rattle.std.proofs.Common.{◌∷◌, ◌++◌, Bool, true, false, length, take, drop, get_or}
use Rattle.std.proofs.Common.{Some, None, Ok, Err, refl, sym, ap, ap₂, subst, ◌∙◌}
use Rattle.std.proofs.Common.{arith}
use Rattle.std.proofs.Common.{append_assoc}
use Rattle.std.specs.Prelude.{All, ◌==◌, ◌&&◌, codes, decimal, nat_le}
use Rattle.std.specs.Prelude.{if◌then◌else◌}
use Rattle.std.specs.Prelude.{not, ok_or}
use Rattle.std.specs.List.{list_all, position_or_len}
use Rattle.std.specs.Str.Lines.{strip_carriage_return}
use Rattle.std.proofs.Math.Seq.{drop-append_seam, drop-length, get_or-append_seam}
use Rattle.std.proofs.Math.Seq.{take-append_seam, take-length}
use Rattle.std.proofs.Math.ListN.{get_or-append}
use Rattle.std.proofs.lemmas.Bool.{and_from, and_parts, le-leb, le-ltb, leb-true}
use Rattle.std.proofs.lemmas.Fmt.{decimal_by_steps, length-decimal-le}
use Rattle.std.proofs.lemmas.List.{length-append}
use Rattle.std.proofs.lemmas.List.Elements.{All-append, All-cons, All-get_or, All-nil}
use Rattle.std.proofs.lemmas.List.Elements.{All-weaker}
use Rattle.std.proofs.lemmas.List.Splits.{slice_split_at, slice_split_none}
use Rattle.std.proofs.lemmas.List.Sums.{AllPass-from_list_all, list_all-from_AllPass}
use Rattle.std.proofs.lemmas.List.Sums.{position_or_len_is}
use Rattle.doc_tree.specs.Words.{is_name, is_name_byte, is_path, path_of, path_with, pieces}
use Rattle.line_texts.specs.Cut.{is_space, word_of, rest_of}
use Rattle.line_texts.specs.Line.{counts, is_plain_byte}
use Rattle.doc_model.specs.declared.command.Command.{Command}
use Rattle.doc_model.specs.declared.command.Command.TheVariants as commands
use Rattle.cmd_text.specs.Line.{and_then, arguments_in, bare_reading_of, command_of}
use Rattle.cmd_text.specs.Line.{last_path_in, path_and_text_in, reading_of, two_paths_in}
use Rattle.cmd_text.specs.Verb.{verb_of}
use Rattle.cmd_text.specs.declared.fault.ScriptKind.TheVariants.{NoCommand}
use Rattle.cmd_text.specs.Script.{commands_from, with_line}
use Rattle.cmd_text.specs.Whole.{script_of}
use Rattle.cmd_text.specs.declared.form.Form.TheVariants.{Plain}
use Rattle.cmd_text.proofs.Versions.{first_is_whole}
use Rattle.line_texts.specs.Lines.{lines_of}
use Rattle.run_limits.specs.declared.TheConstants.{MOST_COMMANDS}
use Rattle.script_files.specs.Draws.{drawn_at, opening_of, state_after}
use Rattle.script_files.specs.Generated.{copy_text_of, generated_of}
use Rattle.script_files.specs.Generated.{line_text_of, lines_from, path_text_of}
use Rattle.script_files.proofs.LineCases.{line_cases}
use Rattle.script_files.specs.Made.{texts_from}
use Rattle.script_files.specs.InTurn.{in_front, with_first}
use Rattle.script_files.specs.Scripts.{after_reading, script_in, scripts_from}
use Rattle.script_files.specs.declared.fault.Fault.TheVariants.{TooLarge}

-- A byte of a word: a digit or a letter.
pub record IsWordByte (byte : ℕ) : Type 0 where
  pub low : 48 ≤ byte
  pub high : byte ≤ 122
  pub name : is_name_byte byte ≡ true

-- a word has such bytes alone
abbrev pub IsWord : List ℕ → Type 0
IsWord word = All IsWordByte word

digit_byte : (n : ℕ) → n < 10 → IsWordByte (48 + n)
digit_byte n few = record {
  low = omega arith;
  high = omega arith;
  name = rw (le-leb 48 (48 + n) (omega arith), le-leb (48 + n) 57 (omega arith)) refl;
}

single : (byte : ℕ) → IsWordByte byte → IsWord (byte ∷ [])
single byte is = All-cons IsWordByte byte [] is (All-nil IsWordByte)

-- a number is a word
decimal_word : (n : ℕ) → n < 2 ^ 64 → IsWord (decimal n)
decimal_word n small =
    decimal_by_steps (λ m ds. IsWord ds) (λ m few. single (48 + m) (digit_byte m few))
    (λ m ds many word. All-append IsWordByte ds ((48 + m % 10) ∷ []) word
    (single (48 + m % 10) (digit_byte (m % 10) (omega arith)))) n small

letter : (byte : ℕ) → 48 ≤ byte → byte ≤ 122 → is_name_byte byte ≡ true
    → IsWordByte byte
letter byte low high name = record { low = low; high = high; name = name }

other_byte : (other byte : ℕ) → other < 48 → IsWordByte byte → (byte == other) ≡ false
other_byte other byte low is = let above : 48 ≤ byte = is.low in grind (arith, above)

-- no byte of a word is this one below the digits
apart : (other : ℕ) (word : List ℕ) → other < 48 → IsWord word
    → All (λ byte. (byte == other) ≡ false) word
apart other word low is =
    All-weaker IsWordByte (λ byte. (byte == other) ≡ false)
    (λ byte b. other_byte other byte low b) word is

-- a part of a line in which no space stands
abbrev pub IsSpaceless : List ℕ → Type 0
IsSpaceless part = All (λ byte. is_space byte ≡ false) part

spaceless_word : (word : List ℕ) → IsWord word → IsSpaceless word
spaceless_word word is = apart 32 word (omega arith) is

spaceless_path : (first second : List ℕ) → IsWord first → IsWord second
    → IsSpaceless (first ++ 47 ∷ second)
spaceless_path first second one two =
    All-append (λ byte. is_space byte ≡ false) first (47 ∷ second) (spaceless_word first one)
    (All-cons (λ byte. is_space byte ≡ false) 47 second refl (spaceless_word second two))

not_so : (b : Bool) → not b ≡ true → b ≡ false
not_so true is = absurd (cc)
not_so false is = refl

-- a word that is written out
written : (word : List ℕ) → list_all (λ byte. not (is_space byte)) word ≡ true
    → IsSpaceless word
written word none =
    All-weaker (λ byte. not (is_space byte) ≡ true) (λ byte. is_space byte ≡ false)
    (λ byte is. not_so (is_space byte) is) word
    (AllPass-from_list_all (λ byte. not (is_space byte)) word none)

-- a word before a space
ends_there : (part rest : List ℕ) → IsSpaceless part
    → position_or_len is_space (part ++ 32 ∷ rest) ≡ length part
ends_there part rest is =
    position_or_len_is is_space (part ++ 32 ∷ rest) (length part) 0
    (omega (arith, length-append part (32 ∷ rest)))
    (λ k below. ap is_space (get_or-append part (32 ∷ rest) 0 k below)
    ∙ All-get_or (λ byte. is_space byte ≡ false) part k 0 below is)
    (λ more. ap is_space (get_or-append_seam part 32 rest 0))

word_before : (part rest : List ℕ) → IsSpaceless part → word_of (part ++ 32 ∷ rest) ≡ part
word_before part rest is =
    ap (λ n. take n (part ++ 32 ∷ rest)) (ends_there part rest is)
    ∙ take-append_seam part (32 ∷ rest)

rest_before : (part rest : List ℕ) → IsSpaceless part
    → rest_of (part ++ 32 ∷ rest) ≡ 32 ∷ rest
rest_before part rest is =
    ap (λ n. drop n (part ++ 32 ∷ rest)) (ends_there part rest is)
    ∙ drop-append_seam part (32 ∷ rest)

-- the last word
ends_last : (part : List ℕ) → IsSpaceless part → position_or_len is_space part ≡ length part
ends_last part is =
    position_or_len_is is_space part (length part) 0 (omega arith)
    (λ k below. All-get_or (λ byte. is_space byte ≡ false) part k 0 below is)
    (λ more. absurd (omega (arith, more)))

word_last : (part : List ℕ) → IsSpaceless part → word_of part ≡ part
word_last part is = ap (λ n. take n part) (ends_last part is) ∙ take-length part

rest_last : (part : List ℕ) → IsSpaceless part → rest_of part ≡ []
rest_last part is = ap (λ n. drop n part) (ends_last part is) ∙ drop-length part

-- Names and paths.

pub record IsNameWord (word : List ℕ) : Type 0 where
  pub letters : IsWord word
  pub some : 1 ≤ length word
  pub few : length word ≤ 64

name_yes : (word : List ℕ) → IsNameWord word → is_name word ≡ true
name_yes word is =
    and_from _ _ (and_from _ _ (le-leb 1 (length word) is.some) (le-leb (length word) 64 is.few))
    (list_all-from_AllPass is_name_byte word
    (All-weaker IsWordByte (λ byte. is_name_byte byte ≡ true)
    (λ byte b. b.name) word is.letters))

path_yes : (names : List (List ℕ)) → is_path names ≡ true → path_with names ≡ Some names
path_yes names are = ap (λ b. if b then Some names else None) are

path_one : (word : List ℕ) → IsNameWord word → path_of word ≡ Some (word ∷ [])
path_one word is =
    let whole : pieces word ≡ word ∷ [] =
    slice_split_none (λ b. b == 47) word (apart 47 word (omega arith) is.letters) in
    let names = list_all-from_AllPass is_name (word ∷ [])
    (All-cons (λ name. is_name name ≡ true) word [] (name_yes word is)
    (All-nil (λ name. is_name name ≡ true))) in
    ap path_with whole ∙ path_yes (word ∷ []) (and_from _ _ refl names)

path_two : (first second : List ℕ) → IsNameWord first → IsNameWord second
    → path_of (first ++ 47 ∷ second) ≡ Some (first ∷ second ∷ [])
path_two first second one two =
    let front = slice_split_at (λ b. b == 47) first 47 second
    (apart 47 first (omega arith) one.letters) refl in
    let back = slice_split_none (λ b. b == 47) second
    (apart 47 second (omega arith) two.letters) in
    let whole : pieces (first ++ 47 ∷ second) ≡ first ∷ second ∷ [] =
    front ∙ ap (λ others. first ∷ others) back in
    let names = list_all-from_AllPass is_name (first ∷ second ∷ [])
    (All-cons (λ name. is_name name ≡ true) first (second ∷ []) (name_yes first one)
    (All-cons (λ name. is_name name ≡ true) second [] (name_yes second two)
    (All-nil (λ name. is_name name ≡ true)))) in
    ap path_with whole ∙ path_yes (first ∷ second ∷ []) (and_from _ _ refl names)

-- What comes after a command's word.

path_and_text : (path text : List ℕ) (names : List (List ℕ)) → IsSpaceless path
    → path_of path ≡ Some names → length text ≤ 4096
    → path_and_text_in Plain (32 ∷ (path ++ 32 ∷ text)) ≡ Ok (names, text)
path_and_text path text names is read few =
    let word = word_before path text is in
    let rest = rest_before path text is in
    let short = le-leb (length text) 4096 few in
    rw (word, rest, read, short) refl

last_path : (path : List ℕ) (names : List (List ℕ)) → IsSpaceless path
    → path_of path ≡ Some names → last_path_in (32 ∷ path) ≡ Ok names
last_path path names is read =
    let word = word_last path is in
    let rest = rest_last path is in
    rw (word, rest, read) refl

two_paths : (path other : List ℕ) (names others : List (List ℕ)) → IsSpaceless path
    → IsSpaceless other → path_of path ≡ Some names → path_of other ≡ Some others
    → two_paths_in (32 ∷ (path ++ 32 ∷ other)) ≡ Ok (names, others)
two_paths path other names others is is_other read read_other =
    let word = word_before path other is in
    let rest = rest_before path other is in
    let last = last_path other others is_other read_other in
    rw (word, rest, read, last) refl

-- the command's word, and what comes after it
command_words : (word rest : List ℕ) → IsSpaceless word
    → command_of (word ++ 32 ∷ rest)
    ≡ and_then (ok_or (verb_of word) NoCommand) (λ verb. arguments_in Plain verb (32 ∷ rest))
command_words word rest is =
    ap₂ (λ w r. and_then (ok_or (verb_of w) NoCommand) (λ verb. arguments_in Plain verb r))
    (word_before word rest is) (rest_before word rest is)

-- Whole lines.

pub record IsLineByte (byte : ℕ) : Type 0 where
  pub low : 32 ≤ byte
  pub high : byte ≤ 126

abbrev pub IsLine : List ℕ → Type 0
IsLine line = All IsLineByte line

low_of : (byte : ℕ) → IsWordByte byte → 32 ≤ byte
low_of byte is = omega (arith, is.low)

high_of : (byte : ℕ) → IsWordByte byte → byte ≤ 126
high_of byte is = omega (arith, is.high)

line_word : (word : List ℕ) → IsWord word → IsLine word
line_word word is = All-weaker IsWordByte IsLineByte
    (λ byte b. record { low = low_of byte b; high = high_of byte b }) word is

here : (byte : ℕ) → nat_le 32 byte && nat_le byte 126 ≡ true → IsLineByte byte
here byte plain =
    let parts = and_parts (nat_le 32 byte) (nat_le byte 126) plain in
    record { low = leb-true 32 byte parts.0; high = leb-true byte 126 parts.1 }

not_returned : (byte : ℕ) → IsLineByte byte → (byte == 13) ≡ false
not_returned byte is = let low : 32 ≤ byte = is.low in grind (arith, low)

-- a line has no carriage return to drop
strip_same : (line : List ℕ) → IsLine line → strip_carriage_return line ≡ line
strip_same [] is = refl
strip_same (byte ∷ bytes) is =
    let line = byte ∷ bytes in
    let last = All-get_or IsLineByte line (length line - 1) 0 (omega arith) is in
    let not_this = not_returned (get_or line (length line - 1) 0) last in
    ap (λ b. if b then take (length line - 1) line else line) not_this

plain_line : (line : List ℕ) → IsLine line → list_all is_plain_byte line ≡ true
plain_line line is =
    list_all-from_AllPass is_plain_byte line
    (All-weaker IsLineByte (λ byte. is_plain_byte byte ≡ true)
    (λ byte b. and_from _ _ (le-leb 32 byte b.low) (le-leb byte 126 b.high)) line is)

bare_line : (line : List ℕ) (command : Command) → counts line ≡ true
    → list_all is_plain_byte line ≡ true → command_of line ≡ Ok command
    → bare_reading_of line ≡ Ok (Some command)
bare_line line command counted plain read = rw (counted, plain, read) refl

read_line : (line : List ℕ) (command : Command) → IsLine line → counts line ≡ true
    → command_of line ≡ Ok command → reading_of line ≡ Ok (Some command)
read_line line command is counted read =
    ap bare_reading_of (strip_same line is)
    ∙ bare_line line command counted (plain_line line is) read

-- What is so of a line of the generator.
pub record IsMadeLine (line body : List ℕ) (command : Command) : Type 0 where
  pub ends : line ≡ body ++ 10 ∷ []
  pub plain : IsLine body
  pub short : length body ≤ 60
  pub reads : reading_of body ≡ Ok (Some command)

of_body : (line text body : List ℕ) (command : Command) → line ≡ text ++ 10 ∷ []
    → text ≡ body → IsLine body → length body ≤ 60 → counts body ≡ true
    → command_of body ≡ Ok command → IsMadeLine line body command
of_body line text body command ends same is short counted read = record {
  ends = ends ∙ ap (λ b. b ++ 10 ∷ []) same;
  plain = is;
  short = short;
  reads = read_line body command is counted read;
}

-- a letter and a number of a few digits
pub record IsShortWord (word : List ℕ) : Type 0 where
  pub letters : IsWord word
  pub some : 1 ≤ length word
  pub few : length word ≤ 6

short_word : (byte n : ℕ) → IsWordByte byte → n < 100000 → IsShortWord (byte ∷ decimal n)
short_word byte n first small = record {
  letters = All-cons IsWordByte byte (decimal n) first (decimal_word n (omega arith));
  some = omega arith;
  few = omega (arith, length-decimal-le 5 n (omega arith) (omega arith) (omega arith));
}

few_of : (word : List ℕ) → IsShortWord word → length word ≤ 64
few_of word is = omega (arith, is.few)

name_word : (word : List ℕ) → IsShortWord word → IsNameWord word
name_word word is = record { letters = is.letters; some = is.some; few = few_of word is }

-- a path of two such words
line_path : (first second : List ℕ) → IsShortWord first → IsShortWord second
    → IsLine (first ++ 47 ∷ second)
line_path first second one two =
    All-append IsLineByte first (47 ∷ second) (line_word first one.letters)
    (All-cons IsLineByte 47 second (here 47 refl) (line_word second two.letters))

short_path : (first second : List ℕ) → IsShortWord first → IsShortWord second
    → length (first ++ 47 ∷ second) ≤ 13
short_path first second one two =
    omega (arith, length-append first (47 ∷ second), one.few, two.few)

path_read : (first second : List ℕ) → IsShortWord first → IsShortWord second
    → path_of (first ++ 47 ∷ second) ≡ Some (first ∷ second ∷ [])
path_read first second one two =
    path_two first second (name_word first one) (name_word second two)

-- two parts with a space between them
line_parts : (first second : List ℕ) → IsLine first → IsLine second
    → IsLine (first ++ 32 ∷ second)
line_parts first second one two =
    All-append IsLineByte first (32 ∷ second) one
    (All-cons IsLineByte 32 second (here 32 refl) two)

-- after a command's word
line_front : (front rest : List ℕ) → list_all is_plain_byte front ≡ true → IsLine rest
    → IsLine (front ++ rest)
line_front front rest plain is =
    All-append IsLineByte front rest
    (All-weaker (λ byte. is_plain_byte byte ≡ true) IsLineByte (λ byte b. here byte b) front
    (AllPass-from_list_all is_plain_byte front plain)) is

put_line : (c n t line text : List ℕ) → IsShortWord c → IsShortWord n → IsShortWord t
    → line ≡ text ++ 10 ∷ [] → text ≡ codes "put " ++ ((c ++ 47 ∷ n) ++ 32 ∷ t)
    → IsMadeLine line (codes "put " ++ ((c ++ 47 ∷ n) ++ 32 ∷ t))
    (commands.Put (c ∷ n ∷ []) t)
put_line c n t line text client node number ends same =
    let path = c ++ 47 ∷ n in
    let few : length t ≤ 4096 = omega (arith, number.few) in
    of_body line text (codes "put " ++ (path ++ 32 ∷ t))
    (commands.Put (c ∷ n ∷ []) t) ends same
    (line_front (codes "put ") (path ++ 32 ∷ t) refl
    (line_parts path t (line_path c n client node) (line_word t number.letters)))
    (omega (arith, length-append path (32 ∷ t), short_path c n client node, number.few)) refl
    (command_words (codes "put") (path ++ 32 ∷ t) (written (codes "put") refl)
    ∙ ap (λ r. and_then r (λ p. Ok (commands.Put p.0 p.1)))
    (path_and_text path t (c ∷ n ∷ []) (spaceless_path c n client.letters node.letters)
    (path_read c n client node) few))

draft_line : (n t line text : List ℕ) → IsShortWord n → IsShortWord t
    → line ≡ text ++ 10 ∷ [] → text ≡ codes "dput " ++ (n ++ 32 ∷ t)
    → IsMadeLine line (codes "dput " ++ (n ++ 32 ∷ t)) (commands.DraftPut (n ∷ []) t)
draft_line n t line text node number ends same =
    let few : length t ≤ 4096 = omega (arith, number.few) in
    of_body line text (codes "dput " ++ (n ++ 32 ∷ t)) (commands.DraftPut (n ∷ []) t) ends same
    (line_front (codes "dput ") (n ++ 32 ∷ t) refl
    (line_parts n t (line_word n node.letters) (line_word t number.letters)))
    (omega (arith, length-append n (32 ∷ t), node.few, number.few)) refl
    (command_words (codes "dput") (n ++ 32 ∷ t) (written (codes "dput") refl)
    ∙ ap (λ r. and_then r (λ p. Ok (commands.DraftPut p.0 p.1)))
    (path_and_text n t (n ∷ []) (spaceless_word n node.letters)
    (path_one n (name_word n node)) few))

get_line : (c n line text : List ℕ) → IsShortWord c → IsShortWord n
    → line ≡ text ++ 10 ∷ []
    → text ≡ codes "get " ++ (c ++ 47 ∷ n)
    → IsMadeLine line (codes "get " ++ (c ++ 47 ∷ n)) (commands.Get (c ∷ n ∷ []))
get_line c n line text client node ends same =
    let path = c ++ 47 ∷ n in
    of_body line text (codes "get " ++ path) (commands.Get (c ∷ n ∷ [])) ends same
    (line_front (codes "get ") path refl (line_path c n client node))
    (omega (arith, short_path c n client node)) refl
    (command_words (codes "get") path (written (codes "get") refl)
    ∙ ap (λ r. and_then r (λ p. Ok (commands.Get p)))
    (last_path path (c ∷ n ∷ []) (spaceless_path c n client.letters node.letters)
    (path_read c n client node)))

del_line : (c n line text : List ℕ) → IsShortWord c → IsShortWord n
    → line ≡ text ++ 10 ∷ []
    → text ≡ codes "del " ++ (c ++ 47 ∷ n)
    → IsMadeLine line (codes "del " ++ (c ++ 47 ∷ n)) (commands.Del (c ∷ n ∷ []))
del_line c n line text client node ends same =
    let path = c ++ 47 ∷ n in
    of_body line text (codes "del " ++ path) (commands.Del (c ∷ n ∷ [])) ends same
    (line_front (codes "del ") path refl (line_path c n client node))
    (omega (arith, short_path c n client node)) refl
    (command_words (codes "del") path (written (codes "del") refl)
    ∙ ap (λ r. and_then r (λ p. Ok (commands.Del p)))
    (last_path path (c ∷ n ∷ []) (spaceless_path c n client.letters node.letters)
    (path_read c n client node)))

copy_line : (c n m line text : List ℕ) → IsShortWord c → IsShortWord n → IsShortWord m
    → line ≡ text ++ 10 ∷ []
    → text ≡ codes "copy " ++ ((c ++ 47 ∷ n) ++ 32 ∷ (c ++ 47 ∷ m))
    → IsMadeLine line (codes "copy " ++ ((c ++ 47 ∷ n) ++ 32 ∷ (c ++ 47 ∷ m)))
    (commands.Copy (c ∷ n ∷ []) (c ∷ m ∷ []))
copy_line c n m line text client node copy ends same =
    let path = c ++ 47 ∷ n in
    let other = c ++ 47 ∷ m in
    of_body line text (codes "copy " ++ (path ++ 32 ∷ other))
    (commands.Copy (c ∷ n ∷ []) (c ∷ m ∷ [])) ends same
    (line_front (codes "copy ") (path ++ 32 ∷ other) refl
    (line_parts path other (line_path c n client node) (line_path c m client copy)))
    (omega (
      arith,
      length-append path (32 ∷ other),
      short_path c n client node,
      short_path c m client copy,
    )) refl
    (command_words (codes "copy") (path ++ 32 ∷ other) (written (codes "copy") refl)
    ∙ ap (λ r. and_then r (λ p. Ok (commands.Copy p.0 p.1)))
    (two_paths path other (c ∷ n ∷ []) (c ∷ m ∷ [])
    (spaceless_path c n client.letters node.letters)
    (spaceless_path c m client.letters copy.letters) (path_read c n client node)
    (path_read c m client copy)))

-- each line of the generator is such a one
abbrev pub IsSomeLine : List ℕ → Type 0
IsSomeLine line = (body : List ℕ) × (command : Command) × IsMadeLine line body command

client_word : (client : ℕ) → client ≤ 64 → IsShortWord (99 ∷ decimal client)
client_word client few =
    short_word 99 client (letter 99 (omega arith) (omega arith) refl) (omega arith)

node_word : (node : ℕ) → node < 32 → IsShortWord (110 ∷ decimal node)
node_word node few =
    short_word 110 node (letter 110 (omega arith) (omega arith) refl) (omega arith)

copy_word : (node : ℕ) → node < 32 → IsShortWord (109 ∷ decimal node)
copy_word node few =
    short_word 109 node (letter 109 (omega arith) (omega arith) refl) (omega arith)

number_word : (number : ℕ) → number < 32768 → IsShortWord (116 ∷ decimal number)
number_word number few =
    short_word 116 number (letter 116 (omega arith) (omega arith) refl) (omega arith)

-- the texts of paths, as words with a slash between them
path_parts : (client node : ℕ)
    → path_text_of client node ≡ (99 ∷ decimal client) ++ 47 ∷ 110 ∷ decimal node
path_parts client node = append_assoc (99 ∷ decimal client) (47 ∷ 110 ∷ []) (decimal node)

copy_parts : (client node : ℕ)
    → copy_text_of client node ≡ (99 ∷ decimal client) ++ 47 ∷ 109 ∷ decimal node
copy_parts client node = append_assoc (99 ∷ decimal client) (47 ∷ 109 ∷ []) (decimal node)

spaced_paths : (path other : List ℕ)
    → codes "copy " ++ path ++ codes " " ++ other ≡ codes "copy " ++ (path ++ 32 ∷ other)
spaced_paths path other = simp append_assoc

line_made : (client first second : ℕ) → client ≤ 64 → second < 32768
    → IsSomeLine (line_text_of client first second)
line_made client first second few small =
    let node = second % 32 in
    let low : node < 32 = omega arith in
    let c = client_word client few in
    let n = node_word node low in
    let m = copy_word node low in
    let t = number_word second small in
    line_cases IsSomeLine client first second (
      _,
      _,
      put_line (99 ∷ decimal client) (110 ∷ decimal node) (116 ∷ decimal second) _
          (codes "put " ++ path_text_of client node ++ codes " t" ++ decimal second) c n t refl
          (simp append_assoc),
    ) (
      _,
      _,
      get_line (99 ∷ decimal client) (110 ∷ decimal node) _
          (codes "get " ++ path_text_of client node) c n refl (simp append_assoc),
    ) (
      _,
      _,
      draft_line (110 ∷ decimal node) (116 ∷ decimal second) _
          (codes "dput n" ++ decimal node ++ codes " t" ++ decimal second) n t refl
          (simp append_assoc),
    ) (
      _,
      _,
      del_line (99 ∷ decimal client) (110 ∷ decimal node) _
          (codes "del " ++ path_text_of client node) c n refl (simp append_assoc),
    ) (
      _,
      _,
      copy_line (99 ∷ decimal client) (110 ∷ decimal node) (109 ∷ decimal node) _
          (codes "copy " ++ path_text_of client node ++ codes " " ++ copy_text_of client node)
          c n m refl
          (spaced_paths (path_text_of client node) (copy_text_of client node)
          ∙ ap₂ (λ p q. codes "copy " ++ (p ++ 32 ∷ q)) (path_parts client node)
          (copy_parts client node)),
    )

-- Whole texts.

not_ended : (byte : ℕ) → IsLineByte byte → (byte == 10) ≡ false
not_ended byte is = let low : 32 ≤ byte = is.low in grind (arith, low)

-- the first line of a text is split off
line_off : (line body rest : List ℕ) (command : Command) → IsMadeLine line body command
    → lines_of (line ++ rest) ≡ body ∷ lines_of rest
line_off line body rest command is =
    ap (λ l. lines_of (l ++ rest)) is.ends
    ∙ ap lines_of (append_assoc body (10 ∷ []) rest)
    ∙ slice_split_at (λ byte. byte == 10) body 10 rest
    (All-weaker IsLineByte (λ byte. (byte == 10) ≡ false) not_ended body is.plain) refl

first_command : (number : ℕ) (body : List ℕ) (lines : List (List ℕ)) (command : Command)
    (script : List Command) → reading_of body ≡ Ok (Some command)
    → commands_from (number + 1) lines ≡ Ok script
    → commands_from number (body ∷ lines) ≡ Ok (command ∷ script)
first_command number body lines command script read others =
    ap₂ (λ r later. with_line number r later) read others

-- lines from a state on are a script
abbrev pub AreLines : ℕ → ℕ → ℕ → ℕ → Type 0
AreLines client state number more =
    (script : List Command)
    × (commands_from number (lines_of (lines_from client state more)) ≡ Ok script)
    × (length script ≡ more) × (length (lines_from client state more) ≤ 61 * more)

after_small : (state : ℕ) → state_after state < 2147483648
after_small state = omega arith

drawn_small : (state : ℕ) → drawn_at (state_after state) < 32768
drawn_small state =
    let small = after_small state in
    omega (arith, small)

lines_made : (client state number more : ℕ) → client ≤ 64
    → AreLines client state number more
lines_made client state number zero few = ([], refl, refl, omega arith)
lines_made client state number (suc more) few =
    let one = state_after state in
    let two = state_after one in
    let first = drawn_at one in
    let second = drawn_at two in
    let line = line_text_of client first second in
    let rest = lines_from client two more in
    let made = line_made client first second few (drawn_small one) in
    let others = lines_made client two (number + 1) more few in (
      made.1 ∷ others.0,
      ap (commands_from number) (line_off line made.0 rest made.1 made.2)
          ∙ first_command number made.0 (lines_of rest) made.1 others.0 made.2.reads others.1,
      ap suc others.2,
      omega (
        arith,
        length-append line rest,
        ap length made.2.ends,
        length-append made.0 (10 ∷ []),
        made.2.short,
        others.3,
      ),
    )

-- the text of a client is a script within the size of a file
script_whole : (start client commands before : ℕ) → client ≤ 64 → commands ≤ 10000
    → before + commands ≤ MOST_COMMANDS
    → (script : List Command) × (length script ≡ commands)
    × (script_in client before (generated_of start client commands) ≡ Ok script)
script_whole start client commands before few short all =
    let text = generated_of start client commands in
    let lines = lines_made client (opening_of start client) 1 commands few in
    let size : length text ≤ 1048576 = omega (arith, lines.3) in
    let count : before + length lines.0 ≤ MOST_COMMANDS = omega (arith, lines.2) in (
      lines.0,
      lines.2,
      ap (λ b. if b then Err (TooLarge client) else after_reading client before (script_of text))
          (le-ltb 1048576 (length text) size)
          ∙ ap (after_reading client before) (first_is_whole text lines.0 lines.1)
          ∙ ap (λ b. if b then Err (TooLarge 0) else Ok lines.0)
          (le-ltb MOST_COMMANDS (before + length lines.0) count),
    )

front_made : (client before : ℕ) (text : List ℕ) (texts : List (List ℕ))
    (script : List Command) (scripts : List (List Command))
    → script_in client before text ≡ Ok script
    → scripts_from (client + 1) (before + length script) texts ≡ Ok scripts
    → scripts_from client before (text ∷ texts) ≡ Ok (script ∷ scripts)
front_made client before text texts script scripts first others =
    ap (λ r. in_front r (λ these. scripts_from (client + 1) (before + length these) texts)) first
    ∙ ap (with_first script) others

texts_made : (start commands client more before : ℕ) → client + more ≤ 65
    → commands ≤ 10000
    → before + more * commands ≤ MOST_COMMANDS
    → (scripts : List (List Command))
    × (scripts_from client before (texts_from start commands client more) ≡ Ok scripts)
texts_made start commands client zero before few short all = ([], refl)
texts_made start commands client (suc more) before few short all =
    let product : suc more * commands ≡ commands + more * commands = omega arith in
    let script = script_whole start client commands before (omega arith) short (omega arith) in
    let others = texts_made start commands (client + 1) more (before + commands) (omega arith) short
    (omega arith) in
    let rest = subst (λ n. scripts_from (client + 1) (before + n)
    (texts_from start commands (client + 1) more) ≡ Ok others.0) (sym script.1) others.1 in (
      script.0 ∷ others.0,
      front_made client before (generated_of start client commands)
          (texts_from start commands (client + 1) more) script.0 others.0 script.2 rest,
    )

pub made_scripts : (start clients commands : ℕ) → start ≤ 2147483647 → clients ≤ 64
    → commands ≤ 10000 → clients * commands ≤ MOST_COMMANDS
    → (scripts : List (List Command))
    × (scripts_from 1 0 (texts_from start commands 1 clients) ≡ Ok scripts)
made_scripts start clients commands low few short all =
    texts_made start commands 1 clients 0 (omega arith) short (omega arith)
