-- Names and texts are ASCII, so Rust takes them as text.
use Rattle.std.proofs.Common.{◌≡◌, ℕ, ◌<◌, Bool, true, List, [], ◌∷◌, arith}
use Rattle.std.specs.List.{list_all}
use Rattle.std.specs.Str.{IsAscii, IsUtf8}
use Rattle.std.proofs.lemmas.Bool.{and_parts}
use Rattle.std.proofs.lemmas.Bool.Decides.{nat_tests}
use Rattle.std.proofs.lemmas.Str.{IsUtf8-from_ascii}
use Rattle.std.proofs.lemmas.Str.Ascii.{IsAscii-nil, IsAscii-cons}
use Rattle.doc_tree.specs.Words.{is_name_byte, is_text_byte, is_name, is_text}

pub utf8 : (bytes : List ℕ) → IsAscii bytes → IsUtf8 bytes
utf8 bytes h = IsUtf8-from_ascii bytes h

all_ascii : (p : ℕ → Bool) → ((b : ℕ) → p b ≡ true → b < 128) → (bytes : List ℕ)
    → list_all p bytes ≡ true → IsAscii bytes
all_ascii p h [] e = IsAscii-nil
all_ascii p h (b ∷ bytes) e =
    let parts = and_parts (p b) (list_all p bytes) e in
    IsAscii-cons b bytes (h b parts.0) (all_ascii p h bytes parts.1)

name_byte_low : (b : ℕ) → is_name_byte b ≡ true → b < 128
name_byte_low b e = grind (arith, nat_tests)

text_byte_low : (b : ℕ) → is_text_byte b ≡ true → b < 128
text_byte_low b e = grind (arith, nat_tests)

pub name_is_ascii : (bytes : List ℕ) → is_name bytes ≡ true → IsAscii bytes
name_is_ascii bytes e =
    all_ascii is_name_byte name_byte_low bytes (and_parts _ (list_all is_name_byte bytes) e).1

pub text_is_ascii : (bytes : List ℕ) → is_text bytes ≡ true → IsAscii bytes
text_is_ascii bytes e =
    all_ascii is_text_byte text_byte_low bytes (and_parts _ (list_all is_text_byte bytes) e).1
