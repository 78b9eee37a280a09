-- What a parse finds for an argument that is read as a number in some ends is such a number.
--
-- A parse gives each entry that it makes a value that passed the parser of an argument with the
-- entry's id. Building a command adds no argument with an id of the command's own, and leaves the
-- parsers of those that it has.
use Rattle.std.proofs.Common.{◌≡◌, ◌∙◌, ◌<◌, ap, ℕ, true}
use Rattle.std.proofs.Common.{List, [], ◌∷◌, length, map}
use Rattle.std.proofs.Common.{Option, Some, None, refl, sym, subst, inl, inr, arith, suc, zero}
use Rattle.std.proofs.Common.{false}
use Rattle.std.proofs.lemmas.Bool.{cases_lt}
use Rattle.std.specs.List.{All, slice_index_or}
use Rattle.std.specs.Prelude.{option_map, slice_get}
use Rattle.std.specs.Str.{bytes_eq}
use Rattle.std.specs.Borrow.{Bor}
use Rattle.std.proofs.lemmas.List.Elements.{All-get_or}
use Rattle.std.proofs.lemmas.Slice.Eq.{bytes_eq-Decides}
use Rattle.clap.specs.Built.{IsAuto, IsParsedFrom}
use Rattle.clap.specs.Facts.{Entry, EntryPasses, HasReading, PassesArg, args_of, groups_of}
use Rattle.clap.specs.Facts.{parser_of}
use Rattle.clap.specs.Facts.{parser_of_value}
use Rattle.clap.specs.Matches.{found_of, matched_of, one_text}
use Rattle.clap.specs.Simple.{app_of, is_simple}
use Rattle.clap.specs.Values.{Accepts, IsUnsignedIn, read_as, reading_of}
use Rattle.clap.specs.Walk.{Text, rows_of, rule_of}
use Rattle.clap.specs.declared.builder.arg.Arg.{Arg}
use Rattle.clap.specs.declared.builder.command.Command.{Command}
use Rattle.clap.specs.declared.builder.value_parser.Reading.{Reading}
use Rattle.clap.specs.declared.builder.value_parser.Reading.TheVariants.{AsWritten}
use Rattle.clap.specs.declared.builder.value_parser.ValueParser.{ValueParser}
use Rattle.clap.specs.declared.builder.value_parser.ValueParser.TheVariants.{Unsigned}
use Rattle.clap.specs.declared.parser.matches.ArgMatches.{ArgMatches}
use Rattle.clap.specs.declared.parser.matches.Found.{Found}
use Rattle.clap.specs.declared.parser.matches.MatchedArg.{MatchedArg}
use Rattle.clap.proofs.CallerLemmas.{entry_by_id}
use Rattle.clap.proofs.SimpleLemmas.{plain_fields, simple_groups}
use Rattle.clap.proofs.WalkLemmas.{both, one_text-rows}
use Rattle.command_line.specs.Readings.{AreAccepted, AreReadBy, IsOwn, IsReadBy}

-- two texts that are not equal
other : (a b : Text) → bytes_eq a b ≡ false → a ≡ b → ⊥
other a b differ same =
    let equal : bytes_eq a b ≡ true = (bytes_eq-Decides a b).1 same in
    cc

-- an argument with the id, among arguments that are all read by the parser
read_by_at : (id : Text) (q : ValueParser) (xs : List Arg) (j : ℕ) (d : Arg)
    → AreReadBy id q (map rule_of xs) → j < length xs → (slice_index_or xs j d).id.now ≡ id
    → (slice_index_or xs j d).value_parser ≡ Some q
read_by_at id q [] j d by low is = absurd (omega arith)
read_by_at id q (x ∷ xs) zero d by low is =
    subst (λ b. IsReadBy b q x.value_parser) ((bytes_eq-Decides x.id.now id).1 is) by.0
read_by_at id q (x ∷ xs) (suc j) d by low is = read_by_at id q xs j d by.1 (omega arith) is

-- an argument of the built command with the id is read by the parser
parser_there : (old : Command) (m : ArgMatches) (p : IsParsedFrom old m) (id : Text)
    (q : ValueParser) → IsOwn id → AreReadBy id q (app_of old).top.rules
    → (j : ℕ) (x : Arg) → j < length (args_of p.built) → slice_index_or (args_of p.built) j x ≡ x
    → x.id.now ≡ id → parser_of x ≡ q
parser_there old m p id q own by j x high at is = elim (cases_lt j (length (args_of old))) [
  | inl under ↦
      let same = (p.from.kept j x under).1 in
      let here : (slice_index_or (args_of p.built) j x).id.now ≡ id = ap (λ a. a.id.now) at ∙ is in
      let old_is : (slice_index_or (args_of old) j x).id.now ≡ id =
      ap (λ i. i.now) (sym same.id) ∙ here in
      let read = same.parser q (read_by_at id q (args_of old) j x by under old_is) in
      ap parser_of (sym at) ∙ ap parser_of_value read
  | inr over ↦
      let auto = subst IsAuto at (p.from.extra j x over high) in
      absurd (elim auto [
        | inl help ↦ other _ _ own.1 (sym is ∙ help)
        | inr version ↦ other _ _ own.2 (sym is ∙ version)
      ])
]

-- a value that passed an argument of this id passed the parser
passes : (old : Command) (m : ArgMatches) (p : IsParsedFrom old m) (id : Text) (least most : ℕ)
    → IsOwn id → AreReadBy id (Unsigned least most) (app_of old).top.rules
    → (value : Text) → PassesArg p.built id value → IsUnsignedIn least most value
passes old m p id least most own by value any =
    let is = (bytes_eq-Decides any.1.id.now id).0 any.4.0 in
    let parser = parser_there old m p id (Unsigned least most) own by any.0 any.1 any.2 any.3 is in
    subst (λ q. Accepts any.1.ignore_case q value) parser any.4.1

-- and is read as it was written
reads : (old : Command) (m : ArgMatches) (p : IsParsedFrom old m) (id : Text) (least most : ℕ)
    → IsOwn id → AreReadBy id (Unsigned least most) (app_of old).top.rules
    → (how : Reading) → HasReading p.built id how → how ≡ AsWritten
reads old m p id least most own by how any =
    let is = (bytes_eq-Decides any.1.id.now id).0 any.4.0 in
    let parser = parser_there old m p id (Unsigned least most) own by any.0 any.1 any.2 any.3 is in
    sym any.4.1 ∙ ap reading_of parser

-- the first of some values that all have a property has it
first_of_all : (P : Text → Type 0) (how : Reading) (vs : List (Bor Text)) (text : Text)
    → All (λ v. P v.now) vs → how ≡ AsWritten
    → option_map (λ s. read_as how s.now) (slice_get vs 0) ≡ Some text → P text
first_of_all P how [] text all written first = cc
first_of_all P how (v ∷ vs) text all written first =
    let head : P v.now = All-get_or (λ v. P v.now) (v ∷ vs) 0 v (omega arith) all in
    let as_written : read_as how v.now ≡ v.now = rw written refl in
    let is : read_as how v.now ≡ text = cc in
    subst P (sym as_written ∙ is) head

-- no argument of a simple command is in a group, and it has none
no_groups : (old : Command) (m : ArgMatches) (p : IsParsedFrom old m)
    → is_simple (app_of old) ≡ true → groups_of p.built ≡ []
no_groups old m p simple =
    let rules = both _ _ (both _ _ (both _ _ simple).0).0 in
    (p.from.same_groups (simple_groups old rules.1)).1 ∙ (plain_fields old rules.0).groups

-- an entry of the id, with the text that is read of it
entry_within : (old : Command) (m : ArgMatches) (p : IsParsedFrom old m) (id text : Text)
    (least most : ℕ) → is_simple (app_of old) ≡ true → IsOwn id
    → AreReadBy id (Unsigned least most) (app_of old).top.rules
    → (e : Entry) → e.0.now ≡ id → EntryPasses p.built e
    → option_map (λ s. read_as e.1.reading s.now) (slice_get e.1.vals.items 0) ≡ Some text
    → IsUnsignedIn least most text
entry_within old m p id text least most simple own by e is pass first =
    let no_group : e.1.is_group ≡ true → ⊥ = λ group. elim (pass.3 group) [
      | inl empty ↦ other _ _ own.0 (sym is ∙ empty)
      | inr some ↦
          let none : 0 < 0 = subst (λ gs. 0 < length gs) (no_groups old m p simple) some in
          absurd (omega arith)
    ] in
    let values : All (λ v. IsUnsignedIn least most v.now) e.1.vals.items = elim pass.0 [
      | inl group ↦ absurd (no_group group)
      | inr all ↦ λ k d low. passes old m p id least most own by _
          (subst (λ i. PassesArg p.built i (slice_index_or e.1.vals.items k d).now) is (all k d low))
    ] in
    let written : e.1.reading ≡ AsWritten = elim pass.4 [
      | inl group ↦ absurd (no_group group)
      | inr how ↦ reads old m p id least most own by e.1.reading
          (subst (λ i. HasReading p.built i e.1.reading) is how)
    ] in
    first_of_all (IsUnsignedIn least most) e.1.reading e.1.vals.items text values written first

-- a text that is read of the id
found_within : (old : Command) (m : ArgMatches) (p : IsParsedFrom old m)
    → is_simple (app_of old) ≡ true → (id text : Text) (least most : ℕ) → IsOwn id
    → AreReadBy id (Unsigned least most) (app_of old).top.rules
    → one_text (found_of m) id ≡ Some text → IsUnsignedIn least most text
found_within old m p simple id text least most own by one = go (matched_of f id) refl one
  where
    f : Found
    f = found_of m

    go : (o : Option MatchedArg) → matched_of f id ≡ o → one_text f id ≡ Some text
        → IsUnsignedIn least most text
    go None none read =
        let bad : one_text f id ≡ None = rw none refl in
        cc
    go (Some x) some read =
        let parsed = p.parsed (p.from.globals ∙ (plain_fields old
        (both _ _ (both _ _ (both _ _ simple).0).0).0).globals) in
        let entry = entry_by_id (EntryPasses p.built) f.entries.items id x parsed.values some in
        let is = (bytes_eq-Decides entry.0.0.now id).0 entry.2 in
        let first : option_map (λ s. read_as x.reading s.now) (slice_get x.vals.items 0)
        ≡ Some text = rw some at read in
        entry_within old m p id text least most simple own by entry.0 is entry.3
        (subst (λ a. option_map (λ s. read_as a.reading s.now) (slice_get a.vals.items 0)
        ≡ Some text) (sym entry.1) first)

-- what was found is as the arguments read it
pub accepted : (old : Command) (m : ArgMatches) → IsParsedFrom old m → is_simple (app_of old) ≡ true
    → AreAccepted (app_of old).top.rules (rows_of (found_of m))
accepted old m p simple = record {
  numbers = λ id least most own by. record {
    number = λ text one. found_within old m p simple id text least most own by
        (one_text-rows (found_of m) id ∙ one);
  };
}
