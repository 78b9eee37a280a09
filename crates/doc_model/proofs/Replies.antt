-- The test of two replies that Rust derives is true at equal replies, and at those alone.
use Rattle.std.proofs.Common.{◌≡◌, ℕ, List, Bool, true, refl, sym, ◌∙◌, ap, subst, rules, arith}
use Rattle.std.proofs.Common.{nat_eq, ◌↔◌, IsTrue}
use Rattle.std.proofs.lemmas.Bool.{false≢true, and_parts}
use Rattle.std.proofs.lemmas.Bool.Decides.{nat_tests}
use Rattle.std.specs.Cmp.Lexicographic.{pointwise, pointwise_decides, bytes_decides}
use Rattle.doc_model.specs.declared.command.Reply.{Reply}
use Rattle.doc_model.specs.declared.command.Reply.TheVariants as reply
use Rattle.doc_model.specs.contracts.command.ReplyPartialEq.TheImpl as derived

number_same : (m n : ℕ) → nat_eq m n ≡ true → m ≡ n
number_same m n h = grind (arith, nat_tests)

text_same : (s t : List ℕ) → pointwise nat_eq s t ≡ true → s ≡ t
text_same s t h = (bytes_decides s t).0 h

names_same : (s t : List (List ℕ)) → pointwise (pointwise nat_eq) s t ≡ true → s ≡ t
names_same s t h = (pointwise_decides bytes_decides s t).0 h

same : (a b : Reply) → (derived.ghosts).eq a b ≡ true → a ≡ b
same (reply.Committed m) (reply.Committed n) h = ap reply.Committed (number_same m n h)
same (reply.Drafted m) (reply.Drafted n) h = ap reply.Drafted (number_same m n h)
same (reply.Val m s) (reply.Val n t) h =
    let both = and_parts (nat_eq m n) (pointwise nat_eq s t) h in
    let first : m ≡ n = number_same m n both.0 in
    let second : s ≡ t = text_same s t both.1 in
    cc
same (reply.Names m s) (reply.Names n t) h =
    let both = and_parts (nat_eq m n) (pointwise (pointwise nat_eq) s t) h in
    let first : m ≡ n = number_same m n both.0 in
    let second : s ≡ t = names_same s t both.1 in
    cc
same (reply.Count m s) (reply.Count n t) h =
    let both = and_parts (nat_eq m n) (nat_eq s t) h in
    let first : m ≡ n = number_same m n both.0 in
    let second : s ≡ t = number_same s t both.1 in
    cc
same (reply.Absent m) (reply.Absent n) h = ap reply.Absent (number_same m n h)
same (reply.Gone m s) (reply.Gone n t) h =
    let both = and_parts (nat_eq m n) (nat_eq s t) h in
    let first : m ≡ n = number_same m n both.0 in
    let second : s ≡ t = number_same s t both.1 in
    cc
same (reply.Before m) (reply.Before n) h = ap reply.Before (number_same m n h)
same (reply.Many m) (reply.Many n) h = ap reply.Many (number_same m n h)
same (reply.Deep m) (reply.Deep n) h = ap reply.Deep (number_same m n h)
same (reply.Big m) (reply.Big n) h = ap reply.Big (number_same m n h)
same (reply.Worn m) (reply.Worn n) h = ap reply.Worn (number_same m n h)
same (reply.Full m) (reply.Full n) h = ap reply.Full (number_same m n h)
-- two kinds of reply: the test computes to false
same _ _ h = absurd (false≢true h)

itself : (a : Reply) → (derived.ghosts).eq a a ≡ true
itself (reply.Committed m) = search rules
itself (reply.Drafted m) = search rules
itself (reply.Val m s) = search rules
itself (reply.Names m s) =
    let second : pointwise (pointwise nat_eq) s s ≡ true =
    (pointwise_decides bytes_decides s s).1 refl in
    search (rules, second)
itself (reply.Count m s) = search rules
itself (reply.Absent m) = search rules
itself (reply.Gone m s) = search rules
itself (reply.Before m) = search rules
itself (reply.Many m) = search rules
itself (reply.Deep m) = search rules
itself (reply.Big m) = search rules
itself (reply.Worn m) = search rules
itself (reply.Full m) = search rules

pub replies_decide : (a b : Reply) (r : Bool) → r ≡ (derived.ghosts).eq a b → IsTrue r ↔ (a ≡ b)
replies_decide a b r is = (
  λ t. same a b (sym is ∙ t),
  λ e. is
      ∙ subst (λ (x : Reply). (derived.ghosts).eq a x ≡ true) e (itself a),
)
