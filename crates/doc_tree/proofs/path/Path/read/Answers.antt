use Rattle.std.proofs.Common.{◌≡◌, ◌∙◌, ℕ, List, Some, None, ap, take, drop, ◌++◌, ◌∷◌, [], sym}
use Rattle.std.proofs.Common.{arith}
use Rattle.doc_tree.specs.Words.{name_of}
use Rattle.doc_tree.proofs.Pieces.{refused_piece, refused_more, refused_last, whole_path}
use Rattle.doc_tree.proofs.Pieces.{more_names, more_pieces}
use Rattle.doc_tree.proofs.path.Path.read.Goals as goal

pub returns-in_default-2 : goal.returns-in_default-2
returns-in_default-2 c =
    let named : name_of (take c.in-Some.at c.loop-at.rest.now) ≡ None =
    cc (c.in_ok-name.ensures, c.split_at.ensures.front) in
    refused_piece c.loop-at.names.items c.loop-at.rest.now c.in-Some.at _
    (sym c.in-Some.ensures) c.loop-at.invariant.whole named

pub returns-then-len : goal.returns-then-len
returns-then-len c =
    refused_more c.loop-at.names.items c.loop-at.rest.now c.in-Some.at _
    (sym c.in-Some.ensures) c.loop-at.invariant.whole (omega arith)

pub returns-in_default-3 : goal.returns-in_default-3
returns-in_default-3 c =
    let named : name_of c.loop-at.rest.now ≡ None = cc (c.in_ok-name-2.ensures) in
    refused_last c.loop-at.names.items c.loop-at.rest.now _
    (sym c.in_default.ensures) c.loop-at.invariant.whole named

pub loop-at-preserved : goal.loop-at-preserved
loop-at-preserved c =
    let named : name_of (take c.in-Some.at c.loop-at.rest.now) ≡ Some c.in-Some-2.name =
    cc (c.in_ok-name.ensures, c.split_at.ensures.front) in
    let names : c.push.new.self.items ≡ c.loop-at.names.items ++ c.in-Some-2.name ∷ [] =
    c.in_ok-push.ensures.items in
    let rest : c.split_at-in-Some.result.1.now ≡ drop 1 (drop c.in-Some.at c.loop-at.rest.now) =
    c.split_at-in-Some.ensures.back ∙ ap (λ (xs : List ℕ). drop 1 xs) c.split_at.ensures.back in
    record {
      short = omega (arith, c.in_ok-push.ensures.len);
      named = rw names (more_names c.loop-at.names.items
          (take c.in-Some.at c.loop-at.rest.now) c.in-Some-2.name c.loop-at.invariant.named named);
      whole = rw (names, rest)
          (more_pieces c.loop-at.names.items c.loop-at.rest.now c.in-Some.at c.in-Some-2.name _
          (sym c.in-Some.ensures) c.loop-at.invariant.whole named);
    }

pub returns : goal.returns
returns c =
    let named : name_of c.loop-at.rest.now ≡ Some c.in-Some-3.name = cc (c.in_ok-name-2.ensures) in
    let names : c.in_ok-new.field-0.value.items ≡ c.loop-at.names.items ++ c.in-Some-3.name ∷ [] =
    ap (λ v. v.items) c.in_ok-new.ensures.ok ∙ c.in_ok-push-2.ensures.items in
    rw names (whole_path c.loop-at.names.items c.loop-at.rest.now c.in-Some-3.name _
    (sym c.in_default.ensures) c.loop-at.invariant.whole named c.loop-at.invariant.named
    c.loop-at.invariant.short)
