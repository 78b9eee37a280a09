use Rattle.std.proofs.Common.{◌≡◌, ℕ, true, List, [], ◌∷◌, length, Ok, refl, ap, sym, ◌∙◌, arith}
use Rattle.std.specs.Prelude.{◌==◌}
use Rattle.std.proofs.lemmas.Bool.{eqb-true}
use Rattle.line_texts.specs.Cut.{next_rest_of}
use Rattle.cmd_text.specs.Line.{and_then, at_end, last_path_in, path_in}
use Rattle.cmd_text.proofs.line.read_last_path.Goals as goal

at_none : {A : Type 0} (rest : List ℕ) (part : A) → length rest ≡ 0 → at_end rest part ≡ Ok part
at_none [] part none = refl
at_none (byte ∷ bytes) part none = absurd (omega (arith, none))

ends_here : (rest after : List ℕ) (path : List (List ℕ)) → path_in rest ≡ Ok path
    → after ≡ next_rest_of rest → length after ≡ 0 → last_path_in rest ≡ Ok path
ends_here rest after path is from none =
    ap (λ r. and_then r (λ p. at_end (next_rest_of rest) p)) is
    ∙ at_none (next_rest_of rest) path (ap length (sym from) ∙ none)

pub returns : goal.returns
returns c =
    let empty : (length c.next_rest.result.now == 0) ≡ true = cc in
    ends_here c.args.rest.now c.next_rest.result.now c.in_ok-path.path
    c.in_ok-path.ensures c.next_rest.ensures (eqb-true _ _ empty)
