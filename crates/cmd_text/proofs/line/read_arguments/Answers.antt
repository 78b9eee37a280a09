use Rattle.std.proofs.Common.{◌≡◌, ℕ, List, Result, Ok, Err, ap, sym, ◌∙◌, subst}
use Rattle.std.specs.Result.{IsErrAnd}
use Rattle.std.proofs.lemmas.Result.{err_from_is_err_and}
use Rattle.line_texts.specs.Cut.{next_rest_of}
use Rattle.doc_model.specs.declared.command.Command.{Command}
use Rattle.doc_model.specs.declared.command.Command.TheVariants as commands
use Rattle.cmd_text.specs.Answers.{Gives}
use Rattle.cmd_text.specs.declared.fault.LineError.{LineError}
use Rattle.cmd_text.specs.declared.fault.LineError.TheVariants as line
use Rattle.cmd_text.specs.declared.fault.ScriptKind.{ScriptKind}
use Rattle.cmd_text.specs.declared.form.Form.{Form}
use Rattle.cmd_text.specs.declared.verb.Verb.{Verb}
use Rattle.cmd_text.specs.Line.{and_then, arguments_in, last_path_in, path_in}
use Rattle.cmd_text.specs.Line.{number_and_path_in, number_in, path_and_text_in, two_paths_in}
use Rattle.cmd_text.proofs.line.read_arguments.Goals as goal

abbrev Two : Type 0
Two = List (List ℕ) × List (List ℕ)

abbrev both : List (List ℕ) → List (List ℕ) → Result Two ScriptKind
both from to = Ok (from, to)

abbrev with_second : List ℕ → List (List ℕ) → Result Two ScriptKind
with_second rest from = and_then (last_path_in (next_rest_of rest)) (both from)

abbrev number_with : ℕ → List (List ℕ) → Result (ℕ × List (List ℕ)) ScriptKind
number_with number path = Ok (number, path)

abbrev with_path : List ℕ → ℕ → Result (ℕ × List (List ℕ)) ScriptKind
with_path rest number = and_then (last_path_in (next_rest_of rest)) (number_with number)

abbrev old : ℕ × List (List ℕ) → Result Command ScriptKind
old p = Ok (commands.Old p.0 p.1)

abbrev copy : Two → Result Command ScriptKind
copy p = Ok (commands.Copy p.0 p.1)

-- a second path that is read, or its fault
two_read : (rest : List ℕ) (from to : List (List ℕ)) → path_in rest ≡ Ok from
    → last_path_in (next_rest_of rest) ≡ Ok to → two_paths_in rest ≡ both from to
two_read rest from to first second =
    ap (λ r. and_then r (with_second rest)) first ∙ ap (λ r. and_then r (both from)) second

number_read : (rest : List ℕ) (number : ℕ) (path : List (List ℕ)) → number_in rest ≡ Ok number
    → last_path_in (next_rest_of rest) ≡ Ok path → number_and_path_in rest ≡ Ok (number, path)
number_read rest number path first second =
    ap (λ r. and_then r (with_path rest)) first ∙ ap (λ r. and_then r (number_with number)) second

-- a fault of a first part, and of a second after a first that is read
first_faulty : {A B : Type 0} (e : LineError) (first : Result A ScriptKind)
    (later : A → Result B ScriptKind) → Gives {A = A} (Err e) first
    → Gives {A = B} (Err e) (and_then first later)
first_faulty (line.Fault kind) first later bad = ap (λ f. and_then f later) bad
first_faulty line.NoMemory first later bad = tt

second_faulty : {A B C : Type 0} (e : LineError) (first : Result A ScriptKind) (part : A)
    (second : Result B ScriptKind) (later : A → B → Result C ScriptKind) → first ≡ Ok part
    → Gives {A = B} (Err e) second
    → Gives {A = C} (Err e) (and_then first (λ a. and_then second (later a)))
second_faulty e first part second later is bad =
    subst (λ f. Gives (Err e) (and_then f (λ a. and_then second (later a)))) (sym is)
    (first_faulty e second (later part) bad)

-- which is that of the command
faulty : {A : Type 0} (form : Form) (verb : Verb) (rest : List ℕ) (e : LineError)
    (r : Result Command LineError) (parts : Result A ScriptKind)
    (made : A → Result Command ScriptKind)
    → arguments_in form verb rest ≡ and_then parts made → IsErrAnd r (λ x. x ≡ e)
    → Gives {A = A} (Err e) parts → Gives r (arguments_in form verb rest)
faulty form verb rest e r parts made is gives bad =
    let err = err_from_is_err_and r gives in
    subst (λ (x : Result Command LineError). Gives x (arguments_in form verb rest))
    (sym (err.1 ∙ ap Err err.2))
    (subst (λ a. Gives {A = Command} (Err e) a) (sym is) (first_faulty e parts made bad))

pub returns-in_ok-to-in-Copy : goal.returns-in_ok-to-in-Copy
returns-in_ok-to-in-Copy c =
    let rest = c.args.rest.now in
    let second : last_path_in (next_rest_of rest) ≡ Ok c.in_ok-to-in-Copy.to =
    ap last_path_in (sym c.next_rest.ensures) ∙ c.in_ok-to-in-Copy.ensures in
    ap (λ v. arguments_in c.args.form v rest) c.in-Copy.is
    ∙ ap (λ r. and_then r copy)
    (two_read rest c.in_ok-from-in-Copy.from c.in_ok-to-in-Copy.to c.in_ok-from-in-Copy.ensures
    second)

pub returns-in_err-to-in-Copy : goal.returns-in_err-to-in-Copy
returns-in_err-to-in-Copy c =
    let rest = c.args.rest.now in
    let error = c.in_err-to-in-Copy.field-0.0 in
    faulty c.args.form c.args.verb rest error _ (two_paths_in rest) copy
    (ap (λ v. arguments_in c.args.form v rest) c.in-Copy.is)
    c.from_residual-in_err-to-in-Copy.ensures.1
    (second_faulty error _ c.in_ok-from-in-Copy.from _ both c.in_ok-from-in-Copy.ensures
    (subst (λ (after : List ℕ). Gives {A = List (List ℕ)} (Err error) (last_path_in after))
    c.next_rest.ensures c.in_err-to-in-Copy.ensures))

pub returns-in_err-from-in-Copy : goal.returns-in_err-from-in-Copy
returns-in_err-from-in-Copy c =
    let rest = c.args.rest.now in
    let error = c.in_err-from-in-Copy.field-0.0 in
    faulty c.args.form c.args.verb rest error _ (two_paths_in rest) copy
    (ap (λ v. arguments_in c.args.form v rest) c.in-Copy.is)
    c.from_residual-in_err-from-in-Copy.ensures.1
    (first_faulty error (path_in rest) (with_second rest) c.in_err-from-in-Copy.ensures)

pub returns-in_ok-path-in-Old : goal.returns-in_ok-path-in-Old
returns-in_ok-path-in-Old c =
    let rest = c.args.rest.now in
    let second : last_path_in (next_rest_of rest) ≡ Ok c.in_ok-path-in-Old.path =
    ap last_path_in (sym c.next_rest-in-Old.ensures) ∙ c.in_ok-path-in-Old.ensures in
    ap (λ v. arguments_in c.args.form v rest) c.in-Old.is
    ∙ ap (λ r. and_then r old)
    (number_read rest c.in_ok-back-in-Old.back c.in_ok-path-in-Old.path c.in_ok-back-in-Old.ensures
    second)

pub returns-in_err-path-in-Old : goal.returns-in_err-path-in-Old
returns-in_err-path-in-Old c =
    let rest = c.args.rest.now in
    let error = c.in_err-path-in-Old.field-0.0 in
    faulty c.args.form c.args.verb rest error _ (number_and_path_in rest) old
    (ap (λ v. arguments_in c.args.form v rest) c.in-Old.is)
    c.from_residual-in_err-path-in-Old.ensures.1
    (second_faulty error _ c.in_ok-back-in-Old.back _ number_with c.in_ok-back-in-Old.ensures
    (subst (λ (after : List ℕ). Gives {A = List (List ℕ)} (Err error) (last_path_in after))
    c.next_rest-in-Old.ensures c.in_err-path-in-Old.ensures))

pub returns-in_err-back-in-Old : goal.returns-in_err-back-in-Old
returns-in_err-back-in-Old c =
    let rest = c.args.rest.now in
    let error = c.in_err-back-in-Old.field-0.0 in
    faulty c.args.form c.args.verb rest error _ (number_and_path_in rest) old
    (ap (λ v. arguments_in c.args.form v rest) c.in-Old.is)
    c.from_residual-in_err-back-in-Old.ensures.1
    (first_faulty error (number_in rest) (with_path rest) c.in_err-back-in-Old.ensures)

pub returns-in_ok-read_last_path-in-Del : goal.returns-in_ok-read_last_path-in-Del
returns-in_ok-read_last_path-in-Del c =
    ap (λ v. arguments_in c.args.form v c.args.rest.now) c.in-Del.is
    ∙ ap (λ r. and_then r (λ path. Ok (commands.Del path))) c.in_ok-read_last_path-in-Del.ensures

pub returns-in_ok-read_last_path-in-Get : goal.returns-in_ok-read_last_path-in-Get
returns-in_ok-read_last_path-in-Get c =
    ap (λ v. arguments_in c.args.form v c.args.rest.now) c.in-Get.is
    ∙ ap (λ r. and_then r (λ path. Ok (commands.Get path))) c.in_ok-read_last_path-in-Get.ensures

pub returns-in_ok-read_last_path-in-List : goal.returns-in_ok-read_last_path-in-List
returns-in_ok-read_last_path-in-List c =
    ap (λ v. arguments_in c.args.form v c.args.rest.now) c.in-List.is
    ∙ ap (λ r. and_then r (λ path. Ok (commands.List path))) c.in_ok-read_last_path-in-List.ensures

pub returns-in_ok-read_last_path-in-Size : goal.returns-in_ok-read_last_path-in-Size
returns-in_ok-read_last_path-in-Size c =
    ap (λ v. arguments_in c.args.form v c.args.rest.now) c.in-Size.is
    ∙ ap (λ r. and_then r (λ path. Ok (commands.Size path))) c.in_ok-read_last_path-in-Size.ensures

pub returns-in_ok-read_last_path-in-DraftGet : goal.returns-in_ok-read_last_path-in-DraftGet
returns-in_ok-read_last_path-in-DraftGet c =
    ap (λ v. arguments_in c.args.form v c.args.rest.now) c.in-DraftGet.is
    ∙ ap (λ r. and_then r (λ path. Ok (commands.DraftGet path)))
    c.in_ok-read_last_path-in-DraftGet.ensures

pub returns-in_ok-read_last_path-in-Take : goal.returns-in_ok-read_last_path-in-Take
returns-in_ok-read_last_path-in-Take c =
    ap (λ v. arguments_in c.args.form v c.args.rest.now) c.in-Take.is
    ∙ ap (λ r. and_then r (λ path. Ok (commands.Take path))) c.in_ok-read_last_path-in-Take.ensures

pub returns-in_ok-read_last_path-in-Publish : goal.returns-in_ok-read_last_path-in-Publish
returns-in_ok-read_last_path-in-Publish c =
    ap (λ v. arguments_in c.args.form v c.args.rest.now) c.in-Publish.is
    ∙ ap (λ r. and_then r (λ path. Ok (commands.Publish path)))
    c.in_ok-read_last_path-in-Publish.ensures

pub returns-in_ok-path-in-Put : goal.returns-in_ok-path-in-Put
returns-in_ok-path-in-Put c =
    ap (λ v. arguments_in c.args.form v c.args.rest.now) c.in-Put.is
    ∙ ap (λ r. and_then r (λ p. Ok (commands.Put p.0 p.1))) c.in_ok-path-in-Put.ensures

pub returns-in_err-path-in-Put : goal.returns-in_err-path-in-Put
returns-in_err-path-in-Put c =
    let rest = c.args.rest.now in
    faulty c.args.form c.args.verb rest c.in_err-path-in-Put.field-0.0 _ (path_and_text_in
    c.args.form rest)
    (λ p. Ok (commands.Put p.0 p.1)) (ap (λ v. arguments_in c.args.form v rest) c.in-Put.is)
    c.from_residual.ensures.1 c.in_err-path-in-Put.ensures

pub returns-in_ok-path-in-DraftPut : goal.returns-in_ok-path-in-DraftPut
returns-in_ok-path-in-DraftPut c =
    ap (λ v. arguments_in c.args.form v c.args.rest.now) c.in-DraftPut.is
    ∙ ap (λ r. and_then r (λ p. Ok (commands.DraftPut p.0 p.1))) c.in_ok-path-in-DraftPut.ensures

pub returns-in_err-path-in-DraftPut : goal.returns-in_err-path-in-DraftPut
returns-in_err-path-in-DraftPut c =
    let rest = c.args.rest.now in
    faulty c.args.form c.args.verb rest c.in_err-path-in-DraftPut.field-0.0 _ (path_and_text_in
    c.args.form rest)
    (λ p. Ok (commands.DraftPut p.0 p.1)) (ap (λ v. arguments_in c.args.form v rest)
    c.in-DraftPut.is)
    c.from_residual-in_err-path-in-DraftPut.ensures.1 c.in_err-path-in-DraftPut.ensures

pub returns-in_err-read_last_path-in-Del : goal.returns-in_err-read_last_path-in-Del
returns-in_err-read_last_path-in-Del c =
    let rest = c.args.rest.now in
    faulty c.args.form c.args.verb rest c.in_err-read_last_path-in-Del.field-0.0 _ (last_path_in
    rest)
    (λ path. Ok (commands.Del path)) (ap (λ v. arguments_in c.args.form v rest) c.in-Del.is)
    c.from_residual-in_err-read_last_path-in-Del.ensures.1
    c.in_err-read_last_path-in-Del.ensures

pub returns-in_err-read_last_path-in-Get : goal.returns-in_err-read_last_path-in-Get
returns-in_err-read_last_path-in-Get c =
    let rest = c.args.rest.now in
    faulty c.args.form c.args.verb rest c.in_err-read_last_path-in-Get.field-0.0 _ (last_path_in
    rest)
    (λ path. Ok (commands.Get path)) (ap (λ v. arguments_in c.args.form v rest) c.in-Get.is)
    c.from_residual-in_err-read_last_path-in-Get.ensures.1
    c.in_err-read_last_path-in-Get.ensures

pub returns-in_err-read_last_path-in-List : goal.returns-in_err-read_last_path-in-List
returns-in_err-read_last_path-in-List c =
    let rest = c.args.rest.now in
    faulty c.args.form c.args.verb rest c.in_err-read_last_path-in-List.field-0.0 _ (last_path_in
    rest)
    (λ path. Ok (commands.List path)) (ap (λ v. arguments_in c.args.form v rest) c.in-List.is)
    c.from_residual-in_err-read_last_path-in-List.ensures.1
    c.in_err-read_last_path-in-List.ensures

pub returns-in_err-read_last_path-in-Size : goal.returns-in_err-read_last_path-in-Size
returns-in_err-read_last_path-in-Size c =
    let rest = c.args.rest.now in
    faulty c.args.form c.args.verb rest c.in_err-read_last_path-in-Size.field-0.0 _ (last_path_in
    rest)
    (λ path. Ok (commands.Size path)) (ap (λ v. arguments_in c.args.form v rest) c.in-Size.is)
    c.from_residual-in_err-read_last_path-in-Size.ensures.1
    c.in_err-read_last_path-in-Size.ensures

pub returns-in_err-read_last_path-in-DraftGet : goal.returns-in_err-read_last_path-in-DraftGet
returns-in_err-read_last_path-in-DraftGet c =
    let rest = c.args.rest.now in
    faulty c.args.form c.args.verb rest c.in_err-read_last_path-in-DraftGet.field-0.0 _
    (last_path_in rest)
    (λ path. Ok (commands.DraftGet path)) (ap (λ v. arguments_in c.args.form v rest)
    c.in-DraftGet.is)
    c.from_residual-in_err-read_last_path-in-DraftGet.ensures.1
    c.in_err-read_last_path-in-DraftGet.ensures

pub returns-in_err-read_last_path-in-Take : goal.returns-in_err-read_last_path-in-Take
returns-in_err-read_last_path-in-Take c =
    let rest = c.args.rest.now in
    faulty c.args.form c.args.verb rest c.in_err-read_last_path-in-Take.field-0.0 _ (last_path_in
    rest)
    (λ path. Ok (commands.Take path)) (ap (λ v. arguments_in c.args.form v rest) c.in-Take.is)
    c.from_residual-in_err-read_last_path-in-Take.ensures.1
    c.in_err-read_last_path-in-Take.ensures

pub returns-in_err-read_last_path-in-Publish : goal.returns-in_err-read_last_path-in-Publish
returns-in_err-read_last_path-in-Publish c =
    let rest = c.args.rest.now in
    faulty c.args.form c.args.verb rest c.in_err-read_last_path-in-Publish.field-0.0 _
    (last_path_in rest)
    (λ path. Ok (commands.Publish path)) (ap (λ v. arguments_in c.args.form v rest) c.in-Publish.is)
    c.from_residual-in_err-read_last_path-in-Publish.ensures.1
    c.in_err-read_last_path-in-Publish.ensures
