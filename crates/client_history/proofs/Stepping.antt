-- A log stays in step with its pass and its trail: at the opening, after a turn that was lost, and
-- after one that was answered.
use Rattle.std.proofs.Common.{◌≡◌, ℕ, ◌+◌, ◌<◌, ◌≤◌, Bool, true, false, cond, List, [], ◌∷◌, ◌++◌}
use Rattle.std.proofs.Common.{All, length, map, inl, inr, refl, sym, ◌∙◌, ap, subst}
use Rattle.std.proofs.Common.{arith, unwrap_or}
use Rattle.std.proofs.lemmas.Bool.{cases_lt}
use Rattle.std.proofs.lemmas.List.{append-nil, length-append, length_push}
use Rattle.std.proofs.lemmas.List.Elements.{All-nil, All-push, All-weaker}
use Rattle.cell_words.specs.Term.{Term}
use Rattle.doc_model.specs.Agreement.{ok_places}
use Rattle.doc_model.specs.Answers.{Limits, is_ok}
use Rattle.doc_model.specs.ClientLog.{ClientLog}
use Rattle.doc_model.specs.Growth.{IsAnswered, KeepsUp}
use Rattle.doc_model.specs.declared.answer.Account.{Account}
use Rattle.doc_model.specs.declared.command.Command.{Command}
use Rattle.doc_model.specs.declared.command.Entry.{Entry}
use Rattle.doc_model.specs.declared.command.Reply.{Reply}
use Rattle.doc_model.proofs.Growth.{keeps_up}
use Rattle.doc_records.specs.Trees.{tree_of}
use Rattle.doc_tree.specs.Tree.{DocTree, empty}
use Rattle.trails.specs.Stretches.{InTurn}
use Rattle.trails.proofs.Stretches.{turns_grown, turns_had}
use Rattle.version_rule.specs.Fits.{Fits, Grows}
use Rattle.version_rule.specs.Pass.{Pass, commit_numbers}
use Rattle.version_rule.specs.Tied.{Tied}
use Rattle.version_rule.proofs.Tying.{oks_append}
use Rattle.client_history.specs.Demands.{Demand}
use Rattle.client_history.specs.Progress.{IsAccount}
use Rattle.client_history.specs.State.{ClientState}
use Rattle.client_history.specs.Turns.{Answers, IsInStep, Lost, Turned, account_in, entry_for}
use Rattle.client_history.specs.Turns.{new_numbers}

-- The numbers of the versions that a log made.

ok_one : (b : Bool) (e : Entry)
    → map (λ (x : Entry). x.place) (cond b (e ∷ []) []) ≡ new_numbers b e.place
ok_one true e = refl
ok_one false e = refl

oks_more : (es : List Entry) (e : Entry)
    → ok_places (es ++ e ∷ []) ≡ ok_places es ++ new_numbers (is_ok e.reply) e.place
oks_more es e =
    oks_append es (e ∷ []) ∙ ap (λ (ns : List ℕ). ok_places es ++ ns) (ok_one (is_ok e.reply) e)

-- a version that was made took a claim
claims_more : (b : Bool) (ns : List ℕ) (place x y : ℕ) → length ns ≤ x → x ≤ y
    → (b ≡ true → x < y) → length (ns ++ new_numbers b place) ≤ y
claims_more true ns place x y few more rose =
    let lt = rose refl in let is = length-append ns (place ∷ []) in omega (arith, few, lt, is)
claims_more false ns place x y few more rose =
    let is = length-append {A = ℕ} ns [] in omega (arith, few, more, is)

-- the links are cut far enough for a new version with this number
abbrev IsTrimmed : ℕ → ℕ → ℕ → Type 0
IsTrimmed cut keep made = made + 1 ≤ cut + keep

-- what is cut stays cut
trimmed_on : (keep x y : ℕ) (ns : List ℕ) → x ≤ y → All (IsTrimmed x keep) ns
    → All (IsTrimmed y keep) ns
trimmed_on keep x y ns more far =
    All-weaker (IsTrimmed x keep) (IsTrimmed y keep)
    (λ (n : ℕ) (was : IsTrimmed x keep n). omega (arith, more, was)) ns far

-- where fewer versions than stay are made, no link has to be cut
trimmed_one : (keep place x : ℕ) → (keep ≤ place → IsTrimmed x keep place)
    → IsTrimmed x keep place
trimmed_one keep place x cut = elim (cases_lt place keep) [
  | inl few ↦ omega (arith, few)
  | inr many ↦ cut many
]

trimmed_more : (b : Bool) (keep place x : ℕ) (ns : List ℕ)
    → (b ≡ true → keep ≤ place → IsTrimmed x keep place) → All (IsTrimmed x keep) ns
    → All (IsTrimmed x keep) (ns ++ new_numbers b place)
trimmed_more true keep place x ns cut far =
    All-push (IsTrimmed x keep) ns place far (trimmed_one keep place x (cut refl))
trimmed_more false keep place x ns cut far =
    subst (λ (ms : List ℕ). All (IsTrimmed x keep) ms) (sym (append-nil ns)) far

-- the account of a client whose log is in step
pub step_account : (l : Limits) (s : ClientState) (last : ℕ) (log : ClientLog)
    → IsInStep l s last log → IsAccount (account_in s last (length log.entries)) s
step_account l s last log step = record { draft = refl; last = step.seen }

-- The opening.

pub in_step_opening : (l : Limits) (s : ClientState) (log : ClientLog) → s.pass.keep ≡ l.keep
    → commit_numbers s.pass ≡ [] → tree_of s.draft ≡ empty → log.entries ≡ []
    → IsInStep l s 0 log
in_step_opening l s log keep none draft entries =
    let May : List DocTree → Type 0 = λ trees. Fits trees s.pass in
    let opens : KeepsUp l May (account_in s 0 0) [] = record {
      follows = λ trees fits. tt;
      account = λ trees fits.
          ap (λ (d : DocTree). record { draft = d; last = 0; answered = 0 }) (sym draft);
    } in
    record {
      keep = keep;
      own = subst (λ (es : List Entry). All (λ (e : Entry). e.client ≡ log.client) es)
          (sym entries) (All-nil (λ (e : Entry). e.client ≡ log.client));
      commits = ap ok_places entries ∙ sym none;
      seen = omega arith;
      keeps_up = subst (λ (es : List Entry). KeepsUp l May (account_in s 0 (length es)) es)
          (sym entries) opens;
      turns = subst (λ (es : List Entry). InTurn (Demand s.cells) es s.marks) (sym entries) tt;
      claims = let is : length (ok_places log.entries) ≡ 0 =
          ap (λ (es : List Entry). length (ok_places es)) entries in omega (arith, is);
      trimmed = subst (λ (es : List Entry). All (IsTrimmed s.pass.cut l.keep) (ok_places es))
          (sym entries) (All-nil (IsTrimmed s.pass.cut l.keep));
    }

-- A turn that was lost.

pub in_step_lost : (l : Limits) {s t : ClientState} (last : ℕ) (log : ClientLog)
    → IsInStep l s last log → Lost s t → IsInStep l t last log
in_step_lost l {s = s} {t = t} last log step lost = record {
  keep = lost.lasts.passes.keep ∙ step.keep;
  own = step.own;
  commits = step.commits ∙ sym lost.commits;
  seen = let x = step.seen in let y = lost.lasts.passes.seen in omega (arith, x, y);
  keeps_up = record {
    follows = λ trees fits. step.keeps_up.follows trees (lost.lasts.passes.narrows trees fits);
    account = λ trees fits.
        step.keeps_up.account trees (lost.lasts.passes.narrows trees fits)
        ∙ ap (λ (d : Term).
        record { draft = tree_of d; last = last; answered = length log.entries })
        (sym lost.draft);
  };
  turns = subst (λ (n : ℕ). InTurn (Demand n) log.entries t.marks) (sym lost.lasts.cells)
      (turns_grown (Demand s.cells) log.entries s.marks step.turns lost.lasts.grown);
  claims = let x = step.claims in let y = lost.lasts.claims in omega (arith, x, y);
  trimmed = trimmed_on l.keep s.pass.cut t.pass.cut (ok_places log.entries)
      lost.lasts.passes.cut step.trimmed;
}

-- One that was answered.

module _ (l : Limits) (client : ℕ) (m : Account) (c : Command) (r : Reply) (place : ℕ) where
  -- the entry is answered as doc_model says of one
  answered : (p : Pass) (draft : DocTree) (h : Answers l p client m c r place draft)
      → IsAnswered l (λ trees. Fits trees p) m (entry_for client m c r place)
      record { reply = r; place = place; made = h.made; draft = h.drafted }
  answered p draft h = record {
    numbered = refl;
    rises = h.rises;
    says = (refl, refl);
    known = λ trees fits. let x = h.seen in let y = fits.seen in omega (arith, x, y);
    is = h.is;
    made = h.made_is;
  }

pub in_step_turned : (l : Limits) {s t : ClientState} (last : ℕ) (log new : ClientLog) (c : Command)
    (r : Reply) (place : ℕ) → IsInStep l s last log
    → Turned l log.client (account_in s last (length log.entries)) c s t r place
    → new.client ≡ log.client
    → new.entries ≡ log.entries
    ++ entry_for log.client (account_in s last (length log.entries)) c r place ∷ []
    → IsInStep l t place new
in_step_turned l {s = s} {t = t} last log new c r place step turned same entries =
    let m : Account = account_in s last (length log.entries) in
    let e : Entry = entry_for log.client m c r place in
    let es : List Entry = log.entries ++ e ∷ [] in
    let h = turned.answers in
    let May : List DocTree → Type 0 = λ trees. Fits trees t.pass in
    let behind : Account = record {
      draft = unwrap_or h.drafted m.draft;
      last = place;
      answered = length log.entries + 1;
    } in
    let grown : KeepsUp l May behind es =
    keeps_up l (λ trees. Fits trees s.pass) May m log.entries e _ step.keeps_up
    turned.lasts.passes.narrows (answered l log.client m c r place t.pass (tree_of t.draft) h) in
    let account : behind ≡ account_in t place (length es) =
    ap (λ (d : DocTree). record { draft = d; last = place; answered = length log.entries + 1 })
    (sym h.left)
    ∙ ap (λ (n : ℕ). account_in t place n) (sym (length_push log.entries e)) in
    let kept : KeepsUp l May (account_in t place (length es)) es =
    subst (λ (x : Account). KeepsUp l May x es) account grown in
    let own : All (λ (x : Entry). x.client ≡ log.client) es =
    All-push (λ (x : Entry). x.client ≡ log.client) log.entries e step.own refl in
    let owned : All (λ (x : Entry). x.client ≡ new.client) es =
    subst (λ (n : ℕ). All (λ (x : Entry). x.client ≡ n) es) (sym same) own in
    let turns : InTurn (Demand s.cells) es t.marks =
    turns_had (Demand s.cells) log.entries e s.marks step.turns turned.meets in
    let met : InTurn (Demand t.cells) es t.marks =
    subst (λ (n : ℕ). InTurn (Demand n) es t.marks) (sym turned.lasts.cells) turns in
    record {
      keep = turned.lasts.passes.keep ∙ step.keep;
      own = subst (λ (xs : List Entry). All (λ (x : Entry). x.client ≡ new.client) xs)
          (sym entries) owned;
      commits = ap ok_places entries ∙ oks_more log.entries e
          ∙ ap (λ (ns : List ℕ). ns ++ new_numbers (is_ok r) place) step.commits
          ∙ sym turned.commits;
      seen = h.seen;
      keeps_up = subst (λ (xs : List Entry). KeepsUp l May (account_in t place (length xs)) xs)
          (sym entries) kept;
      turns = subst (λ (xs : List Entry). InTurn (Demand t.cells) xs t.marks) (sym entries) met;
      claims = let few : length (ok_places log.entries ++ new_numbers (is_ok r) place) ≤ t.claims =
          claims_more (is_ok r) (ok_places log.entries) place s.claims t.claims step.claims
          turned.lasts.claims turned.rose in
          let is : length (ok_places new.entries)
          ≡ length (ok_places log.entries ++ new_numbers (is_ok r) place) =
          ap (λ (xs : List Entry). length (ok_places xs)) entries
          ∙ ap length (oks_more log.entries e) in
          omega (arith, few, is);
      trimmed =
          subst (λ (ns : List ℕ). All (IsTrimmed t.pass.cut l.keep) ns)
          (sym (ap ok_places entries ∙ oks_more log.entries e))
          (trimmed_more (is_ok r) l.keep place t.pass.cut (ok_places log.entries) turned.trimmed
          (trimmed_on l.keep s.pass.cut t.pass.cut (ok_places log.entries)
          turned.lasts.passes.cut step.trimmed));
    }

-- What a log in step promises.

pub tied : (l : Limits) (s : ClientState) (last : ℕ) (log : ClientLog) → IsInStep l s last log
    → Tied l s.pass log
tied l s last log step =
    record { own = step.own; commits = step.commits; follows = step.keeps_up.follows }

pub made_claimed : (l : Limits) (s : ClientState) (last : ℕ) (log : ClientLog)
    → IsInStep l s last log → length (commit_numbers s.pass) ≤ s.claims
made_claimed l s last log step =
    subst (λ (ns : List ℕ). length ns ≤ s.claims) step.commits step.claims

-- a pass that grows with no commit, as at a client's end, keeps a log tied
pub tied_on : (l : Limits) (p q : Pass) (log : ClientLog) → Grows p q
    → commit_numbers q ≡ commit_numbers p → Tied l p log → Tied l q log
tied_on l p q log grows commits was = record {
  own = was.own;
  commits = was.commits ∙ sym commits;
  follows = λ trees fits. was.follows trees (grows.narrows trees fits);
}
