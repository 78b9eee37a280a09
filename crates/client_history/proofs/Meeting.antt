-- What an entry demands of its stretch, from what its calls showed.
use Rattle.std.proofs.Common.{◌≡◌, ℕ, Bool, true, false, List, [], ◌++◌, sym, ◌∙◌, subst}
use Rattle.std.proofs.lemmas.Bool.{false≢true, true≢false}
use Rattle.std.proofs.lemmas.List.{append_cancel_left}
use Rattle.doc_model.specs.Answers.{is_full}
use Rattle.doc_model.specs.History.{seen_by}
use Rattle.doc_model.specs.declared.command.Entry.{Entry}
use Rattle.trails.specs.Asks.{Ask, Grown, Shows}
use Rattle.trails.specs.Claims.{IsFull}
use Rattle.trails.specs.Marks.{Mark}
use Rattle.trails.specs.Stretches.{Had}
use Rattle.trails.proofs.Orders.{grown_same, shows_none, shows_then}
use Rattle.trails.proofs.Stretches.{had_late, had_on, had_whole}
use Rattle.client_history.specs.Demands.{Demand, FullFor, ReadsFor, ReadsShown, is_drafting}
use Rattle.client_history.specs.Demands.{reply_asks}
use Rattle.version_rule.specs.Shows.{version_asks}
use Rattle.client_history.specs.State.{ClientState, Lasts}

-- By cases on the guards.

reads_any : (b : Bool) (e : Entry) (marks : List Mark) → ReadsShown e marks → ReadsFor b e marks
reads_any true e marks shown = tt
reads_any false e marks shown = shown

reads_none : (b : Bool) (e : Entry) (marks : List Mark) → b ≡ true → ReadsFor b e marks
reads_none true e marks is = tt
reads_none false e marks is = absurd (false≢true is)

full_any : (b : Bool) (cells : ℕ) (marks : List Mark) → Had (IsFull cells) [] marks
    → FullFor b cells marks
full_any true cells marks had = had
full_any false cells marks had = tt

full_none : (b : Bool) (cells : ℕ) (marks : List Mark) → b ≡ false → FullFor b cells marks
full_none true cells marks is = absurd (true≢false is)
full_none false cells marks is = tt

-- a stretch of what was added is one of these marks alone
had_alone : (P : List Mark → Type 0) {a b : List Mark} (added : List Mark) → b ≡ a ++ added
    → Had P a b → Had P [] added
had_alone P {a = a} added is had =
    let part = had.before ++ (had.stretch ++ had.after) in
    record {
      before = had.before;
      stretch = had.stretch;
      after = had.after;
      is = append_cancel_left a added part (sym is ∙ had.is);
      meets = had.meets;
    }

module _ (cells : ℕ) (e : Entry) where
  -- the version was read, and what the reply shows
  pub shown_met : {a b : List Mark} (cell : ℕ) → is_full e.reply ≡ false
      → Shows (version_asks cell (seen_by e) ++ reply_asks e.reply) a b → Had (Demand cells e) a b
  shown_met cell plain shows = had_whole (Demand cells e) shows.added shows.is record {
    reads = reads_any (is_drafting e.command) e shows.added (cell, shows.shown);
    full = full_none (is_full e.reply) cells shows.added plain;
  }

  pub reads_met : {a b c : List Mark} (cell : ℕ) → is_full e.reply ≡ false
      → Shows (version_asks cell (seen_by e)) a b → Shows (reply_asks e.reply) b c
      → Had (Demand cells e) a c
  reads_met cell plain version words = shown_met cell plain (shows_then version words)

  -- a reply that shows nothing
  pub plain_met : {a b : List Mark} (cell : ℕ) → is_full e.reply ≡ false → reply_asks e.reply ≡ []
      → Shows (version_asks cell (seen_by e)) a b → Had (Demand cells e) a b
  plain_met {b = b} cell plain silent version =
      reads_met cell plain version
      (subst (λ (asks : List Ask). Shows asks b b) (sym silent) (shows_none grown_same))

  -- a command on the draft
  pub draft_met : {a b : List Mark} → is_drafting e.command ≡ true → is_full e.reply ≡ false
      → Grown a b → Had (Demand cells e) a b
  draft_met drafting plain grown = had_whole (Demand cells e) grown.added grown.is record {
    reads = reads_none (is_drafting e.command) e grown.added drafting;
    full = full_none (is_full e.reply) cells grown.added plain;
  }

  pub draft_full_met : {a b : List Mark} → is_drafting e.command ≡ true → Had (IsFull cells) a b
      → Had (Demand cells e) a b
  draft_full_met drafting had =
      let added = had.before ++ (had.stretch ++ had.after) in
      had_whole (Demand cells e) added had.is record {
        reads = reads_none (is_drafting e.command) e added drafting;
        full = full_any (is_full e.reply) cells added
            (had_alone (IsFull cells) added had.is had);
      }

  -- the version was read, and the heap was found full, in either order
  pub full_met : {a b : List Mark} (cell : ℕ)
      → Shows (version_asks cell (seen_by e) ++ reply_asks e.reply) a b → Had (IsFull cells) a b
      → Had (Demand cells e) a b
  full_met cell shows had = had_whole (Demand cells e) shows.added shows.is record {
    reads = reads_any (is_drafting e.command) e shows.added (cell, shows.shown);
    full = full_any (is_full e.reply) cells shows.added
        (had_alone (IsFull cells) shows.added shows.is had);
  }

  -- lost turns before do no harm
  pub met_late : {a b c : List Mark} → Grown a b → Had (Demand cells e) b c
      → Had (Demand cells e) a c
  met_late grown had = had_late (Demand cells e) grown had

  pub met_on : {a b c : List Mark} → Had (Demand cells e) a b → Grown b c
      → Had (Demand cells e) a c
  met_on had grown = had_on (Demand cells e) had grown

-- a claim that found the heap full, with calls before it and after it

pub full_late : {s t : ClientState} {marks : List Mark} → Lasts s t
    → Had (IsFull t.cells) t.marks marks → Had (IsFull s.cells) s.marks marks
full_late {s = s} {t = t} {marks = marks} lasts had =
    subst (λ (n : ℕ). Had (IsFull n) s.marks marks) lasts.cells
    (had_late (IsFull t.cells) lasts.grown had)

pub full_on : {cells : ℕ} {marks : List Mark} {s t : ClientState}
    → Had (IsFull cells) marks s.marks → Lasts s t → Had (IsFull cells) marks t.marks
full_on {cells = cells} had lasts = had_on (IsFull cells) had lasts.grown
