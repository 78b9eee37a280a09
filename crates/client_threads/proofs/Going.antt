-- Commands one after the other: what was answered is the front of the script.
use Rattle.std.proofs.Common.{◌≡◌, ◌≤◌, ◌<◌, ℕ, suc, List, [], ◌∷◌}
use Rattle.std.proofs.Common.{◌++◌, length, take, get_or}
use Rattle.std.proofs.Common.{refl, sym, ◌∙◌, ap, subst, arith}
use Rattle.std.proofs.Math.Seq.{take-length, take-suc}
use Rattle.std.proofs.lemmas.List.{append-nil, append_assoc, length-map, length-take-le, map-append}
use Rattle.run_limits.specs.declared.TheConstants.{MOST_COMMANDS}
use Rattle.client_run.specs.Answers.{Answered, IsSameClient}
use Rattle.client_run.specs.Own.{MayAnswer}
use Rattle.client_run.specs.declared.session.Session.{Session}
use Rattle.doc_model.specs.ClientLog.{ClientLog}
use Rattle.doc_model.specs.declared.command.Command.{Command}
use Rattle.doc_model.specs.declared.command.Entry.{Entry}
use Rattle.doc_model.specs.declared.command.Reply.{Reply}
use Rattle.mutator_seat.specs.Bound.{Bound}
use Rattle.version_rule.specs.Pass.{Pass}
use Rattle.version_store.proofs.Lasting.{same_then}
use Rattle.client_threads.specs.Clients.{commands_of}
use Rattle.client_threads.specs.Going.{Waits, Went, WentSome}
use Rattle.client_threads.proofs.Waiting.{waits_mutator, waits_same}

-- One command.

module _ (s : Session) (m : Bound Pass) (t : Session) (n : Bound Pass) where
  pub went_on : (c : Command) (reply : Reply) → MayAnswer t n → IsSameClient s m t n
      → Answered c s m t n reply → Went (c ∷ []) s m t n
  went_on c reply may same answered = record {
    may = may;
    same = same;
    commands = ap commands_of answered.enters.entries
        ∙ map-append (λ (e : Entry). e.command) s.journal.log.entries _;
  }

  pub went_none : MayAnswer t n → IsSameClient s m t n
      → t.journal.log.entries ≡ s.journal.log.entries → Went [] s m t n
  went_none may same entries = record {
    may = may;
    same = same;
    commands = ap commands_of entries ∙ sym (append-nil (commands_of s.journal.log.entries));
  }

-- The same client, after a wait and over two calls.

still_client : (s : Session) (a b : Bound Pass) → Waits a b → IsSameClient s a s b
still_client s a b waits = record {
  mutator = waits_mutator a b waits;
  limits = refl;
  client = refl;
  minor_room = refl;
  promoter = refl;
}

client_then : (s t u : Session) (a b c : Bound Pass) → IsSameClient s a t b
    → IsSameClient t b u c → IsSameClient s a u c
client_then s t u a b c first second = record {
  mutator = same_then a b c first.mutator second.mutator;
  limits = second.limits ∙ first.limits;
  client = second.client ∙ first.client;
  minor_room = second.minor_room ∙ first.minor_room;
  promoter = second.promoter ∙ first.promoter;
}

-- after a wait
pub waited_went : (more : List Command) (s t : Session) (a m n : Bound Pass) → Waits a m
    → Went more s m t n → Went more s a t n
waited_went more s t a m n waits went = record {
  may = went.may;
  same = client_then s s t a m n (still_client s a m waits) went.same;
  commands = went.commands;
}

-- Commands one after the other.

-- Room for entries of a log.

-- the session with this log
abbrev pub with_log : Session → ClientLog → Session
with_log s log = record s { journal = record s.journal { log = log } }

-- only the room differs in a log that has these entries and is of this client
same_log : (old new : ClientLog) → new.client ≡ old.client → new.entries ≡ old.entries
    → record old { spare = new.spare } ≡ new
same_log old new client entries =
    sym (ap (λ (c : ℕ). record new { client = c }) client
    ∙ ap (λ (es : List Entry). record new { client = old.client; entries = es }) entries)

may_roomed : (s : Session) (m : Bound Pass) (spare : ℕ) → MayAnswer s m
    → MayAnswer (with_log s (record s.journal.log { spare = spare })) m
may_roomed s m spare may = record {
  client = may.client;
  step = record {
    keep = may.step.keep;
    own = may.step.own;
    commits = may.step.commits;
    seen = may.step.seen;
    keeps_up = may.step.keeps_up;
    turns = may.step.turns;
    claims = may.step.claims;
    trimmed = may.step.trimmed;
  };
  sound = may.sound;
  ready = may.ready;
  settled = may.settled;
  whole = may.whole;
  copied = may.copied;
}

pub may_with_room : (s : Session) (m : Bound Pass) (log : ClientLog)
    → log.client ≡ s.journal.log.client → log.entries ≡ s.journal.log.entries → MayAnswer s m
    → MayAnswer (with_log s log) m
may_with_room s m log client entries may =
    subst (λ (l : ClientLog). MayAnswer (with_log s l) m)
    (same_log s.journal.log log client entries) (may_roomed s m log.spare may)

pub client_with_room : (s : Session) (m : Bound Pass) (log : ClientLog)
    → log.client ≡ s.journal.log.client → IsSameClient s m (with_log s log) m
client_with_room s m log client = record {
  mutator = waits_mutator m m (waits_same m);
  limits = refl;
  client = client;
  minor_room = refl;
  promoter = refl;
}

pub went_then : (xs ys : List Command) (s t u : Session) (a b c : Bound Pass) → Went xs s a t b
    → Went ys t b u c → Went (xs ++ ys) s a u c
went_then xs ys s t u a b c first second = record {
  may = second.may;
  same = client_then s t u a b c first.same second.same;
  commands = second.commands
      ∙ ap (λ (cs : List Command). cs ++ ys) first.commands
      ∙ append_assoc (commands_of s.journal.log.entries) xs ys;
}

module _ (script : List Command) (s : Session) (a : Bound Pass) (i : ℕ) (t : Session)
    (b : Bound Pass) (first : Went (take i script) s a t b) where
  pub went_next : (d : Command) → i < length script → (u : Session) (c : Bound Pass)
      → Went (get_or script i d ∷ []) t b u c → Went (take (suc i) script) s a u c
  went_next d there u c second =
      subst (λ (cs : List Command). Went cs s a u c) (sym (take-suc script i d there))
      (went_then (take i script) (get_or script i d ∷ []) s t u a b c first second)

  pub went_some : (u : Session) (c : Bound Pass) → Went [] t b u c → WentSome script s a u c
  went_some u c second = record {
    count = i;
    went = subst (λ (cs : List Command). Went cs s a u c) (append-nil (take i script))
        (went_then (take i script) [] s t u a b c first second);
  }

  -- the log has room for one more
  pub went_few : i < length script → length script ≤ MOST_COMMANDS → s.journal.log.entries ≡ []
      → length t.journal.log.entries < MOST_COMMANDS
  went_few there short none =
      let many : length t.journal.log.entries ≡ i =
      sym (length-map t.journal.log.entries (λ (e : Entry). e.command))
      ∙ ap (λ (cs : List Command). length cs)
      (first.commands ∙ ap (λ (es : List Entry). commands_of es ++ take i script) none)
      ∙ length-take-le i script (omega (arith, there)) in
      omega (arith, many, there, short)

pub went_all : (script : List Command) (s t : Session) (a b : Bound Pass)
    → Went (take (length script) script) s a t b → Went script s a t b
went_all script s t a b went =
    subst (λ (cs : List Command). Went cs s a t b) (take-length script) went
