-- The ends of the commands that read.
use Rattle.std.proofs.Common.{◌≡◌, ℕ, ◌+◌, ◌-◌, ◌≤◌, ◌<◌, List, [], refl}
use Rattle.std.proofs.Common.{sym, ◌∙◌, ap, subst, arith}
use Rattle.client_session.specs.Handles.{Handles}
use Rattle.client_session.specs.Turns.{Answered, IsPlain, MayTurn, Opens, Outrun, account_of}
use Rattle.client_session.specs.Turns.{bounds}
use Rattle.client_session.specs.declared.given.Given.{Given}
use Rattle.client_session.specs.declared.given.Opened.{Opened}
use Rattle.client_session.specs.declared.journal.Journal.{Journal}
use Rattle.client_history.specs.Demands.{reply_asks}
use Rattle.client_history.specs.Progress.{HasRead, IsAccount, KnowsTree, MakesNone}
use Rattle.client_history.specs.State.{ClientState, IsReady, Rests}
use Rattle.client_history.specs.Turns.{Lost, Turned}
use Rattle.client_history.proofs.Commands.{old_before, old_gone, old_is}
use Rattle.client_history.proofs.Reading.{known_on, read_more, read_on, tree_known}
use Rattle.client_history.proofs.States.{none_lost, rests_none, rests_then}
use Rattle.client_history.proofs.Turning.{draft_turned, read_turned}
use Rattle.doc_model.specs.Answers.{text_shown, told}
use Rattle.doc_model.specs.Store.{answer}
use Rattle.doc_model.specs.declared.command.Command.{Command}
use Rattle.doc_model.specs.declared.command.Command.TheVariants as command
use Rattle.doc_model.specs.declared.command.Reply.{Reply}
use Rattle.doc_model.specs.declared.command.Reply.TheVariants as reply
use Rattle.doc_records.specs.Trees.{tree_of}
use Rattle.doc_tree.specs.Tree.{DocTree, node}
use Rattle.trails.specs.Asks.{Shows}
use Rattle.version_rule.specs.Fits.{Fits}
use Rattle.version_rule.specs.Pass.{reading}

pub account_is : (j : Journal) (s : ClientState) → j.last ≤ s.pass.seen
    → IsAccount (account_of j s) s
account_is j s last = record { draft = refl; last = last }

-- Nothing was made, and there is room for every reading.
pub rests_lost : {places : ℕ} {s t : ClientState} → 9_000 + places ≤ s.room
    → Rests places s t
    → Lost s t
rests_lost room rests =
    none_lost (let left = rests.room in omega (arith, left, room)) (rests_none rests)

-- what the latest version's tree is known to be, is known after a call too
pub opens_knows : {At : Type 0} {s t u : ClientState} {h : Handles At} {o : Opened At}
    → Opens s t h o → Rests 8 t u → KnowsTree u.pass o.version.number (h.tree o.root)
opens_knows {t = t} {u = u} {h = h} {o = o} opens rests =
    known_on t.pass u.pass o.version.number (h.tree o.root) rests.lasts.passes opens.holds.knows

module _ (j : Journal) (c : Command) {s : ClientState} (may : MayTurn j s) where
  -- what was read at a version, and then a reply that tells of it
  pub read_ends : {t u : ClientState} (g : Given) (v : ℕ) → g.kept ≡ g.reply → g.place ≡ v
      → IsPlain g.reply → HasRead v [] s t → MakesNone t u
      → Shows (reply_asks g.reply) t.marks u.marks → IsReady u
      → ((trees : List DocTree) → Fits trees u.pass
      → answer (bounds j.limits) trees v (account_of j s) c ≡ told g.reply v)
      → Answered j c s u g
  read_ends {u = u} g v kept place plain read none shows ready is = record {
    turned = subst
        (λ (p : ℕ). Turned (bounds j.limits) j.log.client (account_of j s) c s u g.reply p)
        (sym place)
        (read_turned (bounds j.limits) j.log.client (account_of j s) c g.reply v plain.plain
        plain.spare (account_is j s may.last) (read_more read none shows) ready is);
    kept = kept;
  }

  -- the same below the root of the latest version
  pub opened_ends : {At : Type 0} {t u : ClientState} {h : Handles At} {o : Opened At} (g : Given)
      → 9_100 ≤ s.room → Opens s t h o → g.kept ≡ g.reply → g.place ≡ o.version.number
      → IsPlain g.reply → Rests 8 t u → Shows (reply_asks g.reply) t.marks u.marks
      → ((trees : List DocTree) → Fits trees u.pass
      → answer (bounds j.limits) trees o.version.number (account_of j s) c
      ≡ told g.reply o.version.number)
      → Answered j c s u g
  opened_ends {o = o} g room opens kept place plain rests shows is =
      let more = rests_then opens.rests rests in
      read_ends g o.version.number kept place plain opens.read (rests_none rests) shows
      (let left = more.room in omega (arith, left, room)) is

  -- a reply that tells of nothing more than the latest version
  pub current_ends : {t : ClientState} (r : Reply) (v : ℕ) → IsPlain r
      → HasRead v (reply_asks r) s t → IsReady t
      → ((trees : List DocTree) → Fits trees t.pass
      → answer (bounds j.limits) trees v (account_of j s) c ≡ told r v)
      → Answered j c s t (record { reply = r; kept = r; place = v })
  current_ends r v plain read ready is = record {
    turned = read_turned (bounds j.limits) j.log.client (account_of j s) c r v plain.plain
        plain.spare (account_is j s may.last) read ready is;
    kept = refl;
  }

-- the text in the draft
pub draft_ends : (j : Journal) {s u : ClientState} (path : List (List ℕ)) (draft : DocTree)
    (g : Given) → MayTurn j s
    → draft ≡ tree_of s.draft → text_shown j.last j.last (node path draft) ≡ told g.reply j.last
    → g.kept ≡ g.reply → g.place ≡ j.last → IsPlain g.reply → Rests 8 s u
    → 9_100 ≤ s.room
    → Answered j (command.DraftGet path) s u g
draft_ends j {s = s} {u = u} path draft g may same is kept place plain rests room = record {
  turned = subst
      (λ (p : ℕ). Turned (bounds j.limits) j.log.client (account_of j s) (command.DraftGet path)
      s u g.reply p)
      (sym place)
      (draft_turned (bounds j.limits) j.log.client (account_of j s) (command.DraftGet path)
      g.reply refl plain.plain plain.spare (account_is j s may.last) (rests_none rests)
      (let left = rests.room in omega (arith, left, room))
      (λ trees fits. ap (λ (d : DocTree). text_shown j.last j.last (node path d)) (sym same)
      ∙ is));
  kept = kept;
}

module _ (j : Journal) {s t : ClientState} (may : MayTurn j s) (room : 9_100 ≤ s.room)
    (path : List (List ℕ)) (v back : ℕ) (read : HasRead v [] s t) (first : Rests 1 s t) where
  pub old_before_ends : v < back
      → Answered j (command.Old back path) s t
      (record { reply = reply.Before v; kept = reply.Before v; place = v })
  old_before_ends far =
      current_ends j (command.Old back path) may (reply.Before v) v
      (record { plain = refl; spare = refl }) read
      (let left = first.room in omega (arith, left, room))
      (λ trees fits. old_before (bounds j.limits) (account_of j s) v back path far trees)

  pub old_gone_ends : (wanted : ℕ) → v - back ≡ wanted → back ≤ v
      → j.limits.keep ≤ back
      → Answered j (command.Old back path) s t
      (record { reply = reply.Gone v wanted; kept = reply.Gone v wanted; place = v })
  old_gone_ends wanted is there far =
      current_ends j (command.Old back path) may (reply.Gone v wanted) v
      (record { plain = refl; spare = refl }) read
      (let left = first.room in omega (arith, left, room))
      (λ trees fits. old_gone (bounds j.limits) (account_of j s) v back path there far trees
      ∙ ap (λ (n : ℕ). told (reply.Gone v n) v) is)

  -- what was read at an older version
  pub old_ends : {u w x : ClientState} (older wanted : ℕ) (tree : DocTree) (g : Given)
      → older + back ≡ v → v - back ≡ wanted → back < j.limits.keep
      → Rests 1 t u → w.pass ≡ reading older tree u.pass → Rests 1 u w
      → text_shown wanted v (node path tree) ≡ told g.reply v
      → g.kept ≡ g.reply → g.place ≡ v → IsPlain g.reply → Rests 8 w x
      → Shows (reply_asks g.reply) w.marks x.marks
      → Answered j (command.Old back path) s x g
  old_ends {u = u} {w = w} {x = x} older wanted tree g total is near two pass three told_is kept
      place plain four shows =
      let rests = rests_then first (rests_then two (rests_then three four)) in
      let same : older ≡ wanted = omega (arith, total, is) in
      read_ends j (command.Old back path) may g v kept place plain
      (read_on read (rests_none (rests_then two three))) (rests_none four) shows
      (let left = rests.room in omega (arith, left, room))
      (λ trees fits. old_is (bounds j.limits) (account_of j s) v back path x.pass tree older
      (node path tree) near total (known_on w.pass x.pass older tree four.lasts.passes
      (tree_known u.pass w.pass older tree pass)) refl trees fits
      ∙ ap (λ (n : ℕ). text_shown n v (node path tree)) same ∙ told_is)

-- a newer version has cut off the one that was wanted
pub cut_ends : {s t u : ClientState} (v : ℕ) → HasRead v [] s t → Rests 1 s t → Rests 1 t u
    → 9_100 ≤ s.room → v < u.pass.seen → Outrun s u
cut_ends v read one two room newer = record {
  lost = rests_lost (omega (arith, room)) (rests_then one two);
  newer = let x = read.not_below in omega (arith, x, newer);
}
