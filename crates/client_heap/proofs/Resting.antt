-- What a call that carries everything on leaves of the client's state and of what it holds.
use Rattle.std.proofs.Common.{◌≡◌, ◌≤◌, ◌+◌, ℕ, length, refl, sym}
use Rattle.std.proofs.Common.{◌∙◌, ap, subst, arith}
use Rattle.client_trees.specs.declared.at.NodeAt.{NodeAt}
use Rattle.client_trees.specs.Records.{stands_on}
use Rattle.client_session.specs.Handles.{Edits, Still}
use Rattle.client_trees.specs.Nodes.{IsTreeAt, tree_at}
use Rattle.client_history.specs.State.{Lasts, Rests}
use Rattle.doc_records.specs.Trees.{IsTreeNode, tree_of}
use Rattle.minor_heap.specs.Nursery.{Nursery}
use Rattle.mutator_seat.specs.Bound.{Bound}
use Rattle.version_rule.specs.Pass.{Pass, commit_numbers}
use Rattle.client_heap.specs.Carries.{Carries, Follows}
use Rattle.client_heap.specs.Shows.{handles_of, node_term, state_of}
use Rattle.client_heap.specs.Sound.{IsSound}
use Rattle.client_heap.proofs.Carrying.{stands_more}

module _ (m n : Bound Pass) (old new : Nursery) (f : Follows m n old new) where
  pub lasts_on : (d e : NodeAt) (b k : ℕ) → Lasts (state_of m old d b) (state_of n new e k)
  lasts_on d e b k = record {
    cells = f.cells;
    passes = record {
      narrows = f.lasts.narrows;
      keep = f.lasts.keep;
      seen = f.lasts.seen;
      cut = f.lasts.cut;
    };
    grown = f.lasts.grown;
    claims = f.lasts.claims;
  }

module _ (places : ℕ) (m n : Bound Pass) (old new : Nursery) (c : Carries places m n old new)
  where
    module _ (d : NodeAt) (b : ℕ) (sound : IsSound m old d b) (small : b ≤ places) where
      draft_stands : stands_on m.seat.me.known old.records places d
      draft_stands = stands_more m.seat.me.known old.records b places d small sound.stands

      pub draft_on : node_term n new d ≡ node_term m old d
      draft_on = c.same d draft_stands

      pub sound_on : b + length new.records + 9100 ≤ m.seat.me.room → IsSound n new d b
      sound_on ready = record {
        inside = c.follows.inside ∙ sound.inside;
        some = sound.some;
        kept = let long = c.longer in omega (arith, long, small);
        stands = c.still d b small sound.stands;
        node = subst IsTreeNode (sym (c.same d draft_stands)) sound.node;
        records =
            let same = c.follows.minor_room in let few = sound.records in omega (arith, same, few);
        places =
            let same = c.follows.minor_room in
            let more = c.follows.room in
            let few = sound.places in
            omega (arith, same, more, few);
        ready = let more = c.follows.room in omega (arith, more, ready);
      }

      pub rests_on : (more : ℕ)
          → commit_numbers n.seat.me.pass ≡ commit_numbers m.seat.me.pass
          → n.seat.me.own.claims ≡ m.seat.me.own.claims
          → length new.records ≡ length old.records
          → length n.seat.me.own.held ≤ length m.seat.me.own.held + more
          → Rests more (state_of m old d b) (state_of n new d b)
      rests_on more commits claims records held = record {
        lasts = lasts_on m n old new c.follows d d b b;
        claims = claims;
        commits = commits;
        draft = draft_on;
        base = refl;
        room = let same = c.follows.room in omega (arith, same, records, held);
        spare = let same = c.follows.minor_room in omega (arith, same, records);
      }

      pub edits_on : n.seat.me.pass ≡ m.seat.me.pass
          → length new.records ≤ length old.records + 509
          → length n.seat.me.own.held ≤ length m.seat.me.own.held + 8_192
          → Edits 0 (state_of m old d b) (state_of n new d b)
      edits_on pass records held = record {
        lasts = lasts_on m n old new c.follows d d b b;
        pass = pass;
        draft = draft_on;
        base = refl;
        room = let same = c.follows.room in omega (arith, same, records, held);
        spare = let same = c.follows.minor_room in omega (arith, same, records);
      }

-- All that is held is carried on.
module _ (m n : Bound Pass) (old new : Nursery)
    (c : Carries (length m.seat.me.own.held) m n old new) where
  pub node_on : (a : NodeAt) → IsTreeAt m old a → IsTreeAt n new a
  node_on a is = record {
    stands = stands_more n.seat.me.known new.records (length m.seat.me.own.held)
        (length n.seat.me.own.held) a c.longer
        (c.still a (length m.seat.me.own.held) (omega arith) is.stands);
    node = subst IsTreeNode (sym (c.same a is.stands)) is.node;
  }

  pub tree_on : (a : NodeAt) → IsTreeAt m old a → tree_at n new a ≡ tree_at m old a
  tree_on a is = ap tree_of (c.same a is.stands)

  pub still_on : Still (handles_of m old) (handles_of n new)
  still_on = record {
    nodes = node_on;
    trees = tree_on;
    versions = λ v is. c.versions v is.knows.there is;
    roots = λ v is. ap tree_of (c.roots v is.knows.there is);
  }
