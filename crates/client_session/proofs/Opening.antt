-- The latest version and its root, read one after the other.
use Rattle.std.proofs.Common.{◌≡◌, ℕ, ◌≤◌, sym, ◌∙◌, subst}
use Rattle.client_session.specs.Handles.{Handles, Still}
use Rattle.client_session.specs.Turns.{Opens}
use Rattle.version_rule.specs.declared.held.HeldVersion.{HeldVersion}
use Rattle.version_rule.specs.Shows.{version_asks}
use Rattle.client_history.specs.State.{ClientState, Rests}
use Rattle.client_history.proofs.Reading.{read_current, read_on, tree_known}
use Rattle.client_history.proofs.States.{rests_none, rests_then}
use Rattle.doc_tree.specs.Tree.{DocTree}
use Rattle.trails.specs.Asks.{Shows}
use Rattle.version_rule.specs.Pass.{reading, seeing}

module _ {At : Type 0} (s t u : ClientState) (h k : Handles At) (v : HeldVersion) (root : At) where
  pub opens_of : (cell : ℕ) → Shows (version_asks cell v.number) s.marks t.marks
      → t.pass ≡ seeing v.number s.pass → s.pass.seen ≤ v.number → h.is_version v
      → Rests 1 s t
      → u.pass ≡ reading v.number (h.root v) t.pass → k.is_node root
      → k.tree root ≡ h.root v
      → Rests 1 t u → Still h k
      → Opens s u k (record { version = v; root = root })
  opens_of cell shows seen low held one read node tree two still = record {
    read = read_on (read_current v.number cell shows seen low (rests_none one)) (rests_none two);
    holds = record {
      version = still.versions v held;
      node = node;
      same = still.roots v held ∙ sym tree;
      knows = tree_known t.pass u.pass v.number (k.tree root)
          (subst (λ (x : DocTree). u.pass ≡ reading v.number x t.pass) (sym tree) read);
    };
    rests = rests_then one two;
  }
