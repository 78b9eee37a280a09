-- The latest version is taken: its dump, and then its nodes.
use Rattle.std.proofs.Common.{◌≡◌, ◌++◌, ℕ, List, [], ◌∷◌, length, max}
use Rattle.std.proofs.Common.{All, Option, sym, ◌∙◌, ap, subst, arith}
use Rattle.std.specs.Prelude.{None, Vec}
use Rattle.std.specs.declared.alloc.Global.{Global}
use Rattle.std.proofs.lemmas.List.{append-nil}
use Rattle.std.proofs.lemmas.List.Elements.{All-head, All-tail}
use Rattle.cell_words.specs.Term.{Term}
use Rattle.client_trees.specs.Leaves.{LeavesAll}
use Rattle.doc_records.specs.Trees.{tree_of}
use Rattle.doc_tree.specs.Tree.{DocTree, count}
use Rattle.heap_rule.specs.Asks.{known_of, target}
use Rattle.heap_rule.specs.declared.known.Known.{Known}
use Rattle.minor_heap.specs.Nursery.{Nursery}
use Rattle.mutator_seat.specs.Bound.{Bound, held_cells}
use Rattle.trails.specs.Asks.{Grown, InOrder, Shows}
use Rattle.trails.specs.Marks.{Mark}
use Rattle.trails.proofs.Orders.{grown_then, order_after, order_before}
use Rattle.doc_export.specs.Outcome.{Refuses}
use Rattle.doc_export.specs.declared.fault.DumpFault.{DumpFault}
use Rattle.doc_export.specs.declared.fault.DumpFault.TheVariants as faults
use Rattle.doc_export.proofs.Keeping.{keeps_lasts, keeps_left}
use Rattle.version_rule.specs.Fits.{Fits, HasTree}
use Rattle.version_rule.specs.Knowing.{IsVersionKnown, KnowsVersion, root_told, term_or_null}
use Rattle.version_rule.specs.Pass.{Pass, Reading, reading}
use Rattle.version_store.specs.Calls.{StaysKnown, version_asks}
use Rattle.version_store.specs.Held.{GivesLatest, IsHeld, root_at}
use Rattle.version_store.specs.Lasts.{IsSameMutator, LastsAcross, marks}
use Rattle.version_rule.specs.declared.held.HeldVersion.{HeldVersion}
use Rattle.version_store.proofs.Remaining.{version_still}
use Rattle.version_store.proofs.Lasting.{lasts_then, same_then}
use Rattle.doc_export.specs.Guests.{Copies, IsDumpOf, MayTell, Tells, TellsWithout}
use Rattle.doc_export.specs.declared.guest.Copied.{Copied}

-- A reader of trees after a call of versions.
module _ (a b c : Bound Pass) (old new : Nursery) (left : LeavesAll b c old new) where
  pub left_same : IsSameMutator a b → IsSameMutator a c
  left_same first = same_then a b c first (keeps_left b c old new left.leaves).same

  pub left_lasts : LastsAcross a b → LastsAcross a c
  left_lasts first =
      lasts_then first
      (keeps_lasts (length b.seat.me.own.held) b c (keeps_left b c old new left.leaves))

pub all_last : {A : Type 0} (P : A → Type 0) (xs : List A) (x : A) → All P (xs ++ x ∷ [])
    → P x
all_last P [] x all = All-head P x [] all
all_last P (y ∷ ys) x all = all_last P ys x (All-tail P y (ys ++ x ∷ []) all)

root_known : (k : Known) (number : ℕ) (root : Term) → IsVersionKnown k number root
    → root_told k ≡ root
root_known k number root is = ap root_told is.is ∙ ap term_or_null is.root_is

max_same : (a b n : ℕ) → b ≡ n → a ≡ max b n → a ≡ n
max_same a b n one is = omega (arith, one, is)

-- From the mutator at first to where it took the version, to its dump, and to its nodes.
module _ (m a b : Bound Pass) (v : HeldVersion) (latest : GivesLatest m a v)
    (seen : a.seat.me.pass.seen ≡ v.number)
    (shows : Shows (version_asks (target a.seat.me v.place) v.number) (marks m) (marks a))
    (held : held_cells b ≡ held_cells a)
    (known : StaysKnown (length a.seat.me.own.held) a b)
    (read : b.seat.me.pass
    ≡ reading v.number (tree_of (root_at a v.place)) a.seat.me.pass) where
  version_there : KnowsVersion b.seat.me v.place v.number latest.held.root
  version_there =
      version_still (length a.seat.me.own.held) [] a b known
      (held ∙ sym (append-nil (held_cells a))) v.place v.number latest.held.root
      latest.held.knows.there latest.held.knows

  pub still_held : IsHeld b v
  still_held = record { root = latest.held.root; knows = version_there }

  same_root : root_at a v.place ≡ root_at b v.place
  same_root =
      root_known (known_of a.seat.me v.place) v.number latest.held.root latest.held.knows.known
      ∙ sym (root_known (known_of b.seat.me v.place) v.number latest.held.root
      version_there.known)

  module _ (c : Bound Pass) (nodes : ℕ) (lasts : LastsAcross m a) (then : LastsAcross a b)
      (last : LastsAcross b c)
      (same : IsSameMutator m a) (alike : IsSameMutator a b) (still : IsSameMutator b c)
      (counted : nodes ≡ count (tree_of (root_at b v.place)))
      (again : c.seat.me.pass
      ≡ reading v.number (tree_of (root_at b v.place)) b.seat.me.pass) where
    seen_last : c.seat.me.pass.seen ≡ v.number
    seen_last =
        max_same c.seat.me.pass.seen b.seat.me.pass.seen v.number
        (max_same b.seat.me.pass.seen a.seat.me.pass.seen v.number seen
        (ap (λ (p : Pass). p.seen) read)) (ap (λ (p : Pass). p.seen) again)

    in_order : InOrder (version_asks (target a.seat.me v.place) v.number) (marks c)
    in_order =
        let more : Grown (marks a) (marks c) = grown_then then.grown last.grown in
        subst (λ (ms : List Mark).
        InOrder (version_asks (target a.seat.me v.place) v.number) ms) (sym more.is)
        (order_after more.added
        (subst (λ (ms : List Mark).
        InOrder (version_asks (target a.seat.me v.place) v.number) ms) (sym shows.is)
        (order_before (marks m) shows.shown)))

    fits_last : (trees : List DocTree) → Fits trees c.seat.me.pass
        → HasTree trees v.number (tree_of (root_at b v.place))
    fits_last trees fits =
        all_last (λ (r : Reading). HasTree trees r.number r.tree) b.seat.me.pass.reads
        record { number = v.number; tree = tree_of (root_at b v.place) }
        (subst (λ (p : Pass). All (λ (r : Reading). HasTree trees r.number r.tree) p.reads) again
        fits.reads)

    pub tells : (bytes : Option (Vec ℕ Global))
        → IsDumpOf v.number (tree_of (root_at a v.place)) bytes
        → Tells c.seat.me.pass (marks c) v.number nodes bytes
    tells bytes is = record {
      latest = seen_last;
      cell = target a.seat.me v.place;
      read = in_order;
      tree = tree_of (root_at b v.place);
      fits = fits_last;
      counted = counted;
      dumped = subst (λ (t : Term). IsDumpOf v.number (tree_of t) bytes) same_root is;
    }

    pub copies : (copied : Option Copied) → MayTell c.seat.me.pass (marks c) copied
        → Copies m c copied
    copies copied may = record {
      same = same_then m a c same (same_then a b c alike still);
      keep = last.keep ∙ then.keep ∙ lasts.keep;
      commits = ap (λ (p : Pass). p.commits) again ∙ ap (λ (p : Pass). p.commits) read
          ∙ ap (λ (p : Pass). p.commits) latest.pass;
      tells = may;
    }

    -- where there is no dump
    pub tells_without : (fault : DumpFault) → Refuses (count (tree_of (root_at a v.place))) fault
        → (copied : Option Copied) → TellsWithout fault v.number nodes copied
        → MayTell c.seat.me.pass (marks c) copied
    tells_without (faults.TooMany told) refused copied is =
        subst (λ (o : Option Copied). MayTell c.seat.me.pass (marks c) o) (sym is)
        (tells None refused.1)
    tells_without faults.NoMemory refused copied is =
        subst (λ (o : Option Copied). MayTell c.seat.me.pass (marks c) o) (sym is) tt
