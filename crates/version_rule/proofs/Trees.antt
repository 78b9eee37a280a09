-- What a pass says of the list of versions, as the pass or the list grows.
use Rattle.std.proofs.Common.{◌≡◌, ℕ, ◌-◌, ◌<◌, ◌≤◌, List, [], ◌∷◌, ◌++◌, length}
use Rattle.std.proofs.Common.{All, max, refl, sym, ◌∙◌, ap, arith}
use Rattle.std.proofs.lemmas.List.{get_or_append_left, length_push, get_or_push}
use Rattle.std.proofs.lemmas.List.Elements.{All-push, All-weaker, All-take, All-same}
use Rattle.std.proofs.lemmas.List.{take_at}
use Rattle.doc_tree.specs.Tree.{DocTree, empty}
use Rattle.doc_model.specs.Store.{tree_at}
use Rattle.version_rule.specs.Fits.{Fits, Grows, HasTree, IsMade, Narrows}
use Rattle.version_rule.specs.Pass.{Commit, Pass, Reading, committed, cutting, reading, seeing}

-- A longer list has the trees of the shorter one.

pub tree_still : (trees : List DocTree) (t : DocTree) (n : ℕ) → n < length trees
    → tree_at (trees ++ t ∷ []) n ≡ tree_at trees n
tree_still trees t n lt = get_or_append_left trees (t ∷ []) empty n lt

pub tree_last : (trees : List DocTree) (t : DocTree) → tree_at (trees ++ t ∷ []) (length trees) ≡ t
tree_last trees t = get_or_push trees t empty (length trees) refl

pub has_still : (trees : List DocTree) (t : DocTree) (n : ℕ) (d : DocTree) → HasTree trees n d
    → HasTree (trees ++ t ∷ []) n d
has_still trees t n d has = record {
  there = let lt = has.there in let more = length_push trees t in omega (arith, lt, more);
  is = tree_still trees t n has.there ∙ has.is;
}

pub has_last : (trees : List DocTree) (t : DocTree) (n : ℕ) → n ≡ length trees
    → HasTree (trees ++ t ∷ []) n t
has_last trees t n is = record {
  there = let more = length_push trees t in omega (arith, is, more);
  is = ap (tree_at (trees ++ t ∷ [])) is ∙ tree_last trees t;
}

made_still : (trees : List DocTree) (t : DocTree) (c : Commit) → IsMade trees c
    → IsMade (trees ++ t ∷ []) c
made_still trees t c is = record {
  later = is.later;
  before = has_still trees t (c.number - 1) c.before is.before;
  made = has_still trees t c.number c.made is.made;
}

-- one version more, of which the pass need not know
pub fits_more : (trees : List DocTree) (t : DocTree) (p : Pass) → Fits trees p
    → Fits (trees ++ t ∷ []) p
fits_more trees t p fits = record {
  opens = tree_still trees t 0 (let lt = fits.seen in omega (arith, lt)) ∙ fits.opens;
  seen = let lt = fits.seen in let more = length_push trees t in omega (arith, lt, more);
  reads = All-weaker (λ (r : Reading). HasTree trees r.number r.tree)
      (λ (r : Reading). HasTree (trees ++ t ∷ []) r.number r.tree)
      (λ r. has_still trees t r.number r.tree) p.reads fits.reads;
  commits = All-weaker (IsMade trees) (IsMade (trees ++ t ∷ [])) (made_still trees t) p.commits
      fits.commits;
}

-- The pass grows.

max_below : (a b n : ℕ) → a < n → b < n → max a b < n
max_below a b n x y = omega (arith, x, y)

pub fits_seeing : (trees : List DocTree) (n : ℕ) (p : Pass) → Fits trees p → n < length trees
    → Fits trees (seeing n p)
fits_seeing trees n p fits lt = record {
  opens = fits.opens;
  seen = max_below p.seen n (length trees) fits.seen lt;
  reads = fits.reads;
  commits = fits.commits;
}

pub fits_cutting : (trees : List DocTree) (n : ℕ) (p : Pass) → Fits trees p → n < length trees
    → Fits trees (cutting n p)
fits_cutting trees n p fits lt = record {
  opens = fits.opens;
  seen = max_below p.seen n (length trees) fits.seen lt;
  reads = fits.reads;
  commits = fits.commits;
}

pub fits_reading : (trees : List DocTree) (n : ℕ) (t : DocTree) (p : Pass) → Fits trees p
    → HasTree trees n t → Fits trees (reading n t p)
fits_reading trees n t p fits has = record {
  opens = fits.opens;
  seen = max_below p.seen n (length trees) fits.seen has.there;
  reads = All-push (λ (r : Reading). HasTree trees r.number r.tree) p.reads
      record { number = n; tree = t } fits.reads has;
  commits = fits.commits;
}

pub fits_committed : (trees : List DocTree) (n : ℕ) (before made : DocTree) (p : Pass)
    → Fits trees p → 1 ≤ n → HasTree trees (n - 1) before → HasTree trees n made
    → Fits trees (committed n before made p)
fits_committed trees n before made p fits some was is = record {
  opens = fits.opens;
  seen = is.there;
  reads = fits.reads;
  commits = All-push (IsMade trees) p.commits
      record { number = n; before = before; made = made } fits.commits
      record { later = some; before = was; made = is };
}

-- What fits the grown pass fitted it before.

max_low : (a b n : ℕ) → max a b < n → a < n
max_low a b n lt = omega (arith, lt)

module _ {A : Type 0} (P : A → Type 0) where
  pub all_front : (xs : List A) (x : A) → All P (xs ++ x ∷ []) → All P xs
  all_front xs x all = All-same P xs _ (sym (take_at xs (x ∷ []) (length xs) refl))
      (All-take P (length xs) (xs ++ x ∷ []) all)

pub seeing_narrows : (n : ℕ) (p : Pass) → Narrows p (seeing n p)
seeing_narrows n p trees fits = record {
  opens = fits.opens;
  seen = max_low p.seen n (length trees) fits.seen;
  reads = fits.reads;
  commits = fits.commits;
}

pub cutting_narrows : (n : ℕ) (p : Pass) → Narrows p (cutting n p)
cutting_narrows n p trees fits = record {
  opens = fits.opens;
  seen = max_low p.seen n (length trees) fits.seen;
  reads = fits.reads;
  commits = fits.commits;
}

pub reading_narrows : (n : ℕ) (t : DocTree) (p : Pass) → Narrows p (reading n t p)
reading_narrows n t p trees fits = record {
  opens = fits.opens;
  seen = max_low p.seen n (length trees) fits.seen;
  reads = all_front (λ (r : Reading). HasTree trees r.number r.tree) p.reads
      record { number = n; tree = t } fits.reads;
  commits = fits.commits;
}

pub committed_narrows : (n : ℕ) (before made : DocTree) (p : Pass) → p.seen ≤ n
    → Narrows p (committed n before made p)
committed_narrows n before made p low trees fits = record {
  opens = fits.opens;
  seen = let lt = fits.seen in let below : n < length trees = lt in omega (arith, low, below);
  reads = fits.reads;
  commits = all_front (IsMade trees) p.commits
      record { number = n; before = before; made = made } fits.commits;
}

-- So a pass grows at each step.

max_least : (a b : ℕ) → a ≤ max a b
max_least a b = omega arith

pub grows_still : (p : Pass) → Grows p p
grows_still p = record {
  narrows = λ trees fits. fits;
  keep = refl;
  seen = omega arith;
  cut = omega arith;
}

pub grows_on : (p q r : Pass) → Grows p q → Grows q r → Grows p r
grows_on p q r a b = record {
  narrows = λ trees fits. a.narrows trees (b.narrows trees fits);
  keep = b.keep ∙ a.keep;
  seen = let x = a.seen in let y = b.seen in omega (arith, x, y);
  cut = let x = a.cut in let y = b.cut in omega (arith, x, y);
}

pub seeing_grows : (n : ℕ) (p : Pass) → Grows p (seeing n p)
seeing_grows n p = record {
  narrows = seeing_narrows n p;
  keep = refl;
  seen = max_least p.seen n;
  cut = omega arith;
}

pub cutting_grows : (n : ℕ) (p : Pass) → Grows p (cutting n p)
cutting_grows n p = record {
  narrows = cutting_narrows n p;
  keep = refl;
  seen = max_least p.seen n;
  cut = max_least p.cut n;
}

pub reading_grows : (n : ℕ) (t : DocTree) (p : Pass) → Grows p (reading n t p)
reading_grows n t p = record {
  narrows = reading_narrows n t p;
  keep = refl;
  seen = max_least p.seen n;
  cut = omega arith;
}

pub committed_grows : (n : ℕ) (before made : DocTree) (p : Pass) → p.seen ≤ n
    → Grows p (committed n before made p)
committed_grows n before made p low = record {
  narrows = committed_narrows n before made p low;
  keep = refl;
  seen = low;
  cut = omega arith;
}
