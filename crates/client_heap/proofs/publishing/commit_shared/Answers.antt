use Rattle.std.proofs.Common.{◌≡◌, ◌∙◌, ◌+◌, ℕ, [], Result, Ok, Err, ap, arith}
use Rattle.std.proofs.lemmas.List.{length-map}
use Rattle.client_session.specs.declared.refusal.CommitRefusal.{CommitRefusal}
use Rattle.client_session.specs.declared.refusal.CommitRefusal.TheVariants as refusal
use Rattle.doc_records.specs.Trees.{tree_of}
use Rattle.doc_tree.specs.Tree.{DocTree}
use Rattle.version_rule.specs.Pass.{Pass, commit_numbers, committed}
use Rattle.version_store.specs.Held.{root_at}
use Rattle.client_heap.proofs.Commits.{holds_carries, holds_held, holds_record, node_spells}
use Rattle.client_heap.proofs.Commits.{node_tree}
use Rattle.client_heap.proofs.publishing.commit_shared.Goals as goal

pub commit-requires-clause-root : goal.commit-requires-clause-root
commit-requires-clause-root g c =
    holds_record c.args.m.now c.args.minor.now c.args.place c.requires.node

pub commit-requires-clause-spells : goal.commit-requires-clause-spells
commit-requires-clause-spells g c =
    node_spells c.args.m.now c.args.minor.now c.args.place c.requires.node

pub commit-requires-clause-few : goal.commit-requires-clause-few
commit-requires-clause-few g c =
    let same = length-map c.args.m.now.seat.me.pass.commits (λ x. x.number) in
    let few = c.requires.few in omega (arith, same, few)

pub returns-in-Ok-clause-carries : goal.returns-in-Ok-clause-carries
returns-in-Ok-clause-carries g c =
    holds_carries c.args.m.now c.commit.new.m c.args.minor.now [] c.commit.ensures.held
    c.len-records.ensures.ordered c.commit.ensures.lasts c.commit.ensures.same

pub returns-in-Ok-clause-held : goal.returns-in-Ok-clause-held
returns-in-Ok-clause-held g c =
    let many = holds_held c.args.m.now c.commit.new.m c.args.minor.now [] c.commit.ensures.held in
    omega (arith, many)

pub returns-in-Err-Moved-clause-carries : goal.returns-in-Err-Moved-clause-carries
returns-in-Err-Moved-clause-carries g c =
    holds_carries c.args.m.now c.commit.new.m c.args.minor.now [] c.commit.ensures.held
    c.len-records.ensures.ordered c.commit.ensures.lasts c.commit.ensures.same

pub returns-in-Err-Full-clause-moved : goal.returns-in-Err-Full-clause-moved
returns-in-Err-Full-clause-moved g c = λ moved.
    let is : ◌≡◌ {A = Result ℕ CommitRefusal} (Err refusal.Full) (Err refusal.Moved) = moved in
    absurd (cc)

pub returns-in-Ok-clause-pass : goal.returns-in-Ok-clause-pass
returns-in-Ok-clause-pass g c =
    let m = c.args.m.now in
    let root = tree_of (root_at m c.args.v.place) in
    c.in-Ok.ensures.made.pass
    ∙ ap (λ (t : DocTree). committed (c.args.v.number + 1) root t m.seat.me.pass)
    (node_tree m c.args.minor.now c.args.place c.requires.node)

pub returns-in-Ok-clause-rose : goal.returns-in-Ok-clause-rose
returns-in-Ok-clause-rose g c =
    let is = c.in-Ok.ensures.rose in omega (arith, is)

pub returns-in-Ok-clause-moved : goal.returns-in-Ok-clause-moved
returns-in-Ok-clause-moved g c = λ moved.
    let is : ◌≡◌ {A = Result ℕ CommitRefusal} (Ok c.in-Ok.number) (Err refusal.Moved) = moved in
    absurd (cc)

pub returns-in-Ok-clause-full : goal.returns-in-Ok-clause-full
returns-in-Ok-clause-full g c = λ full.
    let is : ◌≡◌ {A = Result ℕ CommitRefusal} (Ok c.in-Ok.number) (Err refusal.Full) = full in
    absurd (cc)

pub returns-in-Err-Moved-clause-full : goal.returns-in-Err-Moved-clause-full
returns-in-Err-Moved-clause-full g c = λ full.
    let is : ◌≡◌ {A = Result ℕ CommitRefusal} (Err refusal.Moved) (Err refusal.Full) = full in
    absurd (cc)

pub returns-in-Err-Moved-clause-held : goal.returns-in-Err-Moved-clause-held
returns-in-Err-Moved-clause-held g c =
    let many = holds_held c.args.m.now c.commit.new.m c.args.minor.now [] c.commit.ensures.held in
    omega (arith, many)

pub returns-in-Err-Moved-clause-same : goal.returns-in-Err-Moved-clause-same
returns-in-Err-Moved-clause-same g c =
    let refused = rw c.in-Err-Moved.field-0-is at c.in-Err-Moved.ensures.refused in
    ap (λ (p : Pass). commit_numbers p) refused.pass

pub returns-in-Err-Moved-clause-moved : goal.returns-in-Err-Moved-clause-moved
returns-in-Err-Moved-clause-moved g c = λ moved.
    let refused = rw c.in-Err-Moved.field-0-is at c.in-Err-Moved.ensures.refused in
    let newer = refused.is_newer in
    let seen = ap (λ (p : Pass). p.seen) refused.pass in omega (arith, newer, seen)

pub returns-in-Err-Full-clause-same : goal.returns-in-Err-Full-clause-same
returns-in-Err-Full-clause-same g c =
    let refused = rw c.in-Err-Full.field-0-is at c.in-Err-Full.ensures.refused in
    ap (λ (p : Pass). commit_numbers p) refused.kept.pass

pub returns-in-Err-Full-clause-full : goal.returns-in-Err-Full-clause-full
returns-in-Err-Full-clause-full g c = λ full.
    rw c.in-Err-Full.field-0-is at c.in-Err-Full.ensures.shows

pub returns-in-Err-Full-clause-carries : goal.returns-in-Err-Full-clause-carries
returns-in-Err-Full-clause-carries g c =
    holds_carries c.args.m.now c.commit.new.m c.args.minor.now [] c.commit.ensures.held
    c.len-records.ensures.ordered c.commit.ensures.lasts c.commit.ensures.same

pub returns-in-Err-Full-clause-held : goal.returns-in-Err-Full-clause-held
returns-in-Err-Full-clause-held g c =
    let many = holds_held c.args.m.now c.commit.new.m c.args.minor.now [] c.commit.ensures.held in
    omega (arith, many)
