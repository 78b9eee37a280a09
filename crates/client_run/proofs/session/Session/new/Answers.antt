use Rattle.std.proofs.Common.{ℕ, ◌≤◌, ◌++◌, List, [], ◌∷◌, length, sym}
use Rattle.std.proofs.Common.{◌∙◌, ap, refl, subst}
use Rattle.run_limits.specs.declared.TheConstants.{MOST_CLIENTS}
use Rattle.client_session.specs.declared.journal.Limits.{Limits}
use Rattle.minor_heap.specs.declared.fields.MinorField.{MinorField}
use Rattle.minor_heap.specs.Nursery.{Nursery}
use Rattle.client_run.proofs.Beginning.{first_record, may_begin}
use Rattle.client_run.proofs.session.Session.new.Goals as goal

pub returns : goal.returns
returns c =
    let empty = ap (λ (n : Nursery). n.records) c.heap_mut.ensures.heap
    ∙ c.in_ok-nursery.ensures.empty in
    let room = ap (λ (n : Nursery). n.room) c.heap_mut.ensures.heap
    ∙ c.in_ok-nursery.ensures.room in
    record {
      new = record {
        entries = c.new.ensures.entries;
        client_is = c.new.ensures.client;
        keep = ap (λ (l : Limits). l.keep) c.new.ensures.limits;
        versions = ap (λ (l : Limits). l.versions) c.new.ensures.limits;
        minor = c.in-Ok.ensures.room ∙ room;
        may = λ m begun. may_begin m c.make.new.self c.in-Ok.made
            (c.in-Ok.ensures.records
            ∙ ap (λ (rs : List (List MinorField)). rs ++ first_record ∷ []) empty)
            (c.in-Ok.ensures.made ∙ ap (λ (rs : List (List MinorField)). length rs) empty)
            c.new.result c.in_ok-promoter.promoter c.args.limits.minor c.args.limits.keep
            (subst (λ (n : ℕ). (1 ≤ n) × (n ≤ MOST_CLIENTS)) (sym c.new.ensures.client)
            c.requires.client)
            c.new.ensures.step c.requires.minor
            (c.in-Ok.ensures.room ∙ room) c.in_ok-promoter.ensures.room
            begun _ refl c.in_ok-nursery.ensures.records;
      };
    }
