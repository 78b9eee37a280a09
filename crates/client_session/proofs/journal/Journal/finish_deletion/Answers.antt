use Rattle.std.proofs.Common.{ap, arith, length, refl}
use Rattle.client_session.proofs.Regrafts.{deleted_carried}
use Rattle.client_session.proofs.journal.Journal.finish_deletion.Goals as goal
use Rattle.client_history.proofs.Spared.{delete_spared}
use Rattle.doc_tree.specs.Edits.{delete}

pub returns-clause-ends : goal.returns-clause-ends
returns-clause-ends g c = λ s deletes.
    let path = c.args.path in
    c.finish_along-ended.ensures.ends _ (delete path.now) s
    (record {
      may = deletes.0;
      edit = record {
        carried = deleted_carried path (λ one.
            let same = ap length c.names.ensures.names in
            absurd (omega (arith, one, same, c.if-names-eq1.false)));
        spared = delete_spared path.now;
        answers = λ v trees. refl;
        needs = λ v. refl;
      };
      none = deletes.1.0;
      begun = deletes.1.1.0;
      is = deletes.1.1.1;
    })
