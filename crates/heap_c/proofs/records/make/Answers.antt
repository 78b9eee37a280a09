use Rattle.std.proofs.Common.{ℕ, ap, arith, subst, sym}
use Rattle.std.specs.Prelude.{Err}
use Rattle.local_records.specs.Local.{Local}
use Rattle.minor_heap.specs.Record.{fields_of}
use Rattle.heap_c.specs.Records.{AreFields}
use Rattle.heap_c.proofs.Apart.{apart_as}
use Rattle.heap_c.proofs.Naming.{shares_all}
use Rattle.heap_c.proofs.Staying.{not_both}
use Rattle.heap_c.proofs.records.make.Goals as goal

pub returns-in-Ok-clause-owned : goal.returns-in-Ok-clause-owned
returns-in-Ok-clause-owned c =
    let inside = sym c.if-not-is_in.ensures.inside in
    let held = c.held_len-held.result in
    let fields = fields_of c.in-Some.laid.kinds c.in-Some.laid.words in
    record {
      mine = c.requires.owned.mine;
      inside = λ is. c.in-Ok.ensures.local c.args.seat.now.me.known (c.requires.owned.inside is)
          (shares_all c.args.turns held c.args.sorts.now c.args.local.now c.args.seat.now.me
          c.held_len-held.ensures.len (c.requires.owned.mine.held is) c.args.kinds c.args.words
          fields (c.in-Some.ensures.means.means held c.in-Ok.ensures.within));
      outside = λ out known. absurd (not_both _ inside out);
      apart = apart_as _ _ (ap (λ (l : Local). l.roots) c.in-Ok.ensures.only)
          c.requires.owned.apart;
    }

pub returns-in-Ok-clause-made : goal.returns-in-Ok-clause-made
returns-in-Ok-clause-made c =
    let held = c.held_len-held.result in
    let fields = fields_of c.in-Some.laid.kinds c.in-Some.laid.words in
    let at = c.val_of_ref.ensures.n in
    let turn = c.in-Ok.ensures.turn in
    let number = c.in-Ok.ensures.number in (
      sym c.if-not-is_in.ensures.inside,
      (
        fields,
        (
          subst (λ (n : ℕ). AreFields c.args.turns n c.args.sorts.now c.args.local.now c.args.kinds
              c.args.words fields) c.held_len-held.ensures.len
              (c.in-Some.ensures.means.means held c.in-Ok.ensures.within),
          (
            c.in-Ok.ensures.records,
            (
              (c.val_of_ref.ensures.tag, omega (arith, at, turn, number)),
              c.in-Ok.ensures.only,
            ),
          ),
        ),
      ),
    )

pub returns-in-Err-Unfit-clause-made : goal.returns-in-Err-Unfit-clause-made
returns-in-Err-Unfit-clause-made c =
    let held = c.held_len-held.result in (
      λ others are. c.in-Err-Unfit.ensures.unfit (ap Err c.in-Err-Unfit.field-0-is)
          (c.in-Some.ensures.means.within held others
          (subst (λ (n : ℕ). AreFields c.args.turns n c.args.sorts.now c.args.local.now c.args.kinds
          c.args.words others) (sym c.held_len-held.ensures.len) are)),
      c.in-Err-Unfit.ensures.unchanged,
    )
