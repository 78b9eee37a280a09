use Rattle.std.proofs.Common.{ap, sym}
use Rattle.cell_words.specs.declared.fields.Kind.{Kind}
use Rattle.core_machine.specs.Words.{kind_field}
use Rattle.mutator_events.proofs.words.kind_field.Goals as goal

pub returns-in-Record-clause-field : goal.returns-in-Record-clause-field
returns-in-Record-clause-field c = ap (λ (k : Kind). kind_field k) (sym c.in-Record.is)
