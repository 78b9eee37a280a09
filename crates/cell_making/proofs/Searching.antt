-- Fills and seals try no cell, so the tries of a claim are those of the call.
use Rattle.std.proofs.Common.{◌≡◌, ℕ, List, [], ◌∷◌, ◌++◌, Option, refl, sym, ap, subst}
use Rattle.cell_words.specs.declared.fields.Field.{Field}
use Rattle.cell_words.specs.declared.fields.Kind.{Kind}
use Rattle.core_machine.specs.declared.events.Event.TheVariants as event
use Rattle.core_machine.specs.declared.events.Found.TheVariants as finds
use Rattle.free_cells.specs.declared.hints.Hints.{Hints}
use Rattle.heap_rule.specs.Rule.{took}
use Rattle.mutator_seat.specs.Bound.{Bound, takes, takes_with}
use Rattle.mutator_seat.specs.Searches.{Follows, Searches, Tries, cells_tried}
use Rattle.mutator_seat.proofs.Searching.{tries_idle}

module _ {P : Type 0} where
  pub fill_tries : (a b : Bound P) (i place f : ℕ) (value : Field) (pass : P)
      → b ≡ takes_with a (event.Fill i place f value) finds.Stored pass → Tries [] a b
  fill_tries a b i place f value pass told = record {
    added = took (event.Fill i place f value) finds.Stored ∷ [];
    trail = ap (λ (m : Bound P). m.seat.me.trail) told;
    fact = refl;
  }

  pub seal_tries : (a b : Bound P) (i place : ℕ) (kind : Kind)
      → b ≡ takes a (event.Seal i place kind) finds.Stored → Tries [] a b
  seal_tries a b i place kind told = record {
    added = took (event.Seal i place kind) finds.Stored ∷ [];
    trail = ap (λ (m : Bound P). m.seat.me.trail) told;
    fact = refl;
  }

  pub searches_idle : (p : ℕ) (first : List (Option ℕ)) (before after : Hints) (a b c : Bound P)
      → Searches p first before after a b → Tries [] b c → Searches p first before after a c
  searches_idle p first before after a b c search idle =
      let cells = a.seat.me.shape.cells in
      let all : Tries (cells_tried search.tries.added) a b = record {
        added = search.tries.added;
        trail = search.tries.trail;
        fact = refl;
      } in
      let grew = tries_idle (cells_tried search.tries.added) a b c all idle in record {
        given = search.given;
        gives = search.gives;
        counts = search.counts;
        tries = record {
          added = grew.added;
          trail = grew.trail;
          fact = subst (λ (ts : List ℕ). Follows cells p (first ++ search.given) ts)
              (sym grew.fact) search.tries.fact;
        };
      }
