-- What each event leaves alone, and what follows of one part of the state.
use Rattle.std.proofs.Common.{◌≡◌, ◌≢◌, ℕ, ◌<◌, Bool, true, false, cond, List, length, get_or, set}
use Rattle.std.proofs.Common.{Option, Some, None, refl, sym, ◌∙◌, ap, subst}
use Rattle.std.proofs.lemmas.Bool.{and_parts, not-true}
use Rattle.std.proofs.lemmas.List.{set-get_or, get_or-set_same, get_or-set_other}
use Rattle.cell_words.specs.Modes.{next_status_of}
use Rattle.cell_words.specs.declared.colours.Colour.{Colour}
use Rattle.cell_words.specs.declared.fields.Field.{Field}
use Rattle.cell_words.specs.declared.fields.Field.TheVariants as field
use Rattle.cell_words.specs.declared.presences.Presence.{Presence}
use Rattle.cell_words.specs.declared.presences.Status.{Status}
use Rattle.core_machine.specs.declared.events.Event.{Event}
use Rattle.core_machine.specs.declared.events.Event.TheVariants as event
use Rattle.core_machine.specs.declared.events.Found.{Found}
use Rattle.core_machine.specs.declared.events.Found.TheVariants as finds
use Rattle.core_machine.specs.Frames.{IsAsLarge, Knows, MutatorFrame, CollectorFrame, Frame}
use Rattle.core_machine.specs.Frames.{RowsFrame, ColoursFrame, IsFramed}
use Rattle.core_machine.specs.Handshakes.{wanted_of}
use Rattle.core_machine.specs.InRange.{IsShaped}
use Rattle.core_machine.specs.Next.{can, maker, found_by, after}
use Rattle.core_machine.specs.Own.{Own, no_own, own_after, presence_after}
use Rattle.core_machine.specs.State.{State, colour_of, colour_in, row_in, field_in, field_of}
use Rattle.core_machine.specs.State.{own_of, own_in, presence_in, presence_of, no_presence}
use Rattle.core_machine.specs.State.{set_field, target_of}
use Rattle.core_machine.specs.Table.{Word, TheControl, StatusOf, ColourOf, FieldOf}
use Rattle.core_machine.specs.Tracing.{scan_of}
use Rattle.core_machine.specs.WordOperations.{word_of}
use Rattle.core_machine.specs.Words.{may_answer_out, answered_out}
use Rattle.core_machine.proofs.Conditions.{look_needs, answer_needs, keep_needs, read_needs}
use Rattle.core_machine.proofs.Conditions.{fetch_needs, mark_needs, write_needs, store_needs}
use Rattle.core_machine.proofs.Conditions.{claim_needs, fill_needs, seal_needs}
use Rattle.core_machine.proofs.OneOperation.{inside_there, beginner_there}
use Rattle.core_machine.proofs.Ranges.Lists.{set_cases}

-- A part that is put back leaves the list.

same_owns : (s : State) (i : ℕ) → s.owns ≡ set s.owns i (own_of s i)
same_owns s i = sym (set-get_or s.owns i no_own)

same_presences : (s : State) (i : ℕ) → s.presences ≡ set s.presences i (presence_of s i)
same_presences s i = sym (set-get_or s.presences i no_presence)

same_rows : (s : State) (c f : ℕ) → s.rows ≡ set_field s.rows c f (field_of s c f)
same_rows s c f =
    sym (ap (λ (row : List Field). set s.rows c row) (set-get_or (row_in s.rows c) f field.Null)
    ∙ set-get_or s.rows c _)

same_colours : (s : State) (c : ℕ) → s.colours ≡ set s.colours c (colour_of s c)
same_colours s c = sym (set-get_or s.colours c _)

-- Presences at an event of the collector.

knows_answered : (found mine : Presence) (wanted : Status) (over : Bool) → Knows mine found
    → Knows mine (answered_out wanted over found)
knows_answered found mine wanted over k =
    elim (may_answer_out wanted over found) as
    (λ b. may_answer_out wanted over found ≡ b
    → Knows mine (cond b (record found { status = wanted }) found)) [
      | true ↦ λ may. let out : found.inside
          ≡ false = not-true _ (and_parts _ _ (and_parts _ _ may).0).0 in
          record {
            inside = k.inside;
            over = k.over;
            status = λ inside. absurd
                (let is = k.inside in cc);
          }
      | false ↦ λ may. k
    ] refl

-- The frames.

pub as_large : (s : State) (e : Event) → IsAsLarge s (after s e)
as_large s (event.Begin i) = record { cells = refl; mutators = refl; rooms = refl }
as_large s _ = record { cells = refl; mutators = refl; rooms = refl }

pub parts_framed : (s : State) (e : Event) → Frame s e (maker e)
parts_framed s (event.Begin
    i) = record { owns = refl; presences = refl; control = refl; collector = refl }
parts_framed s (event.Look i) = record
    { owns = refl; presences = same_presences s i; control = refl; collector = refl }
parts_framed s (event.Read i place f) =
    record { owns = refl; presences = same_presences s i; control = refl; collector = refl }
parts_framed s (event.Fetch i place f) =
    record { owns = refl; presences = same_presences s i; control = refl; collector = refl }
parts_framed s (event.Mark i place) =
    record { owns = refl; presences = same_presences s i; control = refl; collector = refl }
parts_framed s (event.Write i place f old new) =
    record { owns = refl; presences = same_presences s i; control = refl; collector = refl }
parts_framed s (event.Store i new) =
    record { owns = refl; presences = same_presences s i; control = refl; collector = refl }
parts_framed s (event.Claim i c) =
    record { owns = refl; presences = same_presences s i; control = refl; collector = refl }
parts_framed s (event.Fill i place f value) =
    record {
      owns = same_owns s i;
      presences = same_presences s i;
      control = refl;
      collector = refl;
    }
parts_framed s (event.Seal i place kind) =
    record {
      owns = same_owns s i;
      presences = same_presences s i;
      control = refl;
      collector = refl;
    }
parts_framed s (event.Answer i) = record
    { owns = refl; presences = refl; control = refl; collector = refl }
parts_framed s (event.Keep i count from copies) =
    record { owns = refl; presences = same_presences s i; control = refl; collector = refl }
parts_framed s (event.End i) = record
    { owns = refl; presences = refl; control = refl; collector = refl }
parts_framed s (event.Over i) = record
    { owns = same_owns s i; presences = refl; control = refl; collector = refl }
parts_framed s (event.AnswerOut i over) = record {
  owns = refl;
  presences = λ mine j k. set_cases (Knows mine) s.presences i j _ no_presence
      (λ is there. knows_answered (presence_of s i) mine (wanted_of s) over
      (subst (λ (n : ℕ). Knows mine (presence_of s n)) is k)) k;
  control = refl;
  collector = refl;
}
parts_framed s _ = record {
  owns = refl;
  presences =
      λ mine j k. k;
  control = refl;
  collector = refl;
}

pub rows_framed : (s : State) (e : Event) → RowsFrame s (after s e) (word_of s e)
rows_framed s (event.Read i place f) = (_, same_rows s (target_of s i place) f)
rows_framed s (event.Fetch i place f) = (_, same_rows s (target_of s i place) f)
rows_framed s (event.Write i place f old new) = (_, refl)
rows_framed s (event.Store i new) = (_, refl)
rows_framed s (event.Fill i place f value) = (_, refl)
rows_framed s (event.Seal i place kind) = (_, refl)
rows_framed s event.Scan = (_, same_rows s (scan_of s).cell (scan_of s).next)
rows_framed s event.Wipe = (_, refl)
rows_framed s _ = refl

pub colours_framed : (s : State) (e : Event) → ColoursFrame s (after s e) (word_of s e)
colours_framed s (event.Mark i place) = (_, refl)
colours_framed s (event.Claim i c) = (_, refl)
colours_framed s event.ClearCell = (_, refl)
colours_framed s event.Anchor = (_, refl)
colours_framed s (event.See c) = (_, same_colours s c)
colours_framed s event.Shade = (_, refl)
colours_framed s event.Blacken = (_, refl)
colours_framed s event.SweepLook = (_, same_colours s s.control.position)
colours_framed s event.Free = (_, refl)
colours_framed s event.Whiten = (_, refl)
colours_framed s _ = refl

pub framed : (s : State) (e : Event) → IsFramed s e
framed s e = record {
  sizes = as_large s e;
  parts = parts_framed s e;
  rows = rows_framed s e;
  colours = colours_framed s e;
}

-- The frame of a mutator's event, and of the collector's.

pub mutator_framed : (s : State) (e : Event) (i : ℕ) → maker e ≡ Some i → MutatorFrame s e i
mutator_framed s e i made = subst (Frame s e) made (parts_framed s e)

pub collector_framed : (s : State) (e : Event) → maker e ≡ None → CollectorFrame s e
collector_framed s e made = subst (Frame s e) made (parts_framed s e)

-- who makes an event of a mutator is one that there is
abbrev pub IsMutator : State → Option ℕ → Type 0
IsMutator s None = Unit {0}
IsMutator s (Some i) = i < s.mutators

pub maker_there : (s : State) (e : Event) → IsShaped s → can s e ≡ true → IsMutator s (maker e)
maker_there s (event.Begin i) r h = beginner_there s r i h
maker_there s (event.Look i) r h = inside_there s r i (look_needs s i h).inside
maker_there s (event.Read i place f) r h = inside_there s r i (read_needs s i place f h).inside
maker_there s (event.Fetch i place f) r h = inside_there s r i (fetch_needs s i place f h).inside
maker_there s (event.Mark i place) r h = inside_there s r i (mark_needs s i place h).inside
maker_there s (event.Write i place f old new) r h = inside_there s r i
    (write_needs s i place f old new h).inside
maker_there s (event.Store i new) r h = inside_there s r i (store_needs s i new h).inside
maker_there s (event.Claim i c) r h = inside_there s r i (claim_needs s i c h).inside
maker_there s (event.Fill i place f value) r h = inside_there s r i
    (fill_needs s i place f value h).inside
maker_there s (event.Seal i place kind) r h = inside_there s r i (seal_needs s i place h).inside
maker_there s (event.Answer i) r h = inside_there s r i (answer_needs s i h).inside
maker_there s (event.Keep i count from copies) r h = inside_there s r i
    (keep_needs s i count from copies h).inside
maker_there s (event.End i) r h = inside_there s r i h
maker_there s (event.Over i) r h = beginner_there s r i h
maker_there s _ r h = tt

-- What a mutator's event makes of its own part and presence, and what it leaves of another's.

pub own_mine : (s : State) (e : Event) (i : ℕ) → IsShaped s → can s e ≡ true → maker e ≡ Some i
    → own_of (after s e) i ≡ own_after (own_of s i) e (found_by s e)
own_mine s e i r h made =
    let lt : i < length s.owns = subst (λ (n : ℕ). i < n) (sym r.mutators_fit.owns_fit)
    (subst (IsMutator s) made (maker_there s e r h)) in
    ap (λ (owns : List Own). own_in owns i) (mutator_framed s e i made).owns
    ∙ get_or-set_same s.owns i _ no_own lt

pub own_else : (s : State) (e : Event) (i j : ℕ) → maker e ≡ Some i → j ≢ i → own_of (after s e) j
    ≡ own_of s j
own_else s e i j made other =
    ap (λ (owns : List Own). own_in owns j) (mutator_framed s e i made).owns
    ∙ get_or-set_other s.owns i j _ no_own other

pub presence_mine : (s : State) (e : Event) (i : ℕ) → IsShaped s → can s e ≡ true → maker e ≡ Some i
    → presence_of (after s e) i ≡ presence_after (presence_of s i) e (found_by s e)
presence_mine s e i r h made =
    let lt : i < length s.presences = subst (λ (n : ℕ). i < n) (sym r.mutators_fit.presences_fit)
    (subst (IsMutator s) made (maker_there s e r h)) in
    ap (λ (ps : List Presence). presence_in ps i) (mutator_framed s e i made).presences
    ∙ get_or-set_same s.presences i _ no_presence lt

pub presence_else : (s : State) (e : Event) (i j : ℕ) → maker e ≡ Some i → j ≢ i
    → presence_of (after s e) j ≡ presence_of s j
presence_else s e i j made other =
    ap (λ (ps : List Presence). presence_in ps j) (mutator_framed s e i made).presences
    ∙ get_or-set_other s.presences i j _ no_presence other

-- a mutator that takes the status which it finds knows its presence again
begun_knows : (mine now : Presence) (i : ℕ) (found : Found) → Knows mine now
    → Knows (presence_after mine (event.Begin i) found) (presence_after now (event.Begin i) found)
begun_knows mine now i finds.Stored k = k
begun_knows mine now i (finds.Control found) k = k
begun_knows mine now i
    (finds.Presence found) k = record { inside = refl; over = k.over; status = λ inside. refl }
begun_knows mine now i (finds.Colour found) k = k
begun_knows mine now i (finds.Field found) k = k

-- what a mutator knows of its presence it knows after its own event
pub knows_after : (mine now : Presence) (e : Event) (found : Found) → Knows mine now
    → Knows (presence_after mine e found) (presence_after now e found)
knows_after mine now (event.Begin i) found k = begun_knows mine now i found k
knows_after mine now (event.Answer i) found k =
    record {
      inside = k.inside;
      over = k.over;
      status = λ inside. ap next_status_of
          (k.status inside);
    }
knows_after mine now (event.End i) found k = record {
  inside = refl;
  over = k.over;
  status =
      λ inside. absurd cc;
}
knows_after mine now (event.Over i) found k = record
    { inside = k.inside; over = refl; status = k.status }
knows_after mine now _ found k = k

-- and after any other
pub knows_else : (s : State) (e : Event) (j : ℕ) (mine : Presence) → maker e ≢ Some j
    → Knows mine (presence_of s j)
    → Knows mine (presence_of (after s e) j)
knows_else s e j mine other k = by_maker (maker e) refl
  where
    by_maker : (who : Option ℕ) → maker e ≡ who → Knows mine (presence_of (after s e) j)
    by_maker None made = (collector_framed s e made).presences mine j k
    by_maker (Some i) made =
        subst (Knows mine) (sym (presence_else s e i j made (λ is. other (made
        ∙ ap Some (sym is))))) k

-- What an event leaves of rows and colours.

pub set_field_other : (rows : List (List Field)) (c f d g : ℕ) (x : Field) → (d ≡ c → g ≡ f → ⊥)
    → field_in (set_field rows c f x) d g ≡ field_in rows d g
set_field_other rows c f d g x other =
    set_cases (λ row. get_or row g field.Null
    ≡ field_in rows d g) rows c d (set (row_in rows c) f x) _
    (λ is there. get_or-set_other (row_in rows c) f g x field.Null (other is)
    ∙ ap (λ (n : ℕ). field_in rows n g) (sym is)) refl

-- a field of another word stays
pub field_else : (s : State) (e : Event) (c f : ℕ) → word_of s e ≢ FieldOf c f
    → field_of (after s e) c f ≡ field_of s c f
field_else s e c f other = by_word (word_of s e) other (rows_framed s e)
  where
    by_word : (w : Word) → w ≢ FieldOf c f → RowsFrame s (after s e) w → field_of (after s e) c f
        ≡ field_of s c f
    by_word TheControl other is = ap (λ (rows : List (List Field)). field_in rows c f) is
    by_word (StatusOf i) other is = ap (λ (rows : List (List Field)). field_in rows c f) is
    by_word (ColourOf d) other is = ap (λ (rows : List (List Field)). field_in rows c f) is
    by_word (FieldOf d g) other is =
        ap (λ (rows : List (List Field)). field_in rows c f) is.1
        ∙ set_field_other s.rows d g c f is.0
        (λ one two. other (λ i. FieldOf (sym one i) (sym two i)))

-- the row of another cell stays
pub row_else : (s : State) (e : Event) (c : ℕ) → ((f : ℕ) → word_of s e ≢ FieldOf c f)
    → row_in (after s e).rows c ≡ row_in s.rows c
row_else s e c other = by_word (word_of s e) other (rows_framed s e)
  where
    by_word : (w : Word) → ((f : ℕ) → w ≢ FieldOf c f) → RowsFrame s (after s e) w
        → row_in (after s e).rows c ≡ row_in s.rows c
    by_word TheControl other is = ap (λ (rows : List (List Field)). row_in rows c) is
    by_word (StatusOf i) other is = ap (λ (rows : List (List Field)). row_in rows c) is
    by_word (ColourOf d) other is = ap (λ (rows : List (List Field)). row_in rows c) is
    by_word (FieldOf d g) other is =
        ap (λ (rows : List (List Field)). row_in rows c) is.1
        ∙ get_or-set_other s.rows d c _ _ (λ same. other g (ap (λ (n : ℕ). FieldOf n g) (sym same)))

-- another cell's colour stays
pub colour_else : (s : State) (e : Event) (c : ℕ) → word_of s e ≢ ColourOf c
    → colour_of (after s e) c ≡ colour_of s c
colour_else s e c other = by_word (word_of s e) other (colours_framed s e)
  where
    by_word : (w : Word) → w ≢ ColourOf c → ColoursFrame s (after s e) w → colour_of (after s e) c
        ≡ colour_of s c
    by_word TheControl other is = ap (λ (colours : List Colour). colour_in colours c) is
    by_word (StatusOf i) other is = ap (λ (colours : List Colour). colour_in colours c) is
    by_word (FieldOf d f) other is = ap (λ (colours : List Colour). colour_in colours c) is
    by_word (ColourOf d) other is =
        ap (λ (colours : List Colour). colour_in colours c) is.1
        ∙ get_or-set_other s.colours d c _ _ (λ same. other (ap ColourOf (sym same)))
