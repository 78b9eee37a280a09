-- Every event is one operation on one word of the table: `KIND_once`.
use Rattle.std.proofs.Common.{◌≡◌, ℕ, ◌<◌, ◌≤◌, Bool, true, false, List, [], ◌∷◌, length, set}
use Rattle.std.proofs.Common.{Option, Some, None, zero, suc, refl, sym, ◌∙◌, ap, subst, arith}
use Rattle.std.proofs.lemmas.Bool.{ltb-true}
use Rattle.std.proofs.lemmas.List.{set-get_or}
use Rattle.cell_words.specs.declared.colours.Colour.TheVariants as colour
use Rattle.cell_words.specs.declared.fields.Field.{Field}
use Rattle.cell_words.specs.declared.fields.Kind.{Kind}
use Rattle.cell_words.specs.declared.presences.Presence.{Presence}
use Rattle.core_machine.specs.declared.events.Event.{Event}
use Rattle.core_machine.specs.declared.events.Event.TheVariants as event
use Rattle.core_machine.specs.declared.progress.Scanning.{Scanning}
use Rattle.core_machine.specs.declared.progress.Sweeping.{Sweeping}
use Rattle.core_machine.specs.declared.progress.Sweeping.TheVariants as sweeping
use Rattle.core_machine.specs.Handshakes.{wanted_of}
use Rattle.core_machine.specs.InRange.{IsShaped, ScanFits, SweepFits}
use Rattle.core_machine.specs.Next.{can, found_by, after}
use Rattle.core_machine.specs.Operations.{may_begin}
use Rattle.core_machine.specs.State.{State, colour_of, field_of, presence_in, presence_of, own_of}
use Rattle.core_machine.specs.State.{target_of, begun_of}
use Rattle.core_machine.specs.Sweep.{is_fresh, wiped_count, may_wipe}
use Rattle.core_machine.specs.Table.{Word, StatusOf, ColourOf, FieldOf, HasWord, number_in}
use Rattle.core_machine.specs.Table.{index_of, words_of}
use Rattle.core_machine.specs.Tracing.{may_scan, scan_of, scan_or_none, child_of}
use Rattle.core_machine.specs.WordOperations.{word_of, left_by, operation_of, IsPackedAs}
use Rattle.core_machine.specs.WordOperations.{IsOneOperation}
use Rattle.core_machine.specs.Words.{shaded, cleared, claimed, born_colour}
use Rattle.core_machine.proofs.Conditions.{come_in_needs, read_needs, fetch_needs, claim_needs}
use Rattle.core_machine.proofs.Conditions.{fill_needs, write_needs, answer_needs, keep_needs}
use Rattle.core_machine.proofs.Conditions.{poll_needs}
use Rattle.core_machine.proofs.Conditions.{answer_out_needs, clear_needs, see_needs}
use Rattle.core_machine.proofs.Conditions.{sweep_look_needs}
use Rattle.core_machine.proofs.Ranges.Collecting.{in_sweep, child_fits, scan_cell_below}
use Rattle.core_machine.proofs.Ranges.Collecting.{wiping_busy, freeing_busy, black_busy}
use Rattle.core_machine.proofs.Table.{word_below, word_read, status_set, colour_set, field_set}
use Rattle.core_machine.proofs.WordOperations.{shade_leaves, clear_leaves, claim_leaves}
use Rattle.core_machine.proofs.WordOperations.{write_leaves, begin_leaves, over_leaves, end_leaves}
use Rattle.core_machine.proofs.WordOperations.{answer_out_leaves}

-- an event that leaves what its operation does, and finds what stands in the word
once : (s : State) (e : Event) → IsShaped s → HasWord s (word_of s e)
    → IsPackedAs (found_by s e) (number_in s (word_of s e))
    → words_of (after s e)
    ≡ set (words_of s) (index_of s.mutators (word_of s e))
    (left_by (operation_of s e) (number_in s (word_of s e)))
    → IsOneOperation s e
once s e r there finds left =
    let w = word_of s e in
    let read = word_read s r w there in
    record {
      there = there;
      below = word_below s r w there;
      left = left ∙ ap (λ (n : ℕ). set (words_of s) (index_of s.mutators w)
          (left_by (operation_of s e) n)) (sym read);
      found = subst (IsPackedAs (found_by s e)) (sym read) finds;
    }

-- what a load leaves
unread : (s : State) → IsShaped s → (w : Word) → HasWord s w
    → words_of s ≡ set (words_of s) (index_of s.mutators w) (number_in s w)
unread s r w there =
    sym (set-get_or (words_of s) (index_of s.mutators w) 0)
    ∙ ap (set (words_of s) (index_of s.mutators w)) (word_read s r w there)

-- Who makes an event of a mutator is one that there is.

in_list : (presences : List Presence) (i : ℕ) → (presence_in presences i).inside ≡ true
    → i < length presences
in_list [] i h = absurd cc
in_list (p ∷ ps) zero h = omega arith
in_list (p ∷ ps) (suc i) h = let later = in_list ps i h in omega arith

begins_in_list : (presences : List Presence) (i : ℕ) → (presence_in presences i).over ≡ false
    → i < length presences
begins_in_list [] i h = absurd cc
begins_in_list (p ∷ ps) zero h = omega arith
begins_in_list (p ∷ ps) (suc i) h = let later = begins_in_list ps i h in omega arith

pub inside_there : (s : State) → IsShaped s → (i : ℕ) → (presence_of s i).inside ≡ true
    → i < s.mutators
inside_there s r i h = subst (λ (n : ℕ). i < n) r.mutators_fit.presences_fit
    (in_list s.presences i h)

pub beginner_there : (s : State) → IsShaped s → (i : ℕ) → may_begin s i ≡ true → i < s.mutators
beginner_there s r i h =
    subst (λ (n : ℕ). i < n) r.mutators_fit.presences_fit
    (begins_in_list s.presences i (come_in_needs s i h).not_over)

-- a payload field of a held cell
payload_there : (s : State) → IsShaped s → (i place f : ℕ) → f ≤ 4
    → HasWord s (FieldOf (target_of s i place) f)
payload_there s r i place f payload = (r.names_fit.held_fit i place, omega (arith, payload))

-- Mutators.

begin_once : (s : State) → IsShaped s → (i : ℕ) → may_begin s i ≡ true
    → IsOneOperation s (event.Begin i)
begin_once s r i h =
    let needs = come_in_needs s i h in
    let there = beginner_there s r i h in
    once s (event.Begin i) r there refl
    (status_set s r i _ there
    ∙ ap (set (words_of s) _) (sym (begin_leaves (presence_of s i) needs.out needs.not_over)))

over_once : (s : State) → IsShaped s → (i : ℕ) → may_begin s i ≡ true
    → IsOneOperation s (event.Over i)
over_once s r i h =
    let needs = come_in_needs s i h in
    let there = beginner_there s r i h in
    once s (event.Over i) r there refl
    (status_set s r i _ there
    ∙ ap (set (words_of s) _) (sym (over_leaves (presence_of s i) needs.out needs.not_over)))

end_once : (s : State) → IsShaped s → (i : ℕ) → (presence_of s i).inside ≡ true
    → IsOneOperation s (event.End i)
end_once s r i h =
    let there = inside_there s r i h in
    once s (event.End i) r there refl
    (status_set s r i _ there ∙ ap (set (words_of s) _) (sym (end_leaves (presence_of s i) h)))

answer_once : (s : State) → IsShaped s → (i : ℕ) → (presence_of s i).inside ≡ true
    → IsOneOperation s (event.Answer i)
answer_once s r i h = let there = inside_there s r i h in once s (event.Answer i) r there tt
    (status_set s r i _ there)

keep_once : (s : State) → IsShaped s → (i count from copies : ℕ) → (presence_of s i).inside ≡ true
    → IsOneOperation s (event.Keep i count from copies)
keep_once s r i count from copies h =
    let there = inside_there s r i h in
    once s (event.Keep i count from copies) r there refl (unread s r (StatusOf i) there)

look_once : (s : State) → IsShaped s → (i : ℕ) → IsOneOperation s (event.Look i)
look_once s r i = once s (event.Look i) r tt refl refl

read_once : (s : State) → IsShaped s → (i place f : ℕ) → f ≤ 4
    → IsOneOperation s (event.Read i place f)
read_once s r i place f payload =
    let there = payload_there s r i place f payload in
    once s (event.Read i place f) r there refl (unread s r (FieldOf (target_of s i place) f) there)

fetch_once : (s : State) → IsShaped s → (i place f : ℕ) → f ≤ 4
    → IsOneOperation s (event.Fetch i place f)
fetch_once s r i place f payload =
    let there = payload_there s r i place f payload in
    once s (event.Fetch i place f) r there refl (unread s r (FieldOf (target_of s i place) f) there)

mark_once : (s : State) → IsShaped s → (i place : ℕ) → IsOneOperation s (event.Mark i place)
mark_once s r i place =
    let c = target_of s i place in
    let there = r.names_fit.held_fit i place in
    once s (event.Mark i place) r there refl
    (colour_set s r c (shaded (colour_of s c)) there
    ∙ ap (set (words_of s) _) (sym (shade_leaves (colour_of s c))))

write_once : (s : State) → IsShaped s → (i place f : ℕ) (old new : Field) → f ≤ 4
    → IsOneOperation s (event.Write i place f old new)
write_once s r i place f old new payload =
    let c = target_of s i place in
    let there = payload_there s r i place f payload in
    once s (event.Write i place f old new) r there refl
    (field_set s r c f _ there.0 there.1
    ∙ ap (set (words_of s) _) (sym (write_leaves (field_of s c f) old new)))

store_once : (s : State) → IsShaped s → (i : ℕ) (new : Field) → IsOneOperation s (event.Store i new)
store_once s r i new =
    let begun = begun_of s i in
    let there = payload_there s r i begun.place begun.f (r.names_fit.pendings_fit i) in
    once s (event.Store i new) r there tt
    (field_set s r (target_of s i begun.place) begun.f new there.0 there.1)

claim_once : (s : State) → IsShaped s → (i c : ℕ) → c < s.cells → IsOneOperation s (event.Claim i c)
claim_once s r i c there =
    let born = born_colour (presence_of s i).status (own_of s i).mode c in
    once s (event.Claim i c) r there refl
    (colour_set s r c (claimed (colour_of s c) born) there
    ∙ ap (set (words_of s) _) (sym (claim_leaves (colour_of s c) born)))

fill_once : (s : State) → IsShaped s → (i place f : ℕ) (value : Field) → f ≤ 4
    → IsOneOperation s (event.Fill i place f value)
fill_once s r i place f value payload =
    let there = payload_there s r i place f payload in
    once s (event.Fill i place f value) r there tt
    (field_set s r (target_of s i place) f value there.0 there.1)

seal_once : (s : State) → IsShaped s → (i place : ℕ) (kind : Kind)
    → IsOneOperation s (event.Seal i place kind)
seal_once s r i place kind =
    let there = r.names_fit.held_fit i place in
    once s (event.Seal i place kind) r (there, omega arith) tt
    (field_set s r (target_of s i place) 5 _ there (omega arith))

-- The collector.

poll_once : (s : State) → IsShaped s → (i : ℕ) → i < s.mutators → IsOneOperation s (event.Poll i)
poll_once s r i there = once s (event.Poll i) r there refl (unread s r (StatusOf i) there)

answer_out_once : (s : State) → IsShaped s → (i : ℕ) (over : Bool) → i < s.mutators
    → IsOneOperation s (event.AnswerOut i over)
answer_out_once s r i over there =
    once s (event.AnswerOut i over) r there refl
    (status_set s r i _ there
    ∙ ap (set (words_of s) _) (sym (answer_out_leaves (presence_of s i) (wanted_of s) over)))

clear_once : (s : State) → IsShaped s → s.collector.cursor < s.cells
    → IsOneOperation s event.ClearCell
clear_once s r there =
    let c = s.collector.cursor in
    once s event.ClearCell r there refl
    (colour_set s r c (cleared (colour_of s c)) there
    ∙ ap (set (words_of s) _) (sym (clear_leaves (colour_of s c))))

anchor_once : (s : State) → IsShaped s → IsOneOperation s event.Anchor
anchor_once s r =
    once s event.Anchor r r.cells_fit.some_cells refl
    (colour_set s r 0 (shaded (colour_of s 0)) r.cells_fit.some_cells
    ∙ ap (set (words_of s) _) (sym (shade_leaves (colour_of s 0))))

see_once : (s : State) → IsShaped s → (c : ℕ) → c < s.cells → IsOneOperation s (event.See c)
see_once s r c there = once s (event.See c) r there refl (unread s r (ColourOf c) there)

-- the next field of a scan that is not at its end
next_there : (n : ℕ) (scan : Option Scanning) → ScanFits n scan → may_scan scan ≡ true
    → ((scan_or_none scan).cell < n) × ((scan_or_none scan).next < 6)
next_there n None fits h = absurd cc
next_there n (Some x) fits h = (fits.0, omega (arith, fits.1))

scan_once : (s : State) → IsShaped s → may_scan s.collector.scan ≡ true
    → IsOneOperation s event.Scan
scan_once s r h =
    let there = next_there s.cells s.collector.scan r.names_fit.scan_fits h in
    once s event.Scan r there refl (unread s r (FieldOf (scan_of s).cell (scan_of s).next) there)

shade_once : (s : State) → IsShaped s → can s event.Shade ≡ true → IsOneOperation s event.Shade
shade_once s r h =
    let c = child_of s in
    let there = (child_fits s.cells s.collector.scan r.names_fit.scan_fits h).0 in
    once s event.Shade r there refl
    (colour_set s r c (shaded (colour_of s c)) there
    ∙ ap (set (words_of s) _) (sym (shade_leaves (colour_of s c))))

blacken_once : (s : State) → IsShaped s → can s event.Blacken ≡ true
    → IsOneOperation s event.Blacken
blacken_once s r h =
    let there = scan_cell_below s.cells s.collector.scan r.names_fit.scan_fits h in
    once s event.Blacken r there tt (colour_set s r (scan_of s).cell colour.Black there)

sweep_look_once : (s : State) → IsShaped s → s.control.position < s.cells
    → IsOneOperation s event.SweepLook
sweep_look_once s r there = once s event.SweepLook r there refl
    (unread s r (ColourOf s.control.position) there)

-- the cell that is worked on is one that there is
busy_fits : (n position : ℕ) (sweep : Sweeping) → is_fresh sweep ≡ false
    → SweepFits n position sweep → position < n
busy_fits n position sweeping.Fresh busy fits = absurd cc
busy_fits n position (sweeping.Wiping k) busy fits = fits.0
busy_fits n position sweeping.BlackFound busy fits = fits
busy_fits n position sweeping.Done busy fits = fits

pub busy_there : (s : State) → IsShaped s → is_fresh s.collector.sweep ≡ false
    → s.control.position < s.cells
busy_there s r busy =
    busy_fits s.cells s.control.position s.collector.sweep busy
    (in_sweep s.cells s.control s.collector.sweep r.control_fits busy).1

wiped_below : (sweep : Sweeping) → may_wipe sweep ≡ true → wiped_count sweep < 6
wiped_below sweeping.Fresh h = absurd cc
wiped_below (sweeping.Wiping k) h = ltb-true k 6 h
wiped_below sweeping.BlackFound h = absurd cc
wiped_below sweeping.Done h = absurd cc

wipe_once : (s : State) → IsShaped s → may_wipe s.collector.sweep ≡ true
    → IsOneOperation s event.Wipe
wipe_once s r h =
    let there = busy_there s r (wiping_busy s.collector.sweep h) in
    let below = wiped_below s.collector.sweep h in
    once s event.Wipe r (there, below) tt
    (field_set s r s.control.position (wiped_count s.collector.sweep) _ there below)

free_once : (s : State) → IsShaped s → can s event.Free ≡ true → IsOneOperation s event.Free
free_once s r h =
    let there = busy_there s r (freeing_busy s.collector.sweep h) in
    once s event.Free r there tt (colour_set s r s.control.position colour.Blue there)

whiten_once : (s : State) → IsShaped s → can s event.Whiten ≡ true → IsOneOperation s event.Whiten
whiten_once s r h =
    let there = busy_there s r (black_busy s.collector.sweep h) in
    once s event.Whiten r there tt (colour_set s r s.control.position colour.White there)

pub one_operation : (s : State) (e : Event) → IsShaped s → can s e ≡ true → IsOneOperation s e
one_operation s (event.Begin i) r h = begin_once s r i h
one_operation s (event.Look i) r h = look_once s r i
one_operation s (event.Read i place f) r h = read_once s r i place f
    (read_needs s i place f h).payload
one_operation s (event.Fetch i place f) r h = fetch_once s r i place f
    (fetch_needs s i place f h).payload
one_operation s (event.Mark i place) r h = mark_once s r i place
one_operation s (event.Write i place f old new) r h =
    write_once s r i place f old new (write_needs s i place f old new h).payload
one_operation s (event.Store i new) r h = store_once s r i new
one_operation s (event.Claim i c) r h = claim_once s r i c (claim_needs s i c h).cell
one_operation s (event.Fill i place f value) r h = fill_once s r i place f value
    (fill_needs s i place f value h).payload
one_operation s (event.Seal i place kind) r h = seal_once s r i place kind
one_operation s (event.Answer i) r h = answer_once s r i (answer_needs s i h).inside
one_operation s (event.Keep i count from copies) r h =
    keep_once s r i count from copies (keep_needs s i count from copies h).inside
one_operation s (event.End i) r h = end_once s r i h
one_operation s (event.Over i) r h = over_once s r i h
one_operation s (event.Post target) r h = once s (event.Post target) r tt tt refl
one_operation s (event.Duty on) r h = once s (event.Duty on) r tt tt refl
one_operation s (event.Poll i) r h = poll_once s r i (poll_needs s i h).mutator
one_operation s (event.AnswerOut i over) r h = answer_out_once s r i over
    (answer_out_needs s i h).mutator
one_operation s event.ClearCell r h = clear_once s r (clear_needs s h).cell
one_operation s event.Anchor r h = anchor_once s r
one_operation s (event.See c) r h = see_once s r c (see_needs s c h).cell
one_operation s event.Scan r h = scan_once s r h
one_operation s event.Shade r h = shade_once s r h
one_operation s event.Blacken r h = blacken_once s r h
one_operation s event.SweepLook r h = sweep_look_once s r (sweep_look_needs s h).cell
one_operation s event.Wipe r h = wipe_once s r h
one_operation s event.Free r h = free_once s r h
one_operation s event.Whiten r h = whiten_once s r h
one_operation s event.Advance r h = once s event.Advance r tt tt refl
