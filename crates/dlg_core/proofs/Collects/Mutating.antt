-- The events of mutators: whatever they come to hold or write is held or named by a held cell, so
-- it is outside of the set that is followed, and it stays outside.
--
-- Mark, Claim         change the colour of a cell that is held, or blue: it is not in the set.
-- Write, Store, Fill  the new value names none of the set.
use Rattle.std.proofs.Common.{◌≡◌, ◌≢◌, ◌==◌, inl, inr, ℕ, true, false, if◌then◌else◌, length, ◌<◌}
use Rattle.std.proofs.Common.{refl, sym, subst, ◌∙◌, ◌⊎◌, ap}
use Rattle.std.specs.Prelude.{slice_set}
use Rattle.std.proofs.Math.ListN.{set}
use Rattle.std.proofs.lemmas.Bool.{or_cases, eqb-true}
use Rattle.std.proofs.lemmas.List.{set-get_or}
use Rattle.cell_words.specs.declared.colours.Colour.{Colour}
use Rattle.cell_words.specs.declared.colours.Colour.TheVariants as colour
use Rattle.cell_words.specs.declared.fields.Field.{Field}
use Rattle.cell_words.specs.declared.fields.Field.TheVariants as field
use Rattle.cell_words.specs.declared.fields.Kind.{Kind}
use Rattle.cell_words.specs.declared.fields.Kind.TheVariants as kind
use Rattle.core_machine.specs.declared.events.Event.TheVariants as event
use Rattle.core_machine.specs.Own.{Own, spent, begun, holding, having_read, having_fetched}
use Rattle.core_machine.specs.Own.{having_claimed, marking}
use Rattle.core_machine.specs.Places.{holds, names_rightly}
use Rattle.core_machine.specs.State.{State, colour_of, field_of, own_of, held_of, presence_of}
use Rattle.core_machine.specs.State.{target_of, begun_of}
use Rattle.core_machine.specs.Words.{written, same_field, kind_field, shaded, claimed, born_colour}
use Rattle.core_machine.specs.Next.{can, after}
use Rattle.core_machine.proofs.Conditions.{write_needs, store_needs, fill_needs}
use Rattle.dlg_core.proofs.Changes.Field.{with_field}
use Rattle.dlg_core.proofs.Changes.Own.{with_own}
use Rattle.dlg_core.proofs.Changes.Shade.{with_colour}
use Rattle.dlg_core.proofs.Collects.Changes.{own_apart, field_apart, colour_apart, colour_beside}
use Rattle.dlg_core.proofs.Collects.Followed.{IsLeftIn, IsFollowed}
use Rattle.dlg_core.proofs.HeldLists.{holds_unmark, holds_more, holds_place, holds_kept}
use Rattle.dlg_core.proofs.HeldLists.{holds_marking}

-- What a change of one part leaves.

pub own_followed : (old s : State) (i : ℕ) (own : Own)
    → ((c : ℕ) → holds own.held c ≡ true → IsLeftIn old s c → ⊥)
    → IsFollowed old s → IsFollowed old (with_own s i own)
own_followed old s i own none k = record {
  grown = k.grown;
  apart = own_apart (IsLeftIn old s) s.rows s.owns s.colours i own none k.apart;
  way = k.way;
}

pub field_followed : (old s : State) (c f : ℕ) (x : Field)
    → ((d : ℕ) → x ≡ field.Cell d → IsLeftIn old s d → IsLeftIn old s c)
    → IsFollowed old s → IsFollowed old (with_field s c f x)
field_followed old s c f x fits k = record {
  grown = k.grown;
  apart = field_apart (IsLeftIn old s) s.rows s.owns s.colours c f x fits k.apart;
  way = k.way;
}

-- the colour of a cell outside changes
pub beside_followed : (old s : State) (c : ℕ) (x : Colour) → (IsLeftIn old s c → ⊥)
    → IsFollowed old s
    → IsFollowed old (with_colour s c x)
beside_followed old s c x out k = record {
  grown = k.grown;
  apart = colour_apart (IsLeftIn old s) s.rows s.owns s.colours c x (λ h. absurd (out h)) k.apart;
  way = colour_beside
      (IsLeftIn old s) old.control.cycles s.colours s.control s.collector.sweep s.collector.scan c x
      out k.way;
}

-- or of any, to what it was
pub same_followed : (old s : State) (c : ℕ) (x : Colour) → colour_of s c ≡ x → IsFollowed old s
    → IsFollowed old (with_colour s c x)
same_followed old s c x e k =
    let same : slice_set s.colours c x ≡ s.colours
    = subst (λ y. set s.colours c y ≡ s.colours) e (set-get_or s.colours c colour.Blue) in
    subst (λ colours. IsFollowed old (record s { colours = colours })) (sym same) k

-- What a mutator takes hold of.

pub begin_followed : (old s : State) (i : ℕ) → IsFollowed old s
    → IsFollowed old (after s (event.Begin i))
begin_followed old s i k =
    own_followed old s i (begun (own_of s i)) (λ c h left. elim (or_cases (0 == c) false h) [
      | inl here ↦ k.apart.anchor (subst (λ n. IsLeftIn old s n) (sym (eqb-true 0 c here)) left)
      | inr there ↦ absurd cc
    ]) k

pub unmark_followed : (old s : State) (i : ℕ) (own : Own)
    → ((c : ℕ) → holds own.held c ≡ holds (held_of s i) c)
    → IsFollowed old s → IsFollowed old (with_own s i own)
unmark_followed old s i own same k =
    own_followed old s i own (λ c h. k.apart.held i c (sym (same c) ∙ h)) k

-- one cell more is held, which is outside
pub more_followed : (old s : State) (i w : ℕ) (own : Own) → own.held ≡ (holding (own_of s i) w).held
    → (IsLeftIn old s w → ⊥) → IsFollowed old s → IsFollowed old (with_own s i own)
more_followed old s i w own is out k =
    own_followed old s i own (λ c h left.
    elim (holds_more (held_of s i) w c (subst (λ ps. holds ps c ≡ true) is h)) [
      | inl held ↦ k.apart.held i c held left
      | inr same ↦ out (subst (λ n. IsLeftIn old s n) (sym same) left)
    ]) k

-- who has read holds what was held before, or what was found
pub read_holds : (own : Own) (found : Field) (c : ℕ) → holds (having_read own found).held c ≡ true
    → (holds own.held c ≡ true) ⊎ (found ≡ field.Cell c)
read_holds own field.Null c h = inl h
read_holds own (field.Num n) c h = inl h
read_holds own (field.Cell w) c h = elim (holds_more own.held w c h) [
  | inl held ↦ inl held
  | inr same ↦ inr (ap (λ n. field.Cell n) same)
]

-- a held cell names none of the set
pub read_followed_at : (old s : State) (i b f : ℕ) (found : Field) → holds (held_of s i) b ≡ true
    → field_of s b f ≡ found
    → IsFollowed old s → IsFollowed old (with_own s i (having_read (own_of s i) found))
read_followed_at old s i b f field.Null held e k = unmark_followed old s i (own_of s i)
    (λ c. refl) k
read_followed_at old s i b f (field.Num n) held e k = unmark_followed old s i (own_of s i)
    (λ c. refl) k
read_followed_at old s i b f (field.Cell w) held e k =
    more_followed old s i w (holding (own_of s i) w) refl
    (λ left. k.apart.held i b held (k.apart.named b w f e left)) k

pub read_followed : (old s : State) (i place f : ℕ) → place < length (held_of s i)
    → IsFollowed old s
    → IsFollowed old (after s (event.Read i place f))
read_followed old s i place f lt k =
    read_followed_at old s i (target_of s i place) f (field_of s (target_of s i place) f)
    (holds_place (held_of s i) place lt) refl k

-- a fetch holds what a read does
pub fetch_followed : (old s : State) (i place f : ℕ) → place < length (held_of s i)
    → IsFollowed old s
    → IsFollowed old (after s (event.Fetch i place f))
fetch_followed old s i place f lt k =
    let b = target_of s i place in
    let found = field_of s b f in
    own_followed old s i (having_fetched (own_of s i) place f found)
    (λ c h left. elim (read_holds (own_of s i) found c h) [
      | inl held ↦ k.apart.held i c held left
      | inr is ↦ k.apart.held i b (holds_place (held_of s i) place lt)
          (k.apart.named b c f is left)
    ]) k

pub mark_followed : (old s : State) (i place : ℕ) → place < length (held_of s i) → IsFollowed old s
    → IsFollowed old (after s (event.Mark i place))
mark_followed old s i place lt k =
    let c = target_of s i place in
    let t = with_colour s c (shaded (colour_of s c)) in
    unmark_followed old t i (marking (own_of s i) c) (λ d. holds_marking (held_of s i) c d)
    (beside_followed old s c (shaded (colour_of s c))
    (k.apart.held i c (holds_place (held_of s i) place lt)) k)

pub keep_followed : (old s : State) (i count from copies : ℕ) → IsFollowed old s
    → IsFollowed old (after s (event.Keep i count from copies))
keep_followed old s i count from copies k =
    own_followed old s i _
    (λ c h. k.apart.held i c (holds_kept (held_of s i) count from copies c h)) k

-- What a mutator writes.

-- a value that names rightly names none of the set
pub rightly_outside : (old s : State) (i d : ℕ) (x : Field) → names_rightly (held_of s i) x ≡ true
    → x ≡ field.Cell d
    → IsFollowed old s → IsLeftIn old s d → ⊥
rightly_outside old s i d x rightly is k left =
    k.apart.held i d (subst (λ y. names_rightly (held_of s i) y ≡ true) is rightly) left

pub write_followed : (old s : State) (i place f : ℕ) (expected value : Field)
    → can s (event.Write i place f expected value) ≡ true
    → IsFollowed old s → IsFollowed old (after s (event.Write i place f expected value))
write_followed old s i place f expected value h k =
    let needs = write_needs s i place f expected value h in
    let b = target_of s i place in
    let found = field_of s b f in
    let fits : (d : ℕ) → written found expected value ≡ field.Cell d → IsLeftIn old s d
    → IsLeftIn old s b
    = (λ d. elim (same_field found expected)
    as (λ same. (if same then value else found) ≡ field.Cell d
    → IsLeftIn old s d → IsLeftIn old s b) [
      | true ↦ λ is left. absurd (rightly_outside old s i d value needs.names_new is k left)
      | false ↦ λ is left. k.apart.named b d f is left
    ]) in
    unmark_followed old (with_field s b f (written found expected value)) i (spent (own_of s i))
    (λ c. holds_unmark (held_of s i) c)
    (field_followed old s b f (written found expected value) fits k)

pub store_followed : (old s : State) (i : ℕ) (new : Field) → can s (event.Store i new) ≡ true
    → IsFollowed old s → IsFollowed old (after s (event.Store i new))
store_followed old s i new h k =
    let write = begun_of s i in
    let b = target_of s i write.place in
    unmark_followed old (with_field s b write.f new) i (spent (own_of s i))
    (λ c. holds_unmark (held_of s i) c)
    (field_followed old s b write.f new
    (λ d is left. absurd
    (rightly_outside old s i d new (store_needs s i new h).names is k left)) k)

pub fill_followed : (old s : State) (i place f : ℕ) (value : Field)
    → can s (event.Fill i place f value) ≡ true
    → IsFollowed old s → IsFollowed old (after s (event.Fill i place f value))
fill_followed old s i place f value h k =
    field_followed old s (target_of s i place) f value
    (λ d is left. absurd
    (rightly_outside old s i d value (fill_needs s i place f value h).names is k left)) k

pub kind_names_none : (x : Kind) (d : ℕ) → kind_field x ≢ field.Cell d
kind_names_none kind.Record d e = cc
kind_names_none kind.Boxed d e = cc

pub seal_followed : (old s : State) (i place : ℕ) (x : Kind) → IsFollowed old s
    → IsFollowed old (after s (event.Seal i place x))
seal_followed old s i place x k =
    field_followed old s (target_of s i place) 5 (kind_field x)
    (λ d is left. absurd (kind_names_none x d is)) k

-- Claim.

pub claim_followed_at : (old s : State) (i c : ℕ) (found born : Colour) → colour_of s c ≡ found
    → IsFollowed old s
    → IsFollowed old
    (with_own (with_colour s c (claimed found born)) i (having_claimed (own_of s i) c found))
claim_followed_at old s i c colour.Blue born e k =
    let out : IsLeftIn old s c → ⊥ = (λ left. k.apart.not_blue c left e) in
    more_followed old (with_colour s c born) i c
    (having_claimed (own_of s i) c colour.Blue) refl out
    (beside_followed old s c born out k)
claim_followed_at old s i c colour.White born e k =
    unmark_followed old (with_colour s c colour.White) i (own_of s i) (λ d. refl)
    (same_followed old s c colour.White e k)
claim_followed_at old s i c colour.Gray born e k =
    unmark_followed old (with_colour s c colour.Gray) i (own_of s i) (λ d. refl)
    (same_followed old s c colour.Gray e k)
claim_followed_at old s i c colour.Black born e k =
    unmark_followed old (with_colour s c colour.Black) i (own_of s i) (λ d. refl)
    (same_followed old s c colour.Black e k)

pub claim_followed : (old s : State) (i c : ℕ) → IsFollowed old s
    → IsFollowed old (after s (event.Claim i c))
claim_followed old s i c k =
    claim_followed_at old s i c (colour_of s c)
    (born_colour (presence_of s i).status (own_of s i).mode c) refl k
