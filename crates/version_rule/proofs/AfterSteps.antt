-- What a seat shows after a step on versions.
use Rattle.std.proofs.Common.{◌≡◌, ◌+◌, ◌-◌, ℕ, Bool, true, false}
use Rattle.std.proofs.Common.{List, [], ◌∷◌, ◌++◌, length, max}
use Rattle.std.proofs.Common.{inl, inr, refl, sym, ◌∙◌, ap, subst, arith}
use Rattle.std.proofs.lemmas.Bool.{eq-eqb}
use Rattle.std.proofs.lemmas.List.{append_assoc, get_or_push, length_push}
use Rattle.cell_words.specs.declared.fields.Field.{Field}
use Rattle.cell_words.specs.declared.fields.Field.TheVariants as field
use Rattle.cell_words.specs.Field.{pack_field_of}
use Rattle.cell_words.specs.Term.{IsFive, Term}
use Rattle.core_machine.specs.declared.events.Event.{Event}
use Rattle.core_machine.specs.declared.events.Event.TheVariants as event
use Rattle.core_machine.specs.declared.events.Found.{Found}
use Rattle.core_machine.specs.declared.events.Found.TheVariants as finds
use Rattle.core_machine.specs.declared.places.Held.{Held}
use Rattle.core_machine.specs.Next.{found_by}
use Rattle.core_machine.specs.Own.{having_read_by}
use Rattle.core_machine.specs.declared.events.Taken.{Taken}
use Rattle.core_machine.specs.Places.{found_at, no_place}
use Rattle.core_machine.specs.State.{State, field_of, target_of}
use Rattle.core_machine.specs.Words.{same_field}
use Rattle.core_machine.proofs.WordOperations.{same_packed}
use Rattle.dlg_core.proofs.Events.Write.{same_field_is}
use Rattle.doc_tree.specs.Tree.{DocTree}
use Rattle.heap_rule.specs.Asks.{target}
use Rattle.heap_rule.specs.Boxes.{Map}
use Rattle.heap_rule.specs.Lore.{Lore, at_cell, learned}
use Rattle.heap_rule.specs.Rule.{told, took}
use Rattle.heap_rule.specs.Steps.{AtStep, Mine, same_pass}
use Rattle.heap_rule.specs.declared.known.Known.{Known}
use Rattle.heap_rule.specs.declared.known.Learned.{Learned}
use Rattle.heap_rule.specs.declared.view.View.{View}
use Rattle.trails.specs.Asks.{here, nothing}
use Rattle.version_rule.specs.Knowing.{IsVersionKnown, KnowsVersion, latest_seen, link_cut}
use Rattle.version_rule.specs.Knowing.{link_seen}
use Rattle.version_rule.specs.Knowing.{MayCommit, link_taken, made_or_seen, next_made}
use Rattle.version_rule.specs.Knowing.{root_told, tree_read}
use Rattle.version_rule.specs.Pass.{Pass, cutting, reading, seeing}
use Rattle.version_rule.specs.Shows.{ReadsLatest, ShowsCommit, ShowsLatest, ShowsLink}
use Rattle.version_rule.specs.Shows.{ShowsNumber}
use Rattle.version_rule.specs.Shows.{ShowsRoot}
use Rattle.version_rule.specs.Versions.{HoldsVersions, is_fixed}
use Rattle.version_rule.proofs.Reading.{here_known, number_known, root_known, tells_latest}
use Rattle.heap_rule.proofs.AfterReads.{found_known, has_read}
use Rattle.heap_rule.proofs.Seats.{target_now}
use Rattle.version_rule.proofs.Writing.{low_now}
use Rattle.version_rule.proofs.Reading.{tells_link, tells_number, tells_root}

-- A version that a read found is held and known at the next place.
module _ (v w : View Pass) (s : State) (l : Lore) (mine : Mine is_fixed v s l) (place f : ℕ)
    (found : Found) (tells : Learned) (pass : Pass)
    (new : w ≡ told v (event.Read v.number place f) found tells pass) where
  pub found_version : (cell n : ℕ) (root : Term) → found ≡ finds.Field (field.Cell cell)
      → IsVersionKnown tells.found n root
      → KnowsVersion w (length v.own.held) n root
  found_version cell n root is known = record {
    there =
        let more = length_push v.own.held (found_at cell) in
        let longer : length w.own.held ≡ length (v.own.held ++ found_at cell ∷ []) =
        ap (λ (u : View Pass). length u.own.held) new
        ∙ ap (λ (x : Found). length (having_read_by v.own x).held) is in
        omega (arith, more, longer);
    known = subst (λ (k : Known). IsVersionKnown k n root)
        (sym (found_known is_fixed v w s l mine place f found tells pass new cell is)) known;
  }

module _ (is_tree : Term → Type 0) (tree_of : Term → DocTree)
    (is_record : (t : Term) → is_tree t → IsFive t) (v w : View Pass) (place word : ℕ) where
  pub shows_latest : target v place ≡ 0
      → AtStep (HoldsVersions is_tree tree_of) is_fixed v (event.Read v.number place 0) latest_seen
      word w
      → ShowsLatest is_tree v w place word
  shows_latest anchor step =
      let e = event.Read v.number place 0 in
      let s = step.core in
      let l = step.lore in
      let tells = learned s l e in
      let found = found_by s e in
      let is = tells_latest is_tree tree_of is_record v s l step.passes step.mine step.kept
      step.pass place anchor in
      let pass : w.pass ≡ seeing is.number v.pass =
      ap (λ (u : View Pass). u.pass) step.new
      ∙ ap (λ (n : ℕ). seeing n v.pass)
      (number_known tells.found is.number is.root is.known) in
      record {
        cell = is.cell;
        read =
            let next = latest_seen tells found v.pass in
            has_read is_fixed v w s l step.mine place 0 found tells next step.new word
            (field.Cell is.cell) is.found_is step.says;
        number = is.number;
        root = is.root;
        known = found_version v w s l step.mine place 0 found tells
            (latest_seen tells found v.pass) step.new is.cell is.number is.root is.found_is
            is.known;
        spells = is.spells;
        not_below = is.not_below;
        newest = is.newest;
        few = is.few;
        pass = pass;
        seen = ap (λ (p : Pass). p.seen) pass
            ∙ (let le = is.not_below in let e : max v.pass.seen is.number ≡ is.number =
            omega (arith, le) in e);
      }

  module _ (n : ℕ) (root : Term) (knows : KnowsVersion v place n root) where
    pub shows_number : AtStep (HoldsVersions is_tree tree_of) is_fixed v
        (event.Read v.number place 0) same_pass word w
        → ShowsNumber v w place word n
    shows_number step =
        let e = event.Read v.number place 0 in
        let s = step.core in
        let l = step.lore in
        let is = tells_number is_tree tree_of is_record v s l step.passes step.mine step.kept
        step.pass place n root knows in
        record {
          read = has_read is_fixed v w s l step.mine place 0 (found_by s e) (learned s l e) v.pass
              step.new word (field.Num n) is step.says;
          pass = ap (λ (u : View Pass). u.pass) step.new;
        }

    pub shows_root : AtStep (HoldsVersions is_tree tree_of) is_fixed v
        (event.Read v.number place 1) (tree_read tree_of) word w
        → ShowsRoot is_tree tree_of v w place word n root
    shows_root step =
        let e = event.Read v.number place 1 in
        let s = step.core in
        let l = step.lore in
        let tells = learned s l e in
        let found = found_by s e in
        let is = tells_root is_tree tree_of is_record v s l step.passes step.mine step.kept
        step.pass place n root knows in
        record {
          cell = is.cell;
          read = has_read is_fixed v w s l step.mine place 1 found tells
              (tree_read tree_of tells found v.pass) step.new word (field.Cell is.cell) is.found_is
              step.says;
          known = found_known is_fixed v w s l step.mine place 1 found tells
              (tree_read tree_of tells found v.pass) step.new is.cell is.found_is ∙ is.known;
          spells = is.spells;
          pass = ap (λ (u : View Pass). u.pass) step.new
              ∙ ap (λ (m : ℕ). reading m (tree_of (root_told tells.here)) v.pass)
              (number_known tells.here n root is.here)
              ∙ ap (λ (t : Term). reading n (tree_of t) v.pass)
              (root_known tells.here n root is.here);
        }

    -- a read of the link, by the pass that is picked
    link_shown : (next : Learned → Found → Pass → Pass) (pass_then : Pass)
        → ((tells : Learned) → IsVersionKnown tells.here n root
        → next tells (finds.Field field.Null) v.pass ≡ pass_then)
        → ((tells : Learned) (cell : ℕ)
        → next tells (finds.Field (field.Cell cell)) v.pass ≡ v.pass)
        → AtStep (HoldsVersions is_tree tree_of) is_fixed v (event.Read v.number place 2) next
        word w
        → ShowsLink is_tree v w place word n pass_then
    link_shown next pass_then at_null at_cell step =
        let e = event.Read v.number place 2 in
        let s = step.core in
        let l = step.lore in
        let tells = learned s l e in
        let found = found_by s e in
        let here = here_known is_tree tree_of is_record v s l step.passes step.mine step.kept
        step.pass place n root knows 2 in
        elim (tells_link is_tree tree_of is_record v s l step.passes step.mine step.kept
        step.pass place n root knows) [
          | inl none ↦ inl record {
            read = has_read is_fixed v w s l step.mine place 2 found tells
                (next tells found v.pass) step.new word field.Null none step.says;
            pass = ap (λ (u : View Pass). u.pass) step.new
                ∙ ap (λ (x : Found). next tells x v.pass) none ∙ at_null tells here;
          }
          | inr is ↦ inr record {
            cell = is.cell;
            read = has_read is_fixed v w s l step.mine place 2 found tells
                (next tells found v.pass) step.new word (field.Cell is.cell) is.found_is step.says;
            older = is.older;
            before = is.before;
            root = is.root;
            known = found_version v w s l step.mine place 2 found tells (next tells found v.pass)
                step.new is.cell is.older is.root is.found_is is.known;
            spells = is.spells;
            pass = ap (λ (u : View Pass). u.pass) step.new
                ∙ ap (λ (x : Found). next tells x v.pass) is.found_is
                ∙ at_cell tells is.cell;
          }
        ]

    pub shows_link_seen : AtStep (HoldsVersions is_tree tree_of) is_fixed v
        (event.Read v.number place 2) link_seen word w
        → ShowsLink is_tree v w place word n (seeing (n + v.pass.keep - 1) v.pass)
    shows_link_seen = link_shown link_seen (seeing (n + v.pass.keep - 1) v.pass)
        (λ tells here. ap (λ (m : ℕ). seeing (m + v.pass.keep - 1) v.pass)
        (number_known tells.here n root here)) (λ tells cell. refl)

    pub shows_link_cut : AtStep (HoldsVersions is_tree tree_of) is_fixed v
        (event.Read v.number place 2) link_cut word w
        → ShowsLink is_tree v w place word n (cutting n v.pass)
    shows_link_cut = link_shown link_cut (cutting n v.pass)
        (λ tells here. ap (λ (m : ℕ). cutting m v.pass) (number_known tells.here n root here))
        (λ tells cell. refl)

-- After a write of the anchor's field.
module _ (is_tree : Term → Type 0) (tree_of : Term → DocTree)
    (is_record : (t : Term) → is_tree t → IsFive t) (v w : View Pass) (word : ℕ)
    (place latest box root number : ℕ) (before made : Term)
    (may : MayCommit is_tree v place latest box root number before made) where
  abbrev over : Field
  over = field.Cell (target v latest)

  abbrev write : Event
  write = event.Write v.number place 0 over (field.Cell (target v box))

  abbrev picked : Learned → Found → Pass → Pass
  picked = next_made over number (tree_of before) (tree_of made)

  module _ (step : AtStep (HoldsVersions is_tree tree_of) is_fixed v write picked word w) where
    abbrev value : Field
    value = field_of step.core (target_of step.core v.number place) 0

    is_anchor : target_of step.core v.number place ≡ 0
    is_anchor = target_now v step.core step.lore step.mine place ∙ may.anchor

    by_made : (b : Bool) → same_field value over ≡ b
        → ShowsCommit v w word (target v latest) number (tree_of before) (tree_of made)
    by_made true is = inl record {
      word_is = sym (ap pack_field_of (same_field_is value over is)) ∙ step.says;
      pass = ap (λ (u : View Pass). u.pass) step.new
          ∙ ap (λ (b : Bool). made_or_seen b number (tree_of before) (tree_of made) v.pass) is;
      low = low_now is_tree tree_of is_record v step.core step.lore step.passes step.mine step.kept
          step.pass place latest box root number before made may
          (sym (ap (λ (x : ℕ). field_of step.core x 0) is_anchor)
          ∙ same_field_is value over is);
    }
    by_made false is = inr record {
      word_other = λ e.
          let same : pack_field_of value ≡ pack_field_of over = step.says ∙ sym e in
          let clash : false ≡ true = sym is ∙ sym (same_packed value over)
          ∙ eq-eqb (pack_field_of value) (pack_field_of over) same in cc;
      pass = ap (λ (u : View Pass). u.pass) step.new
          ∙ ap (λ (b : Bool). made_or_seen b number (tree_of before) (tree_of made) v.pass) is;
    }

    pub shows_commit : ShowsCommit v w word (target v latest) number (tree_of before)
        (tree_of made)
    shows_commit = by_made (same_field value over) refl

-- an exchange of a version's link
pub shows_taken : (holding : Map → List Pass → Type 0) (v w : View Pass)
    (word place number : ℕ) (old new : Field)
    → AtStep holding is_fixed v (event.Write v.number place 2 old new) (link_taken number) word w
    → w.pass ≡ cutting number v.pass
shows_taken holding v w word place number old new step =
    ap (λ (u : View Pass). u.pass) step.new

-- and a store over it
pub shows_cut : (holding : Map → List Pass → Type 0) (v w : View Pass) (word number : ℕ)
    (new : Field)
    → AtStep holding is_fixed v (event.Store v.number new) (link_taken number) word w
    → w.pass ≡ cutting number v.pass
shows_cut holding v w word number new step = ap (λ (u : View Pass). u.pass) step.new

-- a read of the anchor, and one of the number of the version that it found
pub reads_latest : (is_tree : Term → Type 0) (v w x : View Pass) (place word other : ℕ)
    → target v place ≡ 0 → (first : ShowsLatest is_tree v w place word)
    → ShowsNumber w x (length v.own.held) other first.number
    → ReadsLatest v x first.cell first.number
reads_latest is_tree v w x place word other anchor first second =
    let one = took (event.Read v.number place 0) (finds.Field (field.Cell first.cell)) in
    let two = took (event.Read w.number (length v.own.held) 0)
    (finds.Field (field.Num first.number)) in
    record {
      added = one ∷ two ∷ [];
      trail = second.read.trail ∙ ap (λ (ts : List Taken). ts ++ two ∷ []) first.read.trail
          ∙ append_assoc v.trail (one ∷ []) (two ∷ []);
      shown = here (anchor, refl, refl) (here (
        ap (λ (p : Held). p.cell)
            (get_or_push v.own.held (found_at first.cell) no_place (length v.own.held) refl),
        refl,
        refl,
      ) nothing);
      pass = second.pass ∙ first.pass;
      seen = ap (λ (p : Pass). p.seen) second.pass ∙ first.seen;
    }
