-- What a lost turn made, carried over to a newer version.
use Rattle.std.proofs.Common.{◌≡◌, ◌≢◌, ℕ, ◌≤◌, ◌&&◌, Bool, true, nat_le, List, [], ◌∷◌, length}
use Rattle.std.proofs.Common.{take, Option, Some, None, Result, Ok, refl, sym, ◌∙◌, ap, subst}
use Rattle.std.proofs.Common.{arith}
use Rattle.std.proofs.lemmas.Bool.{and_parts, leb-true}
use Rattle.std.specs.Borrow.{Bor}
use Rattle.client_session.specs.Carries.{CarriesOn, Grafts, IsCarried, IsEdit, IsLost, Makes}
use Rattle.client_session.specs.Carries.{SourceAgrees, Stands, Tries, Works}
use Rattle.client_session.specs.Handles.{Edits, Handles, Still}
use Rattle.client_session.specs.Turns.{Answered, Begins, MayTurn, Opens, Outrun, account_of}
use Rattle.client_session.specs.Turns.{bounds}
use Rattle.client_session.specs.declared.given.Along.{Along}
use Rattle.client_session.specs.declared.given.Edited.{Edited}
use Rattle.client_session.specs.declared.given.Opened.{Opened}
use Rattle.client_session.specs.declared.given.Tried.{Tried}
use Rattle.client_session.specs.declared.given.Tried.TheVariants as tried
use Rattle.client_session.specs.declared.journal.Journal.{Journal}
use Rattle.client_session.proofs.Commits.{stopped_ends, worn_ends}
use Rattle.client_session.proofs.Editing.{edited_begun, edits_none, still_then, worked_begun}
use Rattle.client_session.proofs.Rooms.{begins_of}
use Rattle.client_history.specs.Progress.{KnowsTree, MakesNone}
use Rattle.client_history.specs.State.{ClientState, IsReady, Rests}
use Rattle.client_history.specs.Turns.{Begun}
use Rattle.client_history.proofs.States.{none_lost, none_then, rests_none}
use Rattle.client_history.proofs.Turning.{begun_on}
use Rattle.doc_model.specs.Answers.{attached, full_place}
use Rattle.doc_model.specs.declared.command.Command.{Command}
use Rattle.doc_model.specs.declared.command.Reply.TheVariants as reply
use Rattle.doc_tree.specs.Edits.{attach, delete, set_text, within_limits}
use Rattle.doc_tree.specs.Grafts.{Agree, IsAlong}
use Rattle.doc_tree.specs.Tree.{DocTree, node}
use Rattle.doc_tree.specs.declared.edit.EditFault.{EditFault}
use Rattle.doc_tree.proofs.Orderly.{within}
use Rattle.doc_tree.proofs.Grafts.{attach_along, delete_along, node_agrees, set_text_along}
use Rattle.trails.specs.Claims.{IsFull}
use Rattle.trails.specs.Stretches.{Had}

-- A try, after a look and after a promotion.

pub worn_late : (j : Journal) (c : Command) (v : ℕ) (b : ClientState) {s t : ClientState}
    (tree : DocTree) → Begun (bounds j.limits) (account_of j b) c v b s (Ok tree) → MakesNone s t
    → j.limits.versions ≤ v → IsReady t
    → Answered j c b t (record { reply = reply.Worn v; kept = reply.Worn v; place = v })
worn_late j c v b tree begun none worn ready =
    worn_ends j c v tree (begun_on (bounds j.limits) j.log.client (account_of j b) c begun none)
    worn ready

pub stopped_late : (j : Journal) (c : Command) (v : ℕ) (b : ClientState) {s t u : ClientState}
    (tree : DocTree) → Begun (bounds j.limits) (account_of j b) c v b s (Ok tree) → MakesNone s t
    → MakesNone t u → IsReady u → full_place v (account_of j b) c ≡ Some v
    → Had (IsFull t.cells) t.marks u.marks
    → Answered j c b u (record { reply = reply.Full v; kept = reply.Full v; place = v })
stopped_late j c v b tree begun one two ready needs full =
    stopped_ends j c v tree
    (begun_on (bounds j.limits) j.log.client (account_of j b) c begun one) two ready needs full

pub tries_late : (j : Journal) (v : ℕ) {At : Type 0} {s t : ClientState} (u : ClientState)
    (l : Handles At) {h k : Handles At} {at shared : At} (tried : Tried At) → MakesNone s t
    → Still h k → k.tree shared ≡ h.tree at → Tries j v t u k l shared tried
    → Tries j v s u h l at tried
tries_late j v {s = s} u l {h = h} (tried.Answered g) none still same tries = λ c b begun needs.
    tries c b
    (begun_on (bounds j.limits) j.log.client (account_of j b) c
    (subst (λ (d : DocTree). Begun (bounds j.limits) (account_of j b) c v b s (Ok d)) (sym same)
    begun) none) needs
tries_late j v u l (tried.Lost made) none still same lost = record {
  none = none_then none lost.none;
  ready = lost.ready;
  newer = lost.newer;
  still = still_then still lost.still;
  node = lost.node;
  same = lost.same ∙ same;
}

-- what is lost is lost after a wait too
pub lost_waited : {v : ℕ} {At : Type 0} {s t u : ClientState} {h k l : Handles At} {at made : At}
    → IsLost v s t h k at made → Rests 0 t u → Still k l → IsLost v s u h l at made
lost_waited {made = made} lost rests still = record {
  none = none_then lost.none (rests_none rests);
  ready = let ready = lost.ready in let room = rests.room in omega (arith, ready, room);
  newer = let newer = lost.newer in
      let seen = rests.lasts.passes.seen in
      omega (arith, newer, seen);
  still = still_then lost.still still;
  node = still.nodes made lost.node;
  same = still.trees made lost.node ∙ lost.same;
}

-- Each edit is carried over. At the end of a path without names it is made of one and the same
-- tree.

abbrev pub along_path : Bor (List (List ℕ)) → Along
along_path path = record { path = path; source = None }

whole_same : (f : DocTree → Result DocTree EditFault) (r s e d t : DocTree) → f r ≡ Ok e
    → ◌≡◌ {A = Option DocTree} (Some s) (Some r) → ◌≡◌ {A = Option DocTree} (Some e) (Some d)
    → within_limits d ≡ Ok t → f s ≡ Ok t
whole_same f r s e d t made agree child put =
    let same : s ≡ r = cc in
    let other : e ≡ d = cc in
    ap f same ∙ made ∙ ap Ok (other ∙ (within d t put).is)

text_along : (path : List (List ℕ)) (text : List ℕ) → IsAlong path (set_text path text)
text_along [] text r s e d t made agree child put =
    whole_same (set_text [] text) r s e d t made agree child put
text_along (n ∷ path) text r s e d t made agree child put =
    set_text_along (n ∷ path) text (omega arith) r s e d t made agree child put

tree_along : (path : List (List ℕ)) (sub : DocTree) → IsAlong path (attach path sub)
tree_along [] sub r s e d t made agree child put =
    whole_same (attach [] sub) r s e d t made agree child put
tree_along (n ∷ path) sub r s e d t made agree child put =
    attach_along (n ∷ path) sub (omega arith) r s e d t made agree child put

deletion_along : (path : List (List ℕ)) → length path ≢ 1 → IsAlong path (delete path)
deletion_along [] long r s e d t made agree child put = absurd (cc)
deletion_along (n ∷ []) long r s e d t made agree child put = absurd (long refl)
deletion_along (n ∷ m ∷ path) long r s e d t made agree child put =
    delete_along (n ∷ m ∷ path) (omega arith) r s e d t made agree child put

below_agrees : (path : List (List ℕ)) (r s : DocTree) → Agree path r s
    → node path s ≡ node path r
below_agrees [] r s agree = agree
below_agrees (n ∷ path) r s agree = node_agrees (n ∷ path) r s (omega arith) agree

pub put_carried : (path : Bor (List (List ℕ))) (text : List ℕ)
    → IsCarried (along_path path) (set_text path.now text)
put_carried path text r s e d t made agree source child put =
    text_along path.now text r s e d t made agree child put

pub published_carried : (path : Bor (List (List ℕ))) (sub : DocTree)
    → IsCarried (along_path path) (attach path.now sub)
published_carried path sub r s e d t made agree source child put =
    tree_along path.now sub r s e d t made agree child put

pub deleted_carried : (path : Bor (List (List ℕ))) → length path.now ≢ 1
    → IsCarried (along_path path) (delete path.now)
deleted_carried path long r s e d t made agree source child put =
    deletion_along path.now long r s e d t made agree child put

-- what is copied is the same where the child above it is
copied : (to : List (List ℕ)) (r s e d t : DocTree) (source : Option DocTree)
    → attached to r source ≡ Ok e → Agree to r s → node (take 1 to) e ≡ Some d
    → attach (take 1 to) d s ≡ Ok t → attached to s source ≡ Ok t
copied to r s e d t (Some sub) made agree child put =
    tree_along to sub r s e d t made agree child put
copied to r s e d t None made agree child put = absurd (cc)

pub copied_carried : (path source : Bor (List (List ℕ)))
    → IsCarried (record { path = path; source = Some source })
    (λ (d : DocTree). attached path.now d (node source.now d))
copied_carried path source r s e d t made agree below child put =
    ap (attached path.now s) (below_agrees source.now r s below)
    ∙ copied path.now r s e d t (node source.now r) made agree child put

-- One step of the way from version to version.

module _ {At : Type 0} {s t u : ClientState} {h k l : Handles At} {along : Along}
    {e next : Edited At} {made : At} (stands : Stands s h e)
    (lost : IsLost e.opened.version.number s t h k e.node made) (none : MakesNone t u)
    (carries : CarriesOn along t u k l e.opened.root made next) where
  pub stands_on : Stands u l next
  stands_on =
      let holds = carries.opens.holds in
      let seen = carries.opens.read.seen in
      let later = carries.none.lasts.passes.seen in
      record {
        version = holds.version;
        root = holds.node;
        node = carries.grafts.node;
        seen = omega (arith, seen, later);
        room = carries.room;
      }

  module _ (j : Journal) (c : Command) (f : DocTree → Result DocTree EditFault) (b : ClientState)
      (makes : Makes j c f along b s h e) where
    none_before : MakesNone b t
    none_before = none_then makes.none lost.none

    -- the edit made this of the root's tree
    made_there : f (k.tree e.opened.root) ≡ Ok (k.tree made)
    made_there =
        ap f (lost.still.trees e.opened.root stands.root)
        ∙ sym makes.is
        ∙ ap Ok (sym lost.same)

    made_here : f (l.tree next.opened.root) ≡ Ok (l.tree next.node)
    made_here =
        makes.edit.carried (k.tree e.opened.root) (l.tree next.opened.root) (k.tree made)
        carries.grafts.child (l.tree next.node) made_there carries.grafts.same carries.source
        carries.grafts.child_is carries.grafts.attached

    pub makes_on : Makes j c f along b u l next
    makes_on = record {
      may = makes.may;
      edit = makes.edit;
      none = none_then none_before none;
      begun = worked_begun j c next.opened f (Ok (l.tree next.node)) makes.may
          (begins_of none_before carries.opens carries.enough carries.spare) carries.none
          (sym made_here) makes.edit.spared (makes.edit.answers next.opened.version.number);
      is = sym made_here;
    }

-- what was opened is open still
pub opens_later : {At : Type 0} {s t : ClientState} {h k : Handles At} {o : Opened At}
    → Opens s t h o → Still h k → Opens s t k o
opens_later {s = s} {t = t} {h = h} {k = k} {o = o} opens still = record {
  read = opens.read;
  holds = record {
    version = still.versions o.version opens.holds.version;
    node = still.nodes o.root opens.holds.node;
    same = still.roots o.version opens.holds.version
        ∙ opens.holds.same
        ∙ sym (still.trees o.root opens.holds.node);
    knows = subst (λ (d : DocTree). KnowsTree t.pass o.version.number d)
        (sym (still.trees o.root opens.holds.node)) opens.holds.knows;
  };
  rests = opens.rests;
}

-- what a source's trees agree in
pub source_late : (source : Option (Bor (List (List ℕ)))) {r s u v : DocTree} → u ≡ r → v ≡ s
    → SourceAgrees source u s → SourceAgrees source r v
source_late None one other agree = tt
source_late (Some source) one other agree =
    ap (node (take 1 source.now)) other ∙ agree ∙ ap (node (take 1 source.now)) one

pub roomy : (room spare : ℕ) (answer : Bool)
    → answer ≡ (nat_le 20_480 room && nat_le 2_285 spare) → answer ≡ true
    → (20_480 ≤ room) × (2_285 ≤ spare)
roomy room spare answer is holds =
    let parts = and_parts (nat_le 20_480 room) (nat_le 2_285 spare) (sym is ∙ holds) in
    (leb-true 20_480 room parts.0, leb-true 2_285 spare parts.1)

-- a root's tree is what it was
pub grafts_late : {At : Type 0} {first : List (List ℕ)} {h k l : Handles At}
    {root made newer at : At} → Still h k → h.is_node root → h.is_node made
    → Grafts first k l root made newer at → Grafts first h l root made newer at
grafts_late {first = first} {root = root} {made = made} still stands was grafts = record {
  same = grafts.same ∙ ap (node first) (still.trees root stands);
  child = grafts.child;
  child_is = ap (node first) (sym (still.trees made was)) ∙ grafts.child_is;
  attached = grafts.attached;
  node = grafts.node;
}

-- The turn is lost.
pub makes_outrun : {At : Type 0} {s t u : ClientState} {h k : Handles At} {along : Along}
    {e : Edited At} {made : At} → IsLost e.opened.version.number s t h k e.node made
    → MakesNone t u → IsReady u → (j : Journal) (c : Command)
    (f : DocTree → Result DocTree EditFault) (b : ClientState) → Makes j c f along b s h e
    → Outrun b u
makes_outrun lost none ready j c f b makes = record {
  lost = none_lost ready (none_then (none_then makes.none lost.none) none);
  newer = let low = makes.begun.read.not_below in
      let newer = lost.newer in
      let seen = none.lasts.passes.seen in omega (arith, low, newer, seen);
}

-- One edit of the latest version, of a command that answers with what it makes.
pub edit_works : (j : Journal) (c : Command) {At : Type 0} {s t u : ClientState} {h k : Handles At}
    {along : Along} (o : Opened At) (places : ℕ) (f : DocTree → Result DocTree EditFault)
    (edited : Result DocTree EditFault)
    → MayTurn j s → IsEdit j c f along s → Begins s t h o → Edits places t u → Still h k
    → edited ≡ f (h.tree o.root)
    → Works j c f along s u k o edited
edit_works j c o places f edited may edit begins edits still made = record {
  may = may;
  edit = edit;
  none = none_then begins.read.none (edits_none edits);
  begun = edited_begun j c o places f edited may begins edits made edit.spared
      (edit.answers o.version.number);
  is = made ∙ ap f (sym (still.trees o.root begins.holds.node));
}
