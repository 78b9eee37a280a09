-- The clients after their threads, of which all seats are joined and all logs kept.
use Rattle.std.proofs.Common.{◌≡◌, ◌+◌, ℕ, suc, Bool, ◌||◌, true, false, List, [], ◌∷◌, ◌++◌}
use Rattle.std.proofs.Common.{length}
use Rattle.std.proofs.Common.{map, take, refl, sym, ◌∙◌, ap, subst, arith}
use Rattle.std.specs.Prelude.{Vec}
use Rattle.std.specs.List.{list_any}
use Rattle.std.specs.declared.alloc.Global.{Global}
use Rattle.std.proofs.lemmas.Bool.{or_parts}
use Rattle.std.proofs.lemmas.List.{append-nil, append_assoc, length-map}
use Rattle.atomic_table.proofs.Lists.{at_map}
use mathlib.Core.Option.{some}
use lib.ListN.{get_elem?}
use Rattle.beside_collector.specs.Places.{AllFrom}
use Rattle.beside_collector.specs.Scripts.{script_of}
use Rattle.client_session.specs.declared.journal.Limits.{Limits as ClientLimits}
use Rattle.client_threads.specs.Clients.{AllDone, IsDone, places_for, store_limits}
use Rattle.client_threads.specs.Taken.{AreFronts, AreTaken, commands_in, has_failed, log_of}
use Rattle.client_threads.specs.declared.clients.Client.{Client}
use Rattle.doc_model.specs.ClientLog.{ClientLog}
use Rattle.doc_model.specs.Scripts.{lists_of}
use Rattle.doc_model.specs.declared.command.Command.{Command}
use Rattle.doc_model.specs.declared.command.Entry.{Entry}
use Rattle.heap_rule.specs.Rule.{share_of}
use Rattle.heap_rule.specs.declared.view.Place.{Place}
use Rattle.heap_rule.specs.declared.view.Place.TheVariants as places
use Rattle.heap_table.specs.Seats.{HeapId}
use Rattle.mutator_threads.proofs.EachDone.{all_so, part_at, stands_at}
use Rattle.mutator_threads.specs.Closing.{joined_parts}
use Rattle.mutator_threads.specs.Mutators.{AreOver, IsOver, own_of, views_of}
use Rattle.mutator_threads.specs.declared.worker.Worker.{Worker}
use Rattle.version_rule.specs.Pass.{Pass}

-- what holds of each at its place, counted from the next one on
next_from : {W : Type 0} (G : ℕ → W → Type 0) (place : ℕ) (ws : List W) → AllFrom G (suc place) ws
    → AllFrom (λ (n : ℕ) (w : W). G (suc n) w) place ws
next_from G place [] all = tt
next_from G place (w ∷ ws) all =
    let same : suc place + 1 ≡ suc (place + 1) = omega arith in
    (all.0, next_from G (place + 1) ws (subst (λ (k : ℕ). AllFrom G k ws) same all.1))

-- each has commands of the script at its place

abbrev IsFront : List Command → Worker Pass Client → Type 0
IsFront script client =
    commands_in (log_of client.own) ≡ take (length (log_of client.own).entries) script

abbrev IsWhole : List Command → Worker Pass Client → Type 0
IsWhole script client = client.own.failed ≡ false → commands_in (log_of client.own) ≡ script

fronts_of : (scripts : List (Vec Command Global)) (clients : List (Worker Pass Client))
    → length clients ≡ length scripts
    → AllFrom (λ (n : ℕ) (c : Worker Pass Client). IsFront (script_of scripts n) c) 0 clients
    → AreFronts (map commands_in (map log_of (own_of clients))) (lists_of scripts)
fronts_of [] [] many all = tt
fronts_of [] (c ∷ clients) many all = absurd (omega (arith, many))
fronts_of (s ∷ scripts) [] many all = absurd (omega (arith, many))
fronts_of (s ∷ scripts) (c ∷ clients) many all =
    let one : 0 + 1 ≡ suc 0 = omega arith in
    let same = length-map (log_of c.own).entries (λ (e : Entry). e.command) in (
      all.0 ∙ ap (λ (n : ℕ). take n s.items) (sym same),
      fronts_of scripts clients (omega (arith, many))
          (next_from (λ (n : ℕ) (d : Worker Pass Client). IsFront (script_of (s ∷ scripts) n) d)
          0 clients
          (subst (λ (k : ℕ). AllFrom (λ (n : ℕ) (d : Worker Pass Client).
          IsFront (script_of (s ∷ scripts) n) d) k clients) one all.1)),
    )

whole_of : (scripts : List (Vec Command Global)) (clients : List (Worker Pass Client))
    → length clients ≡ length scripts
    → AllFrom (λ (n : ℕ) (c : Worker Pass Client). IsWhole (script_of scripts n) c) 0 clients
    → list_any has_failed (own_of clients) ≡ false
    → map commands_in (map log_of (own_of clients)) ≡ lists_of scripts
whole_of [] [] many all none = refl
whole_of [] (c ∷ clients) many all none = absurd (omega (arith, many))
whole_of (s ∷ scripts) [] many all none = absurd (omega (arith, many))
whole_of (s ∷ scripts) (c ∷ clients) many all none =
    let one : 0 + 1 ≡ suc 0 = omega arith in
    let both = or_parts (has_failed c.own) (list_any has_failed (own_of clients)) none in
    let first : commands_in (log_of c.own) ≡ s.items = all.0 both.0 in
    let rest : map commands_in (map log_of (own_of clients)) ≡ lists_of scripts =
    whole_of scripts clients (omega (arith, many))
    (next_from (λ (n : ℕ) (d : Worker Pass Client). IsWhole (script_of (s ∷ scripts) n) d)
    0 clients
    (subst (λ (k : ℕ). AllFrom (λ (n : ℕ) (d : Worker Pass Client).
    IsWhole (script_of (s ∷ scripts) n) d) k clients) one all.1)) both.1 in
    (λ k. first k ∷ rest k)

-- The logs, taken one after the other.

or_then : (a b c : Bool) → ((a || b) || c) ≡ (a || (b || c))
or_then true b c = refl
or_then false b c = refl

or_none : (a : Bool) → (a || false) ≡ a
or_none true = refl
or_none false = refl

-- the first gave these logs, and these clients are left
pub record LogsSoFar (all rest : List Client) (logs : List ClientLog) (failed : Bool) : Type 0 where
  pub given : logs ++ map log_of rest ≡ map log_of all
  pub failing : (failed || list_any has_failed rest) ≡ list_any has_failed all

pub one_log : (all left rest : List Client) (client : Client) (logs now : List ClientLog)
    (log : ClientLog) (failed : Bool) → LogsSoFar all left logs failed → left ≡ client ∷ rest
    → log ≡ log_of client → now ≡ logs ++ log ∷ []
    → LogsSoFar all rest now (failed || client.failed)
one_log all left rest client logs now log failed so is log_is now_is = record {
  given = ap (λ (gs : List ClientLog). gs ++ map log_of rest) now_is
      ∙ append_assoc logs (log ∷ []) (map log_of rest)
      ∙ ap (λ (g : ClientLog). logs ++ (g ∷ map log_of rest)) log_is
      ∙ ap (λ (cs : List Client). logs ++ map log_of cs) (sym is) ∙ so.given;
  failing = or_then failed client.failed (list_any has_failed rest)
      ∙ ap (λ (cs : List Client). failed || list_any has_failed cs) (sym is) ∙ so.failing;
}

pub no_more_logs : (all rest : List Client) (logs : List ClientLog) (failed : Bool)
    → LogsSoFar all rest logs failed → length rest ≡ 0
    → (logs ≡ map log_of all) × (failed ≡ list_any has_failed all)
no_more_logs all [] logs failed so none =
    (sym (append-nil logs) ∙ so.given, sym (or_none failed) ∙ so.failing)
no_more_logs all (c ∷ rest) logs failed so none = absurd (omega (arith, none))

-- What so many clients leave: their seats are joined, and the logs are of the first commands of
-- their scripts; of all of them, where none failed.
pub record HaveLeft (cells : ℕ) (limits : ClientLimits) (scripts : List (Vec Command Global))
    (logs : List ClientLog) (failed : Bool) (joined : List (Place Pass)) : Type 0 where
  pub taken : AreTaken (store_limits limits) cells (places_for limits.minor) (length scripts) logs
      joined
  pub fronts : AreFronts (map commands_in logs) (lists_of scripts)
  pub whole : failed ≡ false → map commands_in logs ≡ lists_of scripts

module _ (heap : HeapId) (limits : ClientLimits) (scripts : List (Vec Command Global)) where
  abbrev Done : ℕ → Worker Pass Client → Type 0
  Done number client = IsDone heap limits scripts number client

  module _ (clients : List (Worker Pass Client)) (done : AllDone heap limits scripts clients) where
    pub clients_over : AreOver heap clients
    clients_over =
        all_so Done (λ (n : ℕ) (c : Worker Pass Client). IsOver heap n c.seat)
        (λ n c is. is.is_over) 0 clients
        done

    module _ (many : length clients ≡ length scripts) where
      clients_taken : (joined : List (Place Pass))
          → ((i : ℕ) (c : Worker Pass Client) → get_elem? clients i ≡ some c
          → get_elem? joined i ≡ some (places.Joined (share_of c.seat.me)))
          → AreTaken (store_limits limits) heap.shape.cells (places_for limits.minor)
          (length scripts) (map log_of (own_of clients)) joined
      clients_taken joined placed = record {
        many = length-map (own_of clients) log_of
            ∙ length-map clients (λ (c : Worker Pass Client). c.own) ∙ many;
        left = λ i lt. let its = stands_at Done clients i (omega (arith, lt, many)) done in record {
          log = log_of its.one.own;
          log_at = at_map log_of (own_of clients) i its.one.own
              (at_map (λ (c : Worker Pass Client). c.own) clients i its.one its.at);
          share = share_of its.one.seat.me;
          share_at = placed i its.one its.at;
          left = its.holds.left;
        };
        rooms = λ i lt.
            let its = stands_at Done clients i (omega (arith, lt, many)) done in record {
              share = share_of its.one.seat.me;
              share_at = placed i its.one its.at;
              room_is = its.holds.room;
            };
      }

      clients_fronts : AreFronts (map commands_in (map log_of (own_of clients)))
          (lists_of scripts)
      clients_fronts =
          fronts_of scripts clients many
          (all_so Done (λ (n : ℕ) (c : Worker Pass Client). IsFront (script_of scripts n) c)
          (λ n c is. is.front) 0 clients done)

      clients_whole : list_any has_failed (own_of clients) ≡ false
          → map commands_in (map log_of (own_of clients)) ≡ lists_of scripts
      clients_whole =
          whole_of scripts clients many
          (all_so Done (λ (n : ℕ) (c : Worker Pass Client). IsWhole (script_of scripts n) c)
          (λ n c is. is.whole) 0 clients done)

      -- with what was taken of them, by where the part of each stands
      pub have_left_at : (own : List Client) (logs : List ClientLog) (failed : Bool)
          (joined : List (Place Pass))
          → ((i : ℕ) (c : Worker Pass Client) → get_elem? clients i ≡ some c
          → get_elem? joined i ≡ some (places.Joined (share_of c.seat.me)))
          → own ≡ own_of clients → logs ≡ map log_of own → failed ≡ list_any has_failed own
          → HaveLeft heap.shape.cells limits scripts logs failed joined
      have_left_at own logs failed joined placed own_is logs_are failed_is =
          let is : logs ≡ map log_of (own_of clients) =
          logs_are ∙ ap (λ (cs : List Client). map log_of cs) own_is in
          let none = failed_is ∙ ap (λ (cs : List Client). list_any has_failed cs) own_is in
          subst (λ (gs : List ClientLog).
          HaveLeft heap.shape.cells limits scripts gs failed joined) (sym is) record {
            taken = clients_taken joined placed;
            fronts = clients_fronts;
            whole = λ fine. clients_whole (sym none ∙ fine);
          }

      -- and no other seat was joined
      pub have_left : (own : List Client) (logs : List ClientLog) (failed : Bool)
          (joined : List (Place Pass)) → joined ≡ joined_parts (views_of clients)
          → own ≡ own_of clients → logs ≡ map log_of own → failed ≡ list_any has_failed own
          → HaveLeft heap.shape.cells limits scripts logs failed joined
      have_left own logs failed joined parts own_is logs_are failed_is =
          have_left_at own logs failed joined (part_at clients joined parts) own_is logs_are
          failed_is
