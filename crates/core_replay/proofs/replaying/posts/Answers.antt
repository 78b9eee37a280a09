use Rattle.std.proofs.Common.{◌≡◌, false, refl}
use Rattle.cell_words.specs.declared.controls.Stage.{Stage}
use Rattle.core_machine.specs.declared.events.Event.{Event}
use Rattle.core_machine.specs.declared.events.Event.TheVariants as event
use Rattle.core_replay.specs.Turns.{is_post}
use Rattle.core_replay.proofs.replaying.posts.Goals as goal

not_post : (e : Event) → ((stage : Stage) → e ≡ event.Post stage → ⊥) → false ≡ is_post e
not_post (event.Post stage) other = absurd (other stage refl)
not_post _ other = refl

-- no other event posts
pub returns-in_default : goal.returns-in_default
returns-in_default c = not_post c.args.event c.in_default.not-Post
