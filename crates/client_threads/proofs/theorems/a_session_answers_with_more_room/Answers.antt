use Rattle.client_threads.proofs.Rooms.{new_session, ready_session, session_for}
use Rattle.client_threads.proofs.theorems.a_session_answers_with_more_room.Goals as goal

pub returns : goal.returns
returns c = record { new = new_session; each = session_for; ready = ready_session }
