-- The room that was taken for a step is enough for its answer.
use Rattle.std.specs.Prelude.{◌≡◌, ℕ, true, None, Ok, Err, IfOk}
use Rattle.std.proofs.Common.{refl, sym, subst}
use Rattle.ns_types.specs.declared.reply.Reply.{Reply}
use Rattle.ns_types.specs.declared.snapshot.Snapshot.{Snapshot}
use Rattle.ns_types.specs.declared.step.Step.{Step}
use Rattle.ns_types.specs.State.Names.{Name}
use Rattle.ns_types.specs.State.Rows.{State, World}
use Rattle.ns_types.specs.Steps.{Answer, Makes, after, said}
use Rattle.ns_types.proofs.Lists.{not_both}
use Rattle.ns_steps.specs.Served.{IsServed}
use Rattle.ns_driver.specs.Calls.{FinishesBy, HandsIn}
use Rattle.ns_replies.specs.Laws.{may_change, row_of}
use Rattle.ns_replies.specs.Rooms.{AnswerRoom, HasRoom, room_of}
use Rattle.ns_replies.proofs.Made.{made_has_room}

-- no worker makes a step that is asked for
pub row_none : (step : Step) (w : World) → IsServed step → row_of step w ≡ None
row_none (Step.Ask ns secret command) w served = refl
row_none (Step.Admin secret command) w served = refl
row_none (Step.Node pool secret command) w served = refl
row_none (Step.Dequeue worker ns n) w served = not_both served refl
row_none (Step.Snap worker ns) w served = not_both served refl
row_none (Step.Submit worker ns) w served = not_both served refl
row_none (Step.Apply worker ns) w served = not_both served refl
row_none (Step.Finish worker ns) w served = not_both served refl
row_none (Step.Nack worker ns) w served = not_both served refl

enough : (step : Step) (s s' : State) (reply : Reply) (room : AnswerRoom) → may_change step ≡ true →
    room ≡ room_of step (row_of step s.world) → after step s ≡ said (Ok reply) s' → HasRoom room reply.content
enough step s s' reply room may is made =
    subst (λ (r : AnswerRoom). HasRoom r reply.content) (sym is) (made_has_room step s s' reply may made)

pub enough_made : (step : Step) (s : State) (answer : Answer) (s' : State) (room : AnswerRoom) → may_change step ≡ true →
    room ≡ room_of step (row_of step s.world) → Makes step s answer s' → IfOk answer (λ reply. HasRoom room reply.content)
enough_made step s (Ok reply) s' room may is m = enough step s s' reply room may is m
enough_made step s (Err refusal) s' room may is m = tt

pub enough_submitted : (worker : ℕ) (ns : Name) (planned : Snapshot) (s : State) (answer : Answer) (s' : State) (room : AnswerRoom) →
    room ≡ room_of (Step.Submit worker ns) None → HandsIn worker ns planned s answer s' → IfOk answer (λ reply. HasRoom room reply.content)
enough_submitted worker ns planned s (Ok reply) s' room is h = enough (Step.Submit worker ns) s s' reply room refl is h.1
enough_submitted worker ns planned s (Err refusal) s' room is h = tt

pub enough_finished : (worker : ℕ) (ns : Name) (planned : Snapshot) (s : State) (answer : Answer) (s' : State) (room : AnswerRoom) →
    room ≡ room_of (Step.Finish worker ns) None → FinishesBy worker ns planned s answer s' → IfOk answer (λ reply. HasRoom room reply.content)
enough_finished worker ns planned s (Ok reply) s' room is h = enough (Step.Finish worker ns) s s' reply room refl is h.1
enough_finished worker ns planned s (Err refusal) s' room is h = tt
