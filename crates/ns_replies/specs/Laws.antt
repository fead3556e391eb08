-- The law that the room of a step is enough.
use Rattle.std.specs.Prelude.{◌≡◌, Bool, true, Option, None, Ok}
use Rattle.std.specs.Option.{option_map_or}
use Rattle.ns_types.specs.declared.reply.Reply.{Reply}
use Rattle.ns_types.specs.declared.step.Step.{Step}
use Rattle.ns_types.specs.State.Rows.{State, World}
use Rattle.ns_types.specs.Steps.{after, said}
use Rattle.ns_types.specs.Working.Looks.{worker_at}
use Rattle.ns_types.specs.Working.Worker.{Worker}
use Rattle.ns_steps.specs.Served.{served}
use Rattle.ns_steps.specs.Told.{is_of_write}
use Rattle.ns_replies.specs.Rooms.{HasRoom, room_of}

-- whether the step may change something: it is a request that does not only read, or a worker's step
abbrev pub may_change : Step → Bool
may_change step = option_map_or is_of_write (served step) true

-- the row of the worker whose step it is, before the step
abbrev pub row_of : Step → World → Option Worker
row_of (Step.Dequeue worker ns n) w = worker_at w worker ns
row_of (Step.Snap worker ns) w = worker_at w worker ns
row_of (Step.Submit worker ns) w = worker_at w worker ns
row_of (Step.Apply worker ns) w = worker_at w worker ns
row_of (Step.Finish worker ns) w = worker_at w worker ns
row_of (Step.Nack worker ns) w = worker_at w worker ns
row_of _ w = None

-- The room of a step that may change something is enough for the body of its reply.
abbrev pub MadeHasRoom : Type 0
MadeHasRoom = (step : Step) (s s' : State) (reply : Reply) → may_change step ≡ true →
    after step s ≡ said (Ok reply) s' → HasRoom (room_of step (row_of step s.world)) reply.content
