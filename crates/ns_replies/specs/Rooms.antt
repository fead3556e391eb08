-- The room for the answer of a step, which is taken before the step.
use Rattle.std.specs.Prelude.{◌≡◌, ℕ, ◌+◌, ◌≤◌, max, Option, Some, None, IsSomeAnd, length, sum_by}
use Rattle.std.specs.Option.{option_and_then, option_map_or}
use Rattle.ns_types.specs.declared.plan.Placement.{Placement}
use Rattle.ns_types.specs.declared.reply.Content.{Content}
use Rattle.ns_types.specs.declared.snapshot.Snapshot.{Snapshot}
use Rattle.ns_types.specs.declared.step.AdminCommand.{AdminCommand}
use Rattle.ns_types.specs.declared.step.AskCommand.{AskCommand}
use Rattle.ns_types.specs.declared.step.Step.{Step}
use Rattle.ns_types.specs.Asking.Policies.{made_token}
use Rattle.ns_types.specs.Placing.Plan.{plan}
use Rattle.ns_types.specs.State.Names.{Name}
use Rattle.ns_types.specs.Working.Commit.{node_name}
use Rattle.ns_types.specs.Working.Work.{planned_of}
use Rattle.ns_types.specs.Working.Worker.{Worker}
use Rattle.ns_json.specs.Replies.{body_of}
use Rattle.ns_replies.specs.Bodies.{applied_bytes, body_bytes, finished_bytes, id_bytes, one_id_bytes, registered_bytes}
use Rattle.ns_replies.specs.Bodies.{stopped_bytes, text_bytes}

pub record AnswerRoom : Type 0 where
  -- how many bytes a body or the text of a refusal may have
  pub bytes : ℕ
  -- the body of the reply to a new token
  pub token : Option Name

-- how many bytes the text of a refusal may have
abbrev pub refusal_bytes : ℕ
refusal_bytes = 32

-- the room is enough for the body of this content
abbrev pub HasRoom : AnswerRoom → Content → Type 0
HasRoom room (Content.Token token) = room.token ≡ Some (body_of (Content.Token token))
HasRoom room content = IsSomeAnd (body_bytes content) (λ bytes. bytes ≤ room.bytes)

-- the most bytes of an answer that is written in the room
abbrev pub answer_bytes : AnswerRoom → ℕ
answer_bytes room = max room.bytes (option_map_or length room.token 0)

-- the room in which any such answer can be copied
abbrev pub copy_room : AnswerRoom → AnswerRoom
copy_room room = record { bytes = answer_bytes room; token = None }

-- ---- what a step needs

-- the answer to an Apply has, for each placement, the id of the new allocation, or else the node that is dropped
abbrev pub placement_bytes : Snapshot → Placement → ℕ
placement_bytes kept p = id_bytes + text_bytes (node_name kept p.node)

abbrev pub plan_bytes : Option Snapshot → ℕ
plan_bytes None = 0
plan_bytes (Some kept) = sum_by (placement_bytes kept) (plan kept).placing.placements

abbrev pub asked_bytes : AskCommand → ℕ
asked_bytes (AskCommand.Register registration) = registered_bytes
asked_bytes (AskCommand.Deregister id purge) = registered_bytes
asked_bytes (AskCommand.StopAllocation n) = stopped_bytes
asked_bytes _ = refusal_bytes

-- how many bytes the answer of the step may have; for a worker's step, by the worker's row before it
abbrev pub step_bytes : Step → Option Worker → ℕ
step_bytes (Step.Ask ns secret command) row = asked_bytes command
step_bytes (Step.Dequeue worker ns n) row = one_id_bytes
step_bytes (Step.Snap worker ns) row = one_id_bytes
step_bytes (Step.Submit worker ns) row = one_id_bytes
step_bytes (Step.Apply worker ns) row = applied_bytes + plan_bytes (option_and_then planned_of row)
step_bytes (Step.Finish worker ns) row = finished_bytes
step_bytes _ row = refusal_bytes

-- the body of the reply to a new token, which is known before the step
abbrev pub token_body : Step → Option Name
token_body (Step.Admin secret (AdminCommand.CreateToken new)) = Some (body_of (Content.Token (made_token new)))
token_body _ = None

abbrev pub room_of : Step → Option Worker → AnswerRoom
room_of step row = record { bytes = step_bytes step row; token = token_body step }
