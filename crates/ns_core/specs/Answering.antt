-- The answers of the calls on the parts, and the parts after them.
use Rattle.std.specs.Prelude.{◌≡◌, Bool, true, Option, Result, Ok, Err}
use Rattle.ns_types.specs.declared.refusal.Refusal.{Refusal}
use Rattle.ns_types.specs.declared.reply.Content.{Content}
use Rattle.ns_types.specs.declared.step.AdminCommand.{AdminCommand}
use Rattle.ns_types.specs.declared.step.AskCommand.{AskCommand}
use Rattle.ns_types.specs.declared.step.NodeCommand.{NodeCommand}
use Rattle.ns_types.specs.declared.step.Step.{Step}
use Rattle.ns_types.specs.Access.Rights.{has_any, pool_rights_of, rights_of}
use Rattle.ns_types.specs.Asking.Asks.{right_of}
use Rattle.ns_types.specs.Asking.Nodes.{ask_pool, pool_right_of}
use Rattle.ns_types.specs.Asking.Policies.{administer, may_administer}
use Rattle.ns_types.specs.Settling.Outcome.{Changes, Outcome, Done}
use Rattle.ns_types.specs.State.Names.{Name}
use Rattle.ns_types.specs.State.Rows.{Acl, World}
use Rattle.ns_types.specs.Steps.{Answer, Makes, act, is_allowed}
use Rattle.ns_steps.specs.Answers.{answer_of}
use Rattle.ns_admin.specs.declared.record.RecordChange.{RecordChange}
use Rattle.ns_admin.specs.Recorded.{PreparesRecord}
use Rattle.ns_change.specs.declared.change.Prepared.{Prepared}
use Rattle.ns_change.specs.Changed.{view}
use Rattle.ns_core.specs.declared.parts.Parts.{Parts}
use Rattle.ns_core.specs.Viewed.{state_of, world_of}
use Rattle.ns_tables.specs.declared.tables.Tables.{Tables}
use Rattle.ns_tables.specs.World

abbrev pub MakesStep : Step → Parts → Answer → Parts → Type 0
MakesStep step old result new = Makes step (state_of old) result (state_of new)

-- ---- steps that are prepared, and then made

-- what the step itself answers and changes, or its refusal
abbrev pub PreparesStep : Step → Parts → Result Prepared Refusal → Type 0
PreparesStep step parts (Ok x) =
    act step (state_of parts) ≡ Done x.content (record (state_of parts) { world = view parts.tables x.change })
PreparesStep step parts (Err refusal) = MakesStep step parts (Err refusal) parts

-- each allowed step for which this was prepared is made
abbrev pub MakesPrepared : Result Prepared Refusal → Parts → Result Content Refusal → Parts → Type 0
MakesPrepared prepared old result new = (step : Step) → is_allowed step old.acl ≡ true → PreparesStep step old prepared
    → MakesStep step old (answer_of step (world_of new) result) new

-- ---- commands about a namespace, for each secret that has the right

abbrev pub MakesAsk : Name → AskCommand → Parts → Answer → Parts → Type 0
MakesAsk ns command old result new = (secret : Option Name) → right_of command (rights_of old.acl secret ns) ≡ true →
    MakesStep (Step.Ask ns secret command) old result new

abbrev pub PreparesAsk : Name → AskCommand → Parts → Result Prepared Refusal → Type 0
PreparesAsk ns command parts result = (secret : Option Name) → right_of command (rights_of parts.acl secret ns) ≡ true →
    PreparesStep (Step.Ask ns secret command) parts result

-- ---- commands about a pool, for each secret that has the right

abbrev pub MakesNode : Name → NodeCommand → Parts → Answer → Parts → Type 0
MakesNode pool command old result new = (secret : Option Name) → pool_right_of command (pool_rights_of old.acl secret pool) ≡ true →
    MakesStep (Step.Node pool secret command) old result new

abbrev pub PreparesNode : Name → NodeCommand → Parts → Result Prepared Refusal → Type 0
PreparesNode pool command parts result = (secret : Option Name) → pool_right_of command (pool_rights_of parts.acl secret pool) ≡ true →
    PreparesStep (Step.Node pool secret command) parts result

-- a read, before its reply is made
abbrev pub ReadsPool : Name → NodeCommand → Parts → Result Content Refusal → Type 0
ReadsPool pool command parts result =
    Changes (ask_pool pool command (world_of parts)) (world_of parts) result (world_of parts)

-- ---- administrators

-- each command on a record for which this was prepared is done
abbrev pub WritesPrepared : Result RecordChange Refusal → Tables → Result Content Refusal → Tables → Type 0
WritesPrepared prepared old result new = (command : World → Outcome World) → PreparesRecord command old prepared
    → Changes (command (World.world_of old)) (World.world_of old) result (World.world_of new)

-- what an administrator's command answers and changes
abbrev pub ChangesBy : Option Name → AdminCommand → Parts → Result Content Refusal → Parts → Type 0
ChangesBy secret command old result new =
    Changes (administer secret command (state_of old)) (state_of old) result (state_of new)

abbrev pub ReadsBy : Option Name → AdminCommand → Parts → Result Content Refusal → Type 0
ReadsBy secret command parts result = ChangesBy secret command parts result parts

-- the administrator's step is made, for each secret that has the right
abbrev pub MakesAdmin : AdminCommand → Parts → Answer → Parts → Type 0
MakesAdmin command old result new = (secret : Option Name) → may_administer old.acl secret command ≡ true →
    MakesStep (Step.Admin secret command) old result new

-- ---- the names that a secret sees in lists

abbrev pub sees : Acl → Option Name → Name → Bool
sees acl secret ns = has_any (rights_of acl secret ns)

abbrev pub sees_pool : Acl → Option Name → Name → Bool
sees_pool acl secret pool = (pool_rights_of acl secret pool).read
