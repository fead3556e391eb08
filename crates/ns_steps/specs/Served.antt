-- The steps that are served, which are those that requests ask for: one table says what the reply to each of them
-- holds.
use Rattle.std.specs.Prelude.{Bool, false, not, Option, Some, None, IsSome, IsSomeAnd}
use Rattle.std.specs.Option.{option_map_or}
use Rattle.ns_types.specs.declared.reply.Content.{Content}
use Rattle.ns_types.specs.declared.step.AdminCommand.{AdminCommand}
use Rattle.ns_types.specs.declared.step.AskCommand.{AskCommand}
use Rattle.ns_types.specs.declared.step.NodeCommand.{NodeCommand}
use Rattle.ns_types.specs.declared.step.Step.{Step}
use Rattle.ns_steps.specs.Told.{Shape, Holds, is_of_write}

-- ---- the table: each step that requests ask for, and no worker's step

abbrev pub served_ask : AskCommand → Option Shape
served_ask (AskCommand.Register r) = Some Shape.Registered
served_ask (AskCommand.ReadJob id) = Some Shape.Job
served_ask (AskCommand.Deregister id purge) = Some Shape.Registered
served_ask (AskCommand.ListJobs prefix) = Some Shape.Jobs
served_ask (AskCommand.JobAllocations id) = Some Shape.Allocations
served_ask (AskCommand.JobEvaluations id) = Some Shape.Evaluations
served_ask (AskCommand.ListEvaluations prefix) = Some Shape.Evaluations
served_ask (AskCommand.ReadEvaluation n) = Some Shape.Evaluation
served_ask (AskCommand.ListAllocations prefix) = Some Shape.Allocations
served_ask (AskCommand.ReadAllocation n) = Some Shape.Allocation
served_ask (AskCommand.StopAllocation n) = Some Shape.Stopped
served_ask AskCommand.ReadNamespace = Some Shape.Namespace
served_ask (AskCommand.QuotaUsage quota) = Some Shape.Usage
served_ask (AskCommand.Events index) = Some Shape.Events

abbrev pub served_admin : AdminCommand → Option Shape
served_admin AdminCommand.ListNamespaces = Some Shape.Namespaces
served_admin (AdminCommand.PutNamespace name namespace) = Some Shape.Written
served_admin (AdminCommand.DeleteNamespace name) = Some Shape.Written
served_admin AdminCommand.ListQuotas = Some Shape.Quotas
served_admin (AdminCommand.ReadQuota name) = Some Shape.Quota
served_admin (AdminCommand.PutQuota name quota) = Some Shape.Written
served_admin (AdminCommand.DeleteQuota name) = Some Shape.Written
served_admin AdminCommand.ListPools = Some Shape.Pools
served_admin (AdminCommand.PutPool name pool) = Some Shape.Written
served_admin (AdminCommand.DeletePool name) = Some Shape.Written
served_admin (AdminCommand.ReadPolicy name) = Some Shape.Policy
served_admin (AdminCommand.PutPolicy name policy) = Some Shape.Written
served_admin (AdminCommand.DeletePolicy name) = Some Shape.Written
served_admin (AdminCommand.CreateToken new) = Some (Shape.TokenOf new)
served_admin (AdminCommand.DeleteToken accessor) = Some Shape.Written

abbrev pub served_node : NodeCommand → Option Shape
served_node NodeCommand.ReadPool = Some Shape.Pool
served_node NodeCommand.ListNodes = Some Shape.Nodes
served_node (NodeCommand.PutNode name offer) = Some Shape.Written
served_node (NodeCommand.DeleteNode name) = Some Shape.Written
served_node (NodeCommand.SetStatus name status) = Some Shape.Written
served_node (NodeCommand.SetEligible name eligible) = Some Shape.Written
served_node (NodeCommand.Report name report) = Some Shape.Written

abbrev pub served : Step → Option Shape
served (Step.Ask ns secret command) = served_ask command
served (Step.Admin secret command) = served_admin command
served (Step.Node pool secret command) = served_node command
served _ = None

-- ---- what follows from it

abbrev pub IsServed : Step → Type 0
IsServed step = IsSome (served step)

-- whether the command of a line of the table only reads
abbrev pub only_reads : Option Shape → Bool
only_reads line = not (option_map_or is_of_write line false)

-- whether a step that is served only reads
abbrev pub is_reading : Step → Bool
is_reading step = only_reads (served step)

-- the table says that the reply to the step holds this content
abbrev pub IsToldBy : Step → Content → Type 0
IsToldBy step content = IsSomeAnd (served step) (λ shape. Holds shape content)
