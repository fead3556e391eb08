-- What is read, as a step.
use Rattle.std.specs.Prelude.{◌≡◌, true, Option, Result}
use Rattle.std.proofs.Common.{refl, arith}
use Rattle.ns_types.specs.declared.refusal.Refusal.{Refusal}
use Rattle.ns_types.specs.declared.reply.Content.{Content}
use Rattle.ns_types.specs.declared.step.AskCommand.{AskCommand}
use Rattle.ns_types.specs.declared.step.NodeCommand.{NodeCommand}
use Rattle.ns_types.specs.declared.step.Step.TheVariants as Step
use Rattle.ns_types.specs.Access.Rights.{pool_rights_of, rights_of}
use Rattle.ns_types.specs.Asking.Asks.{ask, right_of}
use Rattle.ns_types.specs.Asking.Nodes.{ask_pool, pool_right_of}
use Rattle.ns_types.specs.Asking.Policies.{with_world}
use Rattle.ns_types.specs.Settling.Outcome.{Changes}
use Rattle.ns_types.specs.State.Names.{Name}
use Rattle.ns_types.specs.State.Rows.{State}
use Rattle.ns_types.specs.State.Sums.{quota_use}
use Rattle.ns_types.specs.Steps.{Makes, act}
use Rattle.ns_types.proofs.LiveSums.{quota_small, small_counted}
use Rattle.ns_steps.specs.Answers.{answer_of}
use Rattle.ns_steps.specs.Served.{only_reads, served_ask, served_node}
use Rattle.ns_steps.proofs.Reading.{changes_lift, reads_make}
use Rattle.ns_steps.proofs.Telling.{is_served_ask, is_served_node}
use Rattle.ns_jobs.specs.Read
use Rattle.ns_jobs.specs.Read.{UsageFits}
use Rattle.ns_types.specs.State.Resources.{IsCounted}
use Rattle.ns_types.specs.Validity.{IsValid}
use Rattle.ns_core.proofs.Keeping.{within}

-- ---- what is used of a quota

pub usage_fits : (s : State) → IsValid s → (quota : Name) → IsCounted (quota_use s.world quota)
usage_fits s valid quota = small_counted (quota_use s.world quota) (quota_small s.world quota valid.world)

pub uses_fit : (s : State) → IsValid s → (command : AskCommand) → UsageFits command s.world
uses_fit s valid (AskCommand.QuotaUsage quota) = usage_fits s valid quota
uses_fit s valid _ = tt

-- ---- a read as a step

reads : (command : AskCommand) → Read.only_reads command ≡ true → only_reads (served_ask command) ≡ true
reads (AskCommand.Register r) only = only
reads (AskCommand.Deregister id purge) only = only
reads (AskCommand.StopAllocation n) only = only
reads _ only = refl

pub ask_reads : (s : State) (ns : Name) (secret : Option Name) (command : AskCommand) → IsValid s → Read.only_reads command ≡ true
    → right_of command (rights_of s.acl secret ns) ≡ true
    → (result : Result Content Refusal) → Changes (ask ns command s.world) s.world result s.world
    → Makes (Step.Ask ns secret command) s (answer_of (Step.Ask ns secret command) s.world result) s
unfolding act
ask_reads s ns secret command valid only allowed result h =
    reads_make (Step.Ask ns secret command) s allowed (within s valid) (is_served_ask command) (reads command only)
    result (changes_lift (with_world s.acl) (ask ns command s.world) s.world s.world result h)

pub pool_reads : (s : State) (pool : Name) (secret : Option Name) (command : NodeCommand) → IsValid s
    → only_reads (served_node command) ≡ true → pool_right_of command (pool_rights_of s.acl secret pool) ≡ true
    → (result : Result Content Refusal) → Changes (ask_pool pool command s.world) s.world result s.world
    → Makes (Step.Node pool secret command) s (answer_of (Step.Node pool secret command) s.world result) s
unfolding act
pool_reads s pool secret command valid only allowed result h = reads_make (Step.Node pool secret command) s allowed (within s valid)
    (is_served_node command) only result (changes_lift (with_world s.acl) (ask_pool pool command s.world) s.world s.world result h)
