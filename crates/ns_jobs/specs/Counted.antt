-- The counters that a step raises in a namespace, and its refusal if one of them is at its bound.
use Rattle.std.specs.Prelude.{◌≡◌, ◌+◌, ◌≤◌, Bool, true, false, ◌||◌, Option, Some, None, nat_lt}
use Rattle.std.specs.Option.{option_map_or}
use Rattle.std.specs.FinMap.{get}
use Rattle.ns_types.specs.declared.job.Job.{Job}
use Rattle.ns_types.specs.declared.refusal.Refusal.TheVariants as Refusal
use Rattle.ns_types.specs.declared.reply.Content.{Content}
use Rattle.ns_types.specs.declared.step.AskCommand.{AskCommand}
use Rattle.ns_types.specs.Asking.Asks.{ask}
use Rattle.ns_types.specs.Settling.Outcome.{Outcome, Refused, Done}
use Rattle.ns_types.specs.State.Names.{Name}
use Rattle.ns_types.specs.State.Rows.{World, Tenant}
use Rattle.ns_types.specs.Settling.Settle.{settle}
use Rattle.ns_types.specs.Steps.{greatest, is_past_bound}
use Rattle.ns_jobs.specs.Read.{only_reads}
use Rattle.ns_jobs.specs.declared.making.Numbers.{Numbers}

-- the namespace's next index, or the number of its next evaluation, would pass its bound
abbrev pub passes_bound : Tenant → Bool
passes_bound t = nat_lt greatest (t.index + 1) || nat_lt greatest (t.evaluation_number + 1)

-- a counter of the namespace would pass its bound; a namespace that is not there has no counters
abbrev pub passes_in : World → Name → Bool
passes_in w ns = option_map_or passes_bound (get w.tenants ns) false

-- what would be done is refused as `Full` if a counter would pass its bound; this refusal comes after all others
abbrev pub counted : Bool → Outcome World → Outcome World
counted true (Done content w) = Refused Refusal.Full
counted passes outcome = outcome

-- the outcome of a command that makes an evaluation, with that refusal
abbrev pub counted_ask : Name → AskCommand → World → Outcome World
counted_ask ns command w = counted (passes_in w ns) (ask ns command w)

-- these are the next numbers, and neither passes its bound
pub record IsNext (t : Tenant) (numbers : Numbers) : Type 0 where
  pub fits : passes_bound t ≡ false
  pub evaluation : numbers.evaluation ≡ t.evaluation_number + 1
  pub index : numbers.index ≡ t.index + 1

abbrev pub NextNumbers : Tenant → Option Numbers → Type 0
NextNumbers t None = passes_bound t ≡ true
NextNumbers t (Some numbers) = IsNext t numbers

-- a job has at most as many versions as its namespace has had changes
abbrev pub HasFewVersions : Tenant → Type 0
HasFewVersions t = (id : Name) (job : Job) → get t.jobs id ≡ Some job → job.version ≤ t.index

abbrev pub HasFewVersionsIn : World → Name → Type 0
HasFewVersionsIn w ns = (t : Tenant) → get w.tenants ns ≡ Some t → HasFewVersions t

-- ---- the bounds once the step has settled

-- If there is no evaluation yet with the namespace's next number: a step that makes one, while a counter of the namespace is
-- at its bound, is past the bound once it has settled.
abbrev pub CountingIsSettling : Type 0
CountingIsSettling = (w : World) (ns : Name) (command : AskCommand) (t : Tenant) (content : Content) (x : World)
    → only_reads command ≡ false → get w.tenants ns ≡ Some t → get t.evaluations (t.evaluation_number + 1) ≡ None
    → passes_bound t ≡ true → ask ns command w ≡ Done content x → is_past_bound (settle w x) ≡ true

abbrev pub writes_jobs : AskCommand → Bool
writes_jobs (AskCommand.Register r) = true
writes_jobs (AskCommand.Deregister id purge) = true
writes_jobs _ = false

-- A registration or a deregistration by which no counter of its namespace passes its bound takes no counter at all past its
-- bound.
abbrev pub JobsPassNothingElse : Type 0
JobsPassNothingElse = (w : World) (ns : Name) (command : AskCommand) (t : Tenant) (content : Content) (x : World)
    → writes_jobs command ≡ true → get w.tenants ns ≡ Some t → is_past_bound w ≡ false → passes_bound t ≡ false
    → ask ns command w ≡ Done content x → is_past_bound (settle w x) ≡ false
