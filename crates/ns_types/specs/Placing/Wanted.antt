-- Which allocations of the evaluation's job stop, and which are missing.
-- Nomad's page "Scheduling in Nomad", of what a scheduler reconciles.
use Rattle.std.specs.Prelude.{ℕ, ◌+◌, ◌-◌, ◌==◌, Bool, true, false, not, ◌&&◌, List, [], ◌∷◌, ◌++◌, Option, Some, None}
use Rattle.std.specs.Prelude.{if◌then◌else◌, count_by, drop, filter, length, replicate, sum_by}
use Rattle.std.specs.List.{flat_map}
use Rattle.std.specs.Str.{bytes_eq}
use Rattle.ns_types.specs.declared.job.Group.{Group}
use Rattle.ns_types.specs.declared.job.Job.{Job}
use Rattle.ns_types.specs.declared.job.JobKind.{JobKind}
use Rattle.ns_types.specs.declared.plan.Demand.{Demand}
use Rattle.ns_types.specs.declared.resources.Resources.{Resources}
use Rattle.ns_types.specs.declared.snapshot.OwnAllocation.{OwnAllocation}
use Rattle.ns_types.specs.State.Resources.{Resource, Cpu, Memory, Disk, each_resource}
use Rattle.ns_types.specs.State.Rows.{is_live, is_done}

abbrev pub is_batch : JobKind → Bool
is_batch JobKind.Service = false
is_batch JobKind.Batch = true

-- the allocation was made for the present version of the job
abbrev pub is_current : Job → OwnAllocation → Bool
is_current j a = a.row.job_modify_index == j.modify_index

abbrev pub is_of : Job → Group → OwnAllocation → Bool
is_of j g a = is_current j a && bytes_eq a.row.group g.name

-- the live allocations of a group that were made for the present version of the job, in the order of their numbers
abbrev pub kept : Job → List OwnAllocation → Group → List OwnAllocation
kept j own g = filter (λ a. is_live a.row && is_of j g a) own

-- how many allocations of a batch job's group completed; a service job counts none
abbrev pub done : Job → List OwnAllocation → Group → ℕ
done j own g = if is_batch j.document.kind then count_by (λ a. is_done a.row && is_of j g a) own else 0

-- the newest of the kept allocations, as many as the kept and the completed ones together are over the group's count
abbrev pub surplus : Job → List OwnAllocation → Group → List OwnAllocation
surplus j own g = let ks = kept j own g in drop (length ks - (length ks + done j own g - g.count)) ks

-- how many allocations the group lacks
abbrev pub missing : Job → List OwnAllocation → Group → ℕ
missing j own g = g.count - (length (kept j own g) + done j own g)

abbrev pub live_ones : List OwnAllocation → List OwnAllocation
live_ones own = filter (λ a. is_live a.row) own

-- the live allocations that were made for an earlier version of the job
abbrev pub outdated : Job → List OwnAllocation → List OwnAllocation
outdated j own = filter (λ a. is_live a.row && not (is_current j a)) own

-- the allocations to stop: all live ones of a job that is gone or stopped; else the outdated ones, and each group's surplus
abbrev pub stopping : Option Job → List OwnAllocation → List OwnAllocation
stopping None own = live_ones own
stopping (Some j) own =
    if j.stop then live_ones own
    else outdated j own ++ flat_map (surplus j own) j.document.groups

-- what one allocation of the group takes: its tasks together, and the group's disk once
abbrev pub asked : Resource → Group → ℕ
asked Cpu = λ g. sum_by (λ t. t.resources.cpu) g.tasks
asked Memory = λ g. sum_by (λ t. t.resources.memory) g.tasks
asked Disk = λ g. g.disk

abbrev pub group_size : Group → Resources
group_size g = each_resource (λ r. asked r g)

abbrev pub demands_from : ℕ → Job → List OwnAllocation → List Group → List Demand
demands_from i j own [] = []
demands_from i j own (g ∷ gs) = replicate (missing j own g) (record { group = i; size = group_size g }) ++
    demands_from (i + 1) j own gs

-- the missing allocations, in the order of groups
abbrev pub demands : Option Job → List OwnAllocation → List Demand
demands None own = []
demands (Some j) own = if j.stop then [] else demands_from 0 j own j.document.groups
