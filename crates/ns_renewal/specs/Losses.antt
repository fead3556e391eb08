-- Numbers of allocations by namespace and job.
use Rattle.std.specs.Prelude.{◌≡◌, ℕ, false, ◌&&◌, List, Option, None, if◌then◌else◌, option_map}
use Rattle.std.specs.Option.{option_map_or}
use Rattle.keyed.specs.Table.{row_at}
use Rattle.ns_types.specs.State.Names.{Key, Name, same_name}
use Rattle.ns_types.specs.Working.Commit.{Victim}
use Rattle.ns_change.specs.Waiting.{lesser}
use Rattle.ns_renewal.specs.Losing.{is_of_job, job_number, least_of}
use Rattle.ns_renewal.specs.declared.losses.Losses.{Losses}

abbrev pub number_at : Losses → Name → Name → Option ℕ
number_at losses ns job = job_number (row_at losses.jobs ns) job

-- afterwards the job has that number, or none, and the others have theirs
abbrev pub Puts : Name → Name → Option ℕ → Losses → Losses → Type 0
Puts ns job number old new = (q id : Name) →
    number_at new q id ≡ (if same_name q ns && same_name id job then number else number_at old q id)

-- each job has the least of its number and those of its victims
abbrev pub Lowers : List Victim → Losses → Losses → Type 0
Lowers victims old new = (ns job : Name) → number_at new ns job ≡ lesser (number_at old ns job) (least_of victims ns job)

-- the key of the number of the victim's job, if it has one
abbrev pub job_key : Losses → Victim → Option Key
job_key losses v = option_map (λ n. (v.0, n)) (number_at losses v.0 v.1.1.job)

-- afterwards the victim's job has no number, and all others have theirs
abbrev pub Takes : Option Victim → Losses → Losses → Type 0
Takes victim old new = (ns job : Name) →
    number_at new ns job ≡ (if option_map_or (is_of_job ns job) victim false then None else number_at old ns job)
