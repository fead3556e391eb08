-- The document of a registration.
use Rattle.std.specs.Prelude.{ℕ, ◌^◌, ◌-◌, ◌==◌, eqb, List, [], length, take, drop, codes, Bool, true, false, Option}
use Rattle.std.specs.Prelude.{Some, None, option_and_then, Ok, Err, if◌then◌else◌}
use Rattle.std.specs.List.{starts_with, ends_with}
use Rattle.std.specs.Str.{bytes_eq}
use Rattle.serde_json.specs.Data.{Data}
use Rattle.ns_types.specs.declared.refusal.Member.{Member}
use Rattle.ns_types.specs.declared.refusal.Refusal.TheVariants.{BadField}
use Rattle.ns_types.specs.declared.name.NameKind.{NameKind}
use Rattle.ns_types.specs.declared.job.JobKind.{JobKind}
use Rattle.ns_types.specs.declared.job.JobKind.TheVariants.{Service, Batch}
use Rattle.ns_types.specs.declared.job.Operand.{Operand}
use Rattle.ns_types.specs.declared.job.Operand.TheVariants.{Equal, NotEqual}
use Rattle.ns_types.specs.declared.job.Target.{Target}
use Rattle.ns_types.specs.declared.job.Target.TheVariants.{NodeClass, NodeName, Attribute}
use Rattle.ns_types.specs.declared.job.TaskResources.{TaskResources}
use Rattle.ns_types.specs.declared.job.Task.{Task}
use Rattle.ns_types.specs.declared.job.Group.{Group}
use Rattle.ns_types.specs.declared.job.Constraint.{Constraint}
use Rattle.ns_types.specs.declared.job.Registration.{Registration}
use Rattle.ns_json.specs.declared.registration.RegistrationDocument.{RegistrationDocument}
use Rattle.ns_json.specs.declared.registration.JobTerms.{JobTerms}
use Rattle.ns_json.specs.Reading.{◌>>=◌, Read, top, present, demanded, or_else, some, or_refuse, an_object, a_flag}
use Rattle.ns_json.specs.Reading.{a_number, a_text, a_name, has_name, unless, a_list, each}

abbrev pub max_quantity : ℕ
max_quantity = 2147483647

abbrev pub max_index : ℕ
max_index = 2 ^ 64 - 1

-- ---- tasks and groups

unfoldable pub resources_in : Data → Read TaskResources
resources_in d = do
  r ← an_object Member.Resources d
  cpu ← or_else 100 (a_number Member.Cpu 1 max_quantity) (present Member.Cpu r)
  memory ← or_else 300 (a_number Member.MemoryMb 1 max_quantity) (present Member.MemoryMb r)
  Ok (record { cpu = cpu; memory = memory })

abbrev pub default_resources : TaskResources
default_resources = record { cpu = 100; memory = 300 }

unfoldable pub disk_in : Data → Read ℕ
disk_in d = do
  e ← an_object Member.EphemeralDisk d
  or_else 300 (a_number Member.SizeMb 1 max_quantity) (present Member.SizeMb e)

-- the list of constraints of a group or a task has to be empty, null or absent
unfoldable pub no_constraints : Data → Read (Unit {0})
no_constraints d = or_else tt (λ c. a_list Member.Constraints 0 0 c >>= λ ds. Ok tt) (present Member.Constraints d)

-- a task, given the tasks of its group that stand before it
unfoldable pub task_in : List Task → Data → Read Task
task_in before d = do
  t ← an_object Member.Tasks d
  name ← demanded Member.Name t
  name ← a_name Member.Name NameKind.Task name
  name ← unless (has_name (λ x. x.name) before name) Member.Name name
  none ← no_constraints t
  resources ← or_else default_resources resources_in (present Member.Resources t)
  Ok (record { name = name; resources = resources })

unfoldable pub tasks_in : Data → Read (List Task)
tasks_in d = do
  ds ← a_list Member.Tasks 1 16 d
  each task_in [] ds

unfoldable pub group_in : List Group → Data → Read Group
group_in before d = do
  g ← an_object Member.TaskGroups d
  name ← demanded Member.Name g
  name ← a_name Member.Name NameKind.Group name
  name ← unless (has_name (λ x. x.name) before name) Member.Name name
  count ← or_else 1 (a_number Member.Count 0 1000) (present Member.Count g)
  none ← no_constraints g
  disk ← or_else 300 disk_in (present Member.EphemeralDisk g)
  tasks ← demanded Member.Tasks g
  tasks ← tasks_in tasks
  Ok (record { name = name; count = count; disk = disk; tasks = tasks })

-- ---- constraints

-- a text without its prefix, or without its suffix, if it has it
abbrev pub without_prefix : List ℕ → List ℕ → Option (List ℕ)
without_prefix p s = if starts_with eqb s p then Some (drop (length p) s) else None

abbrev pub without_suffix : List ℕ → List ℕ → Option (List ℕ)
without_suffix p s = if ends_with eqb s p then Some (take (length s - length p) s) else None

-- the key of `${attr.KEY}`
unfoldable pub attribute_key : List ℕ → Option (List ℕ)
attribute_key s = option_and_then (without_suffix (codes "}")) (without_prefix (codes "${attr.") s)

unfoldable pub target_of : List ℕ → Option Target
target_of s =
    if bytes_eq s (codes "${node.class}") then Some NodeClass
    else if bytes_eq s (codes "${node.unique.name}") then Some NodeName
    else option_and_then (λ k. Some (Attribute k)) (attribute_key s)

unfoldable pub operand_of : List ℕ → Option Operand
operand_of s = if bytes_eq s (codes "=") then Some Equal else if bytes_eq s (codes "!=") then Some NotEqual else None

-- the operand, and the value that the target is compared with
unfoldable pub compared_in : Data → Read (Operand × List ℕ)
compared_in c = do
  value ← demanded Member.RightTarget c
  value ← a_text Member.RightTarget value
  operand ← demanded Member.Operand c
  operand ← a_text Member.Operand operand
  operand ← or_refuse Member.Operand (operand_of operand)
  Ok (operand, value)

unfoldable pub constraint_in : Data → Read Constraint
constraint_in d = do
  c ← an_object Member.Constraints d
  target ← demanded Member.LeftTarget c
  target ← a_text Member.LeftTarget target
  target ← or_refuse Member.LeftTarget (target_of target)
  compared ← compared_in c
  Ok (record { target = target; operand = compared.0; value = compared.1 })

-- ---- the job

unfoldable pub kind_of : List ℕ → Option JobKind
kind_of s = if bytes_eq s (codes "service") then Some Service else if bytes_eq s (codes "batch") then Some Batch
    else None

unfoldable pub kind_in : Data → Read JobKind
kind_in d = do
  s ← a_text Member.Type d
  or_refuse Member.Type (kind_of s)

-- a name; an empty text counts as absent
unfoldable pub name_if_any : Member → NameKind → Data → Read (Option (List ℕ))
name_if_any m kind d = do
  s ← a_text m d
  if length s == 0 then Ok None else some (a_name m kind d)

-- the pool that a job names; it must not be `all`
abbrev pub not_all : Option (List ℕ) → Read (Option (List ℕ))
not_all None = Ok None
not_all (Some s) = if bytes_eq s (codes "all") then Err (BadField Member.NodePool) else Ok (Some s)

unfoldable pub pool_in : Data → Read (Option (List ℕ))
pool_in d = name_if_any Member.NodePool NameKind.Pool d >>= not_all

abbrev pub absent : Member → Option Data → Read (Unit {0})
absent m None = Ok tt
absent m (Some d) = Err (BadField m)

abbrev pub constraint_after : List Constraint → Data → Read Constraint
constraint_after before d = constraint_in d

unfoldable pub constraints_in : Data → Read (List Constraint)
constraints_in d = do
  ds ← a_list Member.Constraints 0 16 d
  each constraint_after [] ds

unfoldable pub groups_in : Data → Read (List Group)
groups_in d = do
  ds ← a_list Member.TaskGroups 1 16 d
  each group_in [] ds

-- the groups of a job that is neither periodic nor parameterized
unfoldable pub job_groups_in : Data → Read (List Group)
job_groups_in j = do
  periodic ← absent Member.Periodic (present Member.Periodic j)
  parameterized ← absent Member.ParameterizedJob (present Member.ParameterizedJob j)
  groups ← demanded Member.TaskGroups j
  groups_in groups

unfoldable pub work_in : Data → Read (List Constraint × List Group)
work_in j = do
  constraints ← or_else [] constraints_in (present Member.Constraints j)
  groups ← job_groups_in j
  Ok (constraints, groups)

-- what a job's document has besides its name and its namespace
unfoldable pub terms_in : Data → Read JobTerms
terms_in j = do
  kind ← or_else Service kind_in (present Member.Type j)
  priority ← or_else 50 (a_number Member.Priority 1 100) (present Member.Priority j)
  pool ← or_else None pool_in (present Member.NodePool j)
  work ← work_in j
  Ok (record { kind = kind; priority = priority; pool = pool; constraints = work.0; groups = work.1 })

-- the name of a job, and the namespace that it names
unfoldable pub names_in : Data → Read (List ℕ × Option (List ℕ))
names_in j = do
  id ← demanded Member.Id j
  id ← a_name Member.Id NameKind.Job id
  namespace ← or_else None (name_if_any Member.Namespace NameKind.Namespace) (present Member.Namespace j)
  Ok (id, namespace)

-- the job's document, as a registration that enforces no index
unfoldable pub job_in : Data → Read RegistrationDocument
job_in d = do
  j ← an_object Member.Job d
  names ← names_in j
  terms ← terms_in j
  Ok (record {
    namespace = names.1;
    registration = record {
      id = names.0;
      kind = terms.kind;
      priority = terms.priority;
      pool = terms.pool;
      constraints = terms.constraints;
      groups = terms.groups;
      enforced = None;
    };
  })

-- the index that a registration enforces, if it enforces one
abbrev pub enforced : Bool → ℕ → Option ℕ
enforced true n = Some n
enforced false n = None

abbrev pub demanding : Option ℕ → Registration → Registration
demanding index r = record r { enforced = index }

unfoldable pub enforced_in : Data → Read (Option ℕ)
enforced_in top = do
  enforce ← or_else false (a_flag Member.EnforceIndex) (present Member.EnforceIndex top)
  index ← or_else 0 (a_number Member.JobModifyIndex 0 max_index) (present Member.JobModifyIndex top)
  Ok (enforced enforce index)

unfoldable pub registration_in : Data → Read RegistrationDocument
registration_in d = do
  top ← top d
  job ← demanded Member.Job top
  job ← job_in job
  index ← enforced_in top
  Ok (record { namespace = job.namespace; registration = demanding index job.registration })
