-- Registrations that are written and read back.
use Rattle.std.proofs.Common.{◌≡◌, ℕ, ◌-◌, List, [], ◌∷◌, ◌++◌, length, map}
use Rattle.std.proofs.Common.{true, false, not, ◌&&◌, nat_le, eqb, Option, Some}
use Rattle.std.proofs.Common.{None, Ok, codes, refl, arith, length-append}
use Rattle.std.proofs.lemmas.Bool.{le-leb, not-true, and_from, eq-eqb}
use Rattle.std.proofs.Math.Seq.{take-append_seam, drop-append_seam}
use Rattle.std.specs.List.{list_all}
use Rattle.std.specs.Option.{option_map_or}
use Rattle.std.specs.Str.{bytes_eq}
use Rattle.serde_json.specs.Data.{string}
use Rattle.ns_types.specs.declared.job.Constraint.{Constraint}
use Rattle.ns_types.specs.declared.job.Group.{Group}
use Rattle.ns_types.specs.declared.job.JobKind.{JobKind}
use Rattle.ns_types.specs.declared.job.Operand.{Operand}
use Rattle.ns_types.specs.declared.job.Registration.{Registration}
use Rattle.ns_types.specs.declared.job.Target.{Target}
use Rattle.ns_types.specs.declared.job.Task.{Task}
use Rattle.ns_types.specs.declared.job.TaskResources.{TaskResources}
use Rattle.ns_types.specs.declared.name.NameKind.TheVariants as NameKind
use Rattle.ns_types.specs.declared.refusal.Member.{Member}
use Rattle.ns_types.specs.State.Limits.{are_quantities, is_quantity, is_between, is_text, is_target, is_pool_name}
use Rattle.ns_types.specs.State.Limits.{is_good_constraint, is_good_task, is_good_group}
use Rattle.ns_types.specs.State.Limits.{is_good_registration, is_distinct}
use Rattle.ns_types.specs.State.Name.{is_name}
use Rattle.ns_types.specs.State.Names.{Name, same_name}
use Rattle.ns_types.specs.Wire.Words.{target_text, operand_text, kind_text}
use Rattle.ns_types.proofs.Alike.{pointwise_refl}
use Rattle.ns_types.proofs.Named.{first_of_both, second_of_both}
use Rattle.ns_json.specs.Logs.{registration_json}
use Rattle.ns_json.specs.Reading.{present, demanded, an_object, a_text, has_name, top}
use Rattle.ns_json.specs.Registration.{disk_in, resources_in, no_constraints, task_in, tasks_in, group_in, groups_in, attribute_key, target_of, operand_of}
use Rattle.ns_json.specs.Registration.{compared_in, constraint_in, constraint_after, constraints_in, kind_of, kind_in, pool_in, names_in, terms_in, work_in}
use Rattle.ns_json.specs.Registration.{job_groups_in, job_in, enforced_in, registration_in, demanding, without_suffix}
use Rattle.ns_json.specs.Rendering.{object_of, list_of, text_or_empty, task_resources_json, task_json, group_json, constraint_json}
use Rattle.ns_log_reader.proofs.Lists.{ReadBack, each_distinct, each_good, list_back}
use Rattle.ns_log_reader.proofs.Values.{text_back, name_back, number_back, if_any_back}

-- ---- tasks and groups

resources_back : (r : TaskResources) → are_quantities r ≡ true → resources_in (task_resources_json r) ≡ Ok r
unfolding resources_in an_object present
resources_back r h =
    let cpu = number_back Member.Cpu 1 2147483647 r.cpu (first_of_both (is_quantity r.cpu) (is_quantity r.memory) h) in
    let memory = number_back Member.MemoryMb 1 2147483647 r.memory (second_of_both (is_quantity r.cpu) (is_quantity r.memory) h) in
    rw (cpu, memory) refl

task_back : (before : List Task) (t : Task) → is_good_task t ≡ true → has_name (λ x. x.name) before t.name ≡ false → ReadBack task_in task_json before t
unfolding task_in task_json an_object demanded present no_constraints
task_back before t h new =
    let name = name_back Member.Name NameKind.Task t.name (first_of_both (is_name NameKind.Task t.name) (are_quantities t.resources) h) in
    let resources = resources_back t.resources (second_of_both (is_name NameKind.Task t.name) (are_quantities t.resources) h) in
    rw (name, new, resources) refl

pub record IsGroup (g : Group) : Type 0 where
  pub name : is_name NameKind.Group g.name ≡ true
  pub count : nat_le g.count 1000 ≡ true
  pub disk : is_quantity g.disk ≡ true
  pub many : is_between 1 16 (length g.tasks) ≡ true
  pub tasks : list_all is_good_task g.tasks ≡ true
  pub once : is_distinct same_name (map (λ t. t.name) g.tasks) ≡ true

pub group_parts : (g : Group) → is_good_group g ≡ true → IsGroup g
group_parts g h =
    let a = is_name NameKind.Group g.name in
    let b = nat_le g.count 1000 in
    let c = is_quantity g.disk in
    let d = is_between 1 16 (length g.tasks) in
    let e = list_all is_good_task g.tasks in
    let f = is_distinct same_name (map (λ t. t.name) g.tasks) in
    let abcde = first_of_both (a && b && c && d && e) f h in
    let abcd = first_of_both (a && b && c && d) e abcde in
    let abc = first_of_both (a && b && c) d abcd in
    let ab = first_of_both (a && b) c abc in
    record {
      name = first_of_both a b ab;
      count = second_of_both a b ab;
      disk = second_of_both (a && b) c abc;
      many = second_of_both (a && b && c) d abcd;
      tasks = second_of_both (a && b && c && d) e abcde;
      once = second_of_both (a && b && c && d && e) f h;
    }

tasks_back : (g : Group) → IsGroup g → tasks_in (list_of task_json g.tasks) ≡ Ok g.tasks
unfolding tasks_in
tasks_back g h = list_back Member.Tasks 1 16 task_in task_json g.tasks h.many
    (each_distinct (λ t. t.name) is_good_task (ReadBack task_in task_json) task_back g.tasks h.tasks h.once)

group_back : (before : List Group) (g : Group) → is_good_group g ≡ true → has_name (λ x. x.name) before g.name ≡ false →
    ReadBack group_in group_json before g
unfolding group_in group_json disk_in an_object demanded present no_constraints
group_back before g h new =
    let parts = group_parts g h in
    let name = name_back Member.Name NameKind.Group g.name parts.name in
    let count = number_back Member.Count 0 1000 g.count (and_from (nat_le 0 g.count) (nat_le g.count 1000) (le-leb 0 g.count (omega arith)) parts.count) in
    let disk = number_back Member.SizeMb 1 2147483647 g.disk parts.disk in
    let tasks = tasks_back g parts in
    rw (name, new, count, disk, tasks) refl

-- ---- constraints

suffix_back : (p s : List ℕ) → without_suffix p (s ++ p) ≡ Some s
suffix_back p s =
    let seam : length (s ++ p) - length p ≡ length s = omega (arith, length-append s p) in
    rw (seam, drop-append_seam s p, pointwise_refl eqb (λ x. eq-eqb x x refl) p, take-append_seam s p) refl

target_back : (t : Target) → target_of (target_text t) ≡ Some t
unfolding target_of attribute_key
target_back Target.NodeClass = refl
target_back Target.NodeName = refl
target_back (Target.Attribute key) = rw (suffix_back (codes "}") key) refl

operand_back : (o : Operand) → (a_text Member.Operand (string (operand_text o)) ≡ Ok (operand_text o)) × (operand_of (operand_text o) ≡ Some o)
unfolding a_text operand_of
operand_back Operand.Equal = (refl, refl)
operand_back Operand.NotEqual = (refl, refl)

constraint_back : (before : List Constraint) (c : Constraint) → is_good_constraint c ≡ true → ReadBack constraint_after constraint_json before c
unfolding constraint_in compared_in constraint_json an_object demanded present
constraint_back before c h =
    let left = text_back Member.LeftTarget (target_text c.target) (first_of_both (is_target c.target) (is_text c.value) h) in
    let right = text_back Member.RightTarget c.value (second_of_both (is_target c.target) (is_text c.value) h) in
    let operand = operand_back c.operand in
    rw (left, target_back c.target, right, operand.0, operand.1) refl

-- ---- the job

kind_back : (k : JobKind) → kind_in (string (kind_text k)) ≡ Ok k
unfolding kind_in kind_of a_text
kind_back JobKind.Service = refl
kind_back JobKind.Batch = refl

pub record IsRegistration (r : Registration) : Type 0 where
  pub id : is_name NameKind.Job r.id ≡ true
  pub priority : is_between 1 100 r.priority ≡ true
  pub pool : option_map_or is_pool_name r.pool true ≡ true
  pub few : nat_le (length r.constraints) 16 ≡ true
  pub constraints : list_all is_good_constraint r.constraints ≡ true
  pub many : is_between 1 16 (length r.groups) ≡ true
  pub groups : list_all is_good_group r.groups ≡ true
  pub once : is_distinct same_name (map (λ g. g.name) r.groups) ≡ true

pub registration_parts : (r : Registration) → is_good_registration r ≡ true → IsRegistration r
registration_parts r z =
    let a = is_name NameKind.Job r.id in
    let b = is_between 1 100 r.priority in
    let c = option_map_or is_pool_name r.pool true in
    let d = nat_le (length r.constraints) 16 in
    let e = list_all is_good_constraint r.constraints in
    let f = is_between 1 16 (length r.groups) in
    let g = list_all is_good_group r.groups in
    let h = is_distinct same_name (map (λ x. x.name) r.groups) in
    let i7 = first_of_both (a && b && c && d && e && f && g) h z in
    let i6 = first_of_both (a && b && c && d && e && f) g i7 in
    let i5 = first_of_both (a && b && c && d && e) f i6 in
    let i4 = first_of_both (a && b && c && d) e i5 in
    let i3 = first_of_both (a && b && c) d i4 in
    let i2 = first_of_both (a && b) c i3 in
    record {
      id = first_of_both a b i2;
      priority = second_of_both a b i2;
      pool = second_of_both (a && b) c i3;
      few = second_of_both (a && b && c) d i4;
      constraints = second_of_both (a && b && c && d) e i5;
      many = second_of_both (a && b && c && d && e) f i6;
      groups = second_of_both (a && b && c && d && e && f) g i7;
      once = second_of_both (a && b && c && d && e && f && g) h z;
    }

pool_back : (o : Option Name) → option_map_or is_pool_name o true ≡ true → pool_in (text_or_empty o) ≡ Ok o
unfolding pool_in
pool_back None h = rw (if_any_back Member.NodePool NameKind.Pool None refl) refl
pool_back (Some s) h =
    let named : is_name NameKind.Pool s ≡ true = first_of_both (is_name NameKind.Pool s) (not (bytes_eq s (codes "all"))) h in
    let other : bytes_eq s (codes "all") ≡ false = not-true _ (second_of_both (is_name NameKind.Pool s) (not (bytes_eq s (codes "all"))) h) in
    rw (if_any_back Member.NodePool NameKind.Pool (Some s) named, other) refl

constraints_back : (r : Registration) → IsRegistration r → constraints_in (list_of constraint_json r.constraints) ≡ Ok r.constraints
unfolding constraints_in
constraints_back r h =
    list_back Member.Constraints 0 16 constraint_after constraint_json r.constraints
    (and_from (nat_le 0 (length r.constraints)) _ (le-leb 0 (length r.constraints) (omega arith)) h.few)
    (each_good is_good_constraint (ReadBack constraint_after constraint_json) constraint_back [] r.constraints h.constraints)

groups_back : (r : Registration) → IsRegistration r → groups_in (list_of group_json r.groups) ≡ Ok r.groups
unfolding groups_in
groups_back r h = list_back Member.TaskGroups 1 16 group_in group_json r.groups h.many
    (each_distinct (λ g. g.name) is_good_group (ReadBack group_in group_json) group_back r.groups h.groups h.once)

job_back : (r : Registration) → is_good_registration r ≡ true →
    job_in (registration_json r) ≡ Ok (record { namespace = None; registration = demanding None r })
unfolding job_in names_in terms_in work_in job_groups_in registration_json an_object demanded present
job_back r h =
    let parts = registration_parts r h in
    let id = name_back Member.Id NameKind.Job r.id parts.id in
    let priority = number_back Member.Priority 1 100 r.priority parts.priority in
    rw (id, kind_back r.kind, priority, pool_back r.pool parts.pool, constraints_back r parts, groups_back r parts) refl

-- the body that says the registration as a job
pub registration_back : (r : Registration) → is_good_registration r ≡ true →
    registration_in (object_of ((codes "Job", registration_json r) ∷ [])) ≡ Ok (record { namespace = None; registration = demanding None r })
unfolding registration_in enforced_in registration_json demanded present top
registration_back r h = rw (job_back r h) refl
