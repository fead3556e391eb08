-- What is known of a good document of a job: how many groups and tasks it has, and that they are good.
use Rattle.std.specs.Prelude.{◌≡◌, ◌≤◌, Bool, true, ◌&&◌, List, length, nat_le}
use Rattle.std.specs.List.{list_all}
use Rattle.std.proofs.Common.{arith}
use Rattle.std.proofs.lemmas.Bool.{leb-true}
use Rattle.ns_types.specs.declared.job.Document.{Document}
use Rattle.ns_types.specs.declared.job.Group.{Group}
use Rattle.ns_types.specs.declared.job.Task.{Task}
use Rattle.ns_types.specs.declared.job.Job.{Job}
use Rattle.ns_types.specs.declared.name.NameKind.TheVariants as NameKind
use Rattle.ns_types.specs.declared.snapshot.OwnAllocation.{OwnAllocation}
use Rattle.ns_types.specs.Placing.Wanted.{missing}
use Rattle.ns_types.specs.State.Limits.{is_between, is_good_constraint, is_good_document, is_good_group, is_good_task}
use Rattle.ns_types.specs.State.Limits.{is_pool_name, is_quantity, are_quantities}
use Rattle.ns_types.specs.State.Name.{is_name}
use Rattle.ns_types.proofs.Named.{first_of_both, second_of_both}

module _ (t : Task) (good : is_good_task t ≡ true) where
  both : are_quantities t.resources ≡ true
  both = second_of_both (is_name NameKind.Task t.name) (are_quantities t.resources) good

  pub good_cpu : is_quantity t.resources.cpu ≡ true
  good_cpu = first_of_both (is_quantity t.resources.cpu) (is_quantity t.resources.memory) both

  pub good_memory : is_quantity t.resources.memory ≡ true
  good_memory = second_of_both (is_quantity t.resources.cpu) (is_quantity t.resources.memory) both

module _ (g : Group) (good : is_good_group g ≡ true) where
  abbrev numbered : Bool
  numbered = is_name NameKind.Group g.name && nat_le g.count 1000

  abbrev counted : Bool
  counted = numbered && is_quantity g.disk

  abbrev bounded : Bool
  bounded = counted && is_between 1 16 (length g.tasks)

  with_tasks : (bounded && list_all is_good_task g.tasks) ≡ true
  with_tasks = first_of_both (bounded && list_all is_good_task g.tasks) _ good

  pub good_tasks : list_all is_good_task g.tasks ≡ true
  good_tasks = second_of_both bounded _ with_tasks

  pub few_tasks : length g.tasks ≤ 16
  few_tasks = leb-true (length g.tasks) 16 (second_of_both (nat_le 1 (length g.tasks)) _
      (second_of_both counted _ (first_of_both bounded (list_all is_good_task g.tasks) with_tasks)))

  with_disk : counted ≡ true
  with_disk = first_of_both counted _ (first_of_both bounded (list_all is_good_task g.tasks) with_tasks)

  pub good_disk : is_quantity g.disk ≡ true
  good_disk = second_of_both numbered (is_quantity g.disk) with_disk

  pub few_missing : (j : Job) (own : List OwnAllocation) → missing j own g ≤ 1000
  few_missing j own =
      let few = leb-true g.count 1000 (second_of_both (is_name NameKind.Group g.name) _ (first_of_both numbered (is_quantity g.disk) with_disk)) in
      omega (arith, few)

module _ (d : Document) (good : is_good_document d ≡ true) where
  abbrev before : Bool
  before = is_between 1 100 d.priority && is_pool_name d.pool && nat_le (length d.constraints) 16 && list_all is_good_constraint d.constraints

  with_groups : (before && is_between 1 16 (length d.groups) && list_all is_good_group d.groups) ≡ true
  with_groups = first_of_both (before && is_between 1 16 (length d.groups) && list_all is_good_group d.groups) _ good

  pub good_groups : list_all is_good_group d.groups ≡ true
  good_groups = second_of_both (before && is_between 1 16 (length d.groups)) _ with_groups

  pub few_groups : length d.groups ≤ 16
  few_groups = leb-true (length d.groups) 16 (second_of_both (nat_le 1 (length d.groups)) _
      (second_of_both before _ (first_of_both (before && is_between 1 16 (length d.groups)) _ with_groups)))
