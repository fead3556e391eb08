-- What a valid state keeps is far within 64 bits.
use Rattle.std.specs.Prelude.{◌≡◌, ℕ, ◌+◌, ◌*◌, ◌^◌, ◌≤◌, ◌<◌, Bool, true, false, cond, List, [], ◌∷◌, Option, Some, None, length, sum_by}
use Rattle.std.specs.List.{list_all}
use Rattle.std.specs.Option.{unwrap_or}
use Rattle.std.proofs.Common.{refl, arith}
use Rattle.std.proofs.lemmas.Bool.{and_from}
use Rattle.std.proofs.lemmas.List.Sums.{sum_by-le}
use Rattle.std.proofs.lemmas.Nat.{mul-le}
use Rattle.ns_types.specs.declared.job.Group.{Group}
use Rattle.ns_types.specs.declared.job.Job.{Job}
use Rattle.ns_types.specs.declared.job.Task.{Task}
use Rattle.ns_types.specs.declared.plan.Demand.{Demand}
use Rattle.ns_types.specs.declared.resources.Resources.{Resources}
use Rattle.ns_types.specs.declared.snapshot.OwnAllocation.{OwnAllocation}
use Rattle.ns_types.specs.declared.snapshot.PoolNode.{PoolNode}
use Rattle.ns_types.specs.declared.snapshot.QuotaSeen.{QuotaSeen}
use Rattle.ns_types.specs.declared.snapshot.Snapshot.{Snapshot}
use Rattle.ns_types.specs.Placing.Plan.{no_quota, quota_of}
use Rattle.ns_types.specs.Placing.Wanted.{demands, demands_from, group_size, missing}
use Rattle.ns_types.specs.State.Limits.{is_amount, is_good_document, is_good_group, is_good_offer, is_good_task}
use Rattle.ns_types.specs.State.Resources.{Resource, Cpu, Memory, Disk, is_within, plus, quantity, total}
use Rattle.ns_types.specs.Validity.{IsCountable, IsSmall, seen_load}
use Rattle.ns_types.proofs.Documents.{few_groups, few_missing, few_tasks, good_cpu, good_disk, good_groups, good_memory, good_tasks}
use Rattle.ns_types.proofs.Elements.{all_from, each_from_all, each_of}
use Rattle.ns_types.proofs.Amounts.{at, every, within_at}
use Rattle.ns_types.proofs.LiveSums.{most_at, most_of}
use Rattle.ns_types.proofs.Named.{first_of_both, second_of_both}
use Rattle.ns_schedule.specs.Fits.{fits, node_fits}
use Rattle.ns_schedule.specs.Laws.{KeptFits}
use Rattle.ns_schedule.proofs.Counts.{demanded}
use Rattle.ns_types.proofs.Amounts.{counted_true}

-- ---- nodes

node_small : (n : PoolNode) → is_good_offer n.row.offer ≡ true → is_within (seen_load n) n.row.offer.capacity ≡ true → node_fits n ≡ true
node_small n good within =
    let capacity = n.row.offer.capacity in
    let load = seen_load n in
    let amount : is_amount capacity ≡ true = second_of_both _ (is_amount capacity) good in
    counted_true (plus capacity load) (every (λ r. quantity r capacity + quantity r load < 2 ^ 64) (λ r.
    let most = most_at capacity amount r in
    let less = within_at load capacity within r in
    omega (arith, most, less)))

nodes_small : (ns : List PoolNode) → list_all (λ n. is_good_offer n.row.offer) ns ≡ true
    → list_all (λ n. is_within (seen_load n) n.row.offer.capacity) ns ≡ true → list_all node_fits ns ≡ true
nodes_small [] good within = refl
nodes_small (n ∷ ns) good within =
    and_from _ _
    (node_small n (first_of_both (is_good_offer n.row.offer) _ good) (first_of_both (is_within (seen_load n) n.row.offer.capacity) _ within))
    (nodes_small ns (second_of_both (is_good_offer n.row.offer) _ good) (second_of_both (is_within (seen_load n) n.row.offer.capacity) _ within))

-- ---- groups

-- what all tasks of a group take of one resource
tasks_small : (g : Group) → is_good_group g ≡ true → (f : Task → ℕ) → ((t : Task) → is_good_task t ≡ true → f t ≤ 2147483647)
    → sum_by f g.tasks ≤ 34359738352
tasks_small g good f small =
    let few = few_tasks g good in
    let each_small = sum_by-le f 2147483647 g.tasks
    (all_from (λ (t : Task). f t ≤ 2147483647) g.tasks
    (each_of (λ (t : Task). is_good_task t ≡ true) (λ (t : Task). f t ≤ 2147483647) small g.tasks
    (each_from_all is_good_task g.tasks (good_tasks g good)))) in
    omega (arith, few, each_small)

size_small : (g : Group) → is_good_group g ≡ true → (r : Resource) → quantity r (group_size g) ≤ 34359738352
size_small g good Cpu = tasks_small g good (λ t. t.resources.cpu) (λ t e. most_of t.resources.cpu (good_cpu t e))
size_small g good Memory = tasks_small g good (λ t. t.resources.memory) (λ t e. most_of t.resources.memory (good_memory t e))
size_small g good Disk = let most = most_of g.disk (good_disk g good) in omega (arith, most)

-- ---- all that is missing

module _ (f : Resources → ℕ) (small : (g : Group) → is_good_group g ≡ true → f (group_size g) ≤ 34359738352) (j : Job) (own : List OwnAllocation) where
  groups_small : (i : ℕ) (gs : List Group) → list_all is_good_group gs ≡ true
      → sum_by (λ d. f d.size) (demands_from i j own gs) ≤ length gs * 34359738352000
  groups_small i [] good = omega arith
  groups_small i (g ∷ gs) good =
      let here = first_of_both (is_good_group g) (list_all is_good_group gs) good in
      let parts = demanded f i j own g gs in
      let rest = groups_small (i + 1) gs (second_of_both (is_good_group g) (list_all is_good_group gs) good) in
      let part = mul-le (missing j own g) (f (group_size g)) 1000 34359738352 (few_missing g here j own) (small g here) in
      omega (arith, parts, rest, part)

  job_small : is_good_document j.document ≡ true → sum_by (λ d. f d.size) (demands (Some j) own) < 2 ^ 55
  job_small good = by j.stop
    where
      by : (b : Bool) → sum_by (λ (d : Demand). f d.size) (cond b [] (demands_from 0 j own j.document.groups)) < 2 ^ 55
      by true = omega arith
      by false =
          let all = groups_small 0 j.document.groups (good_groups j.document good) in
          let few = few_groups j.document good in
          omega (arith, all, few)

demands_small : (f : Resources → ℕ) → ((g : Group) → is_good_group g ≡ true → f (group_size g) ≤ 34359738352) → (o : Option Job) (own : List OwnAllocation)
    → ((j : Job) → o ≡ Some j → is_good_document j.document ≡ true) → sum_by (λ d. f d.size) (demands o own) < 2 ^ 55
demands_small f small None own good = omega arith
demands_small f small (Some j) own good = job_small f small j own (good j refl)

used_small : (o : Option QuotaSeen) → ((q : QuotaSeen) → o ≡ Some q → IsSmall q.used) → IsSmall (unwrap_or o no_quota).used
used_small None small = every (λ r. 0 < 2 ^ 55) (λ r. omega arith)
used_small (Some q) small = small q refl

countable_fits : (kept : Snapshot) → IsCountable kept → ((j : Job) → kept.job ≡ Some j → is_good_document j.document ≡ true) → fits kept ≡ true
countable_fits kept countable good =
    let used = used_small kept.quota countable.used in
    and_from _ _ (nodes_small kept.nodes countable.good countable.within)
    (counted_true (plus (quota_of kept).used (total (λ d. d.size) (demands kept.job kept.own))) (every
    (λ r. quantity r (quota_of kept).used + sum_by (λ d. quantity r d.size) (demands kept.job kept.own) < 2 ^ 64) (λ r.
    let some = at (λ r. quantity r (quota_of kept).used < 2 ^ 55) used r in
    let all = demands_small (quantity r) (λ g e. size_small g e r) kept.job kept.own good in
    omega (arith, some, all))))

pub kept_fits : KeptFits
kept_fits s ns t number worker kept valid is_tenant is_worker is_kept =
    let sound = ((valid.world.tenant ns t is_tenant).worker number worker is_worker).snapshot kept is_kept in
    countable_fits kept sound.countable sound.job_good
