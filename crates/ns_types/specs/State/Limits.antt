-- How large members, lists and tables may be.
use Rattle.std.specs.Prelude.{◌≡◌, ℕ, ◌^◌, ◌==◌, Bool, true, not, ◌&&◌, ◌||◌, List, length, nat_le, is_none, codes, map}
use Rattle.std.specs.Option.{option_map_or}
use Rattle.std.specs.FinMap.{entries, from_entries}
use Rattle.std.specs.List.{list_all}
use Rattle.std.specs.Str.{bytes_eq}
use Rattle.ns_types.specs.declared.acl.Policy.{Policy}
use Rattle.ns_types.specs.declared.acl.Token.{Token}
use Rattle.ns_types.specs.declared.job.Constraint.{Constraint}
use Rattle.ns_types.specs.declared.job.Document.{Document}
use Rattle.ns_types.specs.declared.job.Group.{Group}
use Rattle.ns_types.specs.declared.job.Registration.{Registration}
use Rattle.ns_types.specs.declared.job.Target.{Target}
use Rattle.ns_types.specs.declared.job.Task.{Task}
use Rattle.ns_types.specs.declared.job.TaskResources.{TaskResources}
use Rattle.ns_types.specs.declared.name.NameKind.TheVariants as NameKind
use Rattle.ns_types.specs.declared.node.Offer.{Offer}
use Rattle.ns_types.specs.declared.records.Namespace.{Namespace}
use Rattle.ns_types.specs.declared.records.Quota.{Quota}
use Rattle.ns_types.specs.declared.resources.Limit.{Limit}
use Rattle.ns_types.specs.declared.resources.Limits.{Limits}
use Rattle.ns_types.specs.declared.resources.Resources.{Resources}
use Rattle.ns_types.specs.State.Lists.{is_empty, first_each}
use Rattle.ns_types.specs.State.Name.{is_name}
use Rattle.ns_types.specs.State.Names.{Name, name_cmp, same_name, has_name}
use Rattle.ns_types.specs.State.Resources.{in_each, limit_on, limits_in, quantity}
use Rattle.ns_types.specs.Wire.Words.{target_text}

abbrev pub is_between : ℕ → ℕ → ℕ → Bool
is_between low high n = nat_le low n && nat_le n high

-- no two elements of the list are the same
abbrev pub is_distinct : {X : Type 0} → (X → X → Bool) → List X → Bool
is_distinct same xs = length (first_each same xs) == length xs

abbrev pub is_text : Name → Bool
is_text text = nat_le (length text) 256

-- a pool may not be called `all`
abbrev pub is_pool_name : Name → Bool
is_pool_name name = is_name NameKind.Pool name && not (bytes_eq name (codes "all"))

-- ---- jobs

-- how much of one resource a task, a group or a node may state: 1 to 2147483647
abbrev pub is_quantity : ℕ → Bool
is_quantity n = is_between 1 2147483647 n

abbrev pub is_amount : Resources → Bool
is_amount a = in_each (λ r. is_quantity (quantity r a))

-- the target of a constraint, as it is written, is at most 256 bytes long
abbrev pub is_target : Target → Bool
is_target target = is_text (target_text target)

abbrev pub is_good_constraint : Constraint → Bool
is_good_constraint c = is_target c.target && is_text c.value

abbrev pub are_quantities : TaskResources → Bool
are_quantities r = is_quantity r.cpu && is_quantity r.memory

abbrev pub is_good_task : Task → Bool
is_good_task t = is_name NameKind.Task t.name && are_quantities t.resources

abbrev pub is_good_group : Group → Bool
is_good_group g = is_name NameKind.Group g.name && nat_le g.count 1000 && is_quantity g.disk && is_between 1 16 (length g.tasks)
    && list_all is_good_task g.tasks && is_distinct same_name (map (λ t. t.name) g.tasks)

abbrev pub is_good_document : Document → Bool
is_good_document d = is_between 1 100 d.priority && is_pool_name d.pool
    && nat_le (length d.constraints) 16 && list_all is_good_constraint d.constraints
    && is_between 1 16 (length d.groups) && list_all is_good_group d.groups
    && is_distinct same_name (map (λ g. g.name) d.groups)

-- a registration need not name a pool
abbrev pub is_good_registration : Registration → Bool
is_good_registration r = is_name NameKind.Job r.id && is_between 1 100 r.priority
    && option_map_or is_pool_name r.pool true
    && nat_le (length r.constraints) 16 && list_all is_good_constraint r.constraints
    && is_between 1 16 (length r.groups) && list_all is_good_group r.groups
    && is_distinct same_name (map (λ g. g.name) r.groups)

-- ---- nodes

abbrev pub is_good_offer : Offer → Bool
is_good_offer o = is_text o.class && nat_le (length o.attributes) 64
    && list_all (λ a. is_text a.key && is_text a.value) o.attributes && is_amount o.capacity

-- the attributes are in the order of their keys, and no key occurs twice
abbrev pub IsInOrder : Offer → Type 0
IsInOrder offer =
    let pairs = map (λ a. (a.key, a.value)) offer.attributes in
    entries (from_entries {R = name_cmp} pairs) ≡ pairs

-- ---- records

abbrev pub is_pool_list : List Name → Bool
is_pool_list pools = nat_le (length pools) 1000 && list_all is_pool_name pools && is_distinct same_name pools

-- a namespace has a list of allowed pools or a list of denied ones, not both, and does not deny its default pool
abbrev pub is_good_namespace : Namespace → Bool
is_good_namespace n = is_text n.description && option_map_or (is_name NameKind.Quota) n.quota true
    && is_pool_name n.default_pool
    && option_map_or is_pool_list n.allowed true && is_pool_list n.denied
    && (is_none n.allowed || is_empty n.denied) && not (has_name n.denied n.default_pool)

abbrev pub is_limit : Limit → Bool
is_limit Limit.Unlimited = true
is_limit (Limit.AtMost most) = is_between 1 (2 ^ 53) most
is_limit Limit.Nothing = true

abbrev pub are_limits : Limits → Bool
are_limits l = in_each (λ r. is_limit (limit_on r l))

abbrev pub is_good_quota : Quota → Bool
is_good_quota q = is_text q.description && are_limits (limits_in q.limits)

-- ---- policies and tokens

abbrev pub is_good_policy : Policy → Bool
is_good_policy p = is_text p.description && nat_le (length p.text) 65536

abbrev pub is_good_token : Token → Bool
is_good_token t = is_text t.name && nat_le (length t.policies) 64 && list_all (is_name NameKind.Policy) t.policies
    && is_distinct same_name t.policies
