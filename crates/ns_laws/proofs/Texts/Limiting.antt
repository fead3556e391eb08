-- What is within the limits.
use Rattle.std.specs.Prelude.{◌≡◌, ◌≢◌, ◌↔◌, ◌⊎◌, ℕ, ◌+◌, ◌≤◌, Bool, true, false, ◌&&◌, ◌||◌, not, List, [], ◌∷◌}
use Rattle.std.specs.Prelude.{IfSome, IsTrue, Option, Some, None, T, codes, is_none, length, map, nat_le}
use Rattle.std.specs.FinMap.{entries, entries_sorted, entries-from_sorted, from_entries, from_sorted, get-from_entries, get-from_sorted, same_map}
use Rattle.std.specs.FinMap.Entries.{below_all, is_sorted}
use Rattle.std.specs.List.{AllPairs, list_all}
use Rattle.std.specs.Option.{option_map_or}
use Rattle.std.specs.Ordering.{is_lt}
use Rattle.std.proofs.Common.{inl, inr, refl, sym, ap, subst, ◌∙◌, arith, length-append}
use Rattle.std.proofs.lemmas.Bool.{and_from, and_parts, false_from_ne_true, le-leb, leb-true, not_from_false, or_cases, or_from, or_left, or_parts}
use Rattle.std.proofs.lemmas.Bool.{or_right, not-true}
use Rattle.ns_types.specs.declared.step.AdminCommand.{AdminCommand}
use Rattle.ns_types.specs.declared.step.AskCommand.{AskCommand}
use Rattle.ns_types.specs.declared.step.NodeCommand.{NodeCommand}
use Rattle.ns_types.specs.declared.step.Step.{Step}
use Rattle.ns_types.specs.Asking.Good.{IsGoodNodeCommand, is_good_admin, is_good_ask}
use Rattle.ns_types.specs.declared.job.Constraint.{Constraint}
use Rattle.ns_types.specs.declared.job.Group.{Group}
use Rattle.ns_types.specs.declared.job.Target.{Target}
use Rattle.ns_types.specs.declared.job.Task.{Task}
use Rattle.ns_types.specs.declared.name.NameKind.TheVariants as NameKind
use Rattle.ns_types.specs.declared.node.Attribute.{Attribute}
use Rattle.ns_types.specs.declared.node.Offer.{Offer}
use Rattle.ns_types.specs.declared.records.Namespace.{Namespace}
use Rattle.ns_types.specs.declared.resources.Limit.{Limit}
use Rattle.ns_types.specs.declared.resources.Limits.{Limits}
use Rattle.ns_types.specs.declared.step.NewToken.{NewToken}
use Rattle.ns_types.specs.State.Limits.{IsInOrder, is_amount, is_between, is_distinct, is_good_constraint, is_good_document}
use Rattle.ns_types.specs.State.Limits.{is_good_group, is_good_namespace, is_good_offer, is_good_registration, is_good_task, is_limit}
use Rattle.ns_types.specs.State.Limits.{is_pool_list, is_pool_name, is_quantity, is_target}
use Rattle.ns_types.specs.State.Limits.{is_text, are_limits}
use Rattle.ns_types.specs.State.Lists.{Each, is_empty}
use Rattle.ns_types.specs.State.Name.{is_name}
use Rattle.ns_types.specs.State.Names.{Name, has_name, name_cmp, same_name}
use Rattle.ns_types.specs.State.Resources.{limits_in}
use Rattle.ns_types.specs.Wire.Words.{target_text}
use Rattle.ns_types.proofs.Elements.{all_from_each, each_from_all, each_of}
use Rattle.ns_types.proofs.Lists.{not_both}
use Rattle.ns_types.proofs.Named.{names, one_name, same_name_is, same_name_refl}
use Rattle.ns_types.proofs.Tests.{both, first, second}
use Rattle.ns_audit.proofs.ValidEvaluations.Pairs.{Pairs, distinct_of_pairs, pairs_mapped, pairs_of, pairs_of_distinct, pairs_of_mapped}
use Rattle.ns_laws.specs.Limits as law
use Rattle.ns_laws.specs.Limits.{AreInOrder, AreLimitsWithin, IsAmount, IsConstraintWithin, IsGroupWithin, IsJobWithin, IsLimitWithin}
use Rattle.ns_laws.specs.Limits.{IsNamespaceWithin}
use Rattle.ns_laws.specs.Limits.{IsOfferWithin, IsPoolListWithin, IsTargetWithin, IsTaskWithin, IsTokenWithin}
use Rattle.ns_laws.specs.Names.{IsMadeOf, IsOfPool, plain, plain_or_underscore, printable}
use Rattle.ns_laws.proofs.PairLemmas.{all_pairs, pairs_from}
use Rattle.ns_laws.proofs.Texts.Naming.{group_name, job_name, names_of_pools, namespace_name, node_name, policy_name, quota_name, task_name}
use Rattle.ns_laws.proofs.Texts.Naming.{texts_of_secrets}

-- ---- numbers

between : (low high n : ℕ) → (is_between low high n ≡ true) ↔ ((low ≤ n) × (n ≤ high))
between low high n = (
  (λ e. let parts = and_parts (nat_le low n) (nat_le n high) e in (leb-true low n parts.0, leb-true n high parts.1)),
  (λ (at_least, at_most). and_from (nat_le low n) (nat_le n high) (le-leb low n at_least) (le-leb n high at_most)),
)

amount : (n : ℕ) → (is_quantity n ≡ true) ↔ IsAmount n
amount n = between 1 2147483647 n

-- ---- lists and options

module _ {A : Type 0} (test : A → Bool) (P : A → Type 0) (same : (x : A) → (test x ≡ true) ↔ P x) where
  each : (xs : List A) → (list_all test xs ≡ true) ↔ Each P xs
  each xs = (
    (λ e. each_of (λ x. test x ≡ true) P (λ x. (same x).0) xs (each_from_all test xs e)),
    (λ h. all_from_each test xs (each_of P (λ x. test x ≡ true) (λ x. (same x).1) xs h)),
  )

  optional : (o : Option A) → (option_map_or test o true ≡ true) ↔ IfSome o P
  optional None = ((λ _. tt), (λ _. refl))
  optional (Some x) = same x

-- names that differ
differ : (a b : Name) → a ≢ b → same_name a b ≡ false
differ a b other = false_from_ne_true (same_name a b) (λ e. other (same_name_is a b e))

differs : (a b : Name) → same_name a b ≡ false → a ≢ b
differs a b other same = not_both (subst (λ c. same_name a c ≡ true) same (same_name_refl a)) other

module _ {A : Type 0} (name : A → Name) where
  apart : (xs : List A) → (is_distinct same_name (map name xs) ≡ true) ↔ AllPairs (λ a b. name a ≢ name b) xs
  apart xs = (
    (λ e. all_pairs (λ a b. name a ≢ name b) xs
        (pairs_of (λ a b. same_name (name a) (name b) ≡ false) (λ a b. name a ≢ name b) (λ a b. differs (name a) (name b)) xs
        (pairs_of_mapped name (λ a b. same_name a b ≡ false) xs (pairs_of_distinct same_name (map name xs) e)))),
    (λ h. distinct_of_pairs same_name (map name xs)
        (pairs_mapped name (λ a b. same_name a b ≡ false) xs
        (pairs_of (λ a b. name a ≢ name b) (λ a b. same_name (name a) (name b) ≡ false) (λ a b. differ (name a) (name b)) xs
        (pairs_from (λ a b. name a ≢ name b) xs h)))),
  )

names_apart : (names : List Name) → (is_distinct same_name names ≡ true) ↔ AllPairs (λ a b. a ≢ b) names
names_apart names = (
  (λ e. all_pairs (λ a b. a ≢ b) names (pairs_of (λ a b. same_name a b ≡ false) (λ a b. a ≢ b) differs names (pairs_of_distinct same_name names e))),
  (λ h. distinct_of_pairs same_name names
      (pairs_of (λ a b. a ≢ b) (λ a b. same_name a b ≡ false) differ names (pairs_from (λ a b. a ≢ b) names h))),
)

text : (most : ℕ) (t : Name) → (nat_le (length t) most ≡ true) ↔ (length t ≤ most)
text most t = (leb-true (length t) most, le-leb (length t) most)

-- ---- jobs

pub task_limits : law.TaskLimits
task_limits t = (to, from)
  where
    to : is_good_task t ≡ true → IsTaskWithin t
    to e =
        let parts = and_parts (is_name NameKind.Task t.name) (is_quantity t.resources.cpu && is_quantity t.resources.memory) e in
        let sizes = and_parts (is_quantity t.resources.cpu) (is_quantity t.resources.memory) parts.1 in
        record {
          name = (task_name t.name).0 parts.0;
          cpu = (amount t.resources.cpu).0 sizes.0;
          memory = (amount t.resources.memory).0 sizes.1;
        }

    from : IsTaskWithin t → is_good_task t ≡ true
    from w = and_from (is_name NameKind.Task t.name) (is_quantity t.resources.cpu && is_quantity t.resources.memory)
        ((task_name t.name).1 w.name) (and_from (is_quantity t.resources.cpu) (is_quantity t.resources.memory)
        ((amount t.resources.cpu).1 w.cpu) ((amount t.resources.memory).1 w.memory))

-- several tests, one after the other
all_three : {a b c : Bool} → (a && b && c) ≡ true → (a ≡ true) × (b ≡ true) × (c ≡ true)
all_three {a} {b} {c} e =
    let last = and_parts (a && b) c e in
    let front = and_parts a b last.0 in
    (front.0, front.1, last.1)

three_all : {a b c : Bool} → a ≡ true → b ≡ true → c ≡ true → (a && b && c) ≡ true
three_all {a} {b} {c} is_a is_b is_c = and_from (a && b) c (and_from a b is_a is_b) is_c

all_four : {a b c d : Bool} → (a && b && c && d) ≡ true → (a ≡ true) × (b ≡ true) × (c ≡ true) × (d ≡ true)
all_four {a} {b} {c} {d} e =
    let last = and_parts (a && b && c) d e in
    let front = all_three {a = a} {b = b} {c = c} last.0 in
    (front.0, front.1, front.2, last.1)

four_all : {a b c d : Bool} → a ≡ true → b ≡ true → c ≡ true → d ≡ true → (a && b && c && d) ≡ true
four_all {a} {b} {c} {d} is_a is_b is_c is_d = and_from (a && b && c) d (three_all is_a is_b is_c) is_d

pub group_limits : law.GroupLimits
group_limits g = (to, from)
  where
    tasks : (list_all is_good_task g.tasks ≡ true) ↔ Each IsTaskWithin g.tasks
    tasks = each is_good_task IsTaskWithin task_limits g.tasks

    named : (is_distinct same_name (map (λ t. t.name) g.tasks) ≡ true) ↔ AllPairs (λ s t. s.name ≢ t.name) g.tasks
    named = apart (λ (t : Task). t.name) g.tasks

    to : is_good_group g ≡ true → IsGroupWithin g
    to e =
        let last = all_three {a = is_name NameKind.Group g.name && nat_le g.count 1000 && is_quantity g.disk && is_between 1 16 (length g.tasks)}
        {b = list_all is_good_task g.tasks} {c = is_distinct same_name (map (λ t. t.name) g.tasks)} e in
        let front = all_four {a = is_name NameKind.Group g.name} {b = nat_le g.count 1000} {c = is_quantity g.disk}
        {d = is_between 1 16 (length g.tasks)} last.0 in
        let many = (between 1 16 (length g.tasks)).0 front.3 in
        record {
          name = (group_name g.name).0 front.0;
          count = leb-true g.count 1000 front.1;
          disk = (amount g.disk).0 front.2;
          some_tasks = many.0;
          few_tasks = many.1;
          tasks = tasks.0 last.1;
          apart = named.0 last.2;
        }

    from : IsGroupWithin g → is_good_group g ≡ true
    from w = three_all (four_all ((group_name g.name).1 w.name) (le-leb g.count 1000 w.count) ((amount g.disk).1 w.disk)
        ((between 1 16 (length g.tasks)).1 (w.some_tasks, w.few_tasks))) (tasks.1 w.tasks) (named.1 w.apart)

-- `${attr.` and `}` around a key
length_of_attribute : (key : Name) → length (target_text (Target.Attribute key)) ≡ length key + 8
length_of_attribute key = let long = length-append key (codes "}") in omega (arith, long)

target : (t : Target) → (is_target t ≡ true) ↔ IsTargetWithin t
target Target.NodeClass = ((λ _. tt), (λ _. refl))
target Target.NodeName = ((λ _. tt), (λ _. refl))
target (Target.Attribute key) = (to, from)
  where
    to : is_target (Target.Attribute key) ≡ true → length key ≤ 248
    to e =
        let long = length_of_attribute key in
        let few = leb-true (length (target_text (Target.Attribute key))) 256 e in
        omega (arith, long, few)

    from : length key ≤ 248 → is_target (Target.Attribute key) ≡ true
    from few = let long = length_of_attribute key in le-leb (length (target_text (Target.Attribute key))) 256 (omega (arith, long, few))

pub constraint_limits : law.ConstraintLimits
constraint_limits c = (
  (λ e. let parts = and_parts (is_target c.target) (is_text c.value) e in
      ((target c.target).0 parts.0, (text 256 c.value).0 parts.1)),
  (λ w. and_from (is_target c.target) (is_text c.value) ((target c.target).1 w.0) ((text 256 c.value).1 w.1)),
)

module _ (priority : ℕ) (constraints : List Constraint) (groups : List Group) where
  -- the tests of what a registration and a document share
  abbrev constrained : Bool
  constrained = list_all is_good_constraint constraints

  abbrev grouped : Bool
  grouped = list_all is_good_group groups

  abbrev distinct : Bool
  distinct = is_distinct same_name (map (λ (g : Group). g.name) groups)

  are_constraints : (constrained ≡ true) ↔ Each IsConstraintWithin constraints
  are_constraints = each is_good_constraint IsConstraintWithin constraint_limits constraints

  are_groups : (grouped ≡ true) ↔ Each IsGroupWithin groups
  are_groups = each is_good_group IsGroupWithin group_limits groups

  are_apart : (distinct ≡ true) ↔ AllPairs (λ g h. g.name ≢ h.name) groups
  are_apart = apart (λ (g : Group). g.name) groups

  job_within : is_between 1 100 priority ≡ true → nat_le (length constraints) 16 ≡ true → constrained ≡ true →
      is_between 1 16 (length groups) ≡ true → grouped ≡ true → distinct ≡ true → IsJobWithin priority constraints groups
  job_within of_priority few good many groups_good groups_differ =
      let range = (between 1 100 priority).0 of_priority in
      let number = (between 1 16 (length groups)).0 many in
      record {
        low = range.0;
        high = range.1;
        few_constraints = leb-true (length constraints) 16 few;
        good_constraints = are_constraints.0 good;
        some_groups = number.0;
        few_groups = number.1;
        good_groups = are_groups.0 groups_good;
        apart = are_apart.0 groups_differ;
      }

pub registration_limits : law.RegistrationLimits
registration_limits r = (to, from)
  where
    pool : (option_map_or is_pool_name r.pool true ≡ true) ↔ IfSome r.pool IsOfPool
    pool = optional is_pool_name IsOfPool names_of_pools r.pool

    to : is_good_registration r ≡ true → IsMadeOf printable 128 r.id × IfSome r.pool IsOfPool × IsJobWithin r.priority r.constraints r.groups
    to e =
        let last = all_four {a = is_name NameKind.Job r.id && is_between 1 100 r.priority && option_map_or is_pool_name r.pool true
        && nat_le (length r.constraints) 16 && list_all is_good_constraint r.constraints} {b = is_between 1 16 (length r.groups)}
        {c = list_all is_good_group r.groups} {d = is_distinct same_name (map (λ g. g.name) r.groups)} e in
        let middle = all_three {a = is_name NameKind.Job r.id && is_between 1 100 r.priority && option_map_or is_pool_name r.pool true}
        {b = nat_le (length r.constraints) 16} {c = list_all is_good_constraint r.constraints} last.0 in
        let front = all_three {a = is_name NameKind.Job r.id} {b = is_between 1 100 r.priority}
        {c = option_map_or is_pool_name r.pool true} middle.0 in (
          (job_name r.id).0 front.0,
          pool.0 front.2,
          job_within r.priority r.constraints r.groups front.1 middle.1 middle.2 last.1 last.2 last.3,
        )

    from : IsMadeOf printable 128 r.id × IfSome r.pool IsOfPool × IsJobWithin r.priority r.constraints r.groups → is_good_registration r ≡ true
    from (id, of_pool, job) =
        four_all (three_all (three_all ((job_name r.id).1 id) ((between 1 100 r.priority).1 (job.low, job.high)) (pool.1 of_pool))
        (le-leb (length r.constraints) 16 job.few_constraints) ((are_constraints r.priority r.constraints r.groups).1 job.good_constraints))
        ((between 1 16 (length r.groups)).1 (job.some_groups, job.few_groups)) ((are_groups r.priority r.constraints r.groups).1 job.good_groups)
        ((are_apart r.priority r.constraints r.groups).1 job.apart)

pub document_limits : law.DocumentLimits
document_limits d = (to, from)
  where
    to : is_good_document d ≡ true → IsOfPool d.pool × IsJobWithin d.priority d.constraints d.groups
    to e =
        let last = all_four {a = is_between 1 100 d.priority && is_pool_name d.pool && nat_le (length d.constraints) 16
        && list_all is_good_constraint d.constraints} {b = is_between 1 16 (length d.groups)}
        {c = list_all is_good_group d.groups} {d = is_distinct same_name (map (λ g. g.name) d.groups)} e in
        let front = all_four {a = is_between 1 100 d.priority} {b = is_pool_name d.pool} {c = nat_le (length d.constraints) 16}
        {d = list_all is_good_constraint d.constraints} last.0 in (
          (names_of_pools d.pool).0 front.1,
          job_within d.priority d.constraints d.groups front.0 front.2 front.3 last.1 last.2 last.3,
        )

    from : IsOfPool d.pool × IsJobWithin d.priority d.constraints d.groups → is_good_document d ≡ true
    from (pool, job) =
        four_all (four_all ((between 1 100 d.priority).1 (job.low, job.high)) ((names_of_pools d.pool).1 pool)
        (le-leb (length d.constraints) 16 job.few_constraints) ((are_constraints d.priority d.constraints d.groups).1 job.good_constraints))
        ((between 1 16 (length d.groups)).1 (job.some_groups, job.few_groups)) ((are_groups d.priority d.constraints d.groups).1 job.good_groups)
        ((are_apart d.priority d.constraints d.groups).1 job.apart)

-- ---- nodes

attribute : (a : Attribute) → ((is_text a.key && is_text a.value) ≡ true) ↔ ((length a.key ≤ 256) × (length a.value ≤ 256))
attribute a = (
  (λ e. let parts = and_parts (is_text a.key) (is_text a.value) e in ((text 256 a.key).0 parts.0, (text 256 a.value).0 parts.1)),
  (λ w. and_from (is_text a.key) (is_text a.value) ((text 256 a.key).1 w.0) ((text 256 a.value).1 w.1)),
)

offer : (o : Offer) → (is_good_offer o ≡ true) ↔ IsOfferWithin o
offer o = (to, from)
  where
    attributes : (list_all (λ a. is_text a.key && is_text a.value) o.attributes ≡ true)
        ↔ Each (λ (a : Attribute). (length a.key ≤ 256) × (length a.value ≤ 256)) o.attributes
    attributes = each (λ (a : Attribute). is_text a.key && is_text a.value) (λ a. (length a.key ≤ 256) × (length a.value ≤ 256)) attribute
        o.attributes

    to : is_good_offer o ≡ true → IsOfferWithin o
    to e =
        let parts = all_four {a = is_text o.class} {b = nat_le (length o.attributes) 64}
        {c = list_all (λ a. is_text a.key && is_text a.value) o.attributes} {d = is_amount o.capacity} e in
        let sizes = all_three {a = is_quantity o.capacity.cpu} {b = is_quantity o.capacity.memory} {c = is_quantity o.capacity.disk} parts.3 in
        record {
          class = (text 256 o.class).0 parts.0;
          few_attributes = leb-true (length o.attributes) 64 parts.1;
          attributes = attributes.0 parts.2;
          cpu = (amount o.capacity.cpu).0 sizes.0;
          memory = (amount o.capacity.memory).0 sizes.1;
          disk = (amount o.capacity.disk).0 sizes.2;
        }

    from : IsOfferWithin o → is_good_offer o ≡ true
    from w = four_all ((text 256 o.class).1 w.class) (le-leb (length o.attributes) 64 w.few_attributes) (attributes.1 w.attributes)
        (three_all ((amount o.capacity.cpu).1 w.cpu) ((amount o.capacity.memory).1 w.memory) ((amount o.capacity.disk).1 w.disk))

-- ---- the order of attributes

abbrev Below : Name × Name → Name × Name → Type 0
Below x y = is_lt (name_cmp x.0 y.0) ≡ true

abbrev pair : Attribute → Name × Name
pair a = (a.key, a.value)

so : (b : Bool) → T b → b ≡ true
so true h = refl
so false h = absurd h

above : (key : Name) (es : List (Name × Name)) → T (below_all name_cmp key es) → Each (λ e. is_lt (name_cmp key e.0) ≡ true) es
above key [] h = tt
above key (e ∷ es) h = (
  so (is_lt (name_cmp key e.0)) (first (is_lt (name_cmp key e.0)) (below_all name_cmp key es) h),
  above key es (second (is_lt (name_cmp key e.0)) (below_all name_cmp key es) h),
)

below : (key : Name) (es : List (Name × Name)) → Each (λ e. is_lt (name_cmp key e.0) ≡ true) es → T (below_all name_cmp key es)
below key [] h = tt
below key (e ∷ es) h = both (is_lt (name_cmp key e.0)) (below_all name_cmp key es) (subst T (sym h.0) tt) (below key es h.1)

rising : (es : List (Name × Name)) → T (is_sorted name_cmp es) → Pairs Below es
rising [] h = tt
rising (e ∷ es) h = (
  above e.0 es (first (below_all name_cmp e.0 es) (is_sorted name_cmp es) h),
  rising es (second (below_all name_cmp e.0 es) (is_sorted name_cmp es) h),
)

sorted : (es : List (Name × Name)) → Pairs Below es → T (is_sorted name_cmp es)
sorted [] h = tt
sorted (e ∷ es) h = both (below_all name_cmp e.0 es) (is_sorted name_cmp es) (below e.0 es h.0) (sorted es h.1)

abbrev pairs : Offer → List (Name × Name)
pairs o = map pair o.attributes

in_order : (o : Offer) → IsInOrder o ↔ AreInOrder o.attributes
in_order o = (to, from)
  where
    to : IsInOrder o → AreInOrder o.attributes
    to e = all_pairs (λ (a b : Attribute). is_lt (name_cmp a.key b.key) ≡ true) o.attributes (pairs_of_mapped pair Below o.attributes
        (rising (pairs o) (subst (λ es. T (is_sorted name_cmp es)) e (entries_sorted (from_entries {R = name_cmp} (pairs o))))))

    from : AreInOrder o.attributes → IsInOrder o
    from h =
        let rises : T (is_sorted name_cmp (pairs o)) = sorted (pairs o) (pairs_mapped pair Below o.attributes
        (pairs_from (λ (a b : Attribute). is_lt (name_cmp a.key b.key) ≡ true) o.attributes h)) in
        ap entries (same_map names one_name (from_entries {R = name_cmp} (pairs o)) (from_sorted {R = name_cmp} (pairs o))
        (λ q. get-from_entries names (pairs o) q ∙ sym (get-from_sorted name_cmp (pairs o) q rises))) ∙ entries-from_sorted name_cmp (pairs o) rises

pub node_limits : law.NodeLimits
node_limits name o = (
  (λ h. let parts = and_parts (is_name NameKind.Node name) (is_good_offer o) h.0 in
      ((node_name name).0 parts.0, (offer o).0 parts.1, (in_order o).0 h.1)),
  (λ w. (and_from (is_name NameKind.Node name) (is_good_offer o) ((node_name name).1 w.0) ((offer o).1 w.1), (in_order o).1 w.2)),
)

-- ---- what administrators put

pool_list : (pools : List Name) → (is_pool_list pools ≡ true) ↔ IsPoolListWithin pools
pool_list pools = (
  (λ e. let parts = all_three {a = nat_le (length pools) 1000} {b = list_all is_pool_name pools} {c = is_distinct same_name pools} e in
      record {
        few = leb-true (length pools) 1000 parts.0;
        named = (each is_pool_name IsOfPool names_of_pools pools).0 parts.1;
        apart = (names_apart pools).0 parts.2;
      }),
  (λ w. three_all (le-leb (length pools) 1000 w.few) ((each is_pool_name IsOfPool names_of_pools pools).1 w.named) ((names_apart pools).1 w.apart)),
)

is_absent : {A : Type 0} (o : Option A) → is_none o ≡ true → o ≡ None
is_absent None e = refl
is_absent (Some x) e = not_both e refl

is_nil : (xs : List Name) → is_empty xs ≡ true → xs ≡ []
is_nil [] e = refl
is_nil (x ∷ xs) e = not_both e refl

one_list : (n : Namespace) → ((is_none n.allowed || is_empty n.denied) ≡ true) ↔ ((n.allowed ≡ None) ⊎ (n.denied ≡ []))
one_list n = (to, from)
  where
    to : (is_none n.allowed || is_empty n.denied) ≡ true → (n.allowed ≡ None) ⊎ (n.denied ≡ [])
    to e = elim (or_cases (is_none n.allowed) (is_empty n.denied) e) [
      | inl none ↦ inl (is_absent n.allowed none)
      | inr empty ↦ inr (is_nil n.denied empty)
    ]

    from : (n.allowed ≡ None) ⊎ (n.denied ≡ []) → (is_none n.allowed || is_empty n.denied) ≡ true
    from (inl none) = or_left (is_none n.allowed) (is_empty n.denied) (ap is_none none)
    from (inr empty) = or_right (is_none n.allowed) (is_empty n.denied) (ap is_empty empty)

not_among : (name : Name) (xs : List Name) → (not (has_name xs name) ≡ true) ↔ Each (λ other. other ≢ name) xs
not_among name [] = ((λ _. tt), (λ _. refl))
not_among name (other ∷ xs) = (to (not_among name xs), from (not_among name xs))
  where
    to : ((not (has_name xs name) ≡ true) ↔ Each (λ other. other ≢ name) xs) → not (same_name name other || has_name xs name) ≡ true
        → (other ≢ name) × Each (λ other. other ≢ name) xs
    to later e =
        let parts = or_parts (same_name name other) (has_name xs name) (not-true (same_name name other || has_name xs name) e) in
        ((λ same. differs name other parts.0 (sym same)), later.0 (not_from_false (has_name xs name) parts.1))

    from : ((not (has_name xs name) ≡ true) ↔ Each (λ other. other ≢ name) xs) → (other ≢ name) × Each (λ other. other ≢ name) xs
        → not (same_name name other || has_name xs name) ≡ true
    from later h = not_from_false (same_name name other || has_name xs name)
        (or_from (same_name name other) (has_name xs name) (differ name other (λ same. h.0 (sym same)))
        (not-true (has_name xs name) (later.1 h.1)))

namespace : (n : Namespace) → (is_good_namespace n ≡ true) ↔ IsNamespaceWithin n
namespace n = (to, from)
  where
    quota : (option_map_or (is_name NameKind.Quota) n.quota true ≡ true) ↔ IfSome n.quota (IsMadeOf plain_or_underscore 128)
    quota = optional (is_name NameKind.Quota) (IsMadeOf plain_or_underscore 128) quota_name n.quota

    allowed : (option_map_or is_pool_list n.allowed true ≡ true) ↔ IfSome n.allowed IsPoolListWithin
    allowed = optional is_pool_list IsPoolListWithin pool_list n.allowed

    to : is_good_namespace n ≡ true → IsNamespaceWithin n
    to e =
        let last = all_four {a = is_text n.description && option_map_or (is_name NameKind.Quota) n.quota true && is_pool_name n.default_pool
        && option_map_or is_pool_list n.allowed true} {b = is_pool_list n.denied} {c = is_none n.allowed || is_empty n.denied}
        {d = not (has_name n.denied n.default_pool)} e in
        let front = all_four {a = is_text n.description} {b = option_map_or (is_name NameKind.Quota) n.quota true} {c = is_pool_name n.default_pool}
        {d = option_map_or is_pool_list n.allowed true} last.0 in
        record {
          description = (text 256 n.description).0 front.0;
          quota = quota.0 front.1;
          default = (names_of_pools n.default_pool).0 front.2;
          allowed = allowed.0 front.3;
          denied = (pool_list n.denied).0 last.1;
          one_list = (one_list n).0 last.2;
          permitted = (not_among n.default_pool n.denied).0 last.3;
        }

    from : IsNamespaceWithin n → is_good_namespace n ≡ true
    from w = four_all (four_all ((text 256 n.description).1 w.description) (quota.1 w.quota) ((names_of_pools n.default_pool).1 w.default)
        (allowed.1 w.allowed)) ((pool_list n.denied).1 w.denied) ((one_list n).1 w.one_list) ((not_among n.default_pool n.denied).1 w.permitted)

pub namespace_limits : law.NamespaceLimits
namespace_limits name n = (
  (λ e. let parts = and_parts (is_name NameKind.Namespace name) (is_good_namespace n) e in
      ((namespace_name name).0 parts.0, (namespace n).0 parts.1)),
  (λ w. and_from (is_name NameKind.Namespace name) (is_good_namespace n) ((namespace_name name).1 w.0) ((namespace n).1 w.1)),
)

limit : (l : Limit) → (is_limit l ≡ true) ↔ IsLimitWithin l
limit Limit.Unlimited = ((λ _. tt), (λ _. refl))
limit (Limit.AtMost most) = between 1 9007199254740992 most
limit Limit.Nothing = ((λ _. tt), (λ _. refl))

limits : (l : Limits) → (are_limits l ≡ true) ↔ AreLimitsWithin l
limits l = (
  (λ e. let parts = all_three {a = is_limit l.cpu} {b = is_limit l.memory} {c = is_limit l.disk} e in
      ((limit l.cpu).0 parts.0, (limit l.memory).0 parts.1, (limit l.disk).0 parts.2)),
  (λ w. three_all ((limit l.cpu).1 w.0) ((limit l.memory).1 w.1) ((limit l.disk).1 w.2)),
)

kept_limits : (o : Option Limits) → (are_limits (limits_in o) ≡ true) ↔ IfSome o AreLimitsWithin
kept_limits None = ((λ _. tt), (λ _. refl))
kept_limits (Some l) = limits l

pub quota_limits : law.QuotaLimits
quota_limits name q = (
  (λ e. let parts = and_parts (is_name NameKind.Quota name) (is_text q.description && are_limits (limits_in q.limits)) e in
      let rest = and_parts (is_text q.description) (are_limits (limits_in q.limits)) parts.1 in
      ((quota_name name).0 parts.0, (text 256 q.description).0 rest.0, (kept_limits q.limits).0 rest.1)),
  (λ w. and_from (is_name NameKind.Quota name) (is_text q.description && are_limits (limits_in q.limits)) ((quota_name name).1 w.0)
      (and_from (is_text q.description) (are_limits (limits_in q.limits)) ((text 256 q.description).1 w.1) ((kept_limits q.limits).1 w.2))),
)

pub pool_limits : law.PoolLimits
pool_limits name p = (
  (λ e. let parts = and_parts (is_pool_name name) (is_text p.description) e in
      ((names_of_pools name).0 parts.0, (text 256 p.description).0 parts.1)),
  (λ w. and_from (is_pool_name name) (is_text p.description) ((names_of_pools name).1 w.0) ((text 256 p.description).1 w.1)),
)

pub policy_limits : law.PolicyLimits
policy_limits name p = (
  (λ e. let parts = and_parts (is_name NameKind.Policy name) (is_text p.description && nat_le (length p.text) 65536) e in
      let rest = and_parts (is_text p.description) (nat_le (length p.text) 65536) parts.1 in
      ((policy_name name).0 parts.0, (text 256 p.description).0 rest.0, (text 65536 p.text).0 rest.1)),
  (λ w. and_from (is_name NameKind.Policy name) (is_text p.description && nat_le (length p.text) 65536) ((policy_name name).1 w.0)
      (and_from (is_text p.description) (nat_le (length p.text) 65536) ((text 256 p.description).1 w.1) ((text 65536 p.text).1 w.2))),
)

abbrev good_new : NewToken → Bool
good_new new = is_text new.name && nat_le (length new.policies) 64 && list_all (is_name NameKind.Policy) new.policies
    && is_distinct same_name new.policies

pub token_limits : law.TokenLimits
token_limits new = (to, from)
  where
    policies : (list_all (is_name NameKind.Policy) new.policies ≡ true) ↔ Each (IsMadeOf plain 128) new.policies
    policies = each (is_name NameKind.Policy) (IsMadeOf plain 128) policy_name new.policies

    to : (is_name NameKind.Secret new.secret && good_new new) ≡ true → IsTokenWithin new
    to e =
        let parts = and_parts (is_name NameKind.Secret new.secret) (good_new new) e in
        let rest = all_four {a = is_text new.name} {b = nat_le (length new.policies) 64} {c = list_all (is_name NameKind.Policy) new.policies}
        {d = is_distinct same_name new.policies} parts.1 in
        record {
          secret = (texts_of_secrets new.secret).0 parts.0;
          name = (text 256 new.name).0 rest.0;
          few = leb-true (length new.policies) 64 rest.1;
          named = policies.0 rest.2;
          apart = (names_apart new.policies).0 rest.3;
        }

    from : IsTokenWithin new → (is_name NameKind.Secret new.secret && good_new new) ≡ true
    from w = and_from (is_name NameKind.Secret new.secret) (good_new new) ((texts_of_secrets new.secret).1 w.secret)
        (four_all ((text 256 new.name).1 w.name) (le-leb (length new.policies) 64 w.few) (policies.1 w.named) ((names_apart new.policies).1 w.apart))

-- ---- all other steps

pub others_have_no_limits : law.OthersHaveNoLimits
others_have_no_limits (Step.Ask ns secret command) writes = by command writes
  where
    by : (command : AskCommand) → (law.Writes (Step.Ask ns secret command) → ⊥) → IsTrue (is_good_ask command)
    by (AskCommand.Register r) writes = absurd (writes tt)
    by _ writes = refl
others_have_no_limits (Step.Admin secret command) writes = by command writes
  where
    by : (command : AdminCommand) → (law.Writes (Step.Admin secret command) → ⊥) → IsTrue (is_good_admin command)
    by (AdminCommand.PutNamespace name n) writes = absurd (writes tt)
    by (AdminCommand.PutQuota name q) writes = absurd (writes tt)
    by (AdminCommand.PutPool name p) writes = absurd (writes tt)
    by (AdminCommand.PutPolicy name p) writes = absurd (writes tt)
    by (AdminCommand.CreateToken new) writes = absurd (writes tt)
    by _ writes = refl
others_have_no_limits (Step.Node pool secret command) writes = by command writes
  where
    by : (command : NodeCommand) → (law.Writes (Step.Node pool secret command) → ⊥) → IsGoodNodeCommand command
    by (NodeCommand.PutNode name o) writes = absurd (writes tt)
    by _ writes = tt
others_have_no_limits _ writes = tt
