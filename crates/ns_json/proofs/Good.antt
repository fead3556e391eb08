-- What is read of a registration is within the limits.
use Rattle.std.proofs.Common.{◌≡◌, ℕ, ◌+◌, ◌-◌, List, [], ◌∷◌, ◌++◌, length, take, drop, map, Bool, true, false, eqb, nat_le, Option, Some}
use Rattle.std.proofs.Common.{None, Ok, Err, IfOk, codes, if◌then◌else◌, refl, ◌∙◌, arith, length-append, length-drop, option_and_then}
use Rattle.std.proofs.lemmas.List.{length-take}
use Rattle.std.specs.Bool.{IsTrue}
use Rattle.std.specs.List.{list_all, starts_with, ends_with}
use Rattle.std.specs.Option.{option_map_or}
use Rattle.std.specs.Str.{bytes_eq}
use Rattle.std.specs.Cmp.Lexicographic.{pointwise}
use Rattle.std.proofs.lemmas.List.Folds.{list_all-append}
use Rattle.serde_json.specs.Data.{Data}
use Rattle.ns_types.specs.declared.job.Constraint.{Constraint}
use Rattle.ns_types.specs.declared.job.Group.{Group}
use Rattle.ns_types.specs.declared.job.JobKind.TheVariants as JobKind
use Rattle.ns_types.specs.declared.job.Registration.{Registration}
use Rattle.ns_types.specs.declared.job.Target.{Target}
use Rattle.ns_types.specs.declared.job.Task.{Task}
use Rattle.ns_types.specs.declared.job.TaskResources.{TaskResources}
use Rattle.ns_types.specs.declared.name.NameKind.TheVariants as NameKind
use Rattle.ns_types.specs.declared.refusal.Member.{Member}
use Rattle.ns_types.specs.declared.refusal.Refusal.TheVariants.{BadField}
use Rattle.ns_types.specs.State.Limits.{are_quantities, is_quantity, is_between, is_text, is_target, is_pool_name}
use Rattle.ns_types.specs.State.Limits.{is_good_constraint, is_good_task, is_good_group}
use Rattle.ns_types.specs.State.Limits.{is_good_registration}
use Rattle.ns_types.specs.State.Name.{is_name}
use Rattle.ns_types.specs.State.Names.{Name}
use Rattle.ns_types.specs.Wire.Words.{target_text}
use Rattle.ns_types.proofs.Named.{second_of_both}
use Rattle.ns_json.specs.declared.registration.RegistrationDocument.{RegistrationDocument}
use Rattle.ns_json.specs.declared.registration.JobTerms.{JobTerms}
use Rattle.ns_json.specs.Reading.{Read, Gives, same, top, present, demanded, or_else, or_refuse, an_object, a_number, a_text, a_name}
use Rattle.ns_json.specs.Reading.{has_name, unless}
use Rattle.ns_json.specs.Registration.{disk_in, resources_in, default_resources, no_constraints, task_in, tasks_in, group_in, groups_in, without_prefix}
use Rattle.ns_json.specs.Registration.{without_suffix, attribute_key, target_of, operand_of, constraint_in, constraint_after, constraints_in, kind_in}
use Rattle.ns_json.specs.Registration.{name_if_any, not_all, pool_in, absent, job_groups_in, work_in, terms_in, names_in, job_in, enforced_in}
use Rattle.ns_json.specs.Registration.{registration_in, max_quantity, compared_in}
use Rattle.ns_json.proofs.Distinct.{Distinct, distinct_is, names_more}
use Rattle.ns_json.proofs.Posts.{Post, post_then, post_any, post_map, post_unless, post_else, read_so, text_good, name_good, name_if_any_good, number_good}
use Rattle.ns_json.proofs.Posts.{list_of_good}

-- ---- tasks and groups

resources_good : (d : Data) → Post (resources_in d) (λ r. IsTrue (are_quantities r))
unfolding resources_in
resources_good d =
    post_any (an_object Member.Resources d) _ _ (λ r.
    post_then (or_else 100 (a_number Member.Cpu 1 max_quantity) (present Member.Cpu r)) _ _
    (post_else 100 (a_number Member.Cpu 1 max_quantity) (λ n. IsTrue (is_between 1 2147483647 n)) (present Member.Cpu r) refl
    (number_good Member.Cpu 1 max_quantity)) (λ cpu h.
    post_then (or_else 300 (a_number Member.MemoryMb 1 max_quantity) (present Member.MemoryMb r)) _ _
    (post_else 300 (a_number Member.MemoryMb 1 max_quantity) (λ n. IsTrue (is_between 1 2147483647 n)) (present Member.MemoryMb r) refl
    (number_good Member.MemoryMb 1 max_quantity)) (λ memory k. amount_from cpu memory h k)))
  where
    amount_from : (cpu memory : ℕ) → IsTrue (is_between 1 2147483647 cpu) → IsTrue (is_between 1 2147483647 memory) →
        IsTrue (are_quantities (record { cpu = cpu; memory = memory }))
    amount_from cpu memory h k = rw (h, k) refl

disk_good : (d : Data) → Post (disk_in d) (λ n. IsTrue (is_quantity n))
unfolding disk_in
disk_good d = post_any (an_object Member.EphemeralDisk d) _ _ (λ e.
    post_else 300 (a_number Member.SizeMb 1 max_quantity) (λ n. IsTrue (is_quantity n)) (present Member.SizeMb e) refl
    (number_good Member.SizeMb 1 max_quantity))

abbrev AreTasks : List Task → Type 0
AreTasks xs = IsTrue (list_all is_good_task xs) × Distinct (map (λ t. t.name) xs)

task_from : (before : List Task) (name : Name) (resources : TaskResources) → AreTasks before → IsTrue (is_name NameKind.Task name) →
    has_name (λ x. x.name) before name ≡ false → IsTrue (are_quantities resources) → AreTasks (before ++ record { name = name; resources = resources } ∷ [])
task_from before name resources h k new l =
    let task : Task = record { name = name; resources = resources } in
    (list_all-append is_good_task before (task ∷ []) ∙ rw (h.0, k, l) refl, names_more (λ x. x.name) before task h.1 new)

task_good : (before : List Task) (d : Data) → AreTasks before → Post (task_in before d) (λ t. AreTasks (before ++ t ∷ []))
unfolding task_in
task_good before d h =
    post_any (an_object Member.Tasks d) _ _ (λ t. post_any (demanded Member.Name t) _ _ (λ v.
    post_then (a_name Member.Name NameKind.Task v) _ _ (name_good Member.Name NameKind.Task v) (λ name k.
    post_then (unless (has_name (λ x. x.name) before name) Member.Name name) _ _
    (post_unless (has_name (λ x. x.name) before name) Member.Name name
    (λ s. IsTrue (is_name NameKind.Task s) × (has_name (λ x. x.name) before s ≡ false)) (λ new. (k, new))) (λ checked n.
    post_any (no_constraints t) _ _ (λ none.
    post_then (or_else default_resources resources_in (present Member.Resources t)) _ _
    (post_else default_resources resources_in (λ r. IsTrue (are_quantities r)) (present Member.Resources t) refl resources_good) (λ resources l.
    task_from before checked resources h n.0 n.1 l))))))

tasks_good : (d : Data) → Post (tasks_in d) (λ xs. AreTasks xs × IsTrue (is_between 1 16 (length xs)))
unfolding tasks_in
tasks_good d = list_of_good Member.Tasks 1 16 task_in AreTasks d task_good (refl, tt)

abbrev AreGroups : List Group → Type 0
AreGroups xs = IsTrue (list_all is_good_group xs) × Distinct (map (λ g. g.name) xs)

group_from : (before : List Group) (name : Name) (count disk : ℕ) (tasks : List Task) → AreGroups before → IsTrue (is_name NameKind.Group name) →
    has_name (λ x. x.name) before name ≡ false → IsTrue (is_between 0 1000 count) → IsTrue (is_quantity disk) →
    AreTasks tasks × IsTrue (is_between 1 16 (length tasks)) →
    AreGroups (before ++ record { name = name; count = count; disk = disk; tasks = tasks } ∷ [])
group_from before name count disk tasks h k new l q m =
    let group : Group = record { name = name; count = count; disk = disk; tasks = tasks } in
    let few : nat_le count 1000 ≡ true = second_of_both (nat_le 0 count) (nat_le count 1000) l in (
      list_all-append is_good_group before (group ∷ []) ∙ rw (h.0, k, few, q, m.1, m.0.0, distinct_is (map (λ t. t.name) tasks) m.0.1) refl,
      names_more (λ x. x.name) before group h.1 new,
    )

group_good : (before : List Group) (d : Data) → AreGroups before → Post (group_in before d) (λ g. AreGroups (before ++ g ∷ []))
unfolding group_in
group_good before d h =
    post_any (an_object Member.TaskGroups d) _ _ (λ g. post_any (demanded Member.Name g) _ _ (λ v.
    post_then (a_name Member.Name NameKind.Group v) _ _ (name_good Member.Name NameKind.Group v) (λ name k.
    post_then (unless (has_name (λ x. x.name) before name) Member.Name name) _ _
    (post_unless (has_name (λ x. x.name) before name) Member.Name name
    (λ s. IsTrue (is_name NameKind.Group s) × (has_name (λ x. x.name) before s ≡ false)) (λ new. (k, new))) (λ checked n.
    post_then (or_else 1 (a_number Member.Count 0 1000) (present Member.Count g)) _ _
    (post_else 1 (a_number Member.Count 0 1000) (λ c. IsTrue (is_between 0 1000 c)) (present Member.Count g) refl (number_good Member.Count 0 1000))
    (λ count l.
    post_any (no_constraints g) _ _ (λ none.
    post_then (or_else 300 disk_in (present Member.EphemeralDisk g)) _ _
    (post_else 300 disk_in (λ n. IsTrue (is_quantity n)) (present Member.EphemeralDisk g) refl disk_good) (λ disk q.
    post_any (demanded Member.Tasks g) _ _ (λ listed.
    post_then (tasks_in listed) _ _ (tasks_good listed) (λ tasks m. group_from before checked count disk tasks h n.0 n.1 l q m)))))))))

groups_good : (d : Data) → Post (groups_in d) (λ xs. AreGroups xs × IsTrue (is_between 1 16 (length xs)))
unfolding groups_in
groups_good d = list_of_good Member.TaskGroups 1 16 group_in AreGroups d group_good (refl, tt)

-- ---- constraints

same_length : (xs ys : List ℕ) → pointwise eqb xs ys ≡ true → length xs ≡ length ys
same_length [] [] h = refl
same_length [] (y ∷ ys) h = let bad : ⊥ = cc in absurd bad
same_length (x ∷ xs) [] h = let bad : ⊥ = cc in absurd bad
same_length (x ∷ xs) (y ∷ ys) h = omega (arith, same_length xs ys (second_of_both (eqb x y) (pointwise eqb xs ys) h))

-- what is left without the prefix is shorter by it
after_prefix : (p s k : List ℕ) → without_prefix p s ≡ Some k → length p + length k ≡ length s
after_prefix p s k is = by (starts_with eqb s p) refl is
  where
    by : (b : Bool) → starts_with eqb s p ≡ b → (if b then Some (drop (length p) s) else None) ≡ Some k → length p + length k ≡ length s
    by true e g =
        let same : length p ≡ length (take (length p) s) = same_length p (take (length p) s) e in
        let is : drop (length p) s ≡ k = cc in
        rw (← is) (grind (arith, length-take (length p) s, length-drop (length p) s, same))
    by false e g = let bad : ⊥ = cc in absurd bad

before_suffix : (p s k : List ℕ) → without_suffix p s ≡ Some k → length p + length k ≡ length s
before_suffix p s k is = by (ends_with eqb s p) refl is
  where
    by : (b : Bool) → ends_with eqb s p ≡ b → (if b then Some (take (length s - length p) s) else None) ≡ Some k → length p + length k ≡ length s
    by true e g =
        let same : length p ≡ length (drop (length s - length p) s) = same_length p (drop (length s - length p) s) e in
        let is : take (length s - length p) s ≡ k = cc in
        rw (← is) (grind (arith, length-take (length s - length p) s, length-drop (length s - length p) s, same))
    by false e g = let bad : ⊥ = cc in absurd bad

-- a target is as long as its text
key_fits : (s k : List ℕ) → attribute_key s ≡ Some k → length (target_text (Target.Attribute k)) ≡ length s
unfolding attribute_key
key_fits s k is = by (without_prefix (codes "${attr.") s) refl is
  where
    by : (o : Option (List ℕ)) → without_prefix (codes "${attr.") s ≡ o → option_and_then (without_suffix (codes "}")) o ≡ Some k →
        length (target_text (Target.Attribute k)) ≡ length s
    by None e g = let bad : ⊥ = cc in absurd bad
    by (Some rest) e g =
        let front : 7 + length rest ≡ length s = after_prefix (codes "${attr.") s rest e in
        let back : 1 + length k ≡ length rest = before_suffix (codes "}") rest k g in
        omega (arith, front, back, length-append k (codes "}"))

target_good : (m : Member) (s : List ℕ) → IsTrue (is_text s) → Post (or_refuse m (target_of s)) (λ t. IsTrue (is_target t))
unfolding target_of
target_good m s h = by (bytes_eq s (codes "${node.class}")) (bytes_eq s (codes "${node.unique.name}")) (attribute_key s) refl
  where
    by : (a b : Bool) (o : Option (List ℕ)) → attribute_key s ≡ o →
        Post (or_refuse m (if a then Some Target.NodeClass else if b then Some Target.NodeName else option_and_then (λ k. Some (Target.Attribute k)) o))
        (λ t. IsTrue (is_target t))
    by true b o e = refl
    by false true o e = refl
    by false false None e = tt
    by false false (Some k) e = rw (key_fits s k e) h

compared_good : (c : Data) → Post (compared_in c) (λ compared. IsTrue (is_text compared.1))
unfolding compared_in
compared_good c =
    post_any (demanded Member.RightTarget c) _ _ (λ right.
    post_then (a_text Member.RightTarget right) _ _ (text_good Member.RightTarget right) (λ value l.
    post_any (demanded Member.Operand c) _ _ (λ named. post_any (a_text Member.Operand named) _ _ (λ word.
    post_any (or_refuse Member.Operand (operand_of word)) _ _ (λ operand. l)))))

constraint_good : (d : Data) → Post (constraint_in d) (λ c. IsTrue (is_good_constraint c))
unfolding constraint_in
constraint_good d =
    post_any (an_object Member.Constraints d) _ _ (λ c. post_any (demanded Member.LeftTarget c) _ _ (λ left.
    post_then (a_text Member.LeftTarget left) _ _ (text_good Member.LeftTarget left) (λ text h.
    post_then (or_refuse Member.LeftTarget (target_of text)) _ _ (target_good Member.LeftTarget text h) (λ target k.
    post_then (compared_in c) _ _ (compared_good c) (λ compared l. rw (k, l) refl)))))

abbrev AreConstraints : List Constraint → Type 0
AreConstraints xs = IsTrue (list_all is_good_constraint xs)

constraints_good : (d : Data) → Post (constraints_in d) (λ xs. AreConstraints xs × IsTrue (is_between 0 16 (length xs)))
unfolding constraints_in
constraints_good d =
    list_of_good Member.Constraints 0 16 constraint_after AreConstraints d
    (λ before v h. post_map (constraint_in v) (λ c. IsTrue (is_good_constraint c)) _
    (λ c k. list_all-append is_good_constraint before (c ∷ []) ∙ rw (h, k) refl) (constraint_good v)) refl

-- ---- the job

not_all_good : (o : Option Name) → IsTrue (option_map_or (is_name NameKind.Pool) o true) → Post (not_all o) (λ p. IsTrue (option_map_or is_pool_name p true))
not_all_good None h = refl
not_all_good (Some s) h = by (bytes_eq s (codes "all")) refl
  where
    by : (b : Bool) → bytes_eq s (codes "all") ≡ b
        → Post (if b then Err (BadField Member.NodePool) else Ok (Some s)) (λ p. IsTrue (option_map_or is_pool_name p true))
    by true e = tt
    by false e = rw (h, e) refl

pool_good : (d : Data) → Post (pool_in d) (λ p. IsTrue (option_map_or is_pool_name p true))
unfolding pool_in
pool_good d = post_then (name_if_any Member.NodePool NameKind.Pool d) _ _ (name_if_any_good Member.NodePool NameKind.Pool d) not_all_good

abbrev IsGood : RegistrationDocument → Type 0
IsGood d = IsTrue (is_good_registration d.registration)

registration_from : (r : Registration) → IsTrue (is_name NameKind.Job r.id) → IsTrue (is_between 1 100 r.priority) →
    IsTrue (option_map_or is_pool_name r.pool true) → AreConstraints r.constraints × IsTrue (is_between 0 16 (length r.constraints)) →
    AreGroups r.groups × IsTrue (is_between 1 16 (length r.groups)) → IsTrue (is_good_registration r)
registration_from r h k l m n =
    let few : nat_le (length r.constraints) 16 ≡ true = second_of_both (nat_le 0 (length r.constraints)) (nat_le (length r.constraints) 16) m.1 in
    rw (h, k, l, few, m.0, n.1, n.0.0, distinct_is (map (λ g. g.name) r.groups) n.0.1) refl

abbrev HasGoodWork : List Constraint × List Group → Type 0
HasGoodWork work = (AreConstraints work.0 × IsTrue (is_between 0 16 (length work.0))) × (AreGroups work.1 × IsTrue (is_between 1 16 (length work.1)))

job_groups_good : (j : Data) → Post (job_groups_in j) (λ groups. AreGroups groups × IsTrue (is_between 1 16 (length groups)))
unfolding job_groups_in
job_groups_good j =
    post_any (absent Member.Periodic (present Member.Periodic j)) _ _ (λ periodic.
    post_any (absent Member.ParameterizedJob (present Member.ParameterizedJob j)) _ _ (λ parameterized.
    post_any (demanded Member.TaskGroups j) _ _ (λ listed. groups_good listed)))

work_good : (j : Data) → Post (work_in j) HasGoodWork
unfolding work_in
work_good j =
    post_then (or_else [] constraints_in (present Member.Constraints j)) _ _
    (post_else [] constraints_in (λ xs. AreConstraints xs × IsTrue (is_between 0 16 (length xs))) (present Member.Constraints j) (refl, refl) constraints_good)
    (λ constraints m. post_then (job_groups_in j) _ _ (job_groups_good j) (λ groups n. (m, n)))

abbrev HasGoodTerms : JobTerms → Type 0
HasGoodTerms t = (name : Name) → IsTrue (is_name NameKind.Job name) →
    IsTrue (is_good_registration (record {
      id = name;
      kind = t.kind;
      priority = t.priority;
      pool = t.pool;
      constraints = t.constraints;
      groups = t.groups;
      enforced = None;
    }))

terms_good : (j : Data) → Post (terms_in j) HasGoodTerms
unfolding terms_in
terms_good j =
    post_any (or_else JobKind.Service kind_in (present Member.Type j)) _ _ (λ kind.
    post_then (or_else 50 (a_number Member.Priority 1 100) (present Member.Priority j)) _ _
    (post_else 50 (a_number Member.Priority 1 100) (λ n. IsTrue (is_between 1 100 n)) (present Member.Priority j) refl (number_good Member.Priority 1 100))
    (λ priority k.
    post_then (or_else None pool_in (present Member.NodePool j)) _ _
    (post_else None pool_in (λ p. IsTrue (option_map_or is_pool_name p true)) (present Member.NodePool j) refl pool_good) (λ pool l.
    post_then (work_in j) _ _ (work_good j) (λ work m.
    λ name h. registration_from
    (record { id = name; kind = kind; priority = priority; pool = pool; constraints = work.0; groups = work.1; enforced = None }) h k l m.0 m.1))))

names_good : (j : Data) → Post (names_in j) (λ names. IsTrue (is_name NameKind.Job names.0))
unfolding names_in
names_good j =
    post_any (demanded Member.Id j) _ _ (λ v. post_then (a_name Member.Id NameKind.Job v) _ _ (name_good Member.Id NameKind.Job v) (λ id h.
    post_any (or_else None (name_if_any Member.Namespace NameKind.Namespace) (present Member.Namespace j)) _ _ (λ namespace. h)))

job_good : (d : Data) → Post (job_in d) IsGood
unfolding job_in
job_good d =
    post_any (an_object Member.Job d) _ _ (λ j. post_then (names_in j) _ _ (names_good j) (λ names h.
    post_then (terms_in j) _ _ (terms_good j) (λ terms k. k names.0 h)))

registration_post : (d : Data) → Post (registration_in d) IsGood
unfolding registration_in
registration_post d =
    post_any (top d) _ _ (λ t. post_any (demanded Member.Job t) _ _ (λ v. post_then (job_in v) _ _ (job_good v) (λ job h.
    post_any (enforced_in t) _ _ (λ index. h))))

-- ---- what is read

pub registration_good : (r : Read RegistrationDocument) (d : Data) → Gives same r (registration_in d) → IfOk r IsGood
registration_good r d h = read_so r (registration_in d) IsGood h (registration_post d)
