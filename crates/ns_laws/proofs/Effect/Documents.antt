-- Documents and statuses that are shown alike are the same.
use Rattle.std.specs.Prelude.{◌≡◌, ◌++◌, Bool, true, ◌&&◌, List, [], ◌∷◌, codes}
use Rattle.std.proofs.Common.{refl, ap}
use Rattle.std.proofs.lemmas.List.{append_cancel_left, append_cancel_right}
use Rattle.std.specs.Cmp.Lexicographic.{pointwise}
use Rattle.ns_types.specs.declared.allocation.ClientStatus.{ClientStatus}
use Rattle.ns_types.specs.declared.job.Constraint.{Constraint}
use Rattle.ns_types.specs.declared.job.Document.{Document}
use Rattle.ns_types.specs.declared.job.Group.{Group}
use Rattle.ns_types.specs.declared.job.JobKind.{JobKind}
use Rattle.ns_types.specs.declared.job.Operand.{Operand}
use Rattle.ns_types.specs.declared.job.Target.{Target}
use Rattle.ns_types.specs.declared.job.Task.{Task}
use Rattle.ns_types.specs.Asking.Nodes.{same_client}
use Rattle.ns_types.specs.State.Names.{same_name, same_number}
use Rattle.ns_types.specs.Settling.Same.{same_constraint, same_task, same_group, same_document}
use Rattle.ns_types.specs.Wire.Words.{kind_text, operand_text, target_text}
use Rattle.ns_types.proofs.Lists.{not_both}
use Rattle.ns_types.proofs.Named.{one_number, same_name_is, first_of_both, second_of_both}
use Rattle.ns_types.proofs.Tables.{tied}

one_by_one : {X : Type 0} (same : X → X → Bool) → ((x y : X) → same x y ≡ true → x ≡ y) → (xs ys : List X) → pointwise same xs ys ≡ true → xs ≡ ys
one_by_one same is [] [] e = refl
one_by_one same is [] (y ∷ ys) e = not_both e refl
one_by_one same is (x ∷ xs) [] e = not_both e refl
one_by_one same is (x ∷ xs) (y ∷ ys) e =
    let p = is x y (first_of_both (same x y) (pointwise same xs ys) e) in
    let q = one_by_one same is xs ys (second_of_both (same x y) (pointwise same xs ys) e) in
    λ i. p i ∷ q i

target_is : (a b : Target) → same_name (target_text a) (target_text b) ≡ true → a ≡ b
target_is Target.NodeClass Target.NodeClass e = refl
target_is Target.NodeClass Target.NodeName e = not_both e refl
target_is Target.NodeClass (Target.Attribute l) e = not_both e refl
target_is Target.NodeName Target.NodeClass e = not_both e refl
target_is Target.NodeName Target.NodeName e = refl
target_is Target.NodeName (Target.Attribute l) e = not_both e refl
target_is (Target.Attribute k) Target.NodeClass e = not_both e refl
target_is (Target.Attribute k) Target.NodeName e = not_both e refl
target_is (Target.Attribute k) (Target.Attribute l) e = ap Target.Attribute (append_cancel_right k l (codes "}")
    (append_cancel_left (codes "${attr.") (k ++ codes "}") (l ++ codes "}") (same_name_is _ _ e)))

operand_is : (a b : Operand) → same_name (operand_text a) (operand_text b) ≡ true → a ≡ b
operand_is Operand.Equal Operand.Equal e = refl
operand_is Operand.Equal Operand.NotEqual e = not_both e refl
operand_is Operand.NotEqual Operand.Equal e = not_both e refl
operand_is Operand.NotEqual Operand.NotEqual e = refl

kind_is : (a b : JobKind) → same_name (kind_text a) (kind_text b) ≡ true → a ≡ b
kind_is JobKind.Service JobKind.Service e = refl
kind_is JobKind.Service JobKind.Batch e = not_both e refl
kind_is JobKind.Batch JobKind.Service e = not_both e refl
kind_is JobKind.Batch JobKind.Batch e = refl

constraint_is : (a b : Constraint) → same_constraint a b ≡ true → a ≡ b
constraint_is a b e =
    let t : Bool = same_name (target_text a.target) (target_text b.target) in
    let o : Bool = same_name (operand_text a.operand) (operand_text b.operand) in
    let both : (t && o) ≡ true = first_of_both (t && o) (same_name a.value b.value) e in
    let target = target_is a.target b.target (first_of_both t o both) in
    let operand = operand_is a.operand b.operand (second_of_both t o both) in
    let value = same_name_is a.value b.value (second_of_both (t && o) (same_name a.value b.value) e) in
    λ i. record { target = target i; operand = operand i; value = value i }

task_is : (a b : Task) → same_task a b ≡ true → a ≡ b
task_is a b e =
    let n : Bool = same_name a.name b.name in
    let c : Bool = same_number a.resources.cpu b.resources.cpu in
    let m : Bool = same_number a.resources.memory b.resources.memory in
    let both : (n && c) ≡ true = first_of_both (n && c) m e in
    let name = same_name_is a.name b.name (first_of_both n c both) in
    let cpu = tied one_number a.resources.cpu b.resources.cpu (second_of_both n c both) in
    let memory = tied one_number a.resources.memory b.resources.memory (second_of_both (n && c) m e) in
    λ i. record { name = name i; resources = record { cpu = cpu i; memory = memory i } }

group_is : (a b : Group) → same_group a b ≡ true → a ≡ b
group_is a b e =
    let n : Bool = same_name a.name b.name in
    let c : Bool = same_number a.count b.count in
    let d : Bool = same_number a.disk b.disk in
    let t : Bool = pointwise same_task a.tasks b.tasks in
    let three : (n && c && d) ≡ true = first_of_both (n && c && d) t e in
    let two : (n && c) ≡ true = first_of_both (n && c) d three in
    let name = same_name_is a.name b.name (first_of_both n c two) in
    let count = tied one_number a.count b.count (second_of_both n c two) in
    let disk = tied one_number a.disk b.disk (second_of_both (n && c) d three) in
    let tasks = one_by_one same_task task_is a.tasks b.tasks (second_of_both (n && c && d) t e) in
    λ i. record { name = name i; count = count i; disk = disk i; tasks = tasks i }

pub document_is : (a b : Document) → same_document a b ≡ true → a ≡ b
document_is a b e =
    let k : Bool = same_name (kind_text a.kind) (kind_text b.kind) in
    let n : Bool = same_number a.priority b.priority in
    let p : Bool = same_name a.pool b.pool in
    let c : Bool = pointwise same_constraint a.constraints b.constraints in
    let g : Bool = pointwise same_group a.groups b.groups in
    let four : (k && n && p && c) ≡ true = first_of_both (k && n && p && c) g e in
    let three : (k && n && p) ≡ true = first_of_both (k && n && p) c four in
    let two : (k && n) ≡ true = first_of_both (k && n) p three in
    let kind = kind_is a.kind b.kind (first_of_both k n two) in
    let priority = tied one_number a.priority b.priority (second_of_both k n two) in
    let pool = same_name_is a.pool b.pool (second_of_both (k && n) p three) in
    let constraints = one_by_one same_constraint constraint_is a.constraints b.constraints (second_of_both (k && n && p) c four) in
    let groups = one_by_one same_group group_is a.groups b.groups (second_of_both (k && n && p && c) g e) in
    λ i. record { kind = kind i; priority = priority i; pool = pool i; constraints = constraints i; groups = groups i }

pub client_is : (a b : ClientStatus) → same_client a b ≡ true → a ≡ b
client_is ClientStatus.Pending ClientStatus.Pending e = refl
client_is ClientStatus.Running ClientStatus.Running e = refl
client_is ClientStatus.Complete ClientStatus.Complete e = refl
client_is ClientStatus.Failed ClientStatus.Failed e = refl
client_is ClientStatus.Lost ClientStatus.Lost e = refl
client_is ClientStatus.Pending ClientStatus.Running e = not_both e refl
client_is ClientStatus.Pending ClientStatus.Complete e = not_both e refl
client_is ClientStatus.Pending ClientStatus.Failed e = not_both e refl
client_is ClientStatus.Pending ClientStatus.Lost e = not_both e refl
client_is ClientStatus.Running ClientStatus.Pending e = not_both e refl
client_is ClientStatus.Running ClientStatus.Complete e = not_both e refl
client_is ClientStatus.Running ClientStatus.Failed e = not_both e refl
client_is ClientStatus.Running ClientStatus.Lost e = not_both e refl
client_is ClientStatus.Complete ClientStatus.Pending e = not_both e refl
client_is ClientStatus.Complete ClientStatus.Running e = not_both e refl
client_is ClientStatus.Complete ClientStatus.Failed e = not_both e refl
client_is ClientStatus.Complete ClientStatus.Lost e = not_both e refl
client_is ClientStatus.Failed ClientStatus.Pending e = not_both e refl
client_is ClientStatus.Failed ClientStatus.Running e = not_both e refl
client_is ClientStatus.Failed ClientStatus.Complete e = not_both e refl
client_is ClientStatus.Failed ClientStatus.Lost e = not_both e refl
client_is ClientStatus.Lost ClientStatus.Pending e = not_both e refl
client_is ClientStatus.Lost ClientStatus.Running e = not_both e refl
client_is ClientStatus.Lost ClientStatus.Complete e = not_both e refl
client_is ClientStatus.Lost ClientStatus.Failed e = not_both e refl
