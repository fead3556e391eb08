-- The text of a job, part by part.
use Rattle.std.proofs.Common.{◌≡◌, ℕ, ◌+◌, ◌<◌, Bool, true, false, List, [], ◌∷◌, ◌++◌, length, get_or, take, map}
use Rattle.std.proofs.Common.{Result, Ok, Err, refl, sym, ap, ap₂, ◌==◌, ◌||◌, nat_lt, ◌∙◌, append_assoc, append-nil}
use Rattle.std.proofs.Common.{codes}
use Rattle.std.proofs.lemmas.Bool.{and_parts, or_parts, not-true, eqb-false, ltb-false}
use Rattle.std.proofs.lemmas.List.{take_more}
use Rattle.std.proofs.lemmas.List.Concat.{flat_map-append}
use Rattle.std.specs.Prelude.{OnOk}
use Rattle.std.specs.List.{flat_map, list_all}
use Rattle.json.specs.Print.{escape, quoted, print, print_from}
use Rattle.json.specs.Token.{string}
use Rattle.json.specs.Written.{Written}
use Rattle.json.specs.Run.{is_plain}
use Rattle.json.proofs.Printed.Strings.{escape_byte_plain}
use Rattle.serde_json.specs.Data.{Data}
use Rattle.serde_json.specs.View.{items_of}
use Rattle.serde_json.specs.Written.{compact_text, items_text}
use Rattle.ns_types.specs.declared.job.Constraint.{Constraint}
use Rattle.ns_types.specs.declared.job.Document.{Document}
use Rattle.ns_types.specs.declared.job.Group.{Group}
use Rattle.ns_types.specs.declared.job.Task.{Task}
use Rattle.ns_types.specs.declared.reply.JobShown.{JobShown}
use Rattle.ns_types.specs.Wire.Words.{job_status_text, kind_text, operand_text, target_text}
use Rattle.ns_json.specs.Rendering.{constraint_json, group_json, job_json, task_json}
use Rattle.json.specs.Print.{escape_byte, token_text}
use Rattle.json.specs.Token.{boolean}
use Rattle.std.proofs.Common.{decimal}
use Rattle.ns_json.specs.JobText.{Continues, joined, member_text, numbered, spelled, stop_text, texted}

-- no byte of a plain text is escaped
pub escape_plain : (s : List ℕ) → list_all is_plain s ≡ true → escape s ≡ s
escape_plain [] e = refl
escape_plain (x ∷ xs) e =
    let p = and_parts (is_plain x) (list_all is_plain xs) e in
    let none = or_parts ((x == 34) || (x == 92)) (nat_lt x 32) (not-true _ p.0) in
    let tests = or_parts (x == 34) (x == 92) none.0 in
    ap₂ (λ (a b : List ℕ). a ++ b) (escape_byte_plain x (eqb-false x 34 tests.0) (eqb-false x 92 tests.1) (ltb-false x 32 none.1)) (escape_plain xs p.1)

-- a text after others
pub after : {E : Type 0} (r : Result (Unit {0}) E) (a b c ts us all : List ℕ) → Continues a b ts → ts ++ us ≡ all → OnOk r (Continues b c us) →
    OnOk r (Continues a c all)
after (Ok u) a b c ts us all p e q = record { is = q.is ∙ ap (λ (x : List ℕ). x ++ us) p.is ∙ append_assoc a ts us ∙ ap (λ (x : List ℕ). a ++ x) e }
after (Err x) a b c ts us all p e q = tt

-- texts after others
pub more : (a b c ts us : List ℕ) → Continues a b ts → Continues b c us → Continues a c (ts ++ us)
more a b c ts us p q = record { is = q.is ∙ ap (λ (x : List ℕ). x ++ us) p.is ∙ append_assoc a ts us }

-- one more item after a comma
pub one_more : {X : Type 0} (f : X → List ℕ) (a b c d : List ℕ) (xs : List X) (i : ℕ) (x : X) → i < length xs → x ≡ get_or xs i x →
    Continues a b (flat_map (λ y. 44 ∷ f y) (take i xs)) → Continues b c (codes ",") → Continues c d (f x) →
    Continues a d (flat_map (λ y. 44 ∷ f y) (take (i + 1) xs))
one_more {X = X} f a b c d xs i x lt is p q r =
    let g : X → List ℕ = λ y. 44 ∷ f y in
    let e : flat_map g (take (i + 1) xs) ≡ flat_map g (take i xs) ++ g x = ap (flat_map g) (take_more xs i x lt ∙ rw (← is) refl) ∙
    flat_map-append g (take i xs) (x ∷ []) ∙ ap (λ y. flat_map g (take i xs) ++ y) (append-nil (g x)) in
    rw e (more a b d (flat_map g (take i xs)) (g x) p (more b c d (44 ∷ []) (f x) q r))

-- the first item, and those after it
pub all_items : {X : Type 0} (f : X → List ℕ) (a b c : List ℕ) (x : X) (xs : List X) → Continues a b (f x) →
    Continues b c (flat_map (λ y. 44 ∷ f y) xs) → Continues a c (joined f (x ∷ xs))
all_items f a b c x xs p q = more a b c (f x) (flat_map (λ y. 44 ∷ f y) xs) p q

-- the items of a list after others, with the bracket behind them
later : {X : Type 0} (json : X → Data) (xs : List X) → items_text true (items_of (map json xs)) ≡ flat_map (λ y. 44 ∷ compact_text (json y)) xs ++ 93 ∷ []
later json [] = refl
later json (x ∷ xs) = ap (λ t. 44 ∷ (compact_text (json x) ++ t)) (later json xs) ∙
    sym (append_assoc (44 ∷ compact_text (json x)) (flat_map (λ y. 44 ∷ compact_text (json y)) xs) (93 ∷ []))

-- the items of a list, with the bracket behind them
pub items_joined : {X : Type 0} (json : X → Data) (xs : List X) → items_text false (items_of (map json xs)) ≡ joined (λ x. compact_text (json x)) xs ++ 93 ∷ []
items_joined json [] = refl
items_joined json (x ∷ xs) = ap (λ t. compact_text (json x) ++ t) (later json xs) ∙
    sym (append_assoc (compact_text (json x)) (flat_map (λ y. 44 ∷ compact_text (json y)) xs) (93 ∷ []))

-- what a writer wrote of one text into an empty buffer
pub written_alone : (text items : List ℕ) (old new : Written) → items ≡ new.before ++ print new.tokens →
    new.tokens ≡ old.tokens ++ string text ∷ [] → new.before ≡ old.before →
    old.tokens ≡ [] → old.before ≡ [] → items ≡ quoted text
unfolding print_from
written_alone text items old new is added before none empty =
    is ∙ rw (before, empty, added, none) (append-nil (quoted text))

-- a list, its bracket and what comes after
list_then : {X : Type 0} (json : X → Data) (xs : List X) (rest : List ℕ) → joined (λ x. compact_text (json x)) xs ++ 93 ∷ rest ≡
    items_text false (items_of (map json xs)) ++ rest
list_then json xs rest = sym (append_assoc (joined (λ x. compact_text (json x)) xs) (93 ∷ []) rest) ∙
    ap (λ (t : List ℕ). t ++ rest) (sym (items_joined json xs))

regroup4 : (a b c d : List ℕ) → ((a ++ b) ++ c) ++ d ≡ a ++ (b ++ (c ++ d))
regroup4 a b c d = simp append_assoc

regroup6 : (a b c d e f : List ℕ) → ((((a ++ b) ++ c) ++ d) ++ e) ++ f ≡ a ++ (b ++ (c ++ (d ++ (e ++ f))))
regroup6 a b c d e f = simp append_assoc

-- a quote that ends a text, where it stands at the front of what follows
quote_then : (before text rest : List ℕ) → spelled (before ++ 34 ∷ []) text ++ 34 ∷ rest ≡ texted before text ++ rest
quote_then before text rest = simp append_assoc

pub constraint_is : (c : Constraint) (target operand value : List ℕ) → target ≡ target_text c.target → operand ≡ operand_text c.operand → value ≡ c.value →
    ((spelled (codes "{\"LTarget\":\"") target ++ spelled (codes "\",\"Operand\":\"") operand) ++ spelled (codes "\",\"RTarget\":\"") value) ++
    codes "\"}" ≡ compact_text (constraint_json c)
unfolding constraint_json escape_byte
constraint_is c target operand value e1 e2 e3 = rw (e1, e2, e3)
    (regroup4 (spelled (codes "{\"LTarget\":\"") (target_text c.target)) (spelled (codes "\",\"Operand\":\"") (operand_text c.operand))
    (spelled (codes "\",\"RTarget\":\"") c.value) (codes "\"}") ∙
    quote_then (codes "{\"LTarget\":") (target_text c.target) (spelled (codes ",\"Operand\":\"") (operand_text c.operand) ++
    (spelled (codes "\",\"RTarget\":\"") c.value ++ codes "\"}")) ∙
    ap (λ (r : List ℕ). texted (codes "{\"LTarget\":") (target_text c.target) ++ r)
    (quote_then (codes ",\"Operand\":") (operand_text c.operand) (spelled (codes ",\"RTarget\":\"") c.value ++ codes "\"}") ∙
    ap (λ (r : List ℕ). texted (codes ",\"Operand\":") (operand_text c.operand) ++ r) (quote_then (codes ",\"RTarget\":") c.value (codes "}"))))

-- two numbers of an object inside another
two_numbers : (x lit y : List ℕ) → x ++ (lit ++ (y ++ 125 ∷ 125 ∷ [])) ≡ (x ++ (lit ++ (y ++ 125 ∷ []))) ++ 125 ∷ []
two_numbers x lit y = simp append_assoc

pub task_is : (t : Task) (name : List ℕ) → name ≡ t.name →
    ((spelled (codes "{\"Name\":\"") name ++ numbered (codes "\",\"Resources\":{\"CPU\":") t.resources.cpu) ++
    numbered (codes ",\"MemoryMB\":") t.resources.memory) ++
    codes "}}" ≡ compact_text (task_json t)
unfolding task_json escape_byte
task_is t name e = rw e
    (regroup4 (spelled (codes "{\"Name\":\"") t.name) (numbered (codes "\",\"Resources\":{\"CPU\":") t.resources.cpu)
    (numbered (codes ",\"MemoryMB\":") t.resources.memory) (codes "}}") ∙
    quote_then (codes "{\"Name\":") t.name (numbered (codes ",\"Resources\":{\"CPU\":") t.resources.cpu ++
    (numbered (codes ",\"MemoryMB\":") t.resources.memory ++ codes "}}")) ∙
    ap (λ (r : List ℕ). texted (codes "{\"Name\":") t.name ++ (codes ",\"Resources\":{\"CPU\":" ++ r))
    (two_numbers (decimal t.resources.cpu) (codes ",\"MemoryMB\":") (decimal t.resources.memory)))

pub group_is : (g : Group) (name : List ℕ) (tasks : List Task) → name ≡ g.name → tasks ≡ g.tasks →
    ((((numbered (codes "{\"Count\":") g.count ++ numbered (codes ",\"EphemeralDisk\":{\"SizeMB\":") g.disk) ++ spelled (codes "},\"Name\":\"") name) ++
    codes "\",\"Tasks\":[") ++ joined (λ t. compact_text (task_json t)) tasks) ++ codes "]}" ≡ compact_text (group_json g)
unfolding group_json escape_byte
group_is g name tasks e1 e2 =
    let count : List ℕ = numbered (codes "{\"Count\":") g.count in
    let disk : List ℕ = numbered (codes ",\"EphemeralDisk\":{\"SizeMB\":") g.disk in
    let called : List ℕ = texted (codes "},\"Name\":") g.name in
    let texts : List ℕ = joined (λ t. compact_text (task_json t)) g.tasks in
    let listed : List ℕ = items_text false (items_of (map task_json g.tasks)) ++ 125 ∷ [] in
    rw (e1, e2)
    (regroup6 count disk (spelled (codes "},\"Name\":\"") g.name) (codes "\",\"Tasks\":[") texts (codes "]}") ∙
    ap (λ (r : List ℕ). count ++ (disk ++ r)) (quote_then (codes "},\"Name\":") g.name (codes ",\"Tasks\":[" ++ (texts ++ codes "]}"))) ∙
    ap (λ (r : List ℕ). count ++ (disk ++ (called ++ (codes ",\"Tasks\":[" ++ r)))) (list_then task_json g.tasks (125 ∷ [])) ∙
    ap (λ (r : List ℕ). count ++ (codes ",\"EphemeralDisk\":{\"SizeMB\":" ++ r))
    (sym (append_assoc (decimal g.disk) (125 ∷ []) (codes ",\"Name\":" ++ (quoted g.name ++ (codes ",\"Tasks\":[" ++ listed))))))

-- a member that says whether the job was stopped
stop_then : (b : Bool) (rest : List ℕ) → stop_text b ++ rest ≡ codes ",\"Stop\":" ++ (token_text (boolean b) ++ (codes ",\"TaskGroups\":[" ++ rest))
stop_then true rest = refl
stop_then false rest = refl

regroup_members : (a b c d e f g h r : List ℕ) →
    (((((((a ++ b) ++ c) ++ d) ++ e) ++ f) ++ g) ++ h) ++ r ≡ a ++ (b ++ (c ++ (d ++ (e ++ (f ++ (g ++ (h ++ r)))))))
regroup_members a b c d e f g h r = simp append_assoc

regroup : (a b c d e f g : List ℕ) → (((((a ++ b) ++ c) ++ d) ++ e) ++ f) ++ g ≡ a ++ (b ++ (c ++ (d ++ (e ++ (f ++ g)))))
regroup a b c d e f g = simp append_assoc

-- the members behind the bracket of the constraints
abbrev member_rest : JobShown → List ℕ → List ℕ
member_rest j rest =
    texted (codes ",\"ID\":") j.id ++ (numbered (codes ",\"JobModifyIndex\":") j.row.modify_index ++
    (texted (codes ",\"Namespace\":") j.namespace ++ (texted (codes ",\"NodePool\":") j.row.document.pool ++
    (numbered (codes ",\"Priority\":") j.row.document.priority ++ (texted (codes ",\"Status\":") (job_status_text j.status) ++ rest)))))

-- each text of the members with both its quotes
quotes_then : (j : JobShown) (rest : List ℕ) → spelled (codes ",\"ID\":\"") j.id ++ (numbered (codes "\",\"JobModifyIndex\":") j.row.modify_index ++
    (spelled (codes ",\"Namespace\":\"") j.namespace ++ (spelled (codes "\",\"NodePool\":\"") j.row.document.pool ++
    (numbered (codes "\",\"Priority\":") j.row.document.priority ++ (texted (codes ",\"Status\":") (job_status_text j.status) ++ rest))))) ≡ member_rest j rest
quotes_then j rest =
    let modified : List ℕ = numbered (codes ",\"JobModifyIndex\":") j.row.modify_index in
    let ranked : List ℕ = numbered (codes ",\"Priority\":") j.row.document.priority ++ (texted (codes ",\"Status\":") (job_status_text j.status) ++ rest) in
    let pooled : List ℕ = spelled (codes ",\"NodePool\":\"") j.row.document.pool ++ 34 ∷ ranked in
    quote_then (codes ",\"ID\":") j.id (modified ++ (spelled (codes ",\"Namespace\":\"") j.namespace ++ 34 ∷ pooled)) ∙
    ap (λ (r : List ℕ). texted (codes ",\"ID\":") j.id ++ (modified ++ r))
    (quote_then (codes ",\"Namespace\":") j.namespace pooled ∙
    ap (λ (r : List ℕ). texted (codes ",\"Namespace\":") j.namespace ++ r) (quote_then (codes ",\"NodePool\":") j.row.document.pool ranked))

members_then : (j : JobShown) (rest : List ℕ) → member_text j ++ rest ≡
    93 ∷ (numbered (codes ",\"CreateIndex\":") j.row.create_index ++
    member_rest j (codes ",\"Stop\":" ++ (token_text (boolean j.row.stop) ++ (codes ",\"TaskGroups\":[" ++ rest))))
unfolding member_text
members_then j rest =
    regroup_members (numbered (codes "],\"CreateIndex\":") j.row.create_index) (spelled (codes ",\"ID\":\"") j.id)
    (numbered (codes "\",\"JobModifyIndex\":") j.row.modify_index) (spelled (codes ",\"Namespace\":\"") j.namespace)
    (spelled (codes "\",\"NodePool\":\"") j.row.document.pool) (numbered (codes "\",\"Priority\":") j.row.document.priority)
    (texted (codes ",\"Status\":") (job_status_text j.status)) (stop_text j.row.stop) rest ∙
    ap (λ (r : List ℕ). numbered (codes "],\"CreateIndex\":") j.row.create_index ++ r) (quotes_then j (stop_text j.row.stop ++ rest)) ∙
    ap (λ (r : List ℕ). numbered (codes "],\"CreateIndex\":") j.row.create_index ++ member_rest j r) (stop_then j.row.stop rest)

-- the members, with the texts that were written
pub members_are : (j : JobShown) (d : Document) (id namespace pool status stop : List ℕ) → d ≡ j.row.document → id ≡ j.id →
    namespace ≡ j.namespace → pool ≡ d.pool → status ≡ texted (codes ",\"Status\":") (job_status_text j.status) → stop ≡ stop_text j.row.stop →
    ((((((numbered (codes "],\"CreateIndex\":") j.row.create_index ++ spelled (codes ",\"ID\":\"") id) ++
    numbered (codes "\",\"JobModifyIndex\":") j.row.modify_index) ++
    spelled (codes ",\"Namespace\":\"") namespace) ++ spelled (codes "\",\"NodePool\":\"") pool) ++ numbered (codes "\",\"Priority\":") d.priority) ++
    status) ++ stop ≡ member_text j
unfolding member_text
members_are j d id namespace pool status stop same e1 e2 e3 e4 e5 = rw (e1, e2, e3, e4, e5, same) refl

pub job_is : (j : JobShown) (d : Document) (constraints : List Constraint) (groups : List Group) (kind : List ℕ) → d ≡ j.row.document →
    constraints ≡ d.constraints → groups ≡ d.groups → kind ≡ texted (codes "],\"Type\":") (kind_text d.kind) →
    (((((codes "{\"Constraints\":[" ++ joined (λ c. compact_text (constraint_json c)) constraints) ++ member_text j) ++
    joined (λ g. compact_text (group_json g)) groups) ++ kind) ++ numbered (codes ",\"Version\":") j.row.version) ++ codes "}" ≡
    compact_text (job_json j)
unfolding job_json escape_byte
job_is j d constraints groups kind same e1 e2 e3 =
    let head : List ℕ = codes "{\"Constraints\":[" in
    let constrained : List ℕ = joined (λ c. compact_text (constraint_json c)) j.row.document.constraints in
    let typed : List ℕ = codes ",\"Type\":" ++ (quoted (kind_text j.row.document.kind) ++ (numbered (codes ",\"Version\":") j.row.version ++ codes "}")) in
    let grouped : List ℕ = items_text false (items_of (map group_json j.row.document.groups)) ++ typed in
    let members : List ℕ = numbered (codes ",\"CreateIndex\":") j.row.create_index ++
    member_rest j (codes ",\"Stop\":" ++ (token_text (boolean j.row.stop) ++ (codes ",\"TaskGroups\":[" ++ grouped))) in
    rw (e1, e2, e3, same)
    (regroup head constrained (member_text j) (joined (λ g. compact_text (group_json g)) j.row.document.groups)
    (texted (codes "],\"Type\":") (kind_text j.row.document.kind)) (numbered (codes ",\"Version\":") j.row.version) (codes "}") ∙
    ap (λ (r : List ℕ). head ++ (constrained ++ (member_text j ++ r))) (list_then group_json j.row.document.groups typed) ∙
    ap (λ (r : List ℕ). head ++ (constrained ++ r)) (members_then j grouped) ∙
    ap (λ (r : List ℕ). head ++ r) (list_then constraint_json j.row.document.constraints members))
