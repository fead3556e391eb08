-- Laws of names: how long they are, and which characters they have; of the order of classes; and of ids.
use Rattle.std.specs.Prelude.{◌≡◌, ◌≢◌, ◌↔◌, ◌⊎◌, ℕ, ◌+◌, ◌*◌, ◌^◌, ◌<◌, ◌≤◌, List, ◌∷◌, ◌++◌, Some, All, Contains}
use Rattle.std.specs.Prelude.{IsFalse, IsTrue, codes, length}
use Rattle.std.specs.declared.cmp.Ordering.{Ordering}
use Rattle.std.specs.Ordering.{eq_by_cmp, is_lt}
use Rattle.ns_types.specs.declared.id.IdKind.{IdKind}
use Rattle.ns_types.specs.declared.name.NameKind.{NameKind}
use Rattle.ns_types.specs.State.Id.{IsNoId, id_text, uuid_number}
use Rattle.ns_types.specs.State.Limits.{is_pool_name}
use Rattle.ns_types.specs.State.Name.{is_name, name_of}
use Rattle.ns_types.specs.State.Names.{Name, attribute_cmp, class_cmp, name_cmp, same_name}

-- ---- names

-- letters, digits and `-`
abbrev pub plain : List ℕ
plain = codes "ABCDEFGHIJKLMNOPQRSTUVWXYZabcdefghijklmnopqrstuvwxyz0123456789-"

-- letters, digits, `-` and `_`
abbrev pub plain_or_underscore : List ℕ
plain_or_underscore = codes "ABCDEFGHIJKLMNOPQRSTUVWXYZabcdefghijklmnopqrstuvwxyz0123456789-_"

-- the printable characters of ASCII but the space
abbrev pub printable : List ℕ
printable = codes "!\"#$%&'()*+,-./0123456789:;<=>?@ABCDEFGHIJKLMNOPQRSTUVWXYZ[\\]^_`abcdefghijklmnopqrstuvwxyz{|}~"

-- the text has 1 to `most` characters, each of which is among these
pub record IsMadeOf (characters : List ℕ) (most : ℕ) (text : Name) : Type 0 where
  pub some : 1 ≤ length text
  pub few : length text ≤ most
  pub each : All (Contains characters) text

-- A text is a name of a namespace, or of a policy, exactly if it has 1 to 128 characters, each a letter, a digit or
-- `-`.
abbrev pub NamesOfNamespaces : Type 0
NamesOfNamespaces = (text : Name) → (IsTrue (is_name NameKind.Namespace text) ↔ IsMadeOf plain 128 text)
    × (IsTrue (is_name NameKind.Policy text) ↔ IsMadeOf plain 128 text)

-- A text is a name of a quota, or of a node, exactly if it has 1 to 128 characters, each a letter, a digit, `-` or
-- `_`.
abbrev pub NamesOfNodes : Type 0
NamesOfNodes = (text : Name) → (IsTrue (is_name NameKind.Quota text) ↔ IsMadeOf plain_or_underscore 128 text)
    × (IsTrue (is_name NameKind.Node text) ↔ IsMadeOf plain_or_underscore 128 text)

-- the text is a name of a pool: it is not `all`, and it has 1 to 128 characters, each a letter, a digit, `-` or `_`
pub record IsOfPool (text : Name) : Type 0 where
  pub other : text ≢ codes "all"
  pub made_of : IsMadeOf plain_or_underscore 128 text

-- A text is a name of a pool exactly if it is such a name too, and is not `all`.
abbrev pub NamesOfPools : Type 0
NamesOfPools = (text : Name) → IsTrue (is_pool_name text) ↔ IsOfPool text

-- A text is the id of a job, or a name of a task group or of a task, exactly if it has 1 to 128 printable characters of
-- ASCII, none a space.
abbrev pub NamesOfJobs : Type 0
NamesOfJobs = (text : Name) → (IsTrue (is_name NameKind.Job text) ↔ IsMadeOf printable 128 text)
    × (IsTrue (is_name NameKind.Group text) ↔ IsMadeOf printable 128 text)
    × (IsTrue (is_name NameKind.Task text) ↔ IsMadeOf printable 128 text)

-- A text is a secret exactly if it has 1 to 64 printable characters of ASCII, none a space.
abbrev pub TextsOfSecrets : Type 0
TextsOfSecrets = (text : Name) → IsTrue (is_name NameKind.Secret text) ↔ IsMadeOf printable 64 text

-- A text is read as a name of a kind exactly if it has the length and the characters of one, and it stays as it is.
abbrev pub NamesAreRead : Type 0
NamesAreRead = (kind : NameKind) (text name : Name) →
    (name_of kind text ≡ Some name) ↔ (IsTrue (is_name kind text) × (name ≡ text))

-- Two names are the same exactly if they are the same text: a letter in upper case is another than in lower case.
abbrev pub SameNames : Type 0
SameNames = (a b : Name) → IsTrue (same_name a b) ↔ (a ≡ b)

-- the second is the first with more after it
pub record GoesOn (a b : Name) : Type 0 where
  pub next : ℕ
  pub rest : Name
  pub same : b ≡ a ++ next ∷ rest

-- after what they have in common, the first has a lesser character than the second
pub record IsLessAt (a b : Name) : Type 0 where
  pub common : Name
  pub lesser : ℕ
  pub greater : ℕ
  pub less : lesser < greater
  pub rest_of_a : Name
  pub rest_of_b : Name
  pub is_a : a ≡ common ++ lesser ∷ rest_of_a
  pub is_b : b ≡ common ++ greater ∷ rest_of_b

-- A name comes before another exactly if the other is that name with more after it, or if it has the lesser character
-- where they first differ.
abbrev pub NameOrder : Type 0
NameOrder = (a b : Name) → IsTrue (is_lt (name_cmp a b)) ↔ GoesOn a b ⊎ IsLessAt a b

-- ---- attributes and classes

-- Only what is the same ties. Of two others one comes before the other, not both; and what comes before another comes
-- before all that come after that one.
pub record IsOrder {A : Type 0} (compare : A → A → Ordering) : Type 0 where
  pub same : (a b : A) → IsTrue (eq_by_cmp compare a b) ↔ (a ≡ b)
  pub either : (a b : A) → a ≢ b → IsTrue (is_lt (compare a b)) ⊎ IsTrue (is_lt (compare b a))
  pub one_way : (a b : A) → IsTrue (is_lt (compare a b)) → IsFalse (is_lt (compare b a))
  pub onward : (a b c : A) → IsTrue (is_lt (compare a b)) → IsTrue (is_lt (compare b c)) →
      IsTrue (is_lt (compare a c))

-- Attributes have an order: two are the same exactly if their keys are and their values are.
abbrev pub AttributesAreOrdered : Type 0
AttributesAreOrdered = IsOrder attribute_cmp

-- Classes have an order: two are the same exactly if their names are and their attributes are, one by one.
abbrev pub ClassesAreOrdered : Type 0
ClassesAreOrdered = IsOrder class_cmp

-- ---- ids

-- No two evaluations of a namespace have the same id, no two allocations have the same, and no allocation has the id of
-- an evaluation.
abbrev pub IdsDiffer : Type 0
IdsDiffer = (a b : IdKind) (m n : ℕ) → m < 2 ^ 64 → n < 2 ^ 64 → id_text a m ≡ id_text b n → (a ≡ b) × (m ≡ n)

-- The id of evaluation n is read as the number 2 ^ 64 + n, and that of allocation n as twice 2 ^ 64 and n.
abbrev pub IdsReadBack : Type 0
IdsReadBack = (n : ℕ) → n < 2 ^ 64 → (uuid_number (id_text IdKind.Evaluation n) ≡ Some (2 ^ 64 + n))
    × (uuid_number (id_text IdKind.Allocation n) ≡ Some (2 * 2 ^ 64 + n))

-- The id of an evaluation is an id of an evaluation and no id of an allocation, and the other way round.
abbrev pub IdsHaveKinds : Type 0
IdsHaveKinds = (n : ℕ) → n < 2 ^ 64 → (¬ (IsNoId IdKind.Evaluation (id_text IdKind.Evaluation n)))
    × IsNoId IdKind.Allocation (id_text IdKind.Evaluation n)
    × (¬ (IsNoId IdKind.Allocation (id_text IdKind.Allocation n)))
    × IsNoId IdKind.Evaluation (id_text IdKind.Allocation n)

-- Ids are written so: the first evaluation, the first allocation, and allocation 43981, which is abcd in hexadecimal.
pub record AreWrittenSo : Type 0 where
  pub evaluation : id_text IdKind.Evaluation 1 ≡ codes "00000000-0000-0001-0000-000000000001"
  pub allocation : id_text IdKind.Allocation 1 ≡ codes "00000000-0000-0002-0000-000000000001"
  pub later : id_text IdKind.Allocation 43981 ≡ codes "00000000-0000-0002-0000-00000000abcd"
