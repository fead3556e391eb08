-- The documents of nodes.
use Rattle.std.specs.Prelude.{ℕ, nat_le, not, ◌||◌, List, [], ◌∷◌, ◌++◌, length, map, Option, Some, None, Ok, Bool}
use Rattle.std.specs.Prelude.{true, false, if◌then◌else◌}
use Rattle.std.specs.List.Sorted.{IsStrictlySortedBy}
use Rattle.std.specs.Str.{bytes_eq}
use Rattle.serde_json.specs.Data.{Data, Members, no_members, member}
use Rattle.serde_json.specs.Find.{as_object}
use Rattle.ns_types.specs.declared.allocation.ClientStatus.{ClientStatus}
use Rattle.ns_types.specs.declared.id.IdKind.TheVariants as IdKind
use Rattle.ns_types.specs.declared.name.NameKind.TheVariants as NameKind
use Rattle.ns_types.specs.declared.node.Attribute.{Attribute}
use Rattle.ns_types.specs.declared.node.NodeStatus.{NodeStatus}
use Rattle.ns_types.specs.declared.node.Offer.{Offer}
use Rattle.ns_types.specs.declared.refusal.Member.{Member}
use Rattle.ns_types.specs.declared.step.Report.{Report}
use Rattle.ns_types.specs.State.Limits.{is_text}
use Rattle.ns_types.specs.State.Names.{name_cmp}
use Rattle.ns_types.specs.Wire.Words.{node_status_text, eligibility_text, client_text}
use Rattle.ns_json.specs.Reading.{◌>>=◌, Read, top, present, demanded, or_else, or_refuse, unless_null, unless}
use Rattle.ns_json.specs.Reading.{a_number, a_text, a_name, an_id}
use Rattle.ns_json.specs.Registration.{max_quantity}
use Rattle.ns_documents.specs.Members.{word_in}

-- ---- nodes

abbrev pub max_attributes : ℕ
max_attributes = 64

-- the attributes are in the order of their keys, each key once
abbrev pub AreByKey : List Attribute → Type 0
AreByKey attributes = IsStrictlySortedBy name_cmp (map (λ a. a.key) attributes)

abbrev pub with_value : List Attribute → List ℕ → Option Data → Read (List Attribute)
with_value done key None = Ok done
with_value done key (Some d) = do
  value ← a_text Member.Attributes d
  unless (not (is_text key) || nat_le max_attributes (length done)) Member.Attributes
      (done ++ record { key = key; value = value } ∷ [])

-- the attributes with the next one, unless its value is null
unfoldable pub with_attribute : List Attribute → List ℕ → Data → Read (List Attribute)
with_attribute done key d = with_value done key (unless_null d)

unfoldable pub each_attribute : List Attribute → Members → Read (List Attribute)
each_attribute done no_members = Ok done
each_attribute done (member key d ms) = with_attribute done key d >>= λ attributes. each_attribute attributes ms

-- the attributes of a node: an object with at most 64 members that are not null, each a text under a text
unfoldable pub attributes_in : Data → Read (List Attribute)
attributes_in d = or_refuse Member.Attributes (as_object d) >>= each_attribute []

abbrev pub default_disk : ℕ
default_disk = 100000

unfoldable pub amount_in : Member → Data → Read ℕ
amount_in m d = demanded m d >>= a_number m 1 max_quantity

unfoldable pub node_in : Data → Read Offer
node_in d = do
  top ← top d
  class ← or_else [] (a_text Member.NodeClass) (present Member.NodeClass top)
  attributes ← or_else [] attributes_in (present Member.Attributes top)
  cpu ← amount_in Member.Cpu top
  memory ← amount_in Member.MemoryMb top
  disk ← or_else default_disk (a_number Member.DiskMb 1 max_quantity) (present Member.DiskMb top)
  Ok (record { class = class; attributes = attributes; capacity = record { cpu = cpu; memory = memory; disk = disk } })

-- ---- status and eligibility

-- the one of the two values whose word the text is
abbrev pub one_of : {A : Type 0} → (A → List ℕ) → A → A → List ℕ → Option A
one_of word x y s = if bytes_eq s (word x) then Some x else if bytes_eq s (word y) then Some y else None

unfoldable pub node_status_in : Data → Read NodeStatus
node_status_in d = do
  top ← top d
  word ← word_in Member.Status top
  or_refuse Member.Status (one_of node_status_text NodeStatus.Ready NodeStatus.Down word)

unfoldable pub eligibility_in : Data → Read Bool
eligibility_in d = do
  top ← top d
  word ← word_in Member.Eligibility top
  or_refuse Member.Eligibility (one_of eligibility_text true false word)

-- ---- reports

-- the status that a client may report: neither `pending` nor `lost`
abbrev pub reported_of : List ℕ → Option ClientStatus
reported_of s =
    if bytes_eq s (client_text ClientStatus.Running) then Some ClientStatus.Running
    else if bytes_eq s (client_text ClientStatus.Complete) then Some ClientStatus.Complete
    else if bytes_eq s (client_text ClientStatus.Failed) then Some ClientStatus.Failed else None

unfoldable pub reported_in : Data → Read ClientStatus
reported_in d = do
  word ← word_in Member.ClientStatus d
  or_refuse Member.ClientStatus (reported_of word)

unfoldable pub report_in : Data → Read Report
report_in d = do
  top ← top d
  namespace ← demanded Member.Namespace top
  namespace ← a_name Member.Namespace NameKind.Namespace namespace
  id ← demanded Member.Id top
  number ← an_id Member.Id IdKind.Allocation id
  client ← reported_in top
  Ok (record { namespace = namespace; number = number; client = client })
