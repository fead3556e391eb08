-- Queries, as form data.
use Rattle.std.specs.Prelude.{ℕ, ◌==◌, ◌^◌, Bool, true, false, not, ◌&&◌, ◌||◌, List, [], length}
use Rattle.std.specs.Prelude.{Option, Some, None, unwrap_or, Result, Ok, Err, if◌then◌else◌, nat_lt, bytes_eq, codes}
use Rattle.std.specs.Char.{is_ascii_digit}
use Rattle.std.specs.List.{list_all}
use Rattle.std.specs.Option.{option_map_or}
use Rattle.std.specs.Str.Parse.{digits_value}
use Rattle.ns_types.specs.declared.name.NameKind.TheVariants as NameKind
use Rattle.ns_types.specs.declared.refusal.Member.TheVariants as Member
use Rattle.ns_types.specs.declared.refusal.Refusal.{Refusal}
use Rattle.ns_types.specs.declared.refusal.Refusal.TheVariants.{BadField}
use Rattle.ns_types.specs.State.Name.{is_name}
use Rattle.ns_types.specs.State.Names.{Name}
use Rattle.ns_request.specs.Parameters.{parameter}
use Rattle.ns_request.specs.declared.endpoint.Endpoint.{Endpoint}
use Rattle.ns_request.specs.declared.endpoint.Endpoint.TheVariants.{EventStream}
use Rattle.ns_request.specs.declared.method.Method.{Method}
use Rattle.ns_request.specs.declared.method.Method.TheVariants.{Get, Write, Delete}

-- ---- queries that no path serves

-- the query has the parameter, and its value passes the test
abbrev pub has_value : (List ℕ → Bool) → List ℕ → List ℕ → Bool
has_value passes name query = option_map_or passes (parameter name query) false

abbrev pub is_not_empty : List ℕ → Bool
is_not_empty value = nat_lt 0 (length value)

abbrev pub is_star : List ℕ → Bool
is_star value = bytes_eq value (codes "*")

-- an index to wait for: one that is neither empty nor `0`
abbrev pub is_awaited : List ℕ → Bool
is_awaited value = is_not_empty value && not (bytes_eq value (codes "0"))

abbrev pub reads : Option Method → Bool
reads (Some Get) = true
reads (Some Write) = false
reads (Some Delete) = false
reads None = false

abbrev pub is_stream : Endpoint → Bool
is_stream EventStream = true
is_stream _ = false

-- not served are: all namespaces at once, filters, pages, and a read that waits for an index
unfoldable pub is_unserved : Endpoint → Option Method → List ℕ → Bool
is_unserved endpoint method query =
    has_value is_star (codes "namespace") query
    || has_value is_not_empty (codes "filter") query
    || has_value is_not_empty (codes "per_page") query
    || has_value is_not_empty (codes "next_token") query
    || (reads method && (not (is_stream endpoint) && has_value is_awaited (codes "index") query))

-- ---- the namespace

-- the namespace that the query names; an empty parameter counts as absent
unfoldable pub namespace_in : List ℕ → Result (Option Name) Refusal
namespace_in query = elim (parameter (codes "namespace") query) [
  | None ↦ Ok None
  | Some value ↦
      if length value == 0 then Ok None
      else if is_name NameKind.Namespace value then Ok (Some value) else Err (BadField Member.NamespaceParameter)
]

-- ---- the prefix

-- the prefix of the ids to list: empty without the parameter
abbrev pub prefix_of : List ℕ → Name
prefix_of query = unwrap_or (parameter (codes "prefix") query) []

-- ---- purging

-- whether the job is purged: no without the parameter
unfoldable pub purge_in : List ℕ → Result Bool Refusal
purge_in query = elim (parameter (codes "purge") query) [
  | None ↦ Ok false
  | Some value ↦
      if bytes_eq value (codes "true") || bytes_eq value (codes "1") then Ok true
      else if length value == 0 || bytes_eq value (codes "false") || bytes_eq value (codes "0") then Ok false
      else Err (BadField Member.Purge)
]

-- ---- the index of events

-- digits alone, one or more, whose number is below 2^64
abbrev pub is_number : List ℕ → Bool
is_number value =
    list_all is_ascii_digit value && (nat_lt 0 (length value) && nat_lt (digits_value 10 value) (2 ^ 64))

-- the index from which events are requested: 0 without the parameter
unfoldable pub index_in : List ℕ → Result ℕ Refusal
index_in query = elim (parameter (codes "index") query) [
  | None ↦ Ok 0
  | Some value ↦ if is_number value then Ok (digits_value 10 value) else Err (BadField Member.Index)
]
