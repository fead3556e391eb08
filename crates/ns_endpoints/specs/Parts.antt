-- The secret and the namespace of a request, and the parts of its path.
use Rattle.std.specs.Prelude.{ℕ, Option, unwrap_or, Result, Ok}
use Rattle.ns_types.specs.declared.id.IdKind.{IdKind}
use Rattle.ns_types.specs.declared.refusal.Refusal.{Refusal}
use Rattle.ns_types.specs.Wire.Http.{Asked}
use Rattle.ns_types.specs.State.Names.{Name, default_name}
use Rattle.ns_json.specs.Ids.{id_of}
use Rattle.ns_json.specs.Reading.{◌>>=◌}
use Rattle.ns_request.specs.Queries.{namespace_in, prefix_of}
use Rattle.ns_request.specs.Secrets.{secret_of}
use Rattle.ns_request.specs.Targets.{path_in, query_in, text_at}

-- ---- the secret and the namespace

-- the parameter's namespace, else the document's, else `default`
abbrev pub namespace_of : Option Name → Option Name → Name
namespace_of parameter document = unwrap_or parameter (unwrap_or document default_name)

-- the secret of a request that does not use the namespace parameter; a bad parameter is refused all the same
unfoldable pub bearer_in : Asked → Result (Option Name) Refusal
bearer_in a = do
  parameter ← namespace_in (query_in a.target)
  Ok (secret_of a.token)

-- ---- parts of the path, and the prefix

abbrev pub third_part : Asked → Name
third_part a = text_at 3 (path_in a.target)

abbrev pub fourth_part : Asked → Name
fourth_part a = text_at 4 (path_in a.target)

abbrev pub sixth_part : Asked → Name
sixth_part a = text_at 6 (path_in a.target)

-- the number of the id that the path names
abbrev pub number_in : IdKind → Asked → ℕ
number_in kind a = unwrap_or (id_of kind (third_part a)) 0

abbrev pub prefix_in : Asked → Name
prefix_in a = prefix_of (query_in a.target)
