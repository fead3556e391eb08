-- The values of the parameters that the server knows.
use Rattle.std.specs.Prelude.{ℕ, Box, List, Option, Some, None, bytes_eq, codes, if◌then◌else◌}
use Rattle.std.specs.declared.alloc.Global.{Global}
use Rattle.std.specs.Option.{option_or}
use Rattle.ns_request.specs.declared.parameters.QueryValues.{QueryValues}
use Rattle.ns_request.specs.Parameters.{parameter}

abbrev pub no_values : QueryValues
no_values = record { namespace = None; filter = None; per_page = None; next_token = None; index = None; prefix = None; purge = None }

-- the values that are kept, or no values where none are kept
abbrev pub or_no_values : Option (Box QueryValues Global) → QueryValues
or_no_values None = no_values
or_no_values (Some kept) = kept.value

-- the values of these parameters in the query
abbrev pub values_of : List ℕ → QueryValues
values_of query = record {
  namespace = parameter (codes "namespace") query;
  filter = parameter (codes "filter") query;
  per_page = parameter (codes "per_page") query;
  next_token = parameter (codes "next_token") query;
  index = parameter (codes "index") query;
  prefix = parameter (codes "prefix") query;
  purge = parameter (codes "purge") query;
}

-- the value of the parameter `wanted`, after one more parameter was read: the first value stays
abbrev pub kept : List ℕ → List ℕ → List ℕ → Option (List ℕ) → Option (List ℕ)
kept wanted name value old = if bytes_eq name wanted then option_or old (Some value) else old

abbrev pub values_with : List ℕ → List ℕ → QueryValues → QueryValues
values_with name value old = record {
  namespace = kept (codes "namespace") name value old.namespace;
  filter = kept (codes "filter") name value old.filter;
  per_page = kept (codes "per_page") name value old.per_page;
  next_token = kept (codes "next_token") name value old.next_token;
  index = kept (codes "index") name value old.index;
  prefix = kept (codes "prefix") name value old.prefix;
  purge = kept (codes "purge") name value old.purge;
}
