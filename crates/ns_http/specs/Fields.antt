-- The fields of a head, as the engine keeps them.
use Rattle.std.specs.Prelude.{◌≡◌, Bool, ◌&&◌, List, codes}
use Rattle.std.specs.List.{list_any}
use Rattle.ns_types.specs.Wire.Http.{Header, eq_ignore_case, lists_close, values_named}
use Rattle.ns_http.specs.declared.header.Fields.{Fields}
use Rattle.ns_http.specs.Values.{IsSummaryOf}

-- a `Connection` header that lists `close`
abbrev pub is_closing : Header → Bool
is_closing h = eq_ignore_case h.0 (codes "connection") && lists_close h.1

pub record AreFieldsOf (f : Fields) (headers : List Header) : Type 0 where
  pub lengths : IsSummaryOf f.lengths (values_named (codes "content-length") headers)
  pub codings : IsSummaryOf f.codings (values_named (codes "transfer-encoding") headers)
  pub tokens : IsSummaryOf f.tokens (values_named (codes "x-nomad-token") headers)
  pub closes : f.closes ≡ list_any is_closing headers
