-- The results on the way to a target: its parts, and then its method.
use Rattle.std.specs.Prelude.{ℕ, List, Option, Some, None, Result, Err, if◌then◌else◌}
use Rattle.std.specs.Option.{option_or}
use Rattle.percent_encoding.specs.Percent.{percent_decode}
use Rattle.ns_types.specs.declared.refusal.Refusal.{Refusal}
use Rattle.ns_request.specs.declared.endpoint.Endpoint.{Endpoint}
use Rattle.ns_request.specs.declared.method.Method.{Method}
use Rattle.ns_request.specs.declared.part.PathPart.{PathPart}
use Rattle.ns_request.specs.declared.target.PathNames.{PathNames}
use Rattle.ns_request.specs.Finding.{found_by}
use Rattle.ns_request.specs.Parts.{is_part}
use Rattle.ns_request.specs.Queries.{is_unserved}
use Rattle.ns_request.specs.Targets.{first_text, has_good_parts, names_every_pool, second_text}

-- the decoded segment, if it follows the rule of the part
abbrev pub part_of : PathPart → List ℕ → Option (List ℕ)
part_of part segment = if is_part part segment then Some (percent_decode segment) else None

-- the second text, once one more text came: the new one, if there is a first text but no second yet
abbrev pub second_with : Option (List ℕ) → Option (List ℕ) → List ℕ → Option (List ℕ)
second_with None second text = second
second_with (Some first) second text = option_or second (Some text)

-- the texts of the path's parts, if each follows its rule
abbrev pub named_in : Endpoint → List ℕ → Option PathNames
named_in endpoint path =
    if has_good_parts endpoint path
    then Some (record {
      first = first_text endpoint path;
      second = second_text endpoint path;
      every_pool = names_every_pool endpoint path;
    })
    else None

-- the query is judged before the method
abbrev pub judged : Endpoint → Option Method → List ℕ → Result (Endpoint × Method) Refusal
judged endpoint method query =
    if is_unserved endpoint method query then Err Refusal.NotServed else found_by endpoint method
