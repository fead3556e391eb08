-- The parts of a path.
use Rattle.std.specs.Prelude.{ℕ, ◌==◌, Bool, ◌&&◌, List, [], is_some, unwrap_or, slice_get}
use Rattle.std.specs.List.{slice_split}
use Rattle.std.specs.Str.{is_utf8}
use Rattle.percent_encoding.specs.Percent.{percent_decode}
use Rattle.ns_types.specs.State.Id.{uuid_number}
use Rattle.ns_types.specs.State.Name.{is_name}
use Rattle.ns_json.specs.Ids.{id_of}
use Rattle.ns_request.specs.declared.part.PathPart.{PathPart}

abbrev pub slash : ℕ
slash = 47

-- what stands between the slashes; the first segment of `/v1/jobs` is empty
abbrev pub segments_of : List ℕ → List (List ℕ)
segments_of path = slice_split (λ b. b == slash) path

-- the segment at a place, or none
abbrev pub segment_at : ℕ → List ℕ → List ℕ
segment_at place path = unwrap_or (slice_get (segments_of path) place) []

-- the text follows the rule of its part
unfoldable pub is_good : PathPart → List ℕ → Bool
is_good (PathPart.Name kind) text = is_name kind text
is_good (PathPart.Id kind) text = is_some (id_of kind text)
is_good PathPart.Accessor text = is_some (uuid_number text)

-- the decoded segment is UTF-8 and follows the rule of its part
unfoldable pub is_part : PathPart → List ℕ → Bool
is_part part segment = is_utf8 (percent_decode segment) && is_good part (percent_decode segment)
