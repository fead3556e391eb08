-- The path and the query of a target, and the parts of the path.
use Rattle.std.specs.Prelude.{ℕ, ◌==◌, Bool, true, false, ◌&&◌, List, [], ◌∷◌, codes, bytes_eq}
use Rattle.std.specs.List.{list_all, list_any, before_first, after_first}
use Rattle.percent_encoding.specs.Percent.{percent_decode}
use Rattle.ns_types.specs.declared.name.NameKind.TheVariants as NameKind
use Rattle.ns_request.specs.declared.endpoint.Endpoint.{Endpoint}
use Rattle.ns_request.specs.declared.endpoint.Placed.{Placed}
use Rattle.ns_request.specs.declared.part.PathPart.{PathPart}
use Rattle.ns_request.specs.Parts.{is_part, segment_at}
use Rattle.ns_request.specs.Endpoints.{parts_of}

abbrev pub is_question : ℕ → Bool
is_question b = b == 63

-- the path is the text before the first question mark, and the query is the text after it
abbrev pub path_in : List ℕ → List ℕ
path_in target = before_first is_question target

abbrev pub query_in : List ℕ → List ℕ
query_in target = after_first is_question target

abbrev pub is_placed_part : List ℕ → Placed → Bool
is_placed_part path placed = is_part placed.part (segment_at placed.place path)

-- each part of the path follows its rule
abbrev pub has_good_parts : Endpoint → List ℕ → Bool
has_good_parts endpoint path = list_all (is_placed_part path) (parts_of endpoint)

-- the text of the part at a place
abbrev pub text_at : ℕ → List ℕ → List ℕ
text_at place path = percent_decode (segment_at place path)

abbrev pub is_pool : PathPart → Bool
is_pool (PathPart.Name NameKind.Pool) = true
is_pool _ = false

abbrev pub is_every_pool : List ℕ → Placed → Bool
is_every_pool path placed = is_pool placed.part && bytes_eq (text_at placed.place path) (codes "all")

-- the path names the pool `all`, which is not a pool
abbrev pub names_every_pool : Endpoint → List ℕ → Bool
names_every_pool endpoint path = list_any (is_every_pool path) (parts_of endpoint)

abbrev pub first_text_in : List Placed → List ℕ → List ℕ
first_text_in [] path = []
first_text_in (placed ∷ rest) path = text_at placed.place path

abbrev pub second_text_in : List Placed → List ℕ → List ℕ
second_text_in [] path = []
second_text_in (placed ∷ rest) path = first_text_in rest path

-- the text of the first part that the path names, or an empty text
abbrev pub first_text : Endpoint → List ℕ → List ℕ
first_text endpoint path = first_text_in (parts_of endpoint) path

-- the text of the second part that the path names, or an empty text
abbrev pub second_text : Endpoint → List ℕ → List ℕ
second_text endpoint path = second_text_in (parts_of endpoint) path
