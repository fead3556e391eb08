-- The texts of a path's parts follow the rules of their parts.
use Rattle.std.proofs.Common.{◌≡◌, ℕ, List, ◌∷◌, true, sym, ap, subst, ◌∙◌}
use Rattle.std.proofs.lemmas.Bool.{and_parts}
use Rattle.std.specs.Prelude.{is_some}
use Rattle.std.specs.Str.{is_utf8}
use Rattle.std.specs.List.{list_all}
use Rattle.percent_encoding.specs.Percent.{percent_decode}
use Rattle.ns_types.specs.declared.id.IdKind.{IdKind}
use Rattle.ns_types.specs.declared.name.NameKind.{NameKind}
use Rattle.ns_types.specs.State.Name.{is_name}
use Rattle.ns_json.specs.Ids.{id_of}
use Rattle.ns_request.specs.declared.endpoint.Endpoint.{Endpoint}
use Rattle.ns_request.specs.declared.endpoint.Placed.{Placed}
use Rattle.ns_request.specs.declared.part.PathPart.TheVariants as PathPart
use Rattle.ns_request.specs.Endpoints.{parts_of}
use Rattle.ns_request.specs.Parts.{is_good, is_part, segment_at}
use Rattle.ns_request.specs.Targets.{first_text, first_text_in, has_good_parts, is_placed_part, second_text, second_text_in, text_at}

placed_is_good : (placed : Placed) (path : List ℕ) → is_placed_part path placed ≡ true → is_good placed.part (text_at placed.place path) ≡ true
unfolding is_part
placed_is_good placed path h =
    let segment = segment_at placed.place path in
    (and_parts (is_utf8 (percent_decode segment)) (is_good placed.part (percent_decode segment)) h).1

-- of a path of this endpoint, whose parts are these
pub first_is_good : (endpoint at : Endpoint) (placed : Placed) (rest : List Placed) (path name : List ℕ) → endpoint ≡ at → parts_of at ≡ placed ∷ rest →
    has_good_parts endpoint path ≡ true → name ≡ first_text endpoint path → is_good placed.part name ≡ true
first_is_good endpoint at placed rest path name is parts good named =
    let same : parts_of endpoint ≡ placed ∷ rest = ap parts_of is ∙ parts in
    let all : list_all (is_placed_part path) (placed ∷ rest) ≡ true = subst (λ l. list_all (is_placed_part path) l ≡ true) same good in
    let text : name ≡ text_at placed.place path = named ∙ ap (λ l. first_text_in l path) same in
    subst (λ t. is_good placed.part t ≡ true) (sym text)
    (placed_is_good placed path (and_parts (is_placed_part path placed) (list_all (is_placed_part path) rest) all).0)

pub second_is_good : (endpoint at : Endpoint) (first placed : Placed) (rest : List Placed) (path name : List ℕ) → endpoint ≡ at →
    parts_of at ≡ first ∷ placed ∷ rest → has_good_parts endpoint path ≡ true → name ≡ second_text endpoint path → is_good placed.part name ≡ true
second_is_good endpoint at first placed rest path name is parts good named =
    let same : parts_of endpoint ≡ first ∷ placed ∷ rest = ap parts_of is ∙ parts in
    let all : list_all (is_placed_part path) (first ∷ placed ∷ rest) ≡ true = subst (λ l. list_all (is_placed_part path) l ≡ true) same good in
    let text : name ≡ text_at placed.place path = named ∙ ap (λ l. second_text_in l path) same in
    let later = (and_parts (is_placed_part path first) (list_all (is_placed_part path) (placed ∷ rest)) all).1 in
    subst (λ t. is_good placed.part t ≡ true) (sym text)
    (placed_is_good placed path (and_parts (is_placed_part path placed) (list_all (is_placed_part path) rest) later).0)

-- the same where the part is a name, or an id
pub first_is_name : (kind : NameKind) (place : ℕ) (endpoint at : Endpoint) (rest : List Placed) (path name : List ℕ) → endpoint ≡ at →
    parts_of at ≡ record { place = place; part = PathPart.Name kind } ∷ rest → has_good_parts endpoint path ≡ true → name ≡ first_text endpoint path →
    is_name kind name ≡ true
unfolding is_good
first_is_name kind place endpoint at rest path name is parts good named =
    first_is_good endpoint at (record { place = place; part = PathPart.Name kind }) rest path name is parts good named

pub second_is_name : (kind : NameKind) (place : ℕ) (endpoint at : Endpoint) (first : Placed) (rest : List Placed) (path name : List ℕ) → endpoint ≡ at →
    parts_of at ≡ first ∷ record { place = place; part = PathPart.Name kind } ∷ rest → has_good_parts endpoint path ≡ true →
    name ≡ second_text endpoint path → is_name kind name ≡ true
unfolding is_good
second_is_name kind place endpoint at first rest path name is parts good named =
    second_is_good endpoint at first (record { place = place; part = PathPart.Name kind }) rest path name is parts good named

pub first_is_id : (kind : IdKind) (place : ℕ) (endpoint at : Endpoint) (rest : List Placed) (path name : List ℕ) → endpoint ≡ at →
    parts_of at ≡ record { place = place; part = PathPart.Id kind } ∷ rest → has_good_parts endpoint path ≡ true → name ≡ first_text endpoint path →
    is_some (id_of kind name) ≡ true
unfolding is_good
first_is_id kind place endpoint at rest path name is parts good named =
    first_is_good endpoint at (record { place = place; part = PathPart.Id kind }) rest path name is parts good named
