-- The parts of a path, one after the other.
use Rattle.std.proofs.Common.{subst, ℕ, ◌+◌, ◌<◌, length, take, get_or}
use Rattle.std.proofs.Common.{◌≡◌, List, [], ◌∷◌, ◌++◌, Option, Some, None, Bool, true, false, ◌&&◌, ◌||◌, refl, sym, ap, ◌∙◌}
use Rattle.std.proofs.lemmas.Bool.{and_parts}
use Rattle.std.specs.Int.{w128, from_be_bytes}
use Rattle.std.specs.List.{list_all, list_any}
use Rattle.std.specs.Prelude.{is_some, option_map}
use Rattle.std.specs.Str.{is_utf8}
use Rattle.std.specs.Option.{option_or}
use Rattle.std.specs.Prelude.{bytes_eq, codes, if◌then◌else◌}
use Rattle.std.proofs.lemmas.List.Folds.{list_all_more, list_any_more}
use Rattle.std.proofs.lemmas.List.{take_more}
use Rattle.uuid.specs.Text.{parsed}
use Rattle.ns_types.specs.State.Id.{uuid_number}
use Rattle.percent_encoding.specs.Percent.{percent_decode}
use Rattle.ns_types.specs.Wire.Http.{Asked}
use Rattle.ns_request.specs.declared.endpoint.Endpoint.{Endpoint}
use Rattle.ns_request.specs.declared.endpoint.Placed.{Placed}
use Rattle.ns_request.specs.declared.part.PathPart.{PathPart}
use Rattle.ns_request.specs.declared.target.PathNames.{PathNames}
use Rattle.ns_request.specs.Finding.{found_at}
use Rattle.ns_request.specs.Judging.{judged, named_in, part_of, second_with}
use Rattle.ns_request.specs.Methods.{method_of}
use Rattle.ns_request.specs.Parts.{is_good, is_part, segment_at}
use Rattle.ns_request.specs.Targets.{first_text, has_good_parts, is_every_pool, is_placed_part, is_pool}
use Rattle.ns_request.specs.Targets.{names_every_pool, path_in, query_in, second_text, text_at}

-- a part that has a text
some_part : (part : PathPart) (segment text : List ℕ) → part_of part segment ≡ Some text →
    (is_part part segment ≡ true) × (text ≡ percent_decode segment)
some_part part segment text is = by (is_part part segment) is
  where
    by : (b : Bool) → (if b then Some (percent_decode segment) else None) ≡ Some text → (b ≡ true) × (text ≡ percent_decode segment)
    by true e = (refl, cc)
    by false e = let bad : ⊥ = cc in absurd bad

-- ---- one part more

-- the text of the first part
abbrev pub first_of : List Placed → List ℕ → Option (List ℕ)
first_of [] path = None
first_of (placed ∷ rest) path = Some (text_at placed.place path)

first_of-append : (parts : List Placed) (placed : Placed) (path : List ℕ) →
    first_of (parts ++ placed ∷ []) path ≡ option_or (first_of parts path) (Some (text_at placed.place path))
first_of-append [] placed path = refl
first_of-append (part ∷ parts) placed path = refl

-- and of the second
abbrev pub second_of : List Placed → List ℕ → Option (List ℕ)
second_of [] path = None
second_of (placed ∷ rest) path = first_of rest path

second_of-append : (parts : List Placed) (placed : Placed) (path : List ℕ) →
    second_of (parts ++ placed ∷ []) path ≡ second_with (first_of parts path) (second_of parts path) (text_at placed.place path)
second_of-append [] placed path = refl
second_of-append (part ∷ parts) placed path = first_of-append parts placed path

-- what these parts say
pub record Says (parts : List Placed) (path : List ℕ) (first second : Option (List ℕ)) (every_pool : Bool) : Type 0 where
  pub good : list_all (is_placed_part path) parts ≡ true
  pub first_is : first ≡ first_of parts path
  pub second_is : second ≡ second_of parts path
  pub every_pool_is : every_pool ≡ list_any (is_every_pool path) parts

pub says_more : (parts : List Placed) (i : ℕ) (default : Placed) (path segment text shown : List ℕ) (found : Option (List ℕ))
    (first second : Option (List ℕ)) (every_pool every : Bool) →
    i < length parts → Says (take i parts) path first second every_pool →
    segment ≡ segment_at (get_or parts i default).place path → found ≡ part_of (get_or parts i default).part segment → found ≡ Some text →
    shown ≡ text → every ≡ (is_pool (get_or parts i default).part && bytes_eq shown (codes "all")) →
    Says (take (i + 1) parts) path (option_or first (Some text)) (second_with first second text) (every_pool || every)
says_more parts i default path segment text shown found first second every_pool every within says segment_is found_is is shown_is every_is =
    let placed = get_or parts i default in
    let text_is = some_part placed.part (segment_at placed.place path) text (ap (part_of placed.part) (sym segment_is) ∙ sym found_is ∙ is) in
    record {
      good = list_all_more (is_placed_part path) parts i default within
          ∙ ap (λ b. b && is_placed_part path placed) says.good ∙ text_is.0;
      first_is = ap (λ x. option_or first (Some x)) text_is.1 ∙ ap (λ o. option_or o (Some (text_at placed.place path))) says.first_is
          ∙ sym (first_of-append (take i parts) placed path) ∙ ap (λ l. first_of l path) (sym (take_more parts i default within));
      second_is = ap (λ x. second_with first second x) text_is.1
          ∙ ap (λ o. second_with o second (text_at placed.place path)) says.first_is
          ∙ ap (λ o. second_with (first_of (take i parts) path) o (text_at placed.place path)) says.second_is
          ∙ sym (second_of-append (take i parts) placed path) ∙ ap (λ l. second_of l path) (sym (take_more parts i default within));
      every_pool_is = ap (λ b. b || every) says.every_pool_is
          ∙ ap (λ b. list_any (is_every_pool path) (take i parts) || b)
          (every_is ∙ ap (λ x. is_pool placed.part && bytes_eq x (codes "all")) (shown_is ∙ text_is.1))
          ∙ sym (list_any_more (is_every_pool path) parts i default within);
    }

-- ---- all of them

-- ---- what is found by the parts

pub named_some : (endpoint : Endpoint) (path : List ℕ) (named : PathNames) → named_in endpoint path ≡ Some named →
    (has_good_parts endpoint path ≡ true) × (named.every_pool ≡ names_every_pool endpoint path)
named_some endpoint path named is = by (has_good_parts endpoint path) is
  where
    by : (b : Bool) → (if b then Some (record {
      first = first_text endpoint path;
      second = second_text endpoint path;
      every_pool = names_every_pool endpoint path;
    }) else None) ≡ Some named
        → (b ≡ true) × (named.every_pool ≡ names_every_pool endpoint path)
    by true e = (refl, cc)
    by false e = let bad : ⊥ = cc in absurd bad

pub found_at-good : (endpoint : Endpoint) (a : Asked) (named : PathNames) → named_in endpoint (path_in a.target) ≡ Some named →
    named.every_pool ≡ false → judged endpoint (method_of a.method) (query_in a.target) ≡ found_at endpoint a
unfolding found_at
found_at-good endpoint a named is none =
    let said = named_some endpoint (path_in a.target) named is in
    let good = said.0 in
    let every : names_every_pool endpoint (path_in a.target) ≡ false = sym said.1 ∙ none in
    rw (good, every) refl

-- ---- accessors

-- an accessor is a UUID
pub accessor_parsed : (place : ℕ) (path : List ℕ) → (b : Bool) → (is_part PathPart.Accessor (segment_at place path) && b) ≡ true →
    is_some (parsed (text_at place path)) ≡ true
unfolding is_part is_good
accessor_parsed place path b h = by (parsed (text_at place path))
    (and_parts (is_utf8 (percent_decode (segment_at place path))) (is_some (uuid_number (text_at place path)))
    (and_parts (is_part PathPart.Accessor (segment_at place path)) b h).0).1
  where
    by : (o : Option (List ℕ)) → is_some (option_map (from_be_bytes w128) o) ≡ true → is_some o ≡ true
    by None e = e
    by (Some x) e = refl

-- the part that names a token is a UUID
pub token_parsed : (endpoint : Endpoint) (path name text : List ℕ) → endpoint ≡ Endpoint.Token → has_good_parts endpoint path ≡ true →
    name ≡ first_text endpoint path → text ≡ name → is_some (parsed text) ≡ true
token_parsed endpoint path name text is parts named same =
    let good : has_good_parts Endpoint.Token path ≡ true = subst (λ e. has_good_parts e path ≡ true) is parts in
    let at : name ≡ text_at 4 path = subst (λ e. name ≡ first_text e path) is named in
    subst (λ t. is_some (parsed t) ≡ true) (sym (same ∙ at)) (accessor_parsed 4 path true good)
