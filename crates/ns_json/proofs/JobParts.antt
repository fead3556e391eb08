-- The tokens of the lists in a job's reply, between those before and after them.
use Rattle.std.proofs.Common.{◌≡◌, List, ◌∷◌, [], ◌++◌, sym, ap, ◌∙◌, append_assoc, map}
use Rattle.std.specs.List.{flat_map}
use Rattle.json.specs.Token.{Token, end_array}
use Rattle.json.specs.Tree.{items_tokens}
use Rattle.serde_json.specs.Data.{Data}
use Rattle.serde_json.specs.View.{items_of}
use Rattle.serde_json.specs.Written.{items_outline}
use Rattle.ns_types.specs.declared.job.Constraint.{Constraint}
use Rattle.ns_types.specs.declared.job.Group.{Group}
use Rattle.ns_json.specs.Part.{tokens_of}
use Rattle.ns_json.specs.Rendering.{constraint_json, group_json}
use Rattle.ns_json.proofs.Parts.{list_tokens}

abbrev pub constraint_tokens : List Constraint → List Token
constraint_tokens = flat_map (λ c. tokens_of (constraint_json c))

abbrev pub group_tokens : List Group → List Token
group_tokens = flat_map (λ g. tokens_of (group_json g))

-- two lists between three runs of tokens
pub regroup : (a c m g t : List Token) → (((a ++ c) ++ m) ++ g) ++ t ≡ a ++ (c ++ (m ++ (g ++ t)))
regroup a c m g t = simp append_assoc

-- a list, its closing bracket, and what comes after
pub list_then : {X : Type 0} (json : X → Data) (xs : List X) (rest : List Token) → flat_map (λ x. tokens_of (json x)) xs ++
    end_array ∷ rest ≡ items_tokens (items_outline (items_of (map json xs))) ++ rest
list_then json xs rest = sym (append_assoc (flat_map (λ x. tokens_of (json x)) xs) (end_array ∷ []) rest) ∙ ap (λ t. t ++ rest) (sym (list_tokens json xs))
