-- The secret that a request names.
use Rattle.std.specs.Prelude.{ℕ, List, [], ◌∷◌, Option, Some, None, codes, if◌then◌else◌}
use Rattle.ns_types.specs.declared.name.NameKind.TheVariants as NameKind
use Rattle.ns_types.specs.State.Name.{is_name}

-- a text that is no secret
abbrev pub unknown : List ℕ
unknown = codes " "

-- the token's text if it can be a secret, otherwise the unknown one
abbrev pub known : List ℕ → List ℕ
known token = if is_name NameKind.Secret token then token else unknown

-- the secret of a token: none if there is no token or it is empty, and unknown if the token cannot be a secret
abbrev pub secret_of : Option (List ℕ) → Option (List ℕ)
secret_of None = None
secret_of (Some []) = None
secret_of (Some (b ∷ token)) = Some (known (b ∷ token))
