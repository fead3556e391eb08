-- Parts of JSON texts, and what writing them adds.
use Rattle.std.specs.Prelude.{◌≡◌, ◌+◌, ◌<◌, ◌≤◌, List, ◌++◌, Result, MatchResult, OnOk, decimal}
use Rattle.std.specs.Fmt.{signed_decimal}
use Rattle.json.specs.Token.{Token}
use Rattle.json.specs.Tree.{room, json_tokens}
use Rattle.json.specs.Written.{Written}
use Rattle.serde_json.specs.Data.{Data}
use Rattle.serde_json.specs.Written.{outline}
use Rattle.ns_json.specs.declared.part.Part.{Part}

abbrev pub token_of : Part → Token
token_of Part.BeginObject = Token.begin_object
token_of Part.EndObject = Token.end_object
token_of Part.BeginArray = Token.begin_array
token_of Part.EndArray = Token.end_array
token_of (Part.Key s) = Token.key s.now
token_of (Part.Text s) = Token.string s.now
token_of (Part.Number n) = Token.number (decimal n)
token_of (Part.Signed n) = Token.number (signed_decimal n)
token_of (Part.Flag b) = Token.boolean b
token_of Part.Null = Token.null

abbrev pub tokens_of : Data → List Token
tokens_of d = json_tokens (outline d)

-- The tokens were written behind those before. Writing fails only if there was no room for them.
pub record Adds {E : Type 0} (r : Result (Unit {0}) E) (old new : Written) (ts : List Token) : Type 0 where
  pub ok : OnOk r (new.tokens ≡ old.tokens ++ ts)
  pub before : new.before ≡ old.before
  pub room : MatchResult r (λ _. old.spare ≤ new.spare + room ts) (λ _. old.spare < room ts)

-- The tokens were written behind those before; nothing is said of a failure.
pub record Follows (old new : Written) (ts : List Token) : Type 0 where
  pub tokens : new.tokens ≡ old.tokens ++ ts
  pub before : new.before ≡ old.before
