-- Tokens by secret, how they are found by accessor, and what is shown of policies.
use Rattle.std.specs.Prelude.{◌||◌, Bool, [], List, Option, find, option_map}
use Rattle.std.specs.FinMap.{contains_key, insert}
use Rattle.keyed.specs.Table.{at_slot}
use Rattle.ns_types.specs.declared.acl.Policy.{Policy}
use Rattle.ns_types.specs.declared.acl.Token.{Token}
use Rattle.ns_types.specs.declared.acl.TokenKind.TheVariants as TokenKind
use Rattle.ns_types.specs.declared.reply.Content.{Content}
use Rattle.ns_types.specs.declared.step.NewToken.{NewToken}
use Rattle.ns_types.specs.Asking.Policies.{bootstrap_accessor, has_accessor, token_of}
use Rattle.ns_types.specs.State.Names.{ByName, Name, same_name}
use Rattle.ns_types.specs.State.Rows.{Acl}

-- the token of the bootstrap secret
abbrev pub bootstrap_token : Token
bootstrap_token = record { accessor = bootstrap_accessor; name = []; kind = TokenKind.Management; policies = [] }

-- another token has the secret or the accessor of the new one
abbrev pub is_taken : NewToken → Acl → Bool
is_taken new acl = contains_key acl.tokens new.secret || has_accessor acl new.accessor

abbrev pub with_token : NewToken → ByName Token → ByName Token
with_token new tokens = insert tokens new.secret (token_of new)

-- ---- slots

abbrev pub is_of : Name → Name × Option Token → Bool
is_of accessor = at_slot (λ e. same_name accessor e.1.accessor)

-- the secret of the first token with that accessor
abbrev pub secret_in : Name → List (Name × Option Token) → Option Name
secret_in accessor slots = option_map (λ e. e.0) (find (is_of accessor) slots)

-- ---- what is shown

abbrev pub policy_content : Name → Policy → Content
policy_content name policy = Content.Policy (record { name = name; row = policy })
