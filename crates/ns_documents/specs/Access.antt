-- The documents of policies and tokens.
use Rattle.std.specs.Prelude.{ℕ, nat_le, not, List, [], length, Option, Some, None, Result, Ok, Err, codes}
use Rattle.std.specs.Prelude.{if◌then◌else◌}
use Rattle.std.specs.Str.{bytes_eq}
use Rattle.serde_json.specs.Data.{Data}
use Rattle.serde_json.specs.Find.{as_str}
use Rattle.ns_types.specs.declared.acl.Policy.{Policy}
use Rattle.ns_types.specs.declared.acl.Rule.{Rule}
use Rattle.ns_types.specs.declared.acl.Token.{Token}
use Rattle.ns_types.specs.declared.acl.TokenKind.{TokenKind}
use Rattle.ns_types.specs.declared.name.NameKind.TheVariants as NameKind
use Rattle.ns_types.specs.declared.refusal.Member.TheVariants as Member
use Rattle.ns_types.specs.declared.refusal.Refusal.TheVariants.{BadField}
use Rattle.ns_json.specs.Reading.{◌>>=◌, Read, top, present, demanded, or_else, or_refuse, a_text, unless}
use Rattle.ns_policy.specs.declared.fault.RuleFault.{RuleFault}
use Rattle.ns_policy.specs.Json.{rules_of}
use Rattle.ns_documents.specs.declared.token.TokenDocument.{TokenDocument}
use Rattle.ns_documents.specs.Members.{description_in, names_in}

-- ---- policies

abbrev pub max_rules : ℕ
max_rules = 65536

unfoldable pub rules_text_in : Data → Read (List ℕ)
rules_text_in d = do
  text ← or_refuse Member.Rules (as_str d)
  unless (not (nat_le (length text) max_rules)) Member.Rules text

-- any fault in the text of the rules refuses the member `Rules`
abbrev pub or_bad_rules : Result (List Rule) RuleFault → Read (List Rule)
or_bad_rules (Ok rules) = Ok rules
or_bad_rules (Err fault) = Err (BadField Member.Rules)

unfoldable pub policy_in : Data → Read Policy
policy_in d = do
  top ← top d
  description ← description_in top
  text ← demanded Member.Rules top
  text ← rules_text_in text
  rules ← or_bad_rules (rules_of text)
  Ok (record { description = description; text = text; rules = rules })

-- ---- tokens

unfoldable pub token_kind_of : List ℕ → Option TokenKind
token_kind_of s = if bytes_eq s (codes "client") then Some TokenKind.Client else if bytes_eq s (codes "management")
    then Some TokenKind.Management else None

unfoldable pub token_kind_in : Data → Read TokenKind
token_kind_in d = do
  s ← a_text Member.Type d
  or_refuse Member.Type (token_kind_of s)

unfoldable pub token_in : Data → Read TokenDocument
token_in d = do
  top ← top d
  name ← or_else [] (a_text Member.Name) (present Member.Name top)
  kind ← or_else TokenKind.Client token_kind_in (present Member.Type top)
  policies ← or_else [] (names_in Member.Policies NameKind.Policy 64) (present Member.Policies top)
  Ok (record { name = name; kind = kind; policies = policies })

abbrev pub with_accessor : List ℕ → TokenDocument → Token
with_accessor accessor d = record { accessor = accessor; name = d.name; kind = d.kind; policies = d.policies }
