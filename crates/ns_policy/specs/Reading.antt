-- What is returned for the text of a policy's rules.
use Rattle.std.specs.Prelude.{◌≡◌, ℕ, List, true, false, Ok, IfOk}
use Rattle.ns_types.specs.declared.acl.Rule.{Rule}
use Rattle.ns_policy.specs.Lex.{is_json}
use Rattle.ns_policy.specs.Rules.{Read, Gives, same}
use Rattle.ns_policy.specs.Json.{json_form}
use Rattle.ns_policy.specs.Tree.{Items, rules_in}
use Rattle.ns_policy.specs.Laws.{Spelling}

pub record Reads (result : Read (List Rule)) (text : List ℕ) : Type 0 where
  pub json : is_json text ≡ true → Gives same result (json_form text)
  -- a text that spells items is read as the rules, or the fault, that they mean
  pub spelled : (is : Items) → Spelling text is → Gives same result (rules_in is)
  -- no other text that is not JSON gives rules
  pub read : is_json text ≡ false → IfOk result (λ rules. (is : Items) × Spelling text is × (rules_in is ≡ Ok rules))
