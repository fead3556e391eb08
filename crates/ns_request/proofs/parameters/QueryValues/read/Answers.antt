use Rattle.std.proofs.Common.{◌≡◌, ℕ, List, [], ◌∷◌, length, refl, sym, ◌∙◌, arith}
use Rattle.std.proofs.lemmas.Bool.{eqb-true}
use Rattle.form_urlencoded.proofs.OnLiterals.{form_urlencoded_on_literals}
use Rattle.ns_request.specs.Parameters.{parameter}
use Rattle.ns_request.specs.Values.{no_values, values_of}
use Rattle.ns_request.proofs.parameters.QueryValues.read.Goals as goal

-- an empty query has no parameters
none : (query : List ℕ) → length query ≡ 0 → no_values ≡ values_of query
unfolding parameter form_urlencoded_on_literals
none [] e = refl
none (b ∷ query) e = absurd (omega arith)

pub returns-then-is_empty : goal.returns-then-is_empty
returns-then-is_empty c = none c.args.text.now (eqb-true _ _ (sym c.is_empty.ensures ∙ c.if-is_empty.true))
