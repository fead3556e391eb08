-- Parameters.
use Rattle.std.proofs.Common.{◌≡◌, ℕ, List, ◌∷◌, Option, Some, None, Bool, true, false, cond, refl, sym, ap, ◌∙◌}
use Rattle.std.specs.Option.{option_or}
use Rattle.std.specs.Prelude.{bytes_eq, codes, find, option_map}
use Rattle.form_urlencoded.specs.Form.{DecodesTo, raw_pairs}
use Rattle.ns_request.specs.declared.parameters.QueryValues.{QueryValues}
use Rattle.ns_request.specs.Parameters.{value_in, text_of, parameter}
use Rattle.ns_request.specs.Values.{kept, no_values, values_of, values_with}

abbrev Pairs : Type 0
Pairs = List (List ℕ × List ℕ)

-- by the test of the first pair's name
first_value : (wanted name value key : List ℕ) (rest : Pairs) (b : Bool) → DecodesTo name key → bytes_eq key wanted ≡ b
    → value_in wanted ((name, value) ∷ rest) ≡ cond b (Some (text_of value)) (value_in wanted rest)
first_value wanted name value key rest b decodes e =
    let named : bytes_eq (text_of name) wanted ≡ b = ap (λ x. bytes_eq x wanted) (sym decodes.2) ∙ e in
    ap (λ v. option_map (λ (pair : List ℕ × List ℕ). text_of pair.1) (cond v (Some (name, value)) (find (λ pair. bytes_eq (text_of pair.0) wanted) rest))) named
    ∙ by b
  where
    by : (v : Bool) → option_map (λ (pair : List ℕ × List ℕ). text_of pair.1)
        (cond v (Some (name, value)) (find (λ pair. bytes_eq (text_of pair.0) wanted) rest))
        ≡ cond v (Some (text_of value)) (value_in wanted rest)
    by true = refl
    by false = refl

-- one pair more
kept-first : (wanted name value key text : List ℕ) (old : Option (List ℕ)) (rest : Pairs) → DecodesTo name key → DecodesTo value text
    → option_or (kept wanted key text old) (value_in wanted rest) ≡ option_or old (value_in wanted ((name, value) ∷ rest))
kept-first wanted name value key text old rest decodes shows =
    by (bytes_eq key wanted) old ∙ sym (ap (option_or old) (first_value wanted name value key rest (bytes_eq key wanted) decodes refl))
  where
    by : (b : Bool) (old : Option (List ℕ)) → option_or (cond b (option_or old (Some text)) old) (value_in wanted rest)
        ≡ option_or old (cond b (Some (text_of value)) (value_in wanted rest))
    by true None = ap (λ x. let o : Option (List ℕ) = Some x in o) shows.2
    by true (Some o) = refl
    by false old = refl

-- the values so far, else those of the pairs that are left
abbrev pub joined : QueryValues → Pairs → QueryValues
joined values left = record {
  namespace = option_or values.namespace (value_in (codes "namespace") left);
  filter = option_or values.filter (value_in (codes "filter") left);
  per_page = option_or values.per_page (value_in (codes "per_page") left);
  next_token = option_or values.next_token (value_in (codes "next_token") left);
  index = option_or values.index (value_in (codes "index") left);
  prefix = option_or values.prefix (value_in (codes "prefix") left);
  purge = option_or values.purge (value_in (codes "purge") left);
}

pub joined-none : (query : List ℕ) (left : Pairs) → left ≡ raw_pairs query →
    joined no_values left ≡ values_of query
unfolding parameter
joined-none query left is = rw is

-- what stands for these values still does with one pair more
pub joined-first : (name value key text : List ℕ) (old new values : QueryValues) (left rest : Pairs) → left ≡ (name, value) ∷ rest →
    DecodesTo name key → DecodesTo value text → new ≡ values_with key text old → joined old left ≡ values → joined new rest ≡ values
joined-first name value key text old new values left rest is decodes shows kept same =
    let namespace = kept-first (codes "namespace") name value key text old.namespace rest decodes shows in
    let filter = kept-first (codes "filter") name value key text old.filter rest decodes shows in
    let per_page = kept-first (codes "per_page") name value key text old.per_page rest decodes shows in
    let next_token = kept-first (codes "next_token") name value key text old.next_token rest decodes shows in
    let index = kept-first (codes "index") name value key text old.index rest decodes shows in
    let prefix = kept-first (codes "prefix") name value key text old.prefix rest decodes shows in
    let purge = kept-first (codes "purge") name value key text old.purge rest decodes shows in
    let first : joined (values_with key text old) rest ≡ joined old left = rw is cc in
    ap (λ x. joined x rest) kept ∙ first ∙ same

or_none : (o : Option (List ℕ)) → option_or o None ≡ o
or_none None = refl
or_none (Some x) = refl
