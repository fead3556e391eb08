-- What is kept of rules, as more rules come.
use Rattle.std.specs.Prelude.{◌≡◌, ℕ, max, ◌<◌, ◌≤◌, Bool, true, false, cond, List, [], ◌∷◌, ◌++◌, Option, Some, None, filter, flat_map, fold}
use Rattle.std.specs.Prelude.{length, ◌+◌}
use Rattle.std.proofs.Common.{refl, sym, ap, ◌∙◌, arith, get_or, take}
use Rattle.std.proofs.lemmas.List.{append-nil, flat_map_more, take_more}
use Rattle.std.proofs.lemmas.List.Sums.{fold-append}
use Rattle.std.specs.Option.{option_map_or}
use Rattle.std.specs.FinMap.{get}
use Rattle.ns_types.specs.declared.acl.Policy.{Policy}
use Rattle.ns_types.specs.declared.acl.Rule.{Rule}
use Rattle.ns_types.specs.declared.acl.RuleKind.{RuleKind}
use Rattle.ns_types.proofs.Lists.{filter-append}
use Rattle.ns_types.proofs.Named.{same_number_refl, other_number}
use Rattle.ns_types.specs.State.Names.{Name, same_number}
use Rattle.ns_types.specs.Access.Rights.{both, no_grants, is_exact, is_match, is_of_kind, longest, merged, rules_of}
use Rattle.ns_types.specs.State.Rows.{Acl}
use Rattle.ns_acl.specs.Gathered.{gathered, merged_if_any}

abbrev size : Rule → ℕ
size rule = length rule.pattern.text

abbrev longer_of : ℕ → Rule → ℕ
longer_of most rule = max most (size rule)

-- the rules of that length
abbrev of_size : ℕ → List Rule → List Rule
of_size n rules = filter (λ rule. same_number (size rule) n) rules

-- the rules of the greatest length
abbrev top : List Rule → List Rule
top rules = of_size (longest rules) rules

-- ---- one more rule

module _ {X : Type 0} (p : X → Bool) (xs : List X) (x : X) where
  pub filter-taken : p x ≡ true → filter p (xs ++ x ∷ []) ≡ filter p xs ++ x ∷ []
  filter-taken e = filter-append p xs (x ∷ []) ∙ ap (λ b. filter p xs ++ cond b (x ∷ []) []) e

  pub filter-passed : p x ≡ false → filter p (xs ++ x ∷ []) ≡ filter p xs
  filter-passed e = filter-append p xs (x ∷ []) ∙ ap (λ b. filter p xs ++ cond b (x ∷ []) []) e ∙ append-nil (filter p xs)

merged-more : (rules : List Rule) (rule : Rule) → merged (rules ++ rule ∷ []) ≡ both (merged rules) rule.grants
merged-more rules rule = fold-append (λ grants rule. both grants rule.grants) no_grants rules (rule ∷ [])

longest-more : (rules : List Rule) (rule : Rule) → longest (rules ++ rule ∷ []) ≡ max (longest rules) (size rule)
longest-more rules rule = fold-append longer_of 0 rules (rule ∷ [])

most_grows : (most : ℕ) (rules : List Rule) → most ≤ fold longer_of most rules
most_grows most [] = omega arith
most_grows most (r ∷ rules) = let later : max most (size r) ≤ fold longer_of (max most (size r)) rules = most_grows (max most (size r)) rules in omega arith

none_so_long : (most n : ℕ) (rules : List Rule) → fold longer_of most rules < n → of_size n rules ≡ []
none_so_long most n [] h = refl
none_so_long most n (r ∷ rules) h =
    let later : max most (size r) ≤ fold longer_of (max most (size r)) rules = most_grows (max most (size r)) rules in
    let shorter : size r < n = omega arith in
    ap (λ b. cond b (r ∷ of_size n rules) (of_size n rules)) (other_number (size r) n (λ e. omega arith)) ∙ none_so_long (max most (size r)) n rules h

module _ (rules : List Rule) (rule : Rule) where
  top-shorter : size rule < longest rules → top (rules ++ rule ∷ []) ≡ top rules
  top-shorter h =
      let least : max (longest rules) (size rule) ≡ longest rules = omega arith in
      ap (λ n. of_size n (rules ++ rule ∷ [])) (longest-more rules rule ∙ least)
      ∙ filter-passed (λ rule. same_number (size rule) (longest rules)) rules rule (other_number (size rule) (longest rules) (λ e. omega arith))

  top-level : size rule ≡ longest rules → top (rules ++ rule ∷ []) ≡ top rules ++ rule ∷ []
  top-level h =
      let least : max (longest rules) (size rule) ≡ longest rules = omega arith in
      ap (λ n. of_size n (rules ++ rule ∷ [])) (longest-more rules rule ∙ least)
      ∙ filter-taken (λ rule. same_number (size rule) (longest rules)) rules rule (ap (λ n. same_number n (longest rules)) h ∙ same_number_refl (longest rules))

  top-longer : longest rules < size rule → top (rules ++ rule ∷ []) ≡ rule ∷ []
  top-longer h =
      let most : max (longest rules) (size rule) ≡ size rule = omega arith in
      ap (λ n. of_size n (rules ++ rule ∷ [])) (longest-more rules rule ∙ most)
      ∙ filter-taken (λ r. same_number (size r) (size rule)) rules rule (same_number_refl (size rule))
      ∙ ap (λ rs. rs ++ rule ∷ []) (none_so_long 0 (size rule) rules h)

module _ (target : Name) (before : List Rule) (rule : Rule) where
  pub other-more : is_exact target rule ≡ false → is_match target rule ≡ false → gathered target (before ++ rule ∷ []) ≡ gathered target before
  other-more e m = λ i. record {
    exact = merged_if_any (filter-passed (is_exact target) before rule e i);
    longest = longest (filter-passed (is_match target) before rule m i);
    matching = merged (top (filter-passed (is_match target) before rule m i));
  }

  module _ (e : is_exact target rule ≡ false) (m : is_match target rule ≡ true) where
    matches : filter (is_match target) (before ++ rule ∷ []) ≡ filter (is_match target) before ++ rule ∷ []
    matches = filter-taken (is_match target) before rule m

    pub shorter-more : size rule < (gathered target before).longest → gathered target (before ++ rule ∷ []) ≡ gathered target before
    shorter-more h =
        let least : max (longest (filter (is_match target) before)) (size rule) ≡ longest (filter (is_match target) before) = omega arith in
        λ i. record {
          exact = merged_if_any (filter-passed (is_exact target) before rule e i);
          longest = (ap longest matches ∙ longest-more (filter (is_match target) before) rule ∙ least) i;
          matching = (ap (λ rules. merged (top rules)) matches ∙ ap merged (top-shorter (filter (is_match target) before) rule h)) i;
        }

    pub longer-more : (gathered target before).longest < size rule
        → gathered target (before ++ rule ∷ []) ≡ record (gathered target before) { longest = size rule; matching = rule.grants }
    longer-more h =
        let most : max (longest (filter (is_match target) before)) (size rule) ≡ size rule = omega arith in
        λ i. record {
          exact = merged_if_any (filter-passed (is_exact target) before rule e i);
          longest = (ap longest matches ∙ longest-more (filter (is_match target) before) rule ∙ most) i;
          matching = (ap (λ rules. merged (top rules)) matches ∙ ap merged (top-longer (filter (is_match target) before) rule h)) i;
        }

    pub level-more : size rule ≡ (gathered target before).longest
        → gathered target (before ++ rule ∷ []) ≡ record (gathered target before) { matching = both (gathered target before).matching rule.grants }
    level-more h =
        let least : max (longest (filter (is_match target) before)) (size rule) ≡ longest (filter (is_match target) before) = omega arith in
        λ i. record {
          exact = merged_if_any (filter-passed (is_exact target) before rule e i);
          longest = (ap longest matches ∙ longest-more (filter (is_match target) before) rule ∙ least) i;
          matching = (ap (λ rules. merged (top rules)) matches ∙ ap merged (top-level (filter (is_match target) before) rule h) ∙
              merged-more (top (filter (is_match target) before)) rule) i;
        }

-- ---- more rules

-- the rules of the named policies
module _ (acl : Acl) (kind : RuleKind) (names : List Name) (name : Name) where
  rules_at : Option Policy → List Rule
  rules_at policy = option_map_or (λ policy. policy.rules) policy []

  rules-more : (policy : Option Policy) → get acl.policies name ≡ policy → rules_of acl kind (names ++ name ∷ []) ≡ rules_of acl kind names ++
      filter (is_of_kind kind) (rules_at policy)
  unfolding rules_at
  rules-more policy at =
      ap (filter (is_of_kind kind)) (sym (flat_map_more (λ name. option_map_or (λ policy. policy.rules) (get acl.policies name) []) [] names name))
      ∙ filter-append (is_of_kind kind) (flat_map (λ name. option_map_or (λ policy. policy.rules) (get acl.policies name) []) names) _
      ∙ ap (λ policy. rules_of acl kind names ++ filter (is_of_kind kind) (option_map_or (λ policy. policy.rules) policy [])) at

  pub rules-there : (policy : Policy) → get acl.policies name ≡ Some policy → rules_of acl kind (names ++ name ∷ []) ≡ rules_of acl kind names ++
      filter (is_of_kind kind) policy.rules
  unfolding rules_at
  rules-there policy at = rules-more (Some policy) at

  pub rules-absent : get acl.policies name ≡ None → rules_of acl kind (names ++ name ∷ []) ≡ rules_of acl kind names
  unfolding rules_at
  rules-absent at = rules-more None at ∙ append-nil (rules_of acl kind names)

pub names-more : (names : List Name) (i : ℕ) (name : Name) → i < length names → name ≡ get_or names i name → take (i + 1) names ≡ take i names ++ name ∷ []
names-more names i name h e = take_more names i name h ∙ ap (λ n. take i names ++ n ∷ []) (sym e)
