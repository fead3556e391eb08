-- Whom a secret stands for, which rules count, and what they give.
use Rattle.std.specs.Prelude.{◌≡◌, ℕ, ◌≤◌, max, Bool, true, false, not, cond, ◌&&◌, ◌||◌, List, [], ◌∷◌, ◌++◌, length, take, Option, Some, None, Err, filter}
use Rattle.std.specs.Prelude.{fold, IsTrue}
use Rattle.std.proofs.Common.{refl, sym, ap, subst, ◌∙◌, arith}
use Rattle.std.specs.Cmp.Lexicographic.{same_text}
use Rattle.std.specs.FinMap.{get}
use Rattle.std.specs.List.{list_any}
use Rattle.std.specs.Option.{option_map_or}
use Rattle.ns_types.specs.declared.acl.Grants.{Grants}
use Rattle.ns_types.specs.declared.acl.Rule.{Rule}
use Rattle.ns_types.specs.declared.acl.Token.{Token}
use Rattle.ns_types.specs.declared.acl.TokenKind.TheVariants as TokenKind
use Rattle.ns_types.specs.declared.refusal.Refusal.TheVariants as Refusal
use Rattle.ns_types.specs.declared.step.AdminCommand.{AdminCommand}
use Rattle.ns_types.specs.declared.step.AskCommand.{AskCommand}
use Rattle.ns_types.specs.declared.step.NodeCommand.{NodeCommand}
use Rattle.ns_types.specs.declared.step.Step.{Step}
use Rattle.ns_types.specs.Asking.Policies.{may_administer}
use Rattle.ns_types.specs.Asking.Asks.{right_of}
use Rattle.ns_types.specs.State.Lists.{Each, is_empty}
use Rattle.ns_types.specs.State.Names.{Name, same_name, same_number}
use Rattle.ns_types.specs.Asking.Nodes.{pool_right_of}
use Rattle.ns_types.specs.Access.Rights.{Bearer, Unknown, Manager, Holder, bearer, bearer_with, no_rights, all_rights, no_grants, both, merged, granted}
use Rattle.ns_types.specs.Access.Rights.{rules_of, counting, longest, longest_match, is_exact, is_match, rights_of, rights_for, pool_rights_of, pool_rights_for}
use Rattle.ns_types.specs.Access.Rights.{is_manager, is_known}
use Rattle.ns_types.specs.State.Rows.{Acl, State}
use Rattle.ns_types.specs.Steps.{after, act, said, concluded, is_allowed}
use Rattle.ns_types.proofs.Tests.{is_no, or_none}
use Rattle.ns_types.proofs.Lists.{each_map}
use Rattle.ns_types.proofs.Named.{first_of_both, one_number, second_of_both, same_name_is}
use Rattle.ns_types.proofs.Elements.{each_kept, each_true, each_passing, filter_without, any_without}
use Rattle.ns_types.proofs.Tables.{tied}
use Rattle.ns_audit.specs.Rights as law
use Rattle.std.proofs.Math.Bool.{or_assoc}

-- ---- whom a secret stands for

pub denied_without : (step : Step) (s : State) → is_allowed step s.acl ≡ false → after step s ≡ said (Err Refusal.Denied) s
unfolding after
denied_without step s e = ap (λ b. cond b (concluded step s (act step s)) (said (Err Refusal.Denied) s)) e

unknown_bearer : (acl : Acl) (secret : Name) (by : Option Name) → get acl.tokens secret ≡ None → by ≡ Some secret → bearer acl by ≡ Unknown
unknown_bearer acl secret by none is = ap (bearer acl) is ∙ ap (λ (o : Option Token). option_map_or (λ token. bearer_with token.kind token.policies) o Unknown)
    none

manager_bearer : (acl : Acl) (secret : Name) (token : Token) (by : Option Name) → get acl.tokens secret ≡ Some token → token.kind ≡ TokenKind.Management →
    by ≡ Some secret
    → bearer acl by ≡ Manager
manager_bearer acl secret token by found kind is =
    ap (bearer acl) is ∙ ap (λ (o : Option Token). option_map_or (λ token. bearer_with token.kind token.policies) o Unknown) found ∙
    ap (λ k. bearer_with k token.policies) kind

no_right : (command : AskCommand) → right_of command no_rights ≡ false
no_right (AskCommand.ListJobs prefix) = refl
no_right (AskCommand.Register r) = refl
no_right (AskCommand.ReadJob id) = refl
no_right (AskCommand.Deregister id purge) = refl
no_right (AskCommand.JobAllocations id) = refl
no_right (AskCommand.JobEvaluations id) = refl
no_right (AskCommand.ListEvaluations prefix) = refl
no_right (AskCommand.ReadEvaluation n) = refl
no_right (AskCommand.ListAllocations prefix) = refl
no_right (AskCommand.ReadAllocation n) = refl
no_right (AskCommand.StopAllocation n) = refl
no_right AskCommand.ReadNamespace = refl
no_right (AskCommand.QuotaUsage quota) = refl
no_right (AskCommand.Events index) = refl

each_right : (command : AskCommand) → right_of command all_rights ≡ true
each_right (AskCommand.ListJobs prefix) = refl
each_right (AskCommand.Register r) = refl
each_right (AskCommand.ReadJob id) = refl
each_right (AskCommand.Deregister id purge) = refl
each_right (AskCommand.JobAllocations id) = refl
each_right (AskCommand.JobEvaluations id) = refl
each_right (AskCommand.ListEvaluations prefix) = refl
each_right (AskCommand.ReadEvaluation n) = refl
each_right (AskCommand.ListAllocations prefix) = refl
each_right (AskCommand.ReadAllocation n) = refl
each_right (AskCommand.StopAllocation n) = refl
each_right AskCommand.ReadNamespace = refl
each_right (AskCommand.QuotaUsage quota) = refl
each_right (AskCommand.Events index) = refl

same_pool_right : (b : Bool) (command : NodeCommand) → pool_right_of command (record { read = b; write = b }) ≡ b
same_pool_right b NodeCommand.ReadPool = refl
same_pool_right b NodeCommand.ListNodes = refl
same_pool_right b (NodeCommand.PutNode name offer) = refl
same_pool_right b (NodeCommand.DeleteNode name) = refl
same_pool_right b (NodeCommand.SetStatus name status) = refl
same_pool_right b (NodeCommand.SetEligible name eligible) = refl
same_pool_right b (NodeCommand.Report name r) = refl

manages : Bearer → Bool
manages Unknown = false
manages Manager = true
manages (Holder policies) = false

knows : Bearer → Bool
knows Unknown = false
knows Manager = true
knows (Holder policies) = true

by_manager : (acl : Acl) (secret : Option Name) (b : Bool) → is_manager acl secret ≡ b → is_known acl secret ≡ b → (command : AdminCommand) →
    may_administer acl secret command ≡ b
by_manager acl secret b m k AdminCommand.ListNamespaces = k
by_manager acl secret b m k (AdminCommand.PutNamespace name namespace) = m
by_manager acl secret b m k (AdminCommand.DeleteNamespace name) = m
by_manager acl secret b m k AdminCommand.ListQuotas = m
by_manager acl secret b m k (AdminCommand.ReadQuota name) = m
by_manager acl secret b m k (AdminCommand.PutQuota name quota) = m
by_manager acl secret b m k (AdminCommand.DeleteQuota name) = m
by_manager acl secret b m k AdminCommand.ListPools = k
by_manager acl secret b m k (AdminCommand.PutPool name pool) = m
by_manager acl secret b m k (AdminCommand.DeletePool name) = m
by_manager acl secret b m k (AdminCommand.ReadPolicy name) = m
by_manager acl secret b m k (AdminCommand.PutPolicy name policy) = m
by_manager acl secret b m k (AdminCommand.DeletePolicy name) = m
by_manager acl secret b m k (AdminCommand.CreateToken new) = m
by_manager acl secret b m k (AdminCommand.DeleteToken accessor) = m

administers : (acl : Acl) (secret : Option Name) (who : Bearer) (b : Bool) → bearer acl secret ≡ who → manages who ≡ b → knows who ≡ b →
    (command : AdminCommand) → may_administer acl secret command ≡ b
unfolding manages knows
administers acl secret who b is m k command = by_manager acl secret b (ap manages is ∙ m) (ap knows is ∙ k) command

unknown_denied : (acl : Acl) (secret : Name) (step : Step) → get acl.tokens secret ≡ None → law.IsBy (Some secret) step → is_allowed step acl ≡ false
unfolding rights_of pool_rights_of manages knows
unknown_denied acl secret (Step.Ask ns by command) none is =
    ap (λ who. right_of command (rights_for acl ns who)) (unknown_bearer acl secret by none is) ∙ no_right command
unknown_denied acl secret (Step.Admin by command) none is = administers acl by Unknown false (unknown_bearer acl secret by none is) refl refl command
unknown_denied acl secret (Step.Node pool by command) none is =
    ap (λ who. pool_right_of command (pool_rights_for acl pool who)) (unknown_bearer acl secret by none is) ∙ same_pool_right false command
unknown_denied acl secret (Step.Dequeue worker ns n) none is = absurd is
unknown_denied acl secret (Step.Snap worker ns) none is = absurd is
unknown_denied acl secret (Step.Submit worker ns) none is = absurd is
unknown_denied acl secret (Step.Apply worker ns) none is = absurd is
unknown_denied acl secret (Step.Finish worker ns) none is = absurd is
unknown_denied acl secret (Step.Nack worker ns) none is = absurd is

pub unknown_is_denied : law.UnknownIsDenied
unknown_is_denied s secret step none is = denied_without step s (unknown_denied s.acl secret step none is)

pub manager_is_allowed : law.ManagerIsAllowed
unfolding rights_of pool_rights_of manages knows
manager_is_allowed acl secret token (Step.Ask ns by command) found kind is =
    ap (λ who. right_of command (rights_for acl ns who)) (manager_bearer acl secret token by found kind is) ∙ each_right command
manager_is_allowed acl secret token (Step.Admin by command) found kind is = administers acl by Manager true (manager_bearer acl secret token by found kind is)
    refl refl command
manager_is_allowed acl secret token (Step.Node pool by command) found kind is =
    ap (λ who. pool_right_of command (pool_rights_for acl pool who)) (manager_bearer acl secret token by found kind is) ∙ same_pool_right true command
manager_is_allowed acl secret token (Step.Dequeue worker ns n) found kind is = absurd is
manager_is_allowed acl secret token (Step.Snap worker ns) found kind is = absurd is
manager_is_allowed acl secret token (Step.Submit worker ns) found kind is = absurd is
manager_is_allowed acl secret token (Step.Apply worker ns) found kind is = absurd is
manager_is_allowed acl secret token (Step.Finish worker ns) found kind is = absurd is
manager_is_allowed acl secret token (Step.Nack worker ns) found kind is = absurd is

-- ---- what rules give

-- of a right that two rules give together where one of them does
merged_gives : (right : Grants → Bool) → ((a b : Grants) → right (both a b) ≡ (right a || right b)) → (start : Grants) (rules : List Rule)
    → right (fold (λ grants rule. both grants rule.grants) start rules) ≡ (right start || list_any (λ rule. right rule.grants) rules)
merged_gives right joins start [] = sym (or_none (right start))
merged_gives right joins start (rule ∷ rules) =
    merged_gives right joins (both start rule.grants) rules ∙ ap (λ b. b || list_any (λ rule. right rule.grants) rules) (joins start rule.grants)
    ∙ or_assoc (right start) (right rule.grants) (list_any (λ rule. right rule.grants) rules)

pub deny_gives_nothing : law.DenyGivesNothing
unfolding granted
deny_gives_nothing acl kind policies target e =
    let rules = counting target (rules_of acl kind policies) in
    ap (λ b. cond b no_grants (merged rules)) (merged_gives (λ g. g.deny) (λ a b. refl) no_grants rules ∙ e)

pub some_rule_gives : law.SomeRuleGives
unfolding granted
some_rule_gives acl kind policies target e =
    let rules = counting target (rules_of acl kind policies) in
    let all : granted acl kind policies target ≡ merged rules =
    ap (λ b. cond b no_grants (merged rules)) (merged_gives (λ g. g.deny) (λ a b. refl) no_grants rules ∙ e) in record {
      list_jobs = ap (λ (g : Grants). g.list_jobs) all ∙ merged_gives (λ g. g.list_jobs) (λ a b. refl) no_grants rules;
      read_job = ap (λ (g : Grants). g.read_job) all ∙ merged_gives (λ g. g.read_job) (λ a b. refl) no_grants rules;
      submit_job = ap (λ (g : Grants). g.submit_job) all ∙ merged_gives (λ g. g.submit_job) (λ a b. refl) no_grants rules;
      alloc_lifecycle = ap (λ (g : Grants). g.alloc_lifecycle) all ∙ merged_gives (λ g. g.alloc_lifecycle) (λ a b. refl) no_grants rules;
      read_pool = ap (λ (g : Grants). g.read_pool) all ∙ merged_gives (λ g. g.read_pool) (λ a b. refl) no_grants rules;
      write_pool = ap (λ (g : Grants). g.write_pool) all ∙ merged_gives (λ g. g.write_pool) (λ a b. refl) no_grants rules;
    }

-- ---- which rules count

empty_kept : {X : Type 0} (p : X → Bool) (xs : List X) → is_empty (filter p xs) ≡ not (list_any p xs)
empty_kept p [] = refl
empty_kept p (x ∷ xs) = by (p x) (empty_kept p xs)
  where
    by : (b : Bool) → is_empty (filter p xs) ≡ not (list_any p xs) → is_empty (cond b (x ∷ filter p xs) (filter p xs)) ≡ not (b || list_any p xs)
    by true rest = refl
    by false rest = rest

exact_counts : (target : Name) (rules : List Rule) → list_any (is_exact target) rules ≡ true → counting target rules ≡ filter (is_exact target) rules
exact_counts target rules e =
    ap (λ b. cond b (longest_match target rules) (filter (is_exact target) rules)) (empty_kept (is_exact target) rules ∙ ap not e)

star_counts : (target : Name) (rules : List Rule) → list_any (is_exact target) rules ≡ false → counting target rules ≡ longest_match target rules
star_counts target rules e =
    ap (λ b. cond b (longest_match target rules) (filter (is_exact target) rules)) (empty_kept (is_exact target) rules ∙ ap not e)

not_exact : (target : Name) (rule : Rule) → rule.pattern.is_prefix ≡ true → is_exact target rule ≡ false
not_exact target rule e = ap (λ b. not b && same_name rule.pattern.text target) e

pub exact_before_stars : law.ExactBeforeStars
exact_before_stars target before later rule some star =
    let no = not_exact target rule star in
    exact_counts target (before ++ rule ∷ later) (any_without (is_exact target) before later rule no ∙ some)
    ∙ filter_without (is_exact target) before later rule no ∙ sym (exact_counts target (before ++ later) some)

pub others_do_not_count : law.OthersDoNotCount
others_do_not_count target before later rule other none = by (list_any (is_exact target) (before ++ later)) refl
  where
    any : list_any (is_exact target) (before ++ rule ∷ later) ≡ list_any (is_exact target) (before ++ later)
    any = any_without (is_exact target) before later rule other

    of : List Rule → List Rule
    of matching = filter (λ r. same_number (length r.pattern.text) (longest matching)) matching

    by : (b : Bool) → list_any (is_exact target) (before ++ later) ≡ b → counting target (before ++ rule ∷ later) ≡ counting target (before ++ later)
    by true e = exact_counts target (before ++ rule ∷ later) (any ∙ e) ∙ filter_without (is_exact target) before later rule other ∙
        sym (exact_counts target (before ++ later) e)
    by false e = star_counts target (before ++ rule ∷ later) (any ∙ e) ∙ ap of (filter_without (is_match target) before later rule none) ∙
        sym (star_counts target (before ++ later) e)

longest_is : (rules : List Rule) (n : ℕ) → (n ≤ fold (λ most rule. max most (length rule.pattern.text)) n rules)
    × Each (λ rule. length rule.pattern.text ≤ fold (λ most rule. max most (length rule.pattern.text)) n rules) rules
longest_is [] n = (omega arith, tt)
longest_is (rule ∷ rules) n =
    let rest = longest_is rules (max n (length rule.pattern.text)) in
    (omega (arith, rest.0), (omega (arith, rest.0), rest.1))

pub longest_star_counts : law.LongestStarCounts
longest_star_counts target rules none =
    let matching = filter (is_match target) rules in
    let most = each_passing (λ other. length other.pattern.text ≤ longest matching) (is_match target) rules (longest_is matching 0).1 in
    subst (Each (λ rule. IsTrue (is_match target rule) × Each (λ other. IsTrue (is_match target other) → length other.pattern.text ≤ length rule.pattern.text)
    rules))
    (sym (star_counts target rules none))
    (each_map (λ rule h. (
      h.0,
      each_map (λ other f match. omega (
        arith,
        f match,
        tied one_number (length rule.pattern.text) (longest matching) h.1,
      )) rules most,
    ))
    (longest_match target rules)
    (each_kept (λ rule. is_match target rule ≡ true) (λ rule. same_number (length rule.pattern.text) (longest matching)) matching
    (each_map (λ rule h. h.1) matching (each_kept (λ _. Unit {0}) (is_match target) rules (each_true rules)))))

all_alike : (text : Name) (is_prefix : Bool) (rules : List Rule) → Each (λ r. (r.pattern.text ≡ text) × (r.pattern.is_prefix ≡ is_prefix)) rules
    → Each (λ a. Each (λ b. law.SamePattern a.pattern b.pattern) rules) rules
all_alike text is_prefix rules h = each_map (λ a e. each_map (λ b f. (e.0 ∙ sym f.0, e.1 ∙ sym f.1)) rules h) rules h

exact_text : (target : Name) (rule : Rule) → is_exact target rule ≡ true → (rule.pattern.text ≡ target) × (rule.pattern.is_prefix ≡ false)
exact_text target rule e = (
  same_name_is rule.pattern.text target (second_of_both (not rule.pattern.is_prefix) _ e),
  is_no rule.pattern.is_prefix
      (first_of_both (not rule.pattern.is_prefix) _ e),
)

star_text : (target : Name) (rule : Rule) (n : ℕ) → is_match target rule ≡ true → length rule.pattern.text ≡ n → (rule.pattern.text ≡ take n target) ×
    (rule.pattern.is_prefix ≡ true)
star_text target rule n e is = (
  same_text rule.pattern.text (take (length rule.pattern.text) target) (sym (second_of_both rule.pattern.is_prefix _ e)) ∙ ap (λ k. take k target) is,
  first_of_both rule.pattern.is_prefix _ e,
)

pub one_pattern_counts : law.OnePatternCounts
one_pattern_counts target rules = by (list_any (is_exact target) rules) refl
  where
    AllAlike : List Rule → Type 0
    AllAlike chosen = Each (λ a. Each (λ b. law.SamePattern a.pattern b.pattern) chosen) chosen

    by : (b : Bool) → list_any (is_exact target) rules ≡ b → AllAlike (counting target rules)
    by true e = subst AllAlike (sym (exact_counts target rules e))
        (all_alike target false (filter (is_exact target) rules)
        (each_map (λ rule h. exact_text target rule h.1) (filter (is_exact target) rules)
        (each_kept (λ _. Unit {0}) (is_exact target) rules (each_true rules))))
    by false e =
        let matching = filter (is_match target) rules in
        let matches = each_map (λ rule h. h.1) matching (each_kept (λ _. Unit {0}) (is_match target) rules (each_true rules)) in
        subst AllAlike (sym (star_counts target rules e))
        (all_alike (take (longest matching) target) true (longest_match target rules)
        (each_map (λ rule h. star_text target rule (longest matching) h.0
        (tied one_number (length rule.pattern.text) (longest matching) h.1)) (longest_match target rules)
        (each_kept (λ rule. is_match target rule ≡ true) (λ rule. same_number (length rule.pattern.text) (longest matching)) matching matches)))

pub unknown_has_no_right : law.UnknownHasNoRight
unfolding rights_of pool_rights_of
unknown_has_no_right acl secret name none = (
  ap (rights_for acl name) (unknown_bearer acl secret (Some secret) none refl),
  ap (pool_rights_for acl name)
      (unknown_bearer acl secret (Some secret) none refl),
)
