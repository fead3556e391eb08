-- The documents of administrators and nodes that are written and read back.
use Rattle.std.proofs.Common.{◌≡◌, ℕ, ◌+◌, ◌<◌, ◌≤◌, ◌^◌, ◌==◌, List, [], ◌∷◌, ◌++◌, length, map}
use Rattle.std.proofs.Common.{Bool, true, false, not, ◌&&◌, ◌||◌, nat_le, nat_lt}
use Rattle.std.proofs.Common.{Option, Some, None, is_some, Ok, codes, refl, sym, ap, ◌∙◌, arith, length-append, append_assoc, append-nil}
use Rattle.std.proofs.lemmas.Bool.{le-leb, lt-leb, lt-ltb, leb-true, ne_eqb, not-true, and_from, or_parts, or_from, true≢false, false≢true}
use Rattle.std.proofs.lemmas.Map.Text.{is_eq-slice_cmp}
use Rattle.std.specs.List.{list_all}
use Rattle.std.specs.Option.{option_map_or, is_none}
use Rattle.std.specs.Str.{bytes_eq}
use Rattle.serde_json.specs.Data.{Data, string}
use Rattle.ns_types.proofs.Amounts.{true_at}
use Rattle.ns_types.specs.declared.acl.Policy.{Policy}
use Rattle.ns_types.specs.declared.acl.TokenKind.{TokenKind}
use Rattle.ns_types.specs.declared.name.NameKind.{NameKind}
use Rattle.ns_types.specs.declared.node.Attribute.{Attribute}
use Rattle.ns_types.specs.declared.node.Offer.{Offer}
use Rattle.ns_types.specs.declared.records.Namespace.{Namespace}
use Rattle.ns_types.specs.declared.records.Pool.{Pool}
use Rattle.ns_types.specs.declared.records.Quota.{Quota}
use Rattle.ns_types.specs.declared.refusal.Member.{Member}
use Rattle.ns_types.specs.declared.resources.Limit.{Limit}
use Rattle.ns_types.specs.declared.resources.Limits.{Limits}
use Rattle.ns_types.specs.declared.step.NewToken.{NewToken}
use Rattle.ns_types.specs.Asking.Policies.{token_of}
use Rattle.ns_types.specs.State.Limits.{is_amount, is_between, is_distinct, is_text, is_pool_name, is_pool_list}
use Rattle.ns_types.specs.State.Limits.{is_good_namespace, is_limit, is_good_quota, are_limits, is_quantity}
use Rattle.ns_types.specs.State.Limits.{is_good_policy, is_good_token, is_good_offer}
use Rattle.ns_types.specs.State.Lists.{is_empty}
use Rattle.ns_types.specs.State.Name.{is_name}
use Rattle.ns_types.specs.State.Names.{Name, same_name}
use Rattle.ns_types.specs.State.Names
use Rattle.ns_types.specs.State.Resources.{limits_in, Cpu, Memory, Disk, limit_on, quantity}
use Rattle.ns_types.specs.Wire.Words.{token_kind_text}
use Rattle.ns_types.proofs.Named.{first_of_both, second_of_both, same_name_is}
use Rattle.ns_json.specs.Logs.{offer_json, new_token_json}
use Rattle.ns_json.specs.Reading.{same, top, present, unless_null, demanded, or_else, some, an_object, a_text, has_name, a_list}
use Rattle.ns_json.specs.Rendering.{object_of, members_of, texts_of, allowed_json, pools_json, namespace_json, limit_json, region_limit_json}
use Rattle.ns_json.specs.Rendering.{limits_json, quota_json, pool_json, policy_json, token_json}
use Rattle.ns_policy.specs.Json.{rules_of}
use Rattle.ns_documents.specs.Access.{rules_text_in, policy_in, token_kind_of, token_kind_in, token_in}
use Rattle.ns_documents.specs.Members.{named, description_in, listed_name, names_in}
use Rattle.ns_documents.specs.Nodes.{with_attribute, each_attribute, attributes_in, amount_in, node_in}
use Rattle.ns_documents.specs.Records.{default_pool_in, pools_in, configuration_in, namespace_in, limit_in, region_limit_in, region_in, entry_in}
use Rattle.ns_documents.specs.Records.{entries_in, quota_in, pool_in}
use Rattle.ns_log_reader.proofs.Lists.{ReadBack, each_distinct, list_back}
use Rattle.ns_log_reader.proofs.Values.{text_back, name_back, number_back, if_any_back}

-- ---- lists of names

listed_back : (m : Member) (kind : NameKind) (before : List Name) (s : Name) → is_name kind s ≡ true → has_name same before s ≡ false →
    ReadBack (listed_name m kind) (λ t. string t) before s
unfolding listed_name
listed_back m kind before s h new = rw (name_back m kind s h, new) refl

same_list : (xs : List Name) → map (λ x. same x) xs ≡ xs
same_list [] = refl
same_list (x ∷ xs) = ap (λ ys. x ∷ ys) (same_list xs)

names_back : (m : Member) (kind : NameKind) (most : ℕ) (xs : List Name) → nat_le (length xs) most ≡ true → list_all (is_name kind) xs ≡ true →
    is_distinct same_name xs ≡ true → names_in m kind most (texts_of xs) ≡ Ok xs
unfolding names_in
names_back m kind most xs few all once =
    list_back m 0 most (listed_name m kind) (λ t. string t) xs (and_from (nat_le 0 (length xs)) _ (le-leb 0 (length xs) (omega arith)) few)
    (each_distinct same (is_name kind) (ReadBack (listed_name m kind) (λ t. string t)) (listed_back m kind) xs all
    (ap (is_distinct same_name) (same_list xs) ∙ once))

-- ---- namespaces

all_pools : (xs : List Name) → list_all is_pool_name xs ≡ true → (list_all (is_name NameKind.Pool) xs ≡ true) × (has_name same xs (codes "all") ≡ false)
all_pools [] h = (refl, refl)
all_pools (x ∷ xs) h =
    let here = first_of_both (is_pool_name x) (list_all is_pool_name xs) h in
    let name : is_name NameKind.Pool x ≡ true = first_of_both (is_name NameKind.Pool x) (not (bytes_eq x (codes "all"))) here in
    let other : bytes_eq x (codes "all") ≡ false = not-true _ (second_of_both (is_name NameKind.Pool x) (not (bytes_eq x (codes "all"))) here) in
    let more = all_pools xs (second_of_both (is_pool_name x) (list_all is_pool_name xs) h) in
    (rw (name, more.0) refl, rw (other, more.1) refl)

pools_back : (m : Member) (xs : List Name) → is_pool_list xs ≡ true → pools_in m (texts_of xs) ≡ Ok xs
unfolding pools_in
pools_back m xs h =
    let both = first_of_both (nat_le (length xs) 1000 && list_all is_pool_name xs) (is_distinct same_name xs) h in
    let pools = all_pools xs (second_of_both (nat_le (length xs) 1000) (list_all is_pool_name xs) both) in
    let names = names_back m NameKind.Pool 1000 xs (first_of_both (nat_le (length xs) 1000) (list_all is_pool_name xs) both) pools.0
    (second_of_both (nat_le (length xs) 1000 && list_all is_pool_name xs) (is_distinct same_name xs) h) in
    rw (names, pools.1) refl

default_back : (s : Name) → is_pool_name s ≡ true → default_pool_in (string s) ≡ Ok s
unfolding default_pool_in
default_back s h =
    let name : is_name NameKind.Pool s ≡ true = first_of_both (is_name NameKind.Pool s) (not (bytes_eq s (codes "all"))) h in
    let other : bytes_eq s (codes "all") ≡ false = not-true _ (second_of_both (is_name NameKind.Pool s) (not (bytes_eq s (codes "all"))) h) in
    rw (if_any_back Member.Default NameKind.Pool (Some s) name, other) refl

record IsNamespace (n : Namespace) : Type 0 where
  description : is_text n.description ≡ true
  quota : option_map_or (is_name NameKind.Quota) n.quota true ≡ true
  default : is_pool_name n.default_pool ≡ true
  allowed : option_map_or is_pool_list n.allowed true ≡ true
  denied : is_pool_list n.denied ≡ true
  one : (is_none n.allowed || is_empty n.denied) ≡ true
  other : Names.has_name n.denied n.default_pool ≡ false

namespace_parts : (n : Namespace) → is_good_namespace n ≡ true → IsNamespace n
namespace_parts n z =
    let a = is_text n.description in
    let b = option_map_or (is_name NameKind.Quota) n.quota true in
    let c = is_pool_name n.default_pool in
    let d = option_map_or is_pool_list n.allowed true in
    let e = is_pool_list n.denied in
    let f = is_none n.allowed || is_empty n.denied in
    let g = not (Names.has_name n.denied n.default_pool) in
    let i6 = first_of_both (a && b && c && d && e && f) g z in
    let i5 = first_of_both (a && b && c && d && e) f i6 in
    let i4 = first_of_both (a && b && c && d) e i5 in
    let i3 = first_of_both (a && b && c) d i4 in
    let i2 = first_of_both (a && b) c i3 in
    record {
      description = first_of_both a b i2;
      quota = second_of_both a b i2;
      default = second_of_both (a && b) c i3;
      allowed = second_of_both (a && b && c) d i4;
      denied = second_of_both (a && b && c && d) e i5;
      one = second_of_both (a && b && c && d && e) f i6;
      other = not-true _ (second_of_both (a && b && c && d && e && f) g z);
    }

-- the two ways of looking a name up
any_same : (xs : List Name) (x : Name) → Names.has_name xs x ≡ false → has_name same xs x ≡ false
any_same [] x h = refl
any_same (y ∷ ys) x h =
    let parts = or_parts (same_name x y) (Names.has_name ys x) h in
    or_from (bytes_eq y x) (has_name same ys x) (other (bytes_eq y x) refl parts.0) (any_same ys x parts.1)
  where
    other : (b : Bool) → bytes_eq y x ≡ b → same_name x y ≡ false → b ≡ false
    other false e k = refl
    other true e k =
        let same : y ≡ x = same_name_is y x (is_eq-slice_cmp y x ∙ e) in
        absurd (true≢false (sym e ∙ sym (is_eq-slice_cmp y x) ∙ ap (λ z. same_name z x) same ∙ ap (same_name x) (sym same) ∙ k))

one_list : (allowed : Option (List Name)) (denied : List Name) → (is_none allowed || is_empty denied) ≡ true
    → (is_some allowed && not (is_empty denied)) ≡ false
one_list None denied h = refl
one_list (Some xs) [] h = refl
one_list (Some xs) (y ∷ ys) h = absurd (false≢true h)

allowed_back : (o : Option (List Name)) → option_map_or is_pool_list o true ≡ true →
    or_else None (λ a. some (pools_in Member.Allowed a)) (present Member.Allowed (object_of ((codes "Allowed", allowed_json o) ∷ []))) ≡ Ok o
unfolding present
allowed_back None h = refl
allowed_back (Some xs) h = rw (pools_back Member.Allowed xs h) refl

configuration_back : (n : Namespace) → IsNamespace n →
    configuration_in (pools_json n) ≡ Ok (record { default_pool = n.default_pool; allowed = n.allowed; denied = n.denied })
unfolding configuration_in pools_json an_object present
configuration_back n h =
    let fits : ((is_some n.allowed && not (is_empty n.denied)) || has_name same n.denied n.default_pool) ≡ false =
    or_from _ _ (one_list n.allowed n.denied h.one) (any_same n.denied n.default_pool h.other) in
    rw (default_back n.default_pool h.default, allowed_back n.allowed h.allowed, pools_back Member.Denied n.denied h.denied, fits) refl

pub namespace_back : (name : Name) (n : Namespace) → is_name NameKind.Namespace name ≡ true → is_good_namespace n ≡ true →
    namespace_in None (namespace_json (record { name = name; row = n })) ≡ Ok (record { name = name; namespace = n })
unfolding namespace_in namespace_json pools_json top named description_in demanded present
namespace_back name n is_named good =
    let parts = namespace_parts n good in
    let description = text_back Member.Description n.description parts.description in
    rw (
      name_back Member.Name NameKind.Namespace name is_named,
      description,
      if_any_back Member.Quota NameKind.Quota n.quota parts.quota,
      configuration_back n parts,
    ) refl

-- ---- quotas

limit_back : (m : Member) (l : Limit) → is_limit l ≡ true → limit_in m (limit_json l) ≡ Ok l
unfolding limit_in
limit_back m Limit.Unlimited h = refl
limit_back m (Limit.AtMost n) h =
    let low : 1 ≤ n = leb-true 1 n (first_of_both (nat_le 1 n) (nat_le n (2 ^ 53)) h) in
    let high : nat_le n (2 ^ 53) ≡ true = second_of_both (nat_le 1 n) (nat_le n (2 ^ 53)) h in
    let most : n ≤ 2 ^ 53 = leb-true n (2 ^ 53) high in
    let fits : nat_lt n (2 ^ 63) ≡ true = lt-ltb n (2 ^ 63) (omega arith) in
    let some : (n == 0) ≡ false = ne_eqb n 0 (λ e. omega arith) in
    rw (fits, some, high) refl
limit_back m Limit.Nothing h = refl

abbrev entry_of : Limits → Data
entry_of l = object_of (
    (codes "Region", string (codes "global")) ∷
    (codes "RegionLimit", region_limit_json l) ∷ [])

limit_or_back : (m : Member) (l : Limit) → is_limit l ≡ true → or_else Limit.Unlimited (limit_in m) (unless_null (limit_json l)) ≡ Ok l
limit_or_back m Limit.Unlimited h = limit_back m Limit.Unlimited h
limit_or_back m (Limit.AtMost n) h = limit_back m (Limit.AtMost n) h
limit_or_back m Limit.Nothing h = limit_back m Limit.Nothing h

entry_back : (l : Limits) → are_limits l ≡ true → entry_in (entry_of l) ≡ Ok l
unfolding entry_in region_in region_limit_in an_object present a_text
entry_back l h =
    let good = true_at (λ r. is_limit (limit_on r l)) h in
    rw (
      limit_or_back Member.Cpu l.cpu (good Cpu),
      limit_or_back Member.MemoryMb l.memory (good Memory),
      limit_or_back Member.DiskMb l.disk (good Disk),
    ) refl

limits_back : (o : Option Limits) → are_limits (limits_in o) ≡ true →
    or_else None entries_in (unless_null (limits_json o)) ≡ Ok o
unfolding entries_in a_list
limits_back None h = refl
limits_back (Some l) h = rw (entry_back l h) refl

pub quota_back : (name : Name) (q : Quota) → is_name NameKind.Quota name ≡ true → is_good_quota q ≡ true →
    quota_in None (quota_json (record { name = name; row = q })) ≡ Ok (record { name = name; quota = q })
unfolding quota_in quota_json top named description_in demanded present
quota_back name q is_named good =
    let allowed = are_limits (limits_in q.limits) in
    let limits = limits_back q.limits (second_of_both (is_text q.description) allowed good) in
    rw (
      name_back Member.Name NameKind.Quota name is_named,
      text_back Member.Description q.description
          (first_of_both (is_text q.description) allowed good),
      limits,
    ) refl

-- ---- pools

pub pool_back : (name : Name) (p : Pool) → is_pool_name name ≡ true → is_text p.description ≡ true →
    pool_in None (pool_json (record { name = name; row = p })) ≡ Ok (record { name = name; pool = p })
unfolding pool_in pool_json top named description_in demanded present
pool_back name p is_named good =
    let is : is_name NameKind.Pool name ≡ true = first_of_both (is_name NameKind.Pool name) (not (bytes_eq name (codes "all"))) is_named in
    let other : bytes_eq name (codes "all") ≡ false = not-true _ (second_of_both (is_name NameKind.Pool name) (not (bytes_eq name (codes "all"))) is_named) in
    rw (name_back Member.Name NameKind.Pool name is, other, text_back Member.Description p.description good) refl

-- ---- policies and tokens

pub policy_back : (name : Name) (p : Policy) → is_good_policy p ≡ true → rules_of p.text ≡ Ok p.rules →
    policy_in (policy_json (record { name = name; row = p })) ≡ Ok p
unfolding policy_in policy_json top description_in demanded present rules_text_in
policy_back name p good rules =
    let description = text_back Member.Description p.description (first_of_both (is_text p.description) (nat_le (length p.text) 65536) good) in
    let fits : nat_le (length p.text) 65536 ≡ true = second_of_both (is_text p.description) (nat_le (length p.text) 65536) good in
    rw (description, fits, rules) refl

token_kind_back : (k : TokenKind) → token_kind_in (string (token_kind_text k)) ≡ Ok k
unfolding token_kind_in token_kind_of a_text
token_kind_back TokenKind.Client = refl
token_kind_back TokenKind.Management = refl

pub token_back : (t : NewToken) → is_good_token (token_of t) ≡ true →
    token_in (new_token_json t) ≡ Ok (record { name = t.name; kind = t.kind; policies = t.policies })
unfolding token_in token_json top present
token_back t good =
    let a = is_text t.name in
    let b = nat_le (length t.policies) 64 in
    let c = list_all (is_name NameKind.Policy) t.policies in
    let d = is_distinct same_name t.policies in
    let i3 = first_of_both (a && b && c) d good in
    let i2 = first_of_both (a && b) c i3 in
    let policies = names_back Member.Policies NameKind.Policy 64 t.policies (second_of_both a b i2) (second_of_both (a && b) c i3)
    (second_of_both (a && b && c) d good) in
    rw (text_back Member.Name t.name (first_of_both a b i2), token_kind_back t.kind, policies) refl

-- ---- nodes

abbrev is_attribute : Attribute → Bool
is_attribute a = is_text a.key && is_text a.value

attribute_back : (done : List Attribute) (a : Attribute) → is_attribute a ≡ true → length done < 64 →
    with_attribute done a.key (string a.value) ≡ Ok (done ++ a ∷ [])
unfolding with_attribute
attribute_back done a h few =
    let key : is_text a.key ≡ true = first_of_both (is_text a.key) (is_text a.value) h in
    let value = text_back Member.Attributes a.value (second_of_both (is_text a.key) (is_text a.value) h) in
    let fits : nat_le 64 (length done) ≡ false = lt-leb 64 (length done) few in
    rw (value, key, fits) refl

each_attribute_back : (done more : List Attribute) → list_all is_attribute more ≡ true → length done + length more ≤ 64 →
    each_attribute done (members_of (map (λ a. (a.key, string a.value)) more)) ≡ Ok (done ++ more)
unfolding each_attribute
each_attribute_back done [] h few = ap Ok (sym (append-nil done))
each_attribute_back done (a ∷ more) h few =
    let here = attribute_back done a (first_of_both (is_attribute a) (list_all is_attribute more) h) (omega arith) in
    let rest = each_attribute_back (done ++ a ∷ []) more (second_of_both (is_attribute a) (list_all is_attribute more) h)
    (omega (arith, length-append done (a ∷ []))) in
    rw here (rest ∙ ap Ok (append_assoc done (a ∷ []) more))

pub offer_back : (o : Offer) → is_good_offer o ≡ true → node_in (offer_json o) ≡ Ok o
unfolding node_in offer_json top demanded present attributes_in amount_in
offer_back o good =
    let a = is_text o.class in
    let b = nat_le (length o.attributes) 64 in
    let c = list_all is_attribute o.attributes in
    let i3 = first_of_both (a && b && c) (is_amount o.capacity) good in
    let within = true_at (λ r. is_quantity (quantity r o.capacity)) (second_of_both (a && b && c) (is_amount o.capacity) good) in
    let i2 = first_of_both (a && b) c i3 in
    let few : length o.attributes ≤ 64 = leb-true (length o.attributes) 64 (second_of_both a b i2) in
    let attributes = each_attribute_back [] o.attributes (second_of_both (a && b) c i3) (omega arith) in
    rw (
      text_back Member.NodeClass o.class (first_of_both a b i2),
      attributes,
      number_back Member.Cpu 1 2147483647 o.capacity.cpu (within Cpu),
      number_back Member.MemoryMb 1 2147483647 o.capacity.memory (within Memory),
      number_back Member.DiskMb 1 2147483647 o.capacity.disk (within Disk),
    ) refl
