-- What is read is within the limits.
use Rattle.std.proofs.Common.{◌≡◌, ℕ, ◌≤◌, ◌==◌, ℤ, pos, negsuc, List, [], ◌∷◌, ◌++◌, length, Bool, true, false, not, ◌&&◌, ◌||◌, nat_le, Option, Some}
use Rattle.std.proofs.Common.{None, is_some, IfOk, codes, if◌then◌else◌, refl, sym, ◌∙◌, true≢false, arith, length-append, option_and_then}
use Rattle.std.specs.Bool.{IsTrue}
use Rattle.std.specs.List.{list_all, list_any}
use Rattle.std.specs.Option.{option_map_or, is_none}
use Rattle.std.specs.Str.{bytes_eq}
use Rattle.std.proofs.lemmas.Bool.{eqb-false, le-leb, not-false, not_from_false}
use Rattle.std.proofs.lemmas.Bool.Decides.{nat_tests}
use Rattle.std.proofs.lemmas.List.Folds.{list_all-append}
use Rattle.std.proofs.lemmas.Slice.Eq.{bytes_eq-Decides}
use Rattle.serde_json.specs.Data.{Data, Items, no_items, item, Members, no_members, member}
use Rattle.serde_json.specs.Find.{as_str, as_object, as_number, as_i64}
use Rattle.ns_types.specs.declared.acl.Policy.{Policy}
use Rattle.ns_types.specs.declared.acl.TokenKind.TheVariants as TokenKind
use Rattle.ns_types.specs.declared.name.NameKind.{NameKind}
use Rattle.ns_types.specs.declared.node.Attribute.{Attribute}
use Rattle.ns_types.specs.declared.node.Offer.{Offer}
use Rattle.ns_types.specs.declared.refusal.Member.{Member}
use Rattle.ns_types.specs.declared.resources.Limit.{Limit}
use Rattle.ns_types.specs.declared.resources.Limits.{Limits}
use Rattle.ns_types.specs.State.Limits.{is_between, is_text, is_pool_name, is_pool_list, is_good_namespace, is_limit, is_good_quota, is_good_policy, are_limits}
use Rattle.ns_types.specs.State.Limits.{is_good_token, is_good_offer}
use Rattle.ns_types.specs.State.Lists.{is_empty}
use Rattle.ns_types.specs.State.Name.{is_name}
use Rattle.ns_types.specs.State.Names.{Name, same_name, default_name}
use Rattle.ns_types.specs.State.Names
use Rattle.ns_types.specs.State.Resources.{limits_in, unlimited}
use Rattle.ns_types.proofs.Lists.{left_none, right_none}
use Rattle.ns_types.proofs.Named.{same_name_is, first_of_both, second_of_both}
use Rattle.ns_json.specs.Reading.{◌>>=◌, Read, Gives, same, top, present, demanded, or_else, or_refuse, some, an_object}
use Rattle.ns_json.specs.Reading.{a_text, a_name, has_name, unless, a_number}
use Rattle.ns_json.specs.Reading.{a_list, each, unless_null}
use Rattle.ns_json.specs.Registration.{name_if_any, max_quantity}
use Rattle.ns_json.proofs.Distinct.{Distinct, distinct_more, distinct_is}
use Rattle.ns_json.proofs.Posts.{Post, post_then, post_any, post_map, post_unless, post_else, post_some, read_so, read_if}
use Rattle.ns_json.proofs.Posts.{text_good, name_good, name_if_any_good, number_good, list_of_good}
use Rattle.ns_policy.specs.Json.{rules_of}
use Rattle.ns_documents.specs.declared.namespace.NamedNamespace.{NamedNamespace}
use Rattle.ns_documents.specs.declared.pools.PoolConfiguration.{PoolConfiguration}
use Rattle.ns_documents.specs.declared.quota.NamedQuota.{NamedQuota}
use Rattle.ns_documents.specs.declared.pool.NamedPool.{NamedPool}
use Rattle.ns_documents.specs.declared.token.TokenDocument.{TokenDocument}
use Rattle.ns_documents.specs.Members.{is_path_name, repeated, named, description_in, listed_name, names_in}
use Rattle.ns_documents.specs.Records.{is_all, pool_or_default, default_pool_in, pools_in, configuration_in, every_pool, namespace_in, max_limit, limit_of}
use Rattle.ns_documents.specs.Records.{limit_in, region_limit_in, region_in, entry_in, first_entry, entries_in, quota_in, pool_in}
use Rattle.ns_documents.specs.Access.{with_accessor, rules_text_in, or_bad_rules, policy_in, token_kind_in, token_in}
use Rattle.ns_documents.specs.Nodes.{with_value, with_attribute, each_attribute, attributes_in, amount_in, node_in, default_disk}

-- ---- names and texts

description_good : (d : Data) → Post (description_in d) (λ s. IsTrue (is_text s))
unfolding description_in
description_good d = post_else [] (a_text Member.Description) (λ s. IsTrue (is_text s)) (present Member.Description d) refl (text_good Member.Description)

repeated_good : (path : Name) (d : Data) (P : Name → Type 0) → P path → Post (repeated path d) P
unfolding repeated
repeated_good path d P h = post_any (or_refuse Member.Name (as_str d)) _ _ (λ s. post_unless (not (bytes_eq s path)) Member.Name path P (λ k. h))

named_good : (kind : NameKind) (path : Option Name) (d : Data) → IsTrue (is_path_name kind path) → Post (named kind path d) (λ s. IsTrue (is_name kind s))
unfolding named
named_good kind None d h = post_any (demanded Member.Name d) _ _ (λ s. name_good Member.Name kind s)
named_good kind (Some path) d h = post_else path (repeated path) (λ s. IsTrue (is_name kind s)) (present Member.Name d) h
    (λ v. repeated_good path v (λ s. IsTrue (is_name kind s)) h)

-- ---- lists of names

abbrev AllNamed : NameKind → List Name → Type 0
AllNamed kind xs = IsTrue (list_all (is_name kind) xs) × Distinct xs

all_more : (kind : NameKind) (xs : List Name) (x : Name) → IsTrue (list_all (is_name kind) xs) → IsTrue (is_name kind x) →
    IsTrue (list_all (is_name kind) (xs ++ x ∷ []))
all_more kind xs x h k = list_all-append (is_name kind) xs (x ∷ []) ∙ rw (h, k) refl

listed_good : (m : Member) (kind : NameKind) (before : List Name) (d : Data) → AllNamed kind before →
    Post (listed_name m kind before d) (λ x. AllNamed kind (before ++ x ∷ []))
unfolding listed_name
listed_good m kind before d h =
    post_then (a_name m kind d) _ _ (name_good m kind d)
    (λ x k. post_unless (has_name same before x) m x (λ y. AllNamed kind (before ++ y ∷ []))
    (λ new. (all_more kind before x h.0 k, distinct_more before x h.1 new)))

abbrev Listed : NameKind → ℕ → List Name → Type 0
Listed kind most xs = AllNamed kind xs × (length xs ≤ most)

names_good : (m : Member) (kind : NameKind) (most : ℕ) (d : Data) → Post (names_in m kind most d) (Listed kind most)
unfolding names_in
names_good m kind most d =
    post_map (a_list m 0 most d >>= λ ds. each (listed_name m kind) [] ds) _ (Listed kind most)
    (λ xs (k : AllNamed kind xs × IsTrue (is_between 0 most (length xs))). (k.0, few xs k.1))
    (list_of_good m 0 most (listed_name m kind) (AllNamed kind) d (listed_good m kind) (refl, tt))
  where
    few : (xs : List Name) → IsTrue (is_between 0 most (length xs)) → length xs ≤ most
    few xs h = grind (arith, nat_tests)

-- ---- the pools of a namespace

-- names of pools, none of which is `all`
pools_without_all : (xs : List Name) → list_all (is_name NameKind.Pool) xs ≡ true → list_any (λ x. bytes_eq x (codes "all")) xs ≡ false →
    list_all is_pool_name xs ≡ true
pools_without_all [] h none = refl
pools_without_all (x ∷ xs) h none =
    let here : is_name NameKind.Pool x ≡ true = first_of_both (is_name NameKind.Pool x) (list_all (is_name NameKind.Pool) xs) h in
    let other : bytes_eq x (codes "all") ≡ false = left_none (bytes_eq x (codes "all")) (list_any (λ y. bytes_eq y (codes "all")) xs) none in
    let more : list_all is_pool_name xs ≡ true = pools_without_all xs (second_of_both (is_name NameKind.Pool x) (list_all (is_name NameKind.Pool) xs) h)
    (right_none (bytes_eq x (codes "all")) (list_any (λ y. bytes_eq y (codes "all")) xs) none) in
    rw (here, other, more) refl

pool_list : (xs : List Name) → Listed NameKind.Pool 1000 xs → has_name same xs (codes "all") ≡ false → IsTrue (is_pool_list xs)
pool_list xs h none =
    let fits : nat_le (length xs) 1000 ≡ true = le-leb (length xs) 1000 h.1 in
    rw (fits, pools_without_all xs h.0.0 none, distinct_is xs h.0.1) refl

pools_good : (m : Member) (d : Data) → Post (pools_in m d) (λ xs. IsTrue (is_pool_list xs))
unfolding pools_in
pools_good m d =
    post_then (names_in m NameKind.Pool 1000 d) _ _ (names_good m NameKind.Pool 1000 d)
    (λ xs h. post_unless (has_name same xs (codes "all")) m xs (λ ys. IsTrue (is_pool_list ys)) (λ none. pool_list xs h none))

pool_name : (s : Name) → IsTrue (is_name NameKind.Pool s) → is_all s ≡ false → IsTrue (is_pool_name s)
pool_name s h other = rw (h, other) refl

pool_or_default_good : (o : Option Name) → IsTrue (option_map_or (is_name NameKind.Pool) o true) → Post (pool_or_default o) (λ s. IsTrue (is_pool_name s))
pool_or_default_good None h = refl
pool_or_default_good (Some s) h = post_unless (is_all s) Member.Default s (λ t. IsTrue (is_pool_name t)) (λ other. pool_name s h other)

default_pool_good : (d : Data) → Post (default_pool_in d) (λ s. IsTrue (is_pool_name s))
unfolding default_pool_in
default_pool_good d = post_then (name_if_any Member.Default NameKind.Pool d) _ _ (name_if_any_good Member.Default NameKind.Pool d)
    (λ o h. pool_or_default_good o h)

other_way : (x y : Name) → bytes_eq y x ≡ false → same_name x y ≡ false
other_way x y h = by (same_name x y) refl
  where
    by : (b : Bool) → same_name x y ≡ b → b ≡ false
    by true e = absurd (true≢false (sym ((bytes_eq-Decides y x).1 (sym (same_name_is x y e))) ∙ h))
    by false e = refl

-- the two ways of looking a name up
any_other : (xs : List Name) (x : Name) → has_name same xs x ≡ false → Names.has_name xs x ≡ false
any_other [] x h = refl
any_other (y ∷ ys) x h =
    let here : same_name x y ≡ false = other_way x y (left_none (bytes_eq y x) (has_name same ys x) h) in
    let more : Names.has_name ys x ≡ false = any_other ys x (right_none (bytes_eq y x) (has_name same ys x) h) in
    rw (here, more) refl

abbrev IsGood : PoolConfiguration → Type 0
IsGood c = IsTrue (is_pool_name c.default_pool) × IsTrue (option_map_or is_pool_list c.allowed true) × IsTrue (is_pool_list c.denied) ×
    IsTrue (is_none c.allowed || is_empty c.denied) × IsTrue (not (Names.has_name c.denied c.default_pool))

one_list : (a b : Bool) → (a && not b) ≡ false → (not a || b) ≡ true
one_list true true h = refl
one_list true false h = sym h
one_list false b h = refl

configuration_good : (d : Data) → Post (configuration_in d) IsGood
unfolding configuration_in
configuration_good d =
    post_any (an_object Member.NodePoolConfiguration d) _ _ (λ c.
    post_then (or_else default_name default_pool_in (present Member.Default c)) _ _
    (post_else default_name default_pool_in (λ s. IsTrue (is_pool_name s)) (present Member.Default c) refl default_pool_good) (λ default h.
    post_then (or_else None (λ a. some (pools_in Member.Allowed a)) (present Member.Allowed c)) _ _
    (post_else None (λ a. some (pools_in Member.Allowed a)) (λ o. IsTrue (option_map_or is_pool_list o true)) (present Member.Allowed c) refl
    (λ a. post_some (pools_in Member.Allowed a) (λ xs. IsTrue (is_pool_list xs)) _ (λ xs k. k) (pools_good Member.Allowed a))) (λ allowed k.
    post_then (or_else [] (pools_in Member.Denied) (present Member.Denied c)) _ _
    (post_else [] (pools_in Member.Denied) (λ xs. IsTrue (is_pool_list xs)) (present Member.Denied c) refl (pools_good Member.Denied)) (λ denied l.
    post_unless ((is_some allowed && not (is_empty denied)) || has_name same denied default) Member.Denied _ IsGood
    (λ n. (
      h,
      k,
      l,
      one_list (is_some allowed) (is_empty denied) (left_none (is_some allowed && not (is_empty denied)) (has_name same denied default) n),
      not_from_false _ (any_other denied default (right_none (is_some allowed && not (is_empty denied)) (has_name same denied default) n)),
    ))))))

namespace_from : (description : Name) (quota : Option Name) (c : PoolConfiguration) → IsTrue (is_text description) →
    IsTrue (option_map_or (is_name NameKind.Quota) quota true) → IsGood c
    → IsTrue (is_good_namespace (record { description = description; quota = quota; default_pool = c.default_pool; allowed = c.allowed; denied = c.denied }))
namespace_from description quota c h k g = rw (h, k, g.0, g.1, g.2, g.3, g.4) refl

namespace_post : (path : Option Name) (d : Data) → Post (namespace_in path d) (λ n. IsTrue (is_good_namespace n.namespace))
unfolding namespace_in
namespace_post path d =
    post_any (top d) _ _ (λ t. post_any (named NameKind.Namespace path t) _ _ (λ name.
    post_then (description_in t) _ _ (description_good t) (λ description h.
    post_then (or_else None (name_if_any Member.Quota NameKind.Quota) (present Member.Quota t)) _ _
    (post_else None (name_if_any Member.Quota NameKind.Quota) (λ o. IsTrue (option_map_or (is_name NameKind.Quota) o true)) (present Member.Quota t) refl
    (name_if_any_good Member.Quota NameKind.Quota)) (λ quota k.
    post_then (or_else every_pool configuration_in (present Member.NodePoolConfiguration t)) _ _
    (post_else every_pool configuration_in IsGood (present Member.NodePoolConfiguration t) (refl, refl, refl, refl, refl) configuration_good) (λ c g.
    namespace_from description quota c h k g)))))

-- ---- quotas

limit_of_good : (z : ℤ) → IsTrue (option_map_or is_limit (limit_of z) true)
limit_of_good (pos n) = by (n == 0) (nat_le n max_limit) refl refl
  where
    by : (a b : Bool) → (n == 0) ≡ a → nat_le n max_limit ≡ b →
        IsTrue (option_map_or is_limit (if a then Some Limit.Unlimited else if b then Some (Limit.AtMost n) else None) true)
    by true b e f = refl
    by false true e f =
        let some : n ≡ 0 → ⊥ = eqb-false n 0 e in
        let low : nat_le 1 n ≡ true = le-leb 1 n (omega arith) in
        rw (low, f) refl
    by false false e f = refl
limit_of_good (negsuc n) = by (n == 0)
  where
    by : (a : Bool) → IsTrue (option_map_or is_limit (if a then Some Limit.Nothing else None) true)
    by true = refl
    by false = refl

limit_or_refused : (m : Member) (o : Option Limit) → IsTrue (option_map_or is_limit o true) → Post (or_refuse m o) (λ l. IsTrue (is_limit l))
limit_or_refused m None h = tt
limit_or_refused m (Some l) h = h

limit_read : (m : Member) (o : Option ℤ) → Post (or_refuse m (option_and_then limit_of o)) (λ l. IsTrue (is_limit l))
limit_read m None = tt
limit_read m (Some z) = limit_or_refused m (limit_of z) (limit_of_good z)

limit_good : (m : Member) (d : Data) → Post (limit_in m d) (λ l. IsTrue (is_limit l))
unfolding limit_in
limit_good m d = limit_read m (option_and_then as_i64 (as_number d))

abbrev AreLimits : Limits → Type 0
AreLimits l = IsTrue (are_limits l)

limit_or_unlimited_good : (m : Member) (o : Option Data) → Post (or_else Limit.Unlimited (limit_in m) o) (λ l. IsTrue (is_limit l))
limit_or_unlimited_good m o = post_else Limit.Unlimited (limit_in m) (λ l. IsTrue (is_limit l)) o refl (limit_good m)

region_limit_good : (d : Data) → Post (region_limit_in d) AreLimits
unfolding region_limit_in
region_limit_good d =
    post_any (an_object Member.RegionLimit d) _ _ (λ r.
    post_then (or_else Limit.Unlimited (limit_in Member.Cpu) (present Member.Cpu r)) _ _ (limit_or_unlimited_good Member.Cpu (present Member.Cpu r)) (λ cpu h.
    post_then (or_else Limit.Unlimited (limit_in Member.MemoryMb) (present Member.MemoryMb r)) _ _
    (limit_or_unlimited_good Member.MemoryMb (present Member.MemoryMb r)) (λ memory k.
    post_then (or_else Limit.Unlimited (limit_in Member.DiskMb) (present Member.DiskMb r)) _ _
    (limit_or_unlimited_good Member.DiskMb (present Member.DiskMb r)) (λ disk l. limits_from cpu memory disk h k l))))
  where
    limits_from : (cpu memory disk : Limit) → IsTrue (is_limit cpu) → IsTrue (is_limit memory) → IsTrue (is_limit disk) →
        AreLimits (record { cpu = cpu; memory = memory; disk = disk })
    limits_from cpu memory disk h k l = rw (h, k, l) refl

entry_good : (d : Data) → Post (entry_in d) AreLimits
unfolding entry_in
entry_good d =
    post_any (an_object Member.Limits d) _ _ (λ entry.
    post_any (or_else tt region_in (present Member.Region entry)) _ _ (λ region.
    post_else unlimited region_limit_in AreLimits (present Member.RegionLimit entry) refl region_limit_good))

abbrev AreLimitsIn : Option Limits → Type 0
AreLimitsIn o = AreLimits (limits_in o)

first_entry_good : (ds : Items) → Post (first_entry ds) AreLimitsIn
first_entry_good no_items = refl
first_entry_good (item d ds) = post_some (entry_in d) AreLimits AreLimitsIn (λ l h. h) (entry_good d)

entries_good : (d : Data) → Post (entries_in d) AreLimitsIn
unfolding entries_in
entries_good d = post_any (a_list Member.Limits 0 1 d) _ _ first_entry_good

quota_from : (description : Name) (limits : Option Limits) → IsTrue (is_text description) → AreLimitsIn limits →
    IsTrue (is_good_quota (record { description = description; limits = limits }))
quota_from description limits h k = rw (h, k) refl

quota_post : (path : Option Name) (d : Data) → Post (quota_in path d) (λ q. IsTrue (is_good_quota q.quota))
unfolding quota_in
quota_post path d =
    post_any (top d) _ _ (λ t. post_any (named NameKind.Quota path t) _ _ (λ name.
    post_then (description_in t) _ _ (description_good t) (λ description h.
    post_then (or_else None entries_in (present Member.Limits t)) _ _
    (post_else None entries_in AreLimitsIn (present Member.Limits t) refl entries_good) (λ limits k.
    quota_from description limits h k))))

-- ---- pools

pool_post : (path : Option Name) (d : Data) → Post (pool_in path d) (λ p. IsTrue (is_text p.pool.description))
unfolding pool_in
pool_post path d =
    post_any (top d) _ _ (λ t. post_any (named NameKind.Pool path t) _ _ (λ name. post_any (unless (is_all name) Member.Name name) _ _ (λ checked.
    post_then (description_in t) _ _ (description_good t) (λ description h. h))))

-- ---- nodes

abbrev is_attribute : Attribute → Bool
is_attribute a = is_text a.key && is_text a.value

abbrev AreAttributes : List Attribute → Type 0
AreAttributes xs = (length xs ≤ 64) × (list_all is_attribute xs ≡ true)

one_attribute : (done : List Attribute) (key value : Name) → AreAttributes done → is_text key ≡ true → nat_le 64 (length done) ≡ false →
    is_text value ≡ true → AreAttributes (done ++ record { key = key; value = value } ∷ [])
one_attribute done key value h named few good =
    let one : Attribute = record { key = key; value = value } in
    let same : list_all is_attribute (done ++ one ∷ []) ≡ (list_all is_attribute done && list_all is_attribute (one ∷ [])) =
    list_all-append is_attribute done (one ∷ []) in
    (grind (arith, nat_tests, length-append done (one ∷ []), few), same ∙ rw (h.1, named, good) refl)

with_value_good : (done : List Attribute) (key : Name) (o : Option Data) → AreAttributes done → Post (with_value done key o) AreAttributes
with_value_good done key None h = h
with_value_good done key (Some d) h =
    post_then (a_text Member.Attributes d) _ _ (text_good Member.Attributes d) (λ value good.
    post_unless (not (is_text key) || nat_le 64 (length done)) Member.Attributes (done ++ record { key = key; value = value } ∷ []) AreAttributes
    (λ fine. one_attribute done key value h (not-false (is_text key) (left_none (not (is_text key)) (nat_le 64 (length done)) fine))
    (right_none (not (is_text key)) (nat_le 64 (length done)) fine) good))

each_attribute_good : (done : List Attribute) (ms : Members) → AreAttributes done → Post (each_attribute done ms) AreAttributes
unfolding each_attribute with_attribute
each_attribute_good done no_members h = h
each_attribute_good done (member key d ms) h =
    post_then (with_value done key (unless_null d)) _ _ (with_value_good done key (unless_null d) h) (λ more k. each_attribute_good more ms k)

attributes_good : (d : Data) → Post (attributes_in d) AreAttributes
unfolding attributes_in
attributes_good d = post_any (or_refuse Member.Attributes (as_object d)) _ _ (λ ms. each_attribute_good [] ms (omega arith, refl))

amount_good : (m : Member) (d : Data) → Post (amount_in m d) (λ n. IsTrue (is_between 1 2147483647 n))
unfolding amount_in
amount_good m d = post_any (demanded m d) _ _ (number_good m 1 2147483647)

offer_from : (class : Name) (attributes : List Attribute) (cpu memory disk : ℕ) → IsTrue (is_text class) → AreAttributes attributes →
    IsTrue (is_between 1 2147483647 cpu) → IsTrue (is_between 1 2147483647 memory) → IsTrue (is_between 1 2147483647 disk) →
    IsTrue (is_good_offer (record { class = class; attributes = attributes; capacity = record { cpu = cpu; memory = memory; disk = disk } }))
offer_from class attributes cpu memory disk h k l m n =
    let fits : nat_le (length attributes) 64 ≡ true = le-leb (length attributes) 64 k.0 in
    rw (h, fits, k.1, l, m, n) refl

node_post : (d : Data) → Post (node_in d) (λ o. IsTrue (is_good_offer o))
unfolding node_in
node_post d =
    post_any (top d) _ _ (λ t. post_then (or_else [] (a_text Member.NodeClass) (present Member.NodeClass t)) _ _
    (post_else [] (a_text Member.NodeClass) (λ s. IsTrue (is_text s)) (present Member.NodeClass t) refl (text_good Member.NodeClass)) (λ class h.
    post_then (or_else [] attributes_in (present Member.Attributes t)) _ _
    (post_else [] attributes_in AreAttributes (present Member.Attributes t) (omega arith, refl) attributes_good) (λ attributes k.
    post_then (amount_in Member.Cpu t) _ _ (amount_good Member.Cpu t) (λ cpu l.
    post_then (amount_in Member.MemoryMb t) _ _ (amount_good Member.MemoryMb t) (λ memory m.
    post_then (or_else default_disk (a_number Member.DiskMb 1 max_quantity) (present Member.DiskMb t)) _ _
    (post_else default_disk (a_number Member.DiskMb 1 max_quantity) (λ n. IsTrue (is_between 1 2147483647 n)) (present Member.DiskMb t) refl
    (number_good Member.DiskMb 1 max_quantity)) (λ disk n.
    offer_from class attributes cpu memory disk h k l m n))))))

-- ---- policies and tokens

rules_text_good : (d : Data) → Post (rules_text_in d) (λ s. IsTrue (nat_le (length s) 65536))
unfolding rules_text_in
rules_text_good d = post_any (or_refuse Member.Rules (as_str d)) _ _
    (λ s. post_unless (not (nat_le (length s) 65536)) Member.Rules s _ (λ h. not-false (nat_le (length s) 65536) h))

policy_from : (p : Policy) → IsTrue (is_text p.description) → IsTrue (nat_le (length p.text) 65536) → IsTrue (is_good_policy p)
policy_from p h k = rw (h, k) refl

policy_post : (d : Data) → Post (policy_in d) (λ p. IsTrue (is_good_policy p))
unfolding policy_in
policy_post d =
    post_any (top d) _ _ (λ t. post_then (description_in t) _ _ (description_good t) (λ description h.
    post_any (demanded Member.Rules t) _ _ (λ v. post_then (rules_text_in v) _ _ (rules_text_good v) (λ text k.
    post_any (or_bad_rules (rules_of text)) _ _ (λ rules. policy_from (record { description = description; text = text; rules = rules }) h k)))))

token_from : (accessor : Name) (t : TokenDocument) → IsTrue (is_text t.name) → Listed NameKind.Policy 64 t.policies →
    IsTrue (is_good_token (with_accessor accessor t))
token_from accessor t h k =
    let fits : nat_le (length t.policies) 64 ≡ true = le-leb (length t.policies) 64 k.1 in
    rw (h, fits, k.0.0, distinct_is t.policies k.0.1) refl

token_post : (d : Data) → Post (token_in d) (λ t. (accessor : Name) → IsTrue (is_good_token (with_accessor accessor t)))
unfolding token_in
token_post d =
    post_any (top d) _ _ (λ t. post_then (or_else [] (a_text Member.Name) (present Member.Name t)) _ _
    (post_else [] (a_text Member.Name) (λ s. IsTrue (is_text s)) (present Member.Name t) refl (text_good Member.Name)) (λ name h.
    post_any (or_else TokenKind.Client token_kind_in (present Member.Type t)) _ _ (λ kind.
    post_then (or_else [] (names_in Member.Policies NameKind.Policy 64) (present Member.Policies t)) _ _
    (post_else [] (names_in Member.Policies NameKind.Policy 64) (Listed NameKind.Policy 64) (present Member.Policies t) ((refl, tt), omega arith)
    (names_good Member.Policies NameKind.Policy 64)) (λ policies k.
    λ accessor. token_from accessor (record { name = name; kind = kind; policies = policies }) h k))))

-- ---- names

namespace_named : (path : Option Name) (d : Data) → IsTrue (is_path_name NameKind.Namespace path) →
    Post (namespace_in path d) (λ n. IsTrue (is_name NameKind.Namespace n.name))
unfolding namespace_in
namespace_named path d h =
    post_any (top d) _ _ (λ t. post_then (named NameKind.Namespace path t) _ _ (named_good NameKind.Namespace path t h) (λ name k.
    post_any (description_in t) _ _ (λ description. post_any (or_else None (name_if_any Member.Quota NameKind.Quota) (present Member.Quota t)) _ _ (λ quota.
    post_any (or_else every_pool configuration_in (present Member.NodePoolConfiguration t)) _ _ (λ c. k)))))

quota_named : (path : Option Name) (d : Data) → IsTrue (is_path_name NameKind.Quota path) → Post (quota_in path d) (λ q. IsTrue (is_name NameKind.Quota q.name))
unfolding quota_in
quota_named path d h =
    post_any (top d) _ _ (λ t. post_then (named NameKind.Quota path t) _ _ (named_good NameKind.Quota path t h) (λ name k.
    post_any (description_in t) _ _ (λ description. post_any (or_else None entries_in (present Member.Limits t)) _ _ (λ limits. k))))

pool_named : (path : Option Name) (d : Data) → IsTrue (is_path_name NameKind.Pool path) → Post (pool_in path d) (λ p. IsTrue (is_pool_name p.name))
unfolding pool_in
pool_named path d h =
    post_any (top d) _ _ (λ t. post_then (named NameKind.Pool path t) _ _ (named_good NameKind.Pool path t h) (λ name k.
    post_then (unless (is_all name) Member.Name name) _ _
    (post_unless (is_all name) Member.Name name (λ s. IsTrue (is_pool_name s)) (λ other. pool_name name k other)) (λ checked l.
    post_any (description_in t) _ _ (λ description. l))))

-- ---- what is read

pub namespace_good : (r : Read NamedNamespace) (path : Option Name) (d : Data) → Gives same r (namespace_in path d) →
    IfOk r (λ n. IsTrue (is_good_namespace n.namespace))
namespace_good r path d h = read_so r (namespace_in path d) _ h (namespace_post path d)

pub namespace_has_name : (r : Read NamedNamespace) (path : Option Name) (d : Data) → Gives same r (namespace_in path d) →
    IfOk r (λ n. IsTrue (is_path_name NameKind.Namespace path) → IsTrue (is_name NameKind.Namespace n.name))
namespace_has_name r path d h = read_if (IsTrue (is_path_name NameKind.Namespace path)) r (namespace_in path d)
    (λ n. IsTrue (is_name NameKind.Namespace n.name)) h (namespace_named path d)

pub quota_good : (r : Read NamedQuota) (path : Option Name) (d : Data) → Gives same r (quota_in path d) → IfOk r (λ q. IsTrue (is_good_quota q.quota))
quota_good r path d h = read_so r (quota_in path d) _ h (quota_post path d)

pub quota_has_name : (r : Read NamedQuota) (path : Option Name) (d : Data) → Gives same r (quota_in path d) →
    IfOk r (λ q. IsTrue (is_path_name NameKind.Quota path) → IsTrue (is_name NameKind.Quota q.name))
quota_has_name r path d h = read_if (IsTrue (is_path_name NameKind.Quota path)) r (quota_in path d) (λ q. IsTrue (is_name NameKind.Quota q.name)) h
    (quota_named path d)

pub pool_good : (r : Read NamedPool) (path : Option Name) (d : Data) → Gives same r (pool_in path d) → IfOk r (λ p. IsTrue (is_text p.pool.description))
pool_good r path d h = read_so r (pool_in path d) _ h (pool_post path d)

pub pool_has_name : (r : Read NamedPool) (path : Option Name) (d : Data) → Gives same r (pool_in path d) →
    IfOk r (λ p. IsTrue (is_path_name NameKind.Pool path) → IsTrue (is_pool_name p.name))
pool_has_name r path d h = read_if (IsTrue (is_path_name NameKind.Pool path)) r (pool_in path d) (λ p. IsTrue (is_pool_name p.name)) h (pool_named path d)

pub node_good : (r : Read Offer) (d : Data) → Gives same r (node_in d) → IfOk r (λ o. IsTrue (is_good_offer o))
node_good r d h = read_so r (node_in d) _ h (node_post d)

pub policy_good : (r : Read Policy) (d : Data) → Gives same r (policy_in d) → IfOk r (λ p. IsTrue (is_good_policy p))
policy_good r d h = read_so r (policy_in d) _ h (policy_post d)

pub token_good : (r : Read TokenDocument) (d : Data) → Gives same r (token_in d) →
    IfOk r (λ t. (accessor : Name) → IsTrue (is_good_token (with_accessor accessor t)))
token_good r d h = read_so r (token_in d) _ h (token_post d)
