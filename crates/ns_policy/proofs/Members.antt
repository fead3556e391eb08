-- Capabilities and rules of the JSON form, one after the other.
use Rattle.std.proofs.Common.{◌≡◌, ℕ, ◌+◌, ◌<◌, ◌≤◌, List, [], ◌∷◌, length, get_or, drop, Ok, String, Global, string_bytes, refl, sym, ap, ◌∙◌, codes, Some}
use Rattle.std.proofs.lemmas.List.{drop_more, drop_all}
use Rattle.serde_json.specs.Data.{Data, item, Items}
use Rattle.serde_json.specs.Find.{as_array}
use Rattle.serde_json.specs.View.{view, items_view, members_view}
use Rattle.serde_json.specs.declared.value.Value.{Value}
use Rattle.ns_policy.specs.declared.fault.RuleFault.{RuleFault}
use Rattle.ns_types.specs.declared.acl.RuleKind.{RuleKind}
use Rattle.ns_types.specs.declared.acl.Grants.{Grants}
use Rattle.ns_types.specs.declared.acl.Rule.{Rule}
use Rattle.ns_policy.specs.Rules.{Read, ◌>>=◌, Fails}
use Rattle.ns_policy.specs.Json.{each_capability, one_capability, each_rule, with_rule, present, or_value, capabilities_in}

-- where the first step of a reading fails, so does the whole
pub fails_first : {A B : Type 0} (f : RuleFault) (first : Read A) (more : A → Read B) (whole : Read B) → whole ≡ (first >>= more) → Fails f first →
    Fails f whole
fails_first RuleFault.Memory first more whole is bad = tt
fails_first RuleFault.Syntax first more whole is bad = is ∙ rw bad refl
fails_first RuleFault.Value first more whole is bad = is ∙ rw bad refl

next : (vs : List Value) (i : ℕ) (v : Value) → i < length vs → v ≡ get_or vs i v → items_view (drop i vs) ≡ item (view v) (items_view (drop (i + 1) vs))
next vs i v lt is = ap items_view (drop_more vs i v lt) ∙ rw (← is) refl

capability_turn : (kind : RuleKind) (g : Grants) (vs : List Value) (i : ℕ) (v : Value) → i < length vs → v ≡ get_or vs i v
    → each_capability kind g (items_view (drop i vs)) ≡ (one_capability kind g (view v) >>= λ h. each_capability kind h (items_view (drop (i + 1) vs)))
unfolding each_capability
capability_turn kind g vs i v lt is = rw (next vs i v lt is) refl

pub capability_more : (kind : RuleKind) (g h : Grants) (vs : List Value) (i : ℕ) (v : Value) (total : Read Grants) → i < length vs → v ≡ get_or vs i v →
    one_capability kind g (view v) ≡ Ok h
    → each_capability kind g (items_view (drop i vs)) ≡ total → each_capability kind h (items_view (drop (i + 1) vs)) ≡ total
capability_more kind g h vs i v total lt is one so_far = sym (capability_turn kind g vs i v lt is ∙ rw one refl) ∙ so_far

pub capability_bad : (f : RuleFault) (kind : RuleKind) (g : Grants) (vs : List Value) (i : ℕ) (v : Value) (total : Read Grants) → i < length vs →
    v ≡ get_or vs i v → Fails f (one_capability kind g (view v))
    → each_capability kind g (items_view (drop i vs)) ≡ total → Fails f total
capability_bad f kind g vs i v total lt is bad so_far =
    fails_first f (one_capability kind g (view v)) _ total (sym so_far ∙ capability_turn kind g vs i v lt is) bad

pub capability_done : (kind : RuleKind) (g : Grants) (vs : List Value) (i : ℕ) (total : Read Grants) → length vs ≤ i →
    each_capability kind g (items_view (drop i vs)) ≡ total → total ≡ Ok g
unfolding each_capability
capability_done kind g vs i total le so_far = sym so_far ∙ rw (drop_all i vs le) refl

abbrev Entry : Type 0
Entry = String Global × Value

rule_turn : (kind : RuleKind) (done : List Rule) (left rest : List Entry) (e : Entry) → left ≡ e ∷ rest
    → each_rule kind done (members_view left) ≡ (with_rule kind done (string_bytes e.0) (view e.1) >>= λ rules. each_rule kind rules (members_view rest))
unfolding each_rule
rule_turn kind done left rest e is = rw is refl

pub rule_more : (kind : RuleKind) (done more : List Rule) (left rest : List Entry) (e : Entry) (total : Read (List Rule)) → left ≡ e ∷ rest →
    with_rule kind done (string_bytes e.0) (view e.1) ≡ Ok more
    → each_rule kind done (members_view left) ≡ total → each_rule kind more (members_view rest) ≡ total
rule_more kind done more left rest e total is one so_far = sym (rule_turn kind done left rest e is ∙ rw one refl) ∙ so_far

pub rule_bad : (f : RuleFault) (kind : RuleKind) (done : List Rule) (left rest : List Entry) (e : Entry) (total : Read (List Rule)) → left ≡ e ∷ rest →
    Fails f (with_rule kind done (string_bytes e.0) (view e.1))
    → each_rule kind done (members_view left) ≡ total → Fails f total
rule_bad f kind done left rest e total is bad so_far =
    fails_first f (with_rule kind done (string_bytes e.0) (view e.1)) _ total (sym so_far ∙ rule_turn kind done left rest e is) bad

pub rule_done : (kind : RuleKind) (done : List Rule) (left : List Entry) (total : Read (List Rule)) → left ≡ [] →
    each_rule kind done (members_view left) ≡ total → total ≡ Ok done
unfolding each_rule
rule_done kind done left total is so_far = sym so_far ∙ rw is refl

pub capabilities_are : (kind : RuleKind) (g : Grants) (d v : Data) (ds : Items) → present (codes "capabilities") d ≡ Some v → or_value (as_array v) ≡ Ok ds →
    capabilities_in kind g d ≡ each_capability kind g ds
unfolding capabilities_in
capabilities_are kind g d v ds there list = rw (there, list) refl
