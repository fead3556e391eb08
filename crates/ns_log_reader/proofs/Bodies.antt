-- Documents that are written as bodies and read by the readers of bodies.
use Rattle.std.proofs.Common.{◌≡◌, ◌&&◌, Bool, List, Some, None, Result, Ok, Err, IfOk, refl, sym, ap, subst}
use Rattle.std.specs.Prelude.{IsTrue, IsUtf8}
use Rattle.std.proofs.lemmas.Bool.{and_from}
use Rattle.serde_json.specs.Data.{Data}
use Rattle.serde_json.specs.Read.{read}
use Rattle.ns_types.specs.declared.acl.Policy.{Policy}
use Rattle.ns_types.specs.declared.acl.Rule.{Rule}
use Rattle.ns_types.specs.declared.refusal.Member.{Member}
use Rattle.ns_types.specs.declared.refusal.Refusal.{Refusal}
use Rattle.ns_types.specs.declared.name.NameKind.{NameKind}
use Rattle.ns_types.specs.State.Limits.{is_pool_name, is_text}
use Rattle.ns_types.specs.State.Name.{is_name}
use Rattle.ns_types.specs.State.Names.{Name}
use Rattle.ns_json.specs.Reading.{◌>>=◌, body_in, top, demanded}
use Rattle.ns_json.specs.Reading as json
use Rattle.ns_json.proofs.Posts.{Post, post_any, read_so}
use Rattle.ns_json.proofs.Texts.{json_ok}
use Rattle.ns_policy.specs.declared.fault.RuleFault.{RuleFault}
use Rattle.ns_policy.specs.Json.{rules_of}
use Rattle.ns_documents.specs.Access.{policy_in, or_bad_rules, rules_text_in}
use Rattle.ns_documents.specs.declared.pool.NamedPool.{NamedPool}
use Rattle.ns_documents.specs.Members.{description_in, IsNamedWell, IsPoolNamedWell}
use Rattle.ns_log_reader.specs.Reading.{Read, Gives, same, accepted}

given : {A : Type 0} (r q : json.Read A) → json.Gives json.same r q → Gives same (accepted r) (accepted q)
given (Ok x) q h = ap accepted h
given (Err Refusal.Memory) q h = tt
given (Err Refusal.BadJson) q h = ap accepted h
given (Err (Refusal.BadField m)) q h = ap accepted h
given (Err Refusal.BadHead) q h = elim h [ ]
given (Err Refusal.Denied) q h = elim h [ ]
given (Err Refusal.NotFound) q h = elim h [ ]
given (Err Refusal.BadMethod) q h = elim h [ ]
given (Err Refusal.Conflict) q h = elim h [ ]
given (Err Refusal.PoolNotPermitted) q h = elim h [ ]
given (Err Refusal.InUse) q h = elim h [ ]
given (Err Refusal.Full) q h = elim h [ ]
given (Err Refusal.NeedLength) q h = elim h [ ]
given (Err Refusal.TooLarge) q h = elim h [ ]
given (Err Refusal.NotServed) q h = elim h [ ]
given (Err Refusal.LogFull) q h = elim h [ ]
given (Err Refusal.NotEnabled) q h = elim h [ ]
given (Err Refusal.Foreign) q h = elim h [ ]

body_is : {A : Type 0} (f : Data → json.Read A) (text : Name) (d : Data) → IsUtf8 text → read text ≡ Some d → body_in f text ≡ f d
unfolding body_in
body_is f text d utf8 is = ap (λ x. x >>= f) (json_ok text d (utf8, is))

-- what the reader of a body gives, where the body is the document's text
pub document_read : {A : Type 0} (f : Data → json.Read A) (text : Name) (d : Data) (r : json.Read A) (s : Read A) → IsUtf8 text → read text ≡ Some d →
    json.Gives json.same r (body_in f text) → s ≡ accepted r → Gives same s (accepted (f d))
document_read f text d r s utf8 is gives accept =
    subst (λ x. Gives same x (accepted (f d))) (sym accept) (given r (f d) (subst (json.Gives json.same r) (body_is f text d utf8 is) gives))

-- what holds of what it gives
pub accepted_so : {A : Type 0} (r : json.Read A) (s : Read A) (P : A → Type 0) → IfOk r P → s ≡ accepted r → IfOk s P
accepted_so (Ok x) s P h is = subst (λ y. IfOk y P) (sym is) h
accepted_so (Err e) s P h is = subst (λ y. IfOk y P) (sym is) tt

-- a document with a name, where the path holds none
pub named_so : {A : Type 0} (kind : NameKind) (name_of : A → Name) (good : A → Bool) (r : json.Read A) → IfOk r (λ d. IsTrue (good d)) →
    IfOk r (λ d. IsNamedWell kind None (name_of d)) → IfOk r (λ d. IsTrue (is_name kind (name_of d) && good d))
named_so kind name_of good (Ok x) g n = and_from (is_name kind (name_of x)) (good x) (n refl) g
named_so kind name_of good (Err e) g n = tt

pub pool_so : (r : json.Read NamedPool) → IfOk r (λ d. IsTrue (is_text d.pool.description)) → IfOk r (λ d. IsPoolNamedWell None d.name) →
    IfOk r (λ d. IsTrue (is_pool_name d.name && is_text d.pool.description))
pool_so (Ok x) g n = and_from (is_pool_name x.name) (is_text x.pool.description) (n refl) g
pool_so (Err e) g n = tt

-- ---- the rules of a policy

rules_post : (description text : Name) (r : Result (List Rule) RuleFault) → rules_of text ≡ r →
    Post (or_bad_rules r >>= λ rules. Ok (record { description = description; text = text; rules = rules })) (λ (p : Policy). rules_of p.text ≡ Ok p.rules)
rules_post description text (Ok rules) is = is
rules_post description text (Err fault) is = tt

policy_post : (d : Data) → Post (policy_in d) (λ p. rules_of p.text ≡ Ok p.rules)
unfolding policy_in
policy_post d =
    post_any (top d) _ _ (λ t. post_any (description_in t) _ _ (λ description. post_any (demanded Member.Rules t) _ _ (λ v.
    post_any (rules_text_in v) _ _ (λ text. rules_post description text (rules_of text) refl))))

pub policy_rules : (text : Name) (d : Data) (r : json.Read Policy) → IsUtf8 text → read text ≡ Some d → json.Gives json.same r (body_in policy_in text) →
    IfOk r (λ p. rules_of p.text ≡ Ok p.rules)
policy_rules text d r utf8 is gives = read_so r (policy_in d) _ (subst (json.Gives json.same r) (body_is policy_in text d utf8 is) gives) (policy_post d)

-- ---- a job
