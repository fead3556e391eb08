-- What comes after what: the place and the depth that a read state is left in.
use Rattle.std.proofs.Common.{◌≡◌, ℕ, List, Bool, true, false, Ok, Err, Some, refl, sym, subst, nat_lt, nat_le, ◌==◌, if◌then◌else◌}
use Rattle.ns_policy.specs.declared.fault.RuleFault.TheVariants.{Value}
use Rattle.ns_types.specs.declared.acl.RuleKind.{RuleKind}
use Rattle.ns_policy.specs.declared.parser.ItemRole.TheVariants as ItemRole
use Rattle.ns_policy.specs.declared.parser.Place.{Place}
use Rattle.ns_policy.specs.declared.parser.State.{State}
use Rattle.ns_types.specs.declared.acl.Pattern.{Pattern}
use Rattle.ns_types.specs.Access.Rights.{no_grants}
use Rattle.ns_policy.specs.Rules.{Read, ◌>>=◌, with_policy, with_capability, pattern_of}
use Rattle.ns_policy.specs.Grammar.{at, enter, leave, named, set_policy, begin_capabilities, add_capability, draft_of, unless}

-- what holds of the value, where there is one
abbrev pub Post : {A : Type 0} → Read A → (A → Type 0) → Type 0
Post (Ok a) P = P a
Post (Err e) P = Unit {0}

pub post_bind : {A B : Type 0} (r : Read A) (f : A → Read B) (P : B → Type 0) → ((x : A) → Post (f x) P) → Post (r >>= f) P
post_bind (Ok x) f P h = h x
post_bind (Err e) f P h = tt

pub post_then : {A B : Type 0} {P : A → Type 0} (r : Read A) (f : A → Read B) (Q : B → Type 0) → Post r P → ((x : A) → P x → Post (f x) Q) → Post (r >>= f) Q
post_then (Ok x) f Q p h = h x p
post_then (Err e) f Q p h = tt

pub post_map : {A : Type 0} (r : Read A) (P Q : A → Type 0) → ((x : A) → P x → Q x) → Post r P → Post r Q
post_map (Ok x) P Q f h = f x h
post_map (Err e) P Q f h = tt

pub post_if : {A : Type 0} (c : Bool) (x y : Read A) (P : A → Type 0) → Post x P → Post y P → Post (if c then x else y) P
post_if true x y P h k = h
post_if false x y P h k = k

pub post_if_is : {A : Type 0} (c : Bool) (x y : Read A) (P : A → Type 0) → (c ≡ true → Post x P) → (c ≡ false → Post y P) → Post (if c then x else y) P
post_if_is true x y P h k = h refl
post_if_is false x y P h k = k refl

pub bind_assoc : {A B C : Type 0} (r : Read A) (f : A → Read B) (g : B → Read C) → ((r >>= f) >>= g) ≡ (r >>= λ x. f x >>= g)
bind_assoc (Ok x) f g = refl
bind_assoc (Err e) f g = refl

abbrev pub Placed : Place → Read State → Type 0
Placed p r = Post r (λ a. a.place ≡ p)

pub along : {A : Type 0} (p : Place) (r : Read State) (f g : State → Read A) → Placed p r → ((a : State) → f (at a p) ≡ g (at a p)) → (r >>= f) ≡ (r >>= g)
along p (Ok a) f g h same = subst (λ (q : Place). f (at a q) ≡ g (at a q)) (sym h) (same a)
along p (Err e) f g h same = refl

pub enter_placed : (s : State) → Placed Place.Item (enter s)
unfolding enter
enter_placed s = post_if (nat_le 16 s.depth) _ _ _ tt refl

pub leave_placed : (s : State) → Placed Place.Item (leave s)
unfolding leave
leave_placed s = post_if (s.depth == 0) _ _ _ tt (post_if (nat_lt 1 s.depth) _ _ _ refl refl)

pub named_placed : (s : State) (kind : RuleKind) (l : List ℕ) → Placed (Place.Label (ItemRole.Block kind)) (named s kind l)
unfolding named
named_placed s kind l = post_bind (pattern_of kind l) _ _ (λ p. refl)

pub policy_placed : (s : State) (w : List ℕ) → Placed Place.Item (set_policy s w)
unfolding set_policy
policy_placed s w = post_bind (draft_of s) _ _ (λ d. post_bind (unless d.has_policy d) _ _ (λ e. post_bind (with_policy e.kind w e.grants) _ _ (λ g. refl)))

pub begin_placed : (s : State) → Placed (Place.Before ItemRole.Capabilities 1) (begin_capabilities s)
unfolding begin_capabilities
begin_placed s = post_bind (draft_of s) _ _ (λ d. post_bind (unless d.has_capabilities d) _ _ (λ e. refl))

pub add_placed : (s : State) (w : List ℕ) → Placed (Place.After ItemRole.Capabilities 1) (add_capability s w)
unfolding add_capability
add_placed s w = post_bind (draft_of s) _ _ (λ d. post_bind (with_capability d.kind w d.grants) _ _ (λ g. refl))

broken : {A : Type 0} (c : Bool) (x : Pattern) (k : Pattern → State) (f : State → Read A) → ((p : Pattern) → f (k p) ≡ Err Value) →
    (((if c then Ok x else Err Value) >>= λ p. Ok (k p)) >>= f) ≡ Err Value
broken true x k f h = h x
broken false x k f h = refl

-- a pattern is only broken by a value
pub pattern_fault : {A : Type 0} (s : State) (kind : RuleKind) (l : List ℕ) (f : State → Read A) →
    ((a : State) → f (at a (Place.Label (ItemRole.Block kind))) ≡ Err Value) → (named s kind l >>= f) ≡ Err Value
unfolding named pattern_of
pattern_fault s kind l f h = broken _ _ _ f (λ p. h
    (record s {
      draft = Some (record { kind = kind; pattern = p; grants = no_grants; has_policy = false; has_capabilities = false });
      place =
          Place.Label (ItemRole.Block kind);
    }))
