-- The refusals of a registration, one after another.
use Rattle.std.specs.Prelude.{◌≡◌, ℕ, ◌+◌, ◌≤◌, Bool, true, false, not, cond, ◌&&◌, nat_le, Option, Some, None, Ok, Err, ◌⊎◌}
use Rattle.std.proofs.Common.{refl, sym, ap, subst, ◌∙◌, arith, inl, inr}
use Rattle.std.specs.FinMap.{get, len, contains_key}
use Rattle.std.specs.Option.{option_map_or}
use Rattle.std.proofs.lemmas.Bool.{leb-true, le-leb, eqb-true, eq-eqb, ne_eqb}
use Rattle.ns_types.specs.declared.job.Registration.{Registration}
use Rattle.ns_types.specs.declared.refusal.Member.TheVariants as Member
use Rattle.ns_types.specs.declared.refusal.Refusal.{Refusal}
use Rattle.ns_types.specs.declared.reply.Content.{Content}
use Rattle.ns_types.specs.declared.step.AskCommand.TheVariants as AskCommand
use Rattle.ns_types.specs.declared.step.Step.{Step}
use Rattle.ns_types.specs.Asking.Policies.{with_world}
use Rattle.ns_types.specs.Asking.Asks.{ask, asked_in, document_of, first_refusal, has_no_room, is_outdated, meets, most_jobs, pool_of, registered_job}
use Rattle.ns_types.specs.Asking.Asks.{registered_with}
use Rattle.ns_types.specs.State.Names.{Name, same_number}
use Rattle.ns_types.specs.Settling.Outcome.{Outcome, Refused, Done, refused_by, found, lift}
use Rattle.ns_types.specs.Access.Rights.{rights_of}
use Rattle.ns_types.specs.State.Rows.{State, World, Tenant}
use Rattle.ns_types.specs.Access.Sharing.{permits}
use Rattle.ns_types.specs.Steps.{after, act, said, concluded, is_past_bound, settled, reply_of}
use Rattle.ns_types.proofs.Lists.{not_both}
use Rattle.ns_types.proofs.Registrations.{by_tests}
use Rattle.ns_types.proofs.Named.{first_of_both, one_number, second_of_both, same_number_refl}
use Rattle.ns_types.proofs.Tables.{tied}
use Rattle.ns_types.proofs.Tests.{is_no}
use Rattle.ns_audit.specs.Refusals as law
use Rattle.ns_audit.specs.Refusals.{SpeaksAgainst, rank}
use Rattle.ns_audit.proofs.RefusalLemmas.{same_refusal, after_allowed}
use Rattle.ns_audit.proofs.RightsLemmas.{denied_without}
use Rattle.ns_audit.proofs.StepLemmas.{same_answer, not_refused}

module _ (s : State) (secret : Option Name) (ns : Name) (r : Registration) where
  abbrev step : Step
  step = Step.Ask ns secret (AskCommand.Register r)

  abbrev has_right : Bool
  has_right = (rights_of s.acl secret ns).submit_job

  abbrev is_permitted : Tenant → Bool
  is_permitted t = permits t.namespace (pool_of t r)

  abbrev is_there : Tenant → Bool
  is_there t = contains_key s.world.pools (pool_of t r)

  abbrev done : Tenant → Outcome World
  done t = registered_with ns r s.world t (registered_job (t.index + 1) (document_of t r) (get t.jobs r.id))

  abbrev in_state : Outcome World → Outcome State
  in_state o = lift (with_world s.acl) o

  acts_in : (t : Tenant) → get s.world.tenants ns ≡ Some t → act step s ≡ in_state (refused_by (first_refusal s.world t r) (done t))
  unfolding act ask
  acts_in t is = ap (λ o. in_state (found o (asked_in ns (AskCommand.Register r) s.world))) is

  acts_nowhere : get s.world.tenants ns ≡ None → act step s ≡ Refused Refusal.NotFound
  unfolding act ask
  acts_nowhere is = ap (λ o. in_state (found o (asked_in ns (AskCommand.Register r) s.world))) is

  refused_so : (refusal : Refusal) → has_right ≡ true → act step s ≡ Refused refusal → after step s ≡ said (Err refusal) s
  refused_so refusal may e = after_allowed step s may ∙ ap (concluded step s) e

  -- by what the tests say
  tested : (t : Tenant) → get s.world.tenants ns ≡ Some t → {a b c d : Bool} → is_permitted t ≡ a → is_there t ≡ b → is_outdated r t ≡ c → has_no_room r t ≡ d
      → act step s ≡ in_state (refused_by (by_tests a b c d) (done t))
  tested t is e f g h = acts_in t is ∙ (λ i. in_state (refused_by (by_tests (e i) (f i) (g i) (h i)) (done t)))

  -- what speaks against it where a test holds
  pub other_against : (t : Tenant) → get s.world.tenants ns ≡ Some t → is_outdated r t ≡ true → SpeaksAgainst s secret ns r Refusal.Conflict
  other_against t is e = by r.enforced refl e
    where
      by : (o : Option ℕ) → r.enforced ≡ o → option_map_or (λ index. not (meets (get t.jobs r.id) index)) o false ≡ true →
          SpeaksAgainst s secret ns r Refusal.Conflict
      by None f e = not_both e refl
      by (Some index) f e = law.other_index t index is f (is_no (meets (get t.jobs r.id) index) e)

  pub room_against : (t : Tenant) → get s.world.tenants ns ≡ Some t → has_no_room r t ≡ true → SpeaksAgainst s secret ns r Refusal.Full
  room_against t is e = law.no_room t is (is_no (contains_key t.jobs r.id) (first_of_both (not (contains_key t.jobs r.id)) _ e))
      (leb-true most_jobs (len t.jobs) (second_of_both (not (contains_key t.jobs r.id)) _ e))

  -- an answer that comes no later than the n-th
  abbrev Answered : ℕ → Type 0
  Answered n = (refusal : Refusal) × SpeaksAgainst s secret ns r refusal × (rank refusal ≤ n) × (after step s ≡ said (Err refusal) s)

  with_right : (n : ℕ) → (has_right ≡ true → Answered n) → Answered n
  with_right n go = by has_right refl go
    where
      by : (b : Bool) → has_right ≡ b → (has_right ≡ true → Answered n) → Answered n
      by true e go = go e
      by false e go = (Refusal.Denied, law.no_right e, omega arith, denied_without step s e)

  with_own_pool : (n : ℕ) → 2 ≤ n → has_right ≡ true → (t : Tenant) → get s.world.tenants ns ≡ Some t → (is_permitted t ≡ true → Answered n) → Answered n
  with_own_pool n le may t is go = by (is_permitted t) refl go
    where
      by : (b : Bool) → is_permitted t ≡ b → (is_permitted t ≡ true → Answered n) → Answered n
      by true e go = go e
      by false e go = (Refusal.PoolNotPermitted, law.foreign_pool t is e, le, refused_so Refusal.PoolNotPermitted may (tested t is e refl refl refl))

  with_pool : (n : ℕ) → 3 ≤ n → has_right ≡ true → (t : Tenant) → get s.world.tenants ns ≡ Some t → is_permitted t ≡ true → (is_there t ≡ true → Answered n) →
      Answered n
  with_pool n le may t is own go = by (is_there t) refl go
    where
      by : (b : Bool) → is_there t ≡ b → (is_there t ≡ true → Answered n) → Answered n
      by true e go = go e
      by false e go = (
        Refusal.BadField Member.NodePool,
        law.no_pool t is e,
        le,
        refused_so (Refusal.BadField Member.NodePool) may
            (tested t is own e refl refl),
      )

  with_index : (n : ℕ) → 4 ≤ n → has_right ≡ true → (t : Tenant) → get s.world.tenants ns ≡ Some t → is_permitted t ≡ true → is_there t ≡ true →
      (is_outdated r t ≡ false → Answered n) → Answered n
  with_index n le may t is own there go = by (is_outdated r t) refl go
    where
      by : (b : Bool) → is_outdated r t ≡ b → (is_outdated r t ≡ false → Answered n) → Answered n
      by false e go = go e
      by true e go = (Refusal.Conflict, other_against t is e, le, refused_so Refusal.Conflict may (tested t is own there e refl))

  other_test : (t : Tenant) (index : ℕ) → r.enforced ≡ Some index → meets (get t.jobs r.id) index ≡ false → is_outdated r t ≡ true
  other_test t index is e = ap (λ o. option_map_or (λ index. not (meets (get t.jobs r.id) index)) o false) is ∙ ap not e

  room_test : (t : Tenant) → contains_key t.jobs r.id ≡ false → most_jobs ≤ len t.jobs → has_no_room r t ≡ true
  room_test t e le = ap (λ b. not b && nat_le most_jobs (len t.jobs)) e ∙ le-leb most_jobs (len t.jobs) le

  first_answer : (other : Refusal) → SpeaksAgainst s secret ns r other → Answered (rank other)
  first_answer other (law.no_right e) = (Refusal.Denied, law.no_right e, omega arith, denied_without step s e)
  first_answer other (law.no_namespace e) = with_right 1
      (λ may. (Refusal.NotFound, law.no_namespace e, omega arith, refused_so Refusal.NotFound may (acts_nowhere e)))
  first_answer other (law.foreign_pool t is e) = with_right 2 (λ may. with_own_pool 2 (omega arith) may t is (λ own. not_both own e))
  first_answer other (law.no_pool t is e) = with_right 3
      (λ may. with_own_pool 3 (omega arith) may t is (λ own. with_pool 3 (omega arith) may t is own (λ there. not_both there e)))
  first_answer other (law.other_index t index is of e) =
      with_right 4 (λ may. with_own_pool 4 (omega arith) may t is (λ own. with_pool 4 (omega arith) may t is own (λ there.
      with_index 4 (omega arith) may t is own there (λ same. not_both (other_test t index of e) same))))
  first_answer other (law.no_room t is e le) = with_right 6
      (λ may. with_own_pool 6 (omega arith) may t is (λ own. with_pool 6 (omega arith) may t is own (λ there.
      with_index 6 (omega arith) may t is own there (λ same.
      (Refusal.Full, law.no_room t is e le, omega arith, refused_so Refusal.Full may (tested t is own there same (room_test t e le)))))))

  -- ---- and no other

  abbrev IsWhy : Refusal → Type 0
  IsWhy refusal = SpeaksAgainst s secret ns r refusal ⊎ ((refusal ≡ Refusal.Full) × (law.would_pass_bound step s ≡ true))

  by_known : (known refusal : Refusal) (t : State) → SpeaksAgainst s secret ns r known → after step s ≡ said (Err known) s →
      after step s ≡ said (Err refusal) t → IsWhy refusal
  by_known known refusal t why is e = inl (subst (SpeaksAgainst s secret ns r) (same_refusal known refusal s t (sym is ∙ e)) why)

  by_done : (refusal : Refusal) (t : State) (content : Content) (w : World) → act step s ≡ Done content (with_world s.acl w) →
      concluded step s (Done content (with_world s.acl w)) ≡ said (Err refusal) t → IsWhy refusal
  by_done refusal t content w acts e = by (is_past_bound (settled s (with_world s.acl w)).world) refl e
    where
      by : (b : Bool) → is_past_bound (settled s (with_world s.acl w)).world ≡ b → cond b (said (Err Refusal.Full) s)
          (said (Ok (reply_of step content (settled s (with_world s.acl w)).world)) (settled s (with_world s.acl w))) ≡ said (Err refusal) t → IsWhy refusal
      by true is e = inr (sym (same_refusal Refusal.Full refusal s t e), ap (law.is_past_after s) acts ∙ is)
      by false is e = not_refused (reply_of step content (settled s (with_world s.acl w)).world) refusal (same_answer _ _ (settled s (with_world s.acl w)) t e)

  why_in : (refusal : Refusal) (end : State) (t : Tenant) → has_right ≡ true → get s.world.tenants ns ≡ Some t → after step s ≡ said (Err refusal) end →
      IsWhy refusal
  why_in refusal end t may is e = foreign (is_permitted t) refl
    where
      full : is_permitted t ≡ true → is_there t ≡ true → is_outdated r t ≡ false → (b : Bool) → has_no_room r t ≡ b → IsWhy refusal
      full f g h true k = by_known Refusal.Full refusal end (room_against t is k) (refused_so Refusal.Full may (tested t is f g h k)) e
      full f g h false k = by_done refusal end _ _ (tested t is f g h k)
          (sym (after_allowed step s may ∙ ap (concluded step s) (tested t is f g h k)) ∙ e)

      other : is_permitted t ≡ true → is_there t ≡ true → (b : Bool) → is_outdated r t ≡ b → IsWhy refusal
      other f g true h = by_known Refusal.Conflict refusal end (other_against t is h) (refused_so Refusal.Conflict may (tested t is f g h refl)) e
      other f g false h = full f g h (has_no_room r t) refl

      missing : is_permitted t ≡ true → (b : Bool) → is_there t ≡ b → IsWhy refusal
      missing f false g = by_known (Refusal.BadField Member.NodePool) refusal end (law.no_pool t is g)
          (refused_so (Refusal.BadField Member.NodePool) may (tested t is f g refl refl)) e
      missing f true g = other f g (is_outdated r t) refl

      foreign : (b : Bool) → is_permitted t ≡ b → IsWhy refusal
      foreign false f = by_known Refusal.PoolNotPermitted refusal end (law.foreign_pool t is f)
          (refused_so Refusal.PoolNotPermitted may (tested t is f refl refl refl)) e
      foreign true f = missing f (is_there t) refl

  why : (refusal : Refusal) (end : State) → after step s ≡ said (Err refusal) end → IsWhy refusal
  why refusal end e = by has_right refl
    where
      there : has_right ≡ true → (o : Option Tenant) → get s.world.tenants ns ≡ o → IsWhy refusal
      there may None is = by_known Refusal.NotFound refusal end (law.no_namespace is) (refused_so Refusal.NotFound may (acts_nowhere is)) e
      there may (Some t) is = why_in refusal end t may is e

      by : (b : Bool) → has_right ≡ b → IsWhy refusal
      by true may = there may (get s.world.tenants ns) refl
      by false may = by_known Refusal.Denied refusal end (law.no_right may) (denied_without step s may) e

pub first_refusal_of_register : law.FirstRefusalOfRegister
first_refusal_of_register s secret ns r other against = first_answer s secret ns r other against

pub register_refuses_so : law.RegisterRefusesSo
register_refuses_so s t secret ns r refusal e = why s secret ns r refusal t e

pub index_is_demanded : law.IndexIsDemanded
index_is_demanded job index = (
  ((λ e. eqb-true index 0 e), (λ e. eq-eqb index 0 e)),
  (
    (λ e. (
      tied one_number job.modify_index index (first_of_both (same_number job.modify_index index) _ e),
      λ zero_is. not_both (eq-eqb index 0 zero_is)
          (is_no _ (second_of_both (same_number job.modify_index index) _ e)),
    )),
    (λ h. λ i. same_number_of h.0 i && not (ne_eqb index 0 h.1 i)),
  ),
)
  where
    same_number_of : job.modify_index ≡ index → same_number job.modify_index index ≡ true
    same_number_of e = ap (same_number job.modify_index) (sym e) ∙ same_number_refl job.modify_index
