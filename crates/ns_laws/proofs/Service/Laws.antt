-- The laws of what becomes of evaluations: the end of a step, the whole step, and runs.
use Rattle.std.specs.Prelude.{◌≡◌, ◌⊎◌, ℕ, Bool, true, false, cond, List, [], ◌∷◌, Option, Some, None, Ok, Err, option_map}
use Rattle.std.proofs.Common.{inl, inr, refl, sym, ap, subst, ◌∙◌}
use Rattle.std.specs.FinMap.{get, get-empty}
use Rattle.std.specs.Option.{option_and_then}
use Rattle.std.specs.Ordering.{nat_cmp}
use Rattle.ns_types.specs.declared.evaluation.Evaluation.{Evaluation}
use Rattle.ns_types.specs.declared.evaluation.Status.TheVariants as Statuses
use Rattle.ns_types.specs.declared.allocation.Allocation.{Allocation}
use Rattle.ns_types.specs.declared.refusal.Refusal.TheVariants as Refusal
use Rattle.ns_types.specs.declared.step.Step.{Step}
use Rattle.ns_types.specs.Settling.Outcome.{Outcome, NotEnabled, Refused, Done}
use Rattle.ns_types.specs.Settling.Releases.{woken}
use Rattle.ns_types.specs.Settling.Settle.{settle, stamp_tenant, unblocked_in, woken_row}
use Rattle.ns_types.specs.Settling.Settle.{pending}
use Rattle.ns_types.specs.State.Lists.{Each}
use Rattle.ns_types.specs.State.Names.{Key, Name, has_key, default_name}
use Rattle.ns_types.specs.State.Rows.{State, World, Tenant, evaluation_at, allocation_at, is_open}
use Rattle.ns_types.specs.Steps.{Answer, Run, said, act, after, is_allowed, concluded, reply_of, is_past_bound, opening, opening_tenant, opening_world}
use Rattle.ns_types.specs.Validity.{IsSound, IsValid}
use Rattle.ns_types.specs.Within.{IsGoodStep}
use Rattle.ns_types.specs.Working.Queue.{is_busy}
use Rattle.ns_types.proofs.Leads.{Leads}
use Rattle.ns_types.proofs.Lists.{not_both}
use Rattle.ns_types.proofs.Named.{names, one_name, numbers, one_number}
use Rattle.ns_types.proofs.Tables.{get-map_rows}
use Rattle.ns_types.proofs.Tests.{not_Some, same_Some}
use Rattle.ns_audit.proofs.Alone.Orderly.{orderly}
use Rattle.ns_audit.proofs.Steady.Keeping.{has_key_filter, row_of_map}
use Rattle.ns_audit.proofs.Steady.Opening.{only_row}
use Rattle.ns_audit.proofs.Valid.{opening_is_valid, valid_step}
use Rattle.ns_laws.specs.Ending.{IsDeletionOf, IsSameAllocation}
use Rattle.ns_laws.specs.Serving as law
use Rattle.ns_laws.specs.Serving.{IsUnderWay, is_ready, is_with_worker, HasOneUnderWay, IsSameEvaluation, ForgetsNone, EvaluationEnds, NextStatus, GoesOn}
use Rattle.ns_laws.specs.Serving.{finished, canceled, given_up, stays, wakes, ends}
use Rattle.ns_laws.proofs.Effect.Rows.{settled_rows, settled_there, settled_tenant, redated_evaluation}
use Rattle.ns_laws.proofs.Endings.Laws.{allocation_is_fixed, gone_with_namespace, same_allocation_itself, same_allocation_then}
use Rattle.ns_laws.proofs.Service.Closing.{Turned, Passes, Leaves}
use Rattle.ns_laws.proofs.Service.Keeping.{busy_one, ready_queues}
use Rattle.ns_laws.proofs.Service.Lists.{evaluation_in, evaluation_is, worker_in}
use Rattle.ns_laws.proofs.Service.Rows.{same_but, same_itself, same_then}
use Rattle.ns_laws.proofs.Service.Steps.{act_leaves}
use Rattle.ns_laws.proofs.Wakes.Reasons.{all_behind, opened, waked, settled_ready, there_later, stamped_workers, was_stamped}
use Rattle.ns_laws.proofs.Wakes.Reasons.{settled_rows as waked_rows}

-- ---- the rows at the end of a step

stamped_same : (old : Option Tenant) (t : Tenant) (n : ℕ) (d : Evaluation) → get t.evaluations n ≡ Some d →
    (e : Evaluation) × (get (stamp_tenant old t).evaluations n ≡ Some e) × IsSameEvaluation d e × (e.status ≡ d.status)
stamped_same old t n d at = let r = redated_evaluation old t n d at in
    (record d { create_index = r.0; modify_index = r.1 }, r.2, same_but d d.status d.nacks d.follower r.0 r.1, refl)

module _ (w x : World) where
  -- what the end of the step makes of an evaluation: it is woken, or its status stays
  pub record Settles (key : Key) (b c : Evaluation) : Type 0 where
    pub same : IsSameEvaluation b c
    pub status : (c.status ≡ b.status) ⊎ ((has_key (woken w x) key ≡ true) × (c.status ≡ Statuses.Pending))

  pub settled_to : (key : Key) (b : Evaluation) → evaluation_at x key ≡ Some b → (c : Evaluation) × (evaluation_at (settle w x) key ≡ Some c) × Settles key b c
  settled_to key b at = by (has_key (woken w x) key) refl
    where
      t : (t : Tenant) × (get x.tenants key.0 ≡ Some t) × (get t.evaluations key.1 ≡ Some b)
      t = evaluation_in x key b at

      u : Tenant
      u = unblocked_in (woken w x) key.0 t.0

      u_at : get (unblocked_in (woken w x) key.0 t.0).evaluations key.1 ≡ Some (cond (has_key (woken w x) key) (pending b) b)
      u_at = get-map_rows numbers one_number (woken_row (woken w x) key.0) t.0.evaluations key.1 ∙ ap (option_map (woken_row (woken w x) key.0 key.1)) t.2

      from : (d : Evaluation) → get (unblocked_in (woken w x) key.0 t.0).evaluations key.1 ≡ Some d →
          (c : Evaluation) × (evaluation_at (settle w x) key ≡ Some c) × IsSameEvaluation d c × (c.status ≡ d.status)
      from d d_at = let s = stamped_same (get w.tenants key.0) (unblocked_in (woken w x) key.0 t.0) key.1 d d_at in (
        s.0,
        evaluation_is (settle w x) key (settled_rows w x key.0 t.0) s.0 (settled_there w x key.0 t.0 t.1) s.1,
        s.2,
        s.3,
      )

      by : (c : Bool) → has_key (woken w x) key ≡ c → (c : Evaluation) × (evaluation_at (settle w x) key ≡ Some c) × Settles key b c
      by true has = let s = from (pending b) (u_at ∙ ap (λ c. Some (cond c (pending b) b)) has) in (
        s.0,
        s.1,
        record { same = same_then b (pending b) s.0 (same_but b Statuses.Pending _ _ _ _) s.2; status = inr (has, s.3) },
      )
      by false has = let s = from b (u_at ∙ ap (λ c. Some (cond c (pending b) b)) has) in (s.0, s.1, record { same = s.2; status = inl s.3 })

  -- an evaluation that wakes was blocked before the step
  woken_was : IsSound w → (key : Key) (a : Evaluation) → evaluation_at w key ≡ Some a → has_key (woken w x) key ≡ true → a.status ≡ Statuses.Blocked
  unfolding woken
  woken_was sound key a at has =
      let l = (orderly w sound).blocked key.0 key.1 (has_key_filter _ w.blocked key has).0 in
      ap (λ (e : Evaluation). e.status) (same_Some _ _ (sym at ∙ evaluation_is w key l.tenant l.entry.row l.is_tenant l.entry.is_row)) ∙ l.entry.is_blocked

  -- ---- none is forgotten

  under_settled : (k : Name) (n : ℕ) → IsUnderWay x k n → IsUnderWay (settle w x) k n
  under_settled k n (is_ready has) = is_ready (ap (λ keys. has_key keys (k, n)) (settled_ready w x) ∙ ready_queues (woken w x) (opened w x) (k, n) has)
  under_settled k n (is_with_worker m v at same) = let t = worker_in x m k v at in is_with_worker m v
      (ap (option_and_then (λ (t : Tenant). get t.workers m)) (settled_there w x k t.0 t.1)
      ∙ ap (λ r. get r m) (stamped_workers (get w.tenants k) (unblocked_in (woken w x) k t.0)) ∙ t.2) same

  one_settled : (k job : Name) → HasOneUnderWay x k job → HasOneUnderWay (settle w x) k job
  one_settled k job o = let c = settled_to (k, o.number) o.row o.is_row in record {
    number = o.number;
    row = c.0;
    is_row = c.1;
    of_job = c.2.same.job ∙ o.of_job;
    under_way = under_settled k o.number o.under_way;
  }

  under_waked : (k : Name) (n : ℕ) → IsUnderWay (waked w x) k n → IsUnderWay (settle w x) k n
  under_waked k n (is_ready has) = is_ready (ap (λ keys. has_key keys (k, n)) (settled_ready w x) ∙ has)
  under_waked k n (is_with_worker m v at same) = let t = worker_in (waked w x) m k v at in is_with_worker m v
      (ap (option_and_then (λ (t : Tenant). get t.workers m)) (waked_rows w x k ∙ ap (option_map (stamp_tenant (get w.tenants k))) t.1)
      ∙ ap (λ r. get r m) (stamped_workers (get w.tenants k) t.0) ∙ t.2) same

  one_waked : (k job : Name) → HasOneUnderWay (waked w x) k job → HasOneUnderWay (settle w x) k job
  one_waked k job o = let c = there_later w x k o.number o.row o.is_row in record {
    number = o.number;
    row = c.0;
    is_row = c.1;
    of_job = c.2 ∙ o.of_job;
    under_way = under_waked k o.number o.under_way;
  }

  settle_forgets : ForgetsNone x → ForgetsNone (settle w x)
  settle_forgets none k n d at p = in_tenant (get x.tenants k) refl (sym
      (ap (option_and_then (λ (t : Tenant). get t.evaluations n)) (settled_tenant w x k)) ∙ at)
    where
      row : (t : Tenant) → get x.tenants k ≡ Some t → (d0 : Evaluation) → get (unblocked_in (woken w x) k t).evaluations n ≡ Some d0 →
          d.job ≡ d0.job → d0.status ≡ Statuses.Pending → HasOneUnderWay (settle w x) k d.job
      row t is d0 d0_at job status = by (has_key (woken w x) (k, n)) refl
        where
          y : (y : Evaluation) × (get t.evaluations n ≡ Some y) × (woken_row (woken w x) k n y ≡ d0)
          y = row_of_map numbers one_number (woken_row (woken w x) k) t.evaluations n d0 d0_at

          first : evaluation_at (opened w x) (k, n) ≡ Some d0
          first = evaluation_is (opened w x) (k, n) (unblocked_in (woken w x) k t) d0
              (get-map_rows names one_name (unblocked_in (woken w x)) x.tenants k ∙ ap (option_map (unblocked_in (woken w x) k)) is) d0_at

          by : (b : Bool) → has_key (woken w x) (k, n) ≡ b → HasOneUnderWay (settle w x) k d.job
          by false has =
              let same : y.0 ≡ d0 = ap (λ b. cond b (pending y.0) y.0) (sym has) ∙ y.2 in
              one_settled k d.job (subst (HasOneUnderWay x k) (ap (λ (e : Evaluation). e.job) same ∙ sym job)
              (none k n y.0 (evaluation_is x (k, n) t y.0 is y.1) (ap (λ (e : Evaluation). e.status) same ∙ status)))
          by true has = behind (all_behind (k, n) d0 (woken w x) (opened w x) has first)
            where
              behind : (has_key (waked w x).ready (k, n) ≡ true) ⊎ (is_busy (waked w x) k d0.job ≡ true) → HasOneUnderWay (settle w x) k d.job
              behind (inl listed) = record {
                number = n;
                row = d;
                is_row = at;
                of_job = refl;
                under_way = is_ready (ap (λ keys. has_key keys (k, n)) (settled_ready w x) ∙ listed);
              }
              behind (inr busy) = one_waked k d.job (subst (HasOneUnderWay (waked w x) k) (sym job) (busy_one (waked w x) k d0.job busy))

      in_tenant : (o : Option Tenant) → get x.tenants k ≡ o →
          option_and_then (λ (t : Tenant). get t.evaluations n) (option_map (settled_rows w x k) o) ≡ Some d → HasOneUnderWay (settle w x) k d.job
      in_tenant None is e = absurd (not_Some d e)
      in_tenant (Some t) is e =
          let s = was_stamped (get w.tenants k) (unblocked_in (woken w x) k t) n d e in row t is s.0 s.1.was s.1.job (sym s.1.status ∙ p)

-- ---- the whole step

-- the end of an evaluation is said of its status alone
ends_so : (w : World) (step : Step) (key : Key) (a b c : Evaluation) → c.status ≡ b.status → EvaluationEnds w step key a b → EvaluationEnds w step key a c
ends_so w step key a b c same (finished number worker is at its end) =
    finished number worker is at its (subst (λ s. (s ≡ Statuses.Complete) ⊎ (s ≡ Statuses.Failed)) (sym same) end)
ends_so w step key a b c same (canceled number worker e is at row job was end) = canceled number worker e is at row job was (same ∙ end)
ends_so w step key a b c same (given_up number worker is at its two end) = given_up number worker is at its two (same ∙ end)

abbrev GoesOnOrGone : World → World → Step → Key → Evaluation → Type 0
GoesOnOrGone w x step key a = GoesOn w x step key a ⊎ ((is_open a.status ≡ false) × (get x.tenants key.0 ≡ None) × IsDeletionOf step key.0)

record Ends (w : World) (step : Step) (x : World) : Type 0 where
  forgets : ForgetsNone w → ForgetsNone x
  goes : (key : Key) (a : Evaluation) → evaluation_at w key ≡ Some a → GoesOnOrGone w x step key a

ends_still : (w : World) (step : Step) → Ends w step w
ends_still w step = record {
  forgets = λ none. none;
  goes = λ key a at. inl (record { row = a; is_row = at; same = same_itself a; status = stays refl });
}

ends_settled : (w : World) (step : Step) (x : World) → IsSound w → Leaves w step x → Ends w step (settle w x)
ends_settled w step x sound h = record {
  forgets = λ none. settle_forgets w x (h.forgets none);
  goes = λ key a at. by key a at (h.goes key a at);
}
  where
    next : (key : Key) (a b c : Evaluation) → evaluation_at w key ≡ Some a → Turned w step key a b → Settles w x key b c → NextStatus w step key a c
    next key a b c at t s = which t.status s.status
      where
        which : (b.status ≡ a.status) ⊎ ((is_open a.status ≡ true) × EvaluationEnds w step key a b) →
            (c.status ≡ b.status) ⊎ ((has_key (woken w x) key ≡ true) × (c.status ≡ Statuses.Pending)) → NextStatus w step key a c
        which p (inr q) = wakes (woken_was w x sound key a at q.0) q.1
        which (inl p) (inl q) = stays (q ∙ p)
        which (inr p) (inl q) = ends p.0 (ends_so w step key a b c q p.1)

    by : (key : Key) (a : Evaluation) → evaluation_at w key ≡ Some a → Passes w step x key a → GoesOnOrGone w (settle w x) step key a
    by key a at (inr gone) = inr (gone.0, settled_tenant w x key.0 ∙ ap (option_map (settled_rows w x key.0)) gone.1, gone.2)
    by key a at (inl b) = let c = settled_to w x key b.0 b.1 in inl (record {
      row = c.0;
      is_row = c.1;
      same = same_then a b.0 c.0 b.2.same c.2.same;
      status = next key a b.0 c.0 at b.2 c.2;
    })

module _ (s : State) (sound : IsSound s.world) (step : Step) (s' : State) (answer : Answer) where
  at_rest : s ≡ s' → Ends s.world step s'.world
  at_rest e = subst (λ (y : State). Ends s.world step y.world) e (ends_still s.world step)

  concluded_ends : (o : Outcome State) → Leads (λ (x : State). Leaves s.world step x.world) o → concluded step s o ≡ said answer s' → Ends s.world step s'.world
  concluded_ends NotEnabled h e = absurd (not_Some _ e)
  concluded_ends (Refused refusal) h e = at_rest (ap (λ x. x.1) (same_Some _ _ e))
  concluded_ends (Done content x) h e = by (is_past_bound (settle s.world x.world)) e
    where
      y : State
      y = record x { world = settle s.world x.world }

      by : (b : Bool) → cond b (said (Err Refusal.Full) s) (said (Ok (reply_of step content (settle s.world x.world))) y) ≡ said answer s' →
          Ends s.world step s'.world
      by true e = at_rest (ap (λ x. x.1) (same_Some _ _ e))
      by false e = subst (λ (y : State). Ends s.world step y.world) (ap (λ x. x.1) (same_Some _ _ e)) (ends_settled s.world step x.world sound h)

  after_ends : after step s ≡ said answer s' → Ends s.world step s'.world
  unfolding after
  after_ends e = by (is_allowed step s.acl) e
    where
      by : (b : Bool) → cond b (concluded step s (act step s)) (said (Err Refusal.Denied) s) ≡ said answer s' → Ends s.world step s'.world
      by true e = concluded_ends (act step s) (act_leaves s sound step) e
      by false e = at_rest (ap (λ x. x.1) (same_Some _ _ e))

pub evaluation_goes_on : law.EvaluationGoesOn
evaluation_goes_on s s' step answer key a valid e at = (after_ends s valid.world step s' answer e).goes key a at

pub ended_evaluation_stays : law.EndedEvaluationStays
ended_evaluation_stays s s' step answer key a b valid e at shut b_at = by (evaluation_goes_on s s' step answer key a valid e at)
  where
    status : (row : Evaluation) → NextStatus s.world step key a row → row.status ≡ a.status
    status row (stays p) = p
    status row (wakes was p) = not_both (ap is_open was) shut
    status row (ends open_ p) = not_both open_ shut

    by : GoesOnOrGone s.world s'.world step key a → b.status ≡ a.status
    by (inl g) = ap (λ (e : Evaluation). e.status) (same_Some b g.row (sym b_at ∙ g.is_row)) ∙ status g.row g.status
    by (inr gone) = absurd (not_Some b (sym (ap (option_and_then (λ (t : Tenant). get t.evaluations key.1)) gone.1) ∙ b_at))

-- ---- runs

-- what a step keeps of the numbers
step_numbers : (s s' : State) (step : Step) (answer : Answer) (ns : Name) → IsValid s → (IsDeletionOf step ns → ⊥) → after step s ≡ said answer s' →
    law.KeepsNumbers s.world s'.world ns
step_numbers s s' step answer ns valid stays_ e = record {
  evaluation = λ n a at. by n a (evaluation_goes_on s s' step answer (ns, n) a valid e at);
  allocation = λ n a at. there n a at (allocation_at s'.world (ns, n)) refl;
}
  where
    by : (n : ℕ) (a : Evaluation) → GoesOnOrGone s.world s'.world step (ns, n) a →
        (b : Evaluation) × (evaluation_at s'.world (ns, n) ≡ Some b) × IsSameEvaluation a b
    by n a (inl g) = (g.row, g.is_row, g.same)
    by n a (inr gone) = absurd (stays_ gone.2)

    there : (n : ℕ) (a : Allocation) → allocation_at s.world (ns, n) ≡ Some a → (o : Option Allocation) → allocation_at s'.world (ns, n) ≡ o →
        (b : Allocation) × (allocation_at s'.world (ns, n) ≡ Some b) × IsSameAllocation a b
    there n a at None none = absurd (stays_ (gone_with_namespace s s' step answer (ns, n) a valid e at none).1)
    there n a at (Some b) is = (b, is, allocation_is_fixed s s' step answer (ns, n) a b valid e at is)

numbers_still : (w : World) (ns : Name) → law.KeepsNumbers w w ns
numbers_still w ns = record { evaluation = λ n a at. (a, at, same_itself a); allocation = λ n a at. (a, at, same_allocation_itself a) }

numbers_then : (w x y : World) (ns : Name) → law.KeepsNumbers w x ns → law.KeepsNumbers x y ns → law.KeepsNumbers w y ns
numbers_then w x y ns f g = record {
  evaluation = λ n a at. let b = f.evaluation n a at in let c = g.evaluation n b.0 b.1 in (c.0, c.1, same_then a b.0 c.0 b.2 c.2);
  allocation = λ n a at. let b = f.allocation n a at in let c = g.allocation n b.0 b.1 in (c.0, c.1, same_allocation_then a b.0 c.0 b.2 c.2);
}

pub numbers_are_given_once : law.NumbersAreGivenOnce
numbers_are_given_once s s' [] [] ns valid good kept run = subst (λ (y : State). law.KeepsNumbers s.world y.world ns) (sym run) (numbers_still s.world ns)
numbers_are_given_once s s' [] (answer ∷ answers) ns valid good kept run = absurd run
numbers_are_given_once s s' (step ∷ steps) [] ns valid good kept run = absurd run
numbers_are_given_once s s' (step ∷ steps) (answer ∷ answers) ns valid good kept run =
    numbers_then s.world run.0.world s'.world ns (step_numbers s run.0 step answer ns valid kept.0 run.1)
    (numbers_are_given_once run.0 s' steps answers ns (valid_step s run.0 step answer valid good.0 run.1) good.1 kept.1 run.2)

along : (s s' : State) (steps : List Step) (answers : List Answer) → IsValid s → ForgetsNone s.world → Each IsGoodStep steps → Run s steps answers s' →
    ForgetsNone s'.world
along s s' [] [] valid none good run = subst (λ (y : State). ForgetsNone y.world) (sym run) none
along s s' [] (answer ∷ answers) valid none good run = absurd run
along s s' (step ∷ steps) [] valid none good run = absurd run
along s s' (step ∷ steps) (answer ∷ answers) valid none good run = along run.0 s' steps answers (valid_step s run.0 step answer valid good.0 run.1)
    ((after_ends s valid.world step run.0 answer run.1).forgets none) good.1 run.2

-- at first there is no evaluation
opening_forgets : (secret : Name) → ForgetsNone (opening secret).world
unfolding opening
opening_forgets secret ns n e at p =
    let t = evaluation_in opening_world (ns, n) e at in
    absurd (not_Some e (sym (get-empty nat_cmp n) ∙ ap (λ (t : Tenant). get t.evaluations n) (only_row default_name opening_tenant ns t.0 t.1) ∙ t.2))

pub none_is_forgotten : law.NoneIsForgotten
none_is_forgotten secret s steps answers named good run =
    along (opening secret) s steps answers (opening_is_valid secret named) (opening_forgets secret) good run
