-- Evaluations for jobs that lose allocations: each is made in its own namespace, and is there in the end.
use Rattle.std.specs.Prelude.{◌≡◌, ℕ, ◌+◌, ◌≤◌, ◌<◌, Bool, true, false, List, [], ◌∷◌, Option, Some, None, ◌&&◌}
use Rattle.std.specs.Prelude.{fold, map, option_map}
use Rattle.std.proofs.Common.{inl, inr, refl, sym, ap, subst, ◌∙◌, arith}
use Rattle.std.specs.FinMap.{get, insert, entries}
use Rattle.std.specs.List.{list_any}
use Rattle.std.specs.Option.{option_map_or}
use Rattle.ns_types.specs.declared.allocation.Allocation.{Allocation}
use Rattle.ns_types.specs.declared.evaluation.Evaluation.{Evaluation}
use Rattle.ns_types.specs.declared.evaluation.Trigger.{Trigger}
use Rattle.ns_types.specs.declared.node.NodeStatus.TheVariants as NodeStatus
use Rattle.ns_types.specs.declared.step.NodeCommand.TheVariants as NodeCommand
use Rattle.ns_types.specs.Asking.Nodes.{losing_jobs, losses, lost, lose, go_down}
use Rattle.ns_types.specs.Settling.Making.{put_pool, with_node, with_evaluation, evaluation_for, make_in, make}
use Rattle.ns_types.specs.Settling.Settle.{settle}
use Rattle.ns_types.specs.State.Names.{Name, same_name}
use Rattle.ns_types.specs.State.Rows.{State, World, Tenant, is_live, is_live_on}
use Rattle.ns_types.specs.State.Tables.{any_row, map_rows}
use Rattle.ns_types.proofs.Named.{names, one_name, numbers, one_number, same_name_is, same_name_refl, first_of_both, second_of_both}
use Rattle.ns_types.proofs.TableRows.{apart, get_put, get_other, some_row}
use Rattle.ns_types.proofs.Tables.{each_row, get-map_rows}
use Rattle.ns_types.proofs.Tests.{same_Some}
use Rattle.ns_audit.proofs.ValidAllocations.Sound.{allocation_row, row_allocation}
use Rattle.ns_laws.specs.Ending as law
use Rattle.ns_laws.specs.Ending.{IsEvaluatedAnew}
use Rattle.ns_laws.specs.Effects.{IsOfAllocation}
use Rattle.ns_laws.specs.Nodes.{IsFirstOfJob}
use Rattle.ns_laws.proofs.Elements.{Has, any_has, each_has, flat_has, map_has}
use Rattle.ns_laws.proofs.Effect.Evaluations.{IsMadeFor, dated, made_for, settled_dated}
use Rattle.ns_laws.proofs.Effect.Rows.{does_found, settled_rows, settled_there}
use Rattle.ns_laws.proofs.Endings.Rows.{made_in_tenants}
use Rattle.ns_laws.proofs.Effect.Nodes.{pool_does}
use Rattle.ns_laws.proofs.OrderedLemmas.{each_job_loses, losers_are_first}

-- ---- one evaluation

-- the evaluation is pending, and made for that reason, for an allocation of the job that was live in that pool in the rows t
pub record IsPendingFor (t : Tenant) (job pool : Name) (trigger : Trigger) (e : Evaluation) : Type 0 where
  pub number : ℕ
  pub origin : Allocation
  pub is_there : get t.allocations number ≡ Some origin
  pub was_live : is_live origin ≡ true
  pub same_job : origin.job ≡ job
  pub same_pool : origin.pool ≡ pool
  pub made : IsMadeFor job (IsOfAllocation (get t.jobs job) origin) trigger e

-- where the jobs are those of t
pub pending_for : (t : Tenant) (number : ℕ) (origin : Allocation) → get t.allocations number ≡ Some origin → is_live origin ≡ true → (job pool : Name) →
    origin.job ≡ job → origin.pool ≡ pool → (trigger : Trigger) (u : Tenant) → u.jobs ≡ t.jobs →
    IsPendingFor t job pool trigger (evaluation_for u origin trigger)
pending_for t number origin is_there was_live job pool of_job of_pool trigger u same = record {
  number = number;
  origin = origin;
  is_there = is_there;
  was_live = was_live;
  same_job = of_job;
  same_pool = of_pool;
  made = subst (λ job. IsMadeFor job (IsOfAllocation (get t.jobs job) origin) trigger (evaluation_for u origin trigger)) of_job
      (subst (λ jobs. IsMadeFor origin.job (IsOfAllocation (get jobs origin.job) origin) trigger (evaluation_for u origin trigger)) same
      (made_for u origin trigger));
}

module _ (ns : Name) (t : Tenant) where
  -- the namespace is there, with the jobs of t, and has given as many numbers to evaluations as t at least
  pub record Grows (x : World) : Type 0 where
    pub rows : Tenant
    pub is_there : get x.tenants ns ≡ Some rows
    pub number : t.evaluation_number ≤ rows.evaluation_number
    pub jobs : rows.jobs ≡ t.jobs

  module _ (job pool : Name) (trigger : Trigger) where
    -- it has such an evaluation with a number that t has not given
    pub record HasOne (x : World) : Type 0 where
      pub rows : Tenant
      pub is_there : get x.tenants ns ≡ Some rows
      pub number : ℕ
      pub is_new : t.evaluation_number < number
      pub is_given : number ≤ rows.evaluation_number
      pub row : Evaluation
      pub is_row : get rows.evaluations number ≡ Some row
      pub is_for : IsPendingFor t job pool trigger row

  -- the namespace after an evaluation is made in some namespace
  module _ (k : Name) (f : Tenant → Evaluation) (x : World) (rows : Tenant) (there : get x.tenants ns ≡ Some rows) where
    pub made_at : same_name ns k ≡ true → get (make k f x).tenants ns ≡ Some (with_evaluation (f rows) rows)
    made_at e = ap (λ o. get (option_map_or (λ t. make_in k (f t) x t) o x).tenants ns) (sym (ap (get x.tenants) (same_name_is ns k e)) ∙ there)
        ∙ ap (λ m. get m ns) (made_in_tenants x k (f rows) rows) ∙ ap (get (insert x.tenants k (with_evaluation (f rows) rows))) (same_name_is ns k e)
        ∙ get_put names one_name x.tenants k (with_evaluation (f rows) rows)

    pub made_apart : same_name ns k ≡ false → get (make k f x).tenants ns ≡ Some rows
    made_apart e = by (get x.tenants k)
      where
        by : (o : Option Tenant) → get (option_map_or (λ t. make_in k (f t) x t) o x).tenants ns ≡ Some rows
        by None = there
        by (Some u) = ap (λ m. get m ns) (made_in_tenants x k (f u) u) ∙ get_other names one_name x.tenants k (with_evaluation (f u) u) ns e ∙ there

  pub grows_make : (k : Name) (f : Tenant → Evaluation) (x : World) → Grows x → Grows (make k f x)
  grows_make k f x g = by (same_name ns k) refl
    where
      by : (b : Bool) → same_name ns k ≡ b → Grows (make k f x)
      by true e = let h = g.number in
          record { rows = with_evaluation (f g.rows) g.rows; is_there = made_at k f x g.rows g.is_there e; number = omega (arith, h); jobs = g.jobs }
      by false e = record { rows = g.rows; is_there = made_apart k f x g.rows g.is_there e; number = g.number; jobs = g.jobs }

  module _ (job pool : Name) (trigger : Trigger) where
    pub has_make : (k : Name) (f : Tenant → Evaluation) (x : World) → HasOne job pool trigger x → HasOne job pool trigger (make k f x)
    has_make k f x h = by (same_name ns k) refl
      where
        by : (b : Bool) → same_name ns k ≡ b → HasOne job pool trigger (make k f x)
        by true e =
            let given = h.is_given in
            let differs : h.number ≡ h.rows.evaluation_number + 1 → ⊥ = λ same. omega (arith, given, same) in record {
              rows = with_evaluation (f h.rows) h.rows;
              is_there = made_at k f x h.rows h.is_there e;
              number = h.number;
              is_new = h.is_new;
              is_given = omega (arith, given);
              row = h.row;
              is_row = get_other numbers one_number h.rows.evaluations (h.rows.evaluation_number + 1) (f h.rows) h.number
                  (apart h.number (h.rows.evaluation_number + 1) differs) ∙ h.is_row;
              is_for = h.is_for;
            }
        by false e = record {
          rows = h.rows;
          is_there = made_apart k f x h.rows h.is_there e;
          number = h.number;
          is_new = h.is_new;
          is_given = h.is_given;
          row = h.row;
          is_row = h.is_row;
          is_for = h.is_for;
        }

    made_now : (k : Name) (f : Tenant → Evaluation) (x : World) → k ≡ ns → ((u : Tenant) → u.jobs ≡ t.jobs → IsPendingFor t job pool trigger (f u)) → Grows x →
        HasOne job pool trigger (make k f x)
    made_now k f x same is g =
        let h = g.number in record {
          rows = with_evaluation (f g.rows) g.rows;
          is_there = made_at k f x g.rows g.is_there (ap (same_name ns) same ∙ same_name_refl ns);
          number = g.rows.evaluation_number + 1;
          is_new = omega (arith, h);
          is_given = omega arith;
          row = f g.rows;
          is_row = get_put numbers one_number g.rows.evaluations (g.rows.evaluation_number + 1) (f g.rows);
          is_for = is g.rows g.jobs;
        }

    -- evaluations that are made one after the other, one of them of that job
    module _ {A : Type 0} (space : A → Name) (reason : A → Tenant → Evaluation) where
      has_each : (as_ : List A) (x : World) → HasOne job pool trigger x → HasOne job pool trigger (fold (λ x a. make (space a) (reason a) x) x as_)
      has_each [] x h = h
      has_each (a ∷ as_) x h = has_each as_ (make (space a) (reason a) x) (has_make (space a) (reason a) x h)

      pub one_made : (as_ : List A) (a : A) → Has as_ a → space a ≡ ns → ((u : Tenant) → u.jobs ≡ t.jobs → IsPendingFor t job pool trigger (reason a u)) →
          (x : World) → Grows x →
          HasOne job pool trigger (fold (λ x a. make (space a) (reason a) x) x as_)
      one_made [] a is its for_it x g = absurd is
      one_made (b ∷ as_) a (inl e) its for_it x g = has_each as_ (make (space b) (reason b) x)
          (made_now (space b) (reason b) x (ap space e ∙ its) (λ u same. subst (λ a. IsPendingFor t job pool trigger (reason a u)) (sym e) (for_it u same)) g)
      one_made (b ∷ as_) a (inr is) its for_it x g =
          one_made as_ a is its for_it (make (space b) (reason b) x) (grows_make (space b) (reason b) x g)

-- in the end it is there too
pub evaluated_anew : (s x : State) (ns : Name) (t : Tenant) (a : Allocation) (trigger : Trigger) → get s.world.tenants ns ≡ Some t →
    HasOne ns t a.job a.pool trigger x.world → IsEvaluatedAnew ns a trigger s (record x { world = settle s.world x.world })
evaluated_anew s x ns t a trigger is h =
    let r = settled_dated s.world x.world ns h.rows h.number h.row h.is_row h.is_for.made.pending in record {
      before = t;
      now = settled_rows s.world x.world ns h.rows;
      was_there = is;
      is_there = settled_there s.world x.world ns h.rows h.is_there;
      number = h.number;
      is_new = h.is_new;
      row = dated h.row r.0 r.1;
      is_row = r.2;
      is_of_job = h.is_for.made.of_job;
      is_pending = h.is_for.made.pending;
      is_why = h.is_for.made.why;
      origin_number = h.is_for.number;
      origin = h.is_for.origin;
      was_live = (row_allocation s.world ns h.is_for.number t h.is_for.origin is h.is_for.is_there, h.is_for.was_live);
      same_job = h.is_for.same_job;
      same_pool = h.is_for.same_pool;
      is_of = h.is_for.made.of r.0 r.1;
    }

-- ---- a node goes down

-- of each job that had a live allocation there, one is in the list, which was live there too
lost_one : (pool node : Name) (w : World) (ns : Name) (t : Tenant) (n : ℕ) (a : Allocation) → get w.tenants ns ≡ Some t → get t.allocations n ≡ Some a →
    is_live_on pool node a ≡ true → (l : Name × Allocation) × Has (losses pool node w) l × (l.0 ≡ ns) × (l.1.job ≡ a.job) × IsFirstOfJob pool node t l.1
unfolding any_row
lost_one pool node w ns t n a is at lives =
    let its : (same_name ns ns && list_any (λ other. same_name a.job other.job) (losing_jobs pool node t)) ≡ true =
    (λ i. same_name_refl ns i && each_job_loses pool node t n a at lives i) in
    let k = any_has (λ (e : Name × Tenant). same_name ns e.0 && list_any (λ other. same_name a.job other.job) (losing_jobs pool node e.1)) (entries w.tenants)
    (some_row names one_name (λ k u. same_name ns k && list_any (λ other. same_name a.job other.job) (losing_jobs pool node u)) w.tenants ns t is its) in
    let l = any_has (λ (other : Allocation). same_name a.job other.job) (losing_jobs pool node k.0.1) (second_of_both (same_name ns k.0.0) _ k.2) in (
      (k.0.0, l.0),
      flat_has (λ (t : Name × Tenant). map (λ a. (t.0, a)) (losing_jobs pool node t.1)) (k.0.0, l.0) (entries w.tenants) k.0 k.1
          (map_has (λ (a : Allocation). (k.0.0, a)) (losing_jobs pool node k.0.1) l.0 l.1),
      sym (same_name_is ns k.0.0 (first_of_both (same_name ns k.0.0) _ k.2)),
      sym (same_name_is a.job l.0.job l.2),
      subst (λ t. IsFirstOfJob pool node t l.0)
          (same_Some k.0.1 t (sym (each_has (λ (e : Name × Tenant). get w.tenants e.0 ≡ Some e.1) (entries w.tenants) k.0 k.1
          (each_row names one_name (λ k t. get w.tenants k ≡ Some t) w.tenants (λ k t e. e)))
          ∙ ap (get w.tenants) (sym (same_name_is ns k.0.0 (first_of_both (same_name ns k.0.0) _ k.2))) ∙ is))
          (each_has (IsFirstOfJob pool node k.0.1) (losing_jobs pool node k.0.1) l.0 l.1 (losers_are_first pool node k.0.1)),
    )

down_evaluates : (pool node : Name) (w : World) (ns : Name) (t : Tenant) (n : ℕ) (a : Allocation) → get w.tenants ns ≡ Some t → get t.allocations n ≡ Some a →
    is_live_on pool node a ≡ true → HasOne ns t a.job pool Trigger.NodeUpdate (go_down pool node w)
unfolding go_down
down_evaluates pool node w ns t n a is at lives =
    let l = lost_one pool node w ns t n a is at lives in
    let f = l.4 in
    let its_pool : l.0.1.pool ≡ pool = sym (same_name_is pool l.0.1.pool (first_of_both (same_name pool l.0.1.pool) _
    (second_of_both (is_live l.0.1) _ f.lives))) in
    one_made ns t a.job pool Trigger.NodeUpdate (λ (l : Name × Allocation). l.0) (λ l t. evaluation_for t l.1 Trigger.NodeUpdate) (losses pool node w)
    l.0 l.1 l.2
    (pending_for t f.number l.0.1 f.there (first_of_both (is_live l.0.1) _ f.lives) a.job pool l.3 its_pool Trigger.NodeUpdate)
    (lose pool node w)
    (record {
      rows = record t { allocations = map_rows (λ _ a. lost pool node a) t.allocations };
      is_there = get-map_rows names one_name (λ _ t. record t { allocations = map_rows (λ _ a. lost pool node a) t.allocations }) w.tenants ns
          ∙ ap (option_map {T = Tenant} {U = Tenant} (λ t. record t { allocations = map_rows (λ _ a. lost pool node a) t.allocations })) is;
      number = omega arith;
      jobs = refl;
    })

pub lost_is_evaluated : law.LostIsEvaluated
lost_is_evaluated pool secret node s s' reply key a e at in_pool on_node = pool_does s pool secret (NodeCommand.SetStatus node NodeStatus.Down)
    (λ y. IsEvaluatedAnew key.0 a Trigger.NodeUpdate s y) (λ p is. does_found _ (get p.nodes node) _ (λ old there.
    let w' : World = put_pool pool (with_node node (record old { status = NodeStatus.Down }) p) s.world in
    let was = allocation_row s.world key a at.0 in
    let lives : is_live_on pool node a ≡ true =
    (λ i. at.1 i && ((ap (same_name pool) in_pool ∙ same_name_refl pool) i && (ap (same_name node) on_node ∙ same_name_refl node) i)) in
    evaluated_anew s (record s { world = go_down pool node w' }) key.0 was.0 a Trigger.NodeUpdate was.1
    (subst (λ k. HasOne key.0 was.0 a.job k Trigger.NodeUpdate (go_down pool node w')) (sym in_pool)
    (down_evaluates pool node w' key.0 was.0 key.1 a was.1 was.2 lives)))) s' reply e
