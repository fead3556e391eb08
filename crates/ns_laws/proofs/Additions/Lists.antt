-- Evaluations that are made one after the other, one for each job of a list in which no job is twice.
use Rattle.std.specs.Prelude.{◌≡◌, ◌⊎◌, ℕ, ◌+◌, Bool, true, false, cond, not, T, ◌&&◌, List, [], ◌∷◌, ◌++◌, Some, None, filter, flat_map, fold, map}
use Rattle.std.proofs.Common.{inl, inr, refl, sym, ap, subst, ◌∙◌}
use Rattle.std.specs.Cmp.{tied_itself}
use Rattle.std.specs.FinMap.{get, entries, entries_sorted, get-from_entries}
use Rattle.std.specs.FinMap.Entries as Entries
use Rattle.std.specs.Ordering.{is_lt}
use Rattle.ns_types.specs.declared.allocation.Allocation.{Allocation}
use Rattle.ns_types.specs.declared.evaluation.Evaluation.{Evaluation}
use Rattle.ns_types.specs.Asking.Nodes.{losing_jobs, losses}
use Rattle.ns_types.specs.Settling.Making.{make, with_evaluation}
use Rattle.ns_types.specs.State.Lists.{Each, first_each}
use Rattle.ns_types.specs.State.Names.{Name, name_cmp, same_name}
use Rattle.ns_types.specs.State.Rows.{World, Tenant, is_live_on}
use Rattle.ns_types.specs.Working.Commit.{Victim, same_victim_job}
use Rattle.ns_types.proofs.Elements.{each_append, each_both, each_flat, each_found, each_mapped, each_of, each_passes, each_still}
use Rattle.ns_types.proofs.Lists.{each, not_both}
use Rattle.ns_types.proofs.Named.{names, numbers, one_name, one_number, same_name_is, same_name_refl}
use Rattle.ns_types.proofs.TableRows.{row_of_insert}
use Rattle.ns_types.proofs.Tables.{each_row}
use Rattle.ns_types.proofs.Tests.{first, is_no, not_Some, second}
use Rattle.ns_laws.proofs.Endings.Evaluations.{made_apart, made_at}
use Rattle.ns_laws.proofs.OrderedLemmas.{losers}

-- ---- no job twice

module _ {A : Type 0} (space job : A → Name) where
  -- they are of different jobs
  abbrev pub Apart : A → A → Type 0
  Apart a b = space a ≡ space b → job a ≡ job b → ⊥

  abbrev pub Distinct : List A → Type 0
  Distinct [] = Unit {0}
  Distinct (a ∷ as_) = Each (Apart a) as_ × Distinct as_

  pub distinct_append : (xs ys : List A) → Distinct xs → Distinct ys → Each (λ x. Each (Apart x) ys) xs → Distinct (xs ++ ys)
  distinct_append [] ys h k across = k
  distinct_append (x ∷ xs) ys h k across = (each_append (Apart x) xs ys h.0 across.0, distinct_append xs ys h.1 k across.1)

  pub distinct_filter : (p : A → Bool) (xs : List A) → Distinct xs → Distinct (filter p xs)
  distinct_filter p [] h = tt
  distinct_filter p (x ∷ xs) h = by (p x) (distinct_filter p xs h.1)
    where
      by : (b : Bool) → Distinct (filter p xs) → Distinct (cond b (x ∷ filter p xs) (filter p xs))
      by true rest = (each_still (Apart x) p xs h.0, rest)
      by false rest = rest

-- ---- one evaluation for each

module _ {A : Type 0} (space job : A → Name) (reason : A → Tenant → Evaluation) (of_job : (a : A) (u : Tenant) → (reason a u).job ≡ job a)
    (ns : Name) (t : Tenant) (Fits : Evaluation → Type 0) where
  -- the evaluations that t does not have fit, are of different jobs, and are of none of the jobs to come
  pub record Made (x : World) (rest : List A) : Type 0 where
    pub rows : Tenant
    pub is_there : get x.tenants ns ≡ Some rows
    pub fits : (n : ℕ) (e : Evaluation) → get t.evaluations n ≡ None → get rows.evaluations n ≡ Some e → Fits e
    pub later : (n : ℕ) (e : Evaluation) → get t.evaluations n ≡ None → get rows.evaluations n ≡ Some e →
        Each (λ a. space a ≡ ns → job a ≡ e.job → ⊥) rest
    pub once : (m n : ℕ) (d e : Evaluation) → get t.evaluations m ≡ None → get t.evaluations n ≡ None → get rows.evaluations m ≡ Some d →
        get rows.evaluations n ≡ Some e → d.job ≡ e.job → m ≡ n

  module _ (a : A) (as_ : List A) (x : World) (apart : Each (Apart space job a) as_) (fit : space a ≡ ns → (u : Tenant) → Fits (reason a u))
      (h : Made x (a ∷ as_)) where
    abbrev next : ℕ
    next = h.rows.evaluation_number + 1

    abbrev new : Evaluation
    new = reason a h.rows

    abbrev Row : ℕ → Evaluation → Type 0
    Row n e = ((n ≡ next) × (new ≡ e)) ⊎ (get h.rows.evaluations n ≡ Some e)

    module _ (own : space a ≡ ns) where
      fits_row : (n : ℕ) (e : Evaluation) → get t.evaluations n ≡ None → Row n e → Fits e
      fits_row n e none (inl is) = subst Fits is.1 (fit own h.rows)
      fits_row n e none (inr old) = h.fits n e none old

      later_row : (n : ℕ) (e : Evaluation) → get t.evaluations n ≡ None → Row n e → Each (λ b. space b ≡ ns → job b ≡ e.job → ⊥) as_
      later_row n e none (inl is) = each_of (Apart space job a) (λ b. space b ≡ ns → job b ≡ e.job → ⊥)
          (λ b differs its same. differs (own ∙ sym its) (sym (of_job a h.rows) ∙ ap (λ (e : Evaluation). e.job) is.1 ∙ sym same)) as_ apart
      later_row n e none (inr old) = (h.later n e none old).1

      once_row : (m n : ℕ) (d e : Evaluation) → get t.evaluations m ≡ None → get t.evaluations n ≡ None → Row m d → Row n e → d.job ≡ e.job → m ≡ n
      once_row m n d e none none_ (inl p) (inl q) same = p.0 ∙ sym q.0
      once_row m n d e none none_ (inl p) (inr q) same =
          absurd ((h.later n e none_ q).0 own (sym (of_job a h.rows) ∙ ap (λ (e : Evaluation). e.job) p.1 ∙ same))
      once_row m n d e none none_ (inr p) (inl q) same =
          absurd ((h.later m d none p).0 own (sym (of_job a h.rows) ∙ ap (λ (e : Evaluation). e.job) q.1 ∙ sym same))
      once_row m n d e none none_ (inr p) (inr q) same = h.once m n d e none none_ p q same

    row_of : (n : ℕ) (e : Evaluation) → get (with_evaluation (reason a h.rows) h.rows).evaluations n ≡ Some e → Row n e
    row_of n e at = row_of_insert numbers one_number h.rows.evaluations next new n e at

    made_one : Made (make (space a) (reason a) x) as_
    made_one = by (same_name ns (space a)) refl
      where
        by : (b : Bool) → same_name ns (space a) ≡ b → Made (make (space a) (reason a) x) as_
        by true e =
            let own : space a ≡ ns = sym (same_name_is ns (space a) e) in record {
              rows = with_evaluation (reason a h.rows) h.rows;
              is_there = made_at ns t (space a) (reason a) x h.rows h.is_there e;
              fits = λ n e none at. fits_row own n e none (row_of n e at);
              later = λ n e none at. later_row own n e none (row_of n e at);
              once = λ m n d e none none_ at at_ same. once_row own m n d e none none_ (row_of m d at) (row_of n e at_) same;
            }
        by false e = record {
          rows = h.rows;
          is_there = made_apart ns t (space a) (reason a) x h.rows h.is_there e;
          fits = h.fits;
          later = λ n e none at. (h.later n e none at).1;
          once = h.once;
        }

  pub made_each : (as_ : List A) (x : World) → Distinct space job as_ → Each (λ a. space a ≡ ns → (u : Tenant) → Fits (reason a u)) as_ → Made x as_ →
      Made (fold (λ x a. make (space a) (reason a) x) x as_) []
  made_each [] x distinct fit h = h
  made_each (a ∷ as_) x distinct fit h =
      made_each as_ (make (space a) (reason a) x) distinct.1 fit.1 (made_one a as_ x distinct.0 fit.0 h)

  -- where the namespace has the evaluations that t has
  pub made_first : (x : World) (u : Tenant) → get x.tenants ns ≡ Some u → u.evaluations ≡ t.evaluations → (rest : List A) → Made x rest
  made_first x u is same rest = record {
    rows = u;
    is_there = is;
    fits = λ n e none at. absurd (not_new n e none at);
    later = λ n e none at. absurd (not_new n e none at);
    once = λ m n d e none _ at _ _. absurd (not_new m d none at);
  }
    where
      not_new : (n : ℕ) (e : Evaluation) → get t.evaluations n ≡ None → get u.evaluations n ≡ Some e → ⊥
      not_new n e none at = not_Some e (sym none ∙ ap (λ m. get m n) (sym same) ∙ at)

-- ---- the jobs that lose allocations with a node

-- a key that is below others is none of them
below_differs : {X : Type 0} (k : Name) (es : List (Name × X)) → T (Entries.below_all name_cmp k es) → Each (λ e. k ≡ e.0 → ⊥) es
below_differs k [] h = tt
below_differs k (e ∷ es) h = (
  (λ same. subst T (ap (λ j. is_lt (name_cmp k j)) (sym same) ∙ ap is_lt (tied_itself names k)) (first _ _ h)),
  below_differs k es (second _ _ h),
)

abbrev space_of : Name × Allocation → Name
space_of l = l.0

abbrev job_of : Name × Allocation → Name
job_of l = l.1.job

of_entries : (ns : Name) (es : List (Name × Allocation)) → T (Entries.is_sorted name_cmp es) → Each (λ e. e.0 ≡ e.1.job) es →
    Distinct space_of job_of (map (λ a. (ns, a)) (map (λ e. e.1) es))
of_entries ns [] sorted keys = tt
of_entries ns (e ∷ es) sorted keys = (
  each_mapped (Apart space_of job_of (ns, e.1)) (λ (a : Allocation). (ns, a)) (map (λ e. e.1) es)
      (each_mapped (λ (a : Allocation). Apart space_of job_of (ns, e.1) (ns, a)) (λ (e : Name × Allocation). e.1) es
      (each_of (λ (y : Name × Allocation). (e.0 ≡ y.0 → ⊥) × (y.0 ≡ y.1.job)) (λ (y : Name × Allocation). Apart space_of job_of (ns, e.1) (ns, y.1))
      (λ y h _ same. h.0 (keys.0 ∙ same ∙ sym h.1)) es
      (each_both (λ (y : Name × Allocation). e.0 ≡ y.0 → ⊥) (λ (y : Name × Allocation). y.0 ≡ y.1.job) es (below_differs e.0 es (first _ _ sorted)) keys.1))),
  of_entries ns es (second _ _ sorted) keys.1,
)

one_for_job : (pool node ns : Name) (t : Tenant) → Distinct space_of job_of (map (λ a. (ns, a)) (losing_jobs pool node t))
unfolding losers
one_for_job pool node ns t = of_entries ns (entries (losers pool node t)) (entries_sorted (losers pool node t))
    (each_row names one_name (λ k (a : Allocation). k ≡ a.job) (losers pool node t) (λ k a at.
    each_found one_name (λ (e : Name × Allocation). e.0 ≡ e.1.job) (map (λ a. (a.1.job, a.1)) live)
    (each_mapped (λ (e : Name × Allocation). e.0 ≡ e.1.job) (λ (a : ℕ × Allocation). (a.1.job, a.1)) live
    (each (λ (a : ℕ × Allocation). a.1.job ≡ a.1.job) (λ a. refl) live)) k a
    (sym (get-from_entries names (map (λ a. (a.1.job, a.1)) live) k) ∙ at)))
  where
    live : List (ℕ × Allocation)
    live = filter (λ a. is_live_on pool node a.1) (entries t.allocations)

pub losses_distinct : (pool node : Name) (w : World) → Distinct space_of job_of (losses pool node w)
losses_distinct pool node w = all (entries w.tenants) (entries_sorted w.tenants)
  where
    of_one : Name × Tenant → List (Name × Allocation)
    of_one t = map (λ a. (t.0, a)) (losing_jobs pool node t.1)

    others : (k : Name) (es : List (Name × Tenant)) → Each (λ e. k ≡ e.0 → ⊥) es → Each (λ (l : Name × Allocation). k ≡ l.0 → ⊥) (flat_map of_one es)
    others k es h = each_flat (λ (l : Name × Allocation). k ≡ l.0 → ⊥) of_one es
        (each_of (λ (e : Name × Tenant). k ≡ e.0 → ⊥) (λ e. Each (λ (l : Name × Allocation). k ≡ l.0 → ⊥) (of_one e))
        (λ e differs. each_mapped (λ (l : Name × Allocation). k ≡ l.0 → ⊥) (λ (a : Allocation). (e.0, a)) (losing_jobs pool node e.1)
        (each (λ (a : Allocation). k ≡ e.0 → ⊥) (λ a. differs) (losing_jobs pool node e.1))) es h)

    all : (es : List (Name × Tenant)) → T (Entries.is_sorted name_cmp es) → Distinct space_of job_of (flat_map of_one es)
    all [] sorted = tt
    all (e ∷ es) sorted = distinct_append space_of job_of (of_one e) (flat_map of_one es) (one_for_job pool node e.0 e.1) (all es (second _ _ sorted))
        (each_mapped (λ (l : Name × Allocation). Each (Apart space_of job_of l) (flat_map of_one es)) (λ (a : Allocation). (e.0, a)) (losing_jobs pool node e.1)
        (each (λ (a : Allocation). Each (Apart space_of job_of (e.0, a)) (flat_map of_one es)) (λ a.
        each_of (λ (l : Name × Allocation). e.0 ≡ l.0 → ⊥) (Apart space_of job_of (e.0, a)) (λ l differs same _. differs same) (flat_map of_one es)
        (others e.0 es (below_differs e.0 es (first _ _ sorted)))) (losing_jobs pool node e.1)))

-- ---- the jobs that lose allocations in an Apply

pub victims_distinct : (xs : List Victim) → Distinct (λ (v : Victim). v.0) (λ (v : Victim). v.1.1.job) (first_each same_victim_job xs)
victims_distinct [] = tt
victims_distinct (x ∷ xs) = (
  each_of (λ (y : Victim). not (same_victim_job x y) ≡ true) (Apart (λ (v : Victim). v.0) (λ (v : Victim). v.1.1.job) x)
      (λ y other same job. not_both
      (λ i. (ap (same_name x.0) (sym same) ∙ same_name_refl x.0) i && (ap (same_name x.1.1.job) (sym job) ∙ same_name_refl x.1.1.job) i)
      (is_no (same_victim_job x y) other)) _
      (each_passes (λ y. not (same_victim_job x y)) (first_each same_victim_job xs)),
  distinct_filter (λ (v : Victim). v.0) (λ (v : Victim). v.1.1.job) (λ y. not (same_victim_job x y)) (first_each same_victim_job xs) (victims_distinct xs),
)
