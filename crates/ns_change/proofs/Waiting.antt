-- The first row that passes, in a table with changed rows over it.
use Rattle.std.specs.Prelude.{◌≡◌, ℕ, ◌<◌, ◌≤◌, Bool, true, false, cond, not, T, ◌&&◌, ◌||◌, nat_le, List, [], ◌∷◌, ◌++◌, Option, Some, None, option_map}
use Rattle.std.specs.Prelude.{if◌then◌else◌, is_some, find, min, unwrap_or}
use Rattle.std.proofs.Common.{refl, sym, ap, subst, ◌∙◌, arith, Ordering, Less, Equal, Greater, is_lt}
use Rattle.std.specs.Ordering.{is_le}
use Rattle.std.proofs.lemmas.Bool.{leb-true, leb-false}
use Rattle.std.specs.Option.{option_and_then, option_map_or}
use Rattle.std.specs.Ordering.{eq_by_cmp, nat_cmp}
use Rattle.std.specs.FinMap.{FinMap, contains_key, entries, entries_sorted, get, get-entries}
use Rattle.std.specs.FinMap.Entries.{find as found_at, below_all, is_sorted}
use Rattle.std.proofs.lemmas.Map.Keys.{le_from_is_le}
use Rattle.std.proofs.Math.Bool.{or-false, or-true}
use Rattle.keyed.specs.Table.{at_slot, flat, rows, row_at, row_list}
use Rattle.keyed.proofs.Tables.{entries-rows, get-rows}
use Rattle.ns_types.specs.declared.evaluation.Status.{Status}
use Rattle.ns_types.specs.State.Lists.{Each}
use Rattle.ns_types.specs.State.Names.{Name, same_name}
use Rattle.ns_types.specs.Working.Queue.{first_waiting, is_busy, promote}
use Rattle.ns_types.specs.Settling.Making.{change_tenant, put_tenant, with_status}
use Rattle.ns_types.specs.State.Rows.{World, Tenant, is_blocked}
use Rattle.ns_types.specs.Working.Work.{blocked_of, cancel_blocked, without_blocked}
use Rattle.ns_types.proofs.Lists.{not_both}
use Rattle.ns_types.proofs.Named.{first_of_both, names, one_name, numbers, one_number, second_of_both}
use Rattle.ns_types.specs.declared.evaluation.Evaluation.{Evaluation}
use Rattle.keyed.specs.Levels.{holds_number}
use Rattle.ns_tables.specs.Filing.{AreNumbersUnder, job_where, stands_under}
use Rattle.ns_types.proofs.Tables.{each_row, insert_same, tied}
use Rattle.ns_change.specs.declared.change.Change.{Change}
use Rattle.ns_change.specs.declared.change.TenantChange.{TenantChange}
use Rattle.ns_tables.specs.declared.tables.Tables.{Tables}
use Rattle.ns_tables.specs.declared.tables.TenantRows.{TenantRows}
use Rattle.ns_change.specs.Changed.{unlist_blocked, view, without_blocked_key}
use Rattle.ns_change.proofs.Seen.{changed_seen, kept_seen, none_seen}
use Rattle.keyed.specs.Over.{over}
use Rattle.ns_change.specs.Waiting.{Leads, first, row_passes, unheld_passes, IsFirst, lesser, of_job, stands, standing}
use Rattle.keyed.proofs.Over.{get-over}

both_of : (a b : Bool) → T (a && b) → T a × T b
both_of true b h = (tt, h)
both_of false b h = absurd h

module _ {X : Type 0} (p : ℕ → X → Bool) where
  abbrev passes : FinMap nat_cmp X → ℕ → Bool
  passes = row_passes p

  -- ---- lists of entries

  abbrev at_entry : ℕ × X → Bool
  at_entry e = p e.0 e.1

  -- what holds of all entries holds of the one at a key
  pub each_at : (Q : ℕ → X → Type 0) (es : List (ℕ × X)) → Each (λ e. Q e.0 e.1) es → (q : ℕ) (x : X) → found_at nat_cmp q es ≡ Some x → Q q x
  each_at Q [] h q x is = absurd (subst T (sym (ap is_some is)) tt)
  each_at Q (e ∷ es) h q x is = by (each_at Q es h.1 q x) (eq_by_cmp nat_cmp q e.0) refl is
    where
      by : (found_at nat_cmp q es ≡ Some x → Q q x) → (b : Bool) → eq_by_cmp nat_cmp q e.0 ≡ b → cond b (Some e.1) (found_at nat_cmp q es) ≡ Some x → Q q x
      by later false t is = later is
      by later true t is = subst (λ y. Q q y) (ap (λ o. unwrap_or o x) is) (subst (λ k. Q k e.1) (sym (tied one_number q e.0 t)) h.0)

  below_least : (k : ℕ) (es : List (ℕ × X)) → T (below_all nat_cmp k es) → Each (λ e. k ≤ e.0) es
  below_least k [] h = tt
  below_least k (e ∷ es) h = let both = both_of _ _ h in (le_from_is_le k e.0 (weak (nat_cmp k e.0) both.0), below_least k es both.1)
    where
      weak : (r : Ordering) → T (is_lt r) → is_le r ≡ true
      weak Less t = refl
      weak Equal t = refl
      weak Greater t = absurd t

  none_passes : (es : List (ℕ × X)) → find at_entry es ≡ None → Each (λ e. p e.0 e.1 ≡ false) es
  none_passes [] is = tt
  none_passes (e ∷ es) is = by (none_passes es) (p e.0 e.1) refl is
    where
      by : (find at_entry es ≡ None → Each (λ e. p e.0 e.1 ≡ false) es) → (b : Bool) → p e.0 e.1 ≡ b → cond b (Some e) (find at_entry es) ≡ None →
          (p e.0 e.1 ≡ false) × Each (λ e. p e.0 e.1 ≡ false) es
      by later true t is = absurd (subst T (ap is_some is) tt)
      by later false t is = (t, later is)

  -- it is among them, passes, and none before it does
  one_passes : (Q : ℕ × X → Type 0) (es : List (ℕ × X)) → T (is_sorted nat_cmp es) → Each Q es → (x : ℕ × X) → find at_entry es ≡ Some x → Q x ×
      (p x.0 x.1 ≡ true) × Each (λ e. e.0 < x.0 → p e.0 e.1 ≡ false) es
  one_passes Q [] sorted h x is = absurd (subst T (sym (ap is_some is)) tt)
  one_passes Q (e ∷ es) sorted h x is = by (one_passes Q es (both_of _ _ sorted).1 h.1 x) (p e.0 e.1) refl is
    where
      after : (k : ℕ) (es : List (ℕ × X)) → Each (λ e. k ≤ e.0) es → Each (λ e. e.0 < k → p e.0 e.1 ≡ false) es
      after k [] h = tt
      after k (e ∷ es) h = let le = h.0 in (λ lt. absurd (omega (arith, le, lt)), after k es h.1)

      by : (find at_entry es ≡ Some x → Q x × (p x.0 x.1 ≡ true) × Each (λ e. e.0 < x.0 → p e.0 e.1 ≡ false) es) → (b : Bool) → p e.0 e.1 ≡ b →
          cond b (Some e) (find at_entry es) ≡ Some x
          → Q x × (p x.0 x.1 ≡ true) × ((e.0 < x.0 → p e.0 e.1 ≡ false) × Each (λ e. e.0 < x.0 → p e.0 e.1 ≡ false) es)
      by later true t is = subst (λ x. Q x × (p x.0 x.1 ≡ true) × ((e.0 < x.0 → p e.0 e.1 ≡ false) × Each (λ e. e.0 < x.0 → p e.0 e.1 ≡ false) es))
          (ap (λ o. unwrap_or o x) is)
          (h.0, t, ((λ lt. absurd (omega (arith, lt))), after e.0 es (below_least e.0 es (both_of _ _ sorted).0)))
      by later false t is = let rest = later is in (rest.0, rest.1, ((λ _. t), rest.2))

  -- ---- tables

  at_false : (m : FinMap nat_cmp X) → Each (λ e. p e.0 e.1 ≡ false) (entries m) → (q : ℕ) → passes m q ≡ false
  at_false m h q = by (get m q) refl
    where
      by : (r : Option X) → get m q ≡ r → option_map_or (p q) r false ≡ false
      by None is = refl
      by (Some x) is = each_at (λ k x. p k x ≡ false) (entries m) h q x (sym (get-entries m q) ∙ is)

  -- what a search finds
  pub first_holds : (m : FinMap nat_cmp X) → IsFirst p m (first p m)
  first_holds m = by (find at_entry (entries m)) refl
    where
      by : (o : Option (ℕ × X)) → find at_entry (entries m) ≡ o → IsFirst p m (option_map (λ e. e.0) o)
      by None is = at_false m (none_passes (entries m) is)
      by (Some x) is =
          let found = one_passes (λ e. get m e.0 ≡ Some e.1) (entries m) (entries_sorted m)
          (each_row numbers one_number (λ k x. get m k ≡ Some x) m (λ k x is. is)) x is in
          (ap (λ r. option_map_or (p x.0) r false) found.0 ∙ found.1, λ q lt. earlier q lt found.2)
        where
          earlier : (q : ℕ) → q < x.0 → Each (λ e. e.0 < x.0 → p e.0 e.1 ≡ false) (entries m) → passes m q ≡ false
          earlier q lt h = row (get m q) refl
            where
              row : (r : Option X) → get m q ≡ r → option_map_or (p q) r false ≡ false
              row None is = refl
              row (Some y) is = each_at (λ k x'. k < x.0 → p k x' ≡ false) (entries m) h q y (sym (get-entries m q) ∙ is) lt

  -- there is one alone
  pub one_first : (m : FinMap nat_cmp X) (r s : Option ℕ) → IsFirst p m r → IsFirst p m s → r ≡ s
  one_first m None None a b = refl
  one_first m None (Some k) a b = not_both b.0 (a k)
  one_first m (Some k) None a b = not_both a.0 (b k)
  one_first m (Some j) (Some k) a b = by (nat_le j k) refl (nat_le k j) refl
    where
      by : (u : Bool) → nat_le j k ≡ u → (v : Bool) → nat_le k j ≡ v → Some j ≡ Some k
      by true u true v = let le = leb-true j k u in let ge = leb-true k j v in let is : j ≡ k = omega (arith, le, ge) in ap Some is
      by false u v _ = let lt = leb-false j k u in not_both b.0 (a.1 k lt)
      by true u false v = let lt = leb-false k j v in not_both a.0 (b.1 j lt)

  pub first_is : (m : FinMap nat_cmp X) (r : Option ℕ) → IsFirst p m r → first p m ≡ r
  first_is m r is = one_first m (first p m) r (first_holds m) is

-- ---- the lesser of two

module _ {X : Type 0} (p : ℕ → X → Bool) (m : FinMap nat_cmp X) (a b : ℕ → Bool) (both : (q : ℕ) → option_map_or (p q) (get m q) false ≡ (a q || b q)) where
  neither : (q : ℕ) → a q ≡ false → b q ≡ false → option_map_or (p q) (get m q) false ≡ false
  neither q u v = both q ∙ (λ i. u i || v i)

  here_left : (q : ℕ) → a q ≡ true → option_map_or (p q) (get m q) false ≡ true
  here_left q u = both q ∙ ap (λ c. c || b q) u

  here_right : (q : ℕ) → b q ≡ true → option_map_or (p q) (get m q) false ≡ true
  here_right q v = both q ∙ ap (λ c. a q || c) v ∙ or-true (a q)

  pub lesser_first : (r s : Option ℕ) → Leads a r → Leads b s → IsFirst p m (lesser r s)
  lesser_first None None u v = λ q. neither q (u q) (v q)
  lesser_first None (Some k) u v = (here_right k v.0, λ q lt. neither q (u q) (v.1 q lt))
  lesser_first (Some j) None u v = (here_left j u.0, λ q lt. neither q (u.1 q lt) (v q))
  lesser_first (Some j) (Some k) u v = by (nat_le j k) refl
    where
      by : (c : Bool) → nat_le j k ≡ c → IsFirst p m (Some (min j k))
      by true e =
          let le = leb-true j k e in
          let least : j ≡ min j k = omega (arith, le) in
          subst (λ n. IsFirst p m (Some n)) least (here_left j u.0, λ q lt. neither q (u.1 q lt) (v.1 q (omega (arith, lt, le))))
      by false e =
          let less = leb-false j k e in
          let least : k ≡ min j k = omega (arith, less) in
          subst (λ n. IsFirst p m (Some n)) least (here_right k v.0, λ q lt. neither q (u.1 q (omega (arith, lt, less))) (v.1 q lt))

-- ---- a table with changed rows over it

module _ {X : Type 0} (p : ℕ → X → Bool) (m : FinMap nat_cmp X) (c : FinMap nat_cmp (Option X)) where
  -- a changed row passes, or one that the change does not hold
  over_cases : (q : ℕ) → option_map_or (p q) (get (over m c) q) false ≡
      (option_map_or (p q) (row_at c q) false || (not (contains_key c q) && option_map_or (p q) (get m q) false))
  over_cases q = ap (λ r. option_map_or (p q) r false) (get-over numbers one_number m c q) ∙ by (get c q) (get m q)
    where
      by : (r : Option (Option X)) (a : Option X) →
          option_map_or (p q) (unwrap_or r a) false ≡ (option_map_or (p q) (flat r) false || (not (is_some r) && option_map_or (p q) a false))
      by None a = refl
      by (Some r) a = sym (or-false (option_map_or (p q) r false))

  changed_leads : (r : Option ℕ) → IsFirst p (rows c) r → Leads (λ q. option_map_or (p q) (row_at c q) false) r
  changed_leads None is = λ q. ap (λ r. option_map_or (p q) r false) (sym (get-rows numbers c q)) ∙ is q
  changed_leads (Some k) is = (
    ap (λ r. option_map_or (p k) r false) (sym (get-rows numbers c k)) ∙
        is.0,
    λ q lt. ap (λ r. option_map_or (p q) r false) (sym (get-rows numbers c q)) ∙ is.1 q lt,
  )

  -- the first after a change: a changed one, or one that the change does not hold
  pub first_over : (s : Option ℕ) → Leads (unheld_passes p m c) s → first p (over m c) ≡ lesser (first p (rows c)) s
  first_over s is = first_is p (over m c) (lesser (first p (rows c)) s)
      (lesser_first p (over m c) _ _ over_cases (first p (rows c)) s (changed_leads (first p (rows c)) (first_holds p (rows c))) is)

pub blocked_is : (t : Tenant) (job : Name) → blocked_of t job ≡ first (of_job is_blocked job) t.evaluations
blocked_is t job = refl

-- ---- by a search

module _ {X : Type 0} (p : ℕ → X → Bool) where
  searched : (es : List (ℕ × Option X)) → option_map (λ e. e.0) (find (at_slot (λ e. p e.0 e.1)) es) ≡ option_map (λ e. e.0)
      (find (λ e. p e.0 e.1) (row_list es))
  searched [] = refl
  searched ((k, None) ∷ es) = searched es
  searched ((k, Some x) ∷ es) = elim (p k x) as (λ b. option_map (λ e. e.0) (cond b (Some (k, Some x)) (find (at_slot (λ e. p e.0 e.1)) es)) ≡ option_map
      (λ e. e.0) (cond b (Some (k, x)) (find (λ e. p e.0 e.1) (row_list es)))) [
        | true ↦ refl
        | false ↦ searched es
      ]

  -- a search of slots is one of rows
  pub search_is : (m : FinMap nat_cmp (Option X)) → option_map (λ e. e.0) (find (at_slot (λ e. p e.0 e.1)) (entries m)) ≡ first p (rows m)
  search_is m = searched (entries m) ∙ ap (λ es. option_map (λ e. e.0) (find (λ e. p e.0 e.1) es)) (sym (entries-rows m))

-- ---- by the numbers of a job's rows

leads_alike : (a b : ℕ → Bool) → ((q : ℕ) → a q ≡ b q) → (r : Option ℕ) → Leads a r → Leads b r
leads_alike a b e None h = λ q. sym (e q) ∙ h q
leads_alike a b e (Some k) h = (sym (e k) ∙ h.0, λ q lt. sym (e q) ∙ h.1 q lt)

-- the first of numbers among which all are that pass
pub numbered : (g : ℕ → Bool) (m : FinMap nat_cmp (Option Unit)) → ((q : ℕ) → g q ≡ true → is_some (get m q) ≡ true) →
    Leads g (option_map (λ e. e.0) (find (λ e. g e.0) (entries m)))
numbered g m covers = leads_alike (row_passes (λ k _. g k) m) g (λ q. by q (get m q) refl (g q) refl) _ (first_holds (λ k _. g k) m)
  where
    by : (q : ℕ) (r : Option (Option Unit)) → get m q ≡ r → (b : Bool) → g q ≡ b → option_map_or (λ _. g q) r false ≡ g q
    by q (Some r) is b t = refl
    by q None is true t = not_both (covers q t) (ap is_some is)
    by q None is false t = sym t

module _ (is : Status → Bool) (job : Name) (slots : FinMap nat_cmp (Option Evaluation)) (r : Option (FinMap nat_cmp (Option Unit)))
    (covers : AreNumbersUnder (job_where is) job slots r) where
  abbrev has : ℕ → Bool
  has q = option_map_or (λ m. holds_number m q) r false

  passing_has : (q : ℕ) → row_passes (of_job is job) (rows slots) q ≡ true → has q ≡ true
  passing_has q passes = by (get (rows slots) q) refl passes
    where
      by : (r : Option Evaluation) → get (rows slots) q ≡ r → option_map_or (of_job is job q) r false ≡ true → has q ≡ true
      by None g t = not_both t refl
      by (Some e) g t = covers q ∙ ap (stands_under (job_where is) job) (sym (get-rows numbers slots q) ∙ g)
          ∙ ap (λ b. option_map_or (same_name job) (if b then Some e.job else None) false) (second_of_both (same_name job e.job) (is e.status) t)
          ∙ first_of_both _ _ t

-- what a table of numbers holds has its slot
pub has_slot_of : (m : FinMap nat_cmp (Option Unit)) (q : ℕ) → holds_number m q ≡ true → is_some (get m q) ≡ true
has_slot_of m q held = by (get m q) held
  where
    by : (r : Option (Option Unit)) → is_some (flat r) ≡ true → is_some r ≡ true
    by None held = held
    by (Some r) held = refl

module _ (is : Status → Bool) (job : Name) (slots : FinMap nat_cmp (Option Evaluation)) (g : ℕ → Bool)
    (passing : (q : ℕ) → g q ≡ true → row_passes (of_job is job) (rows slots) q ≡ true) where
  pub led_by : (m : FinMap nat_cmp (Option Unit)) (es : List (ℕ × Option Unit)) (r : Option ℕ) →
      AreNumbersUnder (job_where is) job slots (Some m) → es ≡ entries m →
      r ≡ option_map (λ e. e.0) (find (λ e. g e.0) es) → Leads g r
  led_by m es r covers listed is_first = subst (Leads g) (sym (is_first ∙ ap (λ es. option_map (λ e. e.0) (find (λ e. g e.0) es)) listed))
      (numbered g m (λ q t. has_slot_of m q (passing_has is job slots (Some m) covers q (passing q t))))

  pub led_by_none : AreNumbersUnder (job_where is) job slots None → Leads g None
  led_by_none covers q = by (g q) refl
    where
      by : (b : Bool) → g q ≡ b → g q ≡ false
      by true t = not_both (passing_has is job slots None covers q (passing q t)) refl
      by false t = t

-- ---- in the tables with a change over them

module _ (t : Tables) (c : Change) (ns job : Name) (wanted : Status) where
  -- the model's first one, with no namespace none
  abbrev pub first_there : Option Tenant → Option ℕ
  first_there o = option_and_then (λ t. first (of_job (stands wanted) job) t.evaluations) o

  pub nowhere : row_at t.tenants ns ≡ None → None ≡ first_there (get (view t c).tenants ns)
  nowhere is = sym (ap first_there (none_seen t c ns is))

  pub in_kept : (x : TenantRows) (r : Option ℕ) → row_at t.tenants ns ≡ Some x → row_at c.tenants ns ≡ None →
      Leads (row_passes (of_job (stands wanted) job) (rows x.evaluations.slots)) r → r ≡ first_there (get (view t c).tenants ns)
  in_kept x r is none leads = sym (first_is (of_job (stands wanted) job) (rows x.evaluations.slots) r leads)
      ∙ sym (ap first_there (kept_seen t c ns x is none))

  pub in_changed : (x : TenantRows) (y : TenantChange) (r : Option ℕ) → row_at t.tenants ns ≡ Some x → row_at c.tenants ns ≡ Some y →
      Leads (unheld_passes (of_job (stands wanted) job) (rows x.evaluations.slots) y.evaluations) r
      → lesser (option_map (λ e. e.0) (find (at_slot (standing wanted job)) (entries y.evaluations))) r ≡ first_there (get (view t c).tenants ns)
  in_changed x y r is some leads = ap (λ o. lesser o r) (search_is (of_job (stands wanted) job) y.evaluations)
      ∙ sym (first_over (of_job (stands wanted) job) (rows x.evaluations.slots) y.evaluations r leads) ∙ sym (ap first_there (changed_seen t c ns x y is some))

-- ---- what is done with it

module _ (w : World) (ns job : Name) where
  abbrev waiting : Option Tenant → Option ℕ
  waiting o = option_and_then (first_waiting job) o

  pub promote_busy : is_busy w ns job ≡ true → w ≡ promote ns job w
  unfolding promote
  promote_busy busy = sym (ap (λ b. cond b w (option_map_or (λ t. option_map_or (λ n. record w { ready = w.ready ++ (ns, n) ∷ [] }) (first_waiting job t) w)
      (get w.tenants ns) w)) busy)

  promote_free : is_busy w ns job ≡ false → promote ns job w ≡ option_map_or (λ n. record w { ready = w.ready ++ (ns, n) ∷ [] }) (waiting (get w.tenants ns)) w
  unfolding promote
  promote_free free = ap (λ b. cond b w (option_map_or (λ t. option_map_or (λ n. record w { ready = w.ready ++ (ns, n) ∷ [] }) (first_waiting job t) w)
      (get w.tenants ns) w)) free ∙ by (get w.tenants ns)
    where
      by : (o : Option Tenant) → option_map_or (λ t. option_map_or (λ n. record w { ready = w.ready ++ (ns, n) ∷ [] }) (first_waiting job t) w)
          o w ≡ option_map_or (λ n. record w { ready = w.ready ++ (ns, n) ∷ [] }) (option_and_then (first_waiting job) o) w
      by None = refl
      by (Some t) = refl

  pub promote_none : is_busy w ns job ≡ false → waiting (get w.tenants ns) ≡ None → w ≡ promote ns job w
  promote_none free none = sym (promote_free free ∙ ap (λ o. option_map_or (λ n. record w { ready = w.ready ++ (ns, n) ∷ [] }) o w) none)

  pub promote_one : (n : ℕ) → is_busy w ns job ≡ false → waiting (get w.tenants ns) ≡ Some n → record w { ready = w.ready ++ (ns, n) ∷ [] } ≡ promote ns job w
  promote_one n free some = sym (promote_free free ∙ ap (λ o. option_map_or (λ n. record w { ready = w.ready ++ (ns, n) ∷ [] }) o w) some)

  abbrev blocked : Option Tenant → Option ℕ
  blocked o = option_and_then (λ t. blocked_of t job) o

  pub cancel_none : blocked (get w.tenants ns) ≡ None → w ≡ change_tenant ns (cancel_blocked job) w
  cancel_none none = by (get w.tenants ns) refl none
    where
      by : (o : Option Tenant) → get w.tenants ns ≡ o → option_and_then (λ t. blocked_of t job) o ≡ None →
          w ≡ option_map_or (λ t. put_tenant ns (cancel_blocked job t) w) o w
      by None at none = refl
      by (Some t) at none = (λ i. record w { tenants = sym (insert_same names one_name w.tenants ns t at) i }) ∙
          ap (λ o. put_tenant ns (option_map_or (λ n. with_status n Status.Canceled t) o t) w) (sym none)

  pub unlist_none : blocked (get w.tenants ns) ≡ None → w ≡ unlist_blocked ns job w
  unlist_none none = by (get w.tenants ns) none
    where
      by : (o : Option Tenant) → option_and_then (λ t. blocked_of t job) o ≡ None → w ≡ option_map_or (λ t. without_blocked ns job t w) o w
      by None none = refl
      by (Some t) none = ap (λ o. option_map_or (λ n. without_blocked_key (ns, n) w) o w) (sym none)

  pub unlist_one : (n : ℕ) → blocked (get w.tenants ns) ≡ Some n → without_blocked_key (ns, n) w ≡ unlist_blocked ns job w
  unlist_one n some = by (get w.tenants ns) some
    where
      by : (o : Option Tenant) → option_and_then (λ t. blocked_of t job) o ≡ Some n →
          without_blocked_key (ns, n) w ≡ option_map_or (λ t. without_blocked ns job t w) o w
      by None some = cc
      by (Some t) some = ap (λ o. option_map_or (λ n. without_blocked_key (ns, n) w) o w) (sym some)
