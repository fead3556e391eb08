-- What a follower waits for: a quota, or classes that no constraint rules out.
use Rattle.std.specs.Prelude.{◌≡◌, ◌≢◌, ◌⊎◌, ℕ, Bool, true, false, cond, not, ◌&&◌, ◌||◌, List, [], ◌∷◌, Option, Some, None, filter, is_some, map}
use Rattle.std.specs.Prelude.{nat_eq, option_map}
use Rattle.std.proofs.Common.{refl, sym, ap, subst, ◌∙◌, inl, inr}
use Rattle.std.proofs.lemmas.Bool.{or_right}
use Rattle.std.proofs.lemmas.Bool.Decides.{eqb_tells}
use Rattle.std.specs.Cmp.{eq_by_cmp_equiv}
use Rattle.std.specs.FinMap.{contains_key-keys, from_entries, get-from_entries}
use Rattle.std.specs.FinMap.Entries.{find}
use Rattle.std.specs.List.{Contains, list_any}
use Rattle.ns_types.specs.declared.evaluation.Evaluation.{Evaluation}
use Rattle.ns_types.specs.declared.evaluation.Status.{Status}
use Rattle.ns_types.specs.declared.job.Constraint.{Constraint}
use Rattle.ns_types.specs.declared.job.Job.{Job}
use Rattle.ns_types.specs.declared.job.Target.{Target}
use Rattle.ns_types.specs.declared.node.Class.{Class}
use Rattle.ns_types.specs.declared.node.Node.{Node}
use Rattle.ns_types.specs.declared.snapshot.PoolNode.{PoolNode}
use Rattle.ns_types.specs.declared.snapshot.QuotaSeen.{QuotaSeen}
use Rattle.ns_types.specs.declared.snapshot.Snapshot.{Snapshot}
use Rattle.ns_types.specs.Placing.Constraint.{escapes, holds, is_class_infeasible, target_escapes}
use Rattle.ns_types.specs.Placing.Plan.{any_escapes, constraints_of, infeasible_classes, plan}
use Rattle.ns_types.specs.State.Names.{Name, class_cmp, has_class, same_class}
use Rattle.ns_types.specs.State.Rows.{class_of}
use Rattle.ns_types.specs.Working.Work.{follower_of, has_failed, limiting_quota}
use Rattle.ns_types.specs.Working.Worker.{Worker}
use Rattle.ns_types.proofs.Classes.{by_class, one_class}
use Rattle.ns_types.proofs.Lists.{not_both}
use Rattle.ns_types.proofs.Named.{first_of_both, second_of_both}
use Rattle.ns_types.proofs.Tables.{tied}
use Rattle.ns_types.proofs.Tests.{either_of, is_no}
use Rattle.ns_laws.specs.Planning.{Meets}
use Rattle.ns_laws.specs.Workers.{EscapesClasses, HasConstraint, IsRuledOut, LimitedBy, failed, by_quota, by_none, SomeEscapes, WaitsFor}
use Rattle.ns_laws.proofs.Elements.{Has, any_has, contains_from, filter_has, has_filter, has_from}
use Rattle.ns_laws.proofs.Plans.Constraints.{meets_holds}
use Rattle.ns_laws.proofs.Plans.Limits.{limits_are_real}
use Rattle.ns_laws.proofs.Plans.Planning.{meets_by}

pub is_zero : (n : ℕ) → nat_eq n 0 ≡ true → n ≡ 0
is_zero n e = elim (eqb_tells n 0) [ inl zero ↦ zero.1 | inr more ↦ not_both e more.0 ]

pub not_zero : (n : ℕ) → nat_eq n 0 ≡ false → n ≢ 0
not_zero n e = elim (eqb_tells n 0) [ inl zero ↦ not_both zero.0 e | inr more ↦ more.1 ]

-- an element of the list passes
any_of : {X : Type 0} (p : X → Bool) (xs : List X) (x : X) → Has xs x → p x ≡ true → list_any p xs ≡ true
any_of p [] x h e = absurd h
any_of p (y ∷ ys) x (inl same) e = ap (λ b. b || list_any p ys) (ap p same ∙ e)
any_of p (y ∷ ys) x (inr h) e = or_right (p y) (list_any p ys) (any_of p ys x h e)

has_of : {X : Type 0} (xs : List X) (x : X) → Contains xs x → Has xs x
has_of xs x h = has_from xs x h.0 h.1 h.2

-- ---- constraints

has_constraint : (kept : Snapshot) (c : Constraint) → Has (constraints_of kept.job) c → HasConstraint kept c
has_constraint kept c = by kept.job refl
  where
    by : (o : Option Job) → kept.job ≡ o → Has (constraints_of o) c → HasConstraint kept c
    by None is h = absurd h
    by (Some j) is h = (j, is, contains_from j.document.constraints c h)

constraint_has : (kept : Snapshot) (c : Constraint) → HasConstraint kept c → Has (constraints_of kept.job) c
constraint_has kept c h = subst (λ o. Has (constraints_of o) c) (sym h.1) (has_of h.0.document.constraints c h.2)

escapes_is : (target : Target) → target_escapes target ≡ true → EscapesClasses target
escapes_is Target.NodeClass e = not_both e refl
escapes_is Target.NodeName e = tt
escapes_is (Target.Attribute key) e = e

escapes_by : (target : Target) → EscapesClasses target → target_escapes target ≡ true
escapes_by Target.NodeClass h = absurd h
escapes_by Target.NodeName h = refl
escapes_by (Target.Attribute key) h = h

not_escaping : (target : Target) → (EscapesClasses target → ⊥) → target_escapes target ≡ false
not_escaping target h = by (target_escapes target) refl
  where
    by : (b : Bool) → target_escapes target ≡ b → b ≡ false
    by true e = absurd (h (escapes_is target e))
    by false e = refl

some_escapes : (kept : Snapshot) → any_escapes kept ≡ true → SomeEscapes kept
some_escapes kept e =
    let x = any_has escapes (constraints_of kept.job) e in (x.0, has_constraint kept x.0 x.1, escapes_is x.0.target x.2)

escapes_some : (kept : Snapshot) → SomeEscapes kept → any_escapes kept ≡ true
escapes_some kept h = any_of escapes (constraints_of kept.job) h.0 (constraint_has kept h.0 h.1) (escapes_by h.0.target h.2)

-- ---- whether a node meets a constraint

module _ (name : Name) (node : Node) where
  fails_by : (c : Constraint) → holds name node c ≡ false → Meets name node c.operand c.target c.value → ⊥
  fails_by c e h = not_both (meets_holds name node c.operand c.target c.value h) e

  by_failing : (c : Constraint) → (Meets name node c.operand c.target c.value → ⊥) → holds name node c ≡ false
  by_failing c h = by (holds name node c) refl
    where
      by : (b : Bool) → holds name node c ≡ b → b ≡ false
      by true e = absurd (h (meets_by name node c.operand c.target c.value e))
      by false e = refl

-- ---- infeasible classes

module _ (kept : Snapshot) where
  abbrev ruled_out : PoolNode → Bool
  ruled_out p = is_class_infeasible (constraints_of kept.job) p.name p.row

  found_class : (class : Class) (nodes : List PoolNode) → is_some (find class_cmp class (map (λ p. (class_of p.row, p.name)) nodes))
      ≡ list_any (λ p. same_class class (class_of p.row)) nodes
  found_class class [] = refl
  found_class class (p ∷ ps) = by (same_class class (class_of p.row)) (found_class class ps)
    where
      by : (b : Bool) → is_some (find class_cmp class (map (λ p. (class_of p.row, p.name)) ps)) ≡ list_any (λ p. same_class class (class_of p.row)) ps →
          is_some (cond b (Some p.name) (find class_cmp class (map (λ p. (class_of p.row, p.name)) ps)))
          ≡ (b || list_any (λ p. same_class class (class_of p.row)) ps)
      by true rest = refl
      by false rest = rest

  has_infeasible : (class : Class) → has_class (infeasible_classes kept) class ≡ list_any (λ p. same_class class (class_of p.row)) (filter ruled_out kept.nodes)
  has_infeasible class =
      let es = map (λ (p : PoolNode). (class_of p.row, p.name)) (filter ruled_out kept.nodes) in
      sym (contains_key-keys (from_entries {R = class_cmp} es) class)
      ∙ ap (λ (o : Option Name). is_some o) (get-from_entries by_class es class) ∙ found_class class (filter ruled_out kept.nodes)

  class_is : (a b : Class) → same_class a b ≡ true → a ≡ b
  class_is a b e = tied one_class a b e

  class_same : (a : Class) → same_class a a ≡ true
  class_same a = (eq_by_cmp_equiv by_class).refl a

  is_ruled_out : (class : Class) → Contains (infeasible_classes kept) class → IsRuledOut kept class
  is_ruled_out class h =
      let some = any_of (same_class class) (infeasible_classes kept) class (has_of (infeasible_classes kept) class h) (class_same class) in
      let p = any_has (λ (p : PoolNode). same_class class (class_of p.row)) (filter ruled_out kept.nodes) (sym (has_infeasible class) ∙ some) in
      let has = has_filter ruled_out kept.nodes p.0 p.1 in
      let c = any_has (λ c. not (escapes c) && not (holds p.0.name p.0.row c)) (constraints_of kept.job) has.1 in
      let by_it = is_no (escapes c.0) (first_of_both (not (escapes c.0)) _ c.2) in record {
        node = p.0;
        is_node = contains_from kept.nodes p.0 has.0;
        of_class = sym (class_is class (class_of p.0.row) p.2);
        constraint = c.0;
        is_constraint = has_constraint kept c.0 c.1;
        by_class = λ h. not_both (escapes_by c.0.target h) by_it;
        fails = fails_by p.0.name p.0.row c.0 (is_no _ (second_of_both (not (escapes c.0)) _ c.2));
      }

  ruled_out_is : (class : Class) → IsRuledOut kept class → Contains (infeasible_classes kept) class
  ruled_out_is class r =
      let infeasible : ruled_out r.node ≡ true = any_of (λ c. not (escapes c) && not (holds r.node.name r.node.row c)) (constraints_of kept.job) r.constraint
      (constraint_has kept r.constraint r.is_constraint)
      (λ i. not (not_escaping r.constraint.target r.by_class i) && not (by_failing r.node.name r.node.row r.constraint r.fails i)) in
      let among = filter_has ruled_out kept.nodes r.node (has_of kept.nodes r.node r.is_node) infeasible in
      let here = any_has (same_class class) (infeasible_classes kept) (has_infeasible class
      ∙ any_of (λ (p : PoolNode). same_class class (class_of p.row)) (filter ruled_out kept.nodes) r.node among
      (ap (same_class class) r.of_class ∙ class_same class)) in
      subst (Contains (infeasible_classes kept)) (sym (class_is class here.0 here.2)) (contains_from (infeasible_classes kept) here.0 here.1)

-- ---- the quota

limited_by : (worker : Worker) (kept : Snapshot) → LimitedBy worker.tries kept (cond (has_failed worker) None (limiting_quota kept))
limited_by worker kept = by (has_failed worker) (plan kept).placing.quota_limited kept.quota refl refl refl
  where
    by : (b c : Bool) (o : Option QuotaSeen) → has_failed worker ≡ b → (plan kept).placing.quota_limited ≡ c → kept.quota ≡ o →
        LimitedBy worker.tries kept (cond b None (cond c (option_map (λ q. q.name) o) None))
    by true c o e limited is = failed (is_zero worker.tries e)
    by false true None e limited is = absurd ((limits_are_real kept).quota limited is)
    by false true (Some seen) e limited is = by_quota (not_zero worker.tries e) limited seen is
    by false false o e limited is = by_none (not_zero worker.tries e) limited

-- ---- the follower

pub waits_for : (e : Evaluation) (worker : Worker) (kept : Snapshot) (status : Status) →
    WaitsFor worker.tries kept (record (follower_of e worker kept) { status = status })
waits_for e worker kept status = record {
  quota = limited_by worker kept;
  escapes = (escaping, escaped);
  infeasible = λ class. (is_ruled_out kept class, ruled_out_is kept class);
}
  where
    by : (has_failed worker ≡ true) ⊎ (any_escapes kept ≡ true) → (worker.tries ≡ 0) ⊎ SomeEscapes kept
    by (inl none_left) = inl (is_zero worker.tries none_left)
    by (inr some) = inr (some_escapes kept some)

    escaping : (has_failed worker || any_escapes kept) ≡ true → (worker.tries ≡ 0) ⊎ SomeEscapes kept
    escaping e = by (either_of (has_failed worker) (any_escapes kept) e)

    escaped : (worker.tries ≡ 0) ⊎ SomeEscapes kept → (has_failed worker || any_escapes kept) ≡ true
    escaped (inl none_left) = ap (λ n. nat_eq n 0 || any_escapes kept) none_left
    escaped (inr some) = or_right (has_failed worker) (any_escapes kept) (escapes_some kept some)
