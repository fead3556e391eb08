-- What each step makes of the evaluations: administrators' requests, the end of a step, and the whole step.
use Rattle.std.specs.Prelude.{◌≡◌, ◌⊎◌, ℕ, Bool, true, false, cond, Option, Some, None}
use Rattle.std.proofs.Common.{inl, inr, refl, sym, ap, ◌∙◌}
use Rattle.std.specs.FinMap.{get, remove, get-empty, get-remove}
use Rattle.std.specs.Option.{option_and_then}
use Rattle.std.specs.Ordering.{nat_cmp}
use Rattle.ns_types.specs.declared.evaluation.Evaluation.{Evaluation}
use Rattle.ns_types.specs.declared.records.Namespace.{Namespace}
use Rattle.ns_types.specs.declared.step.AdminCommand.{AdminCommand}
use Rattle.ns_types.specs.declared.step.Step.{Step}
use Rattle.ns_types.specs.Asking.Admins.{has_open, new_tenant, with_namespace}
use Rattle.ns_types.specs.Asking.Policies.{administer, with_world}
use Rattle.ns_types.specs.Settling.Making.{put_tenant}
use Rattle.ns_types.specs.Settling.Outcome.{Outcome, lift}
use Rattle.ns_types.specs.State.Names.{Key, Name, same_name}
use Rattle.ns_types.specs.State.Rows.{State, World, Tenant, evaluation_at, is_open}
use Rattle.ns_types.specs.Steps.{act}
use Rattle.ns_types.specs.Validity.{IsSound}
use Rattle.ns_types.proofs.Leads.{Leads, leads_of, leads_lift}
use Rattle.ns_types.proofs.Named.{names, one_name, one_number, same_name_is}
use Rattle.ns_types.proofs.TableRows.{row_of_insert, get_other, row_of_remove}
use Rattle.ns_types.proofs.Tables.{none_of_any}
use Rattle.ns_types.proofs.Tests.{not_Some}
use Rattle.ns_audit.proofs.Carries.{ask_carries, ask_pool_carries}
use Rattle.ns_laws.specs.Serving.{IsUnderWay, is_ready, is_with_worker, HasOneUnderWay, ForgetsNone}
use Rattle.ns_laws.proofs.CommandLemmas.{leads_administered}
use Rattle.ns_laws.proofs.Service.Closing.{Passes, Leaves, leaves_keeps, finish_leaves_all, nack_leaves_all}
use Rattle.ns_laws.proofs.Service.Keeping.{Tending, tends_put, tends_carries, still_none}
use Rattle.ns_laws.proofs.Service.Lists.{evaluation_in, evaluation_is, row_of_tenant, worker_in, queued_of}
use Rattle.ns_laws.proofs.Service.Rows.{same_itself}
use Rattle.ns_laws.proofs.Service.Worlds.{Keeps, Keeping, keeps_tends, keeps_tables, dequeue_keeps, snap_keeps, submit_keeps, apply_keeps}

-- ---- administrators

module _ (w : World) (sound : IsSound w) (secret : Option Name) where
  module _ (name : Name) where
    -- a new namespace has no evaluation
    module _ (namespace : Namespace) (none : get w.tenants name ≡ None) where
      abbrev added : World
      added = put_tenant name (new_tenant namespace) w

      before : (k : Name) (t : Tenant) → get w.tenants k ≡ Some t → get added.tenants k ≡ Some t
      before k t is = by (same_name k name) refl
        where
          by : (b : Bool) → same_name k name ≡ b → get added.tenants k ≡ Some t
          by true e = absurd (not_Some t (sym none ∙ ap (get w.tenants) (sym (same_name_is k name e)) ∙ is))
          by false e = get_other names one_name w.tenants name (new_tenant namespace) k e ∙ is

      row_added : (key : Key) (a : Evaluation) → evaluation_at w key ≡ Some a → evaluation_at added key ≡ Some a
      row_added key a at = let t = evaluation_in w key a at in evaluation_is added key t.0 a (before key.0 t.0 t.1) t.2

      row_before : (key : Key) (a : Evaluation) → evaluation_at added key ≡ Some a → evaluation_at w key ≡ Some a
      row_before key a at =
          let t = evaluation_in added key a at in by t.0 t.2 (row_of_insert names one_name w.tenants name (new_tenant namespace) key.0 t.0 t.1)
        where
          by : (t : Tenant) → get t.evaluations key.1 ≡ Some a → ((key.0 ≡ name) × (new_tenant namespace ≡ t)) ⊎ (get w.tenants key.0 ≡ Some t) →
              evaluation_at w key ≡ Some a
          by t at (inl e) = absurd (not_Some a (sym (get-empty nat_cmp key.1) ∙ ap (λ (t : Tenant). get t.evaluations key.1) e.1 ∙ at))
          by t at (inr is) = evaluation_is w key t a is at

      under_added : (k : Name) (n : ℕ) → IsUnderWay w k n → IsUnderWay added k n
      under_added k n (is_ready has) = is_ready has
      under_added k n (is_with_worker m v at is) = let t = worker_in w m k v at in
          is_with_worker m v (ap (option_and_then (λ (t : Tenant). get t.workers m)) (before k t.0 t.1) ∙ t.2) is

      added_keeps : Keeps w added
      added_keeps = record {
        rows = row_added;
        back = λ key d at. inl (row_before key d at);
        one = λ ns job o. record {
          number = o.number;
          row = o.row;
          is_row = row_added (ns, o.number) o.row o.is_row;
          of_job = o.of_job;
          under_way = under_added ns o.number o.under_way;
        };
      }

    put_leaves : (namespace : Namespace) →
        Leaves w (Step.Admin secret (AdminCommand.PutNamespace name namespace)) (put_tenant name (with_namespace namespace (get w.tenants name)) w)
    put_leaves namespace = leaves_keeps w _ _ (by (get w.tenants name) refl)
      where
        by : (o : Option Tenant) → get w.tenants name ≡ o → Keeps w (put_tenant name (with_namespace namespace o) w)
        by None is = added_keeps namespace is
        by (Some t) is = keeps_tends w _ (queued_of w sound)
            (tends_put name t (record t { namespace = namespace }) w is (still_none t (record t { namespace = namespace }) refl refl refl))

    -- a namespace that is deleted has no open evaluation
    module _ (t : Tenant) (is : get w.tenants name ≡ Some t) (shut : has_open t ≡ false) where
      abbrev gone : World
      gone = record w { tenants = remove w.tenants name }

      others : (k : Name) → same_name k name ≡ false → get gone.tenants k ≡ get w.tenants k
      others k e = get-remove names w.tenants name k ∙ ap (λ b. cond b None (get w.tenants k)) e

      gone_leaves : Leaves w (Step.Admin secret (AdminCommand.DeleteNamespace name)) gone
      gone_leaves = record { forgets = forgets; goes = λ key a at. goes key a at (same_name key.0 name) refl }
        where
          goes : (key : Key) (a : Evaluation) → evaluation_at w key ≡ Some a → (b : Bool) → same_name key.0 name ≡ b →
              Passes w (Step.Admin secret (AdminCommand.DeleteNamespace name)) gone key a
          goes key a at true e =
              let own = same_name_is key.0 name e in
              inr (
                none_of_any one_number (λ _ e. is_open e.status) t.evaluations key.1 a shut (row_of_tenant w key t a (ap (get w.tenants) own ∙ is) at),
                get-remove names w.tenants name key.0 ∙ ap (λ b. cond b None (get w.tenants key.0)) e,
                (secret, ap (λ k. Step.Admin secret (AdminCommand.DeleteNamespace k)) (sym own)),
              )
          goes key a at false e = inl (
            a,
            ap (option_and_then (λ (t : Tenant). get t.evaluations key.1)) (others key.0 e) ∙ at,
            record { same = same_itself a; status = inl refl },
          )

          forgets : ForgetsNone w → ForgetsNone gone
          forgets none k n d at p = by (same_name k name) refl
            where
              u : (u : Tenant) × (get gone.tenants k ≡ Some u) × (get u.evaluations n ≡ Some d)
              u = evaluation_in gone (k, n) d at

              was : evaluation_at w (k, n) ≡ Some d
              was = evaluation_is w (k, n) u.0 d (row_of_remove w.tenants name k u.0 u.1) u.2

              under : same_name k name ≡ false → (m : ℕ) → IsUnderWay w k m → IsUnderWay gone k m
              under e m (is_ready has) = is_ready has
              under e m (is_with_worker number v v_at its) =
                  is_with_worker number v (ap (option_and_then (λ (t : Tenant). get t.workers number)) (others k e) ∙ v_at) its

              by : (b : Bool) → same_name k name ≡ b → HasOneUnderWay gone k d.job
              by true e = absurd (not_Some u.0 (sym (get-remove names w.tenants name k ∙ ap (λ b. cond b None (get w.tenants k)) e) ∙ u.1))
              by false e = let o = none k n d was p in record {
                number = o.number;
                row = o.row;
                is_row = ap (option_and_then (λ (t : Tenant). get t.evaluations o.number)) (others k e) ∙ o.is_row;
                of_job = o.of_job;
                under_way = under e o.number o.under_way;
              }

module _ (s : State) (sound : IsSound s.world) where
  abbrev LeavesIn : Step → State → Type 0
  LeavesIn step x = Leaves s.world step x.world

  of_world : (step : Step) (c : Outcome World) → Leads (Leaves s.world step) c → Leads (LeavesIn step) (lift (with_world s.acl) c)
  of_world step = leads_lift (LeavesIn step) (with_world s.acl) (Leaves s.world step) (λ w h. h)

  of_keeping : (step : Step) (c : Outcome World) → Keeping s.world c → Leads (LeavesIn step) (lift (with_world s.acl) c)
  of_keeping step c h = of_world step c (leads_of (Keeps s.world) (Leaves s.world step) (leaves_keeps s.world step) c h)

  of_tending : (step : Step) (c : Outcome World) → Leads (Tending s.world) c → Leads (LeavesIn step) (lift (with_world s.acl) c)
  of_tending step c h = of_keeping step c (leads_of (Tending s.world) (Keeps s.world) (λ x. keeps_tends s.world x (queued_of s.world sound)) c h)

  admin_leaves : (secret : Option Name) (command : AdminCommand) → Leads (LeavesIn (Step.Admin secret command)) (administer secret command s)
  admin_leaves secret = leads_administered s (λ command. Leaves s.world (Step.Admin secret command))
      (λ command quotas pools. leaves_keeps s.world (Step.Admin secret command) _ (keeps_tables s.world _ refl refl))
      (put_leaves s.world sound secret) (λ name t is shut _. gone_leaves s.world sound secret name t is shut) secret

  pub act_leaves : (step : Step) → Leads (LeavesIn step) (act step s)
  unfolding act
  act_leaves (Step.Ask ns secret command) = of_tending _ _ (ask_carries tends_carries s.world ns command)
  act_leaves (Step.Admin secret command) = admin_leaves secret command
  act_leaves (Step.Node pool secret command) = of_tending _ _ (ask_pool_carries tends_carries s.world pool command)
  act_leaves (Step.Dequeue worker ns n) = of_keeping _ _ (dequeue_keeps s.world worker (ns, n))
  act_leaves (Step.Snap worker ns) = of_keeping _ _ (snap_keeps s.world worker ns)
  act_leaves (Step.Submit worker ns) = of_keeping _ _ (submit_keeps s.world worker ns)
  act_leaves (Step.Apply worker ns) = of_keeping _ _ (apply_keeps s.world worker ns (queued_of s.world sound))
  act_leaves (Step.Finish worker ns) = of_world _ _ (finish_leaves_all s.world sound worker ns)
  act_leaves (Step.Nack worker ns) = of_world _ _ (nack_leaves_all s.world sound worker ns)
