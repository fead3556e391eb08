-- No step of a worker changes a job or the record of a namespace.
use Rattle.std.specs.Prelude.{◌≡◌, true, false, Option, Some, None, option_map}
use Rattle.std.proofs.Common.{refl, sym, ap, ◌∙◌}
use Rattle.std.specs.FinMap.{get}
use Rattle.ns_types.specs.declared.job.Job.{Job}
use Rattle.ns_types.specs.declared.records.Namespace.{Namespace}
use Rattle.ns_types.specs.declared.reply.Content.{Content}
use Rattle.ns_types.specs.declared.step.Step.{Step}
use Rattle.ns_types.specs.Settling.Outcome.{Outcome, NotEnabled, Refused, Done}
use Rattle.ns_types.specs.Settling.Settle.{settle}
use Rattle.ns_types.specs.State.Names.{Name, ByName}
use Rattle.ns_types.specs.State.Rows.{World, Tenant}
use Rattle.ns_types.proofs.Leads.{Leads}
use Rattle.ns_types.proofs.Lists.{not_both}
use Rattle.ns_types.proofs.Tests.{not_Some, same_Some}
use Rattle.ns_audit.proofs.Alone.Fixed.{SameIn}
use Rattle.ns_audit.proofs.Alone.Sides.{act_is, change}
use Rattle.ns_audit.specs.Laws.{is_admin}
use Rattle.ns_laws.specs.Workers as law
use Rattle.ns_laws.specs.Workers.{is_work}
use Rattle.ns_laws.proofs.Effect.Rows.{Does, settled_jobs, settled_namespace, settled_rows, settled_tenant}
use Rattle.ns_laws.proofs.Index.OwnChanges.{change_fixed, is_ask}
use Rattle.ns_laws.proofs.Scope.Asks.{plain_step}
use Rattle.ns_laws.proofs.Work.Rows.{work_does}

no_ask : (step : Step) → is_work step ≡ true → is_ask step ≡ false
no_ask (Step.Ask ns secret command) e = not_both e refl
no_ask (Step.Admin secret command) e = refl
no_ask (Step.Node pool secret command) e = refl
no_ask (Step.Dequeue worker ns n) e = refl
no_ask (Step.Snap worker ns) e = refl
no_ask (Step.Submit worker ns) e = refl
no_ask (Step.Apply worker ns) e = refl
no_ask (Step.Finish worker ns) e = refl
no_ask (Step.Nack worker ns) e = refl

no_admin : (step : Step) → is_work step ≡ true → is_admin step ≡ false
no_admin step e = plain_step step (λ secret command is. not_both (ap is_work (sym is) ∙ e) refl)

-- the record of a namespace, and its jobs
abbrev kept_of : Tenant → Namespace × ByName Job
kept_of t = (t.namespace, t.jobs)

abbrev Keeps : Name → Tenant → World → Type 0
Keeps ns before y = (now : Tenant) × (get y.tenants ns ≡ Some now) × (now.namespace ≡ before.namespace) × (now.jobs ≡ before.jobs)

keeps_settled : (w x : World) (ns : Name) (before : Tenant) → get w.tenants ns ≡ Some before → SameIn kept_of w x → Keeps ns before (settle w x)
keeps_settled w x ns before is same = by (get x.tenants ns) refl
  where
    there : (o : Option Tenant) → get x.tenants ns ≡ o → option_map kept_of o ≡ Some (kept_of before)
    there o e = ap (option_map kept_of) (sym e) ∙ same ns ∙ ap (option_map kept_of) is

    by : (o : Option Tenant) → get x.tenants ns ≡ o → Keeps ns before (settle w x)
    by None e = absurd (not_Some _ (there None e))
    by (Some u) e = let part = same_Some (kept_of u) (kept_of before) (there (Some u) e) in (
      settled_rows w x ns u,
      settled_tenant w x ns ∙ ap (option_map (settled_rows w x ns)) e,
      settled_namespace w x ns u ∙ ap (λ (p : Namespace × ByName Job). p.0) part,
      settled_jobs w x ns u ∙ ap (λ (p : Namespace × ByName Job). p.1) part,
    )

does_leads : (P Q : World → Type 0) → ((x : World) → P x → Q x) → (o : Outcome World) → Leads P o → Does (λ (content : Content) x. Q x) o
does_leads P Q f NotEnabled h = tt
does_leads P Q f (Refused refusal) h = tt
does_leads P Q f (Done content x) h = f x h

pub work_keeps_jobs : law.WorkKeepsJobs
work_keeps_jobs step ns s s' reply before work made is = work_does step s s' reply (λ _ y. Keeps ns before y.world) (change step s.world)
    (act_is step s (no_admin step work))
    (does_leads (SameIn kept_of s.world) (λ x. Keeps ns before (settle s.world x)) (λ x same. keeps_settled s.world x ns before is same) (change step s.world)
    (change_fixed kept_of (λ t n e. refl) (λ t n a. refl) (λ t v. refl) step s.world (no_ask step work))) made
