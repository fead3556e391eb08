-- One entry, by what both servers answered.
use Rattle.std.specs.Prelude.{◌≡◌, ℕ, Bool, true, false, List, Option, Some, None}
use Rattle.std.proofs.Common.{refl, sym, subst}
use Rattle.ns_types.specs.declared.reply.Rendered.{Rendered}
use Rattle.ns_types.specs.declared.step.Step.{Step}
use Rattle.ns_types.specs.Isolation.{is_own, part_of}
use Rattle.ns_types.specs.State.Names.{Name}
use Rattle.ns_types.specs.State.Rows.{State}
use Rattle.ns_json.specs.Replies.{Entry}
use Rattle.ns_replay.specs.declared.fault.ReplayFault.{ReplayFault}
use Rattle.ns_replay.specs.declared.fault.ReplayFault.TheVariants.{Premise, Differs, NotARun, Memory}
use Rattle.ns_replay.specs.Abreast.{Advances, IsBreach, IsDifference, IsFaultAt, KeepsPremises, Strikes}
use Rattle.ns_replay.specs.Replying.{Fits, FitsIn, Replies}
use Rattle.ns_replay.specs.Replay.{Breaks, IsNoStepAt}
use Rattle.ns_replay.proofs.Premising.{fitting, unbroken, unfitting}

-- ---- the server that holds the namespace alone

module _ (own : Bool) (entry : Entry) (t : State) where
  -- it is left as it is by another's step
  pub strikes_not : own ≡ false → Strikes own entry t t None
  strikes_not is = subst (λ b. Strikes b entry t t None) (sym is) (refl, refl)

  pub strikes_own : (t' : State) (reply : Option Rendered) → own ≡ true → Fits entry t t' → reply ≡ Some entry.1 → Strikes own entry t t' reply
  strikes_own t' reply is fits same = subst (λ b. Strikes b entry t t' reply) (sym is) (fits, same)

  struck_fits : (t' : State) (reply : Option Rendered) → own ≡ true → Strikes own entry t t' reply → FitsIn entry t
  struck_fits t' reply is strikes = (t', (subst (λ b. Strikes b entry t t' reply) is strikes).0)

-- ---- the whole server

module _ (ns : Name) (pools quotas : List Name) (entry : Entry) (s t : State) (place : ℕ) where
  pub breach_at : (step : Step) → step ≡ entry.0 → (fault : ReplayFault) →
      IsBreach ns pools quotas step s place fault → IsFaultAt ns pools quotas entry s t place fault
  breach_at step same (Premise i) b = (b.0, subst (λ x. Breaks ns pools quotas x s) same b.1)
  breach_at step same (Differs i) b = absurd b
  breach_at step same (NotARun i) b = absurd b
  breach_at step same Memory b = tt

  module _ (s' : State) (step : Step) (same : step ≡ entry.0) (told : Option Rendered) (tells : Replies step s told s')
      (keeps : KeepsPremises ns pools quotas step s told s') where
    replies_it : Replies entry.0 s told s'
    replies_it = subst (λ x. Replies x s told s') same tells

    keeps_it : KeepsPremises ns pools quotas entry.0 s told s'
    keeps_it = subst (λ x. KeepsPremises ns pools quotas x s told s') same keeps

    none_breaks : Breaks ns pools quotas entry.0 s → ⊥
    none_breaks = unbroken ns pools quotas s s' entry.0 told replies_it keeps_it

    pub difference_at : (fault : ReplayFault) → IsDifference (part_of ns pools quotas) entry t place fault → IsFaultAt ns pools quotas entry s t place fault
    difference_at (Premise i) d = absurd d
    difference_at (Differs i) d = (d.0, record { premises = none_breaks; own = d.1; unlike = d.2 })
    difference_at (NotARun i) d = absurd d
    difference_at Memory d = tt

    module _ (t' : State) (reply : Option Rendered) (logged : Rendered) (is : logged ≡ entry.1)
        (strikes : Strikes (is_own (part_of ns pools quotas) entry.0) entry t t' reply) where
      pub advances : told ≡ Some logged → Advances ns pools quotas entry s t s' t' reply
      advances so =
          let kept = subst (λ o. KeepsPremises ns pools quotas entry.0 s o s') so keeps_it in
          let fits = fitting entry s s' step logged told same is tells so in
          record {
            fits = fits;
            uncrowded = kept.1 fits.answer fits.made;
            apart = kept.0;
            strikes = strikes;
          }

      pub no_step_at : (told ≡ Some logged → ⊥) → IsNoStepAt ns pools quotas entry s t
      no_step_at not_so = record {
        premises = none_breaks;
        alike = λ own. struck_fits (is_own (part_of ns pools quotas) entry.0) entry t t' reply own strikes;
        unfit = unfitting entry s s' step logged told same is tells not_so;
      }
