-- What own means for each kind of step, and so the laws of steps kind by kind.
use Rattle.std.specs.Prelude.{◌≡◌, true, false, List, Option, ◌&&◌}
use Rattle.std.proofs.Common.{◌⊎◌, inl, inr, refl, sym, ap, ◌∙◌}
use Rattle.std.proofs.Math.Bool.{and-false}
use Rattle.ns_types.specs.declared.step.NodeCommand.{NodeCommand}
use Rattle.ns_types.specs.declared.step.Step.{Step}
use Rattle.ns_types.specs.Isolation.{Part, part_of, alone, concerns, is_own}
use Rattle.ns_types.specs.State.Names.{Name, has_name}
use Rattle.ns_types.specs.State.Rows.{State}
use Rattle.ns_types.specs.Steps.{after}
use Rattle.ns_types.proofs.Named.{same_name_refl}
use Rattle.ns_audit.specs.Laws.{is_admin}
use Rattle.ns_audit.proofs.Alone.Bordering.{fit_apart}
use Rattle.ns_audit.proofs.Alone.Heading.{own_step, other_step}
use Rattle.ns_audit.proofs.Alone.Stepping.{own_step_apart, other_step_apart}
use Rattle.ns_laws.proofs.Scope.Reach.{concerns_its}
use Rattle.ns_laws.proofs.Scope.Sharing.{other_name}
use Rattle.ns_laws.specs.Kinds.{AloneIsBeside, IsBeside, GoesAlike, LeavesIt, ReportsIts, ReportsAnother, OwnAsk}
use Rattle.ns_laws.specs.Kinds.{OtherAsk, OwnAdmin, OtherAdmin, OwnNode, OtherNode}
use Rattle.ns_laws.specs.Kinds.{OwnDequeue, OtherDequeue, OwnSnap, OtherSnap, OwnSubmit, OtherSubmit, OwnApply, OtherApply, OwnFinish, OtherFinish}
use Rattle.ns_laws.specs.Kinds.{OwnNack, OtherNack}

-- ---- whose a step is

module _ (ns : Name) (pools quotas : List Name) where
  abbrev pub part : Part
  part = part_of ns pools quotas

  reports_another : (command : NodeCommand) → ReportsAnother ns command → concerns part command ≡ false
  reports_another command r = ap (concerns part) r.is_report ∙ other_name ns r.report.namespace r.another

  its_node : (pool : Name) (secret : Option Name) (command : NodeCommand) → has_name pools pool ≡ true → ReportsIts ns command →
      is_own part (Step.Node pool secret command) ≡ true
  unfolding is_own
  its_node pool secret command has its = λ i. has i && concerns_its ns pools quotas command its i

  other_node_of : (pool : Name) (secret : Option Name) (command : NodeCommand) → (has_name pools pool ≡ false) ⊎ ReportsAnother ns command →
      is_own part (Step.Node pool secret command) ≡ false
  unfolding is_own
  other_node_of pool secret command (inl none) = ap (λ b. b && concerns part command) none
  other_node_of pool secret command (inr another) = ap (λ b. has_name pools pool && b) (reports_another command another) ∙ and-false (has_name pools pool)

  -- ---- a step that no administrator asks for

  module _ (s t : State) (b : IsBeside ns pools quotas s t) (step : Step) (plain : is_admin step ≡ false) where
    alike : is_own part step ≡ true → GoesAlike part s t step
    alike own s' answer e = (
      alone part s',
      ap (after step) b.agree ∙ own_step_apart part s s' step answer (fit_apart ns pools quotas s b.steady b.apart) plain own e,
      refl,
    )

    left : is_own part step ≡ false → LeavesIt part s t step
    left other s' answer e = b.agree ∙ sym (other_step_apart part s s' step answer (fit_apart ns pools quotas s b.steady b.apart) plain other e)

-- ---- the laws

pub alone_is_beside : AloneIsBeside
alone_is_beside ns pools quotas s steady apart = record { steady = steady; apart = apart; agree = refl }

pub own_ask : OwnAsk
unfolding is_own
own_ask ns pools quotas s t secret command b = alike ns pools quotas s t b (Step.Ask ns secret command) refl (same_name_refl ns)

pub other_ask : OtherAsk
unfolding is_own
other_ask ns asked pools quotas s t secret command b another =
    left ns pools quotas s t b (Step.Ask asked secret command) refl (other_name ns asked another)

pub own_admin : OwnAdmin
unfolding is_own
own_admin ns pools quotas s t s' secret command answer b own uncrowded e =
    own_step ns pools quotas s t s' (Step.Admin secret command) answer b.steady b.apart b.agree own uncrowded e

pub other_admin : OtherAdmin
unfolding is_own
other_admin ns pools quotas s t s' secret command answer b other still e =
    other_step ns pools quotas s t s' (Step.Admin secret command) answer b.steady b.apart still b.agree other e

pub own_node : OwnNode
own_node ns pool pools quotas s t secret command b has its =
    alike ns pools quotas s t b (Step.Node pool secret command) refl (its_node ns pools quotas pool secret command has its)

pub other_node : OtherNode
other_node ns pool pools quotas s t secret command b other =
    left ns pools quotas s t b (Step.Node pool secret command) refl (other_node_of ns pools quotas pool secret command other)

pub own_dequeue : OwnDequeue
unfolding is_own
own_dequeue worker n ns pools quotas s t b = alike ns pools quotas s t b (Step.Dequeue worker ns n) refl (same_name_refl ns)

pub other_dequeue : OtherDequeue
unfolding is_own
other_dequeue worker n ns other pools quotas s t b another = left ns pools quotas s t b (Step.Dequeue worker other n) refl (other_name ns other another)

pub own_snap : OwnSnap
unfolding is_own
own_snap worker ns pools quotas s t b = alike ns pools quotas s t b (Step.Snap worker ns) refl (same_name_refl ns)

pub other_snap : OtherSnap
unfolding is_own
other_snap worker ns other pools quotas s t b another = left ns pools quotas s t b (Step.Snap worker other) refl (other_name ns other another)

pub own_submit : OwnSubmit
unfolding is_own
own_submit worker ns pools quotas s t b = alike ns pools quotas s t b (Step.Submit worker ns) refl (same_name_refl ns)

pub other_submit : OtherSubmit
unfolding is_own
other_submit worker ns other pools quotas s t b another = left ns pools quotas s t b (Step.Submit worker other) refl (other_name ns other another)

pub own_apply : OwnApply
unfolding is_own
own_apply worker ns pools quotas s t b = alike ns pools quotas s t b (Step.Apply worker ns) refl (same_name_refl ns)

pub other_apply : OtherApply
unfolding is_own
other_apply worker ns other pools quotas s t b another = left ns pools quotas s t b (Step.Apply worker other) refl (other_name ns other another)

pub own_finish : OwnFinish
unfolding is_own
own_finish worker ns pools quotas s t b = alike ns pools quotas s t b (Step.Finish worker ns) refl (same_name_refl ns)

pub other_finish : OtherFinish
unfolding is_own
other_finish worker ns other pools quotas s t b another = left ns pools quotas s t b (Step.Finish worker other) refl (other_name ns other another)

pub own_nack : OwnNack
unfolding is_own
own_nack worker ns pools quotas s t b = alike ns pools quotas s t b (Step.Nack worker ns) refl (same_name_refl ns)

pub other_nack : OtherNack
unfolding is_own
other_nack worker ns other pools quotas s t b another = left ns pools quotas s t b (Step.Nack worker other) refl (other_name ns other another)
