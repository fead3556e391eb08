-- From what a finish prepares to what the model makes of it.
use Rattle.std.specs.Prelude.{◌≡◌, ℕ, Ok, Err}
use Rattle.std.proofs.Common.{refl}
use Rattle.ns_types.specs.declared.refusal.Refusal.{Refusal}
use Rattle.ns_types.specs.declared.step.Step.{Step}
use Rattle.ns_types.specs.Asking.Policies.{with_world}
use Rattle.ns_types.specs.Settling.Outcome.{Done, lift}
use Rattle.ns_types.specs.State.Names.{Name}
use Rattle.ns_types.specs.State.Rows.{State}
use Rattle.ns_types.specs.Steps.{Makes, act}
use Rattle.ns_types.specs.Working.Work.{finish}
use Rattle.ns_change.specs.declared.change.Prepared.{Prepared}
use Rattle.ns_change.specs.Changed.{view}
use Rattle.ns_change.specs.Prepared.{Prepares, bounded}
use Rattle.ns_change.proofs.Making.{does, refuses}
use Rattle.ns_tables.specs.declared.tables.Tables.{Tables}

module _ (worker : ℕ) (ns : Name) (s : State) where
  finish_acts : act (Step.Finish worker ns) s ≡ lift (with_world s.acl) (finish worker ns s.world)
  unfolding act
  finish_acts = refl

  module _ (t : Tables) where
    pub finish_refuses : (refusal : Refusal) → Prepares (bounded s.world (finish worker ns s.world)) t (Err refusal) →
        Makes (Step.Finish worker ns) s (Err refusal) s
    finish_refuses refusal h = refuses (Step.Finish worker ns) s _ finish_acts refl t refusal h

    pub finish_does : (x : Prepared) → Prepares (bounded s.world (finish worker ns s.world)) t (Ok x) →
        act (Step.Finish worker ns) s ≡ Done x.content (record s { world = view t x.change })
    finish_does x h = does (Step.Finish worker ns) s _ finish_acts refl t x h
