-- From what a apply prepares to what the model makes of it.
use Rattle.std.specs.Prelude.{◌≡◌, ℕ, Ok, Err}
use Rattle.std.proofs.Common.{refl}
use Rattle.ns_types.specs.declared.refusal.Refusal.{Refusal}
use Rattle.ns_types.specs.declared.step.Step.{Step}
use Rattle.ns_types.specs.Asking.Policies.{with_world}
use Rattle.ns_types.specs.Settling.Outcome.{Done, lift}
use Rattle.ns_types.specs.State.Names.{Name}
use Rattle.ns_types.specs.State.Rows.{State}
use Rattle.ns_types.specs.Steps.{Makes, act}
use Rattle.ns_types.specs.Working.Commit.{apply}
use Rattle.ns_change.specs.declared.change.Prepared.{Prepared}
use Rattle.ns_change.specs.Changed.{view}
use Rattle.ns_change.specs.Prepared.{Prepares, bounded}
use Rattle.ns_change.proofs.Making.{does, refuses}
use Rattle.ns_tables.specs.declared.tables.Tables.{Tables}

module _ (worker : ℕ) (ns : Name) (s : State) where
  apply_acts : act (Step.Apply worker ns) s ≡ lift (with_world s.acl) (apply worker ns s.world)
  unfolding act
  apply_acts = refl

  module _ (t : Tables) where
    pub apply_refuses : (refusal : Refusal) → Prepares (bounded s.world (apply worker ns s.world)) t (Err refusal) →
        Makes (Step.Apply worker ns) s (Err refusal) s
    apply_refuses refusal h = refuses (Step.Apply worker ns) s _ apply_acts refl t refusal h

    pub apply_does : (x : Prepared) → Prepares (bounded s.world (apply worker ns s.world)) t (Ok x) →
        act (Step.Apply worker ns) s ≡ Done x.content (record s { world = view t x.change })
    apply_does x h = does (Step.Apply worker ns) s _ apply_acts refl t x h
