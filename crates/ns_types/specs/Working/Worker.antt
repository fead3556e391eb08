-- The row of a busy worker.
use Rattle.std.specs.Prelude.{ℕ, Option}
use Rattle.ns_types.specs.declared.snapshot.Snapshot.{Snapshot}
use Rattle.ns_types.specs.declared.worker.Phase.{Phase}

pub record Worker : Type 0 where
  -- the number of its evaluation in the namespace
  pub evaluation : ℕ
  pub phase : Phase
  -- how many tries remain
  pub tries : ℕ
  -- the snapshot that it took last
  pub kept : Option Snapshot
