-- The pools that a test looks for.
use Rattle.std.specs.Prelude.{Bool}
use Rattle.ns_types.specs.Asking.Admins.{is_withdrawn}
use Rattle.ns_types.specs.State.Names.{Name, same_name}
use Rattle.ns_admin.specs.declared.held.AskedPools.{AskedPools}

abbrev pub passes : AskedPools → Name → Bool
passes (AskedPools.Named name) = same_name name.now
passes (AskedPools.Withdrawn old new) = is_withdrawn old.now new.now
