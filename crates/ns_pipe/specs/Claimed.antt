-- The pools and the quotas with which a namespace is replayed.
use Rattle.std.specs.Prelude.{List, [], ◌∷◌, Option, Some, None}
use Rattle.std.specs.Option.{option_map_or}
use Rattle.ns_types.specs.declared.records.Namespace.{Namespace}
use Rattle.ns_types.specs.Access.Sharing.{namespace_at, pools_of}
use Rattle.ns_types.specs.State.Names.{Name}
use Rattle.ns_types.specs.State.Rows.{State}
use Rattle.ns_pipe.specs.declared.replay.replay.Replay.{Replay}

abbrev pub quota_list : Option Name → List Name
quota_list (Some quota) = quota ∷ []
quota_list None = []

abbrev pub quotas_of : Namespace → List Name
quotas_of namespace = quota_list namespace.quota

-- the names of one list; if neither list names any, the default
abbrev pub named_or : List Name → List Name → List Name → List Name
named_or [] [] default = default
named_or (name ∷ names) others default = name ∷ names
named_or [] (other ∷ others) default = []

-- the named pools; if no pool and no quota is named, the pools to which the namespace is confined in the base
abbrev pub pools_for : Replay → State → List Name
pools_for replay base =
    named_or replay.pools replay.quotas (option_map_or pools_of (namespace_at base.world replay.namespace) [])

-- the named quotas; if no pool and no quota is named, the namespace's quota in the base
abbrev pub quotas_for : Replay → State → List Name
quotas_for replay base =
    named_or replay.quotas replay.pools (option_map_or quotas_of (namespace_at base.world replay.namespace) [])
