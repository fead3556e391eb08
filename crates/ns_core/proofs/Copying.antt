-- A copy of a core's parts holds the same state, and a part of them the state of a namespace alone.
use Rattle.std.specs.Prelude.{◌≡◌, true, List}
use Rattle.std.proofs.Common.{sym, subst}
use Rattle.ns_types.specs.Access.Sharing.{is_apart}
use Rattle.ns_types.specs.Isolation.{alone, alone_in, part_of}
use Rattle.ns_types.specs.State.Names.{Name}
use Rattle.ns_types.specs.Validity.{IsValid}
use Rattle.ns_audit.proofs.AloneValid.{alone_is_valid}
use Rattle.ns_core.specs.declared.parts.Parts.{Parts}
use Rattle.ns_core.specs.Held.{IsIndexed, IsKept}
use Rattle.ns_core.specs.Viewed.{state_of, world_of}

module _ (parts made : Parts) (acl : made.acl ≡ parts.acl) (index : IsIndexed made) (kept : IsKept parts) where
  pub same_state : world_of made ≡ world_of parts → state_of made ≡ state_of parts
  same_state world = λ i. record { acl = acl i; world = world i }

  pub copy_kept : world_of made ≡ world_of parts → IsKept made
  copy_kept world = record { valid = subst IsValid (sym (same_state world)) kept.valid; index = index }

  module _ (ns : Name) (pools quotas : List Name) (world : world_of made ≡ alone_in (part_of ns pools quotas) (world_of parts)) where
    pub state_alone : state_of made ≡ alone (part_of ns pools quotas) (state_of parts)
    unfolding alone
    state_alone = λ i. record { acl = acl i; world = world i }

    pub alone_kept : is_apart (world_of parts) ns pools quotas ≡ true → IsKept made
    alone_kept apart = record {
      valid = subst IsValid (sym state_alone) (alone_is_valid ns pools quotas (state_of parts) kept.valid apart);
      index = index;
    }
