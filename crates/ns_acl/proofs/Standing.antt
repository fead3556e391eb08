-- Rights by whom a secret stands for.
use Rattle.std.specs.Prelude.{◌≡◌, List, Option}
use Rattle.std.proofs.Common.{refl, ap}
use Rattle.ns_types.specs.declared.acl.RuleKind.{RuleKind}
use Rattle.ns_types.specs.State.Names.{Name}
use Rattle.ns_types.specs.Access.Rights.{Bearer, bearer, counting, granted, merged, pool_rights_for, pool_rights_of, rights_for, rights_of, rules_of}
use Rattle.ns_types.specs.Access.Rights.{unless_denied}
use Rattle.ns_types.specs.State.Rows.{Acl}

module _ (acl : Acl) (secret : Option Name) (target : Name) (b : Bearer) (stands : b ≡ bearer acl secret) where
  pub rights_when : rights_for acl target b ≡ rights_of acl secret target
  unfolding rights_of
  rights_when = ap (rights_for acl target) stands

  pub pool_rights_when : pool_rights_for acl target b ≡ pool_rights_of acl secret target
  unfolding pool_rights_of
  pool_rights_when = ap (pool_rights_for acl target) stands

pub granted_is : (acl : Acl) (kind : RuleKind) (policies : List Name) (target : Name) →
    unless_denied (merged (counting target (rules_of acl kind policies))) ≡ granted acl kind policies target
unfolding granted
granted_is acl kind policies target = refl
