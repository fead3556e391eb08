-- The bearer of a secret, as the program keeps it.
use Rattle.ns_types.specs.Access.Rights as rights
use Rattle.ns_acl.specs.declared.bearer.TokenBearer.{TokenBearer}

abbrev pub bearer_of : TokenBearer → rights.Bearer
bearer_of TokenBearer.Unknown = rights.Unknown
bearer_of TokenBearer.Manager = rights.Manager
bearer_of (TokenBearer.Holder policies) = rights.Holder policies.now
