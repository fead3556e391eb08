-- A status tells its fault.
use Rattle.std.proofs.Common.{◌≡◌, arith, refl}
use Rattle.ns_http.specs.declared.engine.ConnFault.{ConnFault}
use Rattle.ns_faults.specs.Lines.{status_of}

pub same_fault : (a b : ConnFault) → status_of a ≡ status_of b → a ≡ b
same_fault ConnFault.Read ConnFault.Read e = refl
same_fault ConnFault.Read ConnFault.Write e = absurd (omega (arith, e))
same_fault ConnFault.Read ConnFault.Memory e = absurd (omega (arith, e))
same_fault ConnFault.Write ConnFault.Read e = absurd (omega (arith, e))
same_fault ConnFault.Write ConnFault.Write e = refl
same_fault ConnFault.Write ConnFault.Memory e = absurd (omega (arith, e))
same_fault ConnFault.Memory ConnFault.Read e = absurd (omega (arith, e))
same_fault ConnFault.Memory ConnFault.Write e = absurd (omega (arith, e))
same_fault ConnFault.Memory ConnFault.Memory e = refl
