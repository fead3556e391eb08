-- What a connection holds is its parts.
use Rattle.std.proofs.Common.{◌≡◌, ap₂, subst}
use Rattle.ns_api.specs.Answering.{Holding}

pub same_parts : {S D F : Type 0} {old new : Holding S D F} → old.taker ≡ new.taker → old.draws ≡ new.draws →
    old.follower ≡ new.follower → old ≡ new
same_parts {S} {D} {F} {old} {new} p q v =
    let make : S → D → F → Holding S D F = λ s d f. record { taker = s; draws = d; follower = f } in
    subst (λ f. old ≡ make new.taker new.draws f) v (ap₂ (λ s d. make s d old.follower) p q)
