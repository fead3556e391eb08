-- What the threads of a test look at together.
use mathlib.Core.List.{◌∷◌, []}
use base.Fml.{Lft}
use mir.Syntax.{Lifetime, Sym}
use denote.RattleType.{RattleType}
use denote.Ref.{ShrRef}
use denote.Struct.Field.{row_field}
use denote.Struct.Tuple.{TupleAt, type_at}
use denote.Param.Send.{IsSync, sendable, shr_sync}
use denote.Param.SendFields.{as_row_sync, declared_sync}
use Rattle.std.proofs.Crossing.{crosses}
use Rattle.std.specs.contracts.sync.Barrier as Barrier

pub Barrier-sync : IsSync Barrier.the_row
Barrier-sync = search (sendable, crosses) depth 20

module _ (ν : Sym) (ℓ ℓ' ℓ'' ℓ''' : Lifetime) (κ κ' κ'' κ''' : Lft) (A B C D : RattleType) where
  -- a closure that has a reference to each of four values
  pub four-sync : IsSync A → IsSync B → IsSync C → IsSync D → IsSync (TupleAt ν (ShrRef ℓ κ A ∷ ShrRef ℓ' κ' B ∷ ShrRef ℓ'' κ'' C ∷ ShrRef ℓ''' κ''' D ∷ []))
  four-sync a b c d =
      declared_sync (type_at ν (ShrRef ℓ κ A ∷ ShrRef ℓ' κ' B ∷ ShrRef ℓ'' κ'' C ∷ ShrRef ℓ''' κ''' D ∷ [])) (
        as_row_sync (row_field (ShrRef ℓ κ A)) (shr_sync ℓ κ A a),
        (
          as_row_sync (row_field (ShrRef ℓ' κ' B)) (shr_sync ℓ' κ' B b),
          (
            as_row_sync (row_field (ShrRef ℓ'' κ'' C)) (shr_sync ℓ'' κ'' C c),
            (as_row_sync (row_field (ShrRef ℓ''' κ''' D)) (shr_sync ℓ''' κ''' D d), tt),
          ),
        ),
      )
