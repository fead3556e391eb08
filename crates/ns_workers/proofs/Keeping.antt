-- Segments that are taken one after the other.
use Rattle.std.specs.Prelude.{◌≡◌, List, [], ◌∷◌, ◌++◌}
use Rattle.std.proofs.Common.{refl, sym, subst}
use Rattle.ns_log.specs.Segments.{Given}
use Rattle.ns_workers.specs.Keeping.{TakesAll, TakesSome}

module _ {K : Type 0} (takes : K → Given → K → Type 0) where
  pub takes_none : (k : K) → TakesSome takes k k
  takes_none k = ([], refl)

  pub takes_one : (k k' : K) (segment : Given) → takes k segment k' → TakesSome takes k k'
  takes_one k k' segment t = (segment ∷ [], (k', t, refl))

  takes_all_then : (segments more : List Given) (k mid k' : K) → TakesAll takes segments k mid → TakesAll takes more mid k' →
      TakesAll takes (segments ++ more) k k'
  takes_all_then [] more k mid k' first then = subst (λ x. TakesAll takes more x k') first then
  takes_all_then (segment ∷ segments) more k mid k' first then =
      (first.0, first.1, takes_all_then segments more first.0 mid k' first.2 then)

  pub takes_then : (k mid k' : K) → TakesSome takes k mid → TakesSome takes mid k' → TakesSome takes k k'
  takes_then k mid k' first then = (first.0 ++ then.0, takes_all_then first.0 then.0 k mid k' first.1 then.1)
