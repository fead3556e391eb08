use Rattle.std.proofs.Common.{◌≡◌, ◌∙◌, [], ◌∷◌, Some, None, ℕ, List, Option, sym, ap, arith}
use Rattle.std.specs.Prelude.{is_some}
use Rattle.std.specs.declared.cmp.Ordering.{Ordering}
use Rattle.keyed.specs.Slots.{Found, has_slot}
use Rattle.keyed.proofs.slots.Slots.has_slot.Goals as goal

found : {K V : Type 0} (R : K → K → Ordering) (k : K) (es : List (K × Option V)) (r : Option ℕ) → Found R k es r → is_some r ≡ has_slot R k es
found R k es None p = sym (ap is_some p.find_is)
found R k [] (Some i) p = let h = p.within in absurd (omega arith)
found R k (e ∷ es) (Some i) p = sym (ap is_some (p.find_is e))

pub returns : goal.returns
returns g c = c.is_some.ensures ∙ found g.K.Ord.cmp c.args.key.now c.args.self.now c.find.result c.find.ensures
