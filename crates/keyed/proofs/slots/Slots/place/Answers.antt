use Rattle.std.proofs.Common.{◌∙◌, T, sym, subst}
use Rattle.std.specs.FinMap.Entries.{is_sorted}
use Rattle.keyed.specs.Slots.{Placed}
use Rattle.keyed.proofs.slots.Slots.place.Goals as goal

pub place_in-requires : goal.place_in-requires
place_in-requires g c = subst (λ es. T (is_sorted g.K.Ord.cmp es)) (sym c.as_slice.ensures.value) c.self.invariant.0.0

pub returns : goal.returns
returns g c = subst (λ es. Placed g.K.Ord.cmp c.args.key.now es c.place_in.result) (c.as_slice.ensures.value ∙ c.self.view_is) c.place_in.ensures
