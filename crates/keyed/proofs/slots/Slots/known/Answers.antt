use Rattle.std.proofs.Common.{◌∙◌, T, IfSome, sym, subst}
use Rattle.std.specs.FinMap.Entries.{is_sorted}
use Rattle.keyed.specs.Slots.{Found}
use Rattle.keyed.proofs.Known.{among_found, known_found}
use Rattle.keyed.proofs.slots.Slots.known.Goals as goal

pub returns : goal.returns
returns g c =
    subst (λ es. IfSome c.find.result (λ at. Found g.K.Ord.cmp c.args.key.now es at)) c.self.view_is
    (subst (λ r. IfSome r (λ at. Found g.K.Ord.cmp c.args.key.now c.self.inside.slots.items at)) (sym c.find.ensures)
    (known_found g.K.Ord.cmp g.K.PartialEq.eq g.met.K.Ord.matches_eq g.met.K.Ord.total c.args.key.now c.self.inside.slots.items c.self.invariant.0.0
    c.self.inside.index c.self.invariant.1))

pub returns-then-len-few : goal.returns-then-len-few
returns-then-len-few g c =
    subst (λ es. Found g.K.Ord.cmp c.args.key.now es c.place_among.result) (c.as_slice.ensures.value ∙ c.self.view_is)
    (among_found g.K.Ord.cmp g.K.PartialEq.eq g.met.K.Ord.matches_eq g.met.K.Ord.total c.args.key.now c.as_slice.result.now
    (subst (λ es. T (is_sorted g.K.Ord.cmp es)) (sym c.as_slice.ensures.value) c.self.invariant.0.0) c.place_among.result c.place_among.ensures)
