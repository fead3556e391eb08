use Rattle.std.proofs.Common.{◌<◌, ◌∙◌, sym, ap, subst, length, get_or, arith, Some}
use Rattle.std.proofs.lemmas.Grind.{common_steps}
use Rattle.keyed.proofs.slots.Slots.slot.Goals as goal

pub index-requires : goal.index-requires
index-requires g c =
    let within : c.in-Some.i < length c.self.inside.slots.items = subst (λ es. c.in-Some.i < length es) (sym c.self.view_is) c.in-Some.ensures.within in
    grind (arith, common_steps)

pub returns-in-Some : goal.returns-in-Some
returns-in-Some g c =
    ap (λ e. Some e.1) c.index.ensures
    ∙ ap (λ es. Some (get_or es c.in-Some.i c.index.result.now).1) c.self.view_is
    ∙ sym (c.in-Some.ensures.find_is c.index.result.now)

pub returns-in-None : goal.returns-in-None
returns-in-None g c = sym c.in-None.ensures.find_is
