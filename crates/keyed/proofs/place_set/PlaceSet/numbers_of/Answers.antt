use Rattle.std.proofs.Common.{ap, sym, ◌∙◌, false}
use Rattle.std.specs.Option.{option_copied, option_map_or}
use Rattle.keyed.proofs.Levels.{not_numbered}
use Rattle.keyed.specs.Levels.{holds_numbered}
use Rattle.keyed.specs.Queue.{stands_in}
use Rattle.keyed.proofs.place_set.PlaceSet.numbers_of.Goals as goal

pub returns-in-Some : goal.returns-in-Some
returns-in-Some c n place out = ap (λ r. option_map_or (λ set. holds_numbered set (n, place)) r false) (sym c.get.ensures ∙ ap option_copied c.in-Some.is)
    ∙ not_numbered c.in-Some.numbers.now n place (ap (stands_in n) (sym c.as_slice.ensures) ∙ out)

pub returns-in-None : goal.returns-in-None
returns-in-None c n place out = ap (λ r. option_map_or (λ set. holds_numbered set (n, place)) r false) (sym c.get.ensures ∙ ap option_copied c.in-None.is)
