use Rattle.std.specs.Prelude.{filter, map}
use Rattle.std.proofs.Common.{◌≡◌, sym, ap, ◌∙◌, ◌++◌, ◌∷◌, []}
use Rattle.std.proofs.lemmas.List.{append-nil, nil_from_length}
use Rattle.keyed.specs.Table.{row_list}
use Rattle.ns_admin.proofs.Listing.{row_added, row_left_out}
use Rattle.ns_admin.proofs.lists.show_passing.Goals as goal

pub loop-name-preserved-in_ok-push : goal.loop-name-preserved-in_ok-push
loop-name-preserved-in_ok-push g c passes shows =
    row_added g.V.ListedByName.listed passes c.loop-name.shown _ c.in-Some.name c.in-Some-row.found c.loop-name.rest.now c.in-Some.others.now
    (c.in-Some.ensures.cases.0 ∙ (λ i. (c.in-Some.name-is i, c.in-Some-row.is i) ∷ c.in-Some.others.now))
    (c.loop-name.invariant passes shows)
    c.push.new.self
    (c.in_ok-push.ensures.ok ∙ ap (λ s. c.loop-name.shown ++ s ∷ [])
    (c.in_ok-show.ensures ∙ ap (λ name. g.V.ListedByName.listed (name, c.in-Some-row.found)) c.in-Some.name-is))
    (sym (shows c.in-Some.name c.shows.result (record { shown = _; shows = c.in-Some.name-is; says = record { met = c.shows.ensures } })) ∙ c.if-shows.true)

pub loop-name-preserved-else-shows : goal.loop-name-preserved-else-shows
loop-name-preserved-else-shows g c passes shows =
    row_left_out g.V.ListedByName.listed passes c.loop-name.shown _ c.in-Some.name c.in-Some-row.found c.loop-name.rest.now c.in-Some.others.now
    (c.in-Some.ensures.cases.0 ∙ (λ i. (c.in-Some.name-is i, c.in-Some-row.is i) ∷ c.in-Some.others.now))
    (c.loop-name.invariant passes shows)
    (sym (shows c.in-Some.name c.shows.result (record { shown = _; shows = c.in-Some.name-is; says = record { met = c.shows.ensures } })) ∙ c.if-shows.false)

pub returns : goal.returns
returns g c passes shows =
    let none : c.loop-name.rest.now ≡ [] = nil_from_length _ c.in_default.ensures.cases in
    sym (append-nil c.loop-name.shown)
    ∙ ap (λ es. c.loop-name.shown ++ map g.V.ListedByName.listed (filter (λ e. passes e.0) (row_list es))) (sym none)
    ∙ c.loop-name.invariant passes shows
