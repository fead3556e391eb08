use Rattle.std.proofs.Common.{◌∙◌, ◌≡◌, subst, sym}
use Rattle.ns_types.proofs.Named.{same_name_is, text_ties}
use Rattle.ns_types.specs.Working.Owners.{AreOwned}
use Rattle.ns_types.proofs.Owners.{on_true, same_rows}
use Rattle.ns_types.proofs.live_rows.LiveRows.is_like.Goals as goal

pub returns-then-eq : goal.returns-then-eq
returns-then-eq c =
    let names : c.self.inside.names.items ≡ c.other.inside.names.items =
    sym c.as_slice.ensures.value ∙ c.if-not-same_names.ensures ∙ c.as_slice-2.ensures.value in
    let owners : c.self.inside.owners.items ≡ c.other.inside.owners.items = sym c.as_slice-3.ensures.value
    ∙ same_name_is _ _ (sym (text_ties c.as_slice-3.result.now c.as_slice-4.result.now) ∙ sym c.if-eq.ensures) ∙ c.as_slice-4.ensures.value in
    let other = subst (λ ns. AreOwned ns c.self.inside.owners.items c.other.inside.rows.items) (sym names)
    (subst (λ os. AreOwned c.other.inside.names.items os c.other.inside.rows.items) (sym owners) c.other.invariant.0) in
    on_true c.has_like.result (λ same. sym c.self.view_is ∙ same_rows c.self.inside.names.items c.self.inside.owners.items c.self.inside.rows.items
    c.other.inside.rows.items c.self.invariant.0 other (rw (c.self.view_is, c.other.view_is) same) ∙ c.other.view_is) c.has_like.ensures
