use Rattle.std.proofs.Common.{◌∙◌, arith, inl, inr, sym}
use Rattle.std.proofs.lemmas.Bool.{cases_lt, false≢true}
use Rattle.std.proofs.lemmas.List.{nil_from_length}
use Rattle.std.specs.BTreeSet.{btree_set_len}
use Rattle.ns_preempt.proofs.Ranks.{first_is_best, none_ranked, passed_over, taken_out}
use Rattle.ns_preempt.proofs.ranking.take_first.Goals as goal

pub returns-then-is_current-clause-best : goal.returns-then-is_current-clause-best
returns-then-is_current-clause-best c =
    first_is_best c.args.size c.args.candidates.now c.loop-rank.ranks c.loop-rank.invariant c.in-Some.rank c.in-Some.ensures.least
    (c.is_current.ensures.yes c.if-is_current.true)

pub returns-then-is_current-clause-others : goal.returns-then-is_current-clause-others
returns-then-is_current-clause-others c =
    taken_out c.args.size c.args.candidates.now c.loop-rank.ranks c.pop_first.new.self c.loop-rank.invariant c.in-Some.rank c.in-Some.ensures.updates

pub loop-rank-preserved : goal.loop-rank-preserved
loop-rank-preserved c =
    passed_over c.args.size c.args.candidates.now c.loop-rank.ranks c.pop_first.new.self c.loop-rank.invariant c.in-Some.rank c.in-Some.ensures.updates
    (λ is. false≢true (sym c.if-is_current.false ∙ c.is_current.ensures.no is))

pub returns-clause-best : goal.returns-clause-best
returns-clause-best c =
    none_ranked c.args.size c.args.candidates.now c.loop-rank.ranks c.loop-rank.invariant (elim (cases_lt 0 (btree_set_len c.loop-rank.ranks)) [
      | inl some ↦ absurd (false≢true (c.in_default.ensures.variant.1 some))
      | inr none ↦ nil_from_length c.loop-rank.ranks.keys (omega (arith, none))
    ])
