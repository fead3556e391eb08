use Rattle.std.specs.Prelude.{◌≡◌, IfOk, length}
use Rattle.std.proofs.Common.{inl, subst, sym, ◌∙◌}
use Rattle.ns_http.specs.declared.counting.Counted.{Counted}
use Rattle.ns_http.specs.declared.engine.ConnFault.{ConnFault}
use Rattle.ns_faults.specs.Lines.{line_of}
use Rattle.ns_faults.proofs.Faults.{same_fault}
use Rattle.ns_listener.specs.Ending.{EndsAfter, EndsAfterCount, EndsBy, fault_line}
use Rattle.ns_listener.proofs.closing.conclude.Goals as goal
use Rattle.ns_listener.proofs.closing.conclude.Goals.{in-None, in-Some}

pub returns-clause-fault_line : goal.returns-clause-fault_line
returns-clause-fault_line g c fault is = elim c.match-fault.branch [
  | in-None w ↦
      subst (λ e. EndsBy g.E.Write.contents c.args.errors.now e (line_of fault)) (sym w.errors-is)
      (inl (w.conclude_whole-status.ensures.fault_line fault (sym w.status-is ∙ is)))
  | in-Some w ↦
      subst (λ e. EndsBy g.E.Write.contents c.args.errors.now e (line_of fault)) (sym w.errors-is)
      (subst (λ f. EndsBy g.E.Write.contents c.args.errors.now w.conclude_cut-status.new.errors (line_of f))
      (same_fault w.in-Some.fault fault (sym w.conclude_cut-status.ensures.status ∙ sym w.status-is ∙ is)) w.conclude_cut-status.ensures.line)
]

pub returns-clause-cut_settled : goal.returns-clause-cut_settled
returns-clause-cut_settled g c fault is = elim c.match-fault.branch [
  | in-None w ↦ let never : ⊥ = cc in absurd never
  | in-Some w ↦
      let same : w.in-Some.fault ≡ fault = cc (is, w.in-Some.is) in
      let ends = λ (e : Counted _) (f : ConnFault). IfOk c.args.closing.settled
      (λ s. EndsAfterCount g.E.Write.contents c.args.errors.now e (length s.log) (line_of f)) in
      subst (λ e. ends e fault) (sym w.errors-is)
      (subst (ends w.conclude_cut-status.new.errors) same w.conclude_cut-status.ensures.settled)
]

pub returns-clause-cut_unsettled : goal.returns-clause-cut_unsettled
returns-clause-cut_unsettled g c fault other is failed = elim c.match-fault.branch [
  | in-None w ↦ let never : ⊥ = cc in absurd never
  | in-Some w ↦
      let same : w.in-Some.fault ≡ fault = cc (is, w.in-Some.is) in
      subst (λ e. EndsAfter g.E.Write.contents c.args.errors.now e (fault_line other) (line_of fault)) (sym w.errors-is)
      (subst (λ f. EndsAfter g.E.Write.contents c.args.errors.now w.conclude_cut-status.new.errors (fault_line other) (line_of f)) same
      (w.conclude_cut-status.ensures.unsettled other failed))
]
