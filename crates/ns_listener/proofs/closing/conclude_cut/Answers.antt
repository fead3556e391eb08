use Rattle.std.specs.Prelude.{◌≡◌, IfOk, Result, length}
use Rattle.std.proofs.Common.{inl, inr, refl, subst, sym, ◌∙◌}
use Rattle.ns_work_lock.specs.Settling.{Settlement}
use Rattle.ns_faults.specs.Lines.{TriesToWrite, line_of}
use Rattle.ns_listener.specs.Ending.{EndsAfterCount, fault_line}
use Rattle.ns_listener.specs.Printing.{settled_line}
use Rattle.ns_listener.specs.declared.fault.ServeFault.{ServeFault}
use Rattle.ns_listener.proofs.closing.conclude_cut.Goals as goal
use Rattle.ns_listener.proofs.closing.conclude_cut.Goals.{in-Err, in-Ok+in-Ok-settled_line}

pub returns-clause-line : goal.returns-clause-line
returns-clause-line g c = inr (elim c.match-settled.branch [
  | in-Ok+in-Ok-settled_line w ↦ (
    c.match-settled.errors,
    w.as_bytes.result.now,
    inl (_, w.as_bytes.ensures.value ∙ w.in-Ok-settled_line.ensures),
    subst (λ e. TriesToWrite g.E.Write.contents c.args.errors.now e w.as_bytes.result.now) (sym w.errors-is) w.print_text.ensures,
    c.print_fault-2.ensures.line,
  )
  | in-Err w ↦ (
    c.match-settled.errors,
    fault_line w.in-Err.other,
    inr (w.in-Err.other, refl),
    subst (λ e. TriesToWrite g.E.Write.contents c.args.errors.now e (fault_line w.in-Err.other)) (sym w.errors-is)
        w.print_serve_fault.ensures.line,
    c.print_fault-2.ensures.line,
  )
])

pub returns-clause-settled : goal.returns-clause-settled
returns-clause-settled g c =
    let ends = λ (r : Result Settlement ServeFault). IfOk r (λ s. EndsAfterCount g.E.Write.contents c.args.errors.now
    c.print_fault-2.new.errors (length s.log) (line_of c.args.fault)) in
    elim c.match-settled.branch [
      | in-Ok+in-Ok-settled_line w ↦ subst ends (sym w.in-Ok.is) (inr (
        c.match-settled.errors,
        subst (λ e. TriesToWrite g.E.Write.contents c.args.errors.now e (settled_line (length w.in-Ok.settled.log))) (sym w.errors-is)
            (subst (TriesToWrite g.E.Write.contents c.args.errors.now w.print_text.new.errors)
            (w.as_bytes.ensures.value ∙ w.in-Ok-settled_line.ensures) w.print_text.ensures),
        c.print_fault-2.ensures.line,
      ))
      | in-Err w ↦ subst ends (sym w.in-Err.is) tt
    ]

pub returns-clause-unsettled : goal.returns-clause-unsettled
returns-clause-unsettled g c other is = elim c.match-settled.branch [
  | in-Ok+in-Ok-settled_line w ↦ let never : ⊥ = cc (is, w.in-Ok.is) in absurd never
  | in-Err w ↦
      let same : w.in-Err.other ≡ other = cc (is, w.in-Err.is) in (
        c.match-settled.errors,
        subst (λ f. TriesToWrite g.E.Write.contents c.args.errors.now c.match-settled.errors (fault_line f)) same
            (subst (λ e. TriesToWrite g.E.Write.contents c.args.errors.now e (fault_line w.in-Err.other)) (sym w.errors-is)
            w.print_serve_fault.ensures.line),
        c.print_fault-2.ensures.line,
      )
]
