use Rattle.std.proofs.Common.{◌≡◌, ◌∙◌, ℕ, List, [], Option, arith, inl, inr, refl, sym, subst}
use Rattle.ns_faults.specs.Lines.{TriesToWrite, line_of, status_of}
use Rattle.ns_faults.proofs.Faults.{same_fault}
use Rattle.ns_http.specs.declared.counting.Counted.{Counted}
use Rattle.ns_http.specs.declared.engine.ConnFault.{ConnFault}
use Rattle.ns_listener.specs.Ending.{IsEnd, IsLastLine}
use Rattle.ns_listener.specs.declared.service.Service.{Service}
use Rattle.nsd.proofs.host.host.Goals as goal

-- a fault by its status
end_of : (fault : ConnFault) → IsEnd (status_of fault)
end_of ConnFault.Read = inr (inr (inl refl))
end_of ConnFault.Write = inr (inr (inr (inl refl)))
end_of ConnFault.Memory = inr (inr (inr (inr refl)))

not_served : (fault : ConnFault) → status_of fault ≡ 0 → ⊥
not_served ConnFault.Read e = omega (arith, e)
not_served ConnFault.Write e = omega (arith, e)
not_served ConnFault.Memory e = omega (arith, e)

no_mismatch : (fault : ConnFault) → status_of fault ≡ 1 → ⊥
no_mismatch ConnFault.Read e = omega (arith, e)
no_mismatch ConnFault.Write e = omega (arith, e)
no_mismatch ConnFault.Memory e = omega (arith, e)

-- nothing was written before this line
only_fault : {D W E : Type 0} (draws : D → List ℕ → D → Type 0) (contents : W → Option (List ℕ)) (error_text : E → Option (List ℕ))
    (service : Service) (drawers : List D) (errors errors' : Counted E) (a b : ConnFault) → a ≡ b →
    TriesToWrite error_text errors errors' (line_of a) → IsLastLine draws contents error_text service drawers errors errors' (line_of b)
only_fault draws contents error_text service drawers errors errors' a b same wrote = record {
  opened = errors;
  before = inl refl;
  last = inl (subst (λ f. TriesToWrite error_text errors errors' (line_of f)) same wrote);
}

pub returns-in-Err : goal.returns-in-Err
returns-in-Err g c = record {
  is_end = subst IsEnd (sym c.print_fault.ensures.status) (end_of c.in-Err.fault);
  settled = λ e. absurd (not_served _ (sym c.print_fault.ensures.status ∙ e));
  write_fault = λ e. absurd (c.in-Err.ensures.fault (same_fault _ ConnFault.Write (sym c.print_fault.ensures.status ∙ e)));
  unsettled = λ _ _. ([], inl refl);
  unprinted = λ _ _ _. refl;
  last_line = λ fault e.
      let same = same_fault c.in-Err.fault fault (sym c.print_fault.ensures.status ∙ e) in
      ([], only_fault _ _ _ _ _ _ _ _ _ same c.print_fault.ensures.line);
  mismatch = λ e. absurd (no_mismatch _ (sym c.print_fault.ensures.status ∙ e));
}

pub returns : goal.returns
returns g c = record {
  is_end = c.serve.ensures.status;
  settled = λ e. (_, c.serve.ensures.settled e);
  write_fault = λ e. (_, c.serve.ensures.write_fault e);
  unsettled = λ e f. (_, c.serve.ensures.unsettled e f);
  unprinted = c.serve.ensures.unprinted;
  last_line = λ fault e. (_, c.serve.ensures.fault_line fault e);
  mismatch = λ e. (_, c.serve.ensures.mismatch e);
}
