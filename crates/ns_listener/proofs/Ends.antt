-- How a server ended, from its status and what was printed.
use Rattle.std.specs.Prelude.{◌≡◌, ◌⊎◌, ℕ, List, [], ◌++◌, length, Option, Some, None, Result, Ok, Err, Bool, true, IfOk, IsOkAnd, IsTrue, OnOk}
use Rattle.std.specs.Result.{IsErrOf}
use Rattle.std.specs.declared.net.socket_addr.SocketAddr.{SocketAddr}
use Rattle.std.proofs.Common.{ap, arith, inl, inr, refl, subst, sym}
use Rattle.std.proofs.lemmas.List.{append-nil}
use Rattle.ns_types.specs.State.Names.{Name}
use Rattle.ns_json.specs.Logs.{segment_text}
use Rattle.ns_log.specs.Segments.{Given, texts_of}
use Rattle.ns_work_lock.specs.Settling.{Settlement, present}
use Rattle.ns_http.specs.Counts.{HasGrown}
use Rattle.ns_http.specs.Output.{WritesAll, WritesPart}
use Rattle.ns_http.specs.declared.counting.Counted.{Counted}
use Rattle.ns_http.specs.declared.engine.ConnFault.{ConnFault}
use Rattle.ns_faults.specs.Lines.{FailsToWrite, TriesToWrite, line_of, mismatch_line, status_of}
use Rattle.ns_faults.specs.declared.status.TheConstants.{SERVED, MISMATCH, WRITE_FAULT}
use Rattle.ns_listener.specs.Ending.{EndsBy, EndsInPart, EndsSettled, EndsUnsettled, IsChosen, IsEnd, IsLastLine, fault_line, fault_status}
use Rattle.ns_listener.specs.Keeping.{WritesText}
use Rattle.ns_listener.specs.Opening.{opening_lines}
use Rattle.ns_listener.specs.Printing.{IsRunOf, settled_line}
use Rattle.ns_listener.proofs.Written.{text_then}
use Rattle.ns_listener.specs.declared.fault.ServeFault.{ServeFault}
use Rattle.ns_listener.specs.declared.service.Service.{Service}

abbrev fault_of : {T : Type 0} → Result T ServeFault → ServeFault
fault_of (Ok x) = ServeFault.Mismatch
fault_of (Err fault) = fault

pub same_fault : {S T : Type 0} (fault other : ServeFault) → IsErrOf {T = S} (Err fault) other → IsErrOf {T = T} (Err fault) other
same_fault fault other is = ap (λ x. Err (fault_of x)) is

-- ---- a fault by its status

pub end_of : (fault : ServeFault) → IsEnd (fault_status fault)
end_of (ServeFault.Conn ConnFault.Read) = inr (inr (inl refl))
end_of (ServeFault.Conn ConnFault.Write) = inr (inr (inr (inl refl)))
end_of (ServeFault.Conn ConnFault.Memory) = inr (inr (inr (inr refl)))
end_of ServeFault.Mismatch = inr (inl refl)

pub not_served : (fault : ServeFault) → fault_status fault ≡ SERVED → ⊥
not_served (ServeFault.Conn ConnFault.Read) e = omega (arith, e)
not_served (ServeFault.Conn ConnFault.Write) e = omega (arith, e)
not_served (ServeFault.Conn ConnFault.Memory) e = omega (arith, e)
not_served ServeFault.Mismatch e = omega (arith, e)

pub is_write : (fault : ServeFault) → fault_status fault ≡ WRITE_FAULT → fault ≡ ServeFault.Conn ConnFault.Write
is_write (ServeFault.Conn ConnFault.Read) e = absurd (omega (arith, e))
is_write (ServeFault.Conn ConnFault.Write) e = refl
is_write (ServeFault.Conn ConnFault.Memory) e = absurd (omega (arith, e))
is_write ServeFault.Mismatch e = absurd (omega (arith, e))

pub line_by_status : (fault : ServeFault) (conn : ConnFault) → fault_status fault ≡ status_of conn → fault_line fault ≡ line_of conn
line_by_status (ServeFault.Conn ConnFault.Read) ConnFault.Read e = refl
line_by_status (ServeFault.Conn ConnFault.Read) ConnFault.Write e = absurd (omega (arith, e))
line_by_status (ServeFault.Conn ConnFault.Read) ConnFault.Memory e = absurd (omega (arith, e))
line_by_status (ServeFault.Conn ConnFault.Write) ConnFault.Read e = absurd (omega (arith, e))
line_by_status (ServeFault.Conn ConnFault.Write) ConnFault.Write e = refl
line_by_status (ServeFault.Conn ConnFault.Write) ConnFault.Memory e = absurd (omega (arith, e))
line_by_status (ServeFault.Conn ConnFault.Memory) ConnFault.Read e = absurd (omega (arith, e))
line_by_status (ServeFault.Conn ConnFault.Memory) ConnFault.Write e = absurd (omega (arith, e))
line_by_status (ServeFault.Conn ConnFault.Memory) ConnFault.Memory e = refl
line_by_status ServeFault.Mismatch ConnFault.Read e = absurd (omega (arith, e))
line_by_status ServeFault.Mismatch ConnFault.Write e = absurd (omega (arith, e))
line_by_status ServeFault.Mismatch ConnFault.Memory e = absurd (omega (arith, e))

pub line_of_mismatch : (fault : ServeFault) → fault_status fault ≡ MISMATCH → fault_line fault ≡ mismatch_line
line_of_mismatch (ServeFault.Conn ConnFault.Read) e = absurd (omega (arith, e))
line_of_mismatch (ServeFault.Conn ConnFault.Write) e = absurd (omega (arith, e))
line_of_mismatch (ServeFault.Conn ConnFault.Memory) e = absurd (omega (arith, e))
line_of_mismatch ServeFault.Mismatch e = refl

-- a log settled with all segments that were taken
pub run_of : (kept secret : Name) (segments given : List Given) (is_whole : Bool) (r : Result Settlement ServeFault) → kept ≡ secret →
    (is_whole ≡ true → segments ≡ given) → IfOk r (IsRunOf kept segments) → OnOk r (IsTrue is_whole) → IfOk r (IsRunOf secret given)
run_of kept secret segments given is_whole (Ok s) same all run whole =
    subst (λ x. IsRunOf x given s) same (subst (λ x. IsRunOf kept x s) (all whole) run)
run_of kept secret segments given is_whole (Err e) same all run whole = tt

-- ---- how it ended

module _ {D W E : Type 0} (draws : D → List ℕ → D → Type 0) (contents : W → Option (List ℕ)) (error_text : E → Option (List ℕ))
    (service : Service) (drawers : List D) where
  pub part_of : (fault : Option ConnFault) (u v : Counted W) (text : List ℕ) → WritesText contents fault u v text → WritesPart contents u v text
  part_of None u v text x = (text, [], sym (append-nil text), x)
  part_of (Some ConnFault.Write) u v text x = x.0
  part_of (Some ConnFault.Memory) u v text x = x
  part_of (Some ConnFault.Read) u v text x = absurd x

  module _ (secret : Name) (segments : List Given) (fault : Option ConnFault) (writer mid writer' : Counted W)
      (chosen : IsChosen draws service.bootstrap drawers secret) (writes : WritesText contents fault writer mid (texts_of secret segments))
      (grows : HasGrown writer.counts mid.counts) where
    -- all that was given out, and behind it what a fault says of the rest
    behind : (rest : Option ConnFault) (text : List ℕ) → fault ≡ None → WritesText contents rest mid writer' text →
        WritesText contents rest writer writer' (texts_of secret segments ++ text)
    behind rest text whole printed = text_then contents rest writer mid writer' (texts_of secret segments) text grows
        (subst (λ f. WritesText contents f writer mid (texts_of secret segments)) whole writes) printed

    pub ends_settled : (settled : Result Settlement ServeFault) (address : SocketAddr) (errors opened errors' : Counted E) (lines : List ℕ) →
        IfOk settled (IsRunOf secret segments) → fault ≡ None →
        IsOkAnd settled (λ s. WritesAll contents mid writer' (segment_text secret s.given (present s))) →
        IsOkAnd settled (λ s. TriesToWrite error_text opened errors' (settled_line (length s.log))) →
        lines ≡ opening_lines service address secret → TriesToWrite error_text errors opened lines →
        EndsSettled draws contents error_text service drawers writer writer' errors errors'
    ends_settled (Ok s) address errors opened errors' lines run whole printed ended are wrote = record {
      address = address;
      secret = secret;
      segments = segments;
      settlement = s;
      opened = opened;
      is_secret = chosen;
      is_run = run;
      printed = behind None (segment_text secret s.given (present s)) whole printed;
      listens = subst (TriesToWrite error_text errors opened) are wrote;
      settled = ended;
    }
    ends_settled (Err e) address errors opened errors' lines run whole printed ended are wrote = absurd printed

    pub ends_in_part : (settled : Result Settlement ServeFault) → IfOk settled (IsRunOf secret segments) →
        ((fault ≡ Some ConnFault.Write) × (writer' ≡ mid)) ⊎ ((fault ≡ None)
        × IsOkAnd settled (λ s. FailsToWrite contents mid writer' (segment_text secret s.given (present s)))) →
        EndsInPart draws contents error_text service drawers writer writer'
    ends_in_part settled run (inl cut) = record {
      secret = secret;
      segments = segments;
      is_secret = chosen;
      printed = inl (subst (λ v. FailsToWrite contents writer v (texts_of secret segments)) (sym cut.1)
          (subst (λ f. WritesText contents f writer mid (texts_of secret segments)) cut.0 writes));
    }
    ends_in_part (Ok s) run (inr rest) = record {
      secret = secret;
      segments = segments;
      is_secret = chosen;
      printed = inr (s, run, behind (Some ConnFault.Write) (segment_text secret s.given (present s)) rest.0 rest.1);
    }
    ends_in_part (Err e) run (inr rest) = absurd rest.1

    pub ends_unsettled : writer' ≡ mid → EndsUnsettled draws contents error_text service drawers writer writer'
    ends_unsettled same = inr (
      secret,
      segments,
      chosen,
      subst (λ v. WritesPart contents writer v (texts_of secret segments)) (sym same) (part_of fault writer mid (texts_of secret segments) writes),
    )

  -- behind the first lines
  pub last_behind : (address : SocketAddr) (secret : Name) (errors opened errors' : Counted E) (lines line : List ℕ) →
      IsChosen draws service.bootstrap drawers secret → lines ≡ opening_lines service address secret → TriesToWrite error_text errors opened lines →
      EndsBy error_text opened errors' line → IsLastLine draws contents error_text service drawers errors errors' line
  last_behind address secret errors opened errors' lines line chosen are wrote ended = record {
    opened = opened;
    before = inr (address, secret, chosen, subst (TriesToWrite error_text errors opened) are wrote);
    last = ended;
  }

  -- with nothing before it
  pub last_alone : (errors errors' : Counted E) (line line' : List ℕ) → TriesToWrite error_text errors errors' line → line ≡ line' →
      IsLastLine draws contents error_text service drawers errors errors' line'
  last_alone errors errors' line line' ended is = record {
    opened = errors;
    before = inl refl;
    last = inl (subst (TriesToWrite error_text errors errors') is ended);
  }
