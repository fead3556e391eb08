-- How a server ended: what its writer holds, and what was written to standard error.
use Rattle.std.specs.Prelude.{◌≡◌, ◌⊎◌, ℕ, List, [], ◌∷◌, ◌++◌, Option, length}
use Rattle.std.specs.declared.net.socket_addr.SocketAddr.{SocketAddr}
use Rattle.ns_types.specs.State.Names.{Name}
use Rattle.ns_log.specs.Segments.{Given, texts_of, whole_text}
use Rattle.ns_work_lock.specs.Settling.{Settlement, present}
use Rattle.ns_http.specs.Output.{WritesAll, WritesPart}
use Rattle.ns_http.specs.declared.counting.Counted.{Counted}
use Rattle.ns_faults.specs.Lines.{FailsToWrite, TriesToWrite, line_of, mismatch_line, status_of}
use Rattle.ns_faults.specs.declared.status.TheConstants.{SERVED, MISMATCH, READ_FAULT, WRITE_FAULT, OUT_OF_MEMORY}
use Rattle.ns_listener.specs.Opening.{IsSecret, opening_lines}
use Rattle.ns_listener.specs.Printing.{IsRunOf, settled_line}
use Rattle.ns_listener.specs.declared.fault.ServeFault.{ServeFault}
use Rattle.ns_listener.specs.declared.service.Service.{Service}

-- an exit status of a server
abbrev pub IsEnd : ℕ → Type 0
IsEnd status = (status ≡ SERVED) ⊎ (status ≡ MISMATCH) ⊎ (status ≡ READ_FAULT) ⊎ (status ≡ WRITE_FAULT) ⊎
    (status ≡ OUT_OF_MEMORY)

-- the exit status of a server whose log settled and whose segments were all written
abbrev pub IsGoodEnd : ℕ → Type 0
IsGoodEnd status = (status ≡ SERVED) ⊎ (status ≡ WRITE_FAULT) ⊎ (status ≡ OUT_OF_MEMORY)

-- the line that is printed where the log did not settle
abbrev pub fault_line : ServeFault → List ℕ
fault_line (ServeFault.Conn fault) = line_of fault
fault_line ServeFault.Mismatch = mismatch_line

abbrev pub fault_status : ServeFault → ℕ
fault_status (ServeFault.Conn fault) = status_of fault
fault_status ServeFault.Mismatch = MISMATCH

-- the line says how settling ended; where a segment could not be written, it is the last line but one
abbrev pub IsOutcome : List ℕ → Type 0
IsOutcome line = ((entries : ℕ) × (line ≡ settled_line entries)) ⊎ ((fault : ServeFault) × (line ≡ fault_line fault))

-- the secret is the one that was given, or else was drawn from the last of the drawers
abbrev pub IsChosen : {D : Type 0} → (D → List ℕ → D → Type 0) → Option Name → List D → Name → Type 0
IsChosen {D} draws given drawers secret =
    (others : List D) × (last : D) × (drawers ≡ others ++ last ∷ []) × IsSecret draws given last secret

-- this line was written last, and before it, if anything, the line that says how settling ended
abbrev pub EndsBy : {E : Type 0} → (E → Option (List ℕ)) → Counted E → Counted E → List ℕ → Type 0
EndsBy {E} error_text errors errors' line = TriesToWrite error_text errors errors' line
    ⊎ ((mid : Counted E) × (outcome : List ℕ) × IsOutcome outcome × TriesToWrite error_text errors mid outcome
    × TriesToWrite error_text mid errors' line)

-- this line was written last, and that one before it
abbrev pub EndsAfter : {E : Type 0} → (E → Option (List ℕ)) → Counted E → Counted E → List ℕ → List ℕ → Type 0
EndsAfter {E} error_text errors errors' first last =
    (mid : Counted E) × TriesToWrite error_text errors mid first × TriesToWrite error_text mid errors' last

-- this line was written last, and before it how many entries the log has, unless there was no memory for that
abbrev pub EndsAfterCount : {E : Type 0} → (E → Option (List ℕ)) → Counted E → Counted E → ℕ → List ℕ → Type 0
EndsAfterCount error_text errors errors' entries last = TriesToWrite error_text errors errors' last
    ⊎ EndsAfter error_text errors errors' (settled_line entries) last

module _ {D W E : Type 0} (draws : D → List ℕ → D → Type 0) (contents : W → Option (List ℕ))
    (error_text : E → Option (List ℕ)) (service : Service) (drawers : List D) where
  -- The log of a run was printed, its segments first. Standard error has the opening lines, and then how many entries the log
  -- has.
  pub record EndsSettled (writer writer' : Counted W) (errors errors' : Counted E) : Type 0 where
    pub address : SocketAddr
    pub secret : Name
    pub segments : List Given
    pub settlement : Settlement
    pub opened : Counted E
    pub is_secret : IsChosen draws service.bootstrap drawers secret
    pub is_run : IsRunOf secret segments settlement
    pub printed : WritesAll contents writer writer' (whole_text secret segments settlement.given (present settlement))
    pub listens : TriesToWrite error_text errors opened (opening_lines service address secret)
    pub settled : TriesToWrite error_text opened errors' (settled_line (length settlement.log))

  -- a first part was printed, of segments or of the log of a run, and then the writer failed
  pub record EndsInPart (writer writer' : Counted W) : Type 0 where
    pub secret : Name
    pub segments : List Given
    pub is_secret : IsChosen draws service.bootstrap drawers secret
    pub printed : FailsToWrite contents writer writer' (texts_of secret segments)
        ⊎ ((s : Settlement) × IsRunOf secret segments s
        × FailsToWrite contents writer writer' (whole_text secret segments s.given (present s)))

  -- nothing was printed, or segments, or a first part of them
  abbrev pub EndsUnsettled : Counted W → Counted W → Type 0
  EndsUnsettled writer writer' = (writer' ≡ writer) ⊎ ((secret : Name) × (segments : List Given)
      × IsChosen draws service.bootstrap drawers secret × WritesPart contents writer writer' (texts_of secret segments))

  -- this line was written last, and before it, if anything, the opening lines and how settling ended
  pub record IsLastLine (errors errors' : Counted E) (line : List ℕ) : Type 0 where
    pub opened : Counted E
    pub before : (opened ≡ errors) ⊎ ((address : SocketAddr) × (secret : Name) × IsChosen draws service.bootstrap drawers secret
        × TriesToWrite error_text errors opened (opening_lines service address secret))
    pub last : EndsBy error_text opened errors' line
