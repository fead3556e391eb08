-- The bytes of responses.
use Rattle.std.specs.Prelude.{◌≡◌, ◌≤◌, ℕ, true, false, List, [], ◌∷◌, ◌++◌, Some, None, codes, decimal, length}
use Rattle.std.specs.Fmt.{digits}
use Rattle.std.proofs.Common.{refl, sym, ap, ◌∙◌, append_assoc, append-nil, arith}
use Rattle.ns_types.specs.declared.refusal.Member.{Member}
use Rattle.ns_types.specs.declared.refusal.Refusal.{Refusal}
use Rattle.ns_types.specs.Wire.Http.{is_last}
use Rattle.ns_types.specs.Wire.Refused.{refusal_status}
use Rattle.ns_types.specs.Wire.Responses.{response_head, wire, wires}
use Rattle.ns_types.proofs.Lists.{not_both}
use Rattle.ns_audit.specs.Refusals.{is_of_steps}
use Rattle.ns_audit.proofs.RefusalLemmas.{steps_refuse_so}
use Rattle.ns_laws.specs.Wire as law

pub refusals_on_wire : law.RefusalsOnWire
unfolding response_head digits
refusals_on_wire = record {
  bad_json = refl;
  denied = refl;
  not_found = refl;
  bad_method = refl;
  conflict = refl;
  not_permitted = refl;
  in_use = refl;
  full = refl;
  not_served = refl;
  memory = refl;
  log_full = refl;
}

of_request : (refusal : Refusal) → is_of_steps refusal ≡ true → (400 ≤ refusal_status refusal) × (refusal_status refusal ≤ 499)
of_request Refusal.Denied e = (omega arith, omega arith)
of_request Refusal.NotFound e = (omega arith, omega arith)
of_request Refusal.PoolNotPermitted e = (omega arith, omega arith)
of_request (Refusal.BadField member) e = (omega arith, omega arith)
of_request Refusal.Conflict e = (omega arith, omega arith)
of_request Refusal.InUse e = (omega arith, omega arith)
of_request Refusal.Full e = (omega arith, omega arith)
of_request _ e = not_both e refl

pub refused_steps_on_wire : law.RefusedStepsOnWire
refused_steps_on_wire step s t refusal e = of_request refusal (steps_refuse_so step s t refusal e)

pub fields_on_wire : law.FieldsOnWire
unfolding response_head digits
fields_on_wire Member.Allowed = refl
fields_on_wire Member.Attributes = refl
fields_on_wire Member.ClientStatus = refl
fields_on_wire Member.Constraints = refl
fields_on_wire Member.Count = refl
fields_on_wire Member.Cpu = refl
fields_on_wire Member.Default = refl
fields_on_wire Member.Denied = refl
fields_on_wire Member.Description = refl
fields_on_wire Member.DiskMb = refl
fields_on_wire Member.Eligibility = refl
fields_on_wire Member.EnforceIndex = refl
fields_on_wire Member.EphemeralDisk = refl
fields_on_wire Member.Id = refl
fields_on_wire Member.Index = refl
fields_on_wire Member.Job = refl
fields_on_wire Member.JobModifyIndex = refl
fields_on_wire Member.LeftTarget = refl
fields_on_wire Member.Limits = refl
fields_on_wire Member.MemoryMb = refl
fields_on_wire Member.Name = refl
fields_on_wire Member.Namespace = refl
fields_on_wire Member.NamespaceParameter = refl
fields_on_wire Member.NodeClass = refl
fields_on_wire Member.NodePool = refl
fields_on_wire Member.NodePoolConfiguration = refl
fields_on_wire Member.Operand = refl
fields_on_wire Member.ParameterizedJob = refl
fields_on_wire Member.Periodic = refl
fields_on_wire Member.Policies = refl
fields_on_wire Member.Priority = refl
fields_on_wire Member.Purge = refl
fields_on_wire Member.Quota = refl
fields_on_wire Member.Region = refl
fields_on_wire Member.RegionLimit = refl
fields_on_wire Member.Resources = refl
fields_on_wire Member.RightTarget = refl
fields_on_wire Member.Rules = refl
fields_on_wire Member.SizeMb = refl
fields_on_wire Member.Status = refl
fields_on_wire Member.TaskGroups = refl
fields_on_wire Member.Tasks = refl
fields_on_wire Member.Type = refl

pub head_faults_on_wire : law.HeadFaultsOnWire
unfolding response_head digits
head_faults_on_wire = record { bad_head = refl; need_length = refl; too_large = refl }

-- what is written before the end of the head
abbrev with_index : ℕ → List ℕ → List ℕ
with_index index body = codes "HTTP/1.1 200 OK\r\nContent-Type: application/json\r\nX-Nomad-Index: " ++ decimal index
    ++ codes "\r\nContent-Length: " ++ decimal (length body)

abbrev without_index : List ℕ → List ℕ
without_index body = codes "HTTP/1.1 200 OK\r\nContent-Type: application/json\r\nContent-Length: " ++ decimal (length body)

open_head : (index : ℕ) (body : List ℕ) → wire (record { status = 200; index = Some index; body = body }) false
    ≡ with_index index body ++ [] ++ codes "\r\n\r\n" ++ body
unfolding response_head digits
open_head index body = refl

closed_head : (body : List ℕ) → wire (record { status = 200; index = None; body = body }) true
    ≡ without_index body ++ codes "\r\nConnection: close" ++ codes "\r\n\r\n" ++ body
unfolding response_head digits
closed_head body = refl

pub done_on_wire : law.DoneOnWire
done_on_wire index body = (
  open_head index body ∙ ap (λ head. head ++ codes "\r\n\r\n" ++ body) (append-nil (with_index index body)),
  closed_head body ∙ ap (λ head. head ++ body) (append_assoc (without_index body) (codes "\r\nConnection: close") (codes "\r\n\r\n")),
)

pub responses_in_order : law.ResponsesInOrder
responses_in_order [] more = refl
responses_in_order (x ∷ some) more =
    ap (λ rest. wire x.1 (is_last x.0) ++ rest) (responses_in_order some more)
    ∙ sym (append_assoc (wire x.1 (is_last x.0)) (wires some) (wires more))
