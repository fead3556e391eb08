use Rattle.std.proofs.Common.{◌∙◌, string_bytes, subst}
use Rattle.ns_faults.specs.Lines.{FailsToWrite}
use Rattle.ns_pipe.specs.Outcome.{IsPrintout}
use Rattle.ns_pipe.proofs.replay.printing.print_replay.Goals as goal

pub returns-clause-write_fault : goal.returns-clause-write_fault
returns-clause-write_fault g c = λ _.
    let printout = c.in-Ok-printout_of.printout in
    let text = string_bytes printout.text in
    record {
      bytes = c.in-Ok.bytes.items;
      text = text;
      status = printout.status;
      reads = c.in-Ok.ensures.ok;
      is_printout = subst (λ b. IsPrintout b c.args.replay.now text printout.status) c.as_slice.ensures.value
          c.in-Ok-printout_of.ensures.printout;
      writes = subst (FailsToWrite g.W.Write.contents c.args.writer.now c.write_all.new.writer) (c.as_bytes.ensures.value ∙ c.as_str.ensures.value)
          (c.in-Err-write_all.ensures.err, c.in-Err-write_all.ensures.failed);
    }
