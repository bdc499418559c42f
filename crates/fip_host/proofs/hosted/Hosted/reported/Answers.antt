use Rattle.std.proofs.Common.{ap, subst, length}
use Rattle.code_verify.specs.Checked.{Checked}
use Rattle.cell_code.specs.Plain.{plain}
use Rattle.code_verify.specs.code_rules.StackNumbers.{HasStack}
use Rattle.fip_host.specs.Hosting.{Seen}
use Rattle.fip_host.proofs.hosted.Hosted.reported.Goals as goal

pub returns-clause-some : goal.returns-clause-some
returns-clause-some c =
    let stack = c.code_stack-stack.result in
    record {
      function = c.in-Some.function.now;
      is = c.in-Some.ensures.some;
      fip = c.is_fip.ensures.fip;
      parameters = ap length c.as_slice.ensures.same;
      credits = ap length c.as_slice-2.ensures.value;
      results = ap length c.as_slice-3.ensures.same;
      stack = stack;
      has = subst (λ (v : Checked). HasStack (plain v.code) c.args.number stack) (ap (λ (m : Seen). m.code) c.self.view_is) c.code_stack-stack.ensures.exact;
      frames = c.frames_in.ensures.is;
      words = c.words_in.ensures.is;
    }
