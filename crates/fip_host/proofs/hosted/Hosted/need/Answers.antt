use Rattle.std.proofs.Common.{◌≡◌, ◌∙◌, ◌+◌, ◌*◌, ap, subst}
use Rattle.cell_code.specs.declared.code.Code.{Code}
use Rattle.code_verify.specs.Checked.{Checked}
use Rattle.cell_code.specs.Plain.{plain}
use Rattle.code_verify.specs.code_rules.StackNumbers.{HasStack}
use Rattle.fip_host.specs.Hosting.{Seen}
use Rattle.fip_host.specs.Needing.{capped, largest_frame, words_held}
use Rattle.fip_host.proofs.Needs.{capped_in}
use Rattle.fip_host.proofs.hosted.Hosted.need.Goals as goal

pub returns-clause-some : goal.returns-clause-some
returns-clause-some c =
    let stack = c.code_stack.result in
    let registers = c.in-Some.function.now.registers in
    let largest = c.largest_frame-largest.result in
    let same : largest ≡ largest_frame c.args.self.now.code.code.functions.items = c.largest_frame-largest.ensures.is
    ∙ ap largest_frame (c.as_slice.ensures.value ∙ ap (λ (k : Code). k.functions.items) c.code.ensures.same ∙ ap (λ (m : Seen). m.code.code.functions.items) c.self.view_is) in
    record {
      function = c.in-Some.function.now;
      is = c.in-Some.ensures.some;
      stack = stack;
      has = subst (λ (v : Checked). HasStack (plain v.code) c.args.number stack) (ap (λ (m : Seen). m.code) c.self.view_is) c.code_stack.ensures.exact;
      run = c.run_bytes.ensures.is ∙ ap (λ held. capped ((held + registers + largest) * 8 + 128)) c.words_held-held.ensures.is ∙ capped_in (words_held stack c.args.frames largest) registers largest
          ∙ ap (λ l. capped ((words_held stack c.args.frames l + registers + l) * 8 + 128)) same;
      store = c.store_bytes.ensures.is;
    }
