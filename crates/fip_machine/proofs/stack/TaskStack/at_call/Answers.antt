use Rattle.std.proofs.Common.{◌≡◌, ◌∙◌, List, Some, refl, sym, ap, subst, length}
use Rattle.std.specs.Prelude.{slice_get}
use Rattle.std.proofs.lemmas.Option.{slice_get_read}
use Rattle.cell_code.specs.declared.code.Instr.{Instr}
use Rattle.cell_code.specs.Plain.{plain}
use Rattle.machine_cells.specs.machine_semantics.Codes.{instr_at, instr_in}
use Rattle.machine_step.proofs.Calls.{plain_at}
use Rattle.fip_machine.specs.Tasks.{Stand}
use Rattle.fip_machine.specs.Along.{is_call_in, calls_next}
use Rattle.fip_machine.proofs.stack.TaskStack.at_call.Goals as goal

pub returns-clause-going : goal.returns-clause-going
returns-clause-going c e =
    let i = c.self.inside in
    let v = i.verified.now in
    let cursor = i.cursor in
    let instrs = cursor.instrs.now in
    let is = c.self.invariant.placed.is in
    let read = slice_get_read instrs (length instrs) cursor.at c.index-instrs-self.result refl c.self.invariant.placed.within c.index-instrs-self.is in
    let at : instr_at (plain v.code) cursor.function cursor.at ≡ Some c.index-instrs-self.result = ap (λ o. instr_in o cursor.at) (plain_at v.code.functions.items cursor.function is.0 is.1) ∙ ap (λ (xs : List Instr). slice_get xs cursor.at) is.3 ∙ read in
    subst (λ (w : Stand). c.is_call.result ≡ calls_next w.code w) c.self.view_is (c.is_call.ensures.is ∙ ap is_call_in (sym at))
