use Rattle.std.proofs.Common.{◌<◌, List, length, refl, sym, subst}
use Rattle.cell_code.specs.declared.code.Instr.{Instr}
use Rattle.cell_code.specs.Runnable.{Body, IsSafe}
use Rattle.cell_code.proofs.Following.{safe_here}
use Rattle.std.proofs.lemmas.Option.{slice_get_within}
use Rattle.machine_step.proofs.rows.enter.Goals as goal

pub returns-clause-placed : goal.returns-clause-placed
returns-clause-placed c =
    let v = c.args.verified.now in
    let g = c.function_at-callee.result.now in
    let code = c.function_at-callee.ensures.runnable.functions c.args.function g c.function_at-callee.ensures.is in
    let instrs = c.as_slice-cursor.ensures.value in
    let body : List Instr → Body = λ is. record { functions = v.code.functions.items; stacks = v.stacks; function = c.args.function; registers = g.registers; instrs = is } in
    let first = safe_here (body g.instrs.items) 0 code.start in
    record {
      is = (g, c.function_at-callee.ensures.is, refl, sym instrs);
      safe = subst (λ is. IsSafe (body is) 0) (sym instrs) code.start;
      within = subst (λ (is : List Instr). 0 < length is) (sym instrs) (slice_get_within g.instrs.items 0 first.0 first.1);
      few = subst (λ (is : List Instr). length is < 4294967296) (sym instrs) code.few;
      small = code.small;
      largest = c.requires.most c.args.function g c.function_at-callee.ensures.is;
      own = code.own;
      frames = c.requires.frames;
      fits = c.requires.fits;
      room = c.requires.room g c.function_at-callee.ensures.is;
    }
