-- The words reach as far as the entry's frame, and as one more frame of any function where not all are there.
use Rattle.std.proofs.Common.{◌≡◌, ◌-◌, ◌<◌, ◌≤◌, ◌∙◌, List, [], length, refl, sym, ap, subst, arith}
use Rattle.std.proofs.lemmas.Option.{slice_get_within, none-some, same_Some}
use Rattle.cell_code.specs.declared.code.Function.{Function}
use Rattle.cell_code.specs.Plain.{plain_function, plain}
use Rattle.machine_cells.specs.machine_semantics.States.{State}
use Rattle.machine_cells.specs.machine_semantics.Steps.{first_words, first_frame}
use Rattle.machine_cells.specs.machine_semantics.Runs.{lent_words, loaded_in}
use Rattle.machine_step.specs.machine_frames.View.{frame_at}
use Rattle.machine_step.proofs.Calls.{plain_at}
use Rattle.cell_code.specs.declared.code.Instr.{Instr}
use Rattle.cell_code.specs.Runnable.{Body, IsSafe}
use Rattle.cell_code.proofs.Following.{safe_here}
use Rattle.machine_step.specs.declared.rows.Stepped.TheVariants.{Went}
use Rattle.machine_step.proofs.Fitting.{fits_own}
use Rattle.fip_machine.proofs.stack.TaskStack.start_in.Goals as goal

pub taken-requires-clause-own : goal.taken-requires-clause-own
taken-requires-clause-own c =
    let v = c.args.verified.now in
    let b = c.bounds_of-bounds.result in
    let g = c.function_at-function.result.now in
    let code = c.function_at-function.ensures.runnable.functions c.args.entry g c.function_at-function.ensures.is in
    let most = c.bounds_of-bounds.ensures.most c.args.entry g c.function_at-function.ensures.is in
    let own = fits_own v b c.args.entry 0 0 g.registers c.bounds_of-bounds.ensures.fits (omega arith) code.own most in
    omega (arith, own)

pub invariant_of-result : goal.invariant_of-result
invariant_of-result c =
    let v = c.args.verified.now in
    let b = c.bounds_of-bounds.result in
    let g = c.function_at-function.result.now in
    let code = c.function_at-function.ensures.runnable.functions c.args.entry g c.function_at-function.ensures.is in
    let instrs = c.as_slice.ensures.value in
    let body : List Instr → Body = λ is. record { functions = v.code.functions.items; stacks = v.stacks; function = c.args.entry; registers = g.registers; instrs = is } in
    let first = safe_here (body g.instrs.items) 0 code.start in
    let most = c.bounds_of-bounds.ensures.most c.args.entry g c.function_at-function.ensures.is in
    record {
      placed = record {
        is = (g, c.function_at-function.ensures.is, refl, sym instrs);
        safe = subst (λ is. IsSafe (body is) 0) (sym instrs) code.start;
        within = subst (λ (is : List Instr). 0 < length is) (sym instrs) (slice_get_within g.instrs.items 0 first.0 first.1);
        few = subst (λ (is : List Instr). length is < 4294967296) (sym instrs) code.few;
        small = code.small;
        largest = most;
        own = code.own;
        frames = omega arith;
        fits = c.bounds_of-bounds.ensures.fits;
        room = (let r = c.in_ok-stack.ensures.room in omega (arith, r));
      };
      waiting = refl;
      most = c.bounds_of-bounds.ensures.most;
      small = c.bounds_of-bounds.ensures.few;
      beside = (let l = c.in_ok-resize.ensures.len in omega (arith, l));
      taken = c.in_ok-stack.ensures.taken;
      high = record { frames = omega arith; words = omega arith };
      over = none-some Went;
    }

pub returns-clause-loaded : goal.returns-clause-loaded
returns-clause-loaded c g is few store s loads =
    let v = c.args.verified.now in
    let h = c.function_at-function.result.now in
    let ws = c.args.words.items in
    let f = c.args.entry in
    let code = plain v.code in
    let same : h ≡ g = same_Some h g (sym c.function_at-function.ensures.is ∙ is) in
    let begun : State = record {
      store = store;
      running = first_frame f (plain_function g) ws;
      waiting = [];
      free = c.args.frames;
      lent = lent_words code.types g.params ws;
    } in
    let known : begun ≡ s = same_Some begun s (sym (ap (λ o. loaded_in code.types f o store ws c.args.frames) (plain_at v.code.functions.items f g is)) ∙ loads) in
    let fits : length ws ≤ h.registers = subst (λ (k : Function). length ws ≤ k.registers) (sym same) few in
    let words : frame_at 0 h.registers c.in_ok-stack.stack.items ≡ first_words g.registers ws = c.in_ok-stack.ensures.first fits ∙ ap (λ (k : Function). first_words k.registers ws) same in
    let free : c.bounds_of-bounds.result.frames - 0 ≡ c.args.frames = (let e = c.bounds_of-bounds.ensures.frames in omega (arith, e)) in
    subst (λ (s : State). ◌≡◌ {A = State} (record {
      store = store;
      running = record { function = f; at = 0; words = frame_at 0 h.registers c.in_ok-stack.stack.items };
      waiting = [];
      free = c.bounds_of-bounds.result.frames - 0;
      lent = s.lent;
    }) s) known (λ i. record {
      store = store;
      running = record { function = f; at = 0; words = words i };
      waiting = [];
      free = free i;
      lent = lent_words code.types g.params ws;
    })
