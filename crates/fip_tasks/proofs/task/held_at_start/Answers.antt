-- The arguments' cells are counted, and then the credits.
use Rattle.std.proofs.Common.{◌≡◌, ◌<◌, ◌∙◌, ℕ, List, Some, length, map, ap, refl, sym, subst, arith}
use Rattle.std.specs.Prelude.{slice_get}
use Rattle.std.proofs.lemmas.Option.{same_Some, slice_get_read, slice_get_within}
use Rattle.fip_base.specs.declared.plain.Param.{Param}
use Rattle.fip_language.specs.Store.{count}
use Rattle.fip_machine.specs.cell_code.declared.code.Code.{Code}
use Rattle.fip_machine.specs.cell_code.declared.code.Function.{Function}
use Rattle.value_text.specs.Standing.{StandAll}
use Rattle.fip_tasks.proofs.Held.{none_yet, few_cells, few_credits}
use Rattle.fip_tasks.proofs.task.held_at_start.Goals as goal

pub returns-in_ok-add_arguments : goal.returns-in_ok-add_arguments
returns-in_ok-add_arguments c = record {
  held = λ few g xs more is stand words short k low high.
      let cs = c.args.cells.now.cells in
      let code = c.code-code.result.now in
      let f = c.index-function.result.now in
      let known = c.code-code.ensures.same in
      let room = c.if-start-len.true in
      let count_is = c.len.ensures in
      let long = code.functions.ok.0 in
      let within : c.args.start.now.entry < length code.functions.items = omega (arith, room, count_is, long) in
      let at : slice_get code.functions.items c.args.start.now.entry ≡ Some f = slice_get_read code.functions.items (length code.functions.items) c.args.start.now.entry f refl within c.index-function.ensures in
      let same : f ≡ g = same_Some f g (sym at ∙ ap (λ (q : Code). slice_get q.functions.items c.args.start.now.entry) known ∙ is) in
      let params : c.as_slice.result.now ≡ g.params = c.as_slice.ensures.same ∙ ap (λ (q : Function). q.params) same in
      let first = subst (λ (ps : List Param). StandAll c.args.verified.now.code.types cs (map (λ (p : Param). p.ty) ps) xs) (sym params) stand in
      let stands = subst (λ (q : Code). StandAll q.types cs (map (λ (p : Param). p.ty) c.as_slice.result.now) xs) (sym known) first in
      let given = c.as_slice-then-start-len.ensures.same ∙ words in
      let none = none_yet k in
      let cells_few = few_cells c.args.verified.now.code.types cs (map (λ (p : Param). p.ty) g.params) k xs low stand in
      let added = c.in_ok-add_arguments.ensures.added few xs more stands given short k low high (omega (arith, none, cells_few, short)) in
      let credits = ap (λ (ns : List ℕ). count k ns) (c.as_slice-then-start-len-2.ensures.value ∙ ap (λ (q : Function). q.credits.items) same) in
      let credits_few = few_credits k g.credits.items in
      let a = g.credits.ok.0 in
      let b = g.credits.ok.1 in
      let d = g.credits.small in
      let more_added = c.add_credits.ensures.added k low high (omega (arith, none, cells_few, short, added, credits, credits_few, a, b, d)) in
      omega (arith, none, added, credits, more_added);
}

pub returns-else-start-len : goal.returns-else-start-len
returns-else-start-len c = record {
  held = λ few g xs more is stand words short k low high.
      let code = c.code-code.result.now in
      let past = c.if-start-len.false in
      let count_is = c.len.ensures in
      let long = code.functions.ok.0 in
      let within = slice_get_within code.functions.items c.args.start.now.entry g (ap (λ (q : Code). slice_get q.functions.items c.args.start.now.entry) c.code-code.ensures.same ∙ is) in
      absurd (omega (arith, past, count_is, long, within));
}
