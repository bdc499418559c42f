-- The first of the parts that are left is added with its parameter.
use Rattle.std.proofs.Common.{◌+◌, ◌∙◌, ℕ, false, List, drop, get_or, length, length-append, map, ap, refl, sym, subst, arith}
use Rattle.std.proofs.lemmas.List.{drop_more, drop_all, length-drop, length-map}
use Rattle.fip_base.specs.declared.plain.Param.{Param}
use Rattle.fip_language.specs.Store.{Parts, values_of, places, places_of_all}
use Rattle.fip_language.specs.Values.{cells_of_all}
use Rattle.value_text.specs.Standing.{StandAll}
use Rattle.fip_machine.specs.machine_cells.Counting.{freed_of}
use Rattle.fip_tasks.proofs.Held.{first_part, words_enough, none_left}
use Rattle.fip_tasks.proofs.task.add_arguments.Goals.{then-i-words+in_ok-add_cells, else-i-words}
use Rattle.fip_tasks.proofs.task.add_arguments.Goals as goal

pub loop-i-init : goal.loop-i-init
loop-i-init c = record { added = λ few xs more stand words short. (xs, stand, words, short, λ k low high small. refl) }

pub loop-i-preserved : goal.loop-i-preserved
loop-i-preserved c = record {
  added = λ few xs more stand words short.
      let h = c.loop-i.invariant.added few xs more stand words short in
      let tb = c.args.table.now in
      let cs = c.args.cells.now.cells in
      let i = c.loop-i.i in
      let params = c.args.params.now in
      let none : Param = record { ty = 0; lent = false } in
      elim c.if-i-words.branch [
        | then-i-words+in_ok-add_cells w ↦ (
            let f = first_part tb cs (get_or params i none).ty (map (λ (p : Param). p.ty) (drop (i + 1) params)) more (get_or c.args.words.now i 0) (drop (i + 1) c.args.words.now) h.0 (subst (λ (ps : List Param). StandAll tb cs (map (λ (p : Param). p.ty) ps) h.0) (drop_more params i none c.loop-i-test.true) h.1) (sym (drop_more c.args.words.now i 0 w.if-i-words.true) ∙ h.2) in
            let all = ap (λ (ps : Parts). length (places_of_all ps)) f.is ∙ length-append (places f.first) (places_of_all f.others) in
            let few_places = h.3 in (
              f.others,
              f.stand,
              f.words,
              omega (arith, all, few_places),
              λ k low high small.
                  let sum = h.4 k low high small in
                  let split = ap (λ (ps : Parts). cells_of_all k (values_of ps)) f.is in
                  let one = w.in_ok-add_cells.ensures.added few f.first f.stands f.word (omega (arith, all, few_places)) k low high (omega (arith, sum, split, small)) in
                  let held = ap (λ (ns : List ℕ). freed_of ns k) w.held-is in
                  omega (arith, sum, split, one, held),
            ))
        | else-i-words w ↦ (
            let enough = words_enough tb cs (map (λ (p : Param). p.ty) (drop i params)) (drop i c.args.words.now) more h.0 h.1 h.2 in
            let a = length-map (drop i params) (λ (p : Param). p.ty) in
            let b = length-drop i params in
            let d = length-drop i c.args.words.now in
            let past = w.if-i-words.false in
            let lt = c.loop-i-test.true in
            absurd (omega (arith, enough, a, b, d, past, lt)))
      ];
}

pub returns : goal.returns
returns c = record {
  added = λ few xs more stand words short k low high small.
      let h = c.loop-i.invariant.added few xs more stand words short in
      let over = c.loop-i-test.false in
      let none = none_left c.args.table.now c.args.cells.now.cells k h.0 (subst (λ (ps : List Param). StandAll c.args.table.now c.args.cells.now.cells (map (λ (p : Param). p.ty) ps) h.0) (drop_all c.loop-i.i c.args.params.now over) h.1) in
      let sum = h.4 k low high small in
      omega (arith, sum, none);
}
