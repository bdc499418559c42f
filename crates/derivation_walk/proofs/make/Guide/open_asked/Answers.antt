use Rattle.std.proofs.Common.{◌≡◌, ◌∙◌, sym, ap, length, false, Err}
use Rattle.std.proofs.lemmas.Result.{err_from_is_err_and}
use Rattle.std.specs.Prelude.{◌==◌, ◌&&◌}
use Rattle.derivation_trees.specs.Building.{built}
use Rattle.derivation_walk.specs.Guides.{holding}
use Rattle.derivation_walk.specs.Walked.{same_from, credits}
use Rattle.derivation_walk.proofs.Costs.{below_short}
use Rattle.derivation_walk.proofs.Short.{too_long}
use Rattle.std.proofs.lemmas.Bool.{and_from, and_left, and_right, eq-eqb, ne_eqb}
use Rattle.derivation_walk.proofs.Growing.{open_one, open_two}
use Rattle.derivation_walk.proofs.make.Guide.open_asked.Goals.{else-len-via-then-len+else-are_same, else-len-via-else-len}
use Rattle.derivation_walk.proofs.make.Guide.open_asked.Goals as goal

pub returns-then-are_same-clause-awaits : goal.returns-then-are_same-clause-awaits
returns-then-are_same-clause-awaits c =
    let o = holding c.args.there in
    let n = length c.args.variables.items in
    let m = length c.args.there.variables.items in
    let k : n ≡ m = sym c.args.variables.ok.0 ∙ sym c.len.ensures ∙ c.if-len.true ∙ c.len-2.ensures ∙ c.args.there.variables.ok.0 in
    open_one (built c.args.walk.now.nodes) (built c.open.new.walk.nodes) c.args.rule o c.args.variables.items c.args.need.now c.in_ok-open.ensures.opened
    (and_from (n == m) (same_from o.credits c.args.need.now 1 16) (eq-eqb n m k) (sym c.are_same.ensures.same ∙ c.if-are_same.true))

pub returns-clause-awaits : goal.returns-clause-awaits
returns-clause-awaits c =
    let o = holding c.args.there in
    let n = length c.args.variables.items in
    let m = length c.args.there.variables.items in
    let h : (n == m) && same_from o.credits c.args.need.now 1 16 ≡ false = elim c.else-len.branch [
      | else-len-via-then-len+else-are_same w ↦ and_right (n == m) (same_from o.credits c.args.need.now 1 16) (sym w.are_same.ensures.same ∙ w.if-are_same.false)
      | else-len-via-else-len w ↦ and_left (n == m) (same_from o.credits c.args.need.now 1 16) (ne_eqb n m (λ e. w.if-len.false (c.len.ensures ∙ c.args.variables.ok.0 ∙ e ∙ sym c.args.there.variables.ok.0 ∙ sym c.len-2.ensures)))
    ] in
    open_two (built c.args.walk.now.nodes) (built c.open-2.new.walk.nodes) (built c.open-3.new.walk.nodes) c.args.rule o c.args.variables.items c.args.need.now c.in_ok-open-2.ensures.opened c.in_ok-open-3.ensures.opened h

pub returns-in_err-open-3-clause-short : goal.returns-in_err-open-3-clause-short
returns-in_err-open-3-clause-short c =
    let o = holding c.args.there in
    let xs = c.args.variables.items in
    let n = length xs in
    let m = length c.args.there.variables.items in
    let h : (n == m) && same_from o.credits c.args.need.now 1 16 ≡ false = elim c.else-len.branch [
      | else-len-via-then-len+else-are_same w ↦ and_right (n == m) (same_from o.credits c.args.need.now 1 16) (sym w.are_same.ensures.same ∙ w.if-are_same.false)
      | else-len-via-else-len w ↦ and_left (n == m) (same_from o.credits c.args.need.now 1 16) (ne_eqb n m (λ e. w.if-len.false (c.len.ensures ∙ c.args.variables.ok.0 ∙ e ∙ sym c.args.there.variables.ok.0 ∙ sym c.len-2.ensures)))
    ] in
    let p = err_from_is_err_and c.from_residual-in_err-open-3.result c.from_residual-in_err-open-3.ensures.1 in
    λ k ts.
    below_short c.args.rule o xs c.args.need.now ts c.args.walk.now.room c.open-2.new.walk.room (built c.args.walk.now.nodes) (built c.open-2.new.walk.nodes) (credits o.credits) h c.in_ok-open-2.ensures.opened c.in_ok-open-2.ensures.kept
    (c.in_err-open-3.ensures.short (ap Err (too_long c.from_residual-in_err-open-3.result p.0 c.in_err-open-3.field-0.0 p.1 p.2 k)))
