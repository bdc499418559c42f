-- The functions of a code that is laid out as a program requires list as few registers as the program's instances
-- report.
use Rattle.std.proofs.Common.{◌≡◌, ◌∙◌, ◌≤◌, ℕ, zero, suc, max, List, [], ◌∷◌, length, Some, slice_get, sym, ap, subst, arith}
use Rattle.std.proofs.lemmas.Option.{none-some, same_Some}
use Rattle.fip_trees.specs.Tree.{Instance, Program}
use Rattle.cell_code.specs.Plain.{PlainFunction, PlainCode, function_at}
use Rattle.code_rules.specs.Codes.{is_fip}
use Rattle.lowering_relation.specs.LoweredBodies.{function_of}
use Rattle.lowering_relation.specs.Values.{Setting}
use Rattle.lowering_soundness.proofs.Grouped.{function_once}
use Rattle.lowering_relation.specs.LaidFunctions.{AreLaid}
use Rattle.code_bytes.specs.Operands.{most_credits, most_operands, HaveFew}
use Rattle.code_bytes.proofs.Walk.{laid_few}

credits_most : (ds : List Instance) (g : ℕ) (d : Instance) → slice_get ds g ≡ Some d → length d.credits ≤ most_credits ds
credits_most [] g d e = absurd (none-some d e)
credits_most (x ∷ ds) zero d e = let z = ap (λ (y : Instance). length y.credits) (same_Some x d e) in omega (arith, z)
credits_most (x ∷ ds) (suc g) d e = let z = credits_most ds g d e in omega (arith, z)

pub laid_narrow : (c : PlainCode) (st : Setting) (p : Program) → AreLaid c st p → (i n : ℕ) (d : Instance) (f : PlainFunction) → slice_get p.instances i ≡ Some d → function_of p.instances i ≡ Some n → function_at c n ≡ Some f → HaveFew (most_operands p.instances d) f.instrs
laid_narrow c st p all i n d f at number there =
    let l = all.each n f there in
    let one : l.number ≡ i = function_once p.instances l.number i n (sym (all.setting.functions l.number) ∙ l.function) number in
    let same : l.instance ≡ d = same_Some l.instance d (sym l.there ∙ ap (slice_get p.instances) one ∙ at) in
    subst (λ (e : Instance). HaveFew (most_operands p.instances e) f.instrs) same
    (laid_few c st (is_fip f.kind) f (most_credits p.instances) l.instance (λ g e q. credits_most p.instances g e (subst (λ ds. slice_get ds g ≡ Some e) all.setting.instances q)) l.laid)
