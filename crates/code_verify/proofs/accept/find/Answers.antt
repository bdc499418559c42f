use Rattle.std.proofs.Common.{◌≡◌, ◌∙◌, true, false, Some, Result, Ok, Err, IfOk, length, sym, ap}
use Rattle.std.proofs.lemmas.Result.{IfOk-weaker}
use Rattle.cell_code.specs.Plain.{plain_function, plain, function_at}
use Rattle.code_rules.specs.Headers.{is_formed}
use Rattle.code_rows.specs.register_kinds.State.{of_types}
use Rattle.code_verify.specs.Finding.{IsFound, HasMachineIntsBelow}
use Rattle.code_verify.specs.Surveying.{IsFoundOf}
use Rattle.code_verify.proofs.Surveyed.{found_formed, found_unformed}
use Rattle.code_verify.proofs.Running.{is_at}
use Rattle.code_verify.proofs.accept.find.Goals as goal

both : {X E : Type 0} (r : Result X E) (P Q : X → Type 0) → IfOk r P → IfOk r Q → IfOk r (λ x. P x × Q x)
both (Ok x) P Q p q = (p, q)
both (Err e) P Q p q = tt

pub returns-then-is_formed : goal.returns-then-is_formed
returns-then-is_formed c =
    let code = c.args.code.now in
    let f = plain_function c.args.function.now in
    let is : function_at (plain code) c.args.number ≡ Some f = is_at code c.args.number c.args.function.now c.requires.there in
    let formed : is_formed (plain code) f ≡ true =
    ap (λ w. is_formed (of_types w) f) (sym c.requires.types) ∙ (sym c.is_formed.ensures ∙ c.if-is_formed.true) in
    let n = length c.args.function.now.instrs.items in
    IfOk-weaker c.walk.result (λ r. IsFound (plain code) c.args.number f n r × HasMachineIntsBelow f n)
    (λ r. IsFoundOf (plain code) c.args.number r) (λ r p. found_formed (plain code) c.args.number f r is formed p.0 p.1)
    (both c.walk.result (λ r. IsFound (plain code) c.args.number f n r) (λ r. HasMachineIntsBelow f n) c.walk.ensures.found c.walk.ensures.literals)

pub returns : goal.returns
returns c =
    let code = c.args.code.now in
    let f = plain_function c.args.function.now in
    let is : function_at (plain code) c.args.number ≡ Some f = is_at code c.args.number c.args.function.now c.requires.there in
    let unformed : is_formed (plain code) f ≡ false =
    ap (λ w. is_formed (of_types w) f) (sym c.requires.types) ∙ (sym c.is_formed.ensures ∙ c.if-is_formed.false) in
    let none = c.unformed.ensures in
    found_unformed (plain code) c.args.number f c.unformed.result is unformed none.least none.calls none.waiting none.drops
