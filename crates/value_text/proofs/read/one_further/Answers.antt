use Rattle.std.proofs.Common.{◌≡◌, ℕ, suc, ◌+◌, ◌%◌, ◌^◌, List, drop, ap, ◌∙◌, arith}
use Rattle.value_text.specs.Reading.{pending}
use Rattle.value_text.proofs.Steps.{drop_next}
use Rattle.value_text.proofs.read.one_further.Goals as goal

pub returns : goal.returns
returns c = λ k ks small rest.
    let fs = (c.args.frame.constructor.now).fields in
    let d = drop_next fs c.args.frame.begun k ks rest in
    let w : (c.args.frame.begun + 1) % 2 ^ 32 ≡ suc c.args.frame.begun = let a = d.0 in omega (arith, a, small) in
    ap (λ (ks : List ℕ). record (pending c.args.frame) { rest = ks }) (ap (λ n. drop n fs) w ∙ d.1)
