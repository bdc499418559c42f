-- How a function's answer follows a row of the machine, where it is known what the token is.
use Rattle.std.proofs.Common.{◌≡◌, Bool, Result, IfOk, sym, subst}
use Rattle.std.specs.declared.alloc.AllocError.{AllocError}
use Rattle.fip_grammar.specs.Token.{Word}
use Rattle.fip_grammar.specs.Machine as M
use Rattle.parser_state.specs.declared.state.Next.{Next}
use Rattle.parser_state.specs.StateView.{Answers}

-- the machine's answer may be written otherwise
pub answers_as : (r : Result Next AllocError) (negated : Bool) (w : Word) (x y : M.Next) → y ≡ x → IfOk r (λ n. Answers negated w n x) → IfOk r (λ n. Answers negated w n y)
answers_as r negated w x y e h = subst (λ z. IfOk r (λ n. Answers negated w n z)) (sym e) h
