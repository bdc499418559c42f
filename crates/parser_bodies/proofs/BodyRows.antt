-- What a row of bodies does at a token that isn't the sign of its first case.
use Rattle.std.proofs.Common.{◌≡◌, ℕ, List, [], refl}
use Rattle.fip_language.specs.declared.Place.{Place}
use Rattle.fip_language.specs.Core as C
use Rattle.fip_grammar.specs.declared.Sign.TheVariants as S
use Rattle.fip_grammar.specs.declared.token.Word.{Word}
use Rattle.fip_grammar.specs.declared.token.Word.TheVariants as W
use Rattle.fip_grammar.specs.WordView.{word}
use Rattle.fip_grammar.specs.Machine as M

pub block_default : (b : M.Body) (w : Word) (p : Place) → (w ≡ W.Sign S.Let → ⊥) → M.step_body M.AtBlock b (word w) p ≡ M.operand_start (M.last_in b) (word w) p
block_default b (W.Sign S.Let) p k = absurd (k refl)
block_default b _ p k = refl

pub argument_default : (n : List ℕ) (q : Place) (ts : List C.Written) (b : M.Body) (w : Word) (p : Place) → (w ≡ W.Sign S.RoundClose → ⊥) → M.step_body (M.ArgumentFirst n q ts) b (word w) p ≡ M.operand_start (M.enter b (M.ForArguments n q ts [])) (word w) p
argument_default n q ts b (W.Sign S.RoundClose) p k = absurd (k refl)
argument_default n q ts b _ p k = refl

pub parenthesis_default : (q : Place) (b : M.Body) (w : Word) (p : Place) → (w ≡ W.Sign S.Let → ⊥) → M.step_body (M.Parenthesis q) b (word w) p ≡ M.operand_start (M.enter b (M.ForParenthesis q)) (word w) p
parenthesis_default q b (W.Sign S.Let) p k = absurd (k refl)
parenthesis_default q b _ p k = refl

pub clause_default : (m : M.OpenMatch) (b : M.Body) (w : Word) (p : Place) → (w ≡ W.Sign S.CurlyClose → ⊥) → M.step_body (M.ClauseNext m) b (word w) p ≡ M.pattern_wanted [] b m (word w) p
clause_default m b (W.Sign S.CurlyClose) p k = absurd (k refl)
clause_default m b _ p k = refl
