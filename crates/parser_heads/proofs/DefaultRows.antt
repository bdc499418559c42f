-- What a row of the machine does at a token that isn't the sign of its first case.
use Rattle.std.proofs.Common.{◌≡◌, ℕ, List, [], refl}
use Rattle.fip_language.specs.declared.Place.{Place}
use Rattle.fip_language.specs.Core as C
use Rattle.fip_grammar.specs.declared.Sign.TheVariants as S
use Rattle.fip_grammar.specs.declared.token.Word.{Word}
use Rattle.fip_grammar.specs.declared.token.Word.TheVariants as W
use Rattle.fip_grammar.specs.WordView.{word}
use Rattle.fip_grammar.specs.Machine as M

pub parameter_default : (h : M.FunctionHead) (w : Word) (p : Place) → (w ≡ W.Sign S.RoundClose → ⊥) → M.step_function (M.ParameterFirst h) (word w) p ≡ M.parameter_next h (word w) p
parameter_default h (W.Sign S.RoundClose) p k = absurd (k refl)
parameter_default h _ p k = refl

pub result_default : (o : M.ResultOwner) (w : Word) (p : Place) → (w ≡ W.Sign S.RoundOpen → ⊥) → M.step_function (M.ResultStart o) (word w) p ≡ M.type_wanted [] (M.ForResult o) (word w) p
result_default o (W.Sign S.RoundOpen) p k = absurd (k refl)
result_default o _ p k = refl

pub static_default : (h : M.FunctionHead) (n : List ℕ) (q : Place) (w : Word) (p : Place) → (w ≡ W.Sign S.Colon → ⊥) → M.step_function (M.StaticStart h n q) (word w) p ≡ M.static_end (M.with_static h (C.TypeParameter n q)) (word w)
static_default h n q (W.Sign S.Colon) p k = absurd (k refl)
static_default h n q _ p k = refl

pub constructor_default : (d : C.Data) (n : List ℕ) (q : Place) (w : Word) (p : Place) → (w ≡ W.Sign S.RoundOpen → ⊥) → M.step_data (M.ConstructorStart d n q) (word w) p ≡ M.constructor_end (M.with_constructor d (record { name = n; place = q; fields = [] })) (word w)
constructor_default d n q (W.Sign S.RoundOpen) p k = absurd (k refl)
constructor_default d n q _ p k = refl
