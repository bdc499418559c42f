-- A literal that the machine takes, but that is too large.
use Rattle.std.proofs.Common.{◌≡◌, ◌<◌, Bool, List, ℕ, ap, ◌∙◌}
use Rattle.fip_language.specs.declared.Place.{Place}
use Rattle.fip_grammar.specs.declared.token.Word as declared
use Rattle.fip_grammar.specs.declared.token.Token.{Token}
use Rattle.fip_grammar.specs.Token.{Word, Number, value_of}
use Rattle.fip_grammar.specs.WordView.{word}
use Rattle.fip_grammar.specs.Limits.{limit}
use Rattle.fip_grammar.specs.Machine as M
use Rattle.parser_state.specs.declared.state.Next.TheVariants as N
use Rattle.parser_state.specs.StateView.{Answers}

pub too_large : (negated : Bool) (t : Token) (row : Word → Place → M.Next) (v : declared.Word) (ds : List ℕ) (m : M.State) → t.word ≡ v → word v ≡ Number ds → row (Number ds) t.place ≡ M.Stays m → limit negated < value_of ds → Answers negated (word t.word) N.TooLarge (row (word t.word) t.place)
too_large negated t row v ds m e f r lt =
    let w : word t.word ≡ Number ds = ap word e ∙ f in
    ((m, ap (λ x. row x t.place) w ∙ r), (ds, w, lt))
