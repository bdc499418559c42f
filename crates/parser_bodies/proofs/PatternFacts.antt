-- Patterns and the patterns whose brackets are open, with one more, against those of the machine.
use Rattle.std.proofs.Common.{Vec, Global, ◌≡◌, ℕ, ℤ, List, [], ◌∷◌, ◌++◌, map, sym, ap, ◌∙◌}
use Rattle.std.specs.Prelude.{reverse}
use Rattle.fip_language.specs.declared.Place.{Place}
use Rattle.fip_language.specs.Surface as S
use Rattle.fip_base.specs.SurfaceView.{pattern, pattern_step, patterns_of}
use Rattle.fip_base.specs.declared.surface.Pattern.{Pattern}
use Rattle.fip_base.specs.declared.surface.Pattern.TheOpen as P
use Rattle.fip_base.specs.declared.surface.Pattern.TheVariants as V
use Rattle.fip_base.specs.declared.surface.Pattern.TheFolds.{fold-roll-Pattern}
use Rattle.fip_grammar.specs.Machine as M
use Rattle.parser_state.specs.declared.state.OpenPattern.{OpenPattern}
use Rattle.parser_state.specs.StateView as view
use Rattle.parser_state.proofs.StateFacts.{map_pushed, reverse_push, patterns_as}

pattern_constructor : (x : List ℕ) (p : Place) (ps : Vec Pattern Global) → pattern (V.Constructor x p ps) ≡ S.ConstructorPattern x p (patterns_of (map pattern ps.items))
pattern_constructor x p ps = ap pattern (sym (V.rolls-Constructor x p ps)) ∙ fold-roll-Pattern S.Pattern pattern_step (P.Constructor x p ps)

pub pattern_variable : (x : List ℕ) (n : List ℕ) (p : Place) → x ≡ n → pattern (V.Variable x p) ≡ S.VariablePattern n p
pattern_variable x n p e = ap pattern (sym (V.rolls-Variable x p)) ∙ fold-roll-Pattern S.Pattern pattern_step (P.Variable x p) ∙ ap (λ y. S.VariablePattern y p) e

pub pattern_wildcard : (p : Place) → pattern (V.Wildcard p) ≡ S.Wildcard p
pattern_wildcard p = ap pattern (sym (V.rolls-Wildcard p)) ∙ fold-roll-Pattern S.Pattern pattern_step (P.Wildcard p)

pub pattern_literal : (i j : ℤ) (p : Place) → i ≡ j → pattern (V.Literal i p) ≡ S.LiteralPattern j p
pattern_literal i j p e = ap pattern (sym (V.rolls-Literal i p)) ∙ fold-roll-Pattern S.Pattern pattern_step (P.Literal i p) ∙ ap (λ k. S.LiteralPattern k p) e

-- one open pattern more, the innermost
patterns_more : (v os : List OpenPattern) (n : OpenPattern) → v ≡ os ++ n ∷ [] → view.open_patterns v ≡ view.open_pattern n ∷ view.open_patterns os
patterns_more v os n e = ap reverse (map_pushed view.open_pattern v os n e) ∙ reverse_push (map view.open_pattern os) (view.open_pattern n)

pub new_pattern : (v os : List OpenPattern) (n : OpenPattern) → v ≡ os ++ n ∷ [] → n.done.items ≡ [] → view.open_patterns v ≡ record { name = n.name; place = n.place; done = [] } ∷ view.open_patterns os
new_pattern v os n e f = patterns_more v os n e ∙ ap (λ x. record { name = n.name; place = n.place; done = map pattern x } ∷ view.open_patterns os) f

-- one part more of the innermost
pub pattern_more : (v os : List OpenPattern) (n : OpenPattern) (ps : List Pattern) (q : Pattern) → v ≡ os ++ n ∷ [] → n.done.items ≡ ps ++ q ∷ [] → view.open_patterns v ≡ record { name = n.name; place = n.place; done = map pattern ps ++ pattern q ∷ [] } ∷ view.open_patterns os
pattern_more v os n ps q e f = patterns_more v os n e ∙ ap (λ x. record { name = n.name; place = n.place; done = x } ∷ view.open_patterns os) (map_pushed pattern n.done.items ps q f)

-- a pattern with its last part
pub pattern_ended : (x : List ℕ) (p : Place) (done : Vec Pattern Global) (ps : List Pattern) (q : Pattern) → done.items ≡ ps ++ q ∷ [] → pattern (V.Constructor x p done) ≡ S.ConstructorPattern x p (M.onto_patterns (map pattern ps ++ pattern q ∷ []) S.NoPatterns)
pattern_ended x p done ps q e =
    pattern_constructor x p done
    ∙ ap (λ l. S.ConstructorPattern x p (patterns_of l)) (map_pushed pattern done.items ps q e)
    ∙ ap (S.ConstructorPattern x p) (sym (patterns_as (map pattern ps ++ pattern q ∷ [])))
