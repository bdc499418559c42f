-- The rows of patterns.
use Rattle.std.proofs.Common.{ℤ, pos, neg_ℤ, List, [], ◌∷◌, inl, inr, refl, sym, ap, subst}
use Rattle.fip_language.specs.declared.Place.{Place}
use Rattle.fip_language.specs.Core.{Name}
use Rattle.fip_language.specs.Surface.{Pattern, Wildcard, VariablePattern, LiteralPattern, ConstructorPattern, Patterns, NoPatterns, MorePatterns, Declaration}
use Rattle.fip_grammar.specs.declared.Sign.TheVariants as S
use Rattle.fip_grammar.specs.Token.{Word, Lower, Upper, Number, Operate, Mark, Token, token, value_of}
use Rattle.fip_grammar.specs.Grammar.{IsLiteral, Pattern', PatternFields, FurtherPatterns}
use Rattle.fip_grammar.specs.Machine.{OpenMatch, Body, OpenPattern, PatternPosition, PatternMinus, PatternNamed, PatternDone, PatternWanted, onto_patterns, pattern_wanted, pattern_done, step_pattern}
use Rattle.fip_language.specs.declared.Operator.TheVariants as O
use Rattle.fip_grammar.proofs.Residual.{AfterPatterns, InPatternFrom, Fits}
use Rattle.fip_grammar.proofs.Lists.{patterns_snoc}
use Rattle.fip_grammar.proofs.Functions.{head}

take_pattern_literal : (o : List OpenPattern) (b : Body) (m : OpenMatch) (v : ℤ) (q : Place) (w : Word) (p : Place) (ts after : List Token) (ds : List Declaration) → IsLiteral (token w p ∷ ts) v q after → AfterPatterns o b m (LiteralPattern v q) after ds → Fits (pattern_wanted o b m w p) ts ds
take_pattern_literal o b m v q w p ts after ds (inl c) k = head (pattern_wanted o b m) ds c.1 (subst (λ x. AfterPatterns o b m (LiteralPattern x q) after ds) c.2 k)
take_pattern_literal o b m v q w p ts after ds (inr c) k = head (pattern_wanted o b m) ds c.2 (c.0, c.1, after, refl, subst (λ x. AfterPatterns o b m (LiteralPattern x q) after ds) c.3 k)

pub take_pattern : (o : List OpenPattern) (b : Body) (m : OpenMatch) (x : Pattern) (w : Word) (p : Place) (ts after : List Token) (ds : List Declaration) → Pattern' (token w p ∷ ts) x after → AfterPatterns o b m x after ds → Fits (pattern_wanted o b m w p) ts ds
take_pattern o b m (Wildcard q) w p ts after ds c k = head (pattern_wanted o b m) ds c k
take_pattern o b m (VariablePattern n q) w p ts after ds c k = head (pattern_wanted o b m) ds c k
take_pattern o b m (LiteralPattern v q) w p ts after ds c k = take_pattern_literal o b m v q w p ts after ds c k
take_pattern o b m (ConstructorPattern n q ps) w p ts after ds c k = head (pattern_wanted o b m) ds c.1 (ps, after, c.2, k)

pub give_pattern : (o : List OpenPattern) (b : Body) (m : OpenMatch) (w : Word) (p : Place) (ts : List Token) (ds : List Declaration) → Fits (pattern_wanted o b m w p) ts ds → InPatternFrom PatternWanted o b m (token w p ∷ ts) ds
give_pattern o b m (Mark S.Underscore) p ts ds c = (Wildcard p, ts, refl, c)
give_pattern o b m (Lower n) p ts ds c = (VariablePattern n p, ts, refl, c)
give_pattern o b m (Upper n) p ts ds c = (ConstructorPattern n p c.0, c.1, (ts, refl, c.2), c.3)
give_pattern o b m (Number digits) p ts ds c = (LiteralPattern (pos (value_of digits)) p, ts, inl (digits, refl, refl), c)
give_pattern o b m (Operate O.Subtract) p ts ds c = (LiteralPattern (neg_ℤ (pos (value_of c.0))) p, c.2, inr (c.0, c.1, ap (λ l. token (Operate O.Subtract) p ∷ l) c.3, refl), c.4)
give_pattern o b m _ p ts ds c = absurd c

take_parts : (x : Pattern) (o : OpenPattern) (os : List OpenPattern) (b : Body) (m : OpenMatch) (more : Patterns) (w : Word) (p : Place) (ts after : List Token) (ds : List Declaration) → FurtherPatterns (token w p ∷ ts) more after → AfterPatterns os b m (ConstructorPattern o.name o.place (onto_patterns o.done (MorePatterns x more))) after ds → Fits (pattern_done x (o ∷ os) b m w) ts ds
take_parts x o os b m NoPatterns w p ts after ds c k = head (λ w p. pattern_done x (o ∷ os) b m w) ds c.1 (subst (λ l. AfterPatterns os b m (ConstructorPattern o.name o.place l) after ds) (sym (patterns_snoc o.done x NoPatterns)) k)
take_parts x o os b m (MorePatterns y more) w p ts after ds c k = head (λ w p. pattern_done x (o ∷ os) b m w) ds c.2.1 (y, c.1, c.3, (more, after, c.4, subst (λ l. AfterPatterns os b m (ConstructorPattern o.name o.place l) after ds) (sym (patterns_snoc o.done x (MorePatterns y more))) k))

take_pattern_done : (x : Pattern) (o : List OpenPattern) (b : Body) (m : OpenMatch) (w : Word) (p : Place) (ts : List Token) (ds : List Declaration) → AfterPatterns o b m x (token w p ∷ ts) ds → Fits (pattern_done x o b m w) ts ds
take_pattern_done x [] b m w p ts ds c = head (λ w p. pattern_done x [] b m w) ds c.3.1 (c.1, c.2, c.4, c.5)
take_pattern_done x (o ∷ os) b m w p ts ds c = take_parts x o os b m c.0 w p ts c.1 ds c.2 c.3

give_pattern_done : (x : Pattern) (o : List OpenPattern) (b : Body) (m : OpenMatch) (w : Word) (p : Place) (ts : List Token) (ds : List Declaration) → Fits (pattern_done x o b m w) ts ds → AfterPatterns o b m x (token w p ∷ ts) ds
give_pattern_done x [] b m (Mark S.Arrow) p ts ds c = (ts, c.0, c.1, (p, refl), c.2, c.3)
give_pattern_done x [] b m _ p ts ds c = absurd c
give_pattern_done x (o ∷ os) b m (Mark S.Comma) p ts ds c =
    let k = c.3 in
    (MorePatterns c.0 k.0, k.1, (ts, c.1, (p, refl), c.2, k.2), subst (λ l. AfterPatterns os b m (ConstructorPattern o.name o.place l) k.1 ds) (patterns_snoc o.done x (MorePatterns c.0 k.0)) k.3)
give_pattern_done x (o ∷ os) b m (Mark S.RoundClose) p ts ds c = (NoPatterns, ts, (p, refl), subst (λ l. AfterPatterns os b m (ConstructorPattern o.name o.place l) ts ds) (patterns_snoc o.done x NoPatterns) c)
give_pattern_done x (o ∷ os) b m _ p ts ds c = absurd c

no_bracket : (x : Pattern) (o : List OpenPattern) (b : Body) (m : OpenMatch) (ts : List Token) (ds : List Declaration) → Fits (pattern_done x o b m (Mark S.RoundOpen)) ts ds → ⊥
no_bracket x [] b m ts ds c = c
no_bracket x (o ∷ os) b m ts ds c = c

take_named : (n : Name) (q : Place) (o : List OpenPattern) (b : Body) (m : OpenMatch) (ps : Patterns) (w : Word) (p : Place) (ts after : List Token) (ds : List Declaration) → PatternFields (token w p ∷ ts) ps after → AfterPatterns o b m (ConstructorPattern n q ps) after ds → Fits (step_pattern (PatternNamed n q) o b m w p) ts ds
take_named n q o b m (MorePatterns x more) w p ts after ds c k = head (step_pattern (PatternNamed n q) o b m) ds c.2.1 (x, c.1, c.3, (more, after, c.4, k))
take_named n q o b m NoPatterns (Mark S.RoundOpen) p ts after ds c k = absurd (no_bracket (ConstructorPattern n q NoPatterns) o b m ts ds (take_pattern_done (ConstructorPattern n q NoPatterns) o b m (Mark S.RoundOpen) p ts ds (subst (λ l. AfterPatterns o b m (ConstructorPattern n q NoPatterns) l ds) (sym c) k)))
take_named n q o b m NoPatterns w p ts after ds c k = take_pattern_done (ConstructorPattern n q NoPatterns) o b m w p ts ds (subst (λ l. AfterPatterns o b m (ConstructorPattern n q NoPatterns) l ds) (sym c) k)

give_named : (n : Name) (q : Place) (o : List OpenPattern) (b : Body) (m : OpenMatch) (w : Word) (p : Place) (ts : List Token) (ds : List Declaration) → Fits (step_pattern (PatternNamed n q) o b m w p) ts ds → InPatternFrom (PatternNamed n q) o b m (token w p ∷ ts) ds
give_named n q o b m (Mark S.RoundOpen) p ts ds c = let k = c.3 in (MorePatterns c.0 k.0, k.1, (ts, c.1, (p, refl), c.2, k.2), k.3)
give_named n q o b m w p ts ds c = (NoPatterns, token w p ∷ ts, refl, give_pattern_done (ConstructorPattern n q NoPatterns) o b m w p ts ds c)

give_minus : (q : Place) (o : List OpenPattern) (b : Body) (m : OpenMatch) (w : Word) (p : Place) (ts : List Token) (ds : List Declaration) → Fits (step_pattern (PatternMinus q) o b m w p) ts ds → InPatternFrom (PatternMinus q) o b m (token w p ∷ ts) ds
give_minus q o b m (Number digits) p ts ds c = (digits, p, ts, refl, c)
give_minus q o b m _ p ts ds c = absurd c

pub take_in_pattern : (x : PatternPosition) (o : List OpenPattern) (b : Body) (m : OpenMatch) (w : Word) (p : Place) (ts : List Token) (ds : List Declaration) → InPatternFrom x o b m (token w p ∷ ts) ds → Fits (step_pattern x o b m w p) ts ds
take_in_pattern PatternWanted o b m w p ts ds c = take_pattern o b m c.0 w p ts c.1 ds c.2 c.3
take_in_pattern (PatternMinus q) o b m w p ts ds c = head (step_pattern (PatternMinus q) o b m) ds c.3 c.4
take_in_pattern (PatternNamed n q) o b m w p ts ds c = take_named n q o b m c.0 w p ts c.1 ds c.2 c.3
take_in_pattern (PatternDone x) o b m w p ts ds c = take_pattern_done x o b m w p ts ds c

pub give_in_pattern : (x : PatternPosition) (o : List OpenPattern) (b : Body) (m : OpenMatch) (w : Word) (p : Place) (ts : List Token) (ds : List Declaration) → Fits (step_pattern x o b m w p) ts ds → InPatternFrom x o b m (token w p ∷ ts) ds
give_in_pattern PatternWanted o b m w p ts ds c = give_pattern o b m w p ts ds c
give_in_pattern (PatternMinus q) o b m w p ts ds c = give_minus q o b m w p ts ds c
give_in_pattern (PatternNamed n q) o b m w p ts ds c = give_named n q o b m w p ts ds c
give_in_pattern (PatternDone x) o b m w p ts ds c = give_pattern_done x o b m w p ts ds c
