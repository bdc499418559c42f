-- Lists that grow at their end.
use Rattle.std.proofs.Common.{◌≡◌, List, [], ◌∷◌, ◌++◌, refl, sym, ap, subst, append-nil, append_assoc}
use Rattle.fip_language.specs.Core.{Written, Writtens, MoreWritten}
use Rattle.fip_language.specs.Surface.{Pattern, Patterns, MorePatterns, Expression, Expressions, MoreExpressions, Block, Let, Clauses, MoreClauses}
use Rattle.fip_grammar.specs.Machine.{Binding, Clause, onto_types, onto_patterns, onto_expressions, onto_block, onto_clauses}

-- a fact of a list and one more, seen as one of a list that grew
pub on : {A : Type 0} (P : List A → Type 0) (xs : List A) (x : A) (ys : List A) → P (xs ++ (x ∷ ys)) → P ((xs ++ x ∷ []) ++ ys)
on P xs x ys h = subst P (sym (append_assoc xs (x ∷ []) ys)) h

pub off : {A : Type 0} (P : List A → Type 0) (xs : List A) (x : A) (ys : List A) → P ((xs ++ x ∷ []) ++ ys) → P (xs ++ (x ∷ ys))
off P xs x ys h = subst P (append_assoc xs (x ∷ []) ys) h

pub none_on : {A : Type 0} (P : List A → Type 0) (xs : List A) → P (xs ++ []) → P xs
none_on P xs h = subst P (append-nil xs) h

pub none_off : {A : Type 0} (P : List A → Type 0) (xs : List A) → P xs → P (xs ++ [])
none_off P xs h = subst P (sym (append-nil xs)) h

pub types_snoc : (ts : List Written) (t : Written) (rest : Writtens) → onto_types (ts ++ t ∷ []) rest ≡ onto_types ts (MoreWritten t rest)
types_snoc [] t rest = refl
types_snoc (u ∷ us) t rest = ap (λ l. MoreWritten u l) (types_snoc us t rest)

pub patterns_snoc : (qs : List Pattern) (q : Pattern) (rest : Patterns) → onto_patterns (qs ++ q ∷ []) rest ≡ onto_patterns qs (MorePatterns q rest)
patterns_snoc [] q rest = refl
patterns_snoc (u ∷ us) q rest = ap (λ l. MorePatterns u l) (patterns_snoc us q rest)

pub expressions_snoc : (es : List Expression) (e : Expression) (rest : Expressions) → onto_expressions (es ++ e ∷ []) rest ≡ onto_expressions es (MoreExpressions e rest)
expressions_snoc [] e rest = refl
expressions_snoc (u ∷ us) e rest = ap (λ l. MoreExpressions u l) (expressions_snoc us e rest)

pub block_snoc : (ls : List Binding) (l : Binding) (rest : Block) → onto_block (ls ++ l ∷ []) rest ≡ onto_block ls (Let l.binds l.bound rest)
block_snoc [] l rest = refl
block_snoc (u ∷ us) l rest = ap (λ b. Let u.binds u.bound b) (block_snoc us l rest)

pub clauses_snoc : (cs : List Clause) (c : Clause) (rest : Clauses) → onto_clauses (cs ++ c ∷ []) rest ≡ onto_clauses cs (MoreClauses c.pattern c.body rest)
clauses_snoc [] c rest = refl
clauses_snoc (u ∷ us) c rest = ap (λ l. MoreClauses u.pattern u.body l) (clauses_snoc us c rest)
