-- The rows of bodies. First what ends an expression, then operators, operands, and the other places in a body.
use Rattle.std.proofs.Common.{◌≡◌, ℤ, pos, neg_ℤ, Bool, true, false, List, [], ◌∷◌, Option, Some, None, ◌⊎◌, inl, inr, refl, sym, ap, subst, ◌∙◌, arith}
use Rattle.fip_language.specs.declared.Place.{Place}
use Rattle.fip_language.specs.declared.Operator.{Operator}
use Rattle.fip_language.specs.Core.{Name, Written, Writtens, NoWritten, MoreWritten, Result}
use Rattle.fip_language.specs.Surface.{Bind, Pattern, Expression, Variable, Literal, Call, Constructor, Bracket, Tuple, Match, If, Binary, Expressions, NoExpressions, MoreExpressions, Block, Last, Let, Clauses, NoClauses, MoreClauses, Declaration}
use Rattle.fip_grammar.specs.declared.Sign.{Sign}
use Rattle.fip_grammar.specs.declared.Sign.TheVariants as S
use Rattle.fip_grammar.specs.Token.{Word, Lower, Upper, Number, Operate, Mark, Token, token, value_of}
use Rattle.fip_grammar.specs.Grammar.{Sees, MaySee, IsLiteral, Annotation, Bind', FurtherBinds, Binder', tightness, match_sign, TypeArguments, Spelled, Arguments, Fields, Further, Block', Clauses', FurtherClauses}
use Rattle.fip_grammar.specs.Machine.{Binding, FunctionHead, Pending, Waiting, Opener, OpenMatch, Use, Level, Body, Binds, BodyPosition, Next, Tightness, MatchOpener, IfOpener, ForArguments, ForFields, ForParenthesis, ForTuple, ForClause, ForYes, ForNo, Bracketed, BindStart, BindNamed, LetEquals, LowerName, CallOpen, ArgumentFirst, UpperName, Minus, Parenthesis, AtOperator, ClauseNext, Else, ElseOpen, Alone, AtBlock, LetStart, AtOperand, ForBracket, PatternWanted, Comparison, Sum, Product, onto_types, onto_expressions, onto_block, onto_clauses, none_waits, last_in, let_equals, end_bind, with_opener, enter, operand_start, applied, tightness_of, compared, after_operator, all_applied, last_of, part, with_clause, end_level, end_last, end_bound, end_expression, after_operand, step_body}
use Rattle.fip_language.specs.declared.Operator.TheVariants as O
use Rattle.fip_grammar.proofs.Residual.{AtLeastTwo, Compared, LevelEnds, ExpressionEnds, AfterOperand, below, AfterBlock, FromOperand, EqualsFrom, AfterBind, CallFrom, InBodyFrom, InPatternFrom, Fits, Chain}
use Rattle.fip_grammar.proofs.Lists.{expressions_snoc, block_snoc, clauses_snoc}
use Rattle.fip_grammar.proofs.Functions.{head}
use Rattle.fip_grammar.proofs.Types.{take_end_bind, give_end_bind, take_bind_start, give_bind_start}
use Rattle.fip_grammar.proofs.Patterns.{take_pattern, give_pattern}
use Rattle.fip_grammar.proofs.Operators.{chain_none, peel, unpeel, units, units_back, products, products_back, open_simple, close_simple}
use Rattle.fip_grammar.proofs.Alive.{compared_none}
use Rattle.fip_grammar.proofs.Types.{give_let_equals as give_equals, take_let_equals as take_equals}

abbrev body_of : FunctionHead → Result → List Level → List Binding → Option (List Bind) → List Opener → Waiting → Body
body_of h r ls lets bs os w = record { head = h; gives = r; levels = ls; partial = record { lets = lets; binds = bs; openers = os; waiting = w } }

-- An expression of which nothing is read yet.
open_operand : (h : FunctionHead) (r : Result) (ls : List Level) (lets : List Binding) (bs : Option (List Bind)) (os : List Opener) (e : Expression) (ts after : List Token) (ds : List Declaration) → Spelled 0 ts e after → ExpressionEnds h r ls os lets bs e after ds → FromOperand (body_of h r ls lets bs os none_waits) ts ds
open_operand h r ls lets bs os e ts after ds c k =
    let o = open_simple e ts after c in
    (o.0, o.1, o.2, (e, after, o.3, k))

abbrev Closed : FunctionHead → Result → List Level → List Binding → Option (List Bind) → List Opener → List Token → List Declaration → Type 0
Closed h r ls lets bs os ts ds = (e : Expression) × (after : List Token) × Spelled 0 ts e after × ExpressionEnds h r ls os lets bs e after ds

close_operand : (h : FunctionHead) (r : Result) (ls : List Level) (lets : List Binding) (bs : Option (List Bind)) (os : List Opener) (ts : List Token) (ds : List Declaration) → FromOperand (body_of h r ls lets bs os none_waits) ts ds → Closed h r ls lets bs os ts ds
close_operand h r ls lets bs os ts ds c =
    let k = c.3 in
    (k.0, k.1, close_simple k.0 ts k.1 c.0 c.1 c.2 k.2, k.3)

-- what ends a block's last expression, and a let's bound one
ends_last : (h : FunctionHead) (r : Result) (ls : List Level) (lets : List Binding) (e : Expression) (ts : List Token) (ds : List Declaration) → AfterBlock h r ls ds (onto_block lets (Last e)) ts → ExpressionEnds h r ls [] lets None e ts ds
ends_last h r [] lets e ts ds c = c
ends_last h r (l ∷ ls) lets e ts ds c = c

ended_last : (h : FunctionHead) (r : Result) (ls : List Level) (lets : List Binding) (e : Expression) (ts : List Token) (ds : List Declaration) → ExpressionEnds h r ls [] lets None e ts ds → AfterBlock h r ls ds (onto_block lets (Last e)) ts
ended_last h r [] lets e ts ds c = c
ended_last h r (l ∷ ls) lets e ts ds c = c

abbrev Bound : FunctionHead → Result → List Level → List Binding → List Bind → Expression → List Token → List Declaration → Type 0
Bound h r ls lets bs e ts ds = (inner : List Token) × (b : Block) × (rest : List Token) × Sees S.Semicolon ts inner × Block' inner b rest × AfterBlock h r ls ds (onto_block lets (Let bs e b)) rest

ends_bound : (h : FunctionHead) (r : Result) (ls : List Level) (lets : List Binding) (bs : List Bind) (e : Expression) (ts : List Token) (ds : List Declaration) → Bound h r ls lets bs e ts ds → ExpressionEnds h r ls [] lets (Some bs) e ts ds
ends_bound h r [] lets bs e ts ds c = c
ends_bound h r (l ∷ ls) lets bs e ts ds c = c

ended_bound : (h : FunctionHead) (r : Result) (ls : List Level) (lets : List Binding) (bs : List Bind) (e : Expression) (ts : List Token) (ds : List Declaration) → ExpressionEnds h r ls [] lets (Some bs) e ts ds → Bound h r ls lets bs e ts ds
ended_bound h r [] lets bs e ts ds c = c
ended_bound h r (l ∷ ls) lets bs e ts ds c = c

-- A part of what is in a bracket.
enter_part : (b : Body) (u : Use) (e : Expression) (ts after : List Token) (ds : List Declaration) → Spelled 0 ts e after → LevelEnds u (Last e) (AfterOperand b ds) after → FromOperand (enter b u) ts ds
enter_part b u e ts after ds c k = open_operand b.head b.gives (record { before = b.partial; purpose = u } ∷ b.levels) [] None [] e ts after ds c k

abbrev Part : Body → Use → List Token → List Declaration → Type 0
Part b u ts ds = (e : Expression) × (after : List Token) × Spelled 0 ts e after × LevelEnds u (Last e) (AfterOperand b ds) after

leave_part : (b : Body) (u : Use) (ts : List Token) (ds : List Declaration) → FromOperand (enter b u) ts ds → Part b u ts ds
leave_part b u ts ds c = close_operand b.head b.gives (record { before = b.partial; purpose = u } ∷ b.levels) [] None [] ts ds c

-- What ends an expression begins with a sign.

-- the first token is a sign that leads on
abbrev Ended : (Sign → Next) → List Token → List Declaration → Type 0
Ended f ts ds = (s : Sign) × (p : Place) × (rest : List Token) × (ts ≡ token (Mark s) p ∷ rest) × Fits (f s) rest ds

end_arguments : (b : Body) (n : Name) (q : Place) (st : List Written) (done : List Expression) (blk : Block) (more : Expressions) (ts rest : List Token) (ds : List Declaration) → Further ts more rest → AfterOperand b ds (Call n q (onto_types st NoWritten) (onto_expressions done (MoreExpressions (last_of blk) more))) rest → Ended (end_level b (ForArguments n q st done) blk) ts ds
end_arguments b n q st done blk NoExpressions ts rest ds c k = (S.RoundClose, c.0, rest, c.1, subst (λ l. AfterOperand b ds (Call n q (onto_types st NoWritten) l) rest) (sym (expressions_snoc done (last_of blk) NoExpressions)) k)
end_arguments b n q st done blk (MoreExpressions x more) ts rest ds c k =
    (S.Comma, c.2.0, c.0, c.2.1, enter_part b (ForArguments n q st (part blk done)) x c.0 c.1 ds c.3 (more, rest, c.4, subst (λ l. AfterOperand b ds (Call n q (onto_types st NoWritten) l) rest) (sym (expressions_snoc done (last_of blk) (MoreExpressions x more))) k))

end_fields : (b : Body) (n : Name) (q : Place) (done : List Expression) (blk : Block) (more : Expressions) (ts rest : List Token) (ds : List Declaration) → Further ts more rest → AfterOperand b ds (Constructor n q (onto_expressions done (MoreExpressions (last_of blk) more))) rest → Ended (end_level b (ForFields n q done) blk) ts ds
end_fields b n q done blk NoExpressions ts rest ds c k = (S.RoundClose, c.0, rest, c.1, subst (λ l. AfterOperand b ds (Constructor n q l) rest) (sym (expressions_snoc done (last_of blk) NoExpressions)) k)
end_fields b n q done blk (MoreExpressions x more) ts rest ds c k =
    (S.Comma, c.2.0, c.0, c.2.1, enter_part b (ForFields n q (part blk done)) x c.0 c.1 ds c.3 (more, rest, c.4, subst (λ l. AfterOperand b ds (Constructor n q l) rest) (sym (expressions_snoc done (last_of blk) (MoreExpressions x more))) k))

end_tuple : (b : Body) (q : Place) (done : List Expression) (blk : Block) (more : Expressions) (ts rest : List Token) (ds : List Declaration) → Further ts more rest → AfterOperand b ds (Tuple q (onto_expressions done (MoreExpressions (last_of blk) more))) rest → Ended (end_level b (ForTuple q done) blk) ts ds
end_tuple b q done blk NoExpressions ts rest ds c k = (S.RoundClose, c.0, rest, c.1, subst (λ l. AfterOperand b ds (Tuple q l) rest) (sym (expressions_snoc done (last_of blk) NoExpressions)) k)
end_tuple b q done blk (MoreExpressions x more) ts rest ds c k =
    (S.Comma, c.2.0, c.0, c.2.1, enter_part b (ForTuple q (part blk done)) x c.0 c.1 ds c.3 (more, rest, c.4, subst (λ l. AfterOperand b ds (Tuple q l) rest) (sym (expressions_snoc done (last_of blk) (MoreExpressions x more))) k))

end_last_clause : (b : Body) (m : OpenMatch) (q : Pattern) (blk : Block) (ts after rest : List Token) (ds : List Declaration) → MaySee S.Semicolon ts after → Sees S.CurlyClose after rest → AfterOperand b ds (Match m.destructive m.place m.scrutinee (onto_clauses (with_clause m q blk).clauses NoClauses)) rest → Ended (end_level b (ForClause m q) blk) ts ds
end_last_clause b m q blk ts after rest ds (inl e) c k = (S.CurlyClose, c.0, rest, e ∙ c.1, k)
end_last_clause b m q blk ts after rest ds (inr e) c k = (S.Semicolon, e.0, after, e.1, inl (rest, c, k))

end_clause : (b : Body) (m : OpenMatch) (q : Pattern) (blk : Block) (cs : Clauses) (ts rest : List Token) (ds : List Declaration) → FurtherClauses ts cs rest → AfterOperand b ds (Match m.destructive m.place m.scrutinee (onto_clauses m.clauses (MoreClauses q blk cs))) rest → Ended (end_level b (ForClause m q) blk) ts ds
end_clause b m q blk NoClauses ts rest ds c k = end_last_clause b m q blk ts c.0 rest ds c.1 c.2 (subst (λ l. AfterOperand b ds (Match m.destructive m.place m.scrutinee l) rest) (sym (clauses_snoc m.clauses (record { pattern = q; body = blk }) NoClauses)) k)
end_clause b m q blk (MoreClauses x y cs) ts rest ds c k =
    (S.Semicolon, c.4.0, c.0, c.4.1, inr (x, c.1, c.5, (c.2, y, c.3, c.6, c.7, (cs, rest, c.8, subst (λ l. AfterOperand b ds (Match m.destructive m.place m.scrutinee l) rest) (sym (clauses_snoc m.clauses (record { pattern = q; body = blk }) (MoreClauses x y cs))) k))))

level_ends : (b : Body) (u : Use) (blk : Block) (ts : List Token) (ds : List Declaration) → LevelEnds u blk (AfterOperand b ds) ts → Ended (end_level b u blk) ts ds
level_ends b (ForArguments n q st done) blk ts ds c = end_arguments b n q st done blk c.0 ts c.1 ds c.2 c.3
level_ends b (ForFields n q done) blk ts ds c = end_fields b n q done blk c.0 ts c.1 ds c.2 c.3
level_ends b (ForParenthesis q) blk ts ds (inl c) = (S.RoundClose, c.1.0, c.0, c.1.1, c.2)
level_ends b (ForParenthesis q) blk ts ds (inr c) =
    let f = c.3 in
    (S.Comma, f.2.0, f.0, f.2.1, enter_part b (ForTuple q (part blk [])) c.0 f.0 f.1 ds f.3 (c.1, c.2, f.4, c.4))
level_ends b ForBracket blk ts ds c = (S.RoundClose, c.1.0, c.0, c.1.1, c.2)
level_ends b (ForTuple q done) blk ts ds c = end_tuple b q done blk c.0 ts c.1 ds c.2 c.3
level_ends b (ForClause m q) blk ts ds c = end_clause b m q blk c.0 ts c.1 ds c.2 c.3
level_ends b (ForYes q e) blk ts ds c = (S.CurlyClose, c.1.0, c.0, c.1.1, c.2)
level_ends b (ForNo q e one) blk ts ds c = (S.CurlyClose, c.1.0, c.0, c.1.1, c.2)

end_match_head : (h : FunctionHead) (r : Result) (ls : List Level) (lets : List Binding) (bs : Option (List Bind)) (os : List Opener) (w : Waiting) (d : Bool) (q : Place) (e : Expression) (cs : Clauses) (inner rest : List Token) (ds : List Declaration) → Clauses' inner cs rest → AfterOperand (body_of h r ls lets bs os w) ds (Match d q e cs) rest → InPatternFrom PatternWanted [] (body_of h r ls lets bs os w) (record { destructive = d; place = q; scrutinee = e; clauses = [] }) inner ds
end_match_head h r ls lets bs os w d q e NoClauses inner rest ds c k = absurd c
end_match_head h r ls lets bs os w d q e (MoreClauses x y cs) inner rest ds c k = (x, c.0, c.3, (c.1, y, c.2, c.4, c.5, (cs, rest, c.6, k)))

last_ends : (h : FunctionHead) (r : Result) (ls : List Level) (blk : Block) (ts : List Token) (ds : List Declaration) → AfterBlock h r ls ds blk ts → Ended (end_last h r ls blk) ts ds
last_ends h r [] blk ts ds c = (S.CurlyClose, c.1.0, c.0, c.1.1, c.2)
last_ends h r (l ∷ ls) blk ts ds c = level_ends (below h r l ls) l.purpose blk ts ds c

expression_ends : (h : FunctionHead) (r : Result) (ls : List Level) (lets : List Binding) (bs : Option (List Bind)) (os all : List Opener) (w : Waiting) (e : Expression) (ts : List Token) (ds : List Declaration) → ExpressionEnds h r ls os lets bs e ts ds → Ended (end_expression (body_of h r ls lets bs all w) os bs e) ts ds
expression_ends h r ls lets bs (MatchOpener v d q ∷ os) all w e ts ds c = (S.CurlyOpen, c.3.0, c.0, c.3.1, end_match_head h r ls lets bs os v d q e c.1 c.0 c.2 ds c.4 c.5)
expression_ends h r ls lets bs (IfOpener v q ∷ os) all w e ts ds c = (S.CurlyOpen, c.3.0, c.0, c.3.1, (c.1, c.2, c.4, c.5))
expression_ends h r ls lets (Some bs) [] all w e ts ds c =
    let k = ended_bound h r ls lets bs e ts ds c in
    (S.Semicolon, k.3.0, k.0, k.3.1, (k.1, k.2, k.4, subst (λ l. AfterBlock h r ls ds l k.2) (sym (block_snoc lets (record { binds = bs; bound = e }) k.1)) k.5))
expression_ends h r ls lets None [] all w e ts ds c = last_ends h r ls (onto_block lets (Last e)) ts ds (ended_last h r ls lets e ts ds c)

-- The converse.

give_clause_next : (b : Body) (m : OpenMatch) (q : Pattern) (blk : Block) (p : Place) (ts : List Token) (ds : List Declaration) → InBodyFrom (ClauseNext (with_clause m q blk)) b ts ds → LevelEnds (ForClause m q) blk (AfterOperand b ds) (token (Mark S.Semicolon) p ∷ ts)
give_clause_next b m q blk p ts ds (inl c) = (NoClauses, c.0, (ts, inr (p, refl), c.1), subst (λ l. AfterOperand b ds (Match m.destructive m.place m.scrutinee l) c.0) (clauses_snoc m.clauses (record { pattern = q; body = blk }) NoClauses) c.2)
give_clause_next b m q blk p ts ds (inr c) =
    let a = c.3 in
    let l = a.5 in
    (MoreClauses c.0 a.1 l.0, l.1, (ts, c.1, a.0, a.2, (p, refl), c.2, a.3, a.4, l.2), subst (λ l'. AfterOperand b ds (Match m.destructive m.place m.scrutinee l') l.1) (clauses_snoc m.clauses (record { pattern = q; body = blk }) (MoreClauses c.0 a.1 l.0)) l.3)

give_level : (b : Body) (u : Use) (blk : Block) (s : Sign) (p : Place) (ts : List Token) (ds : List Declaration) → Fits (end_level b u blk s) ts ds → LevelEnds u blk (AfterOperand b ds) (token (Mark s) p ∷ ts)
give_level b (ForArguments n q st done) blk S.Comma p ts ds c =
    let k = leave_part b (ForArguments n q st (part blk done)) ts ds c in
    let m = k.3 in
    (MoreExpressions k.0 m.0, m.1, (ts, k.1, (p, refl), k.2, m.2), subst (λ l. AfterOperand b ds (Call n q (onto_types st NoWritten) l) m.1) (expressions_snoc done (last_of blk) (MoreExpressions k.0 m.0)) m.3)
give_level b (ForArguments n q st done) blk S.RoundClose p ts ds c = (NoExpressions, ts, (p, refl), subst (λ l. AfterOperand b ds (Call n q (onto_types st NoWritten) l) ts) (expressions_snoc done (last_of blk) NoExpressions) c)
give_level b (ForArguments n q st done) blk _ p ts ds c = absurd c
give_level b (ForFields n q done) blk S.Comma p ts ds c =
    let k = leave_part b (ForFields n q (part blk done)) ts ds c in
    let m = k.3 in
    (MoreExpressions k.0 m.0, m.1, (ts, k.1, (p, refl), k.2, m.2), subst (λ l. AfterOperand b ds (Constructor n q l) m.1) (expressions_snoc done (last_of blk) (MoreExpressions k.0 m.0)) m.3)
give_level b (ForFields n q done) blk S.RoundClose p ts ds c = (NoExpressions, ts, (p, refl), subst (λ l. AfterOperand b ds (Constructor n q l) ts) (expressions_snoc done (last_of blk) NoExpressions) c)
give_level b (ForFields n q done) blk _ p ts ds c = absurd c
give_level b (ForParenthesis q) blk S.RoundClose p ts ds c = inl (ts, (p, refl), c)
give_level b (ForParenthesis q) blk S.Comma p ts ds c =
    let k = leave_part b (ForTuple q (part blk [])) ts ds c in
    let m = k.3 in
    inr (k.0, m.0, m.1, (ts, k.1, (p, refl), k.2, m.2), m.3)
give_level b (ForParenthesis q) blk _ p ts ds c = absurd c
give_level b ForBracket blk S.RoundClose p ts ds c = (ts, (p, refl), c)
give_level b ForBracket blk _ p ts ds c = absurd c
give_level b (ForTuple q done) blk S.Comma p ts ds c =
    let k = leave_part b (ForTuple q (part blk done)) ts ds c in
    let m = k.3 in
    (MoreExpressions k.0 m.0, m.1, (ts, k.1, (p, refl), k.2, m.2), subst (λ l. AfterOperand b ds (Tuple q l) m.1) (expressions_snoc done (last_of blk) (MoreExpressions k.0 m.0)) m.3)
give_level b (ForTuple q done) blk S.RoundClose p ts ds c = (NoExpressions, ts, (p, refl), subst (λ l. AfterOperand b ds (Tuple q l) ts) (expressions_snoc done (last_of blk) NoExpressions) c)
give_level b (ForTuple q done) blk _ p ts ds c = absurd c
give_level b (ForClause m q) blk S.Semicolon p ts ds c = give_clause_next b m q blk p ts ds c
give_level b (ForClause m q) blk S.CurlyClose p ts ds c = (NoClauses, ts, (token (Mark S.CurlyClose) p ∷ ts, inl refl, (p, refl)), subst (λ l. AfterOperand b ds (Match m.destructive m.place m.scrutinee l) ts) (clauses_snoc m.clauses (record { pattern = q; body = blk }) NoClauses) c)
give_level b (ForClause m q) blk _ p ts ds c = absurd c
give_level b (ForYes q e) blk S.CurlyClose p ts ds c = (ts, (p, refl), c)
give_level b (ForYes q e) blk _ p ts ds c = absurd c
give_level b (ForNo q e one) blk S.CurlyClose p ts ds c = (ts, (p, refl), c)
give_level b (ForNo q e one) blk _ p ts ds c = absurd c

give_last : (h : FunctionHead) (r : Result) (ls : List Level) (blk : Block) (s : Sign) (p : Place) (ts : List Token) (ds : List Declaration) → Fits (end_last h r ls blk s) ts ds → AfterBlock h r ls ds blk (token (Mark s) p ∷ ts)
give_last h r [] blk S.CurlyClose p ts ds c = (ts, (p, refl), c)
give_last h r [] blk _ p ts ds c = absurd c
give_last h r (l ∷ ls) blk s p ts ds c = give_level (below h r l ls) l.purpose blk s p ts ds c

give_bound : (h : FunctionHead) (r : Result) (ls : List Level) (lets : List Binding) (bs : List Bind) (all : List Opener) (w : Waiting) (e : Expression) (s : Sign) (p : Place) (ts : List Token) (ds : List Declaration) → Fits (end_bound (body_of h r ls lets (Some bs) all w) bs e s) ts ds → ExpressionEnds h r ls [] lets (Some bs) e (token (Mark s) p ∷ ts) ds
give_bound h r ls lets bs all w e S.Semicolon p ts ds c = ends_bound h r ls lets bs e (token (Mark S.Semicolon) p ∷ ts) ds (ts, c.0, c.1, (p, refl), c.2, subst (λ l. AfterBlock h r ls ds l c.1) (block_snoc lets (record { binds = bs; bound = e }) c.0) c.3)
give_bound h r ls lets bs all w e _ p ts ds c = absurd c

give_head : (h : FunctionHead) (r : Result) (ls : List Level) (lets : List Binding) (bs : Option (List Bind)) (o : Opener) (os all : List Opener) (w : Waiting) (e : Expression) (s : Sign) (p : Place) (ts : List Token) (ds : List Declaration) → Fits (end_expression (body_of h r ls lets bs all w) (o ∷ os) bs e s) ts ds → ExpressionEnds h r ls (o ∷ os) lets bs e (token (Mark s) p ∷ ts) ds
give_head h r ls lets bs (MatchOpener v d q) os all w e S.CurlyOpen p ts ds c =
    let a = c.3 in
    let l = a.5 in
    (ts, MoreClauses c.0 a.1 l.0, l.1, (p, refl), (c.1, a.0, a.2, c.2, a.3, a.4, l.2), l.3)
give_head h r ls lets bs (MatchOpener v d q) os all w e _ p ts ds c = absurd c
give_head h r ls lets bs (IfOpener v q) os all w e S.CurlyOpen p ts ds c = (ts, c.0, c.1, (p, refl), c.2, c.3)
give_head h r ls lets bs (IfOpener v q) os all w e _ p ts ds c = absurd c

give_end : (h : FunctionHead) (r : Result) (ls : List Level) (lets : List Binding) (bs : Option (List Bind)) (os all : List Opener) (w : Waiting) (e : Expression) (s : Sign) (p : Place) (ts : List Token) (ds : List Declaration) → Fits (end_expression (body_of h r ls lets bs all w) os bs e s) ts ds → ExpressionEnds h r ls os lets bs e (token (Mark s) p ∷ ts) ds
give_end h r ls lets bs (o ∷ os) all w e s p ts ds c = give_head h r ls lets bs o os all w e s p ts ds c
give_end h r ls lets (Some bs) [] all w e s p ts ds c = give_bound h r ls lets bs all w e s p ts ds c
give_end h r ls lets None [] all w e s p ts ds c = ends_last h r ls lets e (token (Mark s) p ∷ ts) ds (give_last h r ls (onto_block lets (Last e)) s p ts ds c)

-- After an operand.

product_of : (op : Operator) → tightness op ≡ 2 → tightness_of op ≡ Product
product_of O.Multiply e = refl
product_of O.Divide e = refl
product_of O.Remainder e = refl
product_of O.Add e = absurd (omega arith)
product_of O.Subtract e = absurd (omega arith)
product_of _ e = absurd (omega arith)

sum_of : (op : Operator) → tightness op ≡ 1 → tightness_of op ≡ Sum
sum_of O.Add e = refl
sum_of O.Subtract e = refl
sum_of O.Multiply e = absurd (omega arith)
sum_of O.Divide e = absurd (omega arith)
sum_of O.Remainder e = absurd (omega arith)
sum_of _ e = absurd (omega arith)

comparison_of : (op : Operator) → tightness op ≡ 0 → tightness_of op ≡ Comparison
comparison_of O.Add e = absurd (omega arith)
comparison_of O.Subtract e = absurd (omega arith)
comparison_of O.Multiply e = absurd (omega arith)
comparison_of O.Divide e = absurd (omega arith)
comparison_of O.Remainder e = absurd (omega arith)
comparison_of _ e = refl

abbrev Ends : Body → Expression → List Token → List Declaration → Type 0
Ends b e ts ds = ExpressionEnds b.head b.gives b.levels b.partial.openers b.partial.lets b.partial.binds e ts ds

take_end : (b : Body) (v : Expression) (w : Word) (p : Place) (ts : List Token) (ds : List Declaration) → Ends b (all_applied b.partial.waiting v) (token w p ∷ ts) ds → Fits (after_operand b v w p) ts ds
take_end b v w p ts ds c =
    let k = expression_ends b.head b.gives b.levels b.partial.lets b.partial.binds b.partial.openers b.partial.openers b.partial.waiting (all_applied b.partial.waiting v) (token w p ∷ ts) ds c in
    head (after_operand b v) ds k.3 k.4

abbrev product_so_far : Body → Expression → Expression
product_so_far b v = applied b.partial.waiting.product v

abbrev sum_so_far : Body → Expression → Expression
sum_so_far b v = applied b.partial.waiting.sum (product_so_far b v)

-- an operator at hand
at_operator : (t : Tightness) (b : Body) (v : Expression) (op : Operator) (p' : Place) (w : Word) (p : Place) (ts after : List Token) (ds : List Declaration) → tightness_of op ≡ t → token w p ∷ ts ≡ token (Operate op) p' ∷ after → Fits (after_operator t b v op p') after ds → Fits (after_operand b v w p) ts ds
at_operator t b v op p' w p ts after ds t' e c = head (after_operand b v) ds e (subst (λ x. Fits (after_operator x b v op p') after ds) (sym t') c)

take_comparison : (c0 : Option Pending) (b : Body) (v : Expression) (w : Word) (p : Place) (ts : List Token) (e : Expression) (rest : List Token) (ds : List Declaration) → b.partial.waiting.comparison ≡ c0 → Compared c0 (sum_so_far b v) (token w p ∷ ts) e rest → Ends b e rest ds → Fits (after_operand b v w p) ts ds
take_comparison (Some q) b v w p ts e rest ds same c k =
    let k1 : Ends b (applied (Some q) (sum_so_far b v)) (token w p ∷ ts) ds = subst (λ x. Ends b x (token w p ∷ ts) ds) c.0 (subst (λ l. Ends b e l ds) (sym c.1) k) in
    take_end b v w p ts ds (subst (λ o. Ends b (applied o (sum_so_far b v)) (token w p ∷ ts) ds) (sym same) k1)
take_comparison None b v w p ts e rest ds same (inl c) k =
    let k1 : Ends b (applied None (sum_so_far b v)) (token w p ∷ ts) ds = subst (λ x. Ends b x (token w p ∷ ts) ds) c.0 (subst (λ l. Ends b e l ds) (sym c.1) k) in
    take_end b v w p ts ds (subst (λ o. Ends b (applied o (sum_so_far b v)) (token w p ∷ ts) ds) (sym same) k1)
take_comparison None b v w p ts e rest ds same (inr c) k =
    let m = products c.2 c.3 rest c.6 in
    let u = units m.0 c.3 m.1 m.2 in
    let next : Fits (compared None b (sum_so_far b v) c.0 c.1) c.3 ds = (u.0, u.1, u.2, (e, rest, (m.0, m.1, c.2, rest, u.3, m.3, (c.7, refl)), k)) in
    at_operator Comparison b v c.0 c.1 w p ts c.3 ds (comparison_of c.0 c.4) c.5 (subst (λ o. Fits (compared o b (sum_so_far b v) c.0 c.1) c.3 ds) (sym same) next)

take_sum : (b : Body) (v : Expression) (w : Word) (p : Place) (ts : List Token) (sum : Expression) (a : List Token) (e : Expression) (rest : List Token) (ds : List Declaration) → ((sum ≡ sum_so_far b v) × (token w p ∷ ts ≡ a)) ⊎ ((op : Operator) × (q : Place) × (r : Expression) × (after : List Token) × (m : List Token) × (tightness op ≡ 1) × (token w p ∷ ts ≡ token (Operate op) q ∷ after) × Spelled 2 after r m × Chain 1 (Binary op q (sum_so_far b v) r) m sum a) → Compared b.partial.waiting.comparison sum a e rest → Ends b e rest ds → Fits (after_operand b v w p) ts ds
take_sum b v w p ts sum a e rest ds (inl c) k n = take_comparison b.partial.waiting.comparison b v w p ts e rest ds refl (subst (λ x. Compared b.partial.waiting.comparison x (token w p ∷ ts) e rest) c.0 (subst (λ l. Compared b.partial.waiting.comparison sum l e rest) (sym c.1) k)) n
take_sum b v w p ts sum a e rest ds (inr c) k n =
    let u = units c.2 c.3 c.4 c.7 in
    at_operator Sum b v c.0 c.1 w p ts c.3 ds (sum_of c.0 c.5) c.6 (u.0, u.1, u.2, (e, rest, (c.2, c.4, sum, a, u.3, c.8, k), n))

take_product : (b : Body) (v : Expression) (w : Word) (p : Place) (ts : List Token) (product : Expression) (a : List Token) (sum : Expression) (a2 : List Token) (e : Expression) (rest : List Token) (ds : List Declaration) → ((product ≡ product_so_far b v) × (token w p ∷ ts ≡ a)) ⊎ ((op : Operator) × (q : Place) × (r : Expression) × (after : List Token) × (m : List Token) × (tightness op ≡ 2) × (token w p ∷ ts ≡ token (Operate op) q ∷ after) × Spelled 3 after r m × Chain 2 (Binary op q (product_so_far b v) r) m product a) → Chain 1 (applied b.partial.waiting.sum product) a sum a2 → Compared b.partial.waiting.comparison sum a2 e rest → Ends b e rest ds → Fits (after_operand b v w p) ts ds
take_product b v w p ts product a sum a2 e rest ds (inl c) h k n =
    let h1 : Chain 1 (sum_so_far b v) (token w p ∷ ts) sum a2 = subst (λ x. Chain 1 (applied b.partial.waiting.sum x) (token w p ∷ ts) sum a2) c.0 (subst (λ l. Chain 1 (applied b.partial.waiting.sum product) l sum a2) (sym c.1) h) in
    take_sum b v w p ts sum a2 e rest ds (peel 1 (sum_so_far b v) (token w p ∷ ts) sum a2 h1) k n
take_product b v w p ts product a sum a2 e rest ds (inr c) h k n =
    at_operator Product b v c.0 c.1 w p ts c.3 ds (product_of c.0 c.5) c.6 (c.2, c.4, c.7, (e, rest, (product, a, sum, a2, c.8, h, k), n))

take_after_operand : (b : Body) (v : Expression) (w : Word) (p : Place) (ts : List Token) (ds : List Declaration) → AfterOperand b ds v (token w p ∷ ts) → Fits (after_operand b v w p) ts ds
take_after_operand b v w p ts ds c =
    let g = c.2 in
    take_product b v w p ts g.0 g.1 g.2 g.3 c.0 c.1 ds (peel 2 (product_so_far b v) (token w p ∷ ts) g.0 g.1 g.4) g.5 g.6 c.3

give_product : (b : Body) (v : Expression) (op : Operator) (p : Place) (ts : List Token) (ds : List Declaration) → tightness op ≡ 2 → Fits (after_operator Product b v op p) ts ds → AfterOperand b ds v (token (Operate op) p ∷ ts)
give_product b v op p ts ds t c =
    let k = c.3 in
    let g = k.2 in
    (k.0, k.1, (g.0, g.1, g.2, g.3, unpeel 2 (product_so_far b v) op p c.0 ts c.1 g.0 g.1 t c.2 g.4, g.5, g.6), k.3)

give_sum : (b : Body) (v : Expression) (op : Operator) (p : Place) (ts : List Token) (ds : List Declaration) → tightness op ≡ 1 → Fits (after_operator Sum b v op p) ts ds → AfterOperand b ds v (token (Operate op) p ∷ ts)
give_sum b v op p ts ds t c =
    let k = c.3 in
    let g = k.2 in
    (k.0, k.1, (product_so_far b v, token (Operate op) p ∷ ts, g.2, g.3, chain_none 2 (product_so_far b v) (token (Operate op) p ∷ ts), unpeel 1 (sum_so_far b v) op p g.0 ts g.1 g.2 g.3 t (units_back c.0 ts c.1 c.2 g.0 g.1 g.4) g.5, g.6), k.3)

give_comparison : (c0 : Option Pending) (b : Body) (v : Expression) (op : Operator) (p : Place) (ts : List Token) (ds : List Declaration) → tightness op ≡ 0 → b.partial.waiting.comparison ≡ c0 → Fits (compared c0 b (sum_so_far b v) op p) ts ds → AfterOperand b ds v (token (Operate op) p ∷ ts)
give_comparison (Some q) b v op p ts ds t same c = absurd c
give_comparison None b v op p ts ds t same c =
    let k = c.3 in
    let g = k.2 in
    let l = token (Operate op) p ∷ ts in
    let s : Spelled 1 ts g.2 g.3 = products_back g.0 ts g.1 (units_back c.0 ts c.1 c.2 g.0 g.1 g.4) g.2 g.3 g.5 in
    let x : Compared None (sum_so_far b v) l k.0 k.1 = inr (op, p, g.2, ts, t, refl, subst (λ z. Spelled 1 ts g.2 z) g.6.1 s, g.6.0) in
    (k.0, k.1, (product_so_far b v, l, sum_so_far b v, l, chain_none 2 (product_so_far b v) l, chain_none 1 (sum_so_far b v) l, subst (λ o. Compared o (sum_so_far b v) l k.0 k.1) (sym same) x), k.3)

give_operator : (b : Body) (v : Expression) (op : Operator) (p : Place) (ts : List Token) (ds : List Declaration) → Fits (after_operator (tightness_of op) b v op p) ts ds → AfterOperand b ds v (token (Operate op) p ∷ ts)
give_operator b v O.Multiply p ts ds c = give_product b v O.Multiply p ts ds refl c
give_operator b v O.Divide p ts ds c = give_product b v O.Divide p ts ds refl c
give_operator b v O.Remainder p ts ds c = give_product b v O.Remainder p ts ds refl c
give_operator b v O.Add p ts ds c = give_sum b v O.Add p ts ds refl c
give_operator b v O.Subtract p ts ds c = give_sum b v O.Subtract p ts ds refl c
give_operator b v op p ts ds c = give_comparison b.partial.waiting.comparison b v op p ts ds refl refl c

give_after_operand : (b : Body) (v : Expression) (w : Word) (p : Place) (ts : List Token) (ds : List Declaration) → Fits (after_operand b v w p) ts ds → AfterOperand b ds v (token w p ∷ ts)
give_after_operand b v (Operate op) p ts ds c = give_operator b v op p ts ds c
give_after_operand b v (Mark s) p ts ds c =
    let l = token (Mark s) p ∷ ts in
    (all_applied b.partial.waiting v, l, (product_so_far b v, l, sum_so_far b v, l, chain_none 2 (product_so_far b v) l, chain_none 1 (sum_so_far b v) l, compared_none b.partial.waiting.comparison (sum_so_far b v) l), give_end b.head b.gives b.levels b.partial.lets b.partial.binds b.partial.openers b.partial.openers b.partial.waiting (all_applied b.partial.waiting v) s p ts ds c)
give_after_operand b v _ p ts ds c = absurd c

-- An opening bracket ends no expression.
abbrev IsOpen : Sign → Type 0
IsOpen S.RoundOpen = Unit {0}
IsOpen S.SquareOpen = Unit {0}
IsOpen _ = ⊥

level_open : (b : Body) (u : Use) (blk : Block) (s : Sign) (ts : List Token) (ds : List Declaration) → IsOpen s → Fits (end_level b u blk s) ts ds → ⊥
level_open b (ForArguments n q st done) blk S.RoundOpen ts ds o c = c
level_open b (ForArguments n q st done) blk S.SquareOpen ts ds o c = c
level_open b (ForFields n q done) blk S.RoundOpen ts ds o c = c
level_open b (ForFields n q done) blk S.SquareOpen ts ds o c = c
level_open b (ForParenthesis q) blk S.RoundOpen ts ds o c = c
level_open b (ForParenthesis q) blk S.SquareOpen ts ds o c = c
level_open b ForBracket blk S.RoundOpen ts ds o c = c
level_open b ForBracket blk S.SquareOpen ts ds o c = c
level_open b (ForTuple q done) blk S.RoundOpen ts ds o c = c
level_open b (ForTuple q done) blk S.SquareOpen ts ds o c = c
level_open b (ForClause m q) blk S.RoundOpen ts ds o c = c
level_open b (ForClause m q) blk S.SquareOpen ts ds o c = c
level_open b (ForYes q e) blk S.RoundOpen ts ds o c = c
level_open b (ForYes q e) blk S.SquareOpen ts ds o c = c
level_open b (ForNo q e one) blk S.RoundOpen ts ds o c = c
level_open b (ForNo q e one) blk S.SquareOpen ts ds o c = c
level_open b u blk _ ts ds o c = absurd o

last_open : (h : FunctionHead) (r : Result) (ls : List Level) (blk : Block) (s : Sign) (ts : List Token) (ds : List Declaration) → IsOpen s → Fits (end_last h r ls blk s) ts ds → ⊥
last_open h r (l ∷ ls) blk s ts ds o c = level_open (below h r l ls) l.purpose blk s ts ds o c
last_open h r [] blk S.RoundOpen ts ds o c = c
last_open h r [] blk S.SquareOpen ts ds o c = c
last_open h r [] blk _ ts ds o c = absurd o

end_open : (b : Body) (os : List Opener) (bs : Option (List Bind)) (e : Expression) (s : Sign) (ts : List Token) (ds : List Declaration) → IsOpen s → Fits (end_expression b os bs e s) ts ds → ⊥
end_open b (MatchOpener v d q ∷ os) bs e S.RoundOpen ts ds o c = c
end_open b (MatchOpener v d q ∷ os) bs e S.SquareOpen ts ds o c = c
end_open b (IfOpener v q ∷ os) bs e S.RoundOpen ts ds o c = c
end_open b (IfOpener v q ∷ os) bs e S.SquareOpen ts ds o c = c
end_open b [] (Some bs) e S.RoundOpen ts ds o c = c
end_open b [] (Some bs) e S.SquareOpen ts ds o c = c
end_open b [] None e s ts ds o c = last_open b.head b.gives b.levels (onto_block b.partial.lets (Last e)) s ts ds o c
end_open b os bs e _ ts ds o c = absurd o

not_after_operand : (b : Body) (v : Expression) (s : Sign) (p : Place) (ts : List Token) (ds : List Declaration) → IsOpen s → AfterOperand b ds v (token (Mark s) p ∷ ts) → ⊥
not_after_operand b v s p ts ds o c = end_open b b.partial.openers b.partial.binds (all_applied b.partial.waiting v) s ts ds o (take_after_operand b v (Mark s) p ts ds c)

-- Operands.

take_literal : (b : Body) (v : ℤ) (q : Place) (w : Word) (p : Place) (ts a : List Token) (ds : List Declaration) → IsLiteral (token w p ∷ ts) v q a → AfterOperand b ds (Literal v q) a → Fits (operand_start b w p) ts ds
take_literal b v q w p ts a ds (inl c) k = head (operand_start b) ds c.1 (subst (λ x. AfterOperand b ds (Literal x q) a) c.2 k)
take_literal b v q w p ts a ds (inr c) k = head (operand_start b) ds c.2 (c.0, c.1, a, refl, subst (λ x. AfterOperand b ds (Literal x q) a) c.3 k)

take_match : (b : Body) (d : Bool) (q : Place) (e : Expression) (w : Word) (p : Place) (ts after : List Token) (ds : List Declaration) → token w p ∷ ts ≡ token (Mark (match_sign d)) q ∷ after → FromOperand (with_opener b (MatchOpener b.partial.waiting d q)) after ds → Fits (operand_start b w p) ts ds
take_match b true q e w p ts after ds h k = head (operand_start b) ds h k
take_match b false q e w p ts after ds h k = head (operand_start b) ds h k

take_unit : (b : Body) (v : Expression) (w : Word) (p : Place) (ts a : List Token) (ds : List Declaration) → Spelled 3 (token w p ∷ ts) v a → AfterOperand b ds v a → Fits (operand_start b w p) ts ds
take_unit b (Variable n q) w p ts a ds c k = head (operand_start b) ds c (inl k)
take_unit b (Literal v q) w p ts a ds c k = take_literal b v q w p ts a ds c k
take_unit b (Call n q st args) w p ts a ds c k = head (operand_start b) ds c.3 (inr (st, c.1, c.4, (c.2, c.5, (args, a, c.6, k))))
take_unit b (Constructor n q args) w p ts a ds c k = head (operand_start b) ds c.1 (args, a, c.2, k)
take_unit b (Bracket blk) w p ts a ds c k = head (operand_start b) ds c.2.1 (inl (blk, c.1, a, c.3, c.4, k))
take_unit b (Tuple q NoExpressions) w p ts a ds c k = absurd c
take_unit b (Tuple q (MoreExpressions e NoExpressions)) w p ts a ds c k = absurd c
take_unit b (Tuple q (MoreExpressions e (MoreExpressions x more))) w p ts a ds c k = head (operand_start b) ds c.2 (inr (e, c.1, x, more, a, c.3, c.4, k))
take_unit b (Match d q e cs) w p ts a ds c k =
    take_match b d q e w p ts c.0 ds c.3 (open_operand b.head b.gives b.levels b.partial.lets b.partial.binds (MatchOpener b.partial.waiting d q ∷ b.partial.openers) e c.0 c.1 ds c.4 (c.2, cs, a, c.5, c.6, k))
take_unit b (If q e one other) w p ts a ds c k =
    head (operand_start b) ds c.8 (open_operand b.head b.gives b.levels b.partial.lets b.partial.binds (IfOpener b.partial.waiting q ∷ b.partial.openers) e c.0 c.1 ds c.9 (c.2, one, c.3, c.10, c.11, (c.4, c.12, (c.5, c.13, (c.6, other, c.7, a, c.14, c.15, c.16, k)))))
take_unit b (Binary O.Multiply q x y) w p ts a ds c k = let l = c.2 in absurd (omega arith)
take_unit b (Binary O.Divide q x y) w p ts a ds c k = let l = c.2 in absurd (omega arith)
take_unit b (Binary O.Remainder q x y) w p ts a ds c k = let l = c.2 in absurd (omega arith)
take_unit b (Binary O.Add q x y) w p ts a ds c k = let l = c.2 in absurd (omega arith)
take_unit b (Binary O.Subtract q x y) w p ts a ds c k = let l = c.2 in absurd (omega arith)
take_unit b (Binary _ q x y) w p ts a ds c k = let l = c.2 in absurd (omega arith)

take_operand : (b : Body) (w : Word) (p : Place) (ts : List Token) (ds : List Declaration) → FromOperand b (token w p ∷ ts) ds → Fits (operand_start b w p) ts ds
take_operand b w p ts ds c = take_unit b c.0 w p ts c.1 ds c.2 c.3

give_lower : (b : Body) (n : Name) (p : Place) (ts : List Token) (ds : List Declaration) → InBodyFrom (LowerName n p) b ts ds → FromOperand b (token (Lower n) p ∷ ts) ds
give_lower b n p ts ds (inl k) = (Variable n p, ts, refl, k)
give_lower b n p ts ds (inr c) =
    let o = c.3 in
    let k = o.2 in
    (Call n p c.0 k.0, k.1, (ts, c.1, o.0, refl, c.2, o.1, k.2), k.3)

give_parenthesis : (b : Body) (p : Place) (ts : List Token) (ds : List Declaration) → InBodyFrom (Parenthesis p) b ts ds → FromOperand b (token (Mark S.RoundOpen) p ∷ ts) ds
give_parenthesis b p ts ds (inl c) = (Bracket c.0, c.2, (ts, c.1, (p, refl), c.3, c.4), c.5)
give_parenthesis b p ts ds (inr c) = (Tuple p (MoreExpressions c.0 (MoreExpressions c.2 c.3)), c.4, (ts, c.1, refl, c.5, c.6), c.7)

give_match : (b : Body) (d : Bool) (p : Place) (ts : List Token) (ds : List Declaration) → FromOperand (with_opener b (MatchOpener b.partial.waiting d p)) ts ds → FromOperand b (token (Mark (match_sign d)) p ∷ ts) ds
give_match b d p ts ds c =
    let k = close_operand b.head b.gives b.levels b.partial.lets b.partial.binds (MatchOpener b.partial.waiting d p ∷ b.partial.openers) ts ds c in
    let m = k.3 in
    (Match d p k.0 m.1, m.2, (ts, k.1, m.0, refl, k.2, m.3, m.4), m.5)

give_if : (b : Body) (p : Place) (ts : List Token) (ds : List Declaration) → FromOperand (with_opener b (IfOpener b.partial.waiting p)) ts ds → FromOperand b (token (Mark S.If) p ∷ ts) ds
give_if b p ts ds c =
    let k = close_operand b.head b.gives b.levels b.partial.lets b.partial.binds (IfOpener b.partial.waiting p ∷ b.partial.openers) ts ds c in
    let m = k.3 in
    let y = m.5 in
    let z = y.2 in
    let n = z.2 in
    (If p k.0 m.1 n.1, n.3, (ts, k.1, m.0, m.2, y.0, z.0, n.0, n.2, refl, k.2, m.3, m.4, y.1, z.1, n.4, n.5, n.6), n.7)

give_operand : (b : Body) (w : Word) (p : Place) (ts : List Token) (ds : List Declaration) → Fits (operand_start b w p) ts ds → FromOperand b (token w p ∷ ts) ds
give_operand b (Lower n) p ts ds c = give_lower b n p ts ds c
give_operand b (Upper n) p ts ds c = (Constructor n p c.0, c.1, (ts, refl, c.2), c.3)
give_operand b (Number digits) p ts ds c = (Literal (pos (value_of digits)) p, ts, inl (digits, refl, refl), c)
give_operand b (Operate O.Subtract) p ts ds c = (Literal (neg_ℤ (pos (value_of c.0))) p, c.2, inr (c.0, c.1, ap (λ l. token (Operate O.Subtract) p ∷ l) c.3, refl), c.4)
give_operand b (Mark S.RoundOpen) p ts ds c = give_parenthesis b p ts ds c
give_operand b (Mark S.Match) p ts ds c = give_match b false p ts ds c
give_operand b (Mark S.MatchBang) p ts ds c = give_match b true p ts ds c
give_operand b (Mark S.If) p ts ds c = give_if b p ts ds c
give_operand b _ p ts ds c = absurd c

-- The places in a body.

take_block : (b : Body) (blk : Block) (w : Word) (p : Place) (ts rest : List Token) (ds : List Declaration) → Block' (token w p ∷ ts) blk rest → AfterBlock b.head b.gives b.levels ds (onto_block b.partial.lets blk) rest → Fits (step_body AtBlock b w p) ts ds
take_block b (Let bs e x) w p ts rest ds c k =
    head (step_body AtBlock b) ds c.5.1 (bs, c.1, c.6, (c.2, c.7, open_operand b.head b.gives b.levels b.partial.lets (Some bs) [] e c.2 c.3 ds c.8 (ends_bound b.head b.gives b.levels b.partial.lets bs e c.3 ds (c.4, x, rest, c.9, c.10, k))))
take_block b (Last e) (Mark S.Let) p ts rest ds c k = absurd (take_operand (last_in b) (Mark S.Let) p ts ds (open_operand b.head b.gives b.levels b.partial.lets None [] e (token (Mark S.Let) p ∷ ts) rest ds c (ends_last b.head b.gives b.levels b.partial.lets e rest ds k)))
take_block b (Last e) w p ts rest ds c k = take_operand (last_in b) w p ts ds (open_operand b.head b.gives b.levels b.partial.lets None [] e (token w p ∷ ts) rest ds c (ends_last b.head b.gives b.levels b.partial.lets e rest ds k))

give_block : (b : Body) (w : Word) (p : Place) (ts : List Token) (ds : List Declaration) → Fits (step_body AtBlock b w p) ts ds → InBodyFrom AtBlock b (token w p ∷ ts) ds
give_block b (Mark S.Let) p ts ds c =
    let o = c.3 in
    let k = close_operand b.head b.gives b.levels b.partial.lets (Some c.0) [] o.0 ds o.2 in
    let m = ended_bound b.head b.gives b.levels b.partial.lets c.0 k.0 k.1 ds k.3 in
    (Let c.0 k.0 m.1, m.2, (ts, c.1, o.0, k.1, m.0, (p, refl), c.2, o.1, k.2, m.3, m.4), m.5)
give_block b w p ts ds c =
    let k = close_operand b.head b.gives b.levels b.partial.lets None [] (token w p ∷ ts) ds (give_operand (last_in b) w p ts ds c) in
    (Last k.0, k.1, k.2, ended_last b.head b.gives b.levels b.partial.lets k.0 k.1 ds k.3)

take_let : (b : Body) (bs : List Bind) (w : Word) (p : Place) (ts equals : List Token) (ds : List Declaration) → Binder' (token w p ∷ ts) bs equals → EqualsFrom b bs equals ds → Fits (step_body LetStart b w p) ts ds
take_let b [] w p ts equals ds c k = absurd c
take_let b (x ∷ y ∷ ys) w p ts equals ds c k = head (step_body LetStart b) ds c.2.1 (x, c.1, c.3, (y ∷ ys, equals, c.4, tt, k))
take_let b (x ∷ []) (Mark S.RoundOpen) p ts equals ds c k = absurd (take_bind_start b Alone x (Mark S.RoundOpen) p ts c.0 equals ds c.1 c.2 k)
take_let b (x ∷ []) w p ts equals ds c k = take_bind_start b Alone x w p ts c.0 equals ds c.1 c.2 k

give_binds : (b : Body) (x : Bind) (more : List Bind) (p : Place) (ts after rest : List Token) (ds : List Declaration) → Bind' ts x after → FurtherBinds after more rest → AtLeastTwo (x ∷ more) → EqualsFrom b (x ∷ more) rest ds → InBodyFrom LetStart b (token (Mark S.RoundOpen) p ∷ ts) ds
give_binds b x [] p ts after rest ds c f l k = absurd l
give_binds b x (y ∷ ys) p ts after rest ds c f l k = (x ∷ y ∷ ys, rest, (ts, after, (p, refl), c, f), k)

give_let : (b : Body) (w : Word) (p : Place) (ts : List Token) (ds : List Declaration) → Fits (step_body LetStart b w p) ts ds → InBodyFrom LetStart b (token w p ∷ ts) ds
give_let b (Mark S.RoundOpen) p ts ds c = let k = c.3 in give_binds b c.0 k.0 p ts c.1 k.1 ds c.2 k.2 k.3 k.4
give_let b w p ts ds c =
    let k = give_bind_start b Alone w p ts ds c in
    (k.0 ∷ [], k.1, k.2, k.3)

no_colon : (b : Body) (bs : Binds) (x : Bind) (ts : List Token) (ds : List Declaration) → Fits (end_bind b bs x (Mark S.Colon)) ts ds → ⊥
no_colon b Alone x ts ds c = c
no_colon b (Bracketed done) x ts ds c = c

abbrev bind : Name → Place → Option Written → Bind
bind n q a = record { name = n; place = q; annotation = a }

take_named : (b : Body) (bs : Binds) (n : Name) (q : Place) (a : Option Written) (w : Word) (p : Place) (ts after : List Token) (ds : List Declaration) → Annotation (token w p ∷ ts) a after → AfterBind b bs (bind n q a) after ds → Fits (step_body (BindNamed bs n q) b w p) ts ds
take_named b bs n q (Some t) w p ts after ds c k = head (step_body (BindNamed bs n q) b) ds c.1.1 (t, after, c.2, k)
take_named b bs n q None (Mark S.Colon) p ts after ds c k = absurd (no_colon b bs (bind n q None) ts ds (take_end_bind b bs (bind n q None) (Mark S.Colon) p ts ds (subst (λ l. AfterBind b bs (bind n q None) l ds) (sym c) k)))
take_named b bs n q None w p ts after ds c k = take_end_bind b bs (bind n q None) w p ts ds (subst (λ l. AfterBind b bs (bind n q None) l ds) (sym c) k)

give_named : (b : Body) (bs : Binds) (n : Name) (q : Place) (w : Word) (p : Place) (ts : List Token) (ds : List Declaration) → Fits (step_body (BindNamed bs n q) b w p) ts ds → InBodyFrom (BindNamed bs n q) b (token w p ∷ ts) ds
give_named b bs n q (Mark S.Colon) p ts ds c = (Some c.0, c.1, (ts, (p, refl), c.2), c.3)
give_named b bs n q w p ts ds c = (None, token w p ∷ ts, refl, give_end_bind b bs (bind n q None) w p ts ds c)

take_call : (b : Body) (n : Name) (q : Place) (st : Writtens) (w : Word) (p : Place) (ts inner : List Token) (ds : List Declaration) → TypeArguments (token w p ∷ ts) st inner → CallFrom b n q st inner ds → Fits (step_body (LowerName n q) b w p) ts ds
take_call b n q NoWritten w p ts inner ds c k = head (step_body (LowerName n q) b) ds (c ∙ k.1.1) k.2
take_call b n q (MoreWritten t more) w p ts inner ds c k = head (step_body (LowerName n q) b) ds c.2.1 (t, c.1, c.3, (more, inner, c.4, k))

take_lower : (b : Body) (n : Name) (q : Place) (w : Word) (p : Place) (ts : List Token) (ds : List Declaration) → InBodyFrom (LowerName n q) b (token w p ∷ ts) ds → Fits (step_body (LowerName n q) b w p) ts ds
take_lower b n q w p ts ds (inr c) = take_call b n q c.0 w p ts c.1 ds c.2 c.3
take_lower b n q (Mark S.SquareOpen) p ts ds (inl c) = absurd (not_after_operand b (Variable n q) S.SquareOpen p ts ds tt c)
take_lower b n q (Mark S.RoundOpen) p ts ds (inl c) = absurd (not_after_operand b (Variable n q) S.RoundOpen p ts ds tt c)
take_lower b n q w p ts ds (inl c) = take_after_operand b (Variable n q) w p ts ds c

give_lower_name : (b : Body) (n : Name) (q : Place) (w : Word) (p : Place) (ts : List Token) (ds : List Declaration) → Fits (step_body (LowerName n q) b w p) ts ds → InBodyFrom (LowerName n q) b (token w p ∷ ts) ds
give_lower_name b n q (Mark S.SquareOpen) p ts ds c = let k = c.3 in inr (MoreWritten c.0 k.0, k.1, (ts, c.1, (p, refl), c.2, k.2), k.3)
give_lower_name b n q (Mark S.RoundOpen) p ts ds c = inr (NoWritten, token (Mark S.RoundOpen) p ∷ ts, refl, (ts, (p, refl), c))
give_lower_name b n q w p ts ds c = inl (give_after_operand b (Variable n q) w p ts ds c)

give_call_open : (b : Body) (n : Name) (q : Place) (st : List Written) (w : Word) (p : Place) (ts : List Token) (ds : List Declaration) → Fits (step_body (CallOpen n q st) b w p) ts ds → InBodyFrom (CallOpen n q st) b (token w p ∷ ts) ds
give_call_open b n q st (Mark S.RoundOpen) p ts ds c = (ts, (p, refl), c)
give_call_open b n q st _ p ts ds c = absurd c

take_arguments : (b : Body) (n : Name) (q : Place) (st : List Written) (args : Expressions) (w : Word) (p : Place) (ts rest : List Token) (ds : List Declaration) → Arguments (token w p ∷ ts) args rest → AfterOperand b ds (Call n q (onto_types st NoWritten) args) rest → Fits (step_body (ArgumentFirst n q st) b w p) ts ds
take_arguments b n q st NoExpressions w p ts rest ds c k = head (step_body (ArgumentFirst n q st) b) ds c.1 k
take_arguments b n q st (MoreExpressions e more) (Mark S.RoundClose) p ts rest ds c k = absurd (take_operand (enter b (ForArguments n q st [])) (Mark S.RoundClose) p ts ds (enter_part b (ForArguments n q st []) e (token (Mark S.RoundClose) p ∷ ts) c.0 ds c.1 (more, rest, c.2, k)))
take_arguments b n q st (MoreExpressions e more) w p ts rest ds c k = take_operand (enter b (ForArguments n q st [])) w p ts ds (enter_part b (ForArguments n q st []) e (token w p ∷ ts) c.0 ds c.1 (more, rest, c.2, k))

give_arguments : (b : Body) (n : Name) (q : Place) (st : List Written) (w : Word) (p : Place) (ts : List Token) (ds : List Declaration) → Fits (step_body (ArgumentFirst n q st) b w p) ts ds → InBodyFrom (ArgumentFirst n q st) b (token w p ∷ ts) ds
give_arguments b n q st (Mark S.RoundClose) p ts ds c = (NoExpressions, ts, (p, refl), c)
give_arguments b n q st w p ts ds c =
    let k = leave_part b (ForArguments n q st []) (token w p ∷ ts) ds (give_operand (enter b (ForArguments n q st [])) w p ts ds c) in
    let m = k.3 in
    (MoreExpressions k.0 m.0, m.1, (k.1, k.2, m.2), m.3)

take_upper : (b : Body) (n : Name) (q : Place) (args : Expressions) (w : Word) (p : Place) (ts rest : List Token) (ds : List Declaration) → Fields (token w p ∷ ts) args rest → AfterOperand b ds (Constructor n q args) rest → Fits (step_body (UpperName n q) b w p) ts ds
take_upper b n q (MoreExpressions e more) w p ts rest ds c k = head (step_body (UpperName n q) b) ds c.2.1 (enter_part b (ForFields n q []) e c.0 c.1 ds c.3 (more, rest, c.4, k))
take_upper b n q NoExpressions (Mark S.RoundOpen) p ts rest ds c k = absurd (not_after_operand b (Constructor n q NoExpressions) S.RoundOpen p ts ds tt (subst (λ l. AfterOperand b ds (Constructor n q NoExpressions) l) (sym c) k))
take_upper b n q NoExpressions w p ts rest ds c k = take_after_operand b (Constructor n q NoExpressions) w p ts ds (subst (λ l. AfterOperand b ds (Constructor n q NoExpressions) l) (sym c) k)

give_upper : (b : Body) (n : Name) (q : Place) (w : Word) (p : Place) (ts : List Token) (ds : List Declaration) → Fits (step_body (UpperName n q) b w p) ts ds → InBodyFrom (UpperName n q) b (token w p ∷ ts) ds
give_upper b n q (Mark S.RoundOpen) p ts ds c =
    let k = leave_part b (ForFields n q []) ts ds c in
    let m = k.3 in
    (MoreExpressions k.0 m.0, m.1, (ts, k.1, (p, refl), k.2, m.2), m.3)
give_upper b n q w p ts ds c = (NoExpressions, token w p ∷ ts, refl, give_after_operand b (Constructor n q NoExpressions) w p ts ds c)

give_minus : (b : Body) (q : Place) (w : Word) (p : Place) (ts : List Token) (ds : List Declaration) → Fits (step_body (Minus q) b w p) ts ds → InBodyFrom (Minus q) b (token w p ∷ ts) ds
give_minus b q (Number digits) p ts ds c = (digits, p, ts, refl, c)
give_minus b q _ p ts ds c = absurd c

take_first_part : (b : Body) (q : Place) (e : Expression) (w : Word) (p : Place) (ts after : List Token) (ds : List Declaration) → Spelled 0 (token w p ∷ ts) e after → LevelEnds (ForParenthesis q) (Last e) (AfterOperand b ds) after → Fits (step_body (Parenthesis q) b w p) ts ds
take_first_part b q e (Mark S.Let) p ts after ds c k = absurd (take_operand (enter b (ForParenthesis q)) (Mark S.Let) p ts ds (enter_part b (ForParenthesis q) e (token (Mark S.Let) p ∷ ts) after ds c k))
take_first_part b q e w p ts after ds c k = take_operand (enter b (ForParenthesis q)) w p ts ds (enter_part b (ForParenthesis q) e (token w p ∷ ts) after ds c k)

take_bracket : (b : Body) (q : Place) (blk : Block) (w : Word) (p : Place) (ts end rest : List Token) (ds : List Declaration) → Block' (token w p ∷ ts) blk end → Sees S.RoundClose end rest → AfterOperand b ds (Bracket blk) rest → Fits (step_body (Parenthesis q) b w p) ts ds
take_bracket b q (Last e) w p ts end rest ds c s k = take_first_part b q e w p ts end ds c (inl (rest, s, k))
take_bracket b q (Let bs e x) w p ts end rest ds c s k =
    let i = enter b ForBracket in
    head (step_body (Parenthesis q) b) ds c.5.1 (bs, c.1, c.6, (c.2, c.7, open_operand i.head i.gives i.levels [] (Some bs) [] e c.2 c.3 ds c.8 (ends_bound i.head i.gives i.levels [] bs e c.3 ds (c.4, x, end, c.9, c.10, (rest, s, k)))))

take_parenthesis : (b : Body) (q : Place) (w : Word) (p : Place) (ts : List Token) (ds : List Declaration) → InBodyFrom (Parenthesis q) b (token w p ∷ ts) ds → Fits (step_body (Parenthesis q) b w p) ts ds
take_parenthesis b q w p ts ds (inl c) = take_bracket b q c.0 w p ts c.1 c.2 ds c.3 c.4 c.5
take_parenthesis b q w p ts ds (inr c) = take_first_part b q c.0 w p ts c.1 ds c.5 (inr (c.2, c.3, c.4, c.6, c.7))

give_first_part : (b : Body) (q : Place) (e : Expression) (ts after : List Token) (ds : List Declaration) → Spelled 0 ts e after → LevelEnds (ForParenthesis q) (Last e) (AfterOperand b ds) after → InBodyFrom (Parenthesis q) b ts ds
give_first_part b q e ts after ds c (inl k) = inl (Last e, after, k.0, c, k.1, k.2)
give_first_part b q e ts after ds c (inr k) = inr (e, after, k.0, k.1, k.2, c, k.3, k.4)

give_in_parenthesis : (b : Body) (q : Place) (w : Word) (p : Place) (ts : List Token) (ds : List Declaration) → Fits (step_body (Parenthesis q) b w p) ts ds → InBodyFrom (Parenthesis q) b (token w p ∷ ts) ds
give_in_parenthesis b q (Mark S.Let) p ts ds c =
    let i = enter b ForBracket in
    let o = c.3 in
    let k = close_operand i.head i.gives i.levels [] (Some c.0) [] o.0 ds o.2 in
    let m = ended_bound i.head i.gives i.levels [] c.0 k.0 k.1 ds k.3 in
    let z = m.5 in
    inl (Let c.0 k.0 m.1, m.2, z.0, (ts, c.1, o.0, k.1, m.0, (p, refl), c.2, o.1, k.2, m.3, m.4), z.1, z.2)
give_in_parenthesis b q w p ts ds c =
    let k = leave_part b (ForParenthesis q) (token w p ∷ ts) ds (give_operand (enter b (ForParenthesis q)) w p ts ds c) in
    give_first_part b q k.0 (token w p ∷ ts) k.1 ds k.2 k.3

take_clause_next : (b : Body) (m : OpenMatch) (w : Word) (p : Place) (ts : List Token) (ds : List Declaration) → InBodyFrom (ClauseNext m) b (token w p ∷ ts) ds → Fits (step_body (ClauseNext m) b w p) ts ds
take_clause_next b m w p ts ds (inl c) = head (step_body (ClauseNext m) b) ds c.1.1 c.2
take_clause_next b m (Mark S.CurlyClose) p ts ds (inr c) = absurd (take_pattern [] b m c.0 (Mark S.CurlyClose) p ts c.1 ds c.2 c.3)
take_clause_next b m w p ts ds (inr c) = take_pattern [] b m c.0 w p ts c.1 ds c.2 c.3

give_clause : (b : Body) (m : OpenMatch) (w : Word) (p : Place) (ts : List Token) (ds : List Declaration) → Fits (step_body (ClauseNext m) b w p) ts ds → InBodyFrom (ClauseNext m) b (token w p ∷ ts) ds
give_clause b m (Mark S.CurlyClose) p ts ds c = inl (ts, (p, refl), c)
give_clause b m w p ts ds c = inr (give_pattern [] b m w p ts ds c)

give_else : (b : Body) (q : Place) (e : Expression) (one : Block) (w : Word) (p : Place) (ts : List Token) (ds : List Declaration) → Fits (step_body (Else q e one) b w p) ts ds → InBodyFrom (Else q e one) b (token w p ∷ ts) ds
give_else b q e one (Mark S.Else) p ts ds c = (ts, (p, refl), c)
give_else b q e one _ p ts ds c = absurd c

give_else_open : (b : Body) (q : Place) (e : Expression) (one : Block) (w : Word) (p : Place) (ts : List Token) (ds : List Declaration) → Fits (step_body (ElseOpen q e one) b w p) ts ds → InBodyFrom (ElseOpen q e one) b (token w p ∷ ts) ds
give_else_open b q e one (Mark S.CurlyOpen) p ts ds c = let k = c.3 in (ts, c.0, c.1, k.0, (p, refl), c.2, k.1, k.2)
give_else_open b q e one _ p ts ds c = absurd c

pub take_body : (x : BodyPosition) (b : Body) (w : Word) (p : Place) (ts : List Token) (ds : List Declaration) → InBodyFrom x b (token w p ∷ ts) ds → Fits (step_body x b w p) ts ds
take_body AtBlock b w p ts ds c = take_block b c.0 w p ts c.1 ds c.2 c.3
take_body LetStart b w p ts ds c = take_let b c.0 w p ts c.1 ds c.2 c.3
take_body (BindStart done) b w p ts ds c = take_bind_start b (Bracketed done) c.0 w p ts c.2.0 c.1 ds c.2.1 c.2.2 c.3
take_body (BindNamed bs n q) b w p ts ds c = take_named b bs n q c.0 w p ts c.1 ds c.2 c.3
take_body (LetEquals bs) b w p ts ds c = take_equals b bs w p ts ds c
take_body AtOperand b w p ts ds c = take_operand b w p ts ds c
take_body (LowerName n q) b w p ts ds c = take_lower b n q w p ts ds c
take_body (CallOpen n q st) b w p ts ds c = head (step_body (CallOpen n q st) b) ds c.1.1 c.2
take_body (ArgumentFirst n q st) b w p ts ds c = take_arguments b n q st c.0 w p ts c.1 ds c.2 c.3
take_body (UpperName n q) b w p ts ds c = take_upper b n q c.0 w p ts c.1 ds c.2 c.3
take_body (Minus q) b w p ts ds c = head (step_body (Minus q) b) ds c.3 c.4
take_body (Parenthesis q) b w p ts ds c = take_parenthesis b q w p ts ds c
take_body (AtOperator v) b w p ts ds c = take_after_operand b v w p ts ds c
take_body (ClauseNext m) b w p ts ds c = take_clause_next b m w p ts ds c
take_body (Else q e one) b w p ts ds c = head (step_body (Else q e one) b) ds c.1.1 c.2
take_body (ElseOpen q e one) b w p ts ds c = head (step_body (ElseOpen q e one) b) ds c.4.1 (c.1, c.2, c.5, (c.3, c.6, c.7))

pub give_body : (x : BodyPosition) (b : Body) (w : Word) (p : Place) (ts : List Token) (ds : List Declaration) → Fits (step_body x b w p) ts ds → InBodyFrom x b (token w p ∷ ts) ds
give_body AtBlock b w p ts ds c = give_block b w p ts ds c
give_body LetStart b w p ts ds c = give_let b w p ts ds c
give_body (BindStart done) b w p ts ds c = give_bind_start b (Bracketed done) w p ts ds c
give_body (BindNamed bs n q) b w p ts ds c = give_named b bs n q w p ts ds c
give_body (LetEquals bs) b w p ts ds c = give_equals b bs w p ts ds c
give_body AtOperand b w p ts ds c = give_operand b w p ts ds c
give_body (LowerName n q) b w p ts ds c = give_lower_name b n q w p ts ds c
give_body (CallOpen n q st) b w p ts ds c = give_call_open b n q st w p ts ds c
give_body (ArgumentFirst n q st) b w p ts ds c = give_arguments b n q st w p ts ds c
give_body (UpperName n q) b w p ts ds c = give_upper b n q w p ts ds c
give_body (Minus q) b w p ts ds c = give_minus b q w p ts ds c
give_body (Parenthesis q) b w p ts ds c = give_in_parenthesis b q w p ts ds c
give_body (AtOperator v) b w p ts ds c = give_after_operand b v w p ts ds c
give_body (ClauseNext m) b w p ts ds c = give_clause b m w p ts ds c
give_body (Else q e one) b w p ts ds c = give_else b q e one w p ts ds c
give_body (ElseOpen q e one) b w p ts ds c = give_else_open b q e one w p ts ds c
