-- One row after another: what completes a state begins with a token that leads on (take), and a token that leads on
-- may come (give). Here: the heads of functions.
use Rattle.std.proofs.Common.{◌≡◌, ℕ, sym, ◌++◌, Bool, true, false, List, [], ◌∷◌, inl, inr, refl, ap, subst, ◌∙◌}
use Rattle.fip_language.specs.declared.Place.{Place}
use Rattle.fip_language.specs.declared.FunKind.{FunKind}
use Rattle.fip_language.specs.declared.CreditMark.{CreditMark}
use Rattle.fip_language.specs.declared.Operator.TheVariants as O
use Rattle.fip_language.specs.Core.{Name, Written, WrittenInt, WrittenName, Result, OneResult, TupleResult, SignatureParameter, Static, TypeParameter, FunctionParameter}
use Rattle.fip_language.specs.Surface.{Parameter, Declaration}
use Rattle.fip_grammar.specs.declared.Sign.TheVariants as S
use Rattle.fip_grammar.specs.Token.{Word, Lower, Number, Operate, Mark, Token, token, value_of}
use Rattle.fip_grammar.specs.Grammar.{Sees, FurtherTypeList, Result', Lent, SignatureParameters, Static', FurtherStatics, Statics, Parameters, Credits, Type'}
use Rattle.fip_grammar.specs.Machine.{FunctionHead, SignatureHead, ResultOwner, FunctionHeading, OpenType, TypeUse, Next, FunctionKeyword, CreditSize, FunctionName, FunctionStart, StaticName, StaticStart, SignatureKeyword, SignatureOpen, SignatureFirst, SignatureNext, SignatureColon, ResultStart, StaticEnd, ParametersOpen, ParameterFirst, ParameterNext, ParameterName, ParameterColon, ResultColon, BodyOpen, ForSignatureParameter, ForResult, TypeWanted, credit, with_static, with_parameter, with_signature_parameter, static_end, body_open, type_wanted, signature_next, parameter_name, parameter_next, step_function}
use Rattle.fip_grammar.proofs.Residual.{AtLeastTwo, FromBrace, FromColon, more_parameters, more_statics, AfterParameter, FromParameters, FromParameter, FromOpen, AfterStatic, FromStatic, FromStart, AfterResult, FromResult, more_signature, SignatureColonFrom, AfterSignatureParameter, FromSignatureParameters, FromSignatureParameter, SignatureOpenFrom, SignatureKeywordFrom, FromStaticStart, FunctionNameFrom, FromKeyword, FromCreditSize, InFunctionFrom, AfterType, InTypeFrom, Fits}
use Rattle.fip_grammar.proofs.Lists.{on, off, none_on, none_off}

-- what the first token of an equation leads to
pub head : (f : Word → Place → Next) (ds : List Declaration) {w w' : Word} {p p' : Place} {ts ts' : List Token} → token w p ∷ ts ≡ token w' p' ∷ ts' → Fits (f w' p') ts' ds → Fits (f w p) ts ds
head f ds {w = w} {w' = w'} {p = p} {p' = p'} {ts = ts} {ts' = ts'} e h =
    let e0 : token w' p' ≡ token w p = cc in
    let e1 : ts' ≡ ts = cc in
    subst (λ t. Fits (f t.word t.place) ts ds) e0 (subst (λ l. Fits (f w' p') l ds) e1 h)

pub take_body_open : (h : FunctionHead) (r : Result) (w : Word) (p : Place) (ts : List Token) (ds : List Declaration) → FromBrace h r (token w p ∷ ts) ds → Fits (body_open h r w) ts ds
take_body_open h r w p ts ds c = head (λ w p. body_open h r w) ds c.3.1 (c.1, c.2, c.4, c.5)

pub give_body_open : (h : FunctionHead) (r : Result) (w : Word) (p : Place) (ts : List Token) (ds : List Declaration) → Fits (body_open h r w) ts ds → FromBrace h r (token w p ∷ ts) ds
give_body_open h r (Mark S.CurlyOpen) p ts ds c = (ts, c.0, c.1, (p, refl), c.2, c.3)
give_body_open h r _ p ts ds c = absurd c

take_further_statics : (h : FunctionHead) (ss : List Static) (w : Word) (p : Place) (ts open' : List Token) (ds : List Declaration) → FurtherStatics (token w p ∷ ts) ss open' → FromOpen (more_statics h ss) open' ds → Fits (static_end h w) ts ds
take_further_statics h [] w p ts open' ds c k = head (λ w p. static_end h w) ds c.1 (none_on (λ l. FromOpen (record h { statics = l }) open' ds) h.statics k)
take_further_statics h (s ∷ ss) w p ts open' ds c k = head (λ w p. static_end h w) ds c.2.1 (s, c.1, c.3, (ss, open', c.4, on (λ l. FromOpen (record h { statics = l }) open' ds) h.statics s ss k))

pub take_static_end : (h : FunctionHead) (w : Word) (p : Place) (ts : List Token) (ds : List Declaration) → AfterStatic h (token w p ∷ ts) ds → Fits (static_end h w) ts ds
take_static_end h w p ts ds c = take_further_statics h c.0 w p ts c.1 ds c.2 c.3

pub give_static_end : (h : FunctionHead) (w : Word) (p : Place) (ts : List Token) (ds : List Declaration) → Fits (static_end h w) ts ds → AfterStatic h (token w p ∷ ts) ds
give_static_end h (Mark S.Comma) p ts ds c =
    let k = c.3 in
    (c.0 ∷ k.0, k.1, (ts, c.1, (p, refl), c.2, k.2), off (λ l. FromOpen (record h { statics = l }) k.1 ds) h.statics c.0 k.0 k.3)
give_static_end h (Mark S.SquareClose) p ts ds c = ([], ts, (p, refl), none_off (λ l. FromOpen (record h { statics = l }) ts ds) h.statics c)
give_static_end h _ p ts ds c = absurd c

take_start : (h : FunctionHead) (ss : List Static) (w : Word) (p : Place) (ts open' : List Token) (ds : List Declaration) → Statics (token w p ∷ ts) ss open' → FromOpen (more_statics h ss) open' ds → Fits (step_function (FunctionStart h) w p) ts ds
take_start h [] w p ts open' ds c k = head (step_function (FunctionStart h)) ds (c ∙ k.1.1) (none_on (λ l. FromParameters (record h { statics = l }) k.0 ds) h.statics k.2)
take_start h (s ∷ ss) w p ts open' ds c k = head (step_function (FunctionStart h)) ds c.2.1 (s, c.1, c.3, (ss, open', c.4, on (λ l. FromOpen (record h { statics = l }) open' ds) h.statics s ss k))

give_start : (h : FunctionHead) (w : Word) (p : Place) (ts : List Token) (ds : List Declaration) → Fits (step_function (FunctionStart h) w p) ts ds → FromStart h (token w p ∷ ts) ds
give_start h (Mark S.SquareOpen) p ts ds c =
    let k = c.3 in
    (c.0 ∷ k.0, k.1, (ts, c.1, (p, refl), c.2, k.2), off (λ l. FromOpen (record h { statics = l }) k.1 ds) h.statics c.0 k.0 k.3)
give_start h (Mark S.RoundOpen) p ts ds c = ([], token (Mark S.RoundOpen) p ∷ ts, refl, (ts, (p, refl), none_off (λ l. FromParameters (record h { statics = l }) ts ds) h.statics c))
give_start h _ p ts ds c = absurd c

take_static : (h : FunctionHead) (s : Static) (w : Word) (p : Place) (ts after : List Token) (ds : List Declaration) → Static' (token w p ∷ ts) s after → AfterStatic (with_static h s) after ds → Fits (step_function (StaticName h) w p) ts ds
take_static h (TypeParameter n q) w p ts after ds c k = head (step_function (StaticName h)) ds c (inl k)
take_static h (FunctionParameter n q ps r) w p ts after ds c k =
    let g = c.2 in
    head (step_function (StaticName h)) ds c.1 (inr (g.0, g.5, (g.1, g.6, (g.2, g.7, (ps, g.3, g.8, (g.4, g.9, (r, after, g.10, k)))))))

give_static : (h : FunctionHead) (n : Name) (p : Place) (ts : List Token) (ds : List Declaration) → FromStaticStart h n p ts ds → FromStatic h (token (Lower n) p ∷ ts) ds
give_static h n p ts ds (inl c) = (TypeParameter n p, ts, refl, c)
give_static h n p ts ds (inr c) =
    let o = c.2 in
    let i = o.2 in
    let ps = i.2 in
    let t = ps.3 in
    let r = t.2 in
    (FunctionParameter n p ps.0 r.0, r.1, (ts, refl, (c.0, o.0, i.0, ps.1, t.0, c.1, o.1, i.1, ps.2, t.1, r.2)), r.3)

give_static_name : (h : FunctionHead) (w : Word) (p : Place) (ts : List Token) (ds : List Declaration) → Fits (step_function (StaticName h) w p) ts ds → FromStatic h (token w p ∷ ts) ds
give_static_name h (Lower n) p ts ds c = give_static h n p ts ds c
give_static_name h _ p ts ds c = absurd c

take_static_start : (h : FunctionHead) (n : Name) (q : Place) (w : Word) (p : Place) (ts : List Token) (ds : List Declaration) → FromStaticStart h n q (token w p ∷ ts) ds → Fits (step_function (StaticStart h n q) w p) ts ds
take_static_start h n q (Mark S.Colon) p ts ds (inl c) = absurd (take_static_end (with_static h (TypeParameter n q)) (Mark S.Colon) p ts ds c)
take_static_start h n q w p ts ds (inl c) = take_static_end (with_static h (TypeParameter n q)) w p ts ds c
take_static_start h n q w p ts ds (inr c) = head (step_function (StaticStart h n q)) ds c.1.1 c.2

give_static_start : (h : FunctionHead) (n : Name) (q : Place) (w : Word) (p : Place) (ts : List Token) (ds : List Declaration) → Fits (step_function (StaticStart h n q) w p) ts ds → FromStaticStart h n q (token w p ∷ ts) ds
give_static_start h n q (Mark S.Colon) p ts ds c = inr (ts, (p, refl), c)
give_static_start h n q w p ts ds c = inl (give_static_end (with_static h (TypeParameter n q)) w p ts ds c)

-- a type's first token
pub take_type : (o : List OpenType) (u : TypeUse) (t : Written) (w : Word) (p : Place) (ts after : List Token) (ds : List Declaration) → Type' (token w p ∷ ts) t after → AfterType o u t after ds → Fits (type_wanted o u w p) ts ds
take_type o u (WrittenInt q) w p ts after ds c k = head (type_wanted o u) ds c k
take_type o u (WrittenName n q args) w p ts after ds c k = head (type_wanted o u) ds c.1 (args, after, c.2, k)

pub give_type : (o : List OpenType) (u : TypeUse) (w : Word) (p : Place) (ts : List Token) (ds : List Declaration) → Fits (type_wanted o u w p) ts ds → InTypeFrom TypeWanted o u (token w p ∷ ts) ds
give_type o u (Mark S.Int) p ts ds c = (WrittenInt p, ts, refl, c)
give_type o u (Lower n) p ts ds c = (WrittenName n p c.0, c.1, (ts, refl, c.2), c.3)
give_type o u _ p ts ds c = absurd c

abbrev signature_parameter : Bool → Written → SignatureParameter
signature_parameter lent t = record { lent = lent; type = t }

take_signature_next : (h : FunctionHead) (g : SignatureHead) (lent : Bool) (t : Written) (w : Word) (p : Place) (ts inner after : List Token) (ds : List Declaration) → Lent (token w p ∷ ts) lent inner → Type' inner t after → AfterSignatureParameter h (with_signature_parameter g (signature_parameter lent t)) after ds → Fits (signature_next h g w p) ts ds
take_signature_next h g true t w p ts inner after ds l c k = head (signature_next h g) ds l.1 (t, after, c, k)
take_signature_next h g false (WrittenInt q) w p ts inner after ds l c k = head (signature_next h g) ds (l ∙ c) k
take_signature_next h g false (WrittenName n q args) w p ts inner after ds l c k = head (signature_next h g) ds (l ∙ c.1) (args, after, c.2, k)

take_signature_parameter : (h : FunctionHead) (g : SignatureHead) (w : Word) (p : Place) (ts : List Token) (ds : List Declaration) → FromSignatureParameter h g (token w p ∷ ts) ds → Fits (signature_next h g w p) ts ds
take_signature_parameter h g w p ts ds c = take_signature_next h g c.0.lent c.0.type w p ts c.2.0 c.1 ds c.2.1 c.2.2 c.3

give_signature_next : (h : FunctionHead) (g : SignatureHead) (w : Word) (p : Place) (ts : List Token) (ds : List Declaration) → Fits (signature_next h g w p) ts ds → FromSignatureParameter h g (token w p ∷ ts) ds
give_signature_next h g (Mark S.Caret) p ts ds c = (signature_parameter true c.0, c.1, (ts, (p, refl), c.2), c.3)
give_signature_next h g w p ts ds c =
    let k = give_type [] (ForSignatureParameter h g false) w p ts ds c in
    (signature_parameter false k.0, k.1, (token w p ∷ ts, refl, k.2), k.3)

take_signature_first : (h : FunctionHead) (g : SignatureHead) (ps : List SignatureParameter) (w : Word) (p : Place) (ts colon : List Token) (ds : List Declaration) → SignatureParameters (token w p ∷ ts) ps colon → SignatureColonFrom h (more_signature g ps) colon ds → Fits (step_function (SignatureFirst h g) w p) ts ds
take_signature_first h g [] w p ts colon ds c k = head (step_function (SignatureFirst h g)) ds c.1 (none_on (λ l. SignatureColonFrom h (record g { parameters = l }) colon ds) g.parameters k)
take_signature_first h g (q ∷ ps) (Mark S.RoundClose) p ts colon ds c k = absurd (take_signature_parameter h g (Mark S.RoundClose) p ts ds (q, c.0, c.1, (ps, colon, c.2, on (λ l. SignatureColonFrom h (record g { parameters = l }) colon ds) g.parameters q ps k)))
take_signature_first h g (q ∷ ps) w p ts colon ds c k = take_signature_parameter h g w p ts ds (q, c.0, c.1, (ps, colon, c.2, on (λ l. SignatureColonFrom h (record g { parameters = l }) colon ds) g.parameters q ps k))

give_signature_first : (h : FunctionHead) (g : SignatureHead) (w : Word) (p : Place) (ts : List Token) (ds : List Declaration) → Fits (step_function (SignatureFirst h g) w p) ts ds → FromSignatureParameters h g (token w p ∷ ts) ds
give_signature_first h g (Mark S.RoundClose) p ts ds c = ([], ts, (p, refl), none_off (λ l. SignatureColonFrom h (record g { parameters = l }) ts ds) g.parameters c)
give_signature_first h g w p ts ds c =
    let k = give_signature_next h g w p ts ds c in
    let m = k.3 in
    (k.0 ∷ m.0, m.1, (k.1, k.2, m.2), off (λ l. SignatureColonFrom h (record g { parameters = l }) m.1 ds) g.parameters k.0 m.0 m.3)

take_result : (o : ResultOwner) (r : Result) (w : Word) (p : Place) (ts after : List Token) (ds : List Declaration) → Result' (token w p ∷ ts) r after → AfterResult o r after ds → Fits (step_function (ResultStart o) w p) ts ds
take_result o (OneResult (WrittenInt q)) w p ts after ds c k = head (step_function (ResultStart o)) ds c k
take_result o (OneResult (WrittenName n q args)) w p ts after ds c k = head (step_function (ResultStart o)) ds c.1 (args, after, c.2, k)
take_result o (TupleResult q []) w p ts after ds c k = absurd c
take_result o (TupleResult q (t ∷ [])) w p ts after ds c k = absurd c
take_result o (TupleResult q (t ∷ u ∷ us)) w p ts after ds c k = head (step_function (ResultStart o)) ds c.2 (t, c.1, c.3, (u ∷ us, after, c.4, tt, k))

give_result_part : (o : ResultOwner) (t : Written) (more : List Written) (p : Place) (ts inner after : List Token) (ds : List Declaration) → Type' ts t inner → FurtherTypeList S.RoundClose inner more after → AtLeastTwo (t ∷ more) → AfterResult o (TupleResult p (t ∷ more)) after ds → FromResult o (token (Mark S.RoundOpen) p ∷ ts) ds
give_result_part o t [] p ts inner after ds c f two k = absurd two
give_result_part o t (u ∷ us) p ts inner after ds c f two k = (TupleResult p (t ∷ u ∷ us), after, (ts, inner, refl, c, f), k)

give_result : (o : ResultOwner) (w : Word) (p : Place) (ts : List Token) (ds : List Declaration) → Fits (step_function (ResultStart o) w p) ts ds → FromResult o (token w p ∷ ts) ds
give_result o (Mark S.RoundOpen) p ts ds c = let k = c.3 in give_result_part o c.0 k.0 p ts c.1 k.1 ds c.2 k.2 k.3 k.4
give_result o w p ts ds c =
    let k = give_type [] (ForResult o) w p ts ds c in
    (OneResult k.0, k.1, k.2, k.3)

abbrev parameter : Bool → Name → Place → Written → Parameter
parameter lent n q t = record { lent = lent; name = n; place = q; type = t }

take_parameter_next : (h : FunctionHead) (lent : Bool) (n : Name) (q : Place) (t : Written) (w : Word) (p : Place) (ts name colon type' after : List Token) (ds : List Declaration) → Lent (token w p ∷ ts) lent name → name ≡ token (Lower n) q ∷ colon → Sees S.Colon colon type' → Type' type' t after → AfterParameter (with_parameter h (parameter lent n q t)) after ds → Fits (parameter_next h w p) ts ds
take_parameter_next h true n q t w p ts name colon type' after ds l e s c k = head (parameter_next h) ds l.1 (n, q, colon, type', t, after, e, s, c, k)
take_parameter_next h false n q t w p ts name colon type' after ds l e s c k = head (parameter_next h) ds (l ∙ e) (type', t, after, s, c, k)

take_parameter : (h : FunctionHead) (w : Word) (p : Place) (ts : List Token) (ds : List Declaration) → FromParameter h (token w p ∷ ts) ds → Fits (parameter_next h w p) ts ds
take_parameter h w p ts ds c = let k = c.2 in take_parameter_next h c.0.lent c.0.name c.0.place c.0.type w p ts k.0 k.1 k.2 c.1 ds k.3 k.4 k.5 k.6 c.3

give_parameter_name : (h : FunctionHead) (w : Word) (p : Place) (ts : List Token) (ds : List Declaration) → Fits (parameter_name h false w p) ts ds → FromParameter h (token w p ∷ ts) ds
give_parameter_name h (Lower n) p ts ds c = (parameter false n p c.1, c.2, (token (Lower n) p ∷ ts, ts, c.0, refl, refl, c.3, c.4), c.5)
give_parameter_name h _ p ts ds c = absurd c

give_parameter_next : (h : FunctionHead) (w : Word) (p : Place) (ts : List Token) (ds : List Declaration) → Fits (parameter_next h w p) ts ds → FromParameter h (token w p ∷ ts) ds
give_parameter_next h (Mark S.Caret) p ts ds c = (parameter true c.0 c.1 c.4, c.5, (ts, c.2, c.3, (p, refl), c.6, c.7, c.8), c.9)
give_parameter_next h w p ts ds c = give_parameter_name h w p ts ds c

take_parameter_first : (h : FunctionHead) (ps : List Parameter) (w : Word) (p : Place) (ts colon : List Token) (ds : List Declaration) → Parameters (token w p ∷ ts) ps colon → FromColon (more_parameters h ps) colon ds → Fits (step_function (ParameterFirst h) w p) ts ds
take_parameter_first h [] w p ts colon ds c k = head (step_function (ParameterFirst h)) ds c.1 (none_on (λ l. FromColon (record h { parameters = l }) colon ds) h.parameters k)
take_parameter_first h (q ∷ ps) (Mark S.RoundClose) p ts colon ds c k = absurd (take_parameter h (Mark S.RoundClose) p ts ds (q, c.0, c.1, (ps, colon, c.2, on (λ l. FromColon (record h { parameters = l }) colon ds) h.parameters q ps k)))
take_parameter_first h (q ∷ ps) w p ts colon ds c k = take_parameter h w p ts ds (q, c.0, c.1, (ps, colon, c.2, on (λ l. FromColon (record h { parameters = l }) colon ds) h.parameters q ps k))

give_parameter_first : (h : FunctionHead) (w : Word) (p : Place) (ts : List Token) (ds : List Declaration) → Fits (step_function (ParameterFirst h) w p) ts ds → FromParameters h (token w p ∷ ts) ds
give_parameter_first h (Mark S.RoundClose) p ts ds c = ([], ts, (p, refl), none_off (λ l. FromColon (record h { parameters = l }) ts ds) h.parameters c)
give_parameter_first h w p ts ds c =
    let k = give_parameter_next h w p ts ds c in
    let m = k.3 in
    (k.0 ∷ m.0, m.1, (k.1, k.2, m.2), off (λ l. FromColon (record h { parameters = l }) m.1 ds) h.parameters k.0 m.0 m.3)

-- a mark whose size is that of its digits
abbrev marked : (x : CreditMark) (digits : List ℕ) → x.size ≡ value_of digits → credit x.place x.size_place digits ≡ x
marked x digits e = ap (λ n. record { place = x.place; size_place = x.size_place; size = n }) (sym e)

take_keyword : (k : FunKind) (cs more : List CreditMark) (w : Word) (p : Place) (ts keyword name : List Token) (ds : List Declaration) → Credits (token w p ∷ ts) more keyword → Sees S.Fun keyword name → FunctionNameFrom k (cs ++ more) name ds → Fits (step_function (FunctionKeyword k cs) w p) ts ds
take_keyword k cs [] w p ts keyword name ds c s n = head (step_function (FunctionKeyword k cs)) ds (c ∙ s.1) (none_on (λ l. FunctionNameFrom k l name ds) cs n)
take_keyword k cs (x ∷ more) w p ts keyword name ds c s n =
    let rest : FromKeyword k (cs ++ x ∷ []) c.1 ds = (more, keyword, name, c.6, s, on (λ l. FunctionNameFrom k l name ds) cs x more n) in
    let size : FromCreditSize k cs x.place c.0 ds = (c.2, x.size_place, c.1, c.4, subst (λ m. FromKeyword k (cs ++ m ∷ []) c.1 ds) (sym (marked x c.2 c.5)) rest) in
    head (step_function (FunctionKeyword k cs)) ds c.3 size

pub take_function : (h : FunctionHeading) (w : Word) (p : Place) (ts : List Token) (ds : List Declaration) → InFunctionFrom h (token w p ∷ ts) ds → Fits (step_function h w p) ts ds
take_function (FunctionKeyword k cs) w p ts ds c = take_keyword k cs c.0 w p ts c.1 c.2 ds c.3 c.4 c.5
take_function (CreditSize k cs q) w p ts ds c = head (step_function (CreditSize k cs q)) ds c.3 c.4
take_function (FunctionName k cs) w p ts ds c = head (step_function (FunctionName k cs)) ds c.3 c.4
take_function (FunctionStart h) w p ts ds c = take_start h c.0 w p ts c.1 ds c.2 c.3
take_function (StaticName h) w p ts ds c = take_static h c.0 w p ts c.1 ds c.2 c.3
take_function (StaticStart h n q) w p ts ds c = take_static_start h n q w p ts ds c
take_function (SignatureKeyword h g) w p ts ds c = head (step_function (SignatureKeyword h g)) ds c.1.1 c.2
take_function (SignatureOpen h g) w p ts ds c = head (step_function (SignatureOpen h g)) ds c.1.1 c.2
take_function (SignatureFirst h g) w p ts ds c = take_signature_first h g c.0 w p ts c.1 ds c.2 c.3
take_function (SignatureNext h g) w p ts ds c = take_signature_parameter h g w p ts ds c
take_function (SignatureColon h g) w p ts ds c = head (step_function (SignatureColon h g)) ds c.1.1 c.2
take_function (ResultStart o) w p ts ds c = take_result o c.0 w p ts c.1 ds c.2 c.3
take_function (StaticEnd h) w p ts ds c = take_static_end h w p ts ds c
take_function (ParametersOpen h) w p ts ds c = head (step_function (ParametersOpen h)) ds c.1.1 c.2
take_function (ParameterFirst h) w p ts ds c = take_parameter_first h c.0 w p ts c.1 ds c.2 c.3
take_function (ParameterNext h) w p ts ds c = take_parameter h w p ts ds c
take_function (ParameterName h) w p ts ds c = head (step_function (ParameterName h)) ds c.6 (c.3, c.4, c.5, c.7, c.8, c.9)
take_function (ParameterColon h lent n q) w p ts ds c = head (step_function (ParameterColon h lent n q)) ds c.3.1 (c.1, c.2, c.4, c.5)
take_function (ResultColon h) w p ts ds c = head (step_function (ResultColon h)) ds c.3.1 (c.1, c.2, c.4, c.5)
take_function (BodyOpen h r) w p ts ds c = take_body_open h r w p ts ds c

give_keyword : (k : FunKind) (cs : List CreditMark) (w : Word) (p : Place) (ts : List Token) (ds : List Declaration) → Fits (step_function (FunctionKeyword k cs) w p) ts ds → FromKeyword k cs (token w p ∷ ts) ds
give_keyword k cs (Mark S.Fun) p ts ds c = ([], token (Mark S.Fun) p ∷ ts, ts, refl, (p, refl), none_off (λ l. FunctionNameFrom k l ts ds) cs c)
give_keyword k cs (Operate O.Add) p ts ds c =
    let x = credit p c.1 c.0 in
    let r = c.4 in
    (x ∷ r.0, r.1, r.2, (ts, c.2, c.0, refl, c.3, refl, r.3), r.4, off (λ l. FunctionNameFrom k l r.2 ds) cs x r.0 r.5)
give_keyword k cs _ p ts ds c = absurd c

give_credit_size : (k : FunKind) (cs : List CreditMark) (q : Place) (w : Word) (p : Place) (ts : List Token) (ds : List Declaration) → Fits (step_function (CreditSize k cs q) w p) ts ds → FromCreditSize k cs q (token w p ∷ ts) ds
give_credit_size k cs q (Number digits) p ts ds c = (digits, p, ts, refl, c)
give_credit_size k cs q _ p ts ds c = absurd c

give_name : (k : FunKind) (cs : List CreditMark) (w : Word) (p : Place) (ts : List Token) (ds : List Declaration) → Fits (step_function (FunctionName k cs) w p) ts ds → FunctionNameFrom k cs (token w p ∷ ts) ds
give_name k cs (Lower n) p ts ds c = (n, p, ts, refl, c)
give_name k cs _ p ts ds c = absurd c

give_signature_keyword : (h : FunctionHead) (g : SignatureHead) (w : Word) (p : Place) (ts : List Token) (ds : List Declaration) → Fits (step_function (SignatureKeyword h g) w p) ts ds → SignatureKeywordFrom h g (token w p ∷ ts) ds
give_signature_keyword h g (Mark S.Fun) p ts ds c = (ts, (p, refl), c)
give_signature_keyword h g _ p ts ds c = absurd c

give_signature_open : (h : FunctionHead) (g : SignatureHead) (w : Word) (p : Place) (ts : List Token) (ds : List Declaration) → Fits (step_function (SignatureOpen h g) w p) ts ds → SignatureOpenFrom h g (token w p ∷ ts) ds
give_signature_open h g (Mark S.RoundOpen) p ts ds c = (ts, (p, refl), c)
give_signature_open h g _ p ts ds c = absurd c

give_signature_colon : (h : FunctionHead) (g : SignatureHead) (w : Word) (p : Place) (ts : List Token) (ds : List Declaration) → Fits (step_function (SignatureColon h g) w p) ts ds → SignatureColonFrom h g (token w p ∷ ts) ds
give_signature_colon h g (Mark S.Colon) p ts ds c = (ts, (p, refl), c)
give_signature_colon h g _ p ts ds c = absurd c

give_parameters_open : (h : FunctionHead) (w : Word) (p : Place) (ts : List Token) (ds : List Declaration) → Fits (step_function (ParametersOpen h) w p) ts ds → FromOpen h (token w p ∷ ts) ds
give_parameters_open h (Mark S.RoundOpen) p ts ds c = (ts, (p, refl), c)
give_parameters_open h _ p ts ds c = absurd c

give_lent_name : (h : FunctionHead) (w : Word) (p : Place) (ts : List Token) (ds : List Declaration) → Fits (step_function (ParameterName h) w p) ts ds → InFunctionFrom (ParameterName h) (token w p ∷ ts) ds
give_lent_name h (Lower n) p ts ds c = (n, p, ts, c.0, c.1, c.2, refl, c.3, c.4, c.5)
give_lent_name h _ p ts ds c = absurd c

give_parameter_colon : (h : FunctionHead) (lent : Bool) (n : Name) (q : Place) (w : Word) (p : Place) (ts : List Token) (ds : List Declaration) → Fits (step_function (ParameterColon h lent n q) w p) ts ds → InFunctionFrom (ParameterColon h lent n q) (token w p ∷ ts) ds
give_parameter_colon h lent n q (Mark S.Colon) p ts ds c = (ts, c.0, c.1, (p, refl), c.2, c.3)
give_parameter_colon h lent n q _ p ts ds c = absurd c

give_result_colon : (h : FunctionHead) (w : Word) (p : Place) (ts : List Token) (ds : List Declaration) → Fits (step_function (ResultColon h) w p) ts ds → FromColon h (token w p ∷ ts) ds
give_result_colon h (Mark S.Colon) p ts ds c = (ts, c.0, c.1, (p, refl), c.2, c.3)
give_result_colon h _ p ts ds c = absurd c

pub give_function : (h : FunctionHeading) (w : Word) (p : Place) (ts : List Token) (ds : List Declaration) → Fits (step_function h w p) ts ds → InFunctionFrom h (token w p ∷ ts) ds
give_function (FunctionKeyword k cs) w p ts ds c = give_keyword k cs w p ts ds c
give_function (CreditSize k cs q) w p ts ds c = give_credit_size k cs q w p ts ds c
give_function (FunctionName k cs) w p ts ds c = give_name k cs w p ts ds c
give_function (FunctionStart h) w p ts ds c = give_start h w p ts ds c
give_function (StaticName h) w p ts ds c = give_static_name h w p ts ds c
give_function (StaticStart h n q) w p ts ds c = give_static_start h n q w p ts ds c
give_function (SignatureKeyword h g) w p ts ds c = give_signature_keyword h g w p ts ds c
give_function (SignatureOpen h g) w p ts ds c = give_signature_open h g w p ts ds c
give_function (SignatureFirst h g) w p ts ds c = give_signature_first h g w p ts ds c
give_function (SignatureNext h g) w p ts ds c = give_signature_next h g w p ts ds c
give_function (SignatureColon h g) w p ts ds c = give_signature_colon h g w p ts ds c
give_function (ResultStart o) w p ts ds c = give_result o w p ts ds c
give_function (StaticEnd h) w p ts ds c = give_static_end h w p ts ds c
give_function (ParametersOpen h) w p ts ds c = give_parameters_open h w p ts ds c
give_function (ParameterFirst h) w p ts ds c = give_parameter_first h w p ts ds c
give_function (ParameterNext h) w p ts ds c = give_parameter_next h w p ts ds c
give_function (ParameterName h) w p ts ds c = give_lent_name h w p ts ds c
give_function (ParameterColon h lent n q) w p ts ds c = give_parameter_colon h lent n q w p ts ds c
give_function (ResultColon h) w p ts ds c = give_result_colon h w p ts ds c
give_function (BodyOpen h r) w p ts ds c = give_body_open h r w p ts ds c
