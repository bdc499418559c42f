-- The rows of data types.
use Rattle.std.proofs.Common.{List, [], ◌∷◌, inl, inr, refl, sym, subst, ◌∙◌}
use Rattle.fip_language.specs.declared.Place.{Place}
use Rattle.fip_language.specs.Core.{Name, Written, TypeName, DataConstructor, Data}
use Rattle.fip_language.specs.Surface.{Declaration, DataDeclaration}
use Rattle.fip_grammar.specs.declared.Sign.TheVariants as S
use Rattle.fip_grammar.specs.Token.{Word, Lower, Upper, Mark, Token, token}
use Rattle.fip_grammar.specs.Grammar.{Sees, MaySee, FurtherTypeNames, TypeNames, FieldTypes, FurtherConstructors}
use Rattle.fip_grammar.specs.Machine.{DataHeading, DataStart, DataParameter, DataParameterEnd, DataOpen, ConstructorFirst, ConstructorNext, ConstructorStart, ConstructorEnd, DataName, with_constructor, constructor_first, constructor_end, step_data}
use Rattle.fip_grammar.proofs.Residual.{Declared, more_constructors, more_names, AfterConstructor, FromConstructor, FromDataBrace, AfterTypeName, FromTypeName, FromDataStart, FromDataName, new_constructor, InDataFrom, Fits}
use Rattle.fip_grammar.proofs.Lists.{on, off, none_on, none_off}
use Rattle.fip_grammar.proofs.Functions.{head}

take_name_start : (d : Data) (ns : List TypeName) (w : Word) (p : Place) (ts brace : List Token) (ds : List Declaration) → TypeNames (token w p ∷ ts) ns brace → FromDataBrace (more_names d ns) brace ds → Fits (step_data (DataStart d) w p) ts ds
take_name_start d [] w p ts brace ds c k = head (step_data (DataStart d)) ds (c ∙ k.1.1) (none_on (λ l. FromConstructor (record d { parameters = l }) k.0 ds) d.parameters k.2)
take_name_start d (n ∷ ns) w p ts brace ds c k = head (step_data (DataStart d)) ds c.2.1 (n, c.1, c.3, (ns, brace, c.4, on (λ l. FromDataBrace (record d { parameters = l }) brace ds) d.parameters n ns k))

give_data_start : (d : Data) (w : Word) (p : Place) (ts : List Token) (ds : List Declaration) → Fits (step_data (DataStart d) w p) ts ds → FromDataStart d (token w p ∷ ts) ds
give_data_start d (Mark S.SquareOpen) p ts ds c =
    let k = c.3 in
    (c.0 ∷ k.0, k.1, (ts, c.1, (p, refl), c.2, k.2), off (λ l. FromDataBrace (record d { parameters = l }) k.1 ds) d.parameters c.0 k.0 k.3)
give_data_start d (Mark S.CurlyOpen) p ts ds c = ([], token (Mark S.CurlyOpen) p ∷ ts, refl, (ts, (p, refl), none_off (λ l. FromConstructor (record d { parameters = l }) ts ds) d.parameters c))
give_data_start d _ p ts ds c = absurd c

give_data_parameter : (d : Data) (w : Word) (p : Place) (ts : List Token) (ds : List Declaration) → Fits (step_data (DataParameter d) w p) ts ds → FromTypeName d (token w p ∷ ts) ds
give_data_parameter d (Lower n) p ts ds c = (record { name = n; place = p }, ts, refl, c)
give_data_parameter d _ p ts ds c = absurd c

take_further_names : (d : Data) (ns : List TypeName) (w : Word) (p : Place) (ts brace : List Token) (ds : List Declaration) → FurtherTypeNames (token w p ∷ ts) ns brace → FromDataBrace (more_names d ns) brace ds → Fits (step_data (DataParameterEnd d) w p) ts ds
take_further_names d [] w p ts brace ds c k = head (step_data (DataParameterEnd d)) ds c.1 (none_on (λ l. FromDataBrace (record d { parameters = l }) brace ds) d.parameters k)
take_further_names d (n ∷ ns) w p ts brace ds c k = head (step_data (DataParameterEnd d)) ds c.2.1 (n, c.1, c.3, (ns, brace, c.4, on (λ l. FromDataBrace (record d { parameters = l }) brace ds) d.parameters n ns k))

give_data_parameter_end : (d : Data) (w : Word) (p : Place) (ts : List Token) (ds : List Declaration) → Fits (step_data (DataParameterEnd d) w p) ts ds → AfterTypeName d (token w p ∷ ts) ds
give_data_parameter_end d (Mark S.Comma) p ts ds c =
    let k = c.3 in
    (c.0 ∷ k.0, k.1, (ts, c.1, (p, refl), c.2, k.2), off (λ l. FromDataBrace (record d { parameters = l }) k.1 ds) d.parameters c.0 k.0 k.3)
give_data_parameter_end d (Mark S.SquareClose) p ts ds c = ([], ts, (p, refl), none_off (λ l. FromDataBrace (record d { parameters = l }) ts ds) d.parameters c)
give_data_parameter_end d _ p ts ds c = absurd c

give_data_open : (d : Data) (w : Word) (p : Place) (ts : List Token) (ds : List Declaration) → Fits (step_data (DataOpen d) w p) ts ds → FromDataBrace d (token w p ∷ ts) ds
give_data_open d (Mark S.CurlyOpen) p ts ds c = (ts, (p, refl), c)
give_data_open d _ p ts ds c = absurd c

take_constructor : (d : Data) (w : Word) (p : Place) (ts : List Token) (ds : List Declaration) → FromConstructor d (token w p ∷ ts) ds → Fits (constructor_first d w p) ts ds
take_constructor d w p ts ds c = let k = c.2 in head (constructor_first d) ds k.1 (c.0.fields, c.1, k.2, c.3)

give_constructor : (d : Data) (w : Word) (p : Place) (ts : List Token) (ds : List Declaration) → Fits (constructor_first d w p) ts ds → FromConstructor d (token w p ∷ ts) ds
give_constructor d (Upper n) p ts ds c = (new_constructor n p c.0, c.1, (ts, refl, c.2), c.3)
give_constructor d _ p ts ds c = absurd c

take_constructor_next : (d : Data) (w : Word) (p : Place) (ts : List Token) (ds : List Declaration) → InDataFrom (ConstructorNext d) (token w p ∷ ts) ds → Fits (step_data (ConstructorNext d) w p) ts ds
take_constructor_next d w p ts ds (inl c) = head (step_data (ConstructorNext d)) ds c.1.1 c.2
take_constructor_next d (Mark S.CurlyClose) p ts ds (inr c) = absurd (take_constructor d (Mark S.CurlyClose) p ts ds c)
take_constructor_next d w p ts ds (inr c) = take_constructor d w p ts ds c

give_constructor_next : (d : Data) (w : Word) (p : Place) (ts : List Token) (ds : List Declaration) → Fits (step_data (ConstructorNext d) w p) ts ds → InDataFrom (ConstructorNext d) (token w p ∷ ts) ds
give_constructor_next d (Mark S.CurlyClose) p ts ds c = inl (ts, (p, refl), c)
give_constructor_next d w p ts ds c = inr (give_constructor d w p ts ds c)

take_last : (d : Data) (w : Word) (p : Place) (ts after rest : List Token) (ds : List Declaration) → MaySee S.Semicolon (token w p ∷ ts) after → Sees S.CurlyClose after rest → Declared (DataDeclaration d) rest ds → Fits (constructor_end d w) ts ds
take_last d w p ts after rest ds (inl e) c k = head (λ w p. constructor_end d w) ds (e ∙ c.1) k
take_last d w p ts after rest ds (inr e) c k = head (λ w p. constructor_end d w) ds e.1 (inl (rest, c, k))

take_further_constructors : (d : Data) (cs : List DataConstructor) (w : Word) (p : Place) (ts rest : List Token) (ds : List Declaration) → FurtherConstructors (token w p ∷ ts) cs rest → Declared (DataDeclaration (more_constructors d cs)) rest ds → Fits (constructor_end d w) ts ds
take_further_constructors d [] w p ts rest ds c k = take_last d w p ts c.0 rest ds c.1 c.2 (none_on (λ l. Declared (DataDeclaration (record d { constructors = l })) rest ds) d.constructors k)
take_further_constructors d (x ∷ cs) w p ts rest ds c k = head (λ w p. constructor_end d w) ds c.2.1 (inr (x, c.1, c.3, (cs, rest, c.4, on (λ l. Declared (DataDeclaration (record d { constructors = l })) rest ds) d.constructors x cs k)))

take_constructor_end : (d : Data) (w : Word) (p : Place) (ts : List Token) (ds : List Declaration) → AfterConstructor d (token w p ∷ ts) ds → Fits (constructor_end d w) ts ds
take_constructor_end d w p ts ds c = take_further_constructors d c.0 w p ts c.1 ds c.2 c.3

give_semicolon : (d : Data) (p : Place) (ts : List Token) (ds : List Declaration) → InDataFrom (ConstructorNext d) ts ds → AfterConstructor d (token (Mark S.Semicolon) p ∷ ts) ds
give_semicolon d p ts ds (inl c) = ([], c.0, (ts, inr (p, refl), c.1), none_off (λ l. Declared (DataDeclaration (record d { constructors = l })) c.0 ds) d.constructors c.2)
give_semicolon d p ts ds (inr c) =
    let k = c.3 in
    (c.0 ∷ k.0, k.1, (ts, c.1, (p, refl), c.2, k.2), off (λ l. Declared (DataDeclaration (record d { constructors = l })) k.1 ds) d.constructors c.0 k.0 k.3)

give_constructor_end : (d : Data) (w : Word) (p : Place) (ts : List Token) (ds : List Declaration) → Fits (constructor_end d w) ts ds → AfterConstructor d (token w p ∷ ts) ds
give_constructor_end d (Mark S.Semicolon) p ts ds c = give_semicolon d p ts ds c
give_constructor_end d (Mark S.CurlyClose) p ts ds c = ([], ts, (token (Mark S.CurlyClose) p ∷ ts, inl refl, (p, refl)), none_off (λ l. Declared (DataDeclaration (record d { constructors = l })) ts ds) d.constructors c)
give_constructor_end d _ p ts ds c = absurd c

take_constructor_start : (d : Data) (n : Name) (q : Place) (fs : List Written) (w : Word) (p : Place) (ts after : List Token) (ds : List Declaration) → FieldTypes (token w p ∷ ts) fs after → AfterConstructor (with_constructor d (new_constructor n q fs)) after ds → Fits (step_data (ConstructorStart d n q) w p) ts ds
take_constructor_start d n q (t ∷ fs) w p ts after ds c k = head (step_data (ConstructorStart d n q)) ds c.2.1 (t, c.1, c.3, (fs, after, c.4, k))
take_constructor_start d n q [] (Mark S.RoundOpen) p ts after ds c k = absurd (take_constructor_end (with_constructor d (new_constructor n q [])) (Mark S.RoundOpen) p ts ds (subst (λ l. AfterConstructor (with_constructor d (new_constructor n q [])) l ds) (sym c) k))
take_constructor_start d n q [] w p ts after ds c k = take_constructor_end (with_constructor d (new_constructor n q [])) w p ts ds (subst (λ l. AfterConstructor (with_constructor d (new_constructor n q [])) l ds) (sym c) k)

give_constructor_start : (d : Data) (n : Name) (q : Place) (w : Word) (p : Place) (ts : List Token) (ds : List Declaration) → Fits (step_data (ConstructorStart d n q) w p) ts ds → InDataFrom (ConstructorStart d n q) (token w p ∷ ts) ds
give_constructor_start d n q (Mark S.RoundOpen) p ts ds c = let k = c.3 in (c.0 ∷ k.0, k.1, (ts, c.1, (p, refl), c.2, k.2), k.3)
give_constructor_start d n q w p ts ds c = ([], token w p ∷ ts, refl, give_constructor_end (with_constructor d (new_constructor n q [])) w p ts ds c)

give_data_name : (w : Word) (p : Place) (ts : List Token) (ds : List Declaration) → Fits (step_data DataName w p) ts ds → FromDataName (token w p ∷ ts) ds
give_data_name (Lower n) p ts ds c = (n, p, ts, refl, c)
give_data_name _ p ts ds c = absurd c

pub take_data : (h : DataHeading) (w : Word) (p : Place) (ts : List Token) (ds : List Declaration) → InDataFrom h (token w p ∷ ts) ds → Fits (step_data h w p) ts ds
take_data DataName w p ts ds c = head (step_data DataName) ds c.3 c.4
take_data (DataStart d) w p ts ds c = take_name_start d c.0 w p ts c.1 ds c.2 c.3
take_data (DataParameter d) w p ts ds c = head (step_data (DataParameter d)) ds c.2 c.3
take_data (DataParameterEnd d) w p ts ds c = take_further_names d c.0 w p ts c.1 ds c.2 c.3
take_data (DataOpen d) w p ts ds c = head (step_data (DataOpen d)) ds c.1.1 c.2
take_data (ConstructorFirst d) w p ts ds c = take_constructor d w p ts ds c
take_data (ConstructorNext d) w p ts ds c = take_constructor_next d w p ts ds c
take_data (ConstructorStart d n q) w p ts ds c = take_constructor_start d n q c.0 w p ts c.1 ds c.2 c.3
take_data (ConstructorEnd d) w p ts ds c = take_constructor_end d w p ts ds c

pub give_data : (h : DataHeading) (w : Word) (p : Place) (ts : List Token) (ds : List Declaration) → Fits (step_data h w p) ts ds → InDataFrom h (token w p ∷ ts) ds
give_data DataName w p ts ds c = give_data_name w p ts ds c
give_data (DataStart d) w p ts ds c = give_data_start d w p ts ds c
give_data (DataParameter d) w p ts ds c = give_data_parameter d w p ts ds c
give_data (DataParameterEnd d) w p ts ds c = give_data_parameter_end d w p ts ds c
give_data (DataOpen d) w p ts ds c = give_data_open d w p ts ds c
give_data (ConstructorFirst d) w p ts ds c = give_constructor d w p ts ds c
give_data (ConstructorNext d) w p ts ds c = give_constructor_next d w p ts ds c
give_data (ConstructorStart d n q) w p ts ds c = give_constructor_start d n q w p ts ds c
give_data (ConstructorEnd d) w p ts ds c = give_constructor_end d w p ts ds c
