-- The rows of types, and of the binds of lets.
use Rattle.std.proofs.Common.{◌≡◌, Bool, List, [], ◌∷◌, ◌++◌, Some, inl, inr, refl, sym, subst}
use Rattle.fip_language.specs.declared.Place.{Place}
use Rattle.fip_language.specs.Core.{Name, Written, WrittenName, Writtens, NoWritten, MoreWritten, Result, OneResult, TupleResult, SignatureParameter, Data}
use Rattle.fip_language.specs.Surface.{Bind, Parameter, Declaration}
use Rattle.fip_grammar.specs.declared.Sign.TheVariants as S
use Rattle.fip_grammar.specs.Token.{Word, Lower, Mark, Token, token}
use Rattle.fip_grammar.specs.Grammar.{FurtherTypeList, BindName, Annotation, Bind', FurtherBinds, FurtherSignatureParameters, FurtherParameters, TypeArguments, FurtherTypes}
use Rattle.fip_grammar.specs.Machine.{FunctionHead, SignatureHead, ResultOwner, Body, Binds, OpenType, TypePosition, TypeUse, OfSignature, OfFunction, Bracketed, LetEquals, TypeNamed, TypeDone, ForField, ForSignatureParameter, ForParameter, ForResult, ForResultPart, ForAnnotation, ForStaticArgument, Alone, TypeWanted, onto_types, in_body, with_parameter, with_signature_parameter, with_signature, with_constructor, let_equals, is_empty, refused_where, end_bind, bind_start, after_one_result, after_tuple_result, after_type, type_done, step_type}
use Rattle.fip_grammar.proofs.Residual.{AtLeastTwo, FromColon, more_parameters, AfterParameter, AfterResult, more_signature, SignatureColonFrom, AfterConstructor, new_constructor, EqualsFrom, AfterBind, CallFrom, AfterUse, AfterType, InTypeFrom, Fits}
use Rattle.fip_grammar.proofs.Lists.{on, off, none_on, none_off, types_snoc}
use Rattle.fip_grammar.proofs.Functions.{head, take_type, give_type, take_static_end, give_static_end, take_body_open, give_body_open}

two : {A : Type 0} (x : A) (xs : List A) (y : A) (more : List A) → AtLeastTwo ((x ∷ xs) ++ (y ∷ more))
two x [] y more = tt
two x (z ∷ zs) y more = tt

-- The binds of lets.

pub take_let_equals : (b : Body) (bs : List Bind) (w : Word) (p : Place) (ts : List Token) (ds : List Declaration) → EqualsFrom b bs (token w p ∷ ts) ds → Fits (let_equals bs b w) ts ds
take_let_equals b bs w p ts ds c = head (λ w p. let_equals bs b w) ds c.1.1 c.2

pub give_let_equals : (b : Body) (bs : List Bind) (w : Word) (p : Place) (ts : List Token) (ds : List Declaration) → Fits (let_equals bs b w) ts ds → EqualsFrom b bs (token w p ∷ ts) ds
give_let_equals b bs (Mark S.Equals) p ts ds c = (ts, (p, refl), c)
give_let_equals b bs _ p ts ds c = absurd c

take_binds_close : (b : Body) (done : List Bind) (x : Bind) (w : Word) (p q : Place) (ts rest : List Token) (ds : List Declaration) → token w p ∷ ts ≡ token (Mark S.RoundClose) q ∷ rest → AtLeastTwo (done ++ x ∷ []) → EqualsFrom b (done ++ x ∷ []) rest ds → Fits (end_bind b (Bracketed done) x w) ts ds
take_binds_close b [] x w p q ts rest ds e l k = absurd l
take_binds_close b (y ∷ ys) x w p q ts rest ds e l k = head (λ w p. end_bind b (Bracketed (y ∷ ys)) x w) ds e k

take_further_binds : (b : Body) (done more : List Bind) (x : Bind) (w : Word) (p : Place) (ts rest : List Token) (ds : List Declaration) → FurtherBinds (token w p ∷ ts) more rest → AtLeastTwo (done ++ x ∷ more) → EqualsFrom b (done ++ x ∷ more) rest ds → Fits (end_bind b (Bracketed done) x w) ts ds
take_further_binds b done [] x w p ts rest ds c l k = take_binds_close b done x w p c.0 ts rest ds c.1 l k
take_further_binds b done (y ∷ more) x w p ts rest ds c l k = head (λ w p. end_bind b (Bracketed done) x w) ds c.2.1 (y, c.1, c.3, (more, rest, c.4, on AtLeastTwo done x (y ∷ more) l, on (λ l. EqualsFrom b l rest ds) done x (y ∷ more) k))

pub take_end_bind : (b : Body) (bs : Binds) (x : Bind) (w : Word) (p : Place) (ts : List Token) (ds : List Declaration) → AfterBind b bs x (token w p ∷ ts) ds → Fits (end_bind b bs x w) ts ds
take_end_bind b Alone x w p ts ds c = take_let_equals b (x ∷ []) w p ts ds c
take_end_bind b (Bracketed done) x w p ts ds c = take_further_binds b done c.0 x w p ts c.1 ds c.2 c.3 c.4

give_binds_close : (b : Body) (done : List Bind) (x : Bind) (p : Place) (ts : List Token) (ds : List Declaration) → Fits (refused_where (is_empty done) (in_body (LetEquals (done ++ x ∷ [])) b)) ts ds → AfterBind b (Bracketed done) x (token (Mark S.RoundClose) p ∷ ts) ds
give_binds_close b [] x p ts ds c = absurd c
give_binds_close b (y ∷ ys) x p ts ds c = ([], ts, (p, refl), two y ys x [], c)

pub give_end_bind : (b : Body) (bs : Binds) (x : Bind) (w : Word) (p : Place) (ts : List Token) (ds : List Declaration) → Fits (end_bind b bs x w) ts ds → AfterBind b bs x (token w p ∷ ts) ds
give_end_bind b Alone x w p ts ds c = give_let_equals b (x ∷ []) w p ts ds c
give_end_bind b (Bracketed done) x (Mark S.Comma) p ts ds c =
    let k = c.3 in
    (c.0 ∷ k.0, k.1, (ts, c.1, (p, refl), c.2, k.2), off AtLeastTwo done x (c.0 ∷ k.0) k.3, off (λ l. EqualsFrom b l k.1 ds) done x (c.0 ∷ k.0) k.4)
give_end_bind b (Bracketed done) x (Mark S.RoundClose) p ts ds c = give_binds_close b done x p ts ds c
give_end_bind b (Bracketed done) x _ p ts ds c = absurd c

pub take_bind_start : (b : Body) (bs : Binds) (x : Bind) (w : Word) (p : Place) (ts after end : List Token) (ds : List Declaration) → BindName (token w p ∷ ts) x.name x.place after → Annotation after x.annotation end → AfterBind b bs x end ds → Fits (bind_start bs b w p) ts ds
take_bind_start b bs x w p ts after end ds (inl e) c k = head (bind_start bs b) ds e (x.annotation, end, c, k)
take_bind_start b bs x w p ts after end ds (inr e) c k =
    head (bind_start bs b) ds e.0 (x.annotation, end, c, subst (λ n. AfterBind b bs (record { name = n; place = x.place; annotation = x.annotation }) end ds) e.1 k)

pub give_bind_start : (b : Body) (bs : Binds) (w : Word) (p : Place) (ts : List Token) (ds : List Declaration) → Fits (bind_start bs b w p) ts ds → (x : Bind) × (after : List Token) × Bind' (token w p ∷ ts) x after × AfterBind b bs x after ds
give_bind_start b bs (Lower n) p ts ds c = (record { name = n; place = p; annotation = c.0 }, c.1, (ts, inl refl, c.2), c.3)
give_bind_start b bs (Mark S.Underscore) p ts ds c = (record { name = 95 ∷ []; place = p; annotation = c.0 }, c.1, (ts, inr (refl, refl), c.2), c.3)
give_bind_start b bs _ p ts ds c = absurd c

-- After an outermost type.

take_fields : (d : Data) (n : Name) (q : Place) (fs more : List Written) (t : Written) (w : Word) (p : Place) (ts after : List Token) (ds : List Declaration) → FurtherTypeList S.RoundClose (token w p ∷ ts) more after → AfterConstructor (with_constructor d (new_constructor n q (fs ++ t ∷ more))) after ds → Fits (after_type (ForField d n q fs) t w) ts ds
take_fields d n q fs [] t w p ts after ds c k = head (λ w p. after_type (ForField d n q fs) t w) ds c.1 k
take_fields d n q fs (u ∷ more) t w p ts after ds c k = head (λ w p. after_type (ForField d n q fs) t w) ds c.2.1 (u, c.1, c.3, (more, after, c.4, on (λ l. AfterConstructor (with_constructor d (new_constructor n q l)) after ds) fs t (u ∷ more) k))

take_signature_parameters : (h : FunctionHead) (g : SignatureHead) (lent : Bool) (t : Written) (ps : List SignatureParameter) (w : Word) (p : Place) (ts colon : List Token) (ds : List Declaration) → FurtherSignatureParameters (token w p ∷ ts) ps colon → SignatureColonFrom h (more_signature (with_signature_parameter g (record { lent = lent; type = t })) ps) colon ds → Fits (after_type (ForSignatureParameter h g lent) t w) ts ds
take_signature_parameters h g lent t [] w p ts colon ds c k = head (λ w p. after_type (ForSignatureParameter h g lent) t w) ds c.1 (none_on (λ l. SignatureColonFrom h (record g { parameters = l }) colon ds) (with_signature_parameter g (record { lent = lent; type = t })).parameters k)
take_signature_parameters h g lent t (q ∷ ps) w p ts colon ds c k = head (λ w p. after_type (ForSignatureParameter h g lent) t w) ds c.2.1 (q, c.1, c.3, (ps, colon, c.4, on (λ l. SignatureColonFrom h (record g { parameters = l }) colon ds) (with_signature_parameter g (record { lent = lent; type = t })).parameters q ps k))

take_parameters : (h : FunctionHead) (x : Parameter) (ps : List Parameter) (w : Word) (p : Place) (ts colon : List Token) (ds : List Declaration) → FurtherParameters (token w p ∷ ts) ps colon → FromColon (more_parameters (with_parameter h x) ps) colon ds → Fits (after_type (ForParameter h x.lent x.name x.place) x.type w) ts ds
take_parameters h x [] w p ts colon ds c k = head (λ w p. after_type (ForParameter h x.lent x.name x.place) x.type w) ds c.1 (none_on (λ l. FromColon (record h { parameters = l }) colon ds) (with_parameter h x).parameters k)
take_parameters h x (q ∷ ps) w p ts colon ds c k = head (λ w p. after_type (ForParameter h x.lent x.name x.place) x.type w) ds c.2.1 (q, c.1, c.3, (ps, colon, c.4, on (λ l. FromColon (record h { parameters = l }) colon ds) (with_parameter h x).parameters q ps k))

take_one_result : (o : ResultOwner) (r : Result) (w : Word) (p : Place) (ts : List Token) (ds : List Declaration) → AfterResult o r (token w p ∷ ts) ds → Fits (after_one_result o r w) ts ds
take_one_result (OfFunction h) r w p ts ds c = take_body_open h r w p ts ds c
take_one_result (OfSignature h g) r w p ts ds c = take_static_end (with_signature h g r) w p ts ds c

give_one_result : (o : ResultOwner) (r : Result) (w : Word) (p : Place) (ts : List Token) (ds : List Declaration) → Fits (after_one_result o r w) ts ds → AfterResult o r (token w p ∷ ts) ds
give_one_result (OfFunction h) r w p ts ds c = give_body_open h r w p ts ds c
give_one_result (OfSignature h g) r w p ts ds c = give_static_end (with_signature h g r) w p ts ds c

take_tuple_result : (o : ResultOwner) (r : Result) (ts : List Token) (ds : List Declaration) → AfterResult o r ts ds → Fits (after_tuple_result o r) ts ds
take_tuple_result (OfFunction h) r ts ds c = c
take_tuple_result (OfSignature h g) r ts ds c = c

give_tuple_result : (o : ResultOwner) (r : Result) (ts : List Token) (ds : List Declaration) → Fits (after_tuple_result o r) ts ds → AfterResult o r ts ds
give_tuple_result (OfFunction h) r ts ds c = c
give_tuple_result (OfSignature h g) r ts ds c = c

take_parts_close : (o : ResultOwner) (q : Place) (parts : List Written) (t : Written) (w : Word) (p p' : Place) (ts rest : List Token) (ds : List Declaration) → token w p ∷ ts ≡ token (Mark S.RoundClose) p' ∷ rest → AtLeastTwo (parts ++ t ∷ []) → AfterResult o (TupleResult q (parts ++ t ∷ [])) rest ds → Fits (after_type (ForResultPart o q parts) t w) ts ds
take_parts_close o q [] t w p p' ts rest ds e l k = absurd l
take_parts_close o q (y ∷ ys) t w p p' ts rest ds e l k = head (λ w p. after_type (ForResultPart o q (y ∷ ys)) t w) ds e (take_tuple_result o (TupleResult q ((y ∷ ys) ++ t ∷ [])) rest ds k)

take_parts : (o : ResultOwner) (q : Place) (parts more : List Written) (t : Written) (w : Word) (p : Place) (ts rest : List Token) (ds : List Declaration) → FurtherTypeList S.RoundClose (token w p ∷ ts) more rest → AtLeastTwo (parts ++ t ∷ more) → AfterResult o (TupleResult q (parts ++ t ∷ more)) rest ds → Fits (after_type (ForResultPart o q parts) t w) ts ds
take_parts o q parts [] t w p ts rest ds c l k = take_parts_close o q parts t w p c.0 ts rest ds c.1 l k
take_parts o q parts (u ∷ more) t w p ts rest ds c l k = head (λ w p. after_type (ForResultPart o q parts) t w) ds c.2.1 (u, c.1, c.3, (more, rest, c.4, on AtLeastTwo parts t (u ∷ more) l, on (λ l. AfterResult o (TupleResult q l) rest ds) parts t (u ∷ more) k))

take_statics : (b : Body) (n : Name) (q : Place) (st : List Written) (t : Written) (more : Writtens) (w : Word) (p : Place) (ts after : List Token) (ds : List Declaration) → FurtherTypes S.SquareClose (token w p ∷ ts) more after → CallFrom b n q (onto_types st (MoreWritten t more)) after ds → Fits (after_type (ForStaticArgument b n q st) t w) ts ds
take_statics b n q st t NoWritten w p ts after ds c k = head (λ w p. after_type (ForStaticArgument b n q st) t w) ds c.1 (subst (λ l. CallFrom b n q l after ds) (sym (types_snoc st t NoWritten)) k)
take_statics b n q st t (MoreWritten u more) w p ts after ds c k = head (λ w p. after_type (ForStaticArgument b n q st) t w) ds c.2.1 (u, c.1, c.3, (more, after, c.4, subst (λ l. CallFrom b n q l after ds) (sym (types_snoc st t (MoreWritten u more))) k))

take_after_type : (u : TypeUse) (t : Written) (w : Word) (p : Place) (ts : List Token) (ds : List Declaration) → AfterUse u t (token w p ∷ ts) ds → Fits (after_type u t w) ts ds
take_after_type (ForField d n q fs) t w p ts ds c = take_fields d n q fs c.0 t w p ts c.1 ds c.2 c.3
take_after_type (ForSignatureParameter h g lent) t w p ts ds c = take_signature_parameters h g lent t c.0 w p ts c.1 ds c.2 c.3
take_after_type (ForParameter h lent n q) t w p ts ds c = take_parameters h (record { lent = lent; name = n; place = q; type = t }) c.0 w p ts c.1 ds c.2 c.3
take_after_type (ForResult o) t w p ts ds c = take_one_result o (OneResult t) w p ts ds c
take_after_type (ForResultPart o q parts) t w p ts ds c = take_parts o q parts c.0 t w p ts c.1 ds c.2 c.3 c.4
take_after_type (ForAnnotation b bs n q) t w p ts ds c = take_end_bind b bs (record { name = n; place = q; annotation = Some t }) w p ts ds c
take_after_type (ForStaticArgument b n q st) t w p ts ds c = take_statics b n q st t c.0 w p ts c.1 ds c.2 c.3

give_fields : (d : Data) (n : Name) (q : Place) (fs : List Written) (t : Written) (w : Word) (p : Place) (ts : List Token) (ds : List Declaration) → Fits (after_type (ForField d n q fs) t w) ts ds → AfterUse (ForField d n q fs) t (token w p ∷ ts) ds
give_fields d n q fs t (Mark S.Comma) p ts ds c =
    let k = c.3 in
    (c.0 ∷ k.0, k.1, (ts, c.1, (p, refl), c.2, k.2), off (λ l. AfterConstructor (with_constructor d (new_constructor n q l)) k.1 ds) fs t (c.0 ∷ k.0) k.3)
give_fields d n q fs t (Mark S.RoundClose) p ts ds c = ([], ts, (p, refl), c)
give_fields d n q fs t _ p ts ds c = absurd c

give_signature_parameters : (h : FunctionHead) (g : SignatureHead) (lent : Bool) (t : Written) (w : Word) (p : Place) (ts : List Token) (ds : List Declaration) → Fits (after_type (ForSignatureParameter h g lent) t w) ts ds → AfterUse (ForSignatureParameter h g lent) t (token w p ∷ ts) ds
give_signature_parameters h g lent t (Mark S.Comma) p ts ds c =
    let k = c.3 in
    (c.0 ∷ k.0, k.1, (ts, c.1, (p, refl), c.2, k.2), off (λ l. SignatureColonFrom h (record g { parameters = l }) k.1 ds) (with_signature_parameter g (record { lent = lent; type = t })).parameters c.0 k.0 k.3)
give_signature_parameters h g lent t (Mark S.RoundClose) p ts ds c = ([], ts, (p, refl), none_off (λ l. SignatureColonFrom h (record g { parameters = l }) ts ds) (with_signature_parameter g (record { lent = lent; type = t })).parameters c)
give_signature_parameters h g lent t _ p ts ds c = absurd c

give_parameters : (h : FunctionHead) (x : Parameter) (w : Word) (p : Place) (ts : List Token) (ds : List Declaration) → Fits (after_type (ForParameter h x.lent x.name x.place) x.type w) ts ds → AfterParameter (with_parameter h x) (token w p ∷ ts) ds
give_parameters h x (Mark S.Comma) p ts ds c =
    let k = c.3 in
    (c.0 ∷ k.0, k.1, (ts, c.1, (p, refl), c.2, k.2), off (λ l. FromColon (record h { parameters = l }) k.1 ds) (with_parameter h x).parameters c.0 k.0 k.3)
give_parameters h x (Mark S.RoundClose) p ts ds c = ([], ts, (p, refl), none_off (λ l. FromColon (record h { parameters = l }) ts ds) (with_parameter h x).parameters c)
give_parameters h x _ p ts ds c = absurd c

give_parts_close : (o : ResultOwner) (q : Place) (parts : List Written) (t : Written) (p : Place) (ts : List Token) (ds : List Declaration) → Fits (refused_where (is_empty parts) (after_tuple_result o (TupleResult q (parts ++ t ∷ [])))) ts ds → AfterUse (ForResultPart o q parts) t (token (Mark S.RoundClose) p ∷ ts) ds
give_parts_close o q [] t p ts ds c = absurd c
give_parts_close o q (y ∷ ys) t p ts ds c = ([], ts, (p, refl), two y ys t [], give_tuple_result o (TupleResult q ((y ∷ ys) ++ t ∷ [])) ts ds c)

give_parts : (o : ResultOwner) (q : Place) (parts : List Written) (t : Written) (w : Word) (p : Place) (ts : List Token) (ds : List Declaration) → Fits (after_type (ForResultPart o q parts) t w) ts ds → AfterUse (ForResultPart o q parts) t (token w p ∷ ts) ds
give_parts o q parts t (Mark S.Comma) p ts ds c =
    let k = c.3 in
    (c.0 ∷ k.0, k.1, (ts, c.1, (p, refl), c.2, k.2), off AtLeastTwo parts t (c.0 ∷ k.0) k.3, off (λ l. AfterResult o (TupleResult q l) k.1 ds) parts t (c.0 ∷ k.0) k.4)
give_parts o q parts t (Mark S.RoundClose) p ts ds c = give_parts_close o q parts t p ts ds c
give_parts o q parts t _ p ts ds c = absurd c

give_statics : (b : Body) (n : Name) (q : Place) (st : List Written) (t : Written) (w : Word) (p : Place) (ts : List Token) (ds : List Declaration) → Fits (after_type (ForStaticArgument b n q st) t w) ts ds → AfterUse (ForStaticArgument b n q st) t (token w p ∷ ts) ds
give_statics b n q st t (Mark S.Comma) p ts ds c =
    let k = c.3 in
    (MoreWritten c.0 k.0, k.1, (ts, c.1, (p, refl), c.2, k.2), subst (λ l. CallFrom b n q l k.1 ds) (types_snoc st t (MoreWritten c.0 k.0)) k.3)
give_statics b n q st t (Mark S.SquareClose) p ts ds c = (NoWritten, ts, (p, refl), subst (λ l. CallFrom b n q l ts ds) (types_snoc st t NoWritten) c)
give_statics b n q st t _ p ts ds c = absurd c

give_after_type : (u : TypeUse) (t : Written) (w : Word) (p : Place) (ts : List Token) (ds : List Declaration) → Fits (after_type u t w) ts ds → AfterUse u t (token w p ∷ ts) ds
give_after_type (ForField d n q fs) t w p ts ds c = give_fields d n q fs t w p ts ds c
give_after_type (ForSignatureParameter h g lent) t w p ts ds c = give_signature_parameters h g lent t w p ts ds c
give_after_type (ForParameter h lent n q) t w p ts ds c = give_parameters h (record { lent = lent; name = n; place = q; type = t }) w p ts ds c
give_after_type (ForResult o) t w p ts ds c = give_one_result o (OneResult t) w p ts ds c
give_after_type (ForResultPart o q parts) t w p ts ds c = give_parts o q parts t w p ts ds c
give_after_type (ForAnnotation b bs n q) t w p ts ds c = give_end_bind b bs (record { name = n; place = q; annotation = Some t }) w p ts ds c
give_after_type (ForStaticArgument b n q st) t w p ts ds c = give_statics b n q st t w p ts ds c

-- After a type.

abbrev whole : OpenType → Writtens → Written
whole o ws = WrittenName o.name o.place (onto_types o.done ws)

take_arguments : (o : OpenType) (os : List OpenType) (u : TypeUse) (t : Written) (more : Writtens) (w : Word) (p : Place) (ts after : List Token) (ds : List Declaration) → FurtherTypes S.SquareClose (token w p ∷ ts) more after → AfterType os u (whole o (MoreWritten t more)) after ds → Fits (type_done (o ∷ os) u t w) ts ds
take_arguments o os u t NoWritten w p ts after ds c k = head (λ w p. type_done (o ∷ os) u t w) ds c.1 (subst (λ l. AfterType os u (WrittenName o.name o.place l) after ds) (sym (types_snoc o.done t NoWritten)) k)
take_arguments o os u t (MoreWritten x more) w p ts after ds c k = head (λ w p. type_done (o ∷ os) u t w) ds c.2.1 (x, c.1, c.3, (more, after, c.4, subst (λ l. AfterType os u (WrittenName o.name o.place l) after ds) (sym (types_snoc o.done t (MoreWritten x more))) k))

take_type_done : (o : List OpenType) (u : TypeUse) (t : Written) (w : Word) (p : Place) (ts : List Token) (ds : List Declaration) → AfterType o u t (token w p ∷ ts) ds → Fits (type_done o u t w) ts ds
take_type_done [] u t w p ts ds c = take_after_type u t w p ts ds c
take_type_done (o ∷ os) u t w p ts ds c = take_arguments o os u t c.0 w p ts c.1 ds c.2 c.3

give_arguments : (o : OpenType) (os : List OpenType) (u : TypeUse) (t : Written) (w : Word) (p : Place) (ts : List Token) (ds : List Declaration) → Fits (type_done (o ∷ os) u t w) ts ds → AfterType (o ∷ os) u t (token w p ∷ ts) ds
give_arguments o os u t (Mark S.Comma) p ts ds c =
    let k = c.3 in
    (MoreWritten c.0 k.0, k.1, (ts, c.1, (p, refl), c.2, k.2), subst (λ l. AfterType os u (WrittenName o.name o.place l) k.1 ds) (types_snoc o.done t (MoreWritten c.0 k.0)) k.3)
give_arguments o os u t (Mark S.SquareClose) p ts ds c = (NoWritten, ts, (p, refl), subst (λ l. AfterType os u (WrittenName o.name o.place l) ts ds) (types_snoc o.done t NoWritten) c)
give_arguments o os u t _ p ts ds c = absurd c

give_type_done : (o : List OpenType) (u : TypeUse) (t : Written) (w : Word) (p : Place) (ts : List Token) (ds : List Declaration) → Fits (type_done o u t w) ts ds → AfterType o u t (token w p ∷ ts) ds
give_type_done [] u t w p ts ds c = give_after_type u t w p ts ds c
give_type_done (o ∷ os) u t w p ts ds c = give_arguments o os u t w p ts ds c

no_square : (o : List OpenType) (u : TypeUse) (t : Written) (p : Place) (ts : List Token) (ds : List Declaration) → Fits (type_done o u t (Mark S.SquareOpen)) ts ds → ⊥
no_square (o ∷ os) u t p ts ds c = c
no_square [] (ForField d n q fs) t p ts ds c = c
no_square [] (ForSignatureParameter h g lent) t p ts ds c = c
no_square [] (ForParameter h lent n q) t p ts ds c = c
no_square [] (ForResult (OfFunction h)) t p ts ds c = c
no_square [] (ForResult (OfSignature h g)) t p ts ds c = c
no_square [] (ForResultPart o q parts) t p ts ds c = c
no_square [] (ForAnnotation b Alone n q) t p ts ds c = c
no_square [] (ForAnnotation b (Bracketed done) n q) t p ts ds c = c
no_square [] (ForStaticArgument b n q st) t p ts ds c = c

take_named : (n : Name) (q : Place) (o : List OpenType) (u : TypeUse) (args : Writtens) (w : Word) (p : Place) (ts after : List Token) (ds : List Declaration) → TypeArguments (token w p ∷ ts) args after → AfterType o u (WrittenName n q args) after ds → Fits (step_type (TypeNamed n q) o u w p) ts ds
take_named n q o u (MoreWritten t more) w p ts after ds c k = head (step_type (TypeNamed n q) o u) ds c.2.1 (t, c.1, c.3, (more, after, c.4, k))
take_named n q o u NoWritten (Mark S.SquareOpen) p ts after ds c k = absurd (no_square o u (WrittenName n q NoWritten) p ts ds (take_type_done o u (WrittenName n q NoWritten) (Mark S.SquareOpen) p ts ds (subst (λ l. AfterType o u (WrittenName n q NoWritten) l ds) (sym c) k)))
take_named n q o u NoWritten w p ts after ds c k = take_type_done o u (WrittenName n q NoWritten) w p ts ds (subst (λ l. AfterType o u (WrittenName n q NoWritten) l ds) (sym c) k)

give_named : (n : Name) (q : Place) (o : List OpenType) (u : TypeUse) (w : Word) (p : Place) (ts : List Token) (ds : List Declaration) → Fits (step_type (TypeNamed n q) o u w p) ts ds → InTypeFrom (TypeNamed n q) o u (token w p ∷ ts) ds
give_named n q o u (Mark S.SquareOpen) p ts ds c = let k = c.3 in (MoreWritten c.0 k.0, k.1, (ts, c.1, (p, refl), c.2, k.2), k.3)
give_named n q o u w p ts ds c = (NoWritten, token w p ∷ ts, refl, give_type_done o u (WrittenName n q NoWritten) w p ts ds c)

pub take_in_type : (x : TypePosition) (o : List OpenType) (u : TypeUse) (w : Word) (p : Place) (ts : List Token) (ds : List Declaration) → InTypeFrom x o u (token w p ∷ ts) ds → Fits (step_type x o u w p) ts ds
take_in_type TypeWanted o u w p ts ds c = take_type o u c.0 w p ts c.1 ds c.2 c.3
take_in_type (TypeNamed n q) o u w p ts ds c = take_named n q o u c.0 w p ts c.1 ds c.2 c.3
take_in_type (TypeDone t) o u w p ts ds c = take_type_done o u t w p ts ds c

pub give_in_type : (x : TypePosition) (o : List OpenType) (u : TypeUse) (w : Word) (p : Place) (ts : List Token) (ds : List Declaration) → Fits (step_type x o u w p) ts ds → InTypeFrom x o u (token w p ∷ ts) ds
give_in_type TypeWanted o u w p ts ds c = give_type o u w p ts ds c
give_in_type (TypeNamed n q) o u w p ts ds c = give_named n q o u w p ts ds c
give_in_type (TypeDone t) o u w p ts ds c = give_type_done o u t w p ts ds c
