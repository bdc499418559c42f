-- A typed body whose numbers mean something is as the derivation requires it.
use Rattle.std.proofs.Common.{◌≡◌, ℕ, zero, suc, ◌<◌, ◌≤◌, ◌+◌, inl, inr, refl, sym, ap, subst, ◌∙◌, List, [], ◌∷◌, ◌++◌, length, map, Option, Some, None, Bool, true, false, not, arith}
use Rattle.std.specs.Prelude.{◌==◌, slice_get, if◌then◌else◌}
use Rattle.std.proofs.lemmas.Bool.Decides.{nat_tests}
use Rattle.type_check.specs.fip_language.declared.FunKind.{FunKind}
use Rattle.type_check.specs.fip_language.Table.{is_scalar}
use Rattle.derivation_check.specs.fip_base.declared.plain.Param.{Param}
use Rattle.derivation_check.specs.fip_trees.declared.program.Binder.{Binder}
use Rattle.derivation_check.specs.fip_trees.Tree.{Program, Instance, Argument, Variable, Literal, Constructor, Arguments, NoArguments, MoreArguments, count, Pattern, BinderPattern, LiteralPattern, ConstructorPattern, Patterns, NoPatterns, MorePatterns, Expression, Give, Tuple, Operation, Call, Match, Nested, Block, Last, Let, Clauses, NoClauses, MoreClauses}
use Rattle.ownership_agreement.specs.fip_rules.World as F
use Rattle.ownership_agreement.specs.fip_rules.World.{is_ruled}
use Rattle.ownership_agreement.specs.fip_rules.Shapes.{binders, binders_all, takes}
use Rattle.type_check.specs.Found.{or_found}
use Rattle.type_check.specs.Binders.{all_annotated, entries, entry}
use Rattle.type_check.specs.Scope as S
use Rattle.type_check.specs.Scope.{look, or_else, of_binder}
use Rattle.type_check.specs.World.{World, Head, world, is_of, chosen, fields_of, field_types, head, head_of, head_or_none, type_of}
use Rattle.type_check.specs.Typing.{bound_by, bound_by_all, HasType, HaveTypes, IsPattern, ArePatterns, Annotated, Bind, Types, TypesBlock, TypesClauses, parameter_entries, Typed, AllTyped}
use Rattle.ownership_agreement.specs.Sized.{IsVariable, SizedArgument, SizedArguments, SizedExpression, SizedBlock, SizedClauses, IsSized}
use Rattle.ownership_agreement.specs.Agreement.{AreSized}
use Rattle.derivation_check.specs.Scopes.{Known, known, named, parameters, AreNumbered, within, within_block}
use Rattle.derivation_check.specs.Calculus.{Choice, IsScalar, Operand, Plain}
use Rattle.derivation_making.specs.Fitting.{IsThere, FitsValue, FitValues, FitsLent, FitPassed, FitsCall, IsScrutinised, FitsScrutinee, Fitting, FittingBlock, FittingClauses, IsFitting, AreFitting}
use Rattle.derivation_making.specs.Numbered.{Numbered, NumberedBlock, NumberedClauses, IsNumbered, AllNumbered}
use Rattle.derivation_making.proofs.Lists.{either, not_both, same_number}
use Rattle.derivation_making.proofs.Linking.{known_here, known_after}
use Rattle.type_check.proofs.fip_language.Facts.{some_some_same as some_type}
use Rattle.type_check.proofs.Basics.{chosen_is}

-- what typing knows of a variable is what the derivation's scope knows; c binders are before
abbrev pub Alike : S.Scope → List Known → ℕ → Type 0
Alike s vs c = (x t : ℕ) → look s x ≡ Some (Some t) → (x < c) × ((v : Known) × (known vs x ≡ Some v) × (v.ty ≡ t))

-- ---- looking up

else_none : (o : Option (Option ℕ)) → or_else o None ≡ o
else_none None = refl
else_none (Some t) = refl

else_here : (o p : Option (Option ℕ)) (t : Option ℕ) → o ≡ Some t → or_else o p ≡ Some t
else_here None p t e = absurd (cc)
else_here (Some u) p t e = e

else_last : (o p : Option (Option ℕ)) → o ≡ None → or_else o p ≡ p
else_last None p e = refl
else_last (Some u) p e = absurd (cc)

look_after : (s es : S.Scope) (t : Option ℕ) (b : Binder) (x : ℕ) → (b.number == x) ≡ false → look (s ++ entry t b ∷ es) x ≡ look (s ++ es) x
look_after [] es t b x h = ap (λ (c : Bool). or_else (look es x) (if c then Some t else None)) h ∙ else_none (look es x)
look_after (z ∷ s) es t b x h = ap (λ (o : Option (Option ℕ)). or_else o (look (z ∷ []) x)) (look_after s es t b x h)

look_here : (s es : S.Scope) (t : Option ℕ) (b : Binder) (x : ℕ) → (b.number == x) ≡ true → look es x ≡ None → look (s ++ entry t b ∷ es) x ≡ Some t
look_here [] es t b x h n = ap (λ (c : Bool). or_else (look es x) (if c then Some t else None)) h ∙ else_last (look es x) (Some t) n
look_here (z ∷ s) es t b x h n = else_here (look (s ++ entry t b ∷ es) x) (look (z ∷ []) x) t (look_here s es t b x h n)

-- ---- binders

abbrev filled_entries : List Binder → S.Scope
filled_entries [] = []
filled_entries (b ∷ bs) = entry (Some b.ty) b ∷ filled_entries bs

apart : (n x : ℕ) → x < n → (n == x) ≡ false
apart n x l = grind (arith, nat_tests)

none_before : (n d x : ℕ) (bs : List Binder) → AreNumbered n d bs → x < n → look (filled_entries bs) x ≡ None
none_before n d x [] h l = refl
none_before n d x (b ∷ bs) h l =
    else_last (look (filled_entries bs) x) (if b.number == x then Some (Some b.ty) else None) (none_before (n + 1) (d + 1) x bs h.2 (omega arith))
    ∙ ap (λ (c : Bool). if c then Some (Some b.ty) else None) (ap (λ m. m == x) h.0 ∙ apart n x l)

alike_later : (s : S.Scope) (vs : List Known) (c e : ℕ) → c ≤ e → Alike s vs c → Alike s vs e
alike_later s vs c e l h x t k = let g = h x t k in ((let a = g.0 in omega arith), g.1)

pub alike_binders : (own : Bool) (s : S.Scope) (vs : List Known) (c d e : ℕ) (bs : List Binder) → AreNumbered c d bs → Alike s vs c → c + length bs ≤ e → Alike (s ++ filled_entries bs) (named d own bs ++ vs) e
alike_binders own s vs c d e [] n h l x t k = alike_later s vs c e (omega arith) h x t (ap (λ z. look z x) (sym (append_nil s)) ∙ k)
  where
    append_nil : (xs : S.Scope) → xs ++ [] ≡ xs
    append_nil [] = refl
    append_nil (z ∷ xs) = ap (λ (ys : S.Scope). z ∷ ys) (append_nil xs)
alike_binders own s vs c d e (b ∷ bs) n h l x t k =
    let u : Known = record { binder = b.number; number = d; ty = b.ty; owned = own } in
    elim (either (b.number == x)) [
      | inl f ↦
          let i = same_number b.number x f in
          let j = n.0 in
          let m = look_here s (filled_entries bs) (Some b.ty) b x f (none_before (c + 1) (d + 1) x bs n.2 (omega arith)) in
          ((omega arith), (u, known_here u (named (d + 1) own bs ++ vs) x f, some_type b.ty t (sym m ∙ k)))
      | inr f ↦
          let g = alike_binders own s vs (c + 1) (d + 1) e bs n.2 (alike_later s vs c (c + 1) (omega arith) h) (omega arith) x t (sym (look_after s (filled_entries bs) (Some b.ty) b x f) ∙ k) in
          let v = g.1 in
          (g.0, (v.0, known_after u (named (d + 1) own bs ++ vs) x f ∙ v.1, v.2))
    ]

filled_append : (bs cs : List Binder) → filled_entries (bs ++ cs) ≡ filled_entries bs ++ filled_entries cs
filled_append [] cs = refl
filled_append (b ∷ bs) cs = ap (λ (es : S.Scope). entry (Some b.ty) b ∷ es) (filled_append bs cs)

same_scopes : (a b c d : S.Scope) → a ≡ c → b ≡ d → a ++ b ≡ c ++ d
same_scopes a b c d e f = cc

mutual
  pattern_entries : (w : World) (t : ℕ) (q : Pattern) → IsPattern true w t q → bound_by w (Some t) q ≡ filled_entries (binders q)
  pattern_entries w t (BinderPattern b) h = ap (λ (u : ℕ). entry (Some u) b ∷ []) (sym h)
  pattern_entries w t (LiteralPattern i p) h = refl
  pattern_entries w t (ConstructorPattern u d c n p ps) h = ap (λ (o : Option ℕ). bound_by_all w (field_types w o c) ps) (chosen_is w t d h.1) ∙ patterns_entries w (fields_of w t c) ps h.2

  patterns_entries : (w : World) (ts : List ℕ) (ps : Patterns) → ArePatterns true w ts ps → bound_by_all w (map Some ts) ps ≡ filled_entries (binders_all ps)
  patterns_entries w [] NoPatterns h = refl
  patterns_entries w [] (MorePatterns p ps) h = absurd h
  patterns_entries w (t ∷ ts) NoPatterns h = absurd h
  patterns_entries w (t ∷ ts) (MorePatterns p ps) h =
      same_scopes (bound_by w (Some t) p) (bound_by_all w (map Some ts) ps) (filled_entries (binders p)) (filled_entries (binders_all ps)) (pattern_entries w t p h.0) (patterns_entries w ts ps h.1)
      ∙ sym (filled_append (binders p) (binders_all ps))

annotated_is : (o : Option ℕ) (t u : ℕ) → Annotated o t → u ≡ t → or_found o (Some t) ≡ Some u
annotated_is None t u h e = cc
annotated_is (Some z) t u h e = cc

let_entries : (bs : List Binder) (us : List ℕ) → Bind true bs us → entries bs (map Some us) ≡ filled_entries bs
let_entries [] [] h = refl
let_entries [] (u ∷ us) h = absurd h
let_entries (b ∷ bs) [] h = absurd h
let_entries (b ∷ bs) (u ∷ us) h =
    ap (λ (o : Option ℕ). entry o b ∷ entries bs (map Some us)) (annotated_is b.annotation u b.ty h.0.0 h.0.1)
    ∙ ap (λ (es : S.Scope). entry (Some b.ty) b ∷ es) (let_entries bs us h.1)

-- ---- arguments

there_some : (o : Option Known) (v : Known) → o ≡ Some v → IsThere o
there_some None v e = absurd (cc)
there_some (Some u) v e = tt

mutual
  value_fits : (w : World) (s : S.Scope) (vs : List Known) (c : ℕ) (b : Bool) (a : Argument) (t : ℕ) → Alike s vs c → HasType true w s b a t → FitsValue vs a
  value_fits w s vs c b (Variable None n p) t l h = absurd (cc)
  value_fits w s vs c b (Variable (Some x) n p) t l h = let v = (l x t h).1 in there_some (known vs x) v.0 v.1
  value_fits w s vs c b (Literal i p) t l h = tt
  value_fits w s vs c b (Constructor u d k n p as') t l h = values_fit w s vs c true as' (fields_of w t k) l h.2

  values_fit : (w : World) (s : S.Scope) (vs : List Known) (c : ℕ) (b : Bool) (as' : Arguments) (ts : List ℕ) → Alike s vs c → HaveTypes true w s b as' ts → FitValues vs as'
  values_fit w s vs c b NoArguments ts l h = tt
  values_fit w s vs c b (MoreArguments a as') [] l h = absurd h
  values_fit w s vs c b (MoreArguments a as') (t ∷ ts) l h = (value_fits w s vs c b a t l h.0, values_fit w s vs c b as' ts l h.1)

scalar_some : (w : F.World) (o : Option Known) (v : Known) (t : ℕ) → o ≡ Some v → v.ty ≡ t → w.scalar t ≡ true → IsScalar w o
scalar_some w None v t e f h = absurd (cc)
scalar_some w (Some u) v t e f h = ap (λ (o : Option Known). scalar_of o) e ∙ ap w.scalar f ∙ h
  where
    scalar_of : Option Known → Bool
    scalar_of None = true
    scalar_of (Some z) = w.scalar z.ty

no_arguments : (as' : Arguments) → as' ≡ NoArguments → count as' ≡ 0
no_arguments as' e = ap count e

plain_fits : (p : Program) (f : FunKind) (s : S.Scope) (vs : List Known) (c : ℕ) (b : Bool) (a : Argument) (t : ℕ) → Alike s vs c → HasType true (world p) s b a t → SizedArgument p a → is_scalar p.types t ≡ true → Plain (F.world p f) vs a
plain_fits p f s vs c b (Variable None n q) t l h z e = absurd (cc)
plain_fits p f s vs c b (Variable (Some x) n q) t l h z e = let v = (l x t h).1 in scalar_some (F.world p f) (known vs x) v.0 t v.1 v.2 e
plain_fits p f s vs c b (Literal i q) t l h z e = tt
plain_fits p f s vs c b (Constructor u d k n q as') t l h z e = no_arguments as' (z.1 (ap (is_scalar p.types) h.0 ∙ e))

lent_fits : (p : Program) (f : FunKind) (s : S.Scope) (vs : List Known) (c : ℕ) (b : Bool) (a : Argument) (t : ℕ) → Alike s vs c → HasType true (world p) s b a t → is_scalar p.types t ≡ false → FitsLent (F.world p f) vs a
lent_fits p f s vs c b (Variable None n q) t l h e = absurd (cc)
lent_fits p f s vs c b (Variable (Some x) n q) t l h e = let v = (l x t h).1 in there_some (known vs x) v.0 v.1
lent_fits p f s vs c b (Literal i q) t l h e = absurd (not_both (is_scalar p.types t) (ap (is_scalar p.types) h) e)
lent_fits p f s vs c b (Constructor u d k n q as') t l h e = ap (is_scalar p.types) h.0 ∙ e

one_fits : (s1 l1 : Bool) (A B : Type 0) → (s1 ≡ true → A) → (s1 ≡ false → B) → Choice s1 A (Choice l1 B (Unit {0}))
one_fits true l1 A B f g = f refl
one_fits false true A B f g = g refl
one_fits false false A B f g = tt

passed_fit : (p : Program) (f : FunKind) (s : S.Scope) (vs : List Known) (c : ℕ) (ps : List Param) (as' : Arguments) → Alike s vs c → HaveTypes true (world p) s true as' (map type_of ps) → SizedArguments p as' → FitPassed (F.world p f) vs ps as'
passed_fit p f s vs c [] NoArguments l h z = tt
passed_fit p f s vs c [] (MoreArguments a as') l h z = absurd h
passed_fit p f s vs c (q ∷ ps) NoArguments l h z = absurd h
passed_fit p f s vs c (q ∷ ps) (MoreArguments a as') l h z = (
  value_fits (world p) s vs c true a q.ty l h.0,
  one_fits (is_scalar p.types q.ty) q.lent (Plain (F.world p f) vs a) (FitsLent (F.world p f) vs a) (plain_fits p f s vs c true a q.ty l h.0 z.0) (lent_fits p f s vs c true a q.ty l h.0),
  passed_fit p f s vs c ps as' l h.1 z.1,
)

operand_fits : (p : Program) (f : FunKind) (s : S.Scope) (vs : List Known) (c : ℕ) (a : Argument) → Alike s vs c → HasType true (world p) s true a 0 → Operand (F.world p f) vs a
operand_fits p f s vs c (Variable None n q) l h = absurd (cc)
operand_fits p f s vs c (Variable (Some x) n q) l h = let v = (l x 0 h).1 in scalar_some (F.world p f) (known vs x) v.0 0 v.1 v.2 refl
operand_fits p f s vs c (Literal i q) l h = tt
operand_fits p f s vs c (Constructor u d k n q as') l h = absurd (let e = h.1 in cc)

scrutinised : (w : F.World) (o : Option Known) (v : Known) (t u : ℕ) → o ≡ Some v → v.ty ≡ t → u ≡ t → IsScrutinised w u o
scrutinised w None v t u e f g = absurd (cc)
scrutinised w (Some z) v t u e f g = ap (λ (o : Option Known). scalar_of o) e ∙ ap w.scalar (f ∙ sym g)
  where
    scalar_of : Option Known → Bool
    scalar_of None = true
    scalar_of (Some y) = w.scalar y.ty

scrutinee_fits : (p : Program) (f : FunKind) (s : S.Scope) (vs : List Known) (c u t : ℕ) (b : Bool) (a : Argument) → Alike s vs c → HasType true (world p) s b a t → u ≡ t → IsVariable a → FitsScrutinee (F.world p f) vs u a
scrutinee_fits p f s vs c u t b (Variable None n q) l h e i = absurd (cc)
scrutinee_fits p f s vs c u t b (Variable (Some x) n q) l h e i = let v = (l x t h).1 in scrutinised (F.world p f) (known vs x) v.0 t u v.1 v.2 e
scrutinee_fits p f s vs c u t b (Literal j q) l h e i = absurd i
scrutinee_fits p f s vs c u t b (Constructor j d k n q as') l h e i = absurd i

-- ---- calls

instance_there : (is : List Instance) (g : ℕ) → g < length is → (e : Instance) × (slice_get is g ≡ Some e) × (slice_get (map head_of is) g ≡ Some (head_of e))
instance_there [] g l = absurd (omega arith)
instance_there (e ∷ is) zero l = (e, refl, refl)
instance_there (e ∷ is) (suc g) l = instance_there is g (omega arith)

call_fits : (p : Program) (f : FunKind) (s : S.Scope) (vs : List Known) (c g : ℕ) (as' : Arguments) → Alike s vs c → g < length p.instances → HaveTypes true (world p) s true as' (head (world p) g).parameters → SizedArguments p as' → FitsCall (F.world p f) vs (slice_get p.instances g) as'
call_fits p f s vs c g as' l m h z =
    let e = instance_there p.instances g m in
    subst (λ (o : Option Instance). FitsCall (F.world p f) vs o as') (sym e.1)
    (passed_fit p f s vs c e.0.params as' l (subst (λ (o : Option Head). HaveTypes true (world p) s true as' (head_or_none o).parameters) e.2 h) z)

-- ---- bodies

mutual
  body_fits : (p : Program) (f : FunKind) (s : S.Scope) (vs : List Known) (c d : ℕ) (b : Bool) (e : Expression) (ts : List ℕ) → Alike s vs c → Types true (world p) s b e ts → Numbered p c d e → SizedExpression p e → Fitting (F.world p f) vs c d e
  body_fits p f s vs c d b (Give a) ts l h n z = value_fits (world p) s vs c b a h.0 l h.2
  body_fits p f s vs c d b (Tuple q as') ts l h n z = values_fit (world p) s vs c b as' ts l h.1
  body_fits p f s vs c d b (Operation o q a1 a2) ts l h n z = (operand_fits p f s vs c a1 l h.1, operand_fits p f s vs c a2 l h.2)
  body_fits p f s vs c d b (Call g m q as') ts l h n z = call_fits p f s vs c g as' l n h.1 z.0
  body_fits p f s vs c d b (Match k u q a r body cs) ts l h n z =
      let own = takes (F.world p f) k u in
      let t = h.0 in (
        scrutinee_fits p f s vs c u t false a l h.2 h.1 z.0,
        n.0,
        block_fits p f (s ++ bound_by (world p) (Some t) r) (named d own (binders r) ++ vs) (c + length (binders r)) (d + length (binders r)) b body ts
            (subst (λ (es : S.Scope). Alike (s ++ es) (named d own (binders r) ++ vs) (c + length (binders r))) (sym (pattern_entries (world p) t r h.3)) (alike_binders own s vs c d (c + length (binders r)) (binders r) n.0 l (omega arith)))
            h.4 n.1 z.2,
        clauses_fit p f s vs c (c + length (binders r) + within_block body) (d + length (binders r) + within_block body) own t cs ts l (omega arith) h.5 n.2 z.3,
      )
  body_fits p f s vs c d b (Nested bl) ts l h n z = block_fits p f s vs c d b bl ts l h n z

  block_fits : (p : Program) (f : FunKind) (s : S.Scope) (vs : List Known) (c d : ℕ) (b : Bool) (bl : Block) (ts : List ℕ) → Alike s vs c → TypesBlock true (world p) s b bl ts → NumberedBlock p c d bl → SizedBlock p bl → FittingBlock (F.world p f) vs c d bl
  block_fits p f s vs c d b (Last e) ts l h n z = body_fits p f s vs c d b e ts l h n z
  block_fits p f s vs c d b (Let bs e rest) ts l h n z =
      let us = h.0 in (
        n.0,
        n.1,
        body_fits p f s vs c (d + length bs) (all_annotated bs) e us l h.1 n.2 z.0,
        block_fits p f (s ++ entries bs (map Some us)) (named d true bs ++ vs) (c + within e + length bs) (d + within e + length bs) b rest ts
            (subst (λ (es : S.Scope). Alike (s ++ es) (named d true bs ++ vs) (c + within e + length bs)) (sym (let_entries bs us h.2)) (alike_binders true s vs (c + within e) d (c + within e + length bs) bs n.1 (alike_later s vs c (c + within e) (omega arith) l) (omega arith)))
            h.3 n.3 z.1,
      )

  clauses_fit : (p : Program) (f : FunKind) (s : S.Scope) (vs : List Known) (c0 c d : ℕ) (own : Bool) (t : ℕ) (cs : Clauses) (ts : List ℕ) → Alike s vs c0 → c0 ≤ c → TypesClauses true (world p) s t cs ts → NumberedClauses p c d cs → SizedClauses p cs → FittingClauses (F.world p f) vs c d own cs
  clauses_fit p f s vs c0 c d own t NoClauses ts l m h n z = tt
  clauses_fit p f s vs c0 c d own t (MoreClauses r body cs) ts l m h n z = (
    n.0,
    block_fits p f (s ++ bound_by (world p) (Some t) r) (named d own (binders r) ++ vs) (c + length (binders r)) (d + length (binders r)) true body ts
        (subst (λ (es : S.Scope). Alike (s ++ es) (named d own (binders r) ++ vs) (c + length (binders r))) (sym (pattern_entries (world p) t r h.0)) (alike_binders own s vs c d (c + length (binders r)) (binders r) n.0 (alike_later s vs c0 c m l) (omega arith)))
        h.1 n.1 z.1,
    clauses_fit p f s vs c0 (c + length (binders r) + within_block body) (d + length (binders r) + within_block body) own t cs ts l (omega arith) h.2 n.2 z.2,
  )

-- ---- instances

params_none : (n d x : ℕ) (ps : List Param) (bs : List Binder) → AreNumbered n d bs → x < n → look (parameter_entries ps bs) x ≡ None
params_none n d x [] bs h l = refl
params_none n d x (p ∷ ps) [] h l = refl
params_none n d x (p ∷ ps) (b ∷ bs) h l =
    else_last (look (parameter_entries ps bs) x) (if b.number == x then Some (Some p.ty) else None) (params_none (n + 1) (d + 1) x ps bs h.2 (omega arith))
    ∙ ap (λ (c : Bool). if c then Some (Some p.ty) else None) (ap (λ m. m == x) h.0 ∙ apart n x l)

alike_params : (n d e : ℕ) (ps : List Param) (bs : List Binder) → AreNumbered n d bs → n + length ps ≤ e → Alike (parameter_entries ps bs) (parameters n ps) e
alike_params n d e [] bs h l x t k = absurd (cc)
alike_params n d e (p ∷ ps) [] h l x t k = absurd (cc)
alike_params n d e (p ∷ ps) (b ∷ bs) h l x t k =
    let u : Known = record { binder = n; number = n; ty = p.ty; owned = not p.lent } in
    elim (either (n == x)) [
      | inl f ↦
          let g : (b.number == x) ≡ true = ap (λ m. m == x) h.0 ∙ f in
          let i = same_number n x f in
          let m = look_here [] (parameter_entries ps bs) (Some p.ty) b x g (params_none (n + 1) (d + 1) x ps bs h.2 (omega arith)) in
          ((omega arith), (u, known_here u (parameters (n + 1) ps) x f, some_type p.ty t (sym m ∙ k)))
      | inr f ↦
          let g : (b.number == x) ≡ false = ap (λ m. m == x) h.0 ∙ f in
          let r = alike_params (n + 1) (d + 1) e ps bs h.2 (omega arith) x t (sym (look_after [] (parameter_entries ps bs) (Some p.ty) b x g) ∙ k) in
          let v = r.1 in
          (r.0, (v.0, known_after u (parameters (n + 1) ps) x f ∙ v.1, v.2))
    ]

instance_fits : (p : Program) (i : Instance) → Typed true (world p) i → IsNumbered p i → IsSized p i → IsFitting (F.world p i.kind) i
instance_fits p i h n z = record {
  as_many = n.as_many;
  numbered = n.parameters;
  body = block_fits p i.kind (parameter_entries i.params i.binders) (parameters 0 i.params) (length i.params) (length i.params) true i.body i.results (alike_params 0 0 (length i.params) i.params i.binders n.parameters (omega arith)) h.3 n.body z.body;
}

pub typed_fits : (p : Program) (is : List Instance) → AllTyped true (world p) is → AllNumbered p is → AreSized p is → AreFitting p is
typed_fits p [] h n z = tt
typed_fits p (i ∷ is) h n z = (λ r. instance_fits p i h.0 (n.0 r) z.0, typed_fits p is h.1 n.1 z.1)
