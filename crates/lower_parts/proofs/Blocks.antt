-- What expressions and blocks have written.
use Rattle.std.proofs.Common.{◌≡◌, inl, inr, refl, sym, ap, ◌∙◌, subst, arith, ℕ, zero, suc, ◌+◌, ◌<◌, ◌≤◌, List, [], ◌∷◌, ◌++◌, length, drop, Option, Some, None, slice_get}
use Rattle.fip_language.specs.declared.Operator.{Operator}
use Rattle.fip_language.specs.declared.Place.{Place}
use Rattle.fip_language.specs.Table.{Table}
use Rattle.fip_trees.specs.declared.program.Binder.{Binder}
use Rattle.fip_trees.specs.declared.program.Binding.{Binding}
use Rattle.fip_trees.specs.Tree.{Name, Argument, Arguments, Expression, Give, Tuple, Operation, Call, Nested, Block, Last, Let}
use Rattle.fip_trees.specs.TreeView.{block_of, binding, bindings}
use Rattle.cell_code.specs.declared.code.Instr.{Instr}
use Rattle.lower_frame.specs.lowering_relation.Known.{Known, naming}
use Rattle.lower_frame.specs.lowering_relation.Values.{Setting}
use Rattle.lower_frame.specs.lowering_relation.LoweredBodies.{Target, Into, with_names, reserved, registers_for, ValuesAt}
use Rattle.lower_frame.specs.lowering_relation.Written.{Written, size, Extends, HasFrom}
use Rattle.lower_frame.specs.lowering_relation.WellMatched.{WellMatched, WellMatchedBlock}
use Rattle.lower_parts.specs.Writing.{Computes, ComputesAll, Gives, Operates, CallsAt, AppliesTo, GivesValues, Writes, WritesBlock, FollowBlock, Binds, named_at}
use Rattle.lower_frame.proofs.lowering_relation.Placing.{extends_on, front, back}
use Rattle.code_size.specs.Bounds.{most_for}
use Rattle.code_size.specs.Places.{argument_places, arguments_places, expression_places, block_places}
use Rattle.lower_frame.specs.Registers.{registers}
use Rattle.lower_parts.specs.Growth.{Adds}
use Rattle.lower_parts.proofs.Shedding.{adds_on, adds_less, adds_within, adds_both}
use Rattle.lower_parts.proofs.Writing.{argument_one}
use Rattle.lower_parts.proofs.Calling.{stay_on}
use Rattle.fip_language.proofs.Facts.{append_one, same_some}

-- names of a let

no_registers : (k : Known) (bs : List Binder) → with_names k bs [] ≡ k
no_registers k [] = refl
no_registers k (b ∷ bs) = refl

named_stop : (k : Known) (bs : List Binder) (rs : List ℕ) (i : ℕ) → slice_get rs i ≡ None → with_names k (drop (suc i) bs) (drop (suc i) rs) ≡ with_names k (drop i bs) (drop i rs)
named_stop k bs [] zero e = no_registers k (drop (suc zero) bs) ∙ sym (no_registers k bs)
named_stop k bs [] (suc i) e = no_registers k (drop (suc (suc i)) bs) ∙ sym (no_registers k (drop (suc i) bs))
named_stop k bs (r ∷ rs) zero e = absurd (cc)
named_stop k [] (r ∷ rs) (suc i) e = refl
named_stop k (b ∷ bs) (r ∷ rs) (suc i) e = named_stop k bs rs i e

named_next : (k : Known) (bs : List Binder) (rs : List ℕ) (i : ℕ) (b : Binder) (r : ℕ) → slice_get bs i ≡ Some b → slice_get rs i ≡ Some r → with_names (naming k b.number r) (drop (suc i) bs) (drop (suc i) rs) ≡ with_names k (drop i bs) (drop i rs)
named_next k [] rs i b r e f = absurd (cc)
named_next k (c ∷ bs) [] i b r e f = absurd (cc)
named_next k (c ∷ bs) (q ∷ rs) zero b r e f =
    ap (λ (x : Binder). with_names (naming k x.number r) bs rs) (sym (same_some c b e)) ∙ ap (λ x. with_names (naming k c.number x) bs rs) (sym (same_some q r f))
named_next k (c ∷ bs) (q ∷ rs) (suc i) b r e f = named_next k bs rs i b r e f

pub named_step : (k : Known) (bs : List Binder) (rs : List ℕ) (i : ℕ) (b : Binder) → slice_get bs i ≡ Some b → with_names (named_at k b (slice_get rs i)) (drop (suc i) bs) (drop (suc i) rs) ≡ with_names k (drop i bs) (drop i rs)
named_step k bs rs i b e = by_get (slice_get rs i) refl
  where
    by_get : (o : Option ℕ) → slice_get rs i ≡ o → with_names (named_at k b o) (drop (suc i) bs) (drop (suc i) rs) ≡ with_names k (drop i bs) (drop i rs)
    by_get None f = named_stop k bs rs i f
    by_get (Some r) f = named_next k bs rs i b r e f

pub named_on : (k m : Known) (bs : List Binder) (rs : List ℕ) (i : ℕ) (b : Binder) → slice_get bs i ≡ Some b → m ≡ named_at k b (slice_get rs i) → with_names m (drop (suc i) bs) (drop (suc i) rs) ≡ with_names k (drop i bs) (drop i rs)
named_on k m bs rs i b e f = ap (λ x. with_names x (drop (suc i) bs) (drop (suc i) rs)) f ∙ named_step k bs rs i b e

-- the place is counted beside the loop
pub named_to : (k m : Known) (bs : List Binder) (rs : List ℕ) (i j n : ℕ) (b : Binder) → j ≡ i → n ≡ suc j → slice_get bs i ≡ Some b → m ≡ named_at k b (slice_get rs j) → with_names m (drop n bs) (drop n rs) ≡ with_names k (drop j bs) (drop j rs)
named_to k m bs rs i j n b x y e f = subst (λ z. with_names m (drop z bs) (drop z rs) ≡ with_names k (drop j bs) (drop j rs)) (sym y) (named_on k m bs rs j b (ap (slice_get bs) x ∙ e) f)

pub ruleset naming_all = (named_on)

-- expressions

pub writes_give : (s : Setting) (k m l : Known) (v u w : Written) (a : Argument) (r : ℕ) (target : Target) → Computes s k v a r m u → Gives m u (r ∷ []) target l w → Writes s k v (Give a) target l w
writes_give s k m l v u w a r target p q = record {
  extends = extends_on v u w p.extends q.extends;
  code = λ to code h. (
    r,
    size u,
    m,
    p.code to code (front (size v) u w to code q.extends h),
    q.code to code (back (size v) (size u) w to code p.extends.grows h),
  );
  stay = stay_on target k m l p.as_many q.stay;
  few = adds_within (registers k) (argument_places a) (argument_places a + (suc (registers m) + 1)) v w (argument_one a) (let e = p.as_many in omega (arith, e, argument_one a)) (adds_on (argument_places a) 0 (suc (registers m) + 1) 0 v u w p.few q.few);
}

pub gives_values : (s : Setting) (k m l : Known) (v u w : Written) (as' : Arguments) (rs : List ℕ) (target : Target) → ComputesAll s k v as' rs m u → Gives m u rs target l w → GivesValues s k v as' target l w
gives_values s k m l v u w as' rs target p q = record {
  extends = extends_on v u w p.extends q.extends;
  code = λ to code h. (
    rs,
    size u,
    m,
    p.code to code (front (size v) u w to code q.extends h),
    q.code to code (back (size v) (size u) w to code p.extends.grows h),
  );
  stay = stay_on target k m l p.as_many q.stay;
  few = adds_less (arguments_places as' + (suc (registers m) + length rs)) (0 + 0) (suc (registers k) + (arguments_places as' + arguments_places as')) 0 v w (let e = p.as_many in let n = p.a_register_each in omega (arith, e, n)) (omega arith) (adds_on (arguments_places as') 0 (suc (registers m) + length rs) 0 v u w p.few q.few);
}

pub writes_tuple : (s : Setting) (k l : Known) (v w : Written) (p : Place) (as' : Arguments) (target : Target) → GivesValues s k v as' target l w → Writes s k v (Tuple p as') target l w
writes_tuple s k l v w p as' target g = record {
  extends = g.extends;
  code = g.code;
  stay = g.stay;
  few = adds_within (registers k) (suc (arguments_places as')) (suc (registers k) + (arguments_places as' + arguments_places as')) v w (omega arith) (omega arith) g.few;
}

pub writes_operation : (s : Setting) (k m n l : Known) (v u x w : Written) (o : Operator) (p : Place) (a b : Argument) (q r : ℕ) (target : Target) → Computes s k v a q m u → Computes s m u b r n x → Operates n x o p q r target l w → Writes s k v (Operation o p a b) target l w
writes_operation s k m n l v u x w o p a b q r target f g c = record {
  extends = extends_on v u w f.extends (extends_on u x w g.extends c.extends);
  code = λ to code h. (
    q,
    size u,
    m,
    r,
    size x,
    n,
    f.code to code (front (size v) u w to code (extends_on u x w g.extends c.extends) h),
    g.code to code (front (size u) x w to code c.extends (back (size v) (size u) w to code f.extends.grows h)),
    c.code to code (back (size v) (size x) w to code (extends_on v u x f.extends g.extends).grows h),
  );
  stay = stay_on target k n l many c.stay;
  few = adds_within (registers k) (suc (argument_places a + argument_places b)) (argument_places a + (argument_places b + (registers n + 3))) v w (omega arith) (omega (arith, many)) (adds_on (argument_places a) 0 (argument_places b + (registers n + 3)) 0 v u w f.few (adds_on (argument_places b) 0 (registers n + 3) 0 u x w g.few c.few));
}
  where
    many : registers n ≡ registers k
    many = g.as_many ∙ f.as_many

pub writes_call : (s : Setting) (k m l : Known) (v u w : Written) (g : ℕ) (n : Name) (p : Place) (as' : Arguments) (rs : List ℕ) (target : Target) → ComputesAll s k v as' rs m u → CallsAt s m u g rs target l w → Writes s k v (Call g n p as') target l w
writes_call s k m l v u w g n p as' rs target a c = record {
  extends = extends_on v u w a.extends c.extends;
  code = λ to code h. (
    rs,
    size u,
    m,
    a.code to code (front (size v) u w to code c.extends h),
    c.code to code (back (size v) (size u) w to code a.extends.grows h),
  );
  stay = stay_on target k m l a.as_many c.stay;
  few = adds_within (registers k) (suc (arguments_places as')) (arguments_places as' + suc (registers m)) v w (omega arith) (let e = a.as_many in omega (arith, e)) (adds_on (arguments_places as') 0 (suc (registers m)) 0 v u w a.few c.few);
}

pub applies_to : (s : Setting) (k m l : Known) (v u w : Written) (g : ℕ) (as' : Arguments) (rs : List ℕ) (target : Target) → ComputesAll s k v as' rs m u → CallsAt s m u g rs target l w → AppliesTo s k v g as' target l w
applies_to s k m l v u w g as' rs target a c = record { by = λ n p. writes_call s k m l v u w g n p as' rs target a c }

pub writes_nested : (s : Setting) (k l : Known) (v w : Written) (b : Block) (target : Target) → WritesBlock s k v b target l w → Writes s k v (Nested b) target l w
writes_nested s k l v w b target h = record { extends = h.extends; code = h.code; stay = h.stay; few = h.few }

pub ruleset expressions = (writes_give, gives_values, writes_tuple, writes_operation, applies_to, writes_nested)

-- lets

binds_values : (s : Setting) (k m : Known) (v u : Written) (bs : List Binder) (e : Expression) (rs : List ℕ) → Extends v u → registers m ≡ registers k → Adds (expression_places s.types e) 0 v u → ((to : ℕ → ℕ) (code : List Instr) → HasFrom (size v) u to code → ValuesAt s code (size v) k e rs (size u) m) → Binds s k v bs e (with_names m bs rs) u
binds_values s k m v u bs e rs x many few a = record {
  by = λ rest target l z h. record {
    extends = extends_on v u z x h.extends;
    code = λ to code f. inl (
      rs,
      size u,
      m,
      a to code (front (size v) u z to code h.extends f),
      h.code to code (back (size v) (size u) z to code x.grows f),
    );
    stay = stay_on target k (with_names m bs rs) l many h.stay;
    few = adds_both (registers k) (registers m) (expression_places s.types e) (block_places s.types rest) v u z many
        (adds_less (expression_places s.types e) 0 (most_for (registers k) (expression_places s.types e)) (expression_places s.types e) v u (omega arith) (omega arith) few) h.few;
  };
}

pub binds_give : (s : Setting) (k m l : Known) (v u : Written) (bs : List Binder) (a : Argument) (r : ℕ) → Computes s k v a r m u → l ≡ with_names m bs (r ∷ []) → Binds s k v bs (Give a) l u
binds_give s k m l v u bs a r c e = subst (λ x. Binds s k v bs (Give a) x u) (sym e) (binds_values s k m v u bs (Give a) (r ∷ []) c.extends c.as_many c.few c.code)

pub binds_tuple : (s : Setting) (k m l : Known) (v u : Written) (bs : List Binder) (p : Place) (as' : Arguments) (rs : List ℕ) → ComputesAll s k v as' rs m u → l ≡ with_names m bs rs → Binds s k v bs (Tuple p as') l u
binds_tuple s k m l v u bs p as' rs c e = subst (λ x. Binds s k v bs (Tuple p as') x u) (sym e) (binds_values s k m v u bs (Tuple p as') rs c.extends c.as_many (adds_less (arguments_places as') 0 (suc (arguments_places as')) 0 v u (omega arith) (omega arith) c.few) c.code)

pub binds_into : (s : Setting) (k k0 m l : Known) (v u : Written) (bs : List Binder) (e : Expression) (rs : List ℕ) → k0 ≡ reserved k bs → rs ≡ registers_for k.next bs → Writes s k0 v e (Into rs) m u → l ≡ with_names m bs rs → Binds s k v bs e l u
binds_into s k k0 m l v u bs e rs a b c d =
    subst (λ x. Binds s k v bs e x u) (sym (d ∙ ap (with_names m bs) b))
    (whole (subst (λ x. Writes s (reserved k bs) v e (Into x) m u) b (subst (λ x. Writes s x v e (Into rs) m u) a c)))
  where
    regs : List ℕ
    regs = registers_for k.next bs

    whole : Writes s (reserved k bs) v e (Into regs) m u → Binds s k v bs e (with_names m bs regs) u
    whole w = record {
      by = λ rest target o z h. record {
        extends = extends_on v u z w.extends h.extends;
        code = λ to code f. inr (
          size u,
          m,
          w.code to code (front (size v) u z to code h.extends f),
          h.code to code (back (size v) (size u) z to code w.extends.grows f),
        );
        stay = stay_on target k (with_names m bs regs) o w.stay h.stay;
        few = adds_both (registers k) (registers m) (expression_places s.types e) (block_places s.types rest) v u z w.stay w.few h.few;
      };
    }

pub ruleset binding_one = (binds_give, binds_tuple, binds_into)

-- blocks

pub writes_last : (s : Setting) (k l : Known) (v w : Written) (e : Expression) (target : Target) → Writes s k v e target l w → WritesBlock s k v (Last e) target l w
writes_last s k l v w e target h = record { extends = h.extends; code = h.code; stay = h.stay; few = h.few }

abbrev pub rest_of : List Binding → ℕ → Expression → Block
rest_of bs i e = block_of (bindings (drop i bs)) e

-- with the premise that patterns are typed
abbrev pub Follows : Table → Setting → Known → Written → Block → Known → Written → Block → Target → Type 0
Follows tb s k0 v0 b0 k v b target = WellMatchedBlock tb b0 → FollowBlock s k0 v0 b0 k v b target × WellMatchedBlock tb b

pub follows_start : (tb : Table) (s : Setting) (k : Known) (v : Written) (b : Block) (target : Target) → Follows tb s k v b k v b target
follows_start tb s k v b target well = (record { by = λ l w h. h }, well)

pub rest_at : (bs : List Binding) (i : ℕ) (b : Binding) (e : Expression) → slice_get bs i ≡ Some b → rest_of bs i e ≡ Let (binding b).binders (binding b).bound (rest_of bs (suc i) e)
rest_at [] i b e h = absurd (cc)
rest_at (c ∷ bs) zero b e h = ap (λ x. Let (binding x).binders (binding x).bound (block_of (bindings bs) e)) (same_some c b h)
rest_at (c ∷ bs) (suc i) b e h = rest_at bs i b e h

pub follows_step : (tb : Table) (s : Setting) (k0 : Known) (v0 : Written) (b0 : Block) (k m : Known) (v w : Written) (bs : List Binding) (i : ℕ) (b : Binding) (e : Expression) (target : Target) → slice_get bs i ≡ Some b → Follows tb s k0 v0 b0 k v (rest_of bs i e) target → (WellMatched tb (binding b).bound → Binds s k v (binding b).binders (binding b).bound m w) → Follows tb s k0 v0 b0 m w (rest_of bs (suc i) e) target
follows_step tb s k0 v0 b0 k m v w bs i b e target h f c well = on (subst (λ x. FollowBlock s k0 v0 b0 k v x target × WellMatchedBlock tb x) (rest_at bs i b e h) (f well))
  where
    here : Block
    here = Let (binding b).binders (binding b).bound (rest_of bs (suc i) e)

    on : FollowBlock s k0 v0 b0 k v here target × WellMatchedBlock tb here → FollowBlock s k0 v0 b0 m w (rest_of bs (suc i) e) target × WellMatchedBlock tb (rest_of bs (suc i) e)
    on g = (record { by = λ l z r. g.0.by l z ((c g.1.0).by (rest_of bs (suc i) e) target l z r) }, g.1.1)

pub follows_on : (tb : Table) (s : Setting) (k0 : Known) (v0 : Written) (b0 : Block) (k m : Known) (v w : Written) (bs : List Binding) (i j : ℕ) (b : Binding) (e : Expression) (target : Target) → j ≡ suc i → slice_get bs i ≡ Some b → Follows tb s k0 v0 b0 k v (rest_of bs i e) target → (WellMatched tb (binding b).bound → Binds s k v (binding b).binders (binding b).bound m w) → Follows tb s k0 v0 b0 m w (rest_of bs j e) target
follows_on tb s k0 v0 b0 k m v w bs i j b e target a h f c = subst (λ z. Follows tb s k0 v0 b0 m w (rest_of bs z e) target) (sym a) (follows_step tb s k0 v0 b0 k m v w bs i b e target h f c)

pub follows_end : (tb : Table) (s : Setting) (k0 : Known) (v0 : Written) (b0 : Block) (k l : Known) (v w : Written) (e : Expression) (target : Target) → Follows tb s k0 v0 b0 k v (Last e) target → (WellMatched tb e → Writes s k v e target l w) → WellMatchedBlock tb b0 → WritesBlock s k0 v0 b0 target l w
follows_end tb s k0 v0 b0 k l v w e target f h well = let g = f well in g.0.by l w (writes_last s k l v w e target (h g.1))

pub rest_past : (bs : List Binding) (i : ℕ) (e : Expression) → length bs ≤ i → rest_of bs i e ≡ Last e
rest_past [] zero e h = refl
rest_past [] (suc i) e h = refl
rest_past (b ∷ bs) zero e h = absurd (omega (arith, h))
rest_past (b ∷ bs) (suc i) e h = rest_past bs i e (omega (arith, h))

pub follows_done : (tb : Table) (s : Setting) (k0 : Known) (v0 : Written) (b0 : Block) (k l : Known) (v w : Written) (bs : List Binding) (i : ℕ) (e : Expression) (target : Target) → length bs ≤ i → Follows tb s k0 v0 b0 k v (rest_of bs i e) target → (WellMatched tb e → Writes s k v e target l w) → WellMatchedBlock tb b0 → WritesBlock s k0 v0 b0 target l w
follows_done tb s k0 v0 b0 k l v w bs i e target a f h well = follows_end tb s k0 v0 b0 k l v w e target (subst (λ z. Follows tb s k0 v0 b0 k v z target) (rest_past bs i e a) f) h well

pub ruleset blocks = (follows_start, follows_step, follows_end)

-- registers that are reserved

at_drop : (bs : List Binder) (i : ℕ) → i < length bs → (r : ℕ) → registers_for r (drop i bs) ≡ r ∷ registers_for (suc r) (drop (suc i) bs)
at_drop [] i e r = absurd (omega (arith, e))
at_drop (c ∷ bs) zero e r = refl
at_drop (c ∷ bs) (suc i) e r = at_drop bs i (omega (arith, e)) r

pub reserved_step : (before : List ℕ) (bs : List Binder) (i n r : ℕ) (all : List ℕ) → i < length bs → before ++ registers_for n (drop i bs) ≡ all → r ≡ n → (before ++ r ∷ []) ++ registers_for (suc n) (drop (suc i) bs) ≡ all
reserved_step before bs i n r all e h f =
    sym (append_one before r (registers_for (suc n) (drop (suc i) bs))) ∙ ap (λ x. before ++ (x ∷ registers_for (suc n) (drop (suc i) bs))) f ∙ ap (λ x. before ++ x) (sym (at_drop bs i e n)) ∙ h

at_length : (bs : List Binder) (i : ℕ) → i < length bs → length (drop i bs) ≡ suc (length (drop (suc i) bs))
at_length [] i e = absurd (omega (arith, e))
at_length (c ∷ bs) zero e = refl
at_length (c ∷ bs) (suc i) e = at_length bs i (omega (arith, e))

pub reserved_on : (k m : Known) (bs : List Binder) (i : ℕ) → i < length bs → m ≡ record k { next = suc k.next } → reserved m (drop (suc i) bs) ≡ reserved k (drop i bs)
reserved_on k m bs i e f = ap (λ x. reserved x (drop (suc i) bs)) f ∙ ap (λ n. record k { next = n }) (let l = at_length bs i e in omega (arith, l))

pub reserved_none : (k : Known) → reserved k [] ≡ k
reserved_none k = ap (λ n. record k { next = n }) (omega arith)

pub reserved_next : (before rs : List ℕ) (bs : List Binder) (i n m j r : ℕ) (all : List ℕ) → j ≡ suc i → m ≡ suc n → i < length bs → before ++ registers_for n (drop i bs) ≡ all → r ≡ n → rs ≡ before ++ r ∷ [] → rs ++ registers_for m (drop j bs) ≡ all
reserved_next before rs bs i n m j r all a b e h f g =
    ap (λ x. x ++ registers_for m (drop j bs)) g ∙ ap (λ x. (before ++ r ∷ []) ++ registers_for x (drop j bs)) b ∙ ap (λ x. (before ++ r ∷ []) ++ registers_for (suc n) (drop x bs)) a ∙ reserved_step before bs i n r all e h f

pub reserved_to : (k m : Known) (bs : List Binder) (i j : ℕ) → j ≡ suc i → i < length bs → m ≡ record k { next = suc k.next } → reserved m (drop j bs) ≡ reserved k (drop i bs)
reserved_to k m bs i j a e f = ap (λ x. reserved m (drop x bs)) a ∙ reserved_on k m bs i e f

pub ruleset reserving = (reserved_step, reserved_on, reserved_none)
