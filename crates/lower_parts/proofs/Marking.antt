-- Which registers are marked: those of the variables that may be used up.
use Rattle.std.proofs.Common.{◌≡◌, ◌⊎◌, inl, inr, refl, sym, ap, ◌∙◌, subst, arith, true≢false, ℕ, zero, suc, ◌<◌, Bool, true, false, not, List, [], ◌∷◌, ◌++◌, length, replicate, take, Option, Some, None, slice_get, slice_set}
use Rattle.std.specs.Prelude.{◌==◌, ◌&&◌, ◌||◌, option_map}
use Rattle.std.proofs.lemmas.Bool.{eqb-true, eq-eqb}
use Rattle.std.proofs.lemmas.Option.{slice_get-map}
use Rattle.fip_trees.specs.Tree as T
use Rattle.fip_trees.specs.declared.program.Instance.{Instance as Tree}
use Rattle.fip_trees.specs.TreeView.{Case, instance_of, instances}
use Rattle.lower_frame.specs.lowering_relation.Known.{Known, register_of}
use Rattle.lower_frame.specs.lowering_relation.Values.{Setting}
use Rattle.lower_frame.specs.lowering_relation.Uses.{is_number, uses, uses_all, takes_of, uses_passed, used_in, used_in_block, used_in_clauses}
use Rattle.lower_parts.specs.Marks.{is_marked, with_mark, marking, marking_all, marking_if, marking_passed, marking_in, marking_block, marking_clauses, AreMarked, MatchMarked, MarkedIf}
use Rattle.fip_language.proofs.Facts.{or_cases as or_either, or_first as or_left, or_last as or_right, set_flag_length as set_long}

-- one register more

marked_there : (ms : List Bool) (q : ℕ) → q < length ms → is_marked (slice_set ms q true) q ≡ true
marked_there [] q h = absurd (omega (arith, h))
marked_there (m ∷ ms) zero h = refl
marked_there (m ∷ ms) (suc q) h = marked_there ms q (omega (arith, h))

marked_still : (ms : List Bool) (q r : ℕ) → is_marked ms r ≡ true → is_marked (slice_set ms q true) r ≡ true
marked_still [] q r h = h
marked_still (m ∷ ms) zero zero h = refl
marked_still (m ∷ ms) zero (suc r) h = h
marked_still (m ∷ ms) (suc q) zero h = h
marked_still (m ∷ ms) (suc q) (suc r) h = marked_still ms q r h

marked_before : (ms : List Bool) (q r : ℕ) → is_marked (slice_set ms q true) r ≡ true → (r ≡ q) ⊎ (is_marked ms r ≡ true)
marked_before [] q r h = inr h
marked_before (m ∷ ms) zero zero h = inl refl
marked_before (m ∷ ms) zero (suc r) h = inr h
marked_before (m ∷ ms) (suc q) zero h = inr h
marked_before (m ∷ ms) (suc q) (suc r) h = elim (marked_before ms q r h) [ inl e ↦ inl (ap suc e) | inr f ↦ inr f ]

-- those of the variables that are used, and no others
record Marks (names : List (Option ℕ)) (used : ℕ → Bool) (f : List Bool → List Bool) : Type 0 where
  pub long : (ms : List Bool) → length (f ms) ≡ length ms
  pub keeps : (ms : List Bool) (r : ℕ) → is_marked ms r ≡ true → is_marked (f ms) r ≡ true
  pub sets : (ms : List Bool) (x r : ℕ) → register_of names (Some x) ≡ Some r → used x ≡ true → r < length ms → is_marked (f ms) r ≡ true
  pub only : (ms : List Bool) (r : ℕ) → is_marked (f ms) r ≡ true → (is_marked ms r ≡ true) ⊎ ((x : ℕ) × (register_of names (Some x) ≡ Some r) × (used x ≡ true))

module _ (names : List (Option ℕ)) where
  none_marked : Marks names (λ y. false) (λ ms. ms)
  none_marked = record { long = λ ms. refl; keeps = λ ms r h. h; sets = λ ms x r e u lt. absurd (true≢false (sym u)); only = λ ms r h. inl h }

  marked_on : (u v : ℕ → Bool) (f g : List Bool → List Bool) → Marks names u f → Marks names v g → Marks names (λ y. u y || v y) (λ ms. g (f ms))
  marked_on u v f g a b = record {
    long = λ ms. b.long (f ms) ∙ a.long ms;
    keeps = λ ms r h. b.keeps (f ms) r (a.keeps ms r h);
    sets = λ ms x r e used lt. by ms x r e lt (or_either (u x) (v x) used);
    only = λ ms r h. after ms r (b.only (f ms) r h);
  }
    where
      by : (ms : List Bool) (x r : ℕ) → register_of names (Some x) ≡ Some r → r < length ms → (u x ≡ true) ⊎ (v x ≡ true) → is_marked (g (f ms)) r ≡ true
      by ms x r e lt (inl h) = b.keeps (f ms) r (a.sets ms x r e h lt)
      by ms x r e lt (inr h) = b.sets (f ms) x r e h (omega (arith, lt, a.long ms))

      before : (ms : List Bool) (r : ℕ) → (is_marked ms r ≡ true) ⊎ ((x : ℕ) × (register_of names (Some x) ≡ Some r) × (u x ≡ true)) → (is_marked ms r ≡ true) ⊎ ((x : ℕ) × (register_of names (Some x) ≡ Some r) × ((u x || v x) ≡ true))
      before ms r (inl h) = inl h
      before ms r (inr x) = inr (x.0, x.1, or_left (u x.0) (v x.0) x.2)

      after : (ms : List Bool) (r : ℕ) → (is_marked (f ms) r ≡ true) ⊎ ((x : ℕ) × (register_of names (Some x) ≡ Some r) × (v x ≡ true)) → (is_marked ms r ≡ true) ⊎ ((x : ℕ) × (register_of names (Some x) ≡ Some r) × ((u x || v x) ≡ true))
      after ms r (inl h) = before ms r (a.only ms r h)
      after ms r (inr x) = inr (x.0, x.1, or_right (u x.0) (v x.0) x.2)

  one_marked : (x : ℕ) (o : Option ℕ) → register_of names (Some x) ≡ o → Marks names (λ y. x == y) (λ ms. with_mark ms o)
  one_marked x None e = record {
    long = λ ms. refl;
    keeps = λ ms r h. h;
    sets = λ ms y r f u lt. absurd (none_some (sym e ∙ ap (λ z. register_of names (Some z)) (eqb-true x y u) ∙ f));
    only = λ ms r h. inl h;
  }
    where
      none_some : {r : ℕ} → None ≡ Some r → ⊥
      none_some h = absurd (cc)
  one_marked x (Some q) e = record {
    long = λ ms. set_long ms q;
    keeps = λ ms r h. marked_still ms q r h;
    sets = λ ms y r f u lt. by ms r lt (some_same (sym e ∙ ap (λ z. register_of names (Some z)) (eqb-true x y u) ∙ f));
    only = λ ms r h. from ms r (marked_before ms q r h);
  }
    where
      some_same : {r : ℕ} → Some q ≡ Some r → q ≡ r
      some_same h = cc

      by : (ms : List Bool) (r : ℕ) → r < length ms → q ≡ r → is_marked (slice_set ms q true) r ≡ true
      by ms r lt same = ap (λ z. is_marked (slice_set ms z true) r) same ∙ marked_there ms r lt

      from : (ms : List Bool) (r : ℕ) → (r ≡ q) ⊎ (is_marked ms r ≡ true) → (is_marked ms r ≡ true) ⊎ ((y : ℕ) × (register_of names (Some y) ≡ Some r) × ((x == y) ≡ true))
      from ms r (inl same) = inr (x, e ∙ ap Some (sym same), eq-eqb x x refl)
      from ms r (inr h) = inl h

  variable_marked : (x : Option ℕ) → Marks names (λ y. is_number x y) (λ ms. with_mark ms (register_of names x))
  variable_marked None = none_marked
  variable_marked (Some x) = one_marked x (register_of names (Some x)) refl

  mutual
    argument_marked : (a : T.Argument) → Marks names (λ y. uses y a) (λ ms. marking names a ms)
    argument_marked (T.Variable x n p) = variable_marked x
    argument_marked (T.Literal i p) = none_marked
    argument_marked (T.Constructor t d c n p as') = arguments_marked as'

    arguments_marked : (as' : T.Arguments) → Marks names (λ y. uses_all y as') (λ ms. marking_all names as' ms)
    arguments_marked T.NoArguments = none_marked
    arguments_marked (T.MoreArguments a as') = marked_on (λ y. uses y a) (λ y. uses_all y as') (λ ms. marking names a ms) (λ ms. marking_all names as' ms) (argument_marked a) (arguments_marked as')

  marked_if : (b : Bool) (a : T.Argument) → Marks names (λ y. b && uses y a) (λ ms. marking_if names b a ms)
  marked_if true a = argument_marked a
  marked_if false a = none_marked

  passed_marked : (o : Option T.Instance) (j : ℕ) (as' : T.Arguments) → Marks names (λ y. uses_passed o y j as') (λ ms. marking_passed names o j as' ms)
  passed_marked o j T.NoArguments = none_marked
  passed_marked o j (T.MoreArguments a as') = marked_on (λ y. takes_of o j && uses y a) (λ y. uses_passed o y (suc j) as') (λ ms. marking_if names (takes_of o j) a ms) (λ ms. marking_passed names o (suc j) as' ms) (marked_if (takes_of o j) a) (passed_marked o (suc j) as')

module _ (names : List (Option ℕ)) (ds : List T.Instance) where
  mutual
    expression_marked : (e : T.Expression) → Marks names (λ y. used_in ds y e) (λ ms. marking_in names ds e ms)
    expression_marked (T.Give a) = argument_marked names a
    expression_marked (T.Tuple p as') = arguments_marked names as'
    expression_marked (T.Operation o p a b) = none_marked names
    expression_marked (T.Call g n p as') = passed_marked names (slice_get ds g) 0 as'
    expression_marked (T.Match d t p a q b cs) =
        marked_on names (λ y. d && uses y a) (λ y. used_in_block ds y b || used_in_clauses ds y cs) (λ ms. marking_if names d a ms) (λ ms. marking_clauses names ds cs (marking_block names ds b ms)) (marked_if names d a)
        (marked_on names (λ y. used_in_block ds y b) (λ y. used_in_clauses ds y cs) (λ ms. marking_block names ds b ms) (λ ms. marking_clauses names ds cs ms) (block_marked b) (clauses_marked cs))
    expression_marked (T.Nested b) = block_marked b

    block_marked : (b : T.Block) → Marks names (λ y. used_in_block ds y b) (λ ms. marking_block names ds b ms)
    block_marked (T.Last e) = expression_marked e
    block_marked (T.Let bs e rest) = marked_on names (λ y. used_in ds y e) (λ y. used_in_block ds y rest) (λ ms. marking_in names ds e ms) (λ ms. marking_block names ds rest ms) (expression_marked e) (block_marked rest)

    clauses_marked : (cs : T.Clauses) → Marks names (λ y. used_in_clauses ds y cs) (λ ms. marking_clauses names ds cs ms)
    clauses_marked T.NoClauses = none_marked names
    clauses_marked (T.MoreClauses q b cs) = marked_on names (λ y. used_in_block ds y b) (λ y. used_in_clauses ds y cs) (λ ms. marking_block names ds b ms) (λ ms. marking_clauses names ds cs ms) (block_marked b) (clauses_marked cs)

-- where none was marked before
are_marked : (s : Setting) (k : Known) (e : T.Expression) (ms : List Bool) → ((r : ℕ) → is_marked ms r ≡ false) → AreMarked s k e (marking_in k.names s.instances e ms)
are_marked s k e ms none = record {
  set = λ x r named used lt. shown.sets ms x r named used (omega (arith, lt, shown.long ms));
  only = λ r h. from r (shown.only ms r h);
}
  where
    shown : Marks k.names (λ y. used_in s.instances y e) (λ zs. marking_in k.names s.instances e zs)
    shown = expression_marked k.names s.instances e

    from : (r : ℕ) → (is_marked ms r ≡ true) ⊎ ((x : ℕ) × (register_of k.names (Some x) ≡ Some r) × (used_in s.instances x e ≡ true)) → (x : ℕ) × (register_of k.names (Some x) ≡ Some r) × (used_in s.instances x e ≡ true)
    from r (inl h) = absurd (true≢false (sym h ∙ none r))
    from r (inr h) = h

-- a match by clauses
pub match_marked : (s : Setting) (k : Known) (d : Bool) (a : T.Argument) (c : Case) (cs : T.Clauses) (ms zs : List Bool) → length ms ≡ k.next → ((r : ℕ) → is_marked ms r ≡ false) → zs ≡ marking_clauses k.names s.instances cs (marking_block k.names s.instances c.body (marking_if k.names d a ms)) → MatchMarked s k d a c cs zs
match_marked s k d a c cs ms zs many none e = subst (MatchMarked s k d a c cs) (sym e) (record {
  many = (expression_marked k.names s.instances (T.Match d 0 (T.place_of a) a c.pattern c.body cs)).long ms ∙ many;
  marked = λ t p. are_marked s k (T.Match d t p a c.pattern c.body cs) ms none;
})

-- new marks
none_set : (m r : ℕ) → is_marked (replicate m false) r ≡ false
none_set zero r = refl
none_set (suc m) zero = refl
none_set (suc m) (suc r) = none_set m r

pub new_marks : (n m : ℕ) (old ms : List Bool) → old ≡ [] → ms ≡ take n old ++ replicate m false → (r : ℕ) → is_marked ms r ≡ false
new_marks n m old ms e f r = ap (λ zs. is_marked zs r) (f ∙ ap (λ zs. take n zs ++ replicate m false) e) ∙ by n
  where
    by : (n : ℕ) → is_marked (take n [] ++ replicate m false) r ≡ false
    by zero = none_set m r
    by (suc n) = none_set m r

pub marked_as : (s : Setting) (b : Bool) (k : Known) (d : Bool) (a : T.Argument) (c : Case) (cs : T.Clauses) (zs : List Bool) → b ≡ true → MatchMarked s k d a c cs zs → MarkedIf (not b) s k d a c cs zs
marked_as s true k d a c cs zs e m = m
marked_as s false k d a c cs zs e m = absurd (true≢false (sym e))

pub marked_fip : (s : Setting) (b : Bool) (k : Known) (d : Bool) (a : T.Argument) (c : Case) (cs : T.Clauses) (zs : List Bool) → not b ≡ true → MarkedIf (not b) s k d a c cs zs
marked_fip s true k d a c cs zs e = absurd (true≢false (sym e))
marked_fip s false k d a c cs zs e = tt

-- calls; one of no instance marks nothing

passed_done : (names : List (Option ℕ)) (j : ℕ) (as' : T.Arguments) (ms : List Bool) → marking_passed names None j as' ms ≡ ms
passed_done names j T.NoArguments ms = refl
passed_done names j (T.MoreArguments a as') ms = passed_done names (suc j) as' ms

pub passed_none : (names : List (Option ℕ)) (ds : List Tree) (g : ℕ) (as' : T.Arguments) (ms : List Bool) → slice_get ds g ≡ None → ms ≡ marking_passed names (slice_get (instances ds) g) 0 as' ms
passed_none names ds g as' ms e = sym (ap (λ o. marking_passed names o 0 as' ms) (slice_get-map instance_of ds g ∙ ap (option_map instance_of) e) ∙ passed_done names 0 as' ms)

pub passed_some : (names : List (Option ℕ)) (ds : List Tree) (g : ℕ) (d : Tree) (as' : T.Arguments) (ms zs : List Bool) → slice_get ds g ≡ Some d → zs ≡ marking_passed names (Some (instance_of d)) 0 as' ms → zs ≡ marking_passed names (slice_get (instances ds) g) 0 as' ms
passed_some names ds g d as' ms zs e f = f ∙ sym (ap (λ o. marking_passed names o 0 as' ms) (slice_get-map instance_of ds g ∙ ap (option_map instance_of) e))

pub ruleset marks = (marked_fip, marked_as, match_marked)
