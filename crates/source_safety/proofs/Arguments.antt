-- What is required of the arguments of a program before it is typed: its literals have 64 bits, and a constructor is
-- one of each type that its data type declares. Filling in types keeps it; and where the types fit, the arguments are
-- formed.
use Rattle.std.proofs.Common.{◌≡◌, ◌<◌, ◌==◌, ◌^◌, inl, inr, ℕ, zero, suc, ◌+◌, Bool, true, false, nat_lt, List, [], ◌∷◌, ◌++◌, length, map, Option, Some, None, slice_get, if◌then◌else◌, FitsSigned, refl, sym, ap, ◌∙◌, subst, arith}
use Rattle.std.specs.Int.{w64}
use Rattle.std.proofs.lemmas.Bool.Decides.{nat_tests}
use Rattle.in_place_safety.specs.fip_base.declared.plain.Param.{Param}
use Rattle.in_place_safety.specs.fip_language.Every.{Among}
use Rattle.in_place_safety.specs.fip_language.Table.{shapes, constructors}
use Rattle.in_place_safety.specs.fip_trees.declared.program.Binder.{Binder}
use Rattle.in_place_safety.specs.fip_trees.Tree as T
use Rattle.in_place_safety.specs.fip_trees.Tree.{Program, count}
use Rattle.in_place_safety.specs.type_check.Found.{or_found, first_wanted, usable, others, wanted_next}
use Rattle.in_place_safety.specs.type_check.Scope.{Scope}
use Rattle.in_place_safety.specs.type_check.Binders.{all_annotated, annotations, entries}
use Rattle.in_place_safety.specs.type_check.Typing as Y
use Rattle.in_place_safety.specs.type_check.Typing.{bound_by, parameter_scope}
use Rattle.in_place_safety.specs.type_check.World.{World, world, is_number, numbered, first_declared, chosen, field_types, fields_of, head}
use Rattle.in_place_safety.specs.type_check.Faults.{fill_argument, fill_arguments, fill, fill_block, fill_clauses, fill_parameters, fill_instance, filled, found, found_block, found_argument}
use Rattle.in_place_safety.specs.type_safety.Formed.{FormedArgument, FormedArguments, FormedExpression, FormedBlock, FormedClauses, AreFormed}
use Rattle.specialisation_correctness.specs.source_report.WellFormed.{IsKnown, IsKnownBlock, AreKnownClauses, IsKnownInstance}
use Rattle.in_place_safety.proofs.type_safety.type_check.fip_language.Facts.{same_number}

-- a constructor of each type that the data type declares
abbrev pub IsRowOf : Program → ℕ → ℕ → Type 0
IsRowOf p d c = (t : ℕ) → slice_get p.declaring t ≡ Some d → c < length (shapes p.types t)

abbrev mutual
  pub Sound : Program → T.Argument → Type 0
  Sound p (T.Variable x n q) = Unit {0}
  Sound p (T.Literal i q) = FitsSigned w64 i
  Sound p (T.Constructor u d c n q as') = IsRowOf p d c × AllSound p as'

  pub AllSound : Program → T.Arguments → Type 0
  AllSound p T.NoArguments = Unit {0}
  AllSound p (T.MoreArguments a as') = Sound p a × AllSound p as'

abbrev mutual
  pub SoundExpression : Program → T.Expression → Type 0
  SoundExpression p (T.Give a) = Sound p a
  SoundExpression p (T.Tuple q as') = AllSound p as'
  SoundExpression p (T.Operation o q l r) = Sound p l × Sound p r
  SoundExpression p (T.Call g n q as') = AllSound p as'
  SoundExpression p (T.Match k u q a r body cs) = Sound p a × SoundBlock p body × SoundClauses p cs
  SoundExpression p (T.Nested b) = SoundBlock p b

  pub SoundBlock : Program → T.Block → Type 0
  SoundBlock p (T.Last e) = SoundExpression p e
  SoundBlock p (T.Let bs e rest) = SoundExpression p e × SoundBlock p rest

  pub SoundClauses : Program → T.Clauses → Type 0
  SoundClauses p T.NoClauses = Unit {0}
  SoundClauses p (T.MoreClauses q body cs) = SoundBlock p body × SoundClauses p cs

pub record SoundInstance (p : Program) (d : T.Instance) : Type 0 where
  pub binders : length d.binders ≡ length d.params
  pub body : SoundBlock p d.body

-- ---- filled slots

parameters_filled : (ps : List Param) (bs : List Binder) → length bs ≡ length ps → length (fill_parameters ps bs) ≡ length ps
parameters_filled [] bs h = h
parameters_filled (p ∷ ps) [] h = absurd (cc)
parameters_filled (p ∷ ps) (b ∷ bs) h = let e : length bs ≡ length ps = cc in ap suc (parameters_filled ps bs e)

from_map : {A B : Type 0} (P : B → Type 0) (f : A → B) (xs : List A) → ((x : A) → Among x xs → P (f x)) → (y : B) → Among y (map f xs) → P y
from_map P f [] h y a = absurd a
from_map P f (x ∷ xs) h y (inl e) = subst P (sym e) (h x (inl refl))
from_map P f (x ∷ xs) h y (inr a) = from_map P f xs (λ z b. h z (inr b)) y a

module _ (p : Program) where
  abbrev q : Program
  q = filled p

  mutual
    argument_kept : (o : Option (Option ℕ)) (a : T.Argument) → Sound p a → Sound q (fill_argument (world p) o a)
    argument_kept o (T.Variable x n l) h = tt
    argument_kept o (T.Literal i l) h = h
    argument_kept o (T.Constructor u d c n l as') h = (h.0, arguments_kept true (field_types (world p) (chosen (world p) o d) c) as' h.1)

    arguments_kept : (b : Bool) (ts : List (Option ℕ)) (as' : T.Arguments) → AllSound p as' → AllSound q (fill_arguments (world p) b ts as')
    arguments_kept b ts T.NoArguments h = tt
    arguments_kept b ts (T.MoreArguments a as') h = (argument_kept (first_wanted b ts) a h.0, arguments_kept b (others ts) as' h.1)

  mutual
    expression_kept : (s : Scope) (b : Bool) (ts : List (Option ℕ)) (e : T.Expression) → SoundExpression p e → SoundExpression q (fill (world p) s b ts e)
    expression_kept s b ts (T.Give a) h = argument_kept (first_wanted b (usable b 1 ts)) a h
    expression_kept s b ts (T.Tuple l as') h = arguments_kept b (usable b (count as') ts) as' h
    expression_kept s b ts (T.Operation o l x y) h = (argument_kept (Some (Some 0)) x h.0, argument_kept (Some (Some 0)) y h.1)
    expression_kept s b ts (T.Call g n l as') h = arguments_kept true (map Some (head (world p) g).parameters) as' h
    expression_kept s b ts (T.Match k u l a r body cs) h = (
      argument_kept None a h.0,
      block_kept (s ++ bound_by (world p) (found_argument (world p) s None a) r) b ts body h.1,
      clauses_kept s (found_argument (world p) s None a) (wanted_next b ts (found_block (world p) (s ++ bound_by (world p) (found_argument (world p) s None a) r) b ts body)) cs h.2,
    )
    expression_kept s b ts (T.Nested d) h = block_kept s b ts d h

    block_kept : (s : Scope) (b : Bool) (ts : List (Option ℕ)) (d : T.Block) → SoundBlock p d → SoundBlock q (fill_block (world p) s b ts d)
    block_kept s b ts (T.Last e) h = expression_kept s b ts e h
    block_kept s b ts (T.Let bs e rest) h = (
      expression_kept s (all_annotated bs) (annotations bs) e h.0,
      block_kept (s ++ entries bs (found (world p) s (all_annotated bs) (annotations bs) e)) b ts rest h.1,
    )

    clauses_kept : (s : Scope) (t : Option ℕ) (ts : List (Option ℕ)) (cs : T.Clauses) → SoundClauses p cs → SoundClauses q (fill_clauses (world p) s t ts cs)
    clauses_kept s t ts T.NoClauses h = tt
    clauses_kept s t ts (T.MoreClauses r body cs) h =
        (block_kept (s ++ bound_by (world p) t r) true ts body h.0, clauses_kept s t ts cs h.1)

  instance_kept : (d : T.Instance) → SoundInstance p d → SoundInstance q (fill_instance (world p) d)
  instance_kept d h =
      record {
        binders = parameters_filled d.params d.binders h.binders;
        body = block_kept (parameter_scope d) true (map Some d.results) d.body h.body;
      }

pub stays_sound : (p : Program) → ((d : T.Instance) → Among d p.instances → SoundInstance p d) → (d : T.Instance) → Among d (filled p).instances → SoundInstance (filled p) d
stays_sound p h = from_map (SoundInstance (filled p)) (fill_instance (world p)) p.instances (λ d a. instance_kept p d (h d a))

-- ---- the type of a constructor is declared by its data type

abbrev IsDeclaredBy : List ℕ → ℕ → ℕ → ℕ → Type 0
IsDeclaredBy xs n d t = (i : ℕ) × (t ≡ n + i) × (slice_get xs i ≡ Some d)

declared_by_number : (xs : List ℕ) (t d : ℕ) → is_number (numbered xs t) d ≡ true → IsDeclaredBy xs 1 d t
declared_by_number xs zero d e = absurd (cc)
declared_by_number xs (suc n) d e = by (slice_get xs n) refl
  where
    by : (o : Option ℕ) → slice_get xs n ≡ o → IsDeclaredBy xs 1 d (suc n)
    by None f = let r : is_number None d ≡ true = subst (λ o. is_number o d ≡ true) f e in absurd (cc)
    by (Some k) f =
        let r : (k == d) ≡ true = subst (λ o. is_number o d ≡ true) f e in
        (n, (let g : suc n ≡ 1 + n = omega arith in g), f ∙ ap (λ m. Some m) (same_number k d r))

first_declares : (xs : List ℕ) (n d t : ℕ) → first_declared xs n d ≡ Some t → IsDeclaredBy xs n d t
first_declares [] n d t e = absurd (cc)
first_declares (k ∷ xs) n d t e = by (k == d) (nat_lt n (2 ^ 32)) refl e (first_declares xs (suc n) d t)
  where
    later : IsDeclaredBy xs (suc n) d t → IsDeclaredBy (k ∷ xs) n d t
    later r = (suc r.0, (let f = r.1 in let g : t ≡ n + suc r.0 = omega (arith, f) in g), r.2)

    by : (b c : Bool) → (k == d) ≡ b → or_found (if b then if c then Some n else None else None) (first_declared xs (suc n) d) ≡ Some t → (first_declared xs (suc n) d ≡ Some t → IsDeclaredBy xs (suc n) d t) → IsDeclaredBy (k ∷ xs) n d t
    by true true f h l = let same : n ≡ t = cc in (0, (let g : t ≡ n + 0 = omega (arith, same) in g), ap (λ m. Some m) (same_number k d f))
    by true false f h l = later (l h)
    by false c f h l = later (l h)

plain_declares : (xs : List ℕ) (d t : ℕ) (b : Bool) → (if b then first_declared xs 1 d else None) ≡ Some t → IsDeclaredBy xs 1 d t
plain_declares xs d t true e = first_declares xs 1 d t e
plain_declares xs d t false e = absurd (cc)

made_by : (w : World) (b : Bool) (d t : ℕ) → Y.Makes w b d t → IsDeclaredBy w.declaring 1 d t
made_by w true d t h = declared_by_number w.declaring t d h
made_by w false d t h = plain_declares w.declaring d t (is_number (numbered w.arities d) 0) h

-- ---- typed arguments are formed

module _ (p : Program) where
  row_there : (u d c t : ℕ) → IsRowOf p d c → u ≡ t → IsDeclaredBy p.declaring 1 d t → c < length (constructors p.types u)
  row_there u d c t h e m =
      let same : u ≡ suc m.0 = (let f = m.1 in omega (arith, e, f)) in
      subst (λ n. c < length (constructors p.types n)) (sym same) (h m.0 m.2)

  mutual
    argument_formed : (s : Scope) (b : Bool) (a : T.Argument) (t : ℕ) → Sound p a → Y.HasType true (world p) s b a t → FormedArgument p a
    argument_formed s b (T.Variable x n l) t h k = tt
    argument_formed s b (T.Literal i l) t h k = h
    argument_formed s b (T.Constructor u d c n l as') t h k =
        (row_there u d c t h.0 k.0 (made_by (world p) b d t k.1), arguments_formed s true as' (fields_of (world p) t c) h.1 k.2)

    arguments_formed : (s : Scope) (b : Bool) (as' : T.Arguments) (ts : List ℕ) → AllSound p as' → Y.HaveTypes true (world p) s b as' ts → FormedArguments p as'
    arguments_formed s b T.NoArguments ts h k = tt
    arguments_formed s b (T.MoreArguments a as') [] h k = absurd k
    arguments_formed s b (T.MoreArguments a as') (t ∷ ts) h k = (argument_formed s b a t h.0 k.0, arguments_formed s b as' ts h.1 k.1)

  mutual
    expression_formed : (s : Scope) (b : Bool) (e : T.Expression) (ts : List ℕ) → SoundExpression p e → IsKnown p e → Y.Types true (world p) s b e ts → FormedExpression p e
    expression_formed s b (T.Give a) ts h g k = argument_formed s b a k.0 h k.2
    expression_formed s b (T.Tuple l as') ts h g k = arguments_formed s b as' ts h k.1
    expression_formed s b (T.Operation o l x y) ts h g k = (argument_formed s true x 0 h.0 k.1, argument_formed s true y 0 h.1 k.2)
    expression_formed s b (T.Call f n l as') ts h g k = (g, arguments_formed s true as' (head (world p) f).parameters h k.1)
    expression_formed s b (T.Match d u l a r body cs) ts h g k = (
      argument_formed s false a k.0 h.0 k.2,
      block_formed (s ++ bound_by (world p) (Some k.0) r) b body ts h.1 g.1 k.4,
      clauses_formed s k.0 cs ts h.2 g.2 k.5,
    )
    expression_formed s b (T.Nested d) ts h g k = block_formed s b d ts h g k

    block_formed : (s : Scope) (b : Bool) (d : T.Block) (ts : List ℕ) → SoundBlock p d → IsKnownBlock p d → Y.TypesBlock true (world p) s b d ts → FormedBlock p d
    block_formed s b (T.Last e) ts h g k = expression_formed s b e ts h g k
    block_formed s b (T.Let bs e rest) ts h g k =
        (expression_formed s (all_annotated bs) e k.0 h.0 g.0 k.1, block_formed (s ++ entries bs (map Some k.0)) b rest ts h.1 g.1 k.3)

    clauses_formed : (s : Scope) (t : ℕ) (cs : T.Clauses) (ts : List ℕ) → SoundClauses p cs → AreKnownClauses p cs → Y.TypesClauses true (world p) s t cs ts → FormedClauses p cs
    clauses_formed s t T.NoClauses ts h g k = tt
    clauses_formed s t (T.MoreClauses r body cs) ts h g k =
        (block_formed (s ++ bound_by (world p) (Some t) r) true body ts h.0 g.1 k.1, clauses_formed s t cs ts h.1 g.2 k.2)

  pub instances_formed : (ds : List T.Instance) → ((d : T.Instance) → Among d ds → SoundInstance p d) → ((d : T.Instance) → Among d ds → IsKnownInstance p d) → Y.AllTyped true (world p) ds → AreFormed p ds
  instances_formed [] h g k = tt
  instances_formed (d ∷ ds) h g k =
      let here = h d (inl refl) in
      let known = g d (inl refl) in (
        record {
          binders = here.binders;
          body = block_formed (parameter_scope d) true d.body d.results here.body known.body k.0.3;
        },
        instances_formed ds (λ e a. h e (inr a)) (λ e a. g e (inr a)) k.1,
      )
