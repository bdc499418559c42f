-- The types that are found are the only ones.
use Rattle.std.proofs.Common.{◌≡◌, ℕ, refl, sym, ap, subst, ◌∙◌, List, [], ◌∷◌, ◌++◌, Option, Some, None, Bool, true, false}
use Rattle.std.specs.Prelude.{map, is_some, ◌&&◌}
use Rattle.fip_trees.specs.declared.program.Binder.{Binder}
use Rattle.fip_trees.specs.Tree.{Argument, Variable, Literal, Constructor, Arguments, NoArguments, MoreArguments, Expression, Give, Tuple, Operation, Call, Match, Nested, Block, Last, Let}
use Rattle.type_check.specs.World.{World}
use Rattle.type_check.specs.Scope.{Scope}
use Rattle.type_check.specs.Binders.{entries, all_annotated}
use Rattle.type_check.specs.Typing.{bound_by, Annotated, Bind, HasType, HaveTypes, Types, TypesBlock}
use Rattle.fip_language.proofs.Facts.{and_both}

once_argument : (f g : Bool) (w : World) (s : Scope) (a : Argument) (t u : ℕ) → HasType f w s false a t → HasType g w s false a u → t ≡ u
once_argument f g w s (Variable x n p) t u h k = cc (h, k)
once_argument f g w s (Literal v p) t u h k = h ∙ sym k
once_argument f g w s (Constructor v d c n p as') t u h k = let a = h.1 in let b = k.1 in cc

once_arguments : (f g : Bool) (w : World) (s : Scope) (as' : Arguments) (ts us : List ℕ) → HaveTypes f w s false as' ts → HaveTypes g w s false as' us → ts ≡ us
once_arguments f g w s NoArguments [] [] h k = refl
once_arguments f g w s NoArguments [] (u ∷ us) h k = absurd k
once_arguments f g w s NoArguments (t ∷ ts) us h k = absurd h
once_arguments f g w s (MoreArguments a as') [] us h k = absurd h
once_arguments f g w s (MoreArguments a as') (t ∷ ts) [] h k = absurd k
once_arguments f g w s (MoreArguments a as') (t ∷ ts) (u ∷ us) h k =
    let x = once_argument f g w s a t u h.0 k.0 in let y = once_arguments f g w s as' ts us h.1 k.1 in cc

once_annotation : (o : Option ℕ) (t u : ℕ) → is_some o ≡ true → Annotated o t → Annotated o u → t ≡ u
once_annotation None t u q h k = absurd (cc)
once_annotation (Some v) t u q h k = sym h ∙ k

once_annotated : (f g : Bool) (bs : List Binder) (ts us : List ℕ) → all_annotated bs ≡ true → Bind f bs ts → Bind g bs us → ts ≡ us
once_annotated f g [] [] [] q h k = refl
once_annotated f g [] [] (u ∷ us) q h k = absurd k
once_annotated f g [] (t ∷ ts) us q h k = absurd h
once_annotated f g (b ∷ bs) [] us q h k = absurd h
once_annotated f g (b ∷ bs) (t ∷ ts) [] q h k = absurd k
once_annotated f g (b ∷ bs) (t ∷ ts) (u ∷ us) q h k =
    let a = and_both (is_some b.annotation) (all_annotated bs) q in
    let x = once_annotation b.annotation t u a.0 h.0.0 k.0.0 in
    let y = once_annotated f g bs ts us a.1 h.1 k.1 in cc

once_bound : (f g : Bool) (w : World) (s : Scope) (bs : List Binder) (e : Expression) (ts us : List ℕ) → (Types f w s false e ts → Types g w s false e us → ts ≡ us) → (c : Bool) → all_annotated bs ≡ c → Types f w s c e ts → Types g w s c e us → Bind f bs ts → Bind g bs us → ts ≡ us
once_bound f g w s bs e ts us r true q h k x y = once_annotated f g bs ts us q x y
once_bound f g w s bs e ts us r false q h k x y = r h k

mutual
  pub once : (f g : Bool) (w : World) (s : Scope) (e : Expression) (ts us : List ℕ) → Types f w s false e ts → Types g w s false e us → ts ≡ us
  once f g w s (Give a) ts us h k = let x = once_argument f g w s a h.0 k.0 h.2 k.2 in h.1 ∙ ap (λ (t : ℕ). t ∷ []) x ∙ sym k.1
  once f g w s (Tuple p as') ts us h k = once_arguments f g w s as' ts us h.1 k.1
  once f g w s (Operation o p l r) ts us h k = h.0 ∙ sym k.0
  once f g w s (Call n x p as') ts us h k = h.0 ∙ sym k.0
  once f g w s (Match kd v p a q body cs) ts us h k =
      let x = once_argument f g w s a h.0 k.0 h.2 k.2 in
      once_block f g w (s ++ bound_by w (Some k.0) q) body ts us (subst (λ (t : ℕ). TypesBlock f w (s ++ bound_by w (Some t) q) false body ts) x h.4) k.4
  once f g w s (Nested d) ts us h k = once_block f g w s d ts us h k

  pub once_block : (f g : Bool) (w : World) (s : Scope) (d : Block) (ts us : List ℕ) → TypesBlock f w s false d ts → TypesBlock g w s false d us → ts ≡ us
  once_block f g w s (Last e) ts us h k = once f g w s e ts us h k
  once_block f g w s (Let bs e rest) ts us h k =
      let x = once_bound f g w s bs e h.0 k.0 (λ a b. once f g w s e h.0 k.0 a b) (all_annotated bs) refl h.1 k.1 h.2 k.2 in
      once_block f g w (s ++ entries bs (map Some k.0)) rest ts us (subst (λ (t : List ℕ). TypesBlock f w (s ++ entries bs (map Some t)) false rest ts) x h.3) k.3
