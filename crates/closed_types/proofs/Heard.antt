-- What a walk has heard of a body are its calls in text order, its annotations, and the data types that it names.
use Rattle.std.proofs.Common.{◌≡◌, ℕ, ◌+◌, Bool, arith, length, false, List, [], ◌∷◌, ◌++◌, map, Option, refl, ap, sym, ◌∙◌, append_assoc, append-nil, nat_eq}
use Rattle.fip_base.specs.fip_language.Core.{Written, WrittenName, Binder, Argument, Variable, Literal, Constructor, Arguments, NoArguments, MoreArguments, Pattern, BinderPattern, LiteralPattern, ConstructorPattern, Patterns, NoPatterns, MorePatterns, Expression, Give, Tuple, Operation, Call, Match, Nested, Block, Last, Let, Clauses, NoClauses, MoreClauses}
use Rattle.fip_base.specs.fip_language.Mentions.{Mention, all_of, constructors_in_argument, constructors_in_arguments, constructors_in_pattern, constructors_in_patterns, constructors_in_expression, constructors_in_block, constructors_in_clauses}
use Rattle.fip_base.specs.fip_language.Stack.{CallSite, sites_in_expression, sites_in_block, sites_in_clauses}
use Rattle.fip_trees.specs.Names.{meaning}
use Rattle.closed_types.specs.Source.{Source}
use Rattle.closed_types.specs.Instances.{use_at, order_on, put_in_order}
use Rattle.closed_types.specs.Numbering.{with_all, with_new}
use Rattle.closed_types.specs.TypeInstances.{annotation_of, annotations_at, annotations_in_pattern, annotations_in_patterns, annotations_in_expression, annotations_in_block, annotations_in_clauses, plain_number}
use Rattle.closed_types.specs.Binders.{binders_in_pattern, binders_in_patterns, binders_in_expression, binders_in_block, binders_in_clauses}
use Rattle.closed_types.specs.MentionsView.{Heard, hears_argument, hears_arguments, hears_binders, hears_block, hears_clauses, hears_expression, hears_pattern, hears_patterns, with_annotation, with_constructor, with_site}

order_append : (vs us ws : List Written) → order_on vs (us ++ ws) ≡ order_on (order_on vs us) ws
order_append vs [] ws = refl
order_append vs (u ∷ us) ws = order_append (put_in_order u vs) us ws

map_append : (xs ys : List CallSite) → map use_at (xs ++ ys) ≡ map use_at xs ++ map use_at ys
map_append [] ys = refl
map_append (x ∷ xs) ys = ap (λ l. use_at x ∷ l) (map_append xs ys)

two_ordered : (vs : List Written) (xs ys : List CallSite) → order_on (order_on vs (map use_at xs)) (map use_at ys) ≡ order_on vs (map use_at (xs ++ ys))
two_ordered vs xs ys = sym (order_append vs (map use_at xs) (map use_at ys)) ∙ ap (order_on vs) (sym (map_append xs ys))

all_append : {A : Type 0} (same : A → A → Bool) (xs ys zs : List A) → with_all same xs (ys ++ zs) ≡ with_all same (with_all same xs ys) zs
all_append same xs [] zs = refl
all_append same xs (y ∷ ys) zs = all_append same (with_new same xs y) ys zs

-- ---- calls

mutual
  argument_sites : (s : Source) (h : Heard) (a : Argument) → (hears_argument s h a).sites ≡ h.sites
  argument_sites s h (Variable b x p) = refl
  argument_sites s h (Literal i p) = refl
  argument_sites s h (Constructor x p as') = arguments_sites s (with_constructor s h x) as'

  arguments_sites : (s : Source) (h : Heard) (as' : Arguments) → (hears_arguments s h as').sites ≡ h.sites
  arguments_sites s h NoArguments = refl
  arguments_sites s h (MoreArguments a as') = arguments_sites s (hears_argument s h a) as' ∙ argument_sites s h a

annotation_sites : (h : Heard) (o : Option Written) → (with_annotation h o).sites ≡ h.sites
annotation_sites h o = refl

mutual
  pattern_sites : (s : Source) (h : Heard) (p : Pattern) → (hears_pattern s h p).sites ≡ h.sites
  pattern_sites s h (BinderPattern b) = annotation_sites h b.annotation
  pattern_sites s h (LiteralPattern i p) = refl
  pattern_sites s h (ConstructorPattern x p ps) = patterns_sites s (with_constructor s h x) ps

  patterns_sites : (s : Source) (h : Heard) (ps : Patterns) → (hears_patterns s h ps).sites ≡ h.sites
  patterns_sites s h NoPatterns = refl
  patterns_sites s h (MorePatterns p ps) = patterns_sites s (hears_pattern s h p) ps ∙ pattern_sites s h p

binders_sites : (h : Heard) (bs : List Binder) → (hears_binders h bs).sites ≡ h.sites
binders_sites h [] = refl
binders_sites h (b ∷ bs) = binders_sites (with_annotation h b.annotation) bs ∙ annotation_sites h b.annotation

mutual
  pub expression_sites : (s : Source) (tail : Bool) (h : Heard) (e : Expression) → (hears_expression s h e).sites ≡ order_on h.sites (map use_at (sites_in_expression tail e))
  expression_sites s tail h (Give a) = argument_sites s h a
  expression_sites s tail h (Tuple p as') = arguments_sites s h as'
  expression_sites s tail h (Operation o p a b) = argument_sites s (hears_argument s h a) b ∙ argument_sites s h a
  expression_sites s tail h (Call x p ws as') = arguments_sites s _ as'
  expression_sites s tail h (Match d p a cs) = clauses_sites s tail (hears_argument s h a) cs ∙ ap (λ l. order_on l (map use_at (sites_in_clauses tail cs))) (argument_sites s h a)
  expression_sites s tail h (Nested b) = block_sites s tail h b

  pub block_sites : (s : Source) (tail : Bool) (h : Heard) (b : Block) → (hears_block s h b).sites ≡ order_on h.sites (map use_at (sites_in_block tail b))
  block_sites s tail h (Last e) = expression_sites s tail h e
  block_sites s tail h (Let bs e rest) =
      block_sites s tail (hears_expression s (hears_binders h bs) e) rest
      ∙ ap (λ l. order_on l (map use_at (sites_in_block tail rest))) (expression_sites s false (hears_binders h bs) e ∙ ap (λ l. order_on l (map use_at (sites_in_expression false e))) (binders_sites h bs))
      ∙ two_ordered h.sites (sites_in_expression false e) (sites_in_block tail rest)

  pub clauses_sites : (s : Source) (tail : Bool) (h : Heard) (cs : Clauses) → (hears_clauses s h cs).sites ≡ order_on h.sites (map use_at (sites_in_clauses tail cs))
  clauses_sites s tail h NoClauses = refl
  clauses_sites s tail h (MoreClauses p b rest) =
      clauses_sites s tail (hears_block s (hears_pattern s h p) b) rest
      ∙ ap (λ l. order_on l (map use_at (sites_in_clauses tail rest))) (block_sites s tail (hears_pattern s h p) b ∙ ap (λ l. order_on l (map use_at (sites_in_block tail b))) (pattern_sites s h p))
      ∙ two_ordered h.sites (sites_in_block tail b) (sites_in_clauses tail rest)

-- ---- annotations

mutual
  argument_annotations : (s : Source) (h : Heard) (a : Argument) → (hears_argument s h a).annotations ≡ h.annotations
  argument_annotations s h (Variable b x p) = refl
  argument_annotations s h (Literal i p) = refl
  argument_annotations s h (Constructor x p as') = arguments_annotations s (with_constructor s h x) as'

  arguments_annotations : (s : Source) (h : Heard) (as' : Arguments) → (hears_arguments s h as').annotations ≡ h.annotations
  arguments_annotations s h NoArguments = refl
  arguments_annotations s h (MoreArguments a as') = arguments_annotations s (hears_argument s h a) as' ∙ argument_annotations s h a

one_annotation : (h : Heard) (o : Option Written) → (with_annotation h o).annotations ≡ h.annotations ++ annotation_of o
one_annotation h o = refl

mutual
  pattern_annotations : (s : Source) (h : Heard) (p : Pattern) → (hears_pattern s h p).annotations ≡ h.annotations ++ annotations_in_pattern p
  pattern_annotations s h (BinderPattern b) = one_annotation h b.annotation
  pattern_annotations s h (LiteralPattern i p) = sym (append-nil h.annotations)
  pattern_annotations s h (ConstructorPattern x p ps) = patterns_annotations s (with_constructor s h x) ps

  patterns_annotations : (s : Source) (h : Heard) (ps : Patterns) → (hears_patterns s h ps).annotations ≡ h.annotations ++ annotations_in_patterns ps
  patterns_annotations s h NoPatterns = sym (append-nil h.annotations)
  patterns_annotations s h (MorePatterns p ps) =
      patterns_annotations s (hears_pattern s h p) ps ∙ ap (λ l. l ++ annotations_in_patterns ps) (pattern_annotations s h p)
      ∙ append_assoc h.annotations (annotations_in_pattern p) (annotations_in_patterns ps)

binders_annotations : (h : Heard) (bs : List Binder) → (hears_binders h bs).annotations ≡ h.annotations ++ annotations_at bs
binders_annotations h [] = sym (append-nil h.annotations)
binders_annotations h (b ∷ bs) =
    binders_annotations (with_annotation h b.annotation) bs ∙ ap (λ l. l ++ annotations_at bs) (one_annotation h b.annotation)
    ∙ append_assoc h.annotations (annotation_of b.annotation) (annotations_at bs)

mutual
  pub expression_annotations : (s : Source) (h : Heard) (e : Expression) → (hears_expression s h e).annotations ≡ h.annotations ++ annotations_in_expression e
  expression_annotations s h (Give a) = argument_annotations s h a ∙ sym (append-nil h.annotations)
  expression_annotations s h (Tuple p as') = arguments_annotations s h as' ∙ sym (append-nil h.annotations)
  expression_annotations s h (Operation o p a b) = argument_annotations s (hears_argument s h a) b ∙ argument_annotations s h a ∙ sym (append-nil h.annotations)
  expression_annotations s h (Call x p ws as') = arguments_annotations s _ as' ∙ sym (append-nil h.annotations)
  expression_annotations s h (Match d p a cs) = clauses_annotations s (hears_argument s h a) cs ∙ ap (λ l. l ++ annotations_in_clauses cs) (argument_annotations s h a)
  expression_annotations s h (Nested b) = block_annotations s h b

  pub block_annotations : (s : Source) (h : Heard) (b : Block) → (hears_block s h b).annotations ≡ h.annotations ++ annotations_in_block b
  block_annotations s h (Last e) = expression_annotations s h e
  block_annotations s h (Let bs e rest) =
      block_annotations s (hears_expression s (hears_binders h bs) e) rest
      ∙ ap (λ l. l ++ annotations_in_block rest) (expression_annotations s (hears_binders h bs) e ∙ ap (λ l. l ++ annotations_in_expression e) (binders_annotations h bs))
      ∙ append_assoc (h.annotations ++ annotations_at bs) (annotations_in_expression e) (annotations_in_block rest)
      ∙ append_assoc h.annotations (annotations_at bs) (annotations_in_expression e ++ annotations_in_block rest)

  pub clauses_annotations : (s : Source) (h : Heard) (cs : Clauses) → (hears_clauses s h cs).annotations ≡ h.annotations ++ annotations_in_clauses cs
  clauses_annotations s h NoClauses = sym (append-nil h.annotations)
  clauses_annotations s h (MoreClauses p b rest) =
      clauses_annotations s (hears_block s (hears_pattern s h p) b) rest
      ∙ ap (λ l. l ++ annotations_in_clauses rest) (block_annotations s (hears_pattern s h p) b ∙ ap (λ l. l ++ annotations_in_block b) (pattern_annotations s h p))
      ∙ append_assoc (h.annotations ++ annotations_in_pattern p) (annotations_in_block b) (annotations_in_clauses rest)
      ∙ append_assoc h.annotations (annotations_in_pattern p) (annotations_in_block b ++ annotations_in_clauses rest)

-- ---- data types that are named

abbrev pub numbers : Source → List Mention → List ℕ
numbers s ms = all_of (λ (m : Mention). plain_number s (meaning m.name s.names.constructors)) ms

pub all_of_append : {A B : Type 0} (f : A → List B) (xs ys : List A) → all_of f (xs ++ ys) ≡ all_of f xs ++ all_of f ys
all_of_append f [] ys = refl
all_of_append f (x ∷ xs) ys = ap (λ l. f x ++ l) (all_of_append f xs ys) ∙ sym (append_assoc (f x) (all_of f xs) (all_of f ys))

two_named : (s : Source) (ns : List ℕ) (xs ys : List Mention) → with_all nat_eq (with_all nat_eq ns (numbers s xs)) (numbers s ys) ≡ with_all nat_eq ns (numbers s (xs ++ ys))
two_named s ns xs ys =
    sym (all_append nat_eq ns (numbers s xs) (numbers s ys))
    ∙ ap (with_all nat_eq ns) (sym (all_of_append (λ (m : Mention). plain_number s (meaning m.name s.names.constructors)) xs ys))

mutual
  argument_named : (s : Source) (h : Heard) (a : Argument) → (hears_argument s h a).named ≡ with_all nat_eq h.named (numbers s (constructors_in_argument a))
  argument_named s h (Variable b x p) = refl
  argument_named s h (Literal i p) = refl
  argument_named s h (Constructor x p as') =
      arguments_named s (with_constructor s h x) as'
      ∙ sym (all_append nat_eq h.named (plain_number s (meaning x s.names.constructors)) (numbers s (constructors_in_arguments as')))

  arguments_named : (s : Source) (h : Heard) (as' : Arguments) → (hears_arguments s h as').named ≡ with_all nat_eq h.named (numbers s (constructors_in_arguments as'))
  arguments_named s h NoArguments = refl
  arguments_named s h (MoreArguments a as') =
      arguments_named s (hears_argument s h a) as'
      ∙ ap (λ l. with_all nat_eq l (numbers s (constructors_in_arguments as'))) (argument_named s h a)
      ∙ two_named s h.named (constructors_in_argument a) (constructors_in_arguments as')

annotation_named : (h : Heard) (o : Option Written) → (with_annotation h o).named ≡ h.named
annotation_named h o = refl

mutual
  pattern_named : (s : Source) (h : Heard) (p : Pattern) → (hears_pattern s h p).named ≡ with_all nat_eq h.named (numbers s (constructors_in_pattern p))
  pattern_named s h (BinderPattern b) = annotation_named h b.annotation
  pattern_named s h (LiteralPattern i p) = refl
  pattern_named s h (ConstructorPattern x p ps) =
      patterns_named s (with_constructor s h x) ps
      ∙ sym (all_append nat_eq h.named (plain_number s (meaning x s.names.constructors)) (numbers s (constructors_in_patterns ps)))

  patterns_named : (s : Source) (h : Heard) (ps : Patterns) → (hears_patterns s h ps).named ≡ with_all nat_eq h.named (numbers s (constructors_in_patterns ps))
  patterns_named s h NoPatterns = refl
  patterns_named s h (MorePatterns p ps) =
      patterns_named s (hears_pattern s h p) ps
      ∙ ap (λ l. with_all nat_eq l (numbers s (constructors_in_patterns ps))) (pattern_named s h p)
      ∙ two_named s h.named (constructors_in_pattern p) (constructors_in_patterns ps)

binders_named : (h : Heard) (bs : List Binder) → (hears_binders h bs).named ≡ h.named
binders_named h [] = refl
binders_named h (b ∷ bs) = binders_named (with_annotation h b.annotation) bs ∙ annotation_named h b.annotation

mutual
  pub expression_named : (s : Source) (h : Heard) (e : Expression) → (hears_expression s h e).named ≡ with_all nat_eq h.named (numbers s (constructors_in_expression e))
  expression_named s h (Give a) = argument_named s h a
  expression_named s h (Tuple p as') = arguments_named s h as'
  expression_named s h (Operation o p a b) =
      argument_named s (hears_argument s h a) b
      ∙ ap (λ l. with_all nat_eq l (numbers s (constructors_in_argument b))) (argument_named s h a)
      ∙ two_named s h.named (constructors_in_argument a) (constructors_in_argument b)
  expression_named s h (Call x p ws as') = arguments_named s _ as'
  expression_named s h (Match d p a cs) =
      clauses_named s (hears_argument s h a) cs
      ∙ ap (λ l. with_all nat_eq l (numbers s (constructors_in_clauses cs))) (argument_named s h a)
      ∙ two_named s h.named (constructors_in_argument a) (constructors_in_clauses cs)
  expression_named s h (Nested b) = block_named s h b

  pub block_named : (s : Source) (h : Heard) (b : Block) → (hears_block s h b).named ≡ with_all nat_eq h.named (numbers s (constructors_in_block b))
  block_named s h (Last e) = expression_named s h e
  block_named s h (Let bs e rest) =
      block_named s (hears_expression s (hears_binders h bs) e) rest
      ∙ ap (λ l. with_all nat_eq l (numbers s (constructors_in_block rest))) (expression_named s (hears_binders h bs) e ∙ ap (λ l. with_all nat_eq l (numbers s (constructors_in_expression e))) (binders_named h bs))
      ∙ two_named s h.named (constructors_in_expression e) (constructors_in_block rest)

  pub clauses_named : (s : Source) (h : Heard) (cs : Clauses) → (hears_clauses s h cs).named ≡ with_all nat_eq h.named (numbers s (constructors_in_clauses cs))
  clauses_named s h NoClauses = refl
  clauses_named s h (MoreClauses p b rest) =
      clauses_named s (hears_block s (hears_pattern s h p) b) rest
      ∙ ap (λ l. with_all nat_eq l (numbers s (constructors_in_clauses rest))) (block_named s (hears_pattern s h p) b ∙ ap (λ l. with_all nat_eq l (numbers s (constructors_in_block b))) (pattern_named s h p) ∙ two_named s h.named (constructors_in_pattern p) (constructors_in_block b))
      ∙ two_named s h.named (constructors_in_pattern p ++ constructors_in_block b) (constructors_in_clauses rest)
      ∙ ap (λ l. with_all nat_eq h.named (numbers s l)) (append_assoc (constructors_in_pattern p) (constructors_in_block b) (constructors_in_clauses rest))

-- ---- how many binders there are

mutual
  argument_binders : (s : Source) (h : Heard) (a : Argument) → (hears_argument s h a).binders ≡ h.binders
  argument_binders s h (Variable b x p) = refl
  argument_binders s h (Literal i p) = refl
  argument_binders s h (Constructor x p as') = arguments_binders s (with_constructor s h x) as'

  arguments_binders : (s : Source) (h : Heard) (as' : Arguments) → (hears_arguments s h as').binders ≡ h.binders
  arguments_binders s h NoArguments = refl
  arguments_binders s h (MoreArguments a as') = arguments_binders s (hears_argument s h a) as' ∙ argument_binders s h a

mutual
  pattern_binders : (s : Source) (h : Heard) (p : Pattern) → (hears_pattern s h p).binders ≡ h.binders + binders_in_pattern p
  pattern_binders s h (BinderPattern b) = refl
  pattern_binders s h (LiteralPattern i p) = omega arith
  pattern_binders s h (ConstructorPattern x p ps) = patterns_binders s (with_constructor s h x) ps

  patterns_binders : (s : Source) (h : Heard) (ps : Patterns) → (hears_patterns s h ps).binders ≡ h.binders + binders_in_patterns ps
  patterns_binders s h NoPatterns = omega arith
  patterns_binders s h (MorePatterns p ps) =
      let e = patterns_binders s (hears_pattern s h p) ps in
      let f = pattern_binders s h p in
      omega (arith, e, f)

binders_binders : (h : Heard) (bs : List Binder) → (hears_binders h bs).binders ≡ h.binders + length bs
binders_binders h [] = omega arith
binders_binders h (b ∷ bs) = let e = binders_binders (with_annotation h b.annotation) bs in omega (arith, e)

mutual
  pub expression_binders : (s : Source) (h : Heard) (e : Expression) → (hears_expression s h e).binders ≡ h.binders + binders_in_expression e
  expression_binders s h (Give a) = let e = argument_binders s h a in omega (arith, e)
  expression_binders s h (Tuple p as') = let e = arguments_binders s h as' in omega (arith, e)
  expression_binders s h (Operation o p a b) =
      let e = argument_binders s (hears_argument s h a) b in
      let f = argument_binders s h a in
      omega (arith, e, f)
  expression_binders s h (Call x p ws as') = let e = arguments_binders s (with_site h (WrittenName x p ws)) as' in omega (arith, e)
  expression_binders s h (Match d p a cs) =
      let e = clauses_binders s (hears_argument s h a) cs in
      let f = argument_binders s h a in
      omega (arith, e, f)
  expression_binders s h (Nested b) = block_binders s h b

  pub block_binders : (s : Source) (h : Heard) (b : Block) → (hears_block s h b).binders ≡ h.binders + binders_in_block b
  block_binders s h (Last e) = expression_binders s h e
  block_binders s h (Let bs e rest) =
      let r = block_binders s (hears_expression s (hears_binders h bs) e) rest in
      let f = expression_binders s (hears_binders h bs) e in
      let g = binders_binders h bs in
      omega (arith, r, f, g)

  pub clauses_binders : (s : Source) (h : Heard) (cs : Clauses) → (hears_clauses s h cs).binders ≡ h.binders + binders_in_clauses cs
  clauses_binders s h NoClauses = omega arith
  clauses_binders s h (MoreClauses p b rest) =
      let r = clauses_binders s (hears_block s (hears_pattern s h p) b) rest in
      let f = block_binders s (hears_pattern s h p) b in
      let g = pattern_binders s h p in
      omega (arith, r, f, g)
