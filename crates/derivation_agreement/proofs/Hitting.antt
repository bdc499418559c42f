-- Whether a variable occurs in an expression, or is used up there: by the tables, and by the text.
use Rattle.std.proofs.Common.{◌≡◌, ℕ, zero, suc, ◌<◌, ◌≤◌, ◌+◌, ◌&&◌, ◌||◌, ◌⊎◌, inl, inr, refl, sym, ap, ap₂, subst, ◌∙◌, append_assoc, List, [], ◌∷◌, ◌++◌, length, get_or, Option, Some, None, Bool, true, false, not, nat_lt, arith}
use Rattle.std.specs.Prelude.{◌==◌, if◌then◌else◌}
use Rattle.std.proofs.lemmas.Bool.{lt-ltb, le-ltb, eq-eqb, ne_eqb, cases_eq, and_left, and_right}
use Rattle.tail_groups.specs.fip_trees.Tree.{Program, Argument, Variable, Literal, Constructor, Arguments, NoArguments, MoreArguments, Expression, Give, Tuple, Operation, Call, Match, Nested, Block, Last, Let, Clauses, NoClauses, MoreClauses}
use Rattle.derivation_walk.specs.fip_rules.World.{World, lends}
use Rattle.derivation_walk.specs.fip_rules.Shapes.{takes}
use Rattle.derivation_making.specs.ownership_agreement.Sized.{IsVariable, SizedExpression, SizedBlock, SizedClauses}
use Rattle.derivation_walk.specs.declared.found.Occurrence.{Occurrence}
use Rattle.derivation_walk.specs.Tables.{empty_rows, add_at, is_taken_up, add_if, rows_from, row_at, has_within}
use Rattle.derivation_making.specs.Uses.{names, occurs_value, occurs_values, occurs, occurs_block, occurs_clauses, uses_lent, uses_passed, uses, uses_block, uses_clauses}
use Rattle.derivation_walk.specs.Walked.{size, size_parts, size_clauses}
use Rattle.derivation_agreement.proofs.Seeing.{marks_of, owned_value, owned_values, lent_value, passed_value, passed_values, marks, marks_parts, marks_clauses}
use Rattle.derivation_walk.proofs.Rising.{empty_row}

-- ---- hits

-- whether one of the occurrences is of a binder, and is taken up
abbrev pub hits : Bool → ℕ → List Occurrence → Bool
hits all x [] = false
hits all x (o ∷ os) = (is_taken_up all o && (o.binder == x)) || hits all x os

or_assoc : (a b c : Bool) → a || (b || c) ≡ (a || b) || c
or_assoc true b c = refl
or_assoc false b c = refl

or_false : (a : Bool) → a || false ≡ a
or_false true = refl
or_false false = refl

hits_append : (all : Bool) (x : ℕ) (os ps : List Occurrence) → hits all x (os ++ ps) ≡ hits all x os || hits all x ps
hits_append all x [] ps = refl
hits_append all x (o ∷ os) ps =
    ap (λ b. (is_taken_up all o && (o.binder == x)) || b) (hits_append all x os ps)
    ∙ or_assoc (is_taken_up all o && (o.binder == x)) (hits all x os) (hits all x ps)

-- those of parts together
hits_both : (all : Bool) (x : ℕ) (os ps : List Occurrence) (a b : Bool) → hits all x os ≡ a → hits all x ps ≡ b → hits all x (os ++ ps) ≡ a || b
hits_both all x os ps a b e f = hits_append all x os ps ∙ ap₂ (λ c d. c || d) e f

-- an occurrence that uses a variable up is taken up in any case
hits_own : (all : Bool) (x i : ℕ) (o : Option ℕ) → hits all x (marks_of i false o) ≡ names x o
hits_own all x i None = refl
hits_own true x i (Some y) = or_false (y == x)
hits_own false x i (Some y) = or_false (y == x)

mutual
  hits_value : (all : Bool) (x i : ℕ) (a : Argument) → hits all x (owned_value i a) ≡ occurs_value x a
  hits_value all x i (Variable y n p) = hits_own all x i y
  hits_value all x i (Literal v p) = refl
  hits_value all x i (Constructor t d c n p as') = hits_values all x i as'

  hits_values : (all : Bool) (x i : ℕ) (as' : Arguments) → hits all x (owned_values i as') ≡ occurs_values x as'
  hits_values all x i NoArguments = refl
  hits_values all x i (MoreArguments a as') = hits_both all x (owned_value i a) (owned_values i as') (occurs_value x a) (occurs_values x as') (hits_value all x i a) (hits_values all x i as')

hits_lent : (x i : ℕ) (o : Option ℕ) → hits true x (marks_of i true o) ≡ names x o
hits_lent x i None = refl
hits_lent x i (Some y) = or_false (y == x)

misses_lent : (x i : ℕ) (o : Option ℕ) → hits false x (marks_of i true o) ≡ false
misses_lent x i None = refl
misses_lent x i (Some y) = refl

occurs_passed : (x i : ℕ) (b : Bool) (a : Argument) → hits true x (passed_value i b a) ≡ occurs_value x a
occurs_passed x i false a = hits_value true x i a
occurs_passed x i true (Variable y n p) = hits_lent x i y
occurs_passed x i true (Literal v p) = refl
occurs_passed x i true (Constructor t d c n p as') = hits_values true x i as'

uses_one : (x i : ℕ) (b : Bool) (a : Argument) → hits false x (passed_value i b a) ≡ (if b then uses_lent x a else occurs_value x a)
uses_one x i false a = hits_value false x i a
uses_one x i true (Variable y n p) = misses_lent x i y
uses_one x i true (Literal v p) = refl
uses_one x i true (Constructor t d c n p as') = hits_values false x i as'

occurs_all : (w : World) (x i g j : ℕ) (as' : Arguments) → hits true x (passed_values w i g j as') ≡ occurs_values x as'
occurs_all w x i g j NoArguments = refl
occurs_all w x i g j (MoreArguments a as') = hits_both true x (passed_value i (lends w g j) a) (passed_values w i g (j + 1) as') (occurs_value x a) (occurs_values x as') (occurs_passed x i (lends w g j) a) (occurs_all w x i g (j + 1) as')

uses_all : (w : World) (x i g j : ℕ) (as' : Arguments) → hits false x (passed_values w i g j as') ≡ uses_passed w x g j as'
uses_all w x i g j NoArguments = refl
uses_all w x i g j (MoreArguments a as') =
    let e : j + 1 ≡ suc j = omega arith in
    hits_both false x (passed_value i (lends w g j) a) (passed_values w i g (j + 1) as') (if lends w g j then uses_lent x a else occurs_value x a) (uses_passed w x g (suc j) as') (uses_one x i (lends w g j) a)
    (uses_all w x i g (j + 1) as' ∙ ap (λ k. uses_passed w x g k as') e)

mutual
  pub occurs_hits : (w : World) (x i : ℕ) (e : Expression) → hits true x (marks w i e) ≡ occurs x e
  occurs_hits w x i (Give a) = hits_value true x i a
  occurs_hits w x i (Tuple p as') = hits_values true x i as'
  occurs_hits w x i (Operation o p l r) = hits_both true x (owned_value i l) (owned_value i r) (occurs_value x l) (occurs_value x r) (hits_value true x i l) (hits_value true x i r)
  occurs_hits w x i (Call g n p as') = occurs_all w x i g 0 as'
  occurs_hits w x i (Match k t p a q body cs) =
      hits_both true x (passed_value i (not (takes w k t)) a) (marks_parts w (i + 1 + 1) body ++ marks_clauses w (i + 1 + (size_parts body + 1)) cs) (occurs_value x a) (occurs_block x body || occurs_clauses x cs)
      (occurs_passed x i (not (takes w k t)) a)
      (hits_both true x (marks_parts w (i + 1 + 1) body) (marks_clauses w (i + 1 + (size_parts body + 1)) cs) (occurs_block x body) (occurs_clauses x cs) (occurs_parts w x (i + 1 + 1) body) (occurs_others w x (i + 1 + (size_parts body + 1)) cs))
  occurs_hits w x i (Nested b) = occurs_parts w x (i + 1) b

  pub occurs_parts : (w : World) (x i : ℕ) (b : Block) → hits true x (marks_parts w i b) ≡ occurs_block x b
  occurs_parts w x i (Last e) = occurs_hits w x i e
  occurs_parts w x i (Let bs e rest) = hits_both true x (marks w i e) (marks_parts w (i + size e) rest) (occurs x e) (occurs_block x rest) (occurs_hits w x i e) (occurs_parts w x (i + size e) rest)

  occurs_others : (w : World) (x i : ℕ) (cs : Clauses) → hits true x (marks_clauses w i cs) ≡ occurs_clauses x cs
  occurs_others w x i NoClauses = refl
  occurs_others w x i (MoreClauses q body cs) =
      hits_both true x (marks_parts w (i + 1) body) (marks_clauses w (i + (size_parts body + 1)) cs) (occurs_block x body) (occurs_clauses x cs) (occurs_parts w x (i + 1) body) (occurs_others w x (i + (size_parts body + 1)) cs)

uses_scrutinee : (x i : ℕ) (b : Bool) (a : Argument) → IsVariable a → hits false x (passed_value i (not b) a) ≡ b && occurs_value x a
uses_scrutinee x i true a v = hits_value false x i a
uses_scrutinee x i false (Variable y n p) v = misses_lent x i y
uses_scrutinee x i false (Literal l p) v = absurd v
uses_scrutinee x i false (Constructor t d c n p as') v = absurd v

mutual
  pub uses_hits : (p : Program) (w : World) (x i : ℕ) (e : Expression) → SizedExpression p e → hits false x (marks w i e) ≡ uses w x e
  uses_hits p w x i (Give a) z = hits_value false x i a
  uses_hits p w x i (Tuple q as') z = hits_values false x i as'
  uses_hits p w x i (Operation o q l r) z = hits_both false x (owned_value i l) (owned_value i r) (occurs_value x l) (occurs_value x r) (hits_value false x i l) (hits_value false x i r)
  uses_hits p w x i (Call g n q as') z = uses_all w x i g 0 as'
  uses_hits p w x i (Match k t q a r body cs) z =
      hits_both false x (passed_value i (not (takes w k t)) a) (marks_parts w (i + 1 + 1) body ++ marks_clauses w (i + 1 + (size_parts body + 1)) cs) (takes w k t && occurs_value x a) (uses_block w x body || uses_clauses w x cs)
      (uses_scrutinee x i (takes w k t) a z.0)
      (hits_both false x (marks_parts w (i + 1 + 1) body) (marks_clauses w (i + 1 + (size_parts body + 1)) cs) (uses_block w x body) (uses_clauses w x cs) (uses_parts p w x (i + 1 + 1) body z.2) (uses_others p w x (i + 1 + (size_parts body + 1)) cs z.3))
  uses_hits p w x i (Nested b) z = uses_parts p w x (i + 1) b z

  uses_parts : (p : Program) (w : World) (x i : ℕ) (b : Block) → SizedBlock p b → hits false x (marks_parts w i b) ≡ uses_block w x b
  uses_parts p w x i (Last e) z = uses_hits p w x i e z
  uses_parts p w x i (Let bs e rest) z = hits_both false x (marks w i e) (marks_parts w (i + size e) rest) (uses w x e) (uses_block w x rest) (uses_hits p w x i e z.0) (uses_parts p w x (i + size e) rest z.1)

  uses_others : (p : Program) (w : World) (x i : ℕ) (cs : Clauses) → SizedClauses p cs → hits false x (marks_clauses w i cs) ≡ uses_clauses w x cs
  uses_others p w x i NoClauses z = refl
  uses_others p w x i (MoreClauses q body cs) z =
      hits_both false x (marks_parts w (i + 1) body) (marks_clauses w (i + (size_parts body + 1)) cs) (uses_block w x body) (uses_clauses w x cs) (uses_parts p w x (i + 1) body z.1) (uses_others p w x (i + (size_parts body + 1)) cs z.2)

-- ---- where they are

abbrev pub Between : ℕ → ℕ → List Occurrence → Type 0
Between i j [] = Unit {0}
Between i j (o ∷ os) = (i ≤ o.expression) × (o.expression < j) × Between i j os

pub between_append : (i j : ℕ) (os ps : List Occurrence) → Between i j os → Between i j ps → Between i j (os ++ ps)
between_append i j [] ps h g = g
between_append i j (o ∷ os) ps h g = (h.0, h.1, between_append i j os ps h.2 g)

pub between_wider : (i j k l : ℕ) (os : List Occurrence) → k ≤ i → j ≤ l → Between i j os → Between k l os
between_wider i j k l [] a b h = tt
between_wider i j k l (o ∷ os) a b h = let x = h.0 in let y = h.1 in (omega (arith, x, a), omega (arith, y, b), between_wider i j k l os a b h.2)

one_between : (i : ℕ) (lent : Bool) (o : Option ℕ) → Between i (i + 1) (marks_of i lent o)
one_between i lent None = tt
one_between i lent (Some x) = (omega arith, omega arith, tt)

mutual
  value_between : (i : ℕ) (a : Argument) → Between i (i + 1) (owned_value i a)
  value_between i (Variable x n p) = one_between i false x
  value_between i (Literal v p) = tt
  value_between i (Constructor t d c n p as') = values_between i as'

  values_between : (i : ℕ) (as' : Arguments) → Between i (i + 1) (owned_values i as')
  values_between i NoArguments = tt
  values_between i (MoreArguments a as') = between_append i (i + 1) (owned_value i a) (owned_values i as') (value_between i a) (values_between i as')

pub passed_between : (i : ℕ) (b : Bool) (a : Argument) → Between i (i + 1) (passed_value i b a)
passed_between i false a = value_between i a
passed_between i true (Variable x n p) = one_between i true x
passed_between i true (Literal v p) = tt
passed_between i true (Constructor t d c n p as') = values_between i as'

all_between : (w : World) (i g j : ℕ) (as' : Arguments) → Between i (i + 1) (passed_values w i g j as')
all_between w i g j NoArguments = tt
all_between w i g j (MoreArguments a as') = between_append i (i + 1) (passed_value i (lends w g j) a) (passed_values w i g (j + 1) as') (passed_between i (lends w g j) a) (all_between w i g (j + 1) as')

mutual
  pub marks_between : (w : World) (i : ℕ) (e : Expression) → Between i (i + size e) (marks w i e)
  marks_between w i (Give a) = value_between i a
  marks_between w i (Tuple p as') = values_between i as'
  marks_between w i (Operation o p l r) = between_append i (i + 1) (owned_value i l) (owned_value i r) (value_between i l) (value_between i r)
  marks_between w i (Call g n p as') = all_between w i g 0 as'
  marks_between w i (Match k t p a q body cs) =
      let s = size_parts body in
      let m = size_clauses cs in
      let j = i + (1 + (s + 1) + m) in
      between_append i j (passed_value i (not (takes w k t)) a) (marks_parts w (i + 1 + 1) body ++ marks_clauses w (i + 1 + (s + 1)) cs)
      (between_wider i (i + 1) i j (passed_value i (not (takes w k t)) a) (omega arith) (omega arith) (passed_between i (not (takes w k t)) a))
      (between_append i j (marks_parts w (i + 1 + 1) body) (marks_clauses w (i + 1 + (s + 1)) cs)
      (between_wider (i + 1 + 1) (i + 1 + 1 + s) i j (marks_parts w (i + 1 + 1) body) (omega arith) (omega arith) (parts_between w (i + 1 + 1) body))
      (between_wider (i + 1 + (s + 1)) (i + 1 + (s + 1) + m) i j (marks_clauses w (i + 1 + (s + 1)) cs) (omega arith) (omega arith) (clauses_between w (i + 1 + (s + 1)) cs)))
  marks_between w i (Nested b) = between_wider (i + 1) (i + 1 + size_parts b) i (i + (size_parts b + 1)) (marks_parts w (i + 1) b) (omega arith) (omega arith) (parts_between w (i + 1) b)

  pub parts_between : (w : World) (i : ℕ) (b : Block) → Between i (i + size_parts b) (marks_parts w i b)
  parts_between w i (Last e) = marks_between w i e
  parts_between w i (Let bs e rest) =
      between_append i (i + (size e + size_parts rest)) (marks w i e) (marks_parts w (i + size e) rest)
      (between_wider i (i + size e) i (i + (size e + size_parts rest)) (marks w i e) (omega arith) (omega arith) (marks_between w i e))
      (between_wider (i + size e) (i + size e + size_parts rest) i (i + (size e + size_parts rest)) (marks_parts w (i + size e) rest) (omega arith) (omega arith) (parts_between w (i + size e) rest))

  pub clauses_between : (w : World) (i : ℕ) (cs : Clauses) → Between i (i + size_clauses cs) (marks_clauses w i cs)
  clauses_between w i NoClauses = tt
  clauses_between w i (MoreClauses q body cs) =
      let s = size_parts body in
      let m = size_clauses cs in
      let j = i + (s + 1 + m) in
      between_append i j (marks_parts w (i + 1) body) (marks_clauses w (i + (s + 1)) cs)
      (between_wider (i + 1) (i + 1 + s) i j (marks_parts w (i + 1) body) (omega arith) (omega arith) (parts_between w (i + 1) body))
      (between_wider (i + (s + 1)) (i + (s + 1) + m) i j (marks_clauses w (i + (s + 1)) cs) (omega arith) (omega arith) (clauses_between w (i + (s + 1)) cs))

-- ---- among all occurrences

-- whether one that is taken up, of a binder, is from first to before end
abbrev pub window : Bool → ℕ → ℕ → ℕ → List Occurrence → Bool
window all x f e [] = false
window all x f e (o ∷ os) =
    ((is_taken_up all o && (o.binder == x)) && (not (nat_lt o.expression f) && nat_lt o.expression e)) || window all x f e os

window_append : (all : Bool) (x f e : ℕ) (os ps : List Occurrence) → window all x f e (os ++ ps) ≡ window all x f e os || window all x f e ps
window_append all x f e [] ps = refl
window_append all x f e (o ∷ os) ps =
    let b = (is_taken_up all o && (o.binder == x)) && (not (nat_lt o.expression f) && nat_lt o.expression e) in
    ap (λ c. b || c) (window_append all x f e os ps) ∙ or_assoc b (window all x f e os) (window all x f e ps)

and_true : (a b : Bool) → b ≡ true → a && b ≡ a
and_true true b e = e
and_true false b e = refl

window_inside : (all : Bool) (x f e : ℕ) (os : List Occurrence) → Between f e os → window all x f e os ≡ hits all x os
window_inside all x f e [] h = refl
window_inside all x f e (o ∷ os) h =
    let t : not (nat_lt o.expression f) && nat_lt o.expression e ≡ true = ap₂ (λ a b. not a && b) (le-ltb o.expression f h.0) (lt-ltb o.expression e h.1) in
    ap₂ (λ a b. a || b) (and_true (is_taken_up all o && (o.binder == x)) (not (nat_lt o.expression f) && nat_lt o.expression e) t) (window_inside all x f e os h.2)

window_before : (all : Bool) (x f e i : ℕ) (os : List Occurrence) → Between i f os → window all x f e os ≡ false
window_before all x f e i [] h = refl
window_before all x f e i (o ∷ os) h =
    let t : not (nat_lt o.expression f) && nat_lt o.expression e ≡ false = and_left (not (nat_lt o.expression f)) (nat_lt o.expression e) (ap not (lt-ltb o.expression f h.1)) in
    ap₂ (λ a b. a || b) (and_right (is_taken_up all o && (o.binder == x)) (not (nat_lt o.expression f) && nat_lt o.expression e) t) (window_before all x f e i os h.2)

window_after : (all : Bool) (x f e j : ℕ) (os : List Occurrence) → Between e j os → window all x f e os ≡ false
window_after all x f e j [] h = refl
window_after all x f e j (o ∷ os) h =
    let t : not (nat_lt o.expression f) && nat_lt o.expression e ≡ false = and_right (not (nat_lt o.expression f)) (nat_lt o.expression e) (le-ltb o.expression e h.0) in
    ap₂ (λ a b. a || b) (and_right (is_taken_up all o && (o.binder == x)) (not (nat_lt o.expression f) && nat_lt o.expression e) t) (window_after all x f e j os h.2)

-- some of all occurrences: those from expression f to before e
pub record Part (whole os : List Occurrence) (f e : ℕ) : Type 0 where
  pub end : ℕ
  pub before : List Occurrence
  pub following : List Occurrence
  pub is : whole ≡ before ++ (os ++ following)
  pub early : Between 0 f before
  pub here : Between f e os
  pub late : Between e end following

pub window_part : (all : Bool) (x f e : ℕ) (whole os : List Occurrence) → Part whole os f e → window all x f e whole ≡ hits all x os
window_part all x f e whole os h =
    ap (window all x f e) h.is ∙ window_append all x f e h.before (os ++ h.following)
    ∙ ap₂ (λ a b. a || b) (window_before all x f e 0 h.before h.early) (window_append all x f e os h.following)
    ∙ ap₂ (λ a b. a || b) (window_inside all x f e os h.here) (window_after all x f e h.end h.following h.late)
    ∙ or_false (hits all x os)

-- the first of two, and the second
pub part_first : (whole os ps : List Occurrence) (f m e : ℕ) → m ≤ e → Part whole (os ++ ps) f e → Between f m os → Between m e ps → Part whole os f m
part_first whole os ps f m e l h a b = record {
  end = e + h.end;
  before = h.before;
  following = ps ++ h.following;
  is = h.is ∙ ap (λ z. h.before ++ z) (append_assoc os ps h.following);
  early = h.early;
  here = a;
  late = between_append m (e + h.end) ps h.following (between_wider m e m (e + h.end) ps (omega arith) (omega arith) b) (between_wider e h.end m (e + h.end) h.following l (omega arith) h.late);
}

pub part_second : (whole os ps : List Occurrence) (f m e : ℕ) → f ≤ m → Part whole (os ++ ps) f e → Between f m os → Between m e ps → Part whole ps m e
part_second whole os ps f m e l h a b = record {
  end = h.end;
  before = h.before ++ os;
  following = h.following;
  is = h.is ∙ ap (λ z. h.before ++ z) (append_assoc os ps h.following) ∙ sym (append_assoc h.before os (ps ++ h.following));
  early = between_append 0 m h.before os (between_wider 0 f 0 m h.before (omega arith) l h.early) (between_wider f m 0 m os (omega arith) (omega arith) a);
  here = b;
  late = h.late;
}

-- ---- by the tables

within_append : (f e i : ℕ) (xs : List ℕ) → has_within f e (xs ++ i ∷ []) ≡ has_within f e xs || (not (nat_lt i f) && nat_lt i e)
within_append f e i [] = or_false (not (nat_lt i f) && nat_lt i e)
within_append f e i (x ∷ xs) =
    let b = not (nat_lt x f) && nat_lt x e in
    ap (λ c. b || c) (within_append f e i xs) ∙ or_assoc b (has_within f e xs) (not (nat_lt i f) && nat_lt i e)

row_added : (b i x : ℕ) (rs : List (List ℕ)) → x < length rs → row_at (add_at b i rs) x ≡ (if b == x then row_at rs x ++ i ∷ [] else row_at rs x)
row_added b i x [] l = absurd (omega arith)
row_added zero i zero (r ∷ rs) l = sym (ap (λ c. if c then r ++ i ∷ [] else r) (eq-eqb 0 0 refl))
row_added zero i (suc x) (r ∷ rs) l = sym (ap (λ c. if c then row_at rs x ++ i ∷ [] else row_at rs x) (ne_eqb 0 (suc x) (λ h. absurd (omega (arith, h)))))
row_added (suc b) i zero (r ∷ rs) l = sym (ap (λ c. if c then r ++ i ∷ [] else r) (ne_eqb (suc b) 0 (λ h. absurd (omega (arith, h)))))
row_added (suc b) i (suc x) (r ∷ rs) l = row_added b i x rs (omega arith) ∙ ap (λ c. if c then row_at rs x ++ i ∷ [] else row_at rs x) (same_test b x)
  where
    same_test : (m n : ℕ) → m == n ≡ suc m == suc n
    same_test m n = of (cases_eq m n)
      where
        of : (m ≡ n) ⊎ (m ≡ n → ⊥) → m == n ≡ suc m == suc n
        of (inl e) = eq-eqb m n e ∙ sym (eq-eqb (suc m) (suc n) (ap suc e))
        of (inr e) = ne_eqb m n e ∙ sym (ne_eqb (suc m) (suc n) (λ h. e (let k : m ≡ n = omega (arith, h) in k)))

add_length : (b i : ℕ) (rs : List (List ℕ)) → length (add_at b i rs) ≡ length rs
add_length b i [] = refl
add_length zero i (r ∷ rs) = refl
add_length (suc b) i (r ∷ rs) = ap suc (add_length b i rs)

one_row : (t : Bool) (o : Occurrence) (f e x : ℕ) (rs : List (List ℕ)) → x < length rs → has_within f e (row_at (add_if t o rs) x) ≡ has_within f e (row_at rs x) || ((t && (o.binder == x)) && (not (nat_lt o.expression f) && nat_lt o.expression e))
one_row false o f e x rs l = sym (or_false (has_within f e (row_at rs x)))
one_row true o f e x rs l = ap (has_within f e) (row_added o.binder o.expression x rs l) ∙ by (o.binder == x)
  where
    by : (b : Bool) → has_within f e (if b then row_at rs x ++ o.expression ∷ [] else row_at rs x) ≡ has_within f e (row_at rs x) || (b && (not (nat_lt o.expression f) && nat_lt o.expression e))
    by true = within_append f e o.expression (row_at rs x)
    by false = sym (or_false (has_within f e (row_at rs x)))

add_if_length : (t : Bool) (o : Occurrence) (rs : List (List ℕ)) → length (add_if t o rs) ≡ length rs
add_if_length true o rs = add_length o.binder o.expression rs
add_if_length false o rs = refl

rows_within : (all : Bool) (f e x : ℕ) (rs : List (List ℕ)) (os : List Occurrence) → x < length rs → has_within f e (row_at (rows_from all rs os) x) ≡ has_within f e (row_at rs x) || window all x f e os
rows_within all f e x rs [] l = sym (or_false (has_within f e (row_at rs x)))
rows_within all f e x rs (o ∷ os) l =
    let k = add_if_length (is_taken_up all o) o rs in
    let b = (is_taken_up all o && (o.binder == x)) && (not (nat_lt o.expression f) && nat_lt o.expression e) in
    rows_within all f e x (add_if (is_taken_up all o) o rs) os (omega (arith, k, l))
    ∙ ap (λ c. c || window all x f e os) (one_row (is_taken_up all o) o f e x rs l)
    ∙ sym (or_assoc (has_within f e (row_at rs x)) b (window all x f e os))

empty_length : (n : ℕ) → length (empty_rows n) ≡ n
empty_length zero = refl
empty_length (suc n) = ap suc (empty_length n)

-- what the tables of all occurrences say of some of them
pub table_hits : (all : Bool) (n f e x : ℕ) (rs : List (List ℕ)) (whole os : List Occurrence) → x < n → rs ≡ rows_from all (empty_rows n) whole → Part whole os f e → has_within f e (row_at rs x) ≡ hits all x os
table_hits all n f e x rs whole os l h g =
    let k = empty_length n in
    ap (λ z. has_within f e (row_at z x)) h ∙ rows_within all f e x (empty_rows n) whole (omega (arith, k, l))
    ∙ ap (λ z. has_within f e z || window all x f e whole) (empty_row n x) ∙ window_part all x f e whole os g
