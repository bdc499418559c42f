-- How blocks and the clauses of a match are laid out, one binding or clause after another, and expressions and lets
-- where they are the code's trees; and how many needs were walked through.
use Rattle.std.proofs.Common.{◌≡◌, refl, sym, ap, ◌∙◌, subst, arith, ℕ, zero, suc, ◌+◌, ◌<◌, ◌≤◌, Bool, List, [], ◌∷◌, length, drop, Some, slice_get}
use Rattle.std.proofs.lemmas.List.{drop-drop}
use Rattle.std.specs.declared.vec.Vec.{Vec}
use Rattle.std.specs.declared.alloc.Global.{Global}
use Rattle.std.specs.declared.boxed.Box.{Box}
use Rattle.fip_language.specs.declared.Operator.{Operator}
use Rattle.fip_language.specs.declared.Place.{Place}
use Rattle.fip_trees.specs.declared.needs.Need.{Need}
use Rattle.fip_base.specs.declared.core_form.MatchKind.{MatchKind}
use Rattle.fip_trees.specs.Tree as T
use Rattle.fip_trees.specs.Tree.{Name}
use Rattle.fip_trees.specs.declared.program.Argument.{Argument}
use Rattle.fip_trees.specs.declared.program.Binder.{Binder}
use Rattle.fip_trees.specs.declared.program.Binding.{Binding, out-Binding}
use Rattle.fip_trees.specs.declared.program.Block.{Block}
use Rattle.fip_trees.specs.declared.program.Clause.{Clause, out-Clause}
use Rattle.fip_trees.specs.declared.program.Expression.{Expression}
use Rattle.fip_trees.specs.declared.program.Expression.TheOpen as E
use Rattle.fip_trees.specs.declared.program.Expression.TheVariants as EV
use Rattle.fip_trees.specs.declared.program.Expression.TheFolds.{fold-roll-Expression}
use Rattle.fip_trees.specs.TreeView.{BoundPart, Case, argument, arguments, expression, expression_step, binding, binding_step, block, block_step, clause, clause_step, clauses, is_destructive}
use Rattle.fip_trees.proofs.TreeViews.{binding_is, clause_is, expression_match, expression_nested}
use Rattle.lower_frame.specs.lowering_relation.Known.{Known}
use Rattle.lower_frame.specs.lowering_relation.Values.{Setting}
use Rattle.lower_frame.specs.lowering_relation.LoweredBodies.{Target, Into, with_names, reserved, registers_for}
use Rattle.lower_frame.specs.lowering_relation.Written.{Written}
use Rattle.lower_frame.specs.Registers.{HasRoom}
use Rattle.lower_parts.specs.Laying.{GivesValuesLaid, AppliesLaid, AppliedLaid}
use Rattle.lower_parts.specs.Writing.{Computes, ComputesAll, Writes, GivesValues, AppliesTo}
use Rattle.lower_parts.specs.Bodies.{span, span_rest, span_block, span_clauses, Asked, AskedBlock, AskedClauses, Lays, LaysBlock, LaysLet}
use Rattle.lower_parts.specs.declared.match_state.Matching.{Matching}
use Rattle.lower_parts.specs.declared.match_state.Progress.{Progress}
use Rattle.lower_parts.specs.Matches.{StartsLaid, EndsInLaid, ClauseLays, ClausesLay}
use Rattle.lower_parts.specs.Scenes.{sides_of}
use Rattle.lower_parts.proofs.Clauses.{clauses_at, clauses_past}
use Rattle.lower_parts.proofs.Blocks.{rest_of, rest_at, rest_past}
use Rattle.lower_parts.proofs.Expressions.{expression_give, expression_tuple, expression_call}
use Rattle.lower_parts.proofs.Going.{lays_give, lays_tuple, lays_operation, lays_call, lays_nested, lays_last, lets_give, lets_tuple, lets_into}

-- bindings, one after another

-- after those so far, the rest of a block follows
pub record FollowLays (s : Setting) (fip : Bool) (k0 : Known) (v0 : Written) (b0 : T.Block) (k : Known) (v : Written) (b : T.Block) (target : Target) : Type 0 where
  pub by : (l : Known) (w : Written) → LaysBlock s fip k v b target l w → LaysBlock s fip k0 v0 b0 target l w

-- where the block was as asked
abbrev pub FollowsLaid : Setting → Bool → List Need → Known → Written → T.Block → List Need → Known → Written → T.Block → Target → Type 0
FollowsLaid s fip n0 k0 v0 b0 ns k v b target = AskedBlock s n0 b0 → FollowLays s fip k0 v0 b0 k v b target × AskedBlock s ns b

pub follows_laid_start : (s : Setting) (fip : Bool) (k : Known) (v : Written) (b : T.Block) (ns : List Need) (target : Target) → FollowsLaid s fip ns k v b ns k v b target
follows_laid_start s fip k v b ns target asked = (record { by = λ l w h. h }, asked)

asked_bound : (s : Setting) (ns : List Need) (bs : List Binder) (e : T.Expression) (rest : T.Block) → AskedBlock s ns (T.Let bs e rest) → Asked s ns e
asked_bound s ns bs e rest a = record { scalars = a.scalars; matched = a.matched.0; founded = a.founded.1; needs = a.needs.0 }

asked_rest : (s : Setting) (ns : List Need) (bs : List Binder) (e : T.Expression) (rest : T.Block) → AskedBlock s ns (T.Let bs e rest) → AskedBlock s (drop (span e) ns) rest
asked_rest s ns bs e rest a = record { scalars = a.scalars; matched = a.matched.1; founded = a.founded.2; needs = a.needs.1 }

asked_last : (s : Setting) (ns : List Need) (e : T.Expression) → AskedBlock s ns (T.Last e) → Asked s ns e
asked_last s ns e a = record { scalars = a.scalars; matched = a.matched; founded = a.founded; needs = a.needs }

follows_laid_let : (s : Setting) (fip : Bool) (n0 : List Need) (k0 : Known) (v0 : Written) (b0 : T.Block) (ns ms : List Need) (k m : Known) (v w : Written) (bs : List Binder) (e : T.Expression) (rest : T.Block) (target : Target) → ms ≡ drop (span e) ns → FollowsLaid s fip n0 k0 v0 b0 ns k v (T.Let bs e rest) target → (Asked s ns e → 0 < length bs → LaysLet s fip k v bs e m w) → FollowsLaid s fip n0 k0 v0 b0 ms m w rest target
follows_laid_let s fip n0 k0 v0 b0 ns ms k m v w bs e rest target walked f lays asked =
    let so = f asked in
    let one = lays (asked_bound s ns bs e rest so.1) so.1.founded.0 in
    (record { by = λ l z h. so.0.by l z (one.by rest target l z h) }, subst (λ x. AskedBlock s x rest) (sym walked) (asked_rest s ns bs e rest so.1))

pub follows_laid_on : (s : Setting) (fip : Bool) (n0 : List Need) (k0 : Known) (v0 : Written) (b0 : T.Block) (ns ms : List Need) (k m : Known) (v w : Written) (bs : List Binding) (i j : ℕ) (b : Binding) (e : T.Expression) (target : Target) → j ≡ suc i → slice_get bs i ≡ Some b → ms ≡ drop (span (binding b).bound) ns → FollowsLaid s fip n0 k0 v0 b0 ns k v (rest_of bs i e) target → (Asked s ns (binding b).bound → 0 < length (binding b).binders → LaysLet s fip k v (binding b).binders (binding b).bound m w) → FollowsLaid s fip n0 k0 v0 b0 ms m w (rest_of bs j e) target
follows_laid_on s fip n0 k0 v0 b0 ns ms k m v w bs i j b e target a h walked f lays =
    subst (λ z. FollowsLaid s fip n0 k0 v0 b0 ms m w (rest_of bs z e) target) (sym a)
    (follows_laid_let s fip n0 k0 v0 b0 ns ms k m v w (binding b).binders (binding b).bound (rest_of bs (suc i) e) target walked
    (subst (λ x. FollowsLaid s fip n0 k0 v0 b0 ns k v x target) (rest_at bs i b e h) f) lays)

pub follows_laid_done : (s : Setting) (fip : Bool) (n0 : List Need) (k0 : Known) (v0 : Written) (b0 : T.Block) (ns : List Need) (k l : Known) (v w : Written) (bs : List Binding) (i : ℕ) (e : T.Expression) (target : Target) → length bs ≤ i → FollowsLaid s fip n0 k0 v0 b0 ns k v (rest_of bs i e) target → (Asked s ns e → Lays s fip k v e target l w) → AskedBlock s n0 b0 → LaysBlock s fip k0 v0 b0 target l w
follows_laid_done s fip n0 k0 v0 b0 ns k l v w bs i e target past f lays asked =
    let so = subst (λ z. FollowsLaid s fip n0 k0 v0 b0 ns k v z target) (rest_past bs i e past) f asked in
    so.0.by l w (lays_last s fip k l v w e target (lays (asked_last s ns e so.1)))

-- what was walked through

-- the rest of a block is still to come
abbrev pub Walks : List Need → T.Block → List Need → T.Block → Type 0
Walks n0 b0 ns b = drop (span_rest b) ns ≡ drop (span_rest b0) n0

pub walks_on : (n0 : List Need) (b0 : T.Block) (ns ms : List Need) (bs : List Binding) (i j : ℕ) (b : Binding) (e : T.Expression) → j ≡ suc i → slice_get bs i ≡ Some b → ms ≡ drop (span (binding b).bound) ns → Walks n0 b0 ns (rest_of bs i e) → Walks n0 b0 ms (rest_of bs j e)
walks_on n0 b0 ns ms bs i j b e a h walked f =
    ap (λ z. drop (span_rest (rest_of bs z e)) ms) a ∙ ap (drop (span_rest rest)) walked ∙ drop-drop (span_rest rest) (span (binding b).bound) ns
    ∙ subst (λ x. Walks n0 b0 ns x) (rest_at bs i b e h) f
  where
    rest : T.Block
    rest = rest_of bs (suc i) e

pub walks_done : (n0 : List Need) (b0 : T.Block) (ns ms : List Need) (bs : List Binding) (i : ℕ) (e : T.Expression) → length bs ≤ i → ms ≡ drop (span e) ns → Walks n0 b0 ns (rest_of bs i e) → ms ≡ drop (span_rest b0) n0
walks_done n0 b0 ns ms bs i e past walked f = walked ∙ subst (λ x. Walks n0 b0 ns x) (rest_past bs i e past) f

-- the block itself is one more
pub walks_block : (old n0 ms : List Need) (b : T.Block) → n0 ≡ drop 1 old → ms ≡ drop (span_rest b) n0 → ms ≡ drop (span_block b) old
walks_block old n0 ms b e f = let one : 1 + span_rest b ≡ suc (span_rest b) = omega arith in f ∙ ap (drop (span_rest b)) e ∙ drop-drop (span_rest b) 1 old ∙ ap (λ n. drop n old) one

-- expressions

expression_operation : (o : Operator) (p : Place) (a b : Argument) → expression (EV.Operation o p a b) ≡ T.Operation o p (argument a) (argument b)
expression_operation o p a b = ap expression (sym (EV.rolls-Operation o p a b)) ∙ fold-roll-Expression T.Expression BoundPart T.Block Case expression_step binding_step block_step clause_step (E.Operation o p a b)

-- one that is t is laid out as t is, and as much is walked through
pub laid_as : (s : Setting) (fip : Bool) (ns : List Need) (k l : Known) (v w : Written) (e : Expression) (t : T.Expression) (target : Target) → expression e ≡ t → (Asked s ns t → Lays s fip k v t target l w) → Asked s ns (expression e) → Lays s fip k v (expression e) target l w
laid_as s fip ns k l v w e t target is h = subst (λ x. Asked s ns x → Lays s fip k v x target l w) (sym is) h

pub walked_as : (ns ms : List Need) (e : Expression) (t : T.Expression) → expression e ≡ t → ms ≡ drop (span t) ns → ms ≡ drop (span (expression e)) ns
walked_as ns ms e t is h = h ∙ ap (λ x. drop (span x) ns) (sym is)

pub laid_give : (s : Setting) (fip : Bool) (ns : List Need) (k l : Known) (v w : Written) (e : Expression) (a : Argument) (target : Target) → e ≡ EV.Give a → Writes s k v (T.Give (argument a)) target l w → GivesValuesLaid s fip k v (T.MoreArguments (argument a) T.NoArguments) target l w → Asked s ns (expression e) → Lays s fip k v (expression e) target l w
laid_give s fip ns k l v w e a target is writes g =
    laid_as s fip ns k l v w e (T.Give (argument a)) target (ap expression is ∙ expression_give a) (λ asked. lays_give s fip k l v w (argument a) target asked.founded writes g)

pub laid_tuple : (s : Setting) (fip : Bool) (ns : List Need) (k l : Known) (v w : Written) (e : Expression) (p : Place) (xs : Vec Argument Global) (target : Target) → e ≡ EV.Tuple p xs → GivesValues s k v (arguments xs.items) target l w → GivesValuesLaid s fip k v (arguments xs.items) target l w → Asked s ns (expression e) → Lays s fip k v (expression e) target l w
laid_tuple s fip ns k l v w e p xs target is gives g =
    laid_as s fip ns k l v w e (T.Tuple p (arguments xs.items)) target (ap expression is ∙ expression_tuple p xs) (λ asked. let f = asked.founded in lays_tuple s fip k l v w p (arguments xs.items) target f.0 f.1 gives g)

pub laid_operation : (s : Setting) (fip : Bool) (ns : List Need) (k l : Known) (v w : Written) (e : Expression) (o : Operator) (p : Place) (a b : Argument) (target : Target) → e ≡ EV.Operation o p a b → Writes s k v (T.Operation o p (argument a) (argument b)) target l w → AppliedLaid s fip k v o p (argument a) (argument b) target l w → Asked s ns (expression e) → Lays s fip k v (expression e) target l w
laid_operation s fip ns k l v w e o p a b target is writes g =
    laid_as s fip ns k l v w e (T.Operation o p (argument a) (argument b)) target (ap expression is ∙ expression_operation o p a b) (λ asked. let f = asked.founded in lays_operation s fip k l v w o p (argument a) (argument b) target f.0 f.1 writes g)

pub laid_call : (s : Setting) (fip : Bool) (ns : List Need) (k l : Known) (v w : Written) (e : Expression) (g : ℕ) (n : Name) (p : Place) (xs : Vec Argument Global) (target : Target) → e ≡ EV.Call g n p xs → AppliesTo s k v g (arguments xs.items) target l w → AppliesLaid s fip k v g (arguments xs.items) target l w → Asked s ns (expression e) → Lays s fip k v (expression e) target l w
laid_call s fip ns k l v w e g n p xs target is applies laid =
    laid_as s fip ns k l v w e (T.Call g n p (arguments xs.items)) target (ap expression is ∙ expression_call g n p xs) (λ asked. lays_call s fip k l v w g n p (arguments xs.items) target asked.founded applies laid)

pub laid_nested : (s : Setting) (fip : Bool) (ns : List Need) (k l : Known) (v w : Written) (e : Expression) (b : Box Block Global) (target : Target) → e ≡ EV.Nested b → (AskedBlock s (drop 1 ns) (block b.value) → LaysBlock s fip k v (block b.value) target l w) → Asked s ns (expression e) → Lays s fip k v (expression e) target l w
laid_nested s fip ns k l v w e b target is lays =
    laid_as s fip ns k l v w e (T.Nested (block b.value)) target (ap expression is ∙ expression_nested b)
    (λ asked. lays_nested s fip k l v w (block b.value) target (lays (record { scalars = asked.scalars; matched = asked.matched; founded = asked.founded; needs = asked.needs })))

pub walked_give : (ns ms : List Need) (e : Expression) (a : Argument) → e ≡ EV.Give a → ms ≡ drop 1 ns → ms ≡ drop (span (expression e)) ns
walked_give ns ms e a is h = walked_as ns ms e (T.Give (argument a)) (ap expression is ∙ expression_give a) h

pub walked_tuple : (ns ms : List Need) (e : Expression) (p : Place) (xs : Vec Argument Global) → e ≡ EV.Tuple p xs → ms ≡ drop 1 ns → ms ≡ drop (span (expression e)) ns
walked_tuple ns ms e p xs is h = walked_as ns ms e (T.Tuple p (arguments xs.items)) (ap expression is ∙ expression_tuple p xs) h

pub walked_operation : (ns ms : List Need) (e : Expression) (o : Operator) (p : Place) (a b : Argument) → e ≡ EV.Operation o p a b → ms ≡ drop 1 ns → ms ≡ drop (span (expression e)) ns
walked_operation ns ms e o p a b is h = walked_as ns ms e (T.Operation o p (argument a) (argument b)) (ap expression is ∙ expression_operation o p a b) h

pub walked_call : (ns ms : List Need) (e : Expression) (g : ℕ) (n : Name) (p : Place) (xs : Vec Argument Global) → e ≡ EV.Call g n p xs → ms ≡ drop 1 ns → ms ≡ drop (span (expression e)) ns
walked_call ns ms e g n p xs is h = walked_as ns ms e (T.Call g n p (arguments xs.items)) (ap expression is ∙ expression_call g n p xs) h

pub walked_nested : (ns ms : List Need) (e : Expression) (b : Box Block Global) → e ≡ EV.Nested b → ms ≡ drop (span_block (block b.value)) ns → ms ≡ drop (span (expression e)) ns
walked_nested ns ms e b is h = walked_as ns ms e (T.Nested (block b.value)) (ap expression is ∙ expression_nested b) h

-- lets

-- a let's parts, where the bound expression is e
let_as : (s : Setting) (fip : Bool) (ns : List Need) (k l : Known) (v u : Written) (b : Binding) (e : T.Expression) → expression (out-Binding b).bound ≡ e → (Asked s ns e → 0 < length (out-Binding b).binders.items → LaysLet s fip k v (out-Binding b).binders.items e l u) → Asked s ns (binding b).bound → 0 < length (binding b).binders → LaysLet s fip k v (binding b).binders (binding b).bound l u
let_as s fip ns k l v u b e h w =
    subst (λ (x : BoundPart). Asked s ns x.bound → 0 < length x.binders → LaysLet s fip k v x.binders x.bound l u) (sym (binding_is b))
    (subst (λ x. Asked s ns x → 0 < length (out-Binding b).binders.items → LaysLet s fip k v (out-Binding b).binders.items x l u) (sym h) w)

pub let_give : (s : Setting) (fip : Bool) (ns : List Need) (k m l : Known) (v u z : Written) (b : Binding) (a : Argument) (r : ℕ) → (out-Binding b).bound ≡ EV.Give a → Computes s k v (argument a) r m u → l ≡ with_names m (out-Binding b).binders.items (r ∷ []) → z ≡ u → Asked s ns (binding b).bound → 0 < length (binding b).binders → LaysLet s fip k v (binding b).binders (binding b).bound l z
let_give s fip ns k m l v u z b a r e c n same =
    let_as s fip ns k l v z b (T.Give (argument a)) (ap expression e ∙ expression_give a)
    (λ asked some. subst (LaysLet s fip k v (out-Binding b).binders.items (T.Give (argument a)) l) (sym same) (lets_give s fip k m l v u (out-Binding b).binders.items (argument a) r asked.founded c n))

pub let_tuple : (s : Setting) (fip : Bool) (ns : List Need) (k m l : Known) (v u z : Written) (b : Binding) (p : Place) (xs : Vec Argument Global) (rs : List ℕ) → (out-Binding b).bound ≡ EV.Tuple p xs → ComputesAll s k v (arguments xs.items) rs m u → l ≡ with_names m (out-Binding b).binders.items rs → z ≡ u → Asked s ns (binding b).bound → 0 < length (binding b).binders → LaysLet s fip k v (binding b).binders (binding b).bound l z
let_tuple s fip ns k m l v u z b p xs rs e c n same =
    let_as s fip ns k l v z b (T.Tuple p (arguments xs.items)) (ap expression e ∙ expression_tuple p xs)
    (λ asked some. subst (LaysLet s fip k v (out-Binding b).binders.items (T.Tuple p (arguments xs.items)) l) (sym same) (let f = asked.founded in lets_tuple s fip k m l v u (out-Binding b).binders.items p (arguments xs.items) rs f.1 c n))

let_into : (s : Setting) (fip : Bool) (ns : List Need) (k k0 m l : Known) (v v0 u z : Written) (b : Binding) (e : Expression) (rs : List ℕ) → e ≡ (out-Binding b).bound → k0 ≡ reserved k (out-Binding b).binders.items → HasRoom k k0 → v0 ≡ v → rs ≡ registers_for k.next (out-Binding b).binders.items → (Asked s ns (expression e) → Lays s fip k0 v0 (expression e) (Into rs) m u) → l ≡ with_names m (out-Binding b).binders.items rs → z ≡ u → Asked s ns (binding b).bound → 0 < length (binding b).binders → LaysLet s fip k v (binding b).binders (binding b).bound l z
let_into s fip ns k k0 m l v v0 u z b e rs is at room from to lays n same =
    let_as s fip ns k l v z b (expression e) (sym (ap expression is))
    (λ asked some. subst (LaysLet s fip k v (out-Binding b).binders.items (expression e) l) (sym same)
    (lets_into s fip k k0 m l v u (out-Binding b).binders.items (expression e) rs some room at to (subst (λ x. Lays s fip k0 x (expression e) (Into rs) m u) from (lays asked)) n))

pub let_from : (s s' : Setting) (fip fip' : Bool) (ns ns' : List Need) (k k0 m l : Known) (v v0 u z : Written) (b : Binding) (e : Expression) (rs ds names : List ℕ) (xs ys : List Binder) → s' ≡ s → fip' ≡ fip → ns' ≡ ns → e ≡ (out-Binding b).bound → xs ≡ (out-Binding b).binders.items → ys ≡ (out-Binding b).binders.items → ds ≡ rs → names ≡ rs → rs ≡ registers_for k.next xs → k0 ≡ reserved k xs → HasRoom k k0 → v0 ≡ v → (Asked s' ns' (expression e) → Lays s' fip' k0 v0 (expression e) (Into ds) m u) → l ≡ with_names m ys names → z ≡ u → Asked s ns (binding b).bound → 0 < length (binding b).binders → LaysLet s fip k v (binding b).binders (binding b).bound l z
let_from s s' fip fip' ns ns' k k0 m l v v0 u z b e rs ds names xs ys same mode needs is ex ey ed en to at room from lays n kept =
    let_into s fip ns k k0 m l v v0 u z b e rs is (at ∙ ap (reserved k) ex) room from (to ∙ ap (registers_for k.next) ex)
    (subst (λ x. Asked x ns (expression e) → Lays x fip k0 v0 (expression e) (Into rs) m u) same
    (subst (λ x. Asked s' ns (expression e) → Lays s' x k0 v0 (expression e) (Into rs) m u) mode
    (subst (λ x. Asked s' x (expression e) → Lays s' fip' k0 v0 (expression e) (Into rs) m u) needs
    (subst (λ x. Asked s' ns' (expression e) → Lays s' fip' k0 v0 (expression e) (Into x) m u) ed lays))))
    (n ∙ ap (λ x. with_names m x names) ey ∙ ap (with_names m (out-Binding b).binders.items) en) kept

pub walked_bound : (ns ms : List Need) (b : Binding) → ms ≡ drop (span (expression (out-Binding b).bound)) ns → ms ≡ drop (span (binding b).bound) ns
walked_bound ns ms b h = h ∙ ap (λ (x : BoundPart). drop (span x.bound) ns) (sym (binding_is b))

-- clauses

pub clause_lays : (s : Setting) (fip : Bool) (g : Matching) (c : Case) (target : Target) (p q o : Progress) (k known last l : Known) (v begun ended w : Written) → StartsLaid s g c.pattern p.clause k v (sides_of p.sides.items) known begun (sides_of q.sides.items) → q.clause ≡ suc p.clause → q.joined ≡ p.joined → LaysBlock s fip known begun c.body target last ended → EndsInLaid s fip g target q.clause last ended q.joined w o.joined → o.clause ≡ q.clause → o.sides ≡ q.sides → l.next ≡ last.next → ClauseLays s fip g c target p k v o l w
clause_lays s fip g c target p q o k known last l v begun ended w a e f b d h i room = record {
  begun = begun;
  ended = ended;
  known = known;
  last = last;
  starts = subst (λ z. StartsLaid s g c.pattern p.clause k v (sides_of p.sides.items) known begun (sides_of z.items)) (sym i) a;
  body = b;
  ends = subst (λ z. EndsInLaid s fip g target z last ended p.joined w o.joined) (sym h) (subst (λ z. EndsInLaid s fip g target q.clause last ended z w o.joined) f d);
  next = h ∙ e;
  room = room;
}

-- from what the calls say that start it, lower its body and end it
pub clause_lays_from : (s s1 s2 : Setting) (fip fip1 fip2 : Bool) (ns ms : List Need) (g : Matching) (c : Clause) (target : Target) (p q o : Progress) (k known last l : Known) (v begun ended w : Written) → s1 ≡ s → s2 ≡ s → fip1 ≡ fip → fip2 ≡ fip → ms ≡ ns → StartsLaid s g (clause c).pattern p.clause k v (sides_of p.sides.items) known begun (sides_of q.sides.items) → q.clause ≡ suc p.clause → q.joined ≡ p.joined → (AskedBlock s1 (drop 1 ms) (block (out-Clause c).body) → LaysBlock s1 fip1 known begun (block (out-Clause c).body) target last ended) → EndsInLaid s2 fip2 g target q.clause last ended q.joined w o.joined → o.clause ≡ q.clause → o.sides ≡ q.sides → l.next ≡ last.next → AskedBlock s (drop 1 ns) (clause c).body → ClauseLays s fip g (clause c) target p k v o l w
clause_lays_from s s1 s2 fip fip1 fip2 ns ms g c target p q o k known last l v begun ended w e1 e2 f1 f2 en a e f b d h i room asked =
    clause_lays s fip g (clause c) target p q o k known last l v begun ended w a e f
    (subst (λ (x : Case). AskedBlock s (drop 1 ns) x.body → LaysBlock s fip known begun x.body target last ended) (sym (clause_is c)) lays asked)
    (subst (λ x. EndsInLaid x fip g target q.clause last ended q.joined w o.joined) e2 (subst (λ x. EndsInLaid s2 x g target q.clause last ended q.joined w o.joined) f2 d)) h i room
  where
    body : T.Block
    body = block (out-Clause c).body

    lays : AskedBlock s (drop 1 ns) body → LaysBlock s fip known begun body target last ended
    lays = subst (λ x. AskedBlock s (drop 1 x) body → LaysBlock s fip known begun body target last ended) en
        (subst (λ x. AskedBlock s (drop 1 ms) body → LaysBlock s x known begun body target last ended) f1
        (subst (λ x. AskedBlock x (drop 1 ms) body → LaysBlock x fip1 known begun body target last ended) e1 b))

pub walked_clause : (ns ms : List Need) (c : Clause) → ms ≡ drop (span_block (block (out-Clause c).body)) ns → ms ≡ drop (span_block (clause c).body) ns
walked_clause ns ms c h = h ∙ ap (λ (x : Case). drop (span_block x.body) ns) (sym (clause_is c))

-- those that follow are said of the whole
pub record FollowClauses (s : Setting) (fip : Bool) (g : Matching) (target : Target) (n0 : List Need) (p0 : Progress) (k0 : Known) (v0 : Written) (cs0 : T.Clauses) (ns : List Need) (p : Progress) (k : Known) (v : Written) (cs : T.Clauses) : Type 0 where
  pub by : (t : ℕ) → AskedClauses s n0 t cs0 → ((o : Progress) (l : Known) (w : Written) → ClausesLay s fip g cs target p k v o l w → ClausesLay s fip g cs0 target p0 k0 v0 o l w) × AskedClauses s ns t cs

pub follow_clauses_start : (s : Setting) (fip : Bool) (g : Matching) (target : Target) (ns : List Need) (p : Progress) (k : Known) (v : Written) (cs : T.Clauses) → FollowClauses s fip g target ns p k v cs ns p k v cs
follow_clauses_start s fip g target ns p k v cs = record { by = λ t asked. (λ o l w h. h, asked) }

pub follow_clauses_next : (s : Setting) (fip : Bool) (g : Matching) (target : Target) (n0 : List Need) (p0 : Progress) (k0 : Known) (v0 : Written) (cs0 : T.Clauses) (ns ms : List Need) (p q : Progress) (k m : Known) (v u : Written) (cs : List Clause) (i n : ℕ) (c : Clause) → n ≡ suc i → slice_get cs i ≡ Some c → ms ≡ drop (span_block (clause c).body) ns → FollowClauses s fip g target n0 p0 k0 v0 cs0 ns p k v (clauses (drop i cs)) → (AskedBlock s (drop 1 ns) (clause c).body → ClauseLays s fip g (clause c) target p k v q m u) → FollowClauses s fip g target n0 p0 k0 v0 cs0 ms q m u (clauses (drop n cs))
follow_clauses_next s fip g target n0 p0 k0 v0 cs0 ns ms p q k m v u cs i n c e f walked h lays =
    subst (λ z. FollowClauses s fip g target n0 p0 k0 v0 cs0 ms q m u (clauses (drop z cs))) (sym e) (on (subst (FollowClauses s fip g target n0 p0 k0 v0 cs0 ns p k v) (clauses_at cs i c f) h))
  where
    rest : T.Clauses
    rest = clauses (drop (suc i) cs)

    on : FollowClauses s fip g target n0 p0 k0 v0 cs0 ns p k v (T.MoreClauses (clause c).pattern (clause c).body rest) → FollowClauses s fip g target n0 p0 k0 v0 cs0 ms q m u rest
    on x = record {
      by = λ t asked.
          let y = x.by t asked in
          let a = y.1 in
          let body : AskedBlock s (drop 1 ns) (clause c).body = record { scalars = a.scalars; matched = a.matched.1; founded = a.founded.0; needs = a.needs.0 } in
          let others : AskedClauses s (drop (span_block (clause c).body) ns) t rest = record { scalars = a.scalars; matched = a.matched.2; founded = a.founded.1; needs = a.needs.1 } in
          (λ o l w r. y.0 o l w (q, m, u, lays body, r), subst (λ z. AskedClauses s z t rest) (sym walked) others);
    }

pub follow_clauses_end : (s : Setting) (fip : Bool) (g : Matching) (target : Target) (n0 : List Need) (p0 : Progress) (k0 : Known) (v0 : Written) (cs0 : T.Clauses) (ns : List Need) (p : Progress) (k : Known) (v : Written) (cs : List Clause) (i : ℕ) → length cs ≤ i → FollowClauses s fip g target n0 p0 k0 v0 cs0 ns p k v (clauses (drop i cs)) → (t : ℕ) → AskedClauses s n0 t cs0 → ClausesLay s fip g cs0 target p0 k0 v0 p k v
follow_clauses_end s fip g target n0 p0 k0 v0 cs0 ns p k v cs i past h t asked =
    ((subst (FollowClauses s fip g target n0 p0 k0 v0 cs0 ns p k v) (clauses_past cs i past) h).by t asked).0 p k v (refl, refl, refl)

-- the rest of the clauses is still to come
abbrev pub WalksClauses : List Need → T.Clauses → List Need → T.Clauses → Type 0
WalksClauses n0 cs0 ns cs = drop (span_clauses cs) ns ≡ drop (span_clauses cs0) n0

pub walks_clauses_on : (n0 : List Need) (cs0 : T.Clauses) (ns ms : List Need) (cs : List Clause) (i j : ℕ) (c : Clause) → j ≡ suc i → slice_get cs i ≡ Some c → ms ≡ drop (span_block (clause c).body) ns → WalksClauses n0 cs0 ns (clauses (drop i cs)) → WalksClauses n0 cs0 ms (clauses (drop j cs))
walks_clauses_on n0 cs0 ns ms cs i j c a h walked f =
    ap (λ z. drop (span_clauses (clauses (drop z cs))) ms) a ∙ ap (drop (span_clauses rest)) walked ∙ drop-drop (span_clauses rest) (span_block (clause c).body) ns
    ∙ subst (λ x. WalksClauses n0 cs0 ns x) (clauses_at cs i c h) f
  where
    rest : T.Clauses
    rest = clauses (drop (suc i) cs)

pub walks_clauses_end : (n0 : List Need) (cs0 : T.Clauses) (ns : List Need) (cs : List Clause) (i : ℕ) → length cs ≤ i → WalksClauses n0 cs0 ns (clauses (drop i cs)) → ns ≡ drop (span_clauses cs0) n0
walks_clauses_end n0 cs0 ns cs i past f = subst (λ x. WalksClauses n0 cs0 ns x) (clauses_past cs i past) f

-- a match: what is asked of its first clause and of the others

pub asked_first : (s : Setting) (ns ms : List Need) (d : Bool) (t : ℕ) (p : Place) (a : T.Argument) (q : T.Pattern) (b : T.Block) (cs : T.Clauses) → ms ≡ drop 1 ns → Asked s ns (T.Match d t p a q b cs) → AskedBlock s (drop 1 ms) b
asked_first s ns ms d t p a q b cs walked asked = subst (λ x. AskedBlock s x b) (sym (ap (drop 1) walked ∙ drop-drop 1 1 ns))
    (record { scalars = asked.scalars; matched = asked.matched.1; founded = asked.founded.1; needs = asked.needs.1 })

pub asked_others : (s : Setting) (ns ms os : List Need) (d : Bool) (t : ℕ) (p : Place) (a : T.Argument) (q : T.Pattern) (b : T.Block) (cs : T.Clauses) → ms ≡ drop 1 ns → os ≡ drop (span_block b) ms → Asked s ns (T.Match d t p a q b cs) → AskedClauses s os t cs
asked_others s ns ms os d t p a q b cs walked further asked =
    let one : 1 + span_block b ≡ suc (span_block b) = omega arith in
    subst (λ x. AskedClauses s x t cs) (sym (further ∙ ap (drop (span_block b)) walked ∙ drop-drop (span_block b) 1 ns ∙ ap (λ n. drop n ns) one))
    (record { scalars = asked.scalars; matched = asked.matched.2; founded = asked.founded.2; needs = asked.needs.2 })

walked_match : (d : Bool) (t : ℕ) (p : Place) (a : T.Argument) (q : T.Pattern) (b : T.Block) (cs : T.Clauses) (ns ms os ls : List Need) → ms ≡ drop 1 ns → os ≡ drop (span_block b) ms → ls ≡ drop (span_clauses cs) os → ls ≡ drop (span (T.Match d t p a q b cs)) ns
walked_match d t p a q b cs ns ms os ls e f g =
    let all : 1 + (span_block b + span_clauses cs) ≡ suc (suc (span_rest b) + span_clauses cs) = omega arith in
    g ∙ ap (drop (span_clauses cs)) f ∙ drop-drop (span_clauses cs) (span_block b) ms ∙ ap (drop (span_block b + span_clauses cs)) e ∙ drop-drop (span_block b + span_clauses cs) 1 ns ∙ ap (λ n. drop n ns) all

pub walked_matched : (ns ms os ls : List Need) (e : Expression) (d : MatchKind) (t : ℕ) (p : Place) (a : Argument) (c : Box Clause Global) (cs : Vec Clause Global) → e ≡ EV.Match d t p a c cs → ms ≡ drop 1 ns → os ≡ drop (span_block (clause c.value).body) ms → ls ≡ drop (span_clauses (clauses cs.items)) os → ls ≡ drop (span (expression e)) ns
walked_matched ns ms os ls e d t p a c cs is x y z =
    walked_as ns ls e (T.Match (is_destructive d) t p (argument a) (clause c.value).pattern (clause c.value).body (clauses cs.items)) (ap expression is ∙ expression_match d t p a c cs)
    (walked_match (is_destructive d) t p (argument a) (clause c.value).pattern (clause c.value).body (clauses cs.items) ns ms os ls x y z)
