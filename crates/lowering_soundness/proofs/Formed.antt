-- What is known of registers is formed: types are there, constructors are of their types, and credits have the sizes of
-- cells. So it is after each value that is computed, each result that is handed on, and at the entry of each clause.
use Rattle.std.proofs.Common.{◌≡◌, ◌⊎◌, inl, inr, ℕ, zero, suc, ◌<◌, ◌≤◌, Bool, true, false, ◌||◌, ◌&&◌, not, List, [], ◌∷◌, length, map, replicate, Option, Some, None, slice_get, slice_set, get_or, refl, sym, ap, ◌∙◌, subst, true≢false, arith, if◌then◌else◌, ◌==◌, nat_lt}
use Rattle.separation.specs.fip_base.declared.plain.Param.{Param}
use Rattle.separation.specs.fip_language.Table.{Table, shapes}
use Rattle.separation.specs.fip_language.declared.Operator.{Operator}
use Rattle.separation.specs.fip_language.declared.Operator.TheVariants as O
use Rattle.lowering_relation.specs.fip_trees.declared.program.Binder.{Binder}
use Rattle.lowering_relation.specs.fip_trees.Tree.{Argument, Variable, Literal, Constructor, Arguments, NoArguments, MoreArguments}
use Rattle.lowering_relation.specs.fip_trees.Tree.{Pattern, BinderPattern, LiteralPattern, ConstructorPattern, Patterns, NoPatterns, MorePatterns, count_patterns}
use Rattle.derivation_making.specs.type_check.World as W
use Rattle.derivation_making.specs.fip_rules.World as R
use Rattle.separation.specs.cell_code.declared.code.Instr.{Instr}
use Rattle.separation.specs.cell_code.Plain.{PlainFunction, PlainCode}
use Rattle.separation.specs.code_rules.Headers.{is_size, are_types}
use Rattle.separation.specs.code_rules.Limits.{most_fields}
use Rattle.separation.specs.code_rules.Ranges.{is_constructor}
use Rattle.separation.specs.code_rules.Tables.{AreSoundTables}
use Rattle.separation.specs.code_rules.Types.{is_type, is_scalar_type, count, fields}
use Rattle.separation.proofs.separation_kinds.Basics.{pick, below as less, below_is, get_within}
use Rattle.lowering_relation.specs.match_knowledge.Patterns.{IsPattern, ArePatterns}
use Rattle.lowering_relation.specs.match_knowledge.declared.heads.Head.TheVariants.{Tag}
use Rattle.lowering_relation.specs.Rows.{row_of, rows_of}
use Rattle.lowering_relation.specs.Spots.{Spot, At, Spots, NoSpots, MoreSpots}
use Rattle.lowering_relation.specs.Opening.{is_named}
use Rattle.lowering_relation.specs.Entering.{variable_held, with_variable, with_cell, entering, entering_all, entering_root, root_of, spent_if}
use Rattle.lowering_relation.specs.declared.held.Held.{Held}
use Rattle.lowering_relation.specs.declared.held.Held.TheVariants as H
use Rattle.lowering_relation.specs.Known.{Known, is_owned, lent_by, without, used_if, used, used_all, holding}
use Rattle.lowering_relation.specs.Values.{Setting, is_scalar, built, built_if, ArgumentAt, ArgumentsAt, BuiltAt}
use Rattle.lowering_relation.specs.LoweredBodies.{Target, Return, Into, as_value, result_type, GoesTo, handed, AreTaken, given, given_if, received}
use Rattle.lowering_relation.specs.LoweredFunctions.{param_held, nothing_known, with_param, with_params, with_credit, with_credits, known_at_start}
use Rattle.lowering_relation.specs.Describing.{held_at}
use Rattle.lowering_relation.specs.GivenUp.{GivesOne, GivesUp}
use Rattle.lowering_relation.specs.Joins.{Met}
use Rattle.lowering_relation.specs.Leftover.{LeavesOver}
use Rattle.lowering_relation.specs.Matches.{widened, Forgets, MatchBegins, entered}
use Rattle.lowering_relation.specs.Moves.{MoveLaid, MovesLaid}
use Rattle.lowering_soundness.specs.Built.{BuildsArgument, BuildsArguments}
use Rattle.lowering_soundness.specs.Laid.{Shares}
use Rattle.lowering_soundness.specs.Placed.{AreTypes, ParamsTyped, Callees}
use Rattle.lowering_soundness.proofs.Clauses.{pattern_fields}
use Rattle.lowering_soundness.proofs.Giving.{and_to}
use Rattle.lowering_soundness.proofs.Helds.{held_or}
use Rattle.lowering_soundness.proofs.Lefts.{head_fields}
use Rattle.lowering_soundness.proofs.Standing.{Slotted, AllSlotted}

abbrev pub IsFormed : Table → Held → Type 0
IsFormed w H.Nothing = Unit {0}
IsFormed w (H.Scalar t) = is_type w t ≡ true
IsFormed w (H.Owned t None) = 0 < count w t
IsFormed w (H.Owned t (Some d)) = d < count w t
IsFormed w (H.Lent t root) = 0 < count w t
IsFormed w (H.Credit n) = is_size n ≡ true
IsFormed w (H.Bare t d) = d < count w t

abbrev pub Formed : Table → List Held → Type 0
Formed w [] = Unit {0}
Formed w (h ∷ hs) = IsFormed w h × Formed w hs

module _ (w : Table) where
  pub at_formed : (hs : List Held) (r : ℕ) → Formed w hs → IsFormed w (held_at hs r)
  at_formed [] r f = tt
  at_formed (h ∷ hs) zero f = f.0
  at_formed (h ∷ hs) (suc r) f = at_formed hs r f.1

  pub formed_by : (hs : List Held) → ((r : ℕ) → IsFormed w (held_at hs r)) → Formed w hs
  formed_by [] h = tt
  formed_by (x ∷ hs) h = (h 0, formed_by hs (λ r. h (suc r)))

  pub set_formed : (hs : List Held) (r : ℕ) (h : Held) → IsFormed w h → Formed w hs → Formed w (slice_set hs r h)
  set_formed [] r h x f = f
  set_formed (y ∷ hs) zero h x f = (x, f.1)
  set_formed (y ∷ hs) (suc r) h x f = (f.0, set_formed hs r h x f.1)

  pub map_formed : (g : Held → Held) → ((h : Held) → IsFormed w h → IsFormed w (g h)) → (hs : List Held) → Formed w hs → Formed w (map g hs)
  map_formed g keeps [] f = tt
  map_formed g keeps (h ∷ hs) f = (keeps h f.0, map_formed g keeps hs f.1)

  nothing_formed : (n : ℕ) → Formed w (replicate n H.Nothing)
  nothing_formed zero = tt
  nothing_formed (suc n) = (tt, nothing_formed n)

  lent_formed : (r t : ℕ) (root : Option ℕ) → 0 < count w t → IsFormed w (lent_by r root (H.Lent t root))
  lent_formed r t None some = some
  lent_formed r t (Some q) some = pick (IsFormed w) (q == r) H.Nothing (H.Lent t (Some q)) (λ e. tt) (λ e. some)

  without_formed : (r : ℕ) (h : Held) → IsFormed w h → IsFormed w (without r h)
  without_formed r H.Nothing f = f
  without_formed r (H.Scalar t) f = f
  without_formed r (H.Owned t b) f = f
  without_formed r (H.Lent t root) f = lent_formed r t root f
  without_formed r (H.Credit n) f = f
  without_formed r (H.Bare t d) f = f

  used_by : (b : Bool) (hs : List Held) (r : ℕ) → Formed w hs → Formed w (used_if b hs r)
  used_by false hs r f = f
  used_by true hs r f = map_formed (without r) (without_formed r) (slice_set hs r H.Nothing) (set_formed hs r H.Nothing tt f)

  pub used_formed : (hs : List Held) (r : ℕ) → Formed w hs → Formed w (used hs r)
  used_formed hs r f = used_by (is_owned (slice_get hs r)) hs r f

  used_all_formed : (hs : List Held) (rs : List ℕ) → Formed w hs → Formed w (used_all hs rs)
  used_all_formed hs [] f = f
  used_all_formed hs (r ∷ rs) f = used_all_formed (used hs r) rs (used_formed hs r f)

  some_below : (d n : ℕ) → d < n → 0 < n
  some_below d n low = omega (arith, low)

  owned_wide : (t : ℕ) (b : Option ℕ) → IsFormed w (H.Owned t b) → 0 < count w t
  owned_wide t None f = f
  owned_wide t (Some d) f = some_below d (count w t) f

  widened_formed : (h : Held) → IsFormed w h → IsFormed w (widened h)
  widened_formed H.Nothing f = f
  widened_formed (H.Scalar t) f = f
  widened_formed (H.Owned t b) f = owned_wide t b f
  widened_formed (H.Lent t root) f = f
  widened_formed (H.Credit n) f = f
  widened_formed (H.Bare t d) f = f

  pub wide_formed : (hs : List Held) → Formed w hs → Formed w (map widened hs)
  wide_formed hs f = map_formed widened widened_formed hs f

  value_formed : (h : Held) → IsFormed w h → IsFormed w (as_value h)
  value_formed H.Nothing f = f
  value_formed (H.Scalar t) f = f
  value_formed (H.Owned t b) f = f
  value_formed (H.Lent t root) f = f
  value_formed (H.Credit n) f = f
  value_formed (H.Bare t d) f = f

  or_formed : (hs : List Held) (r : ℕ) → Formed w hs → IsFormed w (get_or hs r H.Nothing)
  or_formed hs r f = subst (IsFormed w) (sym (held_or hs r)) (at_formed hs r f)

  -- ---- types

  shapes_there : (tb : Table) (t : ℕ) → 0 < length (shapes tb t) → t < length tb
  shapes_there [] t some = absurd (omega (arith, some))
  shapes_there (row ∷ rows) zero some = omega arith
  shapes_there (row ∷ rows) (suc t) some = let z = shapes_there rows t some in omega (arith, z)

  pub has_type : (t : ℕ) → 0 < count w t → is_type w t ≡ true
  has_type zero some = absurd (let z : 0 < 0 = some in let y : ⊥ = omega (arith, z) in y)
  has_type (suc t) some = below_is (suc t) (suc (length w)) (let z = shapes_there w t some in omega (arith, z))

  -- ---- moves, and what is given up

  module _ (code : List Instr) where
    move_formed : (at : ℕ) (k : Known) (r d end : ℕ) (l : Known) → MoveLaid code at k r d end l → Formed w k.held → Formed w l.held
    move_formed at k r d end l (inl h) f =
        subst (λ (l : Known). Formed w l.held) (sym h.1.known) (set_formed (used k.held r) d (as_value (get_or k.held r H.Nothing)) (value_formed (get_or k.held r H.Nothing) (or_formed k.held r f)) (used_formed k.held r f))
    move_formed at k r d end l (inr h) f = subst (λ (l : Known). Formed w l.held) (sym h.known) f

    pub moves_formed : (at : ℕ) (k : Known) (rs ds : List ℕ) (end : ℕ) (l : Known) → MovesLaid code at k rs ds end l → Formed w k.held → Formed w l.held
    moves_formed at k [] ds end l h f = subst (λ (l : Known). Formed w l.held) (sym h.1) f
    moves_formed at k (r ∷ rs) [] end l h f = subst (λ (l : Known). Formed w l.held) (sym h.1) f
    moves_formed at k (r ∷ rs) (d ∷ ds) end l h f = moves_formed h.0 h.1 rs ds end l h.3 (move_formed at k r d h.0 h.1 h.2 f)

  module _ (f : PlainFunction) where
    gives_one_formed : (fip : Bool) (at : ℕ) (k l : Known) → GivesOne fip f at k l → Formed w k.held → Formed w l.held
    gives_one_formed fip at k l (inl h) x = subst (λ (l : Known). Formed w l.held) (sym h.known) (set_formed k.held h.register H.Nothing tt x)
    gives_one_formed fip at k l (inr h) x = by h.1
      where
        by : Rattle.lowering_relation.specs.GivenUp.Drops f at k l ⊎ Rattle.lowering_relation.specs.GivenUp.Frees f at k l → Formed w l.held
        by (inl y) = subst (λ (l : Known). Formed w l.held) (sym y.known) (used_formed k.held y.register x)
        by (inr y) = subst (λ (l : Known). Formed w l.held) (sym y.known) (set_formed k.held y.register H.Nothing tt x)

    pub gives_formed : (fip : Bool) (n at : ℕ) (k : Known) (end : ℕ) (l : Known) → GivesUp fip f n at k end l → Formed w k.held → Formed w l.held
    gives_formed fip zero at k end l h x = subst (λ (l : Known). Formed w l.held) (sym h.1) x
    gives_formed fip (suc n) at k end l h x = gives_formed fip n (suc at) h.0 end l h.2 (gives_one_formed fip at k h.0 h.1 x)

    pub over_formed : (fip : Bool) (st : Setting) (o : Known) (e : Rattle.lowering_relation.specs.fip_trees.Tree.Expression) (rs : List ℕ) (at : ℕ) (k : Known) (end : ℕ) (l : Known) → LeavesOver fip st f o e rs at k end l → Formed w k.held → Formed w l.held
    over_formed true st o e rs at k end l h x = subst (λ (l : Known). Formed w l.held) (sym h.1) x
    over_formed false st o e rs at k end l h x = gives_formed false h.steps at k end l h.gives x

  -- ---- where clauses meet

  pub met_formed : (k l m : Known) → Met k l m → Formed w k.held → Formed w m.held
  met_formed k l m h f = formed_by m.held (λ r. by r (h.held r))
    where
      by : (r : ℕ) → ((held_at k.held r ≡ held_at l.held r) × (held_at m.held r ≡ held_at k.held r)) ⊎ ((held_at k.held r ≡ held_at l.held r → ⊥) × (held_at m.held r ≡ H.Nothing)) ⊎ ((n : ℕ) × (held_at k.held r ≡ H.Credit n) × (held_at m.held r ≡ held_at k.held r)) → IsFormed w (held_at m.held r)
      by r (inl y) = subst (IsFormed w) (sym y.1) (at_formed k.held r f)
      by r (inr (inl y)) = subst (IsFormed w) (sym y.1) tt
      by r (inr (inr y)) = subst (IsFormed w) (sym y.2) (at_formed k.held r f)

module _ (c : PlainCode) (st : Setting) (wd : W.World) (w : R.World) (shares : Shares c st wd) (callees : Callees c st wd w) (tables : AreSoundTables c) where
  -- ---- values of types

  some_constructor : (t : ℕ) → is_type c.types t ≡ true → is_scalar_type c.types t ≡ false → 0 < count c.types t
  some_constructor zero typed tree = absurd (true≢false (sym (and_to (is_type c.types 0) true typed refl) ∙ tree))
  some_constructor (suc t) typed tree = (tables.types (suc t) (omega arith) (let z = less (suc t) (suc (length c.types)) typed in omega (arith, z))).some

  given_by : (b : Bool) (t : ℕ) → is_scalar st t ≡ b → is_type c.types t ≡ true → IsFormed c.types (given_if b t)
  given_by true t e typed = typed
  given_by false t e typed = some_constructor t typed (sym (shares.scalars t typed) ∙ e)

  pub given_formed : (t : ℕ) → is_type c.types t ≡ true → IsFormed c.types (given st t)
  given_formed t typed = given_by (is_scalar st t) t refl typed

  is_bool : is_type c.types 1 ≡ true
  is_bool = has_type c.types 1 (let e : count c.types 1 ≡ 2 = ap length tables.bool in omega (arith, e))

  is_int : is_type c.types 0 ≡ true
  is_int = below_is 0 (suc (length c.types)) (omega arith)

  pub result_formed : (o : Operator) → is_type c.types (result_type o) ≡ true
  result_formed O.Add = is_int
  result_formed O.Subtract = is_int
  result_formed O.Multiply = is_int
  result_formed O.Divide = is_int
  result_formed O.Remainder = is_int
  result_formed O.Equal = is_bool
  result_formed O.NotEqual = is_bool
  result_formed O.Less = is_bool
  result_formed O.LessOrEqual = is_bool
  result_formed O.Greater = is_bool
  result_formed O.GreaterOrEqual = is_bool

  pub goes_formed : (target : Target) (k : Known) (h : Held) (d : ℕ) (l : Known) → GoesTo target k h d l → IsFormed c.types h → Formed c.types k.held → Formed c.types l.held
  goes_formed Return k h d l g x f = subst (λ (l : Known). Formed c.types l.held) (sym g.1) (set_formed c.types k.held k.next h x f)
  goes_formed (Into []) k h d l g x f = subst (λ (l : Known). Formed c.types l.held) (sym g.1) (set_formed c.types k.held k.next h x f)
  goes_formed (Into (e ∷ ds)) k h d l g x f = subst (λ (l : Known). Formed c.types l.held) (sym g.1) (set_formed c.types k.held e h x f)

  -- ---- arguments

  built_by : (b : Bool) (t d : ℕ) → d < count c.types t → IsFormed c.types (built_if b t d)
  built_by true t d low = has_type c.types t (some_below c.types d (count c.types t) low)
  built_by false t d low = low

  module _ (code : List Instr) where
    put_formed : (at : ℕ) (k : Known) (t d : ℕ) (rs : List ℕ) (r end : ℕ) (l : Known) → BuiltAt st code at k t d rs r end l → is_constructor c.types t d ≡ true → Formed c.types k.held → Formed c.types l.held
    put_formed at k t d [] r end l (inl h) is f =
        subst (λ (l : Known). Formed c.types l.held) (sym h.known) (set_formed c.types (slice_set k.held r H.Nothing) r (H.Owned t (Some d)) (less d (count c.types t) is) (set_formed c.types k.held r H.Nothing tt f))
    put_formed at k t d [] r end l (inr h) is f =
        subst (λ (l : Known). Formed c.types l.held) (sym h.known) (set_formed c.types k.held k.next (built st t d) (built_by (is_scalar st t) t d (less d (count c.types t) is)) f)
    put_formed at k t d (q ∷ rs) r end l h is f =
        subst (λ (l : Known). Formed c.types l.held) (sym h.known)
        (set_formed c.types (used_all (slice_set k.held r H.Nothing) (q ∷ rs)) r (H.Owned t (Some d)) (less d (count c.types t) is) (used_all_formed c.types (slice_set k.held r H.Nothing) (q ∷ rs) (set_formed c.types k.held r H.Nothing tt f)))

    mutual
      argument_formed : (at : ℕ) (k : Known) (a : Argument) (r end : ℕ) (l : Known) → ArgumentAt st code at k a r end l → BuildsArgument c.types a → Formed c.types k.held → Formed c.types l.held
      argument_formed at k (Variable x n p) r end l h b f = subst (λ (l : Known). Formed c.types l.held) (sym h.known) f
      argument_formed at k (Literal i p) r end l h b f = subst (λ (l : Known). Formed c.types l.held) (sym h.known) (set_formed c.types k.held k.next (H.Scalar 0) is_int f)
      argument_formed at k (Constructor t d n m p as') r end l h b f = put_formed h.1 h.2 t n h.0 r end l h.4 b.0 (arguments_formed at k as' h.0 h.1 h.2 h.3 b.1 f)

      pub arguments_formed : (at : ℕ) (k : Known) (as' : Arguments) (rs : List ℕ) (end : ℕ) (l : Known) → ArgumentsAt st code at k as' rs end l → BuildsArguments c.types as' → Formed c.types k.held → Formed c.types l.held
      arguments_formed at k NoArguments [] end l h b f = subst (λ (l : Known). Formed c.types l.held) (sym h.1) f
      arguments_formed at k NoArguments (r ∷ rs) end l h b f = absurd h
      arguments_formed at k (MoreArguments a as') [] end l h b f = absurd h
      arguments_formed at k (MoreArguments a as') (r ∷ rs) end l h b f = arguments_formed h.0 h.1 as' rs end l h.3 b.1 (argument_formed at k a r h.0 h.1 h.2 b.0 f)

  -- ---- a call

  pub handed_formed : (hs : List Held) (ps : List Param) (rs : List ℕ) → Formed c.types hs → Formed c.types (handed hs ps rs)
  handed_formed hs [] rs f = f
  handed_formed hs (p ∷ ps) [] f = f
  handed_formed hs (p ∷ ps) (r ∷ rs) f = handed_formed (if p.lent then hs else used hs r) ps rs (pick (Formed c.types) p.lent hs (used hs r) (λ e. f) (λ e. used_formed c.types hs r f))

  pub taken_formed : (k : Known) (ns rs : List ℕ) (l : Known) → AreTaken k ns rs l → Formed c.types k.held → Formed c.types l.held
  taken_formed k [] [] l h f = subst (λ (l : Known). Formed c.types l.held) (sym h) f
  taken_formed k [] (r ∷ rs) l h f = absurd h
  taken_formed k (n ∷ ns) [] l h f = absurd h
  taken_formed k (n ∷ ns) (r ∷ rs) l h f = taken_formed (record k { held = slice_set k.held r H.Nothing; credits = h.0 }) ns rs l h.2 (set_formed c.types k.held r H.Nothing tt f)

  pub received_formed : (hs : List Held) (ts ds : List ℕ) → are_types c.types ts ≡ true → Formed c.types hs → Formed c.types (received st hs ts ds)
  received_formed hs [] ds typed f = f
  received_formed hs (t ∷ ts) [] typed f = f
  received_formed hs (t ∷ ts) (d ∷ ds) typed f =
      let both = Rattle.separation.proofs.separation_kinds.Basics.both (is_type c.types t) (are_types c.types ts) typed in
      received_formed (slice_set hs d (given st t)) ts ds both.1 (set_formed c.types hs d (given st t) (given_formed t both.0) f)

  -- ---- the start of a function

  lent_by_type : (b s : Bool) (t : ℕ) → is_scalar st t ≡ s → is_type c.types t ≡ true → IsFormed c.types (if b && not s then H.Lent t None else given st t)
  lent_by_type true true t e typed = given_formed t typed
  lent_by_type true false t e typed = some_constructor t typed (sym (shares.scalars t typed) ∙ e)
  lent_by_type false s t e typed = given_formed t typed

  param_formed : (p : Param) → is_type c.types p.ty ≡ true → IsFormed c.types (param_held st p)
  param_formed p typed = lent_by_type p.lent (is_scalar st p.ty) p.ty refl typed

  params_formed : (k : Known) (ps : List Param) (bs : List Binder) → ParamsTyped c ps → Formed c.types k.held → Formed c.types (with_params st k ps bs).held
  params_formed k [] bs typed f = f
  params_formed k (p ∷ ps) [] typed f = f
  params_formed k (p ∷ ps) (b ∷ bs) typed f = params_formed (with_param st k p b) ps bs typed.1 (set_formed c.types k.held k.next (param_held st p) (param_formed p typed.0) f)

  credits_formed : (k : Known) (ns : List ℕ) → Rattle.separation.specs.code_rules.Headers.are_sizes ns ≡ true → Formed c.types k.held → Formed c.types (with_credits k ns).held
  credits_formed k [] sizes f = f
  credits_formed k (n ∷ ns) sizes f =
      let both = Rattle.separation.proofs.separation_kinds.Basics.both (is_size n) (Rattle.separation.specs.code_rules.Headers.are_sizes ns) sizes in
      credits_formed (with_credit (record k { next = suc k.next }) n k.next) ns both.1 (set_formed c.types k.held k.next (H.Credit n) both.0 f)

  pub start_formed : (n : ℕ) (d : Rattle.lowering_relation.specs.fip_trees.Tree.Instance) → ParamsTyped c d.params → Rattle.separation.specs.code_rules.Headers.are_sizes d.credits ≡ true → Formed c.types (known_at_start st n d).held
  start_formed n d typed sizes =
      credits_formed (with_params st (nothing_known n d.variables) d.params d.binders) d.credits sizes
      (params_formed (nothing_known n d.variables) d.params d.binders typed (nothing_formed c.types n))

  -- ---- a match begins

  pub begins_formed : (f : PlainFunction) (at : ℕ) (k : Known) (x : Option ℕ) (t : ℕ) (ch : Rattle.lowering_relation.specs.Tests.Choice) (l : Known) → MatchBegins c f at k x t ch l → Formed c.types k.held → Formed c.types l.held
  begins_formed f at k x t ch l h g = subst (λ (l : Known). Formed c.types l.held) (sym h.is) (by h.forgets)
    where
      by : Forgets c f at k (Rattle.lowering_relation.specs.Spots.register ch.root) h.known → Formed c.types h.known.held
      by (inl y) = subst (λ (l : Known). Formed c.types l.held) (sym y.0) g
      by (inr y) = subst (λ (l : Known). Formed c.types l.held) (sym y.0) (wide_formed c.types k.held g)

  -- ---- the entry of a clause

  few_fields : (t d : ℕ) (fs : List ℕ) → Rattle.lowering_relation.specs.match_knowledge.ValueHeads.IsHead c.types t (Tag d) fs → length fs ≤ most_fields
  few_fields zero d fs h = absurd h
  few_fields (suc t) d fs h =
      let within : t < length c.types = shapes_there c.types c.types t (let z = get_within (shapes c.types t) d h.0 h.1 in omega (arith, z)) in
      let few = ((tables.types (suc t) (omega arith) (omega (arith, within))).shapes d h.0 h.1).few in
      subst (λ fs. length fs ≤ most_fields) h.2 few

  count_rows : (fs : List ℕ) (ps : Patterns) → ArePatterns c.types fs (rows_of ps) → length fs ≡ count_patterns ps
  count_rows [] NoPatterns h = refl
  count_rows [] (MorePatterns p ps) h = absurd h
  count_rows (t ∷ fs) NoPatterns h = absurd h
  count_rows (t ∷ fs) (MorePatterns p ps) h = ap suc (count_rows fs ps h.1)

  size_formed : (n : ℕ) → suc n ≤ most_fields → is_size (suc n) ≡ true
  size_formed n few = and_to (nat_lt 0 (suc n)) (nat_lt (suc n) (suc most_fields)) (below_is 0 (suc n) (omega arith)) (below_is (suc n) (suc most_fields) (omega (arith, few)))

  variable_by : (takes s : Bool) (root : Option ℕ) (t : ℕ) → is_scalar st t ≡ s → is_type c.types t ≡ true → IsFormed c.types (if takes || s then given st t else H.Lent t root)
  variable_by true s root t e typed = given_formed t typed
  variable_by false true root t e typed = given_formed t typed
  variable_by false false root t e typed = some_constructor t typed (sym (shares.scalars t typed) ∙ e)

  variable_formed : (takes : Bool) (root : Option ℕ) (b : Binder) (r : ℕ) (k : Known) → is_type c.types b.ty ≡ true → Formed c.types k.held → Formed c.types (with_variable st takes root b r k).held
  variable_formed takes root b r k typed f = by (takes || is_named b)
    where
      by : (y : Bool) → Formed c.types (if y then holding (Rattle.lowering_relation.specs.Known.naming k b.number r) r (variable_held st takes root b.ty) else Rattle.lowering_relation.specs.Entering.unnaming k b.number).held
      by true = set_formed c.types k.held r (variable_held st takes root b.ty) (variable_by takes (is_scalar st b.ty) root b.ty refl typed) f
      by false = f

  cell_formed : (takes : Bool) (t d : ℕ) (ps : Patterns) (r : ℕ) (k : Known) → d < count c.types t → count_patterns ps ≤ most_fields → Formed c.types k.held → Formed c.types (with_cell st takes t d ps r k).held
  cell_formed false t d ps r k low few f = f
  cell_formed true t d NoPatterns r k low few f = by (is_scalar st t)
    where
      by : (y : Bool) → Formed c.types (if y then k else holding k r (H.Bare t d)).held
      by true = f
      by false = set_formed c.types k.held r (H.Bare t d) low f
  cell_formed true t d (MorePatterns p ps) r k low few f = set_formed c.types k.held r (H.Credit (suc (count_patterns ps))) (size_formed (count_patterns ps) few) f

  types_of_head : (t d : ℕ) → AreTypes c (fields c.types t d)
  types_of_head t d = subst (AreTypes c) (pattern_fields c st wd w shares callees t d) (callees.fields t d)

  mutual
    entering_formed : (takes : Bool) (root : Option ℕ) (q : Pattern) (s : Spot) (k : Known) (t : ℕ) → is_type c.types t ≡ true → Slotted st c.types t q → IsPattern c.types t (row_of q) → Formed c.types k.held → Formed c.types (entering st takes root q s k).held
    entering_formed takes root (BinderPattern b) (At r fs) k t typed slots row f = variable_formed takes root b r k (ap (is_type c.types) slots.0 ∙ typed) f
    entering_formed takes root (LiteralPattern i p) (At r fs) k t typed slots row f = f
    entering_formed takes root (ConstructorPattern u d x n p ps) (At r fs) k t typed slots row f =
        let head = head_fields c.types t x row.1 row.2 in
        let few = few_fields t x row.1 row.2 in
        let many = count_rows row.1 ps row.3 in
        entering_all_formed takes root ps fs (with_cell st takes u x ps r k) (fields c.types t x) (types_of_head t x) slots.2
        (subst (λ fs. ArePatterns c.types fs (rows_of ps)) (sym head.1) row.3)
        (cell_formed takes u x ps r k (subst (λ t. x < count c.types t) (sym slots.0) head.0) (omega (arith, few, many)) f)

    entering_all_formed : (takes : Bool) (root : Option ℕ) (ps : Patterns) (ss : Spots) (k : Known) (ts : List ℕ) → AreTypes c ts → AllSlotted st c.types ts ps → ArePatterns c.types ts (rows_of ps) → Formed c.types k.held → Formed c.types (entering_all st takes root ps ss k).held
    entering_all_formed takes root NoPatterns ss k ts typed slots row f = f
    entering_all_formed takes root (MorePatterns p ps) NoSpots k ts typed slots row f = f
    entering_all_formed takes root (MorePatterns p ps) (MoreSpots s ss) k [] typed slots row f = absurd slots
    entering_all_formed takes root (MorePatterns p ps) (MoreSpots s ss) k (t ∷ ts) typed slots row f =
        entering_all_formed takes root ps ss (entering st takes root p s k) ts typed.1 slots.1 row.1 (entering_formed takes root p s k t typed.0 slots.0 row.0 f)

  spent_formed : (takes : Bool) (r : ℕ) (k : Known) → Formed c.types k.held → Formed c.types (spent_if takes r k).held
  spent_formed true r k f = used_formed c.types k.held r f
  spent_formed false r k f = f

  root_formed : (takes : Bool) (q : Pattern) (s : Spot) (k : Known) (t : ℕ) → is_type c.types t ≡ true → Slotted st c.types t q → IsPattern c.types t (row_of q) → Formed c.types k.held → Formed c.types (entering_root st takes q s k).held
  root_formed takes (BinderPattern b) (At r fs) k t typed slots row f = f
  root_formed takes (LiteralPattern i p) (At r fs) k t typed slots row f = f
  root_formed takes (ConstructorPattern u d x n p ps) (At r fs) k t typed slots row f =
      entering_formed takes (root_of r (get_or k.held r H.Nothing)) (ConstructorPattern u d x n p ps) (At r fs) (spent_if takes r k) t typed slots row (spent_formed takes r k f)

  pub entered_formed : (ch : Rattle.lowering_relation.specs.Tests.Choice) (q : Pattern) (k : Known) (m : ℕ) → is_type c.types ch.type ≡ true → Slotted st c.types ch.type q → IsPattern c.types ch.type (row_of q) → Formed c.types k.held → Formed c.types (entered st ch q k m).held
  entered_formed ch q k m typed slots row f =
      wide_formed c.types (entering_root st ch.takes q ch.root (record k { next = m })).held (root_formed ch.takes q ch.root (record k { next = m }) ch.type typed slots row f)
