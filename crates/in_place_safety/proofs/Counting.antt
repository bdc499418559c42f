-- An evaluation that gives values counts as the calculus says: by induction on the trees. So the theorem of the
-- calculus on cells holds of it, and by induction on the calls that are nested of each fip instance.
use Rattle.std.proofs.Common.{◌≡◌, ◌<◌, ◌⊎◌, inl, inr, ⊎_elim, ℕ, zero, suc, ◌+◌, ℤ, pos, Bool, true, false, not, List, ◌++◌, map, length, Option, Some, None, slice_get, if◌then◌else◌, refl, sym, ap, ◌∙◌, subst, arith, int_div, int_rem, ◌+ℤ◌, ◌-ℤ◌, ◌*ℤ◌}
use Rattle.tail_groups.specs.fip_language.declared.Place.{Place}
use Rattle.tail_groups.specs.fip_language.declared.FunKind.{FunKind}
use Rattle.tail_groups.specs.fip_language.declared.FunKind.TheVariants.{Fip, Fbip, Fun}
use Rattle.tail_groups.specs.fip_language.declared.Operator.{Operator}
use Rattle.tail_groups.specs.fip_language.declared.Operator.TheVariants as O
use Rattle.tail_groups.specs.fip_language.declared.TrapKind.TheVariants.{Overflow, DivideByZero}
use Rattle.tail_groups.specs.fip_language.Values.{Value, Int, Node, Values, End, More, cells, cells_of_all}
use Rattle.tail_groups.specs.fip_language.Table.{Table, is_scalar, HasType, HaveTypes}
use Rattle.tail_groups.specs.fip_language.Matching.{Binding, same_int}
use Rattle.tail_groups.specs.fip_language.Arithmetic.{Operated, Is, Fails, fits, int_or_overflow, operate}
use Rattle.tail_groups.specs.fip_language.Meaning.{Answer, Gives, Trap, Out, Deep, Stuck, Run, go_on, counted, in_frame, Environment, bind_matched, with_value, with_values, operated, operation, if_matches}
use Rattle.tail_groups.proofs.fip_language.Search.{slice_get_there}
use Rattle.tail_groups.specs.fip_trees.Tree.{Argument, Arguments, Pattern, Expression, Give, Tuple, Operation, Call, Match, Nested, Block, Last, Let, Clauses, NoClauses, MoreClauses, Instance, Program}
use Rattle.type_safety.specs.type_check.Scope.{Scope}
use Rattle.type_safety.specs.type_check.Binders.{all_annotated, entries}
use Rattle.type_safety.specs.type_check.World as Y
use Rattle.type_safety.specs.type_check.Typing.{HasType as IsOfType, Types, TypesBlock, TypesClauses, Typed, bound_by, parameter_entries}
use Rattle.ownership_agreement.specs.fip_rules.World.{World, world, weaker, weaker_than, is_weaker}
use Rattle.ownership_agreement.specs.fip_rules.Shapes.{Names, following, binders, takes, shape}
use Rattle.type_safety.specs.instance_semantics.Matching.{matching}
use Rattle.type_safety.specs.instance_semantics.Meaning.{bind_binders, argument_value, argument_values, Calls, eval, eval_block, eval_clauses}
use Rattle.type_safety.specs.Formed.{FormedExpression, FormedBlock, FormedClauses, IsFormed}
use Rattle.type_safety.specs.Soundness.{IsTypedAnswer, parameter_types}
use Rattle.type_safety.proofs.WellTyped.{head_is, argument_has, arguments_have}
use Rattle.type_safety.proofs.Gains.{CallsGain, expression_gained}
use Rattle.ownership_agreement.specs.ownership_calculus.Terms as C
use Rattle.ownership_agreement.specs.ownership_calculus.Terms.{given}
use Rattle.ownership_agreement.specs.Bodies.{Scalars, value, passed, credits_of, variables, entering, nodes, inside, past_clause, matched, term, term_block, clauses}
use Rattle.in_place_safety.specs.Conservation.{cells_given, KeepsCells}
use Rattle.in_place_safety.specs.Counts.{Held, cells_of_value, cells_passed, total, Binds, Counts, CountsLent, CountsTaken}
use Rattle.in_place_safety.proofs.NamesGrow.{grows, past_grows}
use Rattle.in_place_safety.proofs.Tracking.{Tracks, tracks_values, tracks_later}
use Rattle.in_place_safety.proofs.Binding.{slots, slot_entries, held_all, tracks_binders, binds_all, total_is, let_slots, let_entries}
use Rattle.in_place_safety.proofs.Patterns.{Matched, bound_entries}
use Rattle.in_place_safety.proofs.Patterns as P
use Rattle.in_place_safety.proofs.Arguments.{value_cells, values_cells, passed_cells}

-- ---- what an evaluation that gives values is put together from

abbrev Gave : Run → Values → ℕ → Type 0
Gave r rs left = r.answer ≡ Gives rs left

pub same_values : (vs ws : Values) (k j : ℕ) → Gives vs k ≡ Gives ws j → vs ≡ ws
same_values vs ws k j e = cc

value_gives : (o : Option Value) (go : Value → Run) (rs : Values) (left : ℕ) → Gave (with_value o go) rs left → (v : Value) × (o ≡ Some v) × Gave (go v) rs left
value_gives None go rs left e = cc
value_gives (Some v) go rs left e = (v, refl, e)

values_give : (o : Option Values) (go : Values → Run) (rs : Values) (left : ℕ) → Gave (with_values o go) rs left → (vs : Values) × (o ≡ Some vs) × Gave (go vs) rs left
values_give None go rs left e = cc
values_give (Some vs) go rs left e = (vs, refl, e)

counted_gives : (k : ℕ) (go : ℕ → Run) (rs : Values) (left : ℕ) → Gave (counted k go) rs left → (j : ℕ) × Gave (go j) rs left
counted_gives zero go rs left e = cc
counted_gives (suc k) go rs left e = (k, e)

frame_gives : (tail : Bool) (w d : ℕ) (go : ℕ → Run) (rs : Values) (left : ℕ) → Gave (in_frame tail w d go) rs left → (free : ℕ) × Gave (go free) rs left
frame_gives true w d go rs left e = (d, e)
frame_gives false w zero go rs left e = cc
frame_gives false w (suc d) go rs left e = (d, e)

bound_gives : (a : Answer) (go : Values → ℕ → Run) (rs : Values) (left : ℕ) → Gave (go_on a go) rs left → (us : Values) × (j : ℕ) × (a ≡ Gives us j) × Gave (go us j) rs left
bound_gives (Gives us j) go rs left e = (us, j, refl, e)
bound_gives (Trap kind line col) go rs left e = cc
bound_gives Out go rs left e = cc
bound_gives Deep go rs left e = cc
bound_gives Stuck go rs left e = cc

match_gives : (o : Option (List Binding)) (go : List Binding → Run) (other : Run) (rs : Values) (left : ℕ) → Gave (if_matches o go other) rs left → ((bs : List Binding) × (o ≡ Some bs) × Gave (go bs) rs left) ⊎ Gave other rs left
match_gives None go other rs left e = inr e
match_gives (Some bs) go other rs left e = inl (bs, refl, e)

-- ---- operators give no cell

abbrev IsBare : Operated → Type 0
IsBare (Is v) = (k : ℕ) → cells k v ≡ 0
IsBare (Fails kind) = Unit {0}

int_bare : (b : Bool) (i : ℤ) → IsBare (if b then Is (Int i) else Fails Overflow)
int_bare true i = λ k. refl
int_bare false i = tt

zero_bare : (b : Bool) (o : Operated) → IsBare o → IsBare (if b then Fails DivideByZero else o)
zero_bare true o h = tt
zero_bare false o h = h

operate_bare : (o : Operator) (i j : ℤ) → IsBare (operate o i j)
operate_bare O.Add i j = int_bare (fits (i +ℤ j)) (i +ℤ j)
operate_bare O.Subtract i j = int_bare (fits (i -ℤ j)) (i -ℤ j)
operate_bare O.Multiply i j = int_bare (fits (i *ℤ j)) (i *ℤ j)
operate_bare O.Divide i j = zero_bare (same_int j (pos 0)) (int_or_overflow (int_div i j)) (int_bare (fits (int_div i j)) (int_div i j))
operate_bare O.Remainder i j = zero_bare (same_int j (pos 0)) (Is (Int (int_rem i j))) (λ k. refl)
operate_bare O.Equal i j = λ k. refl
operate_bare O.NotEqual i j = λ k. refl
operate_bare O.Less i j = λ k. refl
operate_bare O.LessOrEqual i j = λ k. refl
operate_bare O.Greater i j = λ k. refl
operate_bare O.GreaterOrEqual i j = λ k. refl

operated_bare : (o : Operated) (p : Place) (k : ℕ) (rs : Values) (left n : ℕ) → IsBare o → Gave (operated o p k) rs left → cells_of_all n rs ≡ 0
operated_bare (Is v) p k rs left n h e =
    let same : More v End ≡ rs = same_values (More v End) rs k left e in
    let none = h n in sym (ap (cells_of_all n) same) ∙ (omega arith)
operated_bare (Fails kind) p k rs left n h e = cc

operation_bare : (o : Operator) (p : Place) (k : ℕ) (v w : Value) (rs : Values) (left n : ℕ) → Gave (operation o p k v w) rs left → cells_of_all n rs ≡ 0
operation_bare o p k (Int i) (Int j) rs left n e = operated_bare (operate o i j) p k rs left n (operate_bare o i j) e
operation_bare o p k (Int i) (Node c vs) rs left n e = cc
operation_bare o p k (Node c vs) w rs left n e = cc

int_cells : (tb : Table) (v : Value) (n : ℕ) → HasType tb 0 v → cells n v ≡ 0
int_cells tb (Int i) n h = refl
int_cells tb (Node c vs) n h = absurd h

-- ---- clauses

abbrev CountsWhere : Bool → Held → (ℕ → ℕ) → C.Clauses → (ℕ → ℕ) → Type 0
CountsWhere true held v cs r = CountsTaken held v cs r
CountsWhere false held v cs r = CountsLent held cs r

match_counts : (w : World) (sc : Scalars) (c : Names) (taken : Bool) (a : Argument) (cs : C.Clauses) (held : Held) (v r : ℕ → ℕ) → ((k : ℕ) → cells_of_value held (value sc c.marks a) k ≡ v k) → CountsWhere taken held v cs r → Counts held (matched w sc c.marks taken a cs) r
match_counts w sc c true a cs held v r e h = subst (λ f. CountsTaken held f cs r) (λ i k. sym (e k) i) h
match_counts w sc c false a cs held v r e h = h

-- that a clause is chosen
record Chosen (held : Held) (v : ℕ → ℕ) (ys ks : List ℕ) (e : C.Term) (r : ℕ → ℕ) : Type 0 where
  new : Held
  binds : Binds ys held new
  counted : (k : ℕ) → v k ≡ total new ys k + given k ks
  body : Counts new e r

first_chosen : (w : World) (sc : Scalars) (taken : Bool) (c : Names) (held : Held) (v : ℕ → ℕ) (ys ks : List ℕ) (e : C.Term) (cs : Clauses) (r : ℕ → ℕ) → Chosen held v ys ks e r → CountsWhere taken held v (clauses w sc taken c ys ks e cs) r
first_chosen w sc true c held v ys ks e NoClauses r h = (h.new, h.binds, h.counted, h.body)
first_chosen w sc true c held v ys ks e (MoreClauses q body cs) r h = inl (h.new, h.binds, h.counted, h.body)
first_chosen w sc false c held v ys ks e NoClauses r h = (h.new, h.binds, h.body)
first_chosen w sc false c held v ys ks e (MoreClauses q body cs) r h = inl (h.new, h.binds, h.body)

later_chosen : (w : World) (sc : Scalars) (taken : Bool) (c : Names) (held : Held) (v : ℕ → ℕ) (ys ks : List ℕ) (e : C.Term) (q : Pattern) (body : Block) (cs : Clauses) (r : ℕ → ℕ) → CountsWhere taken held v (clauses w sc taken (past_clause w taken c q body) (variables w c.next (binders q)) (nodes q) (term_block w (entering w c.next sc (binders q)) (inside w taken c (binders q)) body) cs) r → CountsWhere taken held v (clauses w sc taken c ys ks e (MoreClauses q body cs)) r
later_chosen w sc true c held v ys ks e q body cs r h = inr h
later_chosen w sc false c held v ys ks e q body cs r h = inr h

-- ---- calls

-- what calls of fip instances give has the cells that they were given
abbrev pub CallsKeep : Program → Calls → Type 0
CallsKeep p calls = (d g : ℕ) (vs : Values) (k : ℕ) (f : Instance) → slice_get p.instances g ≡ Some f → f.kind ≡ Fip → HaveTypes p.types (parameter_types f) vs → KeepsCells f vs (calls d g vs k).answer

keeps_given : (f : Instance) (vs : Values) (a : Answer) (rs : Values) (left : ℕ) → KeepsCells f vs a → a ≡ Gives rs left → (k : ℕ) → cells_of_all k rs ≡ cells_given k f vs
keeps_given f vs (Gives us j) rs left h e k = let same = same_values us rs j left e in sym (ap (cells_of_all k) same) ∙ h k
keeps_given f vs (Trap kind line col) rs left h e k = cc
keeps_given f vs Out rs left h e k = cc
keeps_given f vs Deep rs left h e k = cc
keeps_given f vs Stuck rs left h e k = cc

only_fip : (k : FunKind) → not (is_weaker Fip k) ≡ true → k ≡ Fip
only_fip Fip e = refl
only_fip Fbip e = cc
only_fip Fun e = cc

-- a callee that is strong enough is fip
strong_fip : (p : Program) (g : ℕ) (f : Instance) → slice_get p.instances g ≡ Some f → not (weaker (world p Fip) g) ≡ true → f.kind ≡ Fip
strong_fip p g f e h = only_fip f.kind (sym (ap (λ o. not (weaker_than Fip o)) e) ∙ h)

typed_given : (tb : Table) (ts : List ℕ) (a : Answer) (us : Values) (j : ℕ) → IsTypedAnswer tb ts a → a ≡ Gives us j → HaveTypes tb ts us
typed_given tb ts (Gives vs k) us j h e = subst (HaveTypes tb ts) (same_values vs us k j e) h
typed_given tb ts (Trap kind line col) us j h e = cc
typed_given tb ts Out us j h e = cc
typed_given tb ts Deep us j h e = cc
typed_given tb ts Stuck us j h e = cc

call_counts : (p : Program) (calls : Calls) → CallsKeep p calls → (c : Names) (sc : Scalars) (s : Scope) (env : Environment) (held : Held) → Tracks p.types c sc s env held → (g : ℕ) (as' : Arguments) (vs : Values) → g < length p.instances → Rattle.type_safety.specs.type_check.Typing.HaveTypes true (Y.world p) s true as' (Y.head (Y.world p) g).parameters → argument_values env as' ≡ Some vs → HaveTypes p.types (Y.head (Y.world p) g).parameters vs → (d k : ℕ) (rs : Values) (left : ℕ) → Gave (calls d g vs k) rs left → not (weaker (world p Fip) g) ≡ true → (n : ℕ) → cells_of_all n rs ≡ cells_passed held (passed (world p Fip) sc c.marks g 0 as') n
call_counts p calls keep c sc s env held h g as' vs lt i r t d k rs left e strong n =
    let x = slice_get_there p.instances g lt in
    let f = x.0 in
    let is : Y.head (Y.world p) g ≡ Y.head_of f = head_is p.instances g f x.1 in
    let typed : HaveTypes p.types (parameter_types f) vs = subst (λ (y : Y.Head). HaveTypes p.types y.parameters vs) is t in
    let shaped = subst (λ (y : Y.Head). Rattle.type_safety.specs.type_check.Typing.HaveTypes true (Y.world p) s true as' y.parameters) is i in
    let kept = keeps_given f vs (calls d g vs k).answer rs left (keep d g vs k f x.1 (strong_fip p g f x.1 strong) typed) e n in
    let count = passed_cells p c sc s env held h Fip g 0 f f.params true as' vs n x.1 (λ m. ap (slice_get f.params) (let z : m ≡ 0 + m = omega arith in z)) shaped r typed in
    let own = ap (λ o. given n (credits_of o)) x.1 in
    omega arith

-- ---- trees

module _ (p : Program) (well : IsFormed p) (calls : Calls) (gain : CallsGain p calls) (keep : CallsKeep p calls) (words : ℕ) where
  abbrev w : World
  w = world p Fip

  abbrev y : Y.World
  y = Y.world p

  -- the scope, the environment and what is held inside of a pattern that matched
  inside_tracked : (taken : Bool) (c : Names) (sc : Scalars) (s : Scope) (env : Environment) (held : Held) (t : ℕ) (q : Pattern) (v : Value) (bs : List Binding) → Rattle.type_safety.specs.type_check.Typing.IsPattern true y t q → (m : Matched p.types q v bs) → Tracks p.types c sc s env held → Tracks p.types (inside w taken c (binders q)) (entering w c.next sc (binders q)) (s ++ bound_by y (Some t) q) (bind_matched env bs) (held_all (is_scalar p.types) c.next (binders q) m.values held)
  inside_tracked taken c sc s env held t q v bs i m h =
      let all = tracks_binders p.types w refl taken c sc s env held (binders q) m.values h m.typed in
      let first = subst (λ r. Tracks p.types (inside w taken c (binders q)) (entering w c.next sc (binders q)) (s ++ slot_entries (binders q)) r (held_all (is_scalar p.types) c.next (binders q) m.values held)) (sym (m.bound env)) all in
      subst (λ (r : Scope). Tracks p.types (inside w taken c (binders q)) (entering w c.next sc (binders q)) (s ++ r) (bind_matched env bs) (held_all (is_scalar p.types) c.next (binders q) m.values held)) (sym (bound_entries y t q i)) first

  chosen_of : (c : Names) (held : Held) (amount : ℕ → ℕ) (q : Pattern) (v : Value) (bs : List Binding) (e : C.Term) (r : ℕ → ℕ) → ((k : ℕ) → amount k ≡ cells k v) → (m : Matched p.types q v bs) → Counts (held_all (is_scalar p.types) c.next (binders q) m.values held) e r → Chosen held amount (variables w c.next (binders q)) (nodes q) e r
  chosen_of c held amount q v bs e r same m h = record {
    new = held_all (is_scalar p.types) c.next (binders q) m.values held;
    binds = binds_all p.types w refl c.next (binders q) m.values held;
    counted = λ k.
        let a = same k in
        let f = m.counted k in
        let g = total_is p.types w refl c.next (binders q) m.values held k m.typed in omega arith;
    body = h;
  }

  mutual
    pub expression_counts : (c : Names) (sc : Scalars) (s : Scope) (held : Held) (b : Bool) (e : Expression) (ts : List ℕ) (tail : Bool) (d : ℕ) (env : Environment) (k : ℕ) → FormedExpression p e → Types true y s b e ts → Tracks p.types c sc s env held → (rs : Values) (left : ℕ) → Gave (eval calls words e tail d env k) rs left → Counts held (term w sc c e) (λ n. cells_of_all n rs)
    expression_counts c sc s held b (Give a) ts tail d env k f h has rs left e =
        let z = value_gives (argument_value env a) _ rs left e in
        λ n.
        let same = ap (cells_of_all n) (same_values (More z.0 End) rs k left z.2) in
        let one = value_cells p c sc s env held has b a h.0 z.0 n h.2 z.1 in omega arith
    expression_counts c sc s held b (Tuple q as') ts tail d env k f h has rs left e =
        let z = values_give (argument_values env as') _ rs left e in
        λ n.
        let same = ap (cells_of_all n) (same_values z.0 rs k left z.2) in
        let all = (values_cells p c sc s env held has b as' ts z.0 n h.1 z.1).0 in omega arith
    expression_counts c sc s held b (Operation o q l r) ts tail d env k f h has rs left e =
        let u = value_gives (argument_value env l) _ rs left e in
        let v = value_gives (argument_value env r) _ rs left u.2 in
        let lt = argument_has p s env (tracks_values p.types c sc s env held has) true l 0 f.0 h.1 in
        let rt = argument_has p s env (tracks_values p.types c sc s env held has) true r 0 f.1 h.2 in
        λ n.
        let none = operation_bare o q k u.0 v.0 rs left n v.2 in
        let one = value_cells p c sc s env held has true l 0 lt.0 n h.1 lt.1 in
        let two = value_cells p c sc s env held has true r 0 rt.0 n h.2 rt.1 in
        let i = int_cells p.types lt.0 n lt.2 in
        let j = int_cells p.types rt.0 n rt.2 in omega arith
    expression_counts c sc s held b (Call g n q as') ts tail d env k f h has rs left e =
        let z = values_give (argument_values env as') _ rs left e in
        let typed = arguments_have p s env (tracks_values p.types c sc s env held has) true as' (Y.head y g).parameters f.1 h.1 in
        let same : typed.0 ≡ z.0 = some_same typed.0 z.0 (sym typed.1 ∙ z.1) in
        let i = counted_gives k _ rs left z.2 in
        let j = frame_gives tail words d _ rs left i.1 in
        λ strong m. call_counts p calls keep c sc s env held has g as' z.0 f.0 h.1 z.1 (subst (HaveTypes p.types (Y.head y g).parameters) same typed.2) j.0 i.0 rs left j.1 strong m
      where
        some_same : (us vs : Values) → Some us ≡ Some vs → us ≡ vs
        some_same us vs i = cc
    expression_counts c sc s held b (Match ds u q a r body cs) ts tail d env k f h has rs left e =
        let z = value_gives (argument_value env a) _ rs left e in
        let there = argument_has p s env (tracks_values p.types c sc s env held has) false a h.0 f.0 h.2 in
        let same : there.0 ≡ z.0 = some_same there.0 z.0 (sym there.1 ∙ z.1) in
        let typed : HasType p.types h.0 z.0 = subst (HasType p.types h.0) same there.2 in
        let taken = takes w ds u in
        let ys = variables w c.next (binders r) in
        let inner = term_block w (entering w c.next sc (binders r)) (inside w taken c (binders r)) body in
        match_counts w sc c taken a (clauses w sc taken (past_clause w taken c r body) ys (nodes r) inner cs) held (λ n. cells n z.0) (λ n. cells_of_all n rs)
        (λ n. value_cells p c sc s env held has false a h.0 z.0 n h.2 z.1)
        (⊎_elim
        (λ i.
        let m = P.matched y h.0 r z.0 i.0 h.3 typed i.1 in
        first_chosen w sc taken (past_clause w taken c r body) held (λ n. cells n z.0) ys (nodes r) inner cs (λ n. cells_of_all n rs)
        (chosen_of c held (λ n. cells n z.0) r z.0 i.0 inner (λ n. cells_of_all n rs) (λ n. refl) m
        (block_counts (inside w taken c (binders r)) (entering w c.next sc (binders r)) (s ++ bound_by y (Some h.0) r) (held_all (is_scalar p.types) c.next (binders r) m.values held) b body ts tail d (bind_matched env i.0) k f.1 h.4 (inside_tracked taken c sc s env held h.0 r z.0 i.0 h.3 m has) rs left i.2)))
        (λ i.
        let later = tracks_later p.types c (past_clause w taken c r body) sc s env held refl (past_grows w taken c (binders r) body) has in
        clauses_count taken (past_clause w taken c r body) sc s held h.0 cs z.0 ts tail d env k f.2 h.5 later typed rs left i ys (nodes r) inner)
        (match_gives (matching r z.0) _ _ rs left z.2))
      where
        some_same : (us vs : Value) → Some us ≡ Some vs → us ≡ vs
        some_same us vs i = cc
    expression_counts c sc s held b (Nested e) ts tail d env k f h has rs left g = block_counts c sc s held b e ts tail d env k f h has rs left g

    pub block_counts : (c : Names) (sc : Scalars) (s : Scope) (held : Held) (b : Bool) (e : Block) (ts : List ℕ) (tail : Bool) (d : ℕ) (env : Environment) (k : ℕ) → FormedBlock p e → TypesBlock true y s b e ts → Tracks p.types c sc s env held → (rs : Values) (left : ℕ) → Gave (eval_block calls words e tail d env k) rs left → Counts held (term_block w sc c e) (λ n. cells_of_all n rs)
    block_counts c sc s held b (Last e) ts tail d env k f h has rs left g = expression_counts c sc s held b e ts tail d env k f h has rs left g
    block_counts c sc s held b (Let bs e rest) ts tail d env k f h has rs left g =
        let z = bound_gives (eval calls words e false d env k).answer _ rs left g in
        let us = z.0 in
        let first = expression_counts c sc s held (all_annotated bs) e h.0 false d env k f.0 h.1 has us z.1 z.2 in
        let typed = typed_given p.types h.0 (eval calls words e false d env k).answer us z.1 (expression_gained p well calls gain words s (all_annotated bs) e h.0 false d env k f.0 h.1 (tracks_values p.types c sc s env held has)) z.2 in
        let slotted : HaveTypes p.types (slots bs) us = subst (λ qs. HaveTypes p.types qs us) (let_slots bs h.0 h.2) typed in
        let c1 = following c (shape w c e) in
        let later = tracks_later p.types c c1 sc s env held refl (grows w c e) has in
        let new = held_all (is_scalar p.types) c1.next bs us held in
        let all = tracks_binders p.types w refl true c1 sc s env held bs us later slotted in
        let moved = subst (λ (r : Scope). Tracks p.types (inside w true c1 bs) (entering w c1.next sc bs) (s ++ r) (bind_binders env bs us) new) (sym (let_entries bs h.0 h.2)) all in
        let body = block_counts (inside w true c1 bs) (entering w c1.next sc bs) (s ++ entries bs (map Some h.0)) new b rest ts tail d (bind_binders env bs us) z.1 f.1 h.3 moved rs left z.3 in
        ((λ n. cells_of_all n us), new, first, binds_all p.types w refl c1.next bs us held, (λ n. sym (total_is p.types w refl c1.next bs us held n slotted)), body)

    clauses_count : (taken : Bool) (c : Names) (sc : Scalars) (s : Scope) (held : Held) (t : ℕ) (cs : Clauses) (v : Value) (ts : List ℕ) (tail : Bool) (d : ℕ) (env : Environment) (k : ℕ) → FormedClauses p cs → TypesClauses true y s t cs ts → Tracks p.types c sc s env held → HasType p.types t v → (rs : Values) (left : ℕ) → Gave (eval_clauses calls words cs v tail d env k) rs left → (ys ks : List ℕ) (e : C.Term) → CountsWhere taken held (λ n. cells n v) (clauses w sc taken c ys ks e cs) (λ n. cells_of_all n rs)
    clauses_count taken c sc s held t NoClauses v ts tail d env k f h has typed rs left g ys ks e = cc
    clauses_count taken c sc s held t (MoreClauses r body cs) v ts tail d env k f h has typed rs left g ys ks e =
        let zs = variables w c.next (binders r) in
        let inner = term_block w (entering w c.next sc (binders r)) (inside w taken c (binders r)) body in
        later_chosen w sc taken c held (λ n. cells n v) ys ks e r body cs (λ n. cells_of_all n rs)
        (⊎_elim
        (λ i.
        let m = P.matched y t r v i.0 h.0 typed i.1 in
        first_chosen w sc taken (past_clause w taken c r body) held (λ n. cells n v) zs (nodes r) inner cs (λ n. cells_of_all n rs)
        (chosen_of c held (λ n. cells n v) r v i.0 inner (λ n. cells_of_all n rs) (λ n. refl) m
        (block_counts (inside w taken c (binders r)) (entering w c.next sc (binders r)) (s ++ bound_by y (Some t) r) (held_all (is_scalar p.types) c.next (binders r) m.values held) true body ts tail d (bind_matched env i.0) k f.0 h.1 (inside_tracked taken c sc s env held t r v i.0 h.0 m has) rs left i.2)))
        (λ i.
        let later = tracks_later p.types c (past_clause w taken c r body) sc s env held refl (past_grows w taken c (binders r) body) has in
        clauses_count taken (past_clause w taken c r body) sc s held t cs v ts tail d env k f.1 h.2 later typed rs left i zs (nodes r) inner)
        (match_gives (matching r v) _ _ rs left g))
