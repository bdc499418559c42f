-- Of the credits of a size, the first ones stay: all but as many as an expression needs.
use Rattle.std.proofs.Common.{◌≡◌, inl, inr, ℕ, zero, suc, ◌+◌, ◌-◌, ◌<◌, ◌≤◌, Bool, true, false, ◌||◌, List, [], ◌∷◌, length, take, slice_get, get_or, Option, refl, sym, ap, ◌∙◌, subst, arith, if◌then◌else◌, ◌==◌}
use Rattle.std.proofs.lemmas.Bool.Decides.{nat_tests}
use Rattle.separation.specs.fip_language.declared.Operator.{Operator}
use Rattle.separation.specs.fip_language.declared.Place.{Place}
use Rattle.lowering_relation.specs.fip_trees.Sizes as Z
use Rattle.lowering_relation.specs.fip_trees.Sizes.{greater}
use Rattle.lowering_relation.specs.fip_trees.declared.program.Binder.{Binder}
use Rattle.lowering_relation.specs.fip_trees.Tree.{Argument, Variable, Literal, Constructor, Arguments, NoArguments, MoreArguments, count}
use Rattle.lowering_relation.specs.fip_trees.Tree.{Pattern, BinderPattern, LiteralPattern, ConstructorPattern, Patterns, NoPatterns, MorePatterns, count_patterns}
use Rattle.lowering_relation.specs.fip_trees.Tree.{Expression, Give, Tuple, Operation, Call, Match, Nested, Clauses}
use Rattle.lowering_relation.specs.credit_check.Needs as N
use Rattle.lowering_relation.specs.credit_check.Needs.{made, made_all, marked, asked, given}
use Rattle.separation.specs.cell_code.declared.code.Instr.{Instr}
use Rattle.separation.specs.cell_code.Plain.{PlainFunction, PlainCode}
use Rattle.lowering_relation.specs.Spots.{Spot, At, Spots, NoSpots, MoreSpots, register}
use Rattle.lowering_relation.specs.Opening.{is_named, Roomy, AllRoomy}
use Rattle.lowering_relation.specs.Entering.{unnaming, variable_held, with_variable, with_cell, entering, entering_all, root_of, spent_if, entering_root}
use Rattle.lowering_relation.specs.declared.held.Held.{Held}
use Rattle.lowering_relation.specs.declared.held.Held.TheVariants as H
use Rattle.lowering_relation.specs.declared.held.Credit as D
use Rattle.lowering_relation.specs.Known.{Known, naming, holding}
use Rattle.lowering_relation.specs.Values.{Setting, is_scalar, ArgumentAt, ArgumentsAt, BuiltAt}
use Rattle.lowering_relation.specs.LoweredBodies.{Into, registers_for, reserved, with_names, GoesTo, AreTaken}
use Rattle.lowering_relation.specs.Credits.{of_size, LastGone}
use Rattle.lowering_relation.specs.Uses.{need}
use Rattle.lowering_relation.specs.GivenUp.{GivesUp}
use Rattle.lowering_relation.specs.Moves.{MoveLaid, MovesLaid}
use Rattle.lowering_relation.specs.Matches.{entered, Forgets, MatchLaid}
use Rattle.lowering_relation.specs.Tests.{Choice}
use Rattle.lowering_relation.specs.Joins.{BaresEnd}
use Rattle.lowering_relation.specs.LaidBodies.{GiveLaid, OperatorLaid, CalledLaid, NamedLaid}
use Rattle.lowering_soundness.specs.Ties.{one_if, sized}
use Rattle.lowering_soundness.proofs.Owners.{sized_both, sized_taken}
use Rattle.lowering_soundness.proofs.Stacks.{take_lower, take_less, length_size, stack_less, stack_more}
use Rattle.lowering_soundness.proofs.EntryNames.{root_credits}
use Rattle.tail_groups.proofs.fip_language.Facts.{positive_unequal as no_zero, take_few as take_most, take_length}

-- of the credits of size n that k has, all but the last m are the first ones of l
abbrev pub Bottom : ℕ → ℕ → List D.Credit → List D.Credit → Type 0
Bottom n m cs ds = take (length (of_size n cs) - m) (of_size n ds) ≡ take (length (of_size n cs) - m) (of_size n cs)

-- ---- of lists

-- what stays is there
pub bottom_length : (n m : ℕ) (cs ds : List D.Credit) → Bottom n m cs ds → length (of_size n cs) - m ≤ length (of_size n ds)
bottom_length n m cs ds h =
    let a = take_length (length (of_size n cs) - m) (of_size n cs) (omega arith) in
    let b = ap length h in
    let d = take_most (length (of_size n cs) - m) (of_size n ds) in
    omega (arith, a, b, d)

pub bottom_on : (n a b : ℕ) (cs ds es : List D.Credit) → Bottom n a cs ds → Bottom n b ds es → Bottom n (a + b) cs es
bottom_on n a b cs ds es x y =
    let low = bottom_length n a cs ds x in
    take_lower (length (of_size n cs) - (a + b)) (length (of_size n ds) - b) (of_size n es) (of_size n ds) (omega (arith, low)) y
    ∙ take_lower (length (of_size n cs) - (a + b)) (length (of_size n cs) - a) (of_size n ds) (of_size n cs) (omega arith) x

pub bottom_same : (n : ℕ) (cs ds : List D.Credit) → ds ≡ cs → Bottom n 0 cs ds
bottom_same n cs ds e = ap (λ xs. take (length (of_size n cs) - 0) (of_size n xs)) e

pub bottom_more : (n a b : ℕ) (cs ds : List D.Credit) → a ≤ b → Bottom n a cs ds → Bottom n b cs ds
bottom_more n a b cs ds le x = take_lower (length (of_size n cs) - b) (length (of_size n cs) - a) (of_size n ds) (of_size n cs) (omega (arith, le)) x

-- the last ones are gone, and not more than so many
bottom_gone : (n a : ℕ) (cs ds : List D.Credit) → LastGone cs ds → sized n cs ≤ sized n ds + a → Bottom n a cs ds
bottom_gone n a cs ds last few =
    stack_less false n (length (of_size n cs) - a) cs ds (last n) (let z = length_size n cs in omega (arith, z, few))

same_ones : (b : Bool) → Z.one_if b ≡ one_if b
same_ones true = refl
same_ones false = refl

pub great_left : (m n : ℕ) → m ≤ greater m n
great_left m n = grind (arith, nat_tests)

pub great_right : (m n : ℕ) → n ≤ greater m n
great_right m n = grind (arith, nat_tests)

-- ---- values

many_arguments : (st : Setting) (code : List Instr) (at : ℕ) (k : Known) (as' : Arguments) (rs : List ℕ) (end : ℕ) (l : Known) → ArgumentsAt st code at k as' rs end l → length rs ≡ count as'
many_arguments st code at k NoArguments [] end l h = refl
many_arguments st code at k NoArguments (r ∷ rs) end l h = absurd h
many_arguments st code at k (MoreArguments a as') [] end l h = absurd h
many_arguments st code at k (MoreArguments a as') (r ∷ rs) end l h = ap suc (many_arguments st code h.0 h.1 as' rs end l h.3)

module _ (n : ℕ) (some : 0 < n) where
  mutual
    argument_sized : (st : Setting) (code : List Instr) (at : ℕ) (k : Known) (a : Argument) (r end : ℕ) (l : Known) → ArgumentAt st code at k a r end l → sized n k.credits ≡ sized n l.credits + made n a
    argument_sized st code at k (Variable x m p) r end l h = let z : sized n l.credits ≡ sized n k.credits = ap (λ (l : Known). sized n l.credits) h.known in omega (arith, z)
    argument_sized st code at k (Literal i p) r end l h = let z : sized n l.credits ≡ sized n k.credits = ap (λ (l : Known). sized n l.credits) h.known in omega (arith, z)
    argument_sized st code at k (Constructor t d c m p as') r end l h =
        let first = arguments_sized st code at k as' h.0 h.1 h.2 h.3 in
        let last = built h.0 (many_arguments st code at k as' h.0 h.1 h.2 h.3) h.4 in
        omega (arith, first, last)
      where
        built : (rs : List ℕ) → length rs ≡ count as' → BuiltAt st code h.1 h.2 t c rs r end l → sized n h.2.credits ≡ sized n l.credits + Z.one_if (count as' == n)
        built [] many (inl y) = let z : sized n l.credits ≡ sized n h.2.credits = ap (λ (l : Known). sized n l.credits) y.known in let e = ap (λ m. Z.one_if (m == n)) (sym many) ∙ ap Z.one_if (no_zero n some) in omega (arith, z, e)
        built [] many (inr y) = let z : sized n l.credits ≡ sized n h.2.credits = ap (λ (l : Known). sized n l.credits) y.known in let e = ap (λ m. Z.one_if (m == n)) (sym many) ∙ ap Z.one_if (no_zero n some) in omega (arith, z, e)
        built (x ∷ xs) many y =
            let z : sized n l.credits ≡ sized n y.credits = ap (λ (l : Known). sized n l.credits) y.known in
            let a = sized_taken h.2.credits (length (x ∷ xs)) r y.credits n y.taken in
            let e = ap (λ m. Z.one_if (m == n)) (sym many) ∙ same_ones (length (x ∷ xs) == n) in
            omega (arith, z, a, e)

    arguments_sized : (st : Setting) (code : List Instr) (at : ℕ) (k : Known) (as' : Arguments) (rs : List ℕ) (end : ℕ) (l : Known) → ArgumentsAt st code at k as' rs end l → sized n k.credits ≡ sized n l.credits + made_all n as'
    arguments_sized st code at k NoArguments [] end l h = let z : sized n l.credits ≡ sized n k.credits = ap (λ (l : Known). sized n l.credits) h.1 in omega (arith, z)
    arguments_sized st code at k NoArguments (r ∷ rs) end l h = absurd h
    arguments_sized st code at k (MoreArguments a as') [] end l h = absurd h
    arguments_sized st code at k (MoreArguments a as') (r ∷ rs) end l h =
        let first = argument_sized st code at k a r h.0 h.1 h.2 in
        let last = arguments_sized st code h.0 h.1 as' rs end l h.3 in
        omega (arith, first, last)

  taken_sized : (k : Known) (ns rs : List ℕ) (l : Known) → AreTaken k ns rs l → sized n k.credits ≡ sized n l.credits + marked n ns
  taken_sized k [] [] l h = let z : sized n l.credits ≡ sized n k.credits = ap (λ (l : Known). sized n l.credits) h in omega (arith, z)
  taken_sized k [] (r ∷ rs) l h = absurd h
  taken_sized k (m ∷ ns) [] l h = absurd h
  taken_sized k (m ∷ ns) (r ∷ rs) l h =
      let a = sized_taken k.credits m r h.0 n h.1 in
      let b = taken_sized (record k { held = Rattle.std.specs.Prelude.slice_set k.held r H.Nothing; credits = h.0 }) ns rs l h.2 in
      let e = same_ones (m == n) in
      omega (arith, a, b, e)

  -- ---- a clause's entry

  variable_credits : (st : Setting) (takes : Bool) (root : Option ℕ) (b : Binder) (r : ℕ) (k : Known) → (with_variable st takes root b r k).credits ≡ k.credits
  variable_credits st takes root b r k = by (takes || is_named b)
    where
      by : (y : Bool) → (if y then holding (naming k b.number r) r (variable_held st takes root b.ty) else unnaming k b.number).credits ≡ k.credits
      by true = refl
      by false = refl

  cell_sized : (st : Setting) (takes : Bool) (t d : ℕ) (ps : Patterns) (r : ℕ) (k : Known) → sized n k.credits + (if takes then Z.one_if (count_patterns ps == n) else 0) ≡ sized n (with_cell st takes t d ps r k).credits
  cell_sized st false t d ps r k = omega arith
  cell_sized st true t d NoPatterns r k = (let e = ap Z.one_if (no_zero n some) in let z : sized n k.credits + Z.one_if (0 == n) ≡ sized n k.credits = omega (arith, e) in z) ∙ by (is_scalar st t)
    where
      by : (z : Bool) → sized n k.credits ≡ sized n (if z then k else holding k r (H.Bare t d)).credits
      by true = refl
      by false = refl
  cell_sized st true t d (MorePatterns p ps) r k =
      let one : List D.Credit = record { size = suc (count_patterns ps); register = r } ∷ [] in
      let z = sized_both n k.credits one in
      let e = same_ones (suc (count_patterns ps) == n) in
      omega (arith, z, e)

  -- what the nodes of a pattern give
  abbrev nodes_if : Bool → Pattern → ℕ
  nodes_if b q = given n b q

  abbrev all_if : Bool → Patterns → ℕ
  all_if b ps = if b then N.nodes_all n ps else 0

  split_if : (b : Bool) (x y : ℕ) → (if b then x + y else 0) ≡ (if b then x else 0) + (if b then y else 0)
  split_if true x y = refl
  split_if false x y = omega arith

  none_if : (b : Bool) → (if b then zero else zero) ≡ zero
  none_if true = refl
  none_if false = refl

  mutual
    entering_sized : (st : Setting) (takes : Bool) (root : Option ℕ) (q : Pattern) (s : Spot) (k : Known) → Roomy q s → sized n k.credits + given n takes q ≡ sized n (entering st takes root q s k).credits
    entering_sized st takes root (BinderPattern b) (At r fs) k room =
        let z = ap (sized n) (variable_credits st takes root b r k) in
        let none : given n takes (BinderPattern b) ≡ 0 = none_if takes in
        omega (arith, z, none)
    entering_sized st takes root (LiteralPattern i a) (At r fs) k room = let none : given n takes (LiteralPattern i a) ≡ 0 = none_if takes in omega (arith, none)
    entering_sized st takes root (ConstructorPattern t d c m a ps) (At r fs) k room =
        let first = cell_sized st takes t c ps r k in
        let rest = all_sized st takes root ps fs (with_cell st takes t c ps r k) room in
        let both = split_if takes (Z.one_if (count_patterns ps == n)) (N.nodes_all n ps) in
        omega (arith, first, rest, both)

    all_sized : (st : Setting) (takes : Bool) (root : Option ℕ) (ps : Patterns) (ss : Spots) (k : Known) → AllRoomy ps ss → sized n k.credits + (if takes then N.nodes_all n ps else 0) ≡ sized n (entering_all st takes root ps ss k).credits
    all_sized st takes root NoPatterns ss k room = let none : all_if takes NoPatterns ≡ 0 = none_if takes in omega (arith, none)
    all_sized st takes root (MorePatterns p ps) NoSpots k room = absurd room
    all_sized st takes root (MorePatterns p ps) (MoreSpots s ss) k room =
        let first = entering_sized st takes root p s k room.0 in
        let rest = all_sized st takes root ps ss (entering st takes root p s k) room.1 in
        let both = split_if takes (N.nodes n p) (N.nodes_all n ps) in
        omega (arith, first, rest, both)

  entered_sized : (st : Setting) (ch : Choice) (q : Pattern) (l : Known) (m : ℕ) → Roomy q ch.root → sized n l.credits + given n ch.takes q ≡ sized n (entered st ch q l m).credits
  entered_sized st ch q l m room = by q ch.root room
    where
      same : (b : Bool) (r : ℕ) → (spent_if b r (record l { next = m })).credits ≡ l.credits
      same true r = refl
      same false r = refl

      by : (q : Pattern) (s : Spot) → Roomy q s → sized n l.credits + given n ch.takes q ≡ sized n (entering_root st ch.takes q s (record l { next = m })).credits
      by (BinderPattern b) (At r fs) room = let none : given n ch.takes (BinderPattern b) ≡ 0 = none_if ch.takes in omega (arith, none)
      by (LiteralPattern i a) (At r fs) room = let none : given n ch.takes (LiteralPattern i a) ≡ 0 = none_if ch.takes in omega (arith, none)
      by (ConstructorPattern t d c a p ps) (At r fs) room =
          let e = ap (sized n) (same ch.takes r) in
          let z = entering_sized st ch.takes (root_of r (get_or l.held r H.Nothing)) (ConstructorPattern t d c a p ps) (At r fs) (spent_if ch.takes r (record l { next = m })) room in
          omega (arith, e, z)

  -- the entry of a clause has what was there before, and at least what its pattern gives beside
  pub entry_bottom : (st : Setting) (ch : Choice) (q : Pattern) (l : Known) (m a x : ℕ) (ds : List D.Credit) → Roomy q ch.root → a - given n ch.takes q ≤ x → Bottom n a (entered st ch q l m).credits ds → Bottom n x l.credits ds
  entry_bottom st ch q l m a x ds room le h =
      let more = entered_sized st ch q l m room in
      let b = length_size n l.credits in
      let d = length_size n (entered st ch q l m).credits in
      let kept = length (of_size n l.credits) - x in
      take_lower kept (length (of_size n (entered st ch q l m).credits) - a) (of_size n ds) (of_size n (entered st ch q l m).credits) (omega (arith, more, b, d, le)) h
      ∙ stack_more n kept l.credits (entered st ch q l m).credits (root_credits st ch.takes q ch.root (record l { next = m })) (omega (arith, b))

  -- ---- bodies

  moves_credits : (code : List Instr) (at : ℕ) (k : Known) (rs ds : List ℕ) (end : ℕ) (l : Known) → MovesLaid code at k rs ds end l → l.credits ≡ k.credits
  moves_credits code at k [] ds end l h = ap (λ (l : Known). l.credits) h.1
  moves_credits code at k (r ∷ rs) [] end l h = ap (λ (l : Known). l.credits) h.1
  moves_credits code at k (r ∷ rs) (d ∷ ds) end l h = moves_credits code h.0 h.1 rs ds end l h.3 ∙ move h.2
    where
      move : MoveLaid code at k r d h.0 h.1 → h.1.credits ≡ k.credits
      move (inl y) = ap (λ (l : Known). l.credits) y.1.known
      move (inr y) = ap (λ (l : Known). l.credits) y.known

  goes_credits : (ds : List ℕ) (k : Known) (h : Held) (d : ℕ) (l : Known) → GoesTo (Into ds) k h d l → l.credits ≡ k.credits
  goes_credits [] k h d l y = ap (λ (l : Known). l.credits) y.1
  goes_credits (e ∷ ds) k h d l y = ap (λ (l : Known). l.credits) y.1

  module _ (c : PlainCode) (f : PlainFunction) (st : Setting) (fip : Bool) where
    bares_credits : (m at : ℕ) (k : Known) (end : ℕ) (l : Known) → GivesUp true f m at k end l → l.credits ≡ k.credits
    bares_credits zero at k end l h = ap (λ (l : Known). l.credits) h.1
    bares_credits (suc m) at k end l (k1, inl one, rest) = bares_credits m (suc at) k1 end l rest ∙ ap (λ (l : Known). l.credits) one.known
    bares_credits (suc m) at k end l (k1, inr one, rest) = absurd (Rattle.std.proofs.Common.true≢false one.0)

    match_credits : (at : ℕ) (k : Known) (g : Bool) (t : ℕ) (a : Argument) (q : Pattern) (cs : Clauses) (ch : Choice) (l : Known) (e : ℕ) → MatchLaid c st f at k g t a q cs ch l e → l.credits ≡ k.credits
    match_credits at k g t a q cs ch l e h = ap (λ (l : Known). l.credits) h.begins.is ∙ by h.begins.forgets
      where
        by : Forgets c f at k (register ch.root) h.begins.known → h.begins.known.credits ≡ k.credits
        by (inl y) = ap (λ (l : Known). l.credits) y.0
        by (inr y) = ap (λ (l : Known). l.credits) y.0

    pub named_bottom : (at : ℕ) (k : Known) (e : Expression) (rs : List ℕ) (mid : ℕ) (m : Known) → NamedLaid c st f at k e rs mid m → Bottom n (need st n e) k.credits m.credits
    named_bottom at k (Give a) rs mid m h = let few = arguments_sized st f.instrs at k (MoreArguments a NoArguments) rs mid m h.values.arguments in bottom_gone n (made n a) k.credits m.credits h.values.last (omega (arith, few))
    named_bottom at k (Tuple p as') rs mid m h = let few = arguments_sized st f.instrs at k as' rs mid m h.values.arguments in bottom_gone n (made_all n as') k.credits m.credits h.values.last (omega (arith, few))
    named_bottom at k (Operation o p x y) rs mid m h = absurd h
    named_bottom at k (Call g l p as') rs mid m h = absurd h
    named_bottom at k (Match d t p a q b cs) rs mid m h = absurd h
    named_bottom at k (Nested b) rs mid m h = absurd h

    pub give_bottom : (at : ℕ) (k : Known) (as' : Arguments) (ds : List ℕ) (end : ℕ) (l : Known) → GiveLaid c st fip f at k as' (Into ds) end l → Bottom n (made_all n as') k.credits l.credits
    give_bottom at k as' ds end l h =
        let same = moves_credits f.instrs h.mid h.m h.registers ds end l h.given in
        let few = arguments_sized st f.instrs at k as' h.registers h.mid h.m h.values.arguments in
        subst (Bottom n (made_all n as') k.credits) (sym same) (bottom_gone n (made_all n as') k.credits h.m.credits h.values.last (omega (arith, few)))

    pub one_bottom : (at : ℕ) (k : Known) (a : Argument) (ds : List ℕ) (end : ℕ) (l : Known) → GiveLaid c st fip f at k (MoreArguments a NoArguments) (Into ds) end l → Bottom n (made n a) k.credits l.credits
    one_bottom at k a ds end l h = bottom_more n (made_all n (MoreArguments a NoArguments)) (made n a) k.credits l.credits (omega arith) (give_bottom at k (MoreArguments a NoArguments) ds end l h)

    pub operator_bottom : (at : ℕ) (k : Known) (o : Operator) (p : Place) (x y : Argument) (ds : List ℕ) (end : ℕ) (l : Known) → OperatorLaid c st fip f at k o p x y (Into ds) end l → Bottom n (made n x + made n y) k.credits l.credits
    operator_bottom at k o p x y ds end l h =
        let same = moves_credits f.instrs (suc h.mid) h.operation.holds (h.operation.destination ∷ []) ds end l h.operation.given ∙ goes_credits ds h.m (H.Scalar (Rattle.lowering_relation.specs.LoweredBodies.result_type o)) h.operation.destination h.operation.holds h.operation.goes in
        let few = arguments_sized st f.instrs at k (MoreArguments x (MoreArguments y NoArguments)) (h.left ∷ h.right ∷ []) h.mid h.m h.values.arguments in
        subst (Bottom n (made n x + made n y) k.credits) (sym same) (bottom_gone n (made n x + made n y) k.credits h.m.credits h.values.last (omega (arith, few)))

    pub called_bottom : (at : ℕ) (k : Known) (g : ℕ) (as' : Arguments) (ds : List ℕ) (end : ℕ) (l : Known) → CalledLaid c st fip f at k g as' (Into ds) end l → Bottom n (made_all n as' + asked n (slice_get st.instances g)) k.credits l.credits
    called_bottom at k g as' ds end l h =
        let same = ap (λ (l : Known). l.credits) h.call.ends.known in
        let first = arguments_sized st f.instrs at k as' h.registers h.mid h.m h.values.arguments in
        let last = taken_sized (record h.m { held = Rattle.lowering_relation.specs.LoweredBodies.handed h.m.held h.call.instance.params h.registers }) h.call.instance.credits h.call.credits h.call.m h.call.taken in
        let headed : asked n (slice_get st.instances g) ≡ marked n h.call.instance.credits = ap (asked n) h.call.there in
        subst (Bottom n (made_all n as' + asked n (slice_get st.instances g)) k.credits) (sym same)
        (bottom_on n (made_all n as') (asked n (slice_get st.instances g)) k.credits h.m.credits h.call.m.credits
        (bottom_gone n (made_all n as') k.credits h.m.credits h.values.last (omega (arith, first)))
        (bottom_gone n (asked n (slice_get st.instances g)) h.m.credits h.call.m.credits h.call.last (omega (arith, last, headed))))

    -- where the clauses of a match leave what stays of the credits that were there where it began
    pub match_bottom : (at : ℕ) (k : Known) (begin : ℕ) (k0 : Known) (g : Bool) (t : ℕ) (a : Argument) (q : Pattern) (cs : Clauses) (ch : Choice) (l1 : Known) (e x : ℕ) (met l : Known) → BaresEnd c f at k begin k0 → MatchLaid c st f begin k0 g t a q cs ch l1 e → of_size n met.credits ≡ take (length (of_size n l1.credits) - x) (of_size n l1.credits) → l.credits ≡ met.credits → Bottom n x k.credits l.credits
    match_bottom at k begin k0 g t a q cs ch l1 e x met l bare laid left after =
        let start = match_credits begin k0 g t a q cs ch l1 e laid ∙ bares_credits bare.steps at k begin k0 bare.gives in
        let kept = length (of_size n l1.credits) - x in
        subst (λ xs. Bottom n x xs l.credits) start (ap (take kept) (ap (of_size n) after ∙ left) ∙ take_less kept kept (of_size n l1.credits) (omega arith))
