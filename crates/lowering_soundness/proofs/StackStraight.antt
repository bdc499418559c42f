-- Which instructions of a sound code are reached: the first one, those with a label, and those after one that is
-- reached and neither ends nor jumps. So the end of a straight part is reached where its start is.
use Rattle.std.proofs.Common.{◌≡◌, inl, inr, ℕ, zero, suc, Bool, true, false, List, [], ◌∷◌, Option, Some, None, is_some, refl, sym, subst, true≢false}
use Rattle.std.proofs.lemmas.Bool.{and_from}
use Rattle.separation.specs.cell_code.declared.code.Instr.{Instr}
use Rattle.separation.specs.cell_code.declared.code.Instr.TheVariants as I
use Rattle.separation.specs.cell_code.declared.kind.From.{From}
use Rattle.separation.specs.cell_code.declared.kind.Kind.{Kind}
use Rattle.separation.specs.fip_language.declared.Place.{Place}
use Rattle.separation.specs.fip_language.declared.Operator.{Operator}
use Rattle.lowering_relation.specs.fip_trees.Tree.{Argument, Variable, Literal, Constructor, Arguments, NoArguments, MoreArguments}
use Rattle.separation.specs.cell_code.Plain.{PlainFunction, PlainCode, function_at}
use Rattle.separation.specs.code_rules.Codes.{label_at}
use Rattle.separation.specs.code_rules.Types.{fields}
use Rattle.separation.specs.code_rules.Kinds.{at, from_of}
use Rattle.separation.specs.code_rules.Entry.{entry}
use Rattle.separation.specs.code_rules.Taking.{Chain}
use Rattle.separation.specs.code_rules.Handing as S
use Rattle.separation.specs.code_rules.Asked.{sources, destinations}
use Rattle.separation.specs.code_rules.Ranges.{in_range}
use Rattle.separation.specs.code_rules.Leaves.{Leaves}
use Rattle.separation.specs.code_rules.Flow.{is_as_asked, IsInstr, Holds, Comes, KnownAt}
use Rattle.separation.specs.code_rules.Breaks.{IsSound}
use Rattle.separation.proofs.Sound.{ranged, asked_sources, asked_destinations}
use Rattle.lowering_relation.specs.Known.{Known}
use Rattle.lowering_relation.specs.Values.{Setting, ArgumentAt, ArgumentsAt, BuiltAt}
use Rattle.lowering_relation.specs.LoweredBodies.{Into}
use Rattle.lowering_relation.specs.GivenUp.{GivesOne, GivesUp}
use Rattle.lowering_relation.specs.Moves.{MoveLaid, MovesLaid}
use Rattle.lowering_relation.specs.Handed.{OperationLaid}
use Rattle.tail_groups.proofs.fip_language.Facts.{some_of}

-- Some kinds are known before instruction i.
abbrev pub Reached : PlainCode → PlainFunction → ℕ → Type 0
Reached c f i = (ks : List Kind) × KnownAt c f i ks

-- an instruction that is followed by the next one alone; a Take where it takes no field
abbrev pub goes_on : Instr → Bool
goes_on (I.Const d v) = true
goes_on (I.Atom d t k) = true
goes_on (I.Move d s) = true
goes_on (I.Arith d op a b line col) = true
goes_on (I.Test r k target) = false
goes_on (I.TestInt r v target) = false
goes_on (I.Peek d r i) = false
goes_on (I.Take r []) = true
goes_on (I.Take r (d ∷ ds)) = false
goes_on (I.Put d t k ss) = true
goes_on (I.Drop r) = true
goes_on (I.Free r) = true
goes_on (I.Call g rs ds) = true
goes_on (I.Tail g rs) = false
goes_on (I.Ret rs) = false
goes_on (I.Jump target) = false

-- ---- one instruction

no_heir : (ks : List Kind) (n : ℕ) (o : Option From) (d : ℕ) → Chain ks (λ q. false) n o d → ⊥
no_heir ks zero None d h = h
no_heir ks (suc n) None d h = h
no_heir ks zero (Some x) d h = true≢false (sym h.0)
no_heir ks (suc n) (Some x) d h = no_heir ks n (from_of (at ks x.register)) d h.1

leaves_some : (c : PlainCode) (f : PlainFunction) (ks : List Kind) (x : Instr) → goes_on x ≡ true → sources c f ks x ≡ true → (left : List Kind) × Leaves c ks x left
leaves_some c f ks (I.Const d v) g s = (_, refl)
leaves_some c f ks (I.Atom d t k) g s = (_, refl)
leaves_some c f ks (I.Move d r) g s = (_, refl)
leaves_some c f ks (I.Arith d op a b line col) g s = (_, refl)
leaves_some c f ks (I.Test r k target) g s = absurd (true≢false (sym g))
leaves_some c f ks (I.TestInt r v target) g s = absurd (true≢false (sym g))
leaves_some c f ks (I.Peek d r i) g s = absurd (true≢false (sym g))
leaves_some c f ks (I.Take r []) g s = (_, ((λ q. None), (λ q d h. no_heir ks h.0 (from_of (at ks q)) d h.1), refl))
leaves_some c f ks (I.Take r (d ∷ ds)) g s = absurd (true≢false (sym g))
leaves_some c f ks (I.Put d t k ss) g s = let z = some_of (S.give_all ks ss (fields c.types t k)) s in (_, (z.0, z.1, refl))
leaves_some c f ks (I.Drop r) g s = (_, refl)
leaves_some c f ks (I.Free r) g s = (_, refl)
leaves_some c f ks (I.Call h rs ds) g s = let z = some_of (S.arguments c false ks h rs) s in (_, (z.0, z.1, refl))
leaves_some c f ks (I.Tail h rs) g s = absurd (true≢false (sym g))
leaves_some c f ks (I.Ret rs) g s = absurd (true≢false (sym g))
leaves_some c f ks (I.Jump target) g s = absurd (true≢false (sym g))

arrives : (o : Option (List Kind)) (P : List Kind → Type 0) (ks : List Kind) → P ks → (qs : List Kind) × Holds o P qs
arrives None P ks h = (ks, h)
arrives (Some m) P ks h = (m, refl)

pub at_start : (c : PlainCode) (f : PlainFunction) → Reached c f 0
at_start c f = arrives (label_at f.labels 0) (Comes c f 0) (entry c f) refl

pub at_label : (c : PlainCode) (f : PlainFunction) (i : ℕ) (map : List Kind) → label_at f.labels i ≡ Some map → Reached c f i
at_label c f i map e = (map, subst (λ o. Holds o (Comes c f i) map) (sym e) refl)

module _ (c : PlainCode) (n : ℕ) (f : PlainFunction) (sound : IsSound c) (is : function_at c n ≡ Some f) where
  following : (i : ℕ) (x : Instr) → IsInstr f i x → goes_on x ≡ true → Reached c f i → Reached c f (suc i)
  following i x there on (ks, known) = arrives (label_at f.labels (suc i)) (Comes c f (suc i)) left.0 (ks, x, known, there, asked, left.1)
    where
      good : sources c f ks x ≡ true
      good = asked_sources c n i f ks x sound is (record { known = known; instr = there })

      asked : is_as_asked c f i ks x ≡ true
      asked = and_from (in_range c f i x) _ (ranged c n i f x sound is there) (and_from (sources c f ks x) (destinations c ks x) good (asked_destinations c n i f ks x sound is (record { known = known; instr = there })))

      left : (left : List Kind) × Leaves c ks x left
      left = leaves_some c f ks x on good

  -- ---- straight parts

  none : (a b : ℕ) → b ≡ a → Reached c f a → Reached c f b
  none a b e r = subst (Reached c f) (sym e) r

  pub one : (a b : ℕ) (x : Instr) → IsInstr f a x → b ≡ suc a → goes_on x ≡ true → Reached c f a → Reached c f b
  one a b x there e on r = subst (Reached c f) (sym e) (following a x there on r)

  built : (st : Setting) (at : ℕ) (k : Known) (t d : ℕ) (rs : List ℕ) (r end : ℕ) (after : Known) → BuiltAt st f.instrs at k t d rs r end after → Reached c f at → Reached c f end
  built st at k t d [] r end after (inl h) = none at end h.nothing
  built st at k t d [] r end after (inr h) = one at end (I.Atom r t d) h.written h.one refl
  built st at k t d (q ∷ rs) r end after h = one at end (I.Put r t d (q ∷ rs)) h.written h.one refl

  mutual
    argument : (st : Setting) (at : ℕ) (k : Known) (a : Argument) (r end : ℕ) (after : Known) → ArgumentAt st f.instrs at k a r end after → Reached c f at → Reached c f end
    argument st at k (Variable x m p) r end after h here = none at end h.nothing here
    argument st at k (Literal i p) r end after h here = one at end (I.Const r i) h.written h.one refl here
    argument st at k (Constructor t d i m p as') r end after h here = built st h.1 h.2 t i h.0 r end after h.4 (arguments st at k as' h.0 h.1 h.2 h.3 here)

    pub arguments : (st : Setting) (at : ℕ) (k : Known) (as' : Arguments) (rs : List ℕ) (end : ℕ) (after : Known) → ArgumentsAt st f.instrs at k as' rs end after → Reached c f at → Reached c f end
    arguments st at k NoArguments [] end after h here = none at end h.0 here
    arguments st at k NoArguments (r ∷ rs) end after h here = absurd h
    arguments st at k (MoreArguments a as') [] end after h here = absurd h
    arguments st at k (MoreArguments a as') (r ∷ rs) end after h here = arguments st h.0 h.1 as' rs end after h.3 (argument st at k a r h.0 h.1 h.2 here)

  given_one : (fip : Bool) (at : ℕ) (k l : Known) → GivesOne fip f at k l → Reached c f at → Reached c f (suc at)
  given_one fip at k l (inl h) = following at (I.Take h.register []) h.written refl
  given_one fip at k l (inr (weak, inl h)) = following at (I.Drop h.register) h.written refl
  given_one fip at k l (inr (weak, inr h)) = following at (I.Free h.register) h.written refl

  pub given_up : (fip : Bool) (m at : ℕ) (k : Known) (end : ℕ) (l : Known) → GivesUp fip f m at k end l → Reached c f at → Reached c f end
  given_up fip zero at k end l h here = none at end h.0 here
  given_up fip (suc m) at k end l h here = given_up fip m (suc at) h.0 end l h.2 (given_one fip at k h.0 h.1 here)

  move : (at : ℕ) (k : Known) (r d mid : ℕ) (m : Known) → MoveLaid f.instrs at k r d mid m → Reached c f at → Reached c f mid
  move at k r d mid m (inl h) = one at mid (I.Move d r) h.1.written h.1.one refl
  move at k r d mid m (inr h) = none at mid h.nothing

  pub moves : (at : ℕ) (k : Known) (rs ds : List ℕ) (end : ℕ) (after : Known) → MovesLaid f.instrs at k rs ds end after → Reached c f at → Reached c f end
  moves at k [] ds end after h here = none at end h.0 here
  moves at k (r ∷ rs) [] end after h here = none at end h.0 here
  moves at k (r ∷ rs) (d ∷ ds) end after h here = moves h.0 h.1 rs ds end after h.3 (move at k r d h.0 h.1 h.2 here)

  pub operation : (fip : Bool) (at : ℕ) (k : Known) (o : Operator) (p : Place) (x y : ℕ) (ds : List ℕ) (end : ℕ) (after : Known) → OperationLaid fip f at k o p x y (Into ds) end after → Reached c f at → Reached c f end
  operation fip at k o p x y ds end after h here = moves (suc at) h.holds (h.destination ∷ []) ds end after h.given (following at (I.Arith h.destination o x y p.line p.col) h.written refl here)
