-- Registers stay as many as they are, and what is given up at a place empties a register each.
use Rattle.std.proofs.Common.{◌≡◌, refl, sym, ap, ◌∙◌, subst, arith, ℕ, zero, suc, ◌+◌, ◌*◌, ◌≤◌, mul-le-mul_left, Bool, true, false, List, [], ◌∷◌, length, map, Option, Some, None, slice_get, slice_set, get_or}
use Rattle.std.specs.Prelude.{if◌then◌else◌}
use Rattle.fip_base.specs.declared.plain.Param.{Param}
use Rattle.fip_trees.specs.declared.program.Binder.{Binder}
use Rattle.fip_trees.specs.Tree.{Instance, Pattern, BinderPattern, LiteralPattern, ConstructorPattern, Patterns, NoPatterns, MorePatterns}
use Rattle.cell_code.specs.declared.code.Instr.{Instr}
use Rattle.cell_code.specs.declared.code.Instr.TheVariants as I
use Rattle.lower_frame.specs.lowering_relation.declared.held.Held.{Held}
use Rattle.lower_frame.specs.lowering_relation.declared.held.Held.TheVariants as H
use Rattle.lower_frame.specs.lowering_relation.Known.{Known, holding, with_next, using, used, used_if, used_all, is_owned, without, lent_by}
use Rattle.lower_frame.specs.lowering_relation.Values.{Setting, is_scalar}
use Rattle.lower_frame.specs.lowering_relation.LoweredBodies.{handed, received, given, AreTaken, Target, Return, Into, GoesTo}
use Rattle.lower_frame.specs.lowering_relation.LoweredFunctions.{with_param, with_params, with_credits, with_next_credit, nothing_known, known_at_start}
use Rattle.lower_frame.specs.lowering_relation.Written.{Written, size, added}
use Rattle.lower_frame.specs.lowering_relation.Spots as S
use Rattle.lower_frame.specs.lowering_relation.Entering.{with_variable, with_cell, entering, entering_all, entering_root, spent_if, root_of}
use Rattle.lower_frame.specs.lowering_relation.Opening.{is_named}
use Rattle.lower_frame.proofs.lowering_relation.Placing.{one_longer}
use Rattle.code_size.specs.Bounds.{most_for}
use Rattle.lower_frame.specs.Frames.{Takes, TakesBare}
use Rattle.lower_frame.specs.lowering_relation.Matches.{widened}
use Rattle.lower_frame.specs.Registers.{registers, holds, IsFull}
use Rattle.lower_parts.specs.Growth.{full, Sheds, Adds}
use Rattle.lower_frame.specs.Labels.{labels}
use Rattle.fip_language.proofs.Facts.{same_some}

-- as many registers

pub set_length : (hs : List Held) (r : ℕ) (h : Held) → length (slice_set hs r h) ≡ length hs
set_length [] r h = refl
set_length (g ∷ hs) zero h = refl
set_length (g ∷ hs) (suc r) h = ap suc (set_length hs r h)

map_length : (f : Held → Held) (hs : List Held) → length (map f hs) ≡ length hs
map_length f [] = refl
map_length f (h ∷ hs) = ap suc (map_length f hs)

used_by : (b : Bool) (hs : List Held) (r : ℕ) → length (used_if b hs r) ≡ length hs
used_by false hs r = refl
used_by true hs r = map_length (without r) (slice_set hs r H.Nothing) ∙ set_length hs r H.Nothing

pub used_length : (hs : List Held) (r : ℕ) → length (used hs r) ≡ length hs
used_length hs r = used_by (is_owned (slice_get hs r)) hs r

pub used_all_length : (hs : List Held) (rs : List ℕ) → length (used_all hs rs) ≡ length hs
used_all_length hs [] = refl
used_all_length hs (r ∷ rs) = used_all_length (used hs r) rs ∙ used_length hs r

if_length : (b : Bool) (hs ks : List Held) (n : ℕ) → length hs ≡ n → length ks ≡ n → length (if b then hs else ks) ≡ n
if_length true hs ks n e f = e
if_length false hs ks n e f = f

pub handed_length : (hs : List Held) (ps : List Param) (rs : List ℕ) → length (handed hs ps rs) ≡ length hs
handed_length hs [] rs = refl
handed_length hs (p ∷ ps) [] = refl
handed_length hs (p ∷ ps) (r ∷ rs) = handed_length (if p.lent then hs else used hs r) ps rs ∙ if_length p.lent hs (used hs r) (length hs) refl (used_length hs r)

pub received_length : (s : Setting) (hs : List Held) (ts ds : List ℕ) → length (received s hs ts ds) ≡ length hs
received_length s hs [] ds = refl
received_length s hs (t ∷ ts) [] = refl
received_length s hs (t ∷ ts) (d ∷ ds) = received_length s (slice_set hs d (given s t)) ts ds ∙ set_length hs d (given s t)

pub holding_length : (k : Known) (r : ℕ) (h : Held) → registers (holding k r h) ≡ registers k
holding_length k r h = set_length k.held r h

pub takes_length : (k l : Known) (n r : ℕ) → Takes k n r l → registers l ≡ registers k
takes_length k l n r t = ap registers t.known ∙ set_length k.held r H.Nothing

pub bare_length : (k l : Known) (t c r : ℕ) → TakesBare k t c r l → registers l ≡ registers k
bare_length k l t c r h = ap registers h.known ∙ set_length k.held r H.Nothing

pub taken_length : (k : Known) (ns rs : List ℕ) (l : Known) → AreTaken k ns rs l → registers l ≡ registers k
taken_length k [] [] l h = ap registers h
taken_length k [] (r ∷ rs) l h = absurd h
taken_length k (n ∷ ns) [] l h = absurd h
taken_length k (n ∷ ns) (r ∷ rs) l h = taken_length (record { held = slice_set k.held r H.Nothing; credits = h.0; names = k.names; next = k.next }) ns rs l h.2 ∙ set_length k.held r H.Nothing

pub goes_length : (target : Target) (k : Known) (h : Held) (d : ℕ) (l : Known) → GoesTo target k h d l → registers l ≡ registers k
goes_length Return k h d l g = ap registers g.1 ∙ set_length k.held k.next h
goes_length (Into []) k h d l g = ap registers g.1 ∙ set_length k.held k.next h
goes_length (Into (e ∷ ds)) k h d l g = ap registers g.1 ∙ set_length k.held e h

-- at the start of a function

pub params_length : (s : Setting) (k : Known) (ps : List Param) (bs : List Binder) → registers (with_params s k ps bs) ≡ registers k
params_length s k [] bs = refl
params_length s k (p ∷ ps) [] = refl
params_length s k (p ∷ ps) (b ∷ bs) = params_length s (with_param s k p b) ps bs ∙ set_length k.held k.next (Rattle.lower_frame.specs.lowering_relation.LoweredFunctions.param_held s p)

pub credits_length : (k : Known) (ns : List ℕ) → registers (with_credits k ns) ≡ registers k
credits_length k [] = refl
credits_length k (n ∷ ns) = credits_length (with_next_credit k n) ns ∙ set_length k.held k.next (H.Credit n)

none_length : (n : ℕ) → length (Rattle.std.specs.Prelude.replicate n H.Nothing) ≡ n
none_length n = Rattle.std.proofs.lemmas.List.length-replicate n H.Nothing

pub start_length : (s : Setting) (n : ℕ) (d : Instance) → registers (known_at_start s n d) ≡ n
start_length s n d = credits_length (with_params s (nothing_known n d.variables) d.params d.binders) d.credits ∙ params_length s (nothing_known n d.variables) d.params d.binders ∙ none_length n

-- where a clause begins

variable_length : (b : Bool) (k : Known) (r x : ℕ) (h : Held) (l : Known) → registers l ≡ registers k → registers (if b then holding (Rattle.lower_frame.specs.lowering_relation.Known.naming k x r) r h else l) ≡ registers k
variable_length true k r x h l e = set_length k.held r h
variable_length false k r x h l e = e

bare_if : (b : Bool) (k : Known) (r t c : ℕ) → registers (if b then k else holding k r (H.Bare t c)) ≡ registers k
bare_if true k r t c = refl
bare_if false k r t c = set_length k.held r (H.Bare t c)

cell_length : (s : Setting) (takes : Bool) (t c : ℕ) (ps : Patterns) (r : ℕ) (k : Known) → registers (with_cell s takes t c ps r k) ≡ registers k
cell_length s false t c ps r k = refl
cell_length s true t c NoPatterns r k = bare_if (is_scalar s t) k r t c
cell_length s true t c (MorePatterns p ps) r k = set_length k.held r (H.Credit (suc (Rattle.fip_trees.specs.Tree.count_patterns ps)))

mutual
  entering_length : (s : Setting) (takes : Bool) (root : Option ℕ) (q : Pattern) (p : S.Spot) (k : Known) → registers (entering s takes root q p k) ≡ registers k
  entering_length s takes root (BinderPattern b) (S.At r fs) k = variable_length (Rattle.std.specs.Prelude.◌||◌ takes (is_named b)) k r b.number (Rattle.lower_frame.specs.lowering_relation.Entering.variable_held s takes root b.ty) (Rattle.lower_frame.specs.lowering_relation.Entering.unnaming k b.number) refl
  entering_length s takes root (LiteralPattern i p) (S.At r fs) k = refl
  entering_length s takes root (ConstructorPattern t d c n p ps) (S.At r fs) k = entering_all_length s takes root ps fs (with_cell s takes t c ps r k) ∙ cell_length s takes t c ps r k

  entering_all_length : (s : Setting) (takes : Bool) (root : Option ℕ) (ps : Patterns) (ss : S.Spots) (k : Known) → registers (entering_all s takes root ps ss k) ≡ registers k
  entering_all_length s takes root NoPatterns ss k = refl
  entering_all_length s takes root (MorePatterns p ps) S.NoSpots k = refl
  entering_all_length s takes root (MorePatterns p ps) (S.MoreSpots q ss) k = entering_all_length s takes root ps ss (entering s takes root p q k) ∙ entering_length s takes root p q k

spent_length : (takes : Bool) (r : ℕ) (k : Known) → registers (spent_if takes r k) ≡ registers k
spent_length true r k = used_length k.held r
spent_length false r k = refl

pub root_length : (s : Setting) (takes : Bool) (q : Pattern) (p : S.Spot) (k : Known) → registers (entering_root s takes q p k) ≡ registers k
root_length s takes (BinderPattern b) (S.At r fs) k = refl
root_length s takes (LiteralPattern i p) (S.At r fs) k = refl
root_length s takes (ConstructorPattern t d c n p ps) (S.At r fs) k =
    entering_length s takes (root_of r (get_or k.held r H.Nothing)) (ConstructorPattern t d c n p ps) (S.At r fs) (spent_if takes r k) ∙ spent_length takes r k

-- registers that hold something

one_or_none : (h : Held) → holds h ≤ 1
one_or_none H.Nothing = omega arith
one_or_none (H.Scalar t) = omega arith
one_or_none (H.Owned t b) = omega arith
one_or_none (H.Lent t root) = omega arith
one_or_none (H.Credit n) = omega arith
one_or_none (H.Bare t c) = omega arith

pub full_most : (hs : List Held) → full hs ≤ length hs
full_most [] = omega arith
full_most (h ∷ hs) = omega (arith, one_or_none h, full_most hs)

set_less : (hs : List Held) (r : ℕ) → full (slice_set hs r H.Nothing) ≤ full hs
set_less [] r = omega arith
set_less (h ∷ hs) zero = omega arith
set_less (h ∷ hs) (suc r) = omega (arith, set_less hs r)

set_one_less : (hs : List Held) (r : ℕ) → IsFull (slice_get hs r) → suc (full (slice_set hs r H.Nothing)) ≤ full hs
set_one_less [] r f = absurd f
set_one_less (h ∷ hs) zero f = omega (arith, f)
set_one_less (h ∷ hs) (suc r) f = omega (arith, set_one_less hs r f)

lent_less : (r q : ℕ) (b : Bool) (h : Held) → holds h ≡ 1 → holds (if b then H.Nothing else h) ≤ 1
lent_less r q true h e = omega arith
lent_less r q false h e = omega (arith, e)

root_less : (r : ℕ) (o : Option ℕ) (h : Held) → holds h ≡ 1 → holds (lent_by r o h) ≤ 1
root_less r None h e = omega (arith, e)
root_less r (Some q) h e = lent_less r q (Rattle.std.specs.Prelude.◌==◌ q r) h e

without_less : (r : ℕ) (h : Held) → holds (without r h) ≤ holds h
without_less r H.Nothing = omega arith
without_less r (H.Scalar t) = omega arith
without_less r (H.Owned t b) = omega arith
without_less r (H.Lent t root) = root_less r root (H.Lent t root) refl
without_less r (H.Credit n) = omega arith
without_less r (H.Bare t c) = omega arith

lost_less : (r : ℕ) (hs : List Held) → full (map (without r) hs) ≤ full hs
lost_less r [] = omega arith
lost_less r (h ∷ hs) = omega (arith, without_less r h, lost_less r hs)

widened_same : (h : Held) → holds (widened h) ≡ holds h
widened_same H.Nothing = refl
widened_same (H.Scalar t) = refl
widened_same (H.Owned t b) = refl
widened_same (H.Lent t root) = refl
widened_same (H.Credit n) = refl
widened_same (H.Bare t c) = refl

widened_full : (hs : List Held) → full (map widened hs) ≡ full hs
widened_full [] = refl
widened_full (h ∷ hs) = omega (arith, widened_same h, widened_full hs)

owned_full : (o : Option Held) → is_owned o ≡ true → IsFull o
owned_full None e = absurd (cc)
owned_full (Some H.Nothing) e = absurd (cc)
owned_full (Some (H.Scalar t)) e = absurd (cc)
owned_full (Some (H.Owned t b)) e = refl
owned_full (Some (H.Lent t root)) e = absurd (cc)
owned_full (Some (H.Credit n)) e = absurd (cc)
owned_full (Some (H.Bare t c)) e = absurd (cc)

used_one_less : (hs : List Held) (r : ℕ) → is_owned (slice_get hs r) ≡ true → suc (full (used hs r)) ≤ full hs
used_one_less hs r e = subst (λ b. suc (full (used_if b hs r)) ≤ full hs) (sym e) (omega (arith, lost_less r (slice_set hs r H.Nothing), set_one_less hs r (owned_full (slice_get hs r) e)))

-- what is given up

pub sheds_same : (k : Known) (v : Written) → Sheds k v k v
sheds_same k v = record { as_many = refl; same_labels = refl; emptied = omega arith }

pub sheds_on : (k : Known) (v : Written) (l : Known) (w : Written) (m : Known) (z : Written) → Sheds k v l w → Sheds l w m z → Sheds k v m z
sheds_on k v l w m z a b = record {
  as_many = b.as_many ∙ a.as_many;
  same_labels = b.same_labels ∙ a.same_labels;
  emptied = let p = a.emptied in let q = b.emptied in omega (arith, p, q);
}

sheds_one : (k l : Known) (v w : Written) (i : Instr) → registers l ≡ registers k → suc (full l.held) ≤ full k.held → w ≡ added v i → Sheds k v l w
sheds_one k l v w i e f g = record { as_many = e; same_labels = ap labels g; emptied = let s : size w ≡ suc (size v) = ap size g ∙ one_longer v i in omega (arith, s, f) }

pub sheds_take : (k l : Known) (v w : Written) (r : ℕ) → IsFull (slice_get k.held r) → l ≡ holding k r H.Nothing → w ≡ added v (I.Take r []) → Sheds k v l w
sheds_take k l v w r f e g = sheds_one k l v w (I.Take r []) (ap registers e ∙ set_length k.held r H.Nothing) (subst (λ (x : Known). suc (full x.held) ≤ full k.held) (sym e) (set_one_less k.held r f)) g

pub sheds_drop : (k l : Known) (v w : Written) (r : ℕ) → is_owned (slice_get k.held r) ≡ true → l ≡ using k (used k.held r) → w ≡ added v (I.Drop r) → Sheds k v l w
sheds_drop k l v w r f e g = sheds_one k l v w (I.Drop r) (ap registers e ∙ used_length k.held r) (subst (λ (x : Known). suc (full x.held) ≤ full k.held) (sym e) (used_one_less k.held r f)) g

pub sheds_free : (k l : Known) (v w : Written) (n r : ℕ) → IsFull (slice_get k.held r) → Takes k n r l → w ≡ added v (I.Free r) → Sheds k v l w
sheds_free k l v w n r f t g = sheds_one k l v w (I.Free r) (takes_length k l n r t) (subst (λ (x : Known). suc (full x.held) ≤ full k.held) (sym t.known) (set_one_less k.held r f)) g

pub sheds_widened : (k l : Known) (v : Written) → l.held ≡ map widened k.held → Sheds k v l v
sheds_widened k l v e = record {
  as_many = ap length e ∙ map_length widened k.held;
  same_labels = refl;
  emptied = let s : full l.held ≡ full k.held = ap full e ∙ widened_full k.held in omega (arith, s);
}

pub widened_length : (hs ks : List Held) → ks ≡ map widened hs → length ks ≡ length hs
widened_length hs ks e = ap length e ∙ map_length widened hs

pub ruleset widening = (widened_length)

pub ruleset shedding = (sheds_same, sheds_on, sheds_take, sheds_drop, sheds_free, sheds_widened)

-- no more is added than is shed

pub adds_shed : (k : Known) (v : Written) (l : Known) (w : Written) → Sheds k v l w → Adds (registers k) 0 v w
adds_shed k v l w s = record { more_instructions = let e = s.emptied in omega (arith, e, full_most k.held); more_labels = let e = s.same_labels in omega (arith, e) }

pub adds_none : (v : Written) → Adds 0 0 v v
adds_none v = record { more_instructions = omega arith; more_labels = omega arith }

pub adds_one : (v : Written) (i : Instr) → Adds 1 0 v (added v i)
adds_one v i = record { more_instructions = omega (arith, one_longer v i); more_labels = omega arith }

pub adds_on : (n m a b : ℕ) (v w z : Written) → Adds n m v w → Adds a b w z → Adds (n + a) (m + b) v z
adds_on n m a b v w z p q = record {
  more_instructions = let x = p.more_instructions in let y = q.more_instructions in omega (arith, x, y);
  more_labels = let x = p.more_labels in let y = q.more_labels in omega (arith, x, y);
}

pub adds_less : (n m a b : ℕ) (v w : Written) → n ≤ a → m ≤ b → Adds n m v w → Adds a b v w
adds_less n m a b v w e f p = record {
  more_instructions = let x = p.more_instructions in omega (arith, x, e);
  more_labels = let x = p.more_labels in omega (arith, x, f);
}

-- what fits into places of which there is one at least
pub within : (r p n : ℕ) → 1 ≤ p → n ≤ 100 * p + 16 * r → n ≤ most_for r p
within r p n h e = let m : r * 1 ≤ r * p = mul-le-mul_left r h in omega (arith, m, e)

pub adds_within : (r p n : ℕ) (v w : Written) → 1 ≤ p → n ≤ 100 * p + 16 * r → Adds n 0 v w → Adds (most_for r p) p v w
adds_within r p n v w h e a = adds_less n 0 (most_for r p) p v w (within r p n h e) (omega arith) a

-- two parts with places of their own, and some more
pub adds_both : (r q a b : ℕ) (v u w : Written) → q ≡ r → Adds (most_for r a) a v u → Adds (most_for q b) b u w → Adds (most_for r (suc (a + b))) (suc (a + b)) v w
adds_both r q a b v u w e x y =
    adds_less (most_for r a + most_for r b) (a + b) (most_for r (suc (a + b))) (suc (a + b)) v w (omega arith) (omega arith)
    (adds_on (most_for r a) a (most_for r b) b v u w x (subst (λ z. Adds (most_for z b) b u w) e y))
