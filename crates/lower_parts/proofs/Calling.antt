-- What operators and calls have written.
use Rattle.std.proofs.Common.{◌≡◌, refl, sym, ap, ◌∙◌, subst, arith, ℕ, zero, suc, ◌+◌, ◌≤◌, List, [], ◌∷◌, ◌++◌, length, drop, Option, Some, None, slice_get, slice_set}
use Rattle.std.specs.Prelude.{if◌then◌else◌}
use Rattle.fip_language.specs.declared.Operator.{Operator}
use Rattle.fip_language.specs.declared.Place.{Place}
use Rattle.fip_base.specs.declared.plain.Param.{Param}
use Rattle.fip_trees.specs.declared.program.Instance.{Instance as Tree}
use Rattle.fip_trees.specs.Tree.{Instance}
use Rattle.fip_trees.specs.TreeView.{instance_of, instances}
use Rattle.cell_code.specs.declared.code.Instr.{Instr}
use Rattle.cell_code.specs.declared.code.Instr.TheVariants as I
use Rattle.lower_frame.specs.lowering_relation.declared.held.Held.{Held}
use Rattle.lower_frame.specs.lowering_relation.declared.held.Held.TheVariants as H
use Rattle.lower_frame.specs.lowering_relation.Known.{Known, joined, using, used}
use Rattle.lower_frame.specs.lowering_relation.Values.{Setting}
use Rattle.lower_frame.specs.lowering_relation.LoweredBodies.{Target, Return, Into, GoesTo, result_type, GivenAt, handed, AreTaken, received, given, EndsCall as EndsSo}
use Rattle.lower_frame.specs.Frames.{Takes}
use Rattle.lower_frame.proofs.Accounts.{taken_accounted, taken_last, last_same, last_on}
use Rattle.lower_frame.specs.lowering_relation.Written.{Written, size, added, GivesUp}
use Rattle.lower_parts.specs.Writing.{Gives, Operates, handed_at, received_at, TakesOne, TakesAll, FollowCredits, EndsCall, CallsAt}
use Rattle.lower_frame.proofs.lowering_relation.Placing.{extends_on, added_extends, one_longer, front, back, stands, up_to, given_up, gives_up_on}
use Rattle.lower_frame.specs.Registers.{registers}
use Rattle.lower_parts.specs.Growth.{Sheds, Stay}
use Rattle.lower_parts.proofs.Shedding.{goes_length, taken_length, handed_length, received_length, sheds_on, adds_shed, adds_one, adds_on, adds_less}
use Rattle.fip_language.proofs.Facts.{append_none, append_one, drop_at_number as at_drop, drop_past as drop_done, same_some}

-- as many registers before
pub stay_on : (target : Target) (k m l : Known) → registers m ≡ registers k → Stay target m l → Stay target k l
stay_on Return k m l e s = tt
stay_on (Into ds) k m l e s = s ∙ e

-- operators

pub operates : (k h l : Known) (v u w : Written) (o : Operator) (p : Place) (x y d : ℕ) (target : Target) → GoesTo target k (H.Scalar (result_type o)) d h → u ≡ added v (I.Arith d o x y p.line p.col) → Gives h u (d ∷ []) target l w → Operates k v o p x y target l w
operates k h l v u w o p x y d target g e b = on (subst (λ z. Gives h z (d ∷ []) target l w) e b)
  where
    i : Instr
    i = I.Arith d o x y p.line p.col

    on : Gives h (added v i) (d ∷ []) target l w → Operates k v o p x y target l w
    on c = record {
      extends = extends_on v (added v i) w (added_extends v i) c.extends;
      code = λ to code f. record {
        destination = d;
        holds = h;
        written = stands v i (size v) to code (omega arith) (front (size v) (added v i) w to code c.extends f);
        goes = g;
        given = subst (λ n. GivenAt code n h (d ∷ []) target (size w) l) (one_longer v i)
            (c.code to code (back (size v) (size (added v i)) w to code (added_extends v i).grows f));
      };
      stay = stay_on target k h l (goes_length target k (H.Scalar (result_type o)) d h g) c.stay;
      few = adds_less (1 + (suc (registers h) + 1)) (0 + 0) (registers k + 3) 0 v w (let e = goes_length target k (H.Scalar (result_type o)) d h g in omega (arith, e)) (omega arith) (adds_on 1 0 (suc (registers h) + 1) 0 v (added v i) w (adds_one v i) c.few);
    }

pub ruleset operating = (operates)

-- what is handed over, and what is received

no_registers : (hs : List Held) (ps : List Param) → handed hs ps [] ≡ hs
no_registers hs [] = refl
no_registers hs (p ∷ ps) = refl

handed_stop : (hs : List Held) (ps : List Param) (rs : List ℕ) (i : ℕ) → slice_get rs i ≡ None → handed hs (drop (suc i) ps) (drop (suc i) rs) ≡ handed hs (drop i ps) (drop i rs)
handed_stop hs ps [] zero e = no_registers hs (drop (suc zero) ps) ∙ sym (no_registers hs ps)
handed_stop hs ps [] (suc i) e = no_registers hs (drop (suc (suc i)) ps) ∙ sym (no_registers hs (drop (suc i) ps))
handed_stop hs ps (r ∷ rs) zero e = absurd (cc)
handed_stop hs [] (r ∷ rs) (suc i) e = refl
handed_stop hs (p ∷ ps) (r ∷ rs) (suc i) e = handed_stop hs ps rs i e

handed_next : (hs : List Held) (ps : List Param) (rs : List ℕ) (i : ℕ) (p : Param) (r : ℕ) → slice_get ps i ≡ Some p → slice_get rs i ≡ Some r → handed (if p.lent then hs else used hs r) (drop (suc i) ps) (drop (suc i) rs) ≡ handed hs (drop i ps) (drop i rs)
handed_next hs [] rs i p r e f = absurd (cc)
handed_next hs (q ∷ ps) [] i p r e f = absurd (cc)
handed_next hs (q ∷ ps) (s ∷ rs) zero p r e f =
    ap (λ x. handed (if x.lent then hs else used hs r) ps rs) (sym (same_some q p e)) ∙ ap (λ x. handed (if q.lent then hs else used hs x) ps rs) (sym (same_some s r f))
handed_next hs (q ∷ ps) (s ∷ rs) (suc i) p r e f = handed_next hs ps rs i p r e f

pub handed_step : (hs : List Held) (ps : List Param) (rs : List ℕ) (i : ℕ) (p : Param) → slice_get ps i ≡ Some p → handed (handed_at hs p (slice_get rs i)) (drop (suc i) ps) (drop (suc i) rs) ≡ handed hs (drop i ps) (drop i rs)
handed_step hs ps rs i p e = by_get (slice_get rs i) refl
  where
    by_get : (o : Option ℕ) → slice_get rs i ≡ o → handed (handed_at hs p o) (drop (suc i) ps) (drop (suc i) rs) ≡ handed hs (drop i ps) (drop i rs)
    by_get None f = handed_stop hs ps rs i f
    by_get (Some r) f = handed_next hs ps rs i p r e f

no_destinations : (s : Setting) (hs : List Held) (ts : List ℕ) → received s hs ts [] ≡ hs
no_destinations s hs [] = refl
no_destinations s hs (t ∷ ts) = refl

received_stop : (s : Setting) (hs : List Held) (ts ds : List ℕ) (i : ℕ) → slice_get ds i ≡ None → received s hs (drop (suc i) ts) (drop (suc i) ds) ≡ received s hs (drop i ts) (drop i ds)
received_stop s hs ts [] zero e = no_destinations s hs (drop (suc zero) ts) ∙ sym (no_destinations s hs ts)
received_stop s hs ts [] (suc i) e = no_destinations s hs (drop (suc (suc i)) ts) ∙ sym (no_destinations s hs (drop (suc i) ts))
received_stop s hs ts (d ∷ ds) zero e = absurd (cc)
received_stop s hs [] (d ∷ ds) (suc i) e = refl
received_stop s hs (t ∷ ts) (d ∷ ds) (suc i) e = received_stop s hs ts ds i e

received_next : (s : Setting) (hs : List Held) (ts ds : List ℕ) (i t d : ℕ) → slice_get ts i ≡ Some t → slice_get ds i ≡ Some d → received s (slice_set hs d (given s t)) (drop (suc i) ts) (drop (suc i) ds) ≡ received s hs (drop i ts) (drop i ds)
received_next s hs [] ds i t d e f = absurd (cc)
received_next s hs (u ∷ ts) [] i t d e f = absurd (cc)
received_next s hs (u ∷ ts) (c ∷ ds) zero t d e f =
    ap (λ x. received s (slice_set hs d (given s x)) ts ds) (sym (same_some u t e)) ∙ ap (λ x. received s (slice_set hs x (given s u)) ts ds) (sym (same_some c d f))
received_next s hs (u ∷ ts) (c ∷ ds) (suc i) t d e f = received_next s hs ts ds i t d e f

pub received_step : (s : Setting) (hs : List Held) (ts ds : List ℕ) (i t : ℕ) → slice_get ts i ≡ Some t → received s (received_at s hs t (slice_get ds i)) (drop (suc i) ts) (drop (suc i) ds) ≡ received s hs (drop i ts) (drop i ds)
received_step s hs ts ds i t e = by_get (slice_get ds i) refl
  where
    by_get : (o : Option ℕ) → slice_get ds i ≡ o → received s (received_at s hs t o) (drop (suc i) ts) (drop (suc i) ds) ≡ received s hs (drop i ts) (drop i ds)
    by_get None f = received_stop s hs ts ds i f
    by_get (Some d) f = received_next s hs ts ds i t d e f

pub handed_on : (k m : Known) (ps : List Param) (rs : List ℕ) (i : ℕ) (p : Param) → slice_get ps i ≡ Some p → m ≡ using k (handed_at k.held p (slice_get rs i)) → using m (handed m.held (drop (suc i) ps) (drop (suc i) rs)) ≡ using k (handed k.held (drop i ps) (drop i rs))
handed_on k m ps rs i p e f = ap (λ x. using x (handed x.held (drop (suc i) ps) (drop (suc i) rs))) f ∙ ap (using k) (handed_step k.held ps rs i p e)

pub received_on : (s : Setting) (k m : Known) (ts ds : List ℕ) (i t : ℕ) → slice_get ts i ≡ Some t → m ≡ using k (received_at s k.held t (slice_get ds i)) → using m (received s m.held (drop (suc i) ts) (drop (suc i) ds)) ≡ using k (received s k.held (drop i ts) (drop i ds))
received_on s k m ts ds i t e f = ap (λ x. using x (received s x.held (drop (suc i) ts) (drop (suc i) ds))) f ∙ ap (using k) (received_step s k.held ts ds i t e)

-- the place is counted beside the loop
pub handed_to : (k m : Known) (ps : List Param) (rs : List ℕ) (i j n : ℕ) (p : Param) → j ≡ i → n ≡ suc j → slice_get ps i ≡ Some p → m ≡ using k (handed_at k.held p (slice_get rs j)) → using m (handed m.held (drop n ps) (drop n rs)) ≡ using k (handed k.held (drop j ps) (drop j rs))
handed_to k m ps rs i j n p a b e f = subst (λ z. using m (handed m.held (drop z ps) (drop z rs)) ≡ using k (handed k.held (drop j ps) (drop j rs))) (sym b) (handed_on k m ps rs j p (ap (slice_get ps) a ∙ e) f)

pub received_to : (s : Setting) (k m : Known) (ts ds : List ℕ) (i j n t : ℕ) → j ≡ i → n ≡ suc j → slice_get ts i ≡ Some t → m ≡ using k (received_at s k.held t (slice_get ds j)) → using m (received s m.held (drop n ts) (drop n ds)) ≡ using k (received s k.held (drop j ts) (drop j ds))
received_to s k m ts ds i j n t a b e f = subst (λ z. using m (received s m.held (drop z ts) (drop z ds)) ≡ using k (received s k.held (drop j ts) (drop j ds))) (sym b) (received_on s k m ts ds j t (ap (slice_get ts) a ∙ e) f)

pub ruleset handing = (handed_on, received_on)

-- an instance of the program
pub instance_there : (ts : List Tree) (i : ℕ) (t : Tree) → slice_get ts i ≡ Some t → slice_get (instances ts) i ≡ Some (instance_of t)
instance_there [] i t e = absurd (cc)
instance_there (u ∷ ts) zero t e = ap (λ x. Some (instance_of x)) (same_some u t e)
instance_there (u ∷ ts) (suc i) t e = instance_there ts i t e

pub ruleset numbering = (instance_there)

-- credits

takes_more : (k m l : Known) (n : ℕ) (ns before rs qs : List ℕ) → TakesOne k n before rs m → TakesAll m ns rs qs l → TakesAll k (n ∷ ns) before qs l
takes_more k m l n ns before rs qs a b = record {
  credits = a.credit ∷ b.credits;
  following = b.following ∙ ap (λ x. x ++ b.credits) a.following ∙ sym (append_one before a.credit b.credits);
  taken = (a.taken.rest, a.taken.taken, subst (λ x. AreTaken x ns b.credits l) a.taken.known b.taken);
  kept = λ x. let y = b.kept (taken_accounted k m n a.credit a.taken x) in (y.0, last_on k.credits m.credits l.credits (taken_last k m n a.credit a.taken x) y.1);
  names = b.names ∙ ap (λ (x : Known). x.names) a.taken.known;
  next = b.next ∙ ap (λ (x : Known). x.next) a.taken.known;
}

pub takes_start : (k : Known) (ns before : List ℕ) → FollowCredits k ns before k ns before
takes_start k ns before = record { by = λ rs l h. h }

pub takes_step : (k0 : Known) (ns0 before0 : List ℕ) (k m : Known) (ns before rs : List ℕ) (i n : ℕ) → slice_get ns i ≡ Some n → FollowCredits k0 ns0 before0 k (drop i ns) before → TakesOne k n before rs m → FollowCredits k0 ns0 before0 m (drop (suc i) ns) rs
takes_step k0 ns0 before0 k m ns before rs i n e f a = record {
  by = λ qs l h. (subst (λ x. FollowCredits k0 ns0 before0 k x before) (at_drop ns i n e) f).by qs l (takes_more k m l n (drop (suc i) ns) before rs qs a h);
}

pub takes_end : (k0 : Known) (ns0 before0 : List ℕ) (k : Known) (before : List ℕ) → FollowCredits k0 ns0 before0 k [] before → TakesAll k0 ns0 before0 before k
takes_end k0 ns0 before0 k before f = f.by before k (record { credits = []; following = sym (append_none before); taken = refl; kept = λ a. (a, last_same k.credits); names = refl; next = refl })

pub takes_one : (k m : Known) (n r : ℕ) (before rs : List ℕ) → Takes k n r m → rs ≡ before ++ r ∷ [] → TakesOne k n before rs m
takes_one k m n r before rs t e = record { credit = r; following = e; taken = t }

pub takes_done : (k0 : Known) (ns0 before0 : List ℕ) (k : Known) (ns before : List ℕ) (i : ℕ) → length ns ≤ i → FollowCredits k0 ns0 before0 k (drop i ns) before → TakesAll k0 ns0 before0 before k
takes_done k0 ns0 before0 k ns before i e f = takes_end k0 ns0 before0 k before (subst (λ x. FollowCredits k0 ns0 before0 k x before) (drop_done ns i e) f)

pub takes_to : (k0 : Known) (ns0 before0 : List ℕ) (k m : Known) (ns before rs : List ℕ) (i j n : ℕ) → j ≡ suc i → slice_get ns i ≡ Some n → FollowCredits k0 ns0 before0 k (drop i ns) before → TakesOne k n before rs m → FollowCredits k0 ns0 before0 m (drop j ns) rs
takes_to k0 ns0 before0 k m ns before rs i j n a e f t = subst (λ z. FollowCredits k0 ns0 before0 m (drop z ns) rs) (sym a) (takes_step k0 ns0 before0 k m ns before rs i n e f t)

pub ruleset taking = (takes_start, takes_step, takes_done, takes_one)

-- calls

pub ends_tail : (s : Setting) (k k2 l : Known) (v w1 w2 w : Written) (f : ℕ) (rs results : List ℕ) → GivesUp v w1 → GivesUp w1 w2 → w ≡ added w2 (I.Tail f rs) → Sheds k v k2 w1 → Sheds k2 w1 l w2 → EndsCall s k v f rs results Return l w
ends_tail s k k2 l v w1 w2 w f rs results a b e p q = subst (EndsCall s k v f rs results Return l) (sym e) whole
  where
    last : Instr
    last = I.Tail f rs

    both : GivesUp v w2
    both = gives_up_on v w1 w2 a b

    number : (n : ℕ) × (size v + n ≡ size w2)
    number = up_to (size v) (size w2) both.extends.grows

    whole : EndsCall s k v f rs results Return l (added w2 last)
    whole = record {
      extends = extends_on v w2 (added w2 last) both.extends (added_extends w2 last);
      code = λ to code h. record {
        given_up = number.0;
        give_up = given_up v w2 (added w2 last) (size v) number.0 to code both (added_extends w2 last) h (omega arith) number.1;
        written = ap (slice_get code) number.1 ∙ stands w2 last (size v) to code both.extends.grows h;
        one = one_longer w2 last ∙ ap suc (sym number.1);
      };
      stay = tt;
      few = adds_less (registers k + 1) (0 + 0) (suc (registers k)) 0 v (added w2 last) (omega arith) (omega arith) (adds_on (registers k) 0 1 0 v w2 (added w2 last) (adds_shed k v l w2 (sheds_on k v k2 w1 l w2 p q)) (adds_one w2 last));
    }

pub ends_call : (s : Setting) (k l : Known) (v w : Written) (f : ℕ) (rs results ds : List ℕ) → w ≡ added v (I.Call f rs ds) → l ≡ using k (received s k.held results ds) → EndsCall s k v f rs results (Into ds) l w
ends_call s k l v w f rs results ds e g =
    subst (λ x. EndsCall s k v f rs results (Into ds) l x) (sym e) (record {
      extends = added_extends v (I.Call f rs ds);
      code = λ to code h. record {
        written = stands v (I.Call f rs ds) (size v) to code (omega arith) h;
        one = one_longer v (I.Call f rs ds);
        known = g;
      };
      stay = ap registers g ∙ received_length s k.held results ds;
      few = adds_less 1 0 (suc (registers k)) 0 v (added v (I.Call f rs ds)) (omega arith) (omega arith) (adds_one v (I.Call f rs ds));
    })

pub calls_at : (s : Setting) (k m1 m l : Known) (v w : Written) (g f : ℕ) (d : Instance) (rs qs : List ℕ) (target : Target) → joined (slice_get s.functions g) ≡ Some f → slice_get s.instances g ≡ Some d → m1 ≡ using k (handed k.held d.params rs) → TakesAll m1 d.credits rs qs m → EndsCall s m v f qs d.results target l w → CallsAt s k v g rs target l w
calls_at s k m1 m l v w g f d rs qs target a b e t c = record {
  extends = c.extends;
  code = λ to code h. record {
    function = f;
    instance = d;
    credits = t.credits;
    m = m;
    numbered = a;
    there = b;
    taken = subst (λ x. AreTaken x d.credits t.credits m) e t.taken;
    ends = subst (λ x. EndsSo s code (size v) m f x d.results target (size w) l) t.following (c.code to code h);
  };
  stay = stay_on target k m l many c.stay;
  few = adds_less (suc (registers m)) 0 (suc (registers k)) 0 v w (omega (arith, many)) (omega arith) c.few;
}
  where
    many : registers m ≡ registers k
    many = taken_length m1 d.credits t.credits m t.taken ∙ ap registers e ∙ handed_length k.held d.params rs

pub ruleset calling = (ends_tail, ends_call, calls_at)
